-- What `all` answers over the numbers below an end.
use Rattle.std.proofs.Common.{◌≡◌, ℕ, zero, suc, ◌+◌, Bool, true, false, ◌&&◌, List, [], ◌∷◌, ◌++◌, Option, refl, ap, ◌∙◌, arith}
use Rattle.std.proofs.iter.Yields.{nat_range_steps}
use Rattle.std.proofs.Math.Bool.{and-true}
use Rattle.std.proofs.lemmas.Iterator.{YieldsList-from_range}
use Rattle.std.proofs.lemmas.Iterator.Search.{all_from_yields_List}
use Rattle.std.proofs.lemmas.List.Folds.{list_all-append}
use Rattle.std.specs.Fn.{Called}
use Rattle.std.specs.Iterator.{YieldsThen}
use Rattle.std.specs.List.{FoldsTo, list_all, range_with_len}
use Rattle.std.specs.Option.{MatchOption}
use Rattle.std.specs.declared.ops.Range.{Range}
use Rattle.protocol.specs.Bounded.{all_below}
use denote.Param.Members.{Mut}

range_more : (a n : ℕ) → range_with_len a (suc n) ≡ range_with_len a n ++ ((a + n) ∷ [])
range_more a zero = ap (λ x. x ∷ []) (omega arith)
range_more a (suc n) = ap (λ xs. a ∷ xs) (range_more (a + 1) n ∙ ap (λ x. range_with_len (a + 1) n ++ (x ∷ [])) (omega arith))

below_is_all : (test : ℕ → Bool) (n : ℕ) → list_all test (range_with_len 0 n) ≡ all_below test n
unfolding all_below
below_is_all test zero = refl
below_is_all test (suc n) =
    ap (list_all test) (range_more 0 n ∙ ap (λ x. range_with_len 0 n ++ (x ∷ [])) (omega arith))
    ∙ list_all-append test (range_with_len 0 n) (n ∷ [])
    ∙ ap (λ here. list_all test (range_with_len 0 n) && here) (and-true (test n))
    ∙ ap (λ before. before && test n) (below_is_all test n)

pub below_from_all : {F : Type 0} {g : Mut F (ℕ × Unit {0}) Bool} {test : ℕ → Bool} {n : ℕ} {s u : Range ℕ} {f : F} {r : Bool} → ((xs : List ℕ) × (o : Option ℕ) × (j : F) × YieldsThen nat_range_steps s xs o u × FoldsTo (λ p x q. Called g p (x, tt) true q) f xs j × MatchOption o (r ≡ true) (λ x. (r ≡ false) × ((h : F) × Called g j (x, tt) false h))) → s ≡ record { start = 0; end = n } → ((x : ℕ) (b : Bool) (q : F) → Called g f (x, tt) b q → (q ≡ f) × (b ≡ test x)) → r ≡ all_below test n
below_from_all {test = test} {n = n} {u = u} {f = f} {r = r} ran range calls =
    all_from_yields_List test u f r ran (YieldsList-from_range 0 n n range (omega arith)) calls ∙ below_is_all test n
