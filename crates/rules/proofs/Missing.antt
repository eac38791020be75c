-- What `find` answers over a range of ledgers.
use Rattle.std.proofs.Common.{◌≡◌, ℕ, zero, suc, ◌+◌, ◌-◌, Bool, true, false, cond, not, ◌||◌, List, Option, Some, refl, sym, ◌∙◌}
use Rattle.std.proofs.iter.Yields.{nat_range_steps}
use Rattle.std.proofs.lemmas.Iterator.{YieldsList-from_range}
use Rattle.std.proofs.lemmas.Iterator.Adapters.{option_map_id}
use Rattle.std.proofs.lemmas.Iterator.Search.{find_from_yields_List}
use Rattle.std.specs.Bool.{⊤}
use Rattle.std.specs.Fn.{CalledAt}
use Rattle.std.specs.Iterator.{YieldsThen}
use Rattle.std.specs.List.{FoldsTo, find, range_with_len}
use Rattle.std.specs.Option.{MatchOption}
use Rattle.std.specs.declared.ops.Range.{Range}
use Rattle.rules.specs.Ledgers.{first_missing, is_in, missing_from}
use Rattle.rules.specs.declared.ledger_set.LedgerSet.{LedgerSet}
use denote.Param.Members.{Mut}
use denote.Ref.{Bor}

module _ (one other : LedgerSet) where
  missing_here : (here : Bool) (p : ℕ) (rest : Option ℕ) → cond (not here) (Some p) rest ≡ cond here rest (Some p)
  missing_here true p rest = refl
  missing_here false p rest = refl

  found_is_missing : (p n : ℕ) → find (λ q. not (is_in one q || is_in other q)) (range_with_len p n) ≡ missing_from one other p n
  found_is_missing p zero = refl
  found_is_missing p (suc n) = rw (found_is_missing (p + 1) n) (missing_here (is_in one p || is_in other p) p _)

pub missing_from_find : {F : Type 0} {g : Mut F (Bor ℕ × Unit {0}) Bool} {s : Range ℕ} {f : F} (one other : LedgerSet) (from end : ℕ) (u : Range ℕ) (r : Option ℕ) → ((xs : List ℕ) × (j : F) × YieldsThen nat_range_steps s xs r u × FoldsTo (λ p x q. CalledAt g p x false q) f xs j × MatchOption r ⊤ (λ x. (h : F) × CalledAt g j x true h)) → s ≡ record { start = from; end = end } → ((x : ℕ) (b : Bool) (q : F) → CalledAt g f x b q → (q ≡ f) × (b ≡ not (is_in one x || is_in other x))) → r ≡ first_missing one other from end
missing_from_find {f = f} one other from end u r ran range calls =
    sym (option_map_id r)
    ∙ (find_from_yields_List (λ q. not (is_in one q || is_in other q)) u f r ran (YieldsList-from_range from end (end - from) range refl) calls
    ∙ found_is_missing one other from (end - from))
