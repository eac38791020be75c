-- One link changed among all.
use Rattle.std.proofs.Common.{◌≡◌, ℕ, Bool, true, false, cond, ◌&&◌, eqb, List, sym, refl, ap, ◌∙◌, arith}
use Rattle.std.proofs.lemmas.Bool.{and_parts, eq-eqb, eqb-true}
use Rattle.std.proofs.lemmas.Bool.Decides.{nat_tests}
use Rattle.network.specs.Links.{Links, with_link}
use Rattle.network.specs.declared.message.Message.{Message}

-- a change of the list from q to p, told of every pair
pub own_link : (L : Links) (f : List Message → List Message) (q p a b : ℕ) → cond (eqb q a && eqb p b) (f (L a b)) (L a b) ≡ with_link L q p (f (L q p)) a b
own_link L f q p a b = by_test (eqb q a && eqb p b) refl
  where
    by_test : (own : Bool) → (eqb q a && eqb p b) ≡ own → cond own (f (L a b)) (L a b) ≡ cond own (f (L q p)) (L a b)
    by_test true own =
        let ends = and_parts (eqb q a) (eqb p b) own in
        ap f (ap (λ x. L x b) (sym (eqb-true q a ends.0)) ∙ ap (L q) (sym (eqb-true p b ends.1)))
    by_test false other = refl

pub with_own : (L : Links) (q p : ℕ) (list : List Message) → with_link L q p list q p ≡ list
with_own L q p list = rw (eq-eqb q q refl, eq-eqb p p refl)

pub with_other : (L : Links) (q p a b : ℕ) (list : List Message) → ((a ≡ q) × (b ≡ p) → ⊥) → with_link L q p list a b ≡ L a b
with_other L q p a b list other = grind (arith, nat_tests, other)
