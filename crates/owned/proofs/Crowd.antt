-- Elements that each belong to one of some owners are at most as many as these may have in all.
use Rattle.std.proofs.Common.{◌≡◌, ℕ, ◌+◌, ◌*◌, ◌≤◌, Bool, true, false, cond, ◌||◌, List, [], ◌∷◌, length, filter, mul-suc, arith}
use Rattle.std.specs.List.{AllByRecursion}

module _ {X O : Type 0} (belongs : X → O → Bool) where
  -- whether x belongs to one of the owners
  abbrev pub owned_by : List O → X → Bool
  owned_by [] x = false
  owned_by (o ∷ os) x = belongs x o || owned_by os x

  -- how many elements the owners have, one after the other
  shares : List O → List X → ℕ
  shares [] xs = 0
  shares (o ∷ os) xs = length (filter (λ x. belongs x o) xs) + shares os xs

  shares_more : (os : List O) (x : X) (xs : List X) → shares os xs + cond (owned_by os x) 1 0 ≤ shares os (x ∷ xs)
  unfolding shares
  shares_more [] x xs = omega arith
  shares_more (o ∷ os) x xs =
      let rest = shares_more os x xs in
      elim (belongs x o) as (λ b. (length (filter (λ y. belongs y o) xs) + shares os xs) + cond (b || owned_by os x) 1 0 ≤ length (cond b (x ∷ filter (λ y. belongs y o) xs) (filter (λ y. belongs y o) xs)) + shares os (x ∷ xs)) [
        | true ↦ omega (arith, rest)
        | false ↦ omega (arith, rest)
      ]

  all_shared : (os : List O) (xs : List X) → AllByRecursion (λ x. owned_by os x ≡ true) xs → length xs ≤ shares os xs
  all_shared os [] covered = omega arith
  all_shared os (x ∷ xs) covered =
      let more = rw covered.0 at (shares_more os x xs) in
      omega (arith, more, all_shared os xs covered.1)

  shares_most : (os : List O) (most : ℕ) (xs : List X) → AllByRecursion (λ o. length (filter (λ x. belongs x o) xs) ≤ most) os → shares os xs ≤ most * length os
  unfolding shares
  shares_most [] most xs few = omega arith
  shares_most (o ∷ os) most xs few = rw mul-suc (omega (arith, few.0, shares_most os most xs few.1))

  pub crowd : (os : List O) (most : ℕ) (xs : List X) → AllByRecursion (λ x. owned_by os x ≡ true) xs → AllByRecursion (λ o. length (filter (λ x. belongs x o) xs) ≤ most) os → length xs ≤ most * length os
  crowd os most xs covered few = omega (arith, all_shared os xs covered, shares_most os most xs few)
