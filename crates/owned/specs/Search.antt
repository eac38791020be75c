-- What the search for the next element of an owner answers.
use Rattle.std.specs.Prelude.{◌≡◌, ℕ, ◌<◌, ◌≤◌, Bool, true, false, List, length, drop, filter, Option, MatchOption}
use Rattle.std.specs.List.{HoldsAt, AllWithin, position_from}

-- the first element at or after start that passes the test
abbrev pub next_of : {X : Type 0} → (X → Bool) → List X → ℕ → Option ℕ
next_of test xs start = position_from test start (drop start xs)

-- the elements at or after start that pass the test
abbrev pub left_of : {X : Type 0} → (X → Bool) → List X → ℕ → List X
left_of test xs start = filter test (drop start xs)

-- what makes an answer the first from start on: an element that passes, with none before it that does, or none at all
abbrev pub First : {X : Type 0} → (X → Bool) → List X → ℕ → Option ℕ → Type 0
First test xs start answer =
    MatchOption answer (AllWithin (λ x. test x ≡ false) xs start (length xs))
    (λ i. (start ≤ i) × (i < length xs) × HoldsAt (λ x. test x ≡ true) xs i × AllWithin (λ x. test x ≡ false) xs start i)
