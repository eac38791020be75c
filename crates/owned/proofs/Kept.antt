-- What the search tells of the elements that pass its test, in their order.
use Rattle.std.proofs.Common.{◌≡◌, ℕ, zero, suc, ◌+◌, ◌-◌, ◌<◌, ◌≤◌, Bool, true, false, cond, List, [], ◌∷◌, length, get_or, drop, Some, None, filter, position, Option, refl, ap, ◌∙◌, add_assoc, add-one, add-zero, arith}
use Rattle.std.proofs.lemmas.List.{get_or-drop, drop-drop, length-drop}
use Rattle.std.proofs.lemmas.Iterator.Adapters.{position_from-zero}
use Rattle.std.specs.Option.{option_map}
use Rattle.std.specs.List.{HoldsAt, AllWithin, position_from}
use Rattle.owned.specs.Search.{next_of, First}

module _ {X : Type 0} (test : X → Bool) where
  -- k is where the search stopped, counted from the list's first
  record Stopped (xs : List X) (i j : ℕ) : Type 0 where
    pub k : ℕ
    pub at : j ≡ i + k
    pub within : k < length xs
    pub passes : HoldsAt (λ x. test x ≡ true) xs k
    pub earlier : AllWithin (λ x. test x ≡ false) xs 0 k
    pub splits : (d : X) → filter test xs ≡ get_or xs k d ∷ filter test (drop (k + 1) xs)

  every_cons : (x : X) (xs : List X) (k : ℕ) → test x ≡ false → AllWithin (λ y. test y ≡ false) xs 0 k → AllWithin (λ y. test y ≡ false) (x ∷ xs) 0 (suc k)
  every_cons x xs k fails rest zero d low high = fails
  every_cons x xs k fails rest (suc n) d low high = rest n d (omega arith) (omega arith)

  -- one element in front of those that the search has gone over
  one_more : (x : X) (xs : List X) (i j : ℕ) (b : Bool) → test x ≡ b → cond b (Some i) (position_from test (i + 1) xs) ≡ Some j → (position_from test (i + 1) xs ≡ Some j → Stopped xs (i + 1) j) → Stopped (x ∷ xs) i j
  one_more x xs i j true yes' e later = record {
    k = 0;
    at = let same : i ≡ j = cc in omega arith;
    within = omega arith;
    passes = λ d. yes';
    earlier = λ n d low high. absurd (omega arith);
    splits = λ d. rw yes';
  }
  one_more x xs i j false fails e later =
      let l = later e in
      record {
        k = suc l.k;
        at = omega (arith, l.at);
        within = omega (arith, l.within);
        passes = l.passes;
        earlier = every_cons x xs l.k fails l.earlier;
        splits = λ d. rw (fails, add-one) (rw add-one at (l.splits d));
      }

  stopped : (xs : List X) (i j : ℕ) → position_from test i xs ≡ Some j → Stopped xs i j
  stopped [] i j e = absurd (let z : ◌≡◌ {A = ℕ} 0 1 = cc in omega arith)
  stopped (x ∷ xs) i j e = one_more x xs i j (test x) refl e (stopped xs (i + 1) j)

  -- a search that finds nothing has passed over everything
  record Ended (xs : List X) : Type 0 where
    pub all_fail : AllWithin (λ x. test x ≡ false) xs 0 (length xs)
    pub none_kept : filter test xs ≡ []

  ended : (xs : List X) (i : ℕ) → position_from test i xs ≡ None → Ended xs
  ended [] i e = record { all_fail = λ n d low high. absurd (omega arith); none_kept = refl }
  ended (x ∷ xs) i e = one_less (test x) refl e (ended xs (i + 1))
    where
      one_less : (b : Bool) → test x ≡ b → cond b (Some i) (position_from test (i + 1) xs) ≡ None → (position_from test (i + 1) xs ≡ None → Ended xs) → Ended (x ∷ xs)
      one_less true yes' found later = absurd (let z : ◌≡◌ {A = ℕ} 0 1 = cc in omega arith)
      one_less false fails rest later =
          let l = later rest in
          record { all_fail = every_cons x xs (length xs) fails l.all_fail; none_kept = rw fails l.none_kept }

  -- the same places, counted in the whole list
  in_whole : (xs : List X) (i k j : ℕ) (d : X) → j ≡ i + k → get_or (drop i xs) k d ∷ filter test (drop (k + 1) (drop i xs)) ≡ get_or xs j d ∷ filter test (drop (j + 1) xs)
  in_whole xs i k j d at = rw (at, get_or-drop, drop-drop, add_assoc)

  every_in_whole : (xs : List X) (i k : ℕ) → AllWithin (λ x. test x ≡ false) (drop i xs) 0 k → AllWithin (λ x. test x ≡ false) xs i (i + k)
  every_in_whole xs i k every n d low high =
      let there : i + (n - i) ≡ n = omega arith in
      rw there at (rw get_or-drop at (every (n - i) d (omega arith) (omega arith)))

  pub record Next (xs : List X) (i j : ℕ) : Type 0 where
    pub after : i ≤ j
    pub within : j < length xs
    pub passes : HoldsAt (λ x. test x ≡ true) xs j
    pub earlier : AllWithin (λ x. test x ≡ false) xs i j
    pub splits : (d : X) → filter test (drop i xs) ≡ get_or xs j d ∷ filter test (drop (j + 1) xs)

  pub next_some : (xs : List X) (i j : ℕ) → next_of test xs i ≡ Some j → Next xs i j
  next_some xs i j e =
      let s = stopped (drop i xs) i j e in
      let at = s.at in
      let within : s.k < length xs - i = rw length-drop at s.within in
      record {
        after = omega arith;
        within = omega arith;
        passes = λ d. rw (at) (rw get_or-drop at (s.passes d));
        earlier = rw (at) (every_in_whole xs i s.k s.earlier);
        splits = λ d. s.splits d ∙ in_whole xs i s.k j d at;
      }

  pub next_none : (xs : List X) (i : ℕ) → next_of test xs i ≡ None → filter test (drop i xs) ≡ []
  next_none xs i e = (ended (drop i xs) i e).none_kept

  -- what the definition computes is the first from there on
  pub is_first : (xs : List X) (i : ℕ) (answer : Option ℕ) → next_of test xs i ≡ answer → First test xs i answer
  is_first xs i None e =
      λ n d low high. every_in_whole xs i (length (drop i xs)) (ended (drop i xs) i e).all_fail n d low (omega (arith, length-drop i xs))
  is_first xs i (Some j) e = let s = next_some xs i j e in (s.after, s.within, s.passes, s.earlier)

  shifted : (i j : ℕ) (xs : List X) → option_map (λ n. i + n) (position_from test j xs) ≡ position_from test (i + j) xs
  shifted i j [] = refl
  shifted i j (x ∷ xs) = elim (test x) as (λ b. option_map (λ n. i + n) (cond b (Some j) (position_from test (j + 1) xs)) ≡ cond b (Some (i + j)) (position_from test (i + j + 1) xs)) [
    | true ↦ refl
    | false ↦ rw add_assoc (shifted i (j + 1) xs)
  ]

  -- the first of those from the start on, counted in the whole list
  pub next_from_position : (xs : List X) (start : ℕ) → option_map (λ n. start + n) (position test (drop start xs)) ≡ next_of test xs start
  next_from_position xs start =
      ap (option_map (λ n. start + n)) (position_from-zero test (drop start xs)) ∙ rw add-zero at (shifted start 0 (drop start xs))
