-- What lists of records tell, when one more is written, and what a lawful list keeps to.
use Rattle.std.specs.Prelude.{◌≡◌, ℕ, zero, suc, ◌+◌, ◌-◌, ◌<◌, ◌≤◌, Bool, true, false, cond, List, [], ◌∷◌, ◌++◌, map, length, drop, Some, None, filter, Option, ◌≢◌, nat_le, slice_index_or, refl}
use Rattle.std.proofs.Common.{⊎_elim, ap, sym, ◌∙◌, add-zero, zero-add, arith}
use Rattle.std.proofs.lemmas.List.Elements.{filter-append}
use Rattle.std.proofs.ByRecursion.{All-get_or, All-push, all_kept_by, All-map, All-weaker}
use Rattle.std.proofs.lemmas.List.{length-append, length-map, map-append, append-nil, get_or_at}
use Rattle.std.proofs.lemmas.Bool.{and_parts, and_from, leb-true, le-leb, eq-eqb, cases_lt}
use Rattle.std.proofs.lemmas.Bool.Decides.{nat_tests}
use Rattle.std.specs.List.{AllByRecursion, slice_get}
use Rattle.owned.proofs.Crowd.{owned_by, crowd}
use Rattle.owned.proofs.Kept.{next_some, next_none}
use Rattle.owned.proofs.EveryFacts.{decides_every, decides_below}
use Rattle.owned.specs.Every.{every, every_below}
use Rattle.owned.specs.Search.{next_of}
use Rattle.journals.specs.Codes.{is_code, is_ledger}
use Rattle.tape.specs.Records.{is_of, codes_of, count_of, latest_from, latest, is_record, lawful, track_of}
use Rattle.tape.specs.declared.records.Record.{Record}

pub one_ledger : (r : Record) (a b : ℕ) → is_of a r ≡ true → is_of b r ≡ true → a ≡ b
one_ledger r a b own other = grind (arith, nat_tests)

module _ (p : ℕ) (rs : List Record) (r : Record) where
  kept_push : filter (is_of p) (rs ++ (r ∷ [])) ≡ filter (is_of p) rs ++ cond (is_of p r) (r ∷ []) []
  kept_push = filter-append (is_of p) rs (r ∷ [])

  pub codes_push : codes_of p (rs ++ (r ∷ [])) ≡ cond (is_of p r) (codes_of p rs ++ (r.code ∷ [])) (codes_of p rs)
  codes_push =
      ap (map (λ (x : Record). x.code)) kept_push ∙ map-append (λ (x : Record). x.code) (filter (is_of p) rs) (cond (is_of p r) (r ∷ []) [])
      ∙ elim (is_of p r) as (λ b. codes_of p rs ++ map (λ x. x.code) (cond b (r ∷ []) []) ≡ cond b (codes_of p rs ++ (r.code ∷ [])) (codes_of p rs)) [ true ↦ refl | false ↦ append-nil _ ]

  pub count_push : count_of p (rs ++ (r ∷ [])) ≡ cond (is_of p r) (count_of p rs + 1) (count_of p rs)
  count_push = ap length codes_push ∙ elim (is_of p r) as (λ b. length (cond b (codes_of p rs ++ (r.code ∷ [])) (codes_of p rs)) ≡ cond b (count_of p rs + 1) (count_of p rs)) [ true ↦ length-append _ _ | false ↦ refl ]

latest_from_push : (p : ℕ) (rs : List Record) (r : Record) (i : ℕ) (before : Option ℕ) → latest_from i p (rs ++ (r ∷ [])) before ≡ cond (is_of p r) (Some (i + length rs)) (latest_from i p rs before)
latest_from_push p [] r i before = ap (λ n. cond (is_of p r) (Some n) before) (sym (add-zero i))
latest_from_push p (x ∷ xs) r i before =
    latest_from_push p xs r (i + 1) (cond (is_of p x) (Some i) before)
    ∙ ap (λ n. cond (is_of p r) (Some n) (latest_from (i + 1) p xs (cond (is_of p x) (Some i) before))) (omega arith)

pub track_push : (p : ℕ) (rs : List Record) (r : Record) → track_of p (rs ++ (r ∷ [])) ≡ cond (is_of p r) (record { count = count_of p rs + 1; latest = Some (length rs) }) (track_of p rs)
track_push p rs r =
    let counted = count_push p rs r in
    let found = latest_from_push p rs r 0 None in
    elim (is_of p r) as (λ b. count_of p (rs ++ (r ∷ [])) ≡ cond b (count_of p rs + 1) (count_of p rs) → latest p (rs ++ (r ∷ [])) ≡ cond b (Some (0 + length rs)) (latest p rs) → track_of p (rs ++ (r ∷ [])) ≡ cond b (record { count = count_of p rs + 1; latest = Some (length rs) }) (track_of p rs)) [
      | true ↦ λ n l. rw (n, l, zero-add)
      | false ↦ λ n l. rw (n, l)
    ] counted found

latest_from_within : (p : ℕ) (rs : List Record) (i k : ℕ) (before : Option ℕ) → ((b : ℕ) → before ≡ Some b → b < i) → latest_from i p rs before ≡ Some k → k < i + length rs
latest_from_within p [] i k before earlier e = omega (arith, earlier k e)
latest_from_within p (r ∷ rs) i k before earlier e =
    omega (arith, latest_from_within p rs (i + 1) k (cond (is_of p r) (Some i) before) (still (is_of p r)) e)
  where
    still : (own : Bool) (b : ℕ) → cond own (Some i) before ≡ Some b → b < i + 1
    still true b found = let same : i ≡ b = cc in omega arith
    still false b found = omega (arith, earlier b found)

pub latest_within : (p : ℕ) (rs : List Record) (k : ℕ) → latest p rs ≡ Some k → k < length rs
latest_within p rs k e = omega (arith, latest_from_within p rs 0 k None (λ b none. absurd (let z : ◌≡◌ {A = ℕ} 0 1 = cc in omega arith)) e)

module _ (rs : List Record) (law : lawful rs ≡ true) where
  parts : (every is_record rs ≡ true) × (every_below (λ p. nat_le (count_of p rs) 8) 8 ≡ true)
  parts = and_parts (every is_record rs) (every_below (λ p. nat_le (count_of p rs) 8) 8) law

  known : AllByRecursion (λ r. is_record r ≡ true) rs
  known = (decides_every is_record rs).0 parts.0

  pub few : (p : ℕ) → p < 8 → count_of p rs ≤ 8
  few p below = leb-true (count_of p rs) 8 ((decides_below (λ q. nat_le (count_of q rs) 8) 8).0 parts.1 p below)

  pub codes_known : (p : ℕ) → AllByRecursion (λ c. is_code c ≡ true) (codes_of p rs)
  codes_known p =
      All-map (λ c. is_code c ≡ true) (λ r. r.code) (filter (is_of p) rs)
      (all_kept_by (is_of p) (λ r. is_code r.code ≡ true) rs (All-weaker (λ r. is_record r ≡ true) (λ r. is_code r.code ≡ true) (λ r e. (and_parts (is_ledger r.ledger) (is_code r.code) e).1) rs known))

  pub lawful_push : (r : Record) → is_record r ≡ true → count_of r.ledger rs < 8 → lawful (rs ++ (r ∷ [])) ≡ true
  lawful_push r right room =
      and_from (every is_record (rs ++ (r ∷ []))) (every_below (λ p. nat_le (count_of p (rs ++ (r ∷ []))) 8) 8)
      ((decides_every is_record (rs ++ (r ∷ []))).1 (All-push (λ x. is_record x ≡ true) rs r known right))
      ((decides_below (λ p. nat_le (count_of p (rs ++ (r ∷ []))) 8) 8).1 (λ p below. le-leb (count_of p (rs ++ (r ∷ []))) 8 (still p below)))
    where
      still : (p : ℕ) → p < 8 → count_of p (rs ++ (r ∷ [])) ≤ 8
      still p below = grind (arith, nat_tests, count_push p rs r, few p below)

  all_below : (p : ℕ) → 8 ≤ p → AllByRecursion (λ r. is_of p r ≡ false) rs
  all_below p past = All-weaker (λ r. is_record r ≡ true) (λ r. is_of p r ≡ false) (λ r e. other r (and_parts (is_ledger r.ledger) (is_code r.code) e).0) rs known
    where
      other : (r : Record) → is_ledger r.ledger ≡ true → is_of p r ≡ false
      other r e = grind (arith, nat_tests)

  pub latest_past : (p : ℕ) → 8 ≤ p → latest p rs ≡ None
  latest_past p past = none_latest rs 0 (all_below p past)
    where
      none_latest : (xs : List Record) (i : ℕ) → AllByRecursion (λ r. is_of p r ≡ false) xs → latest_from i p xs None ≡ None
      none_latest [] i tt = refl
      none_latest (x ∷ xs) i h = rw h.0 (none_latest xs (i + 1) h.1)

  pub none_past : (p : ℕ) → 8 ≤ p → filter (is_of p) rs ≡ []
  none_past p past = none_kept rs (all_below p past)
    where
      none_kept : (xs : List Record) → AllByRecursion (λ r. is_of p r ≡ false) xs → filter (is_of p) xs ≡ []
      none_kept [] tt = refl
      none_kept (x ∷ xs) h = rw h.0 (none_kept xs h.1)

  pub at_most_8 : (p : ℕ) → count_of p rs ≤ 8
  at_most_8 p = ⊎_elim (few p) (λ past. omega (arith, ap (λ ks. length (map (λ (r : Record). r.code) ks)) (none_past p past))) (cases_lt p 8)

  -- eight ledgers with at most eight records each
  pub at_most_64 : length rs ≤ 64
  at_most_64 =
      crowd (λ r p. is_of p r) ledgers 8 rs (All-weaker (λ r. is_record r ≡ true) (λ r. owned_by (λ x p. is_of p x) ledgers r ≡ true) (λ r e. some_ledger r (and_parts (is_ledger r.ledger) (is_code r.code) e).0) rs known)
      (kept_few 0 (omega arith), (kept_few 1 (omega arith), (kept_few 2 (omega arith), (kept_few 3 (omega arith), (kept_few 4 (omega arith), (kept_few 5 (omega arith), (kept_few 6 (omega arith), (kept_few 7 (omega arith), tt))))))))
    where
      kept_few : (p : ℕ) → p < 8 → length (filter (is_of p) rs) ≤ 8
      kept_few p below = rw length-map at (few p below)

      ledgers : List ℕ
      ledgers = 0 ∷ 1 ∷ 2 ∷ 3 ∷ 4 ∷ 5 ∷ 6 ∷ 7 ∷ []

      some_ledger : (r : Record) → is_ledger r.ledger ≡ true → owned_by (λ x p. is_of p x) ledgers r ≡ true
      some_ledger r e = grind (arith, nat_tests)

-- one record among others: it is a record, and not the ninth of its ledger
module _ (before : List Record) (r : Record) (after : List Record) (law : lawful (before ++ (r ∷ after)) ≡ true) where
  pub record_within : is_record r ≡ true
  record_within =
      let here : slice_index_or (before ++ (r ∷ after)) (length before) r ≡ r = get_or_at before r after r (length before) refl in
      let long : length before < length (before ++ (r ∷ after)) = simp length-append (omega arith) in
      rw here at (All-get_or (λ x. is_record x ≡ true) (before ++ (r ∷ after)) (length before) r long (known (before ++ (r ∷ after)) law))

  pub no_ninth : count_of r.ledger before < 8
  no_ninth =
      let p = r.ledger in
      let all : count_of p (before ++ (r ∷ after)) ≡ count_of p before + count_of p (r ∷ after) = ap (λ ks. length (map (λ (x : Record). x.code) ks)) (filter-append (is_of p) before (r ∷ after)) ∙ simp (map-append, length-append) in
      let own : count_of p (r ∷ after) ≡ suc (count_of p after) = rw (eq-eqb p p refl) in
      omega (arith, at_most_8 (before ++ (r ∷ after)) law p, all, own)

-- what the search tells of the codes that are left
module _ (p : ℕ) (rs : List Record) (start : ℕ) where
  pub codes_next : (i : ℕ) (d : Record) → next_of (is_of p) rs start ≡ Some i → codes_of p (drop start rs) ≡ (slice_index_or rs i d).code ∷ codes_of p (drop (i + 1) rs)
  codes_next i d e = ap (map (λ (r : Record). r.code)) ((next_some (is_of p) rs start i e).splits d)

  pub codes_end : next_of (is_of p) rs start ≡ None → codes_of p (drop start rs) ≡ []
  codes_end e = ap (map (λ (r : Record). r.code)) (next_none (is_of p) rs start e)

pub nth_ahead : (codes rest : List ℕ) (c left : ℕ) → codes ≡ c ∷ rest → (left ≢ 0) → slice_get codes left ≡ slice_get rest (left - 1)
nth_ahead codes rest c zero e some = absurd (some refl)
nth_ahead codes rest c (suc n) e some = let back : n ≡ suc n - 1 = omega arith in ap (λ xs. slice_get xs (suc n)) e ∙ ap (slice_get rest) back
