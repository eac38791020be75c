-- Sets of ledgers: who is in one, who is missing, and how many are in.
use Rattle.std.proofs.Common.{◌≡◌, ℕ, zero, suc, ◌+◌, ◌-◌, ◌<◌, ◌≤◌, Bool, true, false, cond, ◌||◌, eqb, List, length, get_or, set, is_some, Some, None, Option, sym, refl, ap, ◌∙◌, inl, inr, arith}
use Rattle.std.specs.List.{count_by}
use Rattle.std.proofs.lemmas.List.Sums.{count_by-le-length, sum_by-set}
use Rattle.std.proofs.lemmas.List.{length-set, get_or-set_same, get_or-set_other}
use Rattle.std.proofs.lemmas.Bool.{cases_eq}
use Rattle.std.proofs.lemmas.Bool.Decides.{nat_tests}
use Rattle.rules.specs.Ledgers.{empty, is_in, missing_from, first_missing, with_ledger}
use Rattle.rules.specs.declared.ledger_set.LedgerSet.{LedgerSet}

-- one ledger more
pub in_with : (s : LedgerSet) (q x : ℕ) → length s.members ≡ 8 → q < 8 → is_in (with_ledger s q) x ≡ (eqb x q || is_in s x)
in_with s q x long below = grind (arith, nat_tests, get_or-set_same s.members q true false, get_or-set_other s.members q x true false)

pub in_empty : (x : ℕ) → is_in empty x ≡ false
in_empty x = grind (arith, nat_tests)

-- who is in one of the two
abbrev pub in_either : LedgerSet → LedgerSet → ℕ → Bool
in_either one other i = is_in one i || is_in other i

-- what the lowest missing ledger at or after p and below end is
pub record Lowest (one other : LedgerSet) (p end q : ℕ) : Type 0 where
  pub low : p ≤ q
  pub high : q < end
  pub missing : in_either one other q ≡ false
  pub before : (i : ℕ) → p ≤ i → i < q → in_either one other i ≡ true

module _ (one other : LedgerSet) where
  from_none : (p k : ℕ) → missing_from one other p k ≡ None → (i : ℕ) → p ≤ i → i < p + k → in_either one other i ≡ true
  from_none p zero e i low high = absurd (omega arith)
  from_none p (suc k) e i low high = by_here (in_either one other p) refl e (λ e l h. from_none (p + 1) k e i l h)
    where
      by_here : (here : Bool) → in_either one other p ≡ here → cond here (missing_from one other (p + 1) k) (Some p) ≡ None → (missing_from one other (p + 1) k ≡ None → p + 1 ≤ i → i < p + 1 + k → in_either one other i ≡ true) → in_either one other i ≡ true
      by_here true here e rest = elim (cases_eq i p) [ inl same ↦ ap (in_either one other) same ∙ here | inr apart ↦ rest e (omega arith) (omega arith) ]
      by_here false here e rest = cc

  from_some : (p k q : ℕ) → missing_from one other p k ≡ Some q → Lowest one other p (p + k) q
  from_some p zero q e = absurd (let z : ◌≡◌ {A = ℕ} 0 1 = cc in omega arith)
  from_some p (suc k) q e = by_here (in_either one other p) refl e (from_some (p + 1) k q)
    where
      by_here : (here : Bool) → in_either one other p ≡ here → cond here (missing_from one other (p + 1) k) (Some p) ≡ Some q → (missing_from one other (p + 1) k ≡ Some q → Lowest one other (p + 1) (p + 1 + k) q) → Lowest one other p (p + suc k) q
      by_here true here e more =
          let rest = more e in
          record {
            low = omega arith;
            high = omega arith;
            missing = rest.missing;
            before = λ i low high. elim (cases_eq i p) [ inl same ↦ ap (in_either one other) same ∙ here | inr apart ↦ rest.before i (omega arith) high ];
          }
      by_here false here e more =
          let same : p ≡ q = cc in
          record { low = omega arith; high = omega arith; missing = ap (in_either one other) (sym same) ∙ here; before = λ i low high. absurd (omega arith) }

  pub none_missing : (p end : ℕ) → first_missing one other p end ≡ None → (i : ℕ) → p ≤ i → i < end → in_either one other i ≡ true
  none_missing p end e i low high = from_none p (end - p) e i low (omega arith)

  pub lowest : (p end q : ℕ) → first_missing one other p end ≡ Some q → Lowest one other p end q
  lowest p end q e =
      let it = from_some p (end - p) q e in
      record { low = it.low; high = omega arith; missing = it.missing; before = it.before }

  -- one that is missing is found
  pub found_missing : (p end i : ℕ) → p ≤ i → i < end → in_either one other i ≡ false → is_some (first_missing one other p end) ≡ true
  found_missing p end i low high absent = by_found (first_missing one other p end) refl
    where
      by_found : (found : Option ℕ) → first_missing one other p end ≡ found → is_some found ≡ true
      by_found (Some q) e = refl
      by_found None e = let there = none_missing p end e i low high in cc

  -- where all are in, none is found
  pub found_none : (p end : ℕ) → ((i : ℕ) → p ≤ i → i < end → in_either one other i ≡ true) → is_some (first_missing one other p end) ≡ false
  found_none p end all = by_found (first_missing one other p end) refl
    where
      by_found : (found : Option ℕ) → first_missing one other p end ≡ found → is_some found ≡ false
      by_found (Some q) e =
          let it = lowest p end q e in
          let there = all q it.low it.high in
          let absent = it.missing in cc
      by_found None e = refl

-- how many ledgers are in
abbrev pub count : List Bool → ℕ
count bs = count_by (λ b. b) bs

pub count_set : (bs : List Bool) (q : ℕ) → q < length bs → get_or bs q false ≡ false → count (set bs q true) ≡ suc (count bs)
count_set bs q below absent = grind (arith, sum_by-set (λ b. cond b 1 0) bs q true false below)

pub count_most : (bs : List Bool) → count bs ≤ length bs
count_most bs = count_by-le-length (λ b. b) bs

-- not all are in where one is missing
pub count_below : (bs : List Bool) (p : ℕ) → p < length bs → get_or bs p false ≡ false → count bs < length bs
count_below bs p below absent = omega (arith, count_set bs p below absent, count_most (set bs p true), length-set bs p true)

-- how many of the k ledgers from i on are not in, and how many from i on and below end
abbrev pub out_of : LedgerSet → ℕ → ℕ → ℕ
out_of s i zero = 0
out_of s i (suc k) = cond (is_in s i) 0 1 + out_of s (i + 1) k

unfoldable pub left_from : LedgerSet → ℕ → ℕ → ℕ
left_from s i end = out_of s i (end - i)

pub left_more : (s : LedgerSet) (i end : ℕ) → i < end → left_from s i end ≡ cond (is_in s i) 0 1 + left_from s (i + 1) end
unfolding left_from
left_more s i end below = grind (arith, nat_tests)

module _ (s : LedgerSet) (end : ℕ) where
  -- those before x are all in
  skips : (k i x : ℕ) → i + k ≡ x → x ≤ end → ((j : ℕ) → i ≤ j → j < x → is_in s j ≡ true) → left_from s i end ≡ left_from s x end
  skips zero i x e below all = ap (λ j. left_from s j end) (omega arith)
  skips (suc k) i x e below all =
      left_more s i end (omega arith) ∙ rw (all i (omega arith) (omega arith)) (grind (arith, skips k (i + 1) x (omega arith) below (λ j low high. all j (omega arith) high)))

  pub left_skips : (i x : ℕ) → i ≤ x → x ≤ end → ((j : ℕ) → i ≤ j → j < x → is_in s j ≡ true) → left_from s i end ≡ left_from s x end
  left_skips i x low below all = skips (x - i) i x (omega arith) below all

-- a set with more in it
module _ (s t : LedgerSet) (more : (j : ℕ) → is_in s j ≡ true → is_in t j ≡ true) where
  out_fewer : (i k : ℕ) → out_of t i k ≤ out_of s i k
  out_fewer i zero = omega arith
  out_fewer i (suc k) = grind (arith, more i, out_fewer (i + 1) k)

  pub left_fewer : (i end : ℕ) → left_from t i end ≤ left_from s i end
  unfolding left_from
  left_fewer i end = out_fewer i (end - i)

  module _ (q : ℕ) (new : is_in t q ≡ true) (absent : is_in s q ≡ false) where
    out_less : (i k : ℕ) → i ≤ q → q < i + k → out_of t i k < out_of s i k
    out_less i zero low high = absurd (omega arith)
    out_less i (suc k) low high = elim (cases_eq i q) [ inl same ↦ here same | inr apart ↦ grind (arith, more i, out_less (i + 1) k (omega arith) (omega arith)) ]
      where
        here : i ≡ q → cond (is_in t i) 0 1 + out_of t (i + 1) k < cond (is_in s i) 0 1 + out_of s (i + 1) k
        here same = rw (same, new, absent) (omega (arith, out_fewer (q + 1) k))

    pub left_less : (i end : ℕ) → i ≤ q → q < end → left_from t i end < left_from s i end
    unfolding left_from
    left_less i end low high = out_less i (end - i) low (omega arith)

-- one that is not in is left
pub left_one : (s : LedgerSet) (q i end : ℕ) → length s.members ≡ 8 → q < 8 → is_in s q ≡ false → i ≤ q → q < end → 1 ≤ left_from s i end
left_one s q i end long below absent low high =
    omega (arith, left_less s (with_ledger s q) (λ j there. grind (arith, nat_tests, in_with s q j)) q (grind (arith, nat_tests, in_with s q q)) absent i end low high)
