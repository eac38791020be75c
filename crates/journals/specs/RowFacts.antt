-- What the rows mean, read at one ledger and after one row is stored.
use mathlib.Core.Path.{fun_ext}
use Rattle.std.specs.Prelude.{◌≡◌, ℕ, zero, suc, ◌<◌, ◌≤◌, true, List, [], ◌∷◌, ◌++◌, map, length, slice_index_or, slice_set}
use Rattle.std.specs.Array.{AllOfLen}
use Rattle.std.specs.List.{AllByRecursion}
use Rattle.std.proofs.lemmas.Bool.{cases_lt}
use Rattle.std.proofs.Common.{get_or, inl, inr, ap, sym, ◌∙◌, arith}
use Rattle.std.proofs.lemmas.List.{length-map, map_push, get_or_past, get_or-map as get_or-map_below, get_or-set_same, get_or-set_other, map-set}
use Rattle.std.proofs.Math.ListN.{get_or-map}
use Rattle.std.proofs.lemmas.Bool.Decides.{nat_tests}
use Rattle.journals.specs.Calls.{no_entries, with_entry, with_list}
use Rattle.journals.specs.Codes.{code_of, is_code}
use Rattle.journals.specs.Rows.{codes, entries_of}
use Rattle.arrayvec.specs.ArrayVec.{ArrayVec, array_vec_len}
use Rattle.journals.specs.declared.entry.Entry.{Entry}
use Rattle.journals.specs.declared.rows.Rows.{Rows}
use Rattle.journals.specs.CodeFacts.{all_coded}

pub codes_length : (row : ArrayVec Entry) → length (codes row) ≡ array_vec_len row
codes_length row = length-map _ code_of

-- each ledger's codes are those of its row, and past the rows of an empty one
of_row : (j : Rows) (p : ℕ) → entries_of j p ≡ codes (slice_index_or j.rows p (record { items = [] }))
of_row j p = get_or-map codes j.rows p (record { items = [] })

-- what holds of no codes and of the codes of each row holds of each ledger's
pub each_row : (P : List ℕ → Type 0) → P [] → (rows : List (ArrayVec Entry)) → ((row : ArrayVec Entry) → P (codes row)) → (p : ℕ) → P (slice_index_or (map codes rows) p [])
each_row P none [] every p = none
each_row P none (row ∷ rows) every zero = every row
each_row P none (row ∷ rows) every (suc p) = each_row P none rows every p

-- one row stored at its ledger
pub entries_set : (j : Rows) (p : ℕ) (row : ArrayVec Entry) → p < 8 → (q : ℕ) → slice_index_or (map codes (slice_set j.rows p row)) q [] ≡ with_list (entries_of j) p (codes row) q
entries_set j p row below q =
    let long : p < length (map codes j.rows) = simp length-map (omega arith) in
    rw map-set (grind (arith, nat_tests, get_or-set_same (map codes j.rows) p (codes row) [] long, get_or-set_other (map codes j.rows) p q (codes row) []))

-- p's row with one more entry at its end
pub entries_pushed : (j : Rows) (i p : ℕ) (row longer : ArrayVec Entry) (e : Entry) → i ≡ p → p < 8 → longer.items ≡ (slice_index_or j.rows i row).items ++ (e ∷ []) → (λ q. slice_index_or (map codes (slice_set j.rows i longer)) q []) ≡ with_entry (entries_of j) p (code_of e)
entries_pushed j i p row longer e at below pushed =
    let old = get_or j.rows i row in
    let own : entries_of j p ≡ codes old = rw at (get_or-map_below codes j.rows p row [] (omega arith)) in
    let codes_pushed : codes longer ≡ entries_of j p ++ (code_of e ∷ []) = ap (map code_of) pushed ∙ map_push code_of old.items e ∙ ap (λ cs. cs ++ (code_of e ∷ [])) (sym own) in
    fun_ext (λ q. rw at (entries_set j p longer below q) ∙ ap (λ cs. with_list (entries_of j) p cs q) codes_pushed)

-- rows that are all empty
pub entries_none : (rows : List (ArrayVec Entry)) → AllOfLen (λ row. row.items ≡ []) rows 8 → (λ p. slice_index_or (map codes rows) p []) ≡ no_entries
entries_none rows none = fun_ext (λ p. get_or-map codes rows p (record { items = [] }) ∙ ap (map code_of) (empty p))
  where
    empty : (p : ℕ) → (slice_index_or rows p (record { items = [] })).items ≡ []
    empty p = elim (cases_lt p 8) [
      | inl below ↦ none.at p (record { items = [] }) below
      | inr past ↦ ap (λ (row : ArrayVec Entry). row.items) (get_or_past rows p (record { items = [] }) (omega (arith, none.long)))
    ]

pub entries_past : (j : Rows) (p : ℕ) → 8 ≤ p → entries_of j p ≡ []
entries_past j p past = get_or_past _ p [] (simp length-map (omega arith))

pub entries_short : (j : Rows) (p : ℕ) → length (entries_of j p) ≤ 8
entries_short j p = rw (of_row j p, codes_length) (j.short p)

pub entries_known : (j : Rows) (p : ℕ) → AllByRecursion (λ c. is_code c ≡ true) (entries_of j p)
entries_known j = each_row (AllByRecursion (λ c. is_code c ≡ true)) tt j.rows (λ row. all_coded _)
