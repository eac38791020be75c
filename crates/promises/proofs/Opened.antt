-- A floor that was opened is new: fresh links and journals are empty.
use Rattle.std.proofs.Common.{◌≡◌, ℕ, ◌<◌, ◌≤◌, Bool, true, false, ltb, List, [], is_ok, Ok, refl, ap, ◌∙◌, ⊎_elim}
use mathlib.Core.Path.{fun_ext}
use Rattle.std.proofs.lemmas.Bool.{and_parts, cases_Bool, cases_lt, cond-true, lt-ltb, ltb-true}
use Rattle.journals.specs.Calls.{Entries, no_entries}
use Rattle.network.specs.Links.{Links, is_link, no_links}
use Rattle.protocol.specs.Opening.{closed, no_entry, no_entry_of, no_message, no_message_from, no_message_on, open_after, open_answer, opened, votes_of, well_read}
use Rattle.protocol.specs.Refusals.{check}
use Rattle.protocol.specs.declared.fault.FloorFault.{FloorFault}
use Rattle.promises.specs.Runs.{new}
use Rattle.promises.proofs.Quiet.{below, none_first}

link_ends : (q p : ℕ) → is_link q p ≡ true → (q < 8) × (p < 8)
unfolding is_link
link_ends q p e =
    let parts = and_parts (ltb q 8) _ e in
    (ltb-true q 8 parts.0, ltb-true p 8 (and_parts (ltb p 8) _ parts.1).0)

links_empty : (links : Links) → ((q p : ℕ) → is_link q p ≡ false → links q p ≡ []) → no_message links ≡ true → links ≡ no_links
links_empty links bounded none =
    fun_ext (λ q. fun_ext (λ p. ⊎_elim (on_link q p) (bounded q p) (cases_Bool (is_link q p)))) where
      on_link : (q p : ℕ) → is_link q p ≡ true → links q p ≡ []
      on_link q p is =
          let ends = link_ends q p is in
          let on : no_message_on links q p ≡ true = below (no_message_on links q) 8 (below (no_message_from links) 8 none q ends.0) p ends.1 in
          none_first _ (links q p) (rw is at on)

entries_empty : (entries : Entries) → ((p : ℕ) → 8 ≤ p → entries p ≡ []) → no_entry entries ≡ true → entries ≡ no_entries
entries_empty entries bounded none = fun_ext (λ p. ⊎_elim (of_ledger p) (bounded p) (cases_lt p 8)) where
  of_ledger : (p : ℕ) → p < 8 → entries p ≡ []
  of_ledger p low =
      let of : no_entry_of entries p ≡ true = below (no_entry_of entries) 8 none p low in
      none_first _ (entries p) (rw (lt-ltb p 8 low) at of)

passed : (read fresh : Bool) (misread stale : FloorFault) → is_ok (check read misread (check fresh stale (Ok (tt {0})))) ≡ true → fresh ≡ true
passed true true misread stale e = refl
passed true false misread stale e = e
passed false true misread stale e = refl
passed false false misread stale e = e

pub opened_new : (links : Links) (entries : Entries) (n : ℕ) (numbers : List ℕ) → ((q p : ℕ) → is_link q p ≡ false → links q p ≡ []) → ((p : ℕ) → 8 ≤ p → entries p ≡ []) → is_ok (open_answer links entries n numbers) ≡ true → open_after links entries n numbers ≡ new n (votes_of numbers)
opened_new links entries n numbers no_link no_ledger ok =
    let fresh = and_parts (no_message links) (no_entry entries) (passed (well_read n numbers) _ _ _ ok) in
    cond-true (is_ok (open_answer links entries n numbers)) (opened links entries n numbers) (closed links entries) ok
    ∙ ap (λ l. opened l entries n numbers) (links_empty links no_link fresh.0)
    ∙ ap (λ e. opened no_links e n numbers) (entries_empty entries no_ledger fresh.1)
