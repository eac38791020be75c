-- The promises hold of a script's own run.
use Rattle.std.proofs.Common.{◌≡◌, ℕ, ◌≤◌, true, false, List, [], is_ok, Ok, Err, Result, sym, refl, ap, ◌∙◌, arith}
use Rattle.std.proofs.lemmas.Bool.{cond-true}
use Rattle.std.proofs.lemmas.Bool.Decides.{nat_tests}
use Rattle.journals.specs.Calls.{Entries}
use Rattle.network.specs.Links.{Links, is_link}
use Rattle.promises.proofs.Kept.{kept}
use Rattle.promises.proofs.Opened.{opened_new}
use Rattle.protocol.specs.Plans.{after_all}
use Rattle.protocol.specs.Opening.{closed, open_answer, opened, votes_of}
use Rattle.protocol.specs.State.{State}
use Rattle.protocol.specs.declared.fault.FloorFault.{FloorFault}
use Rattle.script.specs.Lines.{Lines}
use Rattle.script.specs.Rehearsal.{RehearsalPromised, Start, StartPromised, calls_of, play_start, played_after, rehearsal_after, start_of, with_opening}
use Rattle.script.specs.declared.fault.ScriptFault.{ScriptFault}

module _ (depth : ℕ) (links : Links) (entries : Entries) (deep : 1 ≤ depth) (no_link : (q p : ℕ) → is_link q p ≡ false → links q p ≡ []) (no_ledger : (p : ℕ) → 8 ≤ p → entries p ≡ []) where
  -- an opening that is taken has two to eight ledgers
  two_to_eight : (n : ℕ) (votes : List ℕ) → is_ok (open_answer links entries n votes) ≡ true → (2 ≤ n) × (n ≤ 8)
  two_to_eight n votes ok = (grind (arith, nat_tests), grind (arith, nat_tests))

  -- and starts the run
  opened_end : (answer : Result Unit FloorFault) (s : State) (rest : Lines) → is_ok answer ≡ true → played_after depth links entries (with_opening answer s rest) ≡ after_all depth s (calls_of rest.whole)
  opened_end (Ok done) s rest ok = refl
  opened_end (Err fault) s rest ok = grind arith

  promised_at : (start : Result Start ScriptFault) (end : State) → end ≡ played_after depth links entries (play_start links entries start) → StartPromised depth links entries end start
  promised_at (Ok start) end e = λ ok.
      let n = start.first.ledgers in
      let votes = start.first.votes in
      let size = two_to_eight n votes ok in
      let fresh = sym (cond-true (is_ok (open_answer links entries n votes)) (opened links entries n votes) (closed links entries) ok) ∙ opened_new links entries n votes no_link no_ledger ok in (
        e ∙ opened_end (open_answer links entries n votes) (opened links entries n votes) start.rest ok ∙ ap (λ s. after_all depth s (calls_of start.rest.whole)) fresh,
        kept depth n (votes_of votes) (calls_of start.rest.whole) deep size.0 size.1 refl,
      )
  promised_at (Err fault) end e = tt

  pub promised : (script : List ℕ) (end : State) → end ≡ rehearsal_after depth links entries script → RehearsalPromised depth links entries script end
  promised script end e = promised_at (start_of script) end e
