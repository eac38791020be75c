-- Journals never fill, and no ledger leads more than seven times.
use Rattle.std.proofs.Common.{◌≡◌, ℕ, ◌<◌, ◌≤◌, ◌≢◌, List, length, Err, ⊎_elim, arith}
use Rattle.std.proofs.lemmas.Bool.{cases_lt}
use Rattle.std.proofs.lemmas.Bool.Decides.{nat_tests}
use Rattle.journals.specs.declared.fault.JournalsFault.{JournalsFault}
use Rattle.network.specs.declared.message.Vote.{Vote}
use Rattle.rules.specs.declared.effect.Response.{Response}
use Rattle.rules.specs.declared.stage.Status.{Status}
use Rattle.protocol.specs.Plans.{after_all, call_answer}
use Rattle.protocol.specs.State.{State, row_of}
use Rattle.protocol.specs.declared.call.Call.{Call}
use Rattle.protocol.specs.declared.fault.FloorFault.TheVariants.{Journal}
use Rattle.promises.specs.Promises.{FewRounds, JournalsSuffice}
use Rattle.promises.specs.Runs.{new}
use Rattle.promises.proofs.Between.{sound_run}
use Rattle.promises.proofs.Between.{sound_run}
use Rattle.promises.proofs.Each.{each_run, most_entries}
use Rattle.promises.proofs.Moves.{Input, Move, Sound, plain_run}
use Rattle.promises.proofs.Sets.{count_below}

pub few_entries : (status : Status) → most_entries status ≤ 5
few_entries status = grind arith

module _ (depth n : ℕ) (s : State) (few : n ≤ 8) (same : s.ledgers ≡ n) (room : (p : ℕ) → p < n → length (s.entries p) ≤ 5) (fault : JournalsFault) where
  answers : s.ledgers ≤ length s.rows → (call : Call) → call_answer depth s call ≢ Err (Journal fault)
  answers long it e = grind (arith, nat_tests)

module _ (depth n : ℕ) (votes : List Vote) (calls : List Call) (many : 2 ≤ n) (few : n ≤ 8) where
  pub journals_suffice : JournalsSuffice depth n votes calls
  journals_suffice call fault =
      let sound = sound_run depth n votes many few calls in
      answers depth n (after_all depth (new n votes) calls) few sound.ledgers_are
      (λ p known. omega (arith, (each_run n votes many few depth calls p known).room, few_entries (row_of (after_all depth (new n votes) calls) p).status))
      fault (omega (arith, sound.ledgers_are, sound.rows_are)) call

  -- who takes no part stays as it began
  outside : (p : ℕ) → n ≤ p → (row_of (after_all depth (new n votes) calls) p).round ≡ 0
  outside = (plain_run depth n votes few (λ s. (p : ℕ) → n ≤ p → (row_of s p).round ≡ 0) start kept calls).1
    where
      start : (p : ℕ) → n ≤ p → (row_of (new n votes) p).round ≡ 0
      start p past = grind (arith, nat_tests)

      kept : (s s' : State) (p : ℕ) (input : Input) (r : Response) → Sound n votes s → Move s p input r s' → ((p : ℕ) → n ≤ p → (row_of s p).round ≡ 0) → (p : ℕ) → n ≤ p → (row_of s' p).round ≡ 0
      kept s s' p input r sound move before a past = grind (arith, nat_tests)

  pub few_rounds : FewRounds depth n votes calls
  few_rounds p = ⊎_elim inside (λ past. omega (arith, outside p past)) (cases_lt p n)
    where
      inside : p < n → (row_of (after_all depth (new n votes) calls) p).round ≤ 7
      inside known =
          let notes = (each_run n votes many few depth calls p known).notes in
          omega (arith, count_below (row_of (after_all depth (new n votes) calls) p).noticed.members p (omega (arith, notes.noticed_long)) notes.not_itself, notes.rounds, notes.noticed_long)
