-- What holds of every run of n ledgers, 2 to 8, over links of every depth.
use Rattle.std.specs.Prelude.{◌≡◌, ℕ, ◌+◌, ◌-◌, ◌*◌, ◌/◌, ◌<◌, ◌≤◌, true, false, ◌||◌, ◌≢◌, ◌⊎◌, List, length, Some, Err, slice_index_or}
use Rattle.journals.specs.declared.fault.JournalsFault.{JournalsFault}
use Rattle.network.specs.declared.message.Decision.{Decision}
use Rattle.network.specs.declared.message.Decision.TheVariants.{Post, Drop}
use Rattle.network.specs.declared.message.Vote.{Vote}
use Rattle.network.specs.declared.message.Vote.TheVariants.{Yes}
use Rattle.rules.specs.Stages.{held}
use Rattle.protocol.specs.Plans.{after_all, call_answer}
use Rattle.protocol.specs.Rest.{alive, all_clear, at_rest, on_time}
use Rattle.protocol.specs.State.{State, has, row_of}
use Rattle.protocol.specs.declared.call.Call.{Call}
use Rattle.protocol.specs.declared.call.Call.TheVariants.{Step, Deliver, Expire}
use Rattle.protocol.specs.declared.fault.FloorFault.TheVariants.{Journal}
use Rattle.promises.specs.Runs.{added, begins, counts_taken, early, happened, has_obeyed, loses_coordinator, new, sends, step_obeys, taken}

abbrev pub opposite : Decision → Decision
opposite Post = Drop
opposite Drop = Post

-- the most messages that n ledgers send: Prepares and Votes, Orders, Asks and Replies
abbrev pub most_messages : ℕ → ℕ
most_messages n = 2 * (n - 1) + n * (n - 1) + n * (n - 1) * (n - 2) / 3

-- the most calls that are taken
abbrev pub most_calls : ℕ → ℕ
most_calls n = 2 * most_messages n + n * (n + 3)

module _ (depth n : ℕ) (votes : List Vote) (calls : List Call) where
  -- the floor at the end of the run
  abbrev pub end : State
  end = after_all depth (new n votes) calls

  -- a journal holds a post only if every vote was yes
  abbrev pub PostIsWanted : Type 0
  PostIsWanted = (p q : ℕ) → p < n → q < n → has_obeyed end p Post ≡ true → slice_index_or votes q Yes ≡ Yes

  -- if every expiry taken was on time, no two journals hold opposite decisions and none holds a dispute
  abbrev pub Agreement : Type 0
  Agreement =
      happened early depth (new n votes) calls ≡ false
      → (p q : ℕ) → p < n → q < n
      → (has_obeyed end p Post ≡ true → has_obeyed end q Drop ≡ false) × (has 10 (end.entries p) ≡ false)

  -- early or not, while no link holds a message: who runs and holds the opposite of what a step of another wrote has a dispute
  abbrev pub DisputesShown : Type 0
  DisputesShown =
      all_clear end ≡ true
      → (p w : ℕ) (decision : Decision) → p < n → w < n → p ≢ w
      → happened (step_obeys w decision) depth (new n votes) calls ≡ true
      → alive end p ≡ true
      → held (row_of end p).stage ≡ Some (opposite decision)
      → has 10 (end.entries p) ≡ true

  -- a step, a delivery or an on-time expiry that would be taken
  abbrev pub Next : Call → Type 0
  Next call =
      (taken depth end call ≡ true)
      × (((p : ℕ) × (call ≡ Step p)) ⊎ (((q : ℕ) × (p : ℕ) × (call ≡ Deliver q p)) ⊎ ((p : ℕ) × (q : ℕ) × (call ≡ Expire p q) × (on_time end q ≡ true))))

  -- a floor that is not at rest would take one of these next
  abbrev pub Progress : Type 0
  Progress = at_rest end ≡ false → (call : Call) × Next call

  -- at rest, if a begin was taken or the coordinator stopped, every running ledger's journal holds a decision
  abbrev pub AllDecided : Type 0
  AllDecided =
      at_rest end ≡ true
      → (happened begins depth (new n votes) calls || happened loses_coordinator depth (new n votes) calls) ≡ true
      → (p : ℕ) → p < n → alive end p ≡ true
      → (has_obeyed end p Post || has_obeyed end p Drop) ≡ true

  -- the total is the number of messages sent, and bounded
  abbrev pub FewMessages : Type 0
  FewMessages = (end.sent ≡ added sends depth (new n votes) calls) × (end.sent ≤ most_messages n)

  -- so many calls are taken at the most, so that the calls of Progress come to rest
  abbrev pub Ends : Type 0
  Ends = added counts_taken depth (new n votes) calls ≤ most_calls n

  -- no call comes back with a full journal, or any other refusal of the journals
  abbrev pub JournalsSuffice : Type 0
  JournalsSuffice = (call : Call) (fault : JournalsFault) → call_answer depth end call ≢ Err (Journal fault)

  -- no ledger leads more than seven times
  abbrev pub FewRounds : Type 0
  FewRounds = (p : ℕ) → (row_of end p).round ≤ 7

  pub record Promises : Type 0 where
    pub post_is_wanted : PostIsWanted
    pub agreement : Agreement
    pub disputes_shown : DisputesShown
    pub progress : Progress
    pub all_decided : AllDecided
    pub few_messages : FewMessages
    pub ends : Ends
    pub journals_suffice : JournalsSuffice
    pub few_rounds : FewRounds

-- every run keeps the promises
abbrev pub Kept : Type 0
Kept =
    (depth n : ℕ) (votes : List Vote) (calls : List Call) → 1 ≤ depth → 2 ≤ n → n ≤ 8 → length votes ≡ 8 → Promises depth n votes calls

-- the promises of a state: they hold of each run that leads to it
abbrev pub Promised : ℕ → State → Type 0
Promised depth s =
    (n : ℕ) (votes : List Vote) (calls : List Call) → 2 ≤ n → n ≤ 8 → length votes ≡ 8 → s ≡ after_all depth (new n votes) calls → Promises depth n votes calls
