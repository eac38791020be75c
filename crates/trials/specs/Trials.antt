-- The openings, journals, tapes and runs that are tried, over links that hold one message.
use Rattle.std.specs.Prelude.{ℕ, Bool, List, [], ◌∷◌, replicate, Ok, Err, Result}
use Rattle.journals.specs.Calls.{no_entries}
use Rattle.network.specs.Links.{no_links}
use Rattle.network.specs.declared.message.Vote.{Vote}
use Rattle.network.specs.declared.message.Vote.TheVariants.{Yes, No}
use Rattle.protocol.specs.Opening.{open_answer}
use Rattle.protocol.specs.Refusals.{fault_number}
use Rattle.protocol.specs.State.{State}
use Rattle.protocol.specs.declared.call.Call.{Call}
use Rattle.protocol.specs.declared.call.Call.TheVariants.{Begin, Step, Deliver, Expire, Stop, Restart}
use Rattle.protocol.specs.declared.fault.FloorFault.{FloorFault}
use Rattle.promises.specs.Promises.{end}
use Rattle.promises.specs.Runs.{added, happened, new}

-- 0, or the number of the refusal
abbrev pub number : Result Unit FloorFault → ℕ
number (Ok x) = 0
number (Err fault) = fault_number fault

-- opening n ledgers with these votes
abbrev pub opening : ℕ → List ℕ → ℕ
opening n numbers = number (open_answer no_links no_entries n numbers)

abbrev pub all_yes : List Vote
all_yes = replicate 8 Yes

abbrev pub one_no : List Vote
one_no = Yes ∷ No ∷ replicate 6 Yes

-- two ledgers, where every message is delivered
abbrev pub whole : List Call
whole = Begin ∷ Step 0 ∷ Deliver 0 1 ∷ Step 1 ∷ Deliver 1 0 ∷ Step 0 ∷ Step 0 ∷ Deliver 0 1 ∷ Step 1 ∷ Step 1 ∷ Deliver 1 0 ∷ []

-- ledger 0 has posted, and ledger 1 gives it up while its Order is on its way
abbrev pub hasty : List Call
hasty = Begin ∷ Step 0 ∷ Deliver 0 1 ∷ Step 1 ∷ Deliver 1 0 ∷ Step 0 ∷ Step 0 ∷ Expire 1 0 ∷ Step 1 ∷ Step 1 ∷ Deliver 0 1 ∷ Deliver 1 0 ∷ []

-- ledger 0 stops after its Prepare; ledger 1 notices it on time, leads alone and drops, and ledger 0 restarts
abbrev pub left_alone : List Call
left_alone = Begin ∷ Step 0 ∷ Stop 0 ∷ Deliver 0 1 ∷ Step 1 ∷ Deliver 1 0 ∷ Expire 1 0 ∷ Step 1 ∷ Step 1 ∷ Deliver 1 0 ∷ Restart 0 ∷ []

-- ledger 0 stops before it begins, and ledger 1 notices it
abbrev pub orphaned : List Call
orphaned = Stop 0 ∷ Expire 1 0 ∷ Step 1 ∷ Step 1 ∷ Deliver 1 0 ∷ []

-- the end of a run of two ledgers that vote yes
abbrev pub end_of : List Call → State
end_of calls = end 1 2 all_yes calls

-- whether something happened in such a run
abbrev pub happened_in : List Call → (ℕ → State → Call → Bool) → Bool
happened_in calls event = happened event 1 (new 2 all_yes) calls

-- what such a run added
abbrev pub added_in : List Call → (ℕ → State → Call → ℕ) → ℕ
added_in calls count = added count 1 (new 2 all_yes) calls
