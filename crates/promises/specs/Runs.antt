-- Runs: a new floor, and calls one after the other, each taken or refused.
use Rattle.std.specs.Prelude.{ℕ, zero, suc, ◌+◌, ◌-◌, Bool, false, cond, not, ◌&&◌, ◌||◌, List, [], ◌∷◌, length, replicate, is_ok, ◌==◌}
use Rattle.journals.specs.Calls.{no_entries}
use Rattle.journals.specs.Codes.{code_of}
use Rattle.network.specs.Links.{no_links}
use Rattle.network.specs.declared.message.Decision.{Decision}
use Rattle.network.specs.declared.message.Vote.{Vote}
use Rattle.rules.specs.Entries.{obeyed}
use Rattle.rules.specs.declared.stage.Status.TheVariants.{Running}
use Rattle.protocol.specs.Plans.{call_after, call_answer}
use Rattle.protocol.specs.Rest.{on_time}
use Rattle.protocol.specs.State.{State, fresh, has}
use Rattle.protocol.specs.declared.call.Call.{Call}
use Rattle.protocol.specs.declared.call.Call.TheVariants.{Begin, Step, Deliver, Expire, Stop, Restart}

-- n ledgers with their votes: every ledger runs and is Initial, nothing is noticed, written or on its way
abbrev pub new : ℕ → List Vote → State
new n votes = record { ledgers = n; votes = votes; rows = replicate 8 (fresh Running); links = no_links; entries = no_entries; sent = 0 }

-- the call was not refused
abbrev pub taken : ℕ → State → Call → Bool
taken depth s call = is_ok (call_answer depth s call)

-- something that happened at one of the calls
abbrev pub happened : (ℕ → State → Call → Bool) → ℕ → State → List Call → Bool
happened event depth s [] = false
happened event depth s (call ∷ calls) = event depth s call || happened event depth (call_after depth s call) calls

-- what every call added, all together
abbrev pub added : (ℕ → State → Call → ℕ) → ℕ → State → List Call → ℕ
added count depth s [] = 0
added count depth s (call ∷ calls) = count depth s call + added count depth (call_after depth s call) calls

-- an expiry was taken that was not on time
abbrev pub early : ℕ → State → Call → Bool
early depth s Begin = false
early depth s (Step p) = false
early depth s (Deliver q p) = false
early depth s (Expire p q) = taken depth s (Expire p q) && not (on_time s q)
early depth s (Stop p) = false
early depth s (Restart p) = false

-- a begin was taken
abbrev pub begins : ℕ → State → Call → Bool
begins depth s Begin = taken depth s Begin
begins depth s (Step p) = false
begins depth s (Deliver q p) = false
begins depth s (Expire p q) = false
begins depth s (Stop p) = false
begins depth s (Restart p) = false

-- the coordinator stopped
abbrev pub loses_coordinator : ℕ → State → Call → Bool
loses_coordinator depth s Begin = false
loses_coordinator depth s (Step p) = false
loses_coordinator depth s (Deliver q p) = false
loses_coordinator depth s (Expire p q) = false
loses_coordinator depth s (Stop p) = p == 0 && taken depth s (Stop p)
loses_coordinator depth s (Restart p) = false

-- the journal of p has the entry by which the decision is obeyed: 8 or 9
abbrev pub has_obeyed : State → ℕ → Decision → Bool
has_obeyed s p decision = has (code_of (obeyed decision)) (s.entries p)

-- a step of w wrote this decision
abbrev pub step_obeys : ℕ → Decision → ℕ → State → Call → Bool
step_obeys w decision depth s Begin = false
step_obeys w decision depth s (Step p) = p == w && (not (has_obeyed s w decision) && has_obeyed (call_after depth s (Step p)) w decision)
step_obeys w decision depth s (Deliver q p) = false
step_obeys w decision depth s (Expire p q) = false
step_obeys w decision depth s (Stop p) = false
step_obeys w decision depth s (Restart p) = false

-- the sum of what a function gives for the numbers below this one
abbrev pub sum_below : (ℕ → ℕ) → ℕ → ℕ
sum_below f zero = 0
sum_below f (suc n) = sum_below f n + f n

-- how many messages are on their way
unfoldable pub on_the_way : State → ℕ
on_the_way s = sum_below (λ q. sum_below (λ p. length (s.links q p)) 8) 8

-- whether the call takes a message from its link
abbrev pub takes : ℕ → State → Call → ℕ
takes depth s Begin = 0
takes depth s (Step p) = 0
takes depth s (Deliver q p) = cond (taken depth s (Deliver q p)) 1 0
takes depth s (Expire p q) = 0
takes depth s (Stop p) = 0
takes depth s (Restart p) = 0

-- how many messages the call sent: what is on its way now and was not before, one more where one was taken
abbrev pub sends : ℕ → State → Call → ℕ
sends depth s call = (on_the_way (call_after depth s call) + takes depth s call) - on_the_way s

abbrev pub counts_taken : ℕ → State → Call → ℕ
counts_taken depth s call = cond (taken depth s call) 1 0
