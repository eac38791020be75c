-- What each call of one ledger finds to do, any of the calls, and calls one after the other.
use Rattle.std.specs.Prelude.{ℕ, List, [], ◌∷◌, Ok, Err, Result}
use Rattle.std.specs.Option.{ok_or}
use Rattle.journals.specs.declared.entry.Entry.TheVariants.{Begin as BegunEntry}
use Rattle.rules.specs.Rules.{in_stage, on_step, quiet}
use Rattle.rules.specs.Stages.{initial}
use Rattle.rules.specs.declared.effect.Effect.TheVariants.{Write}
use Rattle.rules.specs.declared.effect.Response.{Response}
use Rattle.rules.specs.declared.stage.Stage.TheVariants.{Preparing}
use Rattle.rules.specs.declared.stage.Status.TheVariants.{Stopped}
use Rattle.protocol.specs.Calls.{answered, begin_after, begin_answer, deliver_after, deliver_answer, expire_after, expire_answer, need, restart_after, restart_answer, step_after, step_answer, stop_after, stop_answer}
use Rattle.protocol.specs.State.{State, fresh, known, member_of, row_of, runs}
use Rattle.protocol.specs.declared.call.Answer.{Answer}
use Rattle.protocol.specs.declared.call.Answer.TheVariants.{Done, Message as Met, Recovered}
use Rattle.protocol.specs.declared.call.Call.{Call}
use Rattle.protocol.specs.declared.call.Call.TheVariants.{Begin, Step, Deliver, Expire, Stop, Restart}
use Rattle.protocol.specs.declared.delivery.Delivery.{Delivery}
use Rattle.protocol.specs.declared.fault.FloorFault.{FloorFault}
use Rattle.protocol.specs.declared.fault.FloorRefusal.{FloorRefusal}
use Rattle.protocol.specs.declared.fault.FloorRefusal.TheVariants.{UnknownLedger, NotRunning, Begun, Idle}
use Rattle.protocol.specs.declared.recovery.Recovery.{Recovery}

-- what a call of one ledger finds to do: 2, 3, and then the rest
abbrev pub plan_of_running : State → ℕ → Result Response FloorRefusal → Result Response FloorRefusal
plan_of_running s p rest = need (known s p) UnknownLedger (need (runs (row_of s p).status) NotRunning rest)

abbrev pub begin_of : State → Result Response FloorRefusal
begin_of s =
    plan_of_running s 0
    (need (initial (row_of s 0).stage) Begun (Ok (record { row = in_stage (row_of s 0) (Preparing 1); effect = Write BegunEntry })))

abbrev pub step_of : State → ℕ → Result Response FloorRefusal
step_of s p = plan_of_running s p (ok_or (on_step (member_of s p) (row_of s p)) Idle)

abbrev pub stop_of : State → ℕ → Result Response FloorRefusal
stop_of s p = plan_of_running s p (Ok (quiet (fresh Stopped)))

-- any of these calls
abbrev pub met : Result Delivery FloorFault → Result Answer FloorFault
met (Ok delivery) = Ok (Met delivery)
met (Err fault) = Err fault

abbrev pub recovered : Result Recovery FloorFault → Result Answer FloorFault
recovered (Ok recovery) = Ok (Recovered recovery)
recovered (Err fault) = Err fault

abbrev pub call_answer : ℕ → State → Call → Result Answer FloorFault
call_answer depth s Begin = answered Done (begin_answer depth s)
call_answer depth s (Step p) = answered Done (step_answer depth s p)
call_answer depth s (Deliver q p) = met (deliver_answer depth s q p)
call_answer depth s (Expire p q) = answered Done (expire_answer depth s p q)
call_answer depth s (Stop p) = answered Done (stop_answer s p)
call_answer depth s (Restart p) = recovered (restart_answer depth s p)

abbrev pub call_after : ℕ → State → Call → State
call_after depth s Begin = begin_after depth s
call_after depth s (Step p) = step_after depth s p
call_after depth s (Deliver q p) = deliver_after depth s q p
call_after depth s (Expire p q) = expire_after depth s p q
call_after depth s (Stop p) = stop_after s p
call_after depth s (Restart p) = restart_after depth s p

-- the floor after these calls, one after the other, each taken or refused
abbrev pub after_all : ℕ → State → List Call → State
after_all depth s [] = s
after_all depth s (call ∷ calls) = after_all depth (call_after depth s call) calls
