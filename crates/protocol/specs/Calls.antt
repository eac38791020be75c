-- What each call answers, and the floor afterwards.
use Rattle.std.specs.Prelude.{ℕ, Bool, cond, not, ◌&&◌, is_some, is_ok, Some, None, Ok, Err, Option, Result, ◌==◌}
use Rattle.journals.specs.Calls.{read_answer}
use Rattle.journals.specs.declared.entry.Entry.TheVariants.{Begin}
use Rattle.network.specs.Links.{look_answer, take_after}
use Rattle.network.specs.declared.fault.NetworkFault.{NetworkFault}
use Rattle.network.specs.declared.message.Message.{Message}
use Rattle.rules.specs.Ledgers.{is_in}
use Rattle.rules.specs.Rules.{in_stage, on_expiry, on_message, on_step}
use Rattle.rules.specs.Stages.{held, initial}
use Rattle.rules.specs.declared.effect.Effect.TheVariants.{Write}
use Rattle.rules.specs.declared.effect.Response.{Response}
use Rattle.rules.specs.declared.stage.Stage.TheVariants.{Preparing}
use Rattle.rules.specs.declared.stage.Status.{Status}
use Rattle.rules.specs.declared.stage.Status.TheVariants.{Stopped, Restarted}
use Rattle.protocol.specs.Perform.{from_journals, perform_after, perform_answer, with_row}
use Rattle.protocol.specs.Recovery.{finding}
use Rattle.protocol.specs.Refusals.{check}
use Rattle.protocol.specs.State.{State, fresh, has, known, member_of, row_of, runs, stopped}
use Rattle.protocol.specs.declared.delivery.Delivery.{Delivery}
use Rattle.protocol.specs.declared.delivery.Delivery.TheVariants.{Delivered, Discarded}
use Rattle.protocol.specs.declared.fault.FloorFault.{FloorFault}
use Rattle.protocol.specs.declared.fault.FloorFault.TheVariants.{Refused, Link}
use Rattle.protocol.specs.declared.fault.FloorRefusal.{FloorRefusal}
use Rattle.protocol.specs.declared.fault.FloorRefusal.TheVariants.{UnknownLedger, NotRunning, NotStopped, Begun, Idle, NotWaiting, Noticed}
use Rattle.protocol.specs.declared.recovery.Finding.{Finding}
use Rattle.protocol.specs.declared.recovery.Recovery.{Recovery}

-- a refused call leaves the floor as it was
abbrev pub unless_refused : {A : Type 0} → Result A FloorFault → State → State → State
unless_refused answer after s = cond (is_ok answer) after s

-- 2, 3: the ledger is one of the floor's, and runs
abbrev pub if_running : {A : Type 0} → State → ℕ → ℕ → Result A FloorFault → Result A FloorFault
if_running s p other rest =
    check (known s p) (Refused UnknownLedger p other) (check (runs (row_of s p).status) (Refused NotRunning p other) rest)

-- begin: 2, 3, 5; the coordinator writes 1 and enters Preparing
abbrev pub begin_answer : ℕ → State → Result Unit FloorFault
begin_answer depth s =
    if_running s 0 255 (check (initial (row_of s 0).stage) (Refused Begun 0 255) (perform_answer depth s 0 (Write Begin)))

abbrev pub begin_after : ℕ → State → State
begin_after depth s =
    unless_refused (begin_answer depth s) (perform_after depth s 0 (in_stage (row_of s 0) (Preparing 1)) (Write Begin)) s

-- step: 2, 3, 6, 8
abbrev pub act_answer : ℕ → State → ℕ → Option Response → Result Unit FloorFault
act_answer depth s p None = Err (Refused Idle p 255)
act_answer depth s p (Some response) = perform_answer depth s p response.effect

abbrev pub act_after : ℕ → State → ℕ → Option Response → State
act_after depth s p None = s
act_after depth s p (Some response) = perform_after depth s p response.row response.effect

abbrev pub step_answer : ℕ → State → ℕ → Result Unit FloorFault
step_answer depth s p = if_running s p 255 (act_answer depth s p (on_step (member_of s p) (row_of s p)))

abbrev pub step_after : ℕ → State → ℕ → State
step_after depth s p = unless_refused (step_answer depth s p) (act_after depth s p (on_step (member_of s p) (row_of s p))) s

-- expire: 2, 3, 9, 10. Two different ledgers of the floor are named
abbrev pub pair : State → ℕ → ℕ → Bool
pair s p q = known s p && (known s q && not (p == q))

-- an undecided ledger waits, but not the coordinator before it begins
abbrev pub waits : State → ℕ → Bool
waits s p = not (is_some (held (row_of s p).stage)) && not (p == 0 && initial (row_of s p).stage)

abbrev pub need : {A : Type 0} → Bool → FloorRefusal → Result A FloorRefusal → Result A FloorRefusal
need holds refusal rest = cond holds rest (Err refusal)

abbrev pub expiry_of : State → ℕ → ℕ → Result Response FloorRefusal
expiry_of s p q =
    need (pair s p q) UnknownLedger
    (need (runs (row_of s p).status) NotRunning
    (need (waits s p) NotWaiting
    (need (not (is_in (row_of s p).noticed q)) Noticed (Ok (on_expiry (member_of s p) (row_of s p) q)))))

abbrev pub do_answer : ℕ → State → ℕ → ℕ → Result Response FloorRefusal → Result Unit FloorFault
do_answer depth s p q (Ok response) = perform_answer depth s p response.effect
do_answer depth s p q (Err refusal) = Err (Refused refusal p q)

abbrev pub do_after : ℕ → State → ℕ → Result Response FloorRefusal → State
do_after depth s p (Ok response) = perform_after depth s p response.row response.effect
do_after depth s p (Err refusal) = s

abbrev pub expire_answer : ℕ → State → ℕ → ℕ → Result Unit FloorFault
expire_answer depth s p q = do_answer depth s p q (expiry_of s p q)

abbrev pub expire_after : ℕ → State → ℕ → ℕ → State
expire_after depth s p q = do_after depth s p (expiry_of s p q)

-- stop: 2, 3. Nothing of the row is left; the journal and what was sent remain
abbrev pub stop_answer : State → ℕ → Result Unit FloorFault
stop_answer s p = if_running s p 255 (Ok tt)

abbrev pub stop_after : State → ℕ → State
stop_after s p = unless_refused (stop_answer s p) (with_row s p (fresh Stopped)) s

-- deliver: 2, 7, 8. A ledger that does not run gets nothing: the message is discarded
abbrev pub respond : State → ℕ → ℕ → Message → Response
respond s q p message = on_message (member_of s p) (row_of s p) q message (has 10 (s.entries p))

-- a call that was carried out answers this
abbrev pub answered : {A : Type 0} → A → Result Unit FloorFault → Result A FloorFault
answered x (Ok y) = Ok x
answered x (Err fault) = Err fault

abbrev pub looked_answer : ℕ → State → ℕ → ℕ → Result Message NetworkFault → Result Delivery FloorFault
looked_answer depth s q p (Ok message) =
    cond (runs (row_of s p).status) (answered Delivered (perform_answer depth s p (respond s q p message).effect)) (Ok Discarded)
looked_answer depth s q p (Err fault) = Err (Link fault)

abbrev pub deliver_answer : ℕ → State → ℕ → ℕ → Result Delivery FloorFault
deliver_answer depth s q p =
    check (pair s q p) (Refused UnknownLedger q p) (looked_answer depth s q p (look_answer s.links q p))

-- the first message is gone from the link
abbrev pub without_first : State → ℕ → ℕ → State
without_first s q p = record { ledgers = s.ledgers; votes = s.votes; rows = s.rows; links = take_after s.links q p; entries = s.entries; sent = s.sent }

abbrev pub looked_after : ℕ → State → ℕ → ℕ → Result Message NetworkFault → State
looked_after depth s q p (Ok message) =
    cond (runs (row_of s p).status)
    (without_first (perform_after depth s p (respond s q p message).row (respond s q p message).effect) q p)
    (without_first s q p)
looked_after depth s q p (Err fault) = s

abbrev pub deliver_after : ℕ → State → ℕ → ℕ → State
deliver_after depth s q p =
    unless_refused (deliver_answer depth s q p) (looked_after depth s q p (look_answer s.links q p)) s

-- restart: 2, 4. The ledger stays out of the batch, and tells what its journal says
abbrev pub restart_of : State → ℕ → Result Finding FloorRefusal
restart_of s p = need (known s p) UnknownLedger (need (stopped (row_of s p).status) NotStopped (Ok (finding (s.entries p))))

abbrev pub found_answer : ℕ → State → ℕ → Result Finding FloorRefusal → Result Recovery FloorFault
found_answer depth s p (Ok it) = answered it.recovery (perform_answer depth s p it.effect)
found_answer depth s p (Err refusal) = Err (Refused refusal p 255)

abbrev pub found_after : ℕ → State → ℕ → Result Finding FloorRefusal → State
found_after depth s p (Ok it) = perform_after depth s p (fresh Restarted) it.effect
found_after depth s p (Err refusal) = s

abbrev pub restart_answer : ℕ → State → ℕ → Result Recovery FloorFault
restart_answer depth s p = found_answer depth s p (restart_of s p)

abbrev pub restart_after : ℕ → State → ℕ → State
restart_after depth s p = found_after depth s p (restart_of s p)

-- status: 2
abbrev pub status_answer : State → ℕ → Result Status FloorFault
status_answer s p = check (known s p) (Refused UnknownLedger p 255) (Ok (row_of s p).status)

-- read: the journals' own answer
abbrev pub read_of : State → ℕ → ℕ → Result ℕ FloorFault
read_of s p place = from_journals (read_answer s.entries p place)
