-- A call that carries out what its ledger found to do answers and leaves what is defined of it.
use Rattle.std.proofs.Common.{◌≡◌, ℕ, Bool, true, false, cond, is_ok, ok_or, Some, None, Ok, Option, Result, refl, ◌∙◌, ap}
use Rattle.rules.specs.Rules.{in_stage, on_step, quiet}
use Rattle.rules.specs.Stages.{initial}
use Rattle.rules.specs.declared.effect.Effect.TheVariants.{Write}
use Rattle.rules.specs.declared.effect.Response.{Response}
use Rattle.rules.specs.declared.stage.Stage.TheVariants.{Preparing}
use Rattle.rules.specs.declared.stage.Status.TheVariants.{Stopped}
use Rattle.journals.specs.declared.entry.Entry.TheVariants.{Begin as BegunEntry}
use Rattle.protocol.specs.Calls.{act_after, act_answer, begin_after, begin_answer, do_after, do_answer, if_running, need, step_after, step_answer, stop_after, stop_answer, unless_refused}
use Rattle.protocol.specs.Plans.{begin_of, step_of, stop_of}
use Rattle.protocol.specs.Perform.{perform_after, perform_answer, with_row}
use Rattle.protocol.specs.Refusals.{check}
use Rattle.protocol.specs.State.{State, fresh, known, member_of, row_of, runs}
use Rattle.protocol.specs.declared.fault.FloorFault.{FloorFault}
use Rattle.protocol.specs.declared.fault.FloorFault.TheVariants.{Refused}
use Rattle.protocol.specs.declared.fault.FloorRefusal.{FloorRefusal}
use Rattle.protocol.specs.declared.fault.FloorRefusal.TheVariants.{Begun, Idle, NotRunning, UnknownLedger}

twice : {A : Type 0} (test : Bool) (x y : A) → cond test x y ≡ cond test (cond test x y) y
twice true x y = refl
twice false x y = refl

module _ (depth : ℕ) (s : State) (p q : ℕ) where
  -- where the ledger is known and runs, it is the plan that is carried out
  running_answer : (there running : Bool) (plan : Result Response FloorRefusal)
      → do_answer depth s p q (need there UnknownLedger (need running NotRunning plan))
      ≡ check there (Refused UnknownLedger p q) (check running (Refused NotRunning p q) (do_answer depth s p q plan))
  running_answer true true plan = refl
  running_answer true false plan = refl
  running_answer false running plan = refl

  running_after : (there running : Bool) (plan : Result Response FloorRefusal) (answer : Result (Unit {0}) FloorFault) (after : State)
      → do_after depth s p plan ≡ unless_refused answer after s
      → do_after depth s p (need there UnknownLedger (need running NotRunning plan))
      ≡ unless_refused (check there (Refused UnknownLedger p q) (check running (Refused NotRunning p q) answer)) after s
  running_after true true plan answer after e = e
  running_after true false plan answer after e = refl
  running_after false running plan answer after e = refl

module _ (depth : ℕ) (s : State) where
  begins : (first : Bool) (response : Response)
      → do_answer depth s 0 255 (need first Begun (Ok response)) ≡ check first (Refused Begun 0 255) (perform_answer depth s 0 response.effect)
  begins true response = refl
  begins false response = refl

  begun : (first : Bool) (response : Response)
      → do_after depth s 0 (need first Begun (Ok response))
      ≡ unless_refused (check first (Refused Begun 0 255) (perform_answer depth s 0 response.effect)) (perform_after depth s 0 response.row response.effect) s
  begun true response = twice (is_ok (perform_answer depth s 0 response.effect)) _ s
  begun false response = refl

  pub begin_same : do_answer depth s 0 255 (begin_of s) ≡ begin_answer depth s
  begin_same =
      let first = initial (row_of s 0).stage in
      let response : Response = record { row = in_stage (row_of s 0) (Preparing 1); effect = Write BegunEntry } in
      running_answer depth s 0 255 (known s 0) (runs (row_of s 0).status) (need first Begun (Ok response))
      ∙ ap (λ rest. if_running s 0 255 rest) (begins first response)

  pub begin_leaves : do_after depth s 0 (begin_of s) ≡ begin_after depth s
  begin_leaves = running_after depth s 0 255 (known s 0) (runs (row_of s 0).status) _ _ _ (begun (initial (row_of s 0).stage) _)

  module _ (p : ℕ) where
    acts : (found : Option Response) → do_answer depth s p 255 (ok_or found Idle) ≡ act_answer depth s p found
    acts None = refl
    acts (Some response) = refl

    acted : (found : Option Response) → do_after depth s p (ok_or found Idle) ≡ unless_refused (act_answer depth s p found) (act_after depth s p found) s
    acted None = refl
    acted (Some response) = twice (is_ok (perform_answer depth s p response.effect)) _ s

    pub step_same : do_answer depth s p 255 (step_of s p) ≡ step_answer depth s p
    step_same =
        let found = on_step (member_of s p) (row_of s p) in
        running_answer depth s p 255 (known s p) (runs (row_of s p).status) (ok_or found Idle) ∙ ap (λ rest. if_running s p 255 rest) (acts found)

    pub step_leaves : do_after depth s p (step_of s p) ≡ step_after depth s p
    step_leaves = running_after depth s p 255 (known s p) (runs (row_of s p).status) _ _ _ (acted (on_step (member_of s p) (row_of s p)))

    pub stop_same : do_answer depth s p 255 (stop_of s p) ≡ stop_answer s p
    stop_same = running_answer depth s p 255 (known s p) (runs (row_of s p).status) (Ok (quiet (fresh Stopped)))

    pub stop_leaves : do_after depth s p (stop_of s p) ≡ stop_after s p
    stop_leaves = running_after depth s p 255 (known s p) (runs (row_of s p).status) (Ok (quiet (fresh Stopped))) (Ok tt) (with_row s p (fresh Stopped)) refl
