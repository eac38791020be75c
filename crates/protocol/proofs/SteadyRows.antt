-- What one ledger does leaves its row steady: a decision that it holds stays, and it keeps its status.
use Rattle.std.proofs.Common.{◌≡◌, ℕ, Bool, true, false, IfSome, None, arith}
use Rattle.network.specs.declared.message.Message.{Message}
use Rattle.rules.specs.Rules.{on_expiry, on_message, on_step}
use Rattle.rules.specs.Stages.{held, initial}
use Rattle.rules.specs.declared.row.Member.{Member}
use Rattle.rules.specs.declared.row.Row.{Row}
use Rattle.rules.specs.declared.stage.Stage.{Stage}
use Rattle.protocol.specs.Laws.{Steady}
use Rattle.protocol.specs.State.{runs}

-- an undecided ledger may become what it will
pub undecided_steady : (row after : Row) → held row.stage ≡ None → after.status ≡ row.status → Steady row after
undecided_steady row after none status = grind arith

-- a ledger that does not run afterwards
pub out_steady : (row after : Row) → runs after.status ≡ false → Steady row after
out_steady row after out = grind arith

pub initial_undecided : (stage : Stage) → initial stage ≡ true → held stage ≡ None
initial_undecided stage e = grind arith

pub step_steady : (who : Member) (row : Row) → IfSome (on_step who row) (λ response. Steady row response.row)
step_steady who row = grind arith

pub message_steady : (who : Member) (row : Row) (q : ℕ) (message : Message) (disputed : Bool) → Steady row (on_message who row q message disputed).row
message_steady who row q message disputed = grind arith

pub expiry_status : (who : Member) (row : Row) (q : ℕ) → (on_expiry who row q).row.status ≡ row.status
expiry_status who row q = grind arith
