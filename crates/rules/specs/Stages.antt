-- The stages of a ledger.
use Rattle.std.specs.Prelude.{Bool, true, false, Some, None, Option}
use Rattle.network.specs.declared.message.Decision.{Decision}
use Rattle.rules.specs.declared.stage.Stage.{Stage}
use Rattle.rules.specs.declared.stage.Stage.TheVariants.{Initial, Preparing, Wait, Voting, Ready, Asking, Consulting, Announcing, Announced, Decided}

-- only the last three hold a decision; the others are undecided
abbrev pub held : Stage → Option Decision
held Initial = None
held (Preparing next) = None
held Wait = None
held Voting = None
held Ready = None
held (Asking next) = None
held Consulting = None
held (Announcing decision next) = Some decision
held (Announced decision) = Some decision
held (Decided decision) = Some decision

-- votes count only at Preparing and Wait
abbrev pub counts : Stage → Bool
counts Initial = false
counts (Preparing next) = true
counts Wait = true
counts Voting = false
counts Ready = false
counts (Asking next) = false
counts Consulting = false
counts (Announcing decision next) = false
counts (Announced decision) = false
counts (Decided decision) = false

-- a leader asks the higher ledgers, or waits for their replies
abbrev pub leads : Stage → Bool
leads Initial = false
leads (Preparing next) = false
leads Wait = false
leads Voting = false
leads Ready = false
leads (Asking next) = true
leads Consulting = true
leads (Announcing decision next) = false
leads (Announced decision) = false
leads (Decided decision) = false

-- nothing has been done yet
abbrev pub initial : Stage → Bool
initial Initial = true
initial (Preparing next) = false
initial Wait = false
initial Voting = false
initial Ready = false
initial (Asking next) = false
initial Consulting = false
initial (Announcing decision next) = false
initial (Announced decision) = false
initial (Decided decision) = false
