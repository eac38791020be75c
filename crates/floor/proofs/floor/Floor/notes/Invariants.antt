use Rattle.std.proofs.Common.{◌≡◌, ◌≤◌, length}
use Rattle.floor.specs.State.{state}
use Rattle.protocol.specs.Worklist.{notes_below}
use Rattle.floor.proofs.floor.Floor.notes.Given as goal

-- the notes of the ledgers so far, one of each at the most
abbrev pub invariant-loop-ledger : goal.invariant-loop-ledger
invariant-loop-ledger g l = (l.notes.items ≡ notes_below (state l.self) l.ledger) × (length l.notes.items ≤ l.ledger)
