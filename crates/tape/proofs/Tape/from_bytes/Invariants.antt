use Rattle.std.proofs.Common.{◌≡◌, ◌+◌, ◌*◌, [], length}
use Rattle.tape.specs.Bytes.{read_after}
use Rattle.tape.specs.Tape.{records_of}
use Rattle.tape.proofs.Tape.from_bytes.Given as goal

-- what is left to read, after what was read, gives the same
abbrev pub invariant-loop-ledger : goal.invariant-loop-ledger
invariant-loop-ledger l =
    record {
      same : read_after (records_of l.tape) l.left ≡ read_after [] l.bytes;
      long : 4 * length (records_of l.tape) + length l.left ≡ length l.bytes;
    }

abbrev pub decreases-loop-ledger : goal.decreases-loop-ledger
decreases-loop-ledger l = length l.left
