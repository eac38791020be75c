use Rattle.std.proofs.Common.{◌≡◌, ◌*◌, take, drop}
use Rattle.tape.specs.Bytes.{laid}
use Rattle.tape.specs.Tape.{records_of}
use Rattle.tape.proofs.Tape.write_to.Given as goal

-- the first records lie at the front, and the rest is as it was
abbrev pub invariant-loop-next : goal.invariant-loop-next
invariant-loop-next l =
    (records_of l.before ≡ take l.next-index (records_of l.self))
    × (take (4 * l.next-index) l.buffer ≡ laid (take l.next-index (records_of l.self)))
    × (drop (4 * l.next-index) l.buffer ≡ drop (4 * l.next-index) l.initial.buffer)
