use Rattle.std.proofs.Common.{sym, ◌∙◌, arith}
use Rattle.tape.specs.Tape.{records_of}
use Rattle.tape.specs.RecordFacts.{latest_within}
use Rattle.tape.proofs.Tape.next_trailer.Goals as goal

pub overflow_sub-result : goal.overflow_sub-result
overflow_sub-result c =
    omega (arith, latest_within c.args.ledger (records_of c.args.self.now) c.in-Some.earlier (sym c.latest_of.ensures ∙ c.in-Some.is), c.len.ensures.value)
