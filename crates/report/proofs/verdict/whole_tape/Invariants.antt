use Rattle.std.proofs.Common.{◌≡◌, string_bytes}
use Rattle.tape.specs.Tape.{entries_of}
use Rattle.report.specs.Verdict.{ledger_lines}
use Rattle.report.proofs.verdict.whole_tape.Given as goal

abbrev pub invariant-loop-ledger : goal.invariant-loop-ledger
invariant-loop-ledger l = string_bytes l.out ≡ ledger_lines (entries_of l.tape) l.ledger
