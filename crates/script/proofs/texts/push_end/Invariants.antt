use Rattle.std.proofs.Common.{◌≡◌, ◌++◌, string_bytes}
use Rattle.floor.specs.State.{state}
use Rattle.script.specs.Texts.{ledger_texts}
use Rattle.script.proofs.texts.push_end.Given as goal

abbrev pub invariant-loop-ledger : goal.invariant-loop-ledger
invariant-loop-ledger g l =
    string_bytes l.text ≡ string_bytes l.initial.text ++ ledger_texts (state l.floor) l.ledger
