use Rattle.std.proofs.Common.{◌≡◌, ◌+◌, [], ◌∷◌, rules, lit<}
use Rattle.std.proofs.lemmas.Fmt.{decimal_digit}
use Rattle.std.specs.Fmt.{decimal}
use Rattle.protocol.specs.Worklist.{reason_number}
use Rattle.protocol.specs.declared.note.Reason.{Reason}
use Rattle.protocol.specs.declared.note.Reason.TheVariants.{Uncertain, Disputed}
use Rattle.script.proofs.work.push_note.Goals as goal

one_digit : (reason : Reason) → decimal (reason_number reason) ≡ (48 + reason_number reason) ∷ []
one_digit Uncertain = decimal_digit 1 (lit< tt)
one_digit Disputed = decimal_digit 2 (lit< tt)

pub returns : goal.returns
returns c = let digit = one_digit c.args.note.reason in search rules
