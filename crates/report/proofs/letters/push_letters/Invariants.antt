use Rattle.std.proofs.Common.{◌≡◌, true, ◌++◌, map, string_bytes}
use Rattle.std.specs.List.{AllByRecursion}
use Rattle.journals.specs.Calls.{left_from}
use Rattle.journals.specs.Codes.{is_code}
use Rattle.report.specs.Letters.{letter}
use Rattle.report.proofs.letters.push_letters.Given as goal

-- what is left to add
abbrev pub invariant-loop-code : goal.invariant-loop-code
invariant-loop-code g l =
    let left = left_from (g.J.Journals.entries l.code-iterator.journals.now) l.code-iterator.ledger l.code-iterator.place in
    let first = left_from (g.J.Journals.entries l.initial.code-iterator.journals.now) l.initial.code-iterator.ledger l.initial.code-iterator.place in
    record {
      added : string_bytes l.out ++ map letter left ≡ string_bytes l.initial.out ++ map letter first;
      known : AllByRecursion (λ c. is_code c ≡ true) left;
    }
