use Rattle.std.proofs.Common.{rules, tests}
use Rattle.rules.proofs.Missing.{missing_from_find}
use Rattle.rules.proofs.ledger_set.first_missing.Goals as goal

pub returns : goal.returns
returns c = missing_from_find c.args.one c.args.other c.args.from c.args.end _ _ c.find.ensures.ran (search rules) (λ x b q k. search (rules, tests))
