use Rattle.journals.specs.RowFacts.{entries_pushed}
use Rattle.journals.proofs.rows.Rows.push.Goals as goal

pub returns : goal.returns
returns c =
    entries_pushed c.args.self.now _ _ c.index-self-index.result c.push.new.self c.args.entry c.index.ensures.place c.args.ledger.below c.push.ensures.items
