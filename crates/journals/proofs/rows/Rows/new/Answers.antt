use Rattle.journals.specs.RowFacts.{entries_none}
use Rattle.journals.proofs.rows.Rows.new.Goals as goal

pub returns : goal.returns
returns c = entries_none _ c.default-rows.ensures
