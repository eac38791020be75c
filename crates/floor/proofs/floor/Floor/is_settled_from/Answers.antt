use Rattle.std.proofs.Common.{rules}
use Rattle.floor.proofs.Below.{below_from_all}
use Rattle.floor.proofs.floor.Floor.is_settled_from.Goals as goal

pub returns : goal.returns
returns g c = below_from_all c.all.ensures.ran (search rules) (search rules)
