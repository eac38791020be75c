use Rattle.std.proofs.Common.{rules}
use Rattle.floor.proofs.Below.{below_from_all}
use Rattle.floor.proofs.floor.opening.votes_fit.Goals as goal

pub returns : goal.returns
returns c = below_from_all c.all.ensures.ran (search rules) (search rules)
