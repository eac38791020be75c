use Rattle.std.proofs.Common.{rules}
use Rattle.pool.proofs.PoolFacts.{lawful_left, links_left, taken_there}
use Rattle.pool.proofs.Pool.take_first.Goals as goal

pub invariant_of-self : goal.invariant_of-self
invariant_of-self c =
    record { kept = lawful_left c.args.self.now c.args.link.sender c.args.link.receiver c.in_ok-i.i c.as_slice.result.now _ (search rules) (search rules) (search rules) }

pub returns-clause-value : goal.returns-clause-value
returns-clause-value c =
    taken_there c.args.self.now c.args.link.sender c.args.link.receiver c.in_ok-i.i c.as_slice.result.now _ (search rules) (search rules) c.remove.ensures.items c.remove.result c.remove.ensures.value

pub returns-clause-after : goal.returns-clause-after
returns-clause-after c = links_left c.args.self.now c.args.link.sender c.args.link.receiver c.in_ok-i.i c.as_slice.result.now _ (search rules) (search rules) (search rules)
