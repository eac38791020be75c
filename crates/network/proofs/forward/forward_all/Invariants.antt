use Rattle.std.proofs.Common.{◌≡◌, ◌-◌}
use Rattle.network.specs.Forward.{all_after, all_answer}
use Rattle.network.proofs.forward.forward_all.Given as goal

-- what is left to move comes to the same
abbrev pub invariant-loop-moved : goal.invariant-loop-moved
invariant-loop-moved g l =
    let depth = g.N.Network.DEPTH in
    let links = g.N.Network.links in
    (all_answer (l.most - l._moved) depth (links l.network) l.from l.to ≡ all_answer l.most depth (links l.initial.network) l.from l.to)
    × (all_after (l.most - l._moved) depth (links l.network) l.from l.to ≡ all_after l.most depth (links l.initial.network) l.from l.to)
