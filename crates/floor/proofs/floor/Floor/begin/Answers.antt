use Rattle.protocol.proofs.SameCalls.{begin_leaves, begin_same}
use Rattle.floor.specs.State.{state}
use Rattle.floor.proofs.floor.Floor.begin.Goals as goal

pub returns : goal.returns
returns g c =
    let depth = g.N.Network.DEPTH in
    let before = state c.args.self.now in
    let answers = begin_same depth before in
    let leaves = begin_leaves depth before in
    record { answer = cc; after = cc }
