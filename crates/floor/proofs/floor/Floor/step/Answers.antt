use Rattle.protocol.proofs.SameCalls.{step_leaves, step_same}
use Rattle.floor.specs.State.{state}
use Rattle.floor.proofs.floor.Floor.step.Goals as goal

pub returns : goal.returns
returns g c =
    let depth = g.N.Network.DEPTH in
    let before = state c.args.self.now in
    let answers = step_same depth before c.args.ledger in
    let leaves = step_leaves depth before c.args.ledger in
    record { answer = cc; after = cc }
