use Rattle.protocol.proofs.LawfulCalls.{lawful}
use Rattle.floor.specs.State.{state}
use Rattle.floor.proofs.floor.Floor.call.Goals as goal

pub returns-clause-lawful : goal.returns-clause-lawful
returns-clause-lawful g c =
    rw (c.dispatch.ensures.answer, c.dispatch.ensures.after) (lawful g.N.Network.DEPTH (state c.args.self.now) c.args.call)
