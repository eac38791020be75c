use Rattle.std.proofs.lemmas.Result.{IfOk-weaker}
use Rattle.floor.specs.State.{state}
use Rattle.script.proofs.Promised.{promised}
use Rattle.script.proofs.rehearsal.rehearse.Goals as goal

pub returns-clause-promises : goal.returns-clause-promises
returns-clause-promises g c =
    let links = g.N.Network.links c.args.network in
    let entries = g.J.Journals.entries c.args.journals in
    IfOk-weaker c.rehearsed.result _ _
    (λ it e. promised g.N.Network.DEPTH links entries g.met.N.Network.deep (g.met.N.Network.bounded c.args.network) (g.met.J.Journals.bounded c.args.journals) c.args.script.now (state it.floor) e)
    c.rehearsed.ensures.floor
