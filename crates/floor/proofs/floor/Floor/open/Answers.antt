use Rattle.std.proofs.Common.{is_ok, sym, ap, ◌∙◌}
use Rattle.promises.proofs.Opened.{opened_new}
use Rattle.floor.proofs.floor.Floor.open.Goals as goal

pub returns-clause-fresh : goal.returns-clause-fresh
returns-clause-fresh g c ok =
    c.opened_or_closed.ensures.after
    ∙ opened_new (g.N.Network.links c.args.network) (g.J.Journals.entries c.args.journals) c.args.ledgers c.args.votes.now (g.met.N.Network.bounded c.args.network) (g.met.J.Journals.bounded c.args.journals) (sym (ap is_ok c.opened_or_closed.ensures.answer) ∙ ok)
