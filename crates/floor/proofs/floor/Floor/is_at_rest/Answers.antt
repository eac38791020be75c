use Rattle.promises.proofs.Kept.{kept}
use Rattle.floor.proofs.floor.Floor.is_at_rest.Goals as goal

pub returns-clause-promises : goal.returns-clause-promises
returns-clause-promises g c n votes calls many few whole run = kept g.N.Network.DEPTH n votes calls g.met.N.Network.deep many few whole
