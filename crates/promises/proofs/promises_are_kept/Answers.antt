use Rattle.promises.proofs.Kept.{kept}
use Rattle.promises.proofs.promises_are_kept.Goals as goal

pub returns : goal.returns
returns c = kept
