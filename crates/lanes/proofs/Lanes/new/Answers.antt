use Rattle.lanes.proofs.LaneFacts.{none_new}
use Rattle.lanes.proofs.Lanes.new.Goals as goal

pub returns : goal.returns
returns c = none_new c.new-ring.result c.new-ring.ensures 64
