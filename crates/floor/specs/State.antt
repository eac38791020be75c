-- What a floor means: the state that is read off it.
use Rattle.journals.specs.declared.set.Journals.{Ghosts as AnyJournals}
use Rattle.network.specs.declared.link.Network.{Ghosts as AnyNetwork}
use Rattle.protocol.specs.State.{State}
use Rattle.floor.specs.declared.floor.Floor.{Floor}

abbrev pub state : {N J : Type 0} {network : AnyNetwork N} {journals : AnyJournals J} → Floor N J network journals → State
state {network = network} {journals = journals} floor = record {
  ledgers = floor.ledgers;
  votes = floor.votes;
  rows = floor.rows;
  links = network.links floor.network;
  entries = journals.entries floor.journals;
  sent = floor.sent;
}
