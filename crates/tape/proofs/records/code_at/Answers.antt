use Rattle.std.proofs.Common.{filter, sym, rules, tests, ◌∙◌}
use Rattle.std.proofs.lemmas.Iterator.{YieldsList-from_map}
use Rattle.std.proofs.lemmas.Iterator.Adapters.{option_map_id}
use Rattle.std.proofs.lemmas.Iterator.Consumers.{nth_from_yields_List, YieldsList-at, YieldsList-from_first}
use Rattle.owned.specs.Search.{left_of}
use Rattle.tape.specs.Records.{is_of}
use Rattle.tape.proofs.records.code_at.Goals as goal

pub returns : goal.returns
returns c =
    sym (option_map_id _)
    ∙ nth_from_yields_List c.nth.result c.nth.new.self c.args.place c.nth.ensures.ran
    (YieldsList-from_map _ (λ r. r.code) (YieldsList-at c.map.ensures.source (YieldsList-from_first (λ y. y.now) (λ s. left_of (λ r. is_of s.owner.now r) s.elements.now s.start) (filter (is_of c.args.ledger) c.args.records.now) c.of_owner.ensures)) c.map.ensures.closure (λ x r q k. search (rules, tests)))
