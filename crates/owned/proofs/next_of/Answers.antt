use Rattle.std.proofs.Common.{rules, ◌≡◌, ◌+◌, drop, option_map, sym, ◌∙◌, arith}
use Rattle.std.proofs.lemmas.List.{take_all, length-drop}
use Rattle.owned.proofs.Kept.{is_first, next_from_position}
use Rattle.owned.proofs.next_of.Goals as goal

pub returns : goal.returns
returns g c =
    let start = c.args.start in
    let elements = c.args.elements.now in
    let mapped : c.map.result ≡ option_map (λ n. start + n) c.first_of.result = search rules in
    let rest : c.in_ok-get.field-0.now ≡ drop start elements = c.in_ok-get.ensures.lookup.0.2 ∙ take_all _ (drop start elements) (omega (arith, length-drop start elements)) in
    let answer = mapped ∙ rw (c.first_of.ensures, rest) (next_from_position (λ x. g.T.Owned.belongs x c.args.owner.now) elements start) in
    record { answer = answer; first = is_first _ _ _ _ (sym answer) }
