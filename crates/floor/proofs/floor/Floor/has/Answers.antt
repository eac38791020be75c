use Rattle.std.proofs.Common.{◌≡◌, ℕ, List, [], ◌∷◌, ◌==◌, ◌||◌, rules, refl, ap, ◌∙◌}
use Rattle.std.proofs.lemmas.Iterator.Consumers.{YieldsList-from_first}
use Rattle.std.proofs.lemmas.Iterator.Search.{any_from_yields_List}
use Rattle.std.specs.List.{list_any}
use Rattle.journals.specs.Calls.{left_from}
use Rattle.journals.specs.Codes.{code_of}
use Rattle.protocol.specs.State.{has}
use Rattle.floor.proofs.floor.Floor.has.Goals as goal

any_is_has : (code : ℕ) (list : List ℕ) → list_any (λ c. c == code) list ≡ has code list
any_is_has code [] = refl
any_is_has code (c ∷ cs) = ap (λ rest. c == code || rest) (any_is_has code cs)

pub returns : goal.returns
returns g c =
    let E = g.J.Journals.entries in
    let list = E c.args.self.now.journals c.args.ledger in
    let code = code_of c.args.entry in
    any_from_yields_List (λ x. x == code) c.any.new.self _ _ c.any.ensures.ran (YieldsList-from_first (λ x. x) (λ s. left_from (E s.journals.now) s.ledger s.place) {s = c.codes.result} list c.codes.ensures) (λ x b q k. search rules) ∙ any_is_has code list
