use Rattle.std.proofs.Common.{length, sym, ap, arith}
use Rattle.owned.proofs.Kept.{next_some, next_none}
use Rattle.owned.proofs.of_owner.OfOwnerIterator.next.Goals as goal

pub returns-in_err-i-clause-steps : goal.returns-in_err-i-clause-steps
returns-in_err-i-clause-steps g c =
    let s = c.args.self.now in
    let none = next_none (λ x. g.T.Owned.belongs x s.owner.now) s.elements.now s.start (sym c.in_err-i.ensures.answer) in
    rw c.from_residual.ensures (none, none)

pub returns-clause-steps : goal.returns-clause-steps
returns-clause-steps g c =
    let s = c.args.self.now in
    (next_some (λ x. g.T.Owned.belongs x s.owner.now) s.elements.now s.start c.in_ok-i.i (sym c.in_ok-i.ensures.answer)).splits c.index-self-i.result

pub returns-clause-goes : goal.returns-clause-goes
returns-clause-goes g c =
    let s = c.args.self.now in
    let fewer = ap length ((next_some (λ x. g.T.Owned.belongs x s.owner.now) s.elements.now s.start c.in_ok-i.i (sym c.in_ok-i.ensures.answer)).splits c.index-self-i.result) in
    record { on = λ f. (tt, tt, omega (arith, fewer)); keeps = tt; rests = λ f. tt }
