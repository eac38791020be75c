use Rattle.std.proofs.Common.{◌≡◌, suc, ◌+◌, ◌-◌, Err, sym, ap, ◌∙◌, arith}
use Rattle.std.proofs.lemmas.Result.{err_from_is_err_and}
use Rattle.network.proofs.ForwardFacts.{still_together, stopped_answer, stopped_after}
use Rattle.network.proofs.forward.forward_all.Goals as goal

pub returns-in_err-forward : goal.returns-in_err-forward
returns-in_err-forward g c =
    let depth = g.N.Network.DEPTH in
    let L = g.N.Network.links c.loop-moved.network in
    let fault = c.in_err-forward.field-0.0 in
    let left = c.args.most - c.loop-moved._moved in
    let less = c.args.most - (c.loop-moved._moved + 1) in
    let more : c.args.most - c.loop-moved._moved ≡ suc (c.args.most - (c.loop-moved._moved + 1)) = omega arith in
    let one = sym {a = Err fault} c.in_err-forward.ensures.answer in
    let exit = err_from_is_err_and c.from_residual.result c.from_residual.ensures.1 in
    let after = c.forward.ensures.after ∙ stopped_after depth L c.args.from c.args.to left less more fault one ∙ c.loop-moved.invariant.1 in
    record {
      answer = exit.1 ∙ ap Err exit.2 ∙ sym (stopped_answer depth L c.args.from c.args.to left less more fault one) ∙ c.loop-moved.invariant.0;
      together = still_together depth c.args.from c.args.to c.args.most (g.N.Network.links c.args.network.now) _ after;
      after = after;
    }
