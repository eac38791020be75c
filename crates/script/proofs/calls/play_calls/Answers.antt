use Rattle.std.proofs.Common.{◌+◌, ◌∷◌, drop, string_bytes, ap, ◌∙◌, inl, arith}
use Rattle.std.specs.Iterator.Adapters.{enumerate_count, enumerate_source}
use Rattle.floor.specs.State.{state}
use Rattle.script.specs.Lines.{lines_of}
use Rattle.script.specs.Rehearsal.{raised, reads_from}
use Rattle.script.proofs.PlayFacts.{at_call, at_start, reads_from-few}
use Rattle.script.proofs.calls.play_calls.Goals as goal

pub loop-place-init-derived : goal.loop-place-init-derived
loop-place-init-derived g c =
    let few = reads_from-few c.args.start c.args.script.now in
    let begun = c.enumerate-place-items.ensures in
    rw (c.into_iter-place-iterator.ensures.into_iter_gives, begun.source, begun.count) ((tt, tt, inl (omega arith)), tt)

pub loop-place-init : goal.loop-place-init
loop-place-init g c =
    let few = reads_from-few c.args.start c.args.script.now in
    let begun = c.enumerate-place-items.ensures in
    let all = lines_of (drop c.args.start c.args.script.now) in
    rw (c.into_iter-place-iterator.ensures.into_iter_gives, begun.source, begun.count)
    ((tt, tt, inl (omega arith)), tt, at_start g.N.Network.DEPTH (state c.args.floor.now) all (string_bytes c.args.text.now) (omega arith))

pub overflow_add-number : goal.overflow_add-number
overflow_add-number g c =
    let few = c.loop-place.invariant.2.few in
    let at = c.in-Some.ensures.steps.1 in
    omega arith

pub loop-place-preserved : goal.loop-place-preserved
loop-place-preserved g c =
    let step = c.in-Some.ensures.steps in
    let calls = enumerate_source c.next.new.self in
    let more = reads_from calls.start calls.script.now in
    let all = lines_of (drop c.args.start c.args.script.now) in
    let k = enumerate_count c.loop-place.place-iterator + 2 in
    let next = enumerate_count c.next.new.self + 2 in
    let left = at_call g.N.Network.DEPTH (state c.args.floor.now) all (string_bytes c.args.text.now) (state c.loop-place.floor) k _ (string_bytes c.loop-place.text) c.loop-place.invariant.2 c.in-Some-call.call more c.raised-answer.result (state c.call.new.self) _ next (string_bytes c.push_answer.new.text) (step.0 ∙ ap (λ read. read ∷ more) c.in-Some-call.is) (omega (arith, step.1)) (omega (arith, step.2)) (c.raised-answer.ensures ∙ ap raised c.call.ensures.answer) c.call.ensures.after c.in_ok-push_answer.ensures in
    ((tt, tt, inl (let few = left.few in omega arith)), tt, left)
