use Rattle.std.proofs.Common.{◌+◌, drop, string_bytes}
use Rattle.std.specs.Iterator.Adapters.{enumerate_count, enumerate_source}
use Rattle.floor.specs.State.{state}
use Rattle.script.specs.Lines.{lines_of}
use Rattle.script.specs.Rehearsal.{reads_from}
use Rattle.script.proofs.PlayFacts.{Left}
use Rattle.script.proofs.calls.play_calls.Given as goal

abbrev pub invariant-loop-place : goal.invariant-loop-place
invariant-loop-place g l =
    let calls = enumerate_source l.place-iterator in
    (goal.iterator-loop-place g).can_next l.place-iterator
    × (goal.iterator-loop-place g).is_finite l.place-iterator
    × Left g.N.Network.DEPTH (state l.initial.floor) (lines_of (drop l.start l.script)) (string_bytes l.initial.text) (state l.floor) (enumerate_count l.place-iterator + 2) (reads_from calls.start calls.script.now) (string_bytes l.text)
