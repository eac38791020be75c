use Rattle.std.proofs.lemmas.List.{length-set}
use Rattle.tape.specs.Tape.{records_of}
use Rattle.tape.proofs.TapeFacts.{entries_push, more, tracked_push}
use Rattle.tape.proofs.Tape.push.Goals as goal

pub invariant_of-self : goal.invariant_of-self
invariant_of-self c =
    let t = c.args.self.now in
    let r = c.args.new in
    record {
      whole = simp length-set t.whole;
      kept = rw c.push.ensures.items (more t r c.requires.0 c.requires.1);
      tracked = rw (c.push.ensures.items, c.len.ensures) (tracked_push t r c.requires.0 c.requires.1);
    }

pub returns-clause-entries : goal.returns-clause-entries
returns-clause-entries c = entries_push (records_of c.args.self.now) _ c.args.new c.push.ensures.items
