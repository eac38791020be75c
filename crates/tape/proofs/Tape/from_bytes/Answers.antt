use Rattle.std.proofs.Common.{◌≡◌, Ok, sym, ap, ◌∙◌, length, arith}
use Rattle.std.proofs.lemmas.List.{length-append}
use Rattle.tape.specs.Bytes.{read_after, read_tape}
use Rattle.tape.specs.Tape.{records_of}
use Rattle.tape.proofs.ByteFacts.{nothing_left, read_whole, read_step, read_tape_lays}
use Rattle.tape.proofs.Tape.from_bytes.Goals as goal

pub loop-ledger-preserved : goal.loop-ledger-preserved
loop-ledger-preserved c =
    let before = records_of c.loop-ledger.tape in
    let split = c.in-Some.ensures.cases in
    let right = sym c.if-not-read_record.ensures.answer in
    let step = rw right at (read_step before c.loop-ledger.left.now c.in-Some.field-0-0.now c.in-Some.rest.now split.0 split.1 split.2) in
    let after = c.if-not-read_record.ensures.after in
    record {
      same = ap (λ rs. read_after rs c.in-Some.rest.now) after ∙ sym step ∙ c.loop-ledger.invariant.same;
      long = omega (arith, ap length after ∙ length-append before _, split.2, c.loop-ledger.invariant.long);
    }

pub returns-clause-back : goal.returns-clause-back
returns-clause-back c =
    let rs = records_of c.loop-ledger.tape in
    let none = nothing_left c.loop-ledger.left.now (omega (arith, c.in_default.ensures.cases, c.loop-ledger.invariant.long)) in
    let all : read_tape c.args.bytes.now ≡ Ok rs = read_whole c.args.bytes.now (omega arith) (omega arith) ∙ sym c.loop-ledger.invariant.same ∙ ap (read_after rs) none in
    read_tape_lays _ _ all
