use Rattle.std.proofs.Common.{◌≡◌, ◌+◌, ◌-◌, ◌/◌, ◌%◌, [], ◌∷◌, ◌++◌, length, get_or, take, ap, ◌∙◌, arith}
use Rattle.std.proofs.lemmas.Slice.{take-put_mid, drop-put_mid}
use Rattle.tape.proofs.bytes.lay_record.Goals as goal

pub returns : goal.returns
returns c =
    let start = c.args.start in
    let buffer = c.args.buffer.now in
    let last = c.copy_from_slice.new.self in
    let bytes = c.to_le_bytes.ensures in
    let t = c.args.trailer in
    let high : t / 256 % 256 ≡ t / 256 = omega arith in
    let laid : c.copy_from_slice.new.self ≡ c.args.next.ledger ∷ (c.args.next.code ∷ (t % 256 ∷ (t / 256 ∷ []))) =
    c.copy_from_slice.ensures.after ∙ ap (λ bs. c.args.next.ledger ∷ (c.args.next.code ∷ (get_or bs 0 0 ∷ (get_or bs 1 0 ∷ [])))) bytes ∙ ap (λ h. c.args.next.ledger ∷ (c.args.next.code ∷ (t % 256 ∷ (h ∷ [])))) high in
    let long = ap length laid in
    record {
      front = take-put_mid start (start + 4 - start) buffer last (start + 4) (omega arith) (omega arith) ∙ ap (λ bs. take start buffer ++ bs) laid;
      rest = drop-put_mid start (start + 4 - start) buffer last (start + 4) (omega arith) (omega arith) (omega arith);
    }
