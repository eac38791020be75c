use Rattle.std.proofs.Common.{◌≡◌, ℕ, ◌+◌, ◌*◌, ◌/◌, ◌%◌, ◌<◌, true, leb, List, [], ◌∷◌, ◌++◌, length, get_or, take, drop, sym, ap, ◌∙◌, arith}
use Rattle.std.proofs.lemmas.List.{drop-drop, length-take-le, take_all, take-append-drop}
use Rattle.std.proofs.lemmas.Bool.{le-leb}
use Rattle.tape.specs.Bytes.{laid, read_tape, record_bytes, trailer, write_after}
use Rattle.tape.specs.Tape.{records_of}
use Rattle.tape.specs.declared.records.Record.{Record}
use Rattle.tape.proofs.ByteFacts.{laid_push, laid_reads}
use Rattle.tape.proofs.TapeFacts.{more_here, record_here, room_here}
use Rattle.tape.proofs.Tape.write_to.Goals as goal

abbrev blank : Record
blank = record { ledger = 0; code = 0 }

-- after a front that is equal in two lists, the rest is equal too
drop_further : (xs ys : List ℕ) (n k : ℕ) → drop n xs ≡ drop n ys → drop (n + k) xs ≡ drop (n + k) ys
drop_further xs ys n k e = sym (drop-drop k n xs) ∙ ap (drop k) e ∙ drop-drop k n ys

both : {a b c d : List ℕ} → a ≡ b → c ≡ d → a ++ c ≡ b ++ d
both p q = cc

four_more : (i : ℕ) → 4 * (i + 1) ≡ 4 * i + 4
four_more i = omega arith

at_start : (rs : List Record) (i k : ℕ) → k ≡ length (take i rs) → i < length rs → k ≡ i
at_start rs i k e low = e ∙ length-take-le i rs (omega (arith, low))

pub push-requires : goal.push-requires
push-requires c =
    let rs = records_of c.args.self.now in
    let law = c.args.self.now.kept in
    let i = c.loop-next.next-index in
    let low : i < length rs = omega (arith, c.loop-next-test.true, ap length c.as_slice-next-items.ensures.value) in
    rw (c.as_slice-next-items.ensures.value, c.loop-next.invariant.0) (record_here rs law i blank low, room_here rs law i blank low)

pub loop-next-preserved : goal.loop-next-preserved
loop-next-preserved c =
    let rs = records_of c.args.self.now in
    let i = c.loop-next.next-index in
    let low : i < length rs = omega (arith, c.loop-next-test.true, ap length c.as_slice-next-items.ensures.value) in
    let r = get_or c.as_slice-next-items.result.now i blank in
    let more : take (i + 1) rs ≡ take i rs ++ (r ∷ []) = rw c.as_slice-next-items.ensures.value (more_here rs c.args.self.now.kept i blank low) in
    let start = at_start rs i c.len.result (c.len.ensures ∙ ap length c.loop-next.invariant.0) low in
    let trailed = c.next_trailer.ensures ∙ ap (λ xs. trailer xs r.ledger) c.loop-next.invariant.0 in
    let bytes = ap (λ n. r.ledger ∷ (r.code ∷ (n % 256 ∷ (n / 256 ∷ [])))) trailed in
    let laid_here = rw start at c.lay_record.ensures in
    let front : take (4 * i + 4) c.lay_record.new.buffer ≡ laid (take i rs) ++ record_bytes (take i rs) r = laid_here.front ∙ both c.loop-next.invariant.1 bytes in (
      c.push.ensures.records ∙ ap (λ xs. xs ++ (r ∷ [])) c.loop-next.invariant.0 ∙ sym more,
      rw (four_more i) (front ∙ sym (laid_push (take i rs) r) ∙ ap laid (sym more)),
      rw (four_more i) (laid_here.rest ∙ drop_further c.loop-next.buffer c.args.buffer.now (4 * i) 4 c.loop-next.invariant.2),
    )

pub returns : goal.returns
returns c =
    let t = c.args.self.now in
    let rs = records_of t in
    let buffer = c.args.buffer.now in
    let n = c.len-length.ensures.value in
    let end : c.loop-next.next-index ≡ c.len-length.result = omega (arith, c.loop-next-test.false, ap length c.as_slice-next-items.ensures.value, n) in
    let all : take c.loop-next.next-index rs ≡ rs = take_all c.loop-next.next-index rs (omega (arith, end, n)) in
    let front : take (4 * c.len-length.result) c.loop-next.buffer ≡ laid rs = ap (λ k. take (4 * k) c.loop-next.buffer) (sym end) ∙ c.loop-next.invariant.1 ∙ ap laid all in
    let rest : drop (4 * c.len-length.result) c.loop-next.buffer ≡ drop (4 * c.len-length.result) buffer = ap (λ k. drop (4 * k) c.loop-next.buffer) (sym end) ∙ c.loop-next.invariant.2 ∙ ap (λ k. drop (4 * k) buffer) end in
    let fits : leb (4 * length rs) (length buffer) ≡ true = le-leb (4 * length rs) (length buffer) (omega arith) in
    let written : write_after rs buffer ≡ laid rs ++ drop (4 * c.len-length.result) buffer = rw (fits, n) in
    record {
      answer = rw (fits, n);
      after = sym (take-append-drop (4 * c.len-length.result) c.loop-next.buffer) ∙ both front rest ∙ sym written;
      again = ap read_tape front ∙ laid_reads rs t.kept;
    }
