-- Laying records as bytes and reading them back.
use Rattle.std.proofs.Common.{◌≡◌, ℕ, ◌+◌, ◌*◌, ◌/◌, ◌%◌, ◌≤◌, Bool, true, false, cond, ◌&&◌, eqb, ltb, leb, List, [], ◌∷◌, ◌++◌, length, get_or, take, drop, Ok, Err, sym, refl, ap, ◌∙◌, append_assoc, mul-suc, arith}
use Rattle.std.proofs.lemmas.List.{append-nil}
use Rattle.std.proofs.lemmas.Bool.{and_parts, and_from, eq-eqb, eqb-true, le-leb, lt-ltb}
use Rattle.tape.specs.Bytes.{trailer, record_bytes, laid_after, laid, is_next, read_after, read_tape, whole_length}
use Rattle.journals.specs.Codes.{is_code, is_ledger}
use Rattle.tape.specs.Records.{count_of, lawful}
use Rattle.tape.specs.declared.records.Record.{Record}
use Rattle.tape.specs.RecordFacts.{at_most_64, record_within, no_ninth}

pub laid_length : (before rs : List Record) → length (laid_after before rs) ≡ 4 * length rs
laid_length before [] = refl
laid_length before (r ∷ rs) = rw mul-suc (omega (arith, laid_length (before ++ (r ∷ [])) rs))

laid_after_push : (before rs : List Record) (r : Record) → laid_after before (rs ++ (r ∷ [])) ≡ laid_after before rs ++ record_bytes (before ++ rs) r
laid_after_push before [] r = ap (λ b. record_bytes b r) (sym (append-nil before))
laid_after_push before (x ∷ xs) r =
    ap (λ bs. record_bytes before x ++ bs) (laid_after_push (before ++ (x ∷ [])) xs r ∙ ap (λ b. laid_after (before ++ (x ∷ [])) xs ++ record_bytes b r) (append_assoc before (x ∷ []) xs))

pub laid_push : (rs : List Record) (r : Record) → laid (rs ++ (r ∷ [])) ≡ laid rs ++ record_bytes rs r
laid_push rs r = laid_after_push [] rs r

-- what makes four bytes the next record
record Parts (before : List Record) (ledger code low high : ℕ) : Type 0 where
  pub ledger_right : is_ledger ledger ≡ true
  pub code_right : is_code code ≡ true
  pub no_ninth : ltb (count_of ledger before) 8 ≡ true
  pub low_right : low ≡ trailer before ledger % 256
  pub high_right : high ≡ trailer before ledger / 256

parts : (before : List Record) (ledger code low high : ℕ) → is_next before ledger code low high ≡ true → Parts before ledger code low high
parts before ledger code low high e =
    let a = and_parts (is_ledger ledger) (is_code code && (ltb (count_of ledger before) 8 && (eqb low (trailer before ledger % 256) && eqb high (trailer before ledger / 256)))) e in
    let b = and_parts (is_code code) (ltb (count_of ledger before) 8 && (eqb low (trailer before ledger % 256) && eqb high (trailer before ledger / 256))) a.1 in
    let c = and_parts (ltb (count_of ledger before) 8) (eqb low (trailer before ledger % 256) && eqb high (trailer before ledger / 256)) b.1 in
    let d = and_parts (eqb low (trailer before ledger % 256)) (eqb high (trailer before ledger / 256)) c.1 in
    record {
      ledger_right = a.0;
      code_right = b.0;
      no_ninth = c.0;
      low_right = eqb-true low (trailer before ledger % 256) d.0;
      high_right = eqb-true high (trailer before ledger / 256) d.1;
    }

-- what was read after those before, and that it lays the same bytes
pub record Read (before : List Record) (bytes : List ℕ) (rs : List Record) : Type 0 where
  pub rest : List Record
  pub whole : rs ≡ before ++ rest
  pub lays : laid_after before rest ≡ bytes

read_one : (before : List Record) (a b c d : ℕ) (bytes : List ℕ) (rs : List Record) (right : Bool) → is_next before a b c d ≡ right → cond right (read_after (before ++ (record { ledger = a; code = b } ∷ [])) bytes) (Err (4 * length before)) ≡ Ok rs → (read_after (before ++ (record { ledger = a; code = b } ∷ [])) bytes ≡ Ok rs → Read (before ++ (record { ledger = a; code = b } ∷ [])) bytes rs) → Read before (a ∷ (b ∷ (c ∷ (d ∷ bytes)))) rs
read_one before a b c d bytes rs true right e later =
    let p = parts before a b c d right in
    let l = later e in
    record {
      rest = record { ledger = a; code = b } ∷ l.rest;
      whole = l.whole ∙ append_assoc before (record { ledger = a; code = b } ∷ []) l.rest;
      lays = rw (l.lays, ← p.low_right, ← p.high_right);
    }
read_one before a b c d bytes rs false wrong e later = absurd (let z : ◌≡◌ {A = ℕ} 0 1 = cc in omega arith)

pub read_lays : (before : List Record) (bytes : List ℕ) (rs : List Record) → read_after before bytes ≡ Ok rs → Read before bytes rs
read_lays before [] rs e = record { rest = []; whole = let same : rs ≡ before = cc in same ∙ sym (append-nil before); lays = refl }
read_lays before (a ∷ []) rs e = absurd (let z : ◌≡◌ {A = ℕ} 0 1 = cc in omega arith)
read_lays before (a ∷ (b ∷ [])) rs e = absurd (let z : ◌≡◌ {A = ℕ} 0 1 = cc in omega arith)
read_lays before (a ∷ (b ∷ (c ∷ []))) rs e = absurd (let z : ◌≡◌ {A = ℕ} 0 1 = cc in omega arith)
read_lays before (a ∷ (b ∷ (c ∷ (d ∷ bytes)))) rs e =
    read_one before a b c d bytes rs (is_next before a b c d) refl e (read_lays (before ++ (record { ledger = a; code = b } ∷ [])) bytes rs)

-- what is laid of a lawful list reads as that list
laid_reads_after : (before rs : List Record) → lawful (before ++ rs) ≡ true → read_after before (laid_after before rs) ≡ Ok (before ++ rs)
laid_reads_after before [] law = ap Ok (sym (append-nil before))
laid_reads_after before (r ∷ rs) law =
    let t = trailer before r.ledger in
    let right = and_parts (is_ledger r.ledger) (is_code r.code) (record_within before r rs law) in
    let joined = append_assoc before (r ∷ []) rs in
    let rest = laid_reads_after (before ++ (r ∷ [])) rs (ap lawful joined ∙ law) in
    rw (right.0, right.1, lt-ltb (count_of r.ledger before) 8 (no_ninth before r rs law), eq-eqb (t % 256) (t % 256) refl, eq-eqb (t / 256) (t / 256) refl) (rest ∙ ap Ok joined)

-- a lawful list is short enough for a tape
pub laid_reads : (rs : List Record) → lawful rs ≡ true → read_tape (laid rs) ≡ Ok rs
laid_reads rs law =
    let long = laid_length [] rs in
    let fits : whole_length (length (laid rs)) ≡ true = and_from (leb (length (laid rs)) 256) (eqb (length (laid rs) % 4) 0) (le-leb (length (laid rs)) 256 (omega (arith, long, at_most_64 rs law))) (eq-eqb (length (laid rs) % 4) 0 (omega (arith, long))) in
    rw fits (laid_reads_after [] rs law)

pub read_tape_lays : (bytes : List ℕ) (rs : List Record) → read_tape bytes ≡ Ok rs → laid rs ≡ bytes
read_tape_lays bytes rs e = by_length (whole_length (length bytes)) e
  where
    by_length : (fits : Bool) → cond fits (read_after [] bytes) (Err (length bytes)) ≡ Ok rs → laid rs ≡ bytes
    by_length true read = let r = read_lays [] bytes rs read in ap laid r.whole ∙ r.lays
    by_length false wrong = absurd (let z : ◌≡◌ {A = ℕ} 0 1 = cc in omega arith)

pub read_whole : (bytes : List ℕ) → length bytes ≤ 256 → length bytes % 4 ≡ 0 → read_tape bytes ≡ read_after [] bytes
read_whole bytes short even =
    rw (le-leb (length bytes) 256 short, eq-eqb (length bytes % 4) 0 even)

-- one step of reading: the four bytes at the front of what is left, and the rest
pub read_step : (before : List Record) (left front rest : List ℕ) → front ≡ take 4 left → rest ≡ drop 4 left → length rest + 4 ≡ length left → read_after before left ≡ cond (is_next before (get_or front 0 0) (get_or front 1 0) (get_or front 2 0) (get_or front 3 0)) (read_after (before ++ (record { ledger = get_or front 0 0; code = get_or front 1 0 } ∷ [])) rest) (Err (4 * length before))
read_step before left front rest first last long = rw (first, last) (whole left (omega arith))
  where
    whole : (xs : List ℕ) → 4 ≤ length xs → read_after before xs ≡ cond (is_next before (get_or (take 4 xs) 0 0) (get_or (take 4 xs) 1 0) (get_or (take 4 xs) 2 0) (get_or (take 4 xs) 3 0)) (read_after (before ++ (record { ledger = get_or (take 4 xs) 0 0; code = get_or (take 4 xs) 1 0 } ∷ [])) (drop 4 xs)) (Err (4 * length before))
    whole [] four = absurd (omega arith)
    whole (a ∷ []) four = absurd (omega arith)
    whole (a ∷ (b ∷ [])) four = absurd (omega arith)
    whole (a ∷ (b ∷ (c ∷ []))) four = absurd (omega arith)
    whole (a ∷ (b ∷ (c ∷ (d ∷ xs')))) four = refl

-- nothing is left of a tape in whole records
pub nothing_left : (xs : List ℕ) → length xs ≡ 0 → xs ≡ []
nothing_left [] none = refl
nothing_left (x ∷ xs) none = absurd (omega arith)
