-- A tape as bytes: four for each record, its ledger, its code, and a trailer of 16 bits with the low byte first.
use Rattle.std.specs.Prelude.{ℕ, ◌-◌, ◌*◌, ◌/◌, ◌%◌, Bool, cond, ◌&&◌, List, [], ◌∷◌, ◌++◌, length, drop, Some, None, Ok, Err, Option, Result, ◌==◌, nat_le, nat_lt}
use Rattle.journals.specs.Calls.{check}
use Rattle.journals.specs.Codes.{is_code, is_ledger}
use Rattle.tape.specs.Records.{count_of, latest}
use Rattle.journals.specs.Refusals.{refused}
use Rattle.journals.specs.declared.fault.JournalsFault.{JournalsFault}
use Rattle.journals.specs.declared.fault.JournalsRefusal.TheVariants.{ShortList, TornTape}
use Rattle.tape.specs.declared.records.Record.{Record}

-- how far record number `here` starts after an earlier one, in bytes; 0 where there is none
abbrev pub distance : ℕ → Option ℕ → ℕ
distance here None = 0
distance here (Some earlier) = 4 * (here - earlier)

-- the trailer of p's next record: the distance back to p's latest
abbrev pub trailer : List Record → ℕ → ℕ
trailer before p = distance (length before) (latest p before)

abbrev pub record_bytes : List Record → Record → List ℕ
record_bytes before r = r.ledger ∷ (r.code ∷ (trailer before r.ledger % 256 ∷ (trailer before r.ledger / 256 ∷ [])))

-- the bytes of records that follow those before
abbrev pub laid_after : List Record → List Record → List ℕ
laid_after before [] = []
laid_after before (r ∷ rs) = record_bytes before r ++ laid_after (before ++ (r ∷ [])) rs

-- the bytes of a whole tape
abbrev pub laid : List Record → List ℕ
laid rs = laid_after [] rs

-- whether four bytes are the next record: a ledger, a code, no ninth record of the ledger, the right trailer
abbrev pub is_next : List Record → ℕ → ℕ → ℕ → ℕ → Bool
is_next before ledger code low high =
    is_ledger ledger
    && (is_code code && (nat_lt (count_of ledger before) 8 && (low == trailer before ledger % 256 && high == trailer before ledger / 256)))

-- the records, when those before have been read, or where the first wrong record starts
abbrev pub read_after : List Record → List ℕ → Result (List Record) ℕ
read_after before [] = Ok before
read_after before (ledger ∷ []) = Err (4 * length before)
read_after before (ledger ∷ (code ∷ [])) = Err (4 * length before)
read_after before (ledger ∷ (code ∷ (low ∷ []))) = Err (4 * length before)
read_after before (ledger ∷ (code ∷ (low ∷ (high ∷ rest)))) =
    cond (is_next before ledger code low high)
    (read_after (before ++ (record { ledger = ledger; code = code } ∷ [])) rest)
    (Err (4 * length before))

-- at most 256 bytes, in whole records
abbrev pub whole_length : ℕ → Bool
whole_length n = nat_le n 256 && n % 4 == 0

-- the records of a tape, or the place where it is torn: its length where that is wrong
abbrev pub read_tape : List ℕ → Result (List Record) ℕ
read_tape bytes = cond (whole_length (length bytes)) (read_after [] bytes) (Err (length bytes))

-- 15 with the place
abbrev pub torn : Result (List Record) ℕ → Result (List Record) JournalsFault
torn (Ok rs) = Ok rs
torn (Err place) = Err (refused (TornTape place))

-- 14 where the buffer is too small
abbrev pub write_answer : List Record → List ℕ → Result ℕ JournalsFault
write_answer rs buffer = check (nat_le (4 * length rs) (length buffer)) (refused ShortList) (Ok (4 * length rs))

-- the tape at the buffer's front, and the rest as it was
abbrev pub write_after : List Record → List ℕ → List ℕ
write_after rs buffer = cond (nat_le (4 * length rs) (length buffer)) (laid rs ++ drop (4 * length rs) buffer) buffer
