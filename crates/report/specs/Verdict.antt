-- The text that tells what is on a tape. Every line ends in byte 10.
use Rattle.std.specs.Prelude.{ℕ, zero, suc, ◌+◌, List, [], ◌∷◌, ◌++◌, length, Ok, Err, codes, decimal, Result}
use Rattle.tape.specs.Bytes.{read_tape, torn}
use Rattle.journals.specs.Calls.{Entries}
use Rattle.tape.specs.Records.{codes_of}
use Rattle.journals.specs.Refusals.{fault_text}
use Rattle.journals.specs.declared.fault.JournalsFault.{JournalsFault}
use Rattle.tape.specs.declared.records.Record.{Record}
use Rattle.report.specs.Letters.{letters}

-- `L`, the ledger, its entries
abbrev pub ledger_line : Entries → ℕ → List ℕ
ledger_line entries p = codes "L " ++ ((48 + p) ∷ (32 ∷ (letters (entries p) ++ (10 ∷ []))))

-- the lines of the ledgers below n
abbrev pub ledger_lines : Entries → ℕ → List ℕ
ledger_lines entries zero = []
ledger_lines entries (suc p) = ledger_lines entries p ++ ledger_line entries p

-- `T` and the number of records
abbrev pub total_line : ℕ → List ℕ
total_line n = codes "T " ++ (decimal n ++ (10 ∷ []))

-- the refusal's number, the layer J, and the place
abbrev pub fault_line : JournalsFault → List ℕ
fault_line fault = fault_text fault ++ (10 ∷ [])

abbrev pub told : Result (List Record) JournalsFault → List ℕ
told (Ok rs) = ledger_lines (λ p. codes_of p rs) 8 ++ total_line (length rs)
told (Err fault) = fault_line fault

abbrev pub verdict : List ℕ → List ℕ
verdict bytes = told (torn (read_tape bytes))
