-- What a tape means.
use Rattle.std.specs.Prelude.{List, Ok, Err, Result}
use Rattle.journals.specs.Calls.{Entries}
use Rattle.tape.specs.Records.{codes_of}
use Rattle.journals.specs.declared.fault.JournalsFault.{JournalsFault}
use Rattle.tape.specs.declared.records.Record.{Record}
use Rattle.tape.specs.declared.Tape.{Tape}

abbrev pub records_of : Tape → List Record
records_of tape = tape.records.items

-- each ledger's codes: those of its records, in the tape's order
abbrev pub entries_of : Tape → Entries
entries_of tape p = codes_of p (records_of tape)

-- a set that was made, by its records
abbrev pub told : Result Tape JournalsFault → Result (List Record) JournalsFault
told (Ok tape) = Ok (records_of tape)
told (Err fault) = Err fault
