-- The refusals of journals, each with its number, and the faults that hold them.
use Rattle.std.specs.Prelude.{ℕ, List, [], ◌∷◌, ◌++◌, Some, None, codes, decimal, Option}
use Rattle.journals.specs.declared.fault.JournalsFault.{JournalsFault}
use Rattle.journals.specs.declared.fault.JournalsRefusal.{JournalsRefusal}
use Rattle.journals.specs.declared.fault.JournalsRefusal.TheVariants.{UnknownLedger, NothingThere, JournalFull, UnknownCode, ShortList, TornTape}

abbrev pub number_of : JournalsRefusal → ℕ
number_of UnknownLedger = 2
number_of NothingThere = 7
number_of JournalFull = 12
number_of UnknownCode = 13
number_of ShortList = 14
number_of (TornTape place) = 15

-- only a torn tape has a place
abbrev pub place_of : JournalsRefusal → Option ℕ
place_of UnknownLedger = None
place_of NothingThere = None
place_of JournalFull = None
place_of UnknownCode = None
place_of ShortList = None
place_of (TornTape place) = Some place

-- the refusal of a call for one ledger
abbrev pub refused_for : ℕ → JournalsRefusal → JournalsFault
refused_for ledger why = record { refusal = why; first = ledger; second = 255 }

-- the refusal of a call that names no ledger
abbrev pub refused : JournalsRefusal → JournalsFault
refused why = record { refusal = why; first = 255; second = 255 }

-- a place after what was told before it
abbrev pub place_part : Option ℕ → List ℕ
place_part None = []
place_part (Some place) = 32 ∷ decimal place

-- the refusal's number, the layer J, and the place
abbrev pub fault_text : JournalsFault → List ℕ
fault_text fault = decimal (number_of fault.refusal) ++ (codes " J" ++ place_part (place_of fault.refusal))
