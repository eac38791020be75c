-- What the refusals' numbers keep to.
use Rattle.std.specs.Prelude.{◌≤◌}
use Rattle.std.proofs.Common.{arith}
use Rattle.journals.specs.Refusals.{number_of}
use Rattle.journals.specs.declared.fault.JournalsRefusal.{JournalsRefusal}
use Rattle.journals.specs.declared.fault.JournalsRefusal.TheVariants.{UnknownLedger, NothingThere, JournalFull, UnknownCode, ShortList, TornTape}

pub numbers_counted : (why : JournalsRefusal) → (1 ≤ number_of why) × (number_of why ≤ 16)
numbers_counted UnknownLedger = (omega arith, omega arith)
numbers_counted NothingThere = (omega arith, omega arith)
numbers_counted JournalFull = (omega arith, omega arith)
numbers_counted UnknownCode = (omega arith, omega arith)
numbers_counted ShortList = (omega arith, omega arith)
numbers_counted (TornTape place) = (omega arith, omega arith)
