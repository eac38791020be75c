-- The floor's own refusals, each with its number.
use Rattle.std.specs.Prelude.{ℕ, Bool, cond, Err, Result}
use Rattle.journals.specs.Refusals.{number_of as journals_number}
use Rattle.network.specs.Refusals.{number_of as network_number}
use Rattle.protocol.specs.declared.fault.FloorFault.{FloorFault}
use Rattle.protocol.specs.declared.fault.FloorFault.TheVariants.{Refused, Link, Journal}
use Rattle.protocol.specs.declared.fault.FloorRefusal.{FloorRefusal}
use Rattle.protocol.specs.declared.fault.FloorRefusal.TheVariants.{MisreadOpening, UnknownLedger, NotRunning, NotStopped, Begun, Idle, NotWaiting, Noticed, NotFresh, ShortList}

-- go on with the rest where the test holds, else refuse
abbrev pub check : {A E : Type 0} → Bool → E → Result A E → Result A E
check holds refusal rest = cond holds rest (Err refusal)

abbrev pub number_of : FloorRefusal → ℕ
number_of MisreadOpening = 1
number_of UnknownLedger = 2
number_of NotRunning = 3
number_of NotStopped = 4
number_of Begun = 5
number_of Idle = 6
number_of NotWaiting = 9
number_of Noticed = 10
number_of NotFresh = 11
number_of ShortList = 14

-- the refusal keeps the number that it has where it arose
abbrev pub fault_number : FloorFault → ℕ
fault_number (Refused refusal p q) = number_of refusal
fault_number (Link fault) = network_number fault.refusal
fault_number (Journal fault) = journals_number fault.refusal

-- F, N or J
abbrev pub fault_layer : FloorFault → ℕ
fault_layer (Refused refusal p q) = 70
fault_layer (Link fault) = 78
fault_layer (Journal fault) = 74
