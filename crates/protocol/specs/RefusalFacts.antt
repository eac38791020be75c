-- Every refusal has a number, from 1 to 16.
use Rattle.std.specs.Prelude.{◌≤◌}
use Rattle.std.proofs.Common.{arith}
use Rattle.journals.specs.RefusalFacts.{numbers_counted}
use Rattle.network.specs.Refusals.{counted as network_counted}
use Rattle.protocol.specs.Refusals.{fault_number, number_of}
use Rattle.protocol.specs.declared.fault.FloorFault.{FloorFault}
use Rattle.protocol.specs.declared.fault.FloorFault.TheVariants.{Refused, Link, Journal}
use Rattle.protocol.specs.declared.fault.FloorRefusal.{FloorRefusal}

refusals_counted : (why : FloorRefusal) → (1 ≤ number_of why) × (number_of why ≤ 16)
refusals_counted why = (grind arith, grind arith)

pub faults_counted : (fault : FloorFault) → (1 ≤ fault_number fault) × (fault_number fault ≤ 16)
faults_counted (Refused why p q) = refusals_counted why
faults_counted (Link fault) = network_counted fault
faults_counted (Journal fault) = numbers_counted fault.refusal
