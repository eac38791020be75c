-- Every refusal of a script has a number, from 1 to 16.
use Rattle.std.specs.Prelude.{◌≤◌}
use Rattle.std.proofs.Common.{arith}
use Rattle.protocol.specs.RefusalFacts.{faults_counted}
use Rattle.script.specs.Refusals.{number_of}
use Rattle.script.specs.declared.fault.ScriptRefusal.{ScriptRefusal}
use Rattle.script.specs.declared.fault.ScriptRefusal.TheVariants.{BadLine, Floor}

pub refusals_counted : (why : ScriptRefusal) → (1 ≤ number_of why) × (number_of why ≤ 16)
refusals_counted BadLine = (omega arith, omega arith)
refusals_counted (Floor fault) = faults_counted fault
