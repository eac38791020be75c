-- The refusals of a network, each with its number, and the faults that hold them.
use Rattle.std.specs.Prelude.{ℕ, ◌≤◌}
use Rattle.std.proofs.Common.{lit≤}
use Rattle.network.specs.declared.fault.NetworkFault.{NetworkFault}
use Rattle.network.specs.declared.fault.NetworkRefusal.{NetworkRefusal}
use Rattle.network.specs.declared.fault.NetworkRefusal.TheVariants.{UnknownLedger, NothingThere, LinkFull}

abbrev pub number_of : NetworkRefusal → ℕ
number_of UnknownLedger = 2
number_of NothingThere = 7
number_of LinkFull = 8

abbrev pub refused : ℕ → ℕ → NetworkRefusal → NetworkFault
refused sender receiver why = record { refusal = why; sender = sender; receiver = receiver }

pub counted : (fault : NetworkFault) → (1 ≤ number_of fault.refusal) × (number_of fault.refusal ≤ 16)
counted fault = elim fault.refusal as (λ r. (1 ≤ number_of r) × (number_of r ≤ 16)) [
  | UnknownLedger ↦ (lit≤ tt, lit≤ tt)
  | NothingThere ↦ (lit≤ tt, lit≤ tt)
  | LinkFull ↦ (lit≤ tt, lit≤ tt)
]
