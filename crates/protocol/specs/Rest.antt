-- When an expiry is on time, and when a floor is at rest.
use Rattle.std.specs.Prelude.{ℕ, Bool, not, ◌&&◌, ◌||◌, is_err, Ok, Result}
use Rattle.network.specs.Links.{look_answer}
use Rattle.protocol.specs.Bounded.{all_below}
use Rattle.protocol.specs.Calls.{expiry_of}
use Rattle.protocol.specs.Plans.{step_of}
use Rattle.protocol.specs.Refusals.{check}
use Rattle.protocol.specs.State.{State, known, row_of, runs}
use Rattle.protocol.specs.declared.fault.FloorFault.{FloorFault}
use Rattle.protocol.specs.declared.fault.FloorFault.TheVariants.{Refused}
use Rattle.protocol.specs.declared.fault.FloorRefusal.TheVariants.{UnknownLedger}

-- the ledger has not stopped
abbrev pub alive : State → ℕ → Bool
alive s p = runs (row_of s p).status

-- nothing is on its way from q to p
abbrev pub clear : State → ℕ → ℕ → Bool
clear s q p = is_err (look_answer s.links q p)

abbrev pub clear_from : State → ℕ → Bool
clear_from s q = all_below (clear s q) s.ledgers

-- no link holds a message
abbrev pub all_clear : State → Bool
all_clear s = all_below (clear_from s) s.ledgers

-- nothing is on its way to p from a q that has stopped, restarted or not, while p runs
abbrev pub settled : State → ℕ → ℕ → Bool
settled s q p = alive s q || (not (alive s p) || clear s q p)

abbrev pub settled_from : State → ℕ → Bool
settled_from s q = all_below (settled s q) s.ledgers

-- the expiry of q is on time: q has stopped, restarted or not, and no stopped ledger's message is on its way to a running one
abbrev pub on_time : State → ℕ → Bool
on_time s q = not (alive s q) && all_below (settled_from s) s.ledgers

-- 2
abbrev pub on_time_answer : State → ℕ → Result Bool FloorFault
on_time_answer s q = check (known s q) (Refused UnknownLedger q 255) (Ok (on_time s q))

-- p would take no step: it does not run, or has no act left
abbrev pub idle : State → ℕ → Bool
idle s p = is_err (step_of s p)

-- p would not expire q
abbrev pub patient : State → ℕ → ℕ → Bool
patient s q p = is_err (expiry_of s p q)

-- nobody would expire q on time
abbrev pub unmissed : State → ℕ → Bool
unmissed s q = not (on_time s q) || all_below (patient s q) s.ledgers

-- no link holds a message, no running ledger has an act left, and no on-time expiry would be taken
abbrev pub at_rest : State → Bool
at_rest s = all_clear s && (all_below (idle s) s.ledgers && all_below (unmissed s) s.ledgers)
