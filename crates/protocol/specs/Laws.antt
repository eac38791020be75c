-- What every call keeps to, in every state.
use Rattle.std.specs.Prelude.{◌≡◌, ℕ, ◌+◌, ◌^◌, ◌<◌, ◌≤◌, Bool, true, false, cond, ◌&&◌, ◌≢◌, List, [], ◌∷◌, ◌++◌, length, drop, Some, ◌==◌}
use Rattle.network.specs.declared.message.Decision.{Decision}
use Rattle.network.specs.declared.message.Message.{Message}
use Rattle.rules.specs.Stages.{held}
use Rattle.rules.specs.declared.row.Row.{Row}
use Rattle.protocol.specs.State.{State, row_of, runs}
use Rattle.protocol.specs.declared.call.Call.{Call}
use Rattle.protocol.specs.declared.call.Call.TheVariants.{Begin, Step, Deliver, Expire, Stop, Restart}

-- the ledger that acts
abbrev pub actor : Call → ℕ
actor Begin = 0
actor (Step p) = p
actor (Deliver q p) = p
actor (Expire p q) = p
actor (Stop p) = p
actor (Restart p) = p

-- the call takes from the link from a to b, if from any
abbrev pub takes_from : Call → ℕ → ℕ → Bool
takes_from Begin a b = false
takes_from (Step p) a b = false
takes_from (Deliver q p) a b = q == a && p == b
takes_from (Expire p q) a b = false
takes_from (Stop p) a b = false
takes_from (Restart p) a b = false

-- what p sends, each message with its receiver, as far as it goes onto the link from a to b
abbrev pub onto : ℕ → List (ℕ × Message) → ℕ → ℕ → List Message
onto p [] a b = []
onto p (x ∷ xs) a b = cond (p == a && x.0 == b) (x.1 ∷ onto p xs a b) (onto p xs a b)

-- the first is gone
abbrev pub less_first : Bool → List Message → List Message
less_first gone list = cond gone (drop 1 list) list

-- at most one message is taken, from the named link, and at most one is sent, by p; the total rises by what was sent
pub record Exchange (p : ℕ) (named : ℕ → ℕ → Bool) (before after : State) : Type 0 where
  pub took : Bool
  pub sent : List (ℕ × Message)
  pub one : length sent ≤ 1
  pub links : (a b : ℕ) → after.links a b ≡ less_first (took && named a b) (before.links a b) ++ onto p sent a b
  pub total : before.sent + length sent < 2 ^ 64 → after.sent ≡ before.sent + length sent

-- a ledger that holds a decision holds no other while it runs, and one that has stopped does not run again
pub record Steady (before after : Row) : Type 0 where
  pub decided : (decision : Decision) → held before.stage ≡ Some decision → runs after.status ≡ true → held after.stage ≡ Some decision
  pub out : runs before.status ≡ false → runs after.status ≡ false

-- what a call does in which p acts and which may take from the named link
pub record Lawful (p : ℕ) (named : ℕ → ℕ → Bool) (refused : Bool) (before after : State) : Type 0 where
  -- a refused call leaves everything as it was
  pub refusal : refused ≡ true → after ≡ before
  -- who takes part, and how they vote, stays
  pub members : (after.ledgers ≡ before.ledgers) × (after.votes ≡ before.votes)
  -- only the row of the ledger that acts changes, and only its journal
  pub rows : (q : ℕ) → q ≢ p → row_of after q ≡ row_of before q
  pub journals : (q : ℕ) → q ≢ p → after.entries q ≡ before.entries q
  -- which grows by one entry at the most
  pub grows : (more : List ℕ) × (length more ≤ 1) × (after.entries p ≡ before.entries p ++ more)
  pub exchange : Exchange p named before after
  pub steady : (q : ℕ) → Steady (row_of before q) (row_of after q)

abbrev pub LawfulCall : Call → Bool → State → State → Type 0
LawfulCall call refused before after = Lawful (actor call) (takes_from call) refused before after
