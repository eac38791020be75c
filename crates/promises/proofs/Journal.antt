-- What stands in a ledger's journal, and how that goes with its stage.
use Rattle.std.proofs.Common.{◌≡◌, ℕ, ◌+◌, ◌≤◌, Bool, true, false, cond, ◌||◌, List, [], ◌∷◌, ◌++◌, length, is_some, Some, None, Option, refl, arith}
use Rattle.std.proofs.lemmas.List.{length_push}
use Rattle.std.proofs.lemmas.Bool.Decides.{nat_tests}
use Rattle.journals.specs.Codes.{code_of}
use Rattle.network.specs.declared.message.Decision.{Decision}
use Rattle.network.specs.declared.message.Decision.TheVariants.{Post, Drop}
use Rattle.network.specs.declared.message.Vote.{Vote}
use Rattle.network.specs.declared.message.Vote.TheVariants.{Yes, No}
use Rattle.rules.specs.Entries.{obeyed, reached, ready, received}
use Rattle.rules.specs.Rules.{same}
use Rattle.rules.specs.Stages.{held, initial}
use Rattle.rules.specs.declared.stage.Stage.{Stage}
use Rattle.rules.specs.declared.stage.Stage.TheVariants.{Initial, Preparing, Wait, Voting, Ready, Asking, Consulting, Announcing, Announced, Decided}
use Rattle.protocol.specs.State.{has}
use Rattle.promises.proofs.Moves.{has_snoc}

pub has_none : (c : ℕ) (J : List ℕ) → length J ≡ 0 → has c J ≡ false
has_none c [] e = refl
has_none c (x ∷ J) e = absurd (omega arith)

ruleset pushed = (has_snoc, length_push)

-- the stage holds this decision
abbrev pub is : Decision → Option Decision → Bool
is decision None = false
is decision (Some own) = same own decision

-- the decision that the ledger has obeyed
abbrev pub closed : Stage → Option Decision
closed Initial = None
closed (Preparing next) = None
closed Wait = None
closed Voting = None
closed Ready = None
closed (Asking next) = None
closed Consulting = None
closed (Announcing decision next) = None
closed (Announced decision) = None
closed (Decided decision) = Some decision

-- the ledger has written that it is ready, and has noticed nothing since that would make it lead
abbrev pub promised : Stage → Bool
promised Initial = false
promised (Preparing next) = false
promised Wait = false
promised Voting = true
promised Ready = true
promised (Asking next) = false
promised Consulting = false
promised (Announcing decision next) = false
promised (Announced decision) = false
promised (Decided decision) = false

-- the most entries at a stage, but for a dispute
abbrev pub most : Stage → ℕ
most Initial = 0
most (Preparing next) = 1
most Wait = 1
most Voting = 1
most Ready = 1
most (Asking next) = 1
most Consulting = 1
most (Announcing decision next) = 2
most (Announced decision) = 2
most (Decided decision) = 3

abbrev pub knows : Decision → List ℕ → Bool
knows Post J = has 4 J || has 6 J
knows Drop J = has 5 J || has 7 J

-- of a ledger that runs
pub record Told (vote : Vote) (stage : Stage) (J : List ℕ) : Type 0 where
  pub post : (has 4 J || has 6 J) ≡ is Post (held stage)
  pub drop : (has 5 J || has 7 J) ≡ is Drop (held stage)
  pub posted : has 8 J ≡ is Post (closed stage)
  pub dropped : has 9 J ≡ is Drop (closed stage)
  pub disputed : has 10 J ≡ true → is_some (held stage) ≡ true
  pub nothing_yet : initial stage ≡ true → length J ≡ 0
  pub is_ready : promised stage ≡ true → has (code_of (ready vote)) J ≡ true
  pub short : length J ≤ most stage + cond (has 10 J) 1 0

module _ (vote : Vote) (J : List ℕ) where
  -- a stage that says no less of the journal
  pub told_moves : (stage after : Stage) → held stage ≡ held after → closed stage ≡ closed after → initial after ≡ false → (promised after ≡ true → promised stage ≡ true) → most stage ≤ most after → Told vote stage J → Told vote after J
  told_moves stage after e f not_initial still more t = grind (arith, nat_tests)

  pub told_begins : (next : ℕ) → Told vote Initial J → Told vote (Preparing next) (J ++ (1 ∷ []))
  told_begins next t = search (arith, nat_tests, pushed)

  pub told_obeys : (decision : Decision) → Told vote (Announced decision) J → Told vote (Decided decision) (J ++ (code_of (obeyed decision) ∷ []))
  told_obeys Post t = search (arith, nat_tests, pushed)
  told_obeys Drop t = search (arith, nat_tests, pushed)

  pub told_disputes : (stage : Stage) → is_some (held stage) ≡ true → has 10 J ≡ false → initial stage ≡ false → promised stage ≡ false → Told vote stage J → Told vote stage (J ++ (10 ∷ []))
  told_disputes stage holds first i k t = search (arith, nat_tests, pushed)

  -- a decision that is written down, of its own or received
  pub told_decides : (own : Bool) (decision : Decision) (next : ℕ) (stage : Stage) → held stage ≡ None → closed stage ≡ None → most stage ≤ 1 → Told vote stage J → Told vote (Announcing decision next) (J ++ (code_of (cond own (reached decision) (received decision)) ∷ []))
  told_decides true Post next stage none not_closed few t = search (arith, nat_tests, pushed)
  told_decides true Drop next stage none not_closed few t = search (arith, nat_tests, pushed)
  told_decides false Post next stage none not_closed few t = search (arith, nat_tests, pushed)
  told_decides false Drop next stage none not_closed few t = search (arith, nat_tests, pushed)

pub told_readies : (vote : Vote) (J : List ℕ) → Told vote Initial J → Told vote Voting (J ++ (code_of (ready vote) ∷ []))
told_readies Yes J t = search (arith, nat_tests, pushed)
told_readies No J t = search (arith, nat_tests, pushed)
