-- What comes out of each trial.
use Rattle.std.specs.Prelude.{◌≡◌, true, false, [], ◌∷◌, replicate, Some, Ok, Err}
use Rattle.journals.specs.Refusals.{number_of, refused}
use Rattle.journals.specs.declared.entry.Entry.TheVariants.{TransactionAbort}
use Rattle.journals.specs.declared.fault.JournalsRefusal.TheVariants.{TornTape}
use Rattle.network.specs.declared.message.Decision.TheVariants.{Post, Drop}
use Rattle.rules.specs.Stages.{held}
use Rattle.rules.specs.declared.effect.Effect.TheVariants.{Nothing, Write}
use Rattle.protocol.specs.Recovery.{finding, found}
use Rattle.protocol.specs.Rest.{alive, all_clear, at_rest}
use Rattle.protocol.specs.State.{row_of}
use Rattle.protocol.specs.declared.call.Call.TheVariants.{Begin, Step, Stop, Expire}
use Rattle.protocol.specs.declared.recovery.Recovery.TheVariants.{Posted, Dropped, Uncertain}
use Rattle.promises.specs.Promises.{end, most_calls, most_messages}
use Rattle.promises.specs.Runs.{begins, counts_taken, early, loses_coordinator, sends, step_obeys, taken}
use Rattle.tape.specs.Bytes.{read_tape, torn}
use Rattle.trials.specs.Trials.{added_in, all_yes, end_of, happened_in, hasty, left_alone, one_no, opening, orphaned, whole}

-- two to eight ledgers, each of which votes 1 or 2
pub record Openings : Type 0 where
  pub one_ledger : opening 1 (1 ∷ []) ≡ 1
  pub two_ledgers : opening 2 (1 ∷ 2 ∷ []) ≡ 0
  pub eight_ledgers : opening 8 (replicate 8 1) ≡ 0
  pub nine_ledgers : opening 9 (replicate 9 1) ≡ 1
  pub vote_of_zero : opening 2 (1 ∷ 0 ∷ []) ≡ 1

-- what a restart finds on these journals, and what it writes
pub record Restarts : Type 0 where
  pub ready : finding (2 ∷ []) ≡ found Uncertain Nothing
  pub ordered : finding (2 ∷ 6 ∷ []) ≡ found Uncertain Nothing
  pub posted : finding (2 ∷ 6 ∷ 8 ∷ []) ≡ found Posted Nothing
  pub begun : finding (1 ∷ []) ≡ found Dropped (Write TransactionAbort)
  pub decided : finding (1 ∷ 4 ∷ []) ≡ found Uncertain Nothing

-- the third record is the second of ledger 0, eight bytes after its first
pub record Tapes : Type 0 where
  pub right : read_tape (0 ∷ 1 ∷ 0 ∷ 0 ∷ 1 ∷ 2 ∷ 0 ∷ 0 ∷ 0 ∷ 4 ∷ 8 ∷ 0 ∷ []) ≡ Ok (record { ledger = 0; code = 1 } ∷ record { ledger = 1; code = 2 } ∷ record { ledger = 0; code = 4 } ∷ [])
  pub torn_at_8 : torn (read_tape (0 ∷ 1 ∷ 0 ∷ 0 ∷ 1 ∷ 2 ∷ 0 ∷ 0 ∷ 0 ∷ 4 ∷ 4 ∷ 0 ∷ [])) ≡ Err (refused (TornTape 8))
  pub with_15 : number_of (TornTape 8) ≡ 15

-- both vote yes and nobody stops: the floor posts and comes to rest, with as many messages as two ledgers can send
pub record Posts : Type 0 where
  pub begun : happened_in whole begins ≡ true
  pub none_early : happened_in whole early ≡ false
  pub ledger_0 : (end_of whole).entries 0 ≡ (1 ∷ 4 ∷ 8 ∷ [])
  pub ledger_1 : (end_of whole).entries 1 ≡ (2 ∷ 6 ∷ 8 ∷ [])
  pub rests : at_rest (end_of whole) ≡ true
  pub total : (end_of whole).sent ≡ 4
  pub sent : added_in whole sends ≡ 4
  pub most_sent : most_messages 2 ≡ 4
  pub calls : added_in whole counts_taken ≡ 11
  pub most_taken : most_calls 2 ≡ 18

-- ledger 1 votes no
pub record Drops : Type 0 where
  pub ledger_0 : (end 1 2 one_no whole).entries 0 ≡ (1 ∷ 5 ∷ 9 ∷ [])
  pub ledger_1 : (end 1 2 one_no whole).entries 1 ≡ (3 ∷ 7 ∷ 9 ∷ [])
  pub rests : at_rest (end 1 2 one_no whole) ≡ true

-- an early expiry: both find, once their messages are in, that they disagree
pub record Disagrees : Type 0 where
  pub too_early : happened_in hasty early ≡ true
  pub stepped : happened_in hasty (step_obeys 0 Post) ≡ true
  pub none_on_its_way : all_clear (end_of hasty) ≡ true
  pub runs : alive (end_of hasty) 1 ≡ true
  pub holds : held (row_of (end_of hasty) 1).stage ≡ Some Drop
  pub ledger_0 : (end_of hasty).entries 0 ≡ (1 ∷ 4 ∷ 8 ∷ 10 ∷ [])
  pub ledger_1 : (end_of hasty).entries 1 ≡ (2 ∷ 5 ∷ 9 ∷ 10 ∷ [])

-- an expiry on time: whoever is left drops, and so does the other when it restarts
pub record GoesOn : Type 0 where
  pub all_taken : added_in left_alone counts_taken ≡ 11
  pub none_early : happened_in left_alone early ≡ false
  pub stopped : happened_in left_alone loses_coordinator ≡ true
  pub ledger_0 : (end_of left_alone).entries 0 ≡ (1 ∷ 9 ∷ [])
  pub ledger_1 : (end_of left_alone).entries 1 ≡ (2 ∷ 5 ∷ 9 ∷ [])
  pub rests : at_rest (end_of left_alone) ≡ true

-- the coordinator stops before it begins
pub record NeverBegun : Type 0 where
  pub not_begun : happened_in orphaned begins ≡ false
  pub stopped : happened_in orphaned loses_coordinator ≡ true
  pub none_early : happened_in orphaned early ≡ false
  pub ledger_1 : (end_of orphaned).entries 1 ≡ (5 ∷ 9 ∷ [])
  pub rests : at_rest (end_of orphaned) ≡ true

-- a begun batch goes on, a stopped ledger is missed, and the lowest of three that is left leads
pub record Restless : Type 0 where
  pub begun : at_rest (end_of (Begin ∷ [])) ≡ false
  pub next_act : taken 1 (end_of (Begin ∷ [])) (Step 0) ≡ true
  pub missed : at_rest (end_of (Stop 0 ∷ [])) ≡ false
  pub next_expiry : taken 1 (end_of (Stop 0 ∷ [])) (Expire 1 0) ≡ true
  pub leads : (row_of (end 1 3 all_yes (Stop 0 ∷ Expire 1 0 ∷ [])) 1).round ≡ 1

pub record TrialCases : Type 0 where
  pub openings : Openings
  pub restarts : Restarts
  pub tapes : Tapes
  pub posts : Posts
  pub drops : Drops
  pub disagrees : Disagrees
  pub goes_on : GoesOn
  pub never_begun : NeverBegun
  pub restless : Restless
