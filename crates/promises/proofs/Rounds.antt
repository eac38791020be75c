-- No Ask and no Reply is of a later round than its leader's.
use Rattle.std.proofs.Common.{◌≡◌, ℕ, ◌≤◌, true, List, ⊎_elim, arith}
use Rattle.std.specs.List.{list_any}
use Rattle.network.specs.declared.message.Vote.{Vote}
use Rattle.rules.specs.declared.effect.Response.{Response}
use Rattle.protocol.specs.State.{State, row_of, runs}
use Rattle.promises.specs.Runs.{new}
use Rattle.promises.proofs.Between.{Turn, acts, mover, own_or_other, runs_before, was_there}
use Rattle.promises.proofs.Did.{asks, gave_ask, gave_reply, replies, rounds_grow}
use Rattle.promises.proofs.Moves.{Input, taken_there}
use Rattle.promises.proofs.Sets.{count_most}

pub record Rounds (s : State) : Type 0 where
  pub asked_by : (a b k : ℕ) → runs (row_of s a).status ≡ true → list_any (asks k) (s.links a b) ≡ true → k ≤ (row_of s a).round
  pub replied_to : (a b k : ℕ) → runs (row_of s b).status ≡ true → list_any (replies k) (s.links a b) ≡ true → k ≤ (row_of s b).round

pub rounds_new : (n : ℕ) (votes : List Vote) → Rounds (new n votes)
rounds_new n votes = grind arith

module _ {n : ℕ} {votes : List Vote} {s s' : State} {p : ℕ} {input : Input} {r : Response} (t : Turn n votes s s' p input r) where
  pub small_round : (row_of s p).round ≤ 8
  small_round = omega (arith, (mover t).notes.rounds, (mover t).notes.noticed_long, count_most (row_of s p).noticed.members)

  -- a round never goes back while the ledger runs
  grows : (a : ℕ) → runs (row_of s' a).status ≡ true → (row_of s a).round ≤ (row_of s' a).round
  grows a running = ⊎_elim own (λ other. rw other.1 (omega arith)) (own_or_other t a)
    where
      own : (a ≡ p) × (row_of s' a ≡ r.row) → (row_of s a).round ≤ (row_of s' a).round
      own (same, row) = rw (row, same) (rounds_grow (acts t) small_round (rw row at running))

  module _ (w : Rounds s) where
    asked_then : (a b k : ℕ) → runs (row_of s' a).status ≡ true → list_any (asks k) (s'.links a b) ≡ true → k ≤ (row_of s' a).round
    asked_then a b k running e =
        ⊎_elim (λ old. let h = w.asked_by a b k (runs_before t a running) old in omega (arith, grows a running))
        (λ new. given new.0 (gave_ask (acts t) k b new.1).1) (was_there t (asks k) a b e)
      where
        given : a ≡ p → (row_of s p).round ≡ k → k ≤ (row_of s' a).round
        given same h = let g = grows p (rw same at running) in rw same (omega arith)

    replied_then : (a b k : ℕ) → runs (row_of s' b).status ≡ true → list_any (replies k) (s'.links a b) ≡ true → k ≤ (row_of s' b).round
    replied_then a b k running e =
        ⊎_elim (λ old. let h = w.replied_to a b k (runs_before t b running) old in omega (arith, grows b running))
        (λ new. let h = w.asked_by b p k (runs_before t b running) (taken_there s p input r s' t.move (asks k) b (gave_reply (acts t) k b new.1)) in omega (arith, grows b running))
        (was_there t (replies k) a b e)

    pub rounds_then : Rounds s'
    rounds_then = record { asked_by = asked_then; replied_to = replied_then }
