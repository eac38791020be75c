-- A post comes only from the coordinator, when every vote is yes.
use Rattle.std.proofs.Common.{◌≡◌, ℕ, ◌<◌, ◌≤◌, true, ◌≢◌, ◌⊎◌, List, get_or, sym, refl, inl, inr, ⊎_elim, arith}
use Rattle.std.specs.List.{list_any}
use Rattle.std.proofs.lemmas.Bool.{and_parts, cases_eq, or_cases, or_right}
use Rattle.journals.specs.Codes.{code_of}
use Rattle.network.specs.declared.message.Decision.{Decision}
use Rattle.network.specs.declared.message.Decision.TheVariants.{Post}
use Rattle.network.specs.declared.message.Vote.{Vote}
use Rattle.network.specs.declared.message.Vote.TheVariants.{Yes}
use Rattle.rules.specs.Entries.{ready}
use Rattle.rules.specs.Ledgers.{is_in}
use Rattle.rules.specs.Stages.{held}
use Rattle.rules.specs.declared.effect.Response.{Response}
use Rattle.rules.specs.declared.stage.Status.TheVariants.{Running}
use Rattle.protocol.specs.Plans.{after_all}
use Rattle.protocol.specs.State.{State, fresh, has, no_row, row_of, runs}
use Rattle.protocol.specs.declared.call.Call.{Call}
use Rattle.promises.specs.Promises.{PostIsWanted}
use Rattle.promises.specs.Runs.{new}
use Rattle.promises.proofs.Between.{Turn, acts, had, has_then, heard_there, knew, knows_then, mover, own_or_other, turns, was_there}
use Rattle.promises.proofs.Did.{all_ayes, carries, gave_decision, gave_vote, new_ayes, posts, reaches_post, has_wrote, receives, source, votes_as, wrote}
use Rattle.promises.proofs.Journal.{is, knows, promised}
use Rattle.promises.proofs.Moves.{Input, taken_there}

-- what is behind a decision, a vote and a post
pub record Wanted (n : ℕ) (votes : List Vote) (s : State) : Type 0 where
  pub carried : (a b : ℕ) (d : Decision) → list_any (carries d) (s.links a b) ≡ true → knows d (s.entries a) ≡ true
  pub voted : (a b : ℕ) (v : Vote) → list_any (votes_as v) (s.links a b) ≡ true → (get_or votes a Yes ≡ v) × (has (code_of (ready v)) (s.entries a) ≡ true)
  pub heard : (a q : ℕ) → is_in (row_of s a).ayes q ≡ true → (get_or votes q Yes ≡ Yes) × (has 2 (s.entries q) ≡ true)
  pub closed : (a : ℕ) → has 8 (s.entries a) ≡ true → knows Post (s.entries a) ≡ true
  pub traced : (a : ℕ) → knows Post (s.entries a) ≡ true → has 4 (s.entries 0) ≡ true
  pub all_ready : has 4 (s.entries 0) ≡ true → (q : ℕ) → q < n → (get_or votes q Yes ≡ Yes) × (1 ≤ q → has 2 (s.entries q) ≡ true)

pub row_of_new : (n : ℕ) (votes : List Vote) (a : ℕ) → (row_of (new n votes) a ≡ fresh Running) ⊎ (row_of (new n votes) a ≡ no_row)
row_of_new n votes a = grind arith

module _ (n : ℕ) (votes : List Vote) where
  pub wanted_new : Wanted n votes (new n votes)
  wanted_new = grind arith

module _ {n : ℕ} {votes : List Vote} {s s' : State} {p : ℕ} {input : Input} {r : Response} (t : Turn n votes s s' p input r) (w : Wanted n votes s) where
  carried_then : (a b : ℕ) (d : Decision) → list_any (carries d) (s'.links a b) ≡ true → knows d (s'.entries a) ≡ true
  carried_then a b d e = knows_then t d a (⊎_elim (λ old. w.carried a b d old) (λ new. given new.0 (and_parts _ _ (gave_decision (acts t) d b new.1))) (was_there t (carries d) a b e))
    where
      given : a ≡ p → (runs (row_of s p).status ≡ true) × (is d (held (row_of s p).stage) ≡ true) → knows d (s.entries a) ≡ true
      given same holds = grind arith

  voted_then : (a b : ℕ) (v : Vote) → list_any (votes_as v) (s'.links a b) ≡ true → (get_or votes a Yes ≡ v) × (has (code_of (ready v)) (s'.entries a) ≡ true)
  voted_then a b v e =
      ⊎_elim (λ old. let h = w.voted a b v old in (h.0, has_then t (code_of (ready v)) a h.1)) (λ new. given new.0 (gave_vote (acts t) v b new.1)) (was_there t (votes_as v) a b e)
    where
      given : a ≡ p → (runs (row_of s p).status ≡ true) × (promised (row_of s p).stage ≡ true) × (get_or votes p Yes ≡ v) → (get_or votes a Yes ≡ v) × (has (code_of (ready v)) (s'.entries a) ≡ true)
      given same (running, promise, vote) = rw same (vote, has_then t (code_of (ready v)) p (rw vote at (((mover t).told running).is_ready promise)))

  heard_then : (a q : ℕ) → is_in (row_of s' a).ayes q ≡ true → (get_or votes q Yes ≡ Yes) × (has 2 (s'.entries q) ≡ true)
  heard_then a q e =
      let before : (get_or votes q Yes ≡ Yes) × (has 2 (s.entries q) ≡ true) = ⊎_elim own (λ other. w.heard a q (rw other.1 at e)) (own_or_other t a) in
      (before.0, has_then t 2 q before.1)
    where
      own : (a ≡ p) × (row_of s' a ≡ r.row) → (get_or votes q Yes ≡ Yes) × (has 2 (s.entries q) ≡ true)
      own (same, row) =
          ⊎_elim (λ old. w.heard p q old) (λ new. w.voted q p Yes (taken_there s p input r s' t.move (votes_as Yes) q new))
          (or_cases _ _ (new_ayes (acts t) q (rw row at e)))

  closed_then : (a : ℕ) → has 8 (s'.entries a) ≡ true → knows Post (s'.entries a) ≡ true
  closed_then a e = knows_then t Post a (⊎_elim (w.closed a) (λ new. own new.0 (posts (acts t) new.1)) (had t 8 a e))
    where
      own : a ≡ p → (runs (row_of s p).status ≡ true) × (is Post (held (row_of s p).stage) ≡ true) → knows Post (s.entries a) ≡ true
      own same holds = grind arith

  traced_then : (a : ℕ) → knows Post (s'.entries a) ≡ true → has 4 (s'.entries 0) ≡ true
  traced_then a e =
      ⊎_elim (λ old. has_then t 4 0 (w.traced a old))
      (λ new. ⊎_elim reaches (λ got. has_then t 4 0 (w.traced (source input) (w.carried (source input) p Post (heard_there t (carries Post) (receives (acts t) Post got))))) new.1)
      (knew t Post a e)
    where
      reaches : wrote 4 r.effect ≡ true → has 4 (s'.entries 0) ≡ true
      reaches new =
          let zeroth : p ≡ 0 = (mover t).shape.counts_at (reaches_post (acts t) new).1 in
          rw (sym zeroth, t.move.changes.own_entries, has_wrote 4 r.effect (s.entries p), new) (or_right _ _ refl)

  ready_then : has 4 (s'.entries 0) ≡ true → (q : ℕ) → q < n → (get_or votes q Yes ≡ Yes) × (1 ≤ q → has 2 (s'.entries q) ≡ true)
  ready_then e q known = ⊎_elim (λ old. let h = w.all_ready old q known in (h.0, λ low. has_then t 2 q (h.1 low))) (λ new. now new.0 new.1 (cases_eq q 0)) (had t 4 0 e)
    where
      now : 0 ≡ p → wrote 4 r.effect ≡ true → (q ≡ 0) ⊎ (q ≢ 0) → (get_or votes q Yes ≡ Yes) × (1 ≤ q → has 2 (s'.entries q) ≡ true)
      now zeroth new (inl same) = (rw (same, zeroth) (reaches_post (acts t) new).2, λ low. absurd (omega (arith, same, low)))
      now zeroth new (inr other) =
          let aye : is_in (row_of s' p).ayes q ≡ true = rw t.move.changes.own_row (all_ayes (acts t) new q (omega (arith, other)) known) in
          let h = heard_then p q aye in
          (h.0, λ low. h.1)

  pub wanted_then : Wanted n votes s'
  wanted_then = record { carried = carried_then; voted = voted_then; heard = heard_then; closed = closed_then; traced = traced_then; all_ready = ready_then }

module _ (depth n : ℕ) (votes : List Vote) (many : 2 ≤ n) (few : n ≤ 8) (calls : List Call) where
  pub wanted_run : Wanted n votes (after_all depth (new n votes) calls)
  wanted_run = turns depth n votes many few (Wanted n votes) (wanted_new n votes) (λ s s' p input r t w. wanted_then t w) calls

  pub post_is_wanted : PostIsWanted depth n votes calls
  post_is_wanted p q known other e =
      (wanted_run.all_ready (wanted_run.traced p (wanted_run.closed p e)) q other).0
