-- Nothing that is waited for is lost: Prepares, votes, Asks and Replies.
use Rattle.std.proofs.Common.{◌≡◌, ℕ, ◌<◌, ◌≤◌, Bool, true, false, not, ◌&&◌, ◌||◌, eqb, ◌≢◌, List, sym, refl, subst, ⊎_elim, arith}
use Rattle.std.specs.List.{list_any}
use Rattle.std.proofs.lemmas.Bool.{both_ways, cases_Bool, cases_eq, ltb-true, ne_eqb, or_cases, or_left, or_right}
use Rattle.network.specs.declared.message.Vote.{Vote}
use Rattle.rules.specs.Ledgers.{is_in}
use Rattle.rules.specs.Stages.{counts, initial, leads}
use Rattle.rules.specs.declared.effect.Response.{Response}
use Rattle.rules.specs.declared.stage.Stage.{Stage}
use Rattle.protocol.specs.Plans.{after_all}
use Rattle.protocol.specs.State.{State, has, row_of, runs}
use Rattle.protocol.specs.declared.call.Call.{Call}
use Rattle.promises.specs.Runs.{new}
use Rattle.promises.proofs.Between.{Turn, acts, has_then, heard_there, is_there, leads_again, mine, mover, now_there, own_or_other, runs_before, turns, was_there}
use Rattle.promises.proofs.Did.{asks, expiring, has_wrote, hears_that, keeps_round, leads_before, prepares, replies, source, still_runs, wrote}
use Rattle.promises.proofs.Journal.{has_none, promised}
use Rattle.promises.proofs.Moves.{Input, takes}
use Rattle.promises.proofs.Sets.{in_either}
use Rattle.promises.proofs.Shape.{Notes}
use Rattle.promises.proofs.Waits.{answers, asked_anew, asked_on, begins_first, gave_prepare, has_voted, heard_reply, heard_still, heard_vote, new_counts, new_promise, new_voted, prepared_on, reach, replied_still, still_initial, taker_hears, upto, votes as is_vote}
use Rattle.promises.proofs.Wanted.{row_of_new}

-- nothing of the vote happens before the coordinator's begin
pub record Begun (n : ℕ) (s : State) : Type 0 where
  pub sent : (a b : ℕ) → list_any prepares (s.links a b) ≡ true → has 1 (s.entries 0) ≡ true
  pub promises : (b : ℕ) → b < n → runs (row_of s b).status ≡ true → promised (row_of s b).stage ≡ true → has 1 (s.entries 0) ≡ true
  pub counting : runs (row_of s 0).status ≡ true → counts (row_of s 0).stage ≡ true → has 1 (s.entries 0) ≡ true

pub record Unlost (n : ℕ) (s : State) : Type 0 where
  pub begun : Begun n s
  pub prepare_there : (b : ℕ) → 1 ≤ b → b < n → runs (row_of s 0).status ≡ true → runs (row_of s b).status ≡ true → initial (row_of s b).stage ≡ true → b < reach n (row_of s 0).stage → list_any prepares (s.links 0 b) ≡ true
  pub vote_there : (b : ℕ) → 1 ≤ b → b < n → runs (row_of s 0).status ≡ true → counts (row_of s 0).stage ≡ true → runs (row_of s b).status ≡ true → has_voted (row_of s b).stage ≡ true → in_either (row_of s 0).ayes (row_of s 0).noes b ≡ false → list_any is_vote (s.links b 0) ≡ true
  pub ask_there : (l b : ℕ) → l < n → l < b → b < n → runs (row_of s l).status ≡ true → leads (row_of s l).stage ≡ true → runs (row_of s b).status ≡ true → is_in (row_of s l).noticed b ≡ false → is_in (row_of s l).replied b ≡ false → b < upto n (row_of s l).stage → (list_any (asks (row_of s l).round) (s.links l b) || list_any (replies (row_of s l).round) (s.links b l)) ≡ true

unlost_new : (n : ℕ) (votes : List Vote) → Unlost n (new n votes)
unlost_new n votes = record {
  begun = record {
    sent = λ a b e. absurd (grind arith);
    promises = λ b known running e. absurd (grind (arith, row_of_new n votes b));
    counting = λ running e. absurd (grind arith);
  };
  prepare_there = λ b low known run0 runb init below. absurd (grind arith);
  vote_there = λ b low known run0 c runb v out. absurd (grind arith);
  ask_there = λ l b kl low kb runl lead runb out silent below. absurd (grind (arith, row_of_new n votes l));
}

voted_promised : (stage : Stage) → has_voted stage ≡ true → promised stage ≡ true
voted_promised stage e = grind arith

module _ {n : ℕ} {votes : List Vote} {s s' : State} {p : ℕ} {input : Input} {r : Response} (t : Turn n votes s s' p input r) (w : Unlost n s) where
  row_zero : p ≡ 0 → row_of s' 0 ≡ r.row
  row_zero z = subst (λ (x : ℕ). row_of s' x ≡ r.row) z t.move.changes.own_row

  sent_then : (a b : ℕ) → list_any prepares (s'.links a b) ≡ true → has 1 (s'.entries 0) ≡ true
  sent_then a b e = has_then t 1 0 (⊎_elim (λ old. w.begun.sent a b old) (λ new. given (gave_prepare (acts t) b new.1)) (was_there t prepares a b e))
    where
      given : (runs (row_of s p).status ≡ true) × (counts (row_of s p).stage ≡ true) → has 1 (s.entries 0) ≡ true
      given (running, c) = let z = (mover t).shape.counts_at c in w.begun.counting (rw z at running) (rw z at c)

  promises_then : (b : ℕ) → b < n → runs (row_of s' b).status ≡ true → promised (row_of s' b).stage ≡ true → has 1 (s'.entries 0) ≡ true
  promises_then b known running e = has_then t 1 0 (⊎_elim own (λ other. w.begun.promises b known (runs_before t b running) (rw other.1 at e)) (own_or_other t b))
    where
      own : (b ≡ p) × (row_of s' b ≡ r.row) → has 1 (s.entries 0) ≡ true
      own (same, row) =
          ⊎_elim (λ old. w.begun.promises p (mine t) (still_runs (acts t) (rw row at running)) old) (λ new. w.begun.sent (source input) p (heard_there t prepares new))
          (or_cases _ _ (new_promise (acts t) (rw row at running) (rw row at e)))

  counting_then : runs (row_of s' 0).status ≡ true → counts (row_of s' 0).stage ≡ true → has 1 (s'.entries 0) ≡ true
  counting_then running e = ⊎_elim own (λ other. has_then t 1 0 (w.begun.counting (runs_before t 0 running) (rw other.1 at e))) (own_or_other t 0)
    where
      written_now : wrote 1 r.effect ≡ true → has 1 (s'.entries p) ≡ true
      written_now new = rw (t.move.changes.own_entries, has_wrote 1 r.effect (s.entries p), new) (or_right _ _ refl)

      own : (0 ≡ p) × (row_of s' 0 ≡ r.row) → has 1 (s'.entries 0) ≡ true
      own (same, row) =
          ⊎_elim (λ old. has_then t 1 0 (w.begun.counting (runs_before t 0 running) (subst (λ (x : ℕ). counts (row_of s x).stage ≡ true) (sym same) old))) (λ new. subst (λ (x : ℕ). has 1 (s'.entries x) ≡ true) (sym same) (written_now new))
          (or_cases _ _ (new_counts (acts t) (rw row at running) (rw row at e)))

  prepare_then : (b : ℕ) → 1 ≤ b → b < n → runs (row_of s' 0).status ≡ true → runs (row_of s' b).status ≡ true → initial (row_of s' b).stage ≡ true → b < reach n (row_of s' 0).stage → list_any prepares (s'.links 0 b) ≡ true
  prepare_then b low known run0 runb init below = ⊎_elim own other (cases_eq p 0)
    where
      before : initial (row_of s b).stage ≡ true → b < reach n (row_of s 0).stage → list_any prepares (s.links 0 b) ≡ true
      before i e = w.prepare_there b low known (runs_before t 0 run0) (runs_before t b runb) i e

      own : p ≡ 0 → list_any prepares (s'.links 0 b) ≡ true
      own z =
          let apart : b ≢ p = λ e. omega (arith, e, z, low) in
          let row = row_zero z in
          let i = rw (t.move.changes.other_row b apart) at init in
          ⊎_elim (λ old. ⊎_elim (λ still. still) (λ gone. absurd (apart gone.0)) (is_there t prepares 0 b (before i (rw z at (ltb-true b (reach n (row_of s p).stage) old)))))
          (λ new. rw z at (now_there t prepares b new))
          (or_cases _ _ (prepared_on (acts t) b low known (rw row at run0) (rw row at below)))

      still_here : p ≢ 0 → list_any prepares (s.links 0 b) ≡ true → (b ≡ p → hears_that prepares input ≡ false) → list_any prepares (s'.links 0 b) ≡ true
      still_here z there deaf =
          ⊎_elim (λ still. still) (λ (gone : (b ≡ p) × (takes prepares input 0 ≡ true)). absurd (both_ways _ (deaf gone.0) (taker_hears (acts t) prepares 0 (rw gone.0 at (runs_before t b runb)) gone.1)))
          (is_there t prepares 0 b there)

      other : p ≢ 0 → list_any prepares (s'.links 0 b) ≡ true
      other z = ⊎_elim mover_case (λ (apart : (b ≢ p) × (row_of s' b ≡ row_of s b)). still_here z (before (rw apart.1 at init) far) (λ same. absurd (apart.0 same))) (own_or_other t b)
        where
          far : b < reach n (row_of s 0).stage
          far = rw (t.move.changes.other_row 0 (λ e. z (sym e))) at below

          mover_case : (b ≡ p) × (row_of s' b ≡ r.row) → list_any prepares (s'.links 0 b) ≡ true
          mover_case (same, row) =
              let i = still_initial (acts t) (rw row at runb) (rw row at init) in
              still_here z (before (rw same i.0) far) (λ _. deaf (hears_that prepares input) (eqb p 0) (ne_eqb p 0 z) i.1)
            where
              deaf : (h e : Bool) → e ≡ false → (h && not e) ≡ false → h ≡ false
              deaf h e f g = grind arith

  vote_then : (b : ℕ) → 1 ≤ b → b < n → runs (row_of s' 0).status ≡ true → counts (row_of s' 0).stage ≡ true → runs (row_of s' b).status ≡ true → has_voted (row_of s' b).stage ≡ true → in_either (row_of s' 0).ayes (row_of s' 0).noes b ≡ false → list_any is_vote (s'.links b 0) ≡ true
  vote_then b low known run0 c runb v out = ⊎_elim own other (cases_eq p 0)
    where
      own : p ≡ 0 → list_any is_vote (s'.links b 0) ≡ true
      own z = ⊎_elim (λ still. still) (λ gone. absurd (both_ways _ unheard (heard_vote (acts t) b t.few notes.ayes_long notes.noes_long runs_then counts_then gone.1))) (is_there t is_vote b 0 there)
        where
          notes : Notes p (row_of s p)
          notes = (mover t).notes

          runs_then : runs r.row.status ≡ true
          runs_then = rw (row_zero z) at run0

          counts_then : counts r.row.stage ≡ true
          counts_then = rw (row_zero z) at c

          unheard : in_either r.row.ayes r.row.noes b ≡ false
          unheard = rw (row_zero z) at out

          voted : has_voted (row_of s b).stage ≡ true
          voted = rw (t.move.changes.other_row b (λ e. omega (arith, e, z, low))) at v

          -- a begin comes before every vote
          too_soon : wrote 1 r.effect ≡ true → ⊥
          too_soon new =
              let first = begins_first (acts t) new in
              let none = has_none 1 (s.entries p) (((mover t).told first.0).nothing_yet first.1) in
              both_ways _ (rw z at none) (w.begun.promises b known (runs_before t b runb) (voted_promised (row_of s b).stage voted))

          counted : counts (row_of s p).stage ≡ true
          counted = ⊎_elim (λ old. old) (λ new. absurd (too_soon new)) (or_cases _ _ (new_counts (acts t) runs_then counts_then))

          out_before : in_either (row_of s p).ayes (row_of s p).noes b ≡ false
          out_before = ⊎_elim (λ there. absurd (both_ways _ unheard (heard_still (acts t) b t.few notes.ayes_long notes.noes_long runs_then there))) (λ none. none) (cases_Bool _)

          there : list_any is_vote (s.links b 0) ≡ true
          there = w.vote_there b low known (runs_before t 0 run0) (rw z at counted) (runs_before t b runb) voted (rw z at out_before)

      other : p ≢ 0 → list_any is_vote (s'.links b 0) ≡ true
      other z = ⊎_elim moves (λ apart. before (rw apart.1 at v)) (own_or_other t b)
        where
          row : row_of s' 0 ≡ row_of s 0
          row = t.move.changes.other_row 0 (λ e. z (sym e))

          before : has_voted (row_of s b).stage ≡ true → list_any is_vote (s'.links b 0) ≡ true
          before voted =
              ⊎_elim (λ still. still) (λ gone. absurd (z (sym gone.0)))
              (is_there t is_vote b 0 (w.vote_there b low known (runs_before t 0 run0) (rw row at c) (runs_before t b runb) voted (rw row at out)))

          moves : (b ≡ p) × (row_of s' b ≡ r.row) → list_any is_vote (s'.links b 0) ≡ true
          moves (same, mine_then) =
              ⊎_elim (λ old. before (rw same old)) (λ new. rw same (now_there t is_vote 0 new))
              (or_cases _ _ (new_voted (acts t) (rw mine_then at runb) (rw mine_then at v)))

  -- the leader itself moves
  module _ (b : ℕ) (low : p < b) (kb : b < n) (running : runs r.row.status ≡ true) (lead : leads r.row.stage ≡ true) (runb : runs (row_of s' b).status ≡ true) (out : is_in r.row.noticed b ≡ false) (silent : is_in r.row.replied b ≡ false) (below : b < upto n r.row.stage) where
    own_round : expiring input ≡ false → (list_any (asks (row_of s p).round) (s'.links p b) || list_any (replies (row_of s p).round) (s'.links b p)) ≡ true
    own_round quiet = ⊎_elim (λ old. ⊎_elim asks_still replies_still (or_cases _ _ (there (ltb-true b (upto n (row_of s p).stage) old)))) (λ new. or_left _ _ (now_there t (asks (row_of s p).round) b new)) (or_cases _ _ (asked_on (acts t) t.few b low kb quiet running lead absent below))
      where
        absent : is_in (row_of s p).noticed b ≡ false
        absent = rw (keeps_round (acts t) quiet running).1 at out

        silent_before : is_in (row_of s p).replied b ≡ false
        silent_before = ⊎_elim (λ there. absurd (both_ways _ silent (replied_still (acts t) b t.few (mover t).notes.replied_long running quiet there))) (λ none. none) (cases_Bool _)

        there : b < upto n (row_of s p).stage → (list_any (asks (row_of s p).round) (s.links p b) || list_any (replies (row_of s p).round) (s.links b p)) ≡ true
        there far = w.ask_there p b (mine t) low kb (still_runs (acts t) running) (leads_before (acts t) quiet running lead) (runs_before t b runb) absent silent_before far

        asks_still : list_any (asks (row_of s p).round) (s.links p b) ≡ true → (list_any (asks (row_of s p).round) (s'.links p b) || list_any (replies (row_of s p).round) (s'.links b p)) ≡ true
        asks_still e = ⊎_elim (λ still. or_left _ _ still) (λ gone. absurd (omega (arith, gone.0, low))) (is_there t (asks (row_of s p).round) p b e)

        replies_still : list_any (replies (row_of s p).round) (s.links b p) ≡ true → (list_any (asks (row_of s p).round) (s'.links p b) || list_any (replies (row_of s p).round) (s'.links b p)) ≡ true
        replies_still e =
            ⊎_elim (λ still. or_right _ _ still) (λ gone. absurd (both_ways _ silent (heard_reply (acts t) b t.few (mover t).notes.replied_long running lead gone.1)))
            (is_there t (replies (row_of s p).round) b p e)

    own_asks : (list_any (asks r.row.round) (s'.links p b) || list_any (replies r.row.round) (s'.links b p)) ≡ true
    own_asks =
        ⊎_elim (λ expiry. absurd (both_ways _ out (asked_anew (acts t) t.few b low kb expiry (leads_again t expiry) lead below)))
        (λ quiet. subst (λ (k : ℕ). (list_any (asks k) (s'.links p b) || list_any (replies k) (s'.links b p)) ≡ true) (sym (keeps_round (acts t) quiet running).0) (own_round quiet)) (cases_Bool (expiring input))

  ask_then : (l b : ℕ) → l < n → l < b → b < n → runs (row_of s' l).status ≡ true → leads (row_of s' l).stage ≡ true → runs (row_of s' b).status ≡ true → is_in (row_of s' l).noticed b ≡ false → is_in (row_of s' l).replied b ≡ false → b < upto n (row_of s' l).stage → (list_any (asks (row_of s' l).round) (s'.links l b) || list_any (replies (row_of s' l).round) (s'.links b l)) ≡ true
  ask_then l b kl low kb runl lead runb out silent below = ⊎_elim own other (own_or_other t l)
    where
      own : (l ≡ p) × (row_of s' l ≡ r.row) → (list_any (asks (row_of s' l).round) (s'.links l b) || list_any (replies (row_of s' l).round) (s'.links b l)) ≡ true
      own (same, row) = rw (row, same) (own_asks b (rw same at low) kb (rw row at runl) (rw row at lead) runb (rw row at out) (rw row at silent) (rw row at below))

      other : (l ≢ p) × (row_of s' l ≡ row_of s l) → (list_any (asks (row_of s' l).round) (s'.links l b) || list_any (replies (row_of s' l).round) (s'.links b l)) ≡ true
      other (apart, row) =
          rw row
          (⊎_elim (λ asked. ⊎_elim (λ still. or_left _ _ still) (λ gone. or_right _ _ (replied gone.0 gone.1)) (is_there t (asks (row_of s l).round) l b asked))
          (λ reply. ⊎_elim (λ still. or_right _ _ still) (λ gone. absurd (apart gone.0)) (is_there t (replies (row_of s l).round) b l reply))
          (or_cases _ _ (w.ask_there l b kl low kb (runs_before t l runl) (rw row at lead) (runs_before t b runb) (rw row at out) (rw row at silent) (rw row at below))))
        where
          replied : b ≡ p → takes (asks (row_of s l).round) input l ≡ true → list_any (replies (row_of s l).round) (s'.links b l) ≡ true
          replied same gone = rw same (now_there t (replies (row_of s l).round) l (answers (acts t) (row_of s l).round l (rw same at (runs_before t b runb)) gone))

  unlost_then : Unlost n s'
  unlost_then = record { begun = record { sent = sent_then; promises = promises_then; counting = counting_then }; prepare_there = prepare_then; vote_there = vote_then; ask_there = ask_then }

pub unlost_run : (depth n : ℕ) (votes : List Vote) → 2 ≤ n → n ≤ 8 → (calls : List Call) → Unlost n (after_all depth (new n votes) calls)
unlost_run depth n votes many few calls = turns depth n votes many few (Unlost n) (unlost_new n votes) (λ s s' p input r t w. unlost_then t w) calls
