-- Whom an announcement has passed: they have the order before them, or have heeded it.
use Rattle.std.proofs.Common.{◌≡◌, ℕ, ◌<◌, ◌≤◌, Bool, true, false, ◌&&◌, ◌||◌, ◌≢◌, ◌⊎◌, List, Some, sym, refl, ◌∙◌, inl, inr, ⊎_elim, arith}
use Rattle.std.specs.List.{list_any}
use Rattle.std.proofs.lemmas.Bool.{and_parts, and_from, both_ways, false≢true, cases_eq, not-true, or_cases, or_left, or_right}
use Rattle.std.proofs.lemmas.Bool.Decides.{nat_tests}
use Rattle.journals.specs.Codes.{code_of}
use Rattle.network.specs.declared.message.Decision.{Decision}
use Rattle.network.specs.declared.message.Decision.TheVariants.{Post}
use Rattle.network.specs.declared.message.Message.TheVariants.{Prepare, Vote as Voted, Order, Ask, Reply}
use Rattle.network.specs.declared.message.Vote.{Vote}
use Rattle.rules.specs.Entries.{obeyed}
use Rattle.rules.specs.Rules.{same}
use Rattle.rules.specs.Stages.{held}
use Rattle.rules.specs.declared.effect.Response.{Response}
use Rattle.rules.specs.declared.row.Row.{Row}
use Rattle.protocol.specs.Plans.{after_all, call_after}
use Rattle.protocol.specs.State.{State, has, row_of, runs}
use Rattle.protocol.specs.declared.call.Call.{Call}
use Rattle.protocol.specs.declared.call.Call.TheVariants.{Begin, Step, Deliver, Expire, Stop, Restart}
use Rattle.promises.specs.Promises.{DisputesShown, opposite}
use Rattle.promises.specs.Runs.{happened, new, step_obeys, taken}
use Rattle.promises.proofs.Between.{Turn, acts, had, is_there, now_there, own_or_other, runs_before, sound_run, turns_with}
use Rattle.promises.proofs.Did.{ended, heeds, obeys, orders, passed_on, passes, posts, settles, stays_settled, wrote}
use Rattle.promises.proofs.Each.{me}
use Rattle.promises.proofs.Moves.{Cause, Input, begins, steps, hears, expires, stops, restarts, misses, Rule, gives, takes, written}
use Rattle.promises.proofs.Quiet.{all_empty}

-- an announcement of d by w has passed b, or w has ended it by a step, whatever became of w
abbrev pub passed : State → ℕ → Decision → Bool → ℕ → Bool
passed s w d over b = over || (runs (row_of s w).status && passes d b (row_of s w).stage)

-- for one announcer and one decision
abbrev pub Spread : ℕ → ℕ → Decision → Bool → State → Type 0
Spread n w d over s = (b : ℕ) → b < n → b ≢ w → passed s w d over b ≡ true → (list_any (orders d) (s.links w b) || settles d (row_of s b) (s.entries b)) ≡ true

spread_new : (n : ℕ) (votes : List Vote) (w : ℕ) (d : Decision) → Spread n w d false (new n votes)
spread_new n votes w d b known other e = grind (arith, nat_tests)

module _ {n : ℕ} {votes : List Vote} {s s' : State} {p : ℕ} {input : Input} {r : Response} (t : Turn n votes s s' p input r) (w : ℕ) (d : Decision) where
  -- once settled, or ordered, b stays so
  spread_still : (b : ℕ) → b < n → (list_any (orders d) (s.links w b) || settles d (row_of s b) (s.entries b)) ≡ true → (list_any (orders d) (s'.links w b) || settles d (row_of s' b) (s'.entries b)) ≡ true
  spread_still b known e = ⊎_elim ordered (λ settled. or_right _ _ (still settled)) (or_cases _ _ e)
    where
      still : settles d (row_of s b) (s.entries b) ≡ true → settles d (row_of s' b) (s'.entries b) ≡ true
      still settled = ⊎_elim (λ (own : b ≡ p). rw (own, t.move.changes.own_row, t.move.changes.own_entries) (stays_settled (acts t) d (rw own at settled))) (λ other. rw (t.move.changes.other_row b other, t.move.changes.other_entries b other) settled) (cases_eq b p)

      heeded : (i : Input) → Rule (me n votes p) (row_of s p) (s.entries p) i r → takes (orders d) i w ≡ true → settles d r.row (written r.effect (s.entries p)) ≡ true
      heeded begins rule e = absurd (grind arith)
      heeded steps rule e = absurd (grind arith)
      heeded (hears q Prepare) rule e = absurd (grind (arith, nat_tests))
      heeded (hears q (Voted v)) rule e = absurd (grind (arith, nat_tests))
      heeded (hears q (Order o)) rule e = heeds (me n votes p) (row_of s p) (s.entries p) r q d o rule (and_parts _ _ e).1
      heeded (hears q (Ask k)) rule e = absurd (grind (arith, nat_tests))
      heeded (hears q (Reply k h)) rule e = absurd (grind (arith, nat_tests))
      heeded (expires q) rule e = absurd (grind arith)
      heeded stops rule e = absurd (grind arith)
      heeded restarts rule e = absurd (grind arith)
      heeded (misses q m) rule e = grind arith

      after : b ≡ p → takes (orders d) input w ≡ true → settles d (row_of s' b) (s'.entries b) ≡ true
      after own gone = rw (own, t.move.changes.own_row, t.move.changes.own_entries) (heeded input (acts t).by_rule gone)

      ordered : list_any (orders d) (s.links w b) ≡ true → (list_any (orders d) (s'.links w b) || settles d (row_of s' b) (s'.entries b)) ≡ true
      ordered there =
          ⊎_elim (λ on_way. or_left _ _ on_way) (λ gone. or_right _ _ (after gone.0 gone.1)) (is_there t (orders d) w b there)

  spread_then : (over more : Bool) → (more ≡ true → (p ≡ w) × (wrote (code_of (obeyed d)) r.effect ≡ true) × (runs (row_of s p).status ≡ true)) → Spread n w d over s → Spread n w d (over || more) s'
  spread_then over more obeyed_now spread b known other e = ⊎_elim (λ o. ⊎_elim before ends (or_cases over more o)) (λ now. let parts = and_parts _ _ now in goes_on parts.0 parts.1 (own_or_other t w)) (or_cases _ _ e)
    where
      before : over ≡ true → (list_any (orders d) (s'.links w b) || settles d (row_of s' b) (s'.entries b)) ≡ true
      before o = spread_still b known (spread b known other (or_left _ _ o))

      already : runs (row_of s w).status ≡ true → passes d b (row_of s w).stage ≡ true → (list_any (orders d) (s'.links w b) || settles d (row_of s' b) (s'.entries b)) ≡ true
      already running pass = spread_still b known (spread b known other (or_right _ _ (and_from _ _ running pass)))

      ends : more ≡ true → (list_any (orders d) (s'.links w b) || settles d (row_of s' b) (s'.entries b)) ≡ true
      ends m =
          let now = obeyed_now m in
          already (rw now.0 at now.2) (rw now.0 at (ended (acts t) d b (obeys (acts t) d now.1 now.2)))

      goes_on : runs (row_of s' w).status ≡ true → passes d b (row_of s' w).stage ≡ true → ((w ≡ p) × (row_of s' w ≡ r.row)) ⊎ ((w ≢ p) × (row_of s' w ≡ row_of s w)) → (list_any (orders d) (s'.links w b) || settles d (row_of s' b) (s'.entries b)) ≡ true
      goes_on running pass (inr (apart, row)) = already (rw row at running) (rw row at pass)
      goes_on running pass (inl (own, row)) =
          let sent : gives (orders d) r.effect b ≡ true → list_any (orders d) (s'.links w b) ≡ true = λ new. rw own (now_there t (orders d) b new) in
          ⊎_elim (λ (old : passes d b (row_of s p).stage ≡ true). already (runs_before t w running) (rw own old)) (λ new. or_left _ _ (sent new))
          (or_cases _ _ (passed_on (acts t) d b (λ e. other (e ∙ sym own)) known (rw row at running) (rw row at pass)))

-- an 8 in a journal was written by a step
abbrev pub Posted : ℕ → State → Type 0
Posted n s = (w : ℕ) → Spread n w Post (has 8 (s.entries w)) s

pub posted_new : (n : ℕ) (votes : List Vote) → Posted n (new n votes)
posted_new n votes w = grind (arith, nat_tests)

pub posted_then : {n : ℕ} {votes : List Vote} {s s' : State} {p : ℕ} {input : Input} {r : Response} → Turn n votes s s' p input r → Posted n s → Posted n s'
posted_then {s} {s'} {p} {r} t posted w b known other e =
    ⊎_elim (λ eight. ⊎_elim (λ old. then false (λ no_more. absurd (false≢true no_more)) (or_left _ _ (or_left _ _ old))) (λ new. then true (λ _. (sym new.0, new.1, (posts (acts t) new.1).0)) (or_left _ _ (or_right _ _ refl))) (had t 8 w eight))
    (λ now. then false (λ no_more. absurd (false≢true no_more)) (or_right _ _ now)) (or_cases _ _ e)
  where
    then : (more : Bool) → (more ≡ true → (p ≡ w) × (wrote 8 r.effect ≡ true) × (runs (row_of s p).status ≡ true)) → passed s' w Post (has 8 (s.entries w) || more) b ≡ true → (list_any (orders Post) (s'.links w b) || settles Post (row_of s' b) (s'.entries b)) ≡ true
    then more new e = spread_then t w Post (has 8 (s.entries w)) more new (posted w) b known other e

-- a step that obeys is one that ends an announcement
obeys_now : {n : ℕ} {votes : List Vote} {s : State} {p : ℕ} {input : Input} {r : Response} (depth : ℕ) (call : Call) (w : ℕ) (d : Decision) → Cause call p input → Turn n votes s (call_after depth s call) p input r → step_obeys w d depth s call ≡ true → (p ≡ w) × (wrote (code_of (obeyed d)) r.effect ≡ true) × (runs (row_of s p).status ≡ true)
obeys_now depth Begin w d cause t e = absurd (grind arith)
obeys_now {s} {p} {input} {r} depth (Step a) w d cause t e =
    let here = and_parts _ _ e in
    let new = and_parts _ _ here.1 in
    ⊎_elim (λ old. absurd (both_ways _ (not-true _ new.0) old)) (λ (now : (w ≡ p) × _). (sym now.0, now.1, (rw cause.1 at t.move.rule).0)) (had t (code_of (obeyed d)) w new.1)
obeys_now depth (Deliver q a) w d cause t e = absurd (grind arith)
obeys_now depth (Expire a q) w d cause t e = absurd (grind arith)
obeys_now depth (Stop a) w d cause t e = absurd (grind arith)
obeys_now depth (Restart a) w d cause t e = absurd (grind arith)

module _ (depth n : ℕ) (votes : List Vote) (many : 2 ≤ n) (few : n ≤ 8) (calls : List Call) where
  pub spread_run : (w : ℕ) (d : Decision) → Spread n w d (happened (step_obeys w d) depth (new n votes) calls) (after_all depth (new n votes) calls)
  spread_run w d =
      turns_with depth n votes many few (step_obeys w d) (Spread n w d) none
      (λ over s call p input r cause t answer spread. spread_then t w d over (step_obeys w d depth s call) (obeys_now depth call w d cause t) spread)
      (spread_new n votes w d) calls
    where
      none : (s : State) (call : Call) → call_after depth s call ≡ s → taken depth s call ≡ false → step_obeys w d depth s call ≡ false
      none s call same answer = grind arith

  pub disputes_shown : DisputesShown depth n votes calls
  disputes_shown clear p w d known other apart over running holds =
      let none = all_empty (after_all depth (new n votes) calls) n (sound_run depth n votes many few calls).ledgers_are few clear w p other known (λ e. apart (sym e)) in
      let spread = spread_run w d p known apart (or_left _ _ over) in
      shown d (row_of (after_all depth (new n votes) calls) p) ((after_all depth (new n votes) calls).entries p) running holds (rw none at spread)
    where
      shown : (d : Decision) (row : Row) (J : List ℕ) → runs row.status ≡ true → held row.stage ≡ Some (opposite d) → settles d row J ≡ true → has 10 J ≡ true
      shown d row J running holds e = grind (arith, nat_tests)
