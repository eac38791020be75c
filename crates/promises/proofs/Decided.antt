-- At rest every running ledger has decided, once the coordinator has begun or stopped.
use Rattle.std.proofs.Common.{◌≡◌, ℕ, zero, suc, ◌<◌, ◌≤◌, Bool, true, false, not, ◌&&◌, ◌||◌, eqb, ◌≢◌, List, [], is_some, Some, None, Option, sym, refl, ◌∙◌, subst, ⊎_elim, arith}
use Rattle.std.proofs.lemmas.Bool.{and_from, and_parts, both_ways, cases_Bool, cases_eq, false≢true, ne_eqb, not_from_false, not-true, or_cases, or_left, or_parts, or_right, and_left, and_right, not-false}
use Rattle.std.proofs.lemmas.Bool.Decides.{nat_tests}
use Rattle.network.specs.declared.message.Decision.{Decision}
use Rattle.network.specs.declared.message.Decision.TheVariants.{Post, Drop}
use Rattle.network.specs.declared.message.Vote.{Vote}
use Rattle.rules.specs.Ledgers.{first_missing, is_in}
use Rattle.rules.specs.Rules.{above}
use Rattle.rules.specs.Stages.{counts, held, initial, leads}
use Rattle.rules.specs.declared.effect.Response.{Response}
use Rattle.rules.specs.declared.ledger_set.LedgerSet.{LedgerSet}
use Rattle.rules.specs.declared.stage.Stage.{Stage}
use Rattle.rules.specs.declared.stage.Stage.TheVariants.{Initial, Preparing, Wait, Voting, Ready, Asking, Consulting, Announcing, Announced, Decided}
use Rattle.protocol.specs.Bounded.{all_below}
use Rattle.protocol.specs.Plans.{after_all, call_after}
use Rattle.protocol.specs.Rest.{all_clear, at_rest, clear, clear_from, idle, on_time, patient, settled, settled_from, unmissed}
use Rattle.protocol.specs.State.{State, has, row_of, runs}
use Rattle.protocol.specs.declared.call.Call.{Call}
use Rattle.promises.specs.Promises.{AllDecided}
use Rattle.promises.specs.Runs.{begins as begin_taken, happened, loses_coordinator, new, taken}
use Rattle.promises.proofs.Between.{Turn, acts, own_or_other, runs_before, sound_run, turns_with}
use Rattle.promises.proofs.Did.{passes}
use Rattle.promises.proofs.Each.{AllEach, each_run}
use Rattle.promises.proofs.Journal.{closed, is, promised}
use Rattle.promises.proofs.Lost.{Unlost, unlost_run}
use Rattle.promises.proofs.Moves.{Cause, Input}
use Rattle.promises.proofs.Quiet.{all_empty, all_of, below}
use Rattle.promises.proofs.Sets.{Lowest, found_none, lowest}
use Rattle.promises.proofs.Shape.{Shape}
use Rattle.promises.proofs.Spread.{Spread, spread_run}
use Rattle.promises.proofs.Timely.{unsettled}
use Rattle.promises.proofs.Waits.{has_voted, reach, still_initial, upto}

-- one that is missing
some_missing : (one other : LedgerSet) (p end : ℕ) → is_some (first_missing one other p end) ≡ true → (q : ℕ) × Lowest one other p end q
some_missing one other p end e = by (first_missing one other p end) refl e
  where
    by : (found : Option ℕ) → first_missing one other p end ≡ found → is_some found ≡ true → (q : ℕ) × Lowest one other p end q
    by (Some q) is_found e = (q, lowest one other p end q is_found)
    by None none e = absurd (false≢true e)

-- a stage with nothing left to do
abbrev rests : Stage → Bool
rests Initial = true
rests (Preparing next) = false
rests Wait = true
rests Voting = false
rests Ready = true
rests (Asking next) = false
rests Consulting = true
rests (Announcing d next) = false
rests (Announced d) = false
rests (Decided d) = true

idle_rests : (s : State) (p : ℕ) → p < s.ledgers → runs (row_of s p).status ≡ true → idle s p ≡ true → rests (row_of s p).stage ≡ true
idle_rests s p known running e = grind (arith, nat_tests)

patient_notices : (s : State) (p q : ℕ) → p < s.ledgers → q < s.ledgers → p ≢ q → runs (row_of s p).status ≡ true → is_some (held (row_of s p).stage) ≡ false → (eqb p 0 && initial (row_of s p).stage) ≡ false → patient s q p ≡ true → is_in (row_of s p).noticed q ≡ true
patient_notices s p q kp kq apart running none begun e = grind (arith, nat_tests)

-- what the stages at rest are
passed_all : (stage : Stage) (d : Decision) (b : ℕ) → rests stage ≡ true → is d (held stage) ≡ true → passes d b stage ≡ true
passed_all stage d b e f = grind arith

some_is : (h : Option Decision) → is_some h ≡ true → (is Post h || is Drop h) ≡ true
some_is h e = grind arith

is_closed : (stage : Stage) → rests stage ≡ true → is_some (held stage) ≡ true → (is Post (closed stage) || is Drop (closed stage)) ≡ true
is_closed stage e f = grind arith

asked_all : (n : ℕ) (stage : Stage) → rests stage ≡ true → leads stage ≡ true → (upto n stage ≡ n) × (is_some (held stage) ≡ false) × (initial stage ≡ false)
asked_all n stage e f = grind arith

waits_for : (n : ℕ) (stage : Stage) → rests stage ≡ true → is_some (held stage) ≡ false → initial stage ≡ false → leads stage ≡ false → promised stage ≡ false → (counts stage ≡ true) × (reach n stage ≡ n)
waits_for n stage e none i l k = grind arith

initial_or_voted : (stage : Stage) → rests stage ≡ true → is_some (held stage) ≡ false → leads stage ≡ false → counts stage ≡ false → (initial stage || has_voted stage) ≡ true
initial_or_voted stage e none l c = grind arith

-- a floor at rest whose coordinator has begun or stopped
module _ (n : ℕ) (votes : List Vote) (s : State) (many : 2 ≤ n) (few : n ≤ 8) (same : s.ledgers ≡ n) (each : AllEach n votes s) (unlost : Unlost n s) (spread : (w : ℕ) (d : Decision) → Spread n w d false s) (rest : at_rest s ≡ true) (started : runs (row_of s 0).status ≡ true → initial (row_of s 0).stage ≡ false) where
  parts : (all_clear s ≡ true) × ((all_below (idle s) s.ledgers && all_below (unmissed s) s.ledgers) ≡ true)
  parts = and_parts _ _ rest

  nothing : (q p : ℕ) → q < n → p < n → q ≢ p → s.links q p ≡ []
  nothing = all_empty s n same few parts.0

  rests_at : (p : ℕ) → p < n → runs (row_of s p).status ≡ true → rests (row_of s p).stage ≡ true
  rests_at p known running = idle_rests s p (omega arith) running (below (idle s) s.ledgers (and_parts _ _ parts.1).0 p (omega arith))

  on_time_now : (q : ℕ) → runs (row_of s q).status ≡ false → on_time s q ≡ true
  on_time_now q stopped =
      and_from _ _ (not_from_false _ stopped)
      (all_of (settled_from s) s.ledgers (λ a ka. all_of (settled s a) s.ledgers (λ b kb. or_right (runs (row_of s a).status) _ (or_right (not (runs (row_of s b).status)) _ (below (clear s a) s.ledgers (below (clear_from s) s.ledgers parts.0 a ka) b kb)))))

  -- a running undecided ledger has noticed whoever has stopped
  noticed_at : (p q : ℕ) → p < n → q < n → p ≢ q → runs (row_of s p).status ≡ true → is_some (held (row_of s p).stage) ≡ false → (eqb p 0 && initial (row_of s p).stage) ≡ false → runs (row_of s q).status ≡ false → is_in (row_of s p).noticed q ≡ true
  noticed_at p q kp kq apart running none begun stopped =
      patient_notices s p q (omega (arith, kp, same)) (omega (arith, kq, same)) apart running none begun
      (⊎_elim (λ late. absurd (both_ways _ (not-true _ late) (on_time_now q stopped))) (λ all. below (patient s q) s.ledgers all p (omega (arith, kp, same)))
      (or_cases _ _ (below (unmissed s) s.ledgers (and_parts _ _ parts.1).1 q (omega (arith, kq, same)))))

  no_leader : (l : ℕ) → l < n → runs (row_of s l).status ≡ true → leads (row_of s l).stage ≡ true → ⊥
  no_leader l known running lead = refuted (some_missing (row_of s l).noticed (row_of s l).replied (above l) n ((each l known).shape.asks lead))
    where
      kind : (upto n (row_of s l).stage ≡ n) × (is_some (held (row_of s l).stage) ≡ false) × (initial (row_of s l).stage ≡ false)
      kind = asked_all n (row_of s l).stage (rests_at l known running) lead

      begun : (eqb l 0 && initial (row_of s l).stage) ≡ false
      begun = and_right _ _ kind.2

      refuted : (x : ℕ) × Lowest (row_of s l).noticed (row_of s l).replied (above l) n x → ⊥
      refuted (x, it) = ⊎_elim asked (λ stopped. both_ways _ out.0 (noticed_at l x known it.high (λ e. omega (arith, e, higher)) running kind.1 begun stopped)) (cases_Bool (runs (row_of s x).status))
        where
          higher : l < x
          higher = omega (arith, it.low, known, few)

          out : (is_in (row_of s l).noticed x ≡ false) × (is_in (row_of s l).replied x ≡ false)
          out = or_parts _ _ it.missing

          asked : runs (row_of s x).status ≡ true → ⊥
          asked runs_now =
              let there = unlost.ask_there l x known higher it.high running lead runs_now out.0 out.1 (rw kind.0 it.high) in
              false≢true (rw (nothing l x known it.high (λ e. omega (arith, e, higher)), nothing x l it.high known (λ e. omega (arith, e, higher))) at there)

  -- one undecided ledger makes all undecided
  module _ (p : ℕ) (known : p < n) (running : runs (row_of s p).status ≡ true) (undecided : is_some (held (row_of s p).stage) ≡ false) where
    no_holder : (w : ℕ) → w < n → runs (row_of s w).status ≡ true → is_some (held (row_of s w).stage) ≡ false
    no_holder w kw runs_now = ⊎_elim (λ some. absurd (⊎_elim (told Post some) (told Drop some) (or_cases _ _ (some_is (held (row_of s w).stage) some)))) (λ none. none) (cases_Bool _)
      where
        told : (d : Decision) → is_some (held (row_of s w).stage) ≡ true → is d (held (row_of s w).stage) ≡ true → ⊥
        told d some holds =
            let apart : p ≢ w = λ (e : p ≡ w). both_ways _ (rw e at undecided) some in
            let told_p = spread w d p known apart (and_from _ _ runs_now (passed_all (row_of s w).stage d p (rests_at w kw runs_now) holds)) in
            unsettled d (row_of s p) (s.entries p) running undecided (rw (nothing w p kw known (λ e. apart (sym e))) at told_p)

    -- the coordinator lacks no vote
    coordinator : runs (row_of s 0).status ≡ true → ⊥
    coordinator now = refuted (some_missing (row_of s 0).ayes (row_of s 0).noes 1 n (shape.lacks kind.0))
      where
        zeroth : 0 < n
        zeroth = omega (arith, many)

        shape : Shape n 0 (row_of s 0)
        shape = (each 0 zeroth).shape

        kind : (counts (row_of s 0).stage ≡ true) × (reach n (row_of s 0).stage ≡ n)
        kind =
            waits_for n (row_of s 0).stage (rests_at 0 zeroth now) (no_holder 0 zeroth now) (started now)
            (⊎_elim (λ l. absurd (no_leader 0 zeroth now l)) (λ none. none) (cases_Bool _))
            (⊎_elim (λ k. absurd (omega (arith, shape.promised_at k))) (λ none. none) (cases_Bool _))

        refuted : (x : ℕ) × Lowest (row_of s 0).ayes (row_of s 0).noes 1 n x → ⊥
        refuted (x, it) = ⊎_elim lacks (λ stopped. both_ways _ it.missing (shape.noticed_heard kind.0 x (noticed_at 0 x zeroth it.high (λ e. omega (arith, e, it.low)) now (no_holder 0 zeroth now) (and_right (eqb 0 0) _ (started now)) stopped))) (cases_Bool (runs (row_of s x).status))
          where
            empty_up : s.links 0 x ≡ []
            empty_up = nothing 0 x zeroth it.high (λ e. omega (arith, e, it.low))

            empty_down : s.links x 0 ≡ []
            empty_down = nothing x 0 it.high zeroth (λ e. omega (arith, e, it.low))

            lacks : runs (row_of s x).status ≡ true → ⊥
            lacks runs_now =
                ⊎_elim (λ init. false≢true (rw empty_up at (unlost.prepare_there x it.low it.high now runs_now init (rw kind.1 it.high))))
                (λ voted. false≢true (rw empty_down at (unlost.vote_there x it.low it.high now kind.0 runs_now voted it.missing)))
                (or_cases _ _ (initial_or_voted (row_of s x).stage (rests_at x it.high runs_now) (no_holder x it.high runs_now)
                (⊎_elim (λ l. absurd (no_leader x it.high runs_now l)) (λ none. none) (cases_Bool _))
                (⊎_elim (λ c. absurd (omega (arith, (each x it.high).shape.counts_at c, it.low))) (λ none. none) (cases_Bool _))))

    -- the lowest running ledger would lead
    lowest_leads : (k : ℕ) → k < n → ((y : ℕ) → y < k → runs (row_of s y).status ≡ false) → runs (row_of s k).status ≡ true → k ≢ 0 → ⊥
    lowest_leads k kk lower now other =
        let none = no_holder k kk now in
        let begun = and_left _ (initial (row_of s k).stage) (ne_eqb k 0 other) in
        let left = found_none (row_of s k).noticed (row_of s k).noticed 0 k (λ y _ low. or_left _ _ (noticed_at k y kk (omega (arith, low, kk)) (λ e. omega (arith, e, low)) now none begun (lower y low))) in
        no_leader k kk now (not-false _ (sym ((each k kk).shape.leads_last (omega (arith, other)) none) ∙ left))

    none_runs : (k : ℕ) → k ≤ n → (x : ℕ) → x < k → runs (row_of s x).status ≡ false
    none_runs zero low x high = absurd (omega arith)
    none_runs (suc k) low x high =
        ⊎_elim (λ (e : x ≡ k). ⊎_elim (λ now. absurd (⊎_elim (λ (zeroth : k ≡ 0). coordinator (rw (e ∙ zeroth) at now)) (lowest_leads k low (none_runs k (omega arith)) (rw e at now)) (cases_eq k 0))) (λ stopped. stopped) (cases_Bool _))
        (λ other. none_runs k (omega arith) x (omega (arith, other))) (cases_eq x k)

    nobody : ⊥
    nobody = both_ways _ (none_runs n (omega arith) p known) running

  pub decided_at : (p : ℕ) → p < n → runs (row_of s p).status ≡ true → (has 8 (s.entries p) || has 9 (s.entries p)) ≡ true
  decided_at p known running =
      ⊎_elim ended (λ none. absurd (nobody p known running none)) (cases_Bool (is_some (held (row_of s p).stage)))
    where
      ended : is_some (held (row_of s p).stage) ≡ true → (has 8 (s.entries p) || has 9 (s.entries p)) ≡ true
      ended some = let told = (each p known).told running in rw (told.posted, told.dropped) (is_closed (row_of s p).stage (rests_at p known running) some)

-- the coordinator's begin, or its stop, stays
module _ (depth n : ℕ) (votes : List Vote) (many : 2 ≤ n) (few : n ≤ 8) (calls : List Call) where
  abbrev Started : State → Type 0
  Started s = runs (row_of s 0).status ≡ true → initial (row_of s 0).stage ≡ false

  started_then : {s s' : State} {p : ℕ} {input : Input} {r : Response} → Turn n votes s s' p input r → Started s → Started s'
  started_then {s} {s'} {p} {r} t before running = ⊎_elim (λ init. absurd (both_ways _ (before (runs_before t 0 running)) (first init))) (λ none. none) (cases_Bool _)
    where
      first : initial (row_of s' 0).stage ≡ true → initial (row_of s 0).stage ≡ true
      first init = ⊎_elim (λ (own : (0 ≡ p) × (row_of s' 0 ≡ r.row)). subst (λ (x : ℕ). initial (row_of s x).stage ≡ true) (sym own.0) (still_initial (acts t) (rw own.1 at running) (rw own.1 at init)).0) (λ other. rw other.1 at init) (own_or_other t 0)

  module _ (event : ℕ → State → Call → Bool) (none : (s : State) (call : Call) → call_after depth s call ≡ s → taken depth s call ≡ false → event depth s call ≡ false)
      (now : (s s' : State) (call : Call) (p : ℕ) (input : Input) (r : Response) → Cause call p input → Turn n votes s s' p input r → event depth s call ≡ true → Started s') where
    started_run : happened event depth (new n votes) calls ≡ true → Started (after_all depth (new n votes) calls)
    started_run =
        turns_with depth n votes many few event (λ yet s. yet ≡ true → Started s) none
        (λ yet s call p input r cause t answer before e. ⊎_elim (λ old. started_then t (before old)) (λ new. now s (call_after depth s call) call p input r cause t new) (or_cases _ _ e))
        (λ e. absurd (false≢true e)) calls

  begun_run : happened begin_taken depth (new n votes) calls ≡ true → Started (after_all depth (new n votes) calls)
  begun_run = started_run begin_taken none now
    where
      none : (s : State) (call : Call) → call_after depth s call ≡ s → taken depth s call ≡ false → begin_taken depth s call ≡ false
      none s call same answer = grind arith

      now : (s s' : State) (call : Call) (p : ℕ) (input : Input) (r : Response) → Cause call p input → Turn n votes s s' p input r → begin_taken depth s call ≡ true → Started s'
      now s s' call p input r cause t e running = grind (arith, nat_tests)

  stopped_run : happened loses_coordinator depth (new n votes) calls ≡ true → Started (after_all depth (new n votes) calls)
  stopped_run = started_run loses_coordinator none now
    where
      none : (s : State) (call : Call) → call_after depth s call ≡ s → taken depth s call ≡ false → loses_coordinator depth s call ≡ false
      none s call same answer = grind arith

      now : (s s' : State) (call : Call) (p : ℕ) (input : Input) (r : Response) → Cause call p input → Turn n votes s s' p input r → loses_coordinator depth s call ≡ true → Started s'
      now s s' call p input r cause t e running = grind (arith, nat_tests)

  pub all_decided : AllDecided depth n votes calls
  all_decided rest had p known running =
      decided_at n votes (after_all depth (new n votes) calls) many few (sound_run depth n votes many few calls).ledgers_are (each_run n votes many few depth calls) (unlost_run depth n votes many few calls)
      (λ w d b kb apart e. spread_run depth n votes many few calls w d b kb apart (or_right _ _ e)) rest (⊎_elim begun_run stopped_run (or_cases _ _ had)) p known running
