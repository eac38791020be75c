-- One move, seen from all ledgers.
use Rattle.std.proofs.Common.{◌≡◌, ℕ, ◌<◌, ◌≤◌, Bool, true, false, not, ◌||◌, ◌≢◌, ◌⊎◌, List, refl, ap, ◌∙◌, inl, inr, ⊎_elim, arith}
use Rattle.std.specs.List.{list_any}
use Rattle.std.proofs.lemmas.Bool.{cases_eq, or_cases, or_left, or_right}
use Rattle.std.proofs.lemmas.Bool.Decides.{nat_tests}
use Rattle.network.specs.declared.message.Decision.{Decision}
use Rattle.network.specs.declared.message.Decision.TheVariants.{Post, Drop}
use Rattle.network.specs.declared.message.Message.{Message}
use Rattle.network.specs.declared.message.Vote.{Vote}
use Rattle.rules.specs.Rules.{with_notice}
use Rattle.rules.specs.Stages.{held, leads}
use Rattle.rules.specs.declared.effect.Response.{Response}
use Rattle.rules.specs.declared.row.Member.{Member}
use Rattle.rules.specs.declared.row.Row.{Row}
use Rattle.protocol.specs.Plans.{after_all, call_after}
use Rattle.protocol.specs.declared.call.Call.{Call}
use Rattle.promises.specs.Runs.{happened, new, taken}
use Rattle.protocol.specs.State.{State, has, row_of, runs}
use Rattle.journals.specs.Codes.{code_of}
use Rattle.rules.specs.Entries.{reached, received}
use Rattle.promises.proofs.Did.{Acts, expiring, expiry_comes, has_wrote, hears_that, source, wrote}
use Rattle.promises.proofs.Each.{AllEach, Each, each_after, each_new, me}
use Rattle.promises.proofs.Shape.{lower_kept, lower_left}
use Rattle.promises.proofs.Journal.{is, knows}
use Rattle.promises.proofs.Moves.{Input, Cause, Move, Sound, every_run, plain_run, gives, given_there, has_still, still_there, takes, there_before, written}

-- what a running ledger holds, its journal knows
pub holder_knows : (d : Decision) (who : Member) (row : Row) (J : List ℕ) → Each who row J → runs row.status ≡ true → is d (held row.stage) ≡ true → knows d J ≡ true
holder_knows d who row J each running e = grind (arith, nat_tests)

pub knower_holds : (d : Decision) (who : Member) (row : Row) (J : List ℕ) → Each who row J → runs row.status ≡ true → knows d J ≡ true → is d (held row.stage) ≡ true
knower_holds d who row J each running e = grind (arith, nat_tests)

-- a move of a floor of which every ledger's facts hold
pub record Turn (n : ℕ) (votes : List Vote) (s s' : State) (p : ℕ) (input : Input) (r : Response) : Type 0 where
  pub many : 2 ≤ n
  pub few : n ≤ 8
  pub sound : Sound n votes s
  pub move : Move s p input r s'
  pub each : AllEach n votes s

module _ {n : ℕ} {votes : List Vote} {s s' : State} {p : ℕ} {input : Input} {r : Response} (t : Turn n votes s s' p input r) where
  pub mine : p < n
  mine = omega (arith, t.move.known_mover, t.sound.ledgers_are)

  pub mover : Each (me n votes p) (row_of s p) (s.entries p)
  mover = grind (arith, nat_tests)

  pub acts : Acts (me n votes p) (row_of s p) (s.entries p) input r
  acts = grind (arith, nat_tests)

  -- a message on its way was there before, or is given by p now; it is still there, or p takes it
  pub was_there : (test : Message → Bool) (a b : ℕ) → list_any test (s'.links a b) ≡ true → (list_any test (s.links a b) ≡ true) ⊎ ((a ≡ p) × (gives test r.effect b ≡ true))
  was_there test = there_before s p input r s' t.move test

  pub is_there : (test : Message → Bool) (a b : ℕ) → list_any test (s.links a b) ≡ true → (list_any test (s'.links a b) ≡ true) ⊎ ((b ≡ p) × (takes test input a ≡ true))
  is_there test = still_there s p input r s' t.move test

  pub now_there : (test : Message → Bool) (b : ℕ) → gives test r.effect b ≡ true → list_any test (s'.links p b) ≡ true
  now_there test = given_there s p input r s' t.move test

  -- what p hears was on its way to it
  pub heard_there : (test : Message → Bool) → hears_that test input ≡ true → list_any test (s.links (source input) p) ≡ true
  heard_there test e = grind (arith, nat_tests)

  -- what stands in a journal stood there before, or p writes it now
  pub had : (c a : ℕ) → has c (s'.entries a) ≡ true → (has c (s.entries a) ≡ true) ⊎ ((a ≡ p) × (wrote c r.effect ≡ true))
  had c a e = ⊎_elim own (λ other. inl (rw (t.move.changes.other_entries a other) at e)) (cases_eq a p)
    where
      own : a ≡ p → (has c (s.entries a) ≡ true) ⊎ ((a ≡ p) × (wrote c r.effect ≡ true))
      own same =
          let now : has c (written r.effect (s.entries p)) ≡ true = rw (same, t.move.changes.own_entries) at e in
          ⊎_elim (λ old. inl (rw same old)) (λ new. inr (same, new)) (or_cases (has c (s.entries p)) (wrote c r.effect) (rw has_wrote at now))

  pub has_then : (c a : ℕ) → has c (s.entries a) ≡ true → has c (s'.entries a) ≡ true
  has_then = has_still s p input r s' t.move

  pub knows_then : (d : Decision) (a : ℕ) → knows d (s.entries a) ≡ true → knows d (s'.entries a) ≡ true
  knows_then Post a e = ⊎_elim (λ l. or_left _ _ (has_then 4 a l)) (λ l. or_right _ _ (has_then 6 a l)) (or_cases _ _ e)
  knows_then Drop a e = ⊎_elim (λ l. or_left _ _ (has_then 5 a l)) (λ l. or_right _ _ (has_then 7 a l)) (or_cases _ _ e)

  -- who comes to know a decision reaches it or receives it
  pub knew : (d : Decision) (a : ℕ) → knows d (s'.entries a) ≡ true → (knows d (s.entries a) ≡ true) ⊎ ((a ≡ p) × ((wrote (code_of (reached d)) r.effect ≡ true) ⊎ (wrote (code_of (received d)) r.effect ≡ true)))
  knew Post a e =
      ⊎_elim (λ l. ⊎_elim (λ old. inl (or_left _ _ old)) (λ new. inr (new.0, inl new.1)) (had 4 a l))
      (λ l. ⊎_elim (λ old. inl (or_right _ _ old)) (λ new. inr (new.0, inr new.1)) (had 6 a l)) (or_cases _ _ e)
  knew Drop a e =
      ⊎_elim (λ l. ⊎_elim (λ old. inl (or_left _ _ old)) (λ new. inr (new.0, inl new.1)) (had 5 a l))
      (λ l. ⊎_elim (λ old. inl (or_right _ _ old)) (λ new. inr (new.0, inr new.1)) (had 7 a l)) (or_cases _ _ e)

  -- another ledger's row is as it was
  pub own_or_other : (a : ℕ) → ((a ≡ p) × (row_of s' a ≡ r.row)) ⊎ ((a ≢ p) × (row_of s' a ≡ row_of s a))
  own_or_other a = grind (arith, nat_tests)

  pub runs_before : (a : ℕ) → runs (row_of s' a).status ≡ true → runs (row_of s a).status ≡ true
  runs_before a e = grind (arith, nat_tests)

  pub stopped_still : (a : ℕ) → runs (row_of s a).status ≡ false → runs (row_of s' a).status ≡ false
  stopped_still a e = grind (arith, nat_tests)

  -- one that leads has noticed all lower ones, and one more does not change that
  pub leads_again : expiring input ≡ true → leads (row_of s p).stage ≡ true → (1 ≤ p) × (lower_left p (with_notice (row_of s p) (source input)) ≡ false)
  leads_again expiry l =
      let shape = mover.shape in
      let comes = expiry_comes acts expiry in
      (shape.leads_at l, lower_kept n p (row_of s p) (source input) (omega (arith, t.few, comes.4)) mover.notes (shape.leads_last (shape.leads_at l) comes.0 ∙ ap not l))

-- what holds of a new floor and is kept by every such move holds at the end of every run
module _ (depth n : ℕ) (votes : List Vote) (many : 2 ≤ n) (few : n ≤ 8) (event : ℕ → State → Call → Bool) (I : Bool → State → Type 0)
    (no_event : (s : State) (call : Call) → call_after depth s call ≡ s → taken depth s call ≡ false → event depth s call ≡ false)
    (step : (happens : Bool) (s : State) (call : Call) (p : ℕ) (input : Input) (r : Response) → Cause call p input → Turn n votes s (call_after depth s call) p input r → taken depth s call ≡ true → I happens s → I (happens || event depth s call) (call_after depth s call)) where
  pub turns_with : I false (new n votes) → (calls : List Call) → I (happened event depth (new n votes) calls) (after_all depth (new n votes) calls)
  turns_with start calls = (every_run depth n votes few event (λ happens s. AllEach n votes s × I happens s) no_event one (each_new n votes many few, start) calls).1.1
    where
      one : (happens : Bool) (s : State) (call : Call) (p : ℕ) (input : Input) (r : Response) → Sound n votes s → Cause call p input → Move s p input r (call_after depth s call) → taken depth s call ≡ true → AllEach n votes s × I happens s → AllEach n votes (call_after depth s call) × I (happens || event depth s call) (call_after depth s call)
      one happens s call p input r sound cause move answer (each, holds) =
          (each_after n votes many few s (call_after depth s call) p input r sound move each, step happens s call p input r cause (record { many = many; few = few; sound = sound; move = move; each = each }) answer holds)

pub turns : (depth n : ℕ) (votes : List Vote) → 2 ≤ n → n ≤ 8 → (I : State → Type 0) → I (new n votes) → ((s s' : State) (p : ℕ) (input : Input) (r : Response) → Turn n votes s s' p input r → I s → I s') → (calls : List Call) → I (after_all depth (new n votes) calls)
turns depth n votes many few I start step calls =
    turns_with depth n votes many few (λ depth s call. false) (λ happens s. I s) (λ s call same answer. refl) (λ happens s call p input r cause t answer holds. step s (call_after depth s call) p input r t holds) start calls

pub sound_run : (depth n : ℕ) (votes : List Vote) → 2 ≤ n → n ≤ 8 → (calls : List Call) → Sound n votes (after_all depth (new n votes) calls)
sound_run depth n votes many few calls = (plain_run depth n votes few (λ s. Unit {0}) tt (λ s s' p input r sound move holds. tt) calls).0
