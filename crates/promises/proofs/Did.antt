-- What one ledger's move did: what it gave, wrote and learned.
use Rattle.std.proofs.Common.{◌≡◌, ℕ, ◌<◌, ◌≤◌, Bool, true, false, cond, not, ◌&&◌, ◌||◌, eqb, ltb, ◌≢◌, List, is_some, Some, None, Option, sym, refl, ap, ◌∙◌, ⊎_elim, arith}
use Rattle.std.proofs.lemmas.Bool.{both_ways, cases_Bool, or_left}
use Rattle.std.proofs.lemmas.Bool.Decides.{nat_tests}
use Rattle.network.specs.declared.message.Decision.{Decision}
use Rattle.network.specs.declared.message.Decision.TheVariants.{Post, Drop}
use Rattle.network.specs.declared.message.Message.{Message}
use Rattle.network.specs.declared.message.Message.TheVariants.{Prepare, Vote as Voted, Order, Ask, Reply}
use Rattle.network.specs.declared.message.Vote.{Vote}
use Rattle.network.specs.declared.message.Vote.TheVariants.{Yes, No}
use Rattle.std.proofs.lemmas.List.{get_or-set_other}
use Rattle.rules.specs.Ledgers.{empty, first_missing, is_in, with_ledger}
use Rattle.rules.specs.declared.ledger_set.LedgerSet.{LedgerSet}
use Rattle.rules.specs.declared.stage.Stage.{Stage}
use Rattle.rules.specs.declared.stage.Stage.TheVariants.{Initial, Preparing, Wait, Voting, Ready, Asking, Consulting, Announcing, Announced, Decided}
use Rattle.promises.specs.Promises.{opposite}
use Rattle.promises.proofs.Sets.{found_missing}
use Rattle.promises.proofs.Shape.{lower_left}
use Rattle.journals.specs.Codes.{code_of}
use Rattle.journals.specs.declared.entry.Entry.TheVariants.{AbortReached, Dispute}
use Rattle.rules.specs.Entries.{obeyed, reached, received}
use Rattle.rules.specs.Rules.{above, announce, at_held, first_other, lead, on_denial, on_expiry, on_order, on_vote, outcome, quiet, same, votes_yes, with_notice, with_reply, with_vote}
use Rattle.rules.specs.Stages.{counts, held, initial, leads}
use Rattle.rules.specs.declared.effect.Effect.{Effect}
use Rattle.rules.specs.declared.effect.Effect.TheVariants.{Nothing, Write, Send}
use Rattle.rules.specs.declared.effect.Response.{Response}
use Rattle.rules.specs.declared.row.Member.{Member}
use Rattle.rules.specs.declared.row.Row.{Row}
use Rattle.protocol.specs.State.{has, runs}
use Rattle.promises.proofs.Journal.{is, knows, promised}
use Rattle.promises.proofs.Moves.{has_written, Input, begins, steps, hears, expires, stops, restarts, misses, Rule, gives, takes, has_snoc, written}

-- the message carries this decision; it is this vote
abbrev pub carries : Decision → Message → Bool
carries d Prepare = false
carries d (Voted v) = false
carries d (Order e) = same e d
carries d (Ask k) = false
carries d (Reply k h) = is d h

abbrev pub votes_as : Vote → Message → Bool
votes_as v Prepare = false
votes_as Yes (Voted w) = votes_yes w
votes_as No (Voted w) = not (votes_yes w)
votes_as v (Order e) = false
votes_as v (Ask k) = false
votes_as v (Reply k h) = false

abbrev pub orders : Decision → Message → Bool
orders d Prepare = false
orders d (Voted v) = false
orders d (Order e) = same e d
orders d (Ask k) = false
orders d (Reply k h) = false

abbrev pub prepares : Message → Bool
prepares Prepare = true
prepares (Voted v) = false
prepares (Order e) = false
prepares (Ask k) = false
prepares (Reply k h) = false

-- an Ask, a Reply, a Reply without a decision, each of round k
abbrev pub asks : ℕ → Message → Bool
asks k Prepare = false
asks k (Voted v) = false
asks k (Order e) = false
asks k (Ask l) = eqb l k
asks k (Reply l h) = false

abbrev pub replies : ℕ → Message → Bool
replies k Prepare = false
replies k (Voted v) = false
replies k (Order e) = false
replies k (Ask l) = false
replies k (Reply l h) = eqb l k

abbrev pub denies : ℕ → Message → Bool
denies k Prepare = false
denies k (Voted v) = false
denies k (Order e) = false
denies k (Ask l) = false
denies k (Reply l h) = eqb l k && not (is_some h)

-- what is heard, and from whom
abbrev pub hears_that : (Message → Bool) → Input → Bool
hears_that test begins = false
hears_that test steps = false
hears_that test (hears q m) = test m
hears_that test (expires q) = false
hears_that test stops = false
hears_that test restarts = false
hears_that test (misses q m) = false

abbrev pub source : Input → ℕ
source begins = 0
source steps = 0
source (hears q m) = q
source (expires q) = q
source stops = 0
source restarts = 0
source (misses q m) = q

abbrev pub notices : Input → ℕ → Bool
notices begins x = false
notices steps x = false
notices (hears q m) x = false
notices (expires q) x = eqb q x
notices stops x = false
notices restarts x = false
notices (misses q m) x = false

abbrev pub expiring : Input → Bool
expiring begins = false
expiring steps = false
expiring (hears q m) = false
expiring (expires q) = true
expiring stops = false
expiring restarts = false
expiring (misses q m) = false

-- an announcement of d has passed b
abbrev pub passes : Decision → ℕ → Stage → Bool
passes d b Initial = false
passes d b (Preparing next) = false
passes d b Wait = false
passes d b Voting = false
passes d b Ready = false
passes d b (Asking next) = false
passes d b Consulting = false
passes d b (Announcing e next) = same e d && ltb b next
passes d b (Announced e) = same e d
passes d b (Decided e) = same e d

-- b holds d, or the opposite and has disputed it, or does not run
abbrev pub settles : Decision → Row → List ℕ → Bool
settles d row J = not (runs row.status) || (is d (held row.stage) || (is (opposite d) (held row.stage) && has 10 J))

pub all_in : (one : LedgerSet) (p end : ℕ) → is_some (first_missing one one p end) ≡ false → (i : ℕ) → p ≤ i → i < end → is_in one i ≡ true
all_in one p end e i low high = grind (arith, found_missing one one p end i)

in_one : (one other : LedgerSet) (p end : ℕ) → is_some (first_missing one other p end) ≡ false → (i : ℕ) → p ≤ i → i < end → (is_in one i || is_in other i) ≡ true
in_one one other p end e i low high = grind (arith, found_missing one other p end i)

in_with_other : (one : LedgerSet) (q i : ℕ) → is_in (with_ledger one q) i ≡ true → (is_in one i || eqb q i) ≡ true
in_with_other one q i e = grind (arith, nat_tests, get_or-set_other one.members q i true false)

-- the decision of which the announcement has ended
abbrev pub announced : Stage → Option Decision
announced Initial = None
announced (Preparing next) = None
announced Wait = None
announced Voting = None
announced Ready = None
announced (Asking next) = None
announced Consulting = None
announced (Announcing e next) = None
announced (Announced e) = Some e
announced (Decided e) = None

-- the code is written now
abbrev pub wrote : ℕ → Effect → Bool
wrote c Nothing = false
wrote c (Write entry) = eqb (code_of entry) c
wrote c (Send q m) = false

pub has_wrote : (c : ℕ) (effect : Effect) (J : List ℕ) → has c (written effect J) ≡ (has c J || wrote c effect)
has_wrote c Nothing J = grind arith
has_wrote c (Write entry) J = has_snoc c J (code_of entry)
has_wrote c (Send q m) J = grind arith

-- p acts by its rule
pub record Acts (who : Member) (row : Row) (J : List ℕ) (input : Input) (r : Response) : Type 0 where
  pub by_rule : Rule who row J input r

module _ {who : Member} {row : Row} {J : List ℕ} {input : Input} {r : Response} (acts : Acts who row J input r) where
  -- a decision is given out only by one that holds it, a vote by one that has promised it
  pub gave_decision : (d : Decision) (b : ℕ) → gives (carries d) r.effect b ≡ true → (runs row.status && is d (held row.stage)) ≡ true
  gave_decision d b e = grind (arith, nat_tests)

  pub gave_vote : (v : Vote) (b : ℕ) → gives (votes_as v) r.effect b ≡ true → (runs row.status ≡ true) × (promised row.stage ≡ true) × (who.vote ≡ v)
  gave_vote v b e = grind (arith, nat_tests)

  -- an empty Reply is given out only by one that is undecided
  pub gave_denial : (k b : ℕ) → gives (denies k) r.effect b ≡ true → (runs row.status ≡ true) × (is_some (held row.stage) ≡ false)
  gave_denial k b e = grind (arith, nat_tests)

  pub new_ayes : (q : ℕ) → is_in r.row.ayes q ≡ true → (is_in row.ayes q || takes (votes_as Yes) input q) ≡ true
  new_ayes q e = grind (arith, nat_tests, in_with_other)

  -- nobody runs again
  pub still_runs : runs r.row.status ≡ true → runs row.status ≡ true
  still_runs e = grind (arith, nat_tests)

  -- who writes what
  pub reaches_post : wrote 4 r.effect ≡ true → (runs row.status ≡ true) × (counts row.stage ≡ true) × (who.vote ≡ Yes)
  reaches_post e = grind (arith, nat_tests)

  pub all_ayes : wrote 4 r.effect ≡ true → (q : ℕ) → 1 ≤ q → q < who.ledgers → is_in r.row.ayes q ≡ true
  all_ayes e q low high = grind (arith, nat_tests, all_in)

  pub receives : (d : Decision) → wrote (code_of (received d)) r.effect ≡ true → hears_that (carries d) input ≡ true
  receives d e = grind (arith, nat_tests)

  pub obeys : (d : Decision) → wrote (code_of (obeyed d)) r.effect ≡ true → runs row.status ≡ true → is d (announced row.stage) ≡ true
  obeys d e running = grind (arith, nat_tests)

  -- a restart closes only what has dropped, or is not ready
  pub recovers : (d : Decision) → wrote (code_of (obeyed d)) r.effect ≡ true → runs row.status ≡ false → (is Drop (Some d) ≡ true) × (knows Drop J || (not (has 2 J) && (not (has 4 J) && not (has 6 J))) ≡ true)
  recovers d e still = grind (arith, nat_tests)

  pub readies : wrote 2 r.effect ≡ true → runs row.status ≡ true
  readies e = grind (arith, nat_tests)

  pub disputes : wrote 10 r.effect ≡ true → (runs row.status && ((hears_that (carries Post) input && is Drop (held row.stage)) || (hears_that (carries Drop) input && is Post (held row.stage)))) ≡ true
  disputes e = grind (arith, nat_tests)

  -- who drops by itself: the coordinator, or a leader that has noticed or heard all higher ones, or one that now has noticed all others
  pub drops : wrote 5 r.effect ≡ true → (runs row.status ≡ true) × (is_some (held row.stage) ≡ false)
  drops e = grind (arith, nat_tests)

  -- who is noticed
  pub new_noticed : (x : ℕ) → is_in r.row.noticed x ≡ true → (is_in row.noticed x || notices input x) ≡ true
  new_noticed x e = grind (arith, nat_tests, in_with_other)

  pub ended : (d : Decision) (b : ℕ) → is d (announced row.stage) ≡ true → passes d b row.stage ≡ true
  ended d b e = grind arith

  -- a decision stays
  pub holds_still : runs r.row.status ≡ true → is_some (held row.stage) ≡ true → held r.row.stage ≡ held row.stage
  holds_still running e = grind (arith, nat_tests)

-- begins, steps and Prepares
abbrev pub plain : Input → Bool
plain begins = true
plain steps = true
plain (hears q m) = prepares m
plain (expires q) = false
plain stops = false
plain restarts = false
plain (misses q m) = false

-- what becomes of the stage otherwise
pub data Then (who : Member) (row : Row) (r : Response) : Type 0 where
  stays : r.row.stage ≡ row.stage → Then who row r
  leading : leads r.row.stage ≡ true → Then who row r
  announces : (d : Decision) (own : Bool) → r.row.stage ≡ Announcing d (first_other who.number) → r.effect ≡ Write (cond own (reached d) (received d)) → Then who row r

-- the stage is as it was where it is of none of the new kinds
pub then_stays : {who : Member} {row : Row} {r : Response} (f : Stage → Bool) → ((stage : Stage) → leads stage ≡ true → f stage ≡ false) → ((d : Decision) (next : ℕ) → f (Announcing d next) ≡ false) → Then who row r → f r.row.stage ≡ true → f row.stage ≡ true
then_stays {who} {r} f no_leader no_announcer (stays stage) e = rw stage at e
then_stays {who} {r} f no_leader no_announcer (leading l) e = absurd (both_ways _ (no_leader r.row.stage l) e)
then_stays {who} {r} f no_leader no_announcer (announces d own stage effect) e = absurd (both_ways _ (ap f stage ∙ no_announcer d (first_other who.number)) e)

module _ (who : Member) (row : Row) where
  expiry_stage : (q : ℕ) (r : Response) → r ≡ on_expiry who row q → Then who row r
  expiry_stage q r e = rw e (by (eqb who.number 0) _ _ (first_missing (with_ledger row.noticed q) (with_ledger row.noticed q) (above who.number) who.ledgers))
    where
      by : (zeroth heard left : Bool) (found : Option ℕ) → Then who row (cond zeroth (cond heard (quiet (with_notice row q)) (announce who (with_notice row q) Drop AbortReached)) (cond left (quiet (with_notice row q)) (lead who (with_notice row q) found)))
      by true true left found = stays refl
      by true false left found = announces Drop true refl refl
      by false heard true found = stays refl
      by false heard false (Some x) = leading refl
      by false heard false None = announces Drop true refl refl

  vote_stage : (q : ℕ) (v : Vote) (r : Response) → r ≡ on_vote who row q v → Then who row r
  vote_stage q v r e = rw e (by (counts row.stage) _ v)
    where
      by : (c left : Bool) (v : Vote) → Then who row (cond c (cond left (quiet (with_vote row q v)) (announce who (with_vote row q v) (outcome who (with_vote row q v)) (reached (outcome who (with_vote row q v))))) (quiet row))
      by true true Yes = stays refl
      by true true No = stays refl
      by true false v = announces (outcome who (with_vote row q v)) true refl refl
      by false left v = stays refl

  order_stage : (o : Decision) (disputed : Bool) (r : Response) → r ≡ on_order who row o disputed → Then who row r
  order_stage o disputed r e = rw e (by (held row.stage))
    where
      by : (h : Option Decision) → Then who row (at_held who row o disputed h)
      by None = announces o false refl refl
      by (Some own) = elim (same own o || disputed) as (λ b. Then who row (cond b (quiet row) (record { row = row; effect = Write Dispute }))) [ true ↦ stays refl | false ↦ stays refl ]

  denial_stage : (q k : ℕ) (r : Response) → r ≡ on_denial who row q k → Then who row r
  denial_stage q k r e = rw e (by (leads row.stage && eqb k row.round) _)
    where
      by : (counted left : Bool) → Then who row (cond counted (cond left (quiet (with_reply row q)) (announce who (with_reply row q) Drop AbortReached)) (quiet row))
      by true true = stays refl
      by true false = announces Drop true refl refl
      by false left = stays refl

module _ (who : Member) (row : Row) (J : List ℕ) (r : Response) where
  -- a leader drops when it has noticed or heard all higher ones
  pub drops_denied : (q : ℕ) (m : Message) → Rule who row J (hears q m) r → who.ledgers ≤ 8 → wrote 5 r.effect ≡ true → counts row.stage ≡ false → (x : ℕ) → who.number < x → x < who.ledgers → (leads row.stage ≡ true) × ((is_in row.noticed x || (is_in row.replied x || takes (denies row.round) (hears q m) x)) ≡ true)
  drops_denied q m rule few e c x low high = grind (arith, nat_tests, in_one row.noticed (with_ledger row.replied q) (above who.number) who.ledgers, in_with_other row.replied q x)

  -- a participant that notices drops when it has noticed all others
  pub drops_alone : (q : ℕ) → Rule who row J (expires q) r → who.ledgers ≤ 8 → wrote 5 r.effect ≡ true → 1 ≤ who.number → (x : ℕ) → x ≢ who.number → x < who.ledgers → (is_in row.noticed x || eqb q x) ≡ true
  drops_alone q rule few e participant x other high = grind (arith, nat_tests, all_in (with_ledger row.noticed q) 0 who.number, all_in (with_ledger row.noticed q) (above who.number) who.ledgers, in_with_other row.noticed q x)

  holder_then : (d : Decision) → Then who row r → is d (held r.row.stage) ≡ true → (is d (held row.stage) || (wrote (code_of (reached d)) r.effect || wrote (code_of (received d)) r.effect)) ≡ true
  holder_then d (stays stage) e = or_left _ _ (rw stage at e)
  holder_then d (leading l) e = absurd (grind arith)
  holder_then d (announces o own stage effect) e = rw effect (by o own (ap (λ x. is d (held x)) (sym stage) ∙ e))
    where
      by : (o : Decision) (own : Bool) → same o d ≡ true → (is d (held row.stage) || (wrote (code_of (reached d)) (Write (cond own (reached o) (received o))) || wrote (code_of (received d)) (Write (cond own (reached o) (received o))))) ≡ true
      by o own e = grind arith

  passed_then : (d : Decision) (b : ℕ) → b ≢ who.number → Then who row r → passes d b r.row.stage ≡ true → (passes d b row.stage || gives (orders d) r.effect b) ≡ true
  passed_then d b other it e = grind (arith, nat_tests)

  stage_then : (input : Input) → Rule who row J input r → plain input ≡ false → runs r.row.status ≡ true → Then who row r
  stage_then begins rule other running = absurd (grind arith)
  stage_then steps rule other running = absurd (grind arith)
  stage_then (hears q Prepare) rule other running = absurd (grind arith)
  stage_then (hears q (Voted v)) rule other running = vote_stage who row q v r rule.3
  stage_then (hears q (Order o)) rule other running = order_stage who row o (has 10 J) r rule.3
  stage_then (hears q (Ask k)) rule other running = stays (ap (λ x. x.row.stage) rule.3)
  stage_then (hears q (Reply k (Some o))) rule other running = order_stage who row o (has 10 J) r rule.3
  stage_then (hears q (Reply k None)) rule other running = denial_stage who row q k r rule.3
  stage_then (expires q) rule other running = expiry_stage who row q r rule.6
  stage_then stops rule other running = absurd (grind arith)
  stage_then restarts rule other running = absurd (grind arith)
  stage_then (misses q m) rule other running = stays (ap (λ x. x.row.stage) rule.3)

  -- an order is heeded
  pub heeds : (q : ℕ) (d o : Decision) → Rule who row J (hears q (Order o)) r → same o d ≡ true → settles d r.row (written r.effect J) ≡ true
  heeds q d o rule e = at d o (held row.stage) refl rule.3 e
    where
      at : (d o : Decision) (h : Option Decision) → held row.stage ≡ h → r ≡ at_held who row o (has 10 J) h → same o d ≡ true → settles d r.row (written r.effect J) ≡ true
      at Post Post None h is e = grind arith
      at Post Post (Some Post) h is e = grind arith
      at Post Post (Some Drop) h is e = grind (arith, has_wrote)
      at Post Drop h f is e = grind arith
      at Drop Post h f is e = grind arith
      at Drop Drop None h is e = grind arith
      at Drop Drop (Some Post) h is e = grind (arith, has_wrote)
      at Drop Drop (Some Drop) h is e = grind arith

  stays_at : (d : Decision) → (runs r.row.status ≡ true → runs row.status ≡ true) → (runs r.row.status ≡ true → is_some (held row.stage) ≡ true → held r.row.stage ≡ held row.stage) → settles d row J ≡ true → settles d r.row (written r.effect J) ≡ true
  stays_at d runs_before same_held e = by (runs row.status) (runs r.row.status) runs_before (held row.stage) (held r.row.stage) same_held (has 10 J) (has_written 10 r.effect J) e
    where
      by : (before after : Bool) → (after ≡ true → before ≡ true) → (h h' : Option Decision) → (after ≡ true → is_some h ≡ true → h' ≡ h) → (ten : Bool) → (ten ≡ true → has 10 (written r.effect J) ≡ true) → (not before || (is d h || (is (opposite d) h && ten))) ≡ true → (not after || (is d h' || (is (opposite d) h' && has 10 (written r.effect J)))) ≡ true
      by before after runs_before h h' same_held ten more e = grind (arith, runs_before, same_held, more)

  new_replied_by : (input : Input) → Rule who row J input r → expiring input ≡ false → runs r.row.status ≡ true → (x : ℕ) → is_in r.row.replied x ≡ true → (is_in row.replied x || takes (denies row.round) input x) ≡ true
  new_replied_by input rule quiet running x there = grind (arith, nat_tests, in_with_other)

  -- an expiry begins a new round
  abbrev Anew : ℕ → Response → Type 0
  Anew q s = (s.row.round ≡ above row.round) × (s.row.replied ≡ empty) × (s.row.noticed ≡ with_ledger row.noticed q) × (lower_left who.number (with_notice row q) ≡ false)

  pub leads_anew : (q : ℕ) → Rule who row J (expires q) r → (leads row.stage ≡ true → (1 ≤ who.number) × (lower_left who.number (with_notice row q) ≡ false)) → leads r.row.stage ≡ true → Anew q r
  leads_anew q rule again e = grind (arith, nat_tests)

module _ {who : Member} {row : Row} {J : List ℕ} {input : Input} {r : Response} (acts : Acts who row J input r) where
  pub stage_goes : plain input ≡ false → runs r.row.status ≡ true → Then who row r
  stage_goes = stage_then who row J r input acts.by_rule

  -- who comes to hold a decision
  pub new_holder : (d : Decision) → runs r.row.status ≡ true → is d (held r.row.stage) ≡ true → (is d (held row.stage) || (wrote (code_of (reached d)) r.effect || wrote (code_of (received d)) r.effect)) ≡ true
  new_holder d running e = ⊎_elim plainly (λ other. holder_then who row J r d (stage_goes other running) e) (cases_Bool (plain input))
    where
      plainly : plain input ≡ true → (is d (held row.stage) || (wrote (code_of (reached d)) r.effect || wrote (code_of (received d)) r.effect)) ≡ true
      plainly simple = grind (arith, nat_tests)

  -- an announcement goes on by one
  pub passed_on : (d : Decision) (b : ℕ) → b ≢ who.number → b < who.ledgers → runs r.row.status ≡ true → passes d b r.row.stage ≡ true → (passes d b row.stage || gives (orders d) r.effect b) ≡ true
  passed_on d b other high running e = ⊎_elim plainly (λ more. passed_then who row J r d b other (stage_goes more running) e) (cases_Bool (plain input))
    where
      plainly : plain input ≡ true → (passes d b row.stage || gives (orders d) r.effect b) ≡ true
      plainly simple = grind (arith, nat_tests)

  -- who is settled stays so
  pub stays_settled : (d : Decision) → settles d row J ≡ true → settles d r.row (written r.effect J) ≡ true
  stays_settled d = stays_at who row J r d (still_runs acts) (holds_still acts)

  -- a round stays as it is but for an expiry
  pub keeps_round : expiring input ≡ false → runs r.row.status ≡ true → (r.row.round ≡ row.round) × (r.row.noticed ≡ row.noticed)
  keeps_round = grind (arith, nat_tests)

  pub leads_before : expiring input ≡ false → runs r.row.status ≡ true → leads r.row.stage ≡ true → leads row.stage ≡ true
  leads_before = grind (arith, nat_tests)

  pub new_replied : expiring input ≡ false → runs r.row.status ≡ true → (x : ℕ) → is_in r.row.replied x ≡ true → (is_in row.replied x || takes (denies row.round) input x) ≡ true
  new_replied = new_replied_by who row J r input acts.by_rule

  -- an Ask is of the present round, a Reply of the round of the Ask
  pub gave_ask : (k b : ℕ) → gives (asks k) r.effect b ≡ true → (runs row.status ≡ true) × (row.round ≡ k)
  gave_ask k b e = grind (arith, nat_tests)

  pub gave_reply : (k b : ℕ) → gives (replies k) r.effect b ≡ true → takes (asks k) input b ≡ true
  gave_reply k b e = grind (arith, nat_tests)

  pub rounds_grow : row.round ≤ 8 → runs r.row.status ≡ true → row.round ≤ r.row.round
  rounds_grow small running = grind (arith, nat_tests)

  -- who drops holds its decision
  pub dropped_holds : wrote 5 r.effect ≡ true → is_some (held r.row.stage) ≡ true
  dropped_holds e = grind (arith, nat_tests)

  -- one entry at a time
  pub wrote_one : (c d : ℕ) → wrote c r.effect ≡ true → wrote d r.effect ≡ true → c ≡ d
  wrote_one c d e f = grind (arith, nat_tests)

  -- a leader drops when it has noticed or heard all higher ones; without an expiry it hears the last of them
  pub drops_heard : who.ledgers ≤ 8 → wrote 5 r.effect ≡ true → expiring input ≡ false → counts row.stage ≡ false → (x : ℕ) → who.number < x → x < who.ledgers → (leads row.stage ≡ true) × ((is_in row.noticed x || (is_in row.replied x || takes (denies row.round) input x)) ≡ true)
  drops_heard few e quiet c x low high = by input acts.by_rule quiet
    where
      by : (i : Input) → Rule who row J i r → expiring i ≡ false → (leads row.stage ≡ true) × ((is_in row.noticed x || (is_in row.replied x || takes (denies row.round) i x)) ≡ true)
      by begins rule quiet = absurd (grind (arith, nat_tests))
      by steps rule quiet = absurd (grind (arith, nat_tests))
      by (hears q m) rule quiet = drops_denied who row J r q m rule few e c x low high
      by (expires q) rule quiet = absurd (grind arith)
      by stops rule quiet = absurd (grind (arith, nat_tests))
      by restarts rule quiet = absurd (grind (arith, nat_tests))
      by (misses q m) rule quiet = absurd (grind (arith, nat_tests))

  -- a participant that notices drops when it has noticed all others
  pub drops_noticing : who.ledgers ≤ 8 → wrote 5 r.effect ≡ true → expiring input ≡ true → 1 ≤ who.number → (x : ℕ) → x ≢ who.number → x < who.ledgers → (is_in row.noticed x || notices input x) ≡ true
  drops_noticing few e expiry participant x other high = by input acts.by_rule expiry
    where
      by : (i : Input) → Rule who row J i r → expiring i ≡ true → (is_in row.noticed x || notices i x) ≡ true
      by begins rule expiry = absurd (grind arith)
      by steps rule expiry = absurd (grind arith)
      by (hears q m) rule expiry = absurd (grind arith)
      by (expires q) rule expiry = drops_alone who row J r q rule few e participant x other high
      by stops rule expiry = absurd (grind arith)
      by restarts rule expiry = absurd (grind arith)
      by (misses q m) rule expiry = absurd (grind arith)

  -- an expiry comes to an undecided ledger, and to the coordinator only once it has begun
  pub expiry_comes : expiring input ≡ true → (is_some (held row.stage) ≡ false) × ((eqb who.number 0 && initial row.stage) ≡ false) × (is_in row.noticed (source input) ≡ false) × (source input ≢ who.number) × (source input < who.ledgers)
  expiry_comes e = grind (arith, nat_tests)

  -- and begins a new round where it makes a leader
  pub leads_on : expiring input ≡ true → (leads row.stage ≡ true → (1 ≤ who.number) × (lower_left who.number (with_notice row (source input)) ≡ false)) → leads r.row.stage ≡ true → (r.row.round ≡ above row.round) × (r.row.replied ≡ empty) × (r.row.noticed ≡ with_ledger row.noticed (source input)) × (lower_left who.number (with_notice row (source input)) ≡ false)
  leads_on expiry = by input acts.by_rule expiry
    where
      by : (i : Input) → Rule who row J i r → expiring i ≡ true → (leads row.stage ≡ true → (1 ≤ who.number) × (lower_left who.number (with_notice row (source i)) ≡ false)) → leads r.row.stage ≡ true → (r.row.round ≡ above row.round) × (r.row.replied ≡ empty) × (r.row.noticed ≡ with_ledger row.noticed (source i)) × (lower_left who.number (with_notice row (source i)) ≡ false)
      by begins rule expiry = absurd (grind arith)
      by steps rule expiry = absurd (grind arith)
      by (hears q m) rule expiry = absurd (grind arith)
      by (expires q) rule expiry = leads_anew who row J r q rule
      by stops rule expiry = absurd (grind arith)
      by restarts rule expiry = absurd (grind arith)
      by (misses q m) rule expiry = absurd (grind arith)

  -- who hears runs, and hears from another ledger of the floor
  pub hearer : (test : Message → Bool) → hears_that test input ≡ true → (runs row.status ≡ true) × (source input < who.ledgers) × (source input ≢ who.number)
  hearer test e = grind (arith, nat_tests)

  -- without an expiry only a leader drops, but for the coordinator
  pub drops_leads : wrote 5 r.effect ≡ true → expiring input ≡ false → counts row.stage ≡ false → leads row.stage ≡ true
  drops_leads e quiet tame = grind (arith, nat_tests)

  -- an 8 is written by one that runs and holds a post
  pub posts : wrote 8 r.effect ≡ true → (runs row.status ≡ true) × (is Post (held row.stage) ≡ true)
  posts e = grind (arith, nat_tests)
