-- What one ledger's move did to what is waited for: Prepares, votes and replies.
use Rattle.std.proofs.Common.{◌≡◌, ℕ, ◌<◌, ◌≤◌, Bool, true, false, cond, not, ◌&&◌, ◌||◌, eqb, ltb, ◌⊎◌, List, length, Some, None, Option, sym, refl, ◌∙◌, inl, inr, ⊎_elim, arith}
use Rattle.std.proofs.lemmas.Bool.{and_parts, both_ways, cases_Bool, eq-eqb, eqb-true, lt-ltb, or_left, or_right}
use Rattle.std.proofs.lemmas.Bool.Decides.{nat_tests}
use Rattle.network.specs.declared.message.Decision.TheVariants.{Drop}
use Rattle.network.specs.declared.message.Message.{Message}
use Rattle.network.specs.declared.message.Message.TheVariants.{Prepare, Vote as Voted, Order, Ask, Reply}
use Rattle.network.specs.declared.message.Vote.{Vote}
use Rattle.network.specs.declared.message.Vote.TheVariants.{Yes, No}
use Rattle.rules.specs.Ledgers.{first_missing, is_in, with_ledger}
use Rattle.rules.specs.declared.stage.Stage.{Stage}
use Rattle.rules.specs.declared.stage.Stage.TheVariants.{Initial, Preparing, Wait, Voting, Ready, Asking, Consulting, Announcing, Announced, Decided}
use Rattle.promises.proofs.Shape.{lower_left}
use Rattle.journals.specs.declared.entry.Entry.TheVariants.{AbortReached}
use Rattle.rules.specs.Rules.{above, act, announce, asked, in_stage, lead, on_expiry, on_vote, quiet, same, with_notice, with_vote}
use Rattle.rules.specs.Stages.{counts, initial, leads}
use Rattle.rules.specs.declared.effect.Effect.TheVariants.{Send}
use Rattle.rules.specs.declared.effect.Response.{Response}
use Rattle.rules.specs.declared.row.Member.{Member}
use Rattle.rules.specs.declared.row.Row.{Row}
use Rattle.protocol.specs.State.{runs}
use Rattle.promises.proofs.Journal.{promised}
use Rattle.promises.proofs.Moves.{Input, begins, steps, hears, expires, stops, restarts, misses, Rule, gives, takes}
use Rattle.promises.proofs.Did.{Acts, asks, expiring, hears_that, plain, prepares, replies, source, stage_goes, then_stays, wrote}
use Rattle.promises.proofs.Sets.{in_either, in_with, lowest, none_missing}

-- how far the coordinator has asked for votes, and a leader its higher ledgers
abbrev pub reach : ℕ → Stage → ℕ
reach n Initial = 0
reach n (Preparing next) = next
reach n Wait = n
reach n Voting = 0
reach n Ready = 0
reach n (Asking next) = 0
reach n Consulting = 0
reach n (Announcing e next) = 0
reach n (Announced e) = 0
reach n (Decided e) = 0

abbrev pub upto : ℕ → Stage → ℕ
upto n Initial = 0
upto n (Preparing next) = 0
upto n Wait = 0
upto n Voting = 0
upto n Ready = 0
upto n (Asking next) = next
upto n Consulting = n
upto n (Announcing e next) = 0
upto n (Announced e) = 0
upto n (Decided e) = 0

-- the vote is given, and nothing else came since
abbrev pub has_voted : Stage → Bool
has_voted Initial = false
has_voted (Preparing next) = false
has_voted Wait = false
has_voted Voting = false
has_voted Ready = true
has_voted (Asking next) = false
has_voted Consulting = false
has_voted (Announcing e next) = false
has_voted (Announced e) = false
has_voted (Decided e) = false

abbrev pub votes : Message → Bool
votes Prepare = false
votes (Voted v) = true
votes (Order e) = false
votes (Ask k) = false
votes (Reply k h) = false

-- a vote is put into its set where votes count
abbrev SetsThen : Member → Row → ℕ → Vote → Response → Type 0
SetsThen who row q v r =
    ((r.row.ayes ≡ (with_vote row q v).ayes) × (r.row.noes ≡ (with_vote row q v).noes)) ⊎ ((counts row.stage ≡ false) × (r.row ≡ row))

vote_sets : (who : Member) (row : Row) (q : ℕ) (v : Vote) (r : Response) → r ≡ on_vote who row q v → SetsThen who row q v r
vote_sets who row q v r e = grind (arith, nat_tests)

expiry_sets : (who : Member) (row : Row) (q : ℕ) (r : Response) → r ≡ on_expiry who row q → (r.row.ayes ≡ row.ayes) × (r.row.noes ≡ row.noes)
expiry_sets who row q r e = grind arith

module _ {who : Member} {row : Row} {J : List ℕ} {input : Input} {r : Response} (acts : Acts who row J input r) where
  pub gave_prepare : (b : ℕ) → gives prepares r.effect b ≡ true → (runs row.status ≡ true) × (counts row.stage ≡ true)
  gave_prepare b e = grind (arith, nat_tests)

  pub new_promise : runs r.row.status ≡ true → promised r.row.stage ≡ true → (promised row.stage || hears_that prepares input) ≡ true
  new_promise running e = grind (arith, nat_tests)

  pub new_counts : runs r.row.status ≡ true → counts r.row.stage ≡ true → (counts row.stage || wrote 1 r.effect) ≡ true
  new_counts running e = ⊎_elim plainly (λ other. or_left _ _ (then_stays counts (λ stage l. grind arith) (λ d next. refl) (stage_goes acts other running) e)) (cases_Bool (plain input))
    where
      plainly : plain input ≡ true → (counts row.stage || wrote 1 r.effect) ≡ true
      plainly simple = grind (arith, nat_tests)

  pub begins_first : wrote 1 r.effect ≡ true → (runs row.status ≡ true) × (initial row.stage ≡ true) × (who.number ≡ 0)
  begins_first e = grind (arith, nat_tests)

  pub prepared_on : (b : ℕ) → 1 ≤ b → b < who.ledgers → runs r.row.status ≡ true → b < reach who.ledgers r.row.stage → (ltb b (reach who.ledgers row.stage) || gives prepares r.effect b) ≡ true
  prepared_on b low high running e = ⊎_elim plainly (λ other. or_left _ _ (then_stays (λ stage. ltb b (reach who.ledgers stage)) (λ stage l. grind (arith, nat_tests)) (λ d next. grind (arith, nat_tests)) (stage_goes acts other running) (lt-ltb b (reach who.ledgers r.row.stage) e))) (cases_Bool (plain input))
    where
      plainly : plain input ≡ true → (ltb b (reach who.ledgers row.stage) || gives prepares r.effect b) ≡ true
      plainly simple = grind (arith, nat_tests)

  pub still_initial : runs r.row.status ≡ true → initial r.row.stage ≡ true → (initial row.stage ≡ true) × ((hears_that prepares input && not (eqb who.number 0)) ≡ false)
  still_initial running e = grind (arith, nat_tests)

  pub new_voted : runs r.row.status ≡ true → has_voted r.row.stage ≡ true → (has_voted row.stage || gives votes r.effect 0) ≡ true
  new_voted running e = ⊎_elim plainly (λ other. or_left _ _ (then_stays has_voted (λ stage l. grind arith) (λ d next. refl) (stage_goes acts other running) e)) (cases_Bool (plain input))
    where
      plainly : plain input ≡ true → (has_voted row.stage || gives votes r.effect 0) ≡ true
      plainly simple = grind (arith, nat_tests)

  pub taker_hears : (test : Message → Bool) (q : ℕ) → runs row.status ≡ true → takes test input q ≡ true → hears_that test input ≡ true
  taker_hears test q running e = grind (arith, nat_tests)

  -- an Ask is answered
  pub answers : (k l : ℕ) → runs row.status ≡ true → takes (asks k) input l ≡ true → gives (replies k) r.effect l ≡ true
  answers k l running e = grind (arith, nat_tests)

  -- a vote that comes to a coordinator that counts is in, and stays in
  pub heard_vote : (q : ℕ) → who.ledgers ≤ 8 → length row.ayes.members ≡ 8 → length row.noes.members ≡ 8 → runs r.row.status ≡ true → counts r.row.stage ≡ true → takes votes input q ≡ true → in_either r.row.ayes r.row.noes q ≡ true
  heard_vote q few long long' running c e = by input acts.by_rule e
    where
      by : (i : Input) → Rule who row J i r → takes votes i q ≡ true → in_either r.row.ayes r.row.noes q ≡ true
      by begins rule e = absurd (grind arith)
      by steps rule e = absurd (grind arith)
      by (hears x Prepare) rule e = absurd (grind (arith, nat_tests))
      by (hears x (Voted v)) rule e = now v (eqb-true x q (and_parts _ _ e).0) rule.2 (vote_sets who row x v r rule.3)
        where
          now : (v : Vote) → x ≡ q → x < who.ledgers → SetsThen who row x v r → in_either r.row.ayes r.row.noes q ≡ true
          now Yes same known (inl (ayes, noes)) = rw (ayes, noes, same) (or_left _ _ (in_with row.ayes q q long (omega arith) ∙ or_left _ _ (eq-eqb q q refl)))
          now No same known (inl (ayes, noes)) = rw (ayes, noes, same) (or_right _ _ (in_with row.noes q q long' (omega arith) ∙ or_left _ _ (eq-eqb q q refl)))
          now v same known (inr (tame, whole)) = absurd (both_ways _ tame (rw whole at c))
      by (hears x (Order o)) rule e = absurd (grind (arith, nat_tests))
      by (hears x (Ask k)) rule e = absurd (grind (arith, nat_tests))
      by (hears x (Reply k h)) rule e = absurd (grind (arith, nat_tests))
      by (expires x) rule e = absurd (grind arith)
      by stops rule e = absurd (grind arith)
      by restarts rule e = absurd (grind arith)
      by (misses x m) rule e = absurd (grind (arith, nat_tests))

  pub heard_still : (q : ℕ) → who.ledgers ≤ 8 → length row.ayes.members ≡ 8 → length row.noes.members ≡ 8 → runs r.row.status ≡ true → in_either row.ayes row.noes q ≡ true → in_either r.row.ayes r.row.noes q ≡ true
  heard_still q few long long' running e = by input acts.by_rule
    where
      by : (i : Input) → Rule who row J i r → in_either r.row.ayes r.row.noes q ≡ true
      by begins rule = grind (arith, nat_tests)
      by steps rule = grind (arith, nat_tests)
      by (hears x Prepare) rule = grind (arith, nat_tests)
      by (hears x (Voted v)) rule = more v rule.2 (vote_sets who row x v r rule.3)
        where
          more : (v : Vote) → x < who.ledgers → SetsThen who row x v r → in_either r.row.ayes r.row.noes q ≡ true
          more Yes known (inl (ayes, noes)) = rw (ayes, noes, in_with row.ayes x q long (omega arith)) (plainly (eqb q x) (is_in row.ayes q) (is_in row.noes q) e)
            where
              plainly : (a b c : Bool) → (b || c) ≡ true → ((a || b) || c) ≡ true
              plainly a b c e = grind arith
          more No known (inl (ayes, noes)) = rw (ayes, noes, in_with row.noes x q long' (omega arith)) (plainly (eqb q x) (is_in row.ayes q) (is_in row.noes q) e)
            where
              plainly : (a b c : Bool) → (b || c) ≡ true → (b || (a || c)) ≡ true
              plainly a b c e = grind arith
          more v known (inr (tame, whole)) = rw whole e
      by (hears x (Order o)) rule = grind (arith, nat_tests)
      by (hears x (Ask k)) rule = grind (arith, nat_tests)
      by (hears x (Reply k h)) rule = grind (arith, nat_tests)
      by (expires x) rule = let same = expiry_sets who row x r rule.6 in rw (same.0, same.1) e
      by stops rule = absurd (grind arith)
      by restarts rule = absurd (grind arith)
      by (misses x m) rule = grind (arith, nat_tests)

  -- a Reply of the present round that leaves the leader one is in, and stays in
  pub heard_reply : (q : ℕ) → who.ledgers ≤ 8 → length row.replied.members ≡ 8 → runs r.row.status ≡ true → leads r.row.stage ≡ true → takes (replies row.round) input q ≡ true → is_in r.row.replied q ≡ true
  heard_reply q few long running l e = grind (arith, nat_tests, in_with row.replied q q)

  pub replied_still : (q : ℕ) → who.ledgers ≤ 8 → length row.replied.members ≡ 8 → runs r.row.status ≡ true → expiring input ≡ false → is_in row.replied q ≡ true → is_in r.row.replied q ≡ true
  replied_still q few long running quiet e = grind (arith, nat_tests, in_with row.replied (source input) q)

-- how far a leader has asked
module _ (who : Member) (row : Row) (J : List ℕ) (r : Response) (few : who.ledgers ≤ 8) (b : ℕ) (low : who.number < b) (high : b < who.ledgers) where
  abbrev AskedThen : Response → Type 0
  AskedThen s = (ltb b (upto who.ledgers row.stage) || gives (asks row.round) s.effect b) ≡ true

  -- the next one to ask is the lowest that is left
  next_asked : (next : ℕ) (found : Option ℕ) → first_missing row.noticed row.noticed (above next) who.ledgers ≡ found → is_in row.noticed b ≡ false → b < upto who.ledgers (asked found) → (ltb b next || (eqb next b && eqb row.round row.round)) ≡ true
  next_asked next (Some x) e absent below = let before = (lowest row.noticed row.noticed (above next) who.ledgers x e).before b in grind (arith, nat_tests, before)
  next_asked next None e absent below = let none = none_missing row.noticed row.noticed (above next) who.ledgers e b in grind (arith, nat_tests, none)

  step_asks : (stage : Stage) → row.stage ≡ stage → act who row stage ≡ Some r → leads r.row.stage ≡ true → is_in row.noticed b ≡ false → b < upto who.ledgers r.row.stage → AskedThen r
  step_asks Initial e does l absent below = grind arith
  step_asks (Preparing next) e does l absent below = absurd (grind arith)
  step_asks Wait e does l absent below = grind arith
  step_asks Voting e does l absent below = absurd (grind arith)
  step_asks Ready e does l absent below = grind arith
  step_asks (Asking next) e does l absent below = by (first_missing row.noticed row.noticed (above next) who.ledgers) refl (cc)
    where
      by : (found : Option ℕ) → first_missing row.noticed row.noticed (above next) who.ledgers ≡ found → r ≡ record { row = in_stage row (asked found); effect = Send next (Ask row.round) } → AskedThen r
      by found f does_so = rw (e, does_so) (next_asked next found f absent (rw does_so at below))
  step_asks Consulting e does l absent below = grind arith
  step_asks (Announcing d next) e does l absent below = absurd (grind arith)
  step_asks (Announced d) e does l absent below = absurd (grind arith)
  step_asks (Decided d) e does l absent below = grind arith

  hears_keeps : (q : ℕ) (m : Message) → Rule who row J (hears q m) r → leads r.row.stage ≡ true → r.row.stage ≡ row.stage
  hears_keeps q m rule l = grind (arith, nat_tests)

  asked_by : (input : Input) → Rule who row J input r → expiring input ≡ false → runs r.row.status ≡ true → leads r.row.stage ≡ true → is_in row.noticed b ≡ false → b < upto who.ledgers r.row.stage → AskedThen r
  asked_by begins rule quiet running l absent below = absurd (grind arith)
  asked_by steps rule quiet running l absent below = step_asks row.stage refl rule.1 l absent below
  asked_by (hears q m) rule quiet running l absent below = or_left _ _ (lt-ltb b _ (rw (hears_keeps q m rule l) at below))
  asked_by (expires q) rule quiet running l absent below = absurd (grind arith)
  asked_by stops rule quiet running l absent below = absurd (grind arith)
  asked_by restarts rule quiet running l absent below = absurd (grind arith)
  asked_by (misses q m) rule quiet running l absent below = or_left _ _ (lt-ltb b _ (rw rule.3 at below))

  -- a new round has passed only those that are noticed
  anew_by : (q : ℕ) → Rule who row J (expires q) r → (leads row.stage ≡ true → (1 ≤ who.number) × (lower_left who.number (with_notice row q) ≡ false)) → leads r.row.stage ≡ true → b < upto who.ledgers r.row.stage → is_in r.row.noticed b ≡ true
  anew_by q rule again l below =
      rw rule.6 (by (eqb who.number 0) _ (lower_left who.number (with_notice row q)) (first_missing (with_ledger row.noticed q) (with_ledger row.noticed q) (above who.number) who.ledgers) refl refl refl (rw rule.6 at l) (rw rule.6 at below))
    where
      ThenRow : Bool → Bool → Bool → Option ℕ → Row
      ThenRow zeroth heard left found = (cond zeroth (cond heard (quiet (with_notice row q)) (announce who (with_notice row q) Drop AbortReached)) (cond left (quiet (with_notice row q)) (lead who (with_notice row q) found))).row

      by : (zeroth heard left : Bool) (found : Option ℕ) → eqb who.number 0 ≡ zeroth → lower_left who.number (with_notice row q) ≡ left → first_missing (with_ledger row.noticed q) (with_ledger row.noticed q) (above who.number) who.ledgers ≡ found
          → leads (ThenRow zeroth heard left found).stage ≡ true → b < upto who.ledgers (ThenRow zeroth heard left found).stage → is_in (ThenRow zeroth heard left found).noticed b ≡ true
      by true true left found z e f l below = absurd (omega (arith, (again l).0, eqb-true who.number 0 z))
      by true false left found z e f l below = absurd (grind arith)
      by false heard true found z e f l below = absurd (both_ways true (sym e ∙ (again l).1) refl)
      by false heard false (Some x) z e f l below = let before = (lowest (with_ledger row.noticed q) (with_ledger row.noticed q) (above who.number) who.ledgers x f).before b in grind (arith, before)
      by false heard false None z e f l below = absurd (grind arith)

module _ {who : Member} {row : Row} {J : List ℕ} {input : Input} {r : Response} (acts : Acts who row J input r) (few : who.ledgers ≤ 8) (b : ℕ) (low : who.number < b) (high : b < who.ledgers) where
  pub asked_on : expiring input ≡ false → runs r.row.status ≡ true → leads r.row.stage ≡ true → is_in row.noticed b ≡ false → b < upto who.ledgers r.row.stage → (ltb b (upto who.ledgers row.stage) || gives (asks row.round) r.effect b) ≡ true
  asked_on = asked_by who row J r few b low high input acts.by_rule

  pub asked_anew : expiring input ≡ true → (leads row.stage ≡ true → (1 ≤ who.number) × (lower_left who.number (with_notice row (source input)) ≡ false)) → leads r.row.stage ≡ true → b < upto who.ledgers r.row.stage → is_in r.row.noticed b ≡ true
  asked_anew expiry = by input acts.by_rule expiry
    where
      by : (i : Input) → Rule who row J i r → expiring i ≡ true → (leads row.stage ≡ true → (1 ≤ who.number) × (lower_left who.number (with_notice row (source i)) ≡ false)) → leads r.row.stage ≡ true → b < upto who.ledgers r.row.stage → is_in r.row.noticed b ≡ true
      by begins rule expiry = absurd (grind arith)
      by steps rule expiry = absurd (grind arith)
      by (hears q m) rule expiry = absurd (grind arith)
      by (expires q) rule expiry = anew_by who row J r few b low high q rule
      by stops rule expiry = absurd (grind arith)
      by restarts rule expiry = absurd (grind arith)
      by (misses q m) rule expiry = absurd (grind arith)
