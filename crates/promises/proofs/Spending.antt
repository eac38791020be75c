-- What a ledger may still send and do, and how every move spends of it.
use Rattle.std.proofs.Common.{◌≡◌, ℕ, zero, suc, ◌+◌, ◌-◌, ◌*◌, ◌<◌, ◌≤◌, Bool, true, false, cond, not, ◌&&◌, ◌||◌, eqb, ltb, ◌≢◌, ◌⊎◌, List, is_some, Some, None, Option, refl, ap, ◌∙◌, ⊎_elim, arith}
use Rattle.std.proofs.lemmas.Bool.{both_ways, cases_lt, cond_both, eqb-false, eqb-true, or_from}
use Rattle.std.proofs.lemmas.Bool.Decides.{nat_tests}
use Rattle.journals.specs.declared.entry.Entry.{Entry}
use Rattle.journals.specs.declared.entry.Entry.TheVariants.{AbortReached, Begin as BegunEntry, Dispute}
use Rattle.network.specs.declared.message.Decision.{Decision}
use Rattle.network.specs.declared.message.Decision.TheVariants.{Drop}
use Rattle.network.specs.declared.message.Message.{Message}
use Rattle.network.specs.declared.message.Message.TheVariants.{Prepare, Vote as Voted, Order, Ask, Reply}
use Rattle.network.specs.declared.message.Vote.{Vote}
use Rattle.network.specs.declared.message.Vote.TheVariants.{Yes, No}
use Rattle.rules.specs.Entries.{obeyed, reached, received}
use Rattle.rules.specs.Ledgers.{empty, first_missing, is_in, with_ledger}
use Rattle.rules.specs.Rules.{above, act, announce, asked, at_held, coordinator_lacks, counted, denied, in_stage, lead, on_denial, on_expiry, on_message, on_order, on_prepare, on_vote, other_above, outcome, participant_notices, quiet, same, with_notice, with_reply, with_vote}
use Rattle.rules.specs.Stages.{counts, held, initial, leads}
use Rattle.rules.specs.declared.effect.Effect.{Effect}
use Rattle.rules.specs.declared.effect.Effect.TheVariants.{Nothing, Write, Send}
use Rattle.rules.specs.declared.effect.Response.{Response}
use Rattle.rules.specs.declared.ledger_set.LedgerSet.{LedgerSet}
use Rattle.rules.specs.declared.row.Member.{Member}
use Rattle.rules.specs.declared.row.Row.{Row}
use Rattle.rules.specs.declared.stage.Stage.{Stage}
use Rattle.rules.specs.declared.stage.Stage.TheVariants.{Initial, Preparing, Wait, Voting, Ready, Asking, Consulting, Announcing, Announced, Decided}
use Rattle.rules.specs.declared.stage.Status.{Status}
use Rattle.rules.specs.declared.stage.Status.TheVariants.{Stopped, Running, Restarted}
use Rattle.protocol.specs.Recovery.{finding}
use Rattle.protocol.specs.State.{State, has, runs, row_of}
use Rattle.promises.proofs.Between.{Turn, acts, mine, mover}
use Rattle.promises.proofs.Each.{Each, me}
use Rattle.promises.proofs.Journal.{promised}
use Rattle.promises.proofs.Moves.{Input, Rule, begins, expires, hears, misses, restarts, steps, stops}
use Rattle.promises.proofs.Sets.{found_missing, in_with, left_fewer, left_from, left_less, left_more, left_one, left_skips, lowest}
use Rattle.promises.proofs.Shape.{Notes, Points, lower_kept, lower_left, notes_notice}

-- twice the asks of a leader with m ledgers above it, all of whom may yet be noticed: m * (m + 1)
abbrev pub rising : ℕ → ℕ
rising zero = 0
rising (suc m) = rising m + 2 * suc m

pub rising_next : (m : ℕ) → 1 ≤ m → rising m ≡ rising (m - 1) + 2 * m
rising_next m some = grind (arith, nat_tests)

pub rising_more : (a b : ℕ) → a ≤ b → rising a ≤ rising b
rising_more a zero le = ap_le (omega arith)
  where
    ap_le : a ≡ 0 → rising a ≤ 0
    ap_le e = grind (arith, nat_tests)
rising_more a (suc b) le = ⊎_elim (λ below. omega (arith, rising_more a b below)) (λ same. rw same (omega arith)) (cases a b le)
  where
    cases : (a b : ℕ) → a ≤ suc b → (a ≤ b) ⊎ (a ≡ suc b)
    cases a b le = grind arith

-- the messages that a ledger that runs may still send, and the replies to its asks
abbrev pub may : ℕ → ℕ → LedgerSet → Stage → ℕ
may n p noticed Initial = (n - 1) + cond (eqb p 0) (n - 1) (1 + rising (left_from noticed (p + 1) n))
may n p noticed (Preparing next) = (n - 1) + (n - next)
may n p noticed Wait = n - 1
may n p noticed Voting = (n - 1) + (1 + rising (left_from noticed (p + 1) n))
may n p noticed Ready = (n - 1) + rising (left_from noticed (p + 1) n)
may n p noticed (Asking next) = (n - 1) + (2 * left_from noticed next n + rising (left_from noticed (p + 1) n - 1))
may n p noticed Consulting = (n - 1) + rising (left_from noticed (p + 1) n - 1)
may n p noticed (Announcing decision next) = (n - next) - cond (ltb next p) 1 0
may n p noticed (Announced decision) = 0
may n p noticed (Decided decision) = 0

-- what it may do besides: notice ledgers, and go on to further stages
abbrev pub ahead : ℕ → LedgerSet → Stage → ℕ
ahead n noticed Initial = 1 + left_from noticed 0 n
ahead n noticed (Preparing next) = left_from noticed 0 n
ahead n noticed Wait = left_from noticed 0 n
ahead n noticed Voting = left_from noticed 0 n
ahead n noticed Ready = left_from noticed 0 n
ahead n noticed (Asking next) = left_from noticed 0 n
ahead n noticed Consulting = left_from noticed 0 n
ahead n noticed (Announcing decision next) = 1
ahead n noticed (Announced decision) = 1
ahead n noticed (Decided decision) = 0

abbrev pub if_runs : Status → ℕ → ℕ
if_runs Stopped k = 0
if_runs Running k = k
if_runs Restarted k = 0

abbrev pub budget : ℕ → ℕ → Row → ℕ
budget n p row = if_runs row.status (may n p row.noticed row.stage)

-- to stop and to restart are things to do, too
abbrev pub falls : Status → ℕ
falls Stopped = 1
falls Running = 2
falls Restarted = 0

abbrev pub effort : ℕ → Row → ℕ
effort n row = falls row.status + if_runs row.status (ahead n row.noticed row.stage)

abbrev pub is_ask : Message → ℕ
is_ask Prepare = 0
is_ask (Voted vote) = 0
is_ask (Order decision) = 0
is_ask (Ask round) = 1
is_ask (Reply round decision) = 0

-- what an effect sends, and what of that is an Ask
abbrev pub sent_by : (Message → ℕ) → Effect → ℕ
sent_by weight Nothing = 0
sent_by weight (Write entry) = 0
sent_by weight (Send q m) = weight m

-- what an input takes
abbrev pub taken_by : (Message → ℕ) → Input → ℕ
taken_by weight begins = 0
taken_by weight steps = 0
taken_by weight (hears q m) = weight m
taken_by weight (expires q) = 0
taken_by weight stops = 0
taken_by weight restarts = 0
taken_by weight (misses q m) = weight m

abbrev pub one : Message → ℕ
one m = 1

-- a message goes to another ledger, and an Ask to a higher one
abbrev pub Aimed : ℕ → ℕ → Effect → Type 0
Aimed n p Nothing = Unit {0}
Aimed n p (Write entry) = Unit {0}
Aimed n p (Send q m) = (q < n) × (q ≢ p) × (is_ask m ≡ 1 → p < q)

pub record Spends (n p : ℕ) (before : Row) (input : Input) (r : Response) : Type 0 where
  pub fewer : budget n p r.row + (sent_by one r.effect + sent_by is_ask r.effect) ≤ budget n p before + taken_by is_ask input
  pub lower : effort n r.row + 1 ≤ effort n before + (sent_by one r.effect + taken_by one input)
  pub aimed : Aimed n p r.effect

module _ (n p : ℕ) (many : 2 ≤ n) (few : n ≤ 8) (mine : p < n) where
  undecided_ahead : (noticed : LedgerSet) (stage : Stage) → held stage ≡ None → left_from noticed 0 n ≤ ahead n noticed stage
  undecided_ahead noticed stage none = grind arith

  -- one that does not lead, and notices more
  noticing_may : (before after : LedgerSet) (stage : Stage) → leads stage ≡ false → left_from after (p + 1) n ≤ left_from before (p + 1) n → may n p after stage ≤ may n p before stage
  noticing_may before after stage tame le = let more = rising_more (left_from after (p + 1) n) (left_from before (p + 1) n) le in grind arith

  noticing_ahead : (before after : LedgerSet) (stage : Stage) → held stage ≡ None → left_from after 0 n < left_from before 0 n → ahead n after stage + 1 ≤ ahead n before stage
  noticing_ahead before after stage none less = grind arith

  -- what a participant has before it begins a round
  round_may : (noticed : LedgerSet) (stage : Stage) → 1 ≤ p → counts stage ≡ false → held stage ≡ None → n - 1 + rising (left_from noticed (p + 1) n - cond (leads stage) 1 0) ≤ may n p noticed stage
  round_may noticed stage above_zero c none = grind (arith, nat_tests)

is_running : (status : Status) → runs status ≡ true → status ≡ Running
is_running status e = grind arith

module _ (who : Member) (many : 2 ≤ who.ledgers) (few : who.ledgers ≤ 8) (mine : who.number < who.ledgers) (row : Row) (J : List ℕ) (running : row.status ≡ Running) (each : Each who row J) where
  abbrev Spent : Input → Response → Type 0
  Spent input r = Spends who.ledgers who.number row input r

  abbrev may_now : ℕ
  may_now = may who.ledgers who.number row.noticed row.stage

  abbrev ahead_now : ℕ
  ahead_now = ahead who.ledgers row.noticed row.stage

  spends : (input : Input) (after : Row) (effect : Effect) → after.status ≡ Running → may who.ledgers who.number after.noticed after.stage + (sent_by one effect + sent_by is_ask effect) ≤ may_now + taken_by is_ask input → ahead who.ledgers after.noticed after.stage + 1 ≤ ahead_now + (sent_by one effect + taken_by one input) → Aimed who.ledgers who.number effect → Spent input (record { row = after; effect = effect })
  spends input after effect still fewer lower aimed = grind (arith, nat_tests)

  -- a row with the same stage that has noticed the same
  goes_on : (q : ℕ) (m : Message) (after : Row) → after.status ≡ Running → after.noticed ≡ row.noticed → after.stage ≡ row.stage → Spent (hears q m) (quiet after)
  goes_on q m after still same_noticed same_stage = grind (arith, nat_tests)

  announces : (input : Input) (after : Row) (decision : Decision) (entry : Entry) → after.status ≡ Running → held row.stage ≡ None → 2 ≤ ahead_now + taken_by one input → Spent input (announce who after decision entry)
  announces input after decision entry still none enough = grind (arith, nat_tests)

  some_left : 1 ≤ left_from row.noticed 0 who.ledgers
  some_left = left_one row.noticed who.number 0 who.ledgers each.notes.noticed_long (omega arith) each.notes.not_itself (omega arith) mine

  announces_heard : (q : ℕ) (m : Message) (after : Row) (decision : Decision) (entry : Entry) → after.status ≡ Running → held row.stage ≡ None → Spent (hears q m) (announce who after decision entry)
  announces_heard q m after decision entry still none =
      announces (hears q m) after decision entry still none (omega (arith, some_left, undecided_ahead who.ledgers who.number many few mine row.noticed row.stage none))

  spends_order : (q : ℕ) (m : Message) (decision : Decision) → Spent (hears q m) (on_order who row decision (has 10 J))
  spends_order q m decision = by_held (held row.stage) refl
    where
      by_held : (own : Option Decision) → held row.stage ≡ own → Spent (hears q m) (at_held who row decision (has 10 J) own)
      by_held None none = announces_heard q m row decision (received decision) running none
      by_held (Some own) holds =
          cond_both (same own decision || has 10 J) (quiet row) (record { row = row; effect = Write Dispute }) (Spent (hears q m)) (λ _. goes_on q m row running refl refl) (λ _. spends (hears q m) row (Write Dispute) running (omega arith) (omega arith) tt)

  spends_prepare : (q : ℕ) → Spent (hears q Prepare) (on_prepare who row)
  spends_prepare q = grind (arith, nat_tests)

  spends_vote : (q : ℕ) (vote : Vote) → Spent (hears q (Voted vote)) (on_vote who row q vote)
  spends_vote q vote = cond_both (counts row.stage) (counted who (with_vote row q vote)) (quiet row) (Spent (hears q (Voted vote))) (λ c. by_vote vote (Voted vote) c) (λ _. goes_on q (Voted vote) row running refl refl)
    where
      counts_on : (m : Message) (after : Row) → after.status ≡ Running → after.noticed ≡ row.noticed → after.stage ≡ row.stage → counts row.stage ≡ true → Spent (hears q m) (counted who after)
      counts_on m after still same_noticed same_stage c =
          cond_both (is_some (first_missing after.ayes after.noes 1 who.ledgers)) (quiet after) (announce who after (outcome who after) (reached (outcome who after))) (Spent (hears q m))
          (λ _. goes_on q m after still same_noticed same_stage)
          (λ _. announces_heard q m after (outcome who after) (reached (outcome who after)) still (grind arith))

      by_vote : (vote : Vote) (m : Message) → counts row.stage ≡ true → Spent (hears q m) (counted who (with_vote row q vote))
      by_vote Yes m c = counts_on m (with_vote row q Yes) running refl refl c
      by_vote No m c = counts_on m (with_vote row q No) running refl refl c

  spends_denial : (q round : ℕ) → Spent (hears q (Reply round None)) (on_denial who row q round)
  spends_denial q round =
      cond_both (leads row.stage && eqb round row.round) (denied who (with_reply row q)) (quiet row) (Spent (hears q (Reply round None)))
      (λ test. cond_both (is_some (first_missing row.noticed (with_ledger row.replied q) (above who.number) who.ledgers)) (quiet (with_reply row q)) (announce who (with_reply row q) Drop AbortReached) (Spent (hears q (Reply round None)))
      (λ _. goes_on q (Reply round None) (with_reply row q) running refl refl)
      (λ _. announces_heard q (Reply round None) (with_reply row q) Drop AbortReached running (grind arith)))
      (λ _. goes_on q (Reply round None) row running refl refl)

  spends_hears : (q : ℕ) (m : Message) → q < who.ledgers → q ≢ who.number → Spent (hears q m) (on_message who row q m (has 10 J))
  spends_hears q Prepare known other = spends_prepare q
  spends_hears q (Voted vote) known other = spends_vote q vote
  spends_hears q (Order decision) known other = spends_order q (Order decision) decision
  spends_hears q (Ask round) known other = spends (hears q (Ask round)) row (Send q (Reply round (held row.stage))) running (omega arith) (omega arith) (known, other, λ e. absurd (omega arith))
  spends_hears q (Reply round (Some decision)) known other = spends_order q (Reply round (Some decision)) decision
  spends_hears q (Reply round None) known other = spends_denial q round

  module _ (q : ℕ) (known : q < who.ledgers) (other : q ≢ who.number) (undecided : is_some (held row.stage) ≡ false) (waits : (eqb who.number 0 && initial row.stage) ≡ false) (absent : is_in row.noticed q ≡ false) where
    abbrev then : LedgerSet
    then = with_ledger row.noticed q

    none : held row.stage ≡ None
    none = grind arith

    more : (j : ℕ) → is_in row.noticed j ≡ true → is_in then j ≡ true
    more j there = grind (arith, nat_tests, in_with row.noticed q j each.notes.noticed_long)

    new : is_in then q ≡ true
    new = grind (arith, nat_tests, in_with row.noticed q q each.notes.noticed_long)

    left_then : left_from then 0 who.ledgers < left_from row.noticed 0 who.ledgers
    left_then = left_less row.noticed then more q new absent 0 who.ledgers (omega arith) known

    notes_then : Notes who.number (with_notice row q)
    notes_then = notes_notice who.ledgers who.number row (omega arith) q (omega arith) other absent each.notes

    drops : Spent (expires q) (announce who (with_notice row q) Drop AbortReached)
    drops =
        announces (expires q) (with_notice row q) Drop AbortReached running none
        (omega (arith, left_then, left_one then who.number 0 who.ledgers notes_then.noticed_long (omega arith) notes_then.not_itself (omega arith) mine, undecided_ahead who.ledgers who.number many few mine row.noticed row.stage none))

    notices : leads row.stage ≡ false → Spent (expires q) (quiet (with_notice row q))
    notices tame =
        spends (expires q) (with_notice row q) Nothing running
        (omega (arith, noticing_may who.ledgers who.number many few mine row.noticed then row.stage tame (left_fewer row.noticed then more (who.number + 1) who.ledgers)))
        (omega (arith, noticing_ahead who.ledgers who.number many few mine row.noticed then row.stage none left_then)) tt

    -- a leader has noticed all lower ledgers, so that this is a higher one
    higher : leads row.stage ≡ true → who.number < q
    higher l = ⊎_elim (λ below. absurd (lower below)) (λ above. omega arith) (cases_lt q who.number)
      where
        lower : q < who.number → ⊥
        lower below =
            let some = found_missing row.noticed row.noticed 0 who.number q (omega arith) below (or_from (is_in row.noticed q) (is_in row.noticed q) absent absent) in
            both_ways (lower_left who.number row) (each.shape.leads_last (each.shape.leads_at l) undecided ∙ ap not l) some

    left_above : left_from then (who.number + 1) who.ledgers ≤ left_from row.noticed (who.number + 1) who.ledgers - cond (leads row.stage) 1 0
    left_above = by_stage (leads row.stage) refl
      where
        by_stage : (l : Bool) → leads row.stage ≡ l → left_from then (who.number + 1) who.ledgers ≤ left_from row.noticed (who.number + 1) who.ledgers - cond l 1 0
        by_stage true l = let above = higher l in omega (arith, left_less row.noticed then more q new absent (who.number + 1) who.ledgers (omega arith) known)
        by_stage false l = omega (arith, left_fewer row.noticed then more (who.number + 1) who.ledgers)

    asks_then : 1 ≤ who.number → (x : ℕ) → first_missing then then (above who.number) who.ledgers ≡ Some x → may who.ledgers who.number then (Asking x) ≤ may_now
    asks_then above_zero x e =
        let it = lowest then then (above who.number) who.ledgers x e in
        let skipped = left_skips then who.ledgers (who.number + 1) x (omega arith) (omega arith) (λ j low high. grind (arith, it.before j)) in
        let absent_then : is_in then x ≡ false = grind (arith, it.missing) in
        let some = left_one then x x who.ledgers notes_then.noticed_long (omega arith) absent_then (omega arith) it.high in
        let whole = rising_next (left_from then (who.number + 1) who.ledgers) (omega arith) in
        let fewer = rising_more (left_from then (who.number + 1) who.ledgers) (left_from row.noticed (who.number + 1) who.ledgers - cond (leads row.stage) 1 0) left_above in
        omega (arith, round_may who.ledgers who.number many few mine row.noticed row.stage above_zero (grind (arith, each.shape.counts_at)) none)

    new_round : 1 ≤ who.number → (found : Option ℕ) → first_missing then then (above who.number) who.ledgers ≡ found → Spent (expires q) (lead who (with_notice row q) found)
    new_round above_zero (Some x) e = spends (expires q) (record { status = row.status; stage = Asking x; round = above row.round; noticed = then; replied = empty; ayes = row.ayes; noes = row.noes }) Nothing running (omega (arith, asks_then above_zero x e)) (omega (arith, left_then, undecided_ahead who.ledgers who.number many few mine row.noticed row.stage none)) tt
    new_round above_zero None e = drops

    spends_expires : Spent (expires q) (on_expiry who row q)
    spends_expires =
        cond_both (eqb who.number 0) (coordinator_lacks who (with_notice row q) q) (participant_notices who (with_notice row q)) (Spent (expires q))
        (λ zeroth. let at_zero = eqb-true who.number 0 zeroth in cond_both (is_in row.ayes q || is_in row.noes q) (quiet (with_notice row q)) (announce who (with_notice row q) Drop AbortReached) (Spent (expires q)) (λ _. notices (grind (arith, each.shape.leads_at))) (λ _. drops))
        (λ above. let above_zero = eqb-false who.number 0 above in participant (omega arith))
      where
        participant : 1 ≤ who.number → Spent (expires q) (participant_notices who (with_notice row q))
        participant above_zero =
            cond_both (lower_left who.number (with_notice row q)) (quiet (with_notice row q)) (lead who (with_notice row q) (first_missing then then (above who.number) who.ledgers)) (Spent (expires q))
            (λ left. notices (grind (arith, each.shape.leads_last above_zero undecided, lower_kept who.ledgers who.number row q (omega arith) each.notes)))
            (λ _. new_round above_zero (first_missing then then (above who.number) who.ledgers) refl)

  abbrev IfAny : Option Response → Type 0
  IfAny None = Unit {0}
  IfAny (Some r) = Spent steps r

  -- a message is sent, and the stage is another
  sends : (after : Stage) (q : ℕ) (m : Message) → (q < who.ledgers) × (q ≢ who.number) × (is_ask m ≡ 1 → who.number < q) → may who.ledgers who.number row.noticed after + (1 + is_ask m) ≤ may_now → ahead who.ledgers row.noticed after ≤ ahead_now → Spent steps (record { row = in_stage row after; effect = Send q m })
  sends after q m aimed fewer lower = grind (arith, nat_tests)

  spends_acts : (stage : Stage) → row.stage ≡ stage → IfAny (act who row stage)
  spends_acts Initial is_at = tt
  spends_acts (Preparing next) is_at =
      let here : Points who.ledgers who.number row.noticed (Preparing next) = rw is_at at each.shape.points in
      let zeroth = each.shape.counts_at (ap counts is_at) in
      let has_may : may_now ≡ (who.ledgers - 1) + (who.ledgers - next) = ap (may who.ledgers who.number row.noticed) is_at in
      let has_ahead : ahead_now ≡ left_from row.noticed 0 who.ledgers = ap (ahead who.ledgers row.noticed) is_at in
      cond_both (ltb (above next) who.ledgers) (Preparing (above next)) Wait (λ after. Spent steps (record { row = in_stage row after; effect = Send next Prepare }))
      (λ _. sends (Preparing (above next)) next Prepare (here.1, omega arith, λ e. absurd (omega arith)) (omega arith) (omega arith))
      (λ _. sends Wait next Prepare (here.1, omega arith, λ e. absurd (omega arith)) (omega arith) (omega arith))
  spends_acts Wait is_at = tt
  spends_acts Voting is_at = let above_zero = each.shape.promised_at (ap promised is_at) in sends Ready 0 (Voted who.vote) (omega arith, omega arith, λ e. absurd (omega arith)) (grind arith) (grind arith)
  spends_acts Ready is_at = tt
  spends_acts (Asking next) is_at =
      let here : Points who.ledgers who.number row.noticed (Asking next) = rw is_at at each.shape.points in
      asks_next here (ap (may who.ledgers who.number row.noticed) is_at) (ap (ahead who.ledgers row.noticed) is_at) (first_missing row.noticed row.noticed (above next) who.ledgers) refl
    where
      asks_next : Points who.ledgers who.number row.noticed (Asking next) → may_now ≡ may who.ledgers who.number row.noticed (Asking next) → ahead_now ≡ left_from row.noticed 0 who.ledgers → (found : Option ℕ) → first_missing row.noticed row.noticed (above next) who.ledgers ≡ found → Spent steps (record { row = in_stage row (asked found); effect = Send next (Ask row.round) })
      asks_next here has_may has_ahead (Some x) e =
          let it = lowest row.noticed row.noticed (above next) who.ledgers x e in
          let skipped = left_skips row.noticed who.ledgers (next + 1) x (omega arith) (omega arith) (λ j low high. grind (arith, it.before j)) in
          let this : left_from row.noticed next who.ledgers ≡ 1 + left_from row.noticed (next + 1) who.ledgers = rw here.2 at (left_more row.noticed next who.ledgers here.1) in
          sends (Asking x) next (Ask row.round) (here.1, omega arith, λ _. here.0) (omega arith) (omega arith)
      asks_next here has_may has_ahead None e =
          let this : left_from row.noticed next who.ledgers ≡ 1 + left_from row.noticed (next + 1) who.ledgers = rw here.2 at (left_more row.noticed next who.ledgers here.1) in
          sends Consulting next (Ask row.round) (here.1, omega arith, λ _. here.0) (omega arith) (omega arith)
  spends_acts Consulting is_at = tt
  spends_acts (Announcing decision next) is_at =
      let here : Points who.ledgers who.number row.noticed (Announcing decision next) = rw is_at at each.shape.points in
      let has_may : may_now ≡ (who.ledgers - next) - cond (ltb next who.number) 1 0 = ap (may who.ledgers who.number row.noticed) is_at in
      let has_ahead : ahead_now ≡ 1 = ap (ahead who.ledgers row.noticed) is_at in
      cond_both (ltb (other_above who.number next) who.ledgers) (Announcing decision (other_above who.number next)) (Announced decision) (λ after. Spent steps (record { row = in_stage row after; effect = Send next (Order decision) }))
      (λ more. sends (Announcing decision (other_above who.number next)) next (Order decision) (here.0, here.1, λ e. absurd (omega arith)) (grind (arith, nat_tests)) (omega arith))
      (λ last. sends (Announced decision) next (Order decision) (here.0, here.1, λ e. absurd (omega arith)) (grind (arith, nat_tests)) (omega arith))
  spends_acts (Announced decision) is_at = spends steps (in_stage row (Decided decision)) (Write (obeyed decision)) running (grind arith) (grind arith) tt
  spends_acts (Decided decision) is_at = tt

  spends_begins : who.number ≡ 0 → initial row.stage ≡ true → Spent begins (record { row = in_stage row (Preparing 1); effect = Write BegunEntry })
  spends_begins zeroth i = grind (arith, nat_tests)

-- a restart sends nothing
restart_aims : (n p : ℕ) (J : List ℕ) → Aimed n p (finding J).effect
restart_aims n p J = grind (arith, nat_tests)

-- whatever the ledger does, it spends
pub spends_moves : (who : Member) → 2 ≤ who.ledgers → who.ledgers ≤ 8 → who.number < who.ledgers → (row : Row) (J : List ℕ) (input : Input) (r : Response) → Rule who row J input r → Each who row J → Spends who.ledgers who.number row input r
spends_moves who many few mine row J begins r (running, zeroth, i, does) each = rw does (spends_begins who many few mine row J (is_running row.status running) each zeroth i)
spends_moves who many few mine row J steps r (running, does) each = rw does at (spends_acts who many few mine row J (is_running row.status running) each row.stage refl)
spends_moves who many few mine row J (hears q m) r (running, other, known, does) each = rw does (spends_hears who many few mine row J (is_running row.status running) each q m known other)
spends_moves who many few mine row J (expires q) r (running, other, known, undecided, waits, absent, does) each = rw does (spends_expires who many few mine row J (is_running row.status running) each q known other undecided waits absent)
spends_moves who many few mine row J stops r (running, does) each = rw does (record { fewer = omega arith; lower = grind arith; aimed = tt })
spends_moves who many few mine row J restarts r (halted, does) each = rw does (record { fewer = grind arith; lower = grind arith; aimed = restart_aims who.ledgers who.number J })
spends_moves who many few mine row J (misses q m) r (halted, other, known, does) each = rw does (record { fewer = omega arith; lower = omega arith; aimed = tt })

pub spent : {n : ℕ} {votes : List Vote} {s s' : State} {p : ℕ} {input : Input} {r : Response} → Turn n votes s s' p input r → Spends n p (row_of s p) input r
spent {n} {votes} {s} {s'} {p} {input} {r} t = spends_moves (me n votes p) t.many t.few (mine t) (row_of s p) (s.entries p) input r (acts t).by_rule (mover t)
