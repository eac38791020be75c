-- What holds of each ledger by itself, whatever it does.
use Rattle.std.proofs.Common.{◌≡◌, ℕ, ◌<◌, ◌≤◌, Bool, true, false, cond, not, ◌&&◌, ◌||◌, eqb, ltb, ◌≢◌, List, [], ◌∷◌, ◌++◌, length, get_or, is_some, Some, None, Option, refl, ap, subst, ⊎_elim, arith}
use Rattle.std.proofs.lemmas.List.{length_push}
use Rattle.std.proofs.lemmas.Bool.{and_parts, cases_eq, cond_both, eqb-false, eqb-true, not-true, or_parts}
use Rattle.std.proofs.lemmas.Bool.Decides.{nat_tests}
use Rattle.journals.specs.declared.entry.Entry.TheVariants.{AbortReached, Begin as BegunEntry, Dispute}
use Rattle.network.specs.declared.message.Decision.{Decision}
use Rattle.network.specs.declared.message.Decision.TheVariants.{Drop}
use Rattle.network.specs.declared.message.Message.{Message}
use Rattle.network.specs.declared.message.Message.TheVariants.{Prepare, Vote as Voted, Order, Ask, Reply}
use Rattle.network.specs.declared.message.Vote.{Vote}
use Rattle.network.specs.declared.message.Vote.TheVariants.{Yes, No}
use Rattle.rules.specs.Entries.{reached, ready, received}
use Rattle.rules.specs.Ledgers.{first_missing, is_in, with_ledger}
use Rattle.rules.specs.Rules.{above, act, announce, asked, at_held, coordinator_lacks, counted, denied, first_other, in_stage, lead, on_denial, on_expiry, on_message, on_order, on_prepare, on_vote, other_above, outcome, participant_notices, quiet, same, with_notice, with_reply, with_vote}
use Rattle.rules.specs.Stages.{counts, held, initial, leads}
use Rattle.rules.specs.declared.effect.Effect.TheVariants.{Write, Send}
use Rattle.rules.specs.declared.effect.Response.{Response}
use Rattle.rules.specs.declared.row.Member.{Member}
use Rattle.rules.specs.declared.row.Row.{Row}
use Rattle.rules.specs.declared.stage.Stage.{Stage}
use Rattle.rules.specs.declared.stage.Stage.TheVariants.{Initial, Preparing, Wait, Voting, Ready, Asking, Consulting, Announcing, Announced, Decided}
use Rattle.rules.specs.declared.stage.Status.{Status}
use Rattle.rules.specs.declared.stage.Status.TheVariants.{Stopped, Running, Restarted}
use Rattle.protocol.specs.Plans.{after_all}
use Rattle.protocol.specs.Recovery.{finding}
use Rattle.protocol.specs.State.{State, fresh, has, member_of, row_of, runs, stopped}
use Rattle.protocol.specs.declared.call.Call.{Call}
use Rattle.protocol.specs.declared.recovery.Finding.{Finding}
use Rattle.promises.specs.Runs.{new}
use Rattle.promises.proofs.Journal.{Told, closed, most, promised, told_begins, told_decides, told_disputes, told_moves, told_obeys, told_readies}
use Rattle.promises.proofs.Moves.{Input, Move, Rule, Sound, begins, expires, hears, misses, plain_run, restarts, steps, stops, written}
use Rattle.promises.proofs.Sets.{count_set, in_with, lowest}
use Rattle.promises.proofs.Shape.{Notes, Points, Shape, is_initial, lower_left, notes_leads, notes_moves, notes_notice, notes_reply, notes_vote, shape_begins, shape_coordinator, shape_holds, shape_leads, shape_moves, shape_participant, shape_reply, shape_vote}

-- the most entries in a journal
abbrev pub most_entries : Status → ℕ
most_entries Stopped = 4
most_entries Running = 4
most_entries Restarted = 5

pub record Each (who : Member) (row : Row) (J : List ℕ) : Type 0 where
  pub notes : Notes who.number row
  pub shape : Shape who.ledgers who.number row
  pub told : runs row.status ≡ true → Told who.vote row.stage J
  pub room : length J ≤ most_entries row.status

room_told : (vote : Vote) (stage : Stage) (J : List ℕ) (status : Status) → Told vote stage J → length J ≤ most_entries status
room_told vote stage J status told = grind arith

undecided_closed : (stage : Stage) → held stage ≡ None → closed stage ≡ None
undecided_closed stage none = grind arith

undecided_few : (stage : Stage) → held stage ≡ None → most stage ≤ 1
undecided_few stage none = grind arith

-- two stages of one kind: what is told of a row and a journal at the one holds at the other
record Alike (stage after : Stage) : Type 0 where
  same_counts : counts after ≡ counts stage
  same_leads : leads after ≡ leads stage
  still_promised : promised after ≡ true → promised stage ≡ true
  begun : initial after ≡ false
  same_held : held after ≡ held stage
  same_closed : closed after ≡ closed stage
  no_fewer : most stage ≤ most after

module _ (who : Member) (J : List ℕ) (many : 2 ≤ who.ledgers) (few : who.ledgers ≤ 8) (mine : who.number < who.ledgers) where
  abbrev After : Response → Type 0
  After r = Each who r.row (written r.effect J)

  each_announces : (row : Row) (own : Bool) (decision : Decision) → held row.stage ≡ None → Notes who.number row → Told who.vote row.stage J → After (announce who row decision (cond own (reached decision) (received decision)))
  each_announces row own decision none notes told =
      let after = told_decides who.vote J own decision (first_other who.number) row.stage none (undecided_closed row.stage none) (undecided_few row.stage none) told in
      record {
        notes = notes_moves who.ledgers who.number row (omega arith) (Announcing decision (first_other who.number)) notes;
        shape = shape_holds who.ledgers who.number row (Announcing decision (first_other who.number)) refl (grind (arith, nat_tests), grind (arith, nat_tests));
        told = λ _. after;
        room = room_told who.vote (Announcing decision (first_other who.number)) _ row.status after;
      }

  each_readies : (row : Row) → runs row.status ≡ true → Each who row J → After (on_prepare who row)
  each_readies row running each =
      cond_both (initial row.stage && not (eqb who.number 0)) (record { row = in_stage row Voting; effect = Write (ready who.vote) }) (quiet row) After
      (λ test. let parts = and_parts (initial row.stage) (not (eqb who.number 0)) test in enters parts.0 (eqb-false who.number 0 (not-true (eqb who.number 0) parts.1)))
      (λ _. each)
    where
      enters : initial row.stage ≡ true → who.number ≢ 0 → After (record { row = in_stage row Voting; effect = Write (ready who.vote) })
      enters i other =
          let at_first = is_initial row.stage i in
          let told : Told who.vote Initial J = rw at_first at (each.told running) in
          let after = told_readies who.vote J told in
          record {
            notes = notes_moves who.ledgers who.number row (omega arith) Voting each.notes;
            shape = shape_moves who.ledgers who.number row Voting (grind arith) (grind arith) (λ _. omega arith) refl (grind arith) tt each.shape;
            told = λ _. after;
            room = room_told who.vote Voting _ row.status after;
          }

  -- the row already has what was heard or noticed; what is left to show is its shape where the ledger goes on
  abbrev ReadyRow : Row → Type 0
  ReadyRow row = (held row.stage ≡ None) × Notes who.number row × Told who.vote row.stage J

  goes_on : (row : Row) → ReadyRow row → Shape who.ledgers who.number row → After (quiet row)
  goes_on row its shape = grind (arith, nat_tests)

  drops : (row : Row) → ReadyRow row → After (announce who row Drop AbortReached)
  drops row its = each_announces row true Drop its.0 its.1 its.2

  each_counted : (row : Row) → ReadyRow row → (is_some (first_missing row.ayes row.noes 1 who.ledgers) ≡ true → Shape who.ledgers who.number row) → After (counted who row)
  each_counted row its shape =
      cond_both (is_some (first_missing row.ayes row.noes 1 who.ledgers)) (quiet row) (announce who row (outcome who row) (reached (outcome who row))) After
      (λ left. goes_on row its (shape left))
      (λ _. each_announces row true (outcome who row) its.0 its.1 its.2)

  each_votes : (row : Row) (q : ℕ) (vote : Vote) → q < 8 → runs row.status ≡ true → Each who row J → After (on_vote who row q vote)
  each_votes row q vote below running each =
      cond_both (counts row.stage) (counted who (with_vote row q vote)) (quiet row) After (λ c. by_vote vote c) (λ _. each)
    where
      its : (vote : Vote) → counts row.stage ≡ true → (with_vote row q vote).stage ≡ row.stage → ReadyRow (with_vote row q vote)
      its vote c same = (rw same (grind arith), notes_vote who.ledgers who.number row (omega arith) q vote each.notes, rw same (each.told running))

      by_vote : (vote : Vote) → counts row.stage ≡ true → After (counted who (with_vote row q vote))
      by_vote Yes c = each_counted (with_vote row q Yes) (its Yes c refl) (λ left. shape_vote who.ledgers who.number row (with_ledger row.ayes q) row.noes (λ x e. grind (arith, nat_tests, in_with row.ayes q x each.notes.ayes_long below)) c left each.shape)
      by_vote No c = each_counted (with_vote row q No) (its No c refl) (λ left. shape_vote who.ledgers who.number row row.ayes (with_ledger row.noes q) (λ x e. grind (arith, nat_tests, in_with row.noes q x each.notes.noes_long below)) c left each.shape)

  each_denied : (row : Row) (q round : ℕ) → runs row.status ≡ true → Each who row J → After (on_denial who row q round)
  each_denied row q round running each =
      cond_both (leads row.stage && eqb round row.round) (denied who (with_reply row q)) (quiet row) After (λ test. replies (and_parts (leads row.stage) (eqb round row.round) test).0) (λ _. each)
    where
      replies : leads row.stage ≡ true → After (denied who (with_reply row q))
      replies l =
          let its : ReadyRow (with_reply row q) = (grind arith, notes_reply who.ledgers who.number row (omega arith) q each.notes, each.told running) in
          cond_both (is_some (first_missing row.noticed (with_ledger row.replied q) (above who.number) who.ledgers)) (quiet (with_reply row q)) (announce who (with_reply row q) Drop AbortReached) After
          (λ left. goes_on (with_reply row q) its (shape_reply who.ledgers who.number row q left each.shape))
          (λ _. drops (with_reply row q) its)

  each_ordered : (row : Row) (decision : Decision) → runs row.status ≡ true → Each who row J → After (on_order who row decision (has 10 J))
  each_ordered row decision running each = by_held (held row.stage) refl
    where
      disputes : is_some (held row.stage) ≡ true → has 10 J ≡ false → After (record { row = row; effect = Write Dispute })
      disputes holds first =
          let after = told_disputes who.vote J row.stage holds first (grind arith) (grind arith) (each.told running) in
          record { notes = each.notes; shape = each.shape; told = λ _. after; room = room_told who.vote row.stage _ row.status after }

      by_held : (own : Option Decision) → held row.stage ≡ own → After (at_held who row decision (has 10 J) own)
      by_held None none = each_announces row false decision none each.notes (each.told running)
      by_held (Some own) holds =
          cond_both (same own decision || has 10 J) (quiet row) (record { row = row; effect = Write Dispute }) After (λ _. each) (λ test. disputes (ap is_some holds) (or_parts (same own decision) (has 10 J) test).1)

  each_hears : (row : Row) (q : ℕ) (m : Message) → q < 8 → runs row.status ≡ true → Each who row J → After (on_message who row q m (has 10 J))
  each_hears row q Prepare below running each = each_readies row running each
  each_hears row q (Voted vote) below running each = each_votes row q vote below running each
  each_hears row q (Order decision) below running each = each_ordered row decision running each
  each_hears row q (Ask round) below running each = each
  each_hears row q (Reply round (Some decision)) below running each = each_ordered row decision running each
  each_hears row q (Reply round None) below running each = each_denied row q round running each

  each_expires : (row : Row) (q : ℕ) → q < 8 → q ≢ who.number → is_some (held row.stage) ≡ false → (eqb who.number 0 && initial row.stage) ≡ false → is_in row.noticed q ≡ false → runs row.status ≡ true → Each who row J → After (on_expiry who row q)
  each_expires row q below other undecided waits absent running each =
      cond_both (eqb who.number 0) (coordinator_lacks who (with_notice row q) q) (participant_notices who (with_notice row q)) After
      (λ e. coordinator (eqb-true who.number 0 e))
      (λ e. let above_zero = eqb-false who.number 0 e in participant (omega arith))
    where
      its : ReadyRow (with_notice row q)
      its = (grind arith, notes_notice who.ledgers who.number row (omega arith) q below other absent each.notes, each.told running)

      coordinator : who.number ≡ 0 → After (coordinator_lacks who (with_notice row q) q)
      coordinator zeroth =
          cond_both (is_in row.ayes q || is_in row.noes q) (quiet (with_notice row q)) (announce who (with_notice row q) Drop AbortReached) After
          (λ heard. goes_on (with_notice row q) its (shape_coordinator who.ledgers who.number row q below each.notes zeroth (grind (arith, nat_tests)) heard each.shape))
          (λ _. drops (with_notice row q) its)

      new_round : 1 ≤ who.number → lower_left who.number (with_notice row q) ≡ false → (found : Option ℕ) → first_missing (with_ledger row.noticed q) (with_ledger row.noticed q) (above who.number) who.ledgers ≡ found → After (lead who (with_notice row q) found)
      new_round above_zero none (Some x) e =
          let told : Told who.vote (Asking x) J = told_moves who.vote J row.stage (Asking x) (grind arith) (grind arith) refl (λ k. grind arith) (undecided_few row.stage its.0) (each.told running) in
          record {
            notes = notes_leads who.ledgers who.number (with_notice row q) (omega arith) x (omega (arith, count_set row.noticed.members q (omega arith) absent)) its.1;
            shape = shape_leads who.ledgers who.number (with_notice row q) x (above row.round) (omega arith) above_zero none e;
            told = λ _. told;
            room = room_told who.vote (Asking x) J row.status told;
          }
      new_round above_zero none None e = drops (with_notice row q) its

      participant : 1 ≤ who.number → After (participant_notices who (with_notice row q))
      participant above_zero =
          cond_both (lower_left who.number (with_notice row q)) (quiet (with_notice row q)) (lead who (with_notice row q) (first_missing (with_ledger row.noticed q) (with_ledger row.noticed q) (above who.number) who.ledgers)) After
          (λ left. goes_on (with_notice row q) its (shape_participant who.ledgers who.number row q below each.notes above_zero undecided left each.shape))
          (λ none. new_round above_zero none (first_missing (with_ledger row.noticed q) (with_ledger row.noticed q) (above who.number) who.ledgers) refl)

  -- a message is sent, and the ledger goes on to a stage of the same kind
  sends : (row : Row) (stage after : Stage) (q : ℕ) (m : Message) → row.stage ≡ stage → runs row.status ≡ true → Each who row J → Alike stage after → Points who.ledgers who.number row.noticed after → After (record { row = in_stage row after; effect = Send q m })
  sends row stage after q m is_at running each alike points = grind (arith, nat_tests)

  abbrev IfAny : Option Response → Type 0
  IfAny None = Unit {0}
  IfAny (Some r) = After r

  each_acts : (row : Row) (stage : Stage) → row.stage ≡ stage → runs row.status ≡ true → Each who row J → IfAny (act who row stage)
  each_acts row Initial is_at running each = tt
  each_acts row (Preparing next) is_at running each =
      let here : Points who.ledgers who.number row.noticed (Preparing next) = rw is_at at each.shape.points in
      cond_both (ltb (above next) who.ledgers) (Preparing (above next)) Wait (λ after. After (record { row = in_stage row after; effect = Send next Prepare }))
      (λ more. sends row (Preparing next) (Preparing (above next)) next Prepare is_at running each (search arith) (grind (arith, nat_tests), grind (arith, nat_tests)))
      (λ _. sends row (Preparing next) Wait next Prepare is_at running each (search arith) tt)
  each_acts row Wait is_at running each = tt
  each_acts row Voting is_at running each = sends row Voting Ready 0 (Voted who.vote) is_at running each (search arith) tt
  each_acts row Ready is_at running each = tt
  each_acts row (Asking next) is_at running each =
      let here : Points who.ledgers who.number row.noticed (Asking next) = rw is_at at each.shape.points in
      goes_on_asking here (first_missing row.noticed row.noticed (above next) who.ledgers) refl
    where
      goes_on_asking : Points who.ledgers who.number row.noticed (Asking next) → (found : Option ℕ) → first_missing row.noticed row.noticed (above next) who.ledgers ≡ found → After (record { row = in_stage row (asked found); effect = Send next (Ask row.round) })
      goes_on_asking here (Some x) e =
          let it = lowest row.noticed row.noticed (above next) who.ledgers x e in
          sends row (Asking next) (Asking x) next (Ask row.round) is_at running each (search arith) (omega arith, it.high, grind (arith, it.missing))
      goes_on_asking here None e = sends row (Asking next) Consulting next (Ask row.round) is_at running each (search arith) tt
  each_acts row Consulting is_at running each = tt
  each_acts row (Announcing decision next) is_at running each =
      let here : Points who.ledgers who.number row.noticed (Announcing decision next) = rw is_at at each.shape.points in
      cond_both (ltb (other_above who.number next) who.ledgers) (Announcing decision (other_above who.number next)) (Announced decision) (λ after. After (record { row = in_stage row after; effect = Send next (Order decision) }))
      (λ more. sends row (Announcing decision next) (Announcing decision (other_above who.number next)) next (Order decision) is_at running each (search arith) (grind (arith, nat_tests), grind (arith, nat_tests)))
      (λ _. sends row (Announcing decision next) (Announced decision) next (Order decision) is_at running each (search arith) tt)
  each_acts row (Announced decision) is_at running each =
      let told : Told who.vote (Announced decision) J = rw is_at at (each.told running) in
      let after = told_obeys who.vote J decision told in
      record {
        notes = notes_moves who.ledgers who.number row (omega arith) (Decided decision) each.notes;
        shape = shape_holds who.ledgers who.number row (Decided decision) refl tt;
        told = λ _. after;
        room = room_told who.vote (Decided decision) _ row.status after;
      }
  each_acts row (Decided decision) is_at running each = tt

  each_begins : (row : Row) → who.number ≡ 0 → initial row.stage ≡ true → runs row.status ≡ true → Each who row J → After (record { row = in_stage row (Preparing 1); effect = Write BegunEntry })
  each_begins row zeroth i running each =
      let told : Told who.vote Initial J = rw (is_initial row.stage i) at (each.told running) in
      let after = told_begins who.vote J 1 told in
      record {
        notes = notes_moves who.ledgers who.number row (omega arith) (Preparing 1) each.notes;
        shape = shape_begins who.ledgers who.number row zeroth i many each.shape;
        told = λ _. after;
        room = room_told who.vote (Preparing 1) _ row.status after;
      }

  notes_fresh : (status : Status) → Notes who.number (fresh status)
  notes_fresh status = grind (arith, nat_tests)

  shape_fresh : (status : Status) → Shape who.ledgers who.number (fresh status)
  shape_fresh status = grind (arith, nat_tests)

  each_restarts : (row : Row) → stopped row.status ≡ true → Each who row J → After (record { row = fresh Restarted; effect = (finding J).effect })
  each_restarts row halted each =
      cond_both (has 8 J) _ _ Found (λ _. still)
      (λ _. cond_both (has 9 J) _ _ Found (λ _. still)
      (λ _. cond_both (has 5 J || has 7 J) _ _ Found (λ _. closes)
      (λ _. cond_both (has 4 J || (has 6 J || has 2 J)) _ _ Found (λ _. still) (λ _. closes))))
    where
      Found : Finding → Type 0
      Found it = After (record { row = fresh Restarted; effect = it.effect })

      short : length J ≤ 4
      short = grind (arith, each.room)

      still : Each who (fresh Restarted) J
      still = grind (arith, nat_tests)

      closes : Each who (fresh Restarted) (J ++ (9 ∷ []))
      closes =
          record {
            notes = notes_fresh Restarted;
            shape = shape_fresh Restarted;
            told = λ e. grind arith;
            room = omega (arith, short, length_push J 9);
          }

  each_stops : (row : Row) → runs row.status ≡ true → Each who row J → After (quiet (fresh Stopped))
  each_stops row running each = grind (arith, nat_tests)

  -- whatever the ledger does, its facts still hold
  pub each_moves : (row : Row) (input : Input) (r : Response) → Rule who row J input r → Each who row J → After r
  each_moves row begins r (running, zeroth, i, does) each = rw does (each_begins row zeroth i running each)
  each_moves row steps r (running, does) each = rw does at (each_acts row row.stage refl running each)
  each_moves row (hears q m) r (running, other, known, does) each = rw does (each_hears row q m (omega arith) running each)
  each_moves row (expires q) r (running, other, known, undecided, waits, absent, does) each = rw does (each_expires row q (omega arith) other undecided waits absent running each)
  each_moves row stops r (running, does) each = rw does (each_stops row running each)
  each_moves row restarts r (halted, does) each = rw does (each_restarts row halted each)
  each_moves row (misses q m) r (halted, other, known, does) each = rw does each

-- who p is
abbrev pub me : ℕ → List Vote → ℕ → Member
me n votes p = record { ledgers = n; number = p; vote = get_or votes p Yes }

-- the facts of every ledger
abbrev pub AllEach : ℕ → List Vote → State → Type 0
AllEach n votes s = (p : ℕ) → p < n → Each (me n votes p) (row_of s p) (s.entries p)

module _ (n : ℕ) (votes : List Vote) (many : 2 ≤ n) (few : n ≤ 8) where
  pub each_new : AllEach n votes (new n votes)
  each_new p mine = grind (arith, nat_tests)

  pub each_after : (s s' : State) (p : ℕ) (input : Input) (r : Response) → Sound n votes s → Move s p input r s' → AllEach n votes s → AllEach n votes s'
  each_after s s' p input r sound move each a known = ⊎_elim own other (cases_eq a p)
    where
      own : a ≡ p → Each (me n votes a) (row_of s' a) (s'.entries a)
      own e =
          let same : member_of s p ≡ me n votes p = cc in
          let rule = subst (λ (who : Member). Rule who (row_of s p) (s.entries p) input r) same move.rule in
          let mine : p < n = omega (arith, e) in
          rw (e, move.changes.own_row, move.changes.own_entries) (each_moves (me n votes p) (s.entries p) many few mine (row_of s p) input r rule (each p mine))

      other : (a ≡ p → ⊥) → Each (me n votes a) (row_of s' a) (s'.entries a)
      other e = grind (arith, nat_tests)

  -- so that they hold at the end of every run
  pub each_run : (depth : ℕ) (calls : List Call) → AllEach n votes (after_all depth (new n votes) calls)
  each_run depth calls = (plain_run depth n votes few (AllEach n votes) each_new each_after calls).1
