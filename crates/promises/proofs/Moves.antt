-- What a call does to the floor: nothing, or one ledger moves.
use Rattle.std.proofs.Common.{◌≡◌, ℕ, ◌+◌, ◌-◌, ◌^◌, ◌<◌, ◌≤◌, min, Bool, true, false, cond, ◌&&◌, ◌||◌, eqb, ◌≢◌, ◌⊎◌, List, [], ◌∷◌, ◌++◌, length, drop, set, is_some, is_ok, Some, Ok, Err, Result, sym, refl, ap, ◌∙◌, inl, inr, ⊎_elim, arith}
use Rattle.std.proofs.Math.Path.{subst₂}
use Rattle.std.proofs.lemmas.List.{length-set, get_or-set_same, get_or-set_other}
use Rattle.std.proofs.Math.Bool.{or-false}
use Rattle.std.proofs.lemmas.List.Folds.{list_any-append}
use Rattle.std.proofs.lemmas.Bool.{and_parts, cases_eq, eq-eqb, eqb-true, ne_eqb, or_cases, or_right}
use Rattle.std.proofs.lemmas.Bool.Decides.{nat_tests}
use Rattle.std.specs.List.{list_any}
use Rattle.journals.specs.Calls.{Entries, append_answer}
use Rattle.journals.specs.Codes.{code_of}
use Rattle.journals.specs.declared.entry.Entry.TheVariants.{Begin as BegunEntry}
use Rattle.journals.specs.declared.fault.JournalsFault.{JournalsFault}
use Rattle.network.proofs.LinkFacts.{own_link}
use Rattle.network.specs.Links.{Links, look_answer, put_answer}
use Rattle.network.specs.declared.fault.NetworkFault.{NetworkFault}
use Rattle.network.specs.declared.message.Message.{Message}
use Rattle.network.specs.declared.message.Vote.{Vote}
use Rattle.rules.specs.Ledgers.{is_in}
use Rattle.rules.specs.Rules.{in_stage, on_expiry, on_message, on_step, quiet}
use Rattle.rules.specs.Stages.{held, initial}
use Rattle.rules.specs.declared.effect.Effect.{Effect}
use Rattle.rules.specs.declared.effect.Effect.TheVariants.{Nothing, Write, Send}
use Rattle.rules.specs.declared.effect.Response.{Response}
use Rattle.rules.specs.declared.row.Member.{Member}
use Rattle.rules.specs.declared.row.Row.{Row}
use Rattle.rules.specs.declared.stage.Stage.TheVariants.{Preparing}
use Rattle.rules.specs.declared.stage.Status.TheVariants.{Stopped, Restarted}
use Rattle.protocol.specs.Calls.{answered, do_after, do_answer, expiry_of, found_after, found_answer, looked_after, looked_answer, pair, respond, restart_of, without_first}
use Rattle.protocol.specs.Plans.{after_all, begin_of, call_after, met, recovered, step_of, stop_of}
use Rattle.protocol.specs.Perform.{from_journals, from_network, perform_after, perform_answer, performed}
use Rattle.protocol.specs.Recovery.{finding}
use Rattle.protocol.specs.Refusals.{check}
use Rattle.protocol.specs.State.{State, fresh, has, member_of, row_of, runs, stopped}
use Rattle.protocol.proofs.SameCalls.{begin_leaves, begin_same, step_leaves, step_same, stop_leaves, stop_same}
use Rattle.protocol.specs.declared.call.Answer.{Answer}
use Rattle.protocol.specs.declared.call.Answer.TheVariants.{Done}
use Rattle.protocol.specs.declared.call.Call.{Call}
use Rattle.protocol.specs.declared.call.Call.TheVariants.{Begin, Step, Deliver, Expire, Stop, Restart}
use Rattle.protocol.specs.declared.fault.FloorFault.{FloorFault}
use Rattle.protocol.specs.declared.fault.FloorRefusal.{FloorRefusal}
use Rattle.protocol.specs.declared.delivery.Delivery.{Delivery}
use Rattle.protocol.specs.declared.delivery.Delivery.TheVariants.{Delivered, Discarded}
use Rattle.protocol.specs.declared.fault.FloorFault.TheVariants.{Refused}
use Rattle.protocol.specs.declared.fault.FloorRefusal.TheVariants.{UnknownLedger}
use Rattle.protocol.specs.declared.recovery.Finding.{Finding}
use Rattle.protocol.specs.declared.recovery.Recovery.{Recovery}
use Rattle.promises.specs.Runs.{happened, new, taken}

-- what makes a ledger move; misses: what comes to one that does not run
pub data Input : Type 0 where
  begins : Input
  steps : Input
  hears : ℕ → Message → Input
  expires : ℕ → Input
  stops : Input
  restarts : Input
  misses : ℕ → Message → Input

-- what the ledger then does, with what must hold before
abbrev pub Rule : Member → Row → List ℕ → Input → Response → Type 0
Rule who row journal begins r =
    (runs row.status ≡ true)
    × (who.number ≡ 0)
    × (initial row.stage ≡ true)
    × (r ≡ record { row = in_stage row (Preparing 1); effect = Write BegunEntry })
Rule who row journal steps r = (runs row.status ≡ true) × (on_step who row ≡ Some r)
Rule who row journal (hears q m) r =
    (runs row.status ≡ true)
    × (q ≢ who.number)
    × (q < who.ledgers)
    × (r ≡ on_message who row q m (has 10 journal))
Rule who row journal (expires q) r =
    (runs row.status ≡ true)
    × (q ≢ who.number)
    × (q < who.ledgers)
    × (is_some (held row.stage) ≡ false)
    × ((eqb who.number 0 && initial row.stage) ≡ false)
    × (is_in row.noticed q ≡ false)
    × (r ≡ on_expiry who row q)
Rule who row journal stops r = (runs row.status ≡ true) × (r ≡ quiet (fresh Stopped))
Rule who row journal restarts r =
    (stopped row.status ≡ true) × (r ≡ record { row = fresh Restarted; effect = (finding journal).effect })
Rule who row journal (misses q m) r =
    (runs row.status ≡ false) × (q ≢ who.number) × (q < who.ledgers) × (r ≡ quiet row)

-- what the effect makes of the ledger's journal, of the link from a to b, and of the messages sent
abbrev pub written : Effect → List ℕ → List ℕ
written Nothing journal = journal
written (Write entry) journal = journal ++ (code_of entry ∷ [])
written (Send q message) journal = journal

abbrev pub gave : ℕ → Effect → ℕ → ℕ → List Message → List Message
gave p Nothing a b link = link
gave p (Write entry) a b link = link
gave p (Send q message) a b link = cond (eqb p a && eqb q b) (link ++ (message ∷ [])) link

abbrev pub total : Effect → ℕ → ℕ
total Nothing sent = sent
total (Write entry) sent = sent
total (Send q message) sent = min (sent + 1) (2 ^ 64 - 1)

-- what the input leaves of the link from a to b
abbrev pub took : ℕ → Input → ℕ → ℕ → List Message → List Message
took p begins a b link = link
took p steps a b link = link
took p (hears q m) a b link = cond (eqb q a && eqb p b) (drop 1 link) link
took p (expires q) a b link = link
took p stops a b link = link
took p restarts a b link = link
took p (misses q m) a b link = cond (eqb q a && eqb p b) (drop 1 link) link

-- the message that is heard or missed is the first of its link
abbrev pub First : State → ℕ → Input → Type 0
First s p begins = Unit {0}
First s p steps = Unit {0}
First s p (hears q m) = s.links q p ≡ m ∷ drop 1 (s.links q p)
First s p (expires q) = Unit {0}
First s p stops = Unit {0}
First s p restarts = Unit {0}
First s p (misses q m) = s.links q p ≡ m ∷ drop 1 (s.links q p)

-- the floor before and after p's move
pub record Changes (s : State) (p : ℕ) (input : Input) (r : Response) (s' : State) : Type 0 where
  pub same_ledgers : s'.ledgers ≡ s.ledgers
  pub same_votes : s'.votes ≡ s.votes
  pub same_length : length s'.rows ≡ length s.rows
  pub own_row : row_of s' p ≡ r.row
  pub other_row : (a : ℕ) → a ≢ p → row_of s' a ≡ row_of s a
  pub own_entries : s'.entries p ≡ written r.effect (s.entries p)
  pub other_entries : (a : ℕ) → a ≢ p → s'.entries a ≡ s.entries a
  pub link : (a b : ℕ) → s'.links a b ≡ took p input a b (gave p r.effect a b (s.links a b))
  pub sent_then : s'.sent ≡ total r.effect s.sent

-- p moves by its rule
pub record Move (s : State) (p : ℕ) (input : Input) (r : Response) (s' : State) : Type 0 where
  pub known_mover : p < s.ledgers
  pub rule : Rule (member_of s p) (row_of s p) (s.entries p) input r
  pub first : First s p input
  pub changes : Changes s p input r s'

-- which call makes which ledger move
abbrev pub Cause : Call → ℕ → Input → Type 0
Cause Begin p input = (p ≡ 0) × (input ≡ begins)
Cause (Step a) p input = (p ≡ a) × (input ≡ steps)
Cause (Deliver q a) p input = (p ≡ a) × ((m : Message) × ((input ≡ hears q m) ⊎ (input ≡ misses q m)))
Cause (Expire a q) p input = (p ≡ a) × (input ≡ expires q)
Cause (Stop a) p input = (p ≡ a) × (input ≡ stops)
Cause (Restart a) p input = (p ≡ a) × (input ≡ restarts)

-- a call is refused and changes nothing, or it is taken and one ledger moves
pub data Outcome (call : Call) (s s' : State) (answer : Bool) : Type 0 where
  refused : s' ≡ s → answer ≡ false → Outcome call s s' answer
  moved : (p : ℕ) (input : Input) (r : Response) → Cause call p input → Move s p input r s' → answer ≡ true → Outcome call s s' answer

-- an effect that is not refused
ok_journals : {A : Type 0} (x : Result A JournalsFault) → is_ok (from_journals x) ≡ is_ok x
ok_journals x = grind (arith, nat_tests)

ok_network : (x : Result Unit NetworkFault) → is_ok (from_network x) ≡ is_ok x
ok_network x = grind (arith, nat_tests)

module _ (depth : ℕ) (s : State) (p : ℕ) (long : p < length s.rows) (row : Row) where
  -- p's row is stored, and the rest comes to what its effect says
  stored : (effect : Effect) (links : Links) (entries : Entries) (sent : ℕ)
      → entries p ≡ written effect (s.entries p) → ((a : ℕ) → a ≢ p → entries a ≡ s.entries a)
      → ((a b : ℕ) → links a b ≡ gave p effect a b (s.links a b)) → sent ≡ total effect s.sent
      → Changes s p steps (record { row = row; effect = effect }) (record { ledgers = s.ledgers; votes = s.votes; rows = set s.rows p row; links = links; entries = entries; sent = sent })
  stored effect links entries sent own other link then = record {
    same_ledgers = refl;
    same_votes = refl;
    same_length = length-set s.rows p row;
    own_row = get_or-set_same s.rows p row _ long;
    other_row = λ a other. get_or-set_other s.rows p a row _ other;
    own_entries = own;
    other_entries = other;
    link = link;
    sent_then = then;
  }

  performs : (effect : Effect) → is_ok (perform_answer depth s p effect) ≡ true → Changes s p steps (record { row = row; effect = effect }) (performed depth s p row effect)
  performs Nothing ok = stored Nothing _ _ _ refl (λ a other. refl) (λ a b. refl) refl
  performs (Write entry) ok =
      let room = sym (ok_journals (append_answer s.entries p (code_of entry))) ∙ ok in
      stored (Write entry) _ _ _ (rw (room, eq-eqb p p refl)) (λ a other. rw (room, ne_eqb p a (λ e. other (sym e)))) (λ a b. refl) refl
  performs (Send q message) ok =
      let room = sym (ok_network (put_answer depth s.links p q)) ∙ ok in
      stored (Send q message) _ _ _ refl (λ a other. refl) (λ a b. rw room (sym (own_link s.links (λ link. link ++ (message ∷ [])) p q a b))) refl

-- the same change, made by an input that takes no message
by_input : (s : State) (p : ℕ) (input : Input) (r : Response) (s' : State) → ((a b : ℕ) (link : List Message) → took p input a b link ≡ link) → Changes s p steps r s' → Changes s p input r s'
by_input s p input r s' still c = grind (arith, nat_tests)

-- what p gives goes to another link than what comes to it
pub gave_away : (p : ℕ) (effect : Effect) (q : ℕ) (link : List Message) → q ≢ p → gave p effect q p link ≡ link
gave_away p effect q link other = grind (arith, nat_tests)

-- a message from q is taken besides
with_first : (s : State) (p : ℕ) (input : Input) (r : Response) (s' : State) (q : ℕ) → q ≢ p
    → is_ok (look_answer s.links q p) ≡ true
    → ((a b : ℕ) (link : List Message) → took p input a b link ≡ cond (eqb q a && eqb p b) (drop 1 link) link)
    → Changes s p steps r s' → Changes s p input r (without_first s' q p)
with_first s p input r s' q other there takes c = grind (arith, nat_tests)

pub ok_answered : {A : Type 0} (x : A) (y : Result Unit FloorFault) → is_ok (answered x y) ≡ is_ok y
ok_answered x y = grind (arith, nat_tests)

-- the effect of a response is refused, or it is performed
carries : (depth : ℕ) (s : State) (call : Call) (p : ℕ) (input : Input) (r : Response) (answer : Bool)
    → p < length s.rows → p < s.ledgers
    → Cause call p input → Rule (member_of s p) (row_of s p) (s.entries p) input r → First s p input
    → ((a b : ℕ) (link : List Message) → took p input a b link ≡ link)
    → answer ≡ is_ok (perform_answer depth s p r.effect)
    → Outcome call s (perform_after depth s p r.row r.effect) answer
carries depth s call p input r answer long mover cause rule first still is = by_answer (is_ok (perform_answer depth s p r.effect)) refl
  where
    by_answer : (ok : Bool) → is_ok (perform_answer depth s p r.effect) ≡ ok → Outcome call s (cond ok (performed depth s p r.row r.effect) s) answer
    by_answer true ok =
        moved p input r cause (record { known_mover = mover; rule = rule; first = first; changes = by_input s p input r _ still (performs depth s p long r.row r.effect ok) }) (is ∙ ok)
    by_answer false full = refused refl (is ∙ full)

module _ (depth : ℕ) (s : State) (long : s.ledgers ≤ length s.rows) where
  carry : (call : Call) (p q : ℕ) (input : Input) (found : Result Response FloorRefusal)
      → ((r : Response) → found ≡ Ok r → (p < s.ledgers) × Rule (member_of s p) (row_of s p) (s.entries p) input r)
      → Cause call p input → First s p input → ((a b : ℕ) (link : List Message) → took p input a b link ≡ link)
      → Outcome call s (do_after depth s p found) (is_ok (answered Done (do_answer depth s p q found)))
  carry call p q input (Ok r) rule cause first still =
      let here = rule r refl in
      carries depth s call p input r _ (omega (arith, here.0, long)) here.0 cause here.1 first still (ok_answered Done (perform_answer depth s p r.effect))
  carry call p q input (Err refusal) rule cause first still = refused refl refl

  -- what a call comes to, where it was answered so
  abbrev Came : Call → Result Unit FloorFault → State → Type 0
  Came call answer after = Outcome call s after (is_ok (answered {A = Answer} Done answer))

  pub begin_rule : (r : Response) → begin_of s ≡ Ok r → (0 < s.ledgers) × Rule (member_of s 0) (row_of s 0) (s.entries 0) begins r
  begin_rule r e = grind (arith, nat_tests)

  pub step_rule : (p : ℕ) (r : Response) → step_of s p ≡ Ok r → (p < s.ledgers) × Rule (member_of s p) (row_of s p) (s.entries p) steps r
  step_rule p r e = grind (arith, nat_tests)

  pub expiry_rule : (p q : ℕ) (r : Response) → expiry_of s p q ≡ Ok r → (p < s.ledgers) × Rule (member_of s p) (row_of s p) (s.entries p) (expires q) r
  expiry_rule p q r e = grind (arith, nat_tests)

  pub stop_rule : (p : ℕ) (r : Response) → stop_of s p ≡ Ok r → (p < s.ledgers) × Rule (member_of s p) (row_of s p) (s.entries p) stops r
  stop_rule p r e = grind (arith, nat_tests)

  pub restart_rule : (p : ℕ) (it : Finding) → restart_of s p ≡ Ok it → (p < s.ledgers) × Rule (member_of s p) (row_of s p) (s.entries p) restarts (record { row = fresh Restarted; effect = it.effect })
  restart_rule p it e = grind (arith, nat_tests)

  restart : (p : ℕ) (found : Result Finding FloorRefusal) → restart_of s p ≡ found → Outcome (Restart p) s (found_after depth s p found) (is_ok (recovered (found_answer depth s p found)))
  restart p (Ok it) e =
      let here = restart_rule p it e in
      carries depth s (Restart p) p restarts (record { row = fresh Restarted; effect = it.effect }) _ (omega (arith, here.0, long)) here.0 (refl, refl) here.1 tt (λ a b link. refl) (ok_found it.recovery (perform_answer depth s p it.effect))
    where
      ok_found : (x : Recovery) (y : Result Unit FloorFault) → is_ok (recovered (answered x y)) ≡ is_ok y
      ok_found x (Ok y) = refl
      ok_found x (Err fault) = refl
  restart p (Err refusal) e = refused refl refl

  module _ (q p : ℕ) where
    ok_met : (x : Result Delivery FloorFault) → is_ok (met x) ≡ is_ok x
    ok_met x = grind (arith, nat_tests)

    -- the pair is one of the floor's, and m the first message from q to p
    module _ (apart : pair s q p ≡ true) (m : Message) (there : look_answer s.links q p ≡ Ok m) where
      ends : (q < s.ledgers) × (p < s.ledgers) × (q ≢ p)
      ends = grind (arith, nat_tests)

      head_first : s.links q p ≡ m ∷ drop 1 (s.links q p)
      head_first = grind (arith, nat_tests)

      heard : (runs_now : runs (row_of s p).status ≡ true) (ok : Bool) → is_ok (perform_answer depth s p (respond s q p m).effect) ≡ ok
          → Outcome (Deliver q p) s (cond ok (without_first (perform_after depth s p (respond s q p m).row (respond s q p m).effect) q p) s) ok
      heard runs_now true ok =
          moved p (hears q m) (respond s q p m) (refl, (m, inl refl))
          (record {
            known_mover = ends.1;
            rule = (runs_now, ends.2, ends.0, refl);
            first = head_first;
            changes = with_first s p (hears q m) (respond s q p m) (perform_after depth s p (respond s q p m).row (respond s q p m).effect) q ends.2 (rw there) (λ a b link. refl) (rw ok (performs depth s p (omega (arith, ends.1, long)) (respond s q p m).row (respond s q p m).effect ok));
          })
          refl
      heard runs_now false full = refused refl refl

      missed : runs (row_of s p).status ≡ false → Outcome (Deliver q p) s (without_first s q p) true
      missed still =
          moved p (misses q m) (quiet (row_of s p)) (refl, (m, inr refl))
          (record {
            known_mover = ends.1;
            rule = (still, ends.2, ends.0, refl);
            first = head_first;
            changes = with_first s p (misses q m) (quiet (row_of s p)) s q ends.2 (rw there) (λ a b link. refl) (record {
              same_ledgers = refl;
              same_votes = refl;
              same_length = refl;
              own_row = refl;
              other_row = λ a other. refl;
              own_entries = refl;
              other_entries = λ a other. refl;
              link = λ a b. refl;
              sent_then = refl;
            });
          })
          refl

      delivers : (running : Bool) → runs (row_of s p).status ≡ running
          → Outcome (Deliver q p) s
          (cond (is_ok (cond running (answered Delivered (perform_answer depth s p (respond s q p m).effect)) (Ok Discarded)))
          (cond running (without_first (perform_after depth s p (respond s q p m).row (respond s q p m).effect) q p) (without_first s q p)) s)
          (is_ok (met (cond running (answered Delivered (perform_answer depth s p (respond s q p m).effect)) (Ok Discarded))))
      delivers true e = rw (ok_met (answered Delivered (perform_answer depth s p (respond s q p m).effect)), ok_answered Delivered (perform_answer depth s p (respond s q p m).effect)) (heard e _ refl)
      delivers false e = missed e

    looks : (found : Result Message NetworkFault) → look_answer s.links q p ≡ found → pair s q p ≡ true
        → Outcome (Deliver q p) s (cond (is_ok (looked_answer depth s q p found)) (looked_after depth s q p found) s) (is_ok (met (looked_answer depth s q p found)))
    looks (Ok m) e apart = delivers apart m e _ refl
    looks (Err fault) e apart = refused refl refl

    deliver : (apart : Bool) → pair s q p ≡ apart
        → Outcome (Deliver q p) s
        (cond (is_ok (check apart (Refused UnknownLedger q p) (looked_answer depth s q p (look_answer s.links q p)))) (looked_after depth s q p (look_answer s.links q p)) s)
        (is_ok (met (check apart (Refused UnknownLedger q p) (looked_answer depth s q p (look_answer s.links q p)))))
    deliver true e = looks _ refl e
    deliver false e = refused refl refl

  pub outcome : (call : Call) → Outcome call s (call_after depth s call) (taken depth s call)
  outcome Begin = subst₂ (Came Begin) (begin_same depth s) (begin_leaves depth s) (carry Begin 0 255 begins (begin_of s) begin_rule (refl, refl) tt (λ a b link. refl))
  outcome (Step p) = subst₂ (Came (Step p)) (step_same depth s p) (step_leaves depth s p) (carry (Step p) p 255 steps (step_of s p) (step_rule p) (refl, refl) tt (λ a b link. refl))
  outcome (Deliver q p) = deliver q p _ refl
  outcome (Expire p q) = carry (Expire p q) p q (expires q) (expiry_of s p q) (expiry_rule p q) (refl, refl) tt (λ a b link. refl)
  outcome (Stop p) = subst₂ (Came (Stop p)) (stop_same depth s p) (stop_leaves depth s p) (carry (Stop p) p 255 stops (stop_of s p) (stop_rule p) (refl, refl) tt (λ a b link. refl))
  outcome (Restart p) = restart p _ refl

-- the table and the votes stay
pub record Sound (n : ℕ) (votes : List Vote) (s : State) : Type 0 where
  pub ledgers_are : s.ledgers ≡ n
  pub votes_are : s.votes ≡ votes
  pub rows_are : length s.rows ≡ 8

or_false : (b : Bool) → (b || false) ≡ b
or_false b = grind (arith, nat_tests)

or_assoc : (a b c : Bool) → (a || (b || c)) ≡ ((a || b) || c)
or_assoc a b c = grind (arith, nat_tests)

-- what a history of calls keeps; the Bool says whether the event has happened
module _ (depth n : ℕ) (votes : List Vote) (few : n ≤ 8) (event : ℕ → State → Call → Bool) (I : Bool → State → Type 0)
    (no_event : (s : State) (call : Call) → call_after depth s call ≡ s → taken depth s call ≡ false → event depth s call ≡ false)
    (step : (happens : Bool) (s : State) (call : Call) (p : ℕ) (input : Input) (r : Response) → Sound n votes s → Cause call p input → Move s p input r (call_after depth s call) → taken depth s call ≡ true → I happens s → I (happens || event depth s call) (call_after depth s call)) where
  one_call : (happens : Bool) (s : State) (call : Call) → Sound n votes s → I happens s → Sound n votes (call_after depth s call) × I (happens || event depth s call) (call_after depth s call)
  one_call happens s call sound holds = by_outcome (outcome depth s (omega (arith, sound.ledgers_are, sound.rows_are)) call)
    where
      by_outcome : Outcome call s (call_after depth s call) (taken depth s call) → Sound n votes (call_after depth s call) × I (happens || event depth s call) (call_after depth s call)
      by_outcome it = grind (arith, nat_tests)

  along : (calls : List Call) (happens : Bool) (s : State) → Sound n votes s → I happens s → Sound n votes (after_all depth s calls) × I (happens || happened event depth s calls) (after_all depth s calls)
  along [] happens s sound holds = rw (or_false happens) (sound, holds)
  along (call ∷ calls) happens s sound holds =
      let next = one_call happens s call sound holds in
      rw (or_assoc happens (event depth s call) (happened event depth (call_after depth s call) calls)) (along calls (happens || event depth s call) (call_after depth s call) next.0 next.1)

  -- what holds of a new floor and is kept by every move holds at the end of every run
  pub every_run : I false (new n votes) → (calls : List Call) → Sound n votes (after_all depth (new n votes) calls) × I (happened event depth (new n votes) calls) (after_all depth (new n votes) calls)
  every_run start calls = along calls false (new n votes) (record { ledgers_are = refl; votes_are = refl; rows_are = refl }) start

-- the same where no history is told
pub plain_run : (depth n : ℕ) (votes : List Vote) → n ≤ 8 → (I : State → Type 0) → I (new n votes)
    → ((s s' : State) (p : ℕ) (input : Input) (r : Response) → Sound n votes s → Move s p input r s' → I s → I s')
    → (calls : List Call) → Sound n votes (after_all depth (new n votes) calls) × I (after_all depth (new n votes) calls)
plain_run depth n votes few I start step calls =
    every_run depth n votes few (λ depth s call. false) (λ happens s. I s) (λ s call same answer. refl) (λ happens s call p input r sound cause move answer holds. step s (call_after depth s call) p input r sound move holds) start calls

-- what p gives to b, and what its input takes from a
abbrev pub gives : (Message → Bool) → Effect → ℕ → Bool
gives test Nothing b = false
gives test (Write entry) b = false
gives test (Send q m) b = eqb q b && test m

abbrev pub takes : (Message → Bool) → Input → ℕ → Bool
takes test begins a = false
takes test steps a = false
takes test (hears q m) a = eqb q a && test m
takes test (expires q) a = false
takes test stops a = false
takes test restarts a = false
takes test (misses q m) a = eqb q a && test m

pub any_snoc : (test : Message → Bool) (link : List Message) (m : Message) → list_any test (link ++ (m ∷ [])) ≡ (list_any test link || test m)
any_snoc test link m = list_any-append test link (m ∷ []) ∙ ap (λ b. list_any test link || b) (or-false (test m))

pub has_snoc : (c : ℕ) (journal : List ℕ) (d : ℕ) → has c (journal ++ (d ∷ [])) ≡ (has c journal || eqb d c)
has_snoc c [] d = grind arith
has_snoc c (x ∷ xs) d = let more = has_snoc c xs d in grind arith

abbrev pub Heads : ℕ → Input → ℕ → ℕ → List Message → Type 0
Heads p begins a b link = Unit {0}
Heads p steps a b link = Unit {0}
Heads p (hears q m) a b link = a ≡ q → b ≡ p → link ≡ m ∷ drop 1 link
Heads p (expires q) a b link = Unit {0}
Heads p stops a b link = Unit {0}
Heads p restarts a b link = Unit {0}
Heads p (misses q m) a b link = a ≡ q → b ≡ p → link ≡ m ∷ drop 1 link

-- one link, whichever it is
module _ (test : Message → Bool) where
  gave_any : (p : ℕ) (effect : Effect) (a b : ℕ) (link : List Message) → list_any test (gave p effect a b link) ≡ (list_any test link || (eqb p a && gives test effect b))
  gave_any p Nothing a b link = grind (arith, nat_tests)
  gave_any p (Write entry) a b link = grind (arith, nat_tests)
  gave_any p (Send q m) a b link = grind (arith, nat_tests, any_snoc test link m)

  took_any : (p : ℕ) (input : Input) (a b : ℕ) (link : List Message) → list_any test (took p input a b link) ≡ true → list_any test link ≡ true
  took_any p input a b link e = grind (arith, nat_tests)

  left_any : (p : ℕ) (input : Input) (a b : ℕ) (link : List Message) → Heads p input a b link → list_any test link ≡ true → (list_any test (took p input a b link) || (eqb p b && takes test input a)) ≡ true
  left_any p input a b link first e = grind (arith, nat_tests)

-- what comes to p is another link than what p gives to
heads : (s : State) (p : ℕ) (input : Input) (r : Response) (a b : ℕ) → Rule (member_of s p) (row_of s p) (s.entries p) input r → First s p input → Heads p input a b (gave p r.effect a b (s.links a b))
heads s p input r a b rule first = grind (arith, nat_tests)

took_away : (who : Member) (row : Row) (journal : List ℕ) (input : Input) (r : Response) (b : ℕ) (link : List Message) → Rule who row journal input r → took who.number input who.number b link ≡ link
took_away who row journal input r b link rule = grind (arith, nat_tests)

-- what a move makes of links
module _ (s : State) (p : ℕ) (input : Input) (r : Response) (s' : State) (move : Move s p input r s') (test : Message → Bool) where
  -- a message on its way was there before, or is given by p now
  pub there_before : (a b : ℕ) → list_any test (s'.links a b) ≡ true → (list_any test (s.links a b) ≡ true) ⊎ ((a ≡ p) × (gives test r.effect b ≡ true))
  there_before a b e =
      let before = took_any test p input a b (gave p r.effect a b (s.links a b)) (rw (move.changes.link a b) at e) in
      ⊎_elim (λ old. inl old) (λ new. let parts = and_parts (eqb p a) (gives test r.effect b) new in inr (sym (eqb-true p a parts.0), parts.1))
      (or_cases (list_any test (s.links a b)) (eqb p a && gives test r.effect b) (rw gave_any at before))

  -- a message is still on its way, or p takes it now
  pub still_there : (a b : ℕ) → list_any test (s.links a b) ≡ true → (list_any test (s'.links a b) ≡ true) ⊎ ((b ≡ p) × (takes test input a ≡ true))
  still_there a b e =
      let now : list_any test (gave p r.effect a b (s.links a b)) ≡ true = rw gave_any (rw e refl) in
      let left = left_any test p input a b (gave p r.effect a b (s.links a b)) (heads s p input r a b move.rule move.first) now in
      ⊎_elim (λ still. inl (rw (move.changes.link a b) still)) (λ gone. let parts = and_parts (eqb p b) (takes test input a) gone in inr (sym (eqb-true p b parts.0), parts.1))
      (or_cases (list_any test (took p input a b (gave p r.effect a b (s.links a b)))) (eqb p b && takes test input a) left)

  -- what p gives is on its way
  pub given_there : (b : ℕ) → gives test r.effect b ≡ true → list_any test (s'.links p b) ≡ true
  given_there b e =
      rw (move.changes.link p b, took_away (member_of s p) (row_of s p) (s.entries p) input r b (gave p r.effect p b (s.links p b)) move.rule, gave_any, eq-eqb p p refl, e) (or_right (list_any test (s.links p b)) true refl)

  -- what p takes was on its way
  pub taken_there : (a : ℕ) → takes test input a ≡ true → list_any test (s.links a p) ≡ true
  taken_there a e = grind (arith, nat_tests)

-- a code once written stays
pub has_written : (c : ℕ) (effect : Effect) (journal : List ℕ) → has c journal ≡ true → has c (written effect journal) ≡ true
has_written c Nothing journal e = e
has_written c (Write entry) journal e = rw (has_snoc c journal (code_of entry), e)
has_written c (Send q m) journal e = e

-- what a move makes of each ledger
module _ (s : State) (p : ℕ) (input : Input) (r : Response) (s' : State) (move : Move s p input r s') where
  pub has_still : (c a : ℕ) → has c (s.entries a) ≡ true → has c (s'.entries a) ≡ true
  has_still c a e =
      ⊎_elim (λ (own : a ≡ p). rw (own, move.changes.own_entries) (has_written c r.effect (s.entries p) (rw own at e)))
      (λ other. rw (move.changes.other_entries a other) e) (cases_eq a p)
