-- Every call is lawful, whatever it is and whatever the state.
use Rattle.std.proofs.Common.{◌≡◌, ℕ, Bool, true, false, cond, not, ◌&&◌, eqb, ◌≢◌, List, [], ◌∷◌, ◌++◌, drop, is_some, IfSome, is_ok, is_err, IfOk, None, Ok, Err, Option, Result, refl, ap, ◌∙◌, subst, arith}
use Rattle.std.proofs.Math.Path.{subst₂}
use Rattle.std.proofs.lemmas.Bool.{and_parts}
use Rattle.std.proofs.lemmas.Bool.Decides.{nat_tests}
use Rattle.std.specs.Option.{ok_or}
use Rattle.network.specs.Links.{Links, look_answer, take_after, with_link}
use Rattle.network.specs.declared.fault.NetworkFault.{NetworkFault}
use Rattle.network.specs.declared.message.Decision.{Decision}
use Rattle.network.specs.declared.message.Message.{Message}
use Rattle.rules.specs.Ledgers.{is_in}
use Rattle.rules.specs.Stages.{held, initial}
use Rattle.rules.specs.declared.effect.Response.{Response}
use Rattle.rules.specs.declared.stage.Status.TheVariants.{Restarted}
use Rattle.protocol.specs.Calls.{answered, begin_answer, do_after, do_answer, deliver_after, deliver_answer, expire_answer, expiry_of, found_after, found_answer, looked_after, looked_answer, pair, respond, restart_answer, restart_of, step_answer, stop_answer, waits, without_first}
use Rattle.protocol.specs.Plans.{begin_of, call_after, call_answer, met, plan_of_running, recovered, step_of, stop_of}
use Rattle.protocol.specs.Laws.{Lawful, LawfulCall, Steady, less_first, onto}
use Rattle.protocol.specs.Perform.{perform_after, perform_answer}
use Rattle.protocol.specs.Refusals.{check}
use Rattle.protocol.specs.State.{State, fresh, has, known, member_of, row_of, runs}
use Rattle.protocol.specs.declared.call.Answer.TheVariants.{Done}
use Rattle.protocol.specs.declared.call.Call.{Call}
use Rattle.protocol.specs.declared.call.Call.TheVariants.{Begin, Step, Deliver, Expire, Stop, Restart}
use Rattle.protocol.specs.declared.delivery.Delivery.{Delivery}
use Rattle.protocol.specs.declared.delivery.Delivery.TheVariants.{Delivered, Discarded}
use Rattle.protocol.specs.declared.fault.FloorFault.{FloorFault}
use Rattle.protocol.specs.declared.fault.FloorFault.TheVariants.{Refused}
use Rattle.protocol.specs.declared.fault.FloorRefusal.{FloorRefusal}
use Rattle.protocol.specs.declared.fault.FloorRefusal.TheVariants.{UnknownLedger, NotRunning, Begun, Idle, NotWaiting, Noticed}
use Rattle.protocol.specs.declared.recovery.Finding.{Finding}
use Rattle.protocol.specs.declared.recovery.Recovery.{Recovery}
use Rattle.protocol.proofs.Lawful.{performs, unchanged}
use Rattle.protocol.proofs.SameCalls.{begin_leaves, begin_same, step_leaves, step_same, stop_leaves, stop_same}
use Rattle.protocol.proofs.SteadyRows.{expiry_status, initial_undecided, message_steady, out_steady, step_steady, undecided_steady}

-- what p sends goes onto no link of another
not_onto : (p a b : ℕ) (sent : List (ℕ × Message)) → a ≢ p → onto p sent a b ≡ []
not_onto p a b [] other = refl
not_onto p a b (x ∷ xs) other = let rest = not_onto p a b xs other in grind (arith, nat_tests)

-- a take, told of every pair
taken_there : (L : Links) (q p a b : ℕ) → take_after L q p a b ≡ less_first (is_ok (look_answer L q p) && (eqb q a && eqb p b)) (L a b)
taken_there L q p a b = by_test (is_ok (look_answer L q p))
  where
    by_test : (found : Bool) → cond found (with_link L q p (drop 1 (L q p))) L a b ≡ less_first (found && (eqb q a && eqb p b)) (L a b)
    by_test found = grind (arith, nat_tests)

-- where something is gone from the front, nothing came behind
less_then_more : (gone : Bool) (xs ys : List Message) → (gone ≡ true → ys ≡ []) → less_first gone (xs ++ ys) ≡ less_first gone xs ++ ys
less_then_more gone xs ys none = grind (arith, nat_tests)

not_taken : (took : Bool) (list : List Message) → less_first (took && false) list ≡ list
not_taken took list = grind (arith, nat_tests)

-- after what p did, the first message from q is gone
then_taken : (s t : State) (q p : ℕ) (refused : Bool) → q ≢ p → Lawful p (λ a b. false) refused s t → Lawful p (λ a b. eqb q a && eqb p b) false s (without_first t q p)
then_taken s t q p refused differ law = record {
  refusal = λ wrong. grind arith;
  members = law.members;
  rows = law.rows;
  journals = law.journals;
  grows = law.grows;
  exchange = record {
    took = is_ok (look_answer t.links q p);
    sent = law.exchange.sent;
    one = law.exchange.one;
    links = links;
    total = law.exchange.total;
  };
  steady = law.steady;
}
  where
    links : (a b : ℕ) → take_after t.links q p a b ≡ less_first (is_ok (look_answer t.links q p) && (eqb q a && eqb p b)) (s.links a b) ++ onto p law.exchange.sent a b
    links a b =
        let found = is_ok (look_answer t.links q p) in
        let more = onto p law.exchange.sent a b in
        let before : t.links a b ≡ s.links a b ++ more = law.exchange.links a b ∙ ap (λ list. list ++ more) (not_taken law.exchange.took (s.links a b)) in
        taken_there t.links q p a b ∙ ap (less_first (found && (eqb q a && eqb p b))) before
        ∙ less_then_more (found && (eqb q a && eqb p b)) (s.links a b) more (λ gone. not_onto p a b law.exchange.sent (λ same. grind (arith, nat_tests)))

made_check : {A E : Type 0} (P : A → Type 0) (test : Bool) (refusal : E) (rest : Result A E) → (test ≡ true → IfOk rest P) → IfOk (check test refusal rest) P
made_check P test refusal rest then = grind (arith, nat_tests)

made_found : {A E : Type 0} (P : A → Type 0) (found : Option A) (refusal : E) → IfSome found P → IfOk (ok_or found refusal) P
made_found P found refusal here = grind (arith, nat_tests)

module _ (s : State) (p : ℕ) where
  -- what p found to do leaves its row steady
  abbrev Steadily : Response → Type 0
  Steadily response = Steady (row_of s p) response.row

  if_running_steady : (rest : Result Response FloorRefusal) → IfOk rest Steadily → IfOk (plan_of_running s p rest) Steadily
  if_running_steady rest here =
      made_check Steadily (known s p) UnknownLedger _
      (λ _. made_check Steadily (runs (row_of s p).status) NotRunning rest (λ _. here))

  step_of_steady : IfOk (step_of s p) Steadily
  step_of_steady = if_running_steady _ (made_found Steadily _ Idle (step_steady (member_of s p) (row_of s p)))

  stop_of_steady : IfOk (stop_of s p) Steadily
  stop_of_steady = if_running_steady _ (out_steady (row_of s p) _ refl)

  expiry_of_steady : (q : ℕ) → IfOk (expiry_of s p q) Steadily
  expiry_of_steady q =
      let row = row_of s p in
      made_check Steadily (pair s p q) UnknownLedger _
      (λ _. made_check Steadily (runs row.status) NotRunning _
      (λ _. made_check Steadily (waits s p) NotWaiting _
      (λ waiting. made_check Steadily (not (is_in row.noticed q)) Noticed _
      (λ _. undecided_steady row _ (unheld (held row.stage) (and_parts (not (is_some (held row.stage))) (not (eqb p 0 && initial row.stage)) waiting).0) (expiry_status (member_of s p) row q)))))
    where
      unheld : (own : Option Decision) → not (is_some own) ≡ true → own ≡ None
      unheld own e = grind (arith, nat_tests)

begin_of_steady : (s : State) → IfOk (begin_of s) (Steadily s 0)
begin_of_steady s =
    if_running_steady s 0 _
    (made_check (Steadily s 0) (initial (row_of s 0).stage) Begun _ (λ test. undecided_steady (row_of s 0) _ (initial_undecided (row_of s 0).stage test) refl))

answered_err : {A : Type 0} (x : A) (answer : Result Unit FloorFault) → is_err answer ≡ is_err (answered x answer)
answered_err x answer = grind (arith, nat_tests)

met_err : (answer : Result Delivery FloorFault) → is_err answer ≡ is_err (met answer)
met_err answer = grind (arith, nat_tests)

recovered_err : (answer : Result Recovery FloorFault) → is_err answer ≡ is_err (recovered answer)
recovered_err answer = grind (arith, nat_tests)

module _ (depth : ℕ) (s : State) where
  carried : (p q : ℕ) (named : ℕ → ℕ → Bool) (plan : Result Response FloorRefusal) → IfOk plan (Steadily s p) → Lawful p named (is_err (do_answer depth s p q plan)) s (do_after depth s p plan)
  carried p q named (Ok response) steady = performs s p response.row steady named depth response.effect
  carried p q named (Err refusal) steady = unchanged p named true s

  restarted : (p : ℕ) (named : ℕ → ℕ → Bool) (plan : Result Finding FloorRefusal) → Lawful p named (is_err (found_answer depth s p plan)) s (found_after depth s p plan)
  restarted p named (Ok it) =
      subst (λ refused. Lawful p named refused s (perform_after depth s p (fresh Restarted) it.effect)) (answered_err it.recovery (perform_answer depth s p it.effect))
      (performs s p (fresh Restarted) (out_steady (row_of s p) _ refl) named depth it.effect)
  restarted p named (Err refusal) = unchanged p named true s

  module _ (q p : ℕ) where
    abbrev link : ℕ → ℕ → Bool
    link a b = eqb q a && eqb p b

    module _ (differ : q ≢ p) where
      by_answer : (answer : Result Unit FloorFault) (t : State) → Lawful p (λ a b. false) (is_err answer) s t → Lawful p link (is_err (answered Delivered answer)) s (cond (is_ok (answered Delivered answer)) (without_first t q p) s)
      by_answer (Ok x) t law = then_taken s t q p false differ law
      by_answer (Err fault) t law = unchanged p link true s

      by_status : (message : Message) (running : Bool) → Lawful p link (is_err (cond running (answered Delivered (perform_answer depth s p (respond s q p message).effect)) (Ok Discarded))) s (cond (is_ok (cond running (answered Delivered (perform_answer depth s p (respond s q p message).effect)) (Ok Discarded))) (cond running (without_first (perform_after depth s p (respond s q p message).row (respond s q p message).effect) q p) (without_first s q p)) s)
      by_status message true =
          let response = respond s q p message in
          let steady = message_steady (member_of s p) (row_of s p) q message (has 10 (s.entries p)) in
          by_answer (perform_answer depth s p response.effect) _ (performs s p response.row steady (λ a b. false) depth response.effect)
      by_status message false = then_taken s s q p false differ (unchanged p (λ a b. false) false s)

      by_look : (look : Result Message NetworkFault) → Lawful p link (is_err (looked_answer depth s q p look)) s (cond (is_ok (looked_answer depth s q p look)) (looked_after depth s q p look) s)
      by_look (Ok message) = by_status message (runs (row_of s p).status)
      by_look (Err fault) = unchanged p link true s

    by_pair : (named : Bool) → pair s q p ≡ named → Lawful p link (is_err (check named (Refused UnknownLedger q p) (looked_answer depth s q p (look_answer s.links q p)))) s (cond (is_ok (check named (Refused UnknownLedger q p) (looked_answer depth s q p (look_answer s.links q p)))) (looked_after depth s q p (look_answer s.links q p)) s)
    by_pair true both = by_look (λ same. grind (arith, nat_tests)) (look_answer s.links q p)
    by_pair false neither = unchanged p link true s

    delivered : Lawful p link (is_err (deliver_answer depth s q p)) s (deliver_after depth s q p)
    delivered = by_pair (pair s q p) refl

  -- the answer of any call is refused where that of the single one is
  told : {p : ℕ} {named : ℕ → ℕ → Bool} {t : State} {one other : Bool} → one ≡ other → Lawful p named one s t → Lawful p named other s t
  told {p} {named} {t} e law = subst (λ refused. Lawful p named refused s t) e law

  -- what p did, where the call answered that
  abbrev Did : ℕ → (ℕ → ℕ → Bool) → Result Unit FloorFault → State → Type 0
  Did p named answer after = Lawful p named (is_err answer) s after

  pub lawful : (call : Call) → LawfulCall call (is_err (call_answer depth s call)) s (call_after depth s call)
  lawful Begin = told (answered_err Done (begin_answer depth s)) (subst₂ (Did 0 _) (begin_same depth s) (begin_leaves depth s) (carried 0 255 _ (begin_of s) (begin_of_steady s)))
  lawful (Step p) = told (answered_err Done (step_answer depth s p)) (subst₂ (Did p _) (step_same depth s p) (step_leaves depth s p) (carried p 255 _ (step_of s p) (step_of_steady s p)))
  lawful (Deliver q p) = told (met_err (deliver_answer depth s q p)) (delivered q p)
  lawful (Expire p q) = told (answered_err Done (expire_answer depth s p q)) (carried p q _ (expiry_of s p q) (expiry_of_steady s p q))
  lawful (Stop p) = told (answered_err Done (stop_answer s p)) (subst₂ (Did p _) (stop_same depth s p) (stop_leaves depth s p) (carried p 255 _ (stop_of s p) (stop_of_steady s p)))
  lawful (Restart p) = told (recovered_err (restart_answer depth s p)) (restarted p _ (restart_of s p))
