-- A floor that is not at rest would take a step, a delivery or an on-time expiry.
use Rattle.std.proofs.Common.{◌≡◌, ℕ, ◌<◌, ◌≤◌, Bool, true, false, not, ◌&&◌, eqb, ◌≢◌, ◌⊎◌, List, [], ◌∷◌, length, drop, is_ok, is_err, Ok, Err, Result, sym, refl, ap, ◌∙◌, subst, inl, inr, ⊎_elim, arith}
use Rattle.std.proofs.lemmas.Bool.{and_cases, both_ways, cases_lt, lt-ltb, not-false, or_parts, true≢false}
use Rattle.std.proofs.lemmas.Bool.Decides.{nat_tests}
use Rattle.std.specs.List.{list_any}
use Rattle.journals.specs.CodeFacts.{coded}
use Rattle.network.specs.Links.{Links, is_link, look_answer}
use Rattle.network.specs.declared.fault.NetworkFault.{NetworkFault}
use Rattle.network.specs.declared.message.Message.{Message}
use Rattle.network.specs.declared.message.Message.TheVariants.{Prepare, Vote as Voted, Order, Ask, Reply}
use Rattle.network.specs.declared.message.Vote.{Vote}
use Rattle.rules.specs.Rules.{on_message}
use Rattle.rules.specs.declared.effect.Effect.{Effect}
use Rattle.rules.specs.declared.effect.Effect.TheVariants.{Nothing, Write, Send}
use Rattle.rules.specs.declared.effect.Response.{Response}
use Rattle.rules.specs.declared.row.Member.{Member}
use Rattle.rules.specs.declared.row.Row.{Row}
use Rattle.protocol.specs.Bounded.{all_below}
use Rattle.protocol.specs.Calls.{answered, do_answer, expiry_of, looked_answer, pair, respond}
use Rattle.protocol.specs.Plans.{after_all, met, step_of}
use Rattle.protocol.specs.Perform.{perform_answer}
use Rattle.protocol.specs.Refusals.{check}
use Rattle.protocol.specs.Rest.{all_clear, at_rest, clear, clear_from, idle, on_time, patient, unmissed}
use Rattle.protocol.specs.State.{State, has, member_of, row_of, runs}
use Rattle.protocol.proofs.SameCalls.{step_same}
use Rattle.protocol.specs.declared.call.Answer.{Answer}
use Rattle.protocol.specs.declared.call.Answer.TheVariants.{Done}
use Rattle.protocol.specs.declared.call.Call.{Call}
use Rattle.protocol.specs.declared.call.Call.TheVariants.{Step, Deliver, Expire}
use Rattle.protocol.specs.declared.fault.FloorFault.{FloorFault}
use Rattle.protocol.specs.declared.fault.FloorFault.TheVariants.{Refused}
use Rattle.protocol.specs.declared.fault.FloorRefusal.TheVariants.{UnknownLedger as NoLedger}
use Rattle.protocol.specs.declared.fault.FloorRefusal.{FloorRefusal}
use Rattle.promises.specs.Promises.{Progress}
use Rattle.promises.specs.Runs.{new, taken}
use Rattle.promises.proofs.Between.{Turn, sound_run, turns, was_there}
use Rattle.promises.proofs.Each.{AllEach, each_run, me}
use Rattle.promises.proofs.Limits.{few_entries}
use Rattle.promises.proofs.Moves.{Input, Rule, Sound, expires, expiry_rule, gives, ok_answered, step_rule, steps}
use Rattle.promises.proofs.Quiet.{some_below, all_empty, link_between}
use Rattle.promises.proofs.Spending.{Aimed, Spends, is_ask, one, sent_by, spends_moves, spent}

abbrev asking : Message → Bool
asking m = eqb (is_ask m) 1

-- Asks go upwards
abbrev pub Upwards : State → Type 0
Upwards s = (a b : ℕ) → list_any asking (s.links a b) ≡ true → a < b

given_upwards : (n p b : ℕ) (effect : Effect) → Aimed n p effect → gives asking effect b ≡ true → p < b
given_upwards n p b effect aimed e = grind (arith, nat_tests)

upwards_then : (n : ℕ) (votes : List Vote) (s s' : State) (p : ℕ) (input : Input) (r : Response) → Turn n votes s s' p input r → Upwards s → Upwards s'
upwards_then n votes s s' p input r t before a b there =
    ⊎_elim (λ old. before a b old)
    (λ new. let up = given_upwards n p b r.effect (spent t).aimed new.1 in omega (arith, new.0))
    (was_there t asking a b there)

-- only an Ask is answered by a message
silent : (who : Member) (row : Row) (q : ℕ) (m : Message) (disputed : Bool) → asking m ≡ false → sent_by one (on_message who row q m disputed).effect ≡ 0
silent who row q m disputed e = grind (arith, nat_tests)

first_there : (links : Links) (q p : ℕ) (m : Message) → look_answer links q p ≡ Ok m → (is_link q p ≡ true) × (links q p ≡ m ∷ drop 1 (links q p))
first_there links q p m e = grind (arith, nat_tests)

look_first : (links : Links) (q p : ℕ) (m : Message) (rest : List Message) → is_link q p ≡ true → links q p ≡ m ∷ rest → look_answer links q p ≡ Ok m
look_first links q p m rest link e = grind (arith, nat_tests)

apart : (q p : ℕ) → is_link q p ≡ true → (q < 8) × (p < 8) × (q ≢ p)
unfolding is_link
apart q p link = grind (arith, nat_tests)

-- a message finds room on its link
abbrev Roomy : ℕ → Links → ℕ → Effect → Type 0
Roomy depth links p Nothing = Unit {0}
Roomy depth links p (Write entry) = Unit {0}
Roomy depth links p (Send q m) = length (links p q) < depth

nothing_sent : (depth n : ℕ) (links : Links) (p : ℕ) (effect : Effect) → sent_by one effect ≡ 0 → Aimed n p effect × Roomy depth links p effect
nothing_sent depth n links p effect none = grind (arith, nat_tests)

module _ (depth n : ℕ) (deep : 1 ≤ depth) (votes : List Vote) (many : 2 ≤ n) (few : n ≤ 8) (s : State) (sound : Sound n votes s) (each : AllEach n votes s) (upwards : Upwards s) where
  performs : (p : ℕ) (effect : Effect) → p < n → Aimed n p effect → Roomy depth s.links p effect → is_ok (perform_answer depth s p effect) ≡ true
  performs p Nothing known aimed room = refl
  performs p (Write entry) known aimed room = grind (arith, nat_tests, coded entry, (each p known).room, few_entries (row_of s p).status)
  performs p (Send q m) known aimed room = rw (link_between p q (omega arith) (omega arith) (λ e. aimed.1 (sym e)), lt-ltb (length (s.links p q)) depth room)

  spending : (p : ℕ) (input : Input) (r : Response) → p < n → Rule (member_of s p) (row_of s p) (s.entries p) input r → Spends n p (row_of s p) input r
  spending p input r known rule =
      let same : member_of s p ≡ me n votes p = cc in
      spends_moves (me n votes p) many few known (row_of s p) (s.entries p) input r (subst (λ (who : Member). Rule who (row_of s p) (s.entries p) input r) same rule) (each p known)

  long : s.ledgers ≤ length s.rows
  long = omega (arith, sound.ledgers_are, sound.rows_are)

  -- with nothing on its way, there is room
  roomy : all_clear s ≡ true → (p : ℕ) (effect : Effect) → p < n → Aimed n p effect → Roomy depth s.links p effect
  roomy none p Nothing known aimed = tt
  roomy none p (Write entry) known aimed = tt
  roomy none p (Send q m) known aimed = omega (arith, ap length (all_empty s n sound.ledgers_are few none p q known aimed.0 (λ e. aimed.1 (sym e))))

  carried : all_clear s ≡ true → (p q : ℕ) (input : Input) (found : Result Response FloorRefusal) → is_err found ≡ false → ((r : Response) → found ≡ Ok r → (p < s.ledgers) × Rule (member_of s p) (row_of s p) (s.entries p) input r) → is_ok (answered Done (do_answer depth s p q found)) ≡ true
  carried none p q input (Ok r) found rule =
      let here = rule r refl in
      let known : p < n = omega (arith, here.0, sound.ledgers_are) in
      ok_answered Done (perform_answer depth s p r.effect)
      ∙ (let aimed = (spending p input r known here.1).aimed in performs p r.effect known aimed (roomy none p r.effect known aimed))
  carried none p q input (Err refusal) found rule = absurd (true≢false found)

  gets : (q p : ℕ) (m : Message) → q < n → p < n → look_answer s.links q p ≡ Ok m → (runs (row_of s p).status ≡ true → is_ok (perform_answer depth s p (respond s q p m).effect) ≡ true) → taken depth s (Deliver q p) ≡ true
  gets q p m q<n p<n there performed = by_look (pair s q p) two (look_answer s.links q p) there
    where
      two : pair s q p ≡ true
      two = let ends = apart q p (first_there s.links q p m there).0 in grind (arith, nat_tests, sound.ledgers_are)

      by_look : (both : Bool) → both ≡ true → (found : Result Message NetworkFault) → found ≡ Ok m → is_ok (met (check both (Refused NoLedger q p) (looked_answer depth s q p found))) ≡ true
      by_look both e found f = grind (arith, nat_tests)

  silent_taken : (q p : ℕ) (m : Message) → q < n → p < n → look_answer s.links q p ≡ Ok m → asking m ≡ false → taken depth s (Deliver q p) ≡ true
  silent_taken q p m q<n p<n there not_asked =
      gets q p m q<n p<n there
      (λ _. let none = nothing_sent depth n s.links p (respond s q p m).effect (silent (member_of s p) (row_of s p) q m (has 10 (s.entries p)) not_asked) in performs p (respond s q p m).effect p<n none.0 none.1)

  abbrev DeliveryTaken : Type 0
  DeliveryTaken = (a : ℕ) × ((b : ℕ) × (taken depth s (Deliver a b) ≡ true))

  -- an Ask whose way back is full: the first on the way back is none, and can be delivered
  way_back : (q p : ℕ) → q < n → p < n → q ≢ p → q < p → depth ≤ length (s.links p q) → DeliveryTaken
  way_back q p q<n p<n other up full = by_list (s.links p q) refl
    where
      by_list : (list : List Message) → s.links p q ≡ list → DeliveryTaken
      by_list [] e = absurd (omega (arith, ap length e))
      by_list (m ∷ rest) e = (p, (q, silent_taken p q m p<n q<n (look_first s.links p q m rest (link_between p q (omega arith) (omega arith) (λ same. other (sym same))) e) (not_asked (asking m) refl)))
        where
          not_asked : (test : Bool) → asking m ≡ test → asking m ≡ false
          not_asked true asks = absurd (omega (arith, upwards p q (rw (e, asks))))
          not_asked false none = none

  delivery : (q p : ℕ) (m : Message) → q < n → p < n → look_answer s.links q p ≡ Ok m → DeliveryTaken
  delivery q p Prepare q<n p<n there = (q, (p, silent_taken q p Prepare q<n p<n there refl))
  delivery q p (Voted vote) q<n p<n there = (q, (p, silent_taken q p (Voted vote) q<n p<n there refl))
  delivery q p (Order decision) q<n p<n there = (q, (p, silent_taken q p (Order decision) q<n p<n there refl))
  delivery q p (Ask round) q<n p<n there =
      let first = first_there s.links q p (Ask round) there in
      let ends = apart q p first.0 in
      let up = upwards q p (rw first.1) in
      ⊎_elim (λ room. (q, (p, gets q p (Ask round) q<n p<n there (λ _. performs p (respond s q p (Ask round)).effect p<n (q<n, ends.2, λ e. absurd (omega arith)) room)))) (λ full. way_back q p q<n p<n ends.2 up full) (cases_lt (length (s.links p q)) depth)
  delivery q p (Reply round decision) q<n p<n there = (q, (p, silent_taken q p (Reply round decision) q<n p<n there refl))

  abbrev NextHere : Call → Type 0
  NextHere call =
      (taken depth s call ≡ true)
      × (((p : ℕ) × (call ≡ Step p)) ⊎ (((q : ℕ) × (p : ℕ) × (call ≡ Deliver q p)) ⊎ ((p : ℕ) × (q : ℕ) × (call ≡ Expire p q) × (on_time s q ≡ true))))

  delivers : all_clear s ≡ false → (call : Call) × NextHere call
  delivers some =
      let from = some_below (clear_from s) s.ledgers some in
      let to = some_below (clear s from.0) s.ledgers from.2 in
      by_look from.0 to.0 (omega (arith, from.1, sound.ledgers_are)) (omega (arith, to.1, sound.ledgers_are)) (look_answer s.links from.0 to.0) refl to.2
    where
      by_look : (q p : ℕ) → q < n → p < n → (found : Result Message NetworkFault) → look_answer s.links q p ≡ found → is_err found ≡ false → (call : Call) × NextHere call
      by_look q p q<n p<n (Ok m) there e = let it = delivery q p m q<n p<n there in (Deliver it.0 it.1.0, (it.1.1, inr (inl (it.0, it.1.0, refl))))
      by_look q p q<n p<n (Err fault) there e = absurd (true≢false e)

  steps_on : all_clear s ≡ true → all_below (idle s) s.ledgers ≡ false → (call : Call) × NextHere call
  steps_on none some =
      let it = some_below (idle s) s.ledgers some in
      (Step it.0, (sym (ap (λ (r : Result Unit FloorFault). is_ok (answered {A = Answer} Done r)) (step_same depth s it.0)) ∙ carried none it.0 255 steps (step_of s it.0) it.2 (step_rule depth s long it.0), inl (it.0, refl)))

  expires_on : all_clear s ≡ true → all_below (unmissed s) s.ledgers ≡ false → (call : Call) × NextHere call
  expires_on none some =
      let missed = some_below (unmissed s) s.ledgers some in
      let parts = or_parts (not (on_time s missed.0)) (all_below (patient s missed.0) s.ledgers) missed.2 in
      let it = some_below (patient s missed.0) s.ledgers parts.1 in
      (Expire it.0 missed.0, (carried none it.0 missed.0 (expires missed.0) (expiry_of s it.0 missed.0) it.2 (expiry_rule depth s long it.0 missed.0), inr (inr (it.0, missed.0, refl, not-false (on_time s missed.0) parts.0))))

  goes_on : at_rest s ≡ false → (call : Call) × NextHere call
  goes_on restless = by_links (all_clear s) refl
    where
      by_links : (none : Bool) → all_clear s ≡ none → (call : Call) × NextHere call
      by_links true none =
          ⊎_elim (λ some. absurd (both_ways (all_clear s) some none)) (λ some. ⊎_elim (steps_on none) (expires_on none) (and_cases (all_below (idle s) s.ledgers) (all_below (unmissed s) s.ledgers) some)) (and_cases (all_clear s) (all_below (idle s) s.ledgers && all_below (unmissed s) s.ledgers) restless)
      by_links false some = delivers some

pub progress : (depth n : ℕ) (votes : List Vote) (calls : List Call) → 1 ≤ depth → 2 ≤ n → n ≤ 8 → Progress depth n votes calls
progress depth n votes calls deep many few =
    goes_on depth n deep votes many few (after_all depth (new n votes) calls) (sound_run depth n votes many few calls) (each_run n votes many few depth calls)
    (turns depth n votes many few Upwards (λ a b there. absurd (true≢false (sym there))) (upwards_then n votes) calls)
