-- If every expiry is on time, no two journals hold opposite decisions and none holds a dispute.
use Rattle.std.proofs.Common.{◌≡◌, ℕ, ◌<◌, ◌≤◌, Bool, true, false, not, ◌&&◌, ◌||◌, List, sym, ap, ⊎_elim, arith}
use Rattle.std.proofs.lemmas.Bool.{both_ways, cases_Bool, eqb-true, not-true, or_parts, or_right}
use Rattle.network.specs.declared.message.Vote.{Vote}
use Rattle.rules.specs.declared.effect.Response.{Response}
use Rattle.protocol.specs.Bounded.{all_below}
use Rattle.protocol.specs.Plans.{after_all, call_after}
use Rattle.protocol.specs.Rest.{alive, clear, on_time, settled, settled_from}
use Rattle.protocol.specs.State.{State}
use Rattle.protocol.specs.declared.call.Call.{Call}
use Rattle.protocol.specs.declared.call.Call.TheVariants.{Begin, Step, Deliver, Expire, Stop, Restart}
use Rattle.promises.specs.Promises.{Agreement}
use Rattle.promises.specs.Runs.{early, happened, new, taken}
use Rattle.promises.proofs.Between.{Turn, turns_with}
use Rattle.promises.proofs.Did.{expiring}
use Rattle.promises.proofs.Each.{each_after}
use Rattle.promises.proofs.Moves.{Cause, Input, expires}
use Rattle.promises.proofs.Quiet.{below, clear_empty}
use Rattle.promises.proofs.Rounds.{Rounds, rounds_new, rounds_then}
use Rattle.promises.proofs.Spread.{Posted, posted_new, posted_then}
use Rattle.promises.proofs.Timely.{OnTime, Timely, timely_then}
use Rattle.promises.proofs.Wanted.{Wanted, wanted_new, wanted_then}

no_expiry : (n : ℕ) (s : State) (input : Input) → expiring input ≡ false → OnTime n s input
no_expiry n s input quiet = grind arith

timely_expiry : (n : ℕ) (s : State) (q : ℕ) → s.ledgers ≡ n → n ≤ 8 → on_time s q ≡ true → OnTime n s (expires q)
timely_expiry n s q same few e =
    record { halted = λ x is. rw (sym (eqb-true q x is)) (not-true _ parts.0); silent = λ _ a b ka kb apart stopped running. clear_empty s a b (omega arith) (omega arith) apart (by a b ka kb stopped running) }
  where
    parts : (not (alive s q) ≡ true) × (all_below (settled_from s) s.ledgers ≡ true)
    parts = grind arith

    by : (a b : ℕ) → a < n → b < n → alive s a ≡ false → alive s b ≡ true → clear s a b ≡ true
    by a b ka kb stopped running =
        let quiet = below (settled s a) s.ledgers (below (settled_from s) s.ledgers parts.1 a (omega (arith, same))) b (omega (arith, same)) in
        plainly (alive s a) (alive s b) (clear s a b) stopped running quiet
      where
        plainly : (x y z : Bool) → x ≡ false → y ≡ true → (x || (not y || z)) ≡ true → z ≡ true
        plainly x y z e f g = grind arith

on_time_then : (depth n : ℕ) (s : State) (call : Call) (p : ℕ) (input : Input) → s.ledgers ≡ n → n ≤ 8 → Cause call p input → taken depth s call ≡ true → early depth s call ≡ false → OnTime n s input
on_time_then depth n s Begin p input same few cause answer e = no_expiry n s input (ap expiring cause.1)
on_time_then depth n s (Step a) p input same few cause answer e = no_expiry n s input (ap expiring cause.1)
on_time_then depth n s (Deliver q a) p input same few cause answer e = no_expiry n s input (⊎_elim (λ heard. ap expiring heard) (λ missed. ap expiring missed) cause.1.1)
on_time_then depth n s (Expire a q) p input same few cause answer e = rw cause.1 (timely_expiry n s q same few (punctual (taken depth s (Expire a q)) (on_time s q) answer e))
  where
    punctual : (x y : Bool) → x ≡ true → (x && not y) ≡ false → y ≡ true
    punctual x y e f = grind arith
on_time_then depth n s (Stop a) p input same few cause answer e = no_expiry n s input (ap expiring cause.1)
on_time_then depth n s (Restart a) p input same few cause answer e = no_expiry n s input (ap expiring cause.1)

timely_new : (n : ℕ) (votes : List Vote) → Timely n (new n votes)
timely_new n votes = grind arith

-- what holds as long as no expiry was early
abbrev Before : ℕ → List Vote → Bool → State → Type 0
Before n votes early_yet s = Wanted n votes s × Rounds s × Posted n s × (early_yet ≡ false → Timely n s)

module _ (depth n : ℕ) (votes : List Vote) (many : 2 ≤ n) (few : n ≤ 8) (calls : List Call) where
  before_run : Before n votes (happened early depth (new n votes) calls) (after_all depth (new n votes) calls)
  before_run = turns_with depth n votes many few early (Before n votes) none step (wanted_new n votes, rounds_new n votes, posted_new n votes, λ _. timely_new n votes) calls
    where
      none : (s : State) (call : Call) → call_after depth s call ≡ s → taken depth s call ≡ false → early depth s call ≡ false
      none s call same answer = grind arith

      step : (yet : Bool) (s : State) (call : Call) (p : ℕ) (input : Input) (r : Response) → Cause call p input → Turn n votes s (call_after depth s call) p input r → taken depth s call ≡ true → Before n votes yet s → Before n votes (yet || early depth s call) (call_after depth s call)
      step yet s call p input r cause t answer (w, rounds, posted, timely) =
          let w' = wanted_then t w in
          (w', rounds_then t rounds, posted_then t posted, λ never. let parts = or_parts _ _ never in timely_then t (each_after n votes many few s (call_after depth s call) p input r t.sound t.move t.each) w w' rounds posted (on_time_then depth n s call p input t.sound.ledgers_are few cause answer parts.1) (timely parts.0))

  pub agreement : Agreement depth n votes calls
  agreement never p q kp kq =
      let timely = before_run.3 never in
      (λ eight. ⊎_elim (λ nine. absurd (both_ways _ ((timely.dead q kq (or_right _ _ nine)).none_posted p kp) eight)) (λ none. none) (cases_Bool _), timely.calm p kp)
