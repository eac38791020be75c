-- Every run sends few messages, and ends.
use Rattle.std.proofs.Common.{◌≡◌, ℕ, ◌+◌, ◌*◌, ◌≤◌, true, false, cond, leb, List, [], ◌∷◌, sym, refl, ap, ◌∙◌, subst, arith}
use Rattle.std.proofs.lemmas.Bool.{leb-true}
use Rattle.network.specs.declared.message.Vote.{Vote}
use Rattle.rules.specs.declared.effect.Response.{Response}
use Rattle.rules.specs.declared.row.Row.{Row}
use Rattle.protocol.specs.Bounded.{all_below}
use Rattle.protocol.specs.Plans.{after_all, call_after}
use Rattle.protocol.specs.State.{State, row_of}
use Rattle.protocol.specs.declared.call.Call.{Call}
use Rattle.promises.specs.Promises.{Ends, FewMessages, most_messages}
use Rattle.promises.specs.Runs.{added, counts_taken, new, on_the_way, sends, sum_below, taken, takes}
use Rattle.promises.proofs.Quiet.{below}
use Rattle.promises.proofs.Between.{Turn, mine}
use Rattle.promises.proofs.Each.{AllEach, each_after, each_new}
use Rattle.promises.proofs.Moves.{Cause, Input, Outcome, Sound, moved, outcome, refused}
use Rattle.promises.proofs.Sets.{left_from}
use Rattle.promises.proofs.Spending.{budget, effort, is_ask, one, sent_by, spent, taken_by}
use Rattle.promises.proofs.Sums.{load, load_moves, load_none, load_one_each, sum_one}

-- all that may still be sent, a reply to every Ask on its way with it
abbrev may_all : ℕ → State → ℕ
may_all n s = sum_below (λ p. budget n p (row_of s p)) n + load is_ask s.links

-- how far the run is from its end
abbrev left_all : ℕ → State → ℕ
left_all n s = 2 * may_all n s + (load one s.links + sum_below (λ p. effort n (row_of s p)) n)

module _ {n : ℕ} {votes : List Vote} {s s' : State} {p : ℕ} {input : Input} {r : Response} (t : Turn n votes s s' p input r) where
  -- the sum of what each ledger has, before and after
  rows_moved : (f : ℕ → Row → ℕ) → sum_below (λ a. f a (row_of s' a)) n + f p (row_of s p) ≡ sum_below (λ a. f a (row_of s a)) n + f p r.row
  rows_moved f =
      sum_one (λ a. f a (row_of s' a)) (λ a. f a (row_of s a)) p n (mine t) (λ a other. ap (f a) (t.move.changes.other_row a other))
      ∙ ap (λ row. sum_below (λ a. f a (row_of s a)) n + f p row) t.move.changes.own_row

  may_falls : may_all n s' + sent_by one r.effect ≤ may_all n s
  may_falls =
      let rows = rows_moved (budget n) in
      let asks = load_moves is_ask n p t.few (mine t) s s' input r t.sound.ledgers_are t.move (spent t).aimed in
      let fewer = (spent t).fewer in
      omega arith

  left_falls : left_all n s' + 1 ≤ left_all n s
  left_falls =
      let rows = rows_moved (λ a. effort n) in
      let links = load_moves one n p t.few (mine t) s s' input r t.sound.ledgers_are t.move (spent t).aimed in
      let lower = (spent t).lower in
      let may = may_falls in
      omega arith

  -- what the move sent
  on_links : on_the_way s' + taken_by one input ≡ on_the_way s + sent_by one r.effect
  on_links = omega (arith, load_moves one n p t.few (mine t) s s' input r t.sound.ledgers_are t.move (spent t).aimed, load_one_each s, load_one_each s')

  adds : s.sent + may_all n s ≤ most_messages n → most_messages n ≤ 1000 → s'.sent ≡ sent_by one r.effect + s.sent
  adds bounded little = grind arith

-- what a new floor has, worked out for each number of ledgers
start_fits : (n : ℕ) → n ≤ 8 → (sum_below (λ p. budget n p (row_of (new n []) p)) n ≤ most_messages n) × (sum_below (λ p. effort n (row_of (new n []) p)) n ≤ n * (n + 3)) × (most_messages n ≤ 1000)
unfolding all_below left_from
start_fits n few = (
  leb-true _ _ (below (λ n. leb (sum_below (λ p. budget n p (row_of (new n []) p)) n) (most_messages n)) 9 refl n (omega arith)),
  leb-true _ _ (below (λ n. leb (sum_below (λ p. effort n (row_of (new n []) p)) n) (n * (n + 3))) 9 refl n (omega arith)),
  leb-true _ _ (below (λ n. leb (most_messages n) 1000) 9 refl n (omega arith)),
)

-- what a call takes from its link is what its input takes
takes_input : (depth : ℕ) (s : State) (call : Call) (p : ℕ) (input : Input) → Cause call p input → taken depth s call ≡ true → takes depth s call ≡ taken_by one input
takes_input depth s call p input it answer = grind arith

takes_none : (depth : ℕ) (s : State) (call : Call) → taken depth s call ≡ false → takes depth s call ≡ 0
takes_none depth s call answer = grind arith

module _ (depth n : ℕ) (votes : List Vote) (many : 2 ≤ n) (few : n ≤ 8) where
  -- what stands at every point of a run
  record Going (s : State) : Type 0 where
    sound : Sound n votes s
    each : AllEach n votes s
    bounded : s.sent + may_all n s ≤ most_messages n

  -- what one call does
  record Goes (s : State) (call : Call) (s' : State) : Type 0 where
    on : Going s'
    adds_sent : s'.sent ≡ sends depth s call + s.sent
    nearer : counts_taken depth s call + left_all n s' ≤ left_all n s

  goes : (s : State) (call : Call) → Going s → Goes s call (call_after depth s call)
  goes s call going = by_outcome (outcome depth s (omega (arith, going.sound.ledgers_are, going.sound.rows_are)) call)
    where
      by_outcome : Outcome call s (call_after depth s call) (taken depth s call) → Goes s call (call_after depth s call)
      by_outcome (refused same answer) =
          let still = ap on_the_way same in
          let none = takes_none depth s call answer in
          let uncounted : counts_taken depth s call ≡ 0 = ap (λ b. cond b 1 0) answer in
          record {
            on = subst Going (sym same) going;
            adds_sent = omega (arith, ap (λ (t : State). t.sent) same);
            nearer = rw (uncounted, same) (omega arith);
          }
      by_outcome (moved p input r cause move answer) =
          let counted : counts_taken depth s call ≡ 1 = ap (λ b. cond b 1 0) answer in
          let little = (start_fits n few).2 in
          let t : Turn n votes s (call_after depth s call) p input r = record { many = many; few = few; sound = going.sound; move = move; each = going.each } in
          let may = may_falls t in
          let adds_one = adds t going.bounded little in
          let on_way = on_links t in
          let took_one = takes_input depth s call p input cause answer in
          let before = going.bounded in
          record {
            on =
                record {
                  sound =
                      record {
                        ledgers_are = move.changes.same_ledgers ∙ going.sound.ledgers_are;
                        votes_are = move.changes.same_votes ∙ going.sound.votes_are;
                        rows_are = move.changes.same_length ∙ going.sound.rows_are;
                      };
                  each = each_after n votes many few s (call_after depth s call) p input r going.sound move going.each;
                  bounded = omega (arith, adds_one, may, before);
                };
            adds_sent = omega (arith, adds_one, on_way, took_one);
            nearer = omega (arith, counted, left_falls t);
          }

  along : (calls : List Call) (s : State) → Going s → ((after_all depth s calls).sent ≡ added sends depth s calls + s.sent) × (added counts_taken depth s calls + left_all n (after_all depth s calls) ≤ left_all n s) × Going (after_all depth s calls)
  along [] s going = (omega arith, omega arith, going)
  along (call ∷ calls) s going =
      let here = goes s call going in
      let rest = along calls (call_after depth s call) here.on in
      (omega (arith, here.adds_sent, rest.0), omega (arith, here.nearer, rest.1), rest.2)

  start : Going (new n votes)
  start =
      record {
        sound = record { ledgers_are = refl; votes_are = refl; rows_are = refl };
        each = each_new n votes many few;
        bounded = omega (arith, (start_fits n few).0, load_none is_ask);
      }

  pub few_messages : (calls : List Call) → FewMessages depth n votes calls
  few_messages calls =
      let all = along calls (new n votes) start in
      let end = all.2.bounded in
      (omega (arith, all.0), omega (arith, end))

  pub ends : (calls : List Call) → Ends depth n votes calls
  ends calls = omega (arith, (along calls (new n votes) start).1, (start_fits n few).0, (start_fits n few).1, load_none is_ask, load_none one)
