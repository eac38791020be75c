-- While every expiry is on time: who drops leaves no post alive.
use Rattle.std.proofs.Common.{◌≡◌, ℕ, ◌<◌, ◌≤◌, Bool, true, false, not, ◌&&◌, ◌||◌, eqb, ◌≢◌, ◌⊎◌, List, [], ◌∷◌, is_some as option_is_some, Option, ap, ◌∙◌, subst, inl, inr, ⊎_elim, arith}
use Rattle.std.specs.List.{list_any}
use Rattle.std.proofs.lemmas.Bool.{and_parts, both_ways, cases_Bool, cases_eq, cases_order, false≢true, not-true, or_cases, or_left, or_right}
use Rattle.std.proofs.lemmas.Bool.Decides.{nat_tests}
use Rattle.network.specs.declared.message.Decision.{Decision}
use Rattle.network.specs.declared.message.Decision.TheVariants.{Post, Drop}
use Rattle.network.specs.declared.message.Message.{Message}
use Rattle.network.specs.declared.message.Vote.{Vote}
use Rattle.rules.specs.Ledgers.{empty, is_in, with_ledger}
use Rattle.rules.specs.Rules.{above, with_notice}
use Rattle.rules.specs.Stages.{counts, held, initial, leads}
use Rattle.rules.specs.declared.effect.Response.{Response}
use Rattle.rules.specs.declared.row.Member.{Member}
use Rattle.rules.specs.declared.row.Row.{Row}
use Rattle.rules.specs.declared.stage.Stage.{Stage}
use Rattle.protocol.specs.State.{State, has, row_of, runs}
use Rattle.promises.proofs.Between.{Turn, acts, had, heard_there, holder_knows, knew, knower_holds, knows_then, leads_again, mine, mover, own_or_other, runs_before, stopped_still, was_there}
use Rattle.promises.proofs.Did.{all_ayes, all_in, announced, carries, denies, disputes, dropped_holds, drops, drops_heard, drops_leads, drops_noticing, expiring, gave_decision, gave_denial, hearer, hears_that, holds_still, keeps_round, leads_before, leads_on, new_holder, new_noticed, new_replied, notices, obeys, orders, posts, reaches_post, readies, receives, recovers, replies, settles, source, still_runs, wrote, wrote_one}
use Rattle.promises.proofs.Each.{AllEach, Each, me}
use Rattle.promises.proofs.Journal.{is, knows}
use Rattle.promises.proofs.Moves.{Input, taken_there}
use Rattle.promises.proofs.Rounds.{Rounds, small_round}
use Rattle.promises.proofs.Sets.{in_empty}
use Rattle.promises.proofs.Shape.{lower_left}
use Rattle.promises.proofs.Spread.{Posted}
use Rattle.promises.proofs.Wanted.{Wanted}

-- a running ledger that holds a post
pub record Holder (n : ℕ) (s : State) : Type 0 where
  pub it : ℕ
  pub known : it < n
  pub runs_now : runs (row_of s it).status ≡ true
  pub holds_post : is Post (held (row_of s it).stage) ≡ true

-- a post is alive where a running ledger holds it, or a message that carries it is on its way to one
pub data Alive (n : ℕ) (s : State) : Type 0 where
  holder : Holder n s → Alive n s
  carrier : (a b : ℕ) → a < n → b < n → runs (row_of s b).status ≡ true → list_any (carries Post) (s.links a b) ≡ true → Alive n s

-- one above the leader l that knows of the post, and that l cannot pass over
pub record Witness (n : ℕ) (s : State) (l : ℕ) (row : Row) : Type 0 where
  pub it : ℕ
  pub higher : l < it
  pub known : it < n
  pub unnoticed : is_in row.noticed it ≡ false
  pub unreplied : is_in row.replied it ≡ false
  pub no_denial : list_any (denies row.round) (s.links it l) ≡ false
  pub knower : knows Post (s.entries it) ≡ true

-- the coordinator can no longer come to a post
pub data Late (n : ℕ) (s : State) : Type 0 where
  gone : runs (row_of s 0).status ≡ false → Late n s
  decided : option_is_some (held (row_of s 0).stage) ≡ true → Late n s
  unready : (q : ℕ) → 1 ≤ q → q < n → runs (row_of s q).status ≡ false → has 2 (s.entries q) ≡ false → Late n s

pub record Dead (n : ℕ) (s : State) : Type 0 where
  pub none_alive : Alive n s → ⊥
  pub none_posted : (a : ℕ) → a < n → has 8 (s.entries a) ≡ false
  pub late : Late n s

abbrev pub dropped : List ℕ → Bool
dropped J = knows Drop J || has 9 J

pub record Timely (n : ℕ) (s : State) : Type 0 where
  pub noticed_gone : (a q : ℕ) → a < n → runs (row_of s a).status ≡ true → is_in (row_of s a).noticed q ≡ true → runs (row_of s q).status ≡ false
  pub witness : Alive n s → (l : ℕ) → l < n → runs (row_of s l).status ≡ true → leads (row_of s l).stage ≡ true → Witness n s l (row_of s l)
  pub dead : (a : ℕ) → a < n → dropped (s.entries a) ≡ true → Dead n s
  pub calm : (a : ℕ) → a < n → has 10 (s.entries a) ≡ false

-- an expiry, if it is one, is on time
pub record OnTime (n : ℕ) (s : State) (input : Input) : Type 0 where
  pub halted : (q : ℕ) → notices input q ≡ true → runs (row_of s q).status ≡ false
  pub silent : expiring input ≡ true → (a b : ℕ) → a < n → b < n → a ≢ b → runs (row_of s a).status ≡ false → runs (row_of s b).status ≡ true → s.links a b ≡ []

is_some : (d : Decision) (h : Option Decision) → is d h ≡ true → option_is_some h ≡ false → ⊥
is_some d h e f = grind arith

leads_none : (stage : Stage) → leads stage ≡ true → option_is_some (held stage) ≡ false
leads_none stage e = grind arith

counts_none : (stage : Stage) → counts stage ≡ true → option_is_some (held stage) ≡ false
counts_none stage e = grind arith

ended_holds : (d : Decision) (stage : Stage) → is d (announced stage) ≡ true → is d (held stage) ≡ true
ended_holds d stage e = grind arith

denies_replies : (k : ℕ) (m : Message) → denies k m ≡ true → replies k m ≡ true
denies_replies k m e = grind (arith, nat_tests)

orders_carries : (d : Decision) (m : Message) → orders d m ≡ true → carries d m ≡ true
orders_carries d m e = grind arith

any_weaker : (f g : Message → Bool) → ((m : Message) → f m ≡ true → g m ≡ true) → (link : List Message) → list_any f link ≡ true → list_any g link ≡ true
any_weaker f g more [] e = e
any_weaker f g more (m ∷ ms) e = ⊎_elim (λ here. or_left _ _ (more m here)) (λ there. or_right _ _ (any_weaker f g more ms there)) (or_cases _ _ e)

pub unsettled : (d : Decision) (row : Row) (J : List ℕ) → runs row.status ≡ true → option_is_some (held row.stage) ≡ false → settles d row J ≡ true → ⊥
unsettled d row J running none e = grind (arith, nat_tests)

-- a leader has noticed all lower ones
lower_noticed : (who : Member) (row : Row) (J : List ℕ) → Each who row J → leads row.stage ≡ true → (x : ℕ) → x < who.number → is_in row.noticed x ≡ true
lower_noticed who row J each l x low =
    all_in row.noticed 0 who.number (each.shape.leads_last (each.shape.leads_at l) (leads_none row.stage l) ∙ ap not l) x (omega arith) low

module _ {n : ℕ} {votes : List Vote} {s s' : State} {p : ℕ} {input : Input} {r : Response} (t : Turn n votes s s' p input r) (each' : AllEach n votes s') (w : Wanted n votes s) (w' : Wanted n votes s') (rounds : Rounds s) (posted : Posted n s) (on_time : OnTime n s input) (m : Timely n s) where
  noticed_then : (a q : ℕ) → a < n → runs (row_of s' a).status ≡ true → is_in (row_of s' a).noticed q ≡ true → runs (row_of s' q).status ≡ false
  noticed_then a q known running e = stopped_still t q (⊎_elim own (λ other. m.noticed_gone a q known (runs_before t a running) (rw other.1 at e)) (own_or_other t a))
    where
      own : (a ≡ p) × (row_of s' a ≡ r.row) → runs (row_of s q).status ≡ false
      own (same, row) =
          ⊎_elim (λ old. m.noticed_gone p q (mine t) (rw same at (runs_before t a running)) old) (λ new. on_time.halted q new)
          (or_cases _ _ (new_noticed (acts t) q (rw row at e)))

  -- a message that p hears is on its way to it, and p runs
  hears_alive : hears_that (carries Post) input ≡ true → Alive n s
  hears_alive e = let h = hearer (acts t) (carries Post) e in carrier (source input) p h.1 (mine t) h.0 (heard_there t (carries Post) e)

  alive_before : Alive n s' → Alive n s ⊎ (wrote 4 r.effect ≡ true)
  alive_before (holder h) = ⊎_elim own (λ other. inl (holder (record { it = h.it; known = h.known; runs_now = runs_before t h.it h.runs_now; holds_post = rw other.1 at h.holds_post }))) (own_or_other t h.it)
    where
      own : (h.it ≡ p) × (row_of s' h.it ≡ r.row) → Alive n s ⊎ (wrote 4 r.effect ≡ true)
      own (same, row) =
          ⊎_elim (λ old. inl (holder (record { it = p; known = mine t; runs_now = rw same at (runs_before t h.it h.runs_now); holds_post = old })))
          (λ new. ⊎_elim (λ four. inr four) (λ six. inl (hears_alive (receives (acts t) Post six))) (or_cases _ _ new))
          (or_cases _ _ (new_holder (acts t) Post (rw row at h.runs_now) (rw row at h.holds_post)))
  alive_before (carrier a b ka kb running there) =
      ⊎_elim (λ old. inl (carrier a b ka kb (runs_before t b running) old))
      (λ new. let h = and_parts _ _ (gave_decision (acts t) Post b new.1) in inl (holder (record { it = p; known = mine t; runs_now = h.0; holds_post = h.1 })))
      (was_there t (carries Post) a b there)

  -- with a timely expiry, a running ledger holds the post
  find_holder : expiring input ≡ true → Alive n s → Holder n s
  find_holder expiry (holder h) = h
  find_holder expiry (carrier a b ka kb running there) = ⊎_elim yes_runs (λ stopped. absurd (none stopped)) (cases_Bool (runs (row_of s a).status))
    where
      yes_runs : runs (row_of s a).status ≡ true → Holder n s
      yes_runs now = record { it = a; known = ka; runs_now = now; holds_post = knower_holds Post (me n votes a) (row_of s a) (s.entries a) (t.each a ka) now (w.carried a b Post there) }

      none : runs (row_of s a).status ≡ false → ⊥
      none stopped =
          let silent = on_time.silent expiry a b ka kb (λ (same : a ≡ b). both_ways _ stopped (rw same running)) stopped running in
          false≢true (rw silent at there)

  -- one that knows of a post gives no empty Reply
  witness_still : (l : ℕ) (row : Row) → Witness n s l row → Witness n s' l row
  witness_still l row x = record { it = x.it; higher = x.higher; known = x.known; unnoticed = x.unnoticed; unreplied = x.unreplied; no_denial = ⊎_elim (λ there. absurd (denied there)) (λ none. none) (cases_Bool _); knower = knows_then t Post x.it x.knower }
    where
      given : x.it ≡ p → (runs (row_of s p).status ≡ true) × (option_is_some (held (row_of s p).stage) ≡ false) → ⊥
      given same (running, none) = grind (arith, nat_tests)

      denied : list_any (denies row.round) (s'.links x.it l) ≡ true → ⊥
      denied there = ⊎_elim (λ old. both_ways _ x.no_denial old) (λ new. given new.0 (gave_denial (acts t) row.round l new.1)) (was_there t (denies row.round) x.it l there)

  module _ (running : runs r.row.status ≡ true) (lead : leads r.row.stage ≡ true) (alive : Alive n s) where
    runs_first : runs (row_of s p).status ≡ true
    runs_first = grind (arith, nat_tests)

    -- the round goes on
    witness_on : expiring input ≡ false → Witness n s p (row_of s p) → Witness n s' p r.row
    witness_on quiet x =
        let same = keeps_round (acts t) quiet running in
        witness_still p r.row (record { it = x.it; higher = x.higher; known = x.known; unnoticed = rw same.1 x.unnoticed; unreplied = ⊎_elim (λ there. absurd (replied there)) (λ none. none) (cases_Bool _); no_denial = rw same.0 x.no_denial; knower = x.knower })
      where
        replied : is_in r.row.replied x.it ≡ true → ⊥
        replied there =
            ⊎_elim (λ old. both_ways _ x.unreplied old) (λ new. both_ways _ x.no_denial (taken_there s p input r s' t.move (denies (row_of s p).round) x.it new))
            (or_cases _ _ (new_replied (acts t) quiet running x.it there))

    -- a new round begins
    module _ (expiry : expiring input ≡ true) (h : Holder n s) where
      comes : (option_is_some (held (row_of s p).stage) ≡ false) × ((eqb p 0 && initial (row_of s p).stage) ≡ false) × (is_in (row_of s p).noticed (source input) ≡ false) × (source input ≢ p) × (source input < n)
      comes = grind (arith, nat_tests)

      anew : (r.row.round ≡ above (row_of s p).round) × (r.row.replied ≡ empty) × (r.row.noticed ≡ with_ledger (row_of s p).noticed (source input)) × (lower_left p (with_notice (row_of s p) (source input)) ≡ false)
      anew = leads_on (acts t) expiry (leads_again t expiry) lead

      other : h.it ≢ p
      other same = grind (arith, nat_tests)

      -- the holder runs, so that it is not noticed
      unnoticed_now : is_in r.row.noticed h.it ≡ true → ⊥
      unnoticed_now there =
          both_ways _ (noticed_then p h.it (mine t) (rw t.move.changes.own_row running) (rw t.move.changes.own_row there)) (rw (t.move.changes.other_row h.it other) h.runs_now)

      lower_now : h.it < p → ⊥
      lower_now low = unnoticed_now (rw anew.2 (all_in (with_ledger (row_of s p).noticed (source input)) 0 p anew.3 h.it (omega arith) low))

      denied_now : list_any (denies r.row.round) (s'.links h.it p) ≡ true → ⊥
      denied_now there =
          ⊎_elim (λ old. let late = rounds.replied_to h.it p r.row.round runs_first (any_weaker (denies r.row.round) (replies r.row.round) (denies_replies r.row.round) (s.links h.it p) old) in omega (arith, late, anew.0, small_round t)) (λ new. other new.0)
          (was_there t (denies r.row.round) h.it p there)

      witness_anew : Witness n s' p r.row
      witness_anew = record {
        it = h.it;
        higher = ⊎_elim (λ same. absurd (other same)) (λ order. ⊎_elim (λ low. absurd (lower_now low)) (λ high. high) order) (cases_order h.it p);
        known = h.known;
        unnoticed = ⊎_elim (λ there. absurd (unnoticed_now there)) (λ none. none) (cases_Bool _);
        unreplied = rw anew.1 (in_empty h.it);
        no_denial = ⊎_elim (λ there. absurd (denied_now there)) (λ none. none) (cases_Bool _);
        knower = knows_then t Post h.it (holder_knows Post (me n votes h.it) (row_of s h.it) (s.entries h.it) (t.each h.it h.known) h.runs_now h.holds_post);
      }

  witness_then : Alive n s' → (l : ℕ) → l < n → runs (row_of s' l).status ≡ true → leads (row_of s' l).stage ≡ true → Witness n s' l (row_of s' l)
  witness_then alive l known running lead = ⊎_elim (λ old. by old (own_or_other t l)) (λ four. absurd (no_leader four)) (alive_before alive)
    where
      no_leader : wrote 4 r.effect ≡ true → ⊥
      no_leader four =
          let reach = reaches_post (acts t) four in
          let zeroth = (mover t).shape.counts_at reach.1 in
          let participant = (each' l known).shape.leads_at lead in
          let row = t.move.changes.other_row l (λ e. omega (arith, e, zeroth, participant)) in
          let noticed = lower_noticed (me n votes l) (row_of s l) (s.entries l) (t.each l known) (rw row at lead) 0 (omega (arith, participant)) in
          both_ways _ (m.noticed_gone l 0 known (runs_before t l running) noticed) (rw zeroth at reach.0)

      own : l ≡ p → row_of s' l ≡ r.row → Alive n s → Witness n s' l (row_of s' l)
      own same row old =
          let now = rw row at running in
          let leading = rw row at lead in
          rw (row, same)
          (⊎_elim (λ expiry. witness_anew now leading old expiry (find_holder expiry old))
          (λ quiet. witness_on now leading old quiet (m.witness old p (mine t) (still_runs (acts t) now) (leads_before (acts t) quiet now leading))) (cases_Bool (expiring input)))

      by : Alive n s → ((l ≡ p) × (row_of s' l ≡ r.row)) ⊎ ((l ≢ p) × (row_of s' l ≡ row_of s l)) → Witness n s' l (row_of s' l)
      by old (inl (same, row)) = own same row old
      by old (inr (other, row)) = rw row (witness_still l (row_of s l) (m.witness old l known (runs_before t l running) (rw row at lead)))

  -- without a 4 at the coordinator there is no trace of a post
  no_trace : has 4 (s'.entries 0) ≡ false → Late n s' → Dead n s'
  no_trace none late = record { none_alive = alive; none_posted = λ a known. ⊎_elim (λ eight. absurd (knows_none a (w'.closed a eight))) (λ no_eight. no_eight) (cases_Bool _); late = late }
    where
      knows_none : (a : ℕ) → knows Post (s'.entries a) ≡ true → ⊥
      knows_none a e = grind (arith, nat_tests)

      alive : Alive n s' → ⊥
      alive (holder h) = knows_none h.it (holder_knows Post (me n votes h.it) (row_of s' h.it) (s'.entries h.it) (each' h.it h.known) h.runs_now h.holds_post)
      alive (carrier a b ka kb running there) = knows_none a (w'.carried a b Post there)

  -- the coordinator comes to a post no more
  late_then : Late n s → Late n s'
  late_then (gone e) = gone (stopped_still t 0 e)
  late_then (decided e) = ⊎_elim own (λ other. decided (rw other.1 e)) (own_or_other t 0)
    where
      own : (0 ≡ p) × (row_of s' 0 ≡ r.row) → Late n s'
      own (same, row) =
          let mine_holds = subst (λ (x : ℕ). option_is_some (held (row_of s x).stage) ≡ true) same e in
          ⊎_elim (λ now. decided (rw (row, holds_still (acts t) (rw row at now) mine_holds) mine_holds)) (λ stopped. gone stopped) (cases_Bool (runs (row_of s' 0).status))
  late_then (unready q low known stopped none) = unready q low known (stopped_still t q stopped) (⊎_elim (λ two. absurd (ready two)) (λ still. still) (cases_Bool _))
    where
      ready : has 2 (s'.entries q) ≡ true → ⊥
      ready two = ⊎_elim (λ old. both_ways _ none old) (λ (new : (q ≡ p) × (wrote 2 r.effect ≡ true)). both_ways _ stopped (rw new.0 (readies (acts t) new.1))) (had t 2 q two)

  no_commit : Late n s → wrote 4 r.effect ≡ true → ⊥
  no_commit late four = by late
    where
      zeroth : p ≡ 0
      zeroth = (mover t).shape.counts_at (reaches_post (acts t) four).1

      by : Late n s → ⊥
      by (gone e) = both_ways _ e (rw zeroth at (reaches_post (acts t) four).0)
      by (decided e) = both_ways _ (counts_none _ (rw zeroth at (reaches_post (acts t) four).1)) e
      by (unready q low known stopped none) =
          let aye : is_in (row_of s' p).ayes q ≡ true = rw t.move.changes.own_row (all_ayes (acts t) four q low known) in
          ⊎_elim (λ old. both_ways _ none old) (λ new. omega (arith, new.0, zeroth, low)) (had t 2 q (w'.heard p q aye).1)

  -- an 8 is new only at one that holds a post
  posts_alive : wrote 8 r.effect ≡ true → Alive n s
  posts_alive e = let h = posts (acts t) e in holder (record { it = p; known = mine t; runs_now = h.0; holds_post = h.1 })

  stays_dead : Dead n s → Dead n s'
  stays_dead dead = record {
    none_alive = λ alive. ⊎_elim dead.none_alive (no_commit dead.late) (alive_before alive);
    none_posted = λ a known. ⊎_elim (λ eight. absurd (⊎_elim (λ old. both_ways _ (dead.none_posted a known) old) (λ new. dead.none_alive (posts_alive new.1)) (had t 8 a eight))) (λ none. none) (cases_Bool _);
    late = late_then dead.late;
  }

  -- who drops by itself while no post is alive
  drops_dead : wrote 5 r.effect ≡ true → (Alive n s → ⊥) → Late n s' → Dead n s'
  drops_dead five none late = record {
    none_alive = λ alive. ⊎_elim none (λ four. omega (arith, wrote_one (acts t) 4 5 four five)) (alive_before alive);
    none_posted = λ a known. ⊎_elim (λ eight. absurd (⊎_elim (posted_alive a known) (λ new. omega (arith, wrote_one (acts t) 8 5 new.1 five)) (had t 8 a eight))) (λ no_eight. no_eight) (cases_Bool _);
    late = late;
  }
    where
      undecided : (runs (row_of s p).status ≡ true) × (option_is_some (held (row_of s p).stage) ≡ false)
      undecided = drops (acts t) five

      own : has 8 (s.entries p) ≡ true → ⊥
      own eight = grind (arith, nat_tests)

      other : (a : ℕ) → a < n → p ≢ a → has 8 (s.entries a) ≡ true → ⊥
      other a known apart eight =
          ⊎_elim (λ order. none (carrier a p known (mine t) undecided.0 (any_weaker (orders Post) (carries Post) (orders_carries Post) (s.links a p) order)))
          (λ settled. unsettled Post (row_of s p) (s.entries p) undecided.0 undecided.1 settled)
          (or_cases _ _ (posted a p (mine t) apart (or_left _ _ eight)))

      posted_alive : (a : ℕ) → a < n → has 8 (s.entries a) ≡ true → ⊥
      posted_alive a known eight = ⊎_elim (λ (same : p ≡ a). own (rw same eight)) (λ apart. other a known apart eight) (cases_eq p a)

  -- a leader that has heard all higher ones
  module _ (five : wrote 5 r.effect ≡ true) (tame : counts (row_of s p).stage ≡ false) where
    undecided : (runs (row_of s p).status ≡ true) × (option_is_some (held (row_of s p).stage) ≡ false)
    undecided = drops (acts t) five

    heard_dead : expiring input ≡ false → Dead n s'
    heard_dead quiet = drops_dead five alive (gone (stopped_still t 0 (m.noticed_gone p 0 (mine t) undecided.0 (lower_noticed (me n votes p) (row_of s p) (s.entries p) (mover t) leading 0 ((mover t).shape.leads_at leading)))))
      where
        leading : leads (row_of s p).stage ≡ true
        leading = drops_leads (acts t) five quiet tame

        refuted : Witness n s p (row_of s p) → ⊥
        refuted x =
            ⊎_elim (λ noticed. both_ways _ x.unnoticed noticed)
            (λ rest. ⊎_elim (λ replied. both_ways _ x.unreplied replied) (λ denial. both_ways _ x.no_denial (taken_there s p input r s' t.move (denies (row_of s p).round) x.it denial)) (or_cases _ _ rest))
            (or_cases _ _ (drops_heard (acts t) t.few five quiet tame x.it x.higher x.known).1)

        alive : Alive n s → ⊥
        alive a = refuted (m.witness a p (mine t) undecided.0 leading)

    -- one that has noticed all others
    noticed_dead : expiring input ≡ true → Dead n s'
    noticed_dead expiry = drops_dead five (λ alive. refuted (find_holder expiry alive)) (gone (stopped_still t 0 (halted 0 (λ e. omega (arith, e, participant)) (omega (arith, t.many)))))
      where
        participant : 1 ≤ p
        participant = grind (arith, nat_tests)

        halted : (x : ℕ) → x ≢ p → x < n → runs (row_of s x).status ≡ false
        halted x other known =
            ⊎_elim (λ noticed. m.noticed_gone p x (mine t) undecided.0 noticed) (λ now. on_time.halted x now)
            (or_cases _ _ (drops_noticing (acts t) t.few five expiry participant x other known))

        refuted : Holder n s → ⊥
        refuted h = both_ways _ (halted h.it (λ same. is_some Post (held (row_of s p).stage) (rw same at h.holds_post) undecided.1) h.known) h.runs_now

  -- the coordinator drops
  counted_dead : wrote 5 r.effect ≡ true → counts (row_of s p).stage ≡ true → Dead n s'
  counted_dead five c = no_trace (⊎_elim (λ four. absurd (before four)) (λ none. none) (cases_Bool _)) (decided (subst (λ (x : ℕ). option_is_some (held (row_of s' x).stage) ≡ true) zeroth (rw t.move.changes.own_row (dropped_holds (acts t) five))))
    where
      zeroth : p ≡ 0
      zeroth = grind (arith, nat_tests)

      known_four : has 4 (s.entries p) ≡ true → ⊥
      known_four four = grind (arith, nat_tests)

      before : has 4 (s'.entries 0) ≡ true → ⊥
      before four = ⊎_elim (λ old. known_four (rw zeroth old)) (λ new. omega (arith, wrote_one (acts t) 4 5 new.1 five)) (had t 4 0 four)

  reached_dead : wrote 5 r.effect ≡ true → Dead n s'
  reached_dead five =
      ⊎_elim (counted_dead five) (λ tame. ⊎_elim (noticed_dead five tame) (heard_dead five tame) (cases_Bool (expiring input)))
      (cases_Bool (counts (row_of s p).stage))

  -- a restart that finds nothing closes with a drop
  unready_dead : wrote 9 r.effect ≡ true → runs (row_of s p).status ≡ false → has 2 (s.entries p) ≡ false → has 4 (s.entries p) ≡ false → Dead n s'
  unready_dead nine stopped no_two no_four = no_trace (⊎_elim (λ four. absurd (before four)) (λ none. none) (cases_Bool _)) (⊎_elim own other (cases_eq p 0))
    where
      ready : p ≢ 0 → has 4 (s.entries 0) ≡ true → ⊥
      ready other four = grind (arith, nat_tests)

      before : has 4 (s'.entries 0) ≡ true → ⊥
      before four =
          ⊎_elim (λ old. ⊎_elim (λ (zeroth : p ≡ 0). both_ways _ no_four (rw zeroth old)) (λ other. ready other old) (cases_eq p 0))
          (λ new. omega (arith, wrote_one (acts t) 4 9 new.1 nine)) (had t 4 0 four)

      own : p ≡ 0 → Late n s'
      own zeroth = grind (arith, nat_tests)

      still_unready : has 2 (s'.entries p) ≡ true → ⊥
      still_unready two = ⊎_elim (λ old. both_ways _ no_two old) (λ new. omega (arith, wrote_one (acts t) 2 9 new.1 nine)) (had t 2 p two)

      other : p ≢ 0 → Late n s'
      other apart = unready p (omega (arith, apart)) (mine t) (stopped_still t p stopped) (⊎_elim (λ two. absurd (still_unready two)) (λ none. none) (cases_Bool _))

  obeyed_dead : wrote 9 r.effect ≡ true → Dead n s'
  obeyed_dead nine = ⊎_elim stepped restarted (cases_Bool (runs (row_of s p).status))
    where
      knower_dead : knows Drop (s.entries p) ≡ true → Dead n s'
      knower_dead e = stays_dead (m.dead p (mine t) (or_left _ _ e))

      stepped : runs (row_of s p).status ≡ true → Dead n s'
      stepped running = knower_dead (holder_knows Drop (me n votes p) (row_of s p) (s.entries p) (mover t) running (ended_holds Drop (row_of s p).stage (obeys (acts t) Drop nine running)))

      restarted : runs (row_of s p).status ≡ false → Dead n s'
      restarted stopped =
          ⊎_elim knower_dead (λ nothing. let parts = and_parts _ _ nothing in unready_dead nine stopped (not-true _ parts.0) (not-true _ (and_parts _ _ parts.1).0))
          (or_cases _ _ (recovers (acts t) Drop nine stopped).1)

  dead_then : (a : ℕ) → a < n → dropped (s'.entries a) ≡ true → Dead n s'
  dead_then a known e =
      ⊎_elim (λ k. ⊎_elim (λ old. stays_dead (m.dead a known (or_left _ _ old))) (λ new. ⊎_elim reached_dead received_dead new.1) (knew t Drop a k))
      (λ nine. ⊎_elim (λ old. stays_dead (m.dead a known (or_right _ _ old))) (λ new. obeyed_dead new.1) (had t 9 a nine)) (or_cases _ _ e)
    where
      received_dead : wrote 7 r.effect ≡ true → Dead n s'
      received_dead seven =
          let h = receives (acts t) Drop seven in
          stays_dead (m.dead (source input) (hearer (acts t) (carries Drop) h).1 (or_left _ _ (w.carried (source input) p Drop (heard_there t (carries Drop) h))))

  calm_then : (a : ℕ) → a < n → has 10 (s'.entries a) ≡ false
  calm_then a known = ⊎_elim (λ ten. absurd (⊎_elim (λ old. both_ways _ (m.calm a known) old) (λ new. fresh (and_parts _ _ (disputes (acts t) new.1))) (had t 10 a ten))) (λ none. none) (cases_Bool _)
    where
      drop_held : is Drop (held (row_of s p).stage) ≡ true → runs (row_of s p).status ≡ true → Dead n s
      drop_held e running = grind (arith, nat_tests)

      fresh : (runs (row_of s p).status ≡ true) × (((hears_that (carries Post) input && is Drop (held (row_of s p).stage)) || (hears_that (carries Drop) input && is Post (held (row_of s p).stage))) ≡ true) → ⊥
      fresh (running, e) =
          ⊎_elim (λ one. let x = and_parts _ _ one in (drop_held x.1 running).none_alive (hears_alive x.0))
          (λ two. let x = and_parts _ _ two in (m.dead (source input) (hearer (acts t) (carries Drop) x.0).1 (or_left _ _ (w.carried (source input) p Drop (heard_there t (carries Drop) x.0)))).none_alive (holder (record { it = p; known = mine t; runs_now = running; holds_post = x.1 })))
          (or_cases _ _ e)

  pub timely_then : Timely n s'
  timely_then = record { noticed_gone = noticed_then; witness = witness_then; dead = dead_then; calm = calm_then }
