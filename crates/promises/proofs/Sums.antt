-- Sums over the ledgers, and over the links between them.
use Rattle.std.proofs.Common.{◌≡◌, ℕ, zero, suc, ◌+◌, ◌<◌, ◌≤◌, cond, ◌&&◌, eqb, ◌≢◌, List, [], ◌∷◌, ◌++◌, length, drop, sym, refl, ap, ◌∙◌, ⊎_elim, arith}
use Rattle.std.specs.List.{sum_by}
use Rattle.std.proofs.lemmas.List.Sums.{sum_by-cons, sum_by_push}
use Rattle.std.proofs.lemmas.Bool.{cases_eq, eq-eqb}
use Rattle.std.proofs.lemmas.Bool.Decides.{nat_tests}
use Rattle.network.specs.Links.{Links, no_links}
use Rattle.network.specs.declared.message.Message.{Message}
use Rattle.rules.specs.declared.effect.Effect.{Effect}
use Rattle.rules.specs.declared.effect.Effect.TheVariants.{Nothing, Write, Send}
use Rattle.rules.specs.declared.effect.Response.{Response}
use Rattle.rules.specs.declared.row.Member.{Member}
use Rattle.rules.specs.declared.row.Row.{Row}
use Rattle.protocol.specs.State.{State, member_of, row_of}
use Rattle.promises.specs.Runs.{on_the_way, sum_below}
use Rattle.promises.proofs.Moves.{First, Input, Move, Rule, begins, expires, gave, gave_away, hears, misses, restarts, steps, stops, took}
use Rattle.promises.proofs.Spending.{Aimed, one, sent_by, taken_by}

pub sum_same : (f g : ℕ → ℕ) (n : ℕ) → ((i : ℕ) → i < n → f i ≡ g i) → sum_below f n ≡ sum_below g n
sum_same f g zero same = refl
sum_same f g (suc n) same = let rest = sum_same f g n (λ i below. same i (omega arith)) in let here = same n (omega arith) in omega arith

-- two functions that differ at one place
pub sum_one : (f g : ℕ → ℕ) (p n : ℕ) → p < n → ((i : ℕ) → i ≢ p → f i ≡ g i) → sum_below f n + g p ≡ sum_below g n + f p
sum_one f g p zero below same = absurd (omega arith)
sum_one f g p (suc n) below same =
    ⊎_elim (λ e. omega (arith, sum_same f g n (λ i i<n. same i (λ at_p. omega arith)), ap f e, ap g e)) (λ other. omega (arith, sum_one f g p n (omega arith) same, same n other)) (cases_eq n p)

-- over all pairs
pairs_one : (f g : ℕ → ℕ → ℕ) (a b k : ℕ) → a < k → b < k → ((q p : ℕ) → ((q ≡ a) × (p ≡ b) → ⊥) → f q p ≡ g q p) → sum_below (λ q. sum_below (f q) k) k + g a b ≡ sum_below (λ q. sum_below (g q) k) k + f a b
pairs_one f g a b k a<k b<k same =
    omega (arith, sum_one (λ q. sum_below (f q) k) (λ q. sum_below (g q) k) a k a<k (λ q other. sum_same (f q) (g q) k (λ p _. same q p (λ e. other e.0))), sum_one (f a) (g a) b k b<k (λ p other. same a p (λ e. other e.1)))

unfoldable pub table : (ℕ → ℕ → ℕ) → ℕ
table f = sum_below (λ q. sum_below (f q) 8) 8

pub table_one : (f g : ℕ → ℕ → ℕ) (a b : ℕ) → a < 8 → b < 8 → ((q p : ℕ) → ((q ≡ a) × (p ≡ b) → ⊥) → f q p ≡ g q p) → table f + g a b ≡ table g + f a b
unfolding table
table_one f g a b a8 b8 same = pairs_one f g a b 8 a8 b8 same

-- the weights of the messages on all links
unfoldable pub load : (Message → ℕ) → Links → ℕ
load weight links = table (λ q p. sum_by weight (links q p))

module _ (weight : Message → ℕ) where
  weigh_rest : (link : List Message) (m : Message) → link ≡ m ∷ drop 1 link → sum_by weight (drop 1 link) + weight m ≡ sum_by weight link
  weigh_rest link m e = omega (arith, ap (sum_by weight) e, sum_by-cons weight m (drop 1 link))

  -- one link changed
  load_one : (L M : Links) (a b : ℕ) → a < 8 → b < 8 → ((q p : ℕ) → ((q ≡ a) × (p ≡ b) → ⊥) → L q p ≡ M q p) → load weight L + sum_by weight (M a b) ≡ load weight M + sum_by weight (L a b)
  unfolding load
  load_one L M a b a8 b8 same = table_one (λ q p. sum_by weight (L q p)) (λ q p. sum_by weight (M q p)) a b a8 b8 (λ q p other. ap (sum_by weight) (same q p other))

  pub load_same : (L M : Links) → ((q p : ℕ) → L q p ≡ M q p) → load weight L ≡ load weight M
  unfolding load
  load_same L M same = grind (arith, nat_tests)

  module _ (n p : ℕ) (few : n ≤ 8) (mine : p < n) where
    load_gave : (L : Links) (effect : Effect) → Aimed n p effect → load weight (λ a b. gave p effect a b (L a b)) ≡ load weight L + sent_by weight effect
    load_gave L Nothing aimed = omega arith
    load_gave L (Write entry) aimed = omega arith
    load_gave L (Send q m) aimed =
        let own : gave p (Send q m) p q (L p q) ≡ L p q ++ (m ∷ []) = rw (eq-eqb p p refl, eq-eqb q q refl) in
        omega (arith, load_one (λ a b. gave p (Send q m) a b (L a b)) L p q (omega arith) (omega arith) (λ a b other. grind (arith, nat_tests, other)), ap (sum_by weight) own, sum_by_push weight (L p q) m)

    takes_first : (L : Links) (q : ℕ) (m : Message) → q < n → L q p ≡ m ∷ drop 1 (L q p) → load weight (λ a b. cond (eqb q a && eqb p b) (drop 1 (L a b)) (L a b)) + weight m ≡ load weight L
    takes_first L q m known first =
        let own : cond (eqb q q && eqb p p) (drop 1 (L q p)) (L q p) ≡ drop 1 (L q p) = rw (eq-eqb p p refl, eq-eqb q q refl) in
        omega (arith, load_one (λ a b. cond (eqb q a && eqb p b) (drop 1 (L a b)) (L a b)) L q p (omega arith) (omega arith) (λ a b other. grind (arith, nat_tests, other)), ap (sum_by weight) own, weigh_rest (L q p) m first)

    hears_first : (L : Links) (effect : Effect) (q : ℕ) (m : Message) → q < n → q ≢ p → L q p ≡ m ∷ drop 1 (L q p) → Aimed n p effect → load weight (λ a b. cond (eqb q a && eqb p b) (drop 1 (gave p effect a b (L a b))) (gave p effect a b (L a b))) + weight m ≡ load weight L + sent_by weight effect
    hears_first L effect q m known other first aimed =
        takes_first (λ a b. gave p effect a b (L a b)) q m known (rw (gave_away p effect q (L q p) other) first) ∙ load_gave L effect aimed

    moves : (s : State) (who : Member) (row : Row) (J : List ℕ) (input : Input) (r : Response) → who.ledgers ≡ n → who.number ≡ p → Rule who row J input r → First s p input → Aimed n p r.effect → load weight (λ a b. took p input a b (gave p r.effect a b (s.links a b))) + taken_by weight input ≡ load weight s.links + sent_by weight r.effect
    moves s who row J begins r e f rule first aimed = omega (arith, load_gave s.links r.effect aimed)
    moves s who row J steps r e f rule first aimed = omega (arith, load_gave s.links r.effect aimed)
    moves s who row J (hears q m) r e f (running, other, known, does) first aimed = hears_first s.links r.effect q m (omega arith) (λ same. other (same ∙ sym f)) first aimed
    moves s who row J (expires q) r e f rule first aimed = omega (arith, load_gave s.links r.effect aimed)
    moves s who row J stops r e f rule first aimed = omega (arith, load_gave s.links r.effect aimed)
    moves s who row J restarts r e f rule first aimed = omega (arith, load_gave s.links r.effect aimed)
    moves s who row J (misses q m) r e f (halted, other, known, does) first aimed = hears_first s.links r.effect q m (omega arith) (λ same. other (same ∙ sym f)) first aimed

    -- what a move puts on the links, and takes from them
    pub load_moves : (s s' : State) (input : Input) (r : Response) → s.ledgers ≡ n → Move s p input r s' → Aimed n p r.effect → load weight s'.links + taken_by weight input ≡ load weight s.links + sent_by weight r.effect
    load_moves s s' input r same move aimed =
        ap (λ k. k + taken_by weight input) (load_same s'.links (λ a b. took p input a b (gave p r.effect a b (s.links a b))) move.changes.link)
        ∙ moves s (member_of s p) (row_of s p) (s.entries p) input r same refl move.rule move.first aimed

weigh_one : (link : List Message) → sum_by one link ≡ length link
weigh_one [] = refl
weigh_one (m ∷ link) = omega (arith, sum_by-cons one m link, weigh_one link)

-- the number of messages on their way
pub load_one_each : (s : State) → load one s.links ≡ on_the_way s
unfolding load table on_the_way
load_one_each s = sum_same (λ q. sum_below (λ p. sum_by one (s.links q p)) 8) (λ q. sum_below (λ p. length (s.links q p)) 8) 8 (λ q _. sum_same (λ p. sum_by one (s.links q p)) (λ p. length (s.links q p)) 8 (λ p _. weigh_one (s.links q p)))

-- nothing is on its way at first
pub load_none : (weight : Message → ℕ) → load weight no_links ≡ 0
unfolding load table
load_none weight = refl
