-- What questions about all ledgers tell of each.
use Rattle.std.proofs.Common.{◌≡◌, ℕ, zero, suc, ◌<◌, ◌≤◌, Bool, true, false, ◌≢◌, List, [], ◌∷◌, is_err, sym, refl, ⊎_elim, arith}
use Rattle.std.proofs.lemmas.Bool.{and_cases, and_from, and_parts, cases_eq, true≢false}
use Rattle.std.proofs.lemmas.Bool.Decides.{nat_tests}
use Rattle.std.specs.Option.{ok_or}
use Rattle.std.specs.List.{slice_get}
use Rattle.network.specs.Links.{is_link}
use Rattle.protocol.specs.Bounded.{all_below}
use Rattle.protocol.specs.Rest.{all_clear, clear, clear_from}
use Rattle.protocol.specs.State.{State}

pub below : (test : ℕ → Bool) (n : ℕ) → all_below test n ≡ true → (k : ℕ) → k < n → test k ≡ true
unfolding all_below
below test zero all k low = absurd (omega arith)
below test (suc n) all k low =
    let parts = and_parts (all_below test n) (test n) all in
    ⊎_elim (λ (same : k ≡ n). rw same parts.1) (λ other. below test n parts.0 k (omega (arith, other))) (cases_eq k n)

pub all_of : (test : ℕ → Bool) (n : ℕ) → ((k : ℕ) → k < n → test k ≡ true) → all_below test n ≡ true
unfolding all_below
all_of test zero each = refl
all_of test (suc n) each = and_from (all_below test n) (test n) (all_of test n (λ k low. each k (omega arith))) (each n (omega arith))

-- one that does not pass
pub some_below : (test : ℕ → Bool) (n : ℕ) → all_below test n ≡ false → (i : ℕ) × (i < n) × (test i ≡ false)
unfolding all_below
some_below test zero all = absurd (true≢false all)
some_below test (suc n) all =
    ⊎_elim (λ rest. let it = some_below test n rest in (it.0, omega (arith, it.1), it.2)) (λ here. (n, omega arith, here)) (and_cases (all_below test n) (test n) all)

-- where nothing stands first, nothing stands at all
pub none_first : {A E : Type 0} (fault : E) (list : List A) → is_err (ok_or (slice_get list 0) fault) ≡ true → list ≡ []
none_first fault [] e = refl
none_first fault (x ∷ xs) e = absurd (true≢false (sym e))

pub link_between : (q p : ℕ) → q < 8 → p < 8 → q ≢ p → is_link q p ≡ true
unfolding is_link
link_between q p low high other = grind (arith, nat_tests)

pub clear_empty : (s : State) (q p : ℕ) → q < 8 → p < 8 → q ≢ p → clear s q p ≡ true → s.links q p ≡ []
clear_empty s q p low high other e = none_first _ (s.links q p) (rw (link_between q p low high other) at e)

pub all_empty : (s : State) (n : ℕ) → s.ledgers ≡ n → n ≤ 8 → all_clear s ≡ true → (q p : ℕ) → q < n → p < n → q ≢ p → s.links q p ≡ []
all_empty s n same few all q p low high other =
    let from = below (clear_from s) s.ledgers all q (omega arith) in
    clear_empty s q p (omega arith) (omega arith) other (below (clear s q) s.ledgers from p (omega arith))
