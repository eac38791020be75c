-- What the tests of each element and of each number tell.
use Rattle.std.proofs.Common.{◌≡◌, ℕ, ◌<◌, Bool, true, List, Decides, refl}
use Rattle.std.proofs.lemmas.Bool.Decides.{Decides-below_and}
use Rattle.std.proofs.ByRecursion.{Decides-by_and}
use Rattle.std.specs.List.{AllByRecursion}
use Rattle.owned.specs.Every.{every, every_below}

pub decides_every : {X : Type 0} (test : X → Bool) (xs : List X) → Decides (every test xs) (AllByRecursion (λ x. test x ≡ true) xs)
decides_every test = Decides-by_and test (λ x. test x ≡ true) (every test) (λ x. ((λ e. e), (λ e. e))) refl (λ _ _. refl)

pub decides_below : (test : ℕ → Bool) (n : ℕ) → Decides (every_below test n) ((k : ℕ) → k < n → test k ≡ true)
decides_below test = Decides-below_and test (λ k. test k ≡ true) (every_below test) (λ k. ((λ e. e), (λ e. e))) refl (λ _. refl)
