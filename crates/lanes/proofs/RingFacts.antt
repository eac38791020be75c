-- Going round a ring.
use Rattle.std.specs.Prelude.{◌≡◌, ℕ, zero, suc, ◌+◌, ◌-◌, ◌%◌, ◌<◌, ◌≢◌, List, [], ◌∷◌, ◌++◌, length, drop, Some, slice_index_or, slice_set, refl}
use Rattle.std.proofs.Common.{ap, ◌∙◌, add-one, arith}
use Rattle.std.proofs.lemmas.List.{get_or-set_same, get_or-set_other}
use Rattle.std.specs.List.{slice_get}
use Rattle.network.specs.declared.message.Message.{Message}
use Rattle.network.specs.declared.message.Message.TheVariants.{Prepare}
use Rattle.lanes.specs.Rings.{round}

-- one message more at the end
round_more : (slots : List Message) (h n : ℕ) → h < 4 → round slots h (suc n) ≡ round slots h n ++ (slice_index_or slots ((h + n) % 4) Prepare ∷ [])
round_more slots h zero low = let same : h ≡ (h + 0) % 4 = omega arith in ap (λ k. slice_index_or slots k Prepare ∷ []) same
round_more slots h (suc n) low =
    let place : ((h + 1) % 4 + n) % 4 ≡ (h + suc n) % 4 = omega arith in
    ap (λ ms. slice_index_or slots h Prepare ∷ ms) (round_more slots ((h + 1) % 4) n (omega arith) ∙ ap (λ k. round slots ((h + 1) % 4) n ++ (slice_index_or slots k Prepare ∷ [])) place)

-- a place that is not gone over may change
round_other : (slots : List Message) (h n t : ℕ) (m : Message) → h < 4 → ((j : ℕ) → j < n → (h + j) % 4 ≢ t) → round (slice_set slots t m) h n ≡ round slots h n
round_other slots h zero t m low apart = refl
round_other slots h (suc n) t m low apart =
    let here : h ≢ t = λ e. apart 0 (omega arith) (omega (arith, e)) in
    let later : (j : ℕ) → j < n → ((h + 1) % 4 + j) % 4 ≢ t = λ j l e. apart (suc j) (omega arith) (omega (arith, e)) in
    ap (λ x. x ∷ round (slice_set slots t m) ((h + 1) % 4) n) (get_or-set_other slots t h m Prepare here) ∙ ap (λ ms. slice_index_or slots h Prepare ∷ ms) (round_other slots ((h + 1) % 4) n t m (omega arith) later)

pub round_push : (slots : List Message) (h n : ℕ) (m : Message) → length slots ≡ 4 → h < 4 → n < 4 → round (slice_set slots ((h + n) % 4) m) h (n + 1) ≡ round slots h n ++ (m ∷ [])
round_push slots h n m whole low room =
    let t = (h + n) % 4 in
    let apart : (j : ℕ) → j < n → (h + j) % 4 ≢ (h + n) % 4 = λ j l e. omega (arith, e) in
    rw add-one
    (round_more (slice_set slots t m) h n low ∙ ap (λ ms. ms ++ (slice_index_or (slice_set slots t m) t Prepare ∷ [])) (round_other slots h n t m low apart) ∙ ap (λ x. round slots h n ++ (x ∷ [])) (get_or-set_same slots t m Prepare (omega arith)))

-- one message less at the front
pub round_pop : (slots : List Message) (h n : ℕ) → (n ≢ 0) → round slots ((h + 1) % 4) (n - 1) ≡ drop 1 (round slots h n)
round_pop slots h zero some = absurd (some refl)
round_pop slots h (suc n) some = let back : suc n - 1 ≡ n = omega arith in ap (round slots ((h + 1) % 4)) back

pub round_first : (slots : List Message) (h n : ℕ) → (n ≢ 0) → Some (slice_index_or slots h Prepare) ≡ slice_get (round slots h n) 0
round_first slots h zero some = absurd (some refl)
round_first slots h (suc n) some = refl
