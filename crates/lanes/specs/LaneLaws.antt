-- Why lanes are a network: no ring holds more than four messages, and none lies outside the links.
use Rattle.std.specs.Prelude.{◌≡◌, ℕ, zero, suc, ◌+◌, ◌*◌, ◌≤◌, true, false, cond, List, [], ◌∷◌, map, length, slice_index_or, refl}
use Rattle.std.proofs.Common.{ap, ◌%◌, arith}
use Rattle.network.specs.Links.{is_link}
use Rattle.network.specs.declared.message.Message.{Message}
use Rattle.lanes.specs.Lanes.{links_of}
use Rattle.lanes.specs.Rings.{messages, round}
use Rattle.lanes.specs.declared.Lanes.{Lanes}
use Rattle.lanes.specs.declared.ring.Ring.{Ring}

pub round_length : (slots : List Message) (h n : ℕ) → length (round slots h n) ≡ n
round_length slots h zero = refl
round_length slots h (suc n) = ap suc (round_length slots ((h + 1) % 4) n)

-- what holds of no messages and of the messages of each ring holds of each place's
each_ring : (P : List Message → Type 0) → P [] → (rings : List Ring) → ((ring : Ring) → P (messages ring)) → (i : ℕ) → P (slice_index_or (map messages rings) i [])
each_ring P none [] every i = none
each_ring P none (ring ∷ rings) every zero = every ring
each_ring P none (ring ∷ rings) every (suc i) = each_ring P none rings every i

-- every link holds as many as a ring at most
pub at_most_4 : (lanes : Lanes) (q p : ℕ) → length (links_of lanes q p) ≤ 4
at_most_4 lanes q p =
    elim (is_link q p) as (λ b. length (cond b (slice_index_or (map messages lanes.rings) (8 * q + p) []) []) ≤ 4) [
      | true ↦ each_ring (λ ms. length ms ≤ 4) (omega arith) lanes.rings (λ ring. omega (arith, round_length ring.slots ring.head ring.len)) (8 * q + p)
      | false ↦ omega arith
    ]

pub none_outside : (lanes : Lanes) (q p : ℕ) → is_link q p ≡ false → links_of lanes q p ≡ []
none_outside lanes q p outside = rw outside
