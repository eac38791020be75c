-- Lanes read at one link, and after one ring is stored.
use Rattle.std.specs.Prelude.{◌≡◌, ℕ, zero, suc, ◌+◌, ◌*◌, ◌<◌, Bool, true, false, cond, ◌&&◌, List, [], ◌∷◌, ◌++◌, map, length, drop, get_or, replicate, ◌==◌, slice_index_or, slice_set, refl}
use mathlib.Core.Path.{fun_ext}
use Rattle.std.proofs.Common.{ap, eqb, sym, ◌∙◌, arith}
use Rattle.std.proofs.lemmas.List.{length-map, get_or-map, get_or-set_same, get_or-set_other, map-set}
use Rattle.std.proofs.lemmas.Bool.{and_parts, eqb-true, lt-ltb, true≢false}
use Rattle.std.proofs.lemmas.Bool.Decides.{nat_tests}
use Rattle.network.proofs.LinkFacts.{own_link}
use Rattle.network.specs.Links.{Links, is_link, no_links, put_after, take_after, with_link}
use Rattle.network.specs.declared.message.Message.{Message}
use Rattle.lanes.specs.Lanes.{links_of}
use Rattle.lanes.specs.Rings.{messages}
use Rattle.lanes.specs.declared.Lanes.{Lanes}
use Rattle.lanes.specs.declared.ring.Ring.{Ring}

ends : (q p : ℕ) → is_link q p ≡ true → (q < 8) × (p < 8)
unfolding is_link
ends q p link = grind (arith, nat_tests)

-- two links have one place only if they are the same
one_place : (q p a b : ℕ) → p < 8 → b < 8 → (q == a && p == b) ≡ (8 * q + p == 8 * a + b)
one_place q p a b p8 b8 = grind (arith, nat_tests)

places_set : (lists : List (List Message)) (i j : ℕ) (list : List Message) → i < length lists → slice_index_or (slice_set lists i list) j [] ≡ cond (i == j) list (slice_index_or lists j [])
places_set lists i j list within = grind (arith, nat_tests, get_or-set_same lists i list [] within, get_or-set_other lists i j list [])

-- one ring changed among all
module _ (lanes : Lanes) (q p : ℕ) (link : is_link q p ≡ true) (whole : length lanes.rings ≡ 64) (ring : Ring) where
  abbrev pub rings : List Ring
  rings = slice_set lanes.rings (8 * q + p) ring

  long : 8 * q + p < length (map messages lanes.rings)
  long = let e = ends q p link in simp length-map (omega (arith, e.0, e.1, whole))

  stored : (a b : ℕ) → get_or (map messages rings) (8 * a + b) [] ≡ cond (8 * q + p == 8 * a + b) (messages ring) (slice_index_or (map messages lanes.rings) (8 * a + b) [])
  stored a b = rw map-set (places_set (map messages lanes.rings) (8 * q + p) (8 * a + b) (messages ring) long)

  apart : (a b : ℕ) → is_link a b ≡ false → (own : Bool) → (q == a && p == b) ≡ own → [] ≡ cond own (messages ring) []
  apart a b outside true own =
      let e = and_parts (q == a) (p == b) own in
      let same = ap (λ x. is_link x p) (eqb-true q a e.0) ∙ ap (is_link a) (eqb-true p b e.1) in
      absurd (true≢false (sym link ∙ same ∙ outside))
  apart a b outside false own = refl

  at_link : (a b : ℕ) (here : Bool) → is_link a b ≡ here → cond here (slice_index_or (map messages rings) (8 * a + b) []) [] ≡ cond (q == a && p == b) (messages ring) (cond here (slice_index_or (map messages lanes.rings) (8 * a + b) []) [])
  at_link a b true here = stored a b ∙ ap (λ t. cond t (messages ring) (slice_index_or (map messages lanes.rings) (8 * a + b) [])) (sym (one_place q p a b (ends q p link).1 (ends a b here).1))
  at_link a b false outside = apart a b outside (q == a && p == b) refl

  pub links_set : (λ (a b : ℕ). cond (is_link a b) (slice_index_or (map messages rings) (8 * a + b) []) []) ≡ with_link (links_of lanes) q p (messages ring)
  links_set = fun_ext (λ a. fun_ext (λ b. at_link a b (is_link a b) refl))

-- what a call leaves, told of the changed list
module _ (L : Links) (q p : ℕ) (link : is_link q p ≡ true) where
  put_one : (m : Message) → length (L q p) < 4 → with_link L q p (L q p ++ (m ∷ [])) ≡ put_after 4 L q p m
  put_one m room = rw (link, lt-ltb (length (L q p)) 4 room) refl

  put_back : with_link L q p (L q p) ≡ L
  put_back = fun_ext (λ a. fun_ext (λ b. sym (own_link L (λ ms. ms) q p a b) ∙ elim (eqb q a && eqb p b) as (λ t. cond t (L a b) (L a b) ≡ L a b) [ true ↦ refl | false ↦ refl ]))

  taken_one : with_link L q p (drop 1 (L q p)) ≡ take_after L q p
  taken_one = by_list (L q p) refl
    where
      by_list : (ms : List Message) → L q p ≡ ms → with_link L q p (drop 1 (L q p)) ≡ take_after L q p
      by_list [] none = rw link (rw none (ap (with_link L q p) (sym none) ∙ put_back))
      by_list (m ∷ ms) some = rw link (rw some refl)

-- a link's ring, before and after a call
module _ (lanes : Lanes) (q p place : ℕ) (link : is_link q p ≡ true) (at : place ≡ 8 * q + p) (whole : length lanes.rings ≡ 64) (d new : Ring) where
  abbrev old : Ring
  old = slice_index_or lanes.rings place d

  was : messages old ≡ links_of lanes q p
  was =
      let e = ends q p link in
      let low : place < length lanes.rings = omega (arith, e.0, e.1, at, whole) in
      sym (rw (link, ← at) (get_or-map messages lanes.rings place d [] low))

  changed : links_of (record { rings = slice_set lanes.rings place new }) ≡ with_link (links_of lanes) q p (messages new)
  changed = rw at (links_set lanes q p link whole new)

  pub put_there : (m : Message) → length (messages old) < 4 → messages new ≡ messages old ++ (m ∷ []) → links_of (record { rings = slice_set lanes.rings place new }) ≡ put_after 4 (links_of lanes) q p m
  put_there m room more = changed ∙ ap (with_link (links_of lanes) q p) (more ∙ ap (λ ms. ms ++ (m ∷ [])) was) ∙ put_one (links_of lanes) q p link m (omega (arith, room, ap length was))

  pub taken_there : messages new ≡ drop 1 (messages old) → links_of (record { rings = slice_set lanes.rings place new }) ≡ take_after (links_of lanes) q p
  taken_there less = changed ∙ ap (with_link (links_of lanes) q p) (less ∙ ap (drop 1) was) ∙ taken_one (links_of lanes) q p link

-- rings that are all empty
none_there : (ring : Ring) → messages ring ≡ [] → (n i : ℕ) → slice_index_or (map messages (replicate n ring)) i [] ≡ []
none_there ring none zero i = refl
none_there ring none (suc n) zero = none
none_there ring none (suc n) (suc i) = none_there ring none n i

pub none_new : (ring : Ring) → messages ring ≡ [] → (n : ℕ) → (λ (q p : ℕ). cond (is_link q p) (slice_index_or (map messages (replicate n ring)) (8 * q + p) []) []) ≡ no_links
none_new ring none n =
    fun_ext (λ q. fun_ext (λ p. elim (is_link q p) as (λ b. cond b (slice_index_or (map messages (replicate n ring)) (8 * q + p) []) [] ≡ []) [ true ↦ none_there ring none n (8 * q + p) | false ↦ refl ]))
