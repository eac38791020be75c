-- What a lawful list of sent messages tells of each link, and so why a pool is a network.
use Rattle.std.specs.Prelude.{◌≡◌, ℕ, ◌<◌, ◌≤◌, true, false, not, ◌&&◌, List, [], ◌∷◌, map, length, filter, ◌==◌, nat_le, nat_lt, refl}
use Rattle.std.proofs.Common.{⊎_elim, arith}
use Rattle.std.proofs.Math.Path.{ap}
use Rattle.std.proofs.ByRecursion.{All-weaker}
use Rattle.std.proofs.lemmas.Bool.{and_parts, leb-true, ltb-true, cases_Bool}
use Rattle.std.proofs.lemmas.Bool.Decides.{nat_tests}
use Rattle.std.specs.List.{AllByRecursion}
use Rattle.network.specs.Links.{is_link}
use Rattle.network.specs.declared.message.Message.{Message}
use Rattle.owned.proofs.EveryFacts.{decides_every, decides_below}
use Rattle.owned.specs.Every.{every, every_below}
use Rattle.pool.specs.Sent.{is_on, link_of, lawful}
use Rattle.pool.specs.Pool.{links_of, sent_of}
use Rattle.pool.specs.declared.Pool.{Pool}
use Rattle.pool.specs.declared.sent.Sent.{Sent}

abbrev pub message_in : Sent → Message
message_in s = s.message

pub on_ends : (q p : ℕ) → is_link q p ≡ true → (q < 8) × (p < 8)
unfolding is_link
on_ends q p link =
    let a = and_parts (nat_lt q 8) (nat_lt p 8 && not (q == p)) link in
    let b = and_parts (nat_lt p 8) (not (q == p)) a.1 in
    (ltb-true q 8 a.0, ltb-true p 8 b.0)

module _ (sent : List Sent) (law : lawful sent ≡ true) where
  parts : (every (λ s. is_link s.link.sender s.link.receiver) sent ≡ true) × (every_below (λ q. every_below (λ p. nat_le (length (link_of q p sent)) 2) 8) 8 ≡ true)
  unfolding lawful
  parts = and_parts (every (λ s. is_link s.link.sender s.link.receiver) sent) (every_below (λ q. every_below (λ p. nat_le (length (link_of q p sent)) 2) 8) 8) law

  pub on_links : AllByRecursion (λ s. is_link s.link.sender s.link.receiver ≡ true) sent
  on_links = (decides_every (λ s. is_link s.link.sender s.link.receiver) sent).0 parts.0

  few : (q p : ℕ) → q < 8 → p < 8 → length (link_of q p sent) ≤ 2
  few q p q8 p8 =
      let row = (decides_below (λ a. every_below (λ b. nat_le (length (link_of a b sent)) 2) 8) 8).0 parts.1 q q8 in
      leb-true (length (link_of q p sent)) 2 ((decides_below (λ b. nat_le (length (link_of q b sent)) 2) 8).0 row p p8)

  pub none_outside : (q p : ℕ) → is_link q p ≡ false → link_of q p sent ≡ []
  unfolding is_link
  none_outside q p outside =
      ap (map message_in) (none_kept sent (All-weaker (λ s. is_link s.link.sender s.link.receiver ≡ true) (λ s. is_on q p s ≡ false) (λ s e. other s e) sent on_links))
    where
      other : (s : Sent) → is_link s.link.sender s.link.receiver ≡ true → is_on q p s ≡ false
      other s e = grind (arith, nat_tests)

      none_kept : (xs : List Sent) → AllByRecursion (λ s. is_on q p s ≡ false) xs → filter (is_on q p) xs ≡ []
      none_kept [] tt = refl
      none_kept (x ∷ xs) h = rw h.0 (none_kept xs h.1)

  pub at_most_2 : (q p : ℕ) → length (link_of q p sent) ≤ 2
  at_most_2 q p = ⊎_elim (λ link. let ends = on_ends q p link in few q p ends.0 ends.1) (λ outside. omega (arith, ap length (none_outside q p outside))) (cases_Bool (is_link q p))

-- what every network promises, of a pool
pub short_links : (pool : Pool) (q p : ℕ) → length (links_of pool q p) ≤ 2
short_links pool q p = at_most_2 (sent_of pool) pool.kept q p

pub no_other_links : (pool : Pool) (q p : ℕ) → is_link q p ≡ false → links_of pool q p ≡ []
no_other_links pool q p outside = none_outside (sent_of pool) pool.kept q p outside
