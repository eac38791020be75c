-- What lists of sent messages tell, when one more is sent, and when the first of a link is removed.
use Rattle.std.specs.Prelude.{◌≡◌, ℕ, zero, suc, ◌+◌, ◌<◌, ◌≤◌, Bool, true, false, cond, not, ◌&&◌, ◌||◌, List, [], ◌∷◌, ◌++◌, map, length, get_or, take, drop, Some, None, filter, ◌==◌, nat_le, slice_index_or, refl}
use Rattle.std.proofs.Common.{sym, ◌∙◌, arith}
use Rattle.std.proofs.Math.Path.{ap}
use Rattle.std.proofs.lemmas.List.Elements.{filter-append}
use Rattle.std.proofs.ByRecursion.{All-append, All-take, All-drop, All-push, All-weaker}
use Rattle.std.proofs.lemmas.List.{length-append, length-map, map-append, append-nil, take-append-drop, drop_more, nil_from_length}
use Rattle.std.proofs.lemmas.Bool.{and_parts, and_from, le-leb, eqb-true}
use Rattle.std.specs.List.{AllByRecursion}
use Rattle.network.specs.Links.{is_link}
use Rattle.network.specs.declared.link.Link.{Link}
use Rattle.network.specs.declared.message.Message.TheVariants.{Prepare}
use Rattle.owned.proofs.Crowd.{owned_by, crowd}
use Rattle.owned.proofs.EveryFacts.{decides_every, decides_below}
use Rattle.owned.proofs.Kept.{next_some, next_none}
use Rattle.owned.specs.Every.{every, every_below}
use Rattle.owned.specs.Search.{next_of}
use Rattle.pool.specs.Sent.{is_on, link_of, lawful}
use Rattle.pool.specs.SentLaws.{at_most_2, message_in, on_ends, on_links}
use Rattle.pool.specs.declared.sent.Sent.{Sent}

-- what the search tells of the messages that are left
module _ (q p : ℕ) (sent : List Sent) (start : ℕ) where
  pub link_next : (i : ℕ) (d : Sent) → next_of (is_on q p) sent start ≡ Some i → link_of q p (drop start sent) ≡ (get_or sent i d).message ∷ link_of q p (drop (i + 1) sent)
  link_next i d e = ap (map message_in) ((next_some (is_on q p) sent start i e).splits d)

  pub link_end : next_of (is_on q p) sent start ≡ None → link_of q p (drop start sent) ≡ []
  link_end e = ap (map message_in) (next_none (is_on q p) sent start e)

pub link_push : (q p : ℕ) (sent : List Sent) (s : Sent) → link_of q p (sent ++ (s ∷ [])) ≡ cond (is_on q p s) (link_of q p sent ++ (s.message ∷ [])) (link_of q p sent)
link_push q p sent s =
    ap (map message_in) (filter-append (is_on q p) sent (s ∷ [])) ∙ map-append message_in (filter (is_on q p) sent) (cond (is_on q p s) (s ∷ []) [])
    ∙ elim (is_on q p s) as (λ b. link_of q p sent ++ map message_in (cond b (s ∷ []) []) ≡ cond b (link_of q p sent ++ (s.message ∷ [])) (link_of q p sent)) [ true ↦ refl | false ↦ append-nil _ ]

from_parts : (sent : List Sent) → AllByRecursion (λ s. is_link s.link.sender s.link.receiver ≡ true) sent → ((q p : ℕ) → length (link_of q p sent) ≤ 2) → lawful sent ≡ true
unfolding lawful
from_parts sent links short =
    and_from (every (λ s. is_link s.link.sender s.link.receiver) sent) (every_below (λ q. every_below (λ p. nat_le (length (link_of q p sent)) 2) 8) 8)
    ((decides_every (λ s. is_link s.link.sender s.link.receiver) sent).1 links)
    ((decides_below (λ q. every_below (λ p. nat_le (length (link_of q p sent)) 2) 8) 8).1 (λ q q8. (decides_below (λ p. nat_le (length (link_of q p sent)) 2) 8).1 (λ p p8. le-leb (length (link_of q p sent)) 2 (short q p))))

-- the 56 links
abbrev on : Sent → Link → Bool
on s l = s.link.sender == l.sender && s.link.receiver == l.receiver

abbrev from_ledger : ℕ → ℕ → List Link
from_ledger q zero = []
from_ledger q (suc p) = record { sender = q; receiver = p } ∷ from_ledger q p

abbrev pairs_below : ℕ → List Link
pairs_below zero = []
pairs_below (suc q) = from_ledger q 8 ++ pairs_below q

abbrev pairs : List Link
pairs = filter (λ l. is_link l.sender l.receiver) (pairs_below 8)

all_links : AllByRecursion (λ l. is_link l.sender l.receiver ≡ true) pairs
unfolding is_link
all_links = (decides_every (λ l. is_link l.sender l.receiver) pairs).0 refl

covered : (s : Sent) → is_link s.link.sender s.link.receiver ≡ true → owned_by on pairs s ≡ true
unfolding is_link
covered s link =
    let at_sender = (decides_below (λ q. every_below (seen q) 8) 8).0 refl s.link.sender (on_ends s.link.sender s.link.receiver link).0 in
    let here = (decides_below (seen s.link.sender) 8).0 at_sender s.link.receiver (on_ends s.link.sender s.link.receiver link).1 in
    rw link at here
  where
    -- a pair of ledgers is no link, or is among the 56
    seen : ℕ → ℕ → Bool
    seen q p = not (is_link q p) || owned_by on pairs (record { link = record { sender = q; receiver = p }; message = Prepare })

module _ (sent : List Sent) (law : lawful sent ≡ true) where
  pub lawful_push : (s : Sent) → is_link s.link.sender s.link.receiver ≡ true → length (link_of s.link.sender s.link.receiver sent) < 2 → lawful (sent ++ (s ∷ [])) ≡ true
  lawful_push s link room =
      from_parts (sent ++ (s ∷ [])) (All-push (λ x. is_link x.link.sender x.link.receiver ≡ true) sent s (on_links sent law) link)
      (λ q p. still q p (is_on q p s) refl)
    where
      still : (q p : ℕ) (own : Bool) → is_on q p s ≡ own → length (link_of q p (sent ++ (s ∷ []))) ≤ 2
      still q p true own =
          let ends = and_parts (s.link.sender == q) (s.link.receiver == p) own in
          let same : link_of s.link.sender s.link.receiver sent ≡ link_of q p sent = ap (λ a. link_of a s.link.receiver sent) (eqb-true s.link.sender q ends.0) ∙ ap (λ b. link_of q b sent) (eqb-true s.link.receiver p ends.1) in
          rw (link_push q p sent s, own) (omega (arith, length-append (link_of q p sent) (s.message ∷ []), ap length same))
      still q p false other = rw (link_push q p sent s, other) (at_most_2 sent law q p)

  -- two messages on each of 56 links
  pub at_most_112 : length sent ≤ 112
  unfolding is_link
  at_most_112 = crowd on pairs 2 sent (All-weaker (λ s. is_link s.link.sender s.link.receiver ≡ true) (λ s. owned_by on pairs s ≡ true) covered sent (on_links sent law)) (All-weaker (λ l. is_link l.sender l.receiver ≡ true) (λ l. length (filter (λ s. on s l) sent) ≤ 2) (λ l e. rw length-map at (at_most_2 sent law l.sender l.receiver)) pairs all_links)

-- the list without the message at i
module _ (sent : List Sent) (i : ℕ) (d : Sent) (within : i < length sent) where
  abbrev gone : Sent
  gone = slice_index_or sent i d

  abbrev left : List Sent
  left = take i sent ++ drop (i + 1) sent

  around : sent ≡ take i sent ++ (gone ∷ drop (i + 1) sent)
  around = sym (take-append-drop i sent) ∙ ap (λ xs. take i sent ++ xs) (drop_more sent i d within)

  kept_around : (q p : ℕ) → filter (is_on q p) sent ≡ filter (is_on q p) (take i sent) ++ filter (is_on q p) (gone ∷ drop (i + 1) sent)
  kept_around q p = ap (filter (is_on q p)) around ∙ filter-append (is_on q p) (take i sent) (gone ∷ drop (i + 1) sent)

  kept_left : (q p : ℕ) → filter (is_on q p) left ≡ filter (is_on q p) (take i sent) ++ filter (is_on q p) (drop (i + 1) sent)
  kept_left q p = filter-append (is_on q p) (take i sent) (drop (i + 1) sent)

  pub other_link : (q p : ℕ) → is_on q p gone ≡ false → link_of q p left ≡ link_of q p sent
  other_link q p other = ap (map message_in) (kept_left q p ∙ sym (kept_around q p ∙ rw other))

  pub own_first : (q p : ℕ) → next_of (is_on q p) sent 0 ≡ Some i → link_of q p left ≡ drop 1 (link_of q p sent)
  own_first q p found =
      let next = next_some (is_on q p) sent 0 i found in
      let whole : filter (is_on q p) sent ≡ gone ∷ filter (is_on q p) (drop (i + 1) sent) = next.splits d in
      let long = ap length (kept_around q p) ∙ length-append (filter (is_on q p) (take i sent)) (filter (is_on q p) (gone ∷ drop (i + 1) sent)) in
      let one : length (filter (is_on q p) (gone ∷ drop (i + 1) sent)) ≡ suc (length (filter (is_on q p) (drop (i + 1) sent))) = rw (next.passes d) in
      let none = nil_from_length (filter (is_on q p) (take i sent)) (omega (arith, long, one, ap length whole)) in
      ap (map message_in) (kept_left q p ∙ ap (λ xs. xs ++ filter (is_on q p) (drop (i + 1) sent)) none) ∙ sym (ap (λ xs. drop 1 (map message_in xs)) whole)

  pub still_lawful : lawful sent ≡ true → lawful left ≡ true
  still_lawful law =
      from_parts left (All-append (λ s. is_link s.link.sender s.link.receiver ≡ true) (take i sent) (drop (i + 1) sent) (All-take (λ s. is_link s.link.sender s.link.receiver ≡ true) i sent (on_links sent law)) (All-drop (λ s. is_link s.link.sender s.link.receiver ≡ true) (i + 1) sent (on_links sent law)))
      (λ q p. no_longer q p (is_on q p gone) refl)
    where
      no_longer : (q p : ℕ) (own : Bool) → is_on q p gone ≡ own → length (link_of q p left) ≤ 2
      no_longer q p true own =
          let one : length (filter (is_on q p) (gone ∷ drop (i + 1) sent)) ≡ suc (length (filter (is_on q p) (drop (i + 1) sent))) = rw own in
          let before = ap length (kept_around q p) ∙ length-append (filter (is_on q p) (take i sent)) (filter (is_on q p) (gone ∷ drop (i + 1) sent)) in
          let after = ap length (kept_left q p) ∙ length-append (filter (is_on q p) (take i sent)) (filter (is_on q p) (drop (i + 1) sent)) in
          rw length-map (omega (arith, one, before, after, rw length-map at (at_most_2 sent law q p)))
      no_longer q p false other = rw (other_link q p other) (at_most_2 sent law q p)
