-- What a pool keeps, and how one message more is kept or one is taken out.
use Rattle.std.proofs.Common.{◌≡◌, ℕ, ◌+◌, ◌<◌, Bool, true, false, cond, ◌&&◌, eqb, List, [], ◌∷◌, ◌++◌, length, get_or, take, drop, Some, None, sym, refl, ap, ◌∙◌, add-one, arith}
use mathlib.Core.Path.{fun_ext}
use Rattle.std.specs.List.{remove, slice_get, slice_index_or}
use Rattle.std.proofs.lemmas.List.{length_push}
use Rattle.std.proofs.lemmas.Bool.{and_parts, eqb-true}
use Rattle.network.proofs.LinkFacts.{own_link}
use Rattle.network.specs.Links.{is_link, with_link}
use Rattle.network.specs.declared.link.Link.{Link}
use Rattle.network.specs.declared.message.Message.{Message}
use Rattle.network.specs.declared.message.Message.TheVariants.{Prepare}
use Rattle.owned.proofs.Kept.{Next, next_some}
use Rattle.owned.specs.Search.{next_of}
use Rattle.pool.specs.Pool.{links_of, sent_of}
use Rattle.pool.specs.Sent.{is_on, lawful, link_of}
use Rattle.pool.specs.declared.Pool.{Pool}
use Rattle.pool.specs.declared.sent.Sent.{Sent}
use Rattle.pool.proofs.SentFacts.{at_most_112, lawful_push, link_end, link_next, link_push, other_link, own_first, still_lawful}

module _ (pool : Pool) (link : Link) (known : is_link link.sender link.receiver ≡ true) (room : length (links_of pool link.sender link.receiver) < 2) (m : Message) where
  abbrev more : List Sent
  more = sent_of pool ++ (record { link = link; message = m } ∷ [])

  pub lawful_pushed : lawful more ≡ true
  lawful_pushed = lawful_push (sent_of pool) pool.kept (record { link = link; message = m }) known room

  pub space : length pool.table.items < 112
  space = omega (arith, at_most_112 more lawful_pushed, length_push (sent_of pool) (record { link = link; message = m }))

  pub links_pushed : (λ (q p : ℕ). link_of q p more) ≡ with_link (links_of pool) link.sender link.receiver (links_of pool link.sender link.receiver ++ (m ∷ []))
  links_pushed =
      fun_ext (λ a. fun_ext (λ b. link_push a b (sent_of pool) (record { link = link; message = m }) ∙ own_link (links_of pool) (λ xs. xs ++ (m ∷ [])) link.sender link.receiver a b))

-- the first message of a link
module _ (pool : Pool) (q p : ℕ) (sent : List Sent) (all : sent ≡ sent_of pool) where
  pub first_there : (i : ℕ) (d : Sent) → next_of (is_on q p) sent 0 ≡ Some i → Some (slice_index_or sent i d).message ≡ slice_get (links_of pool q p) 0
  first_there i d found = sym (ap (λ ms. slice_get ms 0) (link_next q p sent 0 i d found)) ∙ ap (λ xs. slice_get (link_of q p xs) 0) all

  pub none_there : next_of (is_on q p) sent 0 ≡ None → None ≡ slice_get (links_of pool q p) 0
  none_there e = sym (ap (λ ms. slice_get ms 0) (link_end q p sent 0 e)) ∙ ap (λ xs. slice_get (link_of q p xs) 0) all

blank : Sent
blank = record { link = record { sender = 0; receiver = 0 }; message = Prepare }

link_left : (sent : List Sent) (q p i : ℕ) → next_of (is_on q p) sent 0 ≡ Some i → (a b : ℕ) → link_of a b (take i sent ++ drop (i + 1) sent) ≡ cond (eqb q a && eqb p b) (drop 1 (link_of a b sent)) (link_of a b sent)
link_left sent q p i found a b = by_test (eqb q a && eqb p b) refl
  where
    next : Next (is_on q p) sent 0 i
    next = next_some (is_on q p) sent 0 i found

    ends : (eqb (get_or sent i blank).link.sender q ≡ true) × (eqb (get_or sent i blank).link.receiver p ≡ true)
    ends = and_parts (eqb (get_or sent i blank).link.sender q) (eqb (get_or sent i blank).link.receiver p) (next.passes blank)

    elsewhere : (eqb q a && eqb p b) ≡ false → is_on a b (get_or sent i blank) ≡ false
    elsewhere other = rw (eqb-true (get_or sent i blank).link.sender q ends.0, eqb-true (get_or sent i blank).link.receiver p ends.1) other

    by_test : (own : Bool) → (eqb q a && eqb p b) ≡ own → link_of a b (take i sent ++ drop (i + 1) sent) ≡ cond own (drop 1 (link_of a b sent)) (link_of a b sent)
    by_test true own =
        let same = and_parts (eqb q a) (eqb p b) own in
        let found_here = ap (λ x. next_of (is_on x b) sent 0) (sym (eqb-true q a same.0)) ∙ ap (λ y. next_of (is_on q y) sent 0) (sym (eqb-true p b same.1)) ∙ found in
        own_first sent i blank next.within a b found_here
    by_test false other = other_link sent i blank next.within a b (elsewhere other)

closed : (sent : List Sent) (i : ℕ) → remove sent i ≡ take i sent ++ drop (i + 1) sent
closed sent i = rw add-one refl

-- the first message of a link is taken out
module _ (pool : Pool) (q p i : ℕ) (sent rest : List Sent) (all : sent ≡ sent_of pool) (found : next_of (is_on q p) sent 0 ≡ Some i) (less : rest ≡ remove (sent_of pool) i) where
  at : next_of (is_on q p) (sent_of pool) 0 ≡ Some i
  at = rw all at found

  pub taken_there : (s : Sent) → s ≡ slice_index_or (sent_of pool) i s → Some s.message ≡ slice_get (links_of pool q p) 0
  taken_there s here = ap (λ (x : Sent). Some x.message) here ∙ first_there pool q p (sent_of pool) refl i s at

  pub lawful_left : lawful rest ≡ true
  lawful_left = rw (less, closed) (still_lawful (sent_of pool) i blank (next_some (is_on q p) (sent_of pool) 0 i at).within pool.kept)

  pub links_left : (λ (a b : ℕ). link_of a b rest) ≡ with_link (links_of pool) q p (drop 1 (links_of pool q p))
  links_left = fun_ext (λ a. fun_ext (λ b. ap (link_of a b) (less ∙ closed (sent_of pool) i) ∙ link_left (sent_of pool) q p i at a b ∙ own_link (links_of pool) (drop 1) q p a b))
