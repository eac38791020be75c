-- One move among many.
use Rattle.std.proofs.Common.{◌≡◌, ℕ, zero, suc, Bool, true, false, cond, List, [], ◌∷◌, ◌++◌, drop, is_ok, Ok, Err, Result, sym, refl, ap, ap₂, ◌∙◌, append_assoc, arith}
use Rattle.std.specs.Option.{ok_or}
use Rattle.std.specs.List.{slice_get}
use Rattle.network.specs.Forward.{Together, all_after, all_answer, moved, one_after, one_answer, put_looked}
use Rattle.network.specs.Links.{Links, check, is_link, look_answer, put_after, put_answer, take_after, with_link}
use Rattle.network.specs.Refusals.{refused}
use Rattle.network.specs.declared.fault.NetworkFault.{NetworkFault}
use Rattle.network.specs.declared.fault.NetworkRefusal.TheVariants.{NothingThere, UnknownLedger}
use Rattle.network.specs.declared.link.Link.{Link}
use Rattle.network.specs.declared.message.Message.{Message}
use Rattle.network.proofs.LinkFacts.{with_other, with_own}

module _ (depth : ℕ) (L : Links) (from to : Link) (n left : ℕ) (more : n ≡ suc left) where
  pub stopped_answer : (fault : NetworkFault) → one_answer depth L from to ≡ Err fault → all_answer n depth L from to ≡ Err fault
  stopped_answer fault e = rw (more, e)

  pub stopped_after : (fault : NetworkFault) → one_answer depth L from to ≡ Err fault → one_after depth L from to ≡ all_after n depth L from to
  stopped_after fault e = rw (more, e)

  pub went_on_answer : one_answer depth L from to ≡ Ok tt → all_answer n depth L from to ≡ all_answer left depth (one_after depth L from to) from to
  went_on_answer e = rw (more, e)

  pub went_on_after : one_answer depth L from to ≡ Ok tt → all_after n depth L from to ≡ all_after left depth (one_after depth L from to) from to
  went_on_after e = rw (more, e)

first_and_rest : (f g : NetworkFault) (link : Bool) (ms : List Message) (m : Message) → cond link (ok_or (slice_get ms 0) f) (Err g) ≡ Ok m → ms ≡ m ∷ drop 1 ms
first_and_rest f g true [] m e = absurd (let z : ◌≡◌ {A = ℕ} 0 1 = cc in omega arith)
first_and_rest f g true (x ∷ ms) m e = let same : x ≡ m = cc in ap (λ y. y ∷ ms) same
first_and_rest f g false ms m e = absurd (let z : ◌≡◌ {A = ℕ} 0 1 = cc in omega arith)

module _ (depth : ℕ) (from to : Link) where
  -- the message that was looked at, taken from its link after it was put on the other
  moved_together : (L : Links) (m : Message) → look_answer L from.sender from.receiver ≡ Ok m → put_answer depth L to.sender to.receiver ≡ Ok tt → Together L (take_after (put_after depth L to.sender to.receiver m) from.sender from.receiver) from to
  moved_together L m looked put apart =
      let a = from.sender in
      let b = from.receiver in
      let q = to.sender in
      let p = to.receiver in
      let P = with_link L q p (L q p ++ (m ∷ [])) in
      let same = with_other L q p a b (L q p ++ (m ∷ [])) apart in
      let still = ap (λ ms. check (is_link a b) (refused a b UnknownLedger) (ok_or (slice_get ms 0) (refused a b NothingThere))) same ∙ looked in
      let taken = ap (λ r. cond (is_ok r) (with_link P a b (drop 1 (P a b))) P) still in
      let target = with_other P a b q p (drop 1 (P a b)) (λ e. apart (sym e.0, sym e.1)) ∙ with_own L q p (L q p ++ (m ∷ [])) in
      let source = with_own P a b (drop 1 (P a b)) ∙ ap (drop 1) same in
      let whole = ap (λ (r : Result Unit NetworkFault). take_after (cond (is_ok r) P L) a b) put ∙ taken in
      ap₂ ◌++◌ (ap (λ (M : Links). M q p) whole ∙ target) (ap (λ (M : Links). M a b) whole ∙ source) ∙ append_assoc (L q p) (m ∷ []) (drop 1 (L a b)) ∙ ap (λ ms. L q p ++ ms) (sym (first_and_rest (refused a b NothingThere) (refused a b UnknownLedger) (is_link a b) (L a b) m looked))

  one_together : (L : Links) → Together L (one_after depth L from to) from to
  one_together L apart = by_look (look_answer L from.sender from.receiver) refl (put_answer depth L to.sender to.receiver) refl
    where
      by_look : (look : Result Message NetworkFault) → look_answer L from.sender from.receiver ≡ look → (put : Result Unit NetworkFault) → put_answer depth L to.sender to.receiver ≡ put → cond (is_ok (put_looked look put)) (moved depth L from to look) L to.sender to.receiver ++ cond (is_ok (put_looked look put)) (moved depth L from to look) L from.sender from.receiver ≡ L to.sender to.receiver ++ L from.sender from.receiver
      by_look (Ok m) looked (Ok x) put = moved_together L m looked put apart
      by_look (Ok m) looked (Err f) put = refl
      by_look (Err f) looked put e = refl

  all_together : (n : ℕ) (L : Links) → Together L (all_after n depth L from to) from to
  all_together zero L apart = refl
  all_together (suc n) L apart =
      elim (is_ok (one_answer depth L from to)) as (λ b. cond b (all_after n depth (one_after depth L from to) from to) L to.sender to.receiver ++ cond b (all_after n depth (one_after depth L from to) from to) L from.sender from.receiver ≡ L to.sender to.receiver ++ L from.sender from.receiver) [
        | true ↦ all_together n (one_after depth L from to) apart ∙ one_together L apart
        | false ↦ refl
      ]

  pub still_together : (n : ℕ) (L M : Links) → M ≡ all_after n depth L from to → Together L M from to
  still_together n L M e = rw e (all_together n L)
