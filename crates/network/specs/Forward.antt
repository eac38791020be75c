-- Moving messages from one link to another.
use Rattle.std.specs.Prelude.{◌≡◌, ℕ, zero, suc, cond, ◌++◌, is_ok, Ok, Err, Result}
use Rattle.network.specs.Links.{Links, look_answer, put_after, put_answer, take_after}
use Rattle.network.specs.declared.fault.NetworkFault.{NetworkFault}
use Rattle.network.specs.declared.link.Link.{Link}
use Rattle.network.specs.declared.message.Message.{Message}

-- what a message that was looked at comes to: the refusal of the look, or of the put
abbrev pub put_looked : Result Message NetworkFault → Result Unit NetworkFault → Result Unit NetworkFault
put_looked (Ok message) put = put
put_looked (Err fault) put = Err fault

abbrev pub one_answer : ℕ → Links → Link → Link → Result Unit NetworkFault
one_answer depth links from to = put_looked (look_answer links from.sender from.receiver) (put_answer depth links to.sender to.receiver)

abbrev pub moved : ℕ → Links → Link → Link → Result Message NetworkFault → Links
moved depth links from to (Ok message) = take_after (put_after depth links to.sender to.receiver message) from.sender from.receiver
moved depth links from to (Err fault) = links

abbrev pub one_after : ℕ → Links → Link → Link → Links
one_after depth links from to = cond (is_ok (one_answer depth links from to)) (moved depth links from to (look_answer links from.sender from.receiver)) links

-- one after the other, until a refusal
abbrev pub all_answer : ℕ → ℕ → Links → Link → Link → Result Unit NetworkFault
all_answer zero depth links from to = Ok tt
all_answer (suc n) depth links from to = cond (is_ok (one_answer depth links from to)) (all_answer n depth (one_after depth links from to) from to) (one_answer depth links from to)

abbrev pub all_after : ℕ → ℕ → Links → Link → Link → Links
all_after zero depth links from to = links
all_after (suc n) depth links from to = cond (is_ok (one_answer depth links from to)) (all_after n depth (one_after depth links from to) from to) links

-- what lies on the target, and then what lies on the source, stays one and the same list: nothing is lost, made or overtaken
abbrev pub Together : Links → Links → Link → Link → Type 0
Together before after from to =
    ((from.sender ≡ to.sender) × (from.receiver ≡ to.receiver) → ⊥)
    → after to.sender to.receiver ++ after from.sender from.receiver ≡ before to.sender to.receiver ++ before from.sender from.receiver
