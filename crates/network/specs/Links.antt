-- What each call on a network answers, and how it moves the links.
use Rattle.std.specs.Prelude.{ℕ, Bool, cond, not, ◌&&◌, List, [], ◌∷◌, ◌++◌, length, drop, is_ok, Ok, Err, Result, ◌==◌, nat_lt}
use Rattle.std.specs.Option.{ok_or}
use Rattle.std.specs.List.{slice_get}
use Rattle.network.specs.Refusals.{refused}
use Rattle.network.specs.declared.fault.NetworkFault.{NetworkFault}
use Rattle.network.specs.declared.fault.NetworkRefusal.TheVariants.{UnknownLedger, NothingThere, LinkFull}
use Rattle.network.specs.declared.message.Message.{Message}

-- the messages on their way from q to p
abbrev pub Links : Type 0
Links = ℕ → ℕ → List Message

-- a new network
abbrev pub no_links : Links
no_links q p = []

-- two different ledgers from 0 to 7 make a link
unfoldable pub is_link : ℕ → ℕ → Bool
is_link q p = nat_lt q 8 && (nat_lt p 8 && not (q == p))

-- go on with the rest where the test holds, else refuse
abbrev pub check : {A : Type 0} → Bool → NetworkFault → Result A NetworkFault → Result A NetworkFault
check holds fault rest = cond holds rest (Err fault)

-- the links with this list from q to p
abbrev pub with_link : Links → ℕ → ℕ → List Message → Links
with_link links q p list a b = cond (q == a && p == b) list (links a b)

-- 2, then 8
abbrev pub put_answer : ℕ → Links → ℕ → ℕ → Result Unit NetworkFault
put_answer depth links q p =
    check (is_link q p) (refused q p UnknownLedger)
    (check (nat_lt (length (links q p)) depth) (refused q p LinkFull) (Ok tt))

-- one message more at the end
abbrev pub put_after : ℕ → Links → ℕ → ℕ → Message → Links
put_after depth links q p message =
    cond (is_ok (put_answer depth links q p)) (with_link links q p (links q p ++ (message ∷ []))) links

-- 2, then 7; the first message
abbrev pub look_answer : Links → ℕ → ℕ → Result Message NetworkFault
look_answer links q p =
    check (is_link q p) (refused q p UnknownLedger) (ok_or (slice_get (links q p) 0) (refused q p NothingThere))

-- all but the first message
abbrev pub take_after : Links → ℕ → ℕ → Links
take_after links q p = cond (is_ok (look_answer links q p)) (with_link links q p (drop 1 (links q p))) links

-- 2
abbrev pub count_answer : Links → ℕ → ℕ → Result ℕ NetworkFault
count_answer links q p = check (is_link q p) (refused q p UnknownLedger) (Ok (length (links q p)))
