-- What an opening answers, and the floor that it gives.
use Rattle.std.specs.Prelude.{ℕ, Bool, cond, ◌&&◌, ◌||◌, List, [], ◌∷◌, map, length, replicate, is_ok, is_err, Ok, Result, ◌==◌, nat_le, nat_lt, slice_index}
use Rattle.journals.specs.Calls.{Entries, read_answer}
use Rattle.network.specs.Links.{Links, look_answer}
use Rattle.network.specs.declared.message.Vote.{Vote}
use Rattle.network.specs.declared.message.Vote.TheVariants.{Yes, No}
use Rattle.rules.specs.declared.stage.Status.TheVariants.{Stopped, Running}
use Rattle.protocol.specs.Bounded.{all_below}
use Rattle.protocol.specs.Refusals.{check}
use Rattle.protocol.specs.State.{State, fresh}
use Rattle.protocol.specs.declared.fault.FloorFault.{FloorFault}
use Rattle.protocol.specs.declared.fault.FloorFault.TheVariants.{Refused}
use Rattle.protocol.specs.declared.fault.FloorRefusal.TheVariants.{MisreadOpening, NotFresh}

-- past the last ledger stands a yes that nobody asks for
abbrev pub number_at : List ℕ → ℕ → ℕ
number_at numbers p = cond (nat_lt p (length numbers)) (slice_index numbers p) 1

-- a vote is yes (1) or no (2)
abbrev pub is_vote : ℕ → Bool
is_vote number = number == 1 || number == 2

abbrev pub vote_fits : List ℕ → ℕ → Bool
vote_fits numbers p = is_vote (number_at numbers p)

abbrev pub votes_fit : List ℕ → Bool
votes_fit numbers = all_below (vote_fits numbers) 8

abbrev pub vote_at : List ℕ → ℕ → Vote
vote_at numbers p = cond (number_at numbers p == 2) No Yes

-- the table has eight places
abbrev pub votes_of : List ℕ → List Vote
votes_of numbers = map (vote_at numbers) (0 ∷ 1 ∷ 2 ∷ 3 ∷ 4 ∷ 5 ∷ 6 ∷ 7 ∷ [])

-- nothing can be read
abbrev pub no_entry_of : Entries → ℕ → Bool
no_entry_of entries p = is_err (read_answer entries p 0)

abbrev pub no_entry : Entries → Bool
no_entry entries = all_below (no_entry_of entries) 8

-- nothing can be taken
abbrev pub no_message_on : Links → ℕ → ℕ → Bool
no_message_on links q p = is_err (look_answer links q p)

abbrev pub no_message_from : Links → ℕ → Bool
no_message_from links q = all_below (no_message_on links q) 8

abbrev pub no_message : Links → Bool
no_message links = all_below (no_message_from links) 8

-- two to eight ledgers, a vote of each
abbrev pub well_read : ℕ → List ℕ → Bool
well_read n numbers = nat_le 2 n && (nat_le n 8 && (length numbers == n && votes_fit numbers))

-- opening: 1, 11
abbrev pub open_answer : Links → Entries → ℕ → List ℕ → Result Unit FloorFault
open_answer links entries n numbers =
    check (well_read n numbers) (Refused MisreadOpening 255 255)
    (check (no_message links && no_entry entries) (Refused NotFresh 255 255) (Ok tt))

-- every ledger runs, and nothing is noticed
abbrev pub opened : Links → Entries → ℕ → List ℕ → State
opened links entries n numbers = record { ledgers = n; votes = votes_of numbers; rows = replicate 8 (fresh Running); links = links; entries = entries; sent = 0 }

-- no ledger is known
abbrev pub closed : Links → Entries → State
closed links entries = record { ledgers = 0; votes = replicate 8 Yes; rows = replicate 8 (fresh Stopped); links = links; entries = entries; sent = 0 }

abbrev pub open_after : Links → Entries → ℕ → List ℕ → State
open_after links entries n numbers =
    cond (is_ok (open_answer links entries n numbers)) (opened links entries n numbers) (closed links entries)
