-- What the first line of a script tells: how many ledgers take part, and how they vote.
use Rattle.std.specs.Prelude.{ℕ, Bool, cond, ◌&&◌, ◌||◌, List, [], ◌∷◌, map, length, take, Some, None, Option, ◌==◌, nat_le}
use Rattle.std.specs.List.{list_all}
use Rattle.script.specs.Reading.{digit_of}
use Rattle.script.specs.declared.first.FirstLine.{FirstLine}

pub record First : Type 0 where
  pub ledgers : ℕ
  pub votes : List ℕ

abbrev pub first_of : FirstLine → First
first_of line = record { ledgers = line.ledgers; votes = take line.ledgers line.votes }

-- a vote's letter, Y or N, and its number
abbrev pub is_vote : ℕ → Bool
is_vote b = b == 89 || b == 78

abbrev pub vote_number : ℕ → ℕ
vote_number b = cond (b == 89) 1 2

abbrev pub all_votes : List ℕ → Bool
all_votes = list_all is_vote

-- n letters
abbrev pub vote_letters : ℕ → List ℕ → Option First
vote_letters n letters =
    cond (length letters == n && all_votes letters) (Some (record { ledgers = n; votes = map vote_number letters })) None

-- one space, a digit n from 1 to 9, one space, n letters
abbrev pub first_fields : List ℕ → Option First
first_fields [] = None
first_fields (a ∷ []) = None
first_fields (a ∷ (n ∷ [])) = None
first_fields (a ∷ (n ∷ (b ∷ letters))) =
    cond ((a == 32 && (nat_le 49 n && nat_le n 57)) && b == 32) (vote_letters (digit_of n) letters) None

-- F and these
abbrev pub read_first : List ℕ → Option First
read_first [] = None
read_first (f ∷ fields) = cond (f == 70) (first_fields fields) None
