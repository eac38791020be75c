-- Which lines read as which call, and how each call is written.
use Rattle.std.specs.Prelude.{ℕ, ◌+◌, ◌-◌, ◌≤◌, Bool, cond, ◌&&◌, List, [], ◌∷◌, Some, None, codes, Option, ◌==◌, nat_le}
use Rattle.std.specs.List.{flat_map, list_all}
use Rattle.std.specs.Option.{option_map}
use Rattle.protocol.specs.declared.call.Call.{Call}
use Rattle.protocol.specs.declared.call.Call.TheVariants.{Begin, Step, Deliver, Expire, Stop, Restart}

-- 0 to 9
abbrev pub is_digit : ℕ → Bool
is_digit b = nat_le 48 b && nat_le b 57

abbrev pub digit_of : ℕ → ℕ
digit_of b = b - 48

-- one space and one digit
abbrev pub one_field : List ℕ → Option ℕ
one_field [] = None
one_field (a ∷ []) = None
one_field (a ∷ (p ∷ [])) = cond (a == 32 && is_digit p) (Some (digit_of p)) None
one_field (a ∷ (p ∷ (b ∷ rest))) = None

-- two of these
abbrev pub two_fields : List ℕ → Option (ℕ × ℕ)
two_fields [] = None
two_fields (a ∷ []) = None
two_fields (a ∷ (p ∷ [])) = None
two_fields (a ∷ (p ∷ (b ∷ []))) = None
two_fields (a ∷ (p ∷ (b ∷ (q ∷ [])))) =
    cond ((a == 32 && is_digit p) && (b == 32 && is_digit q)) (Some (digit_of p, digit_of q)) None
two_fields (a ∷ (p ∷ (b ∷ (q ∷ (c ∷ rest))))) = None

-- nothing
abbrev pub no_field : List ℕ → Option Call
no_field [] = Some Begin
no_field (a ∷ rest) = None

-- the first letter chooses: B, S, D, E, X, R
abbrev pub chosen : ℕ → List ℕ → Option Call
chosen letter fields =
    cond (letter == 66) (no_field fields)
    (cond (letter == 83) (option_map Step (one_field fields))
    (cond (letter == 68) (option_map (λ f. Deliver f.0 f.1) (two_fields fields))
    (cond (letter == 69) (option_map (λ f. Expire f.0 f.1) (two_fields fields))
    (cond (letter == 88) (option_map Stop (one_field fields))
    (cond (letter == 82) (option_map Restart (one_field fields)) None)))))

abbrev pub read_call : List ℕ → Option Call
read_call [] = None
read_call (letter ∷ fields) = chosen letter fields

-- a field as it is written
abbrev pub field : ℕ → List ℕ → List ℕ
field p rest = 32 ∷ ((48 + p) ∷ rest)

-- some fields, one behind the other
abbrev pub fields_text : List ℕ → List ℕ
fields_text = flat_map (λ p. field p [])

-- each of them has a digit
abbrev pub have_digits : List ℕ → Bool
have_digits = list_all (λ p. nat_le p 9)

-- a letter and fields behind it
abbrev pub with_fields : ℕ → List ℕ → Option (List ℕ)
with_fields letter ps = cond (have_digits ps) (Some (letter ∷ fields_text ps)) None

abbrev pub call_line : Call → List ℕ
call_line Begin = codes "B"
call_line (Step p) = 83 ∷ field p []
call_line (Deliver q p) = 68 ∷ field q (field p [])
call_line (Expire p q) = 69 ∷ field p (field q [])
call_line (Stop p) = 88 ∷ field p []
call_line (Restart p) = 82 ∷ field p []

-- each ledger of the call has a digit
abbrev pub Writable : Call → Type 0
Writable Begin = Unit {0}
Writable (Step p) = p ≤ 9
Writable (Deliver q p) = (q ≤ 9) × (p ≤ 9)
Writable (Expire p q) = (p ≤ 9) × (q ≤ 9)
Writable (Stop p) = p ≤ 9
Writable (Restart p) = p ≤ 9
