-- What a read of any set of journals tells of the ledger's list.
use Rattle.std.proofs.Common.{◌≡◌, ℕ, ◌<◌, ◌≤◌, true, leb, [], length, get_or, Ok, Err, arith}
use Rattle.std.proofs.ByRecursion.{All-get_or}
use Rattle.std.proofs.lemmas.Option.{slice_get-get_or, slice_get_past}
use Rattle.std.proofs.lemmas.Bool.{and_parts, leb-true}
use Rattle.std.proofs.lemmas.Bool.Decides.{nat_tests}
use Rattle.std.specs.List.{AllByRecursion}
use Rattle.journals.specs.Calls.{Entries, read_answer}
use Rattle.journals.specs.Codes.{is_code}
use Rattle.journals.specs.declared.fault.JournalsFault.{JournalsFault}

module _ (E : Entries) (p place : ℕ) where
  pub read_within : (code : ℕ) → Ok code ≡ read_answer E p place → place < length (E p)
  read_within code e = grind (arith, nat_tests, slice_get_past (E p) place)

  pub read_code : (code : ℕ) → Ok code ≡ read_answer E p place → code ≡ get_or (E p) place 0
  read_code code e = let within = read_within code e in grind (arith, nat_tests, slice_get-get_or (E p) place 0 within)

  pub read_known : AllByRecursion (λ code. is_code code ≡ true) (E p) → (code : ℕ) → Ok code ≡ read_answer E p place → is_code code ≡ true
  read_known known code e = rw (read_code code e) (All-get_or (λ c. is_code c ≡ true) (E p) place 0 (read_within code e) known)

  pub read_past : (8 ≤ p → E p ≡ []) → (fault : JournalsFault) → Err fault ≡ read_answer E p place → length (E p) ≤ place
  read_past bounded fault e = grind (arith, nat_tests, slice_get-get_or (E p) place 0, bounded)

pub code_small : (code : ℕ) → is_code code ≡ true → code ≤ 10
code_small code known = leb-true code 10 (and_parts (leb 1 code) (leb code 10) known).1
