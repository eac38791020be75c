-- What each call on a set of journals answers, and how it moves the lists.
use Rattle.std.specs.Prelude.{ℕ, Bool, cond, List, [], ◌∷◌, ◌++◌, length, drop, is_ok, Ok, Err, Result, ◌==◌, nat_lt}
use Rattle.std.specs.Option.{ok_or}
use Rattle.std.specs.List.{slice_get}
use Rattle.journals.specs.Codes.{is_code, is_ledger}
use Rattle.journals.specs.Refusals.{refused_for}
use Rattle.journals.specs.declared.fault.JournalsFault.{JournalsFault}
use Rattle.journals.specs.declared.fault.JournalsRefusal.TheVariants.{UnknownLedger, NothingThere, JournalFull, UnknownCode}

-- each ledger's list of codes
abbrev pub Entries : Type 0
Entries = ℕ → List ℕ

-- what a new set holds
abbrev pub no_entries : Entries
no_entries p = []

-- go on with the rest where the test holds, else refuse
abbrev pub check : {A : Type 0} → Bool → JournalsFault → Result A JournalsFault → Result A JournalsFault
check holds fault rest = cond holds rest (Err fault)

-- the lists with this one for p's
abbrev pub with_list : Entries → ℕ → List ℕ → Entries
with_list entries p list q = cond (p == q) list (entries q)

-- the lists with one more code at the end of p's
abbrev pub with_entry : Entries → ℕ → ℕ → Entries
with_entry entries p code = with_list entries p (entries p ++ (code ∷ []))

-- 2, then 13, then 12
abbrev pub append_answer : Entries → ℕ → ℕ → Result Unit JournalsFault
append_answer entries p code =
    check (is_ledger p) (refused_for p UnknownLedger)
    (check (is_code code) (refused_for p UnknownCode) (check (nat_lt (length (entries p)) 8) (refused_for p JournalFull) (Ok tt)))

abbrev pub append_after : Entries → ℕ → ℕ → Entries
append_after entries p code = cond (is_ok (append_answer entries p code)) (with_entry entries p code) entries

-- 2, then 7
abbrev pub read_answer : Entries → ℕ → ℕ → Result ℕ JournalsFault
read_answer entries p place =
    check (is_ledger p) (refused_for p UnknownLedger)
    (ok_or (slice_get (entries p) place) (refused_for p NothingThere))

-- 2
abbrev pub count_answer : Entries → ℕ → Result ℕ JournalsFault
count_answer entries p = check (is_ledger p) (refused_for p UnknownLedger) (Ok (length (entries p)))

-- p's codes from a place on
abbrev pub left_from : Entries → ℕ → ℕ → List ℕ
left_from entries p place = drop place (entries p)
