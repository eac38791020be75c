-- Sets of ledgers.
use Rattle.std.specs.Prelude.{ℕ, zero, suc, ◌+◌, ◌-◌, Bool, true, false, cond, ◌||◌, replicate, Some, None, Option, slice_index_or, slice_set}
use Rattle.rules.specs.declared.ledger_set.LedgerSet.{LedgerSet}

abbrev pub empty : LedgerSet
empty = record { members = replicate 8 false }

abbrev pub is_in : LedgerSet → ℕ → Bool
is_in ledgers p = slice_index_or ledgers.members p false

abbrev pub with_ledger : LedgerSet → ℕ → LedgerSet
with_ledger ledgers p = record { members = slice_set ledgers.members p true }

-- the lowest of n ledgers from p on that is in neither set
abbrev pub missing_from : LedgerSet → LedgerSet → ℕ → ℕ → Option ℕ
missing_from one other p zero = None
missing_from one other p (suc n) = cond (is_in one p || is_in other p) (missing_from one other (p + 1) n) (Some p)

-- the lowest ledger at or after p and below end that is in neither set
abbrev pub first_missing : LedgerSet → LedgerSet → ℕ → ℕ → Option ℕ
first_missing one other p end = missing_from one other p (end - p)
