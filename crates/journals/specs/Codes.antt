-- The ledgers, the entries and the entries' codes.
use Rattle.std.specs.Prelude.{◌≡◌, ℕ, Bool, true, false, ◌&&◌, Result, MatchResult, nat_le, nat_lt}
use Rattle.journals.specs.declared.entry.Entry.{Entry}
use Rattle.journals.specs.declared.entry.NoEntry.{NoEntry}
use Rattle.journals.specs.declared.entry.Entry.TheVariants.{Begin, ReadyYes, ReadyNo, CommitReached, AbortReached, CommitReceived, AbortReceived, TransactionCommit, TransactionAbort, Dispute}

-- the ledgers are numbered from 0 to 7
abbrev pub is_ledger : ℕ → Bool
is_ledger p = nat_lt p 8

abbrev pub code_of : Entry → ℕ
code_of Begin = 1
code_of ReadyYes = 2
code_of ReadyNo = 3
code_of CommitReached = 4
code_of AbortReached = 5
code_of CommitReceived = 6
code_of AbortReceived = 7
code_of TransactionCommit = 8
code_of TransactionAbort = 9
code_of Dispute = 10

-- a code is a number from 1 to 10
abbrev pub is_code : ℕ → Bool
is_code c = nat_le 1 c && nat_le c 10

-- the entry that has this code, or an error with a code that no entry has
abbrev pub Decodes : ℕ → Result Entry NoEntry → Type 0
Decodes code r = MatchResult r (λ e. (is_code code ≡ true) × (code_of e ≡ code)) (λ e. (is_code code ≡ false) × (e.0 ≡ code))

-- the two entries that are a ledger's decision
abbrev pub decides : Entry → Bool
decides Begin = false
decides ReadyYes = false
decides ReadyNo = false
decides CommitReached = false
decides AbortReached = false
decides CommitReceived = false
decides AbortReceived = false
decides TransactionCommit = true
decides TransactionAbort = true
decides Dispute = false
