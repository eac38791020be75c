-- What a restart finds in the ledger's journal.
use Rattle.std.specs.Prelude.{ℕ, cond, ◌||◌, List}
use Rattle.journals.specs.declared.entry.Entry.TheVariants.{TransactionAbort}
use Rattle.rules.specs.declared.effect.Effect.{Effect}
use Rattle.rules.specs.declared.effect.Effect.TheVariants.{Nothing, Write}
use Rattle.protocol.specs.State.{has}
use Rattle.protocol.specs.declared.recovery.Finding.{Finding}
use Rattle.protocol.specs.declared.recovery.Recovery.{Recovery}
use Rattle.protocol.specs.declared.recovery.Recovery.TheVariants.{Posted, Dropped, Uncertain}

abbrev pub found : Recovery → Effect → Finding
found recovery effect = record { recovery = recovery; effect = effect }

-- the first that fits: an 8; a 9; a 5 or a 7, which a 9 closes; a 4, a 6 or a 2; all else, which a 9 closes
abbrev pub finding : List ℕ → Finding
finding list =
    cond (has 8 list) (found Posted Nothing)
    (cond (has 9 list) (found Dropped Nothing)
    (cond (has 5 list || has 7 list) (found Dropped (Write TransactionAbort))
    (cond (has 4 list || (has 6 list || has 2 list)) (found Uncertain Nothing) (found Dropped (Write TransactionAbort)))))
