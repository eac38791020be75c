-- Which entry records what.
use Rattle.journals.specs.declared.entry.Entry.{Entry}
use Rattle.journals.specs.declared.entry.Entry.TheVariants.{ReadyYes, ReadyNo, CommitReached, AbortReached, CommitReceived, AbortReceived, TransactionCommit, TransactionAbort}
use Rattle.network.specs.declared.message.Decision.{Decision}
use Rattle.network.specs.declared.message.Decision.TheVariants.{Post, Drop}
use Rattle.network.specs.declared.message.Vote.{Vote}
use Rattle.network.specs.declared.message.Vote.TheVariants.{Yes, No}

-- 2 or 3: the ledger is ready with its vote
abbrev pub ready : Vote → Entry
ready Yes = ReadyYes
ready No = ReadyNo

-- 4 or 5: the decision was reached here
abbrev pub reached : Decision → Entry
reached Post = CommitReached
reached Drop = AbortReached

-- 6 or 7: the decision was received
abbrev pub received : Decision → Entry
received Post = CommitReceived
received Drop = AbortReceived

-- 8 or 9: the decision is obeyed
abbrev pub obeyed : Decision → Entry
obeyed Post = TransactionCommit
obeyed Drop = TransactionAbort
