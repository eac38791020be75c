-- What a person must settle, and how the caller's list is filled with it.
use Rattle.std.specs.Prelude.{ℕ, zero, suc, Bool, true, false, cond, List, [], ◌∷◌, ◌++◌, length, drop, Ok, Result, nat_le}
use Rattle.rules.specs.declared.stage.Status.{Status}
use Rattle.rules.specs.declared.stage.Status.TheVariants.{Stopped, Running, Restarted}
use Rattle.protocol.specs.Recovery.{finding}
use Rattle.protocol.specs.Refusals.{check}
use Rattle.protocol.specs.State.{State, has, known, row_of}
use Rattle.protocol.specs.declared.fault.FloorFault.{FloorFault}
use Rattle.protocol.specs.declared.fault.FloorFault.TheVariants.{Refused}
use Rattle.protocol.specs.declared.fault.FloorRefusal.TheVariants.{ShortList, UnknownLedger}
use Rattle.protocol.specs.declared.note.Note.{Note}
use Rattle.protocol.specs.declared.note.Reason.{Reason}
use Rattle.protocol.specs.declared.note.Reason.TheVariants.{Uncertain as IsUncertain, Disputed}
use Rattle.protocol.specs.declared.recovery.Recovery.{Recovery}
use Rattle.protocol.specs.declared.recovery.Recovery.TheVariants.{Posted, Dropped, Uncertain}
use Rattle.protocol.specs.declared.standing.Standing.{Standing}
use Rattle.protocol.specs.declared.standing.Standing.TheVariants.{Running as Runs, Stopped as HasStopped, Known, Uncertain as LeftUncertain}

abbrev pub reason_number : Reason → ℕ
reason_number IsUncertain = 1
reason_number Disputed = 2

abbrev pub uncertain : Recovery → Bool
uncertain Posted = false
uncertain Dropped = false
uncertain Uncertain = true

-- a note, where there is cause
abbrev pub note_where : Bool → ℕ → Reason → List Note
note_where cause p reason = cond cause (record { ledger = p; reason = reason } ∷ []) []

-- a running ledger with a dispute, or a restarted one whose journal leaves it uncertain
abbrev pub note_at : Status → List ℕ → ℕ → List Note
note_at Stopped journal p = []
note_at Running journal p = note_where (has 10 journal) p Disputed
note_at Restarted journal p = note_where (uncertain (finding journal).recovery) p IsUncertain

abbrev pub note_of : State → ℕ → List Note
note_of s p = note_at (row_of s p).status (s.entries p) p

-- by ledger number
unfoldable pub notes_below : State → ℕ → List Note
notes_below s zero = []
notes_below s (suc p) = notes_below s p ++ note_of s p

abbrev pub notes_of : State → List Note
notes_of s = notes_below s s.ledgers

-- 14 where they do not fit
abbrev pub worklist_answer : State → ℕ → Result ℕ FloorFault
worklist_answer s room = check (nat_le (length (notes_of s)) room) (Refused ShortList 255 255) (Ok (length (notes_of s)))

-- the notes stand at the front, and the rest is untouched
abbrev pub worklist_after : State → List Note → List Note
worklist_after s list =
    cond (nat_le (length (notes_of s)) (length list)) (notes_of s ++ drop (length (notes_of s)) list) list

-- how a ledger with this status and this journal stands
abbrev pub standing_at : Status → List ℕ → Standing
standing_at Stopped journal = HasStopped
standing_at Running journal = Runs
standing_at Restarted journal = cond (uncertain (finding journal).recovery) LeftUncertain Known

-- 2
abbrev pub standing_answer : State → ℕ → Result Standing FloorFault
standing_answer s p = check (known s p) (Refused UnknownLedger p 255) (Ok (standing_at (row_of s p).status (s.entries p)))
