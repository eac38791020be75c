-- What a person is told of a script. Every line ends in byte 10.
use Rattle.std.specs.Prelude.{ℕ, ◌+◌, List, [], ◌∷◌, ◌++◌, length, Ok, Err, codes, decimal, Result}
use Rattle.std.specs.List.{flat_map}
use Rattle.journals.specs.Calls.{Entries}
use Rattle.network.specs.Links.{Links}
use Rattle.protocol.specs.State.{State}
use Rattle.protocol.specs.Worklist.{notes_of, reason_number}
use Rattle.protocol.specs.declared.note.Note.{Note}
use Rattle.protocol.specs.declared.note.Reason.{Reason}
use Rattle.protocol.specs.declared.note.Reason.TheVariants.{Uncertain, Disputed}
use Rattle.script.specs.Rehearsal.{Play, play_of, played_after}
use Rattle.script.specs.Texts.{fault_text}
use Rattle.script.specs.declared.fault.ScriptFault.{ScriptFault}

-- what it is, and what the person should settle
abbrev pub reason_text : Reason → List ℕ
reason_text Uncertain = codes "uncertain after a restart: ask the other ledgers whether they posted or dropped, and settle this one alike"
reason_text Disputed = codes "dispute between decisions: find the ledgers that decided otherwise, and settle post or drop for all of them"

-- `W`, the ledger, the reason's number, which is one digit, and its words
abbrev pub note_text : Note → List ℕ
note_text note =
    codes "W " ++ (decimal note.ledger ++ (32 ∷ ((48 + reason_number note.reason) ∷ (32 ∷ (reason_text note.reason ++ (10 ∷ []))))))

abbrev pub notes_text : List Note → List ℕ
notes_text = flat_map note_text

-- `N` and the number of notes
abbrev pub count_text : ℕ → List ℕ
count_text n = codes "N " ++ (decimal n ++ (10 ∷ []))

abbrev pub settle_text : State → List ℕ
settle_text s = notes_text (notes_of s) ++ count_text (length (notes_of s))

-- a script that opens no floor is told by its refusal alone
abbrev pub worked_text : ℕ → Links → Entries → Result Play ScriptFault → List ℕ
worked_text depth links entries (Ok play) = settle_text (played_after depth links entries (Ok play))
worked_text depth links entries (Err fault) = fault_text fault.line fault.refusal

abbrev pub work_text : ℕ → Links → Entries → List ℕ → List ℕ
work_text depth links entries script = worked_text depth links entries (play_of links entries script)
