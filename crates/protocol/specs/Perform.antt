-- What a ledger's response comes to on the floor.
use Rattle.std.specs.Prelude.{ℕ, ◌+◌, ◌-◌, ◌^◌, min, cond, is_ok, Ok, Err, Result, slice_set}
use Rattle.journals.specs.Calls.{append_after, append_answer}
use Rattle.journals.specs.Codes.{code_of}
use Rattle.journals.specs.declared.fault.JournalsFault.{JournalsFault}
use Rattle.network.specs.Links.{put_after, put_answer}
use Rattle.network.specs.declared.fault.NetworkFault.{NetworkFault}
use Rattle.rules.specs.declared.effect.Effect.{Effect}
use Rattle.rules.specs.declared.effect.Effect.TheVariants.{Nothing, Write, Send}
use Rattle.rules.specs.declared.row.Row.{Row}
use Rattle.protocol.specs.State.{State}
use Rattle.protocol.specs.declared.fault.FloorFault.{FloorFault}
use Rattle.protocol.specs.declared.fault.FloorFault.TheVariants.{Link, Journal}

abbrev pub from_journals : {A : Type 0} → Result A JournalsFault → Result A FloorFault
from_journals (Ok x) = Ok x
from_journals (Err fault) = Err (Journal fault)

abbrev pub from_network : Result Unit NetworkFault → Result Unit FloorFault
from_network (Ok x) = Ok tt
from_network (Err fault) = Err (Link fault)

abbrev pub with_row : State → ℕ → Row → State
with_row s p row = record { ledgers = s.ledgers; votes = s.votes; rows = slice_set s.rows p row; links = s.links; entries = s.entries; sent = s.sent }

-- the refusal of the entry or of the message, if any
abbrev pub perform_answer : ℕ → State → ℕ → Effect → Result Unit FloorFault
perform_answer depth s p Nothing = Ok tt
perform_answer depth s p (Write entry) = from_journals (append_answer s.entries p (code_of entry))
perform_answer depth s p (Send q message) = from_network (put_answer depth s.links p q)

-- the entry is written or the message sent, and then the row is stored
abbrev pub performed : ℕ → State → ℕ → Row → Effect → State
performed depth s p row Nothing = with_row s p row
performed depth s p row (Write entry) =
    record { ledgers = s.ledgers; votes = s.votes; rows = slice_set s.rows p row; links = s.links; entries = append_after s.entries p (code_of entry); sent = s.sent }
performed depth s p row (Send q message) =
    record { ledgers = s.ledgers; votes = s.votes; rows = slice_set s.rows p row; links = put_after depth s.links p q message; entries = s.entries; sent = min (s.sent + 1) (2 ^ 64 - 1) }

abbrev pub perform_after : ℕ → State → ℕ → Row → Effect → State
perform_after depth s p row effect = cond (is_ok (perform_answer depth s p effect)) (performed depth s p row effect) s
