-- What a script comes to: its calls, one after the other, on a new floor.
use Rattle.std.specs.Prelude.{◌≡◌, ℕ, ◌+◌, true, List, [], ◌∷◌, ◌++◌, map, length, drop, is_ok, Some, None, Ok, Err, Option, Result, nat_le}
use Rattle.journals.specs.Calls.{Entries}
use Rattle.network.specs.Links.{Links}
use Rattle.protocol.specs.Plans.{after_all, call_after, call_answer}
use Rattle.promises.specs.Promises.{Promises}
use Rattle.promises.specs.Runs.{new}
use Rattle.protocol.specs.Opening.{closed, open_answer, opened, votes_of}
use Rattle.protocol.specs.Refusals.{check}
use Rattle.protocol.specs.State.{State}
use Rattle.protocol.specs.declared.call.Call.{Call}
use Rattle.protocol.specs.declared.fault.FloorFault.{FloorFault}
use Rattle.script.specs.First.{First, first_of, read_first}
use Rattle.script.specs.Lines.{Lines, lines_of}
use Rattle.script.specs.Reading.{read_call}
use Rattle.script.specs.Refusals.{at_line}
use Rattle.script.specs.Texts.{answer_text, end_text, fault_text}
use Rattle.script.specs.declared.fault.ScriptFault.{ScriptFault}
use Rattle.script.specs.declared.fault.ScriptRefusal.{ScriptRefusal}
use Rattle.script.specs.declared.fault.ScriptRefusal.TheVariants.{BadLine, Floor}
use Rattle.script.specs.declared.start.StartLine.{StartLine}

-- the floor's fault becomes the script's
abbrev pub raised : {A : Type 0} → Result A FloorFault → Result A ScriptRefusal
raised (Ok x) = Ok x
raised (Err fault) = Err (Floor fault)

-- a line that reads, or one that does not
abbrev pub where_read : {A : Type 0} → Option Call → (Call → A) → A → A
where_read (Some call) then else = then call
where_read None then else = else

-- the calls up to the first bad line
abbrev pub calls_of : List (List ℕ) → List Call
calls_of [] = []
calls_of (line ∷ lines) = where_read (read_call line) (λ call. call ∷ calls_of lines) []

-- a last line that does not end is a bad line
abbrev pub left_text : ℕ → List ℕ → List ℕ
left_text k [] = []
left_text k (b ∷ bs) = fault_text k BadLine

-- what each line reads as; a last line that does not end is no call
abbrev pub left_read : List ℕ → List (Option Call)
left_read [] = []
left_read (b ∷ bs) = None ∷ []

abbrev pub reads : Lines → List (Option Call)
reads lines = map read_call lines.whole ++ left_read lines.left

abbrev pub reads_from : ℕ → List ℕ → List (Option Call)
reads_from start script = reads (lines_of (drop start script))

-- a line for each call, the first of them line k; a bad line ends them
abbrev pub calls_text : ℕ → State → ℕ → List (List ℕ) → List ℕ → List ℕ
calls_text depth s k [] left = left_text k left
calls_text depth s k (line ∷ lines) left =
    where_read (read_call line)
    (λ call. answer_text k (raised (call_answer depth s call)) ++ calls_text depth (call_after depth s call) (k + 1) lines left)
    (fault_text k BadLine)

-- what the first line tells, and the lines behind it
pub record Start : Type 0 where
  pub first : First
  pub rest : Lines

abbrev pub with_first : Option First → Lines → Result Start ScriptFault
with_first None rest = Err (at_line 1 BadLine)
with_first (Some first) rest = Ok (record { first = first; rest = rest })

abbrev pub first_of_lines : List (List ℕ) → List ℕ → Result Start ScriptFault
first_of_lines [] left = Err (at_line 1 BadLine)
first_of_lines (line ∷ lines) left = with_first (read_first line) (record { whole = lines; left = left })

-- an overlong script is a bad line 0, an empty one a bad line 1
abbrev pub start_of : List ℕ → Result Start ScriptFault
start_of script = check (nat_le (length script) 65536) (at_line 0 BadLine) (first_of_lines (lines_of script).whole (lines_of script).left)

-- the same, told by where the second line starts
abbrev pub started : List ℕ → Result StartLine ScriptFault → Result Start ScriptFault
started script (Ok start) = Ok (record { first = first_of start.first; rest = lines_of (drop start.next script) })
started script (Err fault) = Err fault

-- a floor that its opening took, and the lines to play on it
pub record Play : Type 0 where
  pub floor : State
  pub lines : Lines

abbrev pub with_opening : Result Unit FloorFault → State → Lines → Result Play ScriptFault
with_opening (Ok done) s rest = Ok (record { floor = s; lines = rest })
with_opening (Err fault) s rest = Err (at_line 1 (Floor fault))

abbrev pub play_start : Links → Entries → Result Start ScriptFault → Result Play ScriptFault
play_start links entries (Ok start) =
    with_opening (open_answer links entries start.first.ledgers start.first.votes) (opened links entries start.first.ledgers start.first.votes) start.rest
play_start links entries (Err fault) = Err fault

abbrev pub play_of : Links → Entries → List ℕ → Result Play ScriptFault
play_of links entries script = play_start links entries (start_of script)

-- whether the first line opens the floor, and why not
abbrev pub opening_of : Result Play ScriptFault → Result Unit ScriptFault
opening_of (Ok play) = Ok tt
opening_of (Err fault) = Err fault

-- the floor at the end; a closed one where nothing was opened
abbrev pub played_after : ℕ → Links → Entries → Result Play ScriptFault → State
played_after depth links entries (Ok play) = after_all depth play.floor (calls_of play.lines.whole)
played_after depth links entries (Err fault) = closed links entries

abbrev pub rehearsal_after : ℕ → Links → Entries → List ℕ → State
rehearsal_after depth links entries script = played_after depth links entries (play_of links entries script)

-- the text; a refusal at line 0 or 1 stands alone
abbrev pub played_text : ℕ → Links → Entries → Result Play ScriptFault → List ℕ
played_text depth links entries (Ok play) =
    calls_text depth play.floor 2 play.lines.whole play.lines.left ++ end_text (played_after depth links entries (Ok play))
played_text depth links entries (Err fault) = fault_text fault.line fault.refusal

abbrev pub rehearsal_text : ℕ → Links → Entries → List ℕ → List ℕ
rehearsal_text depth links entries script = played_text depth links entries (play_of links entries script)

-- the promises of the script's own run, where its opening is taken: the floor that it leaves is at the end of that run
abbrev pub StartPromised : ℕ → Links → Entries → State → Result Start ScriptFault → Type 0
StartPromised depth links entries end (Ok start) =
    is_ok (open_answer links entries start.first.ledgers start.first.votes) ≡ true
    → (end ≡ after_all depth (new start.first.ledgers (votes_of start.first.votes)) (calls_of start.rest.whole))
    × Promises depth start.first.ledgers (votes_of start.first.votes) (calls_of start.rest.whole)
StartPromised depth links entries end (Err fault) = Unit {0}

abbrev pub RehearsalPromised : ℕ → Links → Entries → List ℕ → State → Type 0
RehearsalPromised depth links entries script end = StartPromised depth links entries end (start_of script)
