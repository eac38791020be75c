-- What the rows mean.
use Rattle.std.specs.Prelude.{ℕ, List, [], map, slice_index_or}
use Rattle.journals.specs.Calls.{Entries}
use Rattle.journals.specs.Codes.{code_of}
use Rattle.arrayvec.specs.ArrayVec.{ArrayVec}
use Rattle.journals.specs.declared.entry.Entry.{Entry}
use Rattle.journals.specs.declared.rows.Rows.{Rows}

-- the codes in a row
abbrev pub codes : ArrayVec Entry → List ℕ
codes row = map code_of row.items

-- each ledger's codes: those of its row
abbrev pub entries_of : Rows → Entries
entries_of rows p = slice_index_or (map codes rows.rows) p []
