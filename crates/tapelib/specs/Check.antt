-- What the exported check leaves in the caller's number.
use Rattle.std.specs.Prelude.{ℕ, List, Ok, Err, Result}
use Rattle.tape.specs.declared.records.Record.{Record}

-- the place of the tear; a whole tape leaves the number as it was
abbrev pub place_after : Result (List Record) ℕ → ℕ → ℕ
place_after (Ok rs) before = before
place_after (Err place) before = place
