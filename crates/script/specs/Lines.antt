-- The lines of a script.
use Rattle.std.specs.Prelude.{◌≡◌, ℕ, ◌+◌, ◌≤◌, cond, List, [], ◌∷◌, length, drop, ◌==◌}

-- the lines that end, each without its byte 10, and what is left after the last byte 10
pub record Lines : Type 0 where
  pub whole : List (List ℕ)
  pub left : List ℕ

abbrev pub with_line : List ℕ → Lines → Lines
with_line line lines = record { whole = line ∷ lines.whole; left = lines.left }

-- one byte more at the front
abbrev pub longer : ℕ → List (List ℕ) → List ℕ → Lines
longer b [] left = record { whole = []; left = b ∷ left }
longer b (line ∷ lines) left = record { whole = (b ∷ line) ∷ lines; left = left }

abbrev pub lines_of : List ℕ → Lines
lines_of [] = record { whole = []; left = [] }
lines_of (b ∷ bs) = cond (b == 10) (with_line [] (lines_of bs)) (longer b (lines_of bs).whole (lines_of bs).left)

-- the line that starts there is the first, and the others are those from the next start on
pub record LineAt (script : List ℕ) (start : ℕ) (text : List ℕ) (next : ℕ) : Type 0 where
  pub first : lines_of (drop start script) ≡ with_line text (lines_of (drop next script))
  pub behind : next ≡ start + length text + 1
  pub within : next ≤ length script
