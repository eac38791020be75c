-- A journal as letters.
use Rattle.std.specs.Prelude.{ℕ, ◌+◌, List, [], ◌∷◌, map, codes}

-- a to j for 1 to 10
abbrev pub letter : ℕ → ℕ
letter code = 96 + code

-- a letter for each entry, or `-` for none
abbrev pub letters : List ℕ → List ℕ
letters [] = codes "-"
letters (code ∷ rest) = map letter (code ∷ rest)
