-- What a list of records tells of each ledger.
use Rattle.std.specs.Prelude.{ℕ, ◌+◌, Bool, cond, ◌&&◌, List, [], ◌∷◌, map, length, Some, None, filter, Option, ◌==◌, nat_le}
use Rattle.owned.specs.Every.{every, every_below}
use Rattle.journals.specs.Codes.{is_code, is_ledger}
use Rattle.tape.specs.declared.records.Record.{Record}
use Rattle.tape.specs.declared.records.Track.{Track}

abbrev pub is_of : ℕ → Record → Bool
is_of p r = r.ledger == p

-- the codes that p wrote, the oldest first
abbrev pub codes_of : ℕ → List Record → List ℕ
codes_of p rs = map (λ r. r.code) (filter (is_of p) rs)

abbrev pub count_of : ℕ → List Record → ℕ
count_of p rs = length (codes_of p rs)

-- the number of p's latest record, where the list's first has the number i, or what was found before
abbrev pub latest_from : ℕ → ℕ → List Record → Option ℕ → Option ℕ
latest_from i p [] before = before
latest_from i p (r ∷ rs) before = latest_from (i + 1) p rs (cond (is_of p r) (Some i) before)

-- the number of p's latest record, counted from 0, or none
abbrev pub latest : ℕ → List Record → Option ℕ
latest p rs = latest_from 0 p rs None

-- a ledger from 0 to 7 and a code from 1 to 10
abbrev pub is_record : Record → Bool
is_record r = is_ledger r.ledger && is_code r.code

-- what a tape can hold: at most eight records of a ledger
abbrev pub lawful : List Record → Bool
lawful rs = every is_record rs && every_below (λ p. nat_le (count_of p rs) 8) 8

abbrev pub no_track : Track
no_track = record { count = 0; latest = None }

-- what the records tell of p
abbrev pub track_of : ℕ → List Record → Track
track_of p rs = record { count = count_of p rs; latest = latest p rs }
