-- What a floor means: its ledgers, their votes and rows, the links between them, their journals, and the messages sent.
use Rattle.std.specs.Prelude.{ℕ, Bool, true, false, ◌||◌, List, [], ◌∷◌, ◌==◌, nat_lt, slice_index_or}
use Rattle.journals.specs.Calls.{Entries}
use Rattle.network.specs.Links.{Links}
use Rattle.network.specs.declared.message.Vote.{Vote}
use Rattle.network.specs.declared.message.Vote.TheVariants.{Yes}
use Rattle.rules.specs.Ledgers.{empty}
use Rattle.rules.specs.declared.row.Member.{Member}
use Rattle.rules.specs.declared.row.Row.{Row}
use Rattle.rules.specs.declared.stage.Stage.TheVariants.{Initial}
use Rattle.rules.specs.declared.stage.Status.{Status}
use Rattle.rules.specs.declared.stage.Status.TheVariants.{Stopped, Running, Restarted}

pub record State : Type 0 where
  pub ledgers : ℕ
  pub votes : List Vote
  pub rows : List Row
  pub links : Links
  pub entries : Entries
  pub sent : ℕ

-- past the table there is a row that does not run
abbrev pub no_row : Row
no_row = record {
  status = Stopped;
  stage = Initial;
  round = 0;
  noticed = record { members = [] };
  replied = record { members = [] };
  ayes = record { members = [] };
  noes = record { members = [] };
}

abbrev pub row_of : State → ℕ → Row
row_of s p = slice_index_or s.rows p no_row

-- who p is
abbrev pub member_of : State → ℕ → Member
member_of s p = record { ledgers = s.ledgers; number = p; vote = slice_index_or s.votes p Yes }

abbrev pub runs : Status → Bool
runs Stopped = false
runs Running = true
runs Restarted = false

abbrev pub stopped : Status → Bool
stopped Stopped = true
stopped Running = false
stopped Restarted = false

-- a row of which nothing is left but the status
abbrev pub fresh : Status → Row
fresh status = record { status = status; stage = Initial; round = 0; noticed = empty; replied = empty; ayes = empty; noes = empty }

-- the ledgers of the floor are numbered from 0
abbrev pub known : State → ℕ → Bool
known s p = nat_lt p s.ledgers

-- the code stands in the list
abbrev pub has : ℕ → List ℕ → Bool
has code [] = false
has code (c ∷ cs) = c == code || has code cs
