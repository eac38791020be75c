-- What a ring holds.
use Rattle.std.specs.Prelude.{ℕ, zero, suc, ◌+◌, ◌%◌, List, [], ◌∷◌, slice_index_or}
use Rattle.network.specs.declared.message.Message.{Message}
use Rattle.network.specs.declared.message.Message.TheVariants.{Prepare}
use Rattle.lanes.specs.declared.ring.Ring.{Ring}

-- n messages from a place on, round the four places
abbrev pub round : List Message → ℕ → ℕ → List Message
round slots place zero = []
round slots place (suc n) = slice_index_or slots place Prepare ∷ round slots ((place + 1) % 4) n

-- the oldest first
abbrev pub messages : Ring → List Message
messages ring = round ring.slots ring.head ring.len
