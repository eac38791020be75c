-- What lanes mean.
use Rattle.std.specs.Prelude.{◌+◌, ◌*◌, cond, [], map, slice_index_or}
use Rattle.network.specs.Links.{Links, is_link}
use Rattle.lanes.specs.Rings.{messages}
use Rattle.lanes.specs.declared.Lanes.{Lanes}

-- each link's messages: those of its ring
abbrev pub links_of : Lanes → Links
links_of lanes q p = cond (is_link q p) (slice_index_or (map messages lanes.rings) (8 * q + p) []) []
