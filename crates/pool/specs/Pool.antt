-- What a pool means.
use Rattle.std.specs.Prelude.{List}
use Rattle.network.specs.Links.{Links}
use Rattle.pool.specs.Sent.{link_of}
use Rattle.pool.specs.declared.Pool.{Pool}
use Rattle.pool.specs.declared.sent.Sent.{Sent}

abbrev pub sent_of : Pool → List Sent
sent_of pool = pool.table.items

-- each link's messages, found in the table
abbrev pub links_of : Pool → Links
links_of pool q p = link_of q p (sent_of pool)
