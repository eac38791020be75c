-- What a list of sent messages tells of each link.
use Rattle.std.specs.Prelude.{ℕ, Bool, ◌&&◌, List, map, length, filter, ◌==◌, nat_le}
use Rattle.network.specs.Links.{is_link}
use Rattle.network.specs.declared.message.Message.{Message}
use Rattle.owned.specs.Every.{every, every_below}
use Rattle.pool.specs.declared.sent.Sent.{Sent}

abbrev pub is_on : ℕ → ℕ → Sent → Bool
is_on q p s = s.link.sender == q && s.link.receiver == p

-- the messages from q to p, in the order of sending
abbrev pub link_of : ℕ → ℕ → List Sent → List Message
link_of q p sent = map (λ s. s.message) (filter (is_on q p) sent)

-- what a pool can hold: at most two messages on a link, and none on what is no link
unfoldable pub lawful : List Sent → Bool
lawful sent =
    every (λ s. is_link s.link.sender s.link.receiver) sent
    && every_below (λ q. every_below (λ p. nat_le (length (link_of q p sent)) 2) 8) 8
