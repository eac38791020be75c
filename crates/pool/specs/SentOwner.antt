-- Why a sent message belongs to one link at most.
use Rattle.std.specs.Prelude.{◌≡◌, true}
use Rattle.std.proofs.Common.{rules}
use Rattle.network.specs.declared.link.Link.{Link}
use Rattle.pool.specs.Sent.{is_on}
use Rattle.pool.specs.declared.sent.Sent.{Sent}

pub one_link : (s : Sent) (a b : Link) → is_on a.sender a.receiver s ≡ true → is_on b.sender b.receiver s ≡ true → a ≡ b
one_link s a b on_a on_b = search rules
