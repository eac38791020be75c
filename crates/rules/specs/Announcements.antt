-- What the row keeps of an announcement between two steps.
use Rattle.std.specs.Prelude.{ℕ, cond, nat_lt}
use Rattle.rules.specs.Rules.{other_above}
use Rattle.rules.specs.declared.announcement.Announcement.{Announcement}
use Rattle.rules.specs.declared.announcement.Announcement.TheVariants.{Open, Sent}
use Rattle.rules.specs.declared.announcement.OpenAnnouncement.{OpenAnnouncement}
use Rattle.rules.specs.declared.stage.Stage.{Stage}
use Rattle.rules.specs.declared.stage.Stage.TheVariants.{Announcing, Announced}

abbrev pub kept : Announcement → Stage
kept (Open announcement) = Announcing announcement.decision announcement.next
kept (Sent announcement) = Announced announcement.decision

-- after an Order: on to the next other of n ledgers, or done
abbrev pub after_order : OpenAnnouncement → ℕ → Stage
after_order it n =
    cond (nat_lt (other_above it.owner it.next) n) (Announcing it.decision (other_above it.owner it.next)) (Announced it.decision)
