-- What one ledger does with a message, an expiry and a step.
use Rattle.std.specs.Prelude.{ℕ, ◌+◌, min, Bool, true, false, cond, not, ◌&&◌, ◌||◌, is_some, Some, None, Option, ◌==◌, nat_lt}
use Rattle.journals.specs.declared.entry.Entry.{Entry}
use Rattle.journals.specs.declared.entry.Entry.TheVariants.{AbortReached, Dispute}
use Rattle.network.specs.declared.message.Decision.{Decision}
use Rattle.network.specs.declared.message.Decision.TheVariants.{Post, Drop}
use Rattle.network.specs.declared.message.Message.{Message}
use Rattle.network.specs.declared.message.Message.TheVariants.{Prepare, Vote as Voted, Order, Ask, Reply}
use Rattle.network.specs.declared.message.Vote.{Vote}
use Rattle.network.specs.declared.message.Vote.TheVariants.{Yes, No}
use Rattle.rules.specs.Entries.{obeyed, reached, ready, received}
use Rattle.rules.specs.Ledgers.{empty, first_missing, is_in, with_ledger}
use Rattle.rules.specs.Stages.{counts, held, initial, leads}
use Rattle.rules.specs.declared.effect.Effect.TheVariants.{Nothing, Write, Send}
use Rattle.rules.specs.declared.effect.Response.{Response}
use Rattle.rules.specs.declared.row.Member.{Member}
use Rattle.rules.specs.declared.row.Row.{Row}
use Rattle.rules.specs.declared.stage.Stage.{Stage}
use Rattle.rules.specs.declared.stage.Stage.TheVariants.{Initial, Preparing, Wait, Voting, Ready, Asking, Consulting, Announcing, Announced, Decided}

-- the row in another stage
abbrev pub in_stage : Row → Stage → Row
in_stage row stage = record { status = row.status; stage = stage; round = row.round; noticed = row.noticed; replied = row.replied; ayes = row.ayes; noes = row.noes }

-- nothing is written and nothing sent
abbrev pub quiet : Row → Response
quiet row = record { row = row; effect = Nothing }

-- the other ledgers in turn, from the lowest upwards; numbers end at 255
abbrev pub first_other : ℕ → ℕ
first_other p = cond (p == 0) 1 0

abbrev pub above : ℕ → ℕ
above q = min (q + 1) 255

abbrev pub other_above : ℕ → ℕ → ℕ
other_above p q = cond (above q == p) (above (above q)) (above q)

-- a decision is written down and then passed on
abbrev pub announce : Member → Row → Decision → Entry → Response
announce who row decision entry = record { row = in_stage row (Announcing decision (first_other who.number)); effect = Write entry }

-- Prepare at Initial: ready is written before the vote is sent. The coordinator is asked by nobody
abbrev pub on_prepare : Member → Row → Response
on_prepare who row =
    cond (initial row.stage && not (who.number == 0))
    (record { row = in_stage row Voting; effect = Write (ready who.vote) })
    (quiet row)

-- a vote is in
abbrev pub with_vote : Row → ℕ → Vote → Row
with_vote row q Yes = record { status = row.status; stage = row.stage; round = row.round; noticed = row.noticed; replied = row.replied; ayes = with_ledger row.ayes q; noes = row.noes }
with_vote row q No = record { status = row.status; stage = row.stage; round = row.round; noticed = row.noticed; replied = row.replied; ayes = row.ayes; noes = with_ledger row.noes q }

abbrev pub votes_yes : Vote → Bool
votes_yes Yes = true
votes_yes No = false

-- all yes, its own among them, is post; anything else is drop
abbrev pub outcome : Member → Row → Decision
outcome who row = cond (votes_yes who.vote && not (is_some (first_missing row.ayes row.ayes 1 who.ledgers))) Post Drop

-- with all votes in, the coordinator decides
abbrev pub counted : Member → Row → Response
counted who row =
    cond (is_some (first_missing row.ayes row.noes 1 who.ledgers))
    (quiet row)
    (announce who row (outcome who row) (reached (outcome who row)))

abbrev pub on_vote : Member → Row → ℕ → Vote → Response
on_vote who row q vote = cond (counts row.stage) (counted who (with_vote row q vote)) (quiet row)

abbrev pub same : Decision → Decision → Bool
same Post Post = true
same Post Drop = false
same Drop Post = false
same Drop Drop = true

-- an undecided ledger takes the order; a decided one disputes the contrary, once
abbrev pub at_held : Member → Row → Decision → Bool → Option Decision → Response
at_held who row decision disputed None = announce who row decision (received decision)
at_held who row decision disputed (Some own) =
    cond (same own decision || disputed) (quiet row) (record { row = row; effect = Write Dispute })

abbrev pub on_order : Member → Row → Decision → Bool → Response
on_order who row decision disputed = at_held who row decision disputed (held row.stage)

abbrev pub with_reply : Row → ℕ → Row
with_reply row q = record { status = row.status; stage = row.stage; round = row.round; noticed = row.noticed; replied = with_ledger row.replied q; ayes = row.ayes; noes = row.noes }

-- when every higher ledger not noticed has replied, the leader drops
abbrev pub denied : Member → Row → Response
denied who row =
    cond (is_some (first_missing row.noticed row.replied (above who.number) who.ledgers))
    (quiet row)
    (announce who row Drop AbortReached)

-- a Reply that holds no decision counts only for the present round
abbrev pub on_denial : Member → Row → ℕ → ℕ → Response
on_denial who row q round = cond (leads row.stage && round == row.round) (denied who (with_reply row q)) (quiet row)

abbrev pub on_reply : Member → Row → ℕ → ℕ → Option Decision → Bool → Response
on_reply who row q round (Some decision) disputed = on_order who row decision disputed
on_reply who row q round None disputed = on_denial who row q round

-- what comes from q; disputed: the journal has a dispute
abbrev pub on_message : Member → Row → ℕ → Message → Bool → Response
on_message who row q Prepare disputed = on_prepare who row
on_message who row q (Voted vote) disputed = on_vote who row q vote
on_message who row q (Order decision) disputed = on_order who row decision disputed
on_message who row q (Ask round) disputed = record { row = row; effect = Send q (Reply round (held row.stage)) }
on_message who row q (Reply round decision) disputed = on_reply who row q round decision disputed

abbrev pub with_notice : Row → ℕ → Row
with_notice row q = record { status = row.status; stage = row.stage; round = row.round; noticed = with_ledger row.noticed q; replied = row.replied; ayes = row.ayes; noes = row.noes }

-- a leader begins a round with the lowest higher ledger that is not noticed; with none left it drops
abbrev pub lead : Member → Row → Option ℕ → Response
lead who row (Some q) =
    quiet (record { status = row.status; stage = Asking q; round = above row.round; noticed = row.noticed; replied = empty; ayes = row.ayes; noes = row.noes })
lead who row None = announce who row Drop AbortReached

-- the coordinator drops where it lacks q's vote
abbrev pub coordinator_lacks : Member → Row → ℕ → Response
coordinator_lacks who row q = cond (is_in row.ayes q || is_in row.noes q) (quiet row) (announce who row Drop AbortReached)

-- a participant that has now noticed all lower ledgers leads
abbrev pub participant_notices : Member → Row → Response
participant_notices who row =
    cond (is_some (first_missing row.noticed row.noticed 0 who.number))
    (quiet row)
    (lead who row (first_missing row.noticed row.noticed (above who.number) who.ledgers))

abbrev pub on_expiry : Member → Row → ℕ → Response
on_expiry who row q =
    cond (who.number == 0) (coordinator_lacks who (with_notice row q) q) (participant_notices who (with_notice row q))

-- after the last ledger to ask, the leader waits for the replies
abbrev pub asked : Option ℕ → Stage
asked (Some q) = Asking q
asked None = Consulting

-- one act, where there is one
abbrev pub act : Member → Row → Stage → Option Response
act who row Initial = None
act who row (Preparing next) =
    Some (record { row = in_stage row (cond (nat_lt (above next) who.ledgers) (Preparing (above next)) Wait); effect = Send next Prepare })
act who row Wait = None
act who row Voting = Some (record { row = in_stage row Ready; effect = Send 0 (Voted who.vote) })
act who row Ready = None
act who row (Asking next) =
    Some (record { row = in_stage row (asked (first_missing row.noticed row.noticed (above next) who.ledgers)); effect = Send next (Ask row.round) })
act who row Consulting = None
act who row (Announcing decision next) =
    Some (record {
      row = in_stage row (cond (nat_lt (other_above who.number next) who.ledgers) (Announcing decision (other_above who.number next)) (Announced decision));
      effect = Send next (Order decision);
    })
act who row (Announced decision) = Some (record { row = in_stage row (Decided decision); effect = Write (obeyed decision) })
act who row (Decided decision) = None

abbrev pub on_step : Member → Row → Option Response
on_step who row = act who row row.stage
