-- Each trial is computed.
use Rattle.std.proofs.Common.{refl}
use Rattle.network.specs.Links.{is_link}
use Rattle.protocol.specs.Bounded.{all_below}
use Rattle.promises.specs.Runs.{on_the_way}
use Rattle.trials.specs.Cases.{Disagrees, Drops, GoesOn, NeverBegun, Openings, Posts, Restarts, Restless, Tapes, TrialCases}

openings : Openings
unfolding all_below is_link
openings = record { one_ledger = refl; two_ledgers = refl; eight_ledgers = refl; nine_ledgers = refl; vote_of_zero = refl }

restarts : Restarts
restarts = record { ready = refl; ordered = refl; posted = refl; begun = refl; decided = refl }

tapes : Tapes
tapes = record { right = refl; torn_at_8 = refl; with_15 = refl }

posts : Posts
unfolding all_below is_link on_the_way
posts = record { begun = refl; none_early = refl; ledger_0 = refl; ledger_1 = refl; rests = refl; total = refl; sent = refl; most_sent = refl; calls = refl; most_taken = refl }

drops : Drops
unfolding all_below is_link
drops = record { ledger_0 = refl; ledger_1 = refl; rests = refl }

disagrees : Disagrees
unfolding all_below is_link
disagrees = record { too_early = refl; stepped = refl; none_on_its_way = refl; runs = refl; holds = refl; ledger_0 = refl; ledger_1 = refl }

goes_on : GoesOn
unfolding all_below is_link
goes_on = record { all_taken = refl; none_early = refl; stopped = refl; ledger_0 = refl; ledger_1 = refl; rests = refl }

never_begun : NeverBegun
unfolding all_below is_link
never_begun = record { not_begun = refl; stopped = refl; none_early = refl; ledger_1 = refl; rests = refl }

restless : Restless
unfolding all_below is_link
restless = record { begun = refl; next_act = refl; missed = refl; next_expiry = refl; leads = refl }

pub trial_cases : TrialCases
trial_cases = record { openings = openings; restarts = restarts; tapes = tapes; posts = posts; drops = drops; disagrees = disagrees; goes_on = goes_on; never_begun = never_begun; restless = restless }
