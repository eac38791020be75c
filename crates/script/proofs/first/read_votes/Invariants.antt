use Rattle.std.proofs.Common.{◌≡◌, true, map, length, take}
use Rattle.script.specs.First.{all_votes, vote_number}
use Rattle.script.proofs.first.read_votes.Given as goal

-- the numbers of the letters so far, each of them a vote
abbrev pub invariant-loop-place : goal.invariant-loop-place
invariant-loop-place l =
    (take l.place l.votes ≡ map vote_number (take l.place l.letters))
    × (all_votes (take l.place l.letters) ≡ true)
    × (length l.votes ≡ 9)
