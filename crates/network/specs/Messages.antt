-- The messages: each kind, its number and the values that it carries.
use Rattle.std.specs.Prelude.{ℕ, List, [], ◌∷◌, Some, None, Option}
use Rattle.network.specs.declared.message.Decision.{Decision}
use Rattle.network.specs.declared.message.Decision.TheVariants.{Post, Drop}
use Rattle.network.specs.declared.message.Message.{Message}
use Rattle.network.specs.declared.message.Message.TheVariants.{Prepare, Vote as Voted, Order, Ask, Reply}
use Rattle.network.specs.declared.message.Vote.{Vote}
use Rattle.network.specs.declared.message.Vote.TheVariants.{Yes, No}

abbrev pub vote_number : Vote → ℕ
vote_number Yes = 1
vote_number No = 2

abbrev pub decision_number : Decision → ℕ
decision_number Post = 1
decision_number Drop = 2

-- a decision held, or 0 for none
abbrev pub held_number : Option Decision → ℕ
held_number None = 0
held_number (Some decision) = decision_number decision

abbrev pub kind : Message → ℕ
kind Prepare = 1
kind (Voted vote) = 2
kind (Order decision) = 3
kind (Ask round) = 4
kind (Reply round decision) = 5

-- the values that a message carries
abbrev pub values : Message → List ℕ
values Prepare = []
values (Voted vote) = vote_number vote ∷ []
values (Order decision) = decision_number decision ∷ []
values (Ask round) = round ∷ []
values (Reply round decision) = round ∷ (held_number decision ∷ [])
