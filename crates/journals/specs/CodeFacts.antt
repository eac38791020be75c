-- What the definitions of codes give.
use Rattle.std.specs.Prelude.{◌≡◌, true, List, [], ◌∷◌, map, refl}
use Rattle.std.specs.List.{AllByRecursion}
use Rattle.journals.specs.Codes.{code_of, is_code}
use Rattle.journals.specs.declared.entry.Entry.{Entry}
use Rattle.journals.specs.declared.entry.Entry.TheVariants.{Begin, ReadyYes, ReadyNo, CommitReached, AbortReached, CommitReceived, AbortReceived, TransactionCommit, TransactionAbort, Dispute}

pub coded : (e : Entry) → is_code (code_of e) ≡ true
coded Begin = refl
coded ReadyYes = refl
coded ReadyNo = refl
coded CommitReached = refl
coded AbortReached = refl
coded CommitReceived = refl
coded AbortReceived = refl
coded TransactionCommit = refl
coded TransactionAbort = refl
coded Dispute = refl

pub all_coded : (es : List Entry) → AllByRecursion (λ c. is_code c ≡ true) (map code_of es)
all_coded [] = tt
all_coded (e ∷ es) = (coded e, all_coded es)
