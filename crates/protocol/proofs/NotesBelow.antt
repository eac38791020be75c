-- How a loop over the ledgers comes to all notes.
use Rattle.std.proofs.Common.{◌≡◌, ℕ, suc, ◌+◌, List, [], ◌++◌, sym, refl, ap, ◌∙◌, append-nil, add-one}
use Rattle.protocol.specs.State.{State}
use Rattle.protocol.specs.Worklist.{note_of, notes_below}
use Rattle.protocol.specs.declared.note.Note.{Note}

pub notes_none : (s : State) → [] ≡ notes_below s 0
unfolding notes_below
notes_none s = refl

notes_suc : (s : State) (p : ℕ) → notes_below s (suc p) ≡ notes_below s p ++ note_of s p
unfolding notes_below
notes_suc s p = refl

pub notes_next : (s : State) (p : ℕ) → notes_below s (p + 1) ≡ notes_below s p ++ note_of s p
notes_next s p = ap (notes_below s) (add-one p) ∙ notes_suc s p

pub none_more : (s : State) (p : ℕ) (front : List Note) → front ≡ notes_below s p → [] ≡ note_of s p → front ≡ notes_below s (p + 1)
none_more s p front so_far here = so_far ∙ sym (append-nil (notes_below s p)) ∙ ap (λ more. notes_below s p ++ more) here ∙ sym (notes_next s p)
