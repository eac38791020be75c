use Rattle.std.proofs.Common.{◌≡◌, ℕ, ◌+◌, List, [], ◌∷◌, ◌++◌, length, ap, sym, ◌∙◌, arith}
use Rattle.arrayvec.specs.ArrayVec.{array_vec_len}
use Rattle.protocol.proofs.NotesBelow.{notes_none, notes_next, none_more}
use Rattle.protocol.specs.State.{State}
use Rattle.protocol.specs.Worklist.{note_of, notes_below}
use Rattle.protocol.specs.declared.note.Note.{Note}
use Rattle.floor.specs.State.{state}
use Rattle.floor.proofs.floor.Floor.notes.Goals as goal
use Rattle.floor.proofs.floor.Floor.notes.Goals.{in-Some, in_default}

one_more : (s : State) (p : ℕ) (notes : List Note) (note : Note) → notes ≡ notes_below s p → note ∷ [] ≡ note_of s p → notes ++ (note ∷ []) ≡ notes_below s (p + 1)
one_more s p notes note so_far here =
    ap (λ front. front ++ (note ∷ [])) so_far ∙ ap (λ more. notes_below s p ++ more) here ∙ sym (notes_next s p)

pub loop-ledger-init : goal.loop-ledger-init
loop-ledger-init g c =
    (c.new-notes.ensures ∙ notes_none (state c.args.self.now), omega (arith, ap length c.new-notes.ensures))

pub loop-ledger-preserved : goal.loop-ledger-preserved
loop-ledger-preserved g c =
    let s = state c.args.self.now in
    let l = c.loop-ledger in
    elim c.match-note_of.branch [
      | in-Some w ↦
          (ap (λ v. v.items) w.notes-is ∙ w.push.ensures.items ∙ one_more s l.ledger l.notes.items w.in-Some.note l.invariant.0 w.in-Some.ensures, omega (arith, ap array_vec_len w.notes-is))
      | in_default w ↦
          (ap (λ v. v.items) w.notes-is ∙ none_more s l.ledger l.notes.items l.invariant.0 w.in_default.ensures, omega (arith, ap array_vec_len w.notes-is))
    ]
