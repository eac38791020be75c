-- A line that reads is the one that would be written.
use Rattle.std.proofs.Common.{◌≡◌, ℕ, List, [], ◌∷◌, Some, arith}
use Rattle.std.proofs.lemmas.Bool.Decides.{nat_tests}
use Rattle.protocol.specs.declared.call.Call.{Call}
use Rattle.script.specs.Reading.{call_line, read_call}

pub line_written : (line : List ℕ) (c : Call) → read_call line ≡ Some c → line ≡ call_line c
line_written [] c e = grind (arith, nat_tests)
line_written (l ∷ []) c e = grind (arith, nat_tests)
line_written (l ∷ (a ∷ [])) c e = grind (arith, nat_tests)
line_written (l ∷ (a ∷ (p ∷ []))) c e = grind (arith, nat_tests)
line_written (l ∷ (a ∷ (p ∷ (b ∷ [])))) c e = grind (arith, nat_tests)
line_written (l ∷ (a ∷ (p ∷ (b ∷ (q ∷ []))))) c e = grind (arith, nat_tests)
line_written (l ∷ (a ∷ (p ∷ (b ∷ (q ∷ (d ∷ rest)))))) c e = grind (arith, nat_tests)
