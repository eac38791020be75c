-- Where the first line of a list of bytes ends.
use Rattle.std.proofs.Common.{◌≡◌, ℕ, suc, ◌+◌, ◌-◌, ◌<◌, ◌≤◌, Bool, true, false, eqb, ltb, ◌==◌, List, [], ◌∷◌, length, take, drop, Some, None, position, sym, refl, ap, ◌∙◌, arith, length-drop}
use Rattle.std.specs.List.{position_or_len}
use Rattle.std.proofs.lemmas.List.{drop-drop, length-take-le, take_rest}
use Rattle.std.proofs.lemmas.Bool.{ltb-true}
use Rattle.std.proofs.lemmas.Bool.Decides.{nat_tests}
use Rattle.script.specs.Lines.{LineAt, lines_of, with_line}

-- as many bytes as stand before the first byte 10
abbrev pub first_len : List ℕ → ℕ
first_len = position_or_len (λ b. b == 10)

first_line : (bs : List ℕ) → first_len bs < length bs → lines_of bs ≡ with_line (take (first_len bs) bs) (lines_of (drop (first_len bs + 1) bs))
first_line [] within = absurd (omega arith)
first_line (b ∷ bs) within = by_test (eqb b 10) refl (first_line bs)
  where
    by_test : (ends : Bool) → eqb b 10 ≡ ends → (first_len bs < length bs → lines_of bs ≡ with_line (take (first_len bs) bs) (lines_of (drop (first_len bs + 1) bs))) → lines_of (b ∷ bs) ≡ with_line (take (first_len (b ∷ bs)) (b ∷ bs)) (lines_of (drop (first_len (b ∷ bs) + 1) (b ∷ bs)))
    by_test true is further = rw is
    by_test false is further =
        let more = rw is at within in
        let rest = further (omega arith) in
        let n : 1 + first_len bs ≡ suc (first_len bs) = omega arith in
        let m : suc (first_len bs) + 1 ≡ suc (first_len bs + 1) = omega arith in
        rw (is, n, m, rest)

no_line : (bs : List ℕ) → length bs ≤ first_len bs → (lines_of bs).whole ≡ []
no_line [] past = refl
no_line (b ∷ bs) past = by_test (eqb b 10) refl (no_line bs)
  where
    by_test : (ends : Bool) → eqb b 10 ≡ ends → (length bs ≤ first_len bs → (lines_of bs).whole ≡ []) → (lines_of (b ∷ bs)).whole ≡ []
    by_test true is further = let short = rw is at past in absurd (omega arith)
    by_test false is further = let more = rw is at past in let rest = further (omega arith) in rw (is, rest)

-- what a search for a byte 10 from a start on tells
module _ (script : List ℕ) (start : ℕ) (rest : List ℕ) (from : rest ≡ take (length script - start) (drop start script)) where
  is_rest : rest ≡ drop start script
  is_rest = from ∙ take_rest script start

  pub no_line_from : position (λ b. b == 10) rest ≡ None → (lines_of (drop start script)).whole ≡ []
  no_line_from none = ap (λ bs. (lines_of bs).whole) (sym is_rest) ∙ no_line rest (by_test (ltb (first_len rest) (length rest)) refl)
    where
      by_test : (inside : Bool) → ltb (first_len rest) (length rest) ≡ inside → length rest ≤ first_len rest
      by_test true is = let found = rw is at none in absurd (cc)
      by_test false is = grind (arith, nat_tests)

  pub line_from : (n : ℕ) → start ≤ length script → position (λ b. b == 10) rest ≡ Some n → LineAt script start (take n rest) (start + n + 1)
  line_from n within found = by_test (ltb (first_len rest) (length rest)) refl
    where
      by_test : (inside : Bool) → ltb (first_len rest) (length rest) ≡ inside → LineAt script start (take n rest) (start + n + 1)
      by_test true is =
          let some = rw is at found in
          let same : first_len rest ≡ n = cc in
          let short = ltb-true (first_len rest) (length rest) is in
          let long = ap length is_rest ∙ length-drop start script in
          let size : length (take n rest) ≡ n = length-take-le n rest (omega arith) in
          let behind : start + n + 1 ≡ start + (n + 1) = omega arith in
          let it = first_line rest short in
          record {
            first = ap lines_of (sym is_rest) ∙ rw same at it ∙ ap (λ bs. with_line (take n rest) (lines_of bs)) (ap (drop (n + 1)) is_rest ∙ drop-drop (n + 1) start script ∙ ap (λ i. drop i script) (sym behind));
            behind = omega arith;
            within = omega arith;
          }
      by_test false is = let none = rw is at found in absurd (cc)
