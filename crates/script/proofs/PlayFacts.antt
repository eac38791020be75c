-- What the next line does to the rest of a play.
use Rattle.std.proofs.Common.{◌≡◌, ℕ, suc, ◌+◌, ◌<◌, ◌≤◌, Bool, true, false, cond, eqb, List, [], ◌∷◌, ◌++◌, map, length, drop, Some, None, Option, Result, refl, ap, append_assoc, arith, length-drop}
use Rattle.std.proofs.lemmas.List.{drop_all}
use Rattle.protocol.specs.Plans.{after_all, call_after, call_answer}
use Rattle.protocol.specs.State.{State}
use Rattle.protocol.specs.declared.call.Answer.{Answer}
use Rattle.protocol.specs.declared.call.Call.{Call}
use Rattle.script.specs.Lines.{Lines, lines_of, longer, with_line}
use Rattle.script.specs.Reading.{read_call}
use Rattle.script.specs.Rehearsal.{calls_of, calls_text, left_read, raised, reads, reads_from, where_read}
use Rattle.script.specs.Texts.{answer_text, fault_text}
use Rattle.script.specs.declared.fault.ScriptRefusal.{ScriptRefusal}
use Rattle.script.specs.declared.fault.ScriptRefusal.TheVariants.{BadLine}

no_cons : (x : List ℕ) (xs : List (List ℕ)) → x ∷ xs ≡ [] → ⊥
no_cons x xs e = cc

-- where no line ends, all bytes are left
by_byte : (b : ℕ) (bs : List ℕ) (ten : Bool) (whole : List (List ℕ)) (left : List ℕ) → (cond ten (with_line [] (record { whole = whole; left = left })) (longer b whole left)).whole ≡ [] → (whole ≡ [] → left ≡ bs) → (cond ten (with_line [] (record { whole = whole; left = left })) (longer b whole left)).left ≡ b ∷ bs
by_byte b bs true whole left none all = absurd (no_cons _ _ none)
by_byte b bs false [] left none all = ap (λ rest. b ∷ rest) (all refl)
by_byte b bs false (line ∷ lines) left none all = absurd (no_cons _ _ none)

all_left : (bs : List ℕ) → (lines_of bs).whole ≡ [] → (lines_of bs).left ≡ bs
all_left [] none = refl
all_left (b ∷ bs) none = by_byte b bs (eqb b 10) (lines_of bs).whole (lines_of bs).left none (all_left bs)

-- bytes that no line ends are no call, and the last ones
pub left_alone : (start : ℕ) (script : List ℕ) → start < length script → (lines_of (drop start script)).whole ≡ [] → reads_from start script ≡ None ∷ reads_from (length script) script
left_alone start script within none =
    rw (none, all_left (drop start script) none, drop_all (length script) script (omega arith)) (some (drop start script) (let long = length-drop start script in omega arith))
  where
    some : (bs : List ℕ) → 0 < length bs → left_read bs ≡ None ∷ []
    some [] more = absurd (omega arith)
    some (b ∷ bs) more = refl

-- no more lines than bytes
byte_more : (b n : ℕ) (ten : Bool) (whole : List (List ℕ)) (left : List ℕ) → length (map read_call whole ++ left_read left) ≤ n → length (reads (cond ten (with_line [] (record { whole = whole; left = left })) (longer b whole left))) ≤ suc n
byte_more b n true whole left few = omega arith
byte_more b n false [] left few = omega arith
byte_more b n false (line ∷ lines) left few = omega arith

reads_few : (bs : List ℕ) → length (reads (lines_of bs)) ≤ length bs
reads_few [] = omega arith
reads_few (b ∷ bs) = byte_more b (length bs) (eqb b 10) (lines_of bs).whole (lines_of bs).left (reads_few bs)

pub reads_from-few : (start : ℕ) (script : List ℕ) → length (reads_from start script) ≤ length script
reads_from-few start script =
    let few = reads_few (drop start script) in
    let long = length-drop start script in
    omega arith

-- the lines that are printed for what is read, and the calls among it
abbrev pub told : ℕ → State → ℕ → List (Option Call) → List ℕ
told depth s k [] = []
told depth s k (read ∷ more) =
    where_read read
    (λ call. answer_text k (raised (call_answer depth s call)) ++ told depth (call_after depth s call) (k + 1) more)
    (fault_text k BadLine)

abbrev pub calls_read : List (Option Call) → List Call
calls_read [] = []
calls_read (read ∷ more) = where_read read (λ call. call ∷ calls_read more) []

left_told : (depth : ℕ) (s : State) (k : ℕ) (left : List ℕ) → told depth s k (left_read left) ≡ calls_text depth s k [] left
left_told depth s k [] = refl
left_told depth s k (b ∷ bs) = refl

whole_told : (depth : ℕ) (s : State) (k : ℕ) (whole : List (List ℕ)) (left : List ℕ) → told depth s k (map read_call whole ++ left_read left) ≡ calls_text depth s k whole left
whole_told depth s k [] left = left_told depth s k left
whole_told depth s k (line ∷ lines) left = by_read (read_call line) (λ t. whole_told depth t (k + 1) lines left)
  where
    by_read : (read : Option Call) → ((t : State) → told depth t (k + 1) (map read_call lines ++ left_read left) ≡ calls_text depth t (k + 1) lines left) → told depth s k (read ∷ (map read_call lines ++ left_read left)) ≡ where_read read (λ call. answer_text k (raised (call_answer depth s call)) ++ calls_text depth (call_after depth s call) (k + 1) lines left) (fault_text k BadLine)
    by_read None further = refl
    by_read (Some call) further = ap (λ text. answer_text k (raised (call_answer depth s call)) ++ text) (further (call_after depth s call))

left_calls : (left : List ℕ) → calls_read (left_read left) ≡ []
left_calls [] = refl
left_calls (b ∷ bs) = refl

whole_calls : (whole : List (List ℕ)) (left : List ℕ) → calls_read (map read_call whole ++ left_read left) ≡ calls_of whole
whole_calls [] left = left_calls left
whole_calls (line ∷ lines) left = by_read (read_call line) (whole_calls lines left)
  where
    by_read : (read : Option Call) → calls_read (map read_call lines ++ left_read left) ≡ calls_of lines → calls_read (read ∷ (map read_call lines ++ left_read left)) ≡ where_read read (λ call. call ∷ calls_of lines) []
    by_read None further = refl
    by_read (Some call) further = ap (λ calls. call ∷ calls) further

-- what is left to do, from a line on
pub record Left (depth : ℕ) (then : State) (all : Lines) (before : List ℕ) (s : State) (k : ℕ) (rest : List (Option Call)) (text : List ℕ) : Type 0 where
  pub texts : text ++ told depth s k rest ≡ before ++ calls_text depth then 2 all.whole all.left
  pub calls : after_all depth s (calls_read rest) ≡ after_all depth then (calls_of all.whole)
  pub few : k + length rest ≤ 65538

module _ (depth : ℕ) (then : State) (all : Lines) (before : List ℕ) where
  pub at_start : length (reads all) ≤ 65536 → Left depth then all before then 2 (reads all) before
  at_start few = record {
    texts = ap (λ text. before ++ text) (whole_told depth then 2 all.whole all.left);
    calls = ap (after_all depth then) (whole_calls all.whole all.left);
    few = omega arith;
  }

  module _ (s : State) (k : ℕ) (rest : List (Option Call)) (text : List ℕ) (so_far : Left depth then all before s k rest text) where
    pub at_call : (call : Call) (more : List (Option Call)) (answer : Result Answer ScriptRefusal) (t : State) (number next : ℕ) (text' : List ℕ) → rest ≡ Some call ∷ more → number ≡ k → next ≡ k + 1 → answer ≡ raised (call_answer depth s call) → t ≡ call_after depth s call → text' ≡ text ++ answer_text number answer → Left depth then all before t next more text'
    at_call call more answer t number next text' first same later told_so after added =
        let texts = rw first at so_far.texts in
        let calls = rw first at so_far.calls in
        let few = rw first at so_far.few in
        record {
          texts = rw (added, same, later, told_so, after, append_assoc) texts;
          calls = rw after calls;
          few = omega arith;
        }
