-- Every call is lawful.
use Rattle.std.proofs.Common.{◌≡◌, ℕ, ◌+◌, ◌-◌, ◌^◌, ◌≤◌, min, Bool, true, false, cond, ◌&&◌, eqb, ltb, ◌≢◌, List, [], ◌∷◌, ◌++◌, length, get_or, set, is_ok, is_err, Ok, Err, Result, sym, refl, ap, ◌∙◌, subst, append-nil, arith, length-set, get_or-set_other, get_or-set_same}
use Rattle.std.proofs.lemmas.List.{get_or_past}
use Rattle.std.proofs.lemmas.Bool.{eqb-false, eqb-true, ltb-true}
use Rattle.std.proofs.lemmas.Bool.Decides.{nat_tests}
use Rattle.journals.specs.Calls.{Entries, append_answer, with_entry}
use Rattle.journals.specs.Codes.{code_of}
use Rattle.journals.specs.declared.fault.JournalsFault.{JournalsFault}
use Rattle.network.proofs.LinkFacts.{own_link}
use Rattle.network.specs.Links.{Links, put_answer, with_link}
use Rattle.network.specs.declared.fault.NetworkFault.{NetworkFault}
use Rattle.network.specs.declared.message.Message.{Message}
use Rattle.rules.specs.declared.effect.Effect.{Effect}
use Rattle.rules.specs.declared.effect.Effect.TheVariants.{Nothing, Write, Send}
use Rattle.rules.specs.declared.row.Row.{Row}
use Rattle.protocol.specs.Laws.{Exchange, Lawful, Steady, onto}
use Rattle.protocol.specs.Perform.{from_journals, from_network, perform_after, perform_answer, with_row}
use Rattle.protocol.specs.State.{State, no_row, row_of}

pub steady_refl : (row : Row) → Steady row row
steady_refl row = record { decided = λ decision some running. some; out = λ was. was }

-- nothing is taken and nothing sent
silent : (p : ℕ) (named : ℕ → ℕ → Bool) (s t : State) → t.links ≡ s.links → t.sent ≡ s.sent → Exchange p named s t
silent p named s t links total = record {
  took = false;
  sent = [];
  one = omega arith;
  links = λ a b. ap (λ L. L a b) links ∙ sym (append-nil (s.links a b));
  total = λ fits. omega arith;
}

-- nothing changed
pub unchanged : (p : ℕ) (named : ℕ → ℕ → Bool) (refused : Bool) (s : State) → Lawful p named refused s s
unchanged p named refused s = record {
  refusal = λ _. refl;
  members = (refl, refl);
  rows = λ q other. refl;
  journals = λ q other. refl;
  grows = ([], omega arith, sym (append-nil (s.entries p)));
  exchange = silent p named s s refl refl;
  steady = λ q. steady_refl (row_of s q);
}

module _ (s : State) (p : ℕ) (row : Row) (steady : Steady (row_of s p) row) where
  -- the row is stored at p, if the table has a place p
  steady_here : (within : Bool) → ltb p (length s.rows) ≡ within → Steady (row_of s p) (get_or (set s.rows p row) p no_row)
  steady_here true here =
      subst (Steady (row_of s p)) (sym (get_or-set_same s.rows p row no_row (ltb-true p (length s.rows) here))) steady
  steady_here false past =
      let end : length s.rows ≤ p = grind (arith, nat_tests) in
      let gone : length (set s.rows p row) ≤ p = simp length-set end in
      subst (Steady (row_of s p)) (get_or_past s.rows p no_row end ∙ sym (get_or_past (set s.rows p row) p no_row gone)) (steady_refl (row_of s p))

  steady_at : (q : ℕ) (own : Bool) → eqb q p ≡ own → Steady (row_of s q) (get_or (set s.rows p row) q no_row)
  steady_at q true same =
      subst (λ r. Steady (row_of s r) (get_or (set s.rows p row) r no_row)) (sym (eqb-true q p same)) (steady_here (ltb p (length s.rows)) refl)
  steady_at q false other =
      subst (Steady (row_of s q)) (sym (get_or-set_other s.rows p q row no_row (eqb-false q p other))) (steady_refl (row_of s q))

  steady_set : (q : ℕ) → Steady (row_of s q) (get_or (set s.rows p row) q no_row)
  steady_set q = steady_at q (eqb q p) refl

  rows_set : (q : ℕ) → q ≢ p → get_or (set s.rows p row) q no_row ≡ row_of s q
  rows_set q other = get_or-set_other s.rows p q row no_row other

  module _ (named : ℕ → ℕ → Bool) where
    -- the row is stored, and of the rest only p's journal and what p sends change
    stored : (links : Links) (entries : Entries) (sent : ℕ)
        → let after : State = record { ledgers = s.ledgers; votes = s.votes; rows = set s.rows p row; links = links; entries = entries; sent = sent } in
        ((q : ℕ) → q ≢ p → entries q ≡ s.entries q) → ((more : List ℕ) × (length more ≤ 1) × (entries p ≡ s.entries p ++ more)) → Exchange p named s after → Lawful p named false s after
    stored links entries sent journals grows exchange = record {
      refusal = λ wrong. grind arith;
      members = (refl, refl);
      rows = rows_set;
      journals = journals;
      grows = grows;
      exchange = exchange;
      steady = steady_set;
    }

    -- only the row changed
    only_row : Lawful p named false s (with_row s p row)
    only_row = stored s.links s.entries s.sent (λ q other. refl) ([], omega arith, sym (append-nil (s.entries p))) (silent p named s _ refl refl)

    wrote : (code : ℕ) (answer : Result Unit JournalsFault) → Lawful p named (is_err (from_journals answer)) s (cond (is_ok (from_journals answer)) (record { ledgers = s.ledgers; votes = s.votes; rows = set s.rows p row; links = s.links; entries = cond (is_ok answer) (with_entry s.entries p code) s.entries; sent = s.sent }) s)
    wrote code (Ok x) = stored s.links _ s.sent (λ q other. grind (arith, nat_tests)) (code ∷ [], omega arith, grind (arith, nat_tests)) (silent p named s _ refl refl)
    wrote code (Err fault) = unchanged p named true s

    put_there : (L : Links) (q : ℕ) (message : Message) (a b : ℕ) → with_link L p q (L p q ++ (message ∷ [])) a b ≡ L a b ++ onto p ((q, message) ∷ []) a b
    put_there L q message a b =
        sym (own_link L (λ list. list ++ (message ∷ [])) p q a b) ∙ by_test (eqb p a && eqb q b)
      where
        by_test : (own : Bool) → cond own (L a b ++ (message ∷ [])) (L a b) ≡ L a b ++ cond own (message ∷ []) []
        by_test true = refl
        by_test false = sym (append-nil (L a b))

    gave : (q : ℕ) (message : Message) (answer : Result Unit NetworkFault) → Lawful p named (is_err (from_network answer)) s (cond (is_ok (from_network answer)) (record { ledgers = s.ledgers; votes = s.votes; rows = set s.rows p row; links = cond (is_ok answer) (with_link s.links p q (s.links p q ++ (message ∷ []))) s.links; entries = s.entries; sent = min (s.sent + 1) (2 ^ 64 - 1) }) s)
    gave q message (Ok x) =
        stored _ s.entries _ (λ r other. refl) ([], omega arith, sym (append-nil (s.entries p)))
        (record { took = false; sent = (q, message) ∷ []; one = omega arith; links = put_there s.links q message; total = λ fits. omega arith })
    gave q message (Err fault) = unchanged p named true s

    pub performs : (depth : ℕ) (effect : Effect) → Lawful p named (is_err (perform_answer depth s p effect)) s (perform_after depth s p row effect)
    performs depth Nothing = only_row
    performs depth (Write entry) = wrote (code_of entry) (append_answer s.entries p (code_of entry))
    performs depth (Send q message) = gave q message (put_answer depth s.links p q)
