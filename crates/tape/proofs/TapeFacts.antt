-- What a tape keeps, and how one record more is kept.
use Rattle.std.proofs.Common.{◌≡◌, ℕ, ◌+◌, ◌<◌, ◌≤◌, true, cond, eqb, ◌≢◌, List, [], ◌∷◌, ◌++◌, length, get_or, take, drop, set, None, Some, sym, refl, ap, ◌∙◌, subst, inl, inr, arith}
use mathlib.Core.Path.{fun_ext}
use Rattle.std.proofs.lemmas.List.{length_push, take_more, take-append-drop, drop_more, get_or-set_same, get_or-set_other}
use Rattle.std.proofs.lemmas.Bool.{and_parts, ltb-true, cases_eq, eq-eqb, ne_eqb}
use Rattle.journals.specs.Calls.{Entries, with_entry}
use Rattle.journals.specs.Codes.{is_code, is_ledger}
use Rattle.tape.specs.Records.{codes_of, count_of, is_record, latest, lawful, no_track, track_of}
use Rattle.tape.specs.Tape.{records_of}
use Rattle.tape.specs.declared.records.Record.{Record}
use Rattle.tape.specs.declared.records.Track.{Track}
use Rattle.tape.specs.declared.Tape.{Tape}
use Rattle.tape.specs.RecordFacts.{lawful_push, at_most_64, codes_push, latest_past, track_push, record_within, no_ninth}

-- the tracks are those of eight ledgers, and no other has a record
pub none_latest : (t : Tape) (p : ℕ) → 8 ≤ p → None ≡ latest p (records_of t)
none_latest t p past = sym (latest_past (records_of t) t.kept p past)

own_list : (E : Entries) (p q code : ℕ) → cond (eqb p q) (E q ++ (code ∷ [])) (E q) ≡ with_entry E p code q
own_list E p q code = elim (cases_eq p q) [
  | inl same ↦ ap (λ x. cond (eqb p q) (E x ++ (code ∷ [])) (E q)) (sym same)
  | inr other ↦ rw (ne_eqb p q other)
]

-- one record more is one code more of its ledger
pub entries_push : (rs more : List Record) (r : Record) → more ≡ rs ++ (r ∷ []) → (λ p. codes_of p more) ≡ with_entry (λ p. codes_of p rs) r.ledger r.code
entries_push rs more r e = fun_ext (λ p. ap (codes_of p) e ∙ codes_push p rs r ∙ own_list (λ q. codes_of q rs) r.ledger p r.code)

-- what the ledger's track becomes
abbrev moved : Tape → Record → Track
moved t r = record { count = (get_or t.tracks r.ledger no_track).count + 1; latest = Some (length (records_of t)) }

module _ (t : Tape) (r : Record) (right : is_record r ≡ true) (room : count_of r.ledger (records_of t) < 8) where
  below : r.ledger < 8
  below = ltb-true r.ledger 8 (and_parts (is_ledger r.ledger) (is_code r.code) right).0

  pub more : lawful (records_of t ++ (r ∷ [])) ≡ true
  more = lawful_push (records_of t) t.kept r right room

  pub space : length (records_of t) < 64
  space = omega (arith, at_most_64 (records_of t ++ (r ∷ [])) more, length_push (records_of t) r)

  pub tracked_push : (p : ℕ) → p < 8 → get_or (set t.tracks r.ledger (moved t r)) p no_track ≡ track_of p (records_of t ++ (r ∷ []))
  tracked_push p low = elim (cases_eq r.ledger p) [
    | inl same ↦
        let own : (get_or t.tracks r.ledger no_track).count ≡ count_of r.ledger (records_of t) = ap (λ (k : Track). k.count) (t.tracked r.ledger below) in
        let long : r.ledger < length t.tracks = omega (arith, below) in
        subst (λ (q : ℕ). get_or (set t.tracks r.ledger (moved t r)) q no_track ≡ track_of q (records_of t ++ (r ∷ []))) same
        (get_or-set_same t.tracks r.ledger (moved t r) no_track long ∙ rw (track_push r.ledger (records_of t) r, eq-eqb r.ledger r.ledger refl, own))
    | inr other ↦
        let ne : p ≢ r.ledger = λ e. other (sym e) in
        get_or-set_other t.tracks r.ledger p (moved t r) no_track ne ∙ t.tracked p low ∙ rw (track_push p (records_of t) r, ne_eqb r.ledger p other)
  ]

-- the record at a place, among those before and after it
module _ (rs : List Record) (law : lawful rs ≡ true) (i : ℕ) (d : Record) (low : i < length rs) where
  pub more_here : take (i + 1) rs ≡ take i rs ++ (get_or rs i d ∷ [])
  more_here = take_more rs i d low

  law_here : lawful (take i rs ++ (get_or rs i d ∷ drop (i + 1) rs)) ≡ true
  law_here = ap lawful (ap (λ xs. take i rs ++ xs) (sym (drop_more rs i d low)) ∙ take-append-drop i rs) ∙ law

  pub record_here : is_record (get_or rs i d) ≡ true
  record_here = record_within (take i rs) (get_or rs i d) (drop (i + 1) rs) law_here

  pub room_here : count_of (get_or rs i d).ledger (take i rs) < 8
  room_here = no_ninth (take i rs) (get_or rs i d) (drop (i + 1) rs) law_here
