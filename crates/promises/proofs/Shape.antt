-- What a ledger has noticed and heard, and how that goes with its stage.
use Rattle.std.proofs.Common.{◌≡◌, ℕ, ◌<◌, ◌≤◌, Bool, true, false, not, ◌≢◌, length, is_some, Some, None, Option, sym, refl, ap, ◌∙◌, arith}
use Rattle.std.proofs.lemmas.List.{length-set}
use Rattle.std.proofs.lemmas.Bool.{or_from}
use Rattle.std.proofs.lemmas.Bool.Decides.{nat_tests}
use Rattle.network.specs.declared.message.Vote.{Vote}
use Rattle.network.specs.declared.message.Vote.TheVariants.{Yes, No}
use Rattle.rules.specs.Ledgers.{empty, first_missing, is_in, with_ledger}
use Rattle.rules.specs.Rules.{above, in_stage, with_notice, with_reply, with_vote}
use Rattle.rules.specs.Stages.{counts, held, initial, leads}
use Rattle.rules.specs.declared.ledger_set.LedgerSet.{LedgerSet}
use Rattle.rules.specs.declared.row.Row.{Row}
use Rattle.rules.specs.declared.stage.Stage.{Stage}
use Rattle.rules.specs.declared.stage.Stage.TheVariants.{Initial, Preparing, Wait, Voting, Ready, Asking, Consulting, Announcing, Announced, Decided}
use Rattle.promises.proofs.Journal.{promised}
use Rattle.promises.proofs.Sets.{count, count_set, found_missing, found_none, in_either, in_empty, in_with, lowest, none_missing}

-- the sets are whole, and each round followed a notice
pub record Notes (p : ℕ) (row : Row) : Type 0 where
  pub noticed_long : length row.noticed.members ≡ 8
  pub replied_long : length row.replied.members ≡ 8
  pub ayes_long : length row.ayes.members ≡ 8
  pub noes_long : length row.noes.members ≡ 8
  pub rounds : row.round ≤ count row.noticed.members
  pub not_itself : is_in row.noticed p ≡ false

-- the number that the stage holds is that of another ledger
abbrev pub Points : ℕ → ℕ → LedgerSet → Stage → Type 0
Points n p noticed Initial = Unit {0}
Points n p noticed (Preparing next) = (1 ≤ next) × (next < n)
Points n p noticed Wait = Unit {0}
Points n p noticed Voting = Unit {0}
Points n p noticed Ready = Unit {0}
Points n p noticed (Asking next) = (p < next) × (next < n) × (is_in noticed next ≡ false)
Points n p noticed Consulting = Unit {0}
Points n p noticed (Announcing decision next) = (next < n) × (next ≢ p)
Points n p noticed (Announced decision) = Unit {0}
Points n p noticed (Decided decision) = Unit {0}

-- some lower ledger is not noticed
abbrev pub lower_left : ℕ → Row → Bool
lower_left p row = is_some (first_missing row.noticed row.noticed 0 p)

pub record Shape (n p : ℕ) (row : Row) : Type 0 where
  pub points : Points n p row.noticed row.stage
  pub counts_at : counts row.stage ≡ true → p ≡ 0
  pub leads_at : leads row.stage ≡ true → 1 ≤ p
  pub promised_at : promised row.stage ≡ true → 1 ≤ p
  pub unnoticed : p ≡ 0 → initial row.stage ≡ true → (q : ℕ) → is_in row.noticed q ≡ false
  pub unheard : p ≡ 0 → initial row.stage ≡ true → (q : ℕ) → in_either row.ayes row.noes q ≡ false
  pub lacks : counts row.stage ≡ true → is_some (first_missing row.ayes row.noes 1 n) ≡ true
  pub noticed_heard : counts row.stage ≡ true → (q : ℕ) → is_in row.noticed q ≡ true → in_either row.ayes row.noes q ≡ true
  pub leads_last : 1 ≤ p → is_some (held row.stage) ≡ false → lower_left p row ≡ not (leads row.stage)
  pub asks : leads row.stage ≡ true → is_some (first_missing row.noticed row.replied (above p) n) ≡ true

module _ (n p : ℕ) (row : Row) (small : p < 8) where
  -- one more is noticed
  pub notes_notice : (q : ℕ) → q < 8 → q ≢ p → is_in row.noticed q ≡ false → Notes p row → Notes p (with_notice row q)
  notes_notice q below other absent notes =
      record {
        noticed_long = length-set row.noticed.members q true ∙ notes.noticed_long;
        replied_long = notes.replied_long;
        ayes_long = notes.ayes_long;
        noes_long = notes.noes_long;
        rounds = omega (arith, count_set row.noticed.members q (omega arith) absent);
        not_itself = grind (arith, nat_tests, in_with row.noticed q p);
      }

  pub notes_moves : (stage : Stage) → Notes p row → Notes p (in_stage row stage)
  notes_moves stage notes = search

  pub notes_leads : (q : ℕ) → row.round < count row.noticed.members → Notes p row → Notes p (record { status = row.status; stage = Asking q; round = above row.round; noticed = row.noticed; replied = empty; ayes = row.ayes; noes = row.noes })
  notes_leads q more notes = grind (arith, nat_tests)

  pub notes_vote : (q : ℕ) (vote : Vote) → Notes p row → Notes p (with_vote row q vote)
  notes_vote q Yes notes = search (arith, length-set)
  notes_vote q No notes = search (arith, length-set)

  pub notes_reply : (q : ℕ) → Notes p row → Notes p (with_reply row q)
  notes_reply q notes = search (arith, length-set)

pub is_initial : (stage : Stage) → initial stage ≡ true → stage ≡ Initial
is_initial stage e = grind arith

-- only a leader's number depends on who is noticed
points_kept : (n p : ℕ) (before after : LedgerSet) (stage : Stage) → leads stage ≡ false → Points n p before stage → Points n p after stage
points_kept n p before after stage tame points = grind (arith, nat_tests)

module _ (n p : ℕ) (row : Row) where
  pub shape_begins : p ≡ 0 → initial row.stage ≡ true → 2 ≤ n → Shape n p row → Shape n p (in_stage row (Preparing 1))
  shape_begins zeroth i many shape = grind (arith, nat_tests)

  -- another stage of the same kind
  pub shape_moves : (after : Stage) → counts after ≡ counts row.stage → leads after ≡ leads row.stage → (promised after ≡ true → 1 ≤ p) → initial after ≡ false → held after ≡ held row.stage → Points n p row.noticed after → Shape n p row → Shape n p (in_stage row after)
  shape_moves after same_counts same_leads low i same_held points shape = grind (arith, nat_tests)

  -- a stage that holds a decision
  pub shape_holds : (after : Stage) → is_some (held after) ≡ true → Points n p row.noticed after → Shape n p (in_stage row after)
  shape_holds after holds points = grind (arith, nat_tests)

  -- more votes are in, and another is still out
  pub shape_vote : (ayes noes : LedgerSet) → ((x : ℕ) → in_either row.ayes row.noes x ≡ true → in_either ayes noes x ≡ true) → counts row.stage ≡ true → is_some (first_missing ayes noes 1 n) ≡ true → Shape n p row → Shape n p (record { status = row.status; stage = row.stage; round = row.round; noticed = row.noticed; replied = row.replied; ayes = ayes; noes = noes })
  shape_vote ayes noes more c left shape = grind (arith, nat_tests)

  -- a reply is in, and another is still out
  pub shape_reply : (q : ℕ) → is_some (first_missing row.noticed (with_ledger row.replied q) (above p) n) ≡ true → Shape n p row → Shape n p (with_reply row q)
  shape_reply q left shape = grind (arith, nat_tests)

  -- the coordinator notices one that it has heard
  pub shape_coordinator : (q : ℕ) → q < 8 → Notes p row → p ≡ 0 → initial row.stage ≡ false → in_either row.ayes row.noes q ≡ true → Shape n p row → Shape n p (with_notice row q)
  shape_coordinator q below notes zeroth i heard shape =
      record {
        points = points_kept n p row.noticed (with_ledger row.noticed q) row.stage (grind (arith, shape.leads_at)) shape.points;
        counts_at = shape.counts_at;
        leads_at = shape.leads_at;
        promised_at = shape.promised_at;
        unnoticed = λ _ e. grind arith;
        unheard = shape.unheard;
        lacks = shape.lacks;
        noticed_heard = λ c x there. grind (arith, nat_tests, shape.noticed_heard c x, in_with row.noticed q x);
        leads_last = λ above_zero e. absurd (omega arith);
        asks = λ e. absurd (omega (arith, shape.leads_at e));
      }

  pub lower_kept : (q : ℕ) → q < 8 → Notes p row → lower_left p row ≡ false → lower_left p (with_notice row q) ≡ false
  lower_kept q below notes none =
      found_none (with_ledger row.noticed q) (with_ledger row.noticed q) 0 p
      (λ i low high. grind (arith, nat_tests, in_with row.noticed q i, all_there (first_missing row.noticed row.noticed 0 p) refl none i low high))
    where
      all_there : (found : Option ℕ) → first_missing row.noticed row.noticed 0 p ≡ found → is_some found ≡ false → (i : ℕ) → 0 ≤ i → i < p → in_either row.noticed row.noticed i ≡ true
      all_there (Some x) e no_one i low high = absurd (let z : ◌≡◌ {A = ℕ} 0 1 = cc in omega arith)
      all_there None e no_one i low high = none_missing row.noticed row.noticed 0 p e i low high

  -- a participant notices one, and a lower one is left
  pub shape_participant : (q : ℕ) → q < 8 → Notes p row → 1 ≤ p → is_some (held row.stage) ≡ false → lower_left p (with_notice row q) ≡ true → Shape n p row → Shape n p (with_notice row q)
  shape_participant q below notes above_zero none left shape =
      let tame : leads row.stage ≡ false = grind (arith, shape.leads_last above_zero none, lower_kept q below notes) in
      record {
        points = points_kept n p row.noticed (with_ledger row.noticed q) row.stage tame shape.points;
        counts_at = shape.counts_at;
        leads_at = shape.leads_at;
        promised_at = shape.promised_at;
        unnoticed = λ zeroth e. absurd (omega arith);
        unheard = shape.unheard;
        lacks = shape.lacks;
        noticed_heard = λ c x there. absurd (omega (arith, shape.counts_at c));
        leads_last = λ _ _. left ∙ ap not (sym tame);
        asks = λ e. grind arith;
      }

  -- a participant that has noticed all lower ones asks the lowest higher one that is left
  pub shape_leads : (q round : ℕ) → p < 8 → 1 ≤ p → lower_left p row ≡ false → first_missing row.noticed row.noticed (above p) n ≡ Some q → Shape n p (record { status = row.status; stage = Asking q; round = round; noticed = row.noticed; replied = empty; ayes = row.ayes; noes = row.noes })
  shape_leads q round small above_zero none found =
      let it = lowest row.noticed row.noticed (above p) n q found in
      let absent : is_in row.noticed q ≡ false = grind (arith, it.missing) in
      record {
        points = (omega arith, it.high, absent);
        counts_at = λ e. grind arith;
        leads_at = λ _. above_zero;
        promised_at = λ e. grind arith;
        unnoticed = λ _ e. grind arith;
        unheard = λ _ e. grind arith;
        lacks = λ e. grind arith;
        noticed_heard = λ e. grind arith;
        leads_last = λ _ _. none;
        asks = λ _. found_missing row.noticed empty (above p) n q it.low it.high (or_from (is_in row.noticed q) (is_in empty q) absent (in_empty q));
      }
