-- The rows of a founding are those of the history without deeds.
use Rattle.std.proofs.Common.{◌≡◌, ℕ, ◌+◌, ◌≤◌, ◌<ℤ◌, Bool, true, false, cond, ◌||◌, List, [], ◌∷◌, ◌++◌, append_assoc, append-nil, nat_eq, None, refl, sym, ap, ◌∙◌, arith}
use Rattle.std.specs.List.{AllByRecursion, list_any}
use Rattle.std.specs.Str.{bytes_eq}
use Rattle.std.proofs.lemmas.Int.{ints}
use Rattle.sqlite_keyed.specs.Keyed.{insert_by}
use Rattle.sqlite_keyed.specs.Lists.{delete_where}
use Rattle.usbnum_core.specs.Spans.{IsSpread}
use Rattle.usbnum_core.specs.declared.number.Span.{Span}
use Rattle.table_laws.proofs.FoundLemmas.{apart_put}
use Rattle.table_laws.proofs.UnnumberedLemmas.{insert_above}
use Rattle.registry_rows.specs.Rows.{is_named, fixed_key}
use Rattle.registry_tables.specs.Changed.{names_put, spans_put}
use Rattle.std.specs.Option.{option_map}
use Rattle.registry_rules.specs.History.{founded}
use Rattle.registry_rules.specs.Query.{petition_of}
use Rattle.registry_rules.specs.declared.founding.Founding.{Founding}
use Rattle.registry_rules.specs.declared.record.Petition.{Petition}
use Rattle.registry_rows.specs.Tables.{no_rows}
use Rattle.registry_tables.specs.Calls.{with_founding}
use Rattle.registry_tables.specs.Rows.{NoTwo, IsFounding, AreRecords, AreKeptReplies, IsRecorded}
use Rattle.registry_tables.proofs.StoreLemmas.{name_put}

-- ---- names

or_after : (a b c : Bool) → (cond a true b || c) ≡ (b || (a || c))
or_after true true c = refl
or_after true false c = refl
or_after false b c = refl

-- a name is present if it was before or is among those inserted
pub names_each : (names had : List (List ℕ)) (name : List ℕ) → list_any (bytes_eq name) (names_put names had) ≡ (list_any (bytes_eq name) had || list_any (bytes_eq name) names)
names_each [] had name = elim (list_any (bytes_eq name) had) as (λ b. b ≡ (b || false)) [ true ↦ refl | false ↦ refl ]
names_each (n ∷ names) had name =
    names_each names (delete_where (λ other. is_named other n) had ++ n ∷ []) name ∙ ap (λ b. b || list_any (bytes_eq name) names) (name_put name n had)
    ∙ or_after (bytes_eq name n) (list_any (bytes_eq name) had) (list_any (bytes_eq name) names)

pub names_once : (names had : List (List ℕ)) → NoTwo is_named had → NoTwo is_named (names_put names had)
names_once [] had once = once
names_once (n ∷ names) had once = names_once names _ (apart_put is_named n had once)

-- ---- spans

all_below : (start : ℕ) (spans : List Span) (new : Span) → AllByRecursion (λ (s : Span). s.last + 2 ≤ start) spans → start ≤ new.first → AllByRecursion (λ (s : Span). fixed_key s <ℤ fixed_key new) spans
all_below start [] new all le = tt
all_below start (s ∷ spans) new all le = (let own = s.ordered in grind (arith, ints), all_below start spans new all.1 le)

below_more : (start : ℕ) (spans : List Span) (new : Span) → AllByRecursion (λ (s : Span). s.last + 2 ≤ start) spans → start ≤ new.first → AllByRecursion (λ (s : Span). s.last + 2 ≤ new.last + 2) (spans ++ new ∷ [])
below_more start [] new all le = (omega arith, tt)
below_more start (s ∷ spans) new all le = (let own = new.ordered in omega (arith, all.0), below_more start spans new all.1 le)

-- ascending spans are inserted in order
pub spans_in_turn : (start : ℕ) (spans had : List Span) → AllByRecursion (λ (s : Span). s.last + 2 ≤ start) had → IsSpread start spans → spans_put spans had ≡ had ++ spans
spans_in_turn start [] had below spread = sym (append-nil had)
spans_in_turn start (s ∷ spans) had below spread =
    let placed : insert_by fixed_key had s ≡ had ++ s ∷ [] = insert_above fixed_key had s (all_below start had s below spread.0) in
    ap (spans_put spans) placed ∙ spans_in_turn (s.last + 2) spans (had ++ s ∷ []) (below_more start had s below spread.0) spread.2 ∙ append_assoc had (s ∷ []) spans

-- ---- one more

pub names_more : (names : List (List ℕ)) (name : List ℕ) (had : List (List ℕ)) → names_put (names ++ name ∷ []) had ≡ delete_where (λ other. is_named other name) (names_put names had) ++ name ∷ []
names_more [] name had = refl
names_more (n ∷ names) name had = names_more names name (delete_where (λ other. is_named other n) had ++ n ∷ [])

pub spans_more : (spans : List Span) (span : Span) (had : List Span) → spans_put (spans ++ span ∷ []) had ≡ insert_by fixed_key (spans_put spans had) span
spans_more [] span had = refl
spans_more (s ∷ spans) span had = spans_more spans span (insert_by fixed_key had s)

-- ---- the history without deeds

no_petition : (founding : Founding) (i : ℕ) (b : Bool) → nat_eq i 0 ≡ b
    → (let here : Petition → ℕ × Petition = λ petition. (i, petition) in None ≡ option_map here (petition_of (founded founding) i))
no_petition founding i true is = rw is refl
no_petition founding i false is = rw is refl

pub founded_records : (founding : Founding) → IsFounding founding → AreRecords (founded founding) (with_founding founding no_rows)
founded_records founding valid = record {
  founding = valid;
  metas = refl;
  curators = record { each = λ name. names_each founding.curators [] name; once = names_once founding.curators [] tt };
  licences = record { each = λ name. names_each founding.licences [] name ∙ ap (list_any (bytes_eq name)) (sym (append-nil founding.licences)); once = names_once founding.licences [] tt };
  fixed = spans_in_turn 1 founding.fixed [] tt valid.fixed;
  orgs = record { each = λ slug. refl; once = tt };
  vendors = λ vid. refl;
  spans = record { each = λ n. refl; apart = tt };
  entries = record { each = λ n. refl; once = tt };
  petitions = λ i. no_petition founding i (nat_eq i 0) refl;
  reasons = λ i. refl;
}

founded_kept : (founding : Founding) → AreKeptReplies (founded founding) []
founded_kept founding = record { in_order = refl; each = λ caller key. refl; once = tt }

pub founded_recorded : (founding : Founding) → IsRecorded (founded founding) (with_founding founding no_rows)
founded_recorded founding = record { kept = founded_kept founding; digests = λ legal valid. refl; times = λ legal valid. record { opened_then = λ i. refl; closed_then = λ i. refl } }
