-- What the calls on reserved spans do to the spans of the tables.
use Rattle.std.proofs.Common.{◌≡◌, ℕ, ◌+◌, ◌-◌, ◌≤◌, true, false, List, [], ◌∷◌, ◌++◌, filter, Option, Some, None, MatchOption, IfSome, IsSome, ◌↔◌, sym, subst, arith}
use Rattle.std.specs.List.{AllByRecursion}
use Rattle.sqlite.specs.State.{State, IsUnchanged}
use Rattle.sqlite_keyed.specs.Lists.{delete_where, sort_by}
use Rattle.sqlite_keyed.proofs.ListLemmas.{all_weaker}
use Rattle.usbnum_core.specs.declared.number.Span.{Span}
use Rattle.table_laws.specs.Inside.{GoesOn}
use Rattle.table_laws.proofs.InsideLemmas.{goes_then}
use Rattle.registry_rules.specs.declared.change.Change.TheVariants.{ReserveSpan, ReleaseSpan}
use Rattle.registry_rows.specs.Rows.{begins_at, meets, by_beginning}
use Rattle.registry_rows.specs.Steps.{Changes}
use Rattle.registry_rows.specs.Tables.{Tables, Holds}
use Rattle.registry_tables.specs.Changed.{with_spans, Makes}
use Rattle.registry_tables.specs.Reserved.{Reaches, part_of, PutsPart}
use Rattle.registry_tables.specs.Rows.{AreApart}
use Rattle.registry_tables.proofs.SpanLists.{none_replaced, is_cut}
use Rattle.registry_tables.proofs.ReservedLemmas.{ascend_part, beside_one, join_apart, join_each, left_beside, right_beside, parts_each}

pub part_put : (old new : State) (vid : ℕ) (span : Span) → Changes (λ t. record t { spans = delete_where (λ other. begins_at vid span.first other) t.spans ++ (vid, span) ∷ [] }) old new → PutsPart vid (Some span) old new
part_put old new vid span h = (
  h.0,
  λ t has apart.
      let all = all_weaker (λ k. AllByRecursion (AreApart k) ((vid, span) ∷ [])) (λ k. AreApart k (vid, span)) (λ k both. both.0) t.spans apart in
      subst (λ l. Holds new.now (with_spans (l ++ (vid, span) ∷ []) t)) (none_replaced (vid, span) t.spans all) (h.1 t has),
)

module _ (a b c : State) (vid low high : ℕ) (found : List (ℕ × Span))
    (read : GoesOn a b × ((t : Tables) → Holds a.now t → IsUnchanged a b × (found ≡ sort_by by_beginning (filter (meets vid low high) t.spans))))
    (cut : GoesOn b c × ((t : Tables) → Holds b.now t → Holds c.now (record t { spans = delete_where (meets vid low high) t.spans })))
    (span : Span) (least greatest : ℕ) (reach : Reaches span found least greatest) where
  goes_on : GoesOn a c
  goes_on = goes_then a b c read.0 cut.0

  is_left : (t : Tables) → Holds a.now t → Holds c.now (with_spans (delete_where (meets vid low high) t.spans) t)
  is_left t has = cut.1 t (subst (λ db. Holds db t) (sym (read.1 t has).0.0.now_is) has)

  pub reserves : (d : State) → low ≡ span.first - 1 → high ≡ span.last + 1 → (part : Option Span) → IsSome part ↔ (least ≤ greatest) → IfSome part (λ p. (p.first ≡ least) × (p.last ≡ greatest))
      → PutsPart vid part c d → Makes (ReserveSpan vid span) a d
  reserves d from_low to_high None valid ends put = let own = span.ordered in let never : false ≡ true = valid.1 (omega (arith, reach.below, reach.above)) in absurd cc
  reserves d from_low to_high (Some join) valid ends put = (
    goes_then a c d goes_on put.0,
    λ t has up.
        let kept = delete_where (meets vid low high) t.spans in
        let is = is_cut vid low high t.spans found up (read.1 t has).1 in
        let apart = beside_one vid join kept (join_apart vid low high t.spans found kept is span least greatest reach from_low to_high join ends.0 ends.1) in (
          kept ++ (vid, join) ∷ [],
          put.1 (with_spans kept t) (is_left t has) apart,
          record {
            each = join_each vid low high t.spans found kept is span least greatest reach from_low to_high join ends.0 ends.1;
            apart = ascend_part vid (Some join) kept is.ascend apart;
          },
        ),
  )

  pub releases : (d e : State) → low ≡ span.first → high ≡ span.last → (left right : Option Span) → MatchOption left (span.first ≤ least) (λ part. (part.first ≡ least) × (part.last + 1 ≡ span.first))
      → MatchOption right (greatest ≤ span.last) (λ part. (part.first ≡ span.last + 1) × (part.last ≡ greatest)) → PutsPart vid left c d → PutsPart vid right d e → Makes (ReleaseSpan vid span) a e
  releases d e from_low to_high left right is_before is_after put more = (
    goes_then a d e (goes_then a c d goes_on put.0) more.0,
    λ t has up.
        let kept = delete_where (meets vid low high) t.spans in
        let is = is_cut vid low high t.spans found up (read.1 t has).1 in
        let first = left_beside vid low high t.spans found kept is span least greatest reach from_low to_high left is_before in
        let second = right_beside vid low high t.spans found kept is span least greatest reach from_low to_high left right is_before is_after in (
          (kept ++ part_of vid left) ++ part_of vid right,
          more.1 (with_spans (kept ++ part_of vid left) t) (put.1 (with_spans kept t) (is_left t has) first) second,
          record {
            each = parts_each vid low high t.spans found kept is span least greatest reach from_low to_high left right is_before is_after;
            apart = ascend_part vid right (kept ++ part_of vid left) (ascend_part vid left kept is.ascend first) second;
          },
        ),
  )
