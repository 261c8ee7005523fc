use Rattle.std.proofs.Common.{◌≡◌, Some, sym, ap, ◌∙◌}
use Rattle.std.proofs.lemmas.Slice.Eq.{slice_eq-Decides}
use Rattle.std.proofs.lemmas.Bool.Decides.{Decides-eqb}
use Rattle.registry_rules.specs.Orders.{canonical_form}
use Rattle.registry_rules.specs.Reading.{kind_of, after_kind}
use Rattle.registry_rules.proofs.FormLemmas.{form_parts, kind_utf8, not_both, not_true}
use Rattle.registry_rules.proofs.reading.order_of_form.Goals as goal

pub returns-in_default-clause-complete : goal.returns-in_default-clause-complete
returns-in_default-clause-complete c order valid is =
    let parts = form_parts order c.args.form.now valid is in
    let kind : c.split_at.result.0.now ≡ kind_of order = rw (c.split_at.ensures.front, c.tab_at.ensures.at, c.as_bytes-bytes.ensures) parts.0 in
    absurd (c.in_default.ensures.cases.0 (rw kind (kind_utf8 order)))

pub returns-in-Err-NoOrder-clause-complete : goal.returns-in-Err-NoOrder-clause-complete
returns-in-Err-NoOrder-clause-complete c order valid is =
    let parts = form_parts order c.args.form.now valid is in
    let kind : c.split_at.result.0.now ≡ kind_of order = rw (c.split_at.ensures.front, c.tab_at.ensures.at, c.as_bytes-bytes.ensures) parts.0 in
    let fields : c.split_at.result.1.now ≡ after_kind order = rw (c.split_at.ensures.back, c.tab_at.ensures.at, c.as_bytes-bytes.ensures) parts.1 in
    absurd (not_both (sym c.in-Err-NoOrder.field-0-is ∙ c.in-Err-NoOrder.ensures order (c.in-Ok.ensures.cases.0 ∙ kind) valid parts.2 fields))

pub returns-then-eq-clause-complete : goal.returns-then-eq-clause-complete
returns-then-eq-clause-complete c order valid is =
    let parts = form_parts order c.args.form.now valid is in
    let kind : c.split_at.result.0.now ≡ kind_of order = rw (c.split_at.ensures.front, c.tab_at.ensures.at, c.as_bytes-bytes.ensures) parts.0 in
    let fields : c.split_at.result.1.now ≡ after_kind order = rw (c.split_at.ensures.back, c.tab_at.ensures.at, c.as_bytes-bytes.ensures) parts.1 in
    ap Some (c.in-Ok-order_from.ensures order (c.in-Ok.ensures.cases.0 ∙ kind) valid parts.2 fields)

pub returns-else-eq-clause-complete : goal.returns-else-eq-clause-complete
returns-else-eq-clause-complete c order valid is =
    let parts = form_parts order c.args.form.now valid is in
    let kind : c.split_at.result.0.now ≡ kind_of order = rw (c.split_at.ensures.front, c.tab_at.ensures.at, c.as_bytes-bytes.ensures) parts.0 in
    let fields : c.split_at.result.1.now ≡ after_kind order = rw (c.split_at.ensures.back, c.tab_at.ensures.at, c.as_bytes-bytes.ensures) parts.1 in
    let read : c.in-Ok-order_from.order ≡ order = c.in-Ok-order_from.ensures order (c.in-Ok.ensures.cases.0 ∙ kind) valid parts.2 fields in
    let same : c.as_bytes.result.now ≡ c.as_bytes-bytes.result.now = c.as_bytes.ensures.value ∙ c.in_ok-text.ensures ∙ ap canonical_form read ∙ is ∙ sym c.as_bytes-bytes.ensures in
    absurd (not_true (sym c.if-eq.false ∙ (slice_eq-Decides Decides-eqb _ _ _ c.eq.ensures).1 same))
