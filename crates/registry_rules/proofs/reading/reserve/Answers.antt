use Rattle.std.proofs.Common.{◌≡◌, ap, ◌∙◌, rules}
use Rattle.registry_rules.specs.declared.form_fields.Unread.TheVariants.{NoMemory}
use Rattle.registry_rules.specs.declared.order.Order.TheVariants as orders
use Rattle.registry_rules.proofs.FormLemmas.{in_order, not_true}
use Rattle.registry_rules.proofs.ReadLemmas.{same_span}
use Rattle.registry_rules.proofs.reading.reserve.Goals as goal

pub returns-in_err-first : goal.returns-in_err-first
returns-in_err-first c it valid none is =
    let lost : c.in_err-first.field-0.0 ≡ NoMemory = c.in_err-first.ensures (it.span.first, (it.span.last, it.vendor)) (valid.0, (valid.1, valid.2)) none is in
    search rules

pub returns-in-Some : goal.returns-in-Some
returns-in-Some c it valid none is =
    let read = c.in_ok-first.ensures (it.span.first, (it.span.last, it.vendor)) (valid.0, (valid.1, valid.2)) none is in
    let span = same_span c.in-Some.span it.span (c.in-Some.ensures.ends.0 ∙ ap (λ f. f.0) read) (c.in-Some.ensures.ends.1 ∙ ap (λ f. f.1.0) read) in
    ap (λ s. orders.Reserve (record { span = s; vendor = c.in_ok-first.vendor })) span ∙ ap (λ f. orders.Reserve (record { span = it.span; vendor = f.1.1 })) read

pub returns-in-None : goal.returns-in-None
returns-in-None c it valid none is =
    let read = c.in_ok-first.ensures (it.span.first, (it.span.last, it.vendor)) (valid.0, (valid.1, valid.2)) none is in
    absurd (not_true (c.in-None.ensures.valid.1 (in_order it.span _ _ (ap (λ f. f.0) read) (ap (λ f. f.1.0) read))))
