use Rattle.std.proofs.Common.{◌≡◌, ap, rules}
use Rattle.registry_rules.specs.declared.form_fields.Unread.TheVariants.{NoMemory}
use Rattle.registry_rules.specs.declared.order.Order.TheVariants as orders
use Rattle.registry_rules.proofs.reading.correct.Goals as goal

pub returns-in_err-number : goal.returns-in_err-number
returns-in_err-number c it valid none is =
    let lost : c.in_err-number.field-0.0 ≡ NoMemory = c.in_err-number.ensures (it.number, (it.title, (it.terms.licence, (it.terms.site, (it.terms.source, it.vendor))))) (valid.0, (valid.1, (valid.2.licence, (valid.2.site, (valid.2.source, valid.3))))) none is in
    search rules

pub returns : goal.returns
returns c it valid none is =
    ap (λ f. orders.Correct (record { number = f.0; title = f.1.0; terms = record { licence = f.1.1.0; site = f.1.1.1.0; source = f.1.1.1.1.0 }; vendor = f.1.1.1.1.1 })) (c.in_ok-number.ensures (it.number, (it.title, (it.terms.licence, (it.terms.site, (it.terms.source, it.vendor))))) (valid.0, (valid.1, (valid.2.licence, (valid.2.site, (valid.2.source, valid.3))))) none is)
