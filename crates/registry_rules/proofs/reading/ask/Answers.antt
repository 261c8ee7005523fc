use Rattle.std.proofs.Common.{◌≡◌, ap, rules}
use Rattle.registry_rules.specs.declared.form_fields.Unread.TheVariants.{NoMemory}
use Rattle.registry_rules.specs.declared.order.Order.TheVariants as orders
use Rattle.registry_rules.proofs.reading.ask.Goals as goal

pub returns-in_err-org : goal.returns-in_err-org
returns-in_err-org c it valid none is =
    let lost : c.in_err-org.field-0.0 ≡ NoMemory = c.in_err-org.ensures (it.org, (it.want, (it.title, (it.terms.licence, (it.terms.site, (it.terms.source, it.vendor)))))) (valid.0, (valid.1, (valid.2, (valid.3.licence, (valid.3.site, (valid.3.source, valid.4)))))) none is in
    search rules

pub returns : goal.returns
returns c it valid none is =
    ap (λ f. orders.Ask (record { org = f.0; want = f.1.0; title = f.1.1.0; terms = record { licence = f.1.1.1.0; site = f.1.1.1.1.0; source = f.1.1.1.1.1.0 }; vendor = f.1.1.1.1.1.1 })) (c.in_ok-org.ensures (it.org, (it.want, (it.title, (it.terms.licence, (it.terms.site, (it.terms.source, it.vendor)))))) (valid.0, (valid.1, (valid.2, (valid.3.licence, (valid.3.site, (valid.3.source, valid.4)))))) none is)
