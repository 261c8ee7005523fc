use Rattle.std.proofs.Common.{◌≡◌, ap, rules}
use Rattle.registry_rules.specs.declared.form_fields.Unread.TheVariants.{NoMemory}
use Rattle.registry_rules.specs.declared.order.Order.TheVariants as orders
use Rattle.registry_rules.proofs.reading.add_licence.Goals as goal

pub returns-in_err-licence : goal.returns-in_err-licence
returns-in_err-licence c it valid none is =
    let lost : c.in_err-licence.field-0.0 ≡ NoMemory = c.in_err-licence.ensures (it.licence, tt) (valid, tt) none is in
    search rules

pub returns : goal.returns
returns c it valid none is =
    ap (λ f. orders.AddLicence (record { licence = f.0 })) (c.in_ok-licence.ensures (it.licence, tt) (valid, tt) none is)
