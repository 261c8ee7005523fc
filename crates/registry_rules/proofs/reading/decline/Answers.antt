use Rattle.std.proofs.Common.{◌≡◌, ap, rules}
use Rattle.registry_rules.specs.declared.form_fields.Unread.TheVariants.{NoMemory}
use Rattle.registry_rules.specs.declared.order.Order.TheVariants as orders
use Rattle.registry_rules.proofs.reading.decline.Goals as goal

pub returns-in_err-petition : goal.returns-in_err-petition
returns-in_err-petition c it valid none is =
    let lost : c.in_err-petition.field-0.0 ≡ NoMemory = c.in_err-petition.ensures (it.petition, it.reason) valid none is in
    search rules

pub returns : goal.returns
returns c it valid none is =
    ap (λ f. orders.Decline (record { petition = f.0; reason = f.1 })) (c.in_ok-petition.ensures (it.petition, it.reason) valid none is)
