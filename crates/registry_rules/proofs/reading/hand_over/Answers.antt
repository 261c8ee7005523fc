use Rattle.std.proofs.Common.{◌≡◌, ap, rules}
use Rattle.registry_rules.specs.declared.form_fields.Unread.TheVariants.{NoMemory}
use Rattle.registry_rules.specs.declared.order.Order.TheVariants as orders
use Rattle.registry_rules.proofs.reading.hand_over.Goals as goal

pub returns-in_err-org : goal.returns-in_err-org
returns-in_err-org c it valid none is =
    let lost : c.in_err-org.field-0.0 ≡ NoMemory = c.in_err-org.ensures (it.org, (it.keeper, tt)) (valid.0, (valid.1, tt)) none is in
    search rules

pub returns : goal.returns
returns c it valid none is =
    ap (λ f. orders.HandOver (record { org = f.0; keeper = f.1.0 })) (c.in_ok-org.ensures (it.org, (it.keeper, tt)) (valid.0, (valid.1, tt)) none is)
