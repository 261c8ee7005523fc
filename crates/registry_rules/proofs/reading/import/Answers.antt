use Rattle.std.proofs.Common.{◌≡◌, ap, rules}
use Rattle.std.proofs.lemmas.List.Elements.{recursion_from_All}
use Rattle.registry_rules.specs.Orders.{IsItem}
use Rattle.registry_rules.specs.declared.form_fields.Unread.TheVariants.{NoMemory}
use Rattle.registry_rules.specs.declared.order.Order.TheVariants as orders
use Rattle.registry_rules.proofs.reading.import.Goals as goal

pub returns-in_err-org : goal.returns-in_err-org
returns-in_err-org c it valid none is =
    let lost : c.in_err-org.field-0.0 ≡ NoMemory = c.in_err-org.ensures (it.org, record { vendor = it.vendor; items = it.items }) (valid.0, (valid.2, recursion_from_All IsItem it.items valid.1)) none is in
    search rules

pub returns : goal.returns
returns c it valid none is =
    ap (λ f. orders.Import (record { org = f.0; items = f.1.items; vendor = f.1.vendor })) (c.in_ok-org.ensures (it.org, record { vendor = it.vendor; items = it.items }) (valid.0, (valid.2, recursion_from_All IsItem it.items valid.1)) none is)
