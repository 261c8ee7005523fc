use Rattle.std.proofs.Common.{◌≡◌, ap, rules}
use Rattle.registry_rules.specs.declared.form_fields.Unread.TheVariants.{NoMemory}
use Rattle.registry_rules.specs.declared.order.Order.TheVariants as orders
use Rattle.registry_rules.proofs.reading.add_vendor.Goals as goal

pub returns-in_err-vendor : goal.returns-in_err-vendor
returns-in_err-vendor c it valid none is =
    let lost : c.in_err-vendor.field-0.0 ≡ NoMemory = c.in_err-vendor.ensures (it.vendor, (it.name, tt)) (valid.0, (valid.1, tt)) none is in
    search rules

pub returns : goal.returns
returns c it valid none is =
    ap (λ f. orders.AddVendor (record { vendor = f.0; name = f.1.0 })) (c.in_ok-vendor.ensures (it.vendor, (it.name, tt)) (valid.0, (valid.1, tt)) none is)
