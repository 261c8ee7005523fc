use Rattle.std.proofs.Common.{◌≡◌, Some, None, length, ap, arith, rules}
use Rattle.std.proofs.lemmas.Bool.Decides.{nat_tests}
use Rattle.registry_rules.specs.declared.form_fields.Unread.TheVariants.{NoMemory}
use Rattle.registry_rules.proofs.form_fields.OptionVidFields.from_fields.Goals as goal

pub returns-in_err-vendor : goal.returns-in_err-vendor
returns-in_err-vendor c None valid none is =
    let empty : length c.args.text.now ≡ 0 = ap length is in
    absurd (grind (arith, nat_tests))
returns-in_err-vendor c (Some vendor) valid none is =
    let lost : c.in_err-vendor.field-0.0 ≡ NoMemory = c.in_err-vendor.ensures (vendor, tt) (valid, tt) none is in
    search rules

pub returns : goal.returns
returns c None valid none is =
    let empty : length c.args.text.now ≡ 0 = ap length is in
    absurd (grind (arith, nat_tests))
returns c (Some vendor) valid none is = ap (λ both. Some both.0) (c.in_ok-vendor.ensures (vendor, tt) (valid, tt) none is)
