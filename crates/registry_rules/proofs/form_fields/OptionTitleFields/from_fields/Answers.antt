use Rattle.std.proofs.Common.{◌≡◌, Some, None, length, ap, arith, rules}
use Rattle.std.proofs.lemmas.Bool.Decides.{nat_tests}
use Rattle.registry_rules.specs.declared.form_fields.Unread.TheVariants.{NoMemory}
use Rattle.registry_rules.proofs.form_fields.OptionTitleFields.from_fields.Goals as goal

pub returns-in_err-reason : goal.returns-in_err-reason
returns-in_err-reason c None valid none is =
    let empty : length c.args.text.now ≡ 0 = ap length is in
    absurd (grind (arith, nat_tests))
returns-in_err-reason c (Some reason) valid none is =
    let lost : c.in_err-reason.field-0.0 ≡ NoMemory = c.in_err-reason.ensures (reason, tt) (valid, tt) none is in
    search rules

pub returns : goal.returns
returns c None valid none is =
    let empty : length c.args.text.now ≡ 0 = ap length is in
    absurd (grind (arith, nat_tests))
returns c (Some reason) valid none is = ap (λ both. Some both.0) (c.in_ok-reason.ensures (reason, tt) (valid, tt) none is)
