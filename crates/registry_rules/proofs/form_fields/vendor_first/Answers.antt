use Rattle.std.proofs.Common.{◌≡◌, Some, None, [], ◌∷◌, length, map, refl, sym, ap, ◌∙◌, arith}
use Rattle.usbnum_core.specs.Number.{number_of, digits_of}
use Rattle.usbnum_core.proofs.DigitLemmas.{digits_read}
use Rattle.registry_rules.specs.Orders.{item_field}
use Rattle.registry_rules.proofs.FormLemmas.{same_some, not_some}
use Rattle.registry_rules.proofs.form_fields.vendor_first.Goals as goal

pub returns-in_default : goal.returns-in_default
returns-in_default c None items valid none is = (refl, is)
returns-in_default c (Some vendor) items valid none is = absurd (c.in_default.ensures.reads (digits_of vendor) (map item_field items) none.0 is)

pub returns-in-Some : goal.returns-in-Some
returns-in-Some c None [] valid none is = let shorter = c.in-Ok.ensures.shorter in let empty : length c.args.text.now ≡ 0 = ap length is in absurd (omega (arith, shorter, empty))
returns-in-Some c None (item ∷ items) valid none is =
    let field = (c.in-Ok.ensures.reads (item_field item) (map item_field items) none.0 is).0 in
    absurd (not_some c.in-Some.vendor (number_of c.in-Ok.field.now) (ap number_of field) c.in-Some.ensures)
returns-in-Some c (Some vendor) items valid none is =
    let parts = c.in-Ok.ensures.reads (digits_of vendor) (map item_field items) none.0 is in
    (ap Some (same_some c.in-Some.vendor vendor (c.in-Some.ensures ∙ ap number_of parts.0 ∙ digits_read vendor valid)), parts.1)

pub returns-in-None : goal.returns-in-None
returns-in-None c None items valid none is = (refl, is)
returns-in-None c (Some vendor) items valid none is =
    let parts = c.in-Ok.ensures.reads (digits_of vendor) (map item_field items) none.0 is in
    absurd (not_some vendor None refl (sym (c.in-None.ensures ∙ ap number_of parts.0 ∙ digits_read vendor valid)))
