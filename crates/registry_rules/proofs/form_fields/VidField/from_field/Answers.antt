use Rattle.std.proofs.Common.{◌≡◌, Some, refl, ap, ◌∙◌}
use Rattle.usbnum_core.specs.Number.{number_of}
use Rattle.usbnum_core.proofs.DigitLemmas.{digits_read}
use Rattle.registry_rules.proofs.form_fields.VidField.from_field.Goals as goal

pub returns : goal.returns
returns c value valid is =
    let found : c.parse_vid.result ≡ Some value = c.parse_vid.ensures ∙ ap number_of is ∙ digits_read value valid in
    rw (c.ok_or.ensures.value, found) refl
