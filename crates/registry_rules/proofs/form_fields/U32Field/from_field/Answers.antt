use Rattle.std.proofs.Common.{Ok, refl, arith, ◌∙◌}
use Rattle.std.proofs.lemmas.Fmt.{parse-decimal}
use Rattle.registry_rules.proofs.FormLemmas.{decimal_utf8, from_ok, not_ok}
use Rattle.registry_rules.proofs.form_fields.U32Field.from_field.Goals as goal

pub returns-in_default : goal.returns-in_default
returns-in_default c value valid is = absurd (c.in_default.ensures.cases.0 (rw is (decimal_utf8 value valid)))

pub returns-in-Ok-parse : goal.returns-in-Ok-parse
returns-in-Ok-parse c value valid is =
    from_ok c.in-Ok-parse.number value c.parse.result (Ok value) c.in-Ok-parse.is refl (parse-decimal 32 value c.in-Ok.text.now c.parse.result valid (omega arith) (c.in-Ok.ensures.cases.0 ∙ is) c.parse.ensures.value.0)

pub returns-in-Err : goal.returns-in-Err
returns-in-Err c value valid is =
    absurd (not_ok c.in-Err.field-0 value c.parse.result c.in-Err.is (parse-decimal 32 value c.in-Ok.text.now c.parse.result valid (omega arith) (c.in-Ok.ensures.cases.0 ∙ is) c.parse.ensures.value.0))
