use Rattle.std.proofs.Common.{◌≡◌, ◌++◌, sym, ap, ◌∙◌, drop}
use Rattle.registry_rules.specs.Orders.{after_tabs}
use Rattle.registry_rules.proofs.FormLemmas.{front_field, other_fields}
use Rattle.registry_rules.proofs.form_fields.first_field.Goals as goal

pub returns-clause-reads : goal.returns-clause-reads
returns-clause-reads c field fields none is =
    let text : c.in-Some.text.now ≡ field ++ after_tabs fields = ap (drop 1) (sym c.in-Some.ensures.cases.0 ∙ is) in
    (rw (c.split_at.ensures.front, c.tab_at.ensures.at) (front_field c.in-Some.text.now field fields none text), rw (c.split_at.ensures.back, c.tab_at.ensures.at) (other_fields c.in-Some.text.now field fields none text))
