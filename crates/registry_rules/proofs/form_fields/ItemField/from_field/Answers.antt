use Rattle.std.proofs.Common.{◌≡◌, ◌≢◌, Some, None, length, refl, sym, ap, ◌∙◌, arith}
use Rattle.std.proofs.lemmas.Bool.Decides.{nat_tests}
use Rattle.registry_rules.proofs.FormLemmas.{item_code, item_title, untitled, titled, item_is}
use Rattle.registry_rules.proofs.form_fields.ItemField.from_field.Goals as goal

pub returns-in_default-parse_code : goal.returns-in_default-parse_code
returns-in_default-parse_code c item valid is =
    let found : c.parse_code.result ≡ Some item.code = item_code c.args.field.now c.in-Some.digits.now c.parse_code.result item valid is c.in-Some.ensures.cases.1 c.parse_code.ensures in
    absurd (c.in_default-parse_code.not-Some _ found)

pub returns-then-is_empty : goal.returns-then-is_empty
returns-then-is_empty c item valid is =
    let code : Some c.in-Some-parse_code.code ≡ Some item.code = item_code c.args.field.now c.in-Some.digits.now _ item valid is c.in-Some.ensures.cases.1 c.in-Some-parse_code.ensures in
    let title = item_title c.args.field.now c.in-Some.named.now c.in-Some-split_first._equals.now c.in-Some-split_first.title.now item is c.in-Some.ensures.cases.2 c.in-Some-split_first.ensures.cases.0 in
    let empty : length c.in-Some-split_first.title.now ≡ 0 = grind (arith, nat_tests) in
    item_is item c.in-Some-parse_code.code None code (untitled item.title c.in-Some-split_first.title.now valid.title title empty)

pub returns : goal.returns
returns c item valid is =
    let code : Some c.in-Some-parse_code.code ≡ Some item.code = item_code c.args.field.now c.in-Some.digits.now _ item valid is c.in-Some.ensures.cases.1 c.in-Some-parse_code.ensures in
    let title = item_title c.args.field.now c.in-Some.named.now c.in-Some-split_first._equals.now c.in-Some-split_first.title.now item is c.in-Some.ensures.cases.2 c.in-Some-split_first.ensures.cases.0 in
    let filled : length c.in-Some-split_first.title.now ≢ 0 = λ none. absurd (grind (arith, nat_tests)) in
    let some = titled item.title c.in-Some-split_first.title.now valid.title title filled in
    let read : c.in_ok-title.title ≡ c.in-Some-split_first.title.now = c.in_ok-title.ensures _ some.1 refl in
    item_is item c.in-Some-parse_code.code (Some c.in_ok-title.title) code (some.0 ∙ ap Some (sym read))
