use Rattle.std.proofs.Common.{◌≡◌, ◌∙◌, ℕ, Bool, List, Bor, subst}
use Rattle.std.specs.Str.{bytes_eq}
use Rattle.registry_schema.proofs.NameLemmas.{none_named, too_few, first_named, first_other}
use Rattle.registry_schema.proofs.version.+have_names.Goals as goal

abbrev named : Bor (List ℕ) → List ℕ
named name = name.now

told : (same : Bool) (a b c d : List ℕ) → same ≡ bytes_eq a b → a ≡ c → b ≡ d → same ≡ bytes_eq c d
told same a b c d is left right = subst (λ x. same ≡ bytes_eq x d) left (subst (λ y. same ≡ bytes_eq a y) right is)

pub returns-in_default : goal.returns-in_default
returns-in_default t c = c.is_empty.ensures ∙ none_named named c.args.tables.now c.args.names.now c.in_default.ensures.cases

pub returns-in_default-split_first : goal.returns-in_default-split_first
returns-in_default-split_first t c =
    too_few named c.args.tables.now c.in-Some.tables.now c.in-Some.table.now c.args.names.now c.in-Some.ensures.cases.0 c.in_default-split_first.ensures.cases

pub returns-then-eq : goal.returns-then-eq
returns-then-eq t c =
    first_named named c.args.tables.now c.in-Some.tables.now c.in-Some.table.now c.args.names.now c.in-Some-split_first.names.now c.in-Some-split_first.name.now
    c.in-Some.ensures.cases.0 c.in-Some-split_first.ensures.cases.0 c.eq.result c.have_names.result c.if-eq.true (told _ _ _ _ _ c.eq.ensures c.as_slice.ensures c.as_bytes.ensures.value) c.have_names.ensures

pub returns-else-eq : goal.returns-else-eq
returns-else-eq t c =
    first_other named c.args.tables.now c.in-Some.tables.now c.in-Some.table.now c.args.names.now c.in-Some-split_first.names.now c.in-Some-split_first.name.now
    c.in-Some.ensures.cases.0 c.in-Some-split_first.ensures.cases.0 c.eq.result c.if-eq.false (told _ _ _ _ _ c.eq.ensures c.as_slice.ensures c.as_bytes.ensures.value)
