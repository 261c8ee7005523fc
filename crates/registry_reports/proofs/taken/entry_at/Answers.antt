use Rattle.std.proofs.Common.{rules, ◌≡◌, ◌<◌, ◌≤◌, length, get_or, true, false, None, refl, sym, ap, ◌∙◌}
use Rattle.std.specs.Prelude.{option_copied}
use Rattle.std.specs.Option.{option_map}
use Rattle.registry_rules.specs.Number.{number_eq}
use Rattle.registry_reports.proofs.CensusLemmas.{Pair}
use Rattle.registry_reports.proofs.NumberLemmas.{its, entry_at_place, no_entry_past}
use Rattle.registry_reports.proofs.taken.entry_at.Goals as goal

pub returns-in_err-pair : goal.returns-in_err-pair
returns-in_err-pair c up is =
    let over : length c.args.numbers.now ≤ c.args.place = search rules in
    let none : option_copied c.from_residual.result ≡ None = search rules in
    none ∙ sym (no_entry_past c.args.number.now c.args.numbers.now c.args.place is over)

pub returns-then-eq : goal.returns-then-eq
returns-then-eq c up is =
    let x = c.in_ok-pair.pair.now in
    let within : c.args.place < length c.args.numbers.now = search rules in
    let found : x ≡ get_or c.args.numbers.now c.args.place x = search rules in
    let same : number_eq c.args.number.now x.0 ≡ true = sym c.eq.ensures ∙ c.if-eq.true in
    sym (entry_at_place c.args.number.now c.args.numbers.now c.args.place x up is within ∙ ap (λ (y : Pair). option_map (λ (pair : Pair). pair.1) (its c.args.number.now y)) (sym found) ∙ rw same refl)

pub returns-else-eq : goal.returns-else-eq
returns-else-eq c up is =
    let x = c.in_ok-pair.pair.now in
    let within : c.args.place < length c.args.numbers.now = search rules in
    let found : x ≡ get_or c.args.numbers.now c.args.place x = search rules in
    let same : number_eq c.args.number.now x.0 ≡ false = sym c.eq.ensures ∙ c.if-eq.false in
    sym (entry_at_place c.args.number.now c.args.numbers.now c.args.place x up is within ∙ ap (λ (y : Pair). option_map (λ (pair : Pair). pair.1) (its c.args.number.now y)) (sym found) ∙ rw same refl)
