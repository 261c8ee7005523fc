use Rattle.std.proofs.Common.{rules, ◌≡◌, subst, Some}
use Rattle.std.specs.Ordering.{nat_cmp}
use Rattle.std.specs.Cmp.Lexicographic.{slice_cmp}
use Rattle.std.specs.BTreeMap.{Updates}
use Rattle.registry_reports.proofs.TallyLemmas.{tally_set}
use Rattle.registry_reports.proofs.tallies.set_tally.Goals as goal

pub returns : goal.returns
returns c slug =
    let same : c.in_ok-clone.field-0 ≡ c.args.org.now = search rules in
    tally_set c.args.tallies.now c.insert.new.self c.args.org.now c.args.tally
    (subst (λ key. Updates (slice_cmp nat_cmp) c.args.tallies.now c.insert.new.self key (Some c.args.tally)) same c.in_ok-insert.ensures.updates) slug
