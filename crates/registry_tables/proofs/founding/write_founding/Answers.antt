use Rattle.registry_tables.proofs.WriteLemmas.{as_tables, written_open, then_changes}
use Rattle.registry_tables.proofs.founding.write_founding.Goals as goal

pub returns-clause-writes : goal.returns-clause-writes
returns-clause-writes g c =
    let one = as_tables c.in_ok-put_meta.ensures.writes in
    let two = then_changes one (rw c.as_slice.ensures.slugs at c.in_ok-add_curators.ensures.writes) in
    let three = then_changes two (rw c.as_slice-2.ensures.titles at c.in_ok-add_licences.ensures.writes) in
    let four = then_changes three (rw c.parts.ensures.parts at c.in_ok-add_fixed.ensures.writes) in
    let five = then_changes four (written_open (λ done. done) c.in_ok-put_vendor.ensures.writes) in
    then_changes five (written_open (λ done. done) (rw c.requires at c.in_ok-put_digest.ensures.writes))
