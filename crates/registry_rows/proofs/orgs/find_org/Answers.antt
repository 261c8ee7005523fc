use Rattle.registry_rows.specs.Rows.{IsOrg, org_row, is_called}
use Rattle.table_laws.proofs.ReadLemmas.{valid_unnumbered}
use Rattle.registry_rows.proofs.StepLemmas.{reads_first}
use Rattle.registry_rows.proofs.orgs.find_org.Goals as goal

pub returns : goal.returns
returns g c = record { reads = reads_first IsOrg org_row (is_called c.args.slug.now) (λ t. t.orgs) c.in_ok-rows.ensures.reads (λ t has. (valid_unnumbered IsOrg org_row _ t.orgs has.rows.orgs)) (rw c.deref.ensures.value at c.first_from.ensures) }
