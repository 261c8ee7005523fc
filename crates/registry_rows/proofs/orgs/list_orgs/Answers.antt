use Rattle.sqlite_keyed.specs.Lists.{sort_by}
use Rattle.table_laws.proofs.ReadLemmas.{valid_unnumbered}
use Rattle.registry_rows.specs.Rows.{IsOrg, org_row, by_slug}
use Rattle.registry_rows.proofs.StepLemmas.{reads_all, valid_sorted}
use Rattle.registry_rows.proofs.orgs.list_orgs.Goals as goal

pub returns : goal.returns
returns g c = record { reads = reads_all IsOrg org_row (λ t. sort_by by_slug t.orgs) c.in_ok-rows.ensures.reads (λ t has. valid_sorted IsOrg by_slug t.orgs (valid_unnumbered IsOrg org_row _ t.orgs has.rows.orgs)) (λ all. all.items) (rw c.deref.ensures.value at c.all_from.ensures) }
