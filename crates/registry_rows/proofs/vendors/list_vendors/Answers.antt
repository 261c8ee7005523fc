use Rattle.registry_rows.specs.Rows.{IsVendor, vendor_shown}
use Rattle.registry_rows.proofs.StepLemmas.{reads_all}
use Rattle.registry_rows.proofs.vendors.list_vendors.Goals as goal

pub returns : goal.returns
returns g c = record { reads = reads_all IsVendor vendor_shown (λ t. t.vendors) c.in_ok-rows.ensures.reads (λ t has. has.rows.vendors.valid) (λ all. all.items) (rw c.deref.ensures.value at c.all_from.ensures) }
