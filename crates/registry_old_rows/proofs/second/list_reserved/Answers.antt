use Rattle.std.proofs.Common.{map}
use Rattle.usbnum_core.specs.Number.{IsId}
use Rattle.registry_rows.proofs.StepLemmas.{reads_all_by}
use Rattle.registry_old_rows.specs.Old.{number_shown}
use Rattle.registry_old_rows.proofs.SecondLemmas.{reads_numbers}
use Rattle.registry_old_rows.proofs.second.list_reserved.Goals as goal

pub returns : goal.returns
returns g c = record {
  reads = reads_all_by IsId number_shown (λ x. x.numbers) c.in_ok-rows.ensures.reads (λ x has. has.rows.first.reserved.valid) (λ all. map (λ one. one.pid) all.items)
      (reads_numbers c.in_ok-rows.rows.items c.all_from.result (rw c.deref.ensures.value at c.all_from.ensures).decodes) (rw c.deref.ensures.value at c.all_from.ensures).fault;
}
