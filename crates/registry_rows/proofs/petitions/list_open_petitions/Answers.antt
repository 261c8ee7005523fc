use Rattle.std.proofs.Common.{filter}
use Rattle.registry_rows.specs.Rows.{IsPetition, petition_shown, is_undecided}
use Rattle.registry_rows.proofs.StepLemmas.{reads_all}
use Rattle.sqlite_keyed.proofs.ListLemmas.{all-filter}
use Rattle.registry_rows.proofs.petitions.list_open_petitions.Goals as goal

pub returns : goal.returns
returns g c = record { reads = reads_all IsPetition petition_shown (λ t. filter is_undecided t.petitions) c.in_ok-rows.ensures.reads (λ t has. all-filter IsPetition is_undecided t.petitions has.rows.petitions.valid) (λ all. all.items) (rw c.deref.ensures.value at c.all_from.ensures) }
