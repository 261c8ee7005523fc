use Rattle.std.proofs.Common.{rules}
use Rattle.table_laws.proofs.InsideLemmas.{query_goes}
use Rattle.registry_tables.proofs.migration.try_store.Goals as goal

pub returns : goal.returns
returns g c = record { writes = record { same_reference = search rules; done = λ clean inside. query_goes _ _ inside _ _ _ (c.in_ok-query_all.ensures.ok clean); fault = search rules; survives = search rules } }
