use Rattle.std.proofs.Common.{◌∙◌, rules}
use Rattle.registry_tables.proofs.FactLemmas.{second_is}
use Rattle.registry_tables.proofs.ReadLemmas.{recorded_pass, rows_fail, fault_store}
use Rattle.registry_tables.proofs.keyed.opened_at.Goals as goal

pub returns-clause-reads : goal.returns-clause-reads
returns-clause-reads g c = recorded_pass (λ h t legal recorded is valid. c.time_of_row.ensures ∙ second_is _ c.in_ok-row.row _ (is ∙ (recorded.times legal valid).opened_then _)) c.in_ok-row.ensures.reads

pub returns-in_err-row-clause-reads : goal.returns-in_err-row-clause-reads
returns-in_err-row-clause-reads g c = rows_fail (search rules) c.in_err-row.ensures.reads

pub returns-in_err-row-clause-store : goal.returns-in_err-row-clause-store
returns-in_err-row-clause-store g c = fault_store (search rules) c.in_err-row.ensures.reads
