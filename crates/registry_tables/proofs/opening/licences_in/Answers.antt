use Rattle.std.proofs.Common.{rules}
use Rattle.registry_tables.proofs.OpeningLemmas.{allowed_in_order, licences_fit}
use Rattle.registry_tables.proofs.ReadLemmas.{rows_pass, rows_refuse, rows_fail}
use Rattle.registry_tables.proofs.opening.licences_in.Goals as goal

pub returns-in_err-titles : goal.returns-in_err-titles
returns-in_err-titles g c = record { reads = rows_fail (search rules) c.in_err-titles.ensures.reads }

pub returns-in-Some : goal.returns-in-Some
returns-in-Some g c = record { reads = rows_pass (λ h t legal has had kept is. allowed_in_order h t.licences c.in_ok-titles.titles.items is legal had.licences c.in-Some.licences c.in-Some.ensures.same) c.in_ok-titles.ensures.reads }

pub returns-in-None : goal.returns-in-None
returns-in-None g c = record { reads = rows_refuse (λ h t legal has had is. (let never = c.in-None.ensures.counted.1 (licences_fit h t.licences c.in_ok-titles.titles.items is legal had.licences) in cc)) c.in_ok-titles.ensures.reads }
