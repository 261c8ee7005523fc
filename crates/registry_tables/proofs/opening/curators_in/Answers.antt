use Rattle.std.proofs.Common.{rules}
use Rattle.registry_tables.proofs.OpeningLemmas.{curators_in_order, curators_fit}
use Rattle.registry_tables.proofs.ReadLemmas.{rows_pass, rows_refuse, rows_fail}
use Rattle.registry_tables.proofs.opening.curators_in.Goals as goal

pub returns-in_err-slugs : goal.returns-in_err-slugs
returns-in_err-slugs g c = record { reads = rows_fail (search rules) c.in_err-slugs.ensures.reads }

pub returns-in-Some : goal.returns-in-Some
returns-in-Some g c = record { reads = rows_pass (λ h t legal has had kept is. curators_in_order h t.curators c.in_ok-slugs.slugs.items is had.founding had.curators c.in-Some.curators c.in-Some.ensures.same) c.in_ok-slugs.ensures.reads }

pub returns-in-None : goal.returns-in-None
returns-in-None g c = record { reads = rows_refuse (λ h t legal has had is. (let never = c.in-None.ensures.counted.1 (curators_fit h t.curators c.in_ok-slugs.slugs.items is had.founding had.curators) in cc)) c.in_ok-slugs.ensures.reads }
