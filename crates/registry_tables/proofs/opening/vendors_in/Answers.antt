use Rattle.std.proofs.Common.{◌∙◌, rules}
use Rattle.registry_tables.proofs.OpeningLemmas.{vendors_are}
use Rattle.registry_tables.proofs.ReadLemmas.{rows_pass, rows_fail}
use Rattle.registry_tables.proofs.opening.vendors_in.Goals as goal

pub returns-in_err-vendors : goal.returns-in_err-vendors
returns-in_err-vendors g c = record { reads = rows_fail (search rules) c.in_err-vendors.ensures.reads }

pub returns : goal.returns
returns g c = record { reads = rows_pass (λ h t legal has had kept is. vendors_are h _ t legal has had c.new.result (c.new.ensures ∙ is)) c.in_ok-vendors.ensures.reads }
