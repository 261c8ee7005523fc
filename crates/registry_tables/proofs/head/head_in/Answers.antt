use Rattle.std.proofs.Common.{sym, ◌∙◌, rules}
use Rattle.registry_tables.proofs.DigestLemmas.{head_read}
use Rattle.registry_tables.proofs.ReadLemmas.{recorded_pass, rows_fail, rows_short}
use Rattle.registry_tables.proofs.head.head_in.Goals as goal

pub returns-in_err-last : goal.returns-in_err-last
returns-in_err-last g c = record { reads = rows_fail (search rules) c.in_err-last.ensures.reads }

pub returns-in-Some : goal.returns-in-Some
returns-in-Some g c = record { reads = recorded_pass (λ h t legal recorded is valid. head_read h t c.pop.new.self.items c.in-Some.count c.in-Some.row legal valid recorded (sym c.in-Some.ensures.items ∙ is)) c.in_ok-last.ensures.reads }

pub returns : goal.returns
returns g c = record { reads = rows_short (λ never. absurd cc) c.in_ok-last.ensures.reads }
