use Rattle.std.proofs.Common.{arith}
use Rattle.std.specs.String.{string_bytes}
use Rattle.registry_reports.proofs.NumberLemmas.{orgs_next}
use Rattle.registry_reports.proofs.orgs.organisations.Goals as goal

pub loop-org-preserved : goal.loop-org-preserved
loop-org-preserved c = orgs_next c.args.orgs.now c.loop-org.org-index c.org-item.result (string_bytes c.loop-org.text) (string_bytes c.push_org.new.text) (omega arith) c.org-item.is c.loop-org.invariant c.in_ok-push_org.ensures
