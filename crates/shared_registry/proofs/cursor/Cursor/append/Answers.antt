use Rattle.shared_registry.proofs.AppendLemmas.{offered_any}
use Rattle.shared_registry.proofs.cursor.Cursor.append.Goals as goal

pub returns-clause-ok : goal.returns-clause-ok
returns-clause-ok g c = offered_any g.L.Log c.args.self.now c.offer.new.self c.args.line.now c.in_ok-offer.field-0 c.in_ok-offer.ensures.ok
