use Rattle.std.proofs.Common.{append_assoc}
use Rattle.registry_rules.proofs.reply.text_of.Goals as goal

pub returns-in-Granted : goal.returns-in-Granted
returns-in-Granted c = rw c.in-Granted.is (simp append_assoc (simp append_assoc at c.format-in-Granted.ensures.ok))

pub returns-in-HandedOver : goal.returns-in-HandedOver
returns-in-HandedOver c = rw c.in-HandedOver.is (simp append_assoc c.format-in-HandedOver.ensures.ok)
