use Rattle.std.proofs.Common.{rules}
use Rattle.registry_store.proofs.registry.Registry.head.Goals as goal

pub returns-clause-answered : goal.returns-clause-answered
returns-clause-answered g c h stands = stands.legal_with.head_is
