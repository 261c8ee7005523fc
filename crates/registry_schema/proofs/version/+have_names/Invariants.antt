use Rattle.std.proofs.Common.{length}
use Rattle.registry_schema.proofs.version.+have_names.Given as goal

abbrev pub decreases-have_names : goal.decreases-have_names
decreases-have_names l = length l.tables.now
