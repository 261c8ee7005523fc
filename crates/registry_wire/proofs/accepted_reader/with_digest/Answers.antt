use Rattle.registry_wire.proofs.LineLemmas.{line_fails}
use Rattle.registry_wire.proofs.accepted_reader.with_digest.Goals as goal

pub returns-in-Err : goal.returns-in-Err
returns-in-Err c found is = line_fails c.args.accepted found c.in-Err.rejection (rw c.in-Err.is at is)
