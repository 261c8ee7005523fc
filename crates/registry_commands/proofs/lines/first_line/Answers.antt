use Rattle.std.proofs.Common.{◌+◌}
use Rattle.registry_commands.proofs.LineLemmas.{first_found, first_none, suffix}
use Rattle.registry_commands.proofs.lines.first_line.Goals as goal

pub returns-in-Some-clause-lines : goal.returns-in-Some-clause-lines
returns-in-Some-clause-lines c = rw (suffix (c.in-Some.end + 1) c.args.bytes.now) (first_found c.args.bytes.now c.in-Some.end c.in-Some.ensures).1

pub returns-in-None-clause-lines : goal.returns-in-None-clause-lines
returns-in-None-clause-lines c = first_none c.args.bytes.now c.in-None.ensures c.requires
