use Rattle.std.proofs.Common.{rules}
use Rattle.registry_tables.proofs.ReadLemmas.{rows_fail, fixed_tell}
use Rattle.registry_tables.proofs.opening.fixed_in.Goals as goal

pub returns-in_err-parts : goal.returns-in_err-parts
returns-in_err-parts g c = record { reads = rows_fail (search rules) c.in_err-parts.ensures.reads }

pub returns : goal.returns
returns g c = record { reads = fixed_tell c.spans_of.result (rw c.deref.ensures.value at c.spans_of.ensures.same) c.spans_of.ensures.kind c.in_ok-parts.ensures.reads }
