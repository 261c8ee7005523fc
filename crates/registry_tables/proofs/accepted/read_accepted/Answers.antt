use Rattle.registry_tables.proofs.ReadLemmas.{rows_fail}
use Rattle.registry_tables.proofs.RecordLemmas.{accepted_tell, times_fail}
use Rattle.std.proofs.Common.{rules}
use Rattle.registry_tables.proofs.accepted.read_accepted.Goals as goal

pub returns : goal.returns
returns g c = record { reads = accepted_tell c.args.most c.args.after _ (rw (c.deref.ensures.value, c.deref-2.ensures.value) at c.accepted_from.ensures.reads) c.accepted_from.ensures.kind c.in_ok-rows.ensures.reads c.in_ok-digests.ensures.reads }

pub returns-in_err-rows : goal.returns-in_err-rows
returns-in_err-rows g c = record { reads = rows_fail (search rules) c.in_err-rows.ensures.reads }

pub returns-in_err-digests : goal.returns-in_err-digests
returns-in_err-digests g c = record { reads = times_fail c.args.most c.args.after (search rules) c.in_ok-rows.ensures.reads c.in_err-digests.ensures.reads }
