use Rattle.std.proofs.Common.{sym, subst}
use Rattle.registry_tables.specs.Calls.{WritesTablesOpen}
use Rattle.registry_tables.specs.Reserved.{PutsPart}
use Rattle.registry_tables.proofs.SpanSteps.{part_put}
use Rattle.registry_tables.proofs.WriteLemmas.{written_open}
use Rattle.registry_tables.proofs.spans.put_part.Goals as goal

pub returns-in-Some : goal.returns-in-Some
returns-in-Some g c = record {
  writes = subst (λ part. WritesTablesOpen g.S.Store c.args.tx.now.conn c.put_span.new.tx.conn c.put_span.result (PutsPart c.args.vid part)) (sym c.in-Some.is) (written_open (part_put _ _ c.args.vid c.in-Some.span) c.put_span.ensures.writes);
}
