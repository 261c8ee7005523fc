use Rattle.std.proofs.Math.Decide.{dec_le}
use Rattle.registry_wire.specs.Spans.{span_of}
use Rattle.registry_wire.proofs.SpanLemmas.{same_span}
use Rattle.registry_wire.proofs.span.span_of.Goals as goal

pub returns : goal.returns
unfolding span_of
returns c = same_span c.args.first c.args.last (dec_le c.args.first c.args.last) c.new.result c.new.ensures.valid c.new.ensures.ends
