use Rattle.std.proofs.Common.{List, take, ap, ◌∙◌, arith, rules}
use Rattle.std.proofs.lemmas.Result.{on_ok_weaker}
use Rattle.serde_json.specs.Data.{Data}
use Rattle.serde_json.specs.View.{items_of}
use Rattle.serde_json.specs.Written.{items_have_float}
use Rattle.registry_http.specs.Foundings.{range_data}
use Rattle.registry_http.proofs.FoundingLemmas.{mapped_next, spans_plain}
use Rattle.registry_http.proofs.founding.put_spans.Goals as goal

pub returns-clause-plain : goal.returns-clause-plain
returns-clause-plain c = on_ok_weaker c.put_array.result (λ plain old. plain (ap (λ (l : List Data). items_have_float (items_of l)) c.loop-span.invariant ∙ spans_plain (take c.loop-span.span-index c.args.spans.now)) old) c.put_array.ensures.plain

pub loop-span-preserved : goal.loop-span-preserved
loop-span-preserved c = mapped_next range_data c.args.spans.now c.loop-span.span-index c.span-item.result c.loop-span.items.items c.push.new.self.items c.in_ok-span_value.field-0 (omega arith) c.span-item.is c.loop-span.invariant (search rules) c.in_ok-span_value.ensures
