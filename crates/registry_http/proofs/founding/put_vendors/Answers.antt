use Rattle.std.proofs.Common.{List, take, ap, ◌∙◌}
use Rattle.std.proofs.lemmas.Result.{on_ok_weaker}
use Rattle.serde_json.specs.Data.{Data}
use Rattle.serde_json.specs.View.{items_of}
use Rattle.serde_json.specs.Written.{items_have_float}
use Rattle.registry_http.proofs.FoundingLemmas.{vendors_plain}
use Rattle.registry_http.proofs.founding.put_vendors.Goals as goal

pub returns-clause-plain : goal.returns-clause-plain
returns-clause-plain c = on_ok_weaker c.put_array.result (λ plain old. plain (ap (λ (l : List Data). items_have_float (items_of l)) c.loop-vendor.invariant ∙ vendors_plain (take c.loop-vendor.vendor-index c.args.vendors.now)) old) c.put_array.ensures.plain
