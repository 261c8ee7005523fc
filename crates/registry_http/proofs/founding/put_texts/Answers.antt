use Rattle.std.proofs.Common.{List, take, ap, ◌∙◌}
use Rattle.std.proofs.lemmas.Result.{on_ok_weaker}
use Rattle.serde_json.specs.Data.{Data}
use Rattle.serde_json.specs.View.{items_of}
use Rattle.serde_json.specs.Written.{items_have_float}
use Rattle.registry_http.proofs.FoundingLemmas.{texts_plain}
use Rattle.registry_http.proofs.founding.put_texts.Goals as goal

pub returns-clause-plain : goal.returns-clause-plain
returns-clause-plain g c = on_ok_weaker c.put_array.result (λ plain old. plain (ap (λ (l : List Data). items_have_float (items_of l)) c.loop-text.invariant ∙ texts_plain (take c.loop-text.text-index c.args.texts.now)) old) c.put_array.ensures.plain
