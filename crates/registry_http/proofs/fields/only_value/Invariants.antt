use Rattle.std.proofs.Common.{◌≡◌, All, length, map, drop, option_copied}
use Rattle.httparse.specs.Spans.{IsHeaderWithin, header_bytes}
use Rattle.registry_http.specs.Fields.{values_of}
use Rattle.registry_http.proofs.FieldLemmas.{with_found}
use Rattle.registry_http.proofs.fields.only_value.Given as goal

abbrev pub invariant-loop-span : goal.invariant-loop-span
invariant-loop-span l = record {
  values : with_found (option_copied l.found) (values_of l.name (map (header_bytes l.buffer) (drop l.span-index l.spans))) ≡ values_of l.name (map (header_bytes l.buffer) l.spans);
  within : All (IsHeaderWithin (length l.buffer)) (drop l.span-index l.spans);
}
