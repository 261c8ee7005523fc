use Rattle.std.proofs.Common.{◌≡◌, All, length, map, drop}
use Rattle.std.specs.List.{list_any}
use Rattle.httparse.specs.Spans.{IsHeaderWithin, header_bytes}
use Rattle.registry_http.specs.Fields.{is_same_name}
use Rattle.registry_http.proofs.fields.has_field.Given as goal

abbrev pub invariant-loop-span : goal.invariant-loop-span
invariant-loop-span l = record {
  any : list_any (λ field. is_same_name l.name field.0) (map (header_bytes l.buffer) (drop l.span-index l.spans)) ≡ list_any (λ field. is_same_name l.name field.0) (map (header_bytes l.buffer) l.spans);
  within : All (IsHeaderWithin (length l.buffer)) (drop l.span-index l.spans);
}
