-- The result of reading a head.
use Rattle.std.specs.Prelude.{⊤}
use Rattle.httparse.specs.declared.spans.RequestSpans.{RequestSpans}
use Rattle.registry_http.specs.declared.head.HeadEnd.{HeadEnd}
use Rattle.registry_http.specs.declared.head.HeadEnd.TheVariants.{Whole, Missing}

abbrev pub IfWhole : HeadEnd → (RequestSpans → Type 0) → Type 0
IfWhole (Whole spans) P = P spans
IfWhole Missing P = ⊤

abbrev pub OnMissing : HeadEnd → Type 0 → Type 0
OnMissing (Whole spans) P = ⊤
OnMissing Missing P = P
