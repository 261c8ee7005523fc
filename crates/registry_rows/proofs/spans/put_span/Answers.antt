use Rattle.std.proofs.Common.{ℕ, sym}
use Rattle.usbnum_core.specs.declared.number.Span.{Span}
use Rattle.registry_rows.specs.Rows.{IsVendorSpan}
use Rattle.registry_rows.proofs.SpanLemmas.{puts_span}
use Rattle.registry_rows.proofs.StepLemmas.{changed}
use Rattle.registry_rows.proofs.spans.put_span.Goals as goal

pub returns : goal.returns
returns g c =
    let x : ℕ × Span = (c.args.vid, c.args.span) in
    let valid : IsVendorSpan x = record {
      vid = rw (sym c.get.ensures.number) c.get.ensures.valid;
      span = record { first = rw (c.get-2.ensures.number, c.first.ensures) at c.get-2.ensures.valid; last = rw (c.get-3.ensures.number, c.last.ensures.last) at c.get-3.ensures.valid };
    } in
    record { writes = changed c.execute.ensures.same_reference c.execute.ensures.survives _ _ _ (λ clean inside. rw (c.params-to_sql.ensures, c.params-to_sql-2.ensures, c.params-to_sql-3.ensures, c.from.ensures, c.from-2.ensures, c.from-3.ensures, c.get.ensures.number, c.get-2.ensures.number, c.get-3.ensures.number, c.first.ensures, c.last.ensures.last) at (c.in_ok-execute.ensures.runs clean inside)) (puts_span _ _ x _ valid) }
