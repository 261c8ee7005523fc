use Rattle.std.proofs.Common.{ℕ, true, Ok, map, fold, take}
use Rattle.sqlite_keyed.specs.Keyed.{insert_by}
use Rattle.usbnum_core.specs.Number.{IsId}
use Rattle.registry_old_rows.specs.Old.{old_span_key}
use Rattle.registry_old_rows.specs.Steps.{Rewrites}
use Rattle.registry_tables.specs.Calls.{WritesTablesOpen}
use Rattle.registry_tables.proofs.second.put_spans.Given as goal

-- the rows so far are inserted
abbrev pub invariant-loop-part : goal.invariant-loop-part
invariant-loop-part g l = WritesTablesOpen g.S.Store l.initial.tx.conn l.tx.conn (Ok true)
    (λ old new. (vid : ℕ) → IsId vid → Rewrites vid (λ t. record t { spans = fold (insert_by old_span_key) t.spans (map (λ part. (vid, part)) (take l.part-index l.parts)) }) (λ numbers. numbers) old new)
