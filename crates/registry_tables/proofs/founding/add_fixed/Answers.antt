use Rattle.std.proofs.Common.{◌≡◌, ◌+◌, [], ◌∷◌, ◌++◌, take, sym, ap, subst, ◌∙◌, arith}
use Rattle.std.proofs.lemmas.List.{take_more, take_all}
use Rattle.sqlite.specs.Held.{state}
use Rattle.table_laws.proofs.InsideLemmas.{goes_then}
use Rattle.usbnum_core.specs.declared.number.Span.{Span}
use Rattle.registry_rows.specs.Tables.{Holds}
use Rattle.registry_tables.specs.Changed.{spans_put}
use Rattle.registry_tables.proofs.FoundingLemmas.{spans_more}
use Rattle.registry_tables.proofs.WriteLemmas.{as_tables, one_more, all_done}
use Rattle.registry_tables.proofs.founding.add_fixed.Goals as goal

pub loop-span-preserved : goal.loop-span-preserved
loop-span-preserved g c =
    let all = c.args.spans.now in
    let i = c.loop-span.span-index in
    let one : Span = c.span-item.result in
    let more : take (i + 1) all ≡ take i all ++ one ∷ [] = take_more all i one c.loop-span-test.true ∙ ap (λ (x : Span). take i all ++ x ∷ []) (sym c.span-item.is) in
    one_more c.loop-span.invariant (as_tables c.in_ok-put_fixed.ensures.writes) (λ done. done.0)
    (λ first later. (goes_then _ _ _ first.0 later.0, λ t had. subst (λ l. Holds (state g.S.Store c.put_fixed.new.tx.conn.now).now (record t { fixed = l })) (sym (ap (λ l. spans_put l t.fixed) more ∙ spans_more (take i all) one t.fixed)) (later.1 _ (first.1 t had))))

pub returns : goal.returns
returns g c =
    let all = c.args.spans.now in
    let whole : take c.loop-span.span-index all ≡ all = take_all c.loop-span.span-index all (omega arith) in
    record { writes = all_done (λ done. (done.0, λ t had. subst (λ l. Holds (state g.S.Store c.loop-span.tx.conn.now).now (record t { fixed = spans_put l t.fixed })) whole (done.1 t had))) c.loop-span.invariant }
