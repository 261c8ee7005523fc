use Rattle.std.proofs.Common.{◌≡◌, ◌+◌, [], ◌∷◌, ◌++◌, take, map, fold, sym, ap, subst, ◌∙◌, arith}
use Rattle.std.proofs.lemmas.List.{take_more, take_all}
use Rattle.sqlite_keyed.specs.Keyed.{insert_by}
use Rattle.sqlite.specs.Held.{state}
use Rattle.table_laws.proofs.InsideLemmas.{goes_then}
use Rattle.usbnum_core.specs.declared.number.Span.{Span}
use Rattle.registry_old_rows.specs.Old.{old_span_key}
use Rattle.registry_old_rows.specs.Between.{HoldsSecond}
use Rattle.registry_tables.proofs.SpreadLemmas.{put_more, one_id}
use Rattle.registry_tables.proofs.WriteLemmas.{as_tables, one_more, all_done}
use Rattle.registry_tables.proofs.second.put_spans.Goals as goal

pub loop-part-preserved : goal.loop-part-preserved
loop-part-preserved g c =
    let all = c.args.parts.now in
    let i = c.loop-part.part-index in
    let one : Span = c.part-item.result in
    let more : take (i + 1) all ≡ take i all ++ one ∷ [] = take_more all i one c.loop-part-test.true ∙ ap (λ (x : Span). take i all ++ x ∷ []) (sym c.part-item.is) in
    one_more c.loop-part.invariant (as_tables c.in_ok-put_old_span.ensures.writes) (λ done. (done 1 one_id).0)
    (λ first later vid own. (
    let before = first vid own in
    let after = later vid own in (
      goes_then _ _ _ before.0 after.0,
      λ t numbers had. subst (λ l. HoldsSecond vid (state g.S.Store c.put_old_span.new.tx.conn.now).now (record t { spans = l }) numbers) (sym (ap (λ (l : _). fold (insert_by old_span_key) t.spans (map (λ (part : Span). (vid, part)) l)) more ∙ put_more vid (take i all) one t.spans)) (after.1 _ _ (before.1 t numbers had)),
    )))

pub returns : goal.returns
returns g c =
    let all = c.args.parts.now in
    let whole : take c.loop-part.part-index all ≡ all = take_all c.loop-part.part-index all (omega arith) in
    record {
      writes = all_done (λ done vid own. (
          let did = done vid own in
          (did.0, λ t numbers had. subst (λ l. HoldsSecond vid (state g.S.Store c.loop-part.tx.conn.now).now (record t { spans = fold (insert_by old_span_key) t.spans (map (λ (part : Span). (vid, part)) l) }) numbers) whole (did.1 t numbers had)))) c.loop-part.invariant;
    }
