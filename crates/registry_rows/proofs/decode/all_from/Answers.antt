use Rattle.std.proofs.Common.{Err, ◌≡◌, ◌+◌, true, take, ◌++◌, ◌∷◌, [], is_ok, sym, ap, subst, ◌∙◌, rules}
use Rattle.std.proofs.lemmas.List.{take_more}
use Rattle.registry_rows.specs.Columns.{AreShown}
use Rattle.registry_rows.proofs.DecodeLemmas.{one_more, not_foreign, shown_more}
use Rattle.registry_schema.specs.declared.fault.TableFault.TheVariants.{Store}
use Rattle.registry_rows.proofs.decode.all_from.Goals as goal

pub loop-row-preserved : goal.loop-row-preserved
loop-row-preserved g c =
    let i = c.loop-row.row-index in
    let rows = c.args.rows.now in
    let row = c.row-item.result in
    let value = c.in-Ok.value in
    let pushed : is_ok c.push.result ≡ true = search rules in
    let longer = rw pushed at c.push.ensures.items in
    let more : take (i + 1) rows ≡ take i rows ++ row ∷ [] = take_more rows i row c.loop-row-test.true ∙ ap (λ x. take i rows ++ x ∷ []) (sym c.row-item.is) in
    record {
      reads = λ values valid same.
          (let next = one_more g.T.FromRow.is_valid g.T.FromRow.columns values rows valid same i row value c.loop-row-test.true c.row-item.is c.in-Ok.ensures.decodes in
          longer ∙ ap (λ l. l ++ value ∷ []) (c.loop-row.invariant.reads values valid same) ∙ sym next);
      shown = subst (λ l. AreShown g.T.FromRow.columns l c.push.new.self.items) (sym more)
          (subst (AreShown g.T.FromRow.columns (take i rows ++ row ∷ [])) (sym longer) (shown_more g.T.FromRow.columns (take i rows) c.loop-row.all.items row value c.loop-row.invariant.shown c.in-Ok.ensures.shown));
    }

pub returns-in-Err : goal.returns-in-Err
returns-in-Err g c = record {
  decodes = λ values valid same.
      not_foreign g.T.FromRow.is_valid g.T.FromRow.columns values c.args.rows.now valid same c.loop-row.row-index c.row-item.result c.in-Err.fault c.loop-row-test.true c.row-item.is c.in-Err.ensures.decodes;
  whole = tt;
  fault = λ is. (let same : c.in-Err.fault ≡ Store = cc in c.in-Err.ensures.fault (ap Err same));
}
