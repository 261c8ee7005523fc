use Rattle.std.proofs.Common.{◌≡◌, ℕ, ◌+◌, List, [], ◌∷◌, ◌++◌, take, sym, ap, subst, ◌∙◌, arith}
use Rattle.std.proofs.lemmas.List.{take_more, take_all}
use Rattle.sqlite.specs.Held.{state}
use Rattle.table_laws.proofs.InsideLemmas.{goes_then}
use Rattle.registry_rows.specs.Tables.{Holds}
use Rattle.registry_tables.specs.Changed.{names_put}
use Rattle.registry_tables.proofs.FoundingLemmas.{names_more}
use Rattle.registry_tables.proofs.WriteLemmas.{as_tables, one_more, all_done}
use Rattle.registry_tables.proofs.founding.add_curators.Goals as goal

pub loop-name-preserved : goal.loop-name-preserved
loop-name-preserved g c =
    let all = c.args.names.now in
    let i = c.loop-name.name-index in
    let one : List ℕ = c.name-item.result in
    let more : take (i + 1) all ≡ take i all ++ one ∷ [] = take_more all i one c.loop-name-test.true ∙ ap (λ (x : List ℕ). take i all ++ x ∷ []) (sym c.name-item.is) in
    one_more c.loop-name.invariant (as_tables c.in_ok-put_curator.ensures.writes) (λ done. done.0)
    (λ first later. (goes_then _ _ _ first.0 later.0, λ t had. subst (λ l. Holds (state g.S.Store c.put_curator.new.tx.conn.now).now (record t { curators = l })) (sym (ap (λ l. names_put l t.curators) more ∙ names_more (take i all) one t.curators)) (later.1 _ (first.1 t had))))

pub returns : goal.returns
returns g c =
    let all = c.args.names.now in
    let whole : take c.loop-name.name-index all ≡ all = take_all c.loop-name.name-index all (omega arith) in
    record { writes = all_done (λ done. (done.0, λ t had. subst (λ l. Holds (state g.S.Store c.loop-name.tx.conn.now).now (record t { curators = names_put l t.curators })) whole (done.1 t had))) c.loop-name.invariant }
