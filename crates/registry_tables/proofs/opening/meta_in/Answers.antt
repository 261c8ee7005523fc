use Rattle.std.proofs.Common.{◌<◌, length, sym, subst, arith, rules}
use Rattle.sqlite.specs.Held.{state}
use Rattle.registry_tables.proofs.OpeningLemmas.{one_meta}
use Rattle.registry_tables.proofs.NewestLemmas.{meta_told, meta_newest}
use Rattle.registry_tables.proofs.ReadLemmas.{rows_refuse, rows_fail}
use Rattle.registry_tables.proofs.opening.meta_in.Goals as goal

pub returns-in_err-metas-clause-reads : goal.returns-in_err-metas-clause-reads
returns-in_err-metas-clause-reads g c = rows_fail (search rules) c.in_err-metas.ensures.reads

pub returns-in-Some-clause-reads : goal.returns-in-Some-clause-reads
returns-in-Some-clause-reads g c = meta_told c.pop.new.self.items c.in-Some.meta c.in-Some.ensures.items c.of_newest.result c.of_newest.ensures c.in_ok-metas.ensures.reads

pub returns-in-Some-clause-newest : goal.returns-in-Some-clause-newest
returns-in-Some-clause-newest g c clean inside =
    let old = state g.S.Store c.args.tx.now.conn.now in
    let new = state g.S.Store c.list_metas.new.tx.conn.now in
    meta_newest old new c.in_ok-metas.metas.items c.pop.new.self.items c.in-Some.meta c.in-Some.ensures.items (c.in_ok-metas.ensures.reads.told clean inside) c.of_newest.result c.of_newest.ensures

pub returns-clause-reads : goal.returns-clause-reads
returns-clause-reads g c =
    rows_refuse (λ h t legal has had is.
    let there : 0 < length c.in_ok-metas.metas.items = subst (λ l. 0 < length l) (sym is) (one_meta h t had) in
    let never = c.in-None.ensures.variant.1 (omega (arith, there, c.in_ok-metas.metas.ok.0)) in
    cc) c.in_ok-metas.ensures.reads
