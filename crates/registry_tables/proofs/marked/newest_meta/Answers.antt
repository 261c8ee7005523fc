use Rattle.std.proofs.Common.{arith, rules}
use Rattle.sqlite.specs.Held.{state}
use Rattle.registry_rows.proofs.StepLemmas.{reads_by}
use Rattle.registry_tables.proofs.MarkedLemmas.{newest_told, newest_says, no_newest, fails_newest}
use Rattle.registry_tables.proofs.marked.newest_meta.Goals as goal

pub returns-in_err-metas-clause-reads : goal.returns-in_err-metas-clause-reads
returns-in_err-metas-clause-reads g c = fails_newest (search rules) c.in_err-metas.ensures.reads

pub returns-in-Some-clause-reads : goal.returns-in-Some-clause-reads
returns-in-Some-clause-reads g c = reads_by (λ read. newest_told c.args.version _ _ _ read c.pop.new.self.items c.in-Some.row c.in-Some.ensures.items c.of_version.result c.of_version.ensures) c.in_ok-metas.ensures.reads

pub returns-clause-reads : goal.returns-clause-reads
returns-clause-reads g c =
    reads_by (λ read. no_newest c.args.version _ _ c.in_ok-metas.metas.items read (λ there. (let never = c.in-None.ensures.variant.1 (omega (arith, there, c.in_ok-metas.metas.ok.0)) in cc))) c.in_ok-metas.ensures.reads

pub returns-in-Some-clause-named : goal.returns-in-Some-clause-named
returns-in-Some-clause-named g c clean inside =
    let old = state g.S.Store c.args.tx.now.conn.now in
    let new = state g.S.Store c.list_metas.new.tx.conn.now in
    newest_says c.args.version old new _ (c.in_ok-metas.ensures.reads.told clean inside) c.pop.new.self.items c.in-Some.row c.in-Some.ensures.items c.of_version.result c.of_version.ensures
