use Rattle.std.proofs.Common.{refl, arith}
use Rattle.sqlite.specs.State.{HasCleanDisk}
use Rattle.sqlite.specs.Held.{state}
use Rattle.registry_tables.specs.Rows.{newest}
use Rattle.registry_store.proofs.OpeningLemmas.{still_at, at_rest, rows_now}
use Rattle.registry_store.proofs.registry.Registry.open_newest.Goals as goal

pub returns-in-Ok-clause-represents : goal.returns-in-Ok-clause-represents
returns-in-Ok-clause-represents g c h legal rest clean =
    let old = state g.S.Store c.args.conn in
    let early : HasCleanDisk old = omega (arith, c.read_summary.ensures.looked_up.survives.clean) in
    let it = c.in-Ok.ensures.looked_up.answer clean in
    let shown = rest early it.0 in
    let at = at_rest g.S.Store c.args.conn newest h g.met.S.Store.settled (λ _. (it.0, shown.0, shown.1)) in
    let known = it.1 h legal (rows_now old h at early it.0) in
    record {
      not_poisoned = refl;
      legal_with = record { legal = legal; totals_are = known.totals; head_is = known.head };
      at = still_at old (state g.S.Store c.read_summary.new.conn) h at c.read_summary.ensures.looked_up.same c.read_summary.ensures.looked_up.survives;
    }

pub returns-in-Ok-clause-open : goal.returns-in-Ok-clause-open
returns-in-Ok-clause-open g c clean = let was_open = (c.in-Ok.ensures.looked_up.answer clean).0 in (was_open, c.read_summary.ensures.looked_up.survives.closes clean was_open)
