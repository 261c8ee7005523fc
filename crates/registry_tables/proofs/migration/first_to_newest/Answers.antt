use Rattle.std.proofs.Common.{arith}
use Rattle.sqlite.specs.State.{HasCleanDisk}
use Rattle.sqlite.specs.Held.{state}
use Rattle.registry_tables.proofs.MigrateLemmas.{on_ok}
use Rattle.registry_tables.proofs.migration.first_to_newest.Goals as goal

pub returns-clause-named : goal.returns-clause-named
returns-clause-named g c clean =
    let early : HasCleanDisk (state g.S.Store c.first_to_second.new.conn) = omega (arith, clean, c.second_to_newest.ensures.survives.clean) in
    on_ok c.second_to_newest.result (c.in_ok-first_to_second.ensures.named early)
