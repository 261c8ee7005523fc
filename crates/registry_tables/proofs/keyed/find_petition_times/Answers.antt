use Rattle.std.proofs.Common.{◌≡◌, rules}
use Rattle.registry_tables.proofs.CallLemmas.{look_up, store_fault}
use Rattle.registry_tables.proofs.keyed.find_petition_times.Goals as goal

pub returns-clause-looked_up : goal.returns-clause-looked_up
returns-clause-looked_up g c =
    let same : c.rollback.new.self.0 ≡ c.conn-1.given.0 = search rules in
    look_up c.args.conn.now c.begin-tx.ensures.begun c.begin-tx.ensures.live c.times_at-times.ensures.reads c.rollback.ensures.survives c.rollback.ensures.undone same

pub returns-clause-store : goal.returns-clause-store
returns-clause-store g c =
    let same : c.rollback.new.self.0 ≡ c.conn-1.given.0 = search rules in
    store_fault c.args.conn.now c.begin-tx.ensures.begun c.begin-tx.ensures.live c.times_at-times.ensures.store c.rollback.ensures.survives same
