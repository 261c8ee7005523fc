use Rattle.std.proofs.Common.{◌≡◌, refl, rules}
use Rattle.registry_tables.proofs.ListLemmas.{petition_list}
use Rattle.registry_tables.proofs.ReadLemmas.{rows_tell, rows_store}
use Rattle.registry_tables.proofs.CallLemmas.{look_up, store_fault}
use Rattle.registry_tables.proofs.lists.list_open_petitions.Goals as goal

pub returns-clause-looked_up : goal.returns-clause-looked_up
returns-clause-looked_up g c =
    let same : c.rollback.new.self.0 ≡ c.conn-1.given.0 = search rules in
    look_up c.args.conn.now c.begin-tx.ensures.begun c.begin-tx.ensures.live (rows_tell (λ h t legal has had list is. record { all = t.petitions; listed = petition_list h _ t has had t.petitions refl; undecided = is }) c.list_open_petitions-petitions.ensures.reads) c.rollback.ensures.survives c.rollback.ensures.undone same

pub returns-clause-store : goal.returns-clause-store
returns-clause-store g c =
    let same : c.rollback.new.self.0 ≡ c.conn-1.given.0 = search rules in
    store_fault c.args.conn.now c.begin-tx.ensures.begun c.begin-tx.ensures.live (rows_store c.list_open_petitions-petitions.ensures.reads) c.rollback.ensures.survives same
