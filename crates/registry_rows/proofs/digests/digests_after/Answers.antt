use Rattle.std.proofs.Common.{take, filter}
use Rattle.sqlite_keyed.proofs.ListLemmas.{all-filter}
use Rattle.registry_rows.specs.Rows.{IsDigestRow, digest_shown, is_digest_after}
use Rattle.registry_rows.proofs.StepLemmas.{reads_all, valid_first}
use Rattle.registry_rows.proofs.digests.digests_after.Goals as goal

pub returns : goal.returns
returns g c =
    let n = c.args.after in
    record { reads = reads_all IsDigestRow digest_shown (λ t. take c.args.most (filter (is_digest_after n) t.digests)) c.in_ok-rows.ensures.reads (λ t has. valid_first IsDigestRow c.args.most (filter (is_digest_after n) t.digests) (all-filter IsDigestRow (is_digest_after n) t.digests has.rows.digests.valid)) (λ all. all.items) (rw c.deref.ensures.value at c.all_from.ensures) }
