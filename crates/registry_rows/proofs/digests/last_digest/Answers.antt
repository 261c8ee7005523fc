use Rattle.std.proofs.Common.{take, reverse}
use Rattle.table_laws.proofs.LastLemmas.{all_reverse}
use Rattle.registry_rows.specs.Rows.{IsDigestRow, digest_key, digest_shown}
use Rattle.registry_rows.proofs.StepLemmas.{reads_all, valid_first}
use Rattle.registry_rows.proofs.digests.last_digest.Goals as goal

pub returns : goal.returns
returns g c = record { reads = reads_all IsDigestRow digest_shown (λ t. take 1 (reverse t.digests)) c.in_ok-rows.ensures.reads (λ t has. valid_first IsDigestRow 1 (reverse t.digests) (all_reverse digest_key IsDigestRow t.digests has.rows.digests.valid)) (λ all. all.items) (rw c.deref.ensures.value at c.all_from.ensures) }
