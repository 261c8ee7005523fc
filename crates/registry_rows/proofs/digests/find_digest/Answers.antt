use Rattle.registry_rows.specs.Rows.{IsDigestRow, digest_shown, is_digest_at}
use Rattle.registry_rows.proofs.StepLemmas.{reads_first}
use Rattle.registry_rows.proofs.digests.find_digest.Goals as goal

pub returns : goal.returns
returns g c = record { reads = reads_first IsDigestRow digest_shown (is_digest_at c.args.id) (λ t. t.digests) c.in_ok-rows.ensures.reads (λ t has. (has.rows.digests.valid)) (rw c.deref.ensures.value at c.first_from.ensures) }
