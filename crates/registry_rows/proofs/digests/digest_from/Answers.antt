use Rattle.registry_rows.proofs.DecodeLemmas.{digest_read}
use Rattle.registry_rows.proofs.digests.digest_from.Goals as goal

pub returns-clause-decodes : goal.returns-clause-decodes
returns-clause-decodes c d valid same = digest_read d c.args.row.now c.in_ok-text_or_null_at.field-0 c.in_ok-text_at.field-0 same c.in_ok-text_or_null_at.ensures.ok c.in_ok-text_at.ensures.ok
