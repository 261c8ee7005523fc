use Rattle.usbids_text.proofs.TagLemmas.{tag_utf8}
use Rattle.usbids_text.proofs.tag.Tag.as_str.Goals as goal

pub unreachable-requires : goal.unreachable-requires
unreachable-requires c = c.in-Err.ensures.cases.0 (tag_utf8 c.as_bytes.result.now c.as_bytes.ensures.valid)
