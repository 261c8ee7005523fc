use Rattle.std.proofs.Common.{◌∙◌, arith, sym, ap}
use Rattle.std.specs.Prelude.{not}
use Rattle.usbids_text.proofs.WordLemmas.{ends_well_last, ends_well_nil}
use Rattle.usbids_text.proofs.name.ends_well.Goals as goal

pub returns-in-empty : goal.returns-in-empty
returns-in-empty c = sym (ends_well_nil c.args.bytes.now c.in-empty.len_below)

pub returns-in-len1-up : goal.returns-in-len1-up
returns-in-len1-up c = ap not c.is_tail.ensures ∙ sym (ends_well_last c.args.bytes.now (omega arith))
