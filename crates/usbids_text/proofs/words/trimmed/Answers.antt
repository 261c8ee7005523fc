use Rattle.std.proofs.Common.{sym, ◌∙◌, arith}
use Rattle.usbids_text.proofs.WordLemmas.{trimmed_step, trimmed_done, trimmed_nil}
use Rattle.usbids_text.proofs.words.trimmed.Goals as goal

pub loop-kept-preserved : goal.loop-kept-preserved
loop-kept-preserved c = trimmed_step c.loop-kept.kept.now (omega arith) (sym c.if-not-is_tail.ensures) ∙ c.loop-kept.invariant

pub returns-in_default : goal.returns-in_default
returns-in_default c = trimmed_nil c.loop-kept.kept.now (omega arith) ∙ c.loop-kept.invariant

pub returns-then-not-is_tail : goal.returns-then-not-is_tail
returns-then-not-is_tail c = trimmed_done c.loop-kept.kept.now (omega arith) (sym c.if-not-is_tail.ensures) ∙ c.loop-kept.invariant
