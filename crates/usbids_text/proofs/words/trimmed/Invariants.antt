use Rattle.std.proofs.Common.{◌≡◌, length}
use Rattle.usbids_text.specs.Words.{trimmed}
use Rattle.usbids_text.proofs.words.trimmed.Given as goal

abbrev pub invariant-loop-kept : goal.invariant-loop-kept
invariant-loop-kept l = trimmed l.kept ≡ trimmed l.line

abbrev pub decreases-loop-kept : goal.decreases-loop-kept
decreases-loop-kept l = length l.kept
