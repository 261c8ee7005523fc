use Rattle.std.proofs.Common.{sym, ap, ◌∙◌}
use Rattle.usbids_text.specs.Words.{ends_word}
use Rattle.usbids_text.proofs.FourLemmas.{four_short, four_longer, four_same, four_some}
use Rattle.usbids_text.proofs.words.four_at.Goals as goal

pub returns-then-bytes-lt4-clause-is : goal.returns-then-bytes-lt4-clause-is
returns-then-bytes-lt4-clause-is c = four_short c.args.bytes.now c.if-bytes-lt4.true

pub returns-then-not-ends_word-clause-is : goal.returns-then-not-ends_word-clause-is
returns-then-not-ends_word-clause-is c = four_longer c.args.bytes.now (ap ends_word (sym c.past_four.ensures) ∙ sym c.if-not-ends_word.ensures)

pub returns-clause-is : goal.returns-clause-is
returns-clause-is c = four_same c.args.bytes.now c.number_of.result c.if-bytes-lt4.false (ap ends_word (sym c.past_four.ensures) ∙ sym c.if-not-ends_word.ensures) c.number_of.ensures

pub returns-clause-found : goal.returns-clause-found
returns-clause-found c = four_some c.args.bytes.now c.number_of.result c.if-bytes-lt4.false (ap ends_word (sym c.past_four.ensures) ∙ sym c.if-not-ends_word.ensures) c.number_of.ensures
