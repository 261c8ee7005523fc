use Rattle.usbids_text.proofs.FinishLemmas.{fed_more, fed_stuck}
use Rattle.std.specs.Prelude.{◌++◌}
use Rattle.usbids_text.proofs.SeenLemmas.{answers_so_far, seen_is}
use Rattle.usbids_text.proofs.reader.Reader.feed.Goals as goal

pub returns-in-Some-clause-was_fed : goal.returns-in-Some-clause-was_fed
returns-in-Some-clause-was_fed c = λ t s. fed_stuck c.args.self.now t c.args.piece.now c.in-Some.fault c.in-Some.is s

pub returns-clause-was_fed : goal.returns-clause-was_fed
returns-clause-was_fed c = λ t s. fed_more c.args.self.now c.take_piece.new.self t c.args.piece.now s c.take_piece.ensures

pub returns-in-Some-clause-faulty : goal.returns-in-Some-clause-faulty
returns-in-Some-clause-faulty c = λ t s. answers_so_far c.args.self.now (t ++ c.args.piece.now) (fed_stuck c.args.self.now t c.args.piece.now c.in-Some.fault c.in-Some.is s)

pub returns-clause-faulty : goal.returns-clause-faulty
returns-clause-faulty c = λ t s. answers_so_far c.take_piece.new.self (t ++ c.args.piece.now) (fed_more c.args.self.now c.take_piece.new.self t c.args.piece.now s c.take_piece.ensures)

pub returns-in-Some-clause-seen : goal.returns-in-Some-clause-seen
returns-in-Some-clause-seen c = λ t n why s. seen_is c.args.self.now (t ++ c.args.piece.now) n why (fed_stuck c.args.self.now t c.args.piece.now c.in-Some.fault c.in-Some.is s)

pub returns-clause-seen : goal.returns-clause-seen
returns-clause-seen c = λ t n why s. seen_is c.take_piece.new.self (t ++ c.args.piece.now) n why (fed_more c.args.self.now c.take_piece.new.self t c.args.piece.now s c.take_piece.ensures)
