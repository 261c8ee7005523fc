use Rattle.std.proofs.Common.{refl, sym, subst}
use Rattle.usbids_text.specs.Scans.{LooksUpAs}
use Rattle.usbids_text.proofs.ScanLemmas.{finish_stuck, finish_answer}
use Rattle.usbids_text.proofs.scan.Scan.finish.Goals as goal

pub returns-in-Some : goal.returns-in-Some
returns-in-Some c = λ w t s. finish_stuck c.args.self w t c.in-Some.fault s c.in-Some.is

pub returns-in-Ok : goal.returns-in-Ok
returns-in-Ok c = λ w t s. subst (LooksUpAs w t) (sym c.into_answer.ensures) (finish_answer c.args.self w t c.take_rest.new.self.seen c.take_rest.new.self.seen.fault s c.in-Ok.ensures.done refl)
