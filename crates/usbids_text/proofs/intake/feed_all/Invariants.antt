use Rattle.std.proofs.Common.{◌≡◌, ◌-◌, ◌<◌, length}
use Rattle.usbids_text.proofs.IntakeLemmas.{Feeds}
use Rattle.usbids_text.proofs.intake.feed_all.Given as goal

abbrev pub invariant-loop-total : goal.invariant-loop-total
invariant-loop-total g l = record {
  feeds : Feeds _ _ g.I.Intake.was_fed (g.R.Source.remaining l.initial.source) (g.R.Source.remaining l.source) l.initial.intake l.intake l.total;
  same_failures : g.R.Source.failures l.source ≡ g.R.Source.failures l.initial.source;
  room : 0 < length l.room;
}

abbrev pub decreases-loop-total : goal.decreases-loop-total
decreases-loop-total g l = 4294967296 - l.total
