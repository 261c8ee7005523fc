use Rattle.std.proofs.Common.{length}
use Rattle.usbnum_core.proofs.time.+follows.Given as goal

abbrev pub decreases-follows : goal.decreases-follows
decreases-follows l = length l.form.now
