use Rattle.std.proofs.Common.{◌≡◌, drop}
use Rattle.usbids_text.specs.Finding.{first_mid}
use Rattle.usbids_text.proofs.look_up.mid_name.Given as goal

abbrev pub invariant-loop-mid : goal.invariant-loop-mid
invariant-loop-mid l = first_mid l.code (drop l.mid-index l.mids) ≡ first_mid l.code l.mids
