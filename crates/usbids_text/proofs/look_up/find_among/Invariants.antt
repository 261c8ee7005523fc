use Rattle.std.proofs.Common.{◌≡◌, drop}
use Rattle.usbids_text.specs.Finding.{find_mid}
use Rattle.usbids_text.proofs.look_up.find_among.Given as goal

abbrev pub invariant-loop-top : goal.invariant-loop-top
invariant-loop-top l = find_mid l.vendor l.code (drop l.top-index l.tops) ≡ find_mid l.vendor l.code l.tops
