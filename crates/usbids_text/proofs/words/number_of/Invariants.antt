use Rattle.std.proofs.Common.{◌≡◌, ◌<◌, drop}
use Rattle.usbids_text.specs.Words.{number_from}
use Rattle.usbids_text.proofs.words.number_of.Given as goal

abbrev pub invariant-loop-b : goal.invariant-loop-b
invariant-loop-b l = record {
  value : number_from l.number (drop l.b-index l.bytes) ≡ number_from 0 l.bytes;
  none : l.b-index ≡ 0 → l.number < 1;
  one : l.b-index ≡ 1 → l.number < 16;
  two : l.b-index ≡ 2 → l.number < 256;
  three : l.b-index ≡ 3 → l.number < 4096;
  four : l.b-index ≡ 4 → l.number < 65536;
}
