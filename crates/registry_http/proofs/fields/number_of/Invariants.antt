use Rattle.std.proofs.Common.{◌≡◌, ◌<◌, ◌^◌, true, drop}
use Rattle.std.specs.List.{list_all}
use Rattle.registry_http.specs.Fields.{decimal_from, is_digit}
use Rattle.registry_http.proofs.fields.number_of.Given as goal

abbrev pub invariant-loop-b : goal.invariant-loop-b
invariant-loop-b l = record {
  number : decimal_from l.number (drop l.b-index l.digits) ≡ decimal_from 0 l.digits;
  small : l.number < 10 ^ l.b-index;
  digits : list_all is_digit (drop l.b-index l.digits) ≡ true;
}
