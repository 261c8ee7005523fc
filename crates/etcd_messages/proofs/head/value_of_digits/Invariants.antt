use Rattle.std.proofs.Common.{◌≡◌, ◌<◌, ◌^◌, true, drop}
use Rattle.std.specs.List.{list_all}
use Rattle.etcd_messages.specs.Answers.{digits_value_from, is_decimal_digit}
use Rattle.etcd_messages.proofs.head.value_of_digits.Given as goal

abbrev pub invariant-loop-b : goal.invariant-loop-b
invariant-loop-b l = record {
  number : digits_value_from l.number (drop l.b-index l.digits) ≡ digits_value_from 0 l.digits;
  small : l.number < 10 ^ l.b-index;
  digits : list_all is_decimal_digit (drop l.b-index l.digits) ≡ true;
}
