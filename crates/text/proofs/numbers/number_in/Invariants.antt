use Rattle.std.proofs.Common.{take}
use Rattle.std.specs.Str.Parse.{AllDigits, digits_value}
use Rattle.text.specs.Numbers.{IsOf}
use Rattle.text.proofs.numbers.number_in.Given as goal

abbrev pub invariant-loop-byte : goal.invariant-loop-byte
invariant-loop-byte l = record {
  digits : AllDigits l.radix (take l.byte-index l.digits);
  value : IsOf (digits_value l.radix (take l.byte-index l.digits)) l.number;
}
