use Rattle.std.proofs.Common.{◌≡◌, ◌<◌, ◌^◌, drop}
use Rattle.option_table.specs.Numbers.{number_in}
use Rattle.option_table.proofs.DigitsLemmas.{number_on}
use Rattle.option_table.proofs.numbers.digits_number.Given as goal

abbrev pub invariant-loop-byte : goal.invariant-loop-byte
invariant-loop-byte l = record {
  small : l.value < 2 ^ 64;
  read : number_in l.radix l.digits ≡ number_on l.radix l.value (drop l.byte-index l.digits);
}
