-- The digits that are left, behind the number so far, write what all the digits write.
use Rattle.std.proofs.Common.{◌≡◌, ◌<◌, ◌^◌, drop}
use Rattle.std.specs.Prelude.{option_and_then}
use Rattle.sql_coerce.specs.Numerals.{numeral_after, only_u64}
use Rattle.sql_coerce.proofs.numerals.read_digits.Given as goal

abbrev pub invariant-loop-digit : goal.invariant-loop-digit
invariant-loop-digit l = record {
  small : l.number < 2 ^ 64;
  same : option_and_then only_u64 (numeral_after l.radix l.number (drop l.digit-index l.digits)) ≡ option_and_then only_u64 (numeral_after l.radix 0 l.digits);
}
