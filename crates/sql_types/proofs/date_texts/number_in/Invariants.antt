-- The digits that are left, behind the number so far, write what all the digits write.
use Rattle.std.proofs.Common.{◌≡◌, ◌<◌, ◌^◌, drop}
use Rattle.sql_types.specs.Calendar.{number_after}
use Rattle.sql_types.proofs.date_texts.number_in.Given as goal

abbrev pub invariant-loop-digit : goal.invariant-loop-digit
invariant-loop-digit l = record {
  small : l.number < 10 ^ l.digit-index;
  same : number_after l.number (drop l.digit-index l.digits) ≡ number_after 0 l.digits;
}
