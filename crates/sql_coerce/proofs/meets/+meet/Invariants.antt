-- The fields left, behind the ones so far, are what all fields meet in.
use Rattle.std.proofs.Common.{◌≡◌, drop}
use Rattle.sql_coerce.specs.declared.arg.Kind.TheVariants.{Other}
use Rattle.sql_coerce.specs.Supertypes.{fields_meet}
use Rattle.sql_coerce.proofs.MeetLevels.{behind_met}
use Rattle.sql_coerce.proofs.meets.+meet.Given as goal

abbrev pub invariant-meet_fields-loop-place : goal.invariant-meet_fields-loop-place
invariant-meet_fields-loop-place l = record {
  kind : l.other ≡ Other;
  same : behind_met l.met (fields_meet l.place (drop l.place l.fields) l.list) ≡ fields_meet 0 l.fields l.list;
}
