-- The bytes so far, and those that are left, are all of them.
use Rattle.std.proofs.Common.{◌≡◌, ◌++◌, drop, map, true}
use Rattle.sql_types.specs.declared.sql_type.SqlType.TheVariants as types
use Rattle.sql_types.specs.Takes.{all_fit, content}
use Rattle.sql_strings.specs.Texts.{all_joined}
use Rattle.sql_strings.proofs.concat.joined_bytes.Given as goal

abbrev pub invariant-loop-value : goal.invariant-loop-value
invariant-loop-value l = record {
  so_far : l.made.items ++ all_joined (map content (drop l.value-index l.values)) ≡ all_joined (map content l.values);
  fit : all_fit types.Bytes (drop l.value-index l.values) ≡ true;
}
