-- The text so far, and the texts that are left, are all of them.
use Rattle.std.proofs.Common.{◌≡◌, ◌++◌, drop, map, true}
use Rattle.std.specs.String.{string_bytes}
use Rattle.std.specs.Str.{encode_utf8_all}
use Rattle.sql_types.specs.declared.sql_type.SqlType.TheVariants as types
use Rattle.sql_types.specs.Takes.{all_fit}
use Rattle.sql_strings.specs.Texts.{all_joined}
use Rattle.sql_strings.specs.Rows.{characters}
use Rattle.sql_strings.proofs.concat.joined_texts.Given as goal

abbrev pub invariant-loop-value : goal.invariant-loop-value
invariant-loop-value l = record {
  so_far : string_bytes l.made ++ encode_utf8_all (all_joined (map characters (drop l.value-index l.values))) ≡ encode_utf8_all (all_joined (map characters l.values));
  fit : all_fit types.Text (drop l.value-index l.values) ≡ true;
}
