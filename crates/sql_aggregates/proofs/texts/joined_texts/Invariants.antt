-- The text so far, with what is left behind it.
use Rattle.std.proofs.Common.{◌≡◌, ◌++◌, drop, true}
use Rattle.std.specs.List.{list_all}
use Rattle.std.specs.String.{string_bytes}
use Rattle.sql_types.specs.declared.sql_type.SqlType.TheVariants as types
use Rattle.sql_types.specs.Fits.{fits}
use Rattle.sql_types.specs.Takes.{content}
use Rattle.sql_aggregates.specs.Aggregates as rows
use Rattle.sql_aggregates.proofs.texts.joined_texts.Given as goal

abbrev pub invariant-loop-value : goal.invariant-loop-value
invariant-loop-value l = record {
  so_far : string_bytes l.text ++ rows.continued l.between (drop l.value-index l.rest) ≡ content l.fn.first ++ rows.continued l.between l.rest;
  fit : list_all (fits types.Text) (drop l.value-index l.rest) ≡ true;
}
