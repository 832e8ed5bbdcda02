use Rattle.std.proofs.Common.{◌≤◌, ◌+◌, ◌-◌, ◌*◌, length}
use Rattle.fronts.specs.Readers.{many, Going}
use Rattle.sql_ast.specs.declared.words.Sign.TheVariants as sign
use Rattle.sql_ast.specs.Marks as spec
use Rattle.sql_grammar.specs.Words as words
use Rattle.parse_words.specs.Reads.{from, turns}
use Rattle.parse_words.proofs.types.+types.Given as goal

abbrev pub decreases-type_at : goal.decreases-type_at
decreases-type_at l = 8 * l.levels

abbrev pub decreases-field : goal.decreases-field
decreases-field l = 8 * l.levels + 2

abbrev pub decreases-comma_field : goal.decreases-comma_field
decreases-comma_field l = 8 * l.levels + 3

abbrev pub decreases-comma_fields : goal.decreases-comma_fields
decreases-comma_fields l = 8 * l.levels + 4

abbrev pub decreases-fields_closed : goal.decreases-fields_closed
decreases-fields_closed l = 8 * l.levels + 5

abbrev pub decreases-struct_type : goal.decreases-struct_type
decreases-struct_type l = 8 * l.levels + 6

abbrev pub decreases-array_type : goal.decreases-array_type
decreases-array_type l = 8 * l.levels + 6

abbrev pub invariant-comma_fields-fields : goal.invariant-comma_fields-fields
invariant-comma_fields-fields l = record {
  moved : l.fn.at ≤ l.at;
  going : Going l.tokens.list (spec.sign sign.Comma) (words.comma_field (turns l.tokens) (words.starts_type l.levels) (words.type_at (turns l.tokens) l.levels)) (many (spec.sign sign.Comma) (words.comma_field (turns l.tokens) (words.starts_type l.levels) (words.type_at (turns l.tokens) l.levels)) (turns l.tokens) l.fn.found (from l.tokens l.fn.at)) l.found l.at;
}

abbrev pub decreases-comma_fields-fields : goal.decreases-comma_fields-fields
decreases-comma_fields-fields l = length l.tokens.list - l.at
