-- What a column's type is asked for.
use Rattle.std.specs.Prelude.{Bool, true, ◌&&◌}
use Rattle.sql_types.specs.declared.sql_type.SqlType.{SqlType}
use Rattle.sql_types.specs.Comparable.{comparable}
use Rattle.sql_types.specs.SameType.{same_type}
use Rattle.resolved_ast.specs.Columns.{element_of}
use Rattle.resolved_ast.specs.Flaws.{is_type}
use Rattle.tree_check.specs.declared.asked.Asked.{Asked}
use Rattle.tree_check.specs.declared.asked.Asked.TheVariants as asked

abbrev pub passes : Asked → SqlType → Bool
passes (asked.Same type) taken = same_type type.now taken
passes (asked.ElementOf array) taken = is_type taken (element_of array.now)
passes (asked.SameWhere truth sought) taken = truth && same_type taken sought.now
passes asked.Comparable taken = comparable taken
passes asked.Anything taken = true
