-- Places that a row leaves open, and what it needs of their types.
use Rattle.std.specs.Prelude.{Bool, true, Option, None, Some}
use Rattle.sql_types.specs.declared.sql_type.SqlType.{SqlType}
use Rattle.sql_builtins.specs.declared.table.Needs.{Needs}
use Rattle.sql_builtins.specs.declared.table.Slot.{Slot}
use Rattle.sql_builtins.specs.Choices.{is_common, is_element, is_array_of_element, meets}
use Rattle.tree_check.specs.declared.rows.Open.{Open}
use Rattle.tree_check.specs.declared.rows.Open.TheVariants as open_type

abbrev pub is_open : Open → Slot → Bool
is_open open_type.Common = is_common
is_open open_type.Element = is_element
is_open open_type.ArrayOfElement = is_array_of_element

abbrev pub needed : Needs → Option SqlType → Bool
needed needs None = true
needed needs (Some type) = meets needs type
