-- The places of the types that a row leaves open.
use Rattle.std.specs.Prelude.{Bool}
use Rattle.sql_builtins.specs.declared.open_types.OpenType.{OpenType}
use Rattle.sql_builtins.specs.declared.open_types.OpenType.TheVariants.{Common, Element}
use Rattle.sql_builtins.specs.declared.table.Slot.{Slot}
use Rattle.sql_builtins.specs.Choices.{is_common, is_element}

-- whether a place has the common type, or the element type
abbrev pub is_open : OpenType → Slot → Bool
is_open Common = is_common
is_open Element = is_element
