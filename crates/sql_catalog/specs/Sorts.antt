-- The name and the sort of a definition.
use Rattle.std.specs.Prelude.{ℕ, Bool, true, false, List}
use Rattle.sql_catalog.specs.declared.entries.Definition.{Definition}
use Rattle.sql_catalog.specs.declared.entries.Definition.TheVariants.{View, Function}

abbrev pub definition_name : Definition → List ℕ
definition_name (View view) = view.name
definition_name (Function function) = function.name

abbrev pub is_function : Definition → Bool
is_function (View view) = false
is_function (Function function) = true
