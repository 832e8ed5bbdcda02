-- Which values hold a NULL.
use Rattle.std.specs.Prelude.{Bool, true, false, ◌||◌, List, [], ◌∷◌}
use Rattle.sql_types.specs.declared.value.Value.{Value, fold-Value}
use Rattle.sql_types.specs.declared.value.Value.TheOpen as v

abbrev pub some_true : List Bool → Bool
some_true [] = false
some_true (b ∷ bs) = b || some_true bs

-- the parts are given by whether they hold a NULL
abbrev pub null_layer : v.Value-F Bool → Bool
null_layer v.Null = true
null_layer (v.Array elements) = some_true elements
null_layer (v.Struct fields) = some_true fields
null_layer _ = false

-- whether the value is NULL, or a part of it is
unfoldable pub holds_null : Value → Bool
holds_null = fold-Value Bool null_layer
