-- What a key is seen as.
use Rattle.std.specs.Prelude.{List}
use Rattle.sql_types.specs.declared.value.Value.{Value}
use Rattle.key_classes.specs.declared.key.Key.{Key}
use Rattle.key_classes.specs.Classes.{key_of}

-- the values of a key
abbrev pub values_of : Key → List Value
values_of key = key_of key.columns.now key.row.now
