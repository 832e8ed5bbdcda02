-- What a hash is fed of values. Which writes these are is no matter, as long as the same values make the same ones.
use Rattle.std.specs.Prelude.{List, [], ◌∷◌, ◌++◌, length}
use Rattle.std.specs.List.{flat_map}
use Rattle.std.specs.Hash as fed
use Rattle.std.specs.Hash.{HashWrites}
use Rattle.sql_types.specs.declared.value.Value.{Value, fold-Value}
use Rattle.sql_types.specs.declared.value.Value.TheOpen as v

-- the number of parts, and then the writes for each
abbrev pub fed_parts : List HashWrites → HashWrites
fed_parts parts = fed.usize (length parts) ++ flat_map (λ part. part) parts

-- the kind of a value, and then what it holds; the parts are given by their writes
abbrev pub fed_layer : v.Value-F HashWrites → HashWrites
fed_layer v.Null = fed.u8 0
fed_layer (v.Bool truth) = fed.u8 1 ++ fed.bool truth
fed_layer (v.Int number) = fed.u8 2 ++ fed.i64 number
fed_layer (v.Uint number) = fed.u8 3 ++ fed.u64 number
fed_layer (v.Text bytes) = fed.u8 4 ++ bytes ∷ []
fed_layer (v.Bytes bytes) = fed.u8 5 ++ bytes ∷ []
fed_layer (v.Date day) = fed.u8 6 ++ fed.i32 day
fed_layer (v.Array elements) = fed.u8 7 ++ fed_parts elements
fed_layer (v.Struct fields) = fed.u8 8 ++ fed_parts fields

unfoldable pub fed_value : Value → HashWrites
fed_value = fold-Value HashWrites fed_layer

-- the number of values, and then each of them
abbrev pub fed_values : List Value → HashWrites
fed_values = fed.slice fed_value
