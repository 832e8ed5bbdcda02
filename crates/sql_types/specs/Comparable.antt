-- Which types can be compared, grouped by and ordered.
use Rattle.std.specs.Prelude.{Bool, true, false, ◌&&◌, List, [], ◌∷◌}
use Rattle.sql_types.specs.declared.sql_type.Named.{Named}
use Rattle.sql_types.specs.declared.sql_type.SqlType.{SqlType, fold-SqlType, out-SqlType}
use Rattle.sql_types.specs.declared.sql_type.SqlType.TheOpen as t

-- each field is so; a field is given by whether its type is
abbrev pub all_fields : List (Named Bool) → Bool
all_fields [] = true
all_fields (f ∷ fs) = f.ty && all_fields fs

-- a type's parts are given by whether they are comparable
abbrev pub comparable_layer : t.SqlType-F Bool → Bool
-- BOOL, the integers, STRING, BYTES and DATE are comparable
comparable_layer t.Bool = true
comparable_layer t.Int32 = true
comparable_layer t.Int64 = true
comparable_layer t.Uint32 = true
comparable_layer t.Uint64 = true
comparable_layer t.Text = true
comparable_layer t.Bytes = true
comparable_layer t.Date = true
-- an ARRAY isn't, and a STRUCT is where all its fields are
comparable_layer (t.Array element) = false
comparable_layer (t.Struct fields) = all_fields fields

-- whether `=` and its kin take the type
unfoldable pub comparable : SqlType → Bool
comparable = fold-SqlType Bool comparable_layer

-- each field is of a comparable type
abbrev pub all_comparable : List (Named SqlType) → Bool
all_comparable [] = true
all_comparable (f ∷ fs) = comparable f.ty && all_comparable fs

-- whether GROUP BY, DISTINCT and the set operations but UNION ALL take the type: the comparable ones
abbrev pub groupable : SqlType → Bool
groupable = comparable

-- whether ORDER BY takes the type
abbrev pub orderable_layer : t.SqlType-F SqlType → Bool
-- BOOL, the integers, STRING, BYTES and DATE are orderable
orderable_layer t.Bool = true
orderable_layer t.Int32 = true
orderable_layer t.Int64 = true
orderable_layer t.Uint32 = true
orderable_layer t.Uint64 = true
orderable_layer t.Text = true
orderable_layer t.Bytes = true
orderable_layer t.Date = true
-- an ARRAY and a STRUCT aren't, whatever they hold
orderable_layer (t.Array element) = false
orderable_layer (t.Struct fields) = false

abbrev pub orderable : SqlType → Bool
orderable ty = orderable_layer (out-SqlType ty)
