-- Types, spelled.
use Rattle.std.proofs.Common.{◌≡◌, [], ◌∷◌, codes, Some, None, refl}
use Rattle.sql_names.specs.Spelling.{is_plain, escaped}
use Rattle.sql_names.specs.Words.{reserved_of}
use Rattle.sql_types.specs.declared.sql_type.SqlType.TheOpen as t
use Rattle.sql_types.specs.TypeText.{type_layer}

-- a field that is named, one that isn't, and one that is named by a reserved word
some_fields :
    type_layer (t.Struct (record { name = Some (codes "a"); ty = codes "INT64" } ∷ record { name = None; ty = codes "STRING" } ∷ record { name = Some (codes "select"); ty = codes "DATE" } ∷ []))
    ≡ codes "STRUCT<a INT64, STRING, `select` DATE>"
unfolding is_plain reserved_of escaped
some_fields = refl

some_array : type_layer (t.Array (codes "STRING")) ≡ codes "ARRAY<STRING>"
some_array = refl
