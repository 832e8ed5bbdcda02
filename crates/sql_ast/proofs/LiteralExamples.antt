-- Literals, worked out.
use Rattle.std.proofs.Common.{◌≡◌, [], ◌∷◌, codes, refl}
use Rattle.sql_names.specs.Spelling.{quote_text, escaped}
use Rattle.sql_types.specs.declared.value.Value.TheOpen as v
use Rattle.sql_ast.specs.Literals.{byte_text, quote_bytes, literal_layer}

-- a, LF, byte 171, `"` and DEL
some_bytes : quote_bytes (97 ∷ 10 ∷ 171 ∷ 34 ∷ 127 ∷ []) ≡ codes "b\"a\\x0a\\xab\\\"\\x7f\""
unfolding byte_text
some_bytes = refl

-- the number 1 and the text a, LF
some_fields : literal_layer (v.Struct (codes "1" ∷ quote_text (97 ∷ 10 ∷ []) ∷ [])) ≡ codes "STRUCT(1, \"a\\n\")"
unfolding escaped
some_fields = refl

no_elements : literal_layer (v.Array []) ≡ codes "[]"
no_elements = refl
