-- Which tokens are a constant of a type, and its value: a case for each form.
use Rattle.std.specs.Prelude.{◌≡◌, ℕ, ℤ, pos, neg_ℤ, ◌≤◌, true, false, List, [], ◌∷◌, ◌++◌, Option, Some, None, Ok}
use Rattle.sql_types.specs.Calendar.{read_date}
use Rattle.sql_types.specs.declared.sql_type.Named.{Named}
use Rattle.sql_types.specs.declared.sql_type.SqlType.{SqlType, out-SqlType}
use Rattle.sql_types.specs.declared.sql_type.SqlType.TheVariants as ty
use Rattle.sql_types.specs.declared.value.Value.{Value}
use Rattle.sql_types.specs.declared.value.Value.TheVariants as v
use Rattle.sql_names.specs.declared.words.Reserved.TheVariants as r
use Rattle.sql_ast.specs.declared.words.Sign.TheVariants as s
use Rattle.sql_ast.specs.declared.words.Word.TheVariants as w
use Rattle.sql_ast.specs.declared.token.Token.{Token}
use Rattle.sql_ast.specs.Marks.{Tokens, Is, reserved, sign, word, text, bytes, integer, number, content}
use Rattle.sql_ast.specs.Tokens.{TokensOf}
use Rattle.sql_ast.specs.Nest.{nest}
use Rattle.sql_coerce.specs.Casts.{integer_value}

mutual
  pub data ConstantOf : SqlType → Tokens → Value → Type 0 where
    -- NULL is a constant of each type
    constant_null : {type : SqlType} {t : Token} → Is (reserved r.Null) t → ConstantOf type (t ∷ []) v.Null
    -- TRUE and FALSE
    constant_true : {t : Token} → Is (reserved r.True) t → ConstantOf ty.Bool (t ∷ []) (v.Bool true)
    constant_false : {t : Token} → Is (reserved r.False) t → ConstantOf ty.Bool (t ∷ []) (v.Bool false)
    -- an integer with an optional minus, which fits the type by its number
    constant_integer : {type : SqlType} {t : Token} {x : Value} → Is integer t → integer_value (out-SqlType type) (pos (number t)) ≡ Some x → ConstantOf type (t ∷ []) x
    constant_minus : {type : SqlType} {m t : Token} {x : Value} → Is (sign s.Minus) m → Is integer t
        → integer_value (out-SqlType type) (neg_ℤ (pos (number t))) ≡ Some x → ConstantOf type (m ∷ t ∷ []) x
    -- a string, and bytes
    constant_text : {t : Token} → Is text t → ConstantOf ty.Text (t ∷ []) (v.Text (content t))
    constant_bytes : {t : Token} → Is bytes t → ConstantOf ty.Bytes (t ∷ []) (v.Bytes (content t))
    -- a string fits DATE by its text, alone and behind the word DATE
    constant_day : {t : Token} {day : ℤ} → Is text t → read_date (content t) ≡ Some day → ConstantOf ty.Date (t ∷ []) (v.Date day)
    constant_date : {d t : Token} {day : ℤ} → Is (word w.Date) d → Is text t → read_date (content t) ≡ Some day → ConstantOf ty.Date (d ∷ t ∷ []) (v.Date day)
    -- "[" [constant {"," constant}] "]"
    constant_empty : (element : SqlType) {o c : Token} → Is (sign s.OpenSquare) o → Is (sign s.CloseSquare) c → ConstantOf (ty.Array element) (o ∷ c ∷ []) (v.Array [])
    constant_array : (element : SqlType) {xs : List Value} {o c : Token} {u : Tokens} → Is (sign s.OpenSquare) o → ElementsOf element u xs → Is (sign s.CloseSquare) c
        → ConstantOf (ty.Array element) (o ∷ (u ++ (c ∷ []))) (v.Array xs)
    -- STRUCT "(" constant {"," constant} ")", a constant for each field
    constant_struct : (fields : List (Named SqlType)) {xs : List Value} {t o c : Token} {u : Tokens} → Is (reserved r.Struct) t → Is (sign s.OpenRound) o → FieldsOf fields u xs
        → Is (sign s.CloseRound) c → ConstantOf (ty.Struct fields) (t ∷ o ∷ (u ++ (c ∷ []))) (v.Struct xs)

  -- constant {"," constant}, all of one type
  pub data ElementsOf : SqlType → Tokens → List Value → Type 0 where
    elements_one : {element : SqlType} {x : Value} {u : Tokens} → ConstantOf element u x → ElementsOf element u (x ∷ [])
    elements_more : {element : SqlType} {x : Value} {xs : List Value} {t : Token} {u w : Tokens} → ConstantOf element u x → Is (sign s.Comma) t → ElementsOf element w xs
        → ElementsOf element (u ++ (t ∷ w)) (x ∷ xs)

  -- the same, of the types of the fields in their order
  pub data FieldsOf : List (Named SqlType) → Tokens → List Value → Type 0 where
    fields_one : {field : Named SqlType} {x : Value} {u : Tokens} → ConstantOf field.ty u x → FieldsOf (field ∷ []) u (x ∷ [])
    fields_more : {field : Named SqlType} {fields : List (Named SqlType)} {x : Value} {xs : List Value} {t : Token} {u w : Tokens} → ConstantOf field.ty u x
        → Is (sign s.Comma) t → FieldsOf fields w xs → FieldsOf (field ∷ fields) (u ++ (t ∷ w)) (x ∷ xs)

-- What is found in a text: a constant of the type, whose tokens nest at most 200 deep; or none, where the text is no such constant.
abbrev pub ConstantText : SqlType → List ℕ → Option Value → Type 0
ConstantText type text (Some x) = (tokens : List Token) × TokensOf text (Ok tokens) × (nest tokens ≤ 200) × ConstantOf type tokens x
ConstantText type text None = (tokens : List Token) (x : Value) → TokensOf text (Ok tokens) → nest tokens ≤ 200 → ConstantOf type tokens x → ⊥
