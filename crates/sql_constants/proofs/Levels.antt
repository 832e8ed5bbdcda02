-- What reads a constant, one level of the type at a time.
use Rattle.std.proofs.Common.{◌≡◌, ℕ, true, false, cond, List, [], ◌∷◌, map, refl, sym, ap, ◌∙◌}
use Rattle.fronts.specs.Readers.{comes}
use Rattle.sql_types.specs.declared.sql_type.Named.{Named}
use Rattle.sql_types.specs.declared.sql_type.SqlType.{SqlType, map-SqlType, out-SqlType, roll-SqlType, roll-out-SqlType, fold-SqlType, fold-roll-SqlType}
use Rattle.sql_types.specs.declared.sql_type.SqlType.TheOpen as t
use Rattle.sql_types.specs.declared.sql_type.SqlType.TheVariants as ty
use Rattle.sql_types.specs.declared.sql_type.SqlType.TheShapes as shapes
use Rattle.sql_names.specs.declared.words.Reserved.TheVariants as r
use Rattle.sql_ast.specs.Marks.{reserved}
use Rattle.sql_types.specs.declared.value.Value.{Value}
use Rattle.sql_ast.specs.declared.token.Token.{Token}
use Rattle.sql_coerce.specs.Casts.{integer_value}
use Rattle.sql_constants.specs.Readers.{Parser, null, truth, signed, a_text, some_bytes, day, array, structure, read_by, typed, or_null, constant_at, fields_at}

-- a type of the same form is the same
pub rolled : (type : SqlType) (form : t.SqlType-F SqlType) (other : SqlType) → out-SqlType type ≡ form → out-SqlType other ≡ form → type ≡ other
rolled type form other is same = sym (roll-out-SqlType type) ∙ ap roll-SqlType (is ∙ sym same) ∙ roll-out-SqlType other

module _ (turns : ℕ) where
  -- the parts of the type stand as they are
  abbrev pub typed_at : t.SqlType-F SqlType → Parser Value
  typed_at t.Bool = truth
  typed_at t.Int32 = signed (integer_value t.Int32)
  typed_at t.Int64 = signed (integer_value t.Int64)
  typed_at t.Uint32 = signed (integer_value t.Uint32)
  typed_at t.Uint64 = signed (integer_value t.Uint64)
  typed_at t.Text = a_text
  typed_at t.Bytes = some_bytes
  typed_at t.Date = day
  typed_at (t.Array element) = array turns (constant_at turns element)
  typed_at (t.Struct fields) = structure (fields_at turns fields)

  fields_moved : (fields : List (Named SqlType)) → map read_by (map (shapes.former-SqlType-Struct-0-at-2.map SqlType (Parser Value) (constant_at turns)) fields) ≡ fields_at turns fields
  fields_moved [] = refl
  fields_moved (f ∷ fields) = ap (λ (ps : List (Parser Value)). constant_at turns f.ty ∷ ps) (fields_moved fields)

  moved : (form : t.SqlType-F SqlType) → typed turns (map-SqlType SqlType (Parser Value) (constant_at turns) form) ≡ typed_at form
  moved (t.Struct fields) = ap structure (fields_moved fields)
  moved _ = refl

  abbrev step : t.SqlType-F (Parser Value) → Parser Value
  step form = or_null (typed turns form)

  opens : (type : SqlType) → constant_at turns type ≡ step (map-SqlType SqlType (Parser Value) (constant_at turns) (out-SqlType type))
  unfolding constant_at
  opens type = ap (fold-SqlType (Parser Value) step) (sym (roll-out-SqlType type)) ∙ fold-roll-SqlType (Parser Value) step (out-SqlType type)

  pub constant_opens : (type : SqlType) → constant_at turns type ≡ or_null (typed_at (out-SqlType type))
  constant_opens type = opens type ∙ ap or_null (moved (out-SqlType type))

  -- at a type whose form is known
  pub constant_by : (type : SqlType) (form : t.SqlType-F SqlType) → out-SqlType type ≡ form → (ts : List Token) → constant_at turns type ts ≡ or_null (typed_at form) ts
  constant_by type form e ts = ap (λ (p : Parser Value). p ts) (constant_opens type ∙ ap (λ f. or_null (typed_at f)) e)

  module _ (type : SqlType) (ts : List Token) where
    pub at_null : true ≡ comes (reserved r.Null) ts → constant_at turns type ts ≡ null ts
    at_null h = constant_by type (out-SqlType type) refl ts ∙ ap (λ b. cond b (null ts) (typed_at (out-SqlType type) ts)) (sym h)

    pub at_form : false ≡ comes (reserved r.Null) ts → (form : t.SqlType-F SqlType) → out-SqlType type ≡ form → constant_at turns type ts ≡ typed_at form ts
    at_form h form e = constant_by type form e ts ∙ ap (λ b. cond b (null ts) (typed_at form ts)) (sym h)

    -- a type that is none of the others is an integer type
    by_integer : (form : t.SqlType-F SqlType) → out-SqlType type ≡ form → (type ≡ ty.Bool → ⊥) → (type ≡ ty.Text → ⊥) → (type ≡ ty.Bytes → ⊥) → (type ≡ ty.Date → ⊥) → ((element : SqlType) → type ≡ ty.Array element → ⊥)
        → ((fields : List (Named SqlType)) → type ≡ ty.Struct fields → ⊥) → typed_at form ≡ signed (integer_value form)
    by_integer t.Bool e a b c d f g = absurd (a (rolled type t.Bool ty.Bool e ty.outs-Bool))
    by_integer t.Int32 e a b c d f g = refl
    by_integer t.Int64 e a b c d f g = refl
    by_integer t.Uint32 e a b c d f g = refl
    by_integer t.Uint64 e a b c d f g = refl
    by_integer t.Text e a b c d f g = absurd (b (rolled type t.Text ty.Text e ty.outs-Text))
    by_integer t.Bytes e a b c d f g = absurd (c (rolled type t.Bytes ty.Bytes e ty.outs-Bytes))
    by_integer t.Date e a b c d f g = absurd (d (rolled type t.Date ty.Date e ty.outs-Date))
    by_integer (t.Array element) e a b c d f g = absurd (f element (rolled type (t.Array element) (ty.Array element) e (ty.outs-Array element)))
    by_integer (t.Struct fields) e a b c d f g = absurd (g fields (rolled type (t.Struct fields) (ty.Struct fields) e (ty.outs-Struct fields)))

    pub at_integer : false ≡ comes (reserved r.Null) ts → (type ≡ ty.Bool → ⊥) → (type ≡ ty.Text → ⊥) → (type ≡ ty.Bytes → ⊥) → (type ≡ ty.Date → ⊥) → ((element : SqlType) → type ≡ ty.Array element → ⊥)
        → ((fields : List (Named SqlType)) → type ≡ ty.Struct fields → ⊥) → constant_at turns type ts ≡ signed (integer_value (out-SqlType type)) ts
    at_integer h a b c d f g = at_form h (out-SqlType type) refl ∙ ap (λ (p : Parser Value). p ts) (by_integer (out-SqlType type) refl a b c d f g)
