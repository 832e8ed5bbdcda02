-- Coercions to an ARRAY, by the type of the argument.
use Rattle.std.proofs.Common.{◌≡◌, Bool, true, false, cond, Option, Some, None, refl, ap, sym, ◌∙◌}
use Rattle.std.specs.Prelude.{◌||◌}
use Rattle.sql_types.specs.declared.sql_type.SqlType.{SqlType, out-SqlType}
use Rattle.sql_types.specs.declared.sql_type.SqlType.TheOpen as t
use Rattle.sql_types.specs.declared.sql_type.SqlType.TheVariants as ty
use Rattle.sql_types.specs.declared.value.Value.{Value, out-Value}
use Rattle.sql_types.specs.declared.value.Value.TheOpen as v
use Rattle.sql_types.specs.SameType.{same_type}
use Rattle.sql_types.proofs.TypeOpens.{same_opens, same_at}
use Rattle.sql_coerce.specs.declared.arg.Kind.{Kind}
use Rattle.sql_coerce.specs.declared.arg.Kind.TheVariants as kind
use Rattle.sql_coerce.specs.Coercions.{coerces, other_coerces, literal_layer, parameter_layer, untyped_layer}
use Rattle.sql_coerce.proofs.Levels.{other_coerces_level, other_at}
use Rattle.sql_builtins.specs.declared.coercion.Coercion.{Coercion}
use Rattle.sql_builtins.specs.declared.coercion.Coercion.TheVariants.{Free, OfLiteral, OfOther}
use Rattle.sql_builtins.specs.Steps.{coercion_by, array_coercion, charged}

untyped_by : (x : t.SqlType-F SqlType) (e : SqlType) → untyped_layer x (t.Array e) ≡ true
untyped_by (t.Array own) e = refl
untyped_by _ e = refl

-- an untyped argument has a coercion to every ARRAY
pub untyped_array : (from e : SqlType) → coercion_by (Some from) kind.Untyped (ty.Array e) ≡ Some Free
untyped_array from e =
    ap (λ (b : Bool). cond b (Some Free) None) (ap (λ l. untyped_layer (out-SqlType from) l) (ty.outs-Array e) ∙ untyped_by (out-SqlType from) e)

no_literal : (x : t.SqlType-F SqlType) (value : v.Value-F Value) (e : SqlType) → literal_layer x value (t.Array e) ≡ false
no_literal t.Int64 (v.Int n) e = refl
no_literal t.Text (v.Text text) e = refl
no_literal _ _ e = refl

no_parameter : (x : t.SqlType-F SqlType) (e : SqlType) → parameter_layer x (t.Array e) ≡ false
no_parameter t.Text e = refl
no_parameter _ e = refl

or-false : (b : Bool) → (b || false) ≡ b
or-false true = refl
or-false false = refl

other : (from e : SqlType) → other_coerces from (ty.Array e) ≡ other_at (out-SqlType from) (t.Array e)
other from e = other_coerces_level from (ty.Array e) ∙ ap (other_at (out-SqlType from)) (ty.outs-Array e)

-- what a type without a literal's or a parameter's leave coerces to
typed_coerces : (from e : SqlType) (k : Kind) → (k ≡ kind.Untyped → ⊥) → coerces from k (ty.Array e) ≡ other_at (out-SqlType from) (t.Array e)
typed_coerces from e (kind.Literal value) not =
    ap (λ b. b || literal_layer (out-SqlType from) (out-Value value) (out-SqlType (ty.Array e))) (other from e)
    ∙ ap (λ l. other_at (out-SqlType from) (t.Array e) || literal_layer (out-SqlType from) (out-Value value) l) (ty.outs-Array e)
    ∙ ap (λ b. other_at (out-SqlType from) (t.Array e) || b) (no_literal (out-SqlType from) (out-Value value) e)
    ∙ or-false (other_at (out-SqlType from) (t.Array e))
typed_coerces from e kind.Parameter not =
    ap (λ b. b || parameter_layer (out-SqlType from) (out-SqlType (ty.Array e))) (other from e)
    ∙ ap (λ l. other_at (out-SqlType from) (t.Array e) || parameter_layer (out-SqlType from) l) (ty.outs-Array e)
    ∙ ap (λ b. other_at (out-SqlType from) (t.Array e) || b) (no_parameter (out-SqlType from) e)
    ∙ or-false (other_at (out-SqlType from) (t.Array e))
typed_coerces from e kind.Untyped not = absurd (not refl)
typed_coerces from e kind.Other not = other from e

same : (from e : SqlType) → same_type from (ty.Array e) ≡ same_at (out-SqlType from) (t.Array e)
same from e = same_opens from (ty.Array e) ∙ ap (same_at (out-SqlType from)) (ty.outs-Array e)

-- how the coercion counts, where there is one
typed_charge : (from e : SqlType) (k : Kind) → same_type from (ty.Array e) ≡ true → charged from k (ty.Array e) ≡ Free
typed_charge from e (kind.Literal value) is = ap (λ (b : Bool). cond b Free OfLiteral) is
typed_charge from e kind.Parameter is = ap (λ (b : Bool). cond b Free OfOther) is
typed_charge from e kind.Untyped is = refl
typed_charge from e kind.Other is = ap (λ (b : Bool). cond b Free OfOther) is

by_test : (b : Bool) (c : Coercion) → (b ≡ true → c ≡ Free) → cond b (Some c) None ≡ cond b (Some Free) None
by_test true c free = ap Some (free refl)
by_test false c free = refl

by_layer : (x : t.SqlType-F SqlType) (e : SqlType) (c : Coercion) → (same_at x (t.Array e) ≡ true → c ≡ Free) → cond (other_at x (t.Array e)) (Some c) None ≡ array_coercion x e
by_layer (t.Array own) e c free = by_test (same_type own e) c free
by_layer t.Bool e c free = refl
by_layer _ e c free = refl

-- a typed argument that isn't untyped
pub typed_array : (from e : SqlType) (k : Kind) → (k ≡ kind.Untyped → ⊥) → coercion_by (Some from) k (ty.Array e) ≡ array_coercion (out-SqlType from) e
typed_array from e k not =
    ap (λ (b : Bool). cond b (Some (charged from k (ty.Array e))) None) (typed_coerces from e k not)
    ∙ by_layer (out-SqlType from) e (charged from k (ty.Array e)) (λ is. typed_charge from e k (same from e ∙ is))

pub untyped_argument : (own : Option SqlType) (k : Kind) (from e : SqlType) → own ≡ Some from → k ≡ kind.Untyped → Some Free ≡ coercion_by own k (ty.Array e)
untyped_argument own k from e has is =
    sym (ap (λ (o : Option SqlType). coercion_by o k (ty.Array e)) has ∙ ap (λ (j : Kind). coercion_by (Some from) j (ty.Array e)) is ∙ untyped_array from e)

pub typed_argument : (own : Option SqlType) (k : Kind) (from e : SqlType) → own ≡ Some from → (k ≡ kind.Untyped → ⊥) → array_coercion (out-SqlType from) e ≡ coercion_by own k (ty.Array e)
typed_argument own k from e has not = sym (ap (λ (o : Option SqlType). coercion_by o k (ty.Array e)) has ∙ typed_array from e k not)
