-- When two values are the same, and when they are equal.
use Rattle.std.specs.Prelude.{◌≡◌, Bool, true, false, ◌==◌, ◌&&◌, int_le, List, [], ◌∷◌, Option, Some, None}
use Rattle.std.specs.Str.{bytes_eq}
use Rattle.sql_types.specs.declared.value.Value.{Value, out-Value, fold-Value}
use Rattle.sql_types.specs.declared.value.Value.TheOpen as v

-- identity of values: NULL is the same as NULL
abbrev pub Same : Value → Value → Type 0
Same x y = x ≡ y

-- three-valued AND of two truth values, NULL written None: FALSE beside anything is FALSE
abbrev pub both_true : Option Bool → Option Bool → Option Bool
both_true (Some true) other = other
both_true (Some false) other = Some false
both_true None (Some false) = Some false
both_true None (Some true) = None
both_true None None = None

-- AND over the fields of two STRUCTs; the left fields are given by what equals them
abbrev pub equal_fields : List (Value → Option Bool) → List Value → Option Bool
equal_fields [] [] = Some true
equal_fields [] (y ∷ ys) = None
equal_fields (f ∷ fs) [] = None
equal_fields (f ∷ fs) (y ∷ ys) = both_true (f y) (equal_fields fs ys)

-- the parts of the left value are given by what equals them
abbrev pub equal_layer : v.Value-F (Value → Option Bool) → v.Value-F Value → Option Bool
equal_layer (v.Bool true) (v.Bool b) = Some b
equal_layer (v.Bool false) (v.Bool true) = Some false
equal_layer (v.Bool false) (v.Bool false) = Some true
equal_layer (v.Int a) (v.Int b) = Some (int_le a b && int_le b a)
equal_layer (v.Uint a) (v.Uint b) = Some (a == b)
equal_layer (v.Text a) (v.Text b) = Some (bytes_eq a b)
equal_layer (v.Bytes a) (v.Bytes b) = Some (bytes_eq a b)
equal_layer (v.Date a) (v.Date b) = Some (int_le a b && int_le b a)
-- by AND over the fields
equal_layer (v.Struct fs) (v.Struct ys) = equal_fields fs ys
-- NULL beside anything is NULL; arrays aren't compared
equal_layer _ _ = None

-- whether two values are equal: TRUE, FALSE or NULL, which is None
unfoldable pub equal : Value → Value → Option Bool
equal = fold-Value (Value → Option Bool) (λ x y. equal_layer x (out-Value y))

-- three-valued equality
abbrev pub Equal : Value → Value → Option Bool → Type 0
Equal x y answer = equal x y ≡ answer
