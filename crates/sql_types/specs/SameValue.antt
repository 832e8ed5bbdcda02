-- Whether two values are the same, as a test.
use Rattle.std.specs.Prelude.{Bool, true, false, ◌==◌, ◌&&◌, List, [], ◌∷◌}
use Rattle.std.specs.Bool.{beq}
use Rattle.std.specs.Ordering.{int_eq}
use Rattle.std.specs.Str.{bytes_eq}
use Rattle.sql_types.specs.declared.value.Value.{Value, out-Value, fold-Value}
use Rattle.sql_types.specs.declared.value.Value.TheOpen as v

-- as many values, each the same; the left values are given by which values are the same as they
abbrev pub same_parts : List (Value → Bool) → List Value → Bool
same_parts [] [] = true
same_parts [] (y ∷ ys) = false
same_parts (f ∷ fs) [] = false
same_parts (f ∷ fs) (y ∷ ys) = f y && same_parts fs ys

-- the parts of the left value are given by which values are the same as they
abbrev pub same_layer : v.Value-F (Value → Bool) → v.Value-F Value → Bool
same_layer v.Null v.Null = true
same_layer (v.Bool a) (v.Bool b) = beq a b
same_layer (v.Int a) (v.Int b) = int_eq a b
same_layer (v.Uint a) (v.Uint b) = a == b
same_layer (v.Text a) (v.Text b) = bytes_eq a b
same_layer (v.Bytes a) (v.Bytes b) = bytes_eq a b
same_layer (v.Date a) (v.Date b) = int_eq a b
same_layer (v.Array xs) (v.Array ys) = same_parts xs ys
same_layer (v.Struct xs) (v.Struct ys) = same_parts xs ys
same_layer _ _ = false

unfoldable pub same_value : Value → Value → Bool
same_value = fold-Value (Value → Bool) (λ x y. same_layer x (out-Value y))

-- of two rows, or lists of keys
abbrev pub same_values : List Value → List Value → Bool
same_values [] [] = true
same_values [] (y ∷ ys) = false
same_values (x ∷ xs) [] = false
same_values (x ∷ xs) (y ∷ ys) = same_value x y && same_values xs ys
