-- The typing rules of expressions, one for each form, over parts that are typed already.
use Rattle.std.specs.Prelude.{ℕ, pos, ◌==◌, nat_lt, Bool, true, false, not, ◌&&◌, if◌then◌else◌, List, [], ◌∷◌, codes, Option, None, Some, Ok}
use Rattle.sql_types.specs.declared.sql_type.Named.{Named}
use Rattle.sql_types.specs.declared.sql_type.SqlType.{SqlType, out-SqlType}
use Rattle.sql_types.specs.declared.sql_type.SqlType.TheVariants as ty
use Rattle.sql_types.specs.declared.sql_type.SqlType.TheOpen as t
use Rattle.sql_types.specs.declared.value.Value.{Value}
use Rattle.sql_types.specs.declared.value.Value.TheVariants as value
use Rattle.sql_types.specs.Comparable.{comparable}
use Rattle.sql_types.specs.Calendar.{read_date}
use Rattle.sql_names.specs.Words.{same_name}
use Rattle.sql_ast.specs.declared.clauses.Name.{Name}
use Rattle.sql_ast.specs.declared.expr.Operator.{Operator}
use Rattle.sql_ast.specs.declared.expr.Operator.TheVariants as operator
use Rattle.sql_ast.specs.declared.expr.Signed.{Signed}
use Rattle.sql_ast.specs.declared.expr.Signed.TheVariants as signed
use Rattle.sql_ast.specs.declared.expr.Prefix.{Prefix}
use Rattle.sql_ast.specs.declared.expr.Comparison.{Comparison}
use Rattle.sql_ast.specs.declared.expr.Comparison.TheVariants as comparison
use Rattle.sql_ast.specs.declared.expr.IsTest.{IsTest}
use Rattle.sql_ast.specs.declared.expr.IsTest.TheVariants as test
use Rattle.sql_coerce.specs.declared.arg.Arg.{Arg}
use Rattle.sql_coerce.specs.declared.arg.Kind.{Kind}
use Rattle.sql_coerce.specs.declared.arg.Kind.TheVariants as kind
use Rattle.sql_coerce.specs.Supertypes.{supertype}
use Rattle.sql_coerce.specs.Casts.{castable}
use Rattle.sql_builtins.specs.declared.choice.Choice.{Choice}
use Rattle.sql_builtins.specs.Choices.{chosen, coerces_by, own_type}
use Rattle.written_types.specs.Checks.{Checked, ◌>>=◌, broken, unless}
use Rattle.written_types.specs.TypeNames.{is_array}

-- ---- kinds

abbrev pub literal : SqlType → Value → Checked Arg
literal type x = Ok (record { ty = Some type; kind = kind.Literal x })

-- an expression that is neither a literal, a parameter nor untyped
abbrev pub other_arg : SqlType → Arg
other_arg type = record { ty = Some type; kind = kind.Other }

abbrev pub other : SqlType → Checked Arg
other type = Ok (other_arg type)

-- NULL and a call of ERROR
abbrev pub untyped : Checked Arg
untyped = Ok (record { ty = None; kind = kind.Untyped })

-- an untyped `[]`
abbrev pub empty_array : Checked Arg
empty_array = Ok (record { ty = Some (ty.Array ty.Int64); kind = kind.Untyped })

-- the type of an expression; an untyped one that nothing else decides is INT64, or ARRAY<INT64> for `[]`
abbrev pub type_of : Arg → SqlType
type_of a = own_type a.ty

abbrev pub coerces_to : Arg → SqlType → Bool
coerces_to a to = coerces_by a.ty a.kind to

-- an expression of a type that is needed (rule 11 at the expression)
abbrev pub needed : SqlType → ℕ → Arg → Checked (Unit {0})
needed type place a = unless (not (coerces_to a type)) 11 place

-- a condition is BOOL
abbrev pub condition : ℕ → Arg → Checked (Unit {0})
condition place a = needed ty.Bool place a

-- ---- literals

-- an integer literal is INT64 where it fits, and else UINT64
abbrev pub integer_type : ℕ → SqlType
integer_type n = if nat_lt n 9223372036854775808 then ty.Int64 else ty.Uint64

abbrev pub integer_value : ℕ → Value
integer_value n = if nat_lt n 9223372036854775808 then value.Int (pos n) else value.Uint n

-- the text of a DATE literal is a date (rule 30 at the literal)
abbrev pub date_literal : ℕ → List ℕ → Checked Arg
date_literal place text = elim (read_date text) [ None ↦ broken 30 place | Some day ↦ literal ty.Date (value.Date day) ]

-- ---- operators, by their rows in the signature table

abbrev pub gives_of : ℕ → Option Choice → Checked Arg
gives_of place None = broken 9 place
gives_of place (Some choice) = other choice.gives

-- no signature applies: rule 9 at the operator
abbrev pub operator_type : List ℕ → ℕ → List Arg → Checked Arg
operator_type name place arguments = gives_of place (chosen name arguments)

abbrev pub operator_name : Operator → List ℕ
operator_name operator.Or = codes "OR"
operator_name operator.And = codes "AND"
operator_name operator.BitOr = codes "|"
operator_name operator.BitXor = codes "^"
operator_name operator.BitAnd = codes "&"
operator_name operator.ShiftLeft = codes "<<"
operator_name operator.ShiftRight = codes ">>"
operator_name operator.Add = codes "+"
operator_name operator.Subtract = codes "-"
operator_name operator.Multiply = codes "*"
operator_name operator.Concat = codes "||"

abbrev pub prefix_name : Signed → List ℕ
prefix_name signed.Plus = codes "+"
prefix_name signed.Minus = codes "-"
prefix_name signed.Flip = codes "~"

abbrev pub comparison_name : Comparison → List ℕ
comparison_name comparison.Equal = codes "="
comparison_name comparison.NotEqual = codes "!="
comparison_name comparison.Less = codes "<"
comparison_name comparison.LessEqual = codes "<="
comparison_name comparison.Greater = codes ">"
comparison_name comparison.GreaterEqual = codes ">="

abbrev pub test_name : IsTest → List ℕ
test_name test.Null = codes "IS NULL"
test_name test.True = codes "IS TRUE"
test_name test.False = codes "IS FALSE"

-- NOTs from the inside out
abbrev pub not_type : List ℕ → Arg → Checked Arg
not_type [] a = Ok a
not_type (place ∷ places) a = not_type places a >>= (λ b. operator_type (codes "NOT") place (b ∷ []))

abbrev pub is_minus : Signed → Bool
is_minus signed.Minus = true
is_minus _ = false

-- the integer literal whose negative is the least INT64
abbrev pub is_least : Option ℕ → Bool
is_least None = false
is_least (Some n) = n == 9223372036854775808

-- Prefixes from the inside out. A minus directly before the integer literal 9223372036854775808 gives the least INT64.
abbrev pub prefix_type : Option ℕ → List Prefix → Arg → Checked Arg
prefix_type integer [] a = Ok a
prefix_type integer (p ∷ []) a =
    if is_least integer && is_minus p.operator then other ty.Int64 else operator_type (prefix_name p.operator) p.place (a ∷ [])
prefix_type integer (p ∷ q ∷ prefixes) a = prefix_type integer (q ∷ prefixes) a >>= (λ b. operator_type (prefix_name p.operator) p.place (b ∷ []))

-- ---- IN, CASE and USING compare values in their supertype

-- the type in which these are compared: their supertype (rule 10), which is comparable (rule 9)
abbrev pub comparable_type : ℕ → SqlType → Checked SqlType
comparable_type place type = if comparable type then Ok type else broken 9 place

abbrev pub common_type : ℕ → Option SqlType → Checked SqlType
common_type place None = broken 10 place
common_type place (Some type) = Ok type

abbrev pub compared_type : ℕ → List Arg → Checked SqlType
compared_type place arguments = common_type place (supertype arguments) >>= comparable_type place

-- the element type of an array (rule 19 at the expression)
abbrev pub element_layer : t.SqlType-F SqlType → Option SqlType
element_layer (t.Array element) = Some element
element_layer _ = None

abbrev pub element_or : ℕ → Option SqlType → Checked SqlType
element_or place None = broken 19 place
element_or place (Some element) = Ok element

abbrev pub element_of : ℕ → SqlType → Checked SqlType
element_of place type = element_or place (element_layer (out-SqlType type))

-- ---- fields

abbrev pub has_label : List ℕ → Option (List ℕ) → Bool
has_label name None = false
has_label name (Some own) = same_name own name

-- the types of the fields of a name
abbrev pub fields_named : List ℕ → List (Named SqlType) → List SqlType
fields_named name [] = []
fields_named name (f ∷ fields) = if has_label name f.name then f.ty ∷ fields_named name fields else fields_named name fields

-- no such field is rule 6, and a name that occurs twice is rule 4, both at the field
abbrev pub one_field : ℕ → List SqlType → Checked SqlType
one_field place [] = broken 6 place
one_field place (type ∷ []) = Ok type
one_field place (type ∷ another ∷ more) = broken 4 place

abbrev pub field_layer : Name → t.SqlType-F SqlType → Checked SqlType
field_layer name (t.Struct fields) = one_field name.place (fields_named name.text fields)
-- a value without fields
field_layer name _ = broken 6 name.place

abbrev pub field_type : Name → SqlType → Checked SqlType
field_type name type = field_layer name (out-SqlType type)

-- ---- casts

-- an untyped expression casts to what it coerces to, and every other as the cast table says (rule 12 at CAST)
abbrev pub can_cast : Option SqlType → Kind → SqlType → Bool
can_cast None kind to = true
can_cast (Some from) kind.Untyped to = coerces_by (Some from) kind.Untyped to
can_cast (Some from) kind to = castable from to

abbrev pub cast_type : ℕ → SqlType → Arg → Checked Arg
cast_type place to a = if can_cast a.ty a.kind to then other to else broken 12 place

-- ---- arrays and STRUCTs

-- an array of arrays is rule 21 at the whole expression
abbrev pub array_of : ℕ → SqlType → Checked SqlType
array_of place element = if is_array (out-SqlType element) then broken 21 place else Ok (ty.Array element)

-- `[..]` without a written type: the supertype of its elements (rule 10 at the bracket)
abbrev pub array_literal : ℕ → ℕ → List Arg → Checked Arg
array_literal place open_place [] = empty_array
array_literal place open_place (a ∷ arguments) = common_type open_place (supertype (a ∷ arguments)) >>= (λ element. array_of place element >>= other)

-- the fields of a STRUCT, by their names and types
abbrev pub struct_fields : List (Option (List ℕ)) → List Arg → List (Named SqlType)
struct_fields names [] = []
struct_fields [] (a ∷ arguments) = record { name = None; ty = type_of a } ∷ struct_fields [] arguments
struct_fields (name ∷ names) (a ∷ arguments) = record { name = name; ty = type_of a } ∷ struct_fields names arguments

-- ---- one column

-- a scalar, ARRAY or IN subquery has one column (rule 18 at the bracket)
abbrev pub one_column : ℕ → List (Named SqlType) → Checked SqlType
one_column place [] = broken 18 place
one_column place (c ∷ []) = Ok c.ty
one_column place (c ∷ d ∷ columns) = broken 18 place
