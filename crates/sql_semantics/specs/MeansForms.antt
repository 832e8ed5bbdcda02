-- What the forms of expressions mean, over what their parts mean.
use Rattle.std.specs.Prelude.{ℕ, suc, ℤ, pos, Bool, true, false, if◌then◌else◌, List, [], ◌∷◌, map, slice_get, slice_index_or, replicate, Option, None, Some, Ok, Err}
use Rattle.sql_types.specs.declared.fault.FaultKind.{FaultKind}
use Rattle.sql_types.specs.declared.fault.FaultKind.TheVariants as fault
use Rattle.sql_types.specs.declared.sql_type.Named.{Named}
use Rattle.sql_types.specs.declared.sql_type.SqlType.{SqlType, out-SqlType}
use Rattle.sql_types.specs.declared.sql_type.SqlType.TheVariants as ty
use Rattle.sql_types.specs.declared.sql_type.SqlType.TheOpen as t
use Rattle.sql_types.specs.declared.value.Value.{Value, out-Value}
use Rattle.sql_types.specs.declared.value.Value.TheVariants as value
use Rattle.sql_types.specs.declared.value.Value.TheOpen as v
use Rattle.sql_types.specs.Before.{is_null}
use Rattle.sql_types.specs.Same.{equal}
use Rattle.sql_types.specs.Logic.{opposite, any_true, truth_of, of_truth, Decided}
use Rattle.sql_types.specs.Outcome.{Outcome, Meaning, gives, just, nothing, ◌>>=◌, Gather}
use Rattle.sql_types.specs.Takes.{number, elements}
use Rattle.sql_ast.specs.declared.expr.IndexForm.{IndexForm}
use Rattle.sql_ast.specs.declared.expr.IndexForm.TheVariants as form
use Rattle.sql_coerce.specs.declared.arg.Arg.{Arg}
use Rattle.sql_coerce.specs.Casts.{converted}
use Rattle.sql_builtins.specs.declared.choice.Choice.{Choice}
use Rattle.sql_builtins.specs.declared.sig.SigId.{SigId}
use Rattle.sql_builtins.specs.declared.sig.SigId.TheVariants as sig
use Rattle.sql_builtins.specs.Choices.{chosen}
use Rattle.sql_builtins.specs.Applies.{apply}
use Rattle.sql_numbers.specs.Integers.{or_null}
use Rattle.sql_semantics.specs.TypeForms.{other_arg, type_of, has_label}
use Rattle.sql_forms.specs.Conditions.{Caught, Tried, first_not_null, is_true, pick}
use Rattle.sql_forms.specs.Subscripts.{field_layer}

-- what an operand means, and how it is typed
pub record Operand : Type 1 where
  pub means : Meaning Value
  pub arg : Arg

-- ---- conversions; that of an argument to its row's type is part of the argument

abbrev pub converted_to : SqlType → Operand → Meaning Value
converted_to to x = x.means >>= (λ value. just (converted (type_of x.arg) to value))

abbrev pub converted_each : List SqlType → List Operand → List (Meaning Value)
converted_each [] xs = []
converted_each (type ∷ types) [] = []
converted_each (type ∷ types) (x ∷ xs) = converted_to type x ∷ converted_each types xs

-- all to one type
abbrev pub all_converted : SqlType → List Operand → List (Meaning Value)
all_converted type [] = []
all_converted type (x ∷ xs) = converted_to type x ∷ all_converted type xs

abbrev pub args_of : List Operand → List Arg
args_of [] = []
args_of (x ∷ xs) = x.arg ∷ args_of xs

-- ---- choices among meanings

-- IF: the test, and then what it chooses
abbrev pub if_means : List (Meaning Value) → Meaning Value
if_means [] = nothing
if_means (test ∷ []) = nothing
if_means (test ∷ x ∷ []) = nothing
if_means (test ∷ x ∷ y ∷ more) = test >>= (λ b. pick (is_true b) x y)

abbrev pub caught_by : List (Meaning Value) → Meaning Value
caught_by [] = nothing
caught_by (x ∷ []) = Caught x (gives value.Null)
caught_by (x ∷ y ∷ more) = Caught x y

abbrev pub tried : List (Meaning Value) → Meaning Value
tried [] = nothing
tried (x ∷ xs) = Tried x

-- ---- signatures

-- A row over its converted arguments: conditionals evaluate only what is chosen, and every other row gathers its arguments
-- and is applied.
abbrev pub row_means : SigId → List (Meaning Value) → Meaning Value
row_means sig.If ms = if_means ms
row_means sig.IfNull ms = first_not_null ms
row_means sig.Coalesce ms = first_not_null ms
row_means sig.IfError ms = caught_by ms
row_means sig.NullIfError ms = caught_by ms
row_means sig.IsError ms = tried ms
row_means row ms = Gather ms >>= (λ xs. just (apply row xs))

abbrev pub choice_means : Option Choice → List Operand → Meaning Value
choice_means None xs = nothing
choice_means (Some choice) xs = row_means choice.sig (converted_each choice.targets xs)

-- an operator, or a function of the language, over its operands
abbrev pub operator_means : List ℕ → List Operand → Meaning Value
operator_means name xs = choice_means (chosen name (args_of xs)) xs

abbrev pub choice_arg : Option Choice → Arg
choice_arg None = other_arg ty.Int64
choice_arg (Some choice) = other_arg choice.gives

abbrev pub operator_operand : List ℕ → List Operand → Operand
operator_operand name xs = record { means = operator_means name xs; arg = choice_arg (chosen name (args_of xs)) }

-- SAFE.f: NULL where the function faults, after its arguments gave values
abbrev pub safe_means : Option Choice → List Operand → Meaning Value
safe_means None xs = nothing
safe_means (Some choice) xs = Gather (converted_each choice.targets xs) >>= (λ values. just (or_null (apply choice.sig values)))

-- ---- logic

-- `IS NOT` and `NOT` before LIKE, BETWEEN and IN negate the result
abbrev pub negated_means : Bool → Meaning Value → Meaning Value
negated_means false m = m
negated_means true m = m >>= (λ x. gives (of_truth (opposite (truth_of x))))

-- ---- subqueries

-- NULL for no row, the value for one, and a fault for more
abbrev pub single : List (List Value) → Outcome Value
single [] = Ok value.Null
single (row ∷ []) = Ok (slice_index_or row 0 value.Null)
single (row ∷ another ∷ rows) = Err fault.ScalarRows

-- the values of the one column
abbrev pub column_values : List (List Value) → List Value
column_values rows = map (λ row. slice_index_or row 0 value.Null) rows

-- ---- fields and subscripts

-- the place of the field of a name, counted from a number
abbrev pub field_place : ℕ → List ℕ → List (Named SqlType) → ℕ
field_place at name [] = at
field_place at name (f ∷ fields) = if has_label name f.name then at else field_place (suc at) name fields

abbrev pub fields_of : t.SqlType-F SqlType → List (Named SqlType)
fields_of (t.Struct fields) = fields
fields_of _ = []

abbrev pub field_value : List ℕ → SqlType → Value → Value
field_value name type x = field_layer (field_place 0 name (fields_of (out-SqlType type))) (out-Value x)

-- the fields of a STRUCT, as many as its type has; those of NULL are NULL
abbrev pub field_values : ℕ → v.Value-F Value → List Value
field_values count (v.Struct xs) = xs
field_values count _ = replicate count value.Null
