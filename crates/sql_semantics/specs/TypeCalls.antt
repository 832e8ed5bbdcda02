-- The typing of calls: functions of the language, and functions of the catalog.
use Rattle.std.specs.Prelude.{ℕ, ◌==◌, Bool, true, false, not, ◌&&◌, ◌||◌, is_some, if◌then◌else◌, List, [], ◌∷◌, slice_get, codes, Option, None, Some, option_and_then, Ok, Err}
use Rattle.std.specs.List.{list_any}
use Rattle.std.specs.Str.{str_to_ascii_uppercase}
use Rattle.sql_types.specs.declared.sql_type.Named.{Named}
use Rattle.sql_types.specs.declared.sql_type.SqlType.{SqlType}
use Rattle.sql_types.specs.declared.sql_type.SqlType.TheVariants as ty
use Rattle.sql_types.specs.declared.value.Value.TheVariants as value
use Rattle.sql_names.specs.Words.{same_name}
use Rattle.sql_ast.specs.declared.clauses.Name.{Name}
use Rattle.sql_ast.specs.declared.clauses.NullsPart.{NullsPart}
use Rattle.sql_ast.specs.declared.clauses.Sort.{Sort}
use Rattle.sql_coerce.specs.declared.arg.Arg.{Arg}
use Rattle.sql_coerce.specs.declared.arg.Kind.TheVariants as kind
use Rattle.sql_builtins.specs.declared.choice.Choice.{Choice}
use Rattle.sql_builtins.specs.declared.sig.SigId.{SigId}
use Rattle.sql_builtins.specs.declared.sig.SigId.TheVariants as sig
use Rattle.sql_builtins.specs.Table.{functions}
use Rattle.sql_builtins.specs.Choices.{chosen}
use Rattle.written_types.specs.Checks.{Checked, ◌>>=◌, broken, unless}
use Rattle.sql_semantics.specs.TypeForms.{other, untyped, type_of, coerces_to}

-- ---- arguments as they are written

-- What stands as an argument: an expression, which may be a single name, or `INTERVAL amount part`.
pub data Written : Type 0 where
  -- its place, its type, and the name where it is a single one
  expression : ℕ → Arg → Option (List ℕ) → Written
  -- the amount, and the part with its place
  interval : Arg → List ℕ → ℕ → Written

-- a date part is the STRING of its upper-case name
abbrev pub part_arg : List ℕ → Arg
part_arg name = record { ty = Some ty.Text; kind = kind.Literal (value.Text (str_to_ascii_uppercase name)) }

-- ---- functions of the language

-- the operators that are words, which no call names; EXTRACT has a form of its own
abbrev pub words : List (List ℕ)
words = codes "NOT" ∷ codes "AND" ∷ codes "OR" ∷ codes "LIKE" ∷ codes "BETWEEN" ∷ codes "EXTRACT" ∷ []

abbrev pub is_letter : ℕ → Bool
is_letter c = list_any (λ d. c == d) (codes "ABCDEFGHIJKLMNOPQRSTUVWXYZ_0123456789")

abbrev pub all_letters : List ℕ → Bool
all_letters [] = true
all_letters (c ∷ cs) = is_letter c && all_letters cs

-- the functions that take nothing but a lambda; a call of them without one has no signature
abbrev pub lambda_functions : List (List ℕ)
lambda_functions = codes "ARRAY_FILTER" ∷ codes "ARRAY_TRANSFORM" ∷ []

-- a name of the signature table that a call may name: operators that are signs or several words aren't
abbrev pub is_function_name : List ℕ → Bool
is_function_name name =
    (list_any (λ row. same_name row.name name) functions || list_any (same_name name) lambda_functions)
    && all_letters (str_to_ascii_uppercase name) && not (list_any (same_name name) words)

-- the functions that choose or catch, which SAFE doesn't take
abbrev pub special : List (List ℕ)
special = codes "IF" ∷ codes "IFNULL" ∷ codes "COALESCE" ∷ codes "IFERROR" ∷ codes "NULLIFERROR" ∷ codes "ISERROR" ∷ []

abbrev pub is_plain : List ℕ → Bool
is_plain name = is_function_name name && not (list_any (same_name name) special)

-- which argument of a function is a date part, from 0
abbrev pub part_place : List ℕ → Option ℕ
part_place name =
    if same_name name (codes "DATE_TRUNC") then Some 1 else
    if same_name name (codes "DATE_DIFF") then Some 2 else None

-- the functions whose second argument is an INTERVAL
abbrev pub takes_interval : List ℕ → Bool
takes_interval name = same_name name (codes "DATE_ADD") || same_name name (codes "DATE_SUB")

-- the arguments in order, an INTERVAL as its amount and its part
abbrev pub args_of : List Written → List Arg
args_of [] = []
args_of (expression place a name ∷ more) = a ∷ args_of more
args_of (interval amount part place ∷ more) = amount ∷ part_arg part ∷ args_of more

-- only DATE_ADD and DATE_SUB take an INTERVAL, and they take it second
abbrev pub intervals_fit : Bool → List Written → Bool
intervals_fit true (expression place a name ∷ interval amount part part_place ∷ []) = true
intervals_fit true _ = false
intervals_fit false [] = true
intervals_fit false (expression place a name ∷ more) = intervals_fit false more
intervals_fit false (interval amount part place ∷ more) = false

-- the parts of DATE_ADD, DATE_SUB, DATE_DIFF and DATE_TRUNC, and those of EXTRACT
abbrev pub date_parts : List (List ℕ)
date_parts = codes "DAY" ∷ codes "WEEK" ∷ codes "MONTH" ∷ codes "QUARTER" ∷ codes "YEAR" ∷ []

abbrev pub extract_parts : List (List ℕ)
extract_parts = codes "DAY" ∷ codes "MONTH" ∷ codes "QUARTER" ∷ codes "YEAR" ∷ codes "DAYOFWEEK" ∷ codes "DAYOFYEAR" ∷ []

-- a part that isn't of the function's parts is rule 22 at the part, after the row is chosen
abbrev pub known_part : List (List ℕ) → ℕ → List ℕ → Checked (Unit {0})
known_part parts place name = unless (not (list_any (same_name name) parts)) 22 place

abbrev pub part_at : Option Written → Checked (Unit {0})
part_at (Some (expression place a (Some name))) = known_part date_parts place name
-- a part is written as a single name
part_at (Some (expression place a None)) = broken 22 place
part_at (Some (interval amount part place)) = Ok tt
part_at None = Ok tt

abbrev pub interval_parts : List Written → Checked (Unit {0})
interval_parts [] = Ok tt
interval_parts (expression place a name ∷ more) = interval_parts more
interval_parts (interval amount part place ∷ more) = known_part date_parts place part >>= (λ _. interval_parts more)

abbrev pub parts_fit : Option ℕ → List Written → Checked (Unit {0})
parts_fit None arguments = interval_parts arguments
parts_fit (Some place) arguments = part_at (slice_get arguments place)

-- ERROR gives no type of its own
abbrev pub is_error : SigId → Bool
is_error sig.Error = true
is_error _ = false

abbrev pub choice_type : Choice → Checked Arg
choice_type choice = if is_error choice.sig then untyped else other choice.gives

-- no signature applies: rule 9 at the call
abbrev pub chosen_type : ℕ → List ℕ → List Written → Option Choice → Checked Arg
chosen_type place name arguments None = broken 9 place
chosen_type place name arguments (Some choice) = parts_fit (part_place name) arguments >>= (λ _. choice_type choice)

-- a function of the language over its arguments; what is no argument of it is rule 9 at the call
abbrev pub function_type : ℕ → List ℕ → List Written → Checked Arg
function_type place name arguments =
    if intervals_fit (takes_interval name) arguments then chosen_type place name arguments (chosen name (args_of arguments)) else broken 9 place

-- ---- functions of the catalog

-- each argument coerces to its type; one of ANY TYPE has its own
abbrev pub arguments_fit : List (Option SqlType) → List Arg → Bool
arguments_fit [] [] = true
arguments_fit [] (a ∷ arguments) = false
arguments_fit (type ∷ types) [] = false
arguments_fit (None ∷ types) (a ∷ arguments) = arguments_fit types arguments
arguments_fit (Some type ∷ types) (a ∷ arguments) = coerces_to a type && arguments_fit types arguments

-- the types that the arguments have in the body
abbrev pub argument_types : List (Option SqlType) → List Arg → List SqlType
argument_types [] arguments = []
argument_types (type ∷ types) [] = []
argument_types (None ∷ types) (a ∷ arguments) = type_of a ∷ argument_types types arguments
argument_types (Some type ∷ types) (a ∷ arguments) = type ∷ argument_types types arguments

-- a body that has no type with these arguments is rule 24 at the call
abbrev pub body_type : ℕ → Checked SqlType → Checked Arg
body_type place (Ok type) = other type
body_type place (Err refused) = broken 24 place

abbrev pub expressions : List Written → Option (List Arg)
expressions [] = Some []
expressions (expression place a name ∷ more) = option_and_then (λ rest. Some (a ∷ rest)) (expressions more)
expressions (interval amount part place ∷ more) = None

abbrev pub catalog_call : ℕ → List (Option SqlType) → (List SqlType → Checked SqlType) → Option (List Arg) → Checked Arg
catalog_call place types body None = broken 9 place
catalog_call place types body (Some arguments) = if arguments_fit types arguments then body_type place (body (argument_types types arguments)) else broken 9 place

-- ---- any call

-- How a definition of the catalog is typed: a view's columns, or a function's result by the types of its arguments.
pub data Defined : Type 0 where
  a_view : Checked (List (Named SqlType)) → Defined
  a_function : List (Option SqlType) → (List SqlType → Checked SqlType) → Defined

-- no such function: rule 7 at the call
abbrev pub known_call : ℕ → List ℕ → Option Defined → List Written → Checked Arg
known_call place name (Some (a_function types body)) arguments = catalog_call place types body (expressions arguments)
known_call place name (Some (a_view columns)) arguments = broken 7 place
known_call place name None arguments = if is_function_name name then function_type place name arguments else broken 7 place

-- DISTINCT, `*`, IGNORE or RESPECT NULLS, ORDER BY and LIMIT belong to aggregates
abbrev pub has_modifier : {E : Type 0} → Bool → Bool → Option NullsPart → List (Sort E) → Option ℕ → Bool
has_modifier distinct star nulls [] limit = distinct || star || is_some nulls || is_some limit
has_modifier distinct star nulls (sort ∷ order) limit = true

abbrev pub is_known : List ℕ → Option Defined → Bool
is_known name (Some (a_function types body)) = true
is_known name (Some (a_view columns)) = false
is_known name None = is_function_name name

-- rule 7, then a modifier that isn't taken (rule 9 at the call), then the signature
abbrev pub call_type : ℕ → List ℕ → Option Defined → Bool → List Written → Checked Arg
call_type place name found modified arguments =
    unless (not (is_known name found)) 7 place >>= (λ _. unless modified 9 place >>= (λ _. known_call place name found arguments))

-- SAFE before a function that isn't plain is rule 7 at the call
abbrev pub safe_call_type : ℕ → List ℕ → Option Defined → Bool → List Written → Checked Arg
safe_call_type place name found modified arguments =
    unless (is_some found || not (is_plain name)) 7 place >>= (λ _. unless modified 9 place >>= (λ _. function_type place name arguments))

-- EXTRACT(part FROM date)
abbrev pub extract_type : ℕ → Name → Arg → Checked Arg
extract_type place part a =
    elim (chosen (codes "EXTRACT") (part_arg part.text ∷ a ∷ [])) [
      | None ↦ broken 9 place
      | Some choice ↦ known_part extract_parts part.place part.text >>= (λ _. other choice.gives)
    ]
