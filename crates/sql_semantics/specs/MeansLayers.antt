-- What a text means in an environment: which outcomes it permits. One case per construct, over what its parts mean.
use Rattle.std.specs.Prelude.{◌≡◌, ℕ, suc, negsuc, Bool, true, false, not, ◌&&◌, if◌then◌else◌, List, [], ◌∷◌, ◌++◌, map, drop, length, codes, slice_get, slice_index_or, Option, None, Some, Ok, Err}
use Rattle.std.specs.Str.{str_to_ascii_uppercase}
use Rattle.sql_types.specs.declared.kinds.JoinKind.{JoinKind}
use Rattle.sql_types.specs.declared.sql_type.SqlType.{SqlType, out-SqlType}
use Rattle.sql_types.specs.declared.sql_type.SqlType.TheVariants as ty
use Rattle.sql_types.specs.declared.value.Value.{Value, out-Value}
use Rattle.sql_types.specs.declared.value.Value.TheVariants as value
use Rattle.sql_types.specs.Arranged.{Arranged}
use Rattle.sql_types.specs.Calendar.{read_date}
use Rattle.sql_types.specs.Joined.{Pairs, joined}
use Rattle.sql_types.specs.Same.{equal}
use Rattle.sql_types.specs.Logic.{Decided}
use Rattle.sql_types.specs.Outcome.{Outcome, Meaning, gives, just, nothing, ◌>>=◌, Gather, Both}
use Rattle.sql_types.specs.Takes.{elements}
use Rattle.sql_names.specs.Words.{same_name}
use Rattle.sql_ast.specs.declared.clauses.Arg.{Arg as Argument}
use Rattle.sql_ast.specs.declared.clauses.Arg.TheVariants as arg
use Rattle.sql_ast.specs.declared.clauses.Binding.{Binding}
use Rattle.sql_ast.specs.declared.clauses.Call.{Call}
use Rattle.sql_ast.specs.declared.clauses.Edit.{Edit}
use Rattle.sql_ast.specs.declared.clauses.Item.{Item}
use Rattle.sql_ast.specs.declared.clauses.Name.{Name}
use Rattle.sql_ast.specs.declared.clauses.Item.TheVariants as item
use Rattle.sql_ast.specs.declared.clauses.On.{On}
use Rattle.sql_ast.specs.declared.clauses.On.TheVariants as on
use Rattle.sql_ast.specs.declared.clauses.Replacement.{Replacement}
use Rattle.sql_ast.specs.declared.clauses.When.{When}
use Rattle.sql_ast.specs.declared.expr.Link.{Link}
use Rattle.sql_ast.specs.declared.expr.Part.{Part}
use Rattle.sql_ast.specs.declared.expr.Part.TheVariants as part
use Rattle.sql_ast.specs.declared.expr.Prefix.{Prefix}
use Rattle.sql_ast.specs.declared.expr.Expr.{Expr}
use Rattle.sql_ast.specs.declared.expr.Expr.TheOpen as ast
use Rattle.sql_ast.specs.declared.expr.Expr.TheOpen.{Expr-F, Primary-F, Term-F, FromItem-F, Joined-F, Query-F, Select-F}
use Rattle.sql_ast.specs.declared.query.Cte.{Cte}
use Rattle.sql_ast.specs.declared.query.FromItem.{FromItem}
use Rattle.sql_ast.specs.declared.query.Joined.{Joined}
use Rattle.sql_ast.specs.declared.query.Primary.{Primary, out-Primary}
use Rattle.sql_ast.specs.declared.query.Query.{Query}
use Rattle.sql_coerce.specs.declared.arg.Arg.{Arg}
use Rattle.sql_coerce.specs.declared.arg.Kind.TheVariants as kind
use Rattle.sql_coerce.specs.Casts.{converted}
use Rattle.sql_coerce.specs.Supertypes.{supertype}
use Rattle.sql_builtins.specs.Choices.{chosen}
use Rattle.sql_numbers.specs.Integers.{or_null}
use Rattle.sql_catalog.specs.declared.entries.Definition.{Definition}
use Rattle.sql_catalog.specs.declared.entries.Definition.TheVariants.{View, Function}
use Rattle.sql_catalog.specs.declared.entries.Entries.{Entries}
use Rattle.sql_catalog.specs.declared.entries.ParamDef.{ParamDef}
use Rattle.sql_catalog.specs.declared.entries.TableDef.{TableDef}
use Rattle.sql_rules.specs.declared.scope.Entry.{Entry}
use Rattle.sql_rules.specs.declared.scope.Found.{Found}
use Rattle.sql_rules.specs.declared.scope.Found.TheVariants.{Bound}
use Rattle.sql_rules.specs.declared.scope.Member.{Member}
use Rattle.sql_rules.specs.Scopes.{found}
use Rattle.written_types.specs.Checks.{Checked}
use Rattle.sql_semantics.specs.Sights.{last_cte}
use Rattle.sql_semantics.specs.Places.{single_name, integer_literal}
use Rattle.written_types.specs.TypeNames.{written_type}
use Rattle.sql_semantics.specs.TypeForms.{other_arg, type_of, integer_value, field_type, element_of, operator_name, prefix_name, comparison_name, test_name, is_minus, is_least}
use Rattle.sql_semantics.specs.Paths.{leading_names, path_type, path_element}
use Rattle.sql_semantics.specs.FromScopes.{FromScope, no_from, beside, UsingColumn, using_columns}
use Rattle.sql_semantics.specs.TypeCalls.{Defined, part_arg, part_place, argument_types}
use Rattle.sql_semantics.specs.TypeLayers.{Columns, function_name, is_part, next_part, name_text, named_or, lists, columns_at, range_of, hides_left, seen_scope, variable_entry, member_columns, is_plain_select, is_plain_query}
use Rattle.sql_semantics.specs.Types.{TypeExpr, TypePrimary, TypeFrom, TypeJoined, TypeQuery}
use Rattle.sql_semantics.specs.Environments.{Row, Frame, Env, CteOutcome, within, with_outcome, sight_of, Reads}
use Rattle.sql_semantics.specs.MeansForms.{Operand, converted_to, converted_each, all_converted, args_of, operator_means, operator_operand, safe_means, negated_means, single, column_values, field_value, field_values, fields_of}
use Rattle.sql_semantics.specs.MeansFroms.{with_range, unnested, join_kind, true_of, is_equal, using_test, with_using}
use Rattle.sql_forms.specs.Conditions.{among, is_true, list_means, pick}
use Rattle.sql_forms.specs.Rows.{in_any_order, is_empty, joined_each, kept}
use Rattle.sql_forms.specs.Subscripts.{subscript}

-- the rows of each table, by its number in the catalog
abbrev pub TableRows : Type 0
TableRows = List (List Row)

-- What a definition of the catalog means: the rows of a view, or a function of the types and values of its arguments.
pub data Meant : Type 1 where
  view_means : Meaning (List Row) → Meant
  function_means : List (Option SqlType) → (List SqlType → List Value → Meaning Value) → Meant

-- what is typed, where it has a type
abbrev pub arg_or : Checked Arg → Arg
arg_or (Ok a) = a
arg_or (Err refused) = other_arg ty.Int64

abbrev pub columns_or : Checked Columns → Columns
columns_or (Ok columns) = columns
columns_or (Err refused) = []

abbrev pub scope_or : Checked FromScope → FromScope
scope_or (Ok from) = from
scope_or (Err refused) = no_from

abbrev pub type_or : Checked SqlType → SqlType
type_or (Ok type) = type
type_or (Err refused) = ty.Int64

-- the type of the one column
abbrev pub one_type : Columns → SqlType
one_type [] = ty.Int64
one_type (c ∷ columns) = c.ty

abbrev pub using_or : Checked (List UsingColumn) → List UsingColumn
using_or (Ok using) = using
using_or (Err refused) = []

abbrev pub all_of : {A : Type 0} → List (List A) → List A
all_of [] = []
all_of (xs ∷ more) = xs ++ all_of more

-- ---- names of the catalog

-- the number of the table of a name, counted from a number
abbrev pub table_number : ℕ → List TableDef → List ℕ → Option ℕ
table_number at [] name = None
table_number at (t ∷ tables) name = if same_name t.name name then Some at else table_number (suc at) tables name

abbrev pub param_number : ℕ → List ParamDef → List ℕ → Option ℕ
param_number at [] name = None
param_number at (p ∷ params) name = if same_name p.name name then Some at else param_number (suc at) params name

abbrev pub view_among : List Definition → List Meant → List ℕ → Meaning (List Row)
view_among [] meant name = nothing
view_among (d ∷ definitions) [] name = nothing
view_among (View v ∷ definitions) (view_means rows ∷ meant) name = pick_rows (same_name v.name name) rows (view_among definitions meant name)
  where
    pick_rows : Bool → Meaning (List Row) → Meaning (List Row) → Meaning (List Row)
    pick_rows true rows others = rows
    pick_rows false rows others = others
view_among (View v ∷ definitions) (function_means types body ∷ meant) name = view_among definitions meant name
view_among (Function f ∷ definitions) (m ∷ meant) name = view_among definitions meant name

-- the function of a name among those in sight
abbrev pub function_among : List Definition → List Meant → List ℕ → List (List (Option SqlType) × (List SqlType → List Value → Meaning Value))
function_among [] meant name = []
function_among (d ∷ definitions) [] name = []
function_among (Function f ∷ definitions) (function_means types body ∷ meant) name =
    elim (same_name f.name name) [ true ↦ (types, body) ∷ [] | false ↦ function_among definitions meant name ]
function_among (Function f ∷ definitions) (view_means rows ∷ meant) name = function_among definitions meant name
function_among (View v ∷ definitions) (m ∷ meant) name = function_among definitions meant name

-- ---- what the parts mean

pub record Meanings (E P T F J Q S : Type 0) : Type 1 where
  -- the parts themselves, for their types
  pub tree : E → Expr
  pub item : P → Primary
  pub from_tree : F → FromItem
  pub joined_tree : J → Joined
  pub query_tree : Q → Query
  pub expr : E → Env → Meaning Value
  -- the rows of an item of FROM, beside a binding of the items to its left
  pub primary : P → Env → Frame → Meaning (List Row)
  pub from : F → Env → Meaning (List Row)
  -- those of a join, over the scope and the bindings of the items to its left
  pub joined : J → Env → FromScope → Meaning (List Row) → Meaning (List Row)
  pub term : T → Env → Meaning (List Row)
  pub query : Q → Env → Meaning (List Row)
  pub select : S → Env → Meaning (List Row)

-- a path and UNNEST see the items to their left
abbrev pub looks_left : {E P T F J Q S : Type 0} → Primary-F E P T F J Q S → Bool
looks_left (ast.Path path alias offset place) = true
looks_left (ast.Unnest array alias offset place) = true
looks_left _ = false

abbrev pub frame_values : Option Frame → List Value
frame_values None = []
frame_values (Some frame) = frame.values

abbrev pub no_frame : Frame
no_frame = record { scope = []; values = [] }

-- a part of an operand that is the date part of a function
abbrev pub part_operand : List ℕ → Operand
part_operand name = record { means = gives (value.Text (str_to_ascii_uppercase name)); arg = part_arg name }

-- Over the catalog, how its definitions in sight are typed and what they mean, the tables' rows and the parameters' values.
module _ (catalog : Entries) (definitions : List Defined) (meant : List Meant) (tables : TableRows) (params : List Value) where
  -- a parameter's value
  abbrev pub param_value : List ℕ → Value
  param_value name = elim (param_number 0 catalog.params name) [ None ↦ value.Null | Some number ↦ slice_index_or params number value.Null ]

  module _ {E P T F J Q S : Type 0} (parts : Meanings E P T F J Q S) where
    -- ---- operands

    -- how an expression is typed where it stands
    abbrev pub arg_of : E → Env → Arg
    arg_of e env = arg_or (TypeExpr catalog definitions (parts.tree e) (sight_of env))

    abbrev pub operand : E → Env → Operand
    operand e env = record { means = parts.expr e env; arg = arg_of e env }

    abbrev pub operands : List E → Env → List Operand
    operands [] env = []
    operands (e ∷ es) env = operand e env ∷ operands es env

    -- an expression in a type that is needed
    abbrev pub value_as : SqlType → E → Env → Meaning Value
    value_as type e env = converted_to type (operand e env)

    -- the supertype of several expressions
    abbrev pub common : List Operand → SqlType
    common xs = elim (supertype (args_of xs)) [ None ↦ ty.Int64 | Some type ↦ type ]

    -- a chain of n operators is n pairs from the left
    abbrev pub chain_operand : Operand → List (Link E) → Env → Operand
    chain_operand x [] env = x
    chain_operand x (link ∷ links) env = chain_operand (operator_operand (operator_name link.operator) (x ∷ operand link.operand env ∷ [])) links env

    abbrev pub chained : E → List (Link E) → Env → Meaning Value
    chained first links env = (chain_operand (operand first env) links env).means

    -- AND and OR over all operands of a chain; FALSE decides an AND, and TRUE an OR
    abbrev pub decided : Bool → E → List (Link E) → Env → Meaning Value
    decided deciding first links env = Decided deciding (all_converted ty.Bool (operands (first ∷ map (λ l. l.operand) links) env))

    -- NOTs from the inside out
    abbrev pub nots : List ℕ → Operand → Operand
    nots [] x = x
    nots (place ∷ places) x = operator_operand (codes "NOT") (nots places x ∷ [])

    -- prefixes from the inside out; a minus directly before 9223372036854775808 is the least INT64
    abbrev pub prefixed : Option ℕ → List Prefix → Operand → Operand
    prefixed integer [] x = x
    prefixed integer (p ∷ []) x = elim (is_least integer && is_minus p.operator) [
      | true ↦ record { means = gives (value.Int (negsuc 9223372036854775807)); arg = other_arg ty.Int64 }
      | false ↦ operator_operand (prefix_name p.operator) (x ∷ [])
    ]
    prefixed integer (p ∷ q ∷ prefixes) x = operator_operand (prefix_name p.operator) (prefixed integer (q ∷ prefixes) x ∷ [])

    -- ---- paths

    -- fields and subscripts behind a value of a type
    abbrev pub parts_means : SqlType → Meaning Value → List (Part E) → Env → Meaning Value
    parts_means type m [] env = m
    parts_means type m (part.Field name ∷ more) env =
        parts_means (type_or (field_type name type)) (m >>= (λ x. gives (field_value name.text type x))) more env
    -- the array and the index gather
    parts_means type m (part.Index form index place ∷ more) env =
        parts_means (type_or (element_of 0 type)) (Both m (value_as ty.Int64 index env) >>= (λ both. just (subscript form both.0 both.1))) more env

    abbrev pub bound_means : Found → Checked (SqlType × ℕ) → List (Part E) → Env → Meaning Value
    bound_means f (Err refused) more env = nothing
    bound_means f (Ok bound) more env = parts_means bound.0 (Reads env f) (drop bound.1 more) env

    abbrev pub path_means : List ℕ → List (Part E) → Env → Meaning Value
    path_means first more env =
        bound_means (found (sight_of env).levels first (leading_names more)) (path_type 0 (sight_of env).levels (found (sight_of env).levels first (leading_names more))) more env

    abbrev pub postfix_means : Option (List ℕ) → E → List (Part E) → Env → Meaning Value
    postfix_means (Some name) first more env = path_means name more env
    postfix_means None first more env = parts_means (type_of (arg_of first env)) (parts.expr first env) more env

    -- ---- calls

    -- a date part, or an expression; an INTERVAL is its amount and its part
    abbrev pub expression_operand : Option (List ℕ) → E → Env → Operand
    expression_operand (Some name) e env = part_operand name
    expression_operand None e env = operand e env

    abbrev pub argument_operands : Bool → Argument E → Env → List Operand
    argument_operands here (arg.Expr e) env = expression_operand (if here then single_name (parts.tree e) else None) e env ∷ []
    argument_operands here (arg.Interval amount part place) env = operand amount env ∷ part_operand part.text ∷ []
    argument_operands here (arg.Lambda variables body place) env = []

    abbrev pub call_operands : Option ℕ → List (Argument E) → Env → List Operand
    call_operands part [] env = []
    call_operands part (a ∷ more) env = argument_operands (is_part part) a env ++ call_operands (next_part part) more env

    -- Arguments are evaluated once each, also unused ones, and the body sees them and the catalog alone.
    abbrev pub body_means : List (List (Option SqlType) × (List SqlType → List Value → Meaning Value)) → List ℕ → List Operand → Meaning Value
    body_means [] name xs = operator_means name xs
    body_means (f ∷ others) name xs =
        Gather (converted_each (argument_types f.0 (args_of xs)) xs) >>= (λ values. f.1 (argument_types f.0 (args_of xs)) values)

    abbrev pub call_means : Call E → Env → Meaning Value
    call_means call env =
        body_means (function_among catalog.definitions meant (function_name call.function)) (function_name call.function)
        (call_operands (part_place (function_name call.function)) call.arguments env)

    abbrev pub safe_call_means : Call E → Env → Meaning Value
    safe_call_means call env =
        let xs = call_operands (part_place (function_name call.function)) call.arguments env in
        safe_means (chosen (function_name call.function) (args_of xs)) xs

    -- ---- CASE

    abbrev pub otherwise_operands : Option E → Env → List Operand
    otherwise_operands None env = record { means = gives value.Null; arg = record { ty = None; kind = kind.Untyped } } ∷ []
    otherwise_operands (Some e) env = operand e env ∷ []

    -- from the first WHEN whose test is TRUE, and else ELSE
    abbrev pub branches_means : (Value → Bool) → (E → Meaning Value) → SqlType → List (When E) → Meaning Value → Env → Meaning Value
    branches_means chooses test type [] last env = last
    branches_means chooses test type (when ∷ whens) last env =
        test when.test >>= (λ x. pick (chooses x) (value_as type when.result env) (branches_means chooses test type whens last env))

    abbrev pub last_means : SqlType → List Operand → Meaning Value
    last_means type [] = gives value.Null
    last_means type (x ∷ xs) = converted_to type x

    abbrev pub results_of : List (When E) → Option E → Env → List Operand
    results_of whens otherwise env = operands (map (λ w. w.result) whens) env ++ otherwise_operands otherwise env

    abbrev pub case_means : Option E → List (When E) → Option E → Env → Meaning Value
    case_means None whens otherwise env =
        branches_means is_true (λ e. value_as ty.Bool e env) (common (results_of whens otherwise env)) whens
        (last_means (common (results_of whens otherwise env)) (otherwise_operands otherwise env)) env
    -- the subject is evaluated once, and compared in the supertype of it and the WHEN values
    case_means (Some subject) whens otherwise env =
        let compared = common (operand subject env ∷ operands (map (λ w. w.test) whens) env) in
        value_as compared subject env >>= (λ x.
        branches_means (λ y. is_equal (equal x y)) (λ e. value_as compared e env) (common (results_of whens otherwise env)) whens
        (last_means (common (results_of whens otherwise env)) (otherwise_operands otherwise env)) env)

    -- ---- WITH expressions

    -- each bound expression once, in order; the first fault ends
    abbrev pub bindings_means : List (Binding E) → List Entry → List Value → E → Env → Meaning Value
    bindings_means [] scope values result env = parts.expr result (within env (record { scope = scope; values = values }))
    bindings_means (b ∷ bindings) scope values result env =
        let inner = within env (record { scope = scope; values = values }) in
        parts.expr b.expr inner >>= (λ x. bindings_means bindings (scope ++ variable_entry b.name.text (type_of (arg_of b.expr inner)) ∷ []) (values ++ x ∷ []) result env)

    -- ---- the forms

    abbrev pub expr_means : Expr-F E P T F J Q S → Env → Meaning Value
    expr_means (ast.Or first rest place) env = decided true first rest env
    expr_means (ast.And first rest place) env = decided false first rest env
    expr_means (ast.Not operators operand_ place) env = (nots operators (operand operand_ env)).means
    expr_means (ast.BitOr first rest place) env = chained first rest env
    expr_means (ast.BitXor first rest place) env = chained first rest env
    expr_means (ast.BitAnd first rest place) env = chained first rest env
    expr_means (ast.Shift first rest place) env = chained first rest env
    expr_means (ast.Sum first rest place) env = chained first rest env
    expr_means (ast.Product first rest place) env = chained first rest env
    expr_means (ast.Unary operators operand_ place) env = (prefixed (integer_literal (parts.tree operand_)) operators (operand operand_ env)).means
    expr_means (ast.Compare left operator operator_place right place) env = operator_means (comparison_name operator) (operands (left ∷ right ∷ []) env)
    expr_means (ast.Like left negated operator_place right place) env = negated_means negated (operator_means (codes "LIKE") (operands (left ∷ right ∷ []) env))
    expr_means (ast.LikeList left quantifier operator_place patterns place) env = nothing
    expr_means (ast.LikeUnnest left quantifier operator_place array place) env = nothing
    -- all three once
    expr_means (ast.Between subject negated operator_place low high place) env =
        negated_means negated (operator_means (codes "BETWEEN") (operands (subject ∷ low ∷ high ∷ []) env))
    expr_means (ast.InList left negated operator_place list place) env =
        let type = common (operands (left ∷ list) env) in
        negated_means negated (list_means (value_as type left env) (all_converted type (operands list env)))
    -- the search value and the whole query gather
    expr_means (ast.InQuery left negated operator_place query open_place place) env =
        let column = one_type (columns_or (TypeQuery catalog definitions (parts.query_tree query) (sight_of env))) in
        let type = common (operand left env ∷ record { means = nothing; arg = other_arg column } ∷ []) in
        negated_means negated (Both (value_as type left env) (parts.query query env >>= (λ rows. Gather (map (λ x. just (converted column type x)) (column_values rows)))) >>= (λ both. gives (among both.0 both.1)))
    -- so do the search value and the array; a NULL array counts as nothing
    expr_means (ast.InUnnest left negated operator_place array place) env =
        let element = type_or (element_of 0 (type_of (arg_of array env))) in
        let type = common (operand left env ∷ record { means = nothing; arg = other_arg element } ∷ []) in
        negated_means negated (Both (value_as type left env) (parts.expr array env >>= (λ xs. Gather (map (λ x. just (converted element type x)) (elements xs)))) >>= (λ both. gives (among both.0 both.1)))
    expr_means (ast.Is left negated test operator_place place) env = negated_means negated (operator_means (test_name test) (operand left env ∷ []))
    expr_means (ast.Distinct left negated operator_place right place) env = negated_means negated (operator_means (codes "IS DISTINCT FROM") (operands (left ∷ right ∷ []) env))
    expr_means (ast.Postfix first more place) env = postfix_means (single_name (parts.tree first)) first more env
    expr_means (ast.Integer n place) env = gives (integer_value n)
    expr_means (ast.Text text place) env = gives (value.Text text)
    expr_means (ast.Bytes bytes place) env = gives (value.Bytes bytes)
    expr_means (ast.Bool truth place) env = gives (value.Bool truth)
    expr_means (ast.Null place) env = gives value.Null
    expr_means (ast.Date text place) env = gives (elim (read_date text) [ None ↦ value.Null | Some day ↦ value.Date day ])
    expr_means (ast.Parameter name place) env = gives (param_value name)
    expr_means (ast.Name name place) env = path_means name [] env
    expr_means (ast.Call call place) env = call_means call env
    expr_means (ast.SafeCall call place) env = safe_call_means call env
    expr_means (ast.Scalar query place) env = parts.query query env >>= (λ rows. just (single rows))
    expr_means (ast.Tuple es place) env = Gather (map (λ e. parts.expr e env) es) >>= (λ xs. gives (value.Struct xs))
    expr_means (ast.Case subject branches otherwise place) env = case_means subject branches otherwise env
    expr_means (ast.Cast safe e type place) env =
        let from = type_of (arg_of e env) in
        let to = type_or (written_type type) in
        parts.expr e env >>= (λ x. just (elim safe [ true ↦ or_null (converted from to x) | false ↦ converted from to x ]))
    expr_means (ast.Extract part e place) env = operator_means (codes "EXTRACT") (part_operand part.text ∷ operand e env ∷ [])
    expr_means (ast.Grouping argument place) env = nothing
    expr_means (ast.Exists query place) env = parts.query query env >>= (λ rows. gives (value.Bool (not (is_empty rows))))
    -- the rows in their order
    expr_means (ast.ArrayQuery query open_place place) env = parts.query query env >>= (λ rows. gives (value.Array (column_values rows)))
    expr_means (ast.Array None es open_place place) env = Gather (all_converted (common (operands es env)) (operands es env)) >>= (λ xs. gives (value.Array xs))
    expr_means (ast.Array (Some type) es open_place place) env = Gather (all_converted (type_or (written_type type)) (operands es env)) >>= (λ xs. gives (value.Array xs))
    expr_means (ast.Struct fields place) env = Gather (map (λ x. parts.expr x.expr env) fields) >>= (λ xs. gives (value.Struct xs))
    expr_means (ast.TypedStruct fields es open_place place) env =
        Gather (converted_each (map (λ f. type_or (written_type f.ty)) fields) (operands es env)) >>= (λ xs. gives (value.Struct xs))
    expr_means (ast.With bindings result place) env = bindings_means bindings [] [] result env

    -- ---- FROM

    -- A CTE's one outcome, else a table's rows, else a view's, which is evaluated anew at each reference.
    abbrev pub named_rows : Option CteOutcome → List ℕ → Meaning (List Row)
    named_rows (Some cte) name = just cte.outcome
    named_rows None name = table_or_view (table_number 0 catalog.tables name) name
      where
        table_or_view : Option ℕ → List ℕ → Meaning (List Row)
        table_or_view (Some number) name = gives (slice_index_or tables number [])
        table_or_view None name = view_among catalog.definitions meant name

    abbrev pub in_frame : Meaning (List Row) → Option (List ℕ) → Meaning (List Row)
    in_frame rows range = rows >>= (λ list. gives (map (with_range range) list))

    -- the array of a path in FROM: its first names read a column of a range variable, and fields follow
    abbrev pub fields_means : SqlType → Meaning Value → List Name → Meaning Value
    fields_means type m [] = m
    fields_means type m (name ∷ names) = fields_means (type_or (field_type name type)) (m >>= (λ x. gives (field_value name.text type x))) names

    abbrev pub path_array : List Name → Env → Meaning Value
    path_array [] env = nothing
    path_array (first ∷ rest) env =
        let f = found (sight_of env).levels first.text (map (λ n. n.text) rest) in
        array_by f (path_type 0 (sight_of env).levels f) rest
      where
        array_by : Found → Checked (SqlType × ℕ) → List Name → Meaning Value
        array_by f (Err refused) names = nothing
        array_by f (Ok bound) names = fields_means bound.0 (Reads env f) (drop bound.1 names)

    abbrev pub primary_means : Primary-F E P T F J Q S → Env → Frame → Meaning (List Row)
    primary_means (ast.Table name alias None place) env left =
        in_frame (named_rows (last_cte (λ c. c.name) name.text env.ctes) name.text) (named_or alias (Some name.text))
    primary_means (ast.Table name alias (Some turned) place) env left = nothing
    primary_means (Primary-F.«Primary::Query» query alias None place) env left = in_frame (parts.query query env) (name_text alias)
    primary_means (Primary-F.«Primary::Query» query alias (Some turned) place) env left = nothing
    primary_means (ast.Path path alias offset place) env left =
        path_array path (within env left) >>= unnested (type_or (path_element 0 (sight_of (within env left)).levels path)) offset
    primary_means (ast.Unnest array alias offset place) env left =
        parts.expr array (within env left) >>= unnested (type_or (element_of 0 (type_of (arg_of array (within env left))))) offset

    -- the tests of all pairs gather
    abbrev pub pair_tests : E → Env → List Entry → List Row → List (List Row) → Meaning (List (List Value))
    pair_tests test env scope [] rights = gives []
    pair_tests test env scope (left ∷ lefts) [] = gives []
    pair_tests test env scope (left ∷ lefts) (right ∷ rights) =
        Both (Gather (map (λ row. value_as ty.Bool test (within env (record { scope = scope; values = left ++ row }))) right)) (pair_tests test env scope lefts rights)
        >>= (λ both. gives (both.0 ∷ both.1))

    abbrev pub all_pairs : List (List Row) → Pairs
    all_pairs rights = map (λ rows. map (λ row. true) rows) rights

    abbrev pub using_pairs : List Entry → List Entry → List UsingColumn → List Row → List (List Row) → Pairs
    using_pairs lefts rights using [] rows = []
    using_pairs lefts rights using (l ∷ ls) [] = []
    using_pairs lefts rights using (l ∷ ls) (right ∷ more) = map (λ r. using_test lefts rights using l r) right ∷ using_pairs lefts rights using ls more

    -- which pairs a join keeps: those for which ON or USING is TRUE
    abbrev pub kept_pairs : Option (On E) → Env → FromScope → FromScope → List Row → List (List Row) → Meaning Pairs
    kept_pairs None env left right lefts rights = gives (all_pairs rights)
    kept_pairs (Some (on.On test place)) env left right lefts rights =
        pair_tests test env (beside left right).scope lefts rights >>= (λ tests. gives (map true_of tests))
    kept_pairs (Some (on.Using columns place)) env left right lefts rights =
        gives (using_pairs left.scope right.scope (using_or (using_columns left.scope right.scope columns)) lefts rights)

    -- the columns of USING stand behind a joined row
    abbrev pub with_columns : Option (On E) → JoinKind → FromScope → FromScope → List Row → List Row
    with_columns (Some (on.Using columns place)) k left right rows =
        map (with_using k left.scope right.scope (using_or (using_columns left.scope right.scope columns))) rows
    with_columns _ k left right rows = rows

    -- the rows of a join, by the rows of the right item for each left one
    abbrev pub join_each : Joined-F E P T F J Q S → Env → FromScope → FromScope → List Row → List (List Row) → Meaning (List Row)
    join_each j env left right lefts rights =
        kept_pairs j.on env left right lefts rights >>= (λ pairs.
        gives (with_columns j.on (join_kind j.word) left right (joined_each (join_kind j.word) (length right.scope) lefts rights pairs)))

    -- the same where the right item has the same rows for each left one
    abbrev pub join_alike : Joined-F E P T F J Q S → Env → FromScope → FromScope → List Row → List Row → Meaning (List Row)
    join_alike j env left right lefts rights =
        kept_pairs j.on env left right lefts (map (λ l. rights) lefts) >>= (λ pairs.
        gives (with_columns j.on (join_kind j.word) left right (joined (join_kind j.word) (length left.scope) (length right.scope) lefts rights pairs)))

    -- An item that sees those to its left has one outcome per binding there, and these gather. Any other item has one outcome,
    -- and the two sides gather.
    abbrev pub join_by : Bool → Joined-F E P T F J Q S → Env → FromScope → FromScope → Meaning (List Row) → Meaning (List Row)
    join_by true j env left right lefts =
        lefts >>= (λ ls. Gather (map (λ row. parts.primary j.primary env (record { scope = left.scope; values = row })) ls) >>= (λ rights. join_each j env left right ls rights))
    join_by false j env left right lefts =
        Both lefts (parts.primary j.primary env no_frame) >>= (λ both. join_alike j env left right both.0 both.1)

    -- the scope of the right item
    abbrev pub right_scope : Joined-F E P T F J Q S → Env → FromScope → FromScope
    right_scope j env left = scope_or (TypePrimary catalog definitions (parts.item j.primary) (sight_of env) (seen_scope (hides_left j.word) left))

    abbrev pub joined_means : Joined-F E P T F J Q S → Env → FromScope → Meaning (List Row) → Meaning (List Row)
    joined_means j env left lefts = join_by (looks_left (out-Primary (parts.item j.primary)) && not (hides_left j.word)) j env left (right_scope j env left) lefts

    -- joins and commas associate to the left
    abbrev pub joins_means : List J → Env → FromScope → Meaning (List Row) → Meaning (List Row)
    joins_means [] env left rows = rows
    joins_means (j ∷ js) env left rows =
        joins_means js env (scope_or (TypeJoined catalog definitions (parts.joined_tree j) (sight_of env) left)) (parts.joined j env left rows)

    abbrev pub from_means : FromItem-F E P T F J Q S → Env → Meaning (List Row)
    from_means f env =
        joins_means f.rest env (scope_or (TypePrimary catalog definitions (parts.item f.first) (sight_of env) [])) (parts.primary f.first env no_frame)

    -- ---- the select list

    abbrev pub values_at : Row → List ℕ → List Value
    values_at row slots = map (λ slot. slice_index_or row slot value.Null) slots

    -- what REPLACE gives in place of a column
    abbrev pub replaced_value : List (Replacement E) → List Value → Option (List ℕ) → Option Value
    replaced_value rs xs None = None
    replaced_value [] xs (Some name) = None
    replaced_value (r ∷ rs) [] (Some name) = None
    replaced_value (r ∷ rs) (x ∷ xs) (Some name) = if same_name r.name.text name then Some x else replaced_value rs xs (Some name)

    -- the columns of `*` with their values, without those that EXCEPT drops, and with those that REPLACE gives
    abbrev pub edited_values : Edit E → List Value → Columns → List Value → List Value
    edited_values edit xs [] values = []
    edited_values edit xs (c ∷ columns) [] = []
    edited_values edit xs (c ∷ columns) (v ∷ values) =
        if lists (map (λ n. n.text) edit.except) c.name then edited_values edit xs columns values
        else elim (replaced_value edit.replace xs c.name) [ None ↦ v | Some x ↦ x ] ∷ edited_values edit xs columns values

    -- the expressions of REPLACE are evaluated once
    abbrev pub edit_means : Edit E → Columns → List Value → Env → Meaning (List Value)
    edit_means edit columns values env = Gather (map (λ r. parts.expr r.expr env) edit.replace) >>= (λ xs. gives (edited_values edit xs columns values))

    -- the columns of a range variable in an environment, with their values
    abbrev pub members_means : Edit E → List Frame → Found → Option (List Entry × List Member) → Env → Meaning (List Value) → Meaning (List Value)
    members_means edit frames (Bound b) (Some range) env others =
        edit_means edit (member_columns range.0 range.1) (values_at (frame_values (slice_get frames b.level)) (map (λ m. m.slot) range.1)) env
    members_means edit frames f range env others = others

    -- `x.*` evaluates x once
    abbrev pub qualified_means : E → Edit E → Env → Meaning (List Value)
    qualified_means e edit env =
        let fields = fields_of (out-SqlType (type_of (arg_of e env))) in
        parts.expr e env >>= (λ x. edit_means edit fields (field_values (length fields) (out-Value x)) env)

    abbrev pub qualified_by : Option (List ℕ) → E → Edit E → Env → Meaning (List Value)
    qualified_by None e edit env = qualified_means e edit env
    qualified_by (Some name) e edit env =
        let f = found (sight_of env).levels name [] in
        members_means edit env.frames f (range_of (sight_of env).levels f) env (qualified_means e edit env)

    abbrev pub item_means : FromScope → Row → Item E → Env → Meaning (List Value)
    item_means from row (item.Star edit place) env = edit_means edit (columns_at from.scope from.star) (values_at row from.star) env
    item_means from row (item.QualifiedStar e edit place) env = qualified_by (single_name (parts.tree e)) e edit env
    item_means from row (item.Expr e alias place) env = parts.expr e env >>= (λ x. gives (x ∷ []))

    -- the items of one row gather
    abbrev pub row_means : FromScope → Row → List (Item E) → Env → Meaning Row
    row_means from row items env = Gather (map (λ i. item_means from row i env) items) >>= (λ values. gives (all_of values))

    -- ---- queries

    -- a SELECT without FROM has one row of input
    abbrev pub from_scope : Option F → Env → FromScope
    from_scope None env = no_from
    from_scope (Some f) env = scope_or (TypeFrom catalog definitions (parts.from_tree f) (sight_of env))

    abbrev pub from_rows : Option F → Env → Meaning (List Row)
    from_rows None env = gives ([] ∷ [])
    from_rows (Some f) env = parts.from f env

    abbrev pub inner : Env → FromScope → Row → Env
    inner env from row = within env (record { scope = from.scope; values = row })

    -- WHERE gathers over the bindings, and keeps those for which it is TRUE
    abbrev pub where_means : Option E → FromScope → List Row → Env → Meaning (List Row)
    where_means None from rows env = gives rows
    where_means (Some test) from rows env = Gather (map (λ row. value_as ty.Bool test (inner env from row)) rows) >>= (λ tests. gives (kept rows tests))

    -- SELECT AS STRUCT makes one STRUCT of a row
    abbrev pub as_struct : Bool → Row → Row
    as_struct true row = value.Struct row ∷ []
    as_struct false row = row

    -- FROM, WHERE, and then the items gather over the rows that are kept
    abbrev pub plain_select_means : Select-F E P T F J Q S → FromScope → Env → Meaning (List Row)
    plain_select_means s from env =
        from_rows s.from env >>= (λ rows.
        where_means s.filter from rows env >>= (λ left.
        Gather (map (λ row. row_means from row s.items (inner env from row)) left) >>= (λ list.
        gives (map (as_struct s.as_struct) list))))

    abbrev pub if_plain : Bool → Meaning (List Row) → Meaning (List Row)
    if_plain true m = m
    if_plain false m = nothing

    abbrev pub select_means : Select-F E P T F J Q S → Env → Meaning (List Row)
    select_means s env = if_plain (is_plain_select s) (plain_select_means s (from_scope s.from env) env)

    abbrev pub term_means : Term-F E P T F J Q S → Env → Meaning (List Row)
    term_means (Term-F.Select select) env = parts.select select env
    term_means (Term-F.«Term::Query» query place) env = parts.query query env

    -- each CTE takes one outcome, which may stay unread
    abbrev pub ctes_means : List (Cte Q) → T → Env → Meaning (List Row)
    ctes_means [] first env o = parts.term first env o
    ctes_means (c ∷ ctes) first env o =
        (taken : Outcome (List Row)) × parts.query c.query env taken ×
        ctes_means ctes first (with_outcome env (record { name = c.name.text; columns = columns_or (TypeQuery catalog definitions (parts.query_tree c.query) (sight_of env)); outcome = taken })) o

    -- a query without ORDER BY permits every order of its rows
    abbrev pub query_means : Query-F E P T F J Q S → Env → Meaning (List Row)
    query_means q env = if_plain (is_plain_query q) (ctes_means q.ctes q.body.first env >>= in_any_order)
