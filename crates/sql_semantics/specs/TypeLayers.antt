-- The type of a text, or the first rule that it breaks and the place: one case per construct, over what its parts are typed
-- as. The order of the lines is the order in which rules are looked at.
use Rattle.std.specs.Prelude.{ℕ, zero, suc, ◌==◌, Bool, true, false, not, ◌&&◌, ◌||◌, if◌then◌else◌, List, [], ◌∷◌, ◌++◌, map, drop, length, codes, slice_get, Option, None, Some, Ok}
use Rattle.std.specs.List.{list_any}
use Rattle.sql_types.specs.declared.sql_type.Named.{Named}
use Rattle.sql_types.specs.declared.sql_type.SqlType.{SqlType, out-SqlType}
use Rattle.sql_types.specs.declared.sql_type.SqlType.TheVariants as ty
use Rattle.sql_types.specs.declared.sql_type.SqlType.TheOpen as t
use Rattle.sql_types.specs.declared.value.Value.TheVariants as value
use Rattle.sql_names.specs.Words.{same_name}
use Rattle.sql_ast.specs.declared.clauses.Name.{Name}
use Rattle.sql_ast.specs.declared.clauses.Aliased.{Aliased}
use Rattle.sql_ast.specs.declared.clauses.Arg.{Arg as Argument}
use Rattle.sql_ast.specs.declared.clauses.Arg.TheVariants as arg
use Rattle.sql_ast.specs.declared.clauses.Binding.{Binding}
use Rattle.sql_ast.specs.declared.clauses.Call.{Call}
use Rattle.sql_ast.specs.declared.clauses.Edit.{Edit}
use Rattle.sql_ast.specs.declared.clauses.Function.{Function}
use Rattle.sql_ast.specs.declared.clauses.Function.TheVariants as function
use Rattle.sql_ast.specs.declared.clauses.Item.{Item}
use Rattle.sql_ast.specs.declared.clauses.Item.TheVariants as item
use Rattle.sql_ast.specs.declared.clauses.On.{On}
use Rattle.sql_ast.specs.declared.clauses.On.TheVariants as on
use Rattle.sql_ast.specs.declared.clauses.Replacement.{Replacement}
use Rattle.sql_ast.specs.declared.clauses.Sort.{Sort}
use Rattle.sql_ast.specs.declared.clauses.When.{When}
use Rattle.sql_ast.specs.declared.expr.Link.{Link}
use Rattle.sql_ast.specs.declared.expr.Part.{Part}
use Rattle.sql_ast.specs.declared.expr.Part.TheVariants as part
use Rattle.sql_ast.specs.declared.expr.Expr.{Expr}
use Rattle.sql_ast.specs.declared.expr.Expr.TheOpen as ast
use Rattle.sql_ast.specs.declared.expr.Expr.TheOpen.{Expr-F, Primary-F, Term-F, FromItem-F, Joined-F, Query-F, Select-F}
use Rattle.sql_ast.specs.declared.query.Cte.{Cte}
use Rattle.sql_ast.specs.declared.query.JoinWord.{JoinWord}
use Rattle.sql_ast.specs.declared.query.JoinWord.TheVariants as join
use Rattle.sql_ast.specs.declared.query.Primary.{Primary, out-Primary}
use Rattle.sql_coerce.specs.declared.arg.Arg.{Arg}
use Rattle.sql_coerce.specs.declared.arg.Kind.TheVariants as kind
use Rattle.sql_coerce.specs.Supertypes.{supertype}
use Rattle.sql_catalog.specs.declared.entries.Entries.{Entries}
use Rattle.sql_rules.specs.declared.scope.Entry.{Entry}
use Rattle.sql_rules.specs.declared.scope.Member.{Member}
use Rattle.sql_rules.specs.declared.scope.What.TheVariants as what
use Rattle.sql_rules.specs.declared.scope.Found.{Found}
use Rattle.sql_rules.specs.declared.scope.Found.TheVariants.{Bound, Missing, Ambiguous}
use Rattle.sql_rules.specs.Scopes.{found, is_range, members_of}
use Rattle.written_types.specs.Checks.{Checked, ◌>>=◌, broken, unless, in_turn, if_there}
use Rattle.sql_semantics.specs.Sights.{Sight, CteColumns, inside, with_cte, for_struct, last_cte}
use Rattle.sql_semantics.specs.Places.{place_of, implied_name, single_name, integer_literal}
use Rattle.written_types.specs.TypeNames.{written_type, field_types}
use Rattle.sql_semantics.specs.TypeForms.{literal, other, other_arg, untyped, type_of, needed, condition, integer_type, integer_value, date_literal, operator_type, operator_name, comparison_name, test_name, not_type, prefix_type, common_type, compared_type, element_of, field_type, cast_type, array_of, array_literal, struct_fields, one_column}
use Rattle.sql_semantics.specs.Paths.{leading_names, path_type, path_element}
use Rattle.sql_semantics.specs.FromScopes.{FromScope, no_from, columns_scope, unnest_scope, beside, repeats_range, using_columns, using_scope}
use Rattle.sql_semantics.specs.TypeCalls.{Defined, Written, expression, interval, call_type, safe_call_type, extract_type, has_modifier, part_arg, part_place}
use Rattle.sql_semantics.specs.CatalogNames.{table_of, view_of, function_of, param_type}
use Rattle.sql_forms.specs.Rows.{is_empty}

-- a form that isn't built yet
abbrev pub unbuilt : {A : Type 0} → Checked A
unbuilt = broken 2 0

abbrev pub Columns : Type 0
Columns = List (Named SqlType)

abbrev pub name_text : Option Name → Option (List ℕ)
name_text None = None
name_text (Some name) = Some name.text

-- an alias, else the name that is implied
abbrev pub named_or : Option Name → Option (List ℕ) → Option (List ℕ)
named_or None implied = implied
named_or (Some name) implied = Some name.text

-- ---- what the parts are typed as

pub record Typings (E P T F J Q S : Type 0) : Type 0 where
  -- an expression and an item of FROM themselves, for their places and the names that they imply
  pub tree : E → Expr
  pub item : P → Primary
  pub expr : E → Sight → Checked Arg
  -- an item of FROM, with the scope of the items to its left that it may see
  pub primary : P → Sight → List Entry → Checked FromScope
  pub from : F → Sight → Checked FromScope
  -- a join, behind the items to its left
  pub joined : J → Sight → FromScope → Checked FromScope
  pub term : T → Sight → Checked Columns
  pub query : Q → Sight → Checked Columns
  pub select : S → Sight → Checked Columns

abbrev pub primary_place : {E P T F J Q S : Type 0} → Primary-F E P T F J Q S → ℕ
primary_place (ast.Table name alias turned place) = place
primary_place (Primary-F.«Primary::Query» query alias turned place) = place
primary_place (ast.Path path alias offset place) = place
primary_place (ast.Unnest array alias offset place) = place

-- which joins hide the left items from the right one
abbrev pub hides_left : JoinWord → Bool
hides_left join.Right = true
hides_left join.Full = true
hides_left _ = false

abbrev pub seen_scope : Bool → FromScope → List Entry
seen_scope true left = []
seen_scope false left = left.scope

abbrev pub function_name : Function → List ℕ
function_name function.If = codes "IF"
function_name (function.Named name) = name

-- whether the argument at a place, counted down from here, is the date part
abbrev pub is_part : Option ℕ → Bool
is_part None = false
is_part (Some zero) = true
is_part (Some (suc place)) = false

abbrev pub next_part : Option ℕ → Option ℕ
next_part None = None
next_part (Some zero) = None
next_part (Some (suc place)) = Some place

-- a name that a select item's `*` lists
abbrev pub lists : List (List ℕ) → Option (List ℕ) → Bool
lists names None = false
lists names (Some name) = list_any (same_name name) names

-- a name that stands twice in a list
abbrev pub repeated : List (List ℕ) → Bool
repeated [] = false
repeated (name ∷ names) = list_any (same_name name) names || repeated names

-- one of the columns has the name
abbrev pub is_column : Columns → List ℕ → Bool
is_column columns name = list_any (λ c. lists (name ∷ []) c.name) columns

-- the type of the replacement of a column's name
abbrev pub replaced_type : List (List ℕ × SqlType) → Option (List ℕ) → Option SqlType
replaced_type replaced None = None
replaced_type [] (Some name) = None
replaced_type (r ∷ replaced) (Some name) = if same_name r.0 name then Some r.1 else replaced_type replaced (Some name)

-- what EXCEPT leaves of the columns, with what REPLACE gives in place of them
abbrev pub edited : List (List ℕ) → List (List ℕ × SqlType) → Columns → Columns
edited except replaced [] = []
edited except replaced (c ∷ columns) =
    if lists except c.name then edited except replaced columns
    else record { name = c.name; ty = elim (replaced_type replaced c.name) [ None ↦ c.ty | Some type ↦ type ] } ∷ edited except replaced columns

-- A name that isn't there, or that is listed twice in all, or nothing left: rule 20 at the item.
abbrev pub faulty_edit : List (List ℕ) → Columns → Columns → Bool
faulty_edit listed columns left = repeated listed || list_any (λ name. not (is_column columns name)) listed || is_empty left

-- the columns at these places of a scope
abbrev pub columns_at : List Entry → List ℕ → Columns
columns_at scope [] = []
columns_at scope (slot ∷ slots) = elim (slice_get scope slot) [
  | None ↦ columns_at scope slots
  | Some e ↦ record { name = e.name; ty = elim e.ty [ None ↦ ty.Int64 | Some type ↦ type ] } ∷ columns_at scope slots
]

-- the columns of a range variable, under their names there
abbrev pub member_columns : List Entry → List Member → Columns
member_columns scope [] = []
member_columns scope (m ∷ members) = elim (slice_get scope m.slot) [
  | None ↦ member_columns scope members
  | Some e ↦ record { name = m.name; ty = elim e.ty [ None ↦ ty.Int64 | Some type ↦ type ] } ∷ member_columns scope members
]

-- the members of a range variable, with the scope in which it stands
abbrev pub range_members : List Entry → Option Entry → Option (List Entry × List Member)
range_members scope None = None
range_members scope (Some e) = elim (is_range e.what) [ true ↦ Some (scope, members_of e.what) | false ↦ None ]

abbrev pub range_at : ℕ → Option (List Entry) → Option (List Entry × List Member)
range_at slot None = None
range_at slot (Some scope) = range_members scope (slice_get scope slot)

-- those that a single name denotes
abbrev pub range_of : List (List Entry) → Found → Option (List Entry × List Member)
range_of levels (Bound b) = range_at b.slot (slice_get levels b.level)
range_of levels Missing = None
range_of levels Ambiguous = None

-- `x.*` is over a STRUCT (rule 6 at the expression)
abbrev pub struct_columns : ℕ → t.SqlType-F SqlType → Checked Columns
struct_columns place (t.Struct fields) = Ok fields
struct_columns place _ = broken 6 place

-- SELECT AS STRUCT gives one unnamed STRUCT column; at a wrong place it is rule 27 at SELECT
abbrev pub as_one_struct : Bool → Bool → ℕ → Columns → Checked Columns
as_one_struct false allowed place columns = Ok columns
as_one_struct true false place columns = broken 27 place
as_one_struct true true place columns = Ok (record { name = None; ty = ty.Struct columns } ∷ [])

-- the alias of a path in FROM is the one that is written, else its last name
abbrev pub last_name : List Name → Option (List ℕ)
last_name [] = None
last_name (name ∷ []) = Some name.text
last_name (name ∷ other ∷ names) = last_name (other ∷ names)

-- a condition of one variable in the scope of a WITH expression
abbrev pub variable_entry : List ℕ → SqlType → Entry
variable_entry name type = record { name = Some name; what = what.Variable; ty = Some type }

abbrev pub entry_named : List ℕ → List Entry → Bool
entry_named name scope = list_any (λ e. lists (name ∷ []) e.name) scope

abbrev pub cte_named : List ℕ → List (List ℕ) → Bool
cte_named name names = list_any (same_name name) names

-- the forms of SELECT and of queries that are built
abbrev pub is_plain_select : {E P T F J Q S : Type 0} → Select-F E P T F J Q S → Bool
is_plain_select s = not s.distinct && (elim s.grouping [ None ↦ true | Some g ↦ false ] && elim s.having [ None ↦ true | Some h ↦ false ])

abbrev pub is_plain_query : {E P T F J Q S : Type 0} → Query-F E P T F J Q S → Bool
is_plain_query q = is_empty q.body.rest && (is_empty q.order && elim q.limit [ None ↦ true | Some l ↦ false ])

-- the catalog, and how its definitions in sight are typed, in order
module _ (catalog : Entries) (definitions : List Defined) where
  module _ {E P T F J Q S : Type 0} (parts : Typings E P T F J Q S) where
    -- ---- expressions

    -- a condition: BOOL
    abbrev pub condition_layer : E → Sight → Checked (Unit {0})
    condition_layer e sight = parts.expr e sight >>= condition (place_of (parts.tree e))

    -- a chain of n operators is typed as n pairs from the left
    abbrev pub chain_layer : Arg → List (Link E) → Sight → Checked Arg
    chain_layer a [] sight = Ok a
    chain_layer a (link ∷ links) sight =
        parts.expr link.operand sight >>= (λ b. operator_type (operator_name link.operator) link.place (a ∷ b ∷ []) >>= (λ c. chain_layer c links sight))

    abbrev pub chained : E → List (Link E) → Sight → Checked Arg
    chained first links sight = parts.expr first sight >>= (λ a. chain_layer a links sight)

    -- two operands, and then the operator
    abbrev pub binary : List ℕ → ℕ → E → E → Sight → Checked Arg
    binary name place left right sight = parts.expr left sight >>= (λ a. parts.expr right sight >>= (λ b. operator_type name place (a ∷ b ∷ [])))

    abbrev pub args_layer : List E → Sight → Checked (List Arg)
    args_layer es sight = in_turn (map (λ e. parts.expr e sight) es)

    -- a subquery; a SELECT AS STRUCT may stand in it
    abbrev pub subquery : Q → Sight → Checked Columns
    subquery q sight = parts.query q (for_struct true sight)

    -- The parts of a postfix, which begins at a place, behind what was read, which is typed and begins at another where it
    -- stood in brackets. An array that a subscript is on is what stands before it.
    abbrev pub parts_layer : ℕ → ℕ → SqlType → List (Part E) → Sight → Checked SqlType
    parts_layer place own type [] sight = Ok type
    parts_layer place own type (part.Field name ∷ more) sight = field_type name type >>= (λ field. parts_layer place place field more sight)
    parts_layer place own type (part.Index form index open_place ∷ more) sight =
        element_of own type >>= (λ element. parts.expr index sight >>= (λ i. needed ty.Int64 (place_of (parts.tree index)) i >>= (λ _. parts_layer place place element more sight)))

    -- a path: what its first names denote, and fields and subscripts behind
    abbrev pub path_layer : ℕ → ℕ → List ℕ → List (Part E) → Sight → Checked Arg
    path_layer place own first more sight =
        path_type own sight.levels (found sight.levels first (leading_names more)) >>= (λ bound. parts_layer place own bound.0 (drop bound.1 more) sight >>= other)

    -- a name alone in brackets begins inside them, and a longer path with its first byte
    abbrev pub path_place : ℕ → ℕ → List (List ℕ) → ℕ
    path_place place own [] = own
    path_place place own (name ∷ names) = place

    abbrev pub postfix_layer : ℕ → Option (List ℕ) → E → List (Part E) → Sight → Checked Arg
    postfix_layer place (Some name) first more sight = path_layer place (path_place place (place_of (parts.tree first)) (leading_names more)) name more sight
    postfix_layer place None first more sight = parts.expr first sight >>= (λ a. parts_layer place (place_of (parts.tree first)) (type_of a) more sight >>= other)

    -- ---- calls

    abbrev pub sorts_layer : List (Sort E) → Sight → Checked (List Arg)
    sorts_layer sorts sight = in_turn (map (λ s. parts.expr s.expr sight) sorts)

    -- a date part is written as a single name, and isn't looked up
    abbrev pub expression_layer : Bool → E → Sight → Checked Written
    expression_layer here e sight = elim (if here then single_name (parts.tree e) else None) [
      | Some name ↦ Ok (expression (place_of (parts.tree e)) (part_arg name) (Some name))
      | None ↦ parts.expr e sight >>= (λ a. Ok (expression (place_of (parts.tree e)) a None))
    ]

    abbrev pub argument_layer : Bool → Argument E → Sight → Checked Written
    argument_layer here (arg.Expr e) sight = expression_layer here e sight
    argument_layer here (arg.Interval amount part place) sight = parts.expr amount sight >>= (λ a. Ok (interval a part.text part.place))
    argument_layer here (arg.Lambda variables body place) sight = unbuilt

    abbrev pub arguments_layer : Option ℕ → List (Argument E) → Sight → Checked (List Written)
    arguments_layer part [] sight = Ok []
    arguments_layer part (a ∷ more) sight =
        argument_layer (is_part part) a sight >>= (λ w. arguments_layer (next_part part) more sight >>= (λ ws. Ok (w ∷ ws)))

    -- arguments and sort expressions first, and then the call
    abbrev pub call_layer : Call E → Sight → Checked Arg
    call_layer call sight =
        arguments_layer (part_place (function_name call.function)) call.arguments sight >>= (λ arguments.
        sorts_layer call.order sight >>= (λ sorts.
        call_type call.place (function_name call.function) (function_of catalog definitions (function_name call.function))
        (has_modifier call.distinct call.star call.nulls call.order call.limit) arguments))

    abbrev pub safe_call_layer : Call E → Sight → Checked Arg
    safe_call_layer call sight =
        arguments_layer (part_place (function_name call.function)) call.arguments sight >>= (λ arguments.
        sorts_layer call.order sight >>= (λ sorts.
        safe_call_type call.place (function_name call.function) (function_of catalog definitions (function_name call.function))
        (has_modifier call.distinct call.star call.nulls call.order call.limit) arguments))

    -- ---- CASE

    -- the tests of a CASE without a subject are conditions
    abbrev pub branches_layer : List (When E) → Sight → Checked (List Arg)
    branches_layer [] sight = Ok []
    branches_layer (when ∷ whens) sight =
        condition_layer when.test sight >>= (λ _. parts.expr when.result sight >>= (λ r. branches_layer whens sight >>= (λ rs. Ok (r ∷ rs))))

    -- the WHEN values and the results of a CASE with a subject
    abbrev pub values_layer : List (When E) → Sight → Checked (List Arg × List Arg)
    values_layer [] sight = Ok ([], [])
    values_layer (when ∷ whens) sight =
        parts.expr when.test sight >>= (λ v. parts.expr when.result sight >>= (λ r. values_layer whens sight >>= (λ rest. Ok (v ∷ rest.0, r ∷ rest.1))))

    -- without ELSE a CASE ends in NULL
    abbrev pub otherwise_layer : Option E → Sight → Checked Arg
    otherwise_layer None sight = untyped
    otherwise_layer (Some e) sight = parts.expr e sight

    -- the results have a supertype (rule 10 at CASE)
    abbrev pub results_type : ℕ → List Arg → Arg → Checked Arg
    results_type place results last = common_type place (supertype (results ++ last ∷ [])) >>= other

    abbrev pub case_layer : ℕ → Option E → List (When E) → Option E → Sight → Checked Arg
    case_layer place None whens last sight =
        branches_layer whens sight >>= (λ results. otherwise_layer last sight >>= (λ l. results_type place results l))
    -- the subject and the WHEN values are compared in their supertype
    case_layer place (Some subject) whens last sight =
        parts.expr subject sight >>= (λ s.
        values_layer whens sight >>= (λ both.
        otherwise_layer last sight >>= (λ l.
        compared_type place (s ∷ both.0) >>= (λ _.
        results_type place both.1 l))))

    -- ---- WITH expressions

    -- each variable sees the earlier ones; one of a name that is there already is rule 8, after it is typed
    abbrev pub bindings_layer : List (Binding E) → List Entry → Sight → Checked (List Entry)
    bindings_layer [] scope sight = Ok scope
    bindings_layer (b ∷ bindings) scope sight =
        parts.expr b.expr (inside sight scope) >>= (λ a.
        unless (entry_named b.name.text scope) 8 b.name.place >>= (λ _.
        bindings_layer bindings (scope ++ variable_entry b.name.text (type_of a) ∷ []) sight))

    -- ---- typed arrays and STRUCTs

    -- each element has the type that is needed, as soon as it is typed
    abbrev pub elements_layer : SqlType → List E → Sight → Checked (Unit {0})
    elements_layer type [] sight = Ok tt
    elements_layer type (e ∷ es) sight = parts.expr e sight >>= (λ a. needed type (place_of (parts.tree e)) a >>= (λ _. elements_layer type es sight))

    -- each expression has its field's type, as soon as it is typed
    abbrev pub fields_layer : List (Named SqlType) → List E → Sight → Checked (Unit {0})
    fields_layer fields [] sight = Ok tt
    fields_layer [] (e ∷ es) sight = parts.expr e sight >>= (λ a. fields_layer [] es sight)
    fields_layer (f ∷ fields) (e ∷ es) sight = parts.expr e sight >>= (λ a. needed f.ty (place_of (parts.tree e)) a >>= (λ _. fields_layer fields es sight))

    abbrev pub aliased_args : List (Aliased E) → Sight → Checked (List Arg)
    aliased_args [] sight = Ok []
    aliased_args (x ∷ xs) sight = parts.expr x.expr sight >>= (λ a. aliased_args xs sight >>= (λ rest. Ok (a ∷ rest)))

    abbrev pub aliased_names : List (Aliased E) → List (Option (List ℕ))
    aliased_names xs = map (λ x. named_or x.alias (implied_name (parts.tree x.expr))) xs

    -- ---- the forms

    abbrev pub expr_layer : Expr-F E P T F J Q S → Sight → Checked Arg
    expr_layer (ast.Or first rest place) sight = chained first rest sight
    expr_layer (ast.And first rest place) sight = chained first rest sight
    expr_layer (ast.Not operators operand place) sight = parts.expr operand sight >>= not_type operators
    expr_layer (ast.BitOr first rest place) sight = chained first rest sight
    expr_layer (ast.BitXor first rest place) sight = chained first rest sight
    expr_layer (ast.BitAnd first rest place) sight = chained first rest sight
    expr_layer (ast.Shift first rest place) sight = chained first rest sight
    expr_layer (ast.Sum first rest place) sight = chained first rest sight
    expr_layer (ast.Product first rest place) sight = chained first rest sight
    expr_layer (ast.Unary operators operand place) sight = parts.expr operand sight >>= prefix_type (integer_literal (parts.tree operand)) operators
    expr_layer (ast.Compare left operator operator_place right place) sight = binary (comparison_name operator) operator_place left right sight
    expr_layer (ast.Like left negated operator_place right place) sight = binary (codes "LIKE") operator_place left right sight
    expr_layer (ast.LikeList left quantifier operator_place patterns place) sight = unbuilt
    expr_layer (ast.LikeUnnest left quantifier operator_place array place) sight = unbuilt
    expr_layer (ast.Between subject negated operator_place low high place) sight =
        args_layer (subject ∷ low ∷ high ∷ []) sight >>= operator_type (codes "BETWEEN") operator_place
    -- IN compares in the supertype of the search value and of the elements, of the subquery's column, or of the array's element
    expr_layer (ast.InList left negated operator_place list place) sight =
        args_layer (left ∷ list) sight >>= (λ arguments. compared_type operator_place arguments >>= (λ _. other ty.Bool))
    expr_layer (ast.InQuery left negated operator_place query open_place place) sight =
        parts.expr left sight >>= (λ a. subquery query sight >>= one_column open_place >>= (λ type.
        compared_type operator_place (a ∷ other_arg type ∷ []) >>= (λ _. other ty.Bool)))
    expr_layer (ast.InUnnest left negated operator_place array place) sight =
        parts.expr left sight >>= (λ a. parts.expr array sight >>= (λ b. element_of (place_of (parts.tree array)) (type_of b) >>= (λ element.
        compared_type operator_place (a ∷ other_arg element ∷ []) >>= (λ _. other ty.Bool))))
    expr_layer (ast.Is left negated test operator_place place) sight = parts.expr left sight >>= (λ a. operator_type (test_name test) operator_place (a ∷ []))
    expr_layer (ast.Distinct left negated operator_place right place) sight = binary (codes "IS DISTINCT FROM") operator_place left right sight
    expr_layer (ast.Postfix first more place) sight = postfix_layer place (single_name (parts.tree first)) first more sight
    expr_layer (ast.Integer n place) sight = literal (integer_type n) (integer_value n)
    expr_layer (ast.Text text place) sight = literal ty.Text (value.Text text)
    expr_layer (ast.Bytes bytes place) sight = literal ty.Bytes (value.Bytes bytes)
    expr_layer (ast.Bool truth place) sight = literal ty.Bool (value.Bool truth)
    expr_layer (ast.Null place) sight = untyped
    expr_layer (ast.Date text place) sight = date_literal place text
    -- no such parameter: rule 23
    expr_layer (ast.Parameter name place) sight = elim (param_type catalog name) [ None ↦ broken 23 place | Some type ↦ Ok (record { ty = Some type; kind = kind.Parameter }) ]
    expr_layer (ast.Name name place) sight = path_layer place place name [] sight
    expr_layer (ast.Call call place) sight = call_layer call sight
    expr_layer (ast.SafeCall call place) sight = safe_call_layer call sight
    expr_layer (ast.Scalar query place) sight = subquery query sight >>= one_column place >>= other
    -- `(e, g)` has unnamed fields
    expr_layer (ast.Tuple es place) sight = args_layer es sight >>= (λ arguments. other (ty.Struct (struct_fields [] arguments)))
    expr_layer (ast.Case subject branches otherwise place) sight = case_layer place subject branches otherwise sight
    expr_layer (ast.Cast safe e type place) sight = parts.expr e sight >>= (λ a. written_type type >>= (λ to. cast_type place to a))
    expr_layer (ast.Extract part e place) sight = parts.expr e sight >>= extract_type place part
    expr_layer (ast.Grouping argument place) sight = unbuilt
    expr_layer (ast.Exists query place) sight = subquery query sight >>= (λ columns. other ty.Bool)
    expr_layer (ast.ArrayQuery query open_place place) sight = subquery query sight >>= one_column open_place >>= array_of place >>= other
    expr_layer (ast.Array None es open_place place) sight = args_layer es sight >>= array_literal place open_place
    expr_layer (ast.Array (Some type) es open_place place) sight =
        written_type type >>= array_of place >>= (λ array. element_of place array >>= (λ element. elements_layer element es sight >>= (λ _. other array)))
    expr_layer (ast.Struct fields place) sight = aliased_args fields sight >>= (λ arguments. other (ty.Struct (struct_fields (aliased_names fields) arguments)))
    -- each expression has its field's type, and there are as many as fields (rule 18 at the bracket)
    expr_layer (ast.TypedStruct fields es open_place place) sight =
        field_types (map (λ f. record { name = f.name; ty = written_type f.ty }) fields) >>= (λ types.
        fields_layer types es sight >>= (λ _.
        unless (not (length types == length es)) 18 open_place >>= (λ _. other (ty.Struct types))))
    expr_layer (ast.With bindings result place) sight =
        bindings_layer bindings [] sight >>= (λ scope. parts.expr result (inside sight scope) >>= (λ a. other (type_of a)))

    -- ---- FROM

    -- A CTE hides a catalog name. A name that is none, and no table or view in sight, is rule 5 at the name.
    abbrev pub table_columns : Name → Option CteColumns → Checked Columns
    table_columns name (Some cte) = Ok cte.columns
    table_columns name None = elim (table_of catalog name.text) [
      | Some columns ↦ Ok columns
      | None ↦ elim (view_of catalog definitions name.text) [ Some columns ↦ columns | None ↦ broken 5 name.place ]
    ]

    abbrev pub primary_layer : Primary-F E P T F J Q S → Sight → List Entry → Checked FromScope
    -- the range variable is the alias, else the name
    primary_layer (ast.Table name alias None place) sight left =
        table_columns name (last_cte (λ c. c.name) name.text sight.ctes) >>= (λ columns. Ok (columns_scope (named_or alias (Some name.text)) columns))
    primary_layer (ast.Table name alias (Some turned) place) sight left = unbuilt
    -- a subquery sees no sibling, and without an alias it has no range variable
    primary_layer (Primary-F.«Primary::Query» query alias None place) sight left =
        parts.query query (for_struct false sight) >>= (λ columns. Ok (columns_scope (name_text alias) columns))
    primary_layer (Primary-F.«Primary::Query» query alias (Some turned) place) sight left = unbuilt
    primary_layer (ast.Path path alias offset place) sight left =
        path_element place (sight.levels ++ left ∷ []) path >>= (λ element. Ok (unnest_scope (named_or alias (last_name path)) element offset))
    primary_layer (ast.Unnest array alias offset place) sight left =
        parts.expr array (inside sight left) >>= (λ a. element_of (place_of (parts.tree array)) (type_of a) >>= (λ element. Ok (unnest_scope (name_text alias) element offset)))

    -- the condition of a join, over the items to its left and its own
    abbrev pub on_layer : Option (On E) → FromScope → FromScope → Sight → Checked FromScope
    on_layer None left right sight = Ok (beside left right)
    on_layer (Some (on.On condition place)) left right sight =
        condition_layer condition (inside sight (beside left right).scope) >>= (λ _. Ok (beside left right))
    on_layer (Some (on.Using columns place)) left right sight =
        using_columns left.scope right.scope columns >>= (λ using. Ok (using_scope left right using))

    abbrev pub joined_layer : Joined-F E P T F J Q S → Sight → FromScope → Checked FromScope
    joined_layer j sight left =
        parts.primary j.primary sight (seen_scope (hides_left j.word) left) >>= (λ right.
        unless (repeats_range left.scope right.scope) 8 (primary_place (out-Primary (parts.item j.primary))) >>= (λ _.
        on_layer j.on left right sight))

    abbrev pub joins_layer : List J → Sight → FromScope → Checked FromScope
    joins_layer [] sight left = Ok left
    joins_layer (j ∷ js) sight left = parts.joined j sight left >>= (λ all. joins_layer js sight all)

    -- joins and commas associate to the left
    abbrev pub from_layer : FromItem-F E P T F J Q S → Sight → Checked FromScope
    from_layer f sight = parts.primary f.first sight [] >>= (λ first. joins_layer f.rest sight first)

    abbrev pub from_part : Option F → Sight → Checked FromScope
    from_part None sight = Ok no_from
    from_part (Some f) sight = parts.from f sight

    -- ---- the select list

    abbrev pub replacements_layer : List (Replacement E) → Sight → Checked (List (List ℕ × SqlType))
    replacements_layer [] sight = Ok []
    replacements_layer (r ∷ rs) sight = parts.expr r.expr sight >>= (λ a. replacements_layer rs sight >>= (λ types. Ok ((r.name.text, type_of a) ∷ types)))

    -- the expressions of REPLACE first, then what EXCEPT and REPLACE list
    abbrev pub edit_layer : ℕ → Edit E → Columns → Sight → Checked Columns
    edit_layer place edit columns sight =
        replacements_layer edit.replace sight >>= (λ replaced.
        let except = map (λ n. n.text) edit.except in
        let left = edited except replaced columns in
        unless (faulty_edit (except ++ map (λ r. r.0) replaced) columns left) 20 place >>= (λ _. Ok left))

    -- `x.*`: the columns of a range variable, or the fields of a STRUCT
    abbrev pub qualified_layer : E → Sight → Option (List Entry × List Member) → Checked Columns
    qualified_layer e sight (Some range) = Ok (member_columns range.0 range.1)
    qualified_layer e sight None = parts.expr e sight >>= (λ a. struct_columns (place_of (parts.tree e)) (out-SqlType (type_of a)))

    abbrev pub range_named : Option (List ℕ) → Sight → Option (List Entry × List Member)
    range_named None sight = None
    range_named (Some name) sight = range_of sight.levels (found sight.levels name [])

    abbrev pub item_layer : FromScope → Item E → Sight → Checked Columns
    item_layer from (item.Star edit place) sight = edit_layer place edit (columns_at from.scope from.star) sight
    item_layer from (item.QualifiedStar e edit place) sight =
        qualified_layer e sight (range_named (single_name (parts.tree e)) sight) >>= (λ columns. edit_layer place edit columns sight)
    item_layer from (item.Expr e alias place) sight =
        parts.expr e sight >>= (λ a. Ok (record { name = named_or alias (implied_name (parts.tree e)); ty = type_of a } ∷ []))

    -- items from left to right
    abbrev pub items_layer : FromScope → List (Item E) → Sight → Checked Columns
    items_layer from [] sight = Ok []
    items_layer from (i ∷ is) sight = item_layer from i sight >>= (λ c. items_layer from is sight >>= (λ cs. Ok (c ++ cs)))

    -- ---- queries

    abbrev pub where_layer : Option E → Sight → Checked (Option (Unit {0}))
    where_layer test sight = if_there (λ e. condition_layer e sight) test

    -- FROM, WHERE, the select list
    abbrev pub plain_select : Select-F E P T F J Q S → Sight → Checked Columns
    plain_select s sight =
        from_part s.from sight >>= (λ from.
        where_layer s.filter (inside sight from.scope) >>= (λ _.
        items_layer from s.items (inside sight from.scope) >>= (λ columns.
        as_one_struct s.as_struct sight.as_struct s.place columns)))

    abbrev pub select_layer : Select-F E P T F J Q S → Sight → Checked Columns
    select_layer s sight = elim (is_plain_select s) [ true ↦ plain_select s sight | false ↦ unbuilt ]

    abbrev pub term_layer : Term-F E P T F J Q S → Sight → Checked Columns
    term_layer (Term-F.Select select) sight = parts.select select sight
    term_layer (Term-F.«Term::Query» query place) sight = parts.query query sight

    -- each CTE sees the earlier ones; one of a name that is there already is rule 8, after it is typed
    abbrev pub ctes_layer : List (List ℕ) → List (Cte Q) → Sight → Checked Sight
    ctes_layer names [] sight = Ok sight
    ctes_layer names (c ∷ ctes) sight =
        parts.query c.query (for_struct false sight) >>= (λ columns.
        unless (cte_named c.name.text names) 8 c.name.place >>= (λ _.
        ctes_layer (c.name.text ∷ names) ctes (with_cte sight (record { name = c.name.text; columns = columns }))))

    -- WITH, and then the body
    abbrev pub query_layer : Query-F E P T F J Q S → Sight → Checked Columns
    query_layer q sight = elim (is_plain_query q) [
      | true ↦ ctes_layer [] q.ctes sight >>= (λ inner. parts.term q.body.first inner)
      | false ↦ unbuilt
    ]
