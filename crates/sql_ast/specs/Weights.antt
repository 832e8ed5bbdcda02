-- The weight of a text: the sum over its tree of what each part counts. Views and functions are leaves.
use Rattle.std.specs.Prelude.{ℕ, suc, ◌+◌, ◌-◌, ◌*◌, ◌/◌, ◌^◌, List, [], ◌∷◌, length, Option, None, Some}
use Rattle.sql_ast.specs.declared.clauses.Aliased.{Aliased}
use Rattle.sql_ast.specs.declared.clauses.Arg.{Arg}
use Rattle.sql_ast.specs.declared.clauses.Arg.TheVariants as arg
use Rattle.sql_ast.specs.declared.clauses.Binding.{Binding}
use Rattle.sql_ast.specs.declared.clauses.Call.{Call}
use Rattle.sql_ast.specs.declared.clauses.Edit.{Edit}
use Rattle.sql_ast.specs.declared.clauses.FilterPart.{FilterPart}
use Rattle.sql_ast.specs.declared.clauses.Function.{Function}
use Rattle.sql_ast.specs.declared.clauses.Function.TheVariants as function
use Rattle.sql_ast.specs.declared.clauses.Item.{Item}
use Rattle.sql_ast.specs.declared.clauses.Item.TheVariants as item
use Rattle.sql_ast.specs.declared.clauses.LimitPart.{LimitPart}
use Rattle.sql_ast.specs.declared.clauses.Name.{Name}
use Rattle.sql_ast.specs.declared.clauses.On.{On}
use Rattle.sql_ast.specs.declared.clauses.On.TheVariants as on
use Rattle.sql_ast.specs.declared.clauses.PivotCall.{PivotCall}
use Rattle.sql_ast.specs.declared.clauses.Replacement.{Replacement}
use Rattle.sql_ast.specs.declared.clauses.Sort.{Sort}
use Rattle.sql_ast.specs.declared.clauses.Turn.{Turn}
use Rattle.sql_ast.specs.declared.clauses.Turn.TheVariants as turn
use Rattle.sql_ast.specs.declared.clauses.Turned.{Turned}
use Rattle.sql_ast.specs.declared.clauses.UnpivotColumn.{UnpivotColumn}
use Rattle.sql_ast.specs.declared.clauses.When.{When}
use Rattle.sql_ast.specs.declared.clauses.WithOffset.{WithOffset}
use Rattle.sql_ast.specs.declared.expr.Link.{Link}
use Rattle.sql_ast.specs.declared.expr.Part.{Part}
use Rattle.sql_ast.specs.declared.expr.Part.TheVariants as part
use Rattle.sql_ast.specs.declared.expr.Expr.{Expr, fold-Expr}
use Rattle.sql_ast.specs.declared.expr.Expr.TheOpen as ast
use Rattle.sql_ast.specs.declared.expr.Expr.TheOpen.{Expr-F, Primary-F, Term-F, FromItem-F, Joined-F, Query-F, Select-F}
use Rattle.sql_ast.specs.declared.grouping.Cube.{Cube}
use Rattle.sql_ast.specs.declared.grouping.CubeKind.{CubeKind}
use Rattle.sql_ast.specs.declared.grouping.CubeKind.TheVariants as cube
use Rattle.sql_ast.specs.declared.grouping.GroupItem.{GroupItem}
use Rattle.sql_ast.specs.declared.grouping.GroupItem.TheVariants as group_item
use Rattle.sql_ast.specs.declared.grouping.GroupSet.{GroupSet}
use Rattle.sql_ast.specs.declared.grouping.GroupSet.TheVariants as group_set
use Rattle.sql_ast.specs.declared.grouping.Groups.{Groups}
use Rattle.sql_ast.specs.declared.grouping.Groups.TheVariants as groups
use Rattle.sql_ast.specs.declared.query.Query.{Query, fold-Query}
use Rattle.sql_ast.specs.declared.type_spelling.TypeField.{TypeField}
use Rattle.sql_ast.specs.declared.type_spelling.TypeSpelling.{TypeSpelling, fold-TypeSpelling}
use Rattle.sql_ast.specs.declared.type_spelling.TypeSpelling.TheOpen as spelling

-- ---- sums

abbrev pub sum : {A : Type 0} → (A → ℕ) → List A → ℕ
sum weight [] = 0
sum weight (x ∷ xs) = weight x + sum weight xs

-- of a part that may be missing
abbrev pub if_there : {A : Type 0} → (A → ℕ) → Option A → ℕ
if_there weight None = 0
if_there weight (Some x) = weight x

-- a clause counts 1 and its parts; one that isn't written counts nothing
abbrev pub clause : {A : Type 0} → (A → ℕ) → Option A → ℕ
clause weight None = 0
clause weight (Some x) = 1 + weight x

abbrev pub list_clause : {A : Type 0} → (A → ℕ) → List A → ℕ
list_clause weight [] = 0
list_clause weight (x ∷ xs) = 1 + sum weight (x ∷ xs)

abbrev pub its_own : ℕ → ℕ
its_own n = n

-- ---- names, literals and types

-- every name and literal adds its length in bytes divided by 32
abbrev pub length_weight : List ℕ → ℕ
length_weight bytes = length bytes / 32

abbrev pub name_weight : Name → ℕ
name_weight name = length_weight name.text

abbrev pub names_weight : List Name → ℕ
names_weight names = sum name_weight names

abbrev pub alias_weight : Option Name → ℕ
alias_weight alias = if_there name_weight alias

-- every part of a written type counts 1
abbrev pub type_layer : spelling.TypeSpelling-F ℕ → ℕ
type_layer (spelling.Name name) = 1 + name_weight name
type_layer (spelling.Array element place) = 1 + element
type_layer (spelling.Struct fields place) = 1 + sum (λ f. alias_weight f.name + f.ty) fields

unfoldable pub type_weight : TypeSpelling → ℕ
type_weight = fold-TypeSpelling ℕ type_layer

-- ---- parts, given by the weights of their own parts

abbrev pub links_weight : List (Link ℕ) → ℕ
links_weight links = sum (λ l. l.operand) links

-- each part of a path or postfix after its first counts 1
abbrev pub part_weight : Part ℕ → ℕ
part_weight (part.Field name) = 1 + name_weight name
part_weight (part.Index form index place) = 1 + index

-- a lambda adds 8
abbrev pub argument_weight : Arg ℕ → ℕ
argument_weight (arg.Expr e) = e
argument_weight (arg.Lambda variables body place) = 8 + (names_weight variables + body)
argument_weight (arg.Interval amount part place) = amount + name_weight part

-- every sort item counts 1
abbrev pub sort_weight : Sort ℕ → ℕ
sort_weight s = 1 + s.expr

abbrev pub function_weight : Function → ℕ
function_weight function.If = 0
function_weight (function.Named name) = length_weight name

-- a call is an expression; its ORDER BY and LIMIT are clauses
abbrev pub call_weight : Call ℕ → ℕ
call_weight call = 1 + (function_weight call.function + (sum argument_weight call.arguments + (list_clause sort_weight call.order + clause (λ n. 0) call.limit)))

abbrev pub replacement_weight : Replacement ℕ → ℕ
replacement_weight r = r.expr + name_weight r.name

abbrev pub edit_weight : Edit ℕ → ℕ
edit_weight edit = names_weight edit.except + sum replacement_weight edit.replace

-- every select item counts 1
abbrev pub item_weight : Item ℕ → ℕ
item_weight (item.Star edit place) = 1 + edit_weight edit
item_weight (item.QualifiedStar e edit place) = 1 + (e + edit_weight edit)
item_weight (item.Expr e alias place) = 1 + (e + alias_weight alias)

-- ON and USING are clauses
abbrev pub on_weight : On ℕ → ℕ
on_weight (on.On condition place) = condition
on_weight (on.Using columns place) = names_weight columns

abbrev pub aliased_weight : Aliased ℕ → ℕ
aliased_weight x = x.expr + alias_weight x.alias

abbrev pub pivot_call_weight : PivotCall ℕ → ℕ
pivot_call_weight k = call_weight k.call + alias_weight k.alias

abbrev pub unpivot_column_weight : UnpivotColumn → ℕ
unpivot_column_weight c = name_weight c.name + if_there length_weight c.label

-- PIVOT counts its aggregates once per value; the name of its input is a path, each part of which after its first counts 1
abbrev pub turn_weight : Turn ℕ → ℕ
turn_weight (turn.Pivot aggregates input values place) = length values * sum pivot_call_weight aggregates + ((length input - 1) + (names_weight input + sum aliased_weight values))
turn_weight (turn.Unpivot include_nulls value label columns place) = name_weight value + (name_weight label + sum unpivot_column_weight columns)

abbrev pub turned_weight : Turned ℕ → ℕ
turned_weight t = turn_weight t.turn + alias_weight t.alias

abbrev pub offset_weight : WithOffset → ℕ
offset_weight offset = alias_weight offset.alias

-- ---- grouping

-- a grouping item counts as its expressions alone
abbrev pub group_item_weight : GroupItem ℕ → ℕ
group_item_weight (group_item.Expr e) = e
group_item_weight (group_item.List es place) = sum its_own es

abbrev pub cube_weight : Cube ℕ → ℕ
cube_weight c = sum group_item_weight c.items

abbrev pub set_weight : GroupSet ℕ → ℕ
set_weight (group_set.Item i) = group_item_weight i
set_weight (group_set.Cube c) = cube_weight c

abbrev pub groups_weight : Groups ℕ → ℕ
groups_weight (groups.Keys keys place) = sum its_own keys
groups_weight (groups.Empty place) = 0
groups_weight (groups.Sets sets place) = sum set_weight sets
groups_weight (groups.Cube c place) = cube_weight c

-- how many sets ROLLUP and CUBE stand for
abbrev pub sets_by : CubeKind → ℕ → ℕ
sets_by cube.Rollup n = suc n
sets_by cube.Cube n = 2 ^ n

abbrev pub cube_sets : {E : Type 0} → Cube E → ℕ
cube_sets c = sets_by c.kind (length c.items)

abbrev pub set_sets : {E : Type 0} → GroupSet E → ℕ
set_sets (group_set.Item i) = 1
set_sets (group_set.Cube c) = cube_sets c

-- how many grouping sets a GROUP BY has
abbrev pub grouping_sets : {E : Type 0} → Groups E → ℕ
grouping_sets (groups.Keys keys place) = 1
grouping_sets (groups.Empty place) = 1
grouping_sets (groups.Sets sets place) = sum set_sets sets
grouping_sets (groups.Cube c place) = cube_sets c

-- The list, HAVING and keys of a SELECT with grouping sets count once per set.
abbrev pub times : {E : Type 0} → Option (Groups E) → ℕ
times None = 1
times (Some g) = grouping_sets g

-- ---- one case per construct; every expression counts 1

abbrev pub expr_weight : Expr-F ℕ ℕ ℕ ℕ ℕ ℕ ℕ → ℕ
expr_weight (ast.Or first rest place) = 1 + (first + links_weight rest)
expr_weight (ast.And first rest place) = 1 + (first + links_weight rest)
expr_weight (ast.Not operators operand place) = 1 + operand
expr_weight (ast.BitOr first rest place) = 1 + (first + links_weight rest)
expr_weight (ast.BitXor first rest place) = 1 + (first + links_weight rest)
expr_weight (ast.BitAnd first rest place) = 1 + (first + links_weight rest)
expr_weight (ast.Shift first rest place) = 1 + (first + links_weight rest)
expr_weight (ast.Sum first rest place) = 1 + (first + links_weight rest)
expr_weight (ast.Product first rest place) = 1 + (first + links_weight rest)
expr_weight (ast.Unary operators operand place) = 1 + operand
expr_weight (ast.Compare left operator operator_place right place) = 1 + (left + right)
expr_weight (ast.Like left negated operator_place right place) = 1 + (left + right)
-- a quantified LIKE adds 8
expr_weight (ast.LikeList left quantifier operator_place patterns place) = 9 + (left + sum its_own patterns)
expr_weight (ast.LikeUnnest left quantifier operator_place array place) = 9 + (left + array)
expr_weight (ast.Between subject negated operator_place low high place) = 1 + (subject + (low + high))
expr_weight (ast.InList left negated operator_place list place) = 1 + (left + sum its_own list)
expr_weight (ast.InQuery left negated operator_place query open_place place) = 1 + (left + query)
expr_weight (ast.InUnnest left negated operator_place array place) = 1 + (left + array)
expr_weight (ast.Is left negated test operator_place place) = 1 + left
expr_weight (ast.Distinct left negated operator_place right place) = 1 + (left + right)
-- the parts behind the first, which is an expression itself; a path and a postfix are their first with parts
expr_weight (ast.Postfix first parts place) = first + sum part_weight parts
expr_weight (ast.Integer value place) = 1
expr_weight (ast.Text value place) = 1 + length_weight value
expr_weight (ast.Bytes value place) = 1 + length_weight value
expr_weight (ast.Bool value place) = 1
expr_weight (ast.Null place) = 1
expr_weight (ast.Date text place) = 1 + length_weight text
expr_weight (ast.Parameter name place) = 1 + length_weight name
expr_weight (ast.Name name place) = 1 + length_weight name
expr_weight (ast.Call call place) = call_weight call
expr_weight (ast.SafeCall call place) = call_weight call
expr_weight (ast.Scalar query place) = 1 + query
expr_weight (ast.Tuple parts place) = 1 + sum its_own parts
expr_weight (ast.Case subject branches otherwise place) = 1 + (if_there its_own subject + (sum (λ w. w.test + w.result) branches + if_there its_own otherwise))
expr_weight (ast.Cast safe e type place) = 1 + (e + type_weight type)
expr_weight (ast.Extract part e place) = 1 + (name_weight part + e)
expr_weight (ast.Grouping argument place) = 1 + argument
expr_weight (ast.Exists query place) = 1 + query
expr_weight (ast.ArrayQuery query open_place place) = 1 + query
expr_weight (ast.Array element items open_place place) = 1 + (if_there type_weight element + sum its_own items)
expr_weight (ast.Struct parts place) = 1 + sum aliased_weight parts
expr_weight (ast.TypedStruct fields parts open_place place) = 1 + (sum (λ f. alias_weight f.name + type_weight f.ty) fields + sum its_own parts)
expr_weight (ast.With bindings result place) = 1 + (sum (λ b. name_weight b.name + b.expr) bindings + result)

-- every FROM item counts 1; PIVOT and UNPIVOT are clauses
abbrev pub primary_weight : Primary-F ℕ ℕ ℕ ℕ ℕ ℕ ℕ → ℕ
primary_weight (ast.Table name alias t place) = 1 + (name_weight name + (alias_weight alias + clause turned_weight t))
primary_weight (Primary-F.«Primary::Query» query alias t place) = 1 + (query + (alias_weight alias + clause turned_weight t))
primary_weight (ast.Path path alias offset place) = 1 + ((length path - 1) + (names_weight path + (alias_weight alias + if_there offset_weight offset)))
primary_weight (ast.Unnest array alias offset place) = 1 + (array + (alias_weight alias + if_there offset_weight offset))

abbrev pub joined_weight : Joined-F ℕ ℕ ℕ ℕ ℕ ℕ ℕ → ℕ
joined_weight j = j.primary + clause on_weight j.on

abbrev pub from_weight : FromItem-F ℕ ℕ ℕ ℕ ℕ ℕ ℕ → ℕ
from_weight f = f.first + sum its_own f.rest

abbrev pub term_weight : Term-F ℕ ℕ ℕ ℕ ℕ ℕ ℕ → ℕ
term_weight (Term-F.Select select) = select
term_weight (Term-F.«Term::Query» query place) = query

-- SELECT, FROM, WHERE, GROUP BY and HAVING are clauses
abbrev pub select_weight : Select-F ℕ ℕ ℕ ℕ ℕ ℕ ℕ → ℕ
select_weight s =
    1 + (times s.grouping * sum item_weight s.items + (clause its_own s.from + (clause its_own s.filter
    + (clause (λ g. grouping_sets g * groups_weight g) s.grouping + if_there (λ h. times s.grouping * (1 + h.test)) s.having))))

abbrev pub limit_weight : LimitPart ℕ → ℕ
limit_weight limit = limit.count + if_there its_own limit.offset

-- a WITH list, each set operator, ORDER BY and LIMIT are clauses
abbrev pub query_weight : Query-F ℕ ℕ ℕ ℕ ℕ ℕ ℕ → ℕ
query_weight q =
    list_clause (λ c. name_weight c.name + c.query) q.ctes + (q.body.first + (sum (λ t. 1 + t.term) q.body.rest + (list_clause sort_weight q.order + clause limit_weight q.limit)))

unfoldable pub Weight : Query → ℕ
Weight = fold-Query ℕ ℕ ℕ ℕ ℕ ℕ ℕ expr_weight primary_weight term_weight from_weight joined_weight query_weight select_weight

-- the weight of an expression alone
unfoldable pub ExprWeight : Expr → ℕ
ExprWeight = fold-Expr ℕ ℕ ℕ ℕ ℕ ℕ ℕ expr_weight primary_weight term_weight from_weight joined_weight query_weight select_weight
