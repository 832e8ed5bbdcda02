-- The depth of a text: the greatest sum along a path of its tree. Views and functions are leaves.
use Rattle.std.specs.Prelude.{ℕ, ◌+◌, ◌-◌, max, List, [], ◌∷◌, length, Option, None, Some}
use Rattle.sql_ast.specs.declared.clauses.Aliased.{Aliased}
use Rattle.sql_ast.specs.declared.clauses.Arg.{Arg}
use Rattle.sql_ast.specs.declared.clauses.Arg.TheVariants as arg
use Rattle.sql_ast.specs.declared.clauses.Binding.{Binding}
use Rattle.sql_ast.specs.declared.clauses.Call.{Call}
use Rattle.sql_ast.specs.declared.clauses.Edit.{Edit}
use Rattle.sql_ast.specs.declared.clauses.FilterPart.{FilterPart}
use Rattle.sql_ast.specs.declared.clauses.Item.{Item}
use Rattle.sql_ast.specs.declared.clauses.Item.TheVariants as item
use Rattle.sql_ast.specs.declared.clauses.LimitPart.{LimitPart}
use Rattle.sql_ast.specs.declared.clauses.On.{On}
use Rattle.sql_ast.specs.declared.clauses.On.TheVariants as on
use Rattle.sql_ast.specs.declared.clauses.Sort.{Sort}
use Rattle.sql_ast.specs.declared.clauses.Turn.{Turn}
use Rattle.sql_ast.specs.declared.clauses.Turn.TheVariants as turn
use Rattle.sql_ast.specs.declared.clauses.Turned.{Turned}
use Rattle.sql_ast.specs.declared.clauses.When.{When}
use Rattle.sql_ast.specs.declared.expr.Link.{Link}
use Rattle.sql_ast.specs.declared.expr.Part.{Part}
use Rattle.sql_ast.specs.declared.expr.Part.TheVariants as part
use Rattle.sql_ast.specs.declared.expr.Expr.{Expr, fold-Expr}
use Rattle.sql_ast.specs.declared.expr.Expr.TheOpen as ast
use Rattle.sql_ast.specs.declared.expr.Expr.TheOpen.{Expr-F, Primary-F, Term-F, FromItem-F, Joined-F, Query-F, Select-F}
use Rattle.sql_ast.specs.declared.grouping.Cube.{Cube}
use Rattle.sql_ast.specs.declared.grouping.GroupItem.{GroupItem}
use Rattle.sql_ast.specs.declared.grouping.GroupItem.TheVariants as group_item
use Rattle.sql_ast.specs.declared.grouping.GroupSet.{GroupSet}
use Rattle.sql_ast.specs.declared.grouping.GroupSet.TheVariants as group_set
use Rattle.sql_ast.specs.declared.grouping.Groups.{Groups}
use Rattle.sql_ast.specs.declared.grouping.Groups.TheVariants as groups
use Rattle.sql_ast.specs.declared.query.Query.{Query, fold-Query}

-- the greatest of a list
abbrev pub deepest : {A : Type 0} → (A → ℕ) → List A → ℕ
deepest depth [] = 0
deepest depth (x ∷ xs) = max (depth x) (deepest depth xs)

-- of a part that may be missing
abbrev pub if_there : {A : Type 0} → (A → ℕ) → Option A → ℕ
if_there depth None = 0
if_there depth (Some x) = depth x

abbrev pub its_own : ℕ → ℕ
its_own n = n

-- ---- parts, given by the depths of their own parts

-- a chain of n operators, its operands by the deepest
abbrev pub operands : ℕ → List (Link ℕ) → ℕ
operands first rest = max first (deepest (λ l. l.operand) rest)

-- each operator of a chain but AND and OR adds 1
abbrev pub chain : ℕ → List (Link ℕ) → ℕ
chain first rest = length rest + operands first rest

abbrev pub part_depth : Part ℕ → ℕ
part_depth (part.Field name) = 0
part_depth (part.Index form index place) = index

-- a lambda adds 6
abbrev pub argument_depth : Arg ℕ → ℕ
argument_depth (arg.Expr e) = e
argument_depth (arg.Lambda variables body place) = 6 + body
argument_depth (arg.Interval amount part place) = amount

abbrev pub call_depth : Call ℕ → ℕ
call_depth call = 1 + max (deepest argument_depth call.arguments) (deepest (λ s. s.expr) call.order)

abbrev pub edit_depth : Edit ℕ → ℕ
edit_depth edit = deepest (λ r. r.expr) edit.replace

abbrev pub item_depth : Item ℕ → ℕ
item_depth (item.Star edit place) = edit_depth edit
item_depth (item.QualifiedStar e edit place) = max e (edit_depth edit)
item_depth (item.Expr e alias place) = e

abbrev pub on_depth : On ℕ → ℕ
on_depth (on.On condition place) = condition
on_depth (on.Using columns place) = 0

-- PIVOT and UNPIVOT add 4 to the paths through them; the name of PIVOT's input is a path
abbrev pub turn_depth : Turn ℕ → ℕ
turn_depth (turn.Pivot aggregates input values place) = 4 + max (deepest (λ k. call_depth k.call) aggregates) (max (length input - 1) (deepest (λ v. v.expr) values))
turn_depth (turn.Unpivot include_nulls value label columns place) = 4

abbrev pub turned : ℕ → Option (Turned ℕ) → ℕ
turned below None = below
turned below (Some t) = max below (turn_depth t.turn)

-- grouping sets add 4
abbrev pub group_item_depth : GroupItem ℕ → ℕ
group_item_depth (group_item.Expr e) = e
group_item_depth (group_item.List es place) = deepest its_own es

abbrev pub cube_depth : Cube ℕ → ℕ
cube_depth cube = deepest group_item_depth cube.items

abbrev pub set_depth : GroupSet ℕ → ℕ
set_depth (group_set.Item i) = group_item_depth i
set_depth (group_set.Cube c) = cube_depth c

abbrev pub groups_depth : Groups ℕ → ℕ
groups_depth (groups.Keys keys place) = deepest its_own keys
groups_depth (groups.Empty place) = 0
groups_depth (groups.Sets sets place) = 4 + deepest set_depth sets
groups_depth (groups.Cube cube place) = 4 + cube_depth cube

-- ---- one case per construct

abbrev pub expr_depth : Expr-F ℕ ℕ ℕ ℕ ℕ ℕ ℕ → ℕ
-- a chain of AND or OR adds 1
expr_depth (ast.Or first rest place) = 1 + operands first rest
expr_depth (ast.And first rest place) = 1 + operands first rest
-- a run of n prefix operators adds n
expr_depth (ast.Not operators operand place) = length operators + operand
expr_depth (ast.Unary operators operand place) = length operators + operand
-- a chain of n other operators adds n
expr_depth (ast.BitOr first rest place) = chain first rest
expr_depth (ast.BitXor first rest place) = chain first rest
expr_depth (ast.BitAnd first rest place) = chain first rest
expr_depth (ast.Shift first rest place) = chain first rest
expr_depth (ast.Sum first rest place) = chain first rest
expr_depth (ast.Product first rest place) = chain first rest
-- a quantified LIKE adds 6
expr_depth (ast.LikeList left quantifier operator_place patterns place) = 6 + max left (deepest its_own patterns)
expr_depth (ast.LikeUnnest left quantifier operator_place array place) = 6 + max left array
-- each part of a path or postfix after its first adds 1
expr_depth (ast.Postfix first parts place) = length parts + max first (deepest part_depth parts)
-- every other expression adds 1
expr_depth (ast.Compare left operator operator_place right place) = 1 + max left right
expr_depth (ast.Like left negated operator_place right place) = 1 + max left right
expr_depth (ast.Between subject negated operator_place low high place) = 1 + max subject (max low high)
expr_depth (ast.InList left negated operator_place list place) = 1 + max left (deepest its_own list)
expr_depth (ast.InQuery left negated operator_place query open_place place) = 1 + max left query
expr_depth (ast.InUnnest left negated operator_place array place) = 1 + max left array
expr_depth (ast.Is left negated test operator_place place) = 1 + left
expr_depth (ast.Distinct left negated operator_place right place) = 1 + max left right
expr_depth (ast.Integer value place) = 1
expr_depth (ast.Text value place) = 1
expr_depth (ast.Bytes value place) = 1
expr_depth (ast.Bool value place) = 1
expr_depth (ast.Null place) = 1
expr_depth (ast.Date text place) = 1
expr_depth (ast.Parameter name place) = 1
expr_depth (ast.Name name place) = 1
expr_depth (ast.Call call place) = call_depth call
expr_depth (ast.SafeCall call place) = call_depth call
expr_depth (ast.Scalar query place) = 1 + query
expr_depth (ast.Tuple parts place) = 1 + deepest its_own parts
expr_depth (ast.Case subject branches otherwise place) =
    1 + max (if_there its_own subject) (max (deepest (λ w. max w.test w.result) branches) (if_there its_own otherwise))
expr_depth (ast.Cast safe e type place) = 1 + e
expr_depth (ast.Extract part e place) = 1 + e
expr_depth (ast.Grouping argument place) = 1 + argument
expr_depth (ast.Exists query place) = 1 + query
expr_depth (ast.ArrayQuery query open_place place) = 1 + query
expr_depth (ast.Array element items open_place place) = 1 + deepest its_own items
expr_depth (ast.Struct parts place) = 1 + deepest (λ p. p.expr) parts
expr_depth (ast.TypedStruct fields parts open_place place) = 1 + deepest its_own parts
expr_depth (ast.With bindings result place) = 1 + max (deepest (λ b. b.expr) bindings) result

abbrev pub primary_depth : Primary-F ℕ ℕ ℕ ℕ ℕ ℕ ℕ → ℕ
primary_depth (ast.Table name alias t place) = turned 0 t
primary_depth (Primary-F.«Primary::Query» query alias t place) = turned query t
primary_depth (ast.Path path alias offset place) = length path - 1
primary_depth (ast.Unnest array alias offset place) = array

abbrev pub joined_depth : Joined-F ℕ ℕ ℕ ℕ ℕ ℕ ℕ → ℕ
joined_depth j = max j.primary (if_there on_depth j.on)

-- a FROM of n joins and commas adds n
abbrev pub from_depth : FromItem-F ℕ ℕ ℕ ℕ ℕ ℕ ℕ → ℕ
from_depth f = length f.rest + max f.first (deepest its_own f.rest)

abbrev pub term_depth : Term-F ℕ ℕ ℕ ℕ ℕ ℕ ℕ → ℕ
term_depth (Term-F.Select select) = select
term_depth (Term-F.«Term::Query» query place) = query

-- a SELECT adds 8
abbrev pub select_depth : Select-F ℕ ℕ ℕ ℕ ℕ ℕ ℕ → ℕ
select_depth s =
    8 + max (deepest item_depth s.items) (max (if_there its_own s.from) (max (if_there its_own s.filter) (max (if_there groups_depth s.grouping) (if_there (λ h. h.test) s.having))))

abbrev pub limit_depth : LimitPart ℕ → ℕ
limit_depth limit = max limit.count (if_there its_own limit.offset)

-- a query adds 2
abbrev pub query_depth : Query-F ℕ ℕ ℕ ℕ ℕ ℕ ℕ → ℕ
query_depth q =
    2 + max (deepest (λ c. c.query) q.ctes) (max (max q.body.first (deepest (λ t. t.term) q.body.rest)) (max (deepest (λ s. s.expr) q.order) (if_there limit_depth q.limit)))

unfoldable pub Depth : Query → ℕ
Depth = fold-Query ℕ ℕ ℕ ℕ ℕ ℕ ℕ expr_depth primary_depth term_depth from_depth joined_depth query_depth select_depth

-- the depth of an expression alone
unfoldable pub ExprDepth : Expr → ℕ
ExprDepth = fold-Expr ℕ ℕ ℕ ℕ ℕ ℕ ℕ expr_depth primary_depth term_depth from_depth joined_depth query_depth select_depth
