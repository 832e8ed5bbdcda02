-- The depth of a tree, one level at a time: each tree is as deep as the depths of its own parts say.
use Rattle.std.proofs.Common.{◌≡◌, ℕ, false, suc, ◌+◌, ◌-◌, max, min, List, [], ◌∷◌, map, length, Option, None, Some, refl, sym, ◌∙◌, ap, arith}
use Rattle.sql_ast.specs.declared.clauses.Aliased.{Aliased}
use Rattle.sql_ast.specs.declared.clauses.Arg.{Arg}
use Rattle.sql_ast.specs.declared.clauses.Arg.TheVariants as arg
use Rattle.sql_ast.specs.declared.clauses.Binding.{Binding}
use Rattle.sql_ast.specs.declared.clauses.Call.{Call}
use Rattle.sql_ast.specs.declared.clauses.Edit.{Edit}
use Rattle.sql_ast.specs.declared.clauses.FilterPart.{FilterPart}
use Rattle.sql_ast.specs.declared.clauses.Function.TheVariants as function
use Rattle.sql_ast.specs.declared.clauses.Item.{Item}
use Rattle.sql_ast.specs.declared.clauses.Item.TheVariants as item
use Rattle.sql_ast.specs.declared.clauses.LimitPart.{LimitPart}
use Rattle.sql_ast.specs.declared.clauses.Name.{Name}
use Rattle.sql_ast.specs.declared.clauses.On.{On}
use Rattle.sql_ast.specs.declared.clauses.On.TheVariants as on
use Rattle.sql_ast.specs.declared.clauses.PivotCall.{PivotCall}
use Rattle.sql_ast.specs.declared.clauses.Replacement.{Replacement}
use Rattle.sql_ast.specs.declared.clauses.Sort.{Sort}
use Rattle.sql_ast.specs.declared.clauses.Turn.{Turn}
use Rattle.sql_ast.specs.declared.clauses.Turn.TheVariants as turn
use Rattle.sql_ast.specs.declared.clauses.Turned.{Turned}
use Rattle.sql_ast.specs.declared.clauses.When.{When}
use Rattle.sql_ast.specs.declared.grouping.Cube.{Cube}
use Rattle.sql_ast.specs.declared.grouping.GroupItem.{GroupItem}
use Rattle.sql_ast.specs.declared.grouping.GroupItem.TheVariants as group_item
use Rattle.sql_ast.specs.declared.grouping.GroupSet.{GroupSet}
use Rattle.sql_ast.specs.declared.grouping.GroupSet.TheVariants as group_set
use Rattle.sql_ast.specs.declared.grouping.Groups.{Groups}
use Rattle.sql_ast.specs.declared.grouping.Groups.TheVariants as groups
use Rattle.sql_ast.specs.declared.expr.Link.{Link}
use Rattle.sql_ast.specs.declared.expr.Part.{Part}
use Rattle.sql_ast.specs.declared.expr.Part.TheVariants as part
use Rattle.sql_ast.specs.declared.query.Cte.{Cte}
use Rattle.sql_ast.specs.declared.query.SetTerm.{SetTerm}
use Rattle.sql_ast.specs.declared.expr.Expr.{Expr, out-Expr, roll-out-Expr, map-Expr, fold-roll-Expr}
use Rattle.sql_ast.specs.declared.query.Primary.{Primary, out-Primary, roll-out-Primary, map-Primary, fold-roll-Primary}
use Rattle.sql_ast.specs.declared.query.Term.{Term, out-Term, roll-out-Term, map-Term, fold-roll-Term}
use Rattle.sql_ast.specs.declared.query.FromItem.{FromItem, out-FromItem, roll-out-FromItem, map-FromItem, fold-roll-FromItem}
use Rattle.sql_ast.specs.declared.query.Joined.{Joined, out-Joined, roll-out-Joined, map-Joined, fold-roll-Joined}
use Rattle.sql_ast.specs.declared.query.Query.{Query, out-Query, roll-out-Query, map-Query, fold-roll-Query}
use Rattle.sql_ast.specs.declared.query.Select.{Select, out-Select, roll-out-Select, map-Select, fold-roll-Select}
use Rattle.sql_ast.specs.declared.expr.Expr.TheOpen.{Expr-F, Primary-F, Term-F, FromItem-F, Joined-F, Query-F, Select-F}
use Rattle.sql_ast.specs.declared.expr.Expr.TheOpen as ast
use Rattle.sql_ast.specs.declared.expr.Expr.TheShapes as shapes
use Rattle.sql_ast.specs.Depths as depths
use Rattle.sql_ast.specs.Depths.{deepest, if_there, Depth, ExprDepth}
use Rattle.sql_measures.specs.PartDepths as parts
use Rattle.sql_measures.specs.TreeDepths.{PrimaryDepth, TermDepth, FromDepth, JoinedDepth, SelectDepth}

-- ---- lists

counted : {A B : Type 0} (g : A → B) (xs : List A) → length (map g xs) ≡ length xs
counted g [] = refl
counted g (x ∷ xs) = ap suc (counted g xs)

-- a list is as deep as its parts, each by its own depth
moved : {A B : Type 0} (f : B → ℕ) (g : A → B) (h : A → ℕ) → ((x : A) → f (g x) ≡ h x) → (xs : List A) → deepest f (map g xs) ≡ deepest h xs
moved f g h same [] = refl
moved f g h same (x ∷ xs) = rw (same x) (ap (max (h x)) (moved f g h same xs))

own : (es : List Expr) → deepest depths.its_own (map ExprDepth es) ≡ deepest ExprDepth es
own = moved depths.its_own ExprDepth ExprDepth (λ e. refl)

abbrev link_of : Link Expr → Link ℕ
link_of l = record { operator = l.operator; operand = ExprDepth l.operand; place = l.place }

links : (ls : List (Link Expr)) → deepest (λ (l : Link ℕ). l.operand) (map link_of ls) ≡ deepest (parts.link_depth ExprDepth) ls
links = moved (λ l. l.operand) link_of (parts.link_depth ExprDepth) (λ l. refl)

operands : (first : Expr) (ls : List (Link Expr)) → depths.operands (ExprDepth first) (map link_of ls) ≡ max (ExprDepth first) (deepest (parts.link_depth ExprDepth) ls)
operands first ls = ap (max (ExprDepth first)) (links ls)

chain : (first : Expr) (ls : List (Link Expr)) → depths.chain (ExprDepth first) (map link_of ls) ≡ length ls + max (ExprDepth first) (deepest (parts.link_depth ExprDepth) ls)
chain first ls = rw (counted link_of ls) (ap (λ d. length ls + d) (operands first ls))

abbrev parts_of : List (Part Expr) → List (Part ℕ)
parts_of = shapes.former-Expr-Postfix-1.map Expr ℕ ExprDepth

all_parts : (ps : List (Part Expr)) → deepest depths.part_depth (parts_of ps) ≡ deepest (parts.part_depth ExprDepth) ps
all_parts [] = refl
all_parts (part.Field name ∷ ps) = ap (max 0) (all_parts ps)
all_parts (part.Index form index place ∷ ps) = ap (max (ExprDepth index)) (all_parts ps)

count_parts : (ps : List (Part Expr)) → length (parts_of ps) ≡ length ps
count_parts [] = refl
count_parts (p ∷ ps) = ap suc (count_parts ps)

-- ---- calls

abbrev called : Call Expr → Call ℕ
called = shapes.former-Expr-Call-0.map Expr ℕ ExprDepth

abbrev call_arguments : List (Arg Expr) → List (Arg ℕ)
call_arguments xs = (called (record { function = function.If; distinct = false; star = false; arguments = xs; nulls = None; order = []; limit = None; place = 0 })).arguments

arguments : (xs : List (Arg Expr)) → deepest depths.argument_depth (call_arguments xs) ≡ deepest (parts.argument_depth ExprDepth) xs
arguments [] = refl
arguments (arg.Expr e ∷ xs) = ap (max (ExprDepth e)) (arguments xs)
arguments (arg.Lambda variables body place ∷ xs) = ap (max (6 + ExprDepth body)) (arguments xs)
arguments (arg.Interval amount part place ∷ xs) = ap (max (ExprDepth amount)) (arguments xs)

abbrev sort_of : Sort Expr → Sort ℕ
sort_of s = record { expr = ExprDepth s.expr; descending = s.descending; nulls = s.nulls; place = s.place }

sorts : (ss : List (Sort Expr)) → deepest (λ (s : Sort ℕ). s.expr) (map sort_of ss) ≡ deepest (parts.sort_depth ExprDepth) ss
sorts = moved (λ s. s.expr) sort_of (parts.sort_depth ExprDepth) (λ s. refl)

a_call : (call : Call Expr) → depths.call_depth (called call) ≡ parts.call_depth ExprDepth call
a_call call = ap (λ d. 1 + max d (deepest (λ (s : Sort ℕ). s.expr) (map sort_of call.order))) (arguments call.arguments) ∙ ap (λ d. 1 + max (deepest (parts.argument_depth ExprDepth) call.arguments) d) (sorts call.order)

-- ---- other parts of expressions

abbrev when_of : When Expr → When ℕ
when_of w = record { test = ExprDepth w.test; result = ExprDepth w.result }

whens : (ws : List (When Expr)) → deepest (λ (w : When ℕ). max w.test w.result) (map when_of ws) ≡ deepest (parts.when_depth ExprDepth) ws
whens = moved (λ w. max w.test w.result) when_of (parts.when_depth ExprDepth) (λ w. refl)

abbrev optional : Option Expr → Option ℕ
optional = shapes.former-Expr-Case-0.map Expr ℕ ExprDepth

maybe : (e : Option Expr) → if_there depths.its_own (optional e) ≡ if_there ExprDepth e
maybe None = refl
maybe (Some e) = refl

abbrev aliased_of : Aliased Expr → Aliased ℕ
aliased_of x = record { expr = ExprDepth x.expr; alias = x.alias }

aliased : (xs : List (Aliased Expr)) → deepest (λ (x : Aliased ℕ). x.expr) (map aliased_of xs) ≡ deepest (parts.aliased_depth ExprDepth) xs
aliased = moved (λ x. x.expr) aliased_of (parts.aliased_depth ExprDepth) (λ x. refl)

abbrev binding_of : Binding Expr → Binding ℕ
binding_of b = record { name = b.name; expr = ExprDepth b.expr }

bindings : (bs : List (Binding Expr)) → deepest (λ (b : Binding ℕ). b.expr) (map binding_of bs) ≡ deepest (parts.binding_depth ExprDepth) bs
bindings = moved (λ b. b.expr) binding_of (parts.binding_depth ExprDepth) (λ b. refl)

-- ---- expressions

abbrev pub expr_at : Expr-F Expr Primary Term FromItem Joined Query Select → ℕ
expr_at (ast.Or first rest place) = 1 + max (ExprDepth first) (deepest (parts.link_depth ExprDepth) rest)
expr_at (ast.And first rest place) = 1 + max (ExprDepth first) (deepest (parts.link_depth ExprDepth) rest)
expr_at (ast.Not operators operand place) = length operators + ExprDepth operand
expr_at (ast.Unary operators operand place) = length operators + ExprDepth operand
expr_at (ast.BitOr first rest place) = length rest + max (ExprDepth first) (deepest (parts.link_depth ExprDepth) rest)
expr_at (ast.BitXor first rest place) = length rest + max (ExprDepth first) (deepest (parts.link_depth ExprDepth) rest)
expr_at (ast.BitAnd first rest place) = length rest + max (ExprDepth first) (deepest (parts.link_depth ExprDepth) rest)
expr_at (ast.Shift first rest place) = length rest + max (ExprDepth first) (deepest (parts.link_depth ExprDepth) rest)
expr_at (ast.Sum first rest place) = length rest + max (ExprDepth first) (deepest (parts.link_depth ExprDepth) rest)
expr_at (ast.Product first rest place) = length rest + max (ExprDepth first) (deepest (parts.link_depth ExprDepth) rest)
expr_at (ast.Postfix first more place) = length more + max (ExprDepth first) (deepest (parts.part_depth ExprDepth) more)
expr_at (ast.LikeList left quantifier operator_place patterns place) = 6 + max (ExprDepth left) (deepest ExprDepth patterns)
expr_at (ast.LikeUnnest left quantifier operator_place array place) = 6 + max (ExprDepth left) (ExprDepth array)
expr_at (ast.Compare left operator operator_place right place) = 1 + max (ExprDepth left) (ExprDepth right)
expr_at (ast.Like left negated operator_place right place) = 1 + max (ExprDepth left) (ExprDepth right)
expr_at (ast.Between subject negated operator_place low high place) = 1 + max (ExprDepth subject) (max (ExprDepth low) (ExprDepth high))
expr_at (ast.InList left negated operator_place list place) = 1 + max (ExprDepth left) (deepest ExprDepth list)
expr_at (ast.InQuery left negated operator_place query open_place place) = 1 + max (ExprDepth left) (Depth query)
expr_at (ast.InUnnest left negated operator_place array place) = 1 + max (ExprDepth left) (ExprDepth array)
expr_at (ast.Is left negated test operator_place place) = 1 + ExprDepth left
expr_at (ast.Distinct left negated operator_place right place) = 1 + max (ExprDepth left) (ExprDepth right)
expr_at (ast.Integer value place) = 1
expr_at (ast.Text value place) = 1
expr_at (ast.Bytes value place) = 1
expr_at (ast.Bool value place) = 1
expr_at (ast.Date text place) = 1
expr_at (ast.Parameter name place) = 1
expr_at (ast.Name name place) = 1
expr_at (ast.Null place) = 1
expr_at (ast.Call call place) = parts.call_depth ExprDepth call
expr_at (ast.SafeCall call place) = parts.call_depth ExprDepth call
expr_at (ast.Scalar query place) = 1 + Depth query
expr_at (ast.Tuple es place) = 1 + deepest ExprDepth es
expr_at (ast.Case subject branches otherwise place) = 1 + max (if_there ExprDepth subject) (max (deepest (parts.when_depth ExprDepth) branches) (if_there ExprDepth otherwise))
expr_at (ast.Cast safe e type place) = 1 + ExprDepth e
expr_at (ast.Extract part e place) = 1 + ExprDepth e
expr_at (ast.Grouping argument place) = 1 + ExprDepth argument
expr_at (ast.Exists query place) = 1 + Depth query
expr_at (ast.ArrayQuery query open_place place) = 1 + Depth query
expr_at (ast.Array element items open_place place) = 1 + deepest ExprDepth items
expr_at (ast.Struct es place) = 1 + deepest (parts.aliased_depth ExprDepth) es
expr_at (ast.TypedStruct fields es open_place place) = 1 + deepest ExprDepth es
expr_at (ast.With bs result place) = 1 + max (deepest (parts.binding_depth ExprDepth) bs) (ExprDepth result)

expr_moved : (x : Expr-F Expr Primary Term FromItem Joined Query Select) → depths.expr_depth (map-Expr Expr Primary Term FromItem Joined Query Select ℕ ℕ ℕ ℕ ℕ ℕ ℕ ExprDepth PrimaryDepth TermDepth FromDepth JoinedDepth Depth SelectDepth x) ≡ expr_at x
expr_moved (ast.Or first rest place) = ap (λ d. 1 + d) (operands first rest)
expr_moved (ast.And first rest place) = ap (λ d. 1 + d) (operands first rest)
expr_moved (ast.Not operators operand place) = refl
expr_moved (ast.Unary operators operand place) = refl
expr_moved (ast.BitOr first rest place) = chain first rest
expr_moved (ast.BitXor first rest place) = chain first rest
expr_moved (ast.BitAnd first rest place) = chain first rest
expr_moved (ast.Shift first rest place) = chain first rest
expr_moved (ast.Sum first rest place) = chain first rest
expr_moved (ast.Product first rest place) = chain first rest
expr_moved (ast.Postfix first more place) = rw (count_parts more) (ap (λ d. length more + max (ExprDepth first) d) (all_parts more))
expr_moved (ast.LikeList left quantifier operator_place patterns place) = ap (λ d. 6 + max (ExprDepth left) d) (own patterns)
expr_moved (ast.LikeUnnest left quantifier operator_place array place) = refl
expr_moved (ast.Compare left operator operator_place right place) = refl
expr_moved (ast.Like left negated operator_place right place) = refl
expr_moved (ast.Between subject negated operator_place low high place) = refl
expr_moved (ast.InList left negated operator_place list place) = ap (λ d. 1 + max (ExprDepth left) d) (own list)
expr_moved (ast.InQuery left negated operator_place query open_place place) = refl
expr_moved (ast.InUnnest left negated operator_place array place) = refl
expr_moved (ast.Is left negated test operator_place place) = refl
expr_moved (ast.Distinct left negated operator_place right place) = refl
expr_moved (ast.Integer value place) = refl
expr_moved (ast.Text value place) = refl
expr_moved (ast.Bytes value place) = refl
expr_moved (ast.Bool value place) = refl
expr_moved (ast.Date text place) = refl
expr_moved (ast.Parameter name place) = refl
expr_moved (ast.Name name place) = refl
expr_moved (ast.Null place) = refl
expr_moved (ast.Call call place) = a_call call
expr_moved (ast.SafeCall call place) = a_call call
expr_moved (ast.Scalar query place) = refl
expr_moved (ast.Tuple es place) = ap (λ d. 1 + d) (own es)
expr_moved (ast.Case subject branches otherwise place) = rw (maybe subject) (rw (maybe otherwise) (ap (λ d. 1 + max (if_there ExprDepth subject) (max d (if_there ExprDepth otherwise))) (whens branches)))
expr_moved (ast.Cast safe e type place) = refl
expr_moved (ast.Extract part e place) = refl
expr_moved (ast.Grouping argument place) = refl
expr_moved (ast.Exists query place) = refl
expr_moved (ast.ArrayQuery query open_place place) = refl
expr_moved (ast.Array element items open_place place) = ap (λ d. 1 + d) (own items)
expr_moved (ast.Struct es place) = ap (λ d. 1 + d) (aliased es)
expr_moved (ast.TypedStruct fields es open_place place) = ap (λ d. 1 + d) (own es)
expr_moved (ast.With bs result place) = ap (λ d. 1 + max d (ExprDepth result)) (bindings bs)

-- ---- the select list

abbrev items_of : List (Item Expr) → List (Item ℕ)
items_of = shapes.former-Select-items.map Expr ℕ ExprDepth

abbrev replacement_of : Replacement Expr → Replacement ℕ
replacement_of r = record { expr = ExprDepth r.expr; name = r.name }

replacements : (rs : List (Replacement Expr)) → deepest (λ (r : Replacement ℕ). r.expr) (map replacement_of rs) ≡ deepest (parts.replacement_depth ExprDepth) rs
replacements = moved (λ r. r.expr) replacement_of (parts.replacement_depth ExprDepth) (λ r. refl)

items : (is : List (Item Expr)) → deepest depths.item_depth (items_of is) ≡ deepest (parts.item_depth ExprDepth) is
items [] = refl
items (item.Star edit place ∷ is) = rw (replacements edit.replace) (ap (max (parts.edit_depth ExprDepth edit)) (items is))
items (item.QualifiedStar e edit place ∷ is) = rw (replacements edit.replace) (ap (max (max (ExprDepth e) (parts.edit_depth ExprDepth edit))) (items is))
items (item.Expr e alias place ∷ is) = ap (max (ExprDepth e)) (items is)

-- ---- FROM

abbrev turned_of : Option (Turned Expr) → Option (Turned ℕ)
turned_of = shapes.former-Primary-Table-2.map Expr ℕ ExprDepth

abbrev turn_of : Turn Expr → Option (Turned ℕ)
turn_of t = turned_of (Some (record { turn = t; alias = None }))

abbrev calls_in : Option (Turned ℕ) → List (PivotCall ℕ)
calls_in None = []
calls_in (Some t) = elim t.turn as (λ x. List (PivotCall ℕ)) [ turn.Pivot aggregates input values place ↦ aggregates | turn.Unpivot include_nulls value label columns place ↦ [] ]

aggregates : (ks : List (PivotCall Expr)) → deepest (λ (k : PivotCall ℕ). depths.call_depth k.call) (calls_in (turn_of (turn.Pivot ks [] [] 0))) ≡ deepest (parts.pivot_call_depth ExprDepth) ks
aggregates [] = refl
aggregates (k ∷ ks) = rw (a_call k.call) (ap (max (parts.call_depth ExprDepth k.call)) (aggregates ks))

-- an item below what is turned
turns : (below : ℕ) (t : Turn Expr) (alias : Option Name) → depths.turned below (turned_of (Some (record { turn = t; alias = alias }))) ≡ max below (parts.turn_depth ExprDepth t)
turns below (turn.Pivot ks input values place) alias = rw (aggregates ks) (rw (aliased values) refl)
turns below (turn.Unpivot include_nulls value label columns place) alias = refl

turned : (below : ℕ) (t : Option (Turned Expr)) → depths.turned below (turned_of t) ≡ max below (if_there (parts.turned_depth ExprDepth) t)
turned below None = omega arith
turned below (Some t) = turns below t.turn t.alias

abbrev pub primary_at : Primary-F Expr Primary Term FromItem Joined Query Select → ℕ
primary_at (ast.Table name alias t place) = max 0 (if_there (parts.turned_depth ExprDepth) t)
primary_at (Primary-F.«Primary::Query» query alias t place) = max (Depth query) (if_there (parts.turned_depth ExprDepth) t)
primary_at (ast.Path path alias offset place) = length path - 1
primary_at (ast.Unnest array alias offset place) = ExprDepth array

primary_moved : (x : Primary-F Expr Primary Term FromItem Joined Query Select) → depths.primary_depth (map-Primary Expr Primary Term FromItem Joined Query Select ℕ ℕ ℕ ℕ ℕ ℕ ℕ ExprDepth PrimaryDepth TermDepth FromDepth JoinedDepth Depth SelectDepth x) ≡ primary_at x
primary_moved (ast.Table name alias t place) = turned 0 t
primary_moved (Primary-F.«Primary::Query» query alias t place) = turned (Depth query) t
primary_moved (ast.Path path alias offset place) = refl
primary_moved (ast.Unnest array alias offset place) = refl

abbrev condition_of : Option (On Expr) → Option (On ℕ)
condition_of = shapes.former-Joined-on.map Expr ℕ ExprDepth

condition : (o : Option (On Expr)) → if_there depths.on_depth (condition_of o) ≡ if_there (parts.on_depth ExprDepth) o
condition None = refl
condition (Some (on.On e place)) = refl
condition (Some (on.Using columns place)) = refl

abbrev pub joined_at : Joined-F Expr Primary Term FromItem Joined Query Select → ℕ
joined_at j = max (PrimaryDepth j.primary) (if_there (parts.on_depth ExprDepth) j.on)

abbrev pub from_at : FromItem-F Expr Primary Term FromItem Joined Query Select → ℕ
from_at f = length f.rest + max (PrimaryDepth f.first) (deepest JoinedDepth f.rest)

from_moved : (first : Primary) (rest : List Joined) → length (map JoinedDepth rest) + max (PrimaryDepth first) (deepest depths.its_own (map JoinedDepth rest)) ≡ length rest + max (PrimaryDepth first) (deepest JoinedDepth rest)
from_moved first rest = rw (counted JoinedDepth rest) (ap (λ d. length rest + max (PrimaryDepth first) d) (moved depths.its_own JoinedDepth JoinedDepth (λ j. refl) rest))

-- ---- GROUP BY

abbrev groups_of : Option (Groups Expr) → Option (Groups ℕ)
groups_of = shapes.former-Select-grouping.map Expr ℕ ExprDepth

abbrev sets_in : Option (Groups ℕ) → List (GroupSet ℕ)
sets_in None = []
sets_in (Some (groups.Keys keys place)) = []
sets_in (Some (groups.Empty place)) = []
sets_in (Some (groups.Sets sets place)) = sets
sets_in (Some (groups.Cube cube place)) = []

abbrev items_in : Option (Groups ℕ) → List (GroupItem ℕ)
items_in None = []
items_in (Some (groups.Keys keys place)) = []
items_in (Some (groups.Empty place)) = []
items_in (Some (groups.Sets sets place)) = []
items_in (Some (groups.Cube cube place)) = cube.items

cubed : (c : Cube Expr) (xs : List (GroupItem Expr)) → deepest depths.group_item_depth (items_in (groups_of (Some (groups.Cube (record { kind = c.kind; items = xs; place = 0 }) 0)))) ≡ deepest (parts.group_item_depth ExprDepth) xs
cubed c [] = refl
cubed c (group_item.Expr e ∷ xs) = ap (max (ExprDepth e)) (cubed c xs)
cubed c (group_item.List es place ∷ xs) = rw (own es) (ap (max (deepest ExprDepth es)) (cubed c xs))

sets : (xs : List (GroupSet Expr)) → deepest depths.set_depth (sets_in (groups_of (Some (groups.Sets xs 0)))) ≡ deepest (parts.set_depth ExprDepth) xs
sets [] = refl
sets (group_set.Item (group_item.Expr e) ∷ xs) = ap (max (ExprDepth e)) (sets xs)
sets (group_set.Item (group_item.List es place) ∷ xs) = rw (own es) (ap (max (deepest ExprDepth es)) (sets xs))
sets (group_set.Cube c ∷ xs) = rw (cubed c c.items) (ap (max (parts.cube_depth ExprDepth c)) (sets xs))

grouping : (g : Option (Groups Expr)) → if_there depths.groups_depth (groups_of g) ≡ if_there (parts.groups_depth ExprDepth) g
grouping None = refl
grouping (Some (groups.Keys keys place)) = own keys
grouping (Some (groups.Empty place)) = refl
grouping (Some (groups.Sets xs place)) = ap (λ d. 4 + d) (sets xs)
grouping (Some (groups.Cube c place)) = ap (λ d. 4 + d) (cubed c c.items)

-- ---- SELECT and queries

abbrev optional_from : Option FromItem → Option ℕ
optional_from = shapes.former-Select-from.map FromItem ℕ FromDepth

maybe_from : (f : Option FromItem) → if_there depths.its_own (optional_from f) ≡ if_there FromDepth f
maybe_from None = refl
maybe_from (Some f) = refl

abbrev having_of : Option (FilterPart Expr) → Option (FilterPart ℕ)
having_of = shapes.former-Select-having.map Expr ℕ ExprDepth

maybe_having : (h : Option (FilterPart Expr)) → if_there (λ (h : FilterPart ℕ). h.test) (having_of h) ≡ if_there (parts.having_depth ExprDepth) h
maybe_having None = refl
maybe_having (Some h) = refl

abbrev pub select_at : Select-F Expr Primary Term FromItem Joined Query Select → ℕ
select_at s =
    8 + max (deepest (parts.item_depth ExprDepth) s.items) (max (if_there FromDepth s.from) (max (if_there ExprDepth s.filter) (max (if_there (parts.groups_depth ExprDepth) s.grouping) (if_there (parts.having_depth ExprDepth) s.having))))

select_moved : (s : Select-F Expr Primary Term FromItem Joined Query Select) → depths.select_depth (map-Select Expr Primary Term FromItem Joined Query Select ℕ ℕ ℕ ℕ ℕ ℕ ℕ ExprDepth PrimaryDepth TermDepth FromDepth JoinedDepth Depth SelectDepth s) ≡ select_at s
select_moved s = rw (items s.items) (rw (maybe_from s.from) (rw (maybe s.filter) (rw (grouping s.grouping) (rw (maybe_having s.having) refl))))

abbrev pub term_at : Term-F Expr Primary Term FromItem Joined Query Select → ℕ
term_at (Term-F.Select select) = SelectDepth select
term_at (Term-F.«Term::Query» query place) = Depth query

term_moved : (x : Term-F Expr Primary Term FromItem Joined Query Select) → depths.term_depth (map-Term Expr Primary Term FromItem Joined Query Select ℕ ℕ ℕ ℕ ℕ ℕ ℕ ExprDepth PrimaryDepth TermDepth FromDepth JoinedDepth Depth SelectDepth x) ≡ term_at x
term_moved (Term-F.Select select) = refl
term_moved (Term-F.«Term::Query» query place) = refl

abbrev cte_of : Cte Query → Cte ℕ
cte_of c = record { name = c.name; query = Depth c.query }

ctes : (cs : List (Cte Query)) → deepest (λ (c : Cte ℕ). c.query) (map cte_of cs) ≡ deepest (parts.cte_depth Depth) cs
ctes = moved (λ c. c.query) cte_of (parts.cte_depth Depth) (λ c. refl)

abbrev set_of : SetTerm Term → SetTerm ℕ
set_of t = record { kind = t.kind; term = TermDepth t.term; place = t.place }

terms : (ts : List (SetTerm Term)) → deepest (λ (t : SetTerm ℕ). t.term) (map set_of ts) ≡ deepest (parts.set_term_depth TermDepth) ts
terms = moved (λ t. t.term) set_of (parts.set_term_depth TermDepth) (λ t. refl)

abbrev limit_of : Option (LimitPart Expr) → Option (LimitPart ℕ)
limit_of = shapes.former-Query-limit.map Expr ℕ ExprDepth

limits : (count : Expr) (offset : Option Expr) (place : ℕ) → if_there depths.limit_depth (limit_of (Some (record { count = count; offset = offset; place = place }))) ≡ max (ExprDepth count) (if_there ExprDepth offset)
limits count None place = refl
limits count (Some offset) place = refl

maybe_limit : (l : Option (LimitPart Expr)) → if_there depths.limit_depth (limit_of l) ≡ if_there (parts.limit_depth ExprDepth) l
maybe_limit None = refl
maybe_limit (Some l) = limits l.count l.offset l.place

abbrev pub query_at : Query-F Expr Primary Term FromItem Joined Query Select → ℕ
query_at q =
    2 + max (deepest (parts.cte_depth Depth) q.ctes) (max (max (TermDepth q.body.first) (deepest (parts.set_term_depth TermDepth) q.body.rest)) (max (deepest (parts.sort_depth ExprDepth) q.order) (if_there (parts.limit_depth ExprDepth) q.limit)))

query_moved : (q : Query-F Expr Primary Term FromItem Joined Query Select) → depths.query_depth (map-Query Expr Primary Term FromItem Joined Query Select ℕ ℕ ℕ ℕ ℕ ℕ ℕ ExprDepth PrimaryDepth TermDepth FromDepth JoinedDepth Depth SelectDepth q) ≡ query_at q
query_moved q = rw (ctes q.ctes) (rw (terms q.body.rest) (rw (sorts q.order) (rw (maybe_limit q.limit) refl)))

-- ---- one equation a sort

pub depth_expr : (x : Expr) → ExprDepth x ≡ expr_at (out-Expr x)
unfolding ExprDepth PrimaryDepth TermDepth FromDepth JoinedDepth Depth SelectDepth
depth_expr x = ap ExprDepth (sym (roll-out-Expr x)) ∙ fold-roll-Expr ℕ ℕ ℕ ℕ ℕ ℕ ℕ depths.expr_depth depths.primary_depth depths.term_depth depths.from_depth depths.joined_depth depths.query_depth depths.select_depth (out-Expr x) ∙ expr_moved (out-Expr x)

pub depth_primary : (x : Primary) → PrimaryDepth x ≡ primary_at (out-Primary x)
unfolding ExprDepth PrimaryDepth TermDepth FromDepth JoinedDepth Depth SelectDepth
depth_primary x = ap PrimaryDepth (sym (roll-out-Primary x)) ∙ fold-roll-Primary ℕ ℕ ℕ ℕ ℕ ℕ ℕ depths.expr_depth depths.primary_depth depths.term_depth depths.from_depth depths.joined_depth depths.query_depth depths.select_depth (out-Primary x) ∙ primary_moved (out-Primary x)

pub depth_term : (x : Term) → TermDepth x ≡ term_at (out-Term x)
unfolding ExprDepth PrimaryDepth TermDepth FromDepth JoinedDepth Depth SelectDepth
depth_term x = ap TermDepth (sym (roll-out-Term x)) ∙ fold-roll-Term ℕ ℕ ℕ ℕ ℕ ℕ ℕ depths.expr_depth depths.primary_depth depths.term_depth depths.from_depth depths.joined_depth depths.query_depth depths.select_depth (out-Term x) ∙ term_moved (out-Term x)

pub depth_from : (x : FromItem) → FromDepth x ≡ from_at (out-FromItem x)
unfolding ExprDepth PrimaryDepth TermDepth FromDepth JoinedDepth Depth SelectDepth
depth_from x = ap FromDepth (sym (roll-out-FromItem x)) ∙ fold-roll-FromItem ℕ ℕ ℕ ℕ ℕ ℕ ℕ depths.expr_depth depths.primary_depth depths.term_depth depths.from_depth depths.joined_depth depths.query_depth depths.select_depth (out-FromItem x) ∙ from_moved (out-FromItem x).first (out-FromItem x).rest

pub depth_joined : (x : Joined) → JoinedDepth x ≡ joined_at (out-Joined x)
unfolding ExprDepth PrimaryDepth TermDepth FromDepth JoinedDepth Depth SelectDepth
depth_joined x = ap JoinedDepth (sym (roll-out-Joined x)) ∙ fold-roll-Joined ℕ ℕ ℕ ℕ ℕ ℕ ℕ depths.expr_depth depths.primary_depth depths.term_depth depths.from_depth depths.joined_depth depths.query_depth depths.select_depth (out-Joined x) ∙ ap (max (PrimaryDepth (out-Joined x).primary)) (condition (out-Joined x).on)

pub depth_select : (x : Select) → SelectDepth x ≡ select_at (out-Select x)
unfolding ExprDepth PrimaryDepth TermDepth FromDepth JoinedDepth Depth SelectDepth
depth_select x = ap SelectDepth (sym (roll-out-Select x)) ∙ fold-roll-Select ℕ ℕ ℕ ℕ ℕ ℕ ℕ depths.expr_depth depths.primary_depth depths.term_depth depths.from_depth depths.joined_depth depths.query_depth depths.select_depth (out-Select x) ∙ select_moved (out-Select x)

pub depth_query : (x : Query) → Depth x ≡ query_at (out-Query x)
unfolding ExprDepth PrimaryDepth TermDepth FromDepth JoinedDepth Depth SelectDepth
depth_query x = ap Depth (sym (roll-out-Query x)) ∙ fold-roll-Query ℕ ℕ ℕ ℕ ℕ ℕ ℕ depths.expr_depth depths.primary_depth depths.term_depth depths.from_depth depths.joined_depth depths.query_depth depths.select_depth (out-Query x) ∙ query_moved (out-Query x)
