-- The weight of a tree, one level at a time: each tree counts what the weights of its own parts say.
use Rattle.std.proofs.Common.{◌≡◌, ℕ, false, suc, ◌+◌, ◌-◌, ◌*◌, List, [], ◌∷◌, map, length, Option, None, Some, refl, sym, ◌∙◌, ap}
use Rattle.sql_ast.specs.declared.clauses.Aliased.{Aliased}
use Rattle.sql_ast.specs.declared.clauses.Arg.{Arg}
use Rattle.sql_ast.specs.declared.clauses.Arg.TheVariants as arg
use Rattle.sql_ast.specs.declared.clauses.Binding.{Binding}
use Rattle.sql_ast.specs.declared.clauses.Call.{Call}
use Rattle.sql_ast.specs.declared.clauses.Edit.{Edit}
use Rattle.sql_ast.specs.declared.clauses.FilterPart.{FilterPart}
use Rattle.sql_ast.specs.declared.clauses.Function.TheVariants as function
use Rattle.sql_ast.specs.declared.clauses.Item.{Item}
use Rattle.sql_ast.specs.declared.clauses.Item.TheVariants as item
use Rattle.sql_ast.specs.declared.clauses.LimitPart.{LimitPart}
use Rattle.sql_ast.specs.declared.clauses.Name.{Name}
use Rattle.sql_ast.specs.declared.clauses.On.{On}
use Rattle.sql_ast.specs.declared.clauses.On.TheVariants as on
use Rattle.sql_ast.specs.declared.clauses.PivotCall.{PivotCall}
use Rattle.sql_ast.specs.declared.clauses.Replacement.{Replacement}
use Rattle.sql_ast.specs.declared.clauses.Sort.{Sort}
use Rattle.sql_ast.specs.declared.clauses.Turn.{Turn}
use Rattle.sql_ast.specs.declared.clauses.Turn.TheVariants as turn
use Rattle.sql_ast.specs.declared.clauses.Turned.{Turned}
use Rattle.sql_ast.specs.declared.clauses.When.{When}
use Rattle.sql_ast.specs.declared.grouping.Cube.{Cube}
use Rattle.sql_ast.specs.declared.grouping.GroupItem.{GroupItem}
use Rattle.sql_ast.specs.declared.grouping.GroupItem.TheVariants as group_item
use Rattle.sql_ast.specs.declared.grouping.GroupSet.{GroupSet}
use Rattle.sql_ast.specs.declared.grouping.GroupSet.TheVariants as group_set
use Rattle.sql_ast.specs.declared.grouping.Groups.{Groups}
use Rattle.sql_ast.specs.declared.grouping.Groups.TheVariants as groups
use Rattle.sql_ast.specs.declared.expr.Link.{Link}
use Rattle.sql_ast.specs.declared.expr.Part.{Part}
use Rattle.sql_ast.specs.declared.expr.Part.TheVariants as part
use Rattle.sql_ast.specs.declared.query.Cte.{Cte}
use Rattle.sql_ast.specs.declared.query.SetTerm.{SetTerm}
use Rattle.sql_ast.specs.declared.expr.Expr.{Expr, out-Expr, roll-out-Expr, map-Expr, fold-roll-Expr}
use Rattle.sql_ast.specs.declared.query.Primary.{Primary, out-Primary, roll-out-Primary, map-Primary, fold-roll-Primary}
use Rattle.sql_ast.specs.declared.query.Term.{Term, out-Term, roll-out-Term, map-Term, fold-roll-Term}
use Rattle.sql_ast.specs.declared.query.FromItem.{FromItem, out-FromItem, roll-out-FromItem, map-FromItem, fold-roll-FromItem}
use Rattle.sql_ast.specs.declared.query.Joined.{Joined, out-Joined, roll-out-Joined, map-Joined, fold-roll-Joined}
use Rattle.sql_ast.specs.declared.query.Query.{Query, out-Query, roll-out-Query, map-Query, fold-roll-Query}
use Rattle.sql_ast.specs.declared.query.Select.{Select, out-Select, roll-out-Select, map-Select, fold-roll-Select}
use Rattle.sql_ast.specs.declared.expr.Expr.TheOpen.{Expr-F, Primary-F, Term-F, FromItem-F, Joined-F, Query-F, Select-F}
use Rattle.sql_ast.specs.declared.expr.Expr.TheOpen as ast
use Rattle.sql_ast.specs.declared.expr.Expr.TheShapes as shapes
use Rattle.sql_ast.specs.declared.type_spelling.TypeField.{TypeField}
use Rattle.sql_ast.specs.declared.type_spelling.TypeSpelling.{TypeSpelling, out-TypeSpelling, roll-out-TypeSpelling, map-TypeSpelling, fold-roll-TypeSpelling}
use Rattle.sql_ast.specs.declared.type_spelling.TypeSpelling.TheOpen as spelling
use Rattle.sql_ast.specs.Weights as weights
use Rattle.sql_ast.specs.Weights.{sum, if_there, clause, list_clause, grouping_sets, times, name_weight, names_weight, alias_weight, length_weight, type_weight, offset_weight, Weight, ExprWeight}
use Rattle.sql_measures.specs.PartWeights as parts
use Rattle.sql_measures.specs.TreeWeights.{PrimaryWeight, TermWeight, FromWeight, JoinedWeight, SelectWeight}

-- ---- lists

counted : {A B : Type 0} (g : A → B) (xs : List A) → length (map g xs) ≡ length xs
counted g [] = refl
counted g (x ∷ xs) = ap suc (counted g xs)

-- a list counts what its parts count, each by its own weight
moved : {A B : Type 0} (f : B → ℕ) (g : A → B) (h : A → ℕ) → ((x : A) → f (g x) ≡ h x) → (xs : List A) → sum f (map g xs) ≡ sum h xs
moved f g h same [] = refl
moved f g h same (x ∷ xs) = rw (same x) (ap (λ n. h x + n) (moved f g h same xs))

-- and so does a clause that is a list
moved_clause : {A B : Type 0} (f : B → ℕ) (g : A → B) (h : A → ℕ) → ((x : A) → f (g x) ≡ h x) → (xs : List A) → list_clause f (map g xs) ≡ list_clause h xs
moved_clause f g h same [] = refl
moved_clause f g h same (x ∷ xs) = ap (λ n. 1 + n) (moved f g h same (x ∷ xs))

own : (es : List Expr) → sum weights.its_own (map ExprWeight es) ≡ sum ExprWeight es
own = moved weights.its_own ExprWeight ExprWeight (λ e. refl)

abbrev link_of : Link Expr → Link ℕ
link_of l = record { operator = l.operator; operand = ExprWeight l.operand; place = l.place }

chain : (first : Expr) (ls : List (Link Expr)) → 1 + (ExprWeight first + weights.links_weight (map link_of ls)) ≡ 1 + (ExprWeight first + sum (parts.link_weight ExprWeight) ls)
chain first ls = ap (λ n. 1 + (ExprWeight first + n)) (moved (λ (l : Link ℕ). l.operand) link_of (parts.link_weight ExprWeight) (λ l. refl) ls)

abbrev parts_of : List (Part Expr) → List (Part ℕ)
parts_of = shapes.former-Expr-Postfix-1.map Expr ℕ ExprWeight

all_parts : (ps : List (Part Expr)) → sum weights.part_weight (parts_of ps) ≡ sum (parts.part_weight ExprWeight) ps
all_parts [] = refl
all_parts (part.Field name ∷ ps) = ap (λ n. (1 + name_weight name) + n) (all_parts ps)
all_parts (part.Index form index place ∷ ps) = ap (λ n. (1 + ExprWeight index) + n) (all_parts ps)

-- ---- calls

abbrev called : Call Expr → Call ℕ
called = shapes.former-Expr-Call-0.map Expr ℕ ExprWeight

abbrev call_arguments : List (Arg Expr) → List (Arg ℕ)
call_arguments xs = (called (record { function = function.If; distinct = false; star = false; arguments = xs; nulls = None; order = []; limit = None; place = 0 })).arguments

arguments : (xs : List (Arg Expr)) → sum weights.argument_weight (call_arguments xs) ≡ sum (parts.argument_weight ExprWeight) xs
arguments [] = refl
arguments (arg.Expr e ∷ xs) = ap (λ n. ExprWeight e + n) (arguments xs)
arguments (arg.Lambda variables body place ∷ xs) = ap (λ n. (8 + (names_weight variables + ExprWeight body)) + n) (arguments xs)
arguments (arg.Interval amount part place ∷ xs) = ap (λ n. (ExprWeight amount + name_weight part) + n) (arguments xs)

abbrev sort_of : Sort Expr → Sort ℕ
sort_of s = record { expr = ExprWeight s.expr; descending = s.descending; nulls = s.nulls; place = s.place }

sorts : (ss : List (Sort Expr)) → list_clause weights.sort_weight (map sort_of ss) ≡ list_clause (parts.sort_weight ExprWeight) ss
sorts = moved_clause weights.sort_weight sort_of (parts.sort_weight ExprWeight) (λ s. refl)

a_call : (call : Call Expr) → weights.call_weight (called call) ≡ parts.call_weight ExprWeight call
a_call call =
    ap (λ n. 1 + (weights.function_weight call.function + (n + (list_clause weights.sort_weight (map sort_of call.order) + clause (λ n. 0) call.limit)))) (arguments call.arguments)
    ∙ ap (λ n. 1 + (weights.function_weight call.function + (sum (parts.argument_weight ExprWeight) call.arguments + (n + clause (λ n. 0) call.limit)))) (sorts call.order)

-- ---- other parts of expressions

abbrev when_of : When Expr → When ℕ
when_of w = record { test = ExprWeight w.test; result = ExprWeight w.result }

whens : (ws : List (When Expr)) → sum (λ (w : When ℕ). w.test + w.result) (map when_of ws) ≡ sum (parts.when_weight ExprWeight) ws
whens = moved (λ w. w.test + w.result) when_of (parts.when_weight ExprWeight) (λ w. refl)

abbrev optional : Option Expr → Option ℕ
optional = shapes.former-Expr-Case-0.map Expr ℕ ExprWeight

maybe : (e : Option Expr) → if_there weights.its_own (optional e) ≡ if_there ExprWeight e
maybe None = refl
maybe (Some e) = refl

maybe_clause : (e : Option Expr) → clause weights.its_own (optional e) ≡ clause ExprWeight e
maybe_clause None = refl
maybe_clause (Some e) = refl

abbrev aliased_of : Aliased Expr → Aliased ℕ
aliased_of x = record { expr = ExprWeight x.expr; alias = x.alias }

aliased : (xs : List (Aliased Expr)) → sum weights.aliased_weight (map aliased_of xs) ≡ sum (parts.aliased_weight ExprWeight) xs
aliased = moved weights.aliased_weight aliased_of (parts.aliased_weight ExprWeight) (λ x. refl)

abbrev binding_of : Binding Expr → Binding ℕ
binding_of b = record { name = b.name; expr = ExprWeight b.expr }

bindings : (bs : List (Binding Expr)) → sum (λ (b : Binding ℕ). name_weight b.name + b.expr) (map binding_of bs) ≡ sum (parts.binding_weight ExprWeight) bs
bindings = moved (λ b. name_weight b.name + b.expr) binding_of (parts.binding_weight ExprWeight) (λ b. refl)

-- ---- written types

abbrev field_of : TypeField TypeSpelling → TypeField ℕ
field_of f = record { name = f.name; ty = type_weight f.ty }

fields_moved : (fs : List (TypeField TypeSpelling)) → sum (λ (f : TypeField ℕ). alias_weight f.name + f.ty) (map field_of fs) ≡ sum (parts.field_weight type_weight) fs
fields_moved = moved (λ f. alias_weight f.name + f.ty) field_of (parts.field_weight type_weight) (λ f. refl)

abbrev pub type_at : spelling.TypeSpelling-F TypeSpelling → ℕ
type_at (spelling.Name name) = 1 + name_weight name
type_at (spelling.Array element place) = 1 + type_weight element
type_at (spelling.Struct fields place) = 1 + sum (parts.field_weight type_weight) fields

type_moved : (x : spelling.TypeSpelling-F TypeSpelling) → weights.type_layer (map-TypeSpelling TypeSpelling ℕ type_weight x) ≡ type_at x
type_moved (spelling.Name name) = refl
type_moved (spelling.Array element place) = refl
type_moved (spelling.Struct fields place) = ap (λ n. 1 + n) (fields_moved fields)

pub weight_type : (x : TypeSpelling) → type_weight x ≡ type_at (out-TypeSpelling x)
unfolding type_weight
weight_type x = ap type_weight (sym (roll-out-TypeSpelling x)) ∙ fold-roll-TypeSpelling ℕ weights.type_layer (out-TypeSpelling x) ∙ type_moved (out-TypeSpelling x)

-- ---- expressions

abbrev pub expr_at : Expr-F Expr Primary Term FromItem Joined Query Select → ℕ
expr_at (ast.Or first rest place) = 1 + (ExprWeight first + sum (parts.link_weight ExprWeight) rest)
expr_at (ast.And first rest place) = 1 + (ExprWeight first + sum (parts.link_weight ExprWeight) rest)
expr_at (ast.BitOr first rest place) = 1 + (ExprWeight first + sum (parts.link_weight ExprWeight) rest)
expr_at (ast.BitXor first rest place) = 1 + (ExprWeight first + sum (parts.link_weight ExprWeight) rest)
expr_at (ast.BitAnd first rest place) = 1 + (ExprWeight first + sum (parts.link_weight ExprWeight) rest)
expr_at (ast.Shift first rest place) = 1 + (ExprWeight first + sum (parts.link_weight ExprWeight) rest)
expr_at (ast.Sum first rest place) = 1 + (ExprWeight first + sum (parts.link_weight ExprWeight) rest)
expr_at (ast.Product first rest place) = 1 + (ExprWeight first + sum (parts.link_weight ExprWeight) rest)
expr_at (ast.Not operators operand place) = 1 + ExprWeight operand
expr_at (ast.Unary operators operand place) = 1 + ExprWeight operand
expr_at (ast.Postfix first more place) = ExprWeight first + sum (parts.part_weight ExprWeight) more
expr_at (ast.LikeList left quantifier operator_place patterns place) = 9 + (ExprWeight left + sum ExprWeight patterns)
expr_at (ast.LikeUnnest left quantifier operator_place array place) = 9 + (ExprWeight left + ExprWeight array)
expr_at (ast.Compare left operator operator_place right place) = 1 + (ExprWeight left + ExprWeight right)
expr_at (ast.Like left negated operator_place right place) = 1 + (ExprWeight left + ExprWeight right)
expr_at (ast.Distinct left negated operator_place right place) = 1 + (ExprWeight left + ExprWeight right)
expr_at (ast.Between subject negated operator_place low high place) = 1 + (ExprWeight subject + (ExprWeight low + ExprWeight high))
expr_at (ast.InList left negated operator_place list place) = 1 + (ExprWeight left + sum ExprWeight list)
expr_at (ast.InQuery left negated operator_place query open_place place) = 1 + (ExprWeight left + Weight query)
expr_at (ast.InUnnest left negated operator_place array place) = 1 + (ExprWeight left + ExprWeight array)
expr_at (ast.Is left negated test operator_place place) = 1 + ExprWeight left
expr_at (ast.Integer value place) = 1
expr_at (ast.Text value place) = 1 + length_weight value
expr_at (ast.Bytes value place) = 1 + length_weight value
expr_at (ast.Bool value place) = 1
expr_at (ast.Date text place) = 1 + length_weight text
expr_at (ast.Parameter name place) = 1 + length_weight name
expr_at (ast.Name name place) = 1 + length_weight name
expr_at (ast.Null place) = 1
expr_at (ast.Call call place) = parts.call_weight ExprWeight call
expr_at (ast.SafeCall call place) = parts.call_weight ExprWeight call
expr_at (ast.Scalar query place) = 1 + Weight query
expr_at (ast.Tuple es place) = 1 + sum ExprWeight es
expr_at (ast.Case subject branches otherwise place) = 1 + (if_there ExprWeight subject + (sum (parts.when_weight ExprWeight) branches + if_there ExprWeight otherwise))
expr_at (ast.Cast safe e type place) = 1 + (ExprWeight e + type_weight type)
expr_at (ast.Extract part e place) = 1 + (name_weight part + ExprWeight e)
expr_at (ast.Grouping argument place) = 1 + ExprWeight argument
expr_at (ast.Exists query place) = 1 + Weight query
expr_at (ast.ArrayQuery query open_place place) = 1 + Weight query
expr_at (ast.Array element items open_place place) = 1 + (if_there type_weight element + sum ExprWeight items)
expr_at (ast.Struct es place) = 1 + sum (parts.aliased_weight ExprWeight) es
expr_at (ast.TypedStruct fields es open_place place) = 1 + (sum (parts.field_weight type_weight) fields + sum ExprWeight es)
expr_at (ast.With bs result place) = 1 + (sum (parts.binding_weight ExprWeight) bs + ExprWeight result)

expr_moved : (x : Expr-F Expr Primary Term FromItem Joined Query Select) → weights.expr_weight (map-Expr Expr Primary Term FromItem Joined Query Select ℕ ℕ ℕ ℕ ℕ ℕ ℕ ExprWeight PrimaryWeight TermWeight FromWeight JoinedWeight Weight SelectWeight x) ≡ expr_at x
expr_moved (ast.Or first rest place) = chain first rest
expr_moved (ast.And first rest place) = chain first rest
expr_moved (ast.BitOr first rest place) = chain first rest
expr_moved (ast.BitXor first rest place) = chain first rest
expr_moved (ast.BitAnd first rest place) = chain first rest
expr_moved (ast.Shift first rest place) = chain first rest
expr_moved (ast.Sum first rest place) = chain first rest
expr_moved (ast.Product first rest place) = chain first rest
expr_moved (ast.Not operators operand place) = refl
expr_moved (ast.Unary operators operand place) = refl
expr_moved (ast.Postfix first more place) = ap (λ n. ExprWeight first + n) (all_parts more)
expr_moved (ast.LikeList left quantifier operator_place patterns place) = ap (λ n. 9 + (ExprWeight left + n)) (own patterns)
expr_moved (ast.LikeUnnest left quantifier operator_place array place) = refl
expr_moved (ast.Compare left operator operator_place right place) = refl
expr_moved (ast.Like left negated operator_place right place) = refl
expr_moved (ast.Distinct left negated operator_place right place) = refl
expr_moved (ast.Between subject negated operator_place low high place) = refl
expr_moved (ast.InList left negated operator_place list place) = ap (λ n. 1 + (ExprWeight left + n)) (own list)
expr_moved (ast.InQuery left negated operator_place query open_place place) = refl
expr_moved (ast.InUnnest left negated operator_place array place) = refl
expr_moved (ast.Is left negated test operator_place place) = refl
expr_moved (ast.Integer value place) = refl
expr_moved (ast.Text value place) = refl
expr_moved (ast.Bytes value place) = refl
expr_moved (ast.Bool value place) = refl
expr_moved (ast.Date text place) = refl
expr_moved (ast.Parameter name place) = refl
expr_moved (ast.Name name place) = refl
expr_moved (ast.Null place) = refl
expr_moved (ast.Call call place) = a_call call
expr_moved (ast.SafeCall call place) = a_call call
expr_moved (ast.Scalar query place) = refl
expr_moved (ast.Tuple es place) = ap (λ n. 1 + n) (own es)
expr_moved (ast.Case subject branches otherwise place) = rw (maybe subject) (rw (maybe otherwise) (ap (λ n. 1 + (if_there ExprWeight subject + (n + if_there ExprWeight otherwise))) (whens branches)))
expr_moved (ast.Cast safe e type place) = refl
expr_moved (ast.Extract part e place) = refl
expr_moved (ast.Grouping argument place) = refl
expr_moved (ast.Exists query place) = refl
expr_moved (ast.ArrayQuery query open_place place) = refl
expr_moved (ast.Array element items open_place place) = ap (λ n. 1 + (if_there type_weight element + n)) (own items)
expr_moved (ast.Struct es place) = ap (λ n. 1 + n) (aliased es)
expr_moved (ast.TypedStruct fields es open_place place) = ap (λ n. 1 + (sum (parts.field_weight type_weight) fields + n)) (own es)
expr_moved (ast.With bs result place) = ap (λ n. 1 + (n + ExprWeight result)) (bindings bs)

-- ---- the select list

abbrev items_of : List (Item Expr) → List (Item ℕ)
items_of = shapes.former-Select-items.map Expr ℕ ExprWeight

abbrev replacement_of : Replacement Expr → Replacement ℕ
replacement_of r = record { expr = ExprWeight r.expr; name = r.name }

replacements : (rs : List (Replacement Expr)) → sum weights.replacement_weight (map replacement_of rs) ≡ sum (parts.replacement_weight ExprWeight) rs
replacements = moved weights.replacement_weight replacement_of (parts.replacement_weight ExprWeight) (λ r. refl)

items : (is : List (Item Expr)) → sum weights.item_weight (items_of is) ≡ sum (parts.item_weight ExprWeight) is
items [] = refl
items (item.Star edit place ∷ is) = rw (replacements edit.replace) (ap (λ n. (1 + parts.edit_weight ExprWeight edit) + n) (items is))
items (item.QualifiedStar e edit place ∷ is) = rw (replacements edit.replace) (ap (λ n. (1 + (ExprWeight e + parts.edit_weight ExprWeight edit)) + n) (items is))
items (item.Expr e alias place ∷ is) = ap (λ n. (1 + (ExprWeight e + alias_weight alias)) + n) (items is)

-- ---- FROM

abbrev turned_of : Option (Turned Expr) → Option (Turned ℕ)
turned_of = shapes.former-Primary-Table-2.map Expr ℕ ExprWeight

abbrev turn_of : Turn Expr → Option (Turned ℕ)
turn_of t = turned_of (Some (record { turn = t; alias = None }))

abbrev calls_in : Option (Turned ℕ) → List (PivotCall ℕ)
calls_in None = []
calls_in (Some t) = elim t.turn as (λ x. List (PivotCall ℕ)) [ turn.Pivot aggregates input values place ↦ aggregates | turn.Unpivot include_nulls value label columns place ↦ [] ]

aggregates : (ks : List (PivotCall Expr)) → sum weights.pivot_call_weight (calls_in (turn_of (turn.Pivot ks [] [] 0))) ≡ sum (parts.pivot_call_weight ExprWeight) ks
aggregates [] = refl
aggregates (k ∷ ks) = rw (a_call k.call) (ap (λ n. parts.pivot_call_weight ExprWeight k + n) (aggregates ks))

turns : (t : Turn Expr) (alias : Option Name) → clause weights.turned_weight (turned_of (Some (record { turn = t; alias = alias }))) ≡ 1 + (parts.turn_weight ExprWeight t + alias_weight alias)
turns (turn.Pivot ks input values place) alias = rw (counted aliased_of values) (rw (aggregates ks) (rw (aliased values) refl))
turns (turn.Unpivot include_nulls value label columns place) alias = refl

turned : (t : Option (Turned Expr)) → clause weights.turned_weight (turned_of t) ≡ clause (parts.turned_weight ExprWeight) t
turned None = refl
turned (Some t) = turns t.turn t.alias

abbrev pub primary_at : Primary-F Expr Primary Term FromItem Joined Query Select → ℕ
primary_at (ast.Table name alias t place) = 1 + (name_weight name + (alias_weight alias + clause (parts.turned_weight ExprWeight) t))
primary_at (Primary-F.«Primary::Query» query alias t place) = 1 + (Weight query + (alias_weight alias + clause (parts.turned_weight ExprWeight) t))
primary_at (ast.Path path alias offset place) = 1 + ((length path - 1) + (names_weight path + (alias_weight alias + if_there offset_weight offset)))
primary_at (ast.Unnest array alias offset place) = 1 + (ExprWeight array + (alias_weight alias + if_there offset_weight offset))

primary_moved : (x : Primary-F Expr Primary Term FromItem Joined Query Select) → weights.primary_weight (map-Primary Expr Primary Term FromItem Joined Query Select ℕ ℕ ℕ ℕ ℕ ℕ ℕ ExprWeight PrimaryWeight TermWeight FromWeight JoinedWeight Weight SelectWeight x) ≡ primary_at x
primary_moved (ast.Table name alias t place) = ap (λ n. 1 + (name_weight name + (alias_weight alias + n))) (turned t)
primary_moved (Primary-F.«Primary::Query» query alias t place) = ap (λ n. 1 + (Weight query + (alias_weight alias + n))) (turned t)
primary_moved (ast.Path path alias offset place) = refl
primary_moved (ast.Unnest array alias offset place) = refl

abbrev condition_of : Option (On Expr) → Option (On ℕ)
condition_of = shapes.former-Joined-on.map Expr ℕ ExprWeight

condition : (o : Option (On Expr)) → clause weights.on_weight (condition_of o) ≡ clause (parts.on_weight ExprWeight) o
condition None = refl
condition (Some (on.On e place)) = refl
condition (Some (on.Using columns place)) = refl

abbrev pub joined_at : Joined-F Expr Primary Term FromItem Joined Query Select → ℕ
joined_at j = PrimaryWeight j.primary + clause (parts.on_weight ExprWeight) j.on

abbrev pub from_at : FromItem-F Expr Primary Term FromItem Joined Query Select → ℕ
from_at f = PrimaryWeight f.first + sum JoinedWeight f.rest

-- ---- GROUP BY

abbrev groups_of : Option (Groups Expr) → Option (Groups ℕ)
groups_of = shapes.former-Select-grouping.map Expr ℕ ExprWeight

abbrev sets_in : Option (Groups ℕ) → List (GroupSet ℕ)
sets_in None = []
sets_in (Some (groups.Keys keys place)) = []
sets_in (Some (groups.Empty place)) = []
sets_in (Some (groups.Sets sets place)) = sets
sets_in (Some (groups.Cube cube place)) = []

abbrev items_in : Option (Groups ℕ) → List (GroupItem ℕ)
items_in None = []
items_in (Some (groups.Keys keys place)) = []
items_in (Some (groups.Empty place)) = []
items_in (Some (groups.Sets sets place)) = []
items_in (Some (groups.Cube cube place)) = cube.items

abbrev cubed_of : Cube Expr → List (GroupItem Expr) → List (GroupItem ℕ)
cubed_of c xs = items_in (groups_of (Some (groups.Cube (record { kind = c.kind; items = xs; place = 0 }) 0)))

cubed : (c : Cube Expr) (xs : List (GroupItem Expr)) → sum weights.group_item_weight (cubed_of c xs) ≡ sum (parts.group_item_weight ExprWeight) xs
cubed c [] = refl
cubed c (group_item.Expr e ∷ xs) = ap (λ n. ExprWeight e + n) (cubed c xs)
cubed c (group_item.List es place ∷ xs) = rw (own es) (ap (λ n. sum ExprWeight es + n) (cubed c xs))

cube_count : (c : Cube Expr) (xs : List (GroupItem Expr)) → length (cubed_of c xs) ≡ length xs
cube_count c [] = refl
cube_count c (x ∷ xs) = ap suc (cube_count c xs)

abbrev sets_of : List (GroupSet Expr) → List (GroupSet ℕ)
sets_of xs = sets_in (groups_of (Some (groups.Sets xs 0)))

sets : (xs : List (GroupSet Expr)) → sum weights.set_weight (sets_of xs) ≡ sum (parts.set_weight ExprWeight) xs
sets [] = refl
sets (group_set.Item (group_item.Expr e) ∷ xs) = ap (λ n. ExprWeight e + n) (sets xs)
sets (group_set.Item (group_item.List es place) ∷ xs) = rw (own es) (ap (λ n. sum ExprWeight es + n) (sets xs))
sets (group_set.Cube c ∷ xs) = rw (cubed c c.items) (ap (λ n. parts.cube_weight ExprWeight c + n) (sets xs))

set_counts : (xs : List (GroupSet Expr)) → sum weights.set_sets (sets_of xs) ≡ sum weights.set_sets xs
set_counts [] = refl
set_counts (group_set.Item i ∷ xs) = ap (λ n. 1 + n) (set_counts xs)
set_counts (group_set.Cube c ∷ xs) = rw (cube_count c c.items) (ap (λ n. weights.cube_sets c + n) (set_counts xs))

-- a GROUP BY has as many sets as before, and weighs as its keys do
counts : (g : Option (Groups Expr)) → times (groups_of g) ≡ times g
counts None = refl
counts (Some (groups.Keys keys place)) = refl
counts (Some (groups.Empty place)) = refl
counts (Some (groups.Sets xs place)) = set_counts xs
counts (Some (groups.Cube c place)) = ap (weights.sets_by c.kind) (cube_count c c.items)

grouping : (g : Option (Groups Expr)) → clause (λ g. grouping_sets g * weights.groups_weight g) (groups_of g) ≡ parts.keys_weight ExprWeight g
grouping None = refl
grouping (Some (groups.Keys keys place)) = rw (own keys) refl
grouping (Some (groups.Empty place)) = refl
grouping (Some (groups.Sets xs place)) = rw (set_counts xs) (rw (sets xs) refl)
grouping (Some (groups.Cube c place)) = rw (cube_count c c.items) (rw (cubed c c.items) refl)

-- ---- SELECT and queries

abbrev optional_from : Option FromItem → Option ℕ
optional_from = shapes.former-Select-from.map FromItem ℕ FromWeight

maybe_from : (f : Option FromItem) → clause weights.its_own (optional_from f) ≡ clause FromWeight f
maybe_from None = refl
maybe_from (Some f) = refl

abbrev having_of : Option (FilterPart Expr) → Option (FilterPart ℕ)
having_of = shapes.former-Select-having.map Expr ℕ ExprWeight

kept : (n : ℕ) (h : Option (FilterPart Expr)) → if_there (λ (h : FilterPart ℕ). n * (1 + h.test)) (having_of h) ≡ if_there (λ h. n * parts.having_weight ExprWeight h) h
kept n None = refl
kept n (Some h) = refl

abbrev pub select_at : Select-F Expr Primary Term FromItem Joined Query Select → ℕ
select_at s =
    1 + (times s.grouping * sum (parts.item_weight ExprWeight) s.items + (clause FromWeight s.from + (clause ExprWeight s.filter + (parts.keys_weight ExprWeight s.grouping + parts.kept_weight ExprWeight s.grouping s.having))))

select_moved : (s : Select-F Expr Primary Term FromItem Joined Query Select) → weights.select_weight (map-Select Expr Primary Term FromItem Joined Query Select ℕ ℕ ℕ ℕ ℕ ℕ ℕ ExprWeight PrimaryWeight TermWeight FromWeight JoinedWeight Weight SelectWeight s) ≡ select_at s
select_moved s = rw (grouping s.grouping) (rw (counts s.grouping) (rw (items s.items) (rw (maybe_from s.from) (rw (maybe_clause s.filter) (rw (kept (times s.grouping) s.having) refl)))))

abbrev pub term_at : Term-F Expr Primary Term FromItem Joined Query Select → ℕ
term_at (Term-F.Select select) = SelectWeight select
term_at (Term-F.«Term::Query» query place) = Weight query

term_moved : (x : Term-F Expr Primary Term FromItem Joined Query Select) → weights.term_weight (map-Term Expr Primary Term FromItem Joined Query Select ℕ ℕ ℕ ℕ ℕ ℕ ℕ ExprWeight PrimaryWeight TermWeight FromWeight JoinedWeight Weight SelectWeight x) ≡ term_at x
term_moved (Term-F.Select select) = refl
term_moved (Term-F.«Term::Query» query place) = refl

abbrev cte_of : Cte Query → Cte ℕ
cte_of c = record { name = c.name; query = Weight c.query }

ctes : (cs : List (Cte Query)) → list_clause (λ (c : Cte ℕ). name_weight c.name + c.query) (map cte_of cs) ≡ list_clause (parts.cte_weight Weight) cs
ctes = moved_clause (λ c. name_weight c.name + c.query) cte_of (parts.cte_weight Weight) (λ c. refl)

abbrev set_of : SetTerm Term → SetTerm ℕ
set_of t = record { kind = t.kind; term = TermWeight t.term; place = t.place }

terms : (ts : List (SetTerm Term)) → sum (λ (t : SetTerm ℕ). 1 + t.term) (map set_of ts) ≡ sum (parts.set_term_weight TermWeight) ts
terms = moved (λ t. 1 + t.term) set_of (parts.set_term_weight TermWeight) (λ t. refl)

abbrev limit_of : Option (LimitPart Expr) → Option (LimitPart ℕ)
limit_of = shapes.former-Query-limit.map Expr ℕ ExprWeight

limits : (count : Expr) (offset : Option Expr) (place : ℕ) → clause weights.limit_weight (limit_of (Some (record { count = count; offset = offset; place = place }))) ≡ 1 + (ExprWeight count + if_there ExprWeight offset)
limits count None place = refl
limits count (Some offset) place = refl

maybe_limit : (l : Option (LimitPart Expr)) → clause weights.limit_weight (limit_of l) ≡ clause (parts.limit_weight ExprWeight) l
maybe_limit None = refl
maybe_limit (Some l) = limits l.count l.offset l.place

abbrev pub query_at : Query-F Expr Primary Term FromItem Joined Query Select → ℕ
query_at q =
    list_clause (parts.cte_weight Weight) q.ctes + (TermWeight q.body.first + (sum (parts.set_term_weight TermWeight) q.body.rest + (list_clause (parts.sort_weight ExprWeight) q.order + clause (parts.limit_weight ExprWeight) q.limit)))

query_moved : (q : Query-F Expr Primary Term FromItem Joined Query Select) → weights.query_weight (map-Query Expr Primary Term FromItem Joined Query Select ℕ ℕ ℕ ℕ ℕ ℕ ℕ ExprWeight PrimaryWeight TermWeight FromWeight JoinedWeight Weight SelectWeight q) ≡ query_at q
query_moved q = rw (ctes q.ctes) (rw (terms q.body.rest) (rw (sorts q.order) (rw (maybe_limit q.limit) refl)))

-- ---- one equation a sort

pub weight_expr : (x : Expr) → ExprWeight x ≡ expr_at (out-Expr x)
unfolding ExprWeight PrimaryWeight TermWeight FromWeight JoinedWeight Weight SelectWeight
weight_expr x = ap ExprWeight (sym (roll-out-Expr x)) ∙ fold-roll-Expr ℕ ℕ ℕ ℕ ℕ ℕ ℕ weights.expr_weight weights.primary_weight weights.term_weight weights.from_weight weights.joined_weight weights.query_weight weights.select_weight (out-Expr x) ∙ expr_moved (out-Expr x)

pub weight_primary : (x : Primary) → PrimaryWeight x ≡ primary_at (out-Primary x)
unfolding ExprWeight PrimaryWeight TermWeight FromWeight JoinedWeight Weight SelectWeight
weight_primary x = ap PrimaryWeight (sym (roll-out-Primary x)) ∙ fold-roll-Primary ℕ ℕ ℕ ℕ ℕ ℕ ℕ weights.expr_weight weights.primary_weight weights.term_weight weights.from_weight weights.joined_weight weights.query_weight weights.select_weight (out-Primary x) ∙ primary_moved (out-Primary x)

pub weight_term : (x : Term) → TermWeight x ≡ term_at (out-Term x)
unfolding ExprWeight PrimaryWeight TermWeight FromWeight JoinedWeight Weight SelectWeight
weight_term x = ap TermWeight (sym (roll-out-Term x)) ∙ fold-roll-Term ℕ ℕ ℕ ℕ ℕ ℕ ℕ weights.expr_weight weights.primary_weight weights.term_weight weights.from_weight weights.joined_weight weights.query_weight weights.select_weight (out-Term x) ∙ term_moved (out-Term x)

pub weight_from : (x : FromItem) → FromWeight x ≡ from_at (out-FromItem x)
unfolding ExprWeight PrimaryWeight TermWeight FromWeight JoinedWeight Weight SelectWeight
weight_from x = ap FromWeight (sym (roll-out-FromItem x)) ∙ fold-roll-FromItem ℕ ℕ ℕ ℕ ℕ ℕ ℕ weights.expr_weight weights.primary_weight weights.term_weight weights.from_weight weights.joined_weight weights.query_weight weights.select_weight (out-FromItem x) ∙ ap (λ n. PrimaryWeight (out-FromItem x).first + n) (moved weights.its_own JoinedWeight JoinedWeight (λ j. refl) (out-FromItem x).rest)

pub weight_joined : (x : Joined) → JoinedWeight x ≡ joined_at (out-Joined x)
unfolding ExprWeight PrimaryWeight TermWeight FromWeight JoinedWeight Weight SelectWeight
weight_joined x = ap JoinedWeight (sym (roll-out-Joined x)) ∙ fold-roll-Joined ℕ ℕ ℕ ℕ ℕ ℕ ℕ weights.expr_weight weights.primary_weight weights.term_weight weights.from_weight weights.joined_weight weights.query_weight weights.select_weight (out-Joined x) ∙ ap (λ n. PrimaryWeight (out-Joined x).primary + n) (condition (out-Joined x).on)

pub weight_select : (x : Select) → SelectWeight x ≡ select_at (out-Select x)
unfolding ExprWeight PrimaryWeight TermWeight FromWeight JoinedWeight Weight SelectWeight
weight_select x = ap SelectWeight (sym (roll-out-Select x)) ∙ fold-roll-Select ℕ ℕ ℕ ℕ ℕ ℕ ℕ weights.expr_weight weights.primary_weight weights.term_weight weights.from_weight weights.joined_weight weights.query_weight weights.select_weight (out-Select x) ∙ select_moved (out-Select x)

pub weight_query : (x : Query) → Weight x ≡ query_at (out-Query x)
unfolding ExprWeight PrimaryWeight TermWeight FromWeight JoinedWeight Weight SelectWeight
weight_query x = ap Weight (sym (roll-out-Query x)) ∙ fold-roll-Query ℕ ℕ ℕ ℕ ℕ ℕ ℕ weights.expr_weight weights.primary_weight weights.term_weight weights.from_weight weights.joined_weight weights.query_weight weights.select_weight (out-Query x) ∙ query_moved (out-Query x)
