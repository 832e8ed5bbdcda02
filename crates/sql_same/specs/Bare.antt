-- Trees with their places left out. Each place in the tree is 0, and each name is spelled by a rule: as it is, or in lower
-- case. All else stays, so two trees whose bare trees are equal are the same tree, places aside. The names are those of
-- columns, tables, aliases, functions, fields, types, variables and parameters; what literals say is no name.
use Rattle.std.specs.Prelude.{◌≡◌, ℕ, List, map, Option, option_map}
use Rattle.std.specs.Str.{str_to_ascii_lowercase}
use Rattle.sql_ast.specs.declared.clauses.Aliased.{Aliased}
use Rattle.sql_ast.specs.declared.clauses.Arg.{Arg}
use Rattle.sql_ast.specs.declared.clauses.Arg.TheVariants as arg
use Rattle.sql_ast.specs.declared.clauses.Binding.{Binding}
use Rattle.sql_ast.specs.declared.clauses.Call.{Call}
use Rattle.sql_ast.specs.declared.clauses.Edit.{Edit}
use Rattle.sql_ast.specs.declared.clauses.FilterPart.{FilterPart}
use Rattle.sql_ast.specs.declared.clauses.Function.{Function}
use Rattle.sql_ast.specs.declared.clauses.Function.TheVariants as function
use Rattle.sql_ast.specs.declared.clauses.Item.{Item}
use Rattle.sql_ast.specs.declared.clauses.Item.TheVariants as item
use Rattle.sql_ast.specs.declared.clauses.LimitPart.{LimitPart}
use Rattle.sql_ast.specs.declared.clauses.Name.{Name}
use Rattle.sql_ast.specs.declared.clauses.On.{On}
use Rattle.sql_ast.specs.declared.clauses.On.TheVariants as on
use Rattle.sql_ast.specs.declared.clauses.PivotCall.{PivotCall}
use Rattle.sql_ast.specs.declared.clauses.Replacement.{Replacement}
use Rattle.sql_ast.specs.declared.clauses.Sort.{Sort}
use Rattle.sql_ast.specs.declared.clauses.Turn.{Turn}
use Rattle.sql_ast.specs.declared.clauses.Turn.TheVariants as turn
use Rattle.sql_ast.specs.declared.clauses.Turned.{Turned}
use Rattle.sql_ast.specs.declared.clauses.UnpivotColumn.{UnpivotColumn}
use Rattle.sql_ast.specs.declared.clauses.When.{When}
use Rattle.sql_ast.specs.declared.clauses.WithOffset.{WithOffset}
use Rattle.sql_ast.specs.declared.expr.Link.{Link}
use Rattle.sql_ast.specs.declared.expr.Part.{Part}
use Rattle.sql_ast.specs.declared.expr.Part.TheVariants as part
use Rattle.sql_ast.specs.declared.expr.Prefix.{Prefix}
use Rattle.sql_ast.specs.declared.expr.Expr.{Expr, roll-Expr, fold-Expr}
use Rattle.sql_ast.specs.declared.expr.Expr.TheOpen as ast
use Rattle.sql_ast.specs.declared.expr.Expr.TheOpen.{Expr-F, Primary-F, Term-F, FromItem-F, Joined-F, Query-F, Select-F}
use Rattle.sql_ast.specs.declared.grouping.Cube.{Cube}
use Rattle.sql_ast.specs.declared.grouping.GroupItem.{GroupItem}
use Rattle.sql_ast.specs.declared.grouping.GroupItem.TheVariants as group_item
use Rattle.sql_ast.specs.declared.grouping.GroupSet.{GroupSet}
use Rattle.sql_ast.specs.declared.grouping.GroupSet.TheVariants as group_set
use Rattle.sql_ast.specs.declared.grouping.Groups.{Groups}
use Rattle.sql_ast.specs.declared.grouping.Groups.TheVariants as groups
use Rattle.sql_ast.specs.declared.query.Body.{Body}
use Rattle.sql_ast.specs.declared.query.Cte.{Cte}
use Rattle.sql_ast.specs.declared.query.SetTerm.{SetTerm}
use Rattle.sql_ast.specs.declared.query.Primary.{Primary, roll-Primary, fold-Primary}
use Rattle.sql_ast.specs.declared.query.Term.{Term, roll-Term, fold-Term}
use Rattle.sql_ast.specs.declared.query.FromItem.{FromItem, roll-FromItem, fold-FromItem}
use Rattle.sql_ast.specs.declared.query.Joined.{Joined, roll-Joined, fold-Joined}
use Rattle.sql_ast.specs.declared.query.Query.{Query, roll-Query, fold-Query}
use Rattle.sql_ast.specs.declared.query.Select.{Select, roll-Select, fold-Select}
use Rattle.sql_ast.specs.declared.type_spelling.TypeField.{TypeField}
use Rattle.sql_ast.specs.declared.type_spelling.TypeSpelling.{TypeSpelling, roll-TypeSpelling, fold-TypeSpelling}
use Rattle.sql_ast.specs.declared.type_spelling.TypeSpelling.TheOpen.{TypeSpelling-F}
use Rattle.sql_ast.specs.declared.type_spelling.TypeSpelling.TheOpen as type

-- how names are spelled
abbrev pub Spell : Type 0
Spell = List ℕ → List ℕ

-- as it is
abbrev pub as_is : {A : Type 0} → A → A
as_is a = a

-- ---- names and types

abbrev pub bare_name : Spell → Name → Name
bare_name spell n = record { text = spell n.text; place = 0 }

abbrev pub bare_names : Spell → List Name → List Name
bare_names spell = map (bare_name spell)

abbrev pub bare_alias : Spell → Option Name → Option Name
bare_alias spell = option_map (bare_name spell)

abbrev pub bare_function : Spell → Function → Function
bare_function spell function.If = function.If
bare_function spell (function.Named text) = function.Named (spell text)

abbrev pub bare_offset : Spell → WithOffset → WithOffset
bare_offset spell o = record { alias = bare_alias spell o.alias; place = 0 }

-- the label is a literal
abbrev pub bare_column : Spell → UnpivotColumn → UnpivotColumn
bare_column spell c = record { name = bare_name spell c.name; label = c.label }

abbrev pub bare_prefix : Prefix → Prefix
bare_prefix p = record { operator = p.operator; place = 0 }

-- In what follows `bare` makes bare what a part holds.
abbrev pub bare_field : {T : Type 0} → Spell → (T → T) → TypeField T → TypeField T
bare_field spell bare f = record { name = bare_alias spell f.name; ty = bare f.ty }

abbrev pub type_layer : Spell → TypeSpelling-F TypeSpelling → TypeSpelling-F TypeSpelling
type_layer spell (type.Name n) = type.Name (bare_name spell n)
type_layer spell (type.Array element place) = type.Array element 0
type_layer spell (type.Struct fields place) = type.Struct (map (bare_field spell as_is) fields) 0

unfoldable pub BareType : Spell → TypeSpelling → TypeSpelling
BareType spell = fold-TypeSpelling TypeSpelling (λ x. roll-TypeSpelling (type_layer spell x))

-- ---- parts of expressions

abbrev pub bare_link : {E : Type 0} → (E → E) → Link E → Link E
bare_link bare l = record { operator = l.operator; operand = bare l.operand; place = 0 }

abbrev pub bare_part : {E : Type 0} → Spell → (E → E) → Part E → Part E
bare_part spell bare (part.Field n) = part.Field (bare_name spell n)
bare_part spell bare (part.Index form index place) = part.Index form (bare index) 0

abbrev pub bare_sort : {E : Type 0} → (E → E) → Sort E → Sort E
bare_sort bare s = record { expr = bare s.expr; descending = s.descending; nulls = s.nulls; place = 0 }

abbrev pub bare_argument : {E : Type 0} → Spell → (E → E) → Arg E → Arg E
bare_argument spell bare (arg.Expr a) = arg.Expr (bare a)
bare_argument spell bare (arg.Lambda variables body place) = arg.Lambda (bare_names spell variables) (bare body) 0
bare_argument spell bare (arg.Interval amount n place) = arg.Interval (bare amount) (bare_name spell n) 0

abbrev pub bare_call : {E : Type 0} → Spell → (E → E) → Call E → Call E
bare_call spell bare call = record {
  function = bare_function spell call.function;
  distinct = call.distinct;
  star = call.star;
  arguments = map (bare_argument spell bare) call.arguments;
  nulls = call.nulls;
  order = map (bare_sort bare) call.order;
  limit = call.limit;
  place = 0;
}

abbrev pub bare_when : {E : Type 0} → (E → E) → When E → When E
bare_when bare w = record { test = bare w.test; result = bare w.result }

abbrev pub bare_aliased : {E : Type 0} → Spell → (E → E) → Aliased E → Aliased E
bare_aliased spell bare x = record { expr = bare x.expr; alias = bare_alias spell x.alias }

abbrev pub bare_binding : {E : Type 0} → Spell → (E → E) → Binding E → Binding E
bare_binding spell bare b = record { name = bare_name spell b.name; expr = bare b.expr }

-- ---- the select list

abbrev pub bare_replacement : {E : Type 0} → Spell → (E → E) → Replacement E → Replacement E
bare_replacement spell bare r = record { expr = bare r.expr; name = bare_name spell r.name }

abbrev pub bare_edit : {E : Type 0} → Spell → (E → E) → Edit E → Edit E
bare_edit spell bare d = record { except = bare_names spell d.except; replace = map (bare_replacement spell bare) d.replace }

abbrev pub bare_item : {E : Type 0} → Spell → (E → E) → Item E → Item E
bare_item spell bare (item.Star edit place) = item.Star (bare_edit spell bare edit) 0
bare_item spell bare (item.QualifiedStar a edit place) = item.QualifiedStar (bare a) (bare_edit spell bare edit) 0
bare_item spell bare (item.Expr a alias place) = item.Expr (bare a) (bare_alias spell alias) 0

-- ---- FROM

abbrev pub bare_on : {E : Type 0} → Spell → (E → E) → On E → On E
bare_on spell bare (on.On condition place) = on.On (bare condition) 0
bare_on spell bare (on.Using columns place) = on.Using (bare_names spell columns) 0

abbrev pub bare_pivot_call : {E : Type 0} → Spell → (E → E) → PivotCall E → PivotCall E
bare_pivot_call spell bare k = record { call = bare_call spell bare k.call; alias = bare_alias spell k.alias }

abbrev pub bare_turn : {E : Type 0} → Spell → (E → E) → Turn E → Turn E
bare_turn spell bare (turn.Pivot aggregates input values place) =
    turn.Pivot (map (bare_pivot_call spell bare) aggregates) (bare_names spell input) (map (bare_aliased spell bare) values) 0
bare_turn spell bare (turn.Unpivot include_nulls value label columns place) =
    turn.Unpivot include_nulls (bare_name spell value) (bare_name spell label) (map (bare_column spell) columns) 0

abbrev pub bare_turned : {E : Type 0} → Spell → (E → E) → Turned E → Turned E
bare_turned spell bare t = record { turn = bare_turn spell bare t.turn; alias = bare_alias spell t.alias }

-- ---- GROUP BY

abbrev pub bare_group_item : {E : Type 0} → (E → E) → GroupItem E → GroupItem E
bare_group_item bare (group_item.Expr a) = group_item.Expr (bare a)
bare_group_item bare (group_item.List items place) = group_item.List (map bare items) 0

abbrev pub bare_cube : {E : Type 0} → (E → E) → Cube E → Cube E
bare_cube bare c = record { kind = c.kind; items = map (bare_group_item bare) c.items; place = 0 }

abbrev pub bare_set : {E : Type 0} → (E → E) → GroupSet E → GroupSet E
bare_set bare (group_set.Item i) = group_set.Item (bare_group_item bare i)
bare_set bare (group_set.Cube c) = group_set.Cube (bare_cube bare c)

abbrev pub bare_groups : {E : Type 0} → (E → E) → Groups E → Groups E
bare_groups bare (groups.Keys keys place) = groups.Keys (map bare keys) 0
bare_groups bare (groups.Empty place) = groups.Empty 0
bare_groups bare (groups.Sets sets place) = groups.Sets (map (bare_set bare) sets) 0
bare_groups bare (groups.Cube c place) = groups.Cube (bare_cube bare c) 0

-- ---- clauses of queries

abbrev pub bare_having : {E : Type 0} → (E → E) → FilterPart E → FilterPart E
bare_having bare h = record { test = bare h.test; place = 0 }

abbrev pub bare_limit : {E : Type 0} → (E → E) → LimitPart E → LimitPart E
bare_limit bare l = record { count = bare l.count; offset = option_map bare l.offset; place = 0 }

abbrev pub bare_cte : {Q : Type 0} → Spell → (Q → Q) → Cte Q → Cte Q
bare_cte spell bare c = record { name = bare_name spell c.name; query = bare c.query }

abbrev pub bare_set_term : {T : Type 0} → (T → T) → SetTerm T → SetTerm T
bare_set_term bare t = record { kind = t.kind; term = bare t.term; place = 0 }

abbrev pub bare_body : {T : Type 0} → (T → T) → Body T → Body T
bare_body bare b = record { first = bare b.first; rest = map (bare_set_term bare) b.rest; place = 0 }

-- ---- trees, whose parts are bare already: one case per construct

abbrev pub expr_layer : Spell → Expr-F Expr Primary Term FromItem Joined Query Select → Expr-F Expr Primary Term FromItem Joined Query Select
expr_layer spell (ast.Or first rest place) = ast.Or first (map (bare_link as_is) rest) 0
expr_layer spell (ast.And first rest place) = ast.And first (map (bare_link as_is) rest) 0
expr_layer spell (ast.Not operators operand place) = ast.Not (map (λ o. 0) operators) operand 0
expr_layer spell (ast.BitOr first rest place) = ast.BitOr first (map (bare_link as_is) rest) 0
expr_layer spell (ast.BitXor first rest place) = ast.BitXor first (map (bare_link as_is) rest) 0
expr_layer spell (ast.BitAnd first rest place) = ast.BitAnd first (map (bare_link as_is) rest) 0
expr_layer spell (ast.Shift first rest place) = ast.Shift first (map (bare_link as_is) rest) 0
expr_layer spell (ast.Sum first rest place) = ast.Sum first (map (bare_link as_is) rest) 0
expr_layer spell (ast.Product first rest place) = ast.Product first (map (bare_link as_is) rest) 0
expr_layer spell (ast.Unary operators operand place) = ast.Unary (map bare_prefix operators) operand 0
expr_layer spell (ast.Compare left operator operator_place right place) = ast.Compare left operator 0 right 0
expr_layer spell (ast.Like left negated operator_place right place) = ast.Like left negated 0 right 0
expr_layer spell (ast.LikeList left quantifier operator_place patterns place) = ast.LikeList left quantifier 0 patterns 0
expr_layer spell (ast.LikeUnnest left quantifier operator_place array place) = ast.LikeUnnest left quantifier 0 array 0
expr_layer spell (ast.Between subject negated operator_place low high place) = ast.Between subject negated 0 low high 0
expr_layer spell (ast.InList left negated operator_place list place) = ast.InList left negated 0 list 0
expr_layer spell (ast.InQuery left negated operator_place query open_place place) = ast.InQuery left negated 0 query 0 0
expr_layer spell (ast.InUnnest left negated operator_place array place) = ast.InUnnest left negated 0 array 0
expr_layer spell (ast.Is left negated test operator_place place) = ast.Is left negated test 0 0
expr_layer spell (ast.Distinct left negated operator_place right place) = ast.Distinct left negated 0 right 0
expr_layer spell (ast.Postfix first parts place) = ast.Postfix first (map (bare_part spell as_is) parts) 0
expr_layer spell (ast.Integer value place) = ast.Integer value 0
expr_layer spell (ast.Text value place) = ast.Text value 0
expr_layer spell (ast.Bytes value place) = ast.Bytes value 0
expr_layer spell (ast.Bool value place) = ast.Bool value 0
expr_layer spell (ast.Null place) = ast.Null 0
expr_layer spell (ast.Date text place) = ast.Date text 0
expr_layer spell (ast.Parameter name place) = ast.Parameter (spell name) 0
expr_layer spell (ast.Name name place) = ast.Name (spell name) 0
expr_layer spell (ast.Call call place) = ast.Call (bare_call spell as_is call) 0
expr_layer spell (ast.SafeCall call place) = ast.SafeCall (bare_call spell as_is call) 0
expr_layer spell (ast.Scalar query place) = ast.Scalar query 0
expr_layer spell (ast.Tuple parts place) = ast.Tuple parts 0
expr_layer spell (ast.Case subject branches otherwise place) = ast.Case subject (map (bare_when as_is) branches) otherwise 0
expr_layer spell (ast.Cast safe a type place) = ast.Cast safe a (BareType spell type) 0
expr_layer spell (ast.Extract name a place) = ast.Extract (bare_name spell name) a 0
expr_layer spell (ast.Grouping argument place) = ast.Grouping argument 0
expr_layer spell (ast.Exists query place) = ast.Exists query 0
expr_layer spell (ast.ArrayQuery query open_place place) = ast.ArrayQuery query 0 0
expr_layer spell (ast.Array element items open_place place) = ast.Array (option_map (BareType spell) element) items 0 0
expr_layer spell (ast.Struct parts place) = ast.Struct (map (bare_aliased spell as_is) parts) 0
expr_layer spell (ast.TypedStruct fields parts open_place place) = ast.TypedStruct (map (bare_field spell (BareType spell)) fields) parts 0 0
expr_layer spell (ast.With bindings result place) = ast.With (map (bare_binding spell as_is) bindings) result 0

abbrev pub primary_layer : Spell → Primary-F Expr Primary Term FromItem Joined Query Select → Primary-F Expr Primary Term FromItem Joined Query Select
primary_layer spell (ast.Table name alias turned place) = ast.Table (bare_name spell name) (bare_alias spell alias) (option_map (bare_turned spell as_is) turned) 0
primary_layer spell (Primary-F.«Primary::Query» query alias turned place) = Primary-F.«Primary::Query» query (bare_alias spell alias) (option_map (bare_turned spell as_is) turned) 0
primary_layer spell (ast.Path path alias offset place) = ast.Path (bare_names spell path) (bare_alias spell alias) (option_map (bare_offset spell) offset) 0
primary_layer spell (ast.Unnest array alias offset place) = ast.Unnest array (bare_alias spell alias) (option_map (bare_offset spell) offset) 0

abbrev pub joined_layer : Spell → Joined-F Expr Primary Term FromItem Joined Query Select → Joined-F Expr Primary Term FromItem Joined Query Select
joined_layer spell j = record { word = j.word; primary = j.primary; on = option_map (bare_on spell as_is) j.on; place = 0 }

abbrev pub from_layer : Spell → FromItem-F Expr Primary Term FromItem Joined Query Select → FromItem-F Expr Primary Term FromItem Joined Query Select
from_layer spell f = record { first = f.first; rest = f.rest; place = 0 }

abbrev pub term_layer : Spell → Term-F Expr Primary Term FromItem Joined Query Select → Term-F Expr Primary Term FromItem Joined Query Select
term_layer spell (Term-F.Select select) = Term-F.Select select
term_layer spell (Term-F.«Term::Query» query place) = Term-F.«Term::Query» query 0

abbrev pub select_layer : Spell → Select-F Expr Primary Term FromItem Joined Query Select → Select-F Expr Primary Term FromItem Joined Query Select
select_layer spell s = record {
  distinct = s.distinct;
  as_struct = s.as_struct;
  items = map (bare_item spell as_is) s.items;
  from = s.from;
  filter = s.filter;
  grouping = option_map (bare_groups as_is) s.grouping;
  having = option_map (bare_having as_is) s.having;
  place = 0;
}

abbrev pub query_layer : Spell → Query-F Expr Primary Term FromItem Joined Query Select → Query-F Expr Primary Term FromItem Joined Query Select
query_layer spell q = record {
  ctes = map (bare_cte spell as_is) q.ctes;
  body = bare_body as_is q.body;
  order = map (bare_sort as_is) q.order;
  limit = option_map (bare_limit as_is) q.limit;
  place = 0;
}

unfoldable pub BareExpr : Spell → Expr → Expr
BareExpr s = fold-Expr Expr Primary Term FromItem Joined Query Select (λ x. roll-Expr (expr_layer s x)) (λ x. roll-Primary (primary_layer s x)) (λ x. roll-Term (term_layer s x)) (λ x. roll-FromItem (from_layer s x)) (λ x. roll-Joined (joined_layer s x)) (λ x. roll-Query (query_layer s x)) (λ x. roll-Select (select_layer s x))

unfoldable pub BarePrimary : Spell → Primary → Primary
BarePrimary s = fold-Primary Expr Primary Term FromItem Joined Query Select (λ x. roll-Expr (expr_layer s x)) (λ x. roll-Primary (primary_layer s x)) (λ x. roll-Term (term_layer s x)) (λ x. roll-FromItem (from_layer s x)) (λ x. roll-Joined (joined_layer s x)) (λ x. roll-Query (query_layer s x)) (λ x. roll-Select (select_layer s x))

unfoldable pub BareTerm : Spell → Term → Term
BareTerm s = fold-Term Expr Primary Term FromItem Joined Query Select (λ x. roll-Expr (expr_layer s x)) (λ x. roll-Primary (primary_layer s x)) (λ x. roll-Term (term_layer s x)) (λ x. roll-FromItem (from_layer s x)) (λ x. roll-Joined (joined_layer s x)) (λ x. roll-Query (query_layer s x)) (λ x. roll-Select (select_layer s x))

unfoldable pub BareFrom : Spell → FromItem → FromItem
BareFrom s = fold-FromItem Expr Primary Term FromItem Joined Query Select (λ x. roll-Expr (expr_layer s x)) (λ x. roll-Primary (primary_layer s x)) (λ x. roll-Term (term_layer s x)) (λ x. roll-FromItem (from_layer s x)) (λ x. roll-Joined (joined_layer s x)) (λ x. roll-Query (query_layer s x)) (λ x. roll-Select (select_layer s x))

unfoldable pub BareJoined : Spell → Joined → Joined
BareJoined s = fold-Joined Expr Primary Term FromItem Joined Query Select (λ x. roll-Expr (expr_layer s x)) (λ x. roll-Primary (primary_layer s x)) (λ x. roll-Term (term_layer s x)) (λ x. roll-FromItem (from_layer s x)) (λ x. roll-Joined (joined_layer s x)) (λ x. roll-Query (query_layer s x)) (λ x. roll-Select (select_layer s x))

unfoldable pub BareQuery : Spell → Query → Query
BareQuery s = fold-Query Expr Primary Term FromItem Joined Query Select (λ x. roll-Expr (expr_layer s x)) (λ x. roll-Primary (primary_layer s x)) (λ x. roll-Term (term_layer s x)) (λ x. roll-FromItem (from_layer s x)) (λ x. roll-Joined (joined_layer s x)) (λ x. roll-Query (query_layer s x)) (λ x. roll-Select (select_layer s x))

unfoldable pub BareSelect : Spell → Select → Select
BareSelect s = fold-Select Expr Primary Term FromItem Joined Query Select (λ x. roll-Expr (expr_layer s x)) (λ x. roll-Primary (primary_layer s x)) (λ x. roll-Term (term_layer s x)) (λ x. roll-FromItem (from_layer s x)) (λ x. roll-Joined (joined_layer s x)) (λ x. roll-Query (query_layer s x)) (λ x. roll-Select (select_layer s x))

-- ---- the same

-- two queries are the same tree, places aside
abbrev pub SamePlacesAside : Query → Query → Type 0
SamePlacesAside left right = BareQuery as_is left ≡ BareQuery as_is right

-- two expressions are the same, names by `same_name`, places aside
abbrev pub SameExpr : Expr → Expr → Type 0
SameExpr left right = BareExpr str_to_ascii_lowercase left ≡ BareExpr str_to_ascii_lowercase right
