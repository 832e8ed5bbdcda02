-- Texts without a form that the rewriters take away: a lambda, a quantified LIKE, PIVOT, UNPIVOT, ROLLUP, CUBE and GROUPING SETS.
use Rattle.std.specs.Prelude.{◌≡◌, Bool, true, false, ◌||◌, List, [], ◌∷◌, Option, None, Some}
use Rattle.sql_ast.specs.declared.clauses.Arg.{Arg as Argument}
use Rattle.sql_ast.specs.declared.clauses.Arg.TheVariants as arg
use Rattle.sql_ast.specs.declared.clauses.Call.{Call}
use Rattle.sql_ast.specs.declared.clauses.Edit.{Edit}
use Rattle.sql_ast.specs.declared.clauses.FilterPart.{FilterPart}
use Rattle.sql_ast.specs.declared.clauses.Item.{Item}
use Rattle.sql_ast.specs.declared.clauses.Item.TheVariants as item
use Rattle.sql_ast.specs.declared.clauses.LimitPart.{LimitPart}
use Rattle.sql_ast.specs.declared.clauses.On.{On}
use Rattle.sql_ast.specs.declared.clauses.On.TheVariants as on
use Rattle.sql_ast.specs.declared.clauses.Sort.{Sort}
use Rattle.sql_ast.specs.declared.clauses.Turned.{Turned}
use Rattle.sql_ast.specs.declared.expr.Link.{Link}
use Rattle.sql_ast.specs.declared.expr.Part.{Part}
use Rattle.sql_ast.specs.declared.expr.Part.TheVariants as part
use Rattle.sql_ast.specs.declared.expr.Expr.TheOpen as ast
use Rattle.sql_ast.specs.declared.expr.Expr.TheOpen.{Expr-F, Primary-F, Term-F, FromItem-F, Joined-F, Query-F, Select-F}
use Rattle.sql_ast.specs.declared.grouping.Groups.{Groups}
use Rattle.sql_ast.specs.declared.grouping.Groups.TheVariants as groups
use Rattle.sql_ast.specs.declared.query.Query.{Query, fold-Query}

abbrev pub some : {A : Type 0} → (A → Bool) → List A → Bool
some holds [] = false
some holds (x ∷ xs) = holds x || some holds xs

abbrev pub maybe : {A : Type 0} → (A → Bool) → Option A → Bool
maybe holds None = false
maybe holds (Some x) = holds x

abbrev pub itself : Bool → Bool
itself b = b

-- ---- parts, given by whether their own parts hold such a form

abbrev pub in_links : List (Link Bool) → Bool
in_links links = some (λ (l : Link Bool). l.operand) links

abbrev pub in_part : Part Bool → Bool
in_part (part.Field name) = false
in_part (part.Index form index place) = index

abbrev pub in_sorts : List (Sort Bool) → Bool
in_sorts sorts = some (λ (s : Sort Bool). s.expr) sorts

-- a lambda
abbrev pub in_argument : Argument Bool → Bool
in_argument (arg.Expr e) = e
in_argument (arg.Interval amount part place) = amount
in_argument (arg.Lambda variables body place) = true

abbrev pub in_call : Call Bool → Bool
in_call call = some in_argument call.arguments || in_sorts call.order

abbrev pub in_edit : Edit Bool → Bool
in_edit edit = some (λ r. r.expr) edit.replace

abbrev pub in_item : Item Bool → Bool
in_item (item.Star edit place) = in_edit edit
in_item (item.QualifiedStar e edit place) = e || in_edit edit
in_item (item.Expr e alias place) = e

abbrev pub in_on : On Bool → Bool
in_on (on.On test place) = test
in_on (on.Using columns place) = false

-- PIVOT and UNPIVOT
abbrev pub is_turned : Option (Turned Bool) → Bool
is_turned None = false
is_turned (Some turned) = true

-- GROUPING SETS, ROLLUP and CUBE
abbrev pub in_groups : Groups Bool → Bool
in_groups (groups.Keys keys place) = some itself keys
in_groups (groups.Empty place) = false
in_groups (groups.Sets sets place) = true
in_groups (groups.Cube cube place) = true

abbrev pub in_limit : LimitPart Bool → Bool
in_limit limit = limit.count || maybe itself limit.offset

-- ---- one case per construct

abbrev pub in_expr : Expr-F Bool Bool Bool Bool Bool Bool Bool → Bool
in_expr (ast.Or first rest place) = first || in_links rest
in_expr (ast.And first rest place) = first || in_links rest
in_expr (ast.Not operators operand place) = operand
in_expr (ast.BitOr first rest place) = first || in_links rest
in_expr (ast.BitXor first rest place) = first || in_links rest
in_expr (ast.BitAnd first rest place) = first || in_links rest
in_expr (ast.Shift first rest place) = first || in_links rest
in_expr (ast.Sum first rest place) = first || in_links rest
in_expr (ast.Product first rest place) = first || in_links rest
in_expr (ast.Unary operators operand place) = operand
in_expr (ast.Compare left operator operator_place right place) = left || right
in_expr (ast.Like left negated operator_place right place) = left || right
-- a quantified LIKE
in_expr (ast.LikeList left quantifier operator_place patterns place) = true
in_expr (ast.LikeUnnest left quantifier operator_place array place) = true
in_expr (ast.Between subject negated operator_place low high place) = subject || (low || high)
in_expr (ast.InList left negated operator_place list place) = left || some itself list
in_expr (ast.InQuery left negated operator_place query open_place place) = left || query
in_expr (ast.InUnnest left negated operator_place array place) = left || array
in_expr (ast.Is left negated test operator_place place) = left
in_expr (ast.Distinct left negated operator_place right place) = left || right
in_expr (ast.Postfix first more place) = first || some in_part more
in_expr (ast.Integer value place) = false
in_expr (ast.Text value place) = false
in_expr (ast.Bytes value place) = false
in_expr (ast.Bool value place) = false
in_expr (ast.Null place) = false
in_expr (ast.Date text place) = false
in_expr (ast.Parameter name place) = false
in_expr (ast.Name name place) = false
in_expr (ast.Call call place) = in_call call
in_expr (ast.SafeCall call place) = in_call call
in_expr (ast.Scalar query place) = query
in_expr (ast.Tuple es place) = some itself es
in_expr (ast.Case subject branches otherwise place) = maybe itself subject || (some (λ w. w.test || w.result) branches || maybe itself otherwise)
in_expr (ast.Cast safe e type place) = e
in_expr (ast.Extract part e place) = e
in_expr (ast.Grouping argument place) = argument
in_expr (ast.Exists query place) = query
in_expr (ast.ArrayQuery query open_place place) = query
in_expr (ast.Array element es open_place place) = some itself es
in_expr (ast.Struct fields place) = some (λ f. f.expr) fields
in_expr (ast.TypedStruct fields es open_place place) = some itself es
in_expr (ast.With bindings result place) = some (λ b. b.expr) bindings || result

abbrev pub in_primary : Primary-F Bool Bool Bool Bool Bool Bool Bool → Bool
in_primary (ast.Table name alias turned place) = is_turned turned
in_primary (Primary-F.«Primary::Query» query alias turned place) = query || is_turned turned
in_primary (ast.Path path alias offset place) = false
in_primary (ast.Unnest array alias offset place) = array

abbrev pub in_term : Term-F Bool Bool Bool Bool Bool Bool Bool → Bool
in_term (Term-F.Select select) = select
in_term (Term-F.«Term::Query» query place) = query

abbrev pub in_from : FromItem-F Bool Bool Bool Bool Bool Bool Bool → Bool
in_from f = f.first || some itself f.rest

abbrev pub in_joined : Joined-F Bool Bool Bool Bool Bool Bool Bool → Bool
in_joined j = j.primary || maybe in_on j.on

abbrev pub in_query : Query-F Bool Bool Bool Bool Bool Bool Bool → Bool
in_query q = some (λ c. c.query) q.ctes || ((q.body.first || some (λ m. m.term) q.body.rest) || (in_sorts q.order || maybe in_limit q.limit))

abbrev pub in_having : FilterPart Bool → Bool
in_having h = h.test

abbrev pub in_select : Select-F Bool Bool Bool Bool Bool Bool Bool → Bool
in_select s = some in_item s.items || ((maybe itself s.from || maybe itself s.filter) || (maybe in_groups s.grouping || maybe in_having s.having))

unfoldable pub has_rewritten : Query → Bool
has_rewritten = fold-Query Bool Bool Bool Bool Bool Bool Bool in_expr in_primary in_term in_from in_joined in_query in_select

abbrev pub Plain : Query → Type 0
Plain query = has_rewritten query ≡ false
