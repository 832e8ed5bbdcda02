-- Words for writing parse trees down. Each takes the places that its production has, counted in the text from 0.
use Rattle.std.proofs.Common.{ℕ, false, List, [], ◌∷◌, Option, None, Some}
use Rattle.sql_ast.specs.declared.clauses.Arg.{Arg as Argument}
use Rattle.sql_ast.specs.declared.clauses.Arg.TheVariants as arg
use Rattle.sql_ast.specs.declared.clauses.Function.TheVariants as function
use Rattle.sql_ast.specs.declared.clauses.Item.{Item}
use Rattle.sql_ast.specs.declared.clauses.Item.TheVariants as item
use Rattle.sql_ast.specs.declared.clauses.Name.{Name}
use Rattle.sql_ast.specs.declared.clauses.On.TheVariants as on
use Rattle.sql_ast.specs.declared.expr.Comparison.TheVariants as comparison
use Rattle.sql_ast.specs.declared.expr.Operator.TheVariants as operator
use Rattle.sql_ast.specs.declared.expr.Part.TheVariants as part
use Rattle.sql_ast.specs.declared.expr.Expr.{Expr}
use Rattle.sql_ast.specs.declared.expr.Expr.TheVariants as e
use Rattle.sql_ast.specs.declared.query.Cte.{Cte}
use Rattle.sql_ast.specs.declared.query.FromItem.{FromItem, roll-FromItem}
use Rattle.sql_ast.specs.declared.query.Joined.{Joined, roll-Joined}
use Rattle.sql_ast.specs.declared.query.JoinWord.{JoinWord}
use Rattle.sql_ast.specs.declared.query.JoinWord.TheVariants as join
use Rattle.sql_ast.specs.declared.query.Primary.{Primary}
use Rattle.sql_ast.specs.declared.query.Primary.TheVariants as primary
use Rattle.sql_ast.specs.declared.query.Query.{Query, roll-Query}
use Rattle.sql_ast.specs.declared.query.Select.{Select, roll-Select}
use Rattle.sql_ast.specs.declared.query.Term.{Term}
use Rattle.sql_ast.specs.declared.query.Term.TheVariants as term

abbrev pub named : List ℕ → ℕ → Name
named text place = record { text = text; place = place }

-- ---- expressions

-- a chain of two: where it begins, the operator, its place
abbrev pub sum : ℕ → Expr → ℕ → Expr → Expr
sum place left operator_place right = e.Sum left (record { operator = operator.Add; operand = right; place = operator_place } ∷ []) place

abbrev pub product : ℕ → Expr → ℕ → Expr → Expr
product place left operator_place right = e.Product left (record { operator = operator.Multiply; operand = right; place = operator_place } ∷ []) place

abbrev pub both : ℕ → Expr → ℕ → Expr → Expr
both place left operator_place right = e.And left (record { operator = operator.And; operand = right; place = operator_place } ∷ []) place

abbrev pub equals : ℕ → Expr → ℕ → Expr → Expr
equals place left operator_place right = e.Compare left comparison.Equal operator_place right place

abbrev pub arguments : List Expr → List (Argument Expr)
arguments [] = []
arguments (x ∷ xs) = arg.Expr x ∷ arguments xs

-- a call of a function by its name, without a modifier
abbrev pub call : List ℕ → List Expr → ℕ → Expr
call name xs place = e.Call (record { function = function.Named name; distinct = false; star = false; arguments = arguments xs; nulls = None; order = []; limit = None; place = place }) place

-- `x.name`
abbrev pub field : ℕ → Expr → List ℕ → ℕ → Expr
field place x name name_place = e.Postfix x (part.Field (named name name_place) ∷ []) place

-- ---- items

abbrev pub plain : Expr → ℕ → Item Expr
plain x place = item.Expr x None place

-- `x AS name`
abbrev pub as_name : Expr → ℕ → List ℕ → ℕ → Item Expr
as_name x place name name_place = item.Expr x (Some (named name name_place)) place

abbrev pub column : List ℕ → ℕ → Item Expr
column name place = plain (e.Name name place) place

abbrev pub star : ℕ → Item Expr
star place = item.Star (record { except = []; replace = [] }) place

-- ---- queries

abbrev pub select_of : ℕ → List (Item Expr) → Option FromItem → Option Expr → Select
select_of place items from filter = roll-Select (record { distinct = false; as_struct = false; items = items; from = from; filter = filter; grouping = None; having = None; place = place })

abbrev pub query_of : ℕ → List (Cte Query) → Term → Query
query_of place ctes first = roll-Query (record { ctes = ctes; body = record { first = first; rest = []; place = place }; order = []; limit = None; place = place })

-- SELECT .. FROM .. WHERE
abbrev pub select : ℕ → List (Item Expr) → FromItem → Expr → Query
select place items from test = query_of place [] (term.Select (select_of place items (Some from) (Some test)))

abbrev pub select_from : ℕ → List (Item Expr) → FromItem → Query
select_from place items from = query_of place [] (term.Select (select_of place items (Some from) None))

abbrev pub select_only : ℕ → List (Item Expr) → Query
select_only place items = query_of place [] (term.Select (select_of place items None None))

-- ---- FROM

abbrev pub from_items : ℕ → Primary → List Joined → FromItem
from_items place first rest = roll-FromItem (record { first = first; rest = rest; place = place })

abbrev pub only : ℕ → Primary → FromItem
only place first = from_items place first []

abbrev pub table : List ℕ → ℕ → Primary
table name place = primary.Table (named name place) None None place

abbrev pub table_as : List ℕ → ℕ → List ℕ → ℕ → Primary
table_as name place alias alias_place = primary.Table (named name place) (Some (named alias alias_place)) None place

-- a subquery, by the place of its bracket
abbrev pub subquery : Query → ℕ → Primary
subquery query place = primary.Query query None None place

abbrev pub subquery_as : Query → ℕ → List ℕ → ℕ → Primary
subquery_as query place alias alias_place = primary.Query query (Some (named alias alias_place)) None place

abbrev pub comma : ℕ → Primary → Joined
comma place item = roll-Joined (record { word = join.Comma; primary = item; on = None; place = place })

abbrev pub join_using : JoinWord → ℕ → Primary → List Name → ℕ → Joined
join_using word place item columns using_place = roll-Joined (record { word = word; primary = item; on = Some (on.Using columns using_place); place = place })

abbrev pub join_on : JoinWord → ℕ → Primary → Expr → ℕ → Joined
join_on word place item test on_place = roll-Joined (record { word = word; primary = item; on = Some (on.On test on_place); place = place })
