-- How the items of a select list begin and end, in the words of the grammar.
use Rattle.std.specs.Prelude.{ℕ, Option, Some, None}
use Rattle.sql_ast.specs.declared.clauses.Edit.{Edit}
use Rattle.sql_ast.specs.declared.clauses.Item.{Item}
use Rattle.sql_ast.specs.declared.clauses.Item.TheVariants as item
use Rattle.sql_ast.specs.declared.expr.Expr.{Expr}
use Rattle.sql_ast.specs.declared.token.Token.{Token}
use Rattle.sql_grammar.specs.Queries as q
use Rattle.parse_query.specs.declared.ends.Starred.{Starred}
use Rattle.parse_query.specs.declared.ends.Starred.TheVariants as s

-- an end by the word EXCEPT, which was read, or by a comma
abbrev pub end_of : Option Token → q.ItemsEnd
end_of None = q.at_comma
end_of (Some t) = q.at_except t

-- the word EXCEPT that ends the items, if it does
abbrev pub except_in : Option q.ItemsEnd → Option Token
except_in None = None
except_in (Some q.at_comma) = None
except_in (Some (q.at_except t)) = Some t

abbrev pub edited_item : Starred → Edit Expr → Item Expr
edited_item (s.All place) edit = item.Star edit place
edited_item (s.Qualified qualifier place) edit = item.QualifiedStar qualifier edit place
