-- What the next token begins, in the words of the grammar.
use Rattle.sql_grammar.specs.Classes as c
use Rattle.parse_expr.specs.declared.beginnings.ArgumentsStart.{ArgumentsStart}
use Rattle.parse_expr.specs.declared.beginnings.ArgumentsStart.TheVariants as a
use Rattle.parse_expr.specs.declared.beginnings.BasicStart.{BasicStart}
use Rattle.parse_expr.specs.declared.beginnings.BasicStart.TheVariants as b
use Rattle.parse_expr.specs.declared.beginnings.NameStart.{NameStart}
use Rattle.parse_expr.specs.declared.beginnings.NameStart.TheVariants as n
use Rattle.parse_expr.specs.declared.beginnings.ContentStart.{ContentStart}
use Rattle.parse_expr.specs.declared.beginnings.ContentStart.TheVariants as h
use Rattle.parse_expr.specs.declared.beginnings.ComparisonStart.{ComparisonStart}
use Rattle.parse_expr.specs.declared.beginnings.ComparisonStart.TheVariants as k

abbrev pub arguments_class : ArgumentsStart → c.ArgumentsStart
arguments_class a.Star = c.by_star
arguments_class a.Nothing = c.by_nothing
arguments_class a.Argument = c.by_arg

abbrev pub basic_class : BasicStart → c.BasicStart
basic_class b.Integer = c.an_integer
basic_class b.Text = c.a_string
basic_class b.Bytes = c.a_bytes
basic_class b.True = c.a_true
basic_class b.False = c.a_false
basic_class b.Null = c.a_null
basic_class b.Parameter = c.a_parameter
basic_class b.Name = c.a_name
basic_class b.If = c.an_if
basic_class b.Bracket = c.a_bracket
basic_class b.Case = c.a_case
basic_class b.Cast = c.a_cast
basic_class b.Extract = c.an_extract
basic_class b.Grouping = c.a_grouping
basic_class b.Exists = c.an_exists
basic_class b.Array = c.an_array
basic_class b.Square = c.a_square
basic_class b.Struct = c.a_struct
basic_class b.With = c.a_with
basic_class b.Other = c.no_basic

abbrev pub name_class : NameStart → c.NameWord
name_class n.Date = c.the_date
name_class n.Safe = c.the_safe
name_class n.Plain = c.plain_name

abbrev pub content_class : ContentStart → c.Content
content_class h.Select = c.by_select
content_class h.With = c.by_with
content_class h.Expr = c.by_expr

abbrev pub comparison_class : ComparisonStart → c.ComparisonStart
comparison_class k.Sign = c.by_sign
comparison_class k.Like = c.by_like
comparison_class k.Between = c.by_between
comparison_class k.In = c.by_in
comparison_class k.Is = c.by_is
comparison_class k.Not = c.by_not
comparison_class k.Other = c.no_comparison
