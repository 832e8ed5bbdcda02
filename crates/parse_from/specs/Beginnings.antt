-- What the next token begins, in the words of the grammar.
use Rattle.sql_grammar.specs.Classes as c
use Rattle.parse_from.specs.declared.beginnings.JoinStart.{JoinStart}
use Rattle.parse_from.specs.declared.beginnings.JoinStart.TheVariants as j
use Rattle.parse_from.specs.declared.beginnings.PrimaryStart.{PrimaryStart}
use Rattle.parse_from.specs.declared.beginnings.PrimaryStart.TheVariants as p

abbrev pub join_class : JoinStart → c.JoinStart
join_class j.Cross = c.by_cross
join_class j.Inner = c.by_inner
join_class j.Join = c.by_join
join_class j.Left = c.by_left
join_class j.Right = c.by_right
join_class j.Full = c.by_full
join_class j.Other = c.no_join

abbrev pub primary_class : PrimaryStart → c.PrimaryStart
primary_class p.Name = c.primary_name
primary_class p.Bracket = c.primary_bracket
primary_class p.Unnest = c.primary_by_unnest
primary_class p.Other = c.no_primary
