-- What the next token begins, in the words of the grammar.
use Rattle.sql_grammar.specs.Classes as c
use Rattle.parse_groups.specs.declared.beginnings.GroupsStart.{GroupsStart}
use Rattle.parse_groups.specs.declared.beginnings.GroupsStart.TheVariants as g

abbrev pub groups_class : GroupsStart → c.GroupsStart
groups_class g.Bracket = c.groups_bracket
groups_class g.Grouping = c.groups_grouping
groups_class g.Cube = c.groups_by_cube
groups_class g.Expr = c.groups_expr
