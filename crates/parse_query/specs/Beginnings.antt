-- What the next token begins, in the words of the grammar.
use Rattle.sql_grammar.specs.Classes as c
use Rattle.parse_query.specs.declared.beginnings.ItemStart.{ItemStart}
use Rattle.parse_query.specs.declared.beginnings.ItemStart.TheVariants as i

abbrev pub item_class : ItemStart → c.ItemStart
item_class i.Star = c.item_by_star
item_class i.Prefix = c.item_by_prefix
item_class i.Basic = c.item_by_basic
item_class i.Other = c.no_item
