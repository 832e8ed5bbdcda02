-- What a type begins with, in the words of the grammar.
use Rattle.sql_grammar.specs.Classes as c
use Rattle.parse_words.specs.declared.type_starts.TypeStart.{TypeStart}
use Rattle.parse_words.specs.declared.type_starts.TypeStart.TheVariants as s

abbrev pub type_class : TypeStart → c.TypeStart
type_class s.Name = c.a_type_name
type_class s.Array = c.an_array_type
type_class s.Struct = c.a_struct_type
type_class s.Other = c.no_type
