-- Which tokens a mark stands for.
use Rattle.std.specs.Prelude.{ℕ, Bool, ◌&&◌, ◌==◌}
use Rattle.sql_names.specs.declared.words.Reserved.{Reserved}
use Rattle.sql_ast.specs.declared.words.Sign.{Sign}
use Rattle.sql_ast.specs.declared.words.Sign.TheVariants as s
use Rattle.sql_ast.specs.declared.words.Word.{Word}
use Rattle.sql_ast.specs.declared.token.Token.{Token}
use Rattle.sql_ast.specs.Marks.{reserved, sign, word, named, integer, text, bytes, parameter}
use Rattle.sql_ast.specs.Parts.{from_alias, counts}
use Rattle.sql_ast.specs.Trees.{function_of, prefix_of, product_of, sum_of, comparison_of, quantifier_of, test_of, form_of, cube_of}
use Rattle.sql_grammar.specs.Classes.{set_word_of, starts_item, joins, comma_or_join}
use Rattle.sql_grammar.specs.Exprs.{tells, starred, part_next, shift_next}
use Rattle.parse_words.specs.declared.marks.Mark.{Mark}
use Rattle.parse_words.specs.declared.marks.Mark.TheVariants as m

abbrev pub marked : Mark → Token → Bool
marked (m.Reserved x) = reserved x
marked (m.Sign x) = sign x
marked (m.Word x) = word x
marked m.Name = named
marked m.Integer = integer
marked m.Text = text
marked m.Bytes = bytes
marked m.Parameter = parameter
marked m.Count = counts
marked m.FromAlias = from_alias
marked m.Function = tells function_of
marked m.Prefix = tells prefix_of
marked m.Product = tells product_of
marked m.Sum = tells sum_of
marked m.Comparison = tells comparison_of
marked m.Quantifier = tells quantifier_of
marked m.Test = tells test_of
marked m.Form = tells form_of
marked m.Cube = tells cube_of
marked m.SetWord = tells set_word_of
marked m.Part = part_next
marked m.Shift = shift_next
marked (m.ShiftEnd place) = λ t. sign s.Greater t && (place == t.start)
marked (m.StarIf permitted) = starred permitted
marked m.ItemStart = starts_item
marked m.Join = joins
marked m.CommaOrJoin = comma_or_join
