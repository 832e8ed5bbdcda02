-- The kind by the word that was read.
use Rattle.std.proofs.Common.{sym, ◌∙◌}
use Rattle.parse_query.proofs.SetWords.{kind_of_intersect, kind_of_except, kind_of_union}
use Rattle.parse_query.proofs.set_operations.set_kind.Goals as goal

pub returns-then-is_word : goal.returns-then-is_word
returns-then-is_word c = c.intersection.ensures ∙ kind_of_intersect c.args.word.now c.args.distinct (sym c.is_word.ensures ∙ c.if-is_word.true)

pub returns-then-is_word-2 : goal.returns-then-is_word-2
returns-then-is_word-2 c = c.difference.ensures ∙ kind_of_except c.args.word.now c.args.distinct (sym c.is_word-else-is_word.ensures ∙ c.if-is_word-2.true)

pub returns-else-is_word-2 : goal.returns-else-is_word-2
returns-else-is_word-2 c = c.union.ensures ∙ kind_of_union c.args.word.now.lexeme c.args.distinct (sym c.is_word.ensures ∙ c.if-is_word.false) (sym c.is_word-else-is_word.ensures ∙ c.if-is_word-2.false)
