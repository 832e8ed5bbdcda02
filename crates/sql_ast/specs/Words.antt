-- The words and signs of the grammar that aren't reserved words.
use Rattle.std.specs.Prelude.{ℕ, List, map, Option}
use Rattle.sql_names.specs.Words.{find_word}
use Rattle.sql_ast.specs.declared.words.Word.{Word}
use Rattle.sql_ast.specs.declared.words.Sign.{Sign}
use Rattle.sql_ast.specs.declared.words.TheConstants.{WORDS, SIGNS}

-- the word of the grammar that these letters spell, if it isn't reserved
unfoldable pub word_of : List ℕ → Option Word
word_of = find_word (map (λ e. (e.0.now, e.1)) WORDS)

-- the operator or mark that these bytes are
unfoldable pub sign_of : List ℕ → Option Sign
sign_of = find_word (map (λ e. (e.0.now, e.1)) SIGNS)
