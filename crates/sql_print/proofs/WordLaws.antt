-- The words that the grammar reads at their place are plain, so they are spelled as they are.
use Rattle.std.proofs.Common.{◌≡◌, refl}
use Rattle.sql_names.specs.Spelling.{is_plain, quote_name}
use Rattle.sql_names.specs.Words.{reserved_of}
use Rattle.sql_ast.specs.declared.words.Word.{Word}
use Rattle.sql_ast.specs.declared.words.Word.TheVariants as w
use Rattle.sql_ast.specs.Marks.{same_word}
use Rattle.sql_ast.specs.Pieces.{spelled_word}

pub plain_word : (x : Word) → quote_name (spelled_word x) ≡ spelled_word x
unfolding is_plain reserved_of same_word
plain_word w.Date = refl
plain_word w.First = refl
plain_word w.Include = refl
plain_word w.Last = refl
plain_word w.Offset = refl
plain_word w.Ordinal = refl
plain_word w.Pivot = refl
plain_word w.Replace = refl
plain_word w.Safe = refl
plain_word w.SafeCast = refl
plain_word w.SafeOffset = refl
plain_word w.SafeOrdinal = refl
plain_word w.Sets = refl
plain_word w.Unpivot = refl
