-- Which set operation a word begins.
use Rattle.std.proofs.Common.{◌≡◌, Bool, true, false, Option, None, Some, refl, sym, ap}
use Rattle.sql_types.specs.declared.kinds.SetKind.{SetKind}
use Rattle.sql_names.specs.declared.words.Reserved.TheVariants as r
use Rattle.sql_ast.specs.declared.token.Lexeme.{Lexeme}
use Rattle.sql_ast.specs.declared.token.Lexeme.TheVariants as l
use Rattle.sql_ast.specs.declared.token.Token.{Token}
use Rattle.sql_ast.specs.Marks.{reserved, reserved_lexeme, same_reserved}
use Rattle.sql_grammar.specs.Classes.{SetWord, a_union, an_intersect, an_except, set_lexeme, set_word_of, set_kind_by}
use Rattle.sql_grammar.specs.Exprs.{told}
use Rattle.sql_grammar.proofs.Follows.{is_reserved}

abbrev pub word_in : Lexeme → SetWord
word_in x = elim (set_lexeme x) [ None ↦ a_union | Some a ↦ a ]

pub kind_of_intersect : (t : Token) (d : Bool) → reserved r.Intersect t ≡ true → set_kind_by an_intersect d ≡ set_kind_by (told a_union set_word_of t) d
kind_of_intersect t d h = let e : t.lexeme ≡ l.Reserved r.Intersect = is_reserved {x = r.Intersect} {t = t} (record { is = h }) in sym (ap (λ (x : Lexeme). set_kind_by (word_in x) d) e)

pub kind_of_except : (t : Token) (d : Bool) → reserved r.Except t ≡ true → set_kind_by an_except d ≡ set_kind_by (told a_union set_word_of t) d
kind_of_except t d h = let e : t.lexeme ≡ l.Reserved r.Except = is_reserved {x = r.Except} {t = t} (record { is = h }) in sym (ap (λ (x : Lexeme). set_kind_by (word_in x) d) e)

pub kind_of_union : (x : Lexeme) (d : Bool) → reserved_lexeme r.Intersect x ≡ false → reserved_lexeme r.Except x ≡ false → set_kind_by a_union d ≡ set_kind_by (word_in x) d
unfolding same_reserved
kind_of_union (l.Reserved r.Intersect) d h k = absurd cc
kind_of_union (l.Reserved r.Except) d h k = absurd cc
kind_of_union (l.Reserved r.Union) d h k = refl
kind_of_union _ d h k = refl
