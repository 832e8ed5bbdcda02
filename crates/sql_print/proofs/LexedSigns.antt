-- Each lexeme of a print is read back as itself: the lexer's machine goes over its text, and stops where the next token of a print
-- may stand beside it. Here for signs and reserved words.
use Rattle.std.proofs.Common.{◌≡◌, ℕ, Bool, true, false, cond, ◌&&◌, List, [], ◌∷◌, map, Option, Some, None, refl, sym, ◌∙◌, ap}
use Rattle.std.proofs.lemmas.Str.{is_utf8-from_IsUtf8}
use Rattle.std.specs.Prelude.{IsUtf8}
use Rattle.std.specs.List.{list_all}
use Rattle.sql_names.specs.declared.words.Reserved.{Reserved}
use Rattle.sql_names.specs.declared.words.Reserved.TheVariants as r
use Rattle.sql_names.specs.Words.{reserved_of}
use Rattle.sql_ast.specs.declared.words.Sign.{Sign}
use Rattle.sql_ast.specs.declared.words.Sign.TheVariants as sign
use Rattle.sql_ast.specs.declared.pieces.Class.{Class}
use Rattle.sql_ast.specs.declared.pieces.Class.TheVariants as c
use Rattle.sql_ast.specs.declared.pieces.Shape.{Shape}
use Rattle.sql_ast.specs.declared.pieces.Shape.TheVariants as s
use Rattle.sql_ast.specs.declared.pieces.Piece as read_piece
use Rattle.sql_ast.specs.declared.pieces.Piece.TheVariants as piece
use Rattle.sql_ast.specs.declared.token.Lexeme.{Lexeme}
use Rattle.sql_ast.specs.declared.token.Lexeme.TheVariants as l
use Rattle.sql_ast.specs.Classes.{class, is_after_less}
use Rattle.sql_ast.specs.Marks.{same_reserved, same_sign}
use Rattle.sql_ast.specs.Pieces.{lexeme_text}
use Rattle.sql_ast.specs.Values.{read, meaning, word}
use Rattle.sql_ast.specs.Words.{sign_of}
use Rattle.sql_lexer.specs.declared.machine.State.{State}
use Rattle.sql_lexer.specs.declared.machine.State.TheVariants as t
use Rattle.sql_lexer.specs.Machine.{step, whole}
use Rattle.sql_print.proofs.AsciiTexts.{is_ascii, ascii_text}
use Rattle.sql_print.proofs.Flows.{quiet, quiet_sign, is_less, less_sign, is_greater, greater_sign, is_reserved, lettered}
use Rattle.sql_print.proofs.LexedWalks.{run}

never : {A : Type 0} → false ≡ true → A
never h = absurd (let g : true ≡ false = sym h in cc)

-- a space, or the class of brackets, `,` and `.`
abbrev pub is_calm : Class → Bool
is_calm c.Space = true
is_calm c.Sign = true
is_calm _ = false

-- `<` or `>`
abbrev pub is_angle : Class → Bool
is_angle c.Less = true
is_angle c.Greater = true
is_angle _ = false

-- the class of the first byte
abbrev pub head_class : List Class → Class
head_class [] = c.Other
head_class (x ∷ more) = x

abbrev pub some_class : List Class → Bool
some_class [] = false
some_class (x ∷ more) = true

-- how the text of a lexeme is read, where it stops, and how it begins
pub record Lexing (x : Lexeme) : Type 0 where
  pub end : State
  pub shape : Shape
  pub runs : run t.Start (map class (lexeme_text x)) ≡ Some end
  pub whole_is : whole end ≡ Some shape
  pub reads : (dot : Bool) → (dot && is_reserved x) ≡ false → read dot shape (lexeme_text x) ≡ Some (piece.Token x)
  pub calm : (y : Class) → is_calm y ≡ true → step end y ≡ None
  pub closed : quiet x ≡ true → (y : Class) → step end y ≡ None
  pub angle : lettered x ≡ true → (y : Class) → is_angle y ≡ true → step end y ≡ None
  pub less : is_less x ≡ true → (y : Class) → is_after_less y ≡ false → step end y ≡ None
  pub greater : is_greater x ≡ true → step end c.Greater ≡ None
  pub some : some_class (map class (lexeme_text x)) ≡ true
  pub first_calm : quiet x ≡ true → is_calm (head_class (map class (lexeme_text x))) ≡ true
  pub first_less : is_less x ≡ true → head_class (map class (lexeme_text x)) ≡ c.Less
  pub first_greater : is_greater x ≡ true → head_class (map class (lexeme_text x)) ≡ c.Greater
  pub first_letter : lettered x ≡ true → is_after_less (head_class (map class (lexeme_text x))) ≡ false

pub read_is : (dot : Bool) (shape : Shape) (u : List ℕ) (o : Option read_piece.Piece) → IsUtf8 u → meaning dot shape u ≡ o → read dot shape u ≡ o
unfolding read
read_is dot shape u o h e = ap (λ (b : Bool). cond b (meaning dot shape u) None) (is_utf8-from_IsUtf8 u h) ∙ e

-- ---- signs

abbrev sign_end : Sign → State
sign_end sign.Minus = t.Minus
sign_end sign.Less = t.Less
sign_end sign.Greater = t.Greater
sign_end sign.Bar = t.Bar
sign_end _ = t.Closed s.Sign

sign_runs : (x : Sign) → run t.Start (map class (lexeme_text (l.Sign x))) ≡ Some (sign_end x)
unfolding step class lexeme_text same_sign
sign_runs sign.Minus = refl
sign_runs _ = refl

sign_whole : (x : Sign) → whole (sign_end x) ≡ Some s.Sign
unfolding whole
sign_whole sign.Minus = refl
sign_whole _ = refl

sign_ascii : (x : Sign) → list_all is_ascii (lexeme_text (l.Sign x)) ≡ true
unfolding lexeme_text same_sign
sign_ascii sign.Minus = refl
sign_ascii _ = refl

sign_means : (dot : Bool) (x : Sign) → meaning dot s.Sign (lexeme_text (l.Sign x)) ≡ Some (piece.Token (l.Sign x))
unfolding meaning lexeme_text same_sign sign_of
sign_means dot sign.Minus = refl
sign_means dot _ = refl

calm_minus : (y : Class) → is_calm y ≡ true → step t.Minus y ≡ None
unfolding step
calm_minus c.Space h = refl
calm_minus c.Sign h = refl
calm_minus _ h = never h

calm_less : (y : Class) → is_calm y ≡ true → step t.Less y ≡ None
unfolding step
calm_less c.Space h = refl
calm_less c.Sign h = refl
calm_less _ h = never h

calm_greater : (y : Class) → is_calm y ≡ true → step t.Greater y ≡ None
unfolding step
calm_greater c.Space h = refl
calm_greater c.Sign h = refl
calm_greater _ h = never h

calm_bar : (y : Class) → is_calm y ≡ true → step t.Bar y ≡ None
unfolding step
calm_bar c.Space h = refl
calm_bar c.Sign h = refl
calm_bar _ h = never h

sign_calm : (x : Sign) (y : Class) → is_calm y ≡ true → step (sign_end x) y ≡ None
unfolding step
sign_calm sign.Minus y h = calm_minus y h
sign_calm sign.Less y h = calm_less y h
sign_calm sign.Greater y h = calm_greater y h
sign_calm sign.Bar y h = calm_bar y h
sign_calm _ y h = refl

sign_closed : (x : Sign) → quiet_sign x ≡ true → (y : Class) → step (sign_end x) y ≡ None
unfolding step
sign_closed sign.OpenRound h y = refl
sign_closed sign.CloseRound h y = refl
sign_closed sign.OpenSquare h y = refl
sign_closed sign.CloseSquare h y = refl
sign_closed sign.Comma h y = refl
sign_closed sign.Dot h y = refl
sign_closed _ h y = never h

behind_less : (y : Class) → is_after_less y ≡ false → step t.Less y ≡ None
unfolding step
behind_less y h = ap (λ (b : Bool). cond b (Some (t.Closed s.Sign)) None) h

sign_less : (x : Sign) → less_sign x ≡ true → (y : Class) → is_after_less y ≡ false → step (sign_end x) y ≡ None
sign_less sign.Less h y k = behind_less y k
sign_less _ h y k = never h

sign_greater : (x : Sign) → greater_sign x ≡ true → step (sign_end x) c.Greater ≡ None
unfolding step
sign_greater sign.Greater h = refl
sign_greater _ h = never h

sign_some : (x : Sign) → some_class (map class (lexeme_text (l.Sign x))) ≡ true
unfolding lexeme_text same_sign
sign_some sign.Minus = refl
sign_some _ = refl

sign_first_calm : (x : Sign) → quiet_sign x ≡ true → is_calm (head_class (map class (lexeme_text (l.Sign x)))) ≡ true
unfolding class lexeme_text same_sign
sign_first_calm sign.OpenRound h = refl
sign_first_calm sign.CloseRound h = refl
sign_first_calm sign.OpenSquare h = refl
sign_first_calm sign.CloseSquare h = refl
sign_first_calm sign.Comma h = refl
sign_first_calm sign.Dot h = refl
sign_first_calm _ h = never h

sign_first_less : (x : Sign) → less_sign x ≡ true → head_class (map class (lexeme_text (l.Sign x))) ≡ c.Less
unfolding class lexeme_text same_sign
sign_first_less sign.Less h = refl
sign_first_less _ h = never h

sign_first_greater : (x : Sign) → greater_sign x ≡ true → head_class (map class (lexeme_text (l.Sign x))) ≡ c.Greater
unfolding class lexeme_text same_sign
sign_first_greater sign.Greater h = refl
sign_first_greater _ h = never h

pub sign_lexing : (x : Sign) → Lexing (l.Sign x)
sign_lexing x = record {
  end = sign_end x;
  shape = s.Sign;
  runs = sign_runs x;
  whole_is = sign_whole x;
  reads = λ dot h. read_is dot s.Sign (lexeme_text (l.Sign x)) (Some (piece.Token (l.Sign x))) (ascii_text (lexeme_text (l.Sign x)) (sign_ascii x)) (sign_means dot x);
  calm = sign_calm x;
  closed = sign_closed x;
  angle = λ h y k. never h;
  less = sign_less x;
  greater = sign_greater x;
  some = sign_some x;
  first_calm = sign_first_calm x;
  first_less = sign_first_less x;
  first_greater = sign_first_greater x;
  first_letter = λ h. never h;
}

-- ---- reserved words

reserved_runs : (x : Reserved) → run t.Start (map class (lexeme_text (l.Reserved x))) ≡ Some t.Word
unfolding step class lexeme_text same_reserved
reserved_runs r.All = refl
reserved_runs _ = refl

reserved_ascii : (x : Reserved) → list_all is_ascii (lexeme_text (l.Reserved x)) ≡ true
unfolding lexeme_text same_reserved
reserved_ascii r.All = refl
reserved_ascii _ = refl

reserved_back : (x : Reserved) → reserved_of (lexeme_text (l.Reserved x)) ≡ Some x
unfolding reserved_of lexeme_text same_reserved
reserved_back r.All = refl
reserved_back _ = refl

reserved_some : (x : Reserved) → some_class (map class (lexeme_text (l.Reserved x))) ≡ true
unfolding lexeme_text same_reserved
reserved_some r.All = refl
reserved_some _ = refl

reserved_first : (x : Reserved) → is_after_less (head_class (map class (lexeme_text (l.Reserved x)))) ≡ false
unfolding class lexeme_text same_reserved
reserved_first r.All = refl
reserved_first _ = refl

reserved_means : (dot : Bool) (x : Reserved) → (dot && true) ≡ false → meaning dot s.Word (lexeme_text (l.Reserved x)) ≡ Some (piece.Token (l.Reserved x))
unfolding meaning word
reserved_means true x h = absurd (cc)
reserved_means false x h = rw (reserved_back x) refl

word_calm : (y : Class) → is_calm y ≡ true → step t.Word y ≡ None
unfolding step
word_calm c.Space h = refl
word_calm c.Sign h = refl
word_calm _ h = never h

word_angle : (y : Class) → is_angle y ≡ true → step t.Word y ≡ None
unfolding step
word_angle c.Less h = refl
word_angle c.Greater h = refl
word_angle _ h = never h

word_whole : whole t.Word ≡ Some s.Word
unfolding whole
word_whole = refl

pub reserved_lexing : (x : Reserved) → Lexing (l.Reserved x)
reserved_lexing x = record {
  end = t.Word;
  shape = s.Word;
  runs = reserved_runs x;
  whole_is = word_whole;
  reads = λ dot h. read_is dot s.Word (lexeme_text (l.Reserved x)) (Some (piece.Token (l.Reserved x))) (ascii_text (lexeme_text (l.Reserved x)) (reserved_ascii x)) (reserved_means dot x h);
  calm = word_calm;
  closed = λ h y. never h;
  angle = λ h. word_angle;
  less = λ h y k. never h;
  greater = λ h. never h;
  some = reserved_some x;
  first_calm = λ h. never h;
  first_less = λ h. never h;
  first_greater = λ h. never h;
  first_letter = λ h. reserved_first x;
}
