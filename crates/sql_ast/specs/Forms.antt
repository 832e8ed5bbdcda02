-- The shapes of pieces, by the classes of their bytes. They set no condition on what the bytes say: a name of any length,
-- a number of any size and every escape have a shape, so that each piece ends at one place, and is then read or not.
use Rattle.std.specs.Prelude.{◌≡◌, true, false, List, [], ◌∷◌}
use Rattle.sql_ast.specs.declared.pieces.Quote.{Quote}
use Rattle.sql_ast.specs.declared.pieces.Mark.{Mark}
use Rattle.sql_ast.specs.declared.pieces.Mark.TheVariants as mark
use Rattle.sql_ast.specs.declared.pieces.Class.{Class}
use Rattle.sql_ast.specs.declared.pieces.Class.TheVariants as c
use Rattle.sql_ast.specs.declared.pieces.LiteralPrefix.TheVariants as prefix
use Rattle.sql_ast.specs.declared.pieces.Quotes.{Quotes}
use Rattle.sql_ast.specs.declared.pieces.Quotes.TheVariants as quotes
use Rattle.sql_ast.specs.declared.pieces.Shape.{Shape}
use Rattle.sql_ast.specs.declared.pieces.Shape.TheVariants as s
use Rattle.sql_ast.specs.Classes.{is_letter, is_inner, closes, is_backslash, is_line_break, is_star, is_slash, is_blank, is_single, is_pair}

-- letters, digits and `_`
pub data Inner : List Class → Type 0 where
  inner_none : Inner []
  inner_more : {x : Class} {u : List Class} → is_inner x ≡ true → Inner u → Inner (x ∷ u)

-- the rest of a literal or a name behind its mark, up to the next such mark
pub data Rest (m : Mark) : List Class → Type 0 where
  -- the mark
  rest_end : {x : Class} → closes m x ≡ true → Rest m (x ∷ [])
  -- a backslash takes the next byte along, so that it doesn't end the literal; there is no line break
  rest_escape : {x : Class} {u : List Class} → is_line_break x ≡ false → Rest m u → Rest m (c.Backslash ∷ x ∷ u)
  -- every other byte but a line break
  rest_more : {x : Class} {u : List Class} → closes m x ≡ false → is_backslash x ≡ false → is_line_break x ≡ false → Rest m u → Rest m (x ∷ u)

-- the rest of a literal behind three quotes, up to the next three
pub data Tripled (q : Quote) : List Class → Type 0 where
  -- three quotes
  tripled_end : {x y z : Class} → closes (mark.Quote q) x ≡ true → closes (mark.Quote q) y ≡ true → closes (mark.Quote q) z ≡ true → Tripled q (x ∷ y ∷ z ∷ [])
  -- a backslash takes the next byte along
  tripled_escape : {x : Class} {u : List Class} → Tripled q u → Tripled q (c.Backslash ∷ x ∷ u)
  -- every other byte, line breaks too
  tripled_more : {x : Class} {u : List Class} → closes (mark.Quote q) x ≡ false → is_backslash x ≡ false → Tripled q u → Tripled q (x ∷ u)
  -- one quote, or two, with something else behind
  tripled_one : {x y : Class} {u : List Class} → closes (mark.Quote q) x ≡ true → closes (mark.Quote q) y ≡ false → Tripled q (y ∷ u) → Tripled q (x ∷ y ∷ u)
  tripled_two : {x y z : Class} {u : List Class} → closes (mark.Quote q) x ≡ true → closes (mark.Quote q) y ≡ true → closes (mark.Quote q) z ≡ false → Tripled q (z ∷ u) → Tripled q (x ∷ y ∷ z ∷ u)

-- a literal without its prefix
pub data Quoted : Quotes → List Class → Type 0 where
  quoted_once : {q : Quote} {u : List Class} → Rest (mark.Quote q) u → Quoted quotes.One (c.Mark (mark.Quote q) ∷ u)
  quoted_thrice : {q : Quote} {u : List Class} → Tripled q u → Quoted quotes.Three (c.Mark (mark.Quote q) ∷ c.Mark (mark.Quote q) ∷ c.Mark (mark.Quote q) ∷ u)

-- to the end of the line
pub data Line : List Class → Type 0 where
  line_none : Line []
  line_more : {x : Class} {u : List Class} → is_line_break x ≡ false → Line u → Line (x ∷ u)

-- up to the first `*/`, whatever stands before it
pub data Block : List Class → Type 0 where
  block_end : Block (c.Star ∷ c.Slash ∷ [])
  block_star : {x : Class} {u : List Class} → is_slash x ≡ false → Block (x ∷ u) → Block (c.Star ∷ x ∷ u)
  block_more : {x : Class} {u : List Class} → is_star x ≡ false → Block u → Block (x ∷ u)

-- a piece of each shape
pub data Form : Shape → List Class → Type 0 where
  -- a letter or `_`, then letters, digits and `_`
  form_word : {x : Class} {u : List Class} → is_letter x ≡ true → Inner u → Form s.Word (x ∷ u)
  -- an identifier in backquotes
  form_quoted_name : {u : List Class} → Rest mark.Backquote u → Form s.QuotedName (c.Mark mark.Backquote ∷ u)
  -- a digit, then digits, letters and `_`: a letter that doesn't fit is part of it, and makes it faulty
  form_integer : {u : List Class} → Inner u → Form s.Integer (c.Digit ∷ u)
  -- a literal, with no prefix, with r or b, or with both in either order
  form_plain : {n : Quotes} {u : List Class} → Quoted n u → Form (s.Literal prefix.Plain n) u
  form_raw : {n : Quotes} {u : List Class} → Quoted n u → Form (s.Literal prefix.Raw n) (c.LetterR ∷ u)
  form_bytes : {n : Quotes} {u : List Class} → Quoted n u → Form (s.Literal prefix.Bytes n) (c.LetterB ∷ u)
  form_raw_bytes : {n : Quotes} {u : List Class} → Quoted n u → Form (s.Literal prefix.RawBytes n) (c.LetterR ∷ c.LetterB ∷ u)
  form_bytes_raw : {n : Quotes} {u : List Class} → Quoted n u → Form (s.Literal prefix.RawBytes n) (c.LetterB ∷ c.LetterR ∷ u)
  -- `@` and directly an identifier, which may here be a reserved word
  form_parameter : {x : Class} {u : List Class} → is_letter x ≡ true → Inner u → Form s.Parameter (c.At ∷ x ∷ u)
  -- `@` and directly an identifier in backquotes
  form_quoted_parameter : {u : List Class} → Rest mark.Backquote u → Form s.QuotedParameter (c.At ∷ c.Mark mark.Backquote ∷ u)
  -- an operator or mark of one byte, or of two
  form_single : {x : Class} → is_single x ≡ true → Form s.Sign (x ∷ [])
  form_pair : {x y : Class} → is_pair x y ≡ true → Form s.Sign (x ∷ y ∷ [])
  -- a byte of white space
  form_blank : {x : Class} → is_blank x ≡ true → Form s.Gap (x ∷ [])
  -- a comment from `--` or `#` to the end of the line
  form_dashes : {u : List Class} → Line u → Form s.Gap (c.Minus ∷ c.Minus ∷ u)
  form_hash : {u : List Class} → Line u → Form s.Gap (c.Hash ∷ u)
  -- a comment between `/*` and the next `*/`
  form_block : {u : List Class} → Block u → Form s.Gap (c.Slash ∷ c.Star ∷ u)
