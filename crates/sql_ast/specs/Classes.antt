-- What bytes are to the shapes of pieces.
use Rattle.std.specs.Prelude.{ℕ, Bool, true, false, ◌||◌, ◌&&◌, ◌==◌, nat_le, if◌then◌else◌}
use Rattle.std.specs.Str.{byte}
use Rattle.sql_ast.specs.declared.pieces.Quote.{Quote}
use Rattle.sql_ast.specs.declared.pieces.Quote.TheVariants as quote
use Rattle.sql_ast.specs.declared.pieces.Mark.{Mark}
use Rattle.sql_ast.specs.declared.pieces.Mark.TheVariants as mark
use Rattle.sql_ast.specs.declared.pieces.Class.{Class}
use Rattle.sql_ast.specs.declared.pieces.Class.TheVariants as c

-- the byte is from the first to the last of these
abbrev pub is_between : ℕ → ℕ → ℕ → Bool
is_between first last b = nat_le first b && nat_le b last

-- the bytes that are a token and begin no other
abbrev pub is_sign : ℕ → Bool
is_sign b =
    b == byte "(" || b == byte ")" || b == byte "[" || b == byte "]" || b == byte "," || b == byte "." || b == byte ";" || b == byte "+" || b == byte "~" || b == byte "&" || b == byte "^"

-- the class of a byte
unfoldable pub class : ℕ → Class
class b =
    -- the letters that may stand before a literal
    if b == byte "r" || b == byte "R" then c.LetterR else
    if b == byte "b" || b == byte "B" then c.LetterB else
    if is_between (byte "a") (byte "z") b || is_between (byte "A") (byte "Z") b || b == byte "_" then c.Letter else
    if is_between (byte "0") (byte "9") b then c.Digit else
    -- LF and CR end a line
    if b == 10 || b == 13 then c.LineBreak else
    -- bytes 9 to 13 and 32 are white space
    if is_between 9 13 b || b == 32 then c.Space else
    if b == byte "'" then c.Mark (mark.Quote quote.Single) else
    -- a double quote
    if b == 34 then c.Mark (mark.Quote quote.Double) else
    if b == byte "`" then c.Mark mark.Backquote else
    -- a backslash
    if b == 92 then c.Backslash else
    if b == byte "*" then c.Star else
    if b == byte "/" then c.Slash else
    if b == byte "#" then c.Hash else
    if b == byte "-" then c.Minus else
    if b == byte "<" then c.Less else
    if b == byte "=" then c.Equal else
    if b == byte ">" then c.Greater else
    if b == byte "|" then c.Bar else
    if b == byte "!" then c.Bang else
    if b == byte "@" then c.At else
    if is_sign b then c.Sign else
    c.Other

-- a letter or `_`, with which an identifier begins
abbrev pub is_letter : Class → Bool
is_letter c.LetterR = true
is_letter c.LetterB = true
is_letter c.Letter = true
is_letter _ = false

-- a letter, a digit or `_`, with which an identifier goes on
abbrev pub is_inner : Class → Bool
is_inner c.Digit = true
is_inner x = is_letter x

abbrev pub same_quote : Quote → Quote → Bool
same_quote quote.Single quote.Single = true
same_quote quote.Double quote.Double = true
same_quote _ _ = false

abbrev pub same_mark : Mark → Mark → Bool
same_mark (mark.Quote x) (mark.Quote y) = same_quote x y
same_mark mark.Backquote mark.Backquote = true
same_mark _ _ = false

-- the byte is this mark
abbrev pub closes : Mark → Class → Bool
closes x (c.Mark y) = same_mark x y
closes _ _ = false

abbrev pub is_backslash : Class → Bool
is_backslash c.Backslash = true
is_backslash _ = false

abbrev pub is_line_break : Class → Bool
is_line_break c.LineBreak = true
is_line_break _ = false

abbrev pub is_star : Class → Bool
is_star c.Star = true
is_star _ = false

abbrev pub is_slash : Class → Bool
is_slash c.Slash = true
is_slash _ = false

-- white space
abbrev pub is_blank : Class → Bool
is_blank c.Space = true
is_blank c.LineBreak = true
is_blank _ = false

-- one byte that is a token: the classes of `( ) [ ] , . ; + ~ & ^`, `*`, `-`, `<`, `=`, `>` and `|`
abbrev pub is_single : Class → Bool
is_single c.Sign = true
is_single c.Star = true
is_single c.Minus = true
is_single c.Less = true
is_single c.Equal = true
is_single c.Greater = true
is_single c.Bar = true
is_single _ = false

abbrev pub is_equal : Class → Bool
is_equal c.Equal = true
is_equal _ = false

abbrev pub is_greater : Class → Bool
is_greater c.Greater = true
is_greater _ = false

abbrev pub is_bar : Class → Bool
is_bar c.Bar = true
is_bar _ = false

-- what makes a token with a `<` before it
abbrev pub is_after_less : Class → Bool
is_after_less c.Less = true
is_after_less c.Equal = true
is_after_less c.Greater = true
is_after_less _ = false

-- Two bytes that are a token: `->`, `<<`, `<=`, `<>`, `>=`, `!=` and `||`. The operator `>>` is two tokens.
abbrev pub is_pair : Class → Class → Bool
is_pair c.Minus y = is_greater y
is_pair c.Less y = is_after_less y
is_pair c.Greater y = is_equal y
is_pair c.Bang y = is_equal y
is_pair c.Bar y = is_bar y
is_pair _ _ = false
