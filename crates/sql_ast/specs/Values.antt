-- What the bytes of a piece say, by its shape. None stands where they say nothing, and the piece is faulty.
use Rattle.std.specs.Prelude.{ℕ, zero, suc, ◌+◌, ◌-◌, ◌*◌, ◌^◌, Bool, true, false, ◌&&◌, ◌||◌, ◌==◌, nat_le, nat_lt, if◌then◌else◌, List, [], ◌∷◌, ◌++◌, length, take, drop, fold, slice_index, Option, Some, None, option_map, option_and_then, encode_utf8}
use Rattle.std.specs.Char.{is_digit, digit_value}
use Rattle.std.specs.List.{list_all}
use Rattle.std.specs.Str.{byte, is_utf8}
use Rattle.sql_ast.specs.declared.token.Lexeme.{Lexeme}
use Rattle.sql_ast.specs.declared.token.Lexeme.TheVariants as lexeme
use Rattle.sql_names.specs.declared.words.Reserved.{Reserved}
use Rattle.sql_ast.specs.declared.words.Sign.{Sign}
use Rattle.sql_ast.specs.declared.words.Sign.TheVariants as sign
use Rattle.sql_ast.specs.declared.pieces.LiteralPrefix.{LiteralPrefix}
use Rattle.sql_ast.specs.declared.pieces.LiteralPrefix.TheVariants as prefix
use Rattle.sql_ast.specs.declared.pieces.Quotes.{Quotes}
use Rattle.sql_ast.specs.declared.pieces.Quotes.TheVariants as quotes
use Rattle.sql_ast.specs.declared.pieces.Content.{Content}
use Rattle.sql_ast.specs.declared.pieces.Content.TheVariants as content
use Rattle.sql_ast.specs.declared.pieces.Shape.{Shape}
use Rattle.sql_ast.specs.declared.pieces.Shape.TheVariants as s
use Rattle.sql_ast.specs.declared.pieces.Piece.{Piece}
use Rattle.sql_ast.specs.declared.pieces.Piece.TheVariants as piece
use Rattle.sql_ast.specs.Classes.{is_between}
use Rattle.sql_names.specs.Words.{reserved_of}
use Rattle.sql_ast.specs.Words.{word_of, sign_of}

-- ---- words and names

-- a name isn't empty and has at most 128 bytes
abbrev pub is_name : List ℕ → Bool
is_name name = nat_lt 0 (length name) && nat_le (length name) 128

-- an identifier outside of backquotes, with the word that the grammar may read at its place
abbrev pub plain_name : List ℕ → Option Lexeme
plain_name letters = if is_name letters then Some (lexeme.Name letters (word_of letters)) else None

-- an identifier in backquotes is never a word of the grammar
abbrev pub quoted_name : List ℕ → Option Lexeme
quoted_name name = if is_name name then Some (lexeme.Name name None) else None

abbrev pub reserved_or_name : List ℕ → Option Reserved → Option Lexeme
reserved_or_name letters (Some word) = Some (lexeme.Reserved word)
reserved_or_name letters None = plain_name letters

-- directly behind the token `.` a reserved word is an identifier
unfoldable pub word : Bool → List ℕ → Option Lexeme
word true letters = plain_name letters
word false letters = reserved_or_name letters (reserved_of letters)

-- the name of a parameter may be a reserved word
abbrev pub parameter : List ℕ → Option Lexeme
parameter name = if is_name name then Some (lexeme.Parameter name) else None

-- ---- numbers

-- there is a digit, and each byte is a digit of this base
abbrev pub are_digits : ℕ → List ℕ → Bool
are_digits base digits = nat_lt 0 (length digits) && list_all (λ d. is_digit d base) digits

-- the number that they stand for
abbrev pub number_of : ℕ → List ℕ → ℕ
number_of base digits = fold (λ n d. n * base + digit_value d) 0 digits

-- at most 18446744073709551615
abbrev pub number : ℕ → List ℕ → Option ℕ
number base digits = if are_digits base digits && nat_lt (number_of base digits) (2 ^ 64) then Some (number_of base digits) else None

-- digits, or `0x` or `0X` and hexadecimal digits
unfoldable pub integer : List ℕ → Option ℕ
integer bytes =
    if slice_index bytes 0 == byte "0" && (slice_index bytes 1 == byte "x" || slice_index bytes 1 == byte "X") then number 16 (drop 2 bytes)
    else number 10 bytes

-- ---- escapes

-- what an escape stands for, and how many bytes it takes behind its backslash
pub record Escape : Type 0 where
  pub bytes : List ℕ
  pub size : ℕ

-- one byte that stands for a byte
abbrev pub one : ℕ → Option Escape
one b = Some (record { bytes = b ∷ []; size = 1 })

-- at most 10FFFF, and no surrogate
abbrev pub is_code_point : ℕ → Bool
is_code_point n = nat_lt n 0xD800 || is_between 0xE000 0x10_FFFF n

-- a number is a byte in BYTES, and a code point in a STRING or a name
abbrev pub coded : Content → ℕ → Option (List ℕ)
coded content.Bytes n = if nat_le n 255 then Some (n ∷ []) else None
coded content.Text n = if is_code_point n then Some (encode_utf8 n) else None

-- an escape of this size that stands for a number
abbrev pub numbered : Content → ℕ → ℕ → Option Escape
numbered kind size n = option_map (λ b. record { bytes = b; size = size }) (coded kind n)

-- the number that so many digits of this base stand for, with which the bytes begin
abbrev pub number_at_start : ℕ → ℕ → List ℕ → Option ℕ
number_at_start base count bytes = if nat_le count (length bytes) then number base (take count bytes) else None

-- three octal digits up to 377
abbrev pub octal : Content → List ℕ → Option Escape
octal kind bytes = option_and_then (λ n. if nat_le n 255 then numbered kind 3 n else None) (number_at_start 8 3 bytes)

-- behind `x` or `X` two hexadecimal digits
abbrev pub hexadecimal : Content → List ℕ → Option Escape
hexadecimal kind more = option_and_then (numbered kind 3) (number_at_start 16 2 more)

-- behind `u` four hexadecimal digits, behind `U` eight; these are no escapes in BYTES
abbrev pub code_point : Content → ℕ → List ℕ → Option Escape
code_point content.Bytes count more = None
code_point content.Text count more = option_and_then (numbered content.Text (count + 1)) (number_at_start 16 count more)

-- the escape with which the bytes behind a backslash begin
unfoldable pub escape : Content → List ℕ → Option Escape
escape kind [] = None
escape kind (b ∷ more) =
    -- `\a` 7, `\b` 8, `\t` 9, `\n` 10, `\v` 11, `\f` 12, `\r` 13
    if b == byte "a" then one 7 else
    if b == byte "b" then one 8 else
    if b == byte "t" then one 9 else
    if b == byte "n" then one 10 else
    if b == byte "v" then one 11 else
    if b == byte "f" then one 12 else
    if b == byte "r" then one 13 else
    -- a backslash, `?`, both quotes and a backquote stand for themselves
    if b == 92 || b == byte "?" || b == 34 || b == byte "'" || b == byte "`" then one b else
    if b == byte "x" || b == byte "X" then hexadecimal kind more else
    if b == byte "u" then code_point kind 4 more else
    if b == byte "U" then code_point kind 8 more else
    octal kind (b ∷ more)

-- bytes in front of others, if there are others
abbrev pub after : List ℕ → Option (List ℕ) → Option (List ℕ)
after front rest = option_map (λ more. front ++ more) rest

-- The bytes with their escapes read. So many bytes at their start belong to an escape that was read already.
abbrev pub unescape_from : Content → ℕ → List ℕ → Option (List ℕ)
unescape_from kind read [] = Some []
unescape_from kind (suc read) (b ∷ more) = unescape_from kind read more
-- a backslash begins an escape, and every other byte stands for itself
unescape_from kind zero (b ∷ more) =
    if b == 92 then option_and_then (λ e. after e.bytes (unescape_from kind e.size more)) (escape kind more)
    else after (b ∷ []) (unescape_from kind zero more)

unfoldable pub unescape : Content → List ℕ → Option (List ℕ)
unescape kind bytes = unescape_from kind 0 bytes

-- ---- literals

-- CR and CRLF are LF: a LF directly behind a CR is left out, and a CR is a LF; the first number is the byte before
abbrev pub lines_after : ℕ → List ℕ → List ℕ
lines_after before [] = []
lines_after before (b ∷ more) =
    if b == 10 && before == 13 then lines_after b more
    else (if b == 13 then 10 else b) ∷ lines_after b more

unfoldable pub lines : List ℕ → List ℕ
lines bytes = lines_after 0 bytes

-- the bytes but so many at the start and so many at the end
abbrev pub inside : ℕ → ℕ → List ℕ → List ℕ
inside front back bytes = take (length bytes - front - back) (drop front bytes)

abbrev pub prefix_size : LiteralPrefix → ℕ
prefix_size prefix.Plain = 0
prefix_size prefix.Raw = 1
prefix_size prefix.Bytes = 1
prefix_size prefix.RawBytes = 2

abbrev pub quotes_size : Quotes → ℕ
quotes_size quotes.One = 1
quotes_size quotes.Three = 3

-- what stands between the quotes; in a tripled literal, also a raw one, with CR and CRLF as LF
abbrev pub enclosed : Quotes → List ℕ → List ℕ
enclosed quotes.One bytes = bytes
enclosed quotes.Three bytes = lines bytes

-- the prefix r keeps backslashes as they are, and the prefix b makes BYTES
abbrev pub literal_of : LiteralPrefix → List ℕ → Option Lexeme
literal_of prefix.Plain bytes = option_map lexeme.Text (unescape content.Text bytes)
literal_of prefix.Raw bytes = Some (lexeme.Text bytes)
literal_of prefix.Bytes bytes = option_map lexeme.Bytes (unescape content.Bytes bytes)
literal_of prefix.RawBytes bytes = Some (lexeme.Bytes bytes)

abbrev pub literal : LiteralPrefix → Quotes → List ℕ → Option Lexeme
literal p n bytes = literal_of p (enclosed n (inside (prefix_size p + quotes_size n) (quotes_size n) bytes))

-- ---- pieces

-- what a piece of this shape says, and whether the token before it is a `.`
unfoldable pub meaning : Bool → Shape → List ℕ → Option Piece
meaning dot s.Gap bytes = Some piece.Gap
meaning dot s.Word bytes = option_map piece.Token (word dot bytes)
meaning dot s.QuotedName bytes = option_map piece.Token (option_and_then quoted_name (unescape content.Text (inside 1 1 bytes)))
meaning dot s.Integer bytes = option_map piece.Token (option_map lexeme.Integer (integer bytes))
meaning dot (s.Literal p n) bytes = option_map piece.Token (literal p n bytes)
meaning dot s.Parameter bytes = option_map piece.Token (parameter (drop 1 bytes))
meaning dot s.QuotedParameter bytes = option_map piece.Token (option_and_then parameter (unescape content.Text (inside 2 1 bytes)))
meaning dot s.Sign bytes = option_map piece.Token (option_map lexeme.Sign (sign_of bytes))

-- a byte that isn't UTF-8 makes its piece unreadable, also a comment
unfoldable pub read : Bool → Shape → List ℕ → Option Piece
read dot shape bytes = if is_utf8 bytes then meaning dot shape bytes else None

abbrev pub is_dot_sign : Sign → Bool
is_dot_sign sign.Dot = true
is_dot_sign _ = false

-- the token `.`
abbrev pub is_dot : Lexeme → Bool
is_dot (lexeme.Sign x) = is_dot_sign x
is_dot _ = false
