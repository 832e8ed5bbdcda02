-- How names and texts are spelled in what the program prints.
use Rattle.std.specs.Prelude.{ℕ, ◌+◌, ◌/◌, ◌%◌, Bool, false, ◌==◌, ◌&&◌, ◌||◌, nat_lt, nat_le, if◌then◌else◌, is_none, List, [], ◌∷◌, ◌++◌}
use Rattle.std.specs.List.{list_all}
use Rattle.sql_names.specs.Words.{reserved_of}

-- a digit of base 16, in lower case
abbrev pub hex_digit : ℕ → ℕ
hex_digit n = if nat_lt n 10 then 48 + n else 87 + n

-- A byte between two marks: a backslash and the mark have a backslash before them, line feed, carriage return and tab are
-- \n, \r and \t, other bytes below 32 and 127 are \x and two digits, and all else is as it is.
unfoldable pub escaped : ℕ → ℕ → List ℕ
escaped mark b =
    if b == 92 || b == mark then 92 ∷ b ∷ [] else
    if b == 10 then 92 ∷ 110 ∷ [] else
    if b == 13 then 92 ∷ 114 ∷ [] else
    if b == 9 then 92 ∷ 116 ∷ [] else
    if nat_lt b 32 || b == 127 then 92 ∷ 120 ∷ hex_digit (b / 16) ∷ hex_digit (b % 16) ∷ [] else
    b ∷ []

-- each byte of a text, escaped
abbrev pub escapes : ℕ → List ℕ → List ℕ
escapes mark [] = []
escapes mark (b ∷ bs) = escaped mark b ++ escapes mark bs

-- a text between two marks
abbrev pub quoted : ℕ → List ℕ → List ℕ
quoted mark text = mark ∷ (escapes mark text ++ mark ∷ [])

-- a STRING literal stands in `"`
abbrev pub quote_text : List ℕ → List ℕ
quote_text text = quoted 34 text

-- a letter from A to Z or a to z, or `_`
abbrev pub is_letter : ℕ → Bool
is_letter b = (nat_le 65 b && nat_le b 90) || (nat_le 97 b && nat_le b 122) || b == 95

-- a letter or a digit
abbrev pub is_inner : ℕ → Bool
is_inner b = is_letter b || (nat_le 48 b && nat_le b 57)

-- a letter or `_`, and then letters, digits and `_`
abbrev pub is_identifier : List ℕ → Bool
is_identifier [] = false
is_identifier (b ∷ bs) = is_letter b && list_all is_inner bs

-- a name is plain where it is an unquoted identifier that isn't reserved
unfoldable pub is_plain : List ℕ → Bool
is_plain name = is_identifier name && is_none (reserved_of name)

-- and else it stands in backquotes, with a backslash before a backquote in place of a `"`
abbrev pub quote_name : List ℕ → List ℕ
quote_name name = if is_plain name then name else quoted 96 name
