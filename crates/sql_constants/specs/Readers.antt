-- Constants as functions that read from the start of a list of tokens and look one token ahead.
use Rattle.std.specs.Prelude.{ℕ, ℤ, pos, neg_ℤ, true, false, List, [], ◌∷◌, ◌++◌, map, Option, Some, None, option_map}
use Rattle.fronts.specs.Readers.{Reader, ◌>>=◌, ◌>>◌, pure, refuse, token, if_comes, many}
use Rattle.sql_types.specs.Calendar.{read_date}
use Rattle.sql_types.specs.declared.sql_type.Named.{Named}
use Rattle.sql_types.specs.declared.sql_type.SqlType.{SqlType, fold-SqlType}
use Rattle.sql_types.specs.declared.sql_type.SqlType.TheOpen as t
use Rattle.sql_types.specs.declared.value.Value.{Value}
use Rattle.sql_types.specs.declared.value.Value.TheVariants as v
use Rattle.sql_names.specs.declared.words.Reserved.TheVariants as r
use Rattle.sql_ast.specs.declared.words.Sign.TheVariants as s
use Rattle.sql_ast.specs.declared.words.Word.TheVariants as w
use Rattle.sql_ast.specs.declared.token.Token.{Token}
use Rattle.sql_ast.specs.Marks.{reserved, sign, word, text, bytes, integer, number, content}
use Rattle.sql_coerce.specs.Casts.{integer_value}

abbrev pub Parser : Type 0 → Type 0
Parser = Reader Token

-- the value that the tokens before say, if they say one
abbrev pub valued : Option Value → Parser Value
valued (Some x) = pure x
valued None = refuse

-- ---- types without parts

unfoldable pub null : Parser Value
null = token (reserved r.Null) >> pure v.Null

unfoldable pub truth : Parser Value
truth = if_comes (reserved r.True) (token (reserved r.True) >> pure (v.Bool true)) (token (reserved r.False) >> pure (v.Bool false))

-- an integer with an optional minus, as a value where there is one of this number
unfoldable pub signed : (ℤ → Option Value) → Parser Value
signed value = if_comes (sign s.Minus)
    (do token (sign s.Minus); t ← token integer; valued (value (neg_ℤ (pos (number t)))))
    (do t ← token integer; valued (value (pos (number t))))

unfoldable pub a_text : Parser Value
a_text = do
  t ← token text
  pure (v.Text (content t))

unfoldable pub some_bytes : Parser Value
some_bytes = do
  t ← token bytes
  pure (v.Bytes (content t))

unfoldable pub day_text : Parser Value
day_text = do
  t ← token text
  valued (option_map v.Date (read_date (content t)))

unfoldable pub day : Parser Value
day = if_comes (word w.Date) (token (word w.Date) >> day_text) day_text

-- ---- types with parts, whose constants are read so; a repetition has at most so many turns

unfoldable pub comma_element : Parser Value → Parser Value
comma_element element = token (sign s.Comma) >> element

unfoldable pub elements : ℕ → Parser Value → Parser (List Value)
elements turns element = do
  x ← element
  many (sign s.Comma) (comma_element element) turns (x ∷ [])

unfoldable pub array : ℕ → Parser Value → Parser Value
array turns element = do
  token (sign s.OpenSquare)
  if_comes (sign s.CloseSquare)
      (token (sign s.CloseSquare) >> pure (v.Array []))
      (do xs ← elements turns element; token (sign s.CloseSquare); pure (v.Array xs))

-- what is read behind a comma, unless it is the first
abbrev pub comma_behind : List Value → Parser (List Value) → Parser (List Value)
comma_behind [] next = next
comma_behind (x ∷ found) next = token (sign s.Comma) >> next

-- a constant for each field left, with commas between them
unfoldable pub more_fields : List (Parser Value) → List Value → Parser (List Value)
more_fields [] found = pure found
more_fields (field ∷ fields) found = comma_behind found (do x ← field; more_fields fields (found ++ x ∷ []))

unfoldable pub in_brackets : List (Parser Value) → Parser Value
in_brackets fields = do
  token (reserved r.Struct)
  token (sign s.OpenRound)
  xs ← more_fields fields []
  token (sign s.CloseRound)
  pure (v.Struct xs)

-- a STRUCT has a field
unfoldable pub structure : List (Parser Value) → Parser Value
structure [] = refuse
structure (field ∷ fields) = in_brackets (field ∷ fields)

-- ---- all types

abbrev pub read_by : Named (Parser Value) → Parser Value
read_by field = field.ty

-- a constant but NULL
abbrev pub typed : ℕ → t.SqlType-F (Parser Value) → Parser Value
typed turns t.Bool = truth
typed turns t.Int32 = signed (integer_value t.Int32)
typed turns t.Int64 = signed (integer_value t.Int64)
typed turns t.Uint32 = signed (integer_value t.Uint32)
typed turns t.Uint64 = signed (integer_value t.Uint64)
typed turns t.Text = a_text
typed turns t.Bytes = some_bytes
typed turns t.Date = day
typed turns (t.Array element) = array turns element
typed turns (t.Struct fields) = structure (map read_by fields)

abbrev pub or_null : Parser Value → Parser Value
or_null other = if_comes (reserved r.Null) null other

-- a constant of the type
unfoldable pub constant_at : ℕ → SqlType → Parser Value
constant_at turns = fold-SqlType (Parser Value) (λ type. or_null (typed turns type))

-- the constants of the fields of a type
abbrev pub fields_at : ℕ → List (Named SqlType) → List (Parser Value)
fields_at turns fields = map (λ (field : Named SqlType). constant_at turns field.ty) fields
