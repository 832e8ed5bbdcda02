-- The readers of what holds no expression: names, aliases, types, and words that may stand.
use Rattle.std.specs.Prelude.{ℕ, zero, suc, Bool, true, false, List, [], ◌∷◌, Option, Some, None}
use Rattle.fronts.specs.Readers.{◌>>=◌, ◌>>◌, pure, refuse, peek, token, if_comes, many}
use Rattle.sql_names.specs.declared.words.Reserved.{Reserved}
use Rattle.sql_names.specs.declared.words.Reserved.TheVariants as r
use Rattle.sql_ast.specs.declared.words.Sign.TheVariants as s
use Rattle.sql_ast.specs.declared.words.Word.TheVariants as w
use Rattle.sql_ast.specs.declared.token.Token.{Token}
use Rattle.sql_ast.specs.declared.clauses.Name.{Name}
use Rattle.sql_ast.specs.declared.clauses.LimitPart.{LimitPart}
use Rattle.sql_ast.specs.declared.clauses.NullsPart.{NullsPart}
use Rattle.sql_ast.specs.declared.clauses.NullsPart.TheVariants as part
use Rattle.sql_ast.specs.declared.clauses.NullsPlace.{NullsPlace}
use Rattle.sql_ast.specs.declared.clauses.NullsPlace.TheVariants as nulls
use Rattle.sql_ast.specs.declared.clauses.UnpivotColumn.{UnpivotColumn}
use Rattle.sql_ast.specs.declared.clauses.WithOffset.{WithOffset}
use Rattle.sql_ast.specs.declared.expr.Expr.{Expr}
use Rattle.sql_ast.specs.declared.type_spelling.TypeSpelling.{TypeSpelling}
use Rattle.sql_ast.specs.declared.type_spelling.TypeSpelling.TheVariants as spelling
use Rattle.sql_ast.specs.declared.type_spelling.TypeField.{TypeField}
use Rattle.sql_ast.specs.Marks.{reserved, sign, word, named, text, integer, number, content}
use Rattle.sql_ast.specs.Trees.{name_at}
use Rattle.sql_ast.specs.Parts.{from_alias, counts, count_at}
use Rattle.sql_grammar.specs.Ways.{Parser}
use Rattle.sql_grammar.specs.Classes.{class_of, TypeStart, a_type_name, an_array_type, a_struct_type, no_type, type_lexeme, begins_type}

-- ---- names

unfoldable pub name : Parser Name
name = do
  n ← token named
  pure (name_at n)

unfoldable pub after_as : Parser (Option Name)
after_as = do
  token (reserved r.As)
  n ← token named
  pure (Some (name_at n))

-- [AS] name, where a test says which names may stand without AS
unfoldable pub alias_of : (Token → Bool) → Parser (Option Name)
alias_of bare = if_comes (reserved r.As) after_as (if_comes bare (do n ← token bare; pure (Some (name_at n))) (pure None))

abbrev pub alias : Parser (Option Name)
alias = alias_of named

abbrev pub alias_in_from : Parser (Option Name)
alias_in_from = alias_of from_alias

unfoldable pub comma_name : Parser Name
comma_name = token (sign s.Comma) >> name

unfoldable pub dot_name : Parser Name
dot_name = token (sign s.Dot) >> name

unfoldable pub names : ℕ → Parser (List Name)
names turns = do
  token (sign s.OpenRound)
  n ← name
  ns ← many (sign s.Comma) comma_name turns (n ∷ [])
  token (sign s.CloseRound)
  pure ns

-- {"." name} behind the first names of a path
unfoldable pub dotted : ℕ → List Name → Parser (List Name)
dotted turns found = many (sign s.Dot) dot_name turns found

-- [WITH OFFSET [alias]]
unfoldable pub offset_column : Parser (Option WithOffset)
offset_column = if_comes (reserved r.With) (do t ← token (reserved r.With); token (word w.Offset); a ← alias_in_from; pure (Some (record { alias = a; place = t.start }))) (pure None)

-- name [AS string]
unfoldable pub unpivot_column : Parser UnpivotColumn
unpivot_column = do
  n ← token named
  if_comes (reserved r.As)
      (do token (reserved r.As); x ← token text; pure (record { name = name_at n; label = Some (content x) }))
      (pure (record { name = name_at n; label = None }))

unfoldable pub comma_column : Parser UnpivotColumn
comma_column = token (sign s.Comma) >> unpivot_column

-- [(INCLUDE | EXCLUDE) NULLS]
unfoldable pub include : Parser Bool
include = if_comes (word w.Include) (do token (word w.Include); token (reserved r.Nulls); pure true)
    (if_comes (reserved r.Exclude) (do token (reserved r.Exclude); token (reserved r.Nulls); pure false) (pure false))

-- ---- types

unfoldable pub type_name : Parser TypeSpelling
type_name = do
  n ← token named
  pure (spelling.Name (name_at n))

-- fields, whose types are read so and begin so
module _ (turns : ℕ) (starts : Token → Bool) (inner : Parser TypeSpelling) where
  unfoldable pub field : Parser (TypeField TypeSpelling)
  field = if_comes named
      (do n ← token named; if_comes starts (do x ← inner; pure (record { name = Some (name_at n); ty = x })) (pure (record { name = None; ty = spelling.Name (name_at n) })))
      (do x ← inner; pure (record { name = None; ty = x }))

  unfoldable pub comma_field : Parser (TypeField TypeSpelling)
  comma_field = token (sign s.Comma) >> field

  -- fields ">"
  unfoldable pub fields_closed : Parser (List (TypeField TypeSpelling))
  fields_closed = do
    f ← field
    fs ← many (sign s.Comma) comma_field turns (f ∷ [])
    token (sign s.Greater)
    pure fs

  unfoldable pub array_type : Parser TypeSpelling
  array_type = do
    t ← token (reserved r.Array)
    token (sign s.Less)
    x ← inner
    token (sign s.Greater)
    pure (spelling.Array x t.start)

  unfoldable pub struct_type : Parser TypeSpelling
  struct_type = do
    t ← token (reserved r.Struct)
    token (sign s.Less)
    fs ← fields_closed
    pure (spelling.Struct fs t.start)

  abbrev pub type_by : TypeStart → Parser TypeSpelling
  type_by a_type_name = type_name
  type_by an_array_type = array_type
  type_by a_struct_type = struct_type
  type_by no_type = refuse

-- what a type begins with, where so many levels more are left
abbrev pub starts_type : ℕ → Token → Bool
starts_type zero t = named t
starts_type (suc k) t = begins_type (type_lexeme t.lexeme)

-- a type of at most this many levels and one
unfoldable pub type_at : ℕ → ℕ → Parser TypeSpelling
type_at turns zero = type_name
type_at turns (suc k) = peek (class_of no_type type_lexeme) >>= type_by turns (starts_type k) (type_at turns k)

-- the levels of a type below its first
abbrev pub levels_below : ℕ
levels_below = 31

unfoldable pub whole_type : ℕ → Parser TypeSpelling
whole_type turns = type_at turns levels_below

-- ---- words that may stand

unfoldable pub distinct : Parser Bool
distinct = if_comes (reserved r.Distinct) (do token (reserved r.Distinct); pure true) (pure false)

unfoldable pub select_distinct : Parser Bool
select_distinct = if_comes (reserved r.All) (do token (reserved r.All); pure false) distinct

unfoldable pub as_struct : Parser Bool
as_struct = if_comes (reserved r.As) (do token (reserved r.As); token (reserved r.Struct); pure true) (pure false)

unfoldable pub direction : Parser Bool
direction = if_comes (reserved r.Asc) (do token (reserved r.Asc); pure false) (if_comes (reserved r.Desc) (do token (reserved r.Desc); pure true) (pure false))

unfoldable pub nulls_place : Parser (Option NullsPlace)
nulls_place = if_comes (reserved r.Nulls)
    (do token (reserved r.Nulls); if_comes (word w.First) (do token (word w.First); pure (Some nulls.First)) (do token (word w.Last); pure (Some nulls.Last)))
    (pure None)

unfoldable pub nulls_part : Parser (Option NullsPart)
nulls_part = if_comes (reserved r.Ignore) (do token (reserved r.Ignore); token (reserved r.Nulls); pure (Some part.Ignore))
    (if_comes (reserved r.Respect) (do token (reserved r.Respect); token (reserved r.Nulls); pure (Some part.Respect)) (pure None))

unfoldable pub optional : Reserved → Parser Bool
optional x = if_comes (reserved x) (do token (reserved x); pure true) (pure false)

-- [OFFSET count]
unfoldable pub offset : Parser (Option Expr)
offset = if_comes (word w.Offset) (do token (word w.Offset); x ← token counts; pure (Some (count_at x))) (pure None)

-- [LIMIT count [OFFSET count]]
unfoldable pub limit : Parser (Option (LimitPart Expr))
limit = if_comes (reserved r.Limit) (do t ← token (reserved r.Limit); x ← token counts; o ← offset; pure (Some (record { count = count_at x; offset = o; place = t.start }))) (pure None)

-- [LIMIT integer] of a call
unfoldable pub call_limit : Parser (Option ℕ)
call_limit = if_comes (reserved r.Limit) (do token (reserved r.Limit); x ← token integer; pure (Some (number x))) (pure None)
