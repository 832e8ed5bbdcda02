-- The parts of the grammar that hold no expression: aliases, lists of names, types and counts. A case for each
-- production; `{..}` of a production is a family of its own. In these definitions `u ++ v` is one part after another.
use Rattle.std.specs.Prelude.{ℕ, suc, Bool, true, false, ◌||◌, List, [], ◌∷◌, ◌++◌, Option, Some, None}
use Rattle.sql_names.specs.declared.words.Reserved.{Reserved}
use Rattle.sql_names.specs.declared.words.Reserved.TheVariants as r
use Rattle.sql_ast.specs.declared.words.Sign.TheVariants as s
use Rattle.sql_ast.specs.declared.words.Word.TheVariants as w
use Rattle.sql_ast.specs.declared.token.Token.{Token}
use Rattle.sql_ast.specs.declared.token.Lexeme.{Lexeme}
use Rattle.sql_ast.specs.declared.token.Lexeme.TheVariants as l
use Rattle.sql_ast.specs.declared.clauses.Name.{Name}
use Rattle.sql_ast.specs.declared.clauses.LimitPart.{LimitPart}
use Rattle.sql_ast.specs.declared.clauses.NullsPart.{NullsPart}
use Rattle.sql_ast.specs.declared.clauses.NullsPart.TheVariants as part
use Rattle.sql_ast.specs.declared.clauses.NullsPlace.{NullsPlace}
use Rattle.sql_ast.specs.declared.clauses.NullsPlace.TheVariants as nulls
use Rattle.sql_ast.specs.declared.clauses.UnpivotColumn.{UnpivotColumn}
use Rattle.sql_ast.specs.declared.clauses.WithOffset.{WithOffset}
use Rattle.sql_ast.specs.declared.expr.Prefix.{Prefix}
use Rattle.sql_ast.specs.declared.expr.Signed.{Signed}
use Rattle.sql_ast.specs.declared.expr.Expr.{Expr}
use Rattle.sql_ast.specs.declared.expr.Expr.TheVariants as e
use Rattle.sql_ast.specs.declared.type_spelling.TypeSpelling.{TypeSpelling}
use Rattle.sql_ast.specs.declared.type_spelling.TypeSpelling.TheVariants as spelling
use Rattle.sql_ast.specs.declared.type_spelling.TypeField.{TypeField}
use Rattle.sql_ast.specs.Marks.{Tokens, Is, Says, reserved, sign, word, named, text, integer, number, content}
use Rattle.sql_ast.specs.Trees.{name_at, prefix_of}

-- ---- names

-- alias = [AS] name
pub data AliasOf : Option Name → Tokens → Type 0 where
  alias_none : AliasOf None []
  alias_name : {n : Token} → Is named n → AliasOf (Some (name_at n)) (n ∷ [])
  alias_as : {t n : Token} → Is (reserved r.As) t → Is named n → AliasOf (Some (name_at n)) (t ∷ n ∷ [])

-- PIVOT and UNPIVOT aren't an alias without AS in FROM
abbrev pub from_alias : Token → Bool
from_alias t = elim (word w.Pivot t || word w.Unpivot t) [ true ↦ false | false ↦ named t ]

pub data FromAliasOf : Option Name → Tokens → Type 0 where
  from_alias_none : FromAliasOf None []
  from_alias_name : {n : Token} → Is from_alias n → FromAliasOf (Some (name_at n)) (n ∷ [])
  from_alias_as : {t n : Token} → Is (reserved r.As) t → Is named n → FromAliasOf (Some (name_at n)) (t ∷ n ∷ [])

-- {"," name}
pub data NameCommasOf : List Name → Tokens → Type 0 where
  name_commas_none : NameCommasOf [] []
  name_commas_more : {t n : Token} {ns : List Name} {v : Tokens} → Is (sign s.Comma) t → Is named n → NameCommasOf ns v → NameCommasOf (name_at n ∷ ns) (t ∷ n ∷ v)

-- "(" name {"," name} ")"
pub data NamesOf : List Name → Tokens → Type 0 where
  names_are : {o n c : Token} {ns : List Name} {v : Tokens} → Is (sign s.OpenRound) o → Is named n → NameCommasOf ns v → Is (sign s.CloseRound) c
      → NamesOf (name_at n ∷ ns) (o ∷ n ∷ (v ++ (c ∷ [])))

-- {"." name}
pub data NameDotsOf : List Name → Tokens → Type 0 where
  name_dots_none : NameDotsOf [] []
  name_dots_more : {t n : Token} {ns : List Name} {v : Tokens} → Is (sign s.Dot) t → Is named n → NameDotsOf ns v → NameDotsOf (name_at n ∷ ns) (t ∷ n ∷ v)

-- place = WITH OFFSET [alias], or none
pub data PlaceOf : Option WithOffset → Tokens → Type 0 where
  place_none : PlaceOf None []
  place_is : {t x : Token} {a : Option Name} {v : Tokens} → Is (reserved r.With) t → Is (word w.Offset) x → FromAliasOf a v
      → PlaceOf (Some (record { alias = a; place = t.start })) (t ∷ x ∷ v)

-- name [AS string]
pub data UnpivotColumnOf : UnpivotColumn → Tokens → Type 0 where
  column_plain : {n : Token} → Is named n → UnpivotColumnOf (record { name = name_at n; label = None }) (n ∷ [])
  column_as : {n t x : Token} → Is named n → Is (reserved r.As) t → Is text x → UnpivotColumnOf (record { name = name_at n; label = Some (content x) }) (n ∷ t ∷ x ∷ [])

pub data UnpivotCommasOf : List UnpivotColumn → Tokens → Type 0 where
  unpivot_none : UnpivotCommasOf [] []
  unpivot_more : {t : Token} {c : UnpivotColumn} {cs : List UnpivotColumn} {u v : Tokens} → Is (sign s.Comma) t → UnpivotColumnOf c u → UnpivotCommasOf cs v
      → UnpivotCommasOf (c ∷ cs) (t ∷ (u ++ v))

-- [(INCLUDE | EXCLUDE) NULLS]: whether NULLs are included
pub data IncludeOf : Bool → Tokens → Type 0 where
  include_none : IncludeOf false []
  include_nulls : {t x : Token} → Is (word w.Include) t → Is (reserved r.Nulls) x → IncludeOf true (t ∷ x ∷ [])
  exclude_nulls : {t x : Token} → Is (reserved r.Exclude) t → Is (reserved r.Nulls) x → IncludeOf false (t ∷ x ∷ [])

-- ---- types

-- type = name | ARRAY "<" type ">" | STRUCT "<" fields ">", of at most so many levels; a name is one level. So with the
-- 32 levels of a text the fault is at the 32nd ARRAY or STRUCT.
mutual
  pub data TypeOf : ℕ → TypeSpelling → Tokens → Type 0 where
    type_name : {k : ℕ} {n : Token} → Is named n → TypeOf (suc k) (spelling.Name (name_at n)) (n ∷ [])
    type_array : {k : ℕ} {t o c : Token} {x : TypeSpelling} {v : Tokens} → Is (reserved r.Array) t → Is (sign s.Less) o → TypeOf (suc k) x v → Is (sign s.Greater) c
        → TypeOf (suc (suc k)) (spelling.Array x t.start) (t ∷ o ∷ (v ++ (c ∷ [])))
    type_struct : {k : ℕ} {t o c : Token} {fs : List (TypeField TypeSpelling)} {v : Tokens} → Is (reserved r.Struct) t → Is (sign s.Less) o → FieldsOf (suc k) fs v → Is (sign s.Greater) c
        → TypeOf (suc (suc k)) (spelling.Struct fs t.start) (t ∷ o ∷ (v ++ (c ∷ [])))

  -- fields = [name] type {"," [name] type}
  pub data FieldsOf : ℕ → List (TypeField TypeSpelling) → Tokens → Type 0 where
    fields_are : {k : ℕ} {f : TypeField TypeSpelling} {fs : List (TypeField TypeSpelling)} {u v : Tokens} → FieldOf k f u → FieldCommasOf k fs v → FieldsOf k (f ∷ fs) (u ++ v)

  pub data FieldCommasOf : ℕ → List (TypeField TypeSpelling) → Tokens → Type 0 where
    fields_none : {k : ℕ} → FieldCommasOf k [] []
    fields_more : {k : ℕ} {t : Token} {f : TypeField TypeSpelling} {fs : List (TypeField TypeSpelling)} {u v : Tokens} → Is (sign s.Comma) t → FieldOf k f u → FieldCommasOf k fs v
        → FieldCommasOf k (f ∷ fs) (t ∷ (u ++ v))

  pub data FieldOf : ℕ → TypeField TypeSpelling → Tokens → Type 0 where
    field_unnamed : {k : ℕ} {x : TypeSpelling} {u : Tokens} → TypeOf k x u → FieldOf k (record { name = None; ty = x }) u
    field_named : {k : ℕ} {n : Token} {x : TypeSpelling} {u : Tokens} → Is named n → TypeOf k x u → FieldOf k (record { name = Some (name_at n); ty = x }) (n ∷ u)

abbrev pub type_levels : ℕ
type_levels = 32

-- ---- words that may stand, and what they leave in the tree

-- [DISTINCT] of a call
pub data DistinctOf : Bool → Tokens → Type 0 where
  distinct_none : DistinctOf false []
  distinct_is : {t : Token} → Is (reserved r.Distinct) t → DistinctOf true (t ∷ [])

-- [ALL | DISTINCT] of a SELECT; ALL leaves nothing
pub data SelectDistinctOf : Bool → Tokens → Type 0 where
  select_none : SelectDistinctOf false []
  select_all : {t : Token} → Is (reserved r.All) t → SelectDistinctOf false (t ∷ [])
  select_distinct : {t : Token} → Is (reserved r.Distinct) t → SelectDistinctOf true (t ∷ [])

-- [AS STRUCT]
pub data AsStructOf : Bool → Tokens → Type 0 where
  as_struct_none : AsStructOf false []
  as_struct_is : {t x : Token} → Is (reserved r.As) t → Is (reserved r.Struct) x → AsStructOf true (t ∷ x ∷ [])

-- [ASC | DESC]; ASC leaves nothing
pub data DirectionOf : Bool → Tokens → Type 0 where
  direction_none : DirectionOf false []
  direction_asc : {t : Token} → Is (reserved r.Asc) t → DirectionOf false (t ∷ [])
  direction_desc : {t : Token} → Is (reserved r.Desc) t → DirectionOf true (t ∷ [])

-- [NULLS (FIRST | LAST)]
pub data NullsPlaceOf : Option NullsPlace → Tokens → Type 0 where
  nulls_none : NullsPlaceOf None []
  nulls_first : {t x : Token} → Is (reserved r.Nulls) t → Is (word w.First) x → NullsPlaceOf (Some nulls.First) (t ∷ x ∷ [])
  nulls_last : {t x : Token} → Is (reserved r.Nulls) t → Is (word w.Last) x → NullsPlaceOf (Some nulls.Last) (t ∷ x ∷ [])

-- [(IGNORE | RESPECT) NULLS]
pub data NullsPartOf : Option NullsPart → Tokens → Type 0 where
  nulls_part_none : NullsPartOf None []
  nulls_ignore : {t x : Token} → Is (reserved r.Ignore) t → Is (reserved r.Nulls) x → NullsPartOf (Some part.Ignore) (t ∷ x ∷ [])
  nulls_respect : {t x : Token} → Is (reserved r.Respect) t → Is (reserved r.Nulls) x → NullsPartOf (Some part.Respect) (t ∷ x ∷ [])

-- [OUTER], [INNER]: they leave nothing
pub data OptionalOf (word : Reserved) : Tokens → Type 0 where
  optional_none : OptionalOf word []
  optional_is : {t : Token} → Is (reserved word) t → OptionalOf word (t ∷ [])

-- [NOT] before LIKE, BETWEEN and IN negates the result; the place is that of the first word
pub data NegatableOf (word : Reserved) : Bool → ℕ → Tokens → Type 0 where
  not_negated : {t : Token} → Is (reserved word) t → NegatableOf word false t.start (t ∷ [])
  is_negated : {n t : Token} → Is (reserved r.Not) n → Is (reserved word) t → NegatableOf word true n.start (n ∷ t ∷ [])

-- IS [NOT]
pub data IsNotOf : Bool → ℕ → Tokens → Type 0 where
  is_plain : {t : Token} → Is (reserved r.Is) t → IsNotOf false t.start (t ∷ [])
  is_not : {t n : Token} → Is (reserved r.Is) t → Is (reserved r.Not) n → IsNotOf true t.start (t ∷ n ∷ [])

-- {NOT}
pub data NotsOf : List ℕ → Tokens → Type 0 where
  nots_none : NotsOf [] []
  nots_more : {t : Token} {ps : List ℕ} {v : Tokens} → Is (reserved r.Not) t → NotsOf ps v → NotsOf (t.start ∷ ps) (t ∷ v)

-- {"+" | "-" | "~"}
pub data PrefixesOf : List Prefix → Tokens → Type 0 where
  prefixes_none : PrefixesOf [] []
  prefixes_more : {t : Token} {x : Signed} {ps : List Prefix} {v : Tokens} → Says prefix_of t x → PrefixesOf ps v
      → PrefixesOf (record { operator = x; place = t.start } ∷ ps) (t ∷ v)

-- ---- LIMIT

-- count = integer | parameter
abbrev pub count_lexeme : Lexeme → Bool
count_lexeme (l.Integer n) = true
count_lexeme (l.Parameter x) = true
count_lexeme _ = false

abbrev pub counts : Token → Bool
counts t = count_lexeme t.lexeme

abbrev pub count_by : ℕ → Lexeme → Expr
count_by place (l.Parameter x) = e.Parameter x place
count_by place (l.Integer n) = e.Integer n place
count_by place _ = e.Null place

unfoldable pub count_at : Token → Expr
count_at t = count_by t.start t.lexeme

-- [OFFSET count]
pub data OffsetOf : Option Expr → Tokens → Type 0 where
  offset_none : OffsetOf None []
  offset_is : {t x : Token} → Is (word w.Offset) t → Is counts x → OffsetOf (Some (count_at x)) (t ∷ x ∷ [])

-- [LIMIT count [OFFSET count]]
pub data LimitOf : Option (LimitPart Expr) → Tokens → Type 0 where
  limit_none : LimitOf None []
  limit_is : {t x : Token} {o : Option Expr} {v : Tokens} → Is (reserved r.Limit) t → Is counts x → OffsetOf o v
      → LimitOf (Some (record { count = count_at x; offset = o; place = t.start })) (t ∷ x ∷ v)

-- [LIMIT integer] of a call
pub data CallLimitOf : Option ℕ → Tokens → Type 0 where
  call_limit_none : CallLimitOf None []
  call_limit_is : {t x : Token} → Is (reserved r.Limit) t → Is integer x → CallLimitOf (Some (number x)) (t ∷ x ∷ [])
