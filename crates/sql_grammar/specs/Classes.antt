-- Which alternative of a production a token begins, where there are more than two.
use Rattle.std.specs.Prelude.{Bool, true, false, ◌||◌, Option, Some, None}
use Rattle.sql_names.specs.declared.words.Reserved.{Reserved}
use Rattle.sql_names.specs.declared.words.Reserved.TheVariants as r
use Rattle.sql_ast.specs.declared.words.Sign.{Sign}
use Rattle.sql_ast.specs.declared.words.Sign.TheVariants as s
use Rattle.sql_ast.specs.declared.words.Word.{Word}
use Rattle.sql_ast.specs.declared.words.Word.TheVariants as w
use Rattle.sql_ast.specs.declared.token.Token.{Token}
use Rattle.sql_ast.specs.declared.token.Lexeme.{Lexeme}
use Rattle.sql_ast.specs.declared.token.Lexeme.TheVariants as l
use Rattle.sql_types.specs.declared.kinds.SetKind.{SetKind}
use Rattle.sql_types.specs.declared.kinds.SetKind.TheVariants as set
use Rattle.sql_ast.specs.Marks.{sign}

-- the class of the next token, where one stands
abbrev pub class_of : {K : Type 0} → K → (Lexeme → K) → Option Token → K
class_of none classes None = none
class_of none classes (Some t) = classes t.lexeme

-- ---- types

pub data TypeStart : Type 0 where
  a_type_name : TypeStart
  an_array_type : TypeStart
  a_struct_type : TypeStart
  no_type : TypeStart

abbrev pub type_lexeme : Lexeme → TypeStart
type_lexeme (l.Name n o) = a_type_name
type_lexeme (l.Reserved r.Array) = an_array_type
type_lexeme (l.Reserved r.Struct) = a_struct_type
type_lexeme _ = no_type

abbrev pub begins_type : TypeStart → Bool
begins_type no_type = false
begins_type _ = true

-- ---- basic expressions

pub data BasicStart : Type 0 where
  an_integer : BasicStart
  a_string : BasicStart
  a_bytes : BasicStart
  a_true : BasicStart
  a_false : BasicStart
  a_null : BasicStart
  a_parameter : BasicStart
  a_name : BasicStart
  an_if : BasicStart
  a_bracket : BasicStart
  a_case : BasicStart
  a_cast : BasicStart
  an_extract : BasicStart
  a_grouping : BasicStart
  an_exists : BasicStart
  an_array : BasicStart
  a_square : BasicStart
  a_struct : BasicStart
  a_with : BasicStart
  no_basic : BasicStart

abbrev pub basic_reserved : Reserved → BasicStart
basic_reserved r.True = a_true
basic_reserved r.False = a_false
basic_reserved r.Null = a_null
basic_reserved r.If = an_if
basic_reserved r.Case = a_case
basic_reserved r.Cast = a_cast
basic_reserved r.Extract = an_extract
basic_reserved r.Grouping = a_grouping
basic_reserved r.Exists = an_exists
basic_reserved r.Array = an_array
basic_reserved r.Struct = a_struct
basic_reserved r.With = a_with
basic_reserved _ = no_basic

abbrev pub basic_sign : Sign → BasicStart
basic_sign s.OpenRound = a_bracket
basic_sign s.OpenSquare = a_square
basic_sign _ = no_basic

abbrev pub basic_lexeme : Lexeme → BasicStart
basic_lexeme (l.Integer n) = an_integer
basic_lexeme (l.Text x) = a_string
basic_lexeme (l.Bytes x) = a_bytes
basic_lexeme (l.Parameter x) = a_parameter
basic_lexeme (l.Name n o) = a_name
basic_lexeme (l.Reserved x) = basic_reserved x
basic_lexeme (l.Sign x) = basic_sign x

-- ---- what a name may be, when no bracket follows

pub data NameWord : Type 0 where
  the_date : NameWord
  the_safe : NameWord
  plain_name : NameWord

abbrev pub name_spelled : Option Word → NameWord
name_spelled None = plain_name
name_spelled (Some w.Date) = the_date
name_spelled (Some w.Safe) = the_safe
name_spelled (Some _) = plain_name

abbrev pub name_class : Lexeme → NameWord
name_class (l.Name n o) = name_spelled o
name_class _ = plain_name

-- ---- what parentheses hold

pub data Content : Type 0 where
  by_select : Content
  by_with : Content
  by_expr : Content

abbrev pub content_class : Lexeme → Content
content_class (l.Reserved r.Select) = by_select
content_class (l.Reserved r.With) = by_with
content_class _ = by_expr

-- ---- a call

pub data ArgumentsStart : Type 0 where
  by_star : ArgumentsStart
  by_nothing : ArgumentsStart
  by_arg : ArgumentsStart

abbrev pub arguments_lexeme : Lexeme → ArgumentsStart
arguments_lexeme (l.Sign s.Star) = by_star
arguments_lexeme (l.Sign s.CloseRound) = by_nothing
arguments_lexeme (l.Reserved r.Ignore) = by_nothing
arguments_lexeme (l.Reserved r.Respect) = by_nothing
arguments_lexeme (l.Reserved r.Order) = by_nothing
arguments_lexeme (l.Reserved r.Limit) = by_nothing
arguments_lexeme _ = by_arg

-- ---- comparisons

pub data ComparisonStart : Type 0 where
  by_sign : ComparisonStart
  by_like : ComparisonStart
  by_between : ComparisonStart
  by_in : ComparisonStart
  by_is : ComparisonStart
  by_not : ComparisonStart
  no_comparison : ComparisonStart

abbrev pub comparison_class_sign : Sign → ComparisonStart
comparison_class_sign s.Equal = by_sign
comparison_class_sign s.BangEqual = by_sign
comparison_class_sign s.LessGreater = by_sign
comparison_class_sign s.Less = by_sign
comparison_class_sign s.LessEqual = by_sign
comparison_class_sign s.Greater = by_sign
comparison_class_sign s.GreaterEqual = by_sign
comparison_class_sign _ = no_comparison

abbrev pub comparison_class : Lexeme → ComparisonStart
comparison_class (l.Sign x) = comparison_class_sign x
comparison_class (l.Reserved r.Like) = by_like
comparison_class (l.Reserved r.Between) = by_between
comparison_class (l.Reserved r.In) = by_in
comparison_class (l.Reserved r.Is) = by_is
comparison_class (l.Reserved r.Not) = by_not
comparison_class _ = no_comparison

-- ---- items of a select list

pub data ItemStart : Type 0 where
  item_by_star : ItemStart
  item_by_prefix : ItemStart
  item_by_basic : ItemStart
  no_item : ItemStart

abbrev pub item_by : BasicStart → ItemStart
item_by no_basic = no_item
item_by _ = item_by_basic

abbrev pub item_sign : Sign → ItemStart
item_sign s.Star = item_by_star
item_sign s.Plus = item_by_prefix
item_sign s.Minus = item_by_prefix
item_sign s.Tilde = item_by_prefix
item_sign s.OpenRound = item_by_basic
item_sign s.OpenSquare = item_by_basic
item_sign _ = no_item

abbrev pub item_class : Lexeme → ItemStart
item_class (l.Sign x) = item_sign x
item_class (l.Reserved r.Not) = item_by_prefix
item_class (l.Reserved x) = item_by (basic_reserved x)
item_class _ = item_by_basic

abbrev pub is_item : ItemStart → Bool
is_item no_item = false
is_item _ = true

-- a token that an item may begin with
abbrev pub starts_item : Token → Bool
starts_item t = is_item (item_class t.lexeme)

-- ---- set operations

pub data SetWord : Type 0 where
  a_union : SetWord
  an_intersect : SetWord
  an_except : SetWord

abbrev pub set_lexeme : Lexeme → Option SetWord
set_lexeme (l.Reserved r.Union) = Some a_union
set_lexeme (l.Reserved r.Intersect) = Some an_intersect
set_lexeme (l.Reserved r.Except) = Some an_except
set_lexeme _ = None

abbrev pub set_word_of : Token → Option SetWord
set_word_of t = set_lexeme t.lexeme

-- a kind by its first word, and whether its second is DISTINCT
abbrev pub set_kind_by : SetWord → Bool → SetKind
set_kind_by a_union false = set.UnionAll
set_kind_by a_union true = set.UnionDistinct
set_kind_by an_intersect false = set.IntersectAll
set_kind_by an_intersect true = set.IntersectDistinct
set_kind_by an_except false = set.ExceptAll
set_kind_by an_except true = set.ExceptDistinct

-- ---- FROM

pub data JoinStart : Type 0 where
  by_cross : JoinStart
  by_inner : JoinStart
  by_join : JoinStart
  by_left : JoinStart
  by_right : JoinStart
  by_full : JoinStart
  no_join : JoinStart

abbrev pub join_class : Lexeme → JoinStart
join_class (l.Reserved r.Cross) = by_cross
join_class (l.Reserved r.Inner) = by_inner
join_class (l.Reserved r.Join) = by_join
join_class (l.Reserved r.Left) = by_left
join_class (l.Reserved r.Right) = by_right
join_class (l.Reserved r.Full) = by_full
join_class _ = no_join

abbrev pub is_join : JoinStart → Bool
is_join no_join = false
is_join _ = true

-- a token that begins a join
abbrev pub joins : Token → Bool
joins t = is_join (join_class t.lexeme)

-- RIGHT and FULL, which no comma may precede, don't
abbrev pub goes_after_comma : JoinStart → Bool
goes_after_comma by_right = false
goes_after_comma by_full = false
goes_after_comma no_join = false
goes_after_comma _ = true

-- a comma, or a token that begins a join which a comma may precede
abbrev pub comma_or_join : Token → Bool
comma_or_join t = sign s.Comma t || goes_after_comma (join_class t.lexeme)

pub data PrimaryStart : Type 0 where
  primary_name : PrimaryStart
  primary_bracket : PrimaryStart
  primary_by_unnest : PrimaryStart
  no_primary : PrimaryStart

abbrev pub primary_class : Lexeme → PrimaryStart
primary_class (l.Name n o) = primary_name
primary_class (l.Sign s.OpenRound) = primary_bracket
primary_class (l.Reserved r.Unnest) = primary_by_unnest
primary_class _ = no_primary

-- ---- GROUP BY

pub data GroupsStart : Type 0 where
  groups_bracket : GroupsStart
  groups_grouping : GroupsStart
  groups_by_cube : GroupsStart
  groups_expr : GroupsStart

abbrev pub groups_class : Lexeme → GroupsStart
groups_class (l.Sign s.OpenRound) = groups_bracket
groups_class (l.Reserved r.Grouping) = groups_grouping
groups_class (l.Reserved r.Rollup) = groups_by_cube
groups_class (l.Reserved r.Cube) = groups_by_cube
groups_class _ = groups_expr
