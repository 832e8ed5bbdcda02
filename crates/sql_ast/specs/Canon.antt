-- The canonical print of a query: the tokens of each construct, with brackets round an operand exactly where its level is lower
-- than its place needs, and no optional word.
use Rattle.std.specs.Prelude.{ℕ, nat_lt, Bool, true, false, if◌then◌else◌, List, [], ◌∷◌, ◌++◌, map, codes, Option, None, Some}
use Rattle.sql_types.specs.declared.kinds.SetKind.{SetKind}
use Rattle.sql_names.specs.declared.words.Reserved.{Reserved}
use Rattle.sql_names.specs.declared.words.Reserved.TheVariants as r
use Rattle.sql_ast.specs.declared.words.Sign.{Sign}
use Rattle.sql_ast.specs.declared.words.Sign.TheVariants as s
use Rattle.sql_ast.specs.declared.words.Word.{Word}
use Rattle.sql_ast.specs.declared.words.Word.TheVariants as w
use Rattle.sql_ast.specs.declared.token.Lexeme.TheVariants as l
use Rattle.sql_ast.specs.declared.clauses.Aliased.{Aliased}
use Rattle.sql_ast.specs.declared.clauses.Arg.{Arg}
use Rattle.sql_ast.specs.declared.clauses.Arg.TheVariants as arg
use Rattle.sql_ast.specs.declared.clauses.Binding.{Binding}
use Rattle.sql_ast.specs.declared.clauses.Call.{Call}
use Rattle.sql_ast.specs.declared.clauses.Edit.{Edit}
use Rattle.sql_ast.specs.declared.clauses.FilterPart.{FilterPart}
use Rattle.sql_ast.specs.declared.clauses.Function.{Function}
use Rattle.sql_ast.specs.declared.clauses.Function.TheVariants as function
use Rattle.sql_ast.specs.declared.clauses.Item.{Item}
use Rattle.sql_ast.specs.declared.clauses.Item.TheVariants as item
use Rattle.sql_ast.specs.declared.clauses.LimitPart.{LimitPart}
use Rattle.sql_ast.specs.declared.clauses.Name.{Name}
use Rattle.sql_ast.specs.declared.clauses.NullsPart.{NullsPart}
use Rattle.sql_ast.specs.declared.clauses.NullsPart.TheVariants as nulls_part
use Rattle.sql_ast.specs.declared.clauses.NullsPlace.{NullsPlace}
use Rattle.sql_ast.specs.declared.clauses.NullsPlace.TheVariants as nulls_place
use Rattle.sql_ast.specs.declared.clauses.On.{On}
use Rattle.sql_ast.specs.declared.clauses.On.TheVariants as on
use Rattle.sql_ast.specs.declared.clauses.PivotCall.{PivotCall}
use Rattle.sql_ast.specs.declared.clauses.Replacement.{Replacement}
use Rattle.sql_ast.specs.declared.clauses.Sort.{Sort}
use Rattle.sql_ast.specs.declared.clauses.Turn.{Turn}
use Rattle.sql_ast.specs.declared.clauses.Turn.TheVariants as turn
use Rattle.sql_ast.specs.declared.clauses.Turned.{Turned}
use Rattle.sql_ast.specs.declared.clauses.UnpivotColumn.{UnpivotColumn}
use Rattle.sql_ast.specs.declared.clauses.When.{When}
use Rattle.sql_ast.specs.declared.clauses.WithOffset.{WithOffset}
use Rattle.sql_ast.specs.declared.expr.Comparison.{Comparison}
use Rattle.sql_ast.specs.declared.expr.Comparison.TheVariants as comparison
use Rattle.sql_ast.specs.declared.expr.IndexForm.{IndexForm}
use Rattle.sql_ast.specs.declared.expr.IndexForm.TheVariants as form
use Rattle.sql_ast.specs.declared.expr.IsTest.{IsTest}
use Rattle.sql_ast.specs.declared.expr.IsTest.TheVariants as test
use Rattle.sql_ast.specs.declared.expr.Link.{Link}
use Rattle.sql_ast.specs.declared.expr.Operator.{Operator}
use Rattle.sql_ast.specs.declared.expr.Operator.TheVariants as operator
use Rattle.sql_ast.specs.declared.expr.Part.{Part}
use Rattle.sql_ast.specs.declared.expr.Part.TheVariants as part
use Rattle.sql_ast.specs.declared.expr.Prefix.{Prefix}
use Rattle.sql_ast.specs.declared.expr.Quantifier.{Quantifier}
use Rattle.sql_ast.specs.declared.expr.Quantifier.TheVariants as quantifier
use Rattle.sql_ast.specs.declared.expr.Signed.{Signed}
use Rattle.sql_ast.specs.declared.expr.Signed.TheVariants as signed
use Rattle.sql_ast.specs.declared.expr.Expr.{Expr, fold-Expr}
use Rattle.sql_ast.specs.declared.expr.Expr.TheOpen as ast
use Rattle.sql_ast.specs.declared.expr.Expr.TheOpen.{Expr-F, Primary-F, Term-F, FromItem-F, Joined-F, Query-F, Select-F}
use Rattle.sql_ast.specs.declared.grouping.Cube.{Cube}
use Rattle.sql_ast.specs.declared.grouping.CubeKind.{CubeKind}
use Rattle.sql_ast.specs.declared.grouping.CubeKind.TheVariants as cube
use Rattle.sql_ast.specs.declared.grouping.GroupItem.{GroupItem}
use Rattle.sql_ast.specs.declared.grouping.GroupItem.TheVariants as group_item
use Rattle.sql_ast.specs.declared.grouping.GroupSet.{GroupSet}
use Rattle.sql_ast.specs.declared.grouping.GroupSet.TheVariants as group_set
use Rattle.sql_ast.specs.declared.grouping.Groups.{Groups}
use Rattle.sql_ast.specs.declared.grouping.Groups.TheVariants as groups
use Rattle.sql_ast.specs.declared.query.Cte.{Cte}
use Rattle.sql_ast.specs.declared.query.JoinWord.{JoinWord}
use Rattle.sql_ast.specs.declared.query.JoinWord.TheVariants as join
use Rattle.sql_ast.specs.declared.query.SetTerm.{SetTerm}
use Rattle.sql_ast.specs.declared.query.Query.{Query, fold-Query}
use Rattle.sql_ast.specs.declared.type_spelling.TypeField.{TypeField}
use Rattle.sql_ast.specs.declared.type_spelling.TypeSpelling.{TypeSpelling, fold-TypeSpelling}
use Rattle.sql_ast.specs.declared.type_spelling.TypeSpelling.TheOpen as spelling
use Rattle.sql_ast.specs.Pieces.{Piece, spaced, word, name, read_word, sign, close_sign, with_commas, after_commas, bracketed, call_brackets, if_there, if_so, text_of}
use Rattle.sql_ast.specs.Trees.{set_word, set_quantifier}

-- ---- levels, from the loosest to the tightest

abbrev pub or_level : ℕ
or_level = 0

abbrev pub and_level : ℕ
and_level = 1

abbrev pub not_level : ℕ
not_level = 2

abbrev pub comparison_level : ℕ
comparison_level = 3

abbrev pub bit_or_level : ℕ
bit_or_level = 4

abbrev pub bit_xor_level : ℕ
bit_xor_level = 5

abbrev pub bit_and_level : ℕ
bit_and_level = 6

abbrev pub shift_level : ℕ
shift_level = 7

abbrev pub sum_level : ℕ
sum_level = 8

abbrev pub product_level : ℕ
product_level = 9

abbrev pub unary_level : ℕ
unary_level = 10

abbrev pub postfix_level : ℕ
postfix_level = 11

abbrev pub basic_level : ℕ
basic_level = 12

-- the tokens of an expression, and its level
pub record Print : Type 0 where
  pub level : ℕ
  pub pieces : List Piece

abbrev pub at_level : ℕ → List Piece → Print
at_level level pieces = record { level = level; pieces = pieces }

abbrev pub basic : List Piece → Print
basic pieces = at_level basic_level pieces

-- an operand at a place that needs a level
abbrev pub operand : ℕ → Print → List Piece
operand needed e = if nat_lt e.level needed then bracketed e.pieces else e.pieces

-- an expression where each may stand
abbrev pub whole : Print → List Piece
whole e = e.pieces

abbrev pub list_of : List Print → List Piece
list_of es = with_commas (map whole es)

-- ---- names and aliases

abbrev pub name_pieces : Name → List Piece
name_pieces n = name n.text ∷ []

abbrev pub names_list : List Name → List Piece
names_list ns = with_commas (map name_pieces ns)

-- AS stands before every alias
abbrev pub alias_pieces : Option Name → List Piece
alias_pieces alias = if_there (λ n. word r.As ∷ name n.text ∷ []) alias

abbrev pub dots : List Name → List Piece
dots [] = []
dots (n ∷ ns) = sign s.Dot ∷ name n.text ∷ dots ns

abbrev pub path_pieces : List Name → List Piece
path_pieces [] = []
path_pieces (n ∷ ns) = name n.text ∷ dots ns

-- ---- types

abbrev pub angled : List Piece → List Piece
angled pieces = close_sign s.Less ∷ (pieces ++ close_sign s.Greater ∷ [])

abbrev pub field_pieces : TypeField (List Piece) → List Piece
field_pieces f = if_there name_pieces f.name ++ f.ty

abbrev pub type_layer : spelling.TypeSpelling-F (List Piece) → List Piece
type_layer (spelling.Name n) = name_pieces n
type_layer (spelling.Array element place) = word r.Array ∷ angled element
type_layer (spelling.Struct fields place) = word r.Struct ∷ angled (with_commas (map field_pieces fields))

unfoldable pub type_pieces : TypeSpelling → List Piece
type_pieces = fold-TypeSpelling (List Piece) type_layer

-- ---- operators

abbrev pub operator_piece : Operator → Piece
operator_piece operator.Or = word r.Or
operator_piece operator.And = word r.And
operator_piece operator.BitOr = sign s.Bar
operator_piece operator.BitXor = sign s.Caret
operator_piece operator.BitAnd = sign s.Ampersand
operator_piece operator.ShiftLeft = sign s.LessLess
operator_piece operator.ShiftRight = sign s.Greater
operator_piece operator.Add = sign s.Plus
operator_piece operator.Subtract = sign s.Minus
operator_piece operator.Multiply = sign s.Star
operator_piece operator.Concat = sign s.BarBar

-- `>>` is two tokens with nothing between
abbrev pub operator_pieces : Operator → List Piece
operator_pieces operator.ShiftRight = record { lexeme = l.Sign s.Greater; before = true; behind = false } ∷ record { lexeme = l.Sign s.Greater; before = false; behind = true } ∷ []
operator_pieces o = operator_piece o ∷ []

abbrev pub links : ℕ → List (Link Print) → List Piece
links needed [] = []
links needed (link ∷ more) = (operator_pieces link.operator ++ operand needed link.operand) ++ links needed more

-- a chain, whose operands need the next level
abbrev pub chain : ℕ → ℕ → Print → List (Link Print) → Print
chain level needed first rest = at_level level (operand needed first ++ links needed rest)

abbrev pub prefix_piece : Signed → Piece
prefix_piece signed.Plus = sign s.Plus
prefix_piece signed.Minus = sign s.Minus
prefix_piece signed.Flip = sign s.Tilde

-- `!=` for `<>`
abbrev pub comparison_piece : Comparison → Piece
comparison_piece comparison.Equal = sign s.Equal
comparison_piece comparison.NotEqual = sign s.BangEqual
comparison_piece comparison.Less = sign s.Less
comparison_piece comparison.LessEqual = sign s.LessEqual
comparison_piece comparison.Greater = sign s.Greater
comparison_piece comparison.GreaterEqual = sign s.GreaterEqual

abbrev pub quantifier_piece : Quantifier → Piece
quantifier_piece quantifier.Any = word r.Any
quantifier_piece quantifier.Some = word r.Some
quantifier_piece quantifier.All = word r.All

abbrev pub test_piece : IsTest → Piece
test_piece test.Null = word r.Null
test_piece test.True = word r.True
test_piece test.False = word r.False

abbrev pub form_piece : IndexForm → Piece
form_piece form.Offset = read_word w.Offset
form_piece form.Ordinal = read_word w.Ordinal
form_piece form.SafeOffset = read_word w.SafeOffset
form_piece form.SafeOrdinal = read_word w.SafeOrdinal

abbrev pub not_if : Bool → List Piece
not_if negated = if_so negated (word r.Not ∷ [])

-- UNNEST and its array
abbrev pub unnest_pieces : Print → List Piece
unnest_pieces array = word r.Unnest ∷ bracketed array.pieces

-- ---- parts of expressions

abbrev pub part_pieces : Part Print → List Piece
part_pieces (part.Field n) = sign s.Dot ∷ name n.text ∷ []
part_pieces (part.Index f index place) = close_sign s.OpenSquare ∷ form_piece f ∷ (bracketed index.pieces ++ sign s.CloseSquare ∷ [])

abbrev pub all_parts : List (Part Print) → List Piece
all_parts [] = []
all_parts (p ∷ ps) = part_pieces p ++ all_parts ps

-- ASC leaves nothing
abbrev pub nulls_place_pieces : NullsPlace → List Piece
nulls_place_pieces nulls_place.First = word r.Nulls ∷ read_word w.First ∷ []
nulls_place_pieces nulls_place.Last = word r.Nulls ∷ read_word w.Last ∷ []

abbrev pub sort_pieces : Sort Print → List Piece
sort_pieces sort = sort.expr.pieces ++ if_so sort.descending (word r.Desc ∷ []) ++ if_there nulls_place_pieces sort.nulls

abbrev pub order_pieces : List (Sort Print) → List Piece
order_pieces [] = []
order_pieces (sort ∷ sorts) = word r.Order ∷ word r.By ∷ with_commas (map sort_pieces (sort ∷ sorts))

-- one variable alone, or two in brackets
abbrev pub variables_pieces : List Name → List Piece
variables_pieces [] = []
variables_pieces (n ∷ []) = name n.text ∷ []
variables_pieces (n ∷ m ∷ ns) = bracketed (names_list (n ∷ m ∷ ns))

abbrev pub argument_pieces : Arg Print → List Piece
argument_pieces (arg.Expr e) = e.pieces
argument_pieces (arg.Lambda variables body place) = variables_pieces variables ++ sign s.Arrow ∷ body.pieces
argument_pieces (arg.Interval amount p place) = word r.Interval ∷ (amount.pieces ++ name p.text ∷ [])

abbrev pub nulls_part_pieces : NullsPart → List Piece
nulls_part_pieces nulls_part.Ignore = word r.Ignore ∷ word r.Nulls ∷ []
nulls_part_pieces nulls_part.Respect = word r.Respect ∷ word r.Nulls ∷ []

abbrev pub star_or_arguments : Bool → List (Arg Print) → List Piece
star_or_arguments true arguments = sign s.Star ∷ []
star_or_arguments false arguments = with_commas (map argument_pieces arguments)

abbrev pub function_piece : Function → Piece
function_piece function.If = word r.If
function_piece (function.Named text) = name text

abbrev pub call_limit : Option ℕ → List Piece
call_limit limit = if_there (λ n. word r.Limit ∷ spaced (l.Integer n) ∷ []) limit

abbrev pub call_pieces : Call Print → List Piece
call_pieces call =
    function_piece call.function ∷ call_brackets (if_so call.distinct (word r.Distinct ∷ []) ++ star_or_arguments call.star call.arguments
    ++ if_there nulls_part_pieces call.nulls ++ order_pieces call.order ++ call_limit call.limit)

abbrev pub when_pieces : List (When Print) → List Piece
when_pieces [] = []
when_pieces (when ∷ whens) = (word r.When ∷ when.test.pieces) ++ (word r.Then ∷ when.result.pieces) ++ when_pieces whens

abbrev pub aliased_pieces : Aliased Print → List Piece
aliased_pieces x = x.expr.pieces ++ alias_pieces x.alias

abbrev pub binding_pieces : Binding Print → List Piece
binding_pieces b = name b.name.text ∷ word r.As ∷ b.expr.pieces

-- ---- expressions

abbrev pub expr_print : Expr-F Print (List Piece) (List Piece) (List Piece) (List Piece) (List Piece) (List Piece) → Print
expr_print (ast.Or first rest place) = chain or_level and_level first rest
expr_print (ast.And first rest place) = chain and_level not_level first rest
expr_print (ast.Not operators e place) = at_level not_level (map (λ o. word r.Not) operators ++ operand comparison_level e)
expr_print (ast.Compare left operator operator_place right place) =
    at_level comparison_level (operand bit_or_level left ++ comparison_piece operator ∷ operand bit_or_level right)
expr_print (ast.Like left negated operator_place right place) =
    at_level comparison_level (operand bit_or_level left ++ not_if negated ++ word r.Like ∷ operand bit_or_level right)
expr_print (ast.LikeList left q operator_place patterns place) =
    at_level comparison_level (operand bit_or_level left ++ word r.Like ∷ quantifier_piece q ∷ bracketed (list_of patterns))
expr_print (ast.LikeUnnest left q operator_place array place) =
    at_level comparison_level (operand bit_or_level left ++ word r.Like ∷ quantifier_piece q ∷ unnest_pieces array)
expr_print (ast.Between subject negated operator_place low high place) =
    at_level comparison_level (operand bit_or_level subject ++ not_if negated ++ word r.Between ∷ (operand bit_or_level low ++ word r.And ∷ operand bit_or_level high))
expr_print (ast.InList left negated operator_place list place) =
    at_level comparison_level (operand bit_or_level left ++ not_if negated ++ word r.In ∷ bracketed (list_of list))
expr_print (ast.InQuery left negated operator_place query open_place place) =
    at_level comparison_level (operand bit_or_level left ++ not_if negated ++ word r.In ∷ bracketed query)
expr_print (ast.InUnnest left negated operator_place array place) =
    at_level comparison_level (operand bit_or_level left ++ not_if negated ++ word r.In ∷ unnest_pieces array)
expr_print (ast.Is left negated t operator_place place) = at_level comparison_level (operand bit_or_level left ++ word r.Is ∷ (not_if negated ++ test_piece t ∷ []))
expr_print (ast.Distinct left negated operator_place right place) =
    at_level comparison_level (operand bit_or_level left ++ word r.Is ∷ (not_if negated ++ word r.Distinct ∷ word r.From ∷ operand bit_or_level right))
expr_print (ast.BitOr first rest place) = chain bit_or_level bit_xor_level first rest
expr_print (ast.BitXor first rest place) = chain bit_xor_level bit_and_level first rest
expr_print (ast.BitAnd first rest place) = chain bit_and_level shift_level first rest
expr_print (ast.Shift first rest place) = chain shift_level sum_level first rest
expr_print (ast.Sum first rest place) = chain sum_level product_level first rest
expr_print (ast.Product first rest place) = chain product_level unary_level first rest
expr_print (ast.Unary operators e place) = at_level unary_level (map (λ p. prefix_piece p.operator) operators ++ operand postfix_level e)
expr_print (ast.Postfix first parts place) = at_level postfix_level (operand basic_level first ++ all_parts parts)
expr_print (ast.Integer n place) = basic (spaced (l.Integer n) ∷ [])
expr_print (ast.Text text place) = basic (spaced (l.Text text) ∷ [])
expr_print (ast.Bytes bytes place) = basic (spaced (l.Bytes bytes) ∷ [])
expr_print (ast.Bool true place) = basic (word r.True ∷ [])
expr_print (ast.Bool false place) = basic (word r.False ∷ [])
expr_print (ast.Null place) = basic (word r.Null ∷ [])
expr_print (ast.Date text place) = basic (read_word w.Date ∷ spaced (l.Text text) ∷ [])
expr_print (ast.Parameter text place) = basic (spaced (l.Parameter text) ∷ [])
expr_print (ast.Name text place) = basic (name text ∷ [])
expr_print (ast.Call call place) = basic (call_pieces call)
expr_print (ast.SafeCall call place) = basic (read_word w.Safe ∷ sign s.Dot ∷ call_pieces call)
expr_print (ast.Scalar query place) = basic (bracketed query)
expr_print (ast.Tuple es place) = basic (bracketed (list_of es))
expr_print (ast.Case subject branches otherwise place) =
    basic (word r.Case ∷ (if_there whole subject ++ when_pieces branches ++ if_there (λ e. word r.Else ∷ e.pieces) otherwise ++ word r.End ∷ []))
expr_print (ast.Cast true e type place) = basic (read_word w.SafeCast ∷ bracketed (e.pieces ++ word r.As ∷ type_pieces type))
expr_print (ast.Cast false e type place) = basic (word r.Cast ∷ bracketed (e.pieces ++ word r.As ∷ type_pieces type))
expr_print (ast.Extract p e place) = basic (word r.Extract ∷ bracketed (name p.text ∷ word r.From ∷ e.pieces))
expr_print (ast.Grouping argument place) = basic (word r.Grouping ∷ bracketed argument.pieces)
expr_print (ast.Exists query place) = basic (word r.Exists ∷ bracketed query)
expr_print (ast.ArrayQuery query open_place place) = basic (word r.Array ∷ bracketed query)
-- ARRAY before the `[` of an untyped array leaves nothing
expr_print (ast.Array None items open_place place) = basic (sign s.OpenSquare ∷ (list_of items ++ sign s.CloseSquare ∷ []))
expr_print (ast.Array (Some type) items open_place place) = basic (word r.Array ∷ (angled (type_pieces type) ++ sign s.OpenSquare ∷ (list_of items ++ sign s.CloseSquare ∷ [])))
expr_print (ast.Struct parts place) = basic (word r.Struct ∷ bracketed (with_commas (map aliased_pieces parts)))
expr_print (ast.TypedStruct fields parts open_place place) =
    basic (word r.Struct ∷ (angled (with_commas (map (λ f. if_there name_pieces f.name ++ type_pieces f.ty) fields)) ++ bracketed (list_of parts)))
expr_print (ast.With bindings result place) = basic (word r.With ∷ bracketed (with_commas (map binding_pieces bindings) ++ sign s.Comma ∷ result.pieces))

-- ---- the select list

abbrev pub except_pieces : List Name → List Piece
except_pieces [] = []
except_pieces (n ∷ ns) = word r.Except ∷ bracketed (names_list (n ∷ ns))

abbrev pub replacement_pieces : Replacement Print → List Piece
replacement_pieces x = x.expr.pieces ++ word r.As ∷ name x.name.text ∷ []

abbrev pub replace_pieces : List (Replacement Print) → List Piece
replace_pieces [] = []
replace_pieces (x ∷ xs) = read_word w.Replace ∷ bracketed (with_commas (map replacement_pieces (x ∷ xs)))

abbrev pub edit_pieces : Edit Print → List Piece
edit_pieces edit = except_pieces edit.except ++ replace_pieces edit.replace

abbrev pub item_pieces : Item Print → List Piece
item_pieces (item.Star edit place) = sign s.Star ∷ edit_pieces edit
item_pieces (item.QualifiedStar e edit place) = operand postfix_level e ++ sign s.Dot ∷ sign s.Star ∷ edit_pieces edit
item_pieces (item.Expr e alias place) = e.pieces ++ alias_pieces alias

-- ---- FROM

abbrev pub pivot_call_pieces : PivotCall Print → List Piece
pivot_call_pieces k = call_pieces k.call ++ alias_pieces k.alias

abbrev pub unpivot_column_pieces : UnpivotColumn → List Piece
unpivot_column_pieces c = name c.name.text ∷ if_there (λ text. word r.As ∷ spaced (l.Text text) ∷ []) c.label

-- EXCLUDE NULLS leaves nothing
abbrev pub turn_pieces : Turn Print → List Piece
turn_pieces (turn.Pivot aggregates input values place) =
    read_word w.Pivot ∷ bracketed (with_commas (map pivot_call_pieces aggregates) ++ word r.For ∷ (path_pieces input ++ word r.In ∷ bracketed (with_commas (map aliased_pieces values))))
turn_pieces (turn.Unpivot include_nulls value label columns place) =
    read_word w.Unpivot ∷ (if_so include_nulls (read_word w.Include ∷ word r.Nulls ∷ [])
    ++ bracketed (name value.text ∷ word r.For ∷ name label.text ∷ word r.In ∷ bracketed (with_commas (map unpivot_column_pieces columns))))

abbrev pub turned_pieces : Turned Print → List Piece
turned_pieces t = turn_pieces t.turn ++ alias_pieces t.alias

abbrev pub offset_pieces : WithOffset → List Piece
offset_pieces offset = word r.With ∷ read_word w.Offset ∷ alias_pieces offset.alias

abbrev pub Print-Primary : Type 0
Print-Primary = Primary-F Print (List Piece) (List Piece) (List Piece) (List Piece) (List Piece) (List Piece)

abbrev pub primary_print : Print-Primary → List Piece
primary_print (ast.Table n alias t place) = name n.text ∷ (alias_pieces alias ++ if_there turned_pieces t)
primary_print (Primary-F.«Primary::Query» query alias t place) = bracketed query ++ alias_pieces alias ++ if_there turned_pieces t
primary_print (ast.Path path alias offset place) = path_pieces path ++ alias_pieces alias ++ if_there offset_pieces offset
primary_print (ast.Unnest array alias offset place) = unnest_pieces array ++ alias_pieces alias ++ if_there offset_pieces offset

-- INNER and OUTER leave nothing
abbrev pub join_pieces : JoinWord → List Piece
join_pieces join.Comma = sign s.Comma ∷ []
join_pieces join.Cross = word r.Cross ∷ word r.Join ∷ []
join_pieces join.Inner = word r.Join ∷ []
join_pieces join.Left = word r.Left ∷ word r.Join ∷ []
join_pieces join.Right = word r.Right ∷ word r.Join ∷ []
join_pieces join.Full = word r.Full ∷ word r.Join ∷ []

abbrev pub on_pieces : On Print → List Piece
on_pieces (on.On condition place) = word r.On ∷ condition.pieces
on_pieces (on.Using columns place) = word r.Using ∷ bracketed (names_list columns)

abbrev pub joined_print : Joined-F Print (List Piece) (List Piece) (List Piece) (List Piece) (List Piece) (List Piece) → List Piece
joined_print j = join_pieces j.word ++ j.primary ++ if_there on_pieces j.on

abbrev pub all_of : List (List Piece) → List Piece
all_of [] = []
all_of (pieces ∷ more) = pieces ++ all_of more

abbrev pub from_print : FromItem-F Print (List Piece) (List Piece) (List Piece) (List Piece) (List Piece) (List Piece) → List Piece
from_print f = f.first ++ all_of f.rest

-- ---- GROUP BY

abbrev pub group_item_pieces : GroupItem Print → List Piece
group_item_pieces (group_item.Expr e) = e.pieces
group_item_pieces (group_item.List es place) = bracketed (list_of es)

abbrev pub cube_word : CubeKind → Piece
cube_word cube.Rollup = word r.Rollup
cube_word cube.Cube = word r.Cube

abbrev pub cube_pieces : Cube Print → List Piece
cube_pieces c = cube_word c.kind ∷ bracketed (with_commas (map group_item_pieces c.items))

abbrev pub set_pieces : GroupSet Print → List Piece
set_pieces (group_set.Item i) = group_item_pieces i
set_pieces (group_set.Cube c) = cube_pieces c

abbrev pub groups_pieces : Groups Print → List Piece
groups_pieces (groups.Keys keys place) = list_of keys
groups_pieces (groups.Empty place) = bracketed []
groups_pieces (groups.Sets sets place) = word r.Grouping ∷ read_word w.Sets ∷ bracketed (with_commas (map set_pieces sets))
groups_pieces (groups.Cube c place) = cube_pieces c

-- ---- queries

-- ALL after SELECT leaves nothing
abbrev pub select_print : Select-F Print (List Piece) (List Piece) (List Piece) (List Piece) (List Piece) (List Piece) → List Piece
select_print q =
    word r.Select ∷ (if_so q.distinct (word r.Distinct ∷ []) ++ if_so q.as_struct (word r.As ∷ word r.Struct ∷ []) ++ with_commas (map item_pieces q.items)
    ++ if_there (λ f. word r.From ∷ f) q.from ++ if_there (λ e. word r.Where ∷ e.pieces) q.filter
    ++ if_there (λ g. word r.Group ∷ word r.By ∷ groups_pieces g) q.grouping ++ if_there (λ h. word r.Having ∷ h.test.pieces) q.having)

abbrev pub term_print : Term-F Print (List Piece) (List Piece) (List Piece) (List Piece) (List Piece) (List Piece) → List Piece
term_print (Term-F.Select select) = select
term_print (Term-F.«Term::Query» query place) = bracketed query

abbrev pub set_term_pieces : SetTerm (List Piece) → List Piece
set_term_pieces t = word (set_word t.kind) ∷ word (set_quantifier t.kind) ∷ t.term

abbrev pub cte_pieces : Cte (List Piece) → List Piece
cte_pieces c = name c.name.text ∷ word r.As ∷ bracketed c.query

abbrev pub ctes_pieces : List (Cte (List Piece)) → List Piece
ctes_pieces [] = []
ctes_pieces (c ∷ ctes) = word r.With ∷ with_commas (map cte_pieces (c ∷ ctes))

abbrev pub limit_pieces : LimitPart Print → List Piece
limit_pieces limit = word r.Limit ∷ (limit.count.pieces ++ if_there (λ e. read_word w.Offset ∷ e.pieces) limit.offset)

abbrev pub query_print : Query-F Print (List Piece) (List Piece) (List Piece) (List Piece) (List Piece) (List Piece) → List Piece
query_print q = ctes_pieces q.ctes ++ q.body.first ++ all_of (map set_term_pieces q.body.rest) ++ order_pieces q.order ++ if_there limit_pieces q.limit

-- the tokens of a query's canonical print
unfoldable pub canon_pieces : Query → List Piece
canon_pieces = fold-Query Print (List Piece) (List Piece) (List Piece) (List Piece) (List Piece) (List Piece) expr_print primary_print term_print from_print joined_print query_print select_print

-- The canonical print of a query.
abbrev pub Canon : Query → List ℕ
Canon query = text_of (canon_pieces query)

-- the tokens of an expression alone, and its level
unfoldable pub canon_expr : Expr → Print
canon_expr = fold-Expr Print (List Piece) (List Piece) (List Piece) (List Piece) (List Piece) (List Piece) expr_print primary_print term_print from_print joined_print query_print select_print
