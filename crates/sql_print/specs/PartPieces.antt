-- The tokens of each part of a clause, given the tokens of the trees in it.
use Rattle.std.specs.Prelude.{ℕ, nat_lt, Bool, if◌then◌else◌, List, [], ◌∷◌, ◌++◌, map, Option}
use Rattle.sql_names.specs.declared.words.Reserved.TheVariants as r
use Rattle.sql_ast.specs.declared.words.Sign.TheVariants as s
use Rattle.sql_ast.specs.declared.words.Word.TheVariants as w
use Rattle.sql_ast.specs.declared.clauses.Aliased.{Aliased}
use Rattle.sql_ast.specs.declared.clauses.Arg.{Arg}
use Rattle.sql_ast.specs.declared.clauses.Arg.TheVariants as arg
use Rattle.sql_ast.specs.declared.clauses.Binding.{Binding}
use Rattle.sql_ast.specs.declared.clauses.Call.{Call}
use Rattle.sql_ast.specs.declared.clauses.Edit.{Edit}
use Rattle.sql_ast.specs.declared.clauses.FilterPart.{FilterPart}
use Rattle.sql_ast.specs.declared.clauses.Item.{Item}
use Rattle.sql_ast.specs.declared.clauses.Item.TheVariants as item
use Rattle.sql_ast.specs.declared.clauses.LimitPart.{LimitPart}
use Rattle.sql_ast.specs.declared.clauses.Name.{Name}
use Rattle.sql_ast.specs.declared.clauses.On.{On}
use Rattle.sql_ast.specs.declared.clauses.On.TheVariants as on
use Rattle.sql_ast.specs.declared.clauses.PivotCall.{PivotCall}
use Rattle.sql_ast.specs.declared.clauses.Replacement.{Replacement}
use Rattle.sql_ast.specs.declared.clauses.Sort.{Sort}
use Rattle.sql_ast.specs.declared.clauses.Turn.{Turn}
use Rattle.sql_ast.specs.declared.clauses.Turn.TheVariants as turn
use Rattle.sql_ast.specs.declared.clauses.Turned.{Turned}
use Rattle.sql_ast.specs.declared.clauses.UnpivotColumn.{UnpivotColumn}
use Rattle.sql_ast.specs.declared.clauses.When.{When}
use Rattle.sql_ast.specs.declared.clauses.WithOffset.{WithOffset}
use Rattle.sql_ast.specs.declared.expr.Link.{Link}
use Rattle.sql_ast.specs.declared.expr.Part.{Part}
use Rattle.sql_ast.specs.declared.expr.Part.TheVariants as part
use Rattle.sql_ast.specs.declared.grouping.Cube.{Cube}
use Rattle.sql_ast.specs.declared.grouping.GroupItem.{GroupItem}
use Rattle.sql_ast.specs.declared.grouping.GroupItem.TheVariants as group_item
use Rattle.sql_ast.specs.declared.grouping.GroupSet.{GroupSet}
use Rattle.sql_ast.specs.declared.grouping.GroupSet.TheVariants as group_set
use Rattle.sql_ast.specs.declared.grouping.Groups.{Groups}
use Rattle.sql_ast.specs.declared.grouping.Groups.TheVariants as groups
use Rattle.sql_ast.specs.declared.query.Cte.{Cte}
use Rattle.sql_ast.specs.declared.query.SetTerm.{SetTerm}
use Rattle.sql_ast.specs.declared.type_spelling.TypeField.{TypeField}
use Rattle.sql_ast.specs.Pieces.{Piece, word, name, read_word, sign, close_sign, with_commas, bracketed, call_brackets, if_there, if_so}
use Rattle.sql_ast.specs.Trees.{set_word, set_quantifier}
use Rattle.sql_ast.specs.Canon.{postfix_level, name_pieces, names_list, alias_pieces, path_pieces, form_piece, operator_pieces, nulls_place_pieces, variables_pieces, nulls_part_pieces, function_piece, call_limit, except_pieces, unpivot_column_pieces, offset_pieces, cube_word}

-- one part after another
abbrev pub run : {A : Type 0} → (A → List Piece) → List A → List Piece
run says [] = []
run says (x ∷ xs) = says x ++ run says xs

-- the parts with commas between
abbrev pub listed : {A : Type 0} → (A → List Piece) → List A → List Piece
listed says xs = with_commas (map says xs)

-- ---- parts of expressions

-- an operand, in brackets where its level is lower than its place needs
abbrev pub operand : {E : Type 0} → (E → ℕ) → (E → List Piece) → ℕ → E → List Piece
operand level says needed e = if nat_lt (level e) needed then bracketed (says e) else says e

abbrev pub link_pieces : {E : Type 0} → (E → ℕ) → (E → List Piece) → ℕ → Link E → List Piece
link_pieces level says needed link = operator_pieces link.operator ++ operand level says needed link.operand

abbrev pub part_pieces : {E : Type 0} → (E → List Piece) → Part E → List Piece
part_pieces says (part.Field n) = sign s.Dot ∷ name n.text ∷ []
part_pieces says (part.Index f index place) = close_sign s.OpenSquare ∷ form_piece f ∷ (bracketed (says index) ++ sign s.CloseSquare ∷ [])

abbrev pub sort_pieces : {E : Type 0} → (E → List Piece) → Sort E → List Piece
sort_pieces says sort = says sort.expr ++ if_so sort.descending (word r.Desc ∷ []) ++ if_there nulls_place_pieces sort.nulls

abbrev pub order_pieces : {E : Type 0} → (E → List Piece) → List (Sort E) → List Piece
order_pieces says [] = []
order_pieces says (sort ∷ sorts) = word r.Order ∷ word r.By ∷ listed (sort_pieces says) (sort ∷ sorts)

abbrev pub argument_pieces : {E : Type 0} → (E → List Piece) → Arg E → List Piece
argument_pieces says (arg.Expr e) = says e
argument_pieces says (arg.Lambda variables body place) = variables_pieces variables ++ sign s.Arrow ∷ says body
argument_pieces says (arg.Interval amount p place) = word r.Interval ∷ (says amount ++ name p.text ∷ [])

abbrev pub star_or_arguments : {E : Type 0} → (E → List Piece) → Bool → List (Arg E) → List Piece
star_or_arguments says star arguments = if star then sign s.Star ∷ [] else listed (argument_pieces says) arguments

abbrev pub inside_pieces : {E : Type 0} → (E → List Piece) → Call E → List Piece
inside_pieces says call =
    if_so call.distinct (word r.Distinct ∷ []) ++ star_or_arguments says call.star call.arguments ++ if_there nulls_part_pieces call.nulls ++ order_pieces says call.order ++ call_limit call.limit

abbrev pub call_pieces : {E : Type 0} → (E → List Piece) → Call E → List Piece
call_pieces says call = function_piece call.function ∷ call_brackets (inside_pieces says call)

abbrev pub when_pieces : {E : Type 0} → (E → List Piece) → When E → List Piece
when_pieces says when = (word r.When ∷ says when.test) ++ word r.Then ∷ says when.result

abbrev pub aliased_pieces : {E : Type 0} → (E → List Piece) → Aliased E → List Piece
aliased_pieces says aliased = says aliased.expr ++ alias_pieces aliased.alias

abbrev pub binding_pieces : {E : Type 0} → (E → List Piece) → Binding E → List Piece
binding_pieces says binding = name binding.name.text ∷ word r.As ∷ says binding.expr

abbrev pub field_pieces : {T : Type 0} → (T → List Piece) → TypeField T → List Piece
field_pieces says field = if_there name_pieces field.name ++ says field.ty

-- ---- the select list

abbrev pub replacement_pieces : {E : Type 0} → (E → List Piece) → Replacement E → List Piece
replacement_pieces says replacement = says replacement.expr ++ word r.As ∷ name replacement.name.text ∷ []

abbrev pub replace_pieces : {E : Type 0} → (E → List Piece) → List (Replacement E) → List Piece
replace_pieces says [] = []
replace_pieces says (x ∷ xs) = read_word w.Replace ∷ bracketed (listed (replacement_pieces says) (x ∷ xs))

abbrev pub edit_pieces : {E : Type 0} → (E → List Piece) → Edit E → List Piece
edit_pieces says edit = except_pieces edit.except ++ replace_pieces says edit.replace

abbrev pub item_pieces : {E : Type 0} → (E → ℕ) → (E → List Piece) → Item E → List Piece
item_pieces level says (item.Star edit place) = sign s.Star ∷ edit_pieces says edit
item_pieces level says (item.QualifiedStar e edit place) = operand level says postfix_level e ++ sign s.Dot ∷ sign s.Star ∷ edit_pieces says edit
item_pieces level says (item.Expr e alias place) = says e ++ alias_pieces alias

-- ---- FROM

abbrev pub pivot_call_pieces : {E : Type 0} → (E → List Piece) → PivotCall E → List Piece
pivot_call_pieces says aggregate = call_pieces says aggregate.call ++ alias_pieces aggregate.alias

-- what stands in PIVOT's brackets behind the aggregates
abbrev pub for_pieces : {E : Type 0} → (E → List Piece) → List Name → List (Aliased E) → List Piece
for_pieces says input values = word r.For ∷ (path_pieces input ++ word r.In ∷ bracketed (listed (aliased_pieces says) values))

-- EXCLUDE NULLS leaves nothing
abbrev pub include_pieces : Bool → List Piece
include_pieces included = if_so included (read_word w.Include ∷ word r.Nulls ∷ [])

abbrev pub unpivoted_pieces : List ℕ → List ℕ → List UnpivotColumn → List Piece
unpivoted_pieces value label columns = bracketed (name value ∷ word r.For ∷ name label ∷ word r.In ∷ bracketed (listed unpivot_column_pieces columns))

abbrev pub turn_pieces : {E : Type 0} → (E → List Piece) → Turn E → List Piece
turn_pieces says (turn.Pivot aggregates input values place) = read_word w.Pivot ∷ bracketed (listed (pivot_call_pieces says) aggregates ++ for_pieces says input values)
turn_pieces says (turn.Unpivot include_nulls value label columns place) = read_word w.Unpivot ∷ (include_pieces include_nulls ++ unpivoted_pieces value.text label.text columns)

abbrev pub turned_pieces : {E : Type 0} → (E → List Piece) → Turned E → List Piece
turned_pieces says turned = turn_pieces says turned.turn ++ alias_pieces turned.alias

abbrev pub on_pieces : {E : Type 0} → (E → List Piece) → On E → List Piece
on_pieces says (on.On condition place) = word r.On ∷ says condition
on_pieces says (on.Using columns place) = word r.Using ∷ bracketed (names_list columns)

abbrev pub table_pieces : {E : Type 0} → (E → List Piece) → Name → Option Name → Option (Turned E) → List Piece
table_pieces says n alias turned = name n.text ∷ (alias_pieces alias ++ if_there (turned_pieces says) turned)

abbrev pub subquery_pieces : {Q E : Type 0} → (Q → List Piece) → (E → List Piece) → Q → Option Name → Option (Turned E) → List Piece
subquery_pieces query_says says query alias turned = bracketed (query_says query) ++ alias_pieces alias ++ if_there (turned_pieces says) turned

abbrev pub array_path_pieces : List Name → Option Name → Option WithOffset → List Piece
array_path_pieces path alias offset = path_pieces path ++ alias_pieces alias ++ if_there offset_pieces offset

abbrev pub unnest_item_pieces : {E : Type 0} → (E → List Piece) → E → Option Name → Option WithOffset → List Piece
unnest_item_pieces says array alias offset = (word r.Unnest ∷ bracketed (says array)) ++ alias_pieces alias ++ if_there offset_pieces offset

-- ---- GROUP BY

abbrev pub group_item_pieces : {E : Type 0} → (E → List Piece) → GroupItem E → List Piece
group_item_pieces says (group_item.Expr e) = says e
group_item_pieces says (group_item.List es place) = bracketed (listed says es)

abbrev pub cube_pieces : {E : Type 0} → (E → List Piece) → Cube E → List Piece
cube_pieces says cube = cube_word cube.kind ∷ bracketed (listed (group_item_pieces says) cube.items)

abbrev pub set_pieces : {E : Type 0} → (E → List Piece) → GroupSet E → List Piece
set_pieces says (group_set.Item item) = group_item_pieces says item
set_pieces says (group_set.Cube cube) = cube_pieces says cube

abbrev pub groups_pieces : {E : Type 0} → (E → List Piece) → Groups E → List Piece
groups_pieces says (groups.Keys keys place) = listed says keys
groups_pieces says (groups.Empty place) = bracketed []
groups_pieces says (groups.Sets sets place) = word r.Grouping ∷ read_word w.Sets ∷ bracketed (listed (set_pieces says) sets)
groups_pieces says (groups.Cube cube place) = cube_pieces says cube

-- ---- clauses of queries

abbrev pub having_pieces : {E : Type 0} → (E → List Piece) → FilterPart E → List Piece
having_pieces says having = word r.Having ∷ says having.test

abbrev pub limit_pieces : {E : Type 0} → (E → List Piece) → LimitPart E → List Piece
limit_pieces says limit = word r.Limit ∷ (says limit.count ++ if_there (λ e. read_word w.Offset ∷ says e) limit.offset)

abbrev pub cte_pieces : {Q : Type 0} → (Q → List Piece) → Cte Q → List Piece
cte_pieces says cte = name cte.name.text ∷ word r.As ∷ bracketed (says cte.query)

abbrev pub ctes_pieces : {Q : Type 0} → (Q → List Piece) → List (Cte Q) → List Piece
ctes_pieces says [] = []
ctes_pieces says (c ∷ ctes) = word r.With ∷ listed (cte_pieces says) (c ∷ ctes)

abbrev pub set_term_pieces : {T : Type 0} → (T → List Piece) → SetTerm T → List Piece
set_term_pieces says set = word (set_word set.kind) ∷ word (set_quantifier set.kind) ∷ says set.term
