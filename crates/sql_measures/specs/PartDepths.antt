-- The depth of each part of a clause, given how deep the trees in it are.
use Rattle.std.specs.Prelude.{ℕ, ◌+◌, ◌-◌, max, List, length, Option}
use Rattle.sql_ast.specs.declared.clauses.Aliased.{Aliased}
use Rattle.sql_ast.specs.declared.clauses.Arg.{Arg}
use Rattle.sql_ast.specs.declared.clauses.Arg.TheVariants as arg
use Rattle.sql_ast.specs.declared.clauses.Binding.{Binding}
use Rattle.sql_ast.specs.declared.clauses.Call.{Call}
use Rattle.sql_ast.specs.declared.clauses.Edit.{Edit}
use Rattle.sql_ast.specs.declared.clauses.FilterPart.{FilterPart}
use Rattle.sql_ast.specs.declared.clauses.Item.{Item}
use Rattle.sql_ast.specs.declared.clauses.Item.TheVariants as item
use Rattle.sql_ast.specs.declared.clauses.LimitPart.{LimitPart}
use Rattle.sql_ast.specs.declared.clauses.On.{On}
use Rattle.sql_ast.specs.declared.clauses.On.TheVariants as on
use Rattle.sql_ast.specs.declared.clauses.PivotCall.{PivotCall}
use Rattle.sql_ast.specs.declared.clauses.Replacement.{Replacement}
use Rattle.sql_ast.specs.declared.clauses.Sort.{Sort}
use Rattle.sql_ast.specs.declared.clauses.Turn.{Turn}
use Rattle.sql_ast.specs.declared.clauses.Turn.TheVariants as turn
use Rattle.sql_ast.specs.declared.clauses.Turned.{Turned}
use Rattle.sql_ast.specs.declared.clauses.When.{When}
use Rattle.sql_ast.specs.declared.expr.Link.{Link}
use Rattle.sql_ast.specs.declared.expr.Part.{Part}
use Rattle.sql_ast.specs.declared.expr.Part.TheVariants as part
use Rattle.sql_ast.specs.declared.grouping.Cube.{Cube}
use Rattle.sql_ast.specs.declared.grouping.GroupItem.{GroupItem}
use Rattle.sql_ast.specs.declared.grouping.GroupItem.TheVariants as group_item
use Rattle.sql_ast.specs.declared.grouping.GroupSet.{GroupSet}
use Rattle.sql_ast.specs.declared.grouping.GroupSet.TheVariants as group_set
use Rattle.sql_ast.specs.declared.grouping.Groups.{Groups}
use Rattle.sql_ast.specs.declared.grouping.Groups.TheVariants as groups
use Rattle.sql_ast.specs.declared.query.Cte.{Cte}
use Rattle.sql_ast.specs.declared.query.SetTerm.{SetTerm}
use Rattle.sql_ast.specs.Depths.{deepest, if_there}

-- ---- parts of expressions

abbrev pub link_depth : {E : Type 0} → (E → ℕ) → Link E → ℕ
link_depth deep link = deep link.operand

abbrev pub part_depth : {E : Type 0} → (E → ℕ) → Part E → ℕ
part_depth deep (part.Field name) = 0
part_depth deep (part.Index form index place) = deep index

-- a lambda adds 6
abbrev pub argument_depth : {E : Type 0} → (E → ℕ) → Arg E → ℕ
argument_depth deep (arg.Expr e) = deep e
argument_depth deep (arg.Lambda variables body place) = 6 + deep body
argument_depth deep (arg.Interval amount part place) = deep amount

abbrev pub sort_depth : {E : Type 0} → (E → ℕ) → Sort E → ℕ
sort_depth deep sort = deep sort.expr

abbrev pub call_depth : {E : Type 0} → (E → ℕ) → Call E → ℕ
call_depth deep call = 1 + max (deepest (argument_depth deep) call.arguments) (deepest (sort_depth deep) call.order)

abbrev pub when_depth : {E : Type 0} → (E → ℕ) → When E → ℕ
when_depth deep when = max (deep when.test) (deep when.result)

abbrev pub aliased_depth : {E : Type 0} → (E → ℕ) → Aliased E → ℕ
aliased_depth deep aliased = deep aliased.expr

abbrev pub binding_depth : {E : Type 0} → (E → ℕ) → Binding E → ℕ
binding_depth deep binding = deep binding.expr

-- ---- the select list

abbrev pub replacement_depth : {E : Type 0} → (E → ℕ) → Replacement E → ℕ
replacement_depth deep replacement = deep replacement.expr

abbrev pub edit_depth : {E : Type 0} → (E → ℕ) → Edit E → ℕ
edit_depth deep edit = deepest (replacement_depth deep) edit.replace

abbrev pub item_depth : {E : Type 0} → (E → ℕ) → Item E → ℕ
item_depth deep (item.Star edit place) = edit_depth deep edit
item_depth deep (item.QualifiedStar e edit place) = max (deep e) (edit_depth deep edit)
item_depth deep (item.Expr e alias place) = deep e

-- ---- FROM

abbrev pub on_depth : {E : Type 0} → (E → ℕ) → On E → ℕ
on_depth deep (on.On condition place) = deep condition
on_depth deep (on.Using columns place) = 0

abbrev pub pivot_call_depth : {E : Type 0} → (E → ℕ) → PivotCall E → ℕ
pivot_call_depth deep aggregate = call_depth deep aggregate.call

-- PIVOT and UNPIVOT add 4; the name of PIVOT's input is a path
abbrev pub turn_depth : {E : Type 0} → (E → ℕ) → Turn E → ℕ
turn_depth deep (turn.Pivot aggregates input values place) =
    4 + max (deepest (pivot_call_depth deep) aggregates) (max (length input - 1) (deepest (aliased_depth deep) values))
turn_depth deep (turn.Unpivot include_nulls value label columns place) = 4

abbrev pub turned_depth : {E : Type 0} → (E → ℕ) → Turned E → ℕ
turned_depth deep turned = turn_depth deep turned.turn

-- ---- grouping

abbrev pub group_item_depth : {E : Type 0} → (E → ℕ) → GroupItem E → ℕ
group_item_depth deep (group_item.Expr e) = deep e
group_item_depth deep (group_item.List es place) = deepest deep es

abbrev pub cube_depth : {E : Type 0} → (E → ℕ) → Cube E → ℕ
cube_depth deep cube = deepest (group_item_depth deep) cube.items

abbrev pub set_depth : {E : Type 0} → (E → ℕ) → GroupSet E → ℕ
set_depth deep (group_set.Item item) = group_item_depth deep item
set_depth deep (group_set.Cube cube) = cube_depth deep cube

-- grouping sets add 4
abbrev pub groups_depth : {E : Type 0} → (E → ℕ) → Groups E → ℕ
groups_depth deep (groups.Keys keys place) = deepest deep keys
groups_depth deep (groups.Empty place) = 0
groups_depth deep (groups.Sets sets place) = 4 + deepest (set_depth deep) sets
groups_depth deep (groups.Cube cube place) = 4 + cube_depth deep cube

-- ---- clauses of queries

abbrev pub having_depth : {E : Type 0} → (E → ℕ) → FilterPart E → ℕ
having_depth deep having = deep having.test

abbrev pub limit_depth : {E : Type 0} → (E → ℕ) → LimitPart E → ℕ
limit_depth deep limit = max (deep limit.count) (if_there deep limit.offset)

abbrev pub cte_depth : {Q : Type 0} → (Q → ℕ) → Cte Q → ℕ
cte_depth deep cte = deep cte.query

abbrev pub set_term_depth : {T : Type 0} → (T → ℕ) → SetTerm T → ℕ
set_term_depth deep set = deep set.term
