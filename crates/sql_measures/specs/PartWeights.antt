-- What each part of a clause counts, given what the trees in it count.
use Rattle.std.specs.Prelude.{ℕ, ◌+◌, ◌-◌, ◌*◌, List, length, Option}
use Rattle.sql_ast.specs.declared.clauses.Aliased.{Aliased}
use Rattle.sql_ast.specs.declared.clauses.Arg.{Arg}
use Rattle.sql_ast.specs.declared.clauses.Arg.TheVariants as arg
use Rattle.sql_ast.specs.declared.clauses.Binding.{Binding}
use Rattle.sql_ast.specs.declared.clauses.Call.{Call}
use Rattle.sql_ast.specs.declared.clauses.Edit.{Edit}
use Rattle.sql_ast.specs.declared.clauses.FilterPart.{FilterPart}
use Rattle.sql_ast.specs.declared.clauses.Item.{Item}
use Rattle.sql_ast.specs.declared.clauses.Item.TheVariants as item
use Rattle.sql_ast.specs.declared.clauses.LimitPart.{LimitPart}
use Rattle.sql_ast.specs.declared.clauses.On.{On}
use Rattle.sql_ast.specs.declared.clauses.On.TheVariants as on
use Rattle.sql_ast.specs.declared.clauses.PivotCall.{PivotCall}
use Rattle.sql_ast.specs.declared.clauses.Replacement.{Replacement}
use Rattle.sql_ast.specs.declared.clauses.Sort.{Sort}
use Rattle.sql_ast.specs.declared.clauses.Turn.{Turn}
use Rattle.sql_ast.specs.declared.clauses.Turn.TheVariants as turn
use Rattle.sql_ast.specs.declared.clauses.Turned.{Turned}
use Rattle.sql_ast.specs.declared.clauses.When.{When}
use Rattle.sql_ast.specs.declared.expr.Link.{Link}
use Rattle.sql_ast.specs.declared.expr.Part.{Part}
use Rattle.sql_ast.specs.declared.expr.Part.TheVariants as part
use Rattle.sql_ast.specs.declared.grouping.Cube.{Cube}
use Rattle.sql_ast.specs.declared.grouping.GroupItem.{GroupItem}
use Rattle.sql_ast.specs.declared.grouping.GroupItem.TheVariants as group_item
use Rattle.sql_ast.specs.declared.grouping.GroupSet.{GroupSet}
use Rattle.sql_ast.specs.declared.grouping.GroupSet.TheVariants as group_set
use Rattle.sql_ast.specs.declared.grouping.Groups.{Groups}
use Rattle.sql_ast.specs.declared.grouping.Groups.TheVariants as groups
use Rattle.sql_ast.specs.declared.query.Cte.{Cte}
use Rattle.sql_ast.specs.declared.query.SetTerm.{SetTerm}
use Rattle.sql_ast.specs.declared.type_spelling.TypeField.{TypeField}
use Rattle.sql_ast.specs.Weights.{sum, if_there, clause, list_clause, name_weight, names_weight, alias_weight, function_weight, unpivot_column_weight, grouping_sets, times}

-- ---- parts of expressions

abbrev pub link_weight : {E : Type 0} → (E → ℕ) → Link E → ℕ
link_weight weighs link = weighs link.operand

abbrev pub part_weight : {E : Type 0} → (E → ℕ) → Part E → ℕ
part_weight weighs (part.Field name) = 1 + name_weight name
part_weight weighs (part.Index form index place) = 1 + weighs index

-- a lambda adds 8
abbrev pub argument_weight : {E : Type 0} → (E → ℕ) → Arg E → ℕ
argument_weight weighs (arg.Expr e) = weighs e
argument_weight weighs (arg.Lambda variables body place) = 8 + (names_weight variables + weighs body)
argument_weight weighs (arg.Interval amount part place) = weighs amount + name_weight part

-- every sort item counts 1
abbrev pub sort_weight : {E : Type 0} → (E → ℕ) → Sort E → ℕ
sort_weight weighs sort = 1 + weighs sort.expr

abbrev pub call_weight : {E : Type 0} → (E → ℕ) → Call E → ℕ
call_weight weighs call =
    1 + (function_weight call.function + (sum (argument_weight weighs) call.arguments + (list_clause (sort_weight weighs) call.order + clause (λ n. 0) call.limit)))

abbrev pub when_weight : {E : Type 0} → (E → ℕ) → When E → ℕ
when_weight weighs when = weighs when.test + weighs when.result

abbrev pub aliased_weight : {E : Type 0} → (E → ℕ) → Aliased E → ℕ
aliased_weight weighs aliased = weighs aliased.expr + alias_weight aliased.alias

abbrev pub binding_weight : {E : Type 0} → (E → ℕ) → Binding E → ℕ
binding_weight weighs binding = name_weight binding.name + weighs binding.expr

abbrev pub field_weight : {T : Type 0} → (T → ℕ) → TypeField T → ℕ
field_weight weighs field = alias_weight field.name + weighs field.ty

-- ---- the select list

abbrev pub replacement_weight : {E : Type 0} → (E → ℕ) → Replacement E → ℕ
replacement_weight weighs replacement = weighs replacement.expr + name_weight replacement.name

abbrev pub edit_weight : {E : Type 0} → (E → ℕ) → Edit E → ℕ
edit_weight weighs edit = names_weight edit.except + sum (replacement_weight weighs) edit.replace

-- every select item counts 1
abbrev pub item_weight : {E : Type 0} → (E → ℕ) → Item E → ℕ
item_weight weighs (item.Star edit place) = 1 + edit_weight weighs edit
item_weight weighs (item.QualifiedStar e edit place) = 1 + (weighs e + edit_weight weighs edit)
item_weight weighs (item.Expr e alias place) = 1 + (weighs e + alias_weight alias)

-- ---- FROM

abbrev pub on_weight : {E : Type 0} → (E → ℕ) → On E → ℕ
on_weight weighs (on.On condition place) = weighs condition
on_weight weighs (on.Using columns place) = names_weight columns

abbrev pub pivot_call_weight : {E : Type 0} → (E → ℕ) → PivotCall E → ℕ
pivot_call_weight weighs aggregate = call_weight weighs aggregate.call + alias_weight aggregate.alias

-- PIVOT counts its aggregates once per value; the name of its input is a path
abbrev pub turn_weight : {E : Type 0} → (E → ℕ) → Turn E → ℕ
turn_weight weighs (turn.Pivot aggregates input values place) =
    length values * sum (pivot_call_weight weighs) aggregates + ((length input - 1) + (names_weight input + sum (aliased_weight weighs) values))
turn_weight weighs (turn.Unpivot include_nulls value label columns place) = name_weight value + (name_weight label + sum unpivot_column_weight columns)

abbrev pub turned_weight : {E : Type 0} → (E → ℕ) → Turned E → ℕ
turned_weight weighs turned = turn_weight weighs turned.turn + alias_weight turned.alias

-- ---- grouping

abbrev pub group_item_weight : {E : Type 0} → (E → ℕ) → GroupItem E → ℕ
group_item_weight weighs (group_item.Expr e) = weighs e
group_item_weight weighs (group_item.List es place) = sum weighs es

abbrev pub cube_weight : {E : Type 0} → (E → ℕ) → Cube E → ℕ
cube_weight weighs cube = sum (group_item_weight weighs) cube.items

abbrev pub set_weight : {E : Type 0} → (E → ℕ) → GroupSet E → ℕ
set_weight weighs (group_set.Item item) = group_item_weight weighs item
set_weight weighs (group_set.Cube cube) = cube_weight weighs cube

abbrev pub groups_weight : {E : Type 0} → (E → ℕ) → Groups E → ℕ
groups_weight weighs (groups.Keys keys place) = sum weighs keys
groups_weight weighs (groups.Empty place) = 0
groups_weight weighs (groups.Sets sets place) = sum (set_weight weighs) sets
groups_weight weighs (groups.Cube cube place) = cube_weight weighs cube

-- ---- clauses of queries

abbrev pub having_weight : {E : Type 0} → (E → ℕ) → FilterPart E → ℕ
having_weight weighs having = 1 + weighs having.test

abbrev pub limit_weight : {E : Type 0} → (E → ℕ) → LimitPart E → ℕ
limit_weight weighs limit = weighs limit.count + if_there weighs limit.offset

abbrev pub cte_weight : {Q : Type 0} → (Q → ℕ) → Cte Q → ℕ
cte_weight weighs cte = name_weight cte.name + weighs cte.query

-- each set operator is a clause
abbrev pub set_term_weight : {T : Type 0} → (T → ℕ) → SetTerm T → ℕ
set_term_weight weighs set = 1 + weighs set.term

-- The keys of GROUP BY, HAVING and the select list count once per grouping set.
abbrev pub keys_weight : {E : Type 0} → (E → ℕ) → Option (Groups E) → ℕ
keys_weight weighs grouping = clause (λ g. grouping_sets g * groups_weight weighs g) grouping

abbrev pub kept_weight : {E : Type 0} → (E → ℕ) → Option (Groups E) → Option (FilterPart E) → ℕ
kept_weight weighs grouping having = if_there (λ h. times grouping * having_weight weighs h) having
