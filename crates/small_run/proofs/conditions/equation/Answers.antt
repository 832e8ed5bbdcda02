use Rattle.std.proofs.Common.{◌≡◌, false, refl, sym, ◌∙◌}
use Rattle.std.proofs.lemmas.Result.{err_from_is_err_and}
use Rattle.sql_ast.specs.declared.expr.Expr.{out-Expr}
use Rattle.sql_ast.specs.declared.expr.Comparison.TheVariants as comparison
use Rattle.sql_rules.specs.Typing.{is_literal, filter_layer, typed}
use Rattle.small_run.specs.Plans.{one}
use Rattle.small_run.specs.Parts.{Refused, IsLiteral, Tests, sight_of}
use Rattle.small_run.proofs.Exits.{handed_on}
use Rattle.small_run.proofs.Terms.{name_refused, left_unnamed, left_refused, right_no_literal, tests_column, types_differ}
use Rattle.small_run.proofs.conditions.equation.Goals as goal

pub returns-in_default : goal.returns-in_default
returns-in_default c = λ e operator_place place is. left_unnamed c.args.table.now e c.args.left.now c.args.right.now comparison.Equal operator_place place is c.in_default.ensures

pub returns-in_default-column_named : goal.returns-in_default-column_named
returns-in_default-column_named c = λ e operator_place place is.
    left_refused c.args.table.now e c.args.left.now c.args.right.now comparison.Equal operator_place place is
    (name_refused c.args.table.now c.args.left.now c.in-Some.name.now c.in-Some.ensures.0 c.in-Some.ensures.1 c.in_default-column_named.ensures)

pub returns-in_err-literal : goal.returns-in_err-literal
returns-in_err-literal c =
    let p = err_from_is_err_and c.from_residual.result c.from_residual.ensures.1 in
    rw (p.1, p.2) (λ e operator_place place is.
    handed_on (IsLiteral c.args.right.now) (is_literal (out-Expr c.args.right.now) ≡ false)
    (Tests c.args.table.now e) (Refused (filter_layer (one c.args.table.now) (typed (one c.args.table.now)) e (sight_of c.args.table.now)))
    _ c.in_err-literal.ensures (right_no_literal c.args.table.now e c.args.left.now c.args.right.now comparison.Equal operator_place place is))

pub returns-then-comparable : goal.returns-then-comparable
returns-then-comparable c = λ e operator_place place is.
    tests_column c.args.table.now c.args.left.now c.args.right.now c.in-Some.name.now c.in-Some.ensures.0 c.in-Some-column_named.place c.at.result.now c.in_ok-literal.literal
    c.in-Some.ensures.1 c.in-Some-column_named.ensures c.at.ensures c.in_ok-literal.ensures e operator_place place is _ (sym c.comparable.ensures ∙ c.if-comparable.true) refl

pub returns-else-comparable : goal.returns-else-comparable
returns-else-comparable c = λ e operator_place place is.
    types_differ c.args.table.now c.args.left.now c.args.right.now c.in-Some.name.now c.in-Some.ensures.0 c.in-Some-column_named.place c.at.result.now c.in_ok-literal.literal
    c.in-Some.ensures.1 c.in-Some-column_named.ensures c.at.ensures c.in_ok-literal.ensures e operator_place place is (sym c.comparable.ensures ∙ c.if-comparable.false)
