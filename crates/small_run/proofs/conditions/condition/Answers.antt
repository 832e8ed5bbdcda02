use Rattle.std.proofs.Common.{◌≡◌, false, rules}
use Rattle.sql_ast.specs.declared.expr.Expr.{out-Expr}
use Rattle.sql_rules.specs.Typing.{compares_name}
use Rattle.small_run.proofs.Terms.{condition_unbuilt}
use Rattle.small_run.proofs.conditions.condition.Goals as goal

pub returns-in_default : goal.returns-in_default
returns-in_default c =
    let other : compares_name (out-Expr c.args.expr.now) ≡ false = search rules in
    condition_unbuilt c.args.table.now c.args.expr.now other
