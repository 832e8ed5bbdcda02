use Rattle.std.proofs.Common.{List, ℕ, ap, ◌∙◌}
use Rattle.sql_types.specs.declared.sql_type.SqlType.TheVariants as ty
use Rattle.sql_types.specs.declared.value.Value.TheVariants as value
use Rattle.sql_ast.specs.declared.expr.Expr.{out-Expr}
use Rattle.sql_ast.specs.declared.expr.Expr.TheViews.{outs-Integer, outs-Text}
use Rattle.small_run.specs.declared.parts.Literal.{Literal}
use Rattle.small_run.proofs.Terms.{integer_literal, text_literal}
use Rattle.small_run.proofs.literals.literal_of.Goals as goal

pub returns-in-Integer : goal.returns-in-Integer
returns-in-Integer c = integer_literal c.args.expr.now c.in-Integer.value c.in-Integer.place c.integer.result (ap out-Expr c.in-Integer.is ∙ outs-Integer _ _) c.integer.ensures

pub returns-in_ok-copy-in-Text : goal.returns-in_ok-copy-in-Text
returns-in_ok-copy-in-Text c =
    text_literal c.args.expr.now c.in-Text.value c.in-Text.place _ (ap out-Expr c.in-Text.is ∙ outs-Text _ _)
    (ap (λ (text : List ℕ). let l : Literal = record { ty = ty.Text; value = value.Text text } in l) c.in_ok-copy-in-Text.ensures)
