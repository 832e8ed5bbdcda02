-- The subquery has all columns outside.
use Rattle.std.proofs.Common.{[], List, ap, ◌∙◌, subst}
use Rattle.resolved_ast.specs.declared.column.MadeColumn.{MadeColumn}
use Rattle.resolved_ast.specs.Flaws.{Sight}
use Rattle.tree_check.specs.Sights.{columns_of, ctes_of}
use Rattle.tree_check.specs.Walked.{Walked}
use Rattle.tree_check.proofs.part.check_below.Goals as goal

pub returns : goal.returns
returns g c =
    subst (λ (s : Sight). Walked (g.P.Part.walk c.args.part.now s c.args.progress.now) c.check.new.progress c.check.result)
    (c.below-inside.ensures ∙ ap (λ (os : List MadeColumn). record { inner = []; outer = os; ctes = ctes_of c.args.sight.now.ctes.now }) (ap columns_of c.as_slice.ensures.value ∙ c.in_ok-outside.ensures)) c.check.ensures
