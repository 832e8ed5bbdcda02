-- A Compute is its line and its expression.
use Rattle.std.proofs.Common.{rules, [], ◌∷◌, codes}
use Rattle.resolved_ast.specs.TreeText.{made_text}
use Rattle.resolved_ast.proofs.PageLaws.{wrote_node}
use Rattle.resolved_ast.proofs.shown.ComputeShown.show.Goals as goal

pub returns : goal.returns
returns g c = rw (wrote_node c.args.page.now (codes "Compute") (made_text c.args.self.now.column ∷ []) (g.R.Shown.shown c.args.self.now.expr ∷ [])) (search rules)
