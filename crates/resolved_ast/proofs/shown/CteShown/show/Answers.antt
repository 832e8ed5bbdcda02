-- A Cte is its line and its scan.
use Rattle.std.proofs.Common.{rules, [], ◌∷◌, codes}
use Rattle.resolved_ast.specs.Numeral.{numeral}
use Rattle.resolved_ast.specs.TreeText.{list_text, ref_text}
use Rattle.resolved_ast.proofs.PageLaws.{wrote_node}
use Rattle.resolved_ast.proofs.shown.CteShown.show.Goals as goal

pub returns : goal.returns
returns g c = rw (wrote_node c.args.page.now (codes "Cte") (numeral c.args.self.now.number ∷ list_text ref_text c.args.self.now.columns ∷ []) (g.S.Shown.shown c.args.self.now.scan ∷ [])) (search rules)
