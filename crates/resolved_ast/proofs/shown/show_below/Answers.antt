-- The part is written two spaces further in.
use Rattle.resolved_ast.proofs.PageLaws.{showed_below}
use Rattle.resolved_ast.proofs.shown.show_below.Goals as goal

pub returns : goal.returns
returns g c =
    showed_below (g.P.Shown.shown c.args.part.now) c.args.page.now c.deepen.new.self c.show.new.page c.narrow.new.self c.depth-depth.result c.depth-depth.ensures c.in_ok-deepen.ensures c.in_ok-show.ensures c.narrow.ensures
