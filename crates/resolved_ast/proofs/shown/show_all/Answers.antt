-- One part more is written.
use Rattle.std.proofs.Common.{arith}
use Rattle.resolved_ast.specs.Lines.{each_text}
use Rattle.resolved_ast.specs.Pages.{written}
use Rattle.resolved_ast.proofs.PageLaws.{showed_one, showed_all, next_fits}
use Rattle.resolved_ast.proofs.shown.show_all.Goals as goal

pub loop-part-preserved : goal.loop-part-preserved
loop-part-preserved g c =
    showed_one g.P.Shown.shown g.P.Shown.fit c.args.page.now.margin (written c.args.page.now (each_text g.P.Shown.shown c.args.parts.now c.args.page.now.margin)) c.loop-part.page c.show.new.page c.args.parts.now
    c.loop-part.part-index c.part-item.result (omega arith) c.part-item.is c.in_ok-show.ensures c.loop-part.invariant

pub show-requires : goal.show-requires
show-requires g c = next_fits g.P.Shown.fit c.args.parts.now c.loop-part.part-index c.part-item.result (omega arith) c.part-item.is c.loop-part.invariant.fits

pub returns : goal.returns
returns g c =
    showed_all g.P.Shown.shown g.P.Shown.fit c.args.page.now.margin (written c.args.page.now (each_text g.P.Shown.shown c.args.parts.now c.args.page.now.margin)) c.loop-part.page c.args.parts.now
    c.loop-part.part-index (omega arith) c.loop-part.invariant
