-- The page with the parts that are left is the page with all parts, and each of these can be written.
use Rattle.std.proofs.Common.{drop}
use Rattle.resolved_ast.specs.Lines.{each_text}
use Rattle.resolved_ast.specs.Pages.{written}
use Rattle.resolved_ast.proofs.PageLaws.{Left}
use Rattle.resolved_ast.proofs.shown.show_all.Given as goal

abbrev pub invariant-loop-part : goal.invariant-loop-part
invariant-loop-part g l =
    Left g.P.Shown.shown g.P.Shown.fit l.initial.page.margin (written l.initial.page (each_text g.P.Shown.shown l.parts l.initial.page.margin)) l.page (drop l.part-index l.parts)
