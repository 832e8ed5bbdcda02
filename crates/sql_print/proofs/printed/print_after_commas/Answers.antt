-- A comma and one part more are written.
use Rattle.std.proofs.Common.{◌∷◌, map, refl, ap, ◌∙◌, arith}
use Rattle.sql_ast.specs.declared.words.Sign.TheVariants as s
use Rattle.sql_ast.specs.Pieces.{after_commas, sign}
use Rattle.sql_print.specs.Pages.{written}
use Rattle.sql_print.proofs.PageLaws.{wrote_one}
use Rattle.sql_print.proofs.printed.print_after_commas.Goals as goal

pub loop-part-preserved : goal.loop-part-preserved
loop-part-preserved g c =
    wrote_one (λ l. after_commas (map g.P.Printed.pieces l)) (λ x. sign s.Comma ∷ g.P.Printed.pieces x) (λ y ys. refl) c.args.parts.now c.loop-part.part-index c.part-item.result (omega arith) c.part-item.is c.loop-part.writer c.print.new.writer _
    (c.in_ok-print.ensures ∙ ap (λ p. written p (g.P.Printed.pieces c.part-item.result)) c.in_ok-sign.ensures) c.loop-part.invariant
