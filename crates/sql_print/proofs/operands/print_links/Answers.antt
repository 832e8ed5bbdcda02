-- One operator and its operand more are written.
use Rattle.std.proofs.Common.{refl, ap, sym, ◌∙◌, arith}
use Rattle.sql_ast.specs.Canon.{operator_pieces}
use Rattle.sql_print.specs.Pages.{written}
use Rattle.sql_print.specs.PartPieces.{run, link_pieces, operand}
use Rattle.sql_print.proofs.PageLaws.{wrote_one, written_append}
use Rattle.sql_print.proofs.operands.print_links.Goals as goal

pub loop-link-preserved : goal.loop-link-preserved
loop-link-preserved g c =
    let link = c.link-item.result in
    wrote_one (run (link_pieces g.E.Leveled.level g.E.Printed.pieces c.args.needed)) (link_pieces g.E.Leveled.level g.E.Printed.pieces c.args.needed) (λ y ys. refl) c.args.links.now c.loop-link.link-index link (omega arith) c.link-item.is c.loop-link.writer c.print_operand.new.writer _
    (c.in_ok-print_operand.ensures ∙ ap (λ p. written p (operand g.E.Leveled.level g.E.Printed.pieces c.args.needed link.operand)) c.in_ok-print_operator.ensures
    ∙ sym (written_append c.loop-link.writer (operator_pieces link.operator) (operand g.E.Leveled.level g.E.Printed.pieces c.args.needed link.operand))) c.loop-link.invariant
