-- One part more is written.
use Rattle.std.proofs.Common.{refl, arith}
use Rattle.sql_print.specs.PartPieces.{run}
use Rattle.sql_print.proofs.PageLaws.{wrote_one}
use Rattle.sql_print.proofs.printed.print_run.Goals as goal

pub loop-part-preserved : goal.loop-part-preserved
loop-part-preserved g c =
    wrote_one (run g.P.Printed.pieces) g.P.Printed.pieces (λ y ys. refl) c.args.list.now c.loop-part.part-index c.part-item.result (omega arith) c.part-item.is c.loop-part.writer c.print.new.writer _ c.in_ok-print.ensures c.loop-part.invariant
