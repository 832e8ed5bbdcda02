-- The first part is written, and the others behind commas.
use Rattle.std.proofs.Common.{sym}
use Rattle.sql_print.proofs.PageLaws.{commas_first}
use Rattle.sql_print.proofs.printed.ItemsPrinted.print.Goals as goal

pub returns-in_ok-print-in-len1-up : goal.returns-in_ok-print-in-len1-up
returns-in_ok-print-in-len1-up g c =
    rw (sym c.as_slice.ensures) (rw (commas_first g.P.Printed.pieces c.as_slice.result.now c.first-item.result c.in-len1-up.len_at_least c.first-item.is c.args.writer.now) (rw (sym c.in_ok-print-in-len1-up.ensures) c.print_after_commas.ensures))
