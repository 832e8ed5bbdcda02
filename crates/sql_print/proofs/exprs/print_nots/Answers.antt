-- One NOT more is written.
use Rattle.std.proofs.Common.{◌+◌, drop, sym, ap, ◌∙◌, arith}
use Rattle.std.proofs.lemmas.List.{drop_more}
use Rattle.sql_print.specs.ExprPieces.{nots}
use Rattle.sql_print.specs.Pages.{written}
use Rattle.sql_print.proofs.exprs.print_nots.Goals as goal

pub loop-place-preserved : goal.loop-place-preserved
loop-place-preserved c =
    ap (λ p. written p (nots (drop (c.loop-place._place-index + 1) c.args.operators.now))) c.in_ok-word.ensures
    ∙ sym (ap (λ l. written c.loop-place.writer (nots l)) (drop_more c.args.operators.now c.loop-place._place-index 0 (omega arith)))
    ∙ c.loop-place.invariant
