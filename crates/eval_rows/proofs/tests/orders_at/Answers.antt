use Rattle.std.proofs.Common.{◌∙◌, sym, arith}
use Rattle.eval_rows.proofs.TestLaws.{orders_past, orders_read}
use Rattle.eval_rows.proofs.tests.orders_at.Goals as goal

pub returns-then-place-columns : goal.returns-then-place-columns
returns-then-place-columns c = sym (orders_past c.args.columns.now c.args.place (omega (arith, c.if-place-columns.true)))

pub returns : goal.returns
returns c = c.orderable.ensures ∙ orders_read c.args.columns.now c.args.place c.index-columns-place.result (omega (arith, c.if-place-columns.false))
