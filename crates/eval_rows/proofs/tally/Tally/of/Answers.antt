use Rattle.std.proofs.Common.{◌+◌, ◌∙◌, ap, arith}
use Rattle.key_classes.specs.Classes.{key_of}
use Rattle.eval_rows.specs.Counts.{is_whole}
use Rattle.key_classes.specs.KeyLaws.{told}
use Rattle.eval_rows.proofs.ByClassLaws.{one_more, kept_there}
use Rattle.eval_rows.proofs.CountLaws.{count_below, whole_at}
use Rattle.eval_rows.proofs.PartnerLaws.{tally_more}
use Rattle.eval_rows.proofs.tally.Tally.of.Goals as goal

pub count_one-requires : goal.count_one-requires
count_one-requires c =
    let columns = c.args.columns.now in
    let key = key_of columns c.as_slice.result.now in
    let there = kept_there 0 c.loop-row.rows c.add.new.self c.loop-row.left.items key c.in_ok-class.class c.loop-row.invariant.as_many c.in_ok-class.ensures.added c.in_ok-class.ensures.number in
    let so_far = count_below key c.args.list.now c.loop-row.row-index c.loop-row-test.true in
    record { room = omega (arith, there, so_far, c.loop-row.invariant.counts key) }

pub loop-row-preserved : goal.loop-row-preserved
loop-row-preserved c =
    let list = c.args.list.now in
    let i = c.loop-row.row-index in
    let key = key_of c.args.columns.now c.as_slice.result.now in
    let whole = ap (key_of c.args.columns.now) c.as_slice.ensures ∙ told _ _ (whole_at (is_whole c.args.columns.now) list i c.row-item.result c.requires c.loop-row-test.true c.row-item.is) in
    let step = one_more 0 (λ n. n + 1) c.loop-row.rows c.add.new.self c.loop-row.left.items c.count_one.new.left.items key c.in_ok-class.class c.loop-row.invariant.as_many c.in_ok-class.ensures.added c.in_ok-class.ensures.number
    c.in_ok-count_one.ensures.again c.in_ok-count_one.ensures.first in
    record {
      as_many = step.as_many;
      counts = tally_more c.loop-row.rows c.add.new.self c.loop-row.left.items c.count_one.new.left.items key list i c.row-item.result c.loop-row-test.true c.row-item.is whole step c.loop-row.invariant.counts;
    }
