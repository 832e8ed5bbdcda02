use Rattle.eval_rows.proofs.CutLaws.{all_moved}
use Rattle.eval_rows.proofs.list_parts.move_to_front.Goals as goal

pub returns : goal.returns
returns c = all_moved c.args.list.now c.loop-waiting.list c.args.left_out c.args.kept c.loop-waiting.waiting c.requires.fewer c.requires.all c.loop-waiting-test.false c.loop-waiting.invariant
