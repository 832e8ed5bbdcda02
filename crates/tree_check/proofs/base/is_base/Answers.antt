-- Each tree is one.
use Rattle.std.proofs.Common.{sym}
use Rattle.tree_check.proofs.BaseLaws.{each_is_base}
use Rattle.tree_check.proofs.base.is_base.Goals as goal

pub returns : goal.returns
returns c = sym (each_is_base c.args.checked.now.scan)
