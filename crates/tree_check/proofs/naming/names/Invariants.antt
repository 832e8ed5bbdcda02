-- What the references left say, all say.
use Rattle.std.proofs.Common.{◌≡◌, drop}
use Rattle.tree_check.specs.Named.{names}
use Rattle.tree_check.proofs.naming.names.Given as goal

abbrev pub invariant-loop-other : goal.invariant-loop-other
invariant-loop-other l = names l.wanted (drop l.other-index l.list) ≡ names l.wanted l.list
