-- The numbers of the parts left are still to be written.
use Rattle.std.proofs.Common.{◌≡◌, ◌++◌, drop, map}
use Rattle.resolved_ast.specs.Parts.{together}
use Rattle.tree_check.proofs.gathering.gather_all.Given as goal

abbrev pub invariant-loop-part : goal.invariant-loop-part
invariant-loop-part g l = l.out.items ++ together (map (g.P.Gather.numbers l.what) (drop l.part-index l.parts)) ≡ l.initial.out.items ++ together (map (g.P.Gather.numbers l.what) l.parts)
