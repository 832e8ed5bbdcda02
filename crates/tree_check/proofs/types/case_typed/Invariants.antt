-- What the operands left say, all operands say.
use Rattle.std.proofs.Common.{◌≡◌, length, map}
use Rattle.resolved_ast.specs.Flaws.{case_typed}
use Rattle.tree_check.proofs.types.case_typed.Given as goal

abbrev pub invariant-loop-rest : goal.invariant-loop-rest
invariant-loop-rest g l = case_typed l.ty (map g.P.Typed.type_of l.rest) ≡ case_typed l.ty (map g.P.Typed.type_of l.operands)

abbrev pub decreases-loop-rest : goal.decreases-loop-rest
decreases-loop-rest g l = length l.rest
