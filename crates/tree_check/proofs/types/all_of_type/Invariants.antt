-- What the parts left say, all parts say.
use Rattle.std.proofs.Common.{◌≡◌, drop, map}
use Rattle.resolved_ast.specs.Flaws.{all_of_type}
use Rattle.tree_check.proofs.types.all_of_type.Given as goal

abbrev pub invariant-loop-part : goal.invariant-loop-part
invariant-loop-part g l = all_of_type l.ty (map g.P.Typed.type_of (drop l.part-index l.parts)) ≡ all_of_type l.ty (map g.P.Typed.type_of l.parts)
