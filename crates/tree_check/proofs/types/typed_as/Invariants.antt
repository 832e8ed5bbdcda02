-- What the parts left say, all parts say.
use Rattle.std.proofs.Common.{◌≡◌, drop, map}
use Rattle.resolved_ast.specs.Signatures.{typed_as}
use Rattle.tree_check.proofs.types.typed_as.Given as goal

abbrev pub invariant-loop-part : goal.invariant-loop-part
invariant-loop-part g l = typed_as (map g.T.Typed.type_of l.rest) (map g.P.Typed.type_of (drop l.part-index l.parts)) ≡ typed_as (map g.T.Typed.type_of l.targets) (map g.P.Typed.type_of l.parts)
