-- The walk over the parts left is the walk over all.
use Rattle.std.proofs.Common.{◌≡◌, drop, map}
use Rattle.resolved_ast.specs.Flaws.{walk_all}
use Rattle.tree_check.specs.Sights.{sight_of}
use Rattle.tree_check.proofs.part.check_all.Given as goal

abbrev pub invariant-loop-part : goal.invariant-loop-part
invariant-loop-part g l = walk_all (map (λ p. g.P.Part.walk p (sight_of l.sight)) l.parts) l.initial.progress ≡ walk_all (map (λ p. g.P.Part.walk p (sight_of l.sight)) (drop l.part-index l.parts)) l.progress
