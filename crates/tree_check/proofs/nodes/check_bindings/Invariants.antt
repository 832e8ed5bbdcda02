-- The walk over the bindings left is the walk over all.
use Rattle.std.proofs.Common.{◌≡◌, drop}
use Rattle.resolved_ast.specs.Flaws.{walk_all, over}
use Rattle.tree_check.specs.LetWalks.{let_of}
use Rattle.tree_check.specs.Sights.{columns_of, sight_of}
use Rattle.tree_check.proofs.nodes.check_bindings.Given as goal

abbrev pub invariant-loop-binding : goal.invariant-loop-binding
invariant-loop-binding g l =
    walk_all (let_of g.R.Typed.type_of g.R.Part.walk g.P.Part.walk l.bindings l.expr (sight_of l.sight)) l.initial.progress
    ≡ walk_all (let_of g.R.Typed.type_of g.R.Part.walk g.P.Part.walk (drop l.binding-index l.bindings) l.expr (over (sight_of l.sight) (columns_of l.columns.items))) l.progress
