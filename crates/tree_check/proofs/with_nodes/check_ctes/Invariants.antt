-- The walk over the queries left is the walk over all.
use Rattle.std.proofs.Common.{◌≡◌, [], drop, map}
use Rattle.resolved_ast.specs.Flaws.{walk_all, with_walks}
use Rattle.tree_check.specs.WithWalks.{cte_part}
use Rattle.tree_check.specs.Sights.{ctes_of, sight_of}
use Rattle.tree_check.proofs.with_nodes.check_ctes.Given as goal

abbrev pub invariant-loop-cte : goal.invariant-loop-cte
invariant-loop-cte g l =
    walk_all (with_walks [] (map (cte_part g.S.Rows.scan_of g.S.Part.walk) l.ctes) (g.P.Rows.scan_of l.scan, g.P.Part.walk l.scan) (sight_of l.sight)) l.initial.progress
    ≡ walk_all (with_walks l.earlier (map (cte_part g.S.Rows.scan_of g.S.Part.walk) (drop l.cte-index l.ctes)) (g.P.Rows.scan_of l.scan, g.P.Part.walk l.scan) (record (sight_of l.sight) { ctes = ctes_of l.seen.items })) l.progress
