-- The deepest so far and the deepest of what is left are the deepest of all.
use Rattle.std.proofs.Common.{◌≡◌, min, max, drop}
use Rattle.sql_ast.specs.Depths.{deepest}
use Rattle.sql_measures.proofs.deep.ItemsDeep.depth.Given as goal

abbrev pub invariant-loop-part : goal.invariant-loop-part
invariant-loop-part g l = max l.deepest (min (deepest g.P.Deep.deep (drop l.part-index l.self)) 18446744073709551615) ≡ min (deepest g.P.Deep.deep l.self) 18446744073709551615
