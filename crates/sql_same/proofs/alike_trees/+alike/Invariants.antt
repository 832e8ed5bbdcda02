-- Items of FROM are compared by the deeper of the two.
use Rattle.std.proofs.Common.{max}
use Rattle.sql_ast.specs.declared.query.Primary.{size-Primary}
use Rattle.sql_same.proofs.alike_trees.+alike.Given as goal

abbrev pub decreases-PrimaryAlike::alike : goal.decreases-PrimaryAlike::alike
decreases-PrimaryAlike::alike l = max (size-Primary l.self.now) (size-Primary l.other.now)
