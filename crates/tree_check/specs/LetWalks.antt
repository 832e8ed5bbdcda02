-- The parts of a Let, given by the types and the walks of expressions.
use Rattle.std.specs.Prelude.{List, [], ◌∷◌}
use Rattle.sql_types.specs.declared.sql_type.SqlType.{SqlType}
use Rattle.sql_types.specs.SameType.{same_type}
use Rattle.resolved_ast.specs.declared.rex.Compute.{Compute}
use Rattle.resolved_ast.specs.Flaws.{Sight, Walk, at_node, in_order, with_column}

abbrev pub compute_of : {R : Type 0} → (R → SqlType) → (R → Sight → Walk) → Compute R → Sight → Walk
compute_of type_of walk c sight = at_node (record in_order { typed = same_type c.column.ty (type_of c.expr) }) (c.column ∷ []) (walk c.expr sight ∷ [])

-- each column sees those before it, and the expression sees them all
abbrev pub let_of : {R P : Type 0} → (R → SqlType) → (R → Sight → Walk) → (P → Sight → Walk) → List (Compute R) → P → Sight → List Walk
let_of type_of walk walk_last [] x sight = walk_last x sight ∷ []
let_of type_of walk walk_last (c ∷ cs) x sight = compute_of type_of walk c sight ∷ let_of type_of walk walk_last cs x (with_column sight c.column)
