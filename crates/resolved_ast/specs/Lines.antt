-- The words of a tree's text, over parts of any sort.
use Rattle.std.specs.Prelude.{List, [], ◌∷◌, map, codes}
use Rattle.resolved_ast.specs.declared.rex.Compute.{Compute}
use Rattle.resolved_ast.specs.declared.scan.Cte.{Cte}
use Rattle.resolved_ast.specs.Numeral.{numeral}
use Rattle.resolved_ast.specs.TreeText.{Shown, in_turn, node, made_text, list_text, ref_text}

-- several parts, one after another
abbrev pub each_text : {A : Type 0} → (A → Shown) → List A → Shown
each_text text xs = in_turn (map text xs)

-- a Compute node and a Cte node
abbrev pub compute_of : {A : Type 0} → (A → Shown) → Compute A → Shown
compute_of text c = node (codes "Compute") (made_text c.column ∷ []) (text c.expr ∷ [])

abbrev pub cte_of : {A : Type 0} → (A → Shown) → Cte A → Shown
cte_of text c = node (codes "Cte") (numeral c.number ∷ list_text ref_text c.columns ∷ []) (text c.scan ∷ [])
