-- To refine a tree goes on from one tree to the next, and from the scan of a tree to the whole.
use Rattle.std.proofs.Common.{◌≡◌, List, [], map, refl, ◌∙◌, subst}
use Rattle.sql_types.specs.declared.rows.Param.{Param}
use Rattle.sql_types.specs.Outcome.{Below, gives}
use Rattle.sql_types.proofs.OutcomeLaws.{then_below}
use Rattle.resolved_ast.specs.declared.scan.Output.{Output}
use Rattle.resolved_ast.specs.declared.scan.Tree.{Tree}
use Rattle.resolved_ast.specs.Fitting.{Fitting}
use Rattle.resolved_ast.specs.Meanings.{TableRows, ScanMeans}
use Rattle.resolved_ast.specs.Slots.{Slots, bound, picked}
use Rattle.tree_refines.specs.Refines.{TreeRefines}

pub refines_self : (tree : Tree) → TreeRefines tree tree
refines_self tree = record { outputs = refl; fitting = λ tables params fits. fits; outcomes = λ tables params fits slots o m. m }

pub refines_then : (new middle old : Tree) → TreeRefines new middle → TreeRefines middle old → TreeRefines new old
refines_then new middle old x y = record {
  outputs = x.outputs ∙ y.outputs;
  fitting = λ tables params fits. x.fitting tables params (y.fitting tables params fits);
  outcomes = λ tables params fits slots o m. y.outcomes tables params fits slots o (x.outcomes tables params (y.fitting tables params fits) slots o m);
}

-- A new scan that means no more than the old one, under the same outputs. How a scan means no more where its parts mean no more
-- is told by `scan_congruent` and `rex_congruent` of the resolved tree.
pub refines_by_scan : (new old : Tree) → new.outputs ≡ old.outputs
    → ((tables : TableRows) (params : List Param) → Fitting old tables params → Fitting new tables params)
    → ((tables : TableRows) (params : List Param) → Fitting old tables params → (slots : Slots) → Below (ScanMeans tables params new.scan slots) (ScanMeans tables params old.scan slots))
    → TreeRefines new old
refines_by_scan new old same fitting le = record {
  outputs = same;
  fitting = fitting;
  outcomes = λ tables params fits slots. then_below (le tables params fits slots)
      (λ t o m. subst (λ (outputs : List Output). gives (map (λ row. picked (map (λ (o : Output). o.column.id.0) outputs) (bound t.ids row [])) t.rows) o) same m);
}
