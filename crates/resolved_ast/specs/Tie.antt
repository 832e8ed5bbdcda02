-- A relation over trees, from its case for each node over what it says of the node's parts.
use Rattle.std.specs.Prelude.{ℕ, zero, suc}
use Rattle.resolved_ast.specs.declared.rex.Rex.{Rex, out-Rex, size-Rex}
use Rattle.resolved_ast.specs.declared.rex.Rex.TheOpen.{Rex-F, Scan-F}
use Rattle.resolved_ast.specs.declared.scan.Scan.{Scan, out-Scan, size-Scan}

-- what it says of expressions and of scans
pub record Relation (A B : Type 0) : Type 1 where
  pub rex : Rex → A → Type 0
  pub scan : Scan → B → Type 0

module _ (A B : Type 0) (R : Relation A B → Rex-F Rex Scan → A → Type 0) (S : Relation A B → Scan-F Rex Scan → B → Type 0) where
  -- of trees of at most so many levels
  unfoldable pub tied_at : ℕ → Relation A B
  tied_at zero = record { rex = λ _ _. ⊥; scan = λ _ _. ⊥ }
  tied_at (suc n) = record { rex = λ x. R (tied_at n) (out-Rex x); scan = λ x. S (tied_at n) (out-Scan x) }

  -- of all trees: by the size of each
  unfoldable pub tied : Relation A B
  tied = record { rex = λ x. (tied_at (size-Rex x)).rex x; scan = λ x. (tied_at (size-Scan x)).scan x }
