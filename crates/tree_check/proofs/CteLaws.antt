-- The queries of WITH lists in sight.
use Rattle.std.proofs.Common.{◌≡◌, ℕ, ◌+◌, ◌<◌, ◌==◌, true, false, if◌then◌else◌, List, [], ◌∷◌, ◌++◌, length, get_or, take, Option, None, Some, refl, ap, sym, ◌∙◌, append_assoc}
use Rattle.std.proofs.lemmas.List.{take_more}
use Rattle.sql_types.specs.declared.sql_type.SqlType.{SqlType}
use Rattle.resolved_ast.specs.declared.column.ColumnRef.{ColumnRef}
use Rattle.resolved_ast.specs.declared.column.MadeColumn.{MadeColumn}
use Rattle.resolved_ast.specs.declared.scan.Scan.{Scan}
use Rattle.resolved_ast.specs.Columns.{column_of, columns}
use Rattle.resolved_ast.specs.Flaws.{Walks, cte_seen, cte_types}
use Rattle.tree_check.specs.declared.asked.Asked.TheVariants as asked
use Rattle.tree_check.specs.declared.sight.CteInSight.{CteInSight}
use Rattle.tree_check.specs.Sights.{cte_of, ctes_of}
use Rattle.tree_check.specs.Named.{first_such}
use Rattle.tree_check.specs.Tests.{passes}
use Rattle.tree_check.specs.TypesNamed.{types_named, types_found}
use Rattle.tree_check.proofs.FindingLaws.{first_named}

found_same : (o : Option MadeColumn) (a b : List SqlType) → a ≡ b → ◌≡◌ {A = List SqlType} (elim o [ None ↦ a | Some c ↦ c.ty ∷ a ]) (elim o [ None ↦ b | Some c ↦ c.ty ∷ b ])
found_same None a b e = e
found_same (Some c) a b e = ap (λ ts. c.ty ∷ ts) e

-- the types of a query's columns
pub seen_types : (n : ℕ) (refs : List ColumnRef) (scan : Scan) (walk : Walks) → (cte_seen (record { number = n; columns = refs; scan = (scan, walk) })).types ≡ types_named refs (columns scan)
seen_types n [] scan walk = refl
seen_types n (r ∷ refs) scan walk = found_same (column_of r (columns scan)) (cte_seen (record { number = n; columns = refs; scan = (scan, walk) })).types (types_named refs (columns scan)) (seen_types n refs scan walk)

-- one query more
pub ctes_push : (cs : List CteInSight) (c : CteInSight) → ctes_of (cs ++ c ∷ []) ≡ cte_of c ∷ ctes_of cs
ctes_push [] c = refl
ctes_push (d ∷ cs) c = ap (λ ds. ds ++ cte_of d ∷ []) (ctes_push cs c)

-- the newest query of the first ones is the last of them
module _ (cs : List CteInSight) (k left : ℕ) (c : CteInSight) (n : ℕ) (within : k < length cs) (next : left ≡ k + 1) (is : c ≡ get_or cs k c) where
  last_cte : cte_types n (ctes_of (take left cs)) ≡ (if c.number == n then Some (cte_of c).types else cte_types n (ctes_of (take k cs)))
  last_cte =
      ap (λ m. cte_types n (ctes_of (take m cs))) next
      ∙ ap (λ xs. cte_types n (ctes_of xs)) (take_more cs k c within ∙ ap (λ (d : CteInSight). take k cs ++ d ∷ []) (sym is))
      ∙ ap (cte_types n) (ctes_push (take k cs) c)

  pub found_cte : (c.number == n) ≡ true → cte_types n (ctes_of (take left cs)) ≡ Some (cte_of c).types
  found_cte e = last_cte ∙ ap (λ b. if b then Some (cte_of c).types else cte_types n (ctes_of (take k cs))) e

  pub passed_cte : (c.number == n) ≡ false → cte_types n (ctes_of (take left cs)) ≡ cte_types n (ctes_of (take k cs))
  passed_cte e = last_cte ∙ ap (λ b. if b then Some (cte_of c).types else cte_types n (ctes_of (take k cs))) e

-- one column more
found_more : (o : Option MadeColumn) (ts : List SqlType) → types_found o ++ ts ≡ elim o [ None ↦ ts | Some c ↦ c.ty ∷ ts ]
found_more None ts = refl
found_more (Some c) ts = refl

pub named_more : (r : ColumnRef) (refs : List ColumnRef) (made : List MadeColumn) (before : List SqlType) →
    (before ++ types_found (first_such r (passes asked.Anything) made)) ++ types_named refs made ≡ before ++ types_named (r ∷ refs) made
named_more r refs made before =
    append_assoc before (types_found (first_such r (passes asked.Anything) made)) (types_named refs made)
    ∙ ap (λ o. before ++ (types_found o ++ types_named refs made)) (first_named r made)
    ∙ ap (λ ts. before ++ ts) (found_more (column_of r made) (types_named refs made))
