-- The columns in sight.
use Rattle.std.proofs.Common.{◌≡◌, List, [], ◌∷◌, ◌++◌, refl, ap, sym, ◌∙◌, append_assoc}
use Rattle.resolved_ast.specs.declared.column.MadeColumn.{MadeColumn}
use Rattle.tree_check.specs.declared.sight.Source.{Source}
use Rattle.tree_check.specs.Sights.{source_columns, columns_of}

pub columns_append : (xs ys : List Source) → columns_of (xs ++ ys) ≡ columns_of xs ++ columns_of ys
columns_append [] ys = refl
columns_append (x ∷ xs) ys = ap (λ (cs : List MadeColumn). source_columns x ++ cs) (columns_append xs ys) ∙ sym (append_assoc (source_columns x) (columns_of xs) (columns_of ys))
