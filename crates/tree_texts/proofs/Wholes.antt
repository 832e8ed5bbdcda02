-- Each part is what its kind, its fields and the parts below it make, where it is right: its value fits its type, its signature is
-- the one that its name and its first argument tell, and its table has the number of its name.
use Rattle.std.proofs.Common.{◌≡◌, ℕ, true, List, [], ◌∷◌, ◌++◌, map, None, Some, refl, ap, sym, ◌∙◌}
use Rattle.std.specs.List.{list_all}
use Rattle.sql_types.specs.declared.kinds.JoinKind.{JoinKind}
use Rattle.sql_types.specs.declared.kinds.JoinKind.TheVariants as join
use Rattle.sql_types.specs.Fits.{fits}
use Rattle.sql_names.specs.Spelling.{is_inner}
use Rattle.sql_ast.specs.declared.expr.IndexForm.{IndexForm}
use Rattle.sql_ast.specs.declared.expr.IndexForm.TheVariants as form
use Rattle.resolved_ast.specs.declared.rex.Compute.{Compute}
use Rattle.resolved_ast.specs.declared.rex.Rex.{Rex, out-Rex, roll-Rex, roll-out-Rex}
use Rattle.resolved_ast.specs.declared.rex.Rex.TheOpen.{Rex-F, Scan-F}
use Rattle.resolved_ast.specs.declared.rex.Rex.TheOpen as t
use Rattle.resolved_ast.specs.declared.scan.Cte.{Cte}
use Rattle.resolved_ast.specs.declared.scan.Scan.{Scan, out-Scan, roll-Scan, roll-out-Scan}
use Rattle.resolved_ast.specs.declared.scan.UnnestKind.{UnnestKind}
use Rattle.resolved_ast.specs.declared.scan.UnnestKind.TheVariants as unnest
use Rattle.resolved_ast.specs.Columns.{rex_type}
use Rattle.resolved_ast.specs.SignatureNames.{signature_name}
use Rattle.resolved_ast.specs.TreeText.{join_text, unnest_text, form_text}
use Rattle.tree_texts.proofs.Fields.{Fine, sort}
use Rattle.tree_texts.proofs.Joins.{Each}
use Rattle.tree_texts.proofs.NodeWords.{sorts_of}
use Rattle.tree_texts.proofs.Rebuilt.{form_of, join_of, unnest_of, rexes, scans, computes, ctes, first_rex, first_scan, rebuilt}
use Rattle.tree_texts.proofs.Shapes.{Part, of_rex, of_scan, of_compute, of_cte, of_tree, rex_kind, rex_fields, rex_below, scan_kind, scan_fields, scan_below, kind, fields, below}
use Rattle.tree_texts.proofs.SignatureTexts.{signature_told, signature_run}

-- ---- words

form_told : (x : IndexForm) → form_of (form_text x) ≡ x
form_told form.Offset = refl
form_told _ = refl

join_told : (x : JoinKind) → join_of (join_text x) ≡ x
join_told join.Cross = refl
join_told _ = refl

unnest_told : (x : UnnestKind) → unnest_of (unnest_text x) ≡ x
unnest_told unnest.Inner = refl
unnest_told _ = refl

form_run : (x : IndexForm) → list_all is_inner (form_text x) ≡ true
form_run form.Offset = refl
form_run _ = refl

join_run : (x : JoinKind) → list_all is_inner (join_text x) ≡ true
join_run join.Cross = refl
join_run _ = refl

unnest_run : (x : UnnestKind) → list_all is_inner (unnest_text x) ≡ true
unnest_run unnest.Inner = refl
unnest_run _ = refl

-- ---- lists of parts

all_rexes : (xs : List Rex) → rexes (map of_rex xs) ≡ xs
all_rexes [] = refl
all_rexes (x ∷ xs) = ap (λ l. x ∷ l) (all_rexes xs)

all_computes : (cs : List (Compute Rex)) → computes (map of_compute cs) ≡ cs
all_computes [] = refl
all_computes (c ∷ cs) = ap (λ l. c ∷ l) (all_computes cs)

computes_first : (cs : List (Compute Rex)) (x : Rex) → computes (map of_compute cs ++ of_rex x ∷ []) ≡ cs
computes_first [] x = refl
computes_first (c ∷ cs) x = ap (λ l. c ∷ l) (computes_first cs x)

rex_last : (cs : List (Compute Rex)) (x : Rex) → rexes (map of_compute cs ++ of_rex x ∷ []) ≡ x ∷ []
rex_last [] x = refl
rex_last (c ∷ cs) x = rex_last cs x

ctes_first : (cs : List (Cte Scan)) (x : Scan) → ctes (map of_cte cs ++ of_scan x ∷ []) ≡ cs
ctes_first [] x = refl
ctes_first (c ∷ cs) x = ap (λ l. c ∷ l) (ctes_first cs x)

scan_last : (cs : List (Cte Scan)) (x : Scan) → scans (map of_cte cs ++ of_scan x ∷ []) ≡ x ∷ []
scan_last [] x = refl
scan_last (c ∷ cs) x = scan_last cs x

-- ---- what is right

abbrev pub right_rex : Rex-F Rex Scan → Type 0
right_rex (t.Literal value ty) = fits ty value ≡ true
right_rex (t.Call signature ty xs) = signature_told (signature_name signature) (map rex_type xs) ≡ signature
right_rex (t.SafeCall signature ty xs) = signature_told (signature_name signature) (map rex_type xs) ≡ signature
right_rex _ = Unit {0}

module _ (numbers : List ℕ → ℕ) where
  abbrev pub right_scan : Scan-F Rex Scan → Type 0
  right_scan (t.Table name number columns) = number ≡ numbers name
  right_scan t.Single = Unit {0}
  right_scan _ = Unit {0}

  abbrev pub Right : Part → Type 0
  Right (of_rex x) = right_rex (out-Rex x)
  Right (of_scan x) = right_scan (out-Scan x)
  Right (of_compute c) = Unit {0}
  Right (of_cte c) = Unit {0}
  Right (of_tree tree) = Unit {0}

  whole_rex : (z : Rex-F Rex Scan) → right_rex z → rebuilt numbers (rex_kind z) (rex_fields z) (rex_below z) ≡ of_rex (roll-Rex z)
  whole_rex (t.Literal value ty) right = refl
  whole_rex (t.Parameter name ty) right = refl
  whole_rex (t.Column column ty) right = refl
  whole_rex (t.Outer column ty) right = refl
  whole_rex (t.Call signature ty arguments) right = let all = all_rexes arguments in let told = ap (λ l. signature_told (signature_name signature) (map rex_type l)) all ∙ right in λ i. of_rex (roll-Rex (t.Call (told i) ty (all i)))
  whole_rex (t.SafeCall signature ty arguments) right = let all = all_rexes arguments in let told = ap (λ l. signature_told (signature_name signature) (map rex_type l)) all ∙ right in λ i. of_rex (roll-Rex (t.SafeCall (told i) ty (all i)))
  whole_rex (t.Cast ty expr) right = refl
  whole_rex (t.SafeCast ty expr) right = refl
  whole_rex (t.If ty operands) right = λ i. of_rex (roll-Rex (t.If ty (all_rexes operands i)))
  whole_rex (t.Case ty operands) right = λ i. of_rex (roll-Rex (t.Case ty (all_rexes operands i)))
  whole_rex (t.Coalesce ty operands) right = λ i. of_rex (roll-Rex (t.Coalesce ty (all_rexes operands i)))
  whole_rex (t.And ty operands) right = λ i. of_rex (roll-Rex (t.And ty (all_rexes operands i)))
  whole_rex (t.Or ty operands) right = λ i. of_rex (roll-Rex (t.Or ty (all_rexes operands i)))
  whole_rex (t.IfError ty operands) right = λ i. of_rex (roll-Rex (t.IfError ty (all_rexes operands i)))
  whole_rex (t.IsError ty operands) right = λ i. of_rex (roll-Rex (t.IsError ty (all_rexes operands i)))
  whole_rex (t.NullIfError ty operands) right = λ i. of_rex (roll-Rex (t.NullIfError ty (all_rexes operands i)))
  whole_rex (t.Raise ty operands) right = λ i. of_rex (roll-Rex (t.Raise ty (all_rexes operands i)))
  whole_rex (t.InList sought list) right = λ i. of_rex (roll-Rex (t.InList sought (all_rexes list i)))
  whole_rex (t.InArray sought array) right = refl
  whole_rex (t.Let ty bindings expr) right = λ i. of_rex (roll-Rex (t.Let ty (computes_first bindings expr i) (first_rex (rex_last bindings expr i))))
  whole_rex (t.MakeArray ty operands) right = λ i. of_rex (roll-Rex (t.MakeArray ty (all_rexes operands i)))
  whole_rex (t.MakeStruct ty operands) right = λ i. of_rex (roll-Rex (t.MakeStruct ty (all_rexes operands i)))
  whole_rex (t.Field place ty expr) right = refl
  whole_rex (t.Index form ty array index) right = λ i. of_rex (roll-Rex (t.Index (form_told form i) ty array index))
  whole_rex (t.Scalar ty column outer inner) right = refl
  whole_rex (t.ArrayOf ty column outer inner) right = refl
  whole_rex (t.Exists ty outer inner) right = refl
  whole_rex (t.InQuery ty column outer sought inner) right = refl

  whole_scan : (z : Scan-F Rex Scan) → right_scan z → rebuilt numbers (scan_kind z) (scan_fields z) (scan_below z) ≡ of_scan (roll-Scan z)
  whole_scan t.Single right = refl
  whole_scan (t.Table name number columns) right = λ i. of_scan (roll-Scan (t.Table name (sym right i) columns))
  whole_scan (t.With ctes inner) right = λ i. of_scan (roll-Scan (t.With (ctes_first ctes inner i) (first_scan (scan_last ctes inner i))))
  whole_scan (t.CteRef number columns) right = refl
  whole_scan (t.Unnest kind element offset inner array None) right = λ i. of_scan (roll-Scan (t.Unnest (unnest_told kind i) element offset inner array None))
  whole_scan (t.Unnest kind element offset inner array (Some condition)) right = λ i. of_scan (roll-Scan (t.Unnest (unnest_told kind i) element offset inner array (Some condition)))
  whole_scan (t.Join kind left right None) is = λ i. of_scan (roll-Scan (t.Join (join_told kind i) left right None))
  whole_scan (t.Join kind left right (Some condition)) is = λ i. of_scan (roll-Scan (t.Join (join_told kind i) left right (Some condition)))
  whole_scan (t.Filter inner condition) right = refl
  whole_scan (t.Project columns inner computed) right = λ i. of_scan (roll-Scan (t.Project columns inner (all_computes computed i)))

  pub whole : (p : Part) → Right p → rebuilt numbers (kind p) (fields p) (below p) ≡ p
  whole (of_rex x) right = whole_rex (out-Rex x) right ∙ ap of_rex (roll-out-Rex x)
  whole (of_scan x) right = whole_scan (out-Scan x) right ∙ ap of_scan (roll-out-Scan x)
  whole (of_compute c) right = refl
  whole (of_cte c) right = refl
  whole (of_tree tree) right = refl

  -- ---- its fields

  fine_rex : (z : Rex-F Rex Scan) → right_rex z → Each Fine (rex_fields z)
  fine_rex (t.Literal value ty) right = (right, tt)
  fine_rex (t.Parameter name ty) right = (tt, (tt, tt))
  fine_rex (t.Column column ty) right = (tt, (tt, tt))
  fine_rex (t.Outer column ty) right = (tt, (tt, tt))
  fine_rex (t.Call signature ty arguments) right = (signature_run signature, (tt, tt))
  fine_rex (t.SafeCall signature ty arguments) right = (signature_run signature, (tt, tt))
  fine_rex (t.Cast ty expr) right = (tt, tt)
  fine_rex (t.SafeCast ty expr) right = (tt, tt)
  fine_rex (t.If ty operands) right = (tt, tt)
  fine_rex (t.Case ty operands) right = (tt, tt)
  fine_rex (t.Coalesce ty operands) right = (tt, tt)
  fine_rex (t.And ty operands) right = (tt, tt)
  fine_rex (t.Or ty operands) right = (tt, tt)
  fine_rex (t.IfError ty operands) right = (tt, tt)
  fine_rex (t.IsError ty operands) right = (tt, tt)
  fine_rex (t.NullIfError ty operands) right = (tt, tt)
  fine_rex (t.Raise ty operands) right = (tt, tt)
  fine_rex (t.InList sought list) right = tt
  fine_rex (t.InArray sought array) right = tt
  fine_rex (t.Let ty bindings expr) right = (tt, tt)
  fine_rex (t.MakeArray ty operands) right = (tt, tt)
  fine_rex (t.MakeStruct ty operands) right = (tt, tt)
  fine_rex (t.Field place ty expr) right = (tt, (tt, tt))
  fine_rex (t.Index form ty array index) right = (form_run form, (tt, tt))
  fine_rex (t.Scalar ty column outer inner) right = (tt, (tt, (tt, tt)))
  fine_rex (t.ArrayOf ty column outer inner) right = (tt, (tt, (tt, tt)))
  fine_rex (t.Exists ty outer inner) right = (tt, (tt, tt))
  fine_rex (t.InQuery ty column outer sought inner) right = (tt, (tt, (tt, tt)))

  fine_scan : (z : Scan-F Rex Scan) → right_scan z → Each Fine (scan_fields z)
  fine_scan t.Single right = tt
  fine_scan (t.Table name number columns) right = (tt, (tt, tt))
  fine_scan (t.With ctes inner) right = tt
  fine_scan (t.CteRef number columns) right = (tt, (tt, tt))
  fine_scan (t.Unnest kind element offset inner array condition) right = (unnest_run kind, (tt, (tt, tt)))
  fine_scan (t.Join kind left right condition) is = (join_run kind, tt)
  fine_scan (t.Filter inner condition) right = tt
  fine_scan (t.Project columns inner computed) right = (tt, tt)

  pub fine : (p : Part) → Right p → Each Fine (fields p)
  fine (of_rex x) right = fine_rex (out-Rex x) right
  fine (of_scan x) right = fine_scan (out-Scan x) right
  fine (of_compute c) right = (tt, tt)
  fine (of_cte c) right = (tt, (tt, tt))
  fine (of_tree tree) right = (tt, tt)

rex_sorted : (z : Rex-F Rex Scan) → map sort (rex_fields z) ≡ sorts_of (rex_kind z)
rex_sorted (t.Literal value ty) = refl
rex_sorted _ = refl

scan_sorted : (z : Scan-F Rex Scan) → map sort (scan_fields z) ≡ sorts_of (scan_kind z)
scan_sorted t.Single = refl
scan_sorted _ = refl

-- the kind tells of which sorts the fields are
pub sorted : (p : Part) → map sort (fields p) ≡ sorts_of (kind p)
sorted (of_rex x) = rex_sorted (out-Rex x)
sorted (of_scan x) = scan_sorted (out-Scan x)
sorted (of_compute c) = refl
sorted (of_cte c) = refl
sorted (of_tree tree) = refl
