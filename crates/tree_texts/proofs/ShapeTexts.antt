-- The text of each part is the text of its kind, its fields and the parts below it.
use Rattle.std.proofs.Common.{◌≡◌, ℕ, List, [], ◌∷◌, ◌++◌, map, codes, None, Some, refl, ap, sym, ◌∙◌, append_assoc}
use Rattle.sql_types.specs.TypeText.{type_text}
use Rattle.sql_ast.specs.Literals.{LiteralText}
use Rattle.resolved_ast.specs.declared.rex.Compute.{Compute}
use Rattle.resolved_ast.specs.declared.rex.Rex.{Rex, out-Rex, map-Rex}
use Rattle.resolved_ast.specs.declared.rex.Rex.TheOpen.{Rex-F, Scan-F}
use Rattle.resolved_ast.specs.declared.rex.Rex.TheOpen as t
use Rattle.resolved_ast.specs.declared.scan.Cte.{Cte}
use Rattle.resolved_ast.specs.declared.scan.Scan.{Scan, out-Scan, map-Scan}
use Rattle.resolved_ast.specs.TreeText.{Shown, spaced, node, list_text, output_text, compute_text, cte_text, rex_text, scan_text, RexText, ScanText}
use Rattle.resolved_ast.proofs.TextLaws.{text_rex, text_scan}
use Rattle.tree_texts.proofs.Fields.{field_text}
use Rattle.tree_texts.proofs.NodeWords.{word_of}
use Rattle.tree_texts.proofs.Shapes.{Part, of_rex, of_scan, of_compute, of_cte, of_tree, rex_kind, rex_fields, rex_below, scan_kind, scan_fields, scan_below, kind, fields, below}

abbrev shown_compute : Compute Rex → Compute Shown
shown_compute c = record { column = c.column; expr = RexText c.expr }

abbrev shown_cte : Cte Scan → Cte Shown
shown_cte c = record { number = c.number; columns = c.columns; scan = ScanText c.scan }

abbrev pub text : Part → Shown
text (of_rex x) = RexText x
text (of_scan x) = ScanText x
text (of_compute c) = compute_text (shown_compute c)
text (of_cte c) = cte_text (shown_cte c)
text (of_tree tree) = node (codes "Output") (list_text output_text tree.outputs ∷ []) (ScanText tree.scan ∷ [])

-- ---- lists of parts

rexes : (xs : List Rex) → map RexText xs ≡ map text (map of_rex xs)
rexes [] = refl
rexes (x ∷ xs) = ap (λ l. RexText x ∷ l) (rexes xs)

computes : (cs : List (Compute Rex)) → map compute_text (map shown_compute cs) ≡ map text (map of_compute cs)
computes [] = refl
computes (c ∷ cs) = ap (λ l. text (of_compute c) ∷ l) (computes cs)

computes_then : (cs : List (Compute Rex)) (x : Rex) → map compute_text (map shown_compute cs) ++ RexText x ∷ [] ≡ map text (map of_compute cs ++ of_rex x ∷ [])
computes_then [] x = refl
computes_then (c ∷ cs) x = ap (λ l. text (of_compute c) ∷ l) (computes_then cs x)

ctes_then : (cs : List (Cte Scan)) (x : Scan) → map cte_text (map shown_cte cs) ++ ScanText x ∷ [] ≡ map text (map of_cte cs ++ of_scan x ∷ [])
ctes_then [] x = refl
ctes_then (c ∷ cs) x = ap (λ l. text (of_cte c) ∷ l) (ctes_then cs x)

-- a Literal's two fields are one here
two_fields : (p q : List ℕ) → spaced (p ∷ q ∷ []) ≡ spaced ((p ++ 32 ∷ q) ∷ [])
two_fields p q = ap (λ l. 32 ∷ l) (sym (append_assoc p (32 ∷ q) []))

literal_line : (p q : List ℕ) → ◌≡◌ {A = Shown} (node (codes "Literal") (p ∷ q ∷ []) []) (node (codes "Literal") ((p ++ 32 ∷ q) ∷ []) [])
literal_line p q = λ i margin. (margin ++ codes "Literal" ++ two_fields p q i ++ codes "\n") ++ []

-- ---- one level

rex_texts : (z : Rex-F Rex Scan) → rex_text (map-Rex Rex Scan Shown Shown RexText ScanText z) ≡ node (word_of (rex_kind z)) (map field_text (rex_fields z)) (map text (rex_below z))
rex_texts (t.Literal value ty) = literal_line (LiteralText value) (type_text ty)
rex_texts (t.Parameter name ty) = refl
rex_texts (t.Column column ty) = refl
rex_texts (t.Outer column ty) = refl
rex_texts (t.Call signature ty arguments) = ap (node (codes "Call") (map field_text (rex_fields (t.Call signature ty arguments)))) (rexes arguments)
rex_texts (t.SafeCall signature ty arguments) = ap (node (codes "SafeCall") (map field_text (rex_fields (t.SafeCall signature ty arguments)))) (rexes arguments)
rex_texts (t.Cast ty expr) = refl
rex_texts (t.SafeCast ty expr) = refl
rex_texts (t.If ty operands) = ap (node (codes "If") (map field_text (rex_fields (t.If ty operands)))) (rexes operands)
rex_texts (t.Case ty operands) = ap (node (codes "Case") (map field_text (rex_fields (t.Case ty operands)))) (rexes operands)
rex_texts (t.Coalesce ty operands) = ap (node (codes "Coalesce") (map field_text (rex_fields (t.Coalesce ty operands)))) (rexes operands)
rex_texts (t.And ty operands) = ap (node (codes "And") (map field_text (rex_fields (t.And ty operands)))) (rexes operands)
rex_texts (t.Or ty operands) = ap (node (codes "Or") (map field_text (rex_fields (t.Or ty operands)))) (rexes operands)
rex_texts (t.IfError ty operands) = ap (node (codes "IfError") (map field_text (rex_fields (t.IfError ty operands)))) (rexes operands)
rex_texts (t.IsError ty operands) = ap (node (codes "IsError") (map field_text (rex_fields (t.IsError ty operands)))) (rexes operands)
rex_texts (t.NullIfError ty operands) = ap (node (codes "NullIfError") (map field_text (rex_fields (t.NullIfError ty operands)))) (rexes operands)
rex_texts (t.Raise ty operands) = ap (node (codes "Raise") (map field_text (rex_fields (t.Raise ty operands)))) (rexes operands)
rex_texts (t.InList sought list) = ap (λ l. node (codes "InList") (map field_text (rex_fields (t.InList sought list))) (RexText sought ∷ l)) (rexes list)
rex_texts (t.InArray sought array) = refl
rex_texts (t.Let ty bindings expr) = ap (node (codes "Let") (map field_text (rex_fields (t.Let ty bindings expr)))) (computes_then bindings expr)
rex_texts (t.MakeArray ty operands) = ap (node (codes "MakeArray") (map field_text (rex_fields (t.MakeArray ty operands)))) (rexes operands)
rex_texts (t.MakeStruct ty operands) = ap (node (codes "MakeStruct") (map field_text (rex_fields (t.MakeStruct ty operands)))) (rexes operands)
rex_texts (t.Field place ty expr) = refl
rex_texts (t.Index form ty array index) = refl
rex_texts (t.Scalar ty column outer inner) = refl
rex_texts (t.ArrayOf ty column outer inner) = refl
rex_texts (t.Exists ty outer inner) = refl
rex_texts (t.InQuery ty column outer sought inner) = refl

scan_texts : (z : Scan-F Rex Scan) → scan_text (map-Scan Rex Scan Shown Shown RexText ScanText z) ≡ node (word_of (scan_kind z)) (map field_text (scan_fields z)) (map text (scan_below z))
scan_texts t.Single = refl
scan_texts (t.Table name number columns) = refl
scan_texts (t.With ctes inner) = ap (node (codes "With") (map field_text (scan_fields (t.With ctes inner)))) (ctes_then ctes inner)
scan_texts (t.CteRef number columns) = refl
scan_texts (t.Unnest kind element offset inner array None) = refl
scan_texts (t.Unnest kind element offset inner array (Some condition)) = refl
scan_texts (t.Join kind left right None) = refl
scan_texts (t.Join kind left right (Some condition)) = refl
scan_texts (t.Filter inner condition) = refl
scan_texts (t.Project columns inner computed) = ap (λ l. node (codes "Project") (map field_text (scan_fields (t.Project columns inner computed))) (ScanText inner ∷ l)) (computes computed)

pub texts : (p : Part) → text p ≡ node (word_of (kind p)) (map field_text (fields p)) (map text (below p))
texts (of_rex x) = text_rex x ∙ rex_texts (out-Rex x)
texts (of_scan x) = text_scan x ∙ scan_texts (out-Scan x)
texts (of_compute c) = refl
texts (of_cte c) = refl
texts (of_tree tree) = refl
