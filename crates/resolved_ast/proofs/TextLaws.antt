-- The text of a tree, one level at a time: each node is its line, and then what its own parts say, two spaces further in.
use Rattle.std.proofs.Common.{◌≡◌, List, [], ◌∷◌, ◌++◌, map, codes, None, Some, refl, sym, ◌∙◌, ap}
use Rattle.sql_names.specs.Spelling.{quote_name}
use Rattle.sql_types.specs.TypeText.{type_text}
use Rattle.sql_ast.specs.Literals.{LiteralText}
use Rattle.resolved_ast.specs.declared.rex.Compute.{Compute}
use Rattle.resolved_ast.specs.declared.rex.Rex.{Rex, out-Rex, roll-out-Rex, map-Rex, fold-roll-Rex}
use Rattle.resolved_ast.specs.declared.rex.Rex.TheOpen.{Rex-F, Scan-F}
use Rattle.resolved_ast.specs.declared.rex.Rex.TheOpen as t
use Rattle.resolved_ast.specs.declared.scan.Cte.{Cte}
use Rattle.resolved_ast.specs.declared.scan.Scan.{Scan, out-Scan, roll-out-Scan, map-Scan, fold-roll-Scan}
use Rattle.resolved_ast.specs.Lines.{each_text, compute_of, cte_of}
use Rattle.resolved_ast.specs.Numeral.{numeral}
use Rattle.resolved_ast.specs.Pages.{Page, written, below}
use Rattle.resolved_ast.specs.Parts.{there}
use Rattle.resolved_ast.specs.SignatureNames.{signature_name}
use Rattle.resolved_ast.specs.TreeText.{Shown, line, ref_text, made_text, list_text, or_dash, join_text, unnest_text, form_text, compute_text, cte_text, rex_text, scan_text, RexText, ScanText}
use Rattle.resolved_ast.proofs.PageLaws.{all_below, wrote_node, below_each, below_append}

-- ---- parts of nodes

abbrev shown_compute : Compute Rex → Compute Shown
shown_compute c = record { column = c.column; expr = RexText c.expr }

computes : (cs : List (Compute Rex)) → map compute_text (map shown_compute cs) ≡ map (compute_of RexText) cs
computes [] = refl
computes (c ∷ cs) = ap (λ r. compute_of RexText c ∷ r) (computes cs)

below_computes : (page : Page) (cs : List (Compute Rex)) → all_below page (map compute_text (map shown_compute cs)) ≡ below page (each_text (compute_of RexText) cs)
below_computes page cs = ap (all_below page) (computes cs) ∙ below_each page (map (compute_of RexText) cs)

abbrev shown_cte : Cte Scan → Cte Shown
shown_cte c = record { number = c.number; columns = c.columns; scan = ScanText c.scan }

ctes_given : (cs : List (Cte Scan)) → map cte_text (map shown_cte cs) ≡ map (cte_of ScanText) cs
ctes_given [] = refl
ctes_given (c ∷ cs) = ap (λ r. cte_of ScanText c ∷ r) (ctes_given cs)

below_ctes : (page : Page) (cs : List (Cte Scan)) → all_below page (map cte_text (map shown_cte cs)) ≡ below page (each_text (cte_of ScanText) cs)
below_ctes page cs = ap (all_below page) (ctes_given cs) ∙ below_each page (map (cte_of ScanText) cs)

-- ---- one level

abbrev pub rex_page : Rex-F Rex Scan → Page → Page
rex_page (t.Literal value ty) page = written page (line (codes "Literal") (LiteralText value ∷ type_text ty ∷ []) page.margin)
rex_page (t.Parameter name ty) page = written page (line (codes "Parameter") (quote_name name ∷ type_text ty ∷ []) page.margin)
rex_page (t.Column column ty) page = written page (line (codes "Column") (ref_text column ∷ type_text ty ∷ []) page.margin)
rex_page (t.Outer column ty) page = written page (line (codes "Outer") (ref_text column ∷ type_text ty ∷ []) page.margin)
rex_page (t.Call signature ty arguments) page = below (written page (line (codes "Call") (signature_name signature ∷ type_text ty ∷ []) page.margin)) (each_text RexText arguments)
rex_page (t.SafeCall signature ty arguments) page = below (written page (line (codes "SafeCall") (signature_name signature ∷ type_text ty ∷ []) page.margin)) (each_text RexText arguments)
rex_page (t.Cast ty expr) page = below (written page (line (codes "Cast") (type_text ty ∷ []) page.margin)) (RexText expr)
rex_page (t.SafeCast ty expr) page = below (written page (line (codes "SafeCast") (type_text ty ∷ []) page.margin)) (RexText expr)
rex_page (t.If ty operands) page = below (written page (line (codes "If") (type_text ty ∷ []) page.margin)) (each_text RexText operands)
rex_page (t.Case ty operands) page = below (written page (line (codes "Case") (type_text ty ∷ []) page.margin)) (each_text RexText operands)
rex_page (t.Coalesce ty operands) page = below (written page (line (codes "Coalesce") (type_text ty ∷ []) page.margin)) (each_text RexText operands)
rex_page (t.And ty operands) page = below (written page (line (codes "And") (type_text ty ∷ []) page.margin)) (each_text RexText operands)
rex_page (t.Or ty operands) page = below (written page (line (codes "Or") (type_text ty ∷ []) page.margin)) (each_text RexText operands)
rex_page (t.IfError ty operands) page = below (written page (line (codes "IfError") (type_text ty ∷ []) page.margin)) (each_text RexText operands)
rex_page (t.IsError ty operands) page = below (written page (line (codes "IsError") (type_text ty ∷ []) page.margin)) (each_text RexText operands)
rex_page (t.NullIfError ty operands) page = below (written page (line (codes "NullIfError") (type_text ty ∷ []) page.margin)) (each_text RexText operands)
rex_page (t.Raise ty operands) page = below (written page (line (codes "Raise") (type_text ty ∷ []) page.margin)) (each_text RexText operands)
rex_page (t.InList sought list) page = below (below (written page (line (codes "InList") ([]) page.margin)) (RexText sought)) (each_text RexText list)
rex_page (t.InArray sought array) page = below (below (written page (line (codes "InArray") ([]) page.margin)) (RexText sought)) (RexText array)
rex_page (t.Let ty bindings expr) page = below (below (written page (line (codes "Let") (type_text ty ∷ []) page.margin)) (each_text (compute_of RexText) bindings)) (RexText expr)
rex_page (t.MakeArray ty parts) page = below (written page (line (codes "MakeArray") (type_text ty ∷ []) page.margin)) (each_text RexText parts)
rex_page (t.MakeStruct ty parts) page = below (written page (line (codes "MakeStruct") (type_text ty ∷ []) page.margin)) (each_text RexText parts)
rex_page (t.Field place ty expr) page = below (written page (line (codes "Field") (numeral place ∷ type_text ty ∷ []) page.margin)) (RexText expr)
rex_page (t.Index form ty array index) page = below (below (written page (line (codes "Index") (form_text form ∷ type_text ty ∷ []) page.margin)) (RexText array)) (RexText index)
rex_page (t.Scalar ty column outer scan) page = below (written page (line (codes "Scalar") (type_text ty ∷ ref_text column ∷ list_text ref_text outer ∷ []) page.margin)) (ScanText scan)
rex_page (t.ArrayOf ty column outer scan) page = below (written page (line (codes "ArrayOf") (type_text ty ∷ ref_text column ∷ list_text ref_text outer ∷ []) page.margin)) (ScanText scan)
rex_page (t.Exists ty outer scan) page = below (written page (line (codes "Exists") (type_text ty ∷ list_text ref_text outer ∷ []) page.margin)) (ScanText scan)
rex_page (t.InQuery ty column outer sought scan) page = below (below (written page (line (codes "InQuery") (type_text ty ∷ ref_text column ∷ list_text ref_text outer ∷ []) page.margin)) (RexText sought)) (ScanText scan)

rex_paged : (z : Rex-F Rex Scan) (page : Page) → written page (rex_text (map-Rex Rex Scan Shown Shown RexText ScanText z) page.margin) ≡ rex_page z page
rex_paged (t.Literal value ty) page = wrote_node page (codes "Literal") (LiteralText value ∷ type_text ty ∷ []) []
rex_paged (t.Parameter name ty) page = wrote_node page (codes "Parameter") (quote_name name ∷ type_text ty ∷ []) []
rex_paged (t.Column column ty) page = wrote_node page (codes "Column") (ref_text column ∷ type_text ty ∷ []) []
rex_paged (t.Outer column ty) page = wrote_node page (codes "Outer") (ref_text column ∷ type_text ty ∷ []) []
rex_paged (t.Call signature ty arguments) page = wrote_node page (codes "Call") (signature_name signature ∷ type_text ty ∷ []) (map RexText arguments) ∙ below_each (written page (line (codes "Call") (signature_name signature ∷ type_text ty ∷ []) page.margin)) (map RexText arguments)
rex_paged (t.SafeCall signature ty arguments) page = wrote_node page (codes "SafeCall") (signature_name signature ∷ type_text ty ∷ []) (map RexText arguments) ∙ below_each (written page (line (codes "SafeCall") (signature_name signature ∷ type_text ty ∷ []) page.margin)) (map RexText arguments)
rex_paged (t.Cast ty expr) page = wrote_node page (codes "Cast") (type_text ty ∷ []) (RexText expr ∷ [])
rex_paged (t.SafeCast ty expr) page = wrote_node page (codes "SafeCast") (type_text ty ∷ []) (RexText expr ∷ [])
rex_paged (t.If ty operands) page = wrote_node page (codes "If") (type_text ty ∷ []) (map RexText operands) ∙ below_each (written page (line (codes "If") (type_text ty ∷ []) page.margin)) (map RexText operands)
rex_paged (t.Case ty operands) page = wrote_node page (codes "Case") (type_text ty ∷ []) (map RexText operands) ∙ below_each (written page (line (codes "Case") (type_text ty ∷ []) page.margin)) (map RexText operands)
rex_paged (t.Coalesce ty operands) page = wrote_node page (codes "Coalesce") (type_text ty ∷ []) (map RexText operands) ∙ below_each (written page (line (codes "Coalesce") (type_text ty ∷ []) page.margin)) (map RexText operands)
rex_paged (t.And ty operands) page = wrote_node page (codes "And") (type_text ty ∷ []) (map RexText operands) ∙ below_each (written page (line (codes "And") (type_text ty ∷ []) page.margin)) (map RexText operands)
rex_paged (t.Or ty operands) page = wrote_node page (codes "Or") (type_text ty ∷ []) (map RexText operands) ∙ below_each (written page (line (codes "Or") (type_text ty ∷ []) page.margin)) (map RexText operands)
rex_paged (t.IfError ty operands) page = wrote_node page (codes "IfError") (type_text ty ∷ []) (map RexText operands) ∙ below_each (written page (line (codes "IfError") (type_text ty ∷ []) page.margin)) (map RexText operands)
rex_paged (t.IsError ty operands) page = wrote_node page (codes "IsError") (type_text ty ∷ []) (map RexText operands) ∙ below_each (written page (line (codes "IsError") (type_text ty ∷ []) page.margin)) (map RexText operands)
rex_paged (t.NullIfError ty operands) page = wrote_node page (codes "NullIfError") (type_text ty ∷ []) (map RexText operands) ∙ below_each (written page (line (codes "NullIfError") (type_text ty ∷ []) page.margin)) (map RexText operands)
rex_paged (t.Raise ty operands) page = wrote_node page (codes "Raise") (type_text ty ∷ []) (map RexText operands) ∙ below_each (written page (line (codes "Raise") (type_text ty ∷ []) page.margin)) (map RexText operands)
rex_paged (t.InList sought list) page = wrote_node page (codes "InList") ([]) (RexText sought ∷ map RexText list) ∙ below_each (below (written page (line (codes "InList") ([]) page.margin)) (RexText sought)) (map RexText list)
rex_paged (t.InArray sought array) page = wrote_node page (codes "InArray") ([]) (RexText sought ∷ RexText array ∷ [])
rex_paged (t.Let ty bindings expr) page = wrote_node page (codes "Let") (type_text ty ∷ []) (map compute_text (map shown_compute bindings) ++ RexText expr ∷ []) ∙ below_append (written page (line (codes "Let") (type_text ty ∷ []) page.margin)) (map compute_text (map shown_compute bindings)) (RexText expr ∷ []) ∙ ap (λ q. below q (RexText expr)) (below_computes (written page (line (codes "Let") (type_text ty ∷ []) page.margin)) bindings)
rex_paged (t.MakeArray ty parts) page = wrote_node page (codes "MakeArray") (type_text ty ∷ []) (map RexText parts) ∙ below_each (written page (line (codes "MakeArray") (type_text ty ∷ []) page.margin)) (map RexText parts)
rex_paged (t.MakeStruct ty parts) page = wrote_node page (codes "MakeStruct") (type_text ty ∷ []) (map RexText parts) ∙ below_each (written page (line (codes "MakeStruct") (type_text ty ∷ []) page.margin)) (map RexText parts)
rex_paged (t.Field place ty expr) page = wrote_node page (codes "Field") (numeral place ∷ type_text ty ∷ []) (RexText expr ∷ [])
rex_paged (t.Index form ty array index) page = wrote_node page (codes "Index") (form_text form ∷ type_text ty ∷ []) (RexText array ∷ RexText index ∷ [])
rex_paged (t.Scalar ty column outer scan) page = wrote_node page (codes "Scalar") (type_text ty ∷ ref_text column ∷ list_text ref_text outer ∷ []) (ScanText scan ∷ [])
rex_paged (t.ArrayOf ty column outer scan) page = wrote_node page (codes "ArrayOf") (type_text ty ∷ ref_text column ∷ list_text ref_text outer ∷ []) (ScanText scan ∷ [])
rex_paged (t.Exists ty outer scan) page = wrote_node page (codes "Exists") (type_text ty ∷ list_text ref_text outer ∷ []) (ScanText scan ∷ [])
rex_paged (t.InQuery ty column outer sought scan) page = wrote_node page (codes "InQuery") (type_text ty ∷ ref_text column ∷ list_text ref_text outer ∷ []) (RexText sought ∷ ScanText scan ∷ [])

abbrev pub scan_page : Scan-F Rex Scan → Page → Page
scan_page t.Single page = written page (line (codes "Single") ([]) page.margin)
scan_page (t.Table name number columns) page = written page (line (codes "Table") (quote_name name ∷ list_text made_text columns ∷ []) page.margin)
scan_page (t.With ctes scan) page = below (below (written page (line (codes "With") ([]) page.margin)) (each_text (cte_of ScanText) ctes)) (ScanText scan)
scan_page (t.CteRef number columns) page = written page (line (codes "CteRef") (numeral number ∷ list_text made_text columns ∷ []) page.margin)
scan_page (t.Unnest kind element offset scan array condition) page = below (below (below (written page (line (codes "Unnest") (unnest_text kind ∷ made_text element ∷ or_dash made_text offset ∷ []) page.margin)) (ScanText scan)) (RexText array)) (each_text RexText (there condition))
scan_page (t.Join kind left right condition) page = below (below (below (written page (line (codes "Join") (join_text kind ∷ []) page.margin)) (ScanText left)) (ScanText right)) (each_text RexText (there condition))
scan_page (t.Filter scan condition) page = below (below (written page (line (codes "Filter") ([]) page.margin)) (ScanText scan)) (RexText condition)
scan_page (t.Project columns scan computed) page = below (below (written page (line (codes "Project") (list_text ref_text columns ∷ []) page.margin)) (ScanText scan)) (each_text (compute_of RexText) computed)

scan_paged : (z : Scan-F Rex Scan) (page : Page) → written page (scan_text (map-Scan Rex Scan Shown Shown RexText ScanText z) page.margin) ≡ scan_page z page
scan_paged t.Single page = wrote_node page (codes "Single") ([]) []
scan_paged (t.Table name number columns) page = wrote_node page (codes "Table") (quote_name name ∷ list_text made_text columns ∷ []) []
scan_paged (t.With ctes scan) page = wrote_node page (codes "With") ([]) (map cte_text (map shown_cte ctes) ++ ScanText scan ∷ []) ∙ below_append (written page (line (codes "With") ([]) page.margin)) (map cte_text (map shown_cte ctes)) (ScanText scan ∷ []) ∙ ap (λ q. below q (ScanText scan)) (below_ctes (written page (line (codes "With") ([]) page.margin)) ctes)
scan_paged (t.CteRef number columns) page = wrote_node page (codes "CteRef") (numeral number ∷ list_text made_text columns ∷ []) []
scan_paged (t.Unnest kind element offset scan array None) page = wrote_node page (codes "Unnest") (unnest_text kind ∷ made_text element ∷ or_dash made_text offset ∷ []) (ScanText scan ∷ RexText array ∷ map RexText (there None)) ∙ below_each (below (below (written page (line (codes "Unnest") (unnest_text kind ∷ made_text element ∷ or_dash made_text offset ∷ []) page.margin)) (ScanText scan)) (RexText array)) (map RexText (there None))
scan_paged (t.Unnest kind element offset scan array (Some condition)) page = wrote_node page (codes "Unnest") (unnest_text kind ∷ made_text element ∷ or_dash made_text offset ∷ []) (ScanText scan ∷ RexText array ∷ map RexText (there (Some condition))) ∙ below_each (below (below (written page (line (codes "Unnest") (unnest_text kind ∷ made_text element ∷ or_dash made_text offset ∷ []) page.margin)) (ScanText scan)) (RexText array)) (map RexText (there (Some condition)))
scan_paged (t.Join kind left right None) page = wrote_node page (codes "Join") (join_text kind ∷ []) (ScanText left ∷ ScanText right ∷ map RexText (there None)) ∙ below_each (below (below (written page (line (codes "Join") (join_text kind ∷ []) page.margin)) (ScanText left)) (ScanText right)) (map RexText (there None))
scan_paged (t.Join kind left right (Some condition)) page = wrote_node page (codes "Join") (join_text kind ∷ []) (ScanText left ∷ ScanText right ∷ map RexText (there (Some condition))) ∙ below_each (below (below (written page (line (codes "Join") (join_text kind ∷ []) page.margin)) (ScanText left)) (ScanText right)) (map RexText (there (Some condition)))
scan_paged (t.Filter scan condition) page = wrote_node page (codes "Filter") ([]) (ScanText scan ∷ RexText condition ∷ [])
scan_paged (t.Project columns scan computed) page = wrote_node page (codes "Project") (list_text ref_text columns ∷ []) (ScanText scan ∷ map compute_text (map shown_compute computed)) ∙ below_computes (below (written page (line (codes "Project") (list_text ref_text columns ∷ []) page.margin)) (ScanText scan)) computed

-- ---- one equation a sort

pub text_rex : (x : Rex) → RexText x ≡ rex_text (map-Rex Rex Scan Shown Shown RexText ScanText (out-Rex x))
unfolding RexText ScanText
text_rex x = ap RexText (sym (roll-out-Rex x)) ∙ fold-roll-Rex Shown Shown rex_text scan_text (out-Rex x)

pub text_scan : (x : Scan) → ScanText x ≡ scan_text (map-Scan Rex Scan Shown Shown RexText ScanText (out-Scan x))
unfolding RexText ScanText
text_scan x = ap ScanText (sym (roll-out-Scan x)) ∙ fold-roll-Scan Shown Shown rex_text scan_text (out-Scan x)

pub paged_rex : (x : Rex) (page : Page) → written page (RexText x page.margin) ≡ rex_page (out-Rex x) page
paged_rex x page = ap (λ (s : Shown). written page (s page.margin)) (text_rex x) ∙ rex_paged (out-Rex x) page

pub paged_scan : (x : Scan) (page : Page) → written page (ScanText x page.margin) ≡ scan_page (out-Scan x) page
paged_scan x page = ap (λ (s : Shown). written page (s page.margin)) (text_scan x) ∙ scan_paged (out-Scan x) page
