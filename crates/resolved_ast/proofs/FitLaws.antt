-- Whether a tree's Literals fit, one level at a time.
use Rattle.std.proofs.Common.{◌≡◌, Bool, true, false, ◌&&◌, List, [], ◌∷◌, ◌++◌, map, None, Some, refl, sym, ◌∙◌, ap, arith}
use Rattle.sql_types.specs.Fits.{fits}
use Rattle.resolved_ast.specs.declared.rex.Compute.{Compute}
use Rattle.resolved_ast.specs.declared.rex.Rex.{Rex, out-Rex, roll-out-Rex, map-Rex, fold-roll-Rex}
use Rattle.resolved_ast.specs.declared.rex.Rex.TheOpen.{Rex-F, Scan-F}
use Rattle.resolved_ast.specs.declared.rex.Rex.TheOpen as t
use Rattle.resolved_ast.specs.declared.scan.Cte.{Cte}
use Rattle.resolved_ast.specs.declared.scan.Scan.{Scan, out-Scan, roll-out-Scan, map-Scan, fold-roll-Scan}
use Rattle.resolved_ast.specs.LiteralsFit.{rex_fit, scan_fit, RexFits, ScanFits, each_fits}
use Rattle.resolved_ast.specs.Parts.{all_so, exprs_of, scans_of, there}

-- ---- lists

with_true : (b : Bool) → (b && true) ≡ b
with_true true = refl
with_true false = refl

and_again : (a b c : Bool) → (a && (b && c)) ≡ ((a && b) && c)
and_again true b c = refl
and_again false b c = refl

so_append : (xs ys : List Bool) → all_so (xs ++ ys) ≡ (all_so xs && all_so ys)
so_append [] ys = refl
so_append (x ∷ xs) ys = ap (λ b. x && b) (so_append xs ys) ∙ and_again x (all_so xs) (all_so ys)

abbrev fit_compute : Compute Rex → Compute Bool
fit_compute c = record { column = c.column; expr = RexFits c.expr }

computes : (cs : List (Compute Rex)) → all_so (exprs_of (map fit_compute cs)) ≡ each_fits (λ (c : Compute Rex). RexFits c.expr) cs
computes [] = refl
computes (c ∷ cs) = ap (λ b. RexFits c.expr && b) (computes cs)

abbrev fit_cte : Cte Scan → Cte Bool
fit_cte c = record { number = c.number; columns = c.columns; scan = ScanFits c.scan }

ctes_given : (cs : List (Cte Scan)) → all_so (scans_of (map fit_cte cs)) ≡ each_fits (λ (c : Cte Scan). ScanFits c.scan) cs
ctes_given [] = refl
ctes_given (c ∷ cs) = ap (λ b. ScanFits c.scan && b) (ctes_given cs)

-- ---- one level

abbrev pub rex_fits_at : Rex-F Rex Scan → Bool
rex_fits_at (t.Literal value ty) = fits ty value
rex_fits_at (t.Parameter name ty) = true
rex_fits_at (t.Column column ty) = true
rex_fits_at (t.Outer column ty) = true
rex_fits_at (t.Call signature ty arguments) = each_fits RexFits arguments
rex_fits_at (t.SafeCall signature ty arguments) = each_fits RexFits arguments
rex_fits_at (t.Cast ty expr) = RexFits expr
rex_fits_at (t.SafeCast ty expr) = RexFits expr
rex_fits_at (t.If ty operands) = each_fits RexFits operands
rex_fits_at (t.Case ty operands) = each_fits RexFits operands
rex_fits_at (t.Coalesce ty operands) = each_fits RexFits operands
rex_fits_at (t.And ty operands) = each_fits RexFits operands
rex_fits_at (t.Or ty operands) = each_fits RexFits operands
rex_fits_at (t.IfError ty operands) = each_fits RexFits operands
rex_fits_at (t.IsError ty operands) = each_fits RexFits operands
rex_fits_at (t.NullIfError ty operands) = each_fits RexFits operands
rex_fits_at (t.Raise ty operands) = each_fits RexFits operands
rex_fits_at (t.InList sought list) = RexFits sought && each_fits RexFits list
rex_fits_at (t.InArray sought array) = RexFits sought && RexFits array
rex_fits_at (t.Let ty bindings expr) = each_fits (λ (c : Compute Rex). RexFits c.expr) bindings && RexFits expr
rex_fits_at (t.MakeArray ty parts) = each_fits RexFits parts
rex_fits_at (t.MakeStruct ty parts) = each_fits RexFits parts
rex_fits_at (t.Field place ty expr) = RexFits expr
rex_fits_at (t.Index form ty array index) = RexFits array && RexFits index
rex_fits_at (t.Scalar ty column outer scan) = ScanFits scan
rex_fits_at (t.ArrayOf ty column outer scan) = ScanFits scan
rex_fits_at (t.Exists ty outer scan) = ScanFits scan
rex_fits_at (t.InQuery ty column outer sought scan) = RexFits sought && ScanFits scan

rex_fitted : (z : Rex-F Rex Scan) → rex_fit (map-Rex Rex Scan Bool Bool RexFits ScanFits z) ≡ rex_fits_at z
rex_fitted (t.Literal value ty) = refl
rex_fitted (t.Parameter name ty) = refl
rex_fitted (t.Column column ty) = refl
rex_fitted (t.Outer column ty) = refl
rex_fitted (t.Call signature ty arguments) = refl
rex_fitted (t.SafeCall signature ty arguments) = refl
rex_fitted (t.Cast ty expr) = with_true (RexFits expr)
rex_fitted (t.SafeCast ty expr) = with_true (RexFits expr)
rex_fitted (t.If ty operands) = refl
rex_fitted (t.Case ty operands) = refl
rex_fitted (t.Coalesce ty operands) = refl
rex_fitted (t.And ty operands) = refl
rex_fitted (t.Or ty operands) = refl
rex_fitted (t.IfError ty operands) = refl
rex_fitted (t.IsError ty operands) = refl
rex_fitted (t.NullIfError ty operands) = refl
rex_fitted (t.Raise ty operands) = refl
rex_fitted (t.InList sought list) = refl
rex_fitted (t.InArray sought array) = ap (λ b. RexFits sought && b) (with_true (RexFits array))
rex_fitted (t.Let ty bindings expr) = so_append (exprs_of (map fit_compute bindings)) (RexFits expr ∷ []) ∙ ap (λ r. r && (RexFits expr && true)) (computes bindings) ∙ ap (λ r. each_fits (λ (c : Compute Rex). RexFits c.expr) bindings && r) (with_true (RexFits expr))
rex_fitted (t.MakeArray ty parts) = refl
rex_fitted (t.MakeStruct ty parts) = refl
rex_fitted (t.Field place ty expr) = with_true (RexFits expr)
rex_fitted (t.Index form ty array index) = ap (λ b. RexFits array && b) (with_true (RexFits index))
rex_fitted (t.Scalar ty column outer scan) = with_true (ScanFits scan)
rex_fitted (t.ArrayOf ty column outer scan) = with_true (ScanFits scan)
rex_fitted (t.Exists ty outer scan) = with_true (ScanFits scan)
rex_fitted (t.InQuery ty column outer sought scan) = ap (λ b. RexFits sought && b) (with_true (ScanFits scan))

abbrev pub scan_fits_at : Scan-F Rex Scan → Bool
scan_fits_at t.Single = true
scan_fits_at (t.Table name number columns) = true
scan_fits_at (t.With ctes scan) = each_fits (λ (c : Cte Scan). ScanFits c.scan) ctes && ScanFits scan
scan_fits_at (t.CteRef number columns) = true
scan_fits_at (t.Unnest kind element offset scan array condition) = ScanFits scan && (RexFits array && each_fits RexFits (there condition))
scan_fits_at (t.Join kind left right condition) = ScanFits left && (ScanFits right && each_fits RexFits (there condition))
scan_fits_at (t.Filter scan condition) = ScanFits scan && RexFits condition
scan_fits_at (t.Project columns scan computed) = ScanFits scan && each_fits (λ (c : Compute Rex). RexFits c.expr) computed

scan_fitted : (z : Scan-F Rex Scan) → scan_fit (map-Scan Rex Scan Bool Bool RexFits ScanFits z) ≡ scan_fits_at z
scan_fitted t.Single = refl
scan_fitted (t.Table name number columns) = refl
scan_fitted (t.With ctes scan) = so_append (scans_of (map fit_cte ctes)) (ScanFits scan ∷ []) ∙ ap (λ r. r && (ScanFits scan && true)) (ctes_given ctes) ∙ ap (λ r. each_fits (λ (c : Cte Scan). ScanFits c.scan) ctes && r) (with_true (ScanFits scan))
scan_fitted (t.CteRef number columns) = refl
scan_fitted (t.Unnest kind element offset scan array None) = refl
scan_fitted (t.Unnest kind element offset scan array (Some condition)) = refl
scan_fitted (t.Join kind left right None) = refl
scan_fitted (t.Join kind left right (Some condition)) = refl
scan_fitted (t.Filter scan condition) = ap (λ b. ScanFits scan && b) (with_true (RexFits condition))
scan_fitted (t.Project columns scan computed) = ap (λ r. ScanFits scan && r) (computes computed)

-- ---- one equation a sort

pub fits_rex : (x : Rex) → RexFits x ≡ rex_fits_at (out-Rex x)
unfolding RexFits ScanFits
fits_rex x = ap RexFits (sym (roll-out-Rex x)) ∙ fold-roll-Rex Bool Bool rex_fit scan_fit (out-Rex x) ∙ rex_fitted (out-Rex x)

pub fits_scan : (x : Scan) → ScanFits x ≡ scan_fits_at (out-Scan x)
unfolding RexFits ScanFits
fits_scan x = ap ScanFits (sym (roll-out-Scan x)) ∙ fold-roll-Scan Bool Bool rex_fit scan_fit (out-Scan x) ∙ scan_fitted (out-Scan x)

-- two that hold together
pub first_of : (a b : Bool) → (a && b) ≡ true → a ≡ true
first_of true b both = refl
first_of false b both = both

pub second_of : (a b : Bool) → (a && b) ≡ true → b ≡ true
second_of true b both = both
second_of false b both = grind (arith, both)
