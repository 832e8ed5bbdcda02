-- Trees that tests build can be printed: node by node.
use Rattle.std.proofs.Common.{◌≡◌, ℕ, pos, Bool, true, ◌&&◌, List, [], ◌∷◌, refl, ap, ◌∙◌}
use Rattle.sql_types.specs.declared.sql_type.SqlType.{SqlType}
use Rattle.sql_types.specs.declared.sql_type.SqlType.TheVariants as ty
use Rattle.sql_types.specs.declared.sql_type.SqlType.TheOpen as type
use Rattle.sql_types.specs.declared.value.Value.{Value}
use Rattle.sql_types.specs.declared.value.Value.TheVariants as value
use Rattle.sql_types.specs.declared.value.Value.TheOpen as v
use Rattle.sql_types.proofs.ValueOpens.{fits_by}
use Rattle.sql_types.specs.Fits.{fits}
use Rattle.sql_builtins.specs.declared.sig.SigId.{SigId}
use Rattle.resolved_ast.specs.declared.column.ColumnRef.{ColumnRef}
use Rattle.resolved_ast.specs.declared.column.MadeColumn.{MadeColumn}
use Rattle.resolved_ast.specs.declared.rex.Rex.{Rex}
use Rattle.resolved_ast.specs.declared.rex.Rex.TheVariants as rex
use Rattle.resolved_ast.specs.declared.scan.Scan.{Scan}
use Rattle.resolved_ast.specs.declared.scan.Scan.TheVariants as scan
use Rattle.resolved_ast.specs.LiteralsFit.{RexFits, ScanFits}
use Rattle.resolved_ast.proofs.FitLaws.{fits_rex, rex_fits_at, fits_scan, scan_fits_at}

both_so : (a b : Bool) → a ≡ true → b ≡ true → (a && b) ≡ true
both_so a b x y = ap (λ c. c && b) x ∙ y

pub fits_literal : (x : Value) (type : SqlType) → fits type x ≡ true → RexFits (rex.Literal x type) ≡ true
fits_literal x type fit = fits_rex (rex.Literal x type) ∙ ap rex_fits_at (rex.outs-Literal x type) ∙ fit

pub fits_column : (c : ColumnRef) (type : SqlType) → RexFits (rex.Column c type) ≡ true
fits_column c type = fits_rex (rex.Column c type) ∙ ap rex_fits_at (rex.outs-Column c type)

pub fits_call : (s : SigId) (type : SqlType) (x y : Rex) → RexFits x ≡ true → RexFits y ≡ true → RexFits (rex.Call s type (x ∷ y ∷ [])) ≡ true
fits_call s type x y fit fits_too =
    fits_rex (rex.Call s type (x ∷ y ∷ [])) ∙ ap rex_fits_at (rex.outs-Call s type (x ∷ y ∷ [])) ∙ both_so (RexFits x) (RexFits y && true) fit (both_so (RexFits y) true fits_too refl)

pub fits_table : (name : List ℕ) (number : ℕ) (columns : List MadeColumn) → ScanFits (scan.Table name number columns) ≡ true
fits_table name number columns = fits_scan (scan.Table name number columns) ∙ ap scan_fits_at (scan.outs-Table name number columns)

pub fits_filter : (s : Scan) (x : Rex) → ScanFits s ≡ true → RexFits x ≡ true → ScanFits (scan.Filter s x) ≡ true
fits_filter s x fit fits_too = fits_scan (scan.Filter s x) ∙ ap scan_fits_at (scan.outs-Filter s x) ∙ both_so (ScanFits s) (RexFits x) fit fits_too

pub fits_project : (columns : List ColumnRef) (s : Scan) → ScanFits s ≡ true → ScanFits (scan.Project columns s []) ≡ true
fits_project columns s fit = fits_scan (scan.Project columns s []) ∙ ap scan_fits_at (scan.outs-Project columns s []) ∙ both_so (ScanFits s) true fit refl

-- the number 2 is an INT64
pub fits_two : fits ty.Int64 (value.Int (pos 2)) ≡ true
fits_two = fits_by ty.Int64 (value.Int (pos 2)) type.Int64 (v.Int (pos 2)) ty.outs-Int64 (value.outs-Int (pos 2))
