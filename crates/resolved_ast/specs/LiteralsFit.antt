-- Trees whose Literals have values of their types: these can be printed.
use Rattle.std.specs.Prelude.{Bool, List, map}
use Rattle.sql_types.specs.Fits.{fits}
use Rattle.resolved_ast.specs.declared.rex.Rex.{Rex, fold-Rex}
use Rattle.resolved_ast.specs.declared.rex.Rex.TheOpen.{Rex-F, Scan-F}
use Rattle.resolved_ast.specs.declared.rex.Rex.TheOpen as t
use Rattle.resolved_ast.specs.declared.scan.Scan.{Scan, fold-Scan}
use Rattle.resolved_ast.specs.Parts.{rex_parts, scan_parts, all_so}

abbrev pub rex_fit : Rex-F Bool Bool → Bool
rex_fit (t.Literal value ty) = fits ty value
rex_fit other = all_so (rex_parts other)

abbrev pub scan_fit : Scan-F Bool Bool → Bool
scan_fit other = all_so (scan_parts other)

unfoldable pub RexFits : Rex → Bool
RexFits = fold-Rex Bool Bool rex_fit scan_fit

unfoldable pub ScanFits : Scan → Bool
ScanFits = fold-Scan Bool Bool rex_fit scan_fit

-- of each of several
abbrev pub each_fits : {A : Type 0} → (A → Bool) → List A → Bool
each_fits fit xs = all_so (map fit xs)
