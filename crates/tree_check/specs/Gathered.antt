-- The numbers of columns that a part uses, or makes.
use Rattle.std.specs.Prelude.{ℕ, List, []}
use Rattle.resolved_ast.specs.declared.rex.Rex.{Rex, fold-Rex}
use Rattle.resolved_ast.specs.declared.rex.Rex.TheOpen.{Rex-F, Scan-F}
use Rattle.resolved_ast.specs.declared.scan.Scan.{Scan, fold-Scan}
use Rattle.resolved_ast.specs.Columns.{rex_uses, scan_uses, rex_makes, scan_makes}
use Rattle.tree_check.specs.declared.gathering.Gathering.{Gathering}
use Rattle.tree_check.specs.declared.gathering.Gathering.TheVariants as gathering

abbrev pub rex_gathered : Gathering → Rex-F (List ℕ) (List ℕ) → List ℕ
rex_gathered gathering.Uses = rex_uses
rex_gathered gathering.Makes = rex_makes

abbrev pub scan_gathered : Gathering → Scan-F (List ℕ) (List ℕ) → List ℕ
scan_gathered gathering.Uses = scan_uses
scan_gathered gathering.Makes = scan_makes

unfoldable pub RexNumbers : Gathering → Rex → List ℕ
RexNumbers what = fold-Rex (List ℕ) (List ℕ) (rex_gathered what) (scan_gathered what)

unfoldable pub ScanNumbers : Gathering → Scan → List ℕ
ScanNumbers what = fold-Scan (List ℕ) (List ℕ) (rex_gathered what) (scan_gathered what)

-- what is gathered of columns that are used, and of those that are made
abbrev pub used : Gathering → List ℕ → List ℕ
used gathering.Uses ids = ids
used gathering.Makes ids = []

abbrev pub made : Gathering → List ℕ → List ℕ
made gathering.Uses ids = []
made gathering.Makes ids = ids
