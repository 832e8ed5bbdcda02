-- Trees over one catalog: each table has the number that the catalog gives its name.
use Rattle.std.specs.Prelude.{◌≡◌, ℕ, Bool, true, nat_eq, List}
use Rattle.resolved_ast.specs.declared.rex.Rex.TheOpen.{Rex-F, Scan-F}
use Rattle.resolved_ast.specs.declared.rex.Rex.TheOpen as t
use Rattle.resolved_ast.specs.declared.scan.Scan.{Scan, fold-Scan}
use Rattle.resolved_ast.specs.declared.scan.Tree.{Tree}
use Rattle.resolved_ast.specs.Parts.{rex_parts, scan_parts, all_so}

module _ (numbers : List ℕ → ℕ) where
  abbrev pub numbered_rex : Rex-F Bool Bool → Bool
  numbered_rex other = all_so (rex_parts other)

  abbrev pub numbered_scan : Scan-F Bool Bool → Bool
  numbered_scan (t.Table name number columns) = nat_eq number (numbers name)
  numbered_scan other = all_so (scan_parts other)

  unfoldable pub is_numbered : Scan → Bool
  is_numbered = fold-Scan Bool Bool numbered_rex numbered_scan

-- the number of each table is that of its name, which the text tells
abbrev pub Numbered : (List ℕ → ℕ) → Tree → Type 0
Numbered numbers tree = is_numbered numbers tree.scan ≡ true
