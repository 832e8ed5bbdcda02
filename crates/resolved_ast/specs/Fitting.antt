-- Base trees, and the tables and parameters over which a tree can be evaluated.
use Rattle.std.specs.Prelude.{◌≡◌, ℕ, Bool, true, false, if◌then◌else◌, List, [], ◌∷◌, ◌++◌, map, slice_get, None, Some, Ok}
use Rattle.std.specs.List.{list_all}
use Rattle.sql_types.specs.declared.rows.Param.{Param}
use Rattle.sql_types.specs.declared.sql_type.Named.{Named}
use Rattle.sql_types.specs.declared.sql_type.SqlType.{SqlType}
use Rattle.sql_types.specs.Fits.{fits, fits_row}
use Rattle.sql_types.specs.Joined.{Row}
use Rattle.sql_types.specs.Parted.{Each}
use Rattle.sql_types.specs.Takes.{fits_types}
use Rattle.sql_names.specs.Words.{same_name}
use Rattle.resolved_ast.specs.declared.column.MadeColumn.{MadeColumn}
use Rattle.resolved_ast.specs.declared.rex.Rex.TheOpen.{Rex-F, Scan-F}
use Rattle.resolved_ast.specs.declared.rex.Rex.TheOpen as t
use Rattle.resolved_ast.specs.declared.scan.Scan.{Scan, fold-Scan}
use Rattle.resolved_ast.specs.declared.scan.Tree.{Tree}
use Rattle.resolved_ast.specs.Flaws.{Sight, cte_types}
use Rattle.resolved_ast.specs.Meanings.{TableRows}
use Rattle.resolved_ast.specs.Parts.{rex_parts, scan_parts, all_so}
use Rattle.resolved_ast.specs.Slots.{Slots, value_at, cte_rows}

-- ---- base trees

-- Every node that there is so far stands in a base tree.
abbrev pub base_rex : Rex-F Bool Bool → Bool
base_rex other = all_so (rex_parts other)

abbrev pub base_scan : Scan-F Bool Bool → Bool
base_scan other = all_so (scan_parts other)

unfoldable pub is_base : Scan → Bool
is_base = fold-Scan Bool Bool base_rex base_scan

abbrev pub Base : Tree → Type 0
Base tree = is_base tree.scan ≡ true

-- ---- tables and parameters

abbrev pub named : List MadeColumn → List (Named SqlType)
named columns = map (λ c. record { name = c.name; ty = c.ty }) columns

-- the table is there, and each of its rows has one fitting value per column
abbrev pub table_fits : TableRows → ℕ → List MadeColumn → Bool
table_fits tables number columns = elim (slice_get tables number) [ None ↦ false | Some rows ↦ list_all (fits_row (named columns)) rows ]

-- the parameter is there, and its value fits the type
abbrev pub param_fits : List Param → List ℕ → SqlType → Bool
param_fits [] name type = false
param_fits (p ∷ params) name type = if same_name p.name name then fits type p.value else param_fits params name type

module _ (tables : TableRows) (params : List Param) where
  abbrev pub fitting_rex : Rex-F Bool Bool → Bool
  fitting_rex (t.Parameter name ty) = param_fits params name ty
  fitting_rex other = all_so (rex_parts other)

  abbrev pub fitting_scan : Scan-F Bool Bool → Bool
  fitting_scan (t.Table name number columns) = table_fits tables number columns
  fitting_scan other = all_so (scan_parts other)

  unfoldable pub is_fitting : Scan → Bool
  is_fitting = fold-Scan Bool Bool fitting_rex fitting_scan

-- each Table and Parameter node finds rows and values of its types
abbrev pub Fitting : Tree → TableRows → List Param → Type 0
Fitting tree tables params = is_fitting tables params tree.scan ≡ true

-- ---- slots

-- Slots fit what is in sight: each column has a value of its type, and each query of a WITH list rows of its types, where it
-- has rows. Slots fit a whole tree, which sees nothing outside of itself, whatever they hold.
pub record SlotsFit (sight : Sight) (slots : Slots) : Type 0 where
  pub values : Each (λ (c : MadeColumn). fits c.ty (value_at slots.values c.id.0) ≡ true) (sight.inner ++ sight.outer)
  pub ctes : (number : ℕ) (types : List SqlType) (rows : List Row) → cte_types number sight.ctes ≡ Some types → cte_rows slots number ≡ Ok rows
      → list_all (fits_types types) rows ≡ true
