-- What the code holds of the columns and the queries in sight, as the lists that it stands for.
use Rattle.std.specs.Prelude.{List, [], ◌∷◌, ◌++◌}
use Rattle.resolved_ast.specs.declared.column.MadeColumn.{MadeColumn}
use Rattle.resolved_ast.specs.Columns.{columns}
use Rattle.resolved_ast.specs.Flaws as flaws
use Rattle.resolved_ast.specs.Parts.{there}
use Rattle.tree_check.specs.TypesNamed.{types_named}
use Rattle.tree_check.specs.declared.sight.CteInSight.{CteInSight}
use Rattle.tree_check.specs.declared.sight.InSight.{InSight}
use Rattle.tree_check.specs.declared.sight.Source.{Source}
use Rattle.tree_check.specs.declared.sight.Source.TheVariants as source

-- the columns of a scan, and single ones
abbrev pub source_columns : Source → List MadeColumn
source_columns (source.Rows scan) = columns scan.now
source_columns (source.Column column) = column.now ∷ []
source_columns (source.Optional column) = there column.now

abbrev pub columns_of : List Source → List MadeColumn
columns_of [] = []
columns_of (s ∷ sources) = source_columns s ++ columns_of sources

-- a query of a WITH list: its number, and the types of its columns
abbrev pub cte_of : CteInSight → flaws.CteSeen
cte_of c = record { number = c.number; types = types_named c.columns.now (source_columns c.scan) }

-- the newest query stands last in the code
abbrev pub ctes_of : List CteInSight → List flaws.CteSeen
ctes_of [] = []
ctes_of (c ∷ ctes) = ctes_of ctes ++ cte_of c ∷ []

abbrev pub sight_of : InSight → flaws.Sight
sight_of sight = record { inner = columns_of sight.inner.now; outer = columns_of sight.outer.now; ctes = ctes_of sight.ctes.now }
