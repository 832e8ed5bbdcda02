-- When each outcome of one text or tree is an outcome of another.
use Rattle.std.specs.Prelude.{◌≡◌, List}
use Rattle.sql_types.specs.declared.rows.Param.{Param}
use Rattle.sql_types.specs.declared.value.Value.{Value}
use Rattle.sql_types.specs.Outcome.{Below}
use Rattle.sql_ast.specs.declared.query.Query.{Query}
use Rattle.sql_catalog.specs.declared.entries.Entries.{Entries}
use Rattle.sql_semantics.specs.Meanings.{Permits}
use Rattle.resolved_ast.specs.declared.scan.Tree.{Tree}
use Rattle.resolved_ast.specs.Fitting.{Fitting}
use Rattle.resolved_ast.specs.Meanings.{TableRows, TreeMeans}
use Rattle.resolved_ast.specs.Slots.{Slots, empty_slots}
use Rattle.tree_refines.specs.Catalogs.{Fits, params_given}

-- A tree refines a query: for all rows of the catalog's tables and all values of its parameters, of their types, each outcome
-- of the tree is permitted to the query.
abbrev pub Refines : Entries → Tree → Query → Type 0
Refines catalog tree query = (tables : TableRows) (values : List Value) → Fits catalog tables values
    → Below (TreeMeans tables (params_given catalog.params values) tree empty_slots) (Permits catalog tables values query)

-- A new tree refines an old one: the outputs are the same, and over all tables and parameters that fit the old one, which fit the
-- new one as well, each outcome of the new one is one of the old one, whatever the slots.
pub record TreeRefines (new old : Tree) : Type 0 where
  pub outputs : new.outputs ≡ old.outputs
  pub fitting : (tables : TableRows) (params : List Param) → Fitting old tables params → Fitting new tables params
  pub outcomes : (tables : TableRows) (params : List Param) → Fitting old tables params → (slots : Slots) → Below (TreeMeans tables params new slots) (TreeMeans tables params old slots)

-- A query refines a tree: over all tables and parameters that fit the tree, each outcome that the query is permitted is one of
-- the tree.
abbrev pub TextRefines : Entries → Query → Tree → Type 0
TextRefines catalog query tree = (tables : TableRows) (values : List Value) → Fitting tree tables (params_given catalog.params values)
    → Below (Permits catalog tables values query) (TreeMeans tables (params_given catalog.params values) tree empty_slots)
