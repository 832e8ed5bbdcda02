-- When a part of a tree refines a part of a text: in all environments and slots that agree.
use Rattle.std.specs.Prelude.{◌≡◌, ℕ, true, List, [], ◌∷◌, map, slice_get, Option, Some, Ok}
use Rattle.std.specs.List.{list_all}
use Rattle.sql_types.specs.declared.sql_type.SqlType.{SqlType}
use Rattle.sql_types.specs.Fits.{fits, fits_row}
use Rattle.sql_types.specs.declared.value.Value.{Value}
use Rattle.sql_types.specs.Joined.{Row}
use Rattle.sql_types.specs.Outcome.{Meaning, Below, gives, ◌>>=◌}
use Rattle.sql_ast.specs.declared.expr.Expr.{Expr}
use Rattle.sql_ast.specs.declared.query.Query.{Query}
use Rattle.sql_catalog.specs.declared.entries.Entries.{Entries}
use Rattle.sql_rules.specs.declared.scope.Entry.{Entry}
use Rattle.sql_semantics.specs.Sights.{CteColumns}
use Rattle.sql_semantics.specs.Environments.{Env, Frame, CteOutcome}
use Rattle.sql_semantics.specs.Meanings.{MeansExpr, MeansQuery, meant_of}
use Rattle.sql_semantics.specs.Types.{definitions_of}
use Rattle.resolved_ast.specs.declared.rex.Rex.{Rex}
use Rattle.resolved_ast.specs.declared.scan.Scan.{Scan}
use Rattle.resolved_ast.specs.Meanings.{TableRows, RexMeans, ScanMeans}
use Rattle.resolved_ast.specs.Slots.{Slots, bound, cte_rows, picked, value_at}
use Rattle.tree_refines.specs.Catalogs.{Fits, params_given}

-- What is in sight where a part of a text is resolved, and the numbers that the tree gives it: of each entry of each level that has a
-- column, the outermost level first, and of each query of a WITH list.
pub record Resolved : Type 0 where
  pub levels : List (List Entry)
  pub ctes : List CteColumns
  pub ids : List (List (Option ℕ))
  pub numbers : List ℕ

-- A frame has this scope; each entry with a type has a value of it, and each with a column has the value of that column.
pub record FrameAgrees (scope : List Entry) (ids : List (Option ℕ)) (frame : Frame) (slots : Slots) : Type 0 where
  pub scope_is : frame.scope ≡ scope
  pub fitting : (at : ℕ) (entry : Entry) (ty : SqlType) → slice_get scope at ≡ Some entry → entry.ty ≡ Some ty → (x : Value) × (slice_get frame.values at ≡ Some x) × (fits ty x ≡ true)
  pub values : (at id : ℕ) → slice_get ids at ≡ Some (Some id) → slice_get frame.values at ≡ Some (value_at slots.values id)

abbrev pub levels_agree : List (List Entry) → List (List (Option ℕ)) → List Frame → Slots → Type 0
levels_agree [] [] [] slots = Unit {0}
levels_agree (scope ∷ levels) (ids ∷ more) (frame ∷ frames) slots = FrameAgrees scope ids frame slots × levels_agree levels more frames slots
levels_agree _ _ _ slots = ⊥

-- A query of a WITH list has this name and these columns, an outcome of its number, and where this gives rows, rows of its columns.
pub record CteAgrees (cte : CteColumns) (number : ℕ) (outcome : CteOutcome) (slots : Slots) : Type 0 where
  pub name : outcome.name ≡ cte.name
  pub columns : outcome.columns ≡ cte.columns
  pub same : outcome.outcome ≡ cte_rows slots number
  pub fitting : (rows : List Row) → outcome.outcome ≡ Ok rows → list_all (fits_row cte.columns) rows ≡ true

abbrev pub ctes_agree : List CteColumns → List ℕ → List CteOutcome → Slots → Type 0
ctes_agree [] [] [] slots = Unit {0}
ctes_agree (cte ∷ ctes) (n ∷ numbers) (outcome ∷ outcomes) slots = CteAgrees cte n outcome slots × ctes_agree ctes numbers outcomes slots
ctes_agree _ _ _ slots = ⊥

-- an environment of what is in sight, and slots of the same values
pub record Agrees (resolved : Resolved) (env : Env) (slots : Slots) : Type 0 where
  pub levels : levels_agree resolved.levels resolved.ids env.frames slots
  pub ctes : ctes_agree resolved.ctes resolved.numbers env.ctes slots

module _ (catalog : Entries) (resolved : Resolved) where
  -- an expression of a tree refines one of a text
  abbrev pub RexRefines : Rex → Expr → Type 0
  RexRefines x expr = (tables : TableRows) (values : List Value) → Fits catalog tables values → (env : Env) (slots : Slots) → Agrees resolved env slots
      → Below (RexMeans tables (params_given catalog.params values) x slots) (MeansExpr catalog (definitions_of catalog) (meant_of catalog tables values) tables values expr env)

  -- the rows of a scan, by the numbers of these columns
  abbrev pub rows_of : TableRows → List Value → Scan → List ℕ → Slots → Meaning (List Row)
  rows_of tables values scan columns slots =
      ScanMeans tables (params_given catalog.params values) scan slots >>= (λ t. gives (map (λ row. picked columns (bound t.ids row [])) t.rows))

  -- a scan with its columns refines a query
  abbrev pub QueryRefines : Scan → List ℕ → Query → Type 0
  QueryRefines scan columns query = (tables : TableRows) (values : List Value) → Fits catalog tables values → (env : Env) (slots : Slots) → Agrees resolved env slots
      → Below (rows_of tables values scan columns slots) (MeansQuery catalog (definitions_of catalog) (meant_of catalog tables values) tables values query env)
