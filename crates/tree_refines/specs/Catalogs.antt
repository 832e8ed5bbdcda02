-- The tables and parameters of a catalog: which rows and values it lets them have.
use Rattle.std.specs.Prelude.{◌≡◌, true, List, [], ◌∷◌}
use Rattle.std.specs.List.{list_all}
use Rattle.sql_types.specs.declared.rows.Param.{Param}
use Rattle.sql_types.specs.declared.value.Value.{Value}
use Rattle.sql_types.specs.Fits.{fits, fits_row}
use Rattle.sql_types.specs.Joined.{Row}
use Rattle.sql_catalog.specs.declared.entries.Entries.{Entries}
use Rattle.sql_catalog.specs.declared.entries.ParamDef.{ParamDef}
use Rattle.sql_catalog.specs.declared.entries.TableDef.{TableDef}

-- each table has rows of its columns
abbrev pub tables_fit : List TableDef → List (List Row) → Type 0
tables_fit [] [] = Unit {0}
tables_fit [] (rows ∷ more) = ⊥
tables_fit (t ∷ tables) [] = ⊥
tables_fit (t ∷ tables) (rows ∷ more) = (list_all (fits_row t.columns) rows ≡ true) × tables_fit tables more

-- each parameter has a value of its type
abbrev pub params_fit : List ParamDef → List Value → Type 0
params_fit [] [] = Unit {0}
params_fit [] (v ∷ values) = ⊥
params_fit (p ∷ params) [] = ⊥
params_fit (p ∷ params) (v ∷ values) = (fits p.ty v ≡ true) × params_fit params values

-- Rows for all tables of the catalog and values for all its parameters, of the declared types, whatever values stand in it.
pub record Fits (catalog : Entries) (tables : List (List Row)) (values : List Value) : Type 0 where
  pub rows : tables_fit catalog.tables tables
  pub params : params_fit catalog.params values

-- the parameters of the catalog with these values
abbrev pub params_given : List ParamDef → List Value → List Param
params_given [] values = []
params_given (p ∷ params) [] = []
params_given (p ∷ params) (v ∷ values) = record { name = p.name; ty = p.ty; value = v } ∷ params_given params values
