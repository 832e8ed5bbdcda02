-- What a plan of a query over one table is, and what it answers.
use Rattle.std.specs.Prelude.{◌≡◌, ℕ, Bool, true, List, [], ◌∷◌, map, filter, slice_index_or, Ok}
use Rattle.std.specs.List.{list_all}
use Rattle.sql_types.specs.declared.value.Value.{Value, out-Value}
use Rattle.sql_types.specs.declared.value.Value.TheVariants.{Null}
use Rattle.sql_types.specs.Fits.{fits_row}
use Rattle.sql_types.specs.Same.{equal}
use Rattle.sql_ast.specs.declared.query.Query.{Query}
use Rattle.sql_catalog.specs.declared.entries.Entries.{Entries}
use Rattle.sql_catalog.specs.declared.entries.TableDef.{TableDef}
use Rattle.sql_rules.specs.Typing.{TypeQuery, nothing_in_sight}
use Rattle.sql_rules.specs.Meaning.{truth, is_true, Permits}
use Rattle.small_run.specs.declared.form.Plan.{Plan}

-- the catalog with this table alone
abbrev pub one : TableDef → Entries
one t = record { tables = t ∷ []; definitions = []; params = [] }

-- a row's values at these places
abbrev pub picked : List ℕ → List Value → List Value
picked slots row = map (λ slot. slice_index_or row slot Null) slots

-- whether it is TRUE that the value at the place equals the literal
abbrev pub passes : ℕ → Value → List Value → Bool
passes test literal row = is_true (out-Value (truth (equal (slice_index_or row test Null) literal)))

-- the rows that pass, each with the values at the plan's places
abbrev pub answers : Plan → List (List Value) → List (List Value)
answers plan rows = map (picked plan.slots) (filter (passes plan.test plan.literal) rows)

-- the plan of a query over this table
pub record Plans (t : TableDef) (q : Query) (p : Plan) : Type 0 where
  -- the query has the plan's columns
  pub checked : TypeQuery (one t) q nothing_in_sight ≡ Ok p.columns
  -- what the plan answers is permitted, whatever rows the table has
  pub permitted : (rows : List (List Value)) → list_all (fits_row t.columns) rows ≡ true → Permits (one t) (rows ∷ []) q (Ok (answers p rows))
  -- each row that it answers fits the columns
  pub fits : (row : List Value) → fits_row t.columns row ≡ true → fits_row p.columns (picked p.slots row) ≡ true
