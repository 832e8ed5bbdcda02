-- What is said of the parts of a query over one table.
use Rattle.std.specs.Prelude.{◌≡◌, ℕ, ◌<◌, Bool, true, false, not, ◌&&◌, List, [], ◌∷◌, length, slice_index_or, Option, None, Some, is_none, Result, Ok, Err}
use Rattle.std.specs.List.{list_all}
use Rattle.sql_types.specs.declared.sql_type.Named.{Named}
use Rattle.sql_types.specs.declared.sql_type.SqlType.{SqlType}
use Rattle.sql_types.specs.declared.value.Value.{Value}
use Rattle.sql_types.specs.declared.value.Value.TheVariants.{Null}
use Rattle.sql_types.specs.Fits.{fits, fits_row}
use Rattle.sql_types.specs.Same.{equal}
use Rattle.sql_types.specs.Outcome.{Meaning}
use Rattle.sql_ast.specs.declared.clauses.Item.{Item}
use Rattle.sql_ast.specs.declared.clauses.Item.TheVariants as item
use Rattle.sql_ast.specs.declared.expr.Comparison.{Comparison}
use Rattle.sql_ast.specs.declared.expr.Expr.{Expr, out-Expr}
use Rattle.sql_ast.specs.declared.expr.Expr.TheOpen as ast
use Rattle.sql_ast.specs.declared.expr.Expr.TheOpen.{Primary-F, Term-F, Query-F, Select-F}
use Rattle.sql_ast.specs.declared.query.FromItem.{FromItem}
use Rattle.sql_ast.specs.declared.query.Primary.{Primary}
use Rattle.sql_ast.specs.declared.query.Query.{Query}
use Rattle.sql_ast.specs.declared.query.Select.{Select}
use Rattle.sql_catalog.specs.declared.entries.Entries.{Entries}
use Rattle.sql_catalog.specs.declared.entries.TableDef.{TableDef}
use Rattle.sql_rules.specs.declared.scope.Entry.{Entry}
use Rattle.sql_rules.specs.declared.scope.Found.TheVariants.{Bound}
use Rattle.sql_rules.specs.Scopes.{found}
use Rattle.sql_rules.specs.Tables.{Tables, table_scope, table_values}
use Rattle.sql_rules.specs.Typing.{Checked, Sight, inside, nothing_in_sight, literal, name_type, is_literal, items_layer, item_layer, filter_layer, select_of, typed, TypeExpr, TypeFrom, TypePrimary, TypeSelect, TypeQuery}
use Rattle.sql_rules.specs.Meaning.{Env, within, empty_env, truth, Row, table_frames, item_means, row_means, select_means_of, meant, MeansExpr, MeansFrom, MeansPrimary, MeansSelect}
use Rattle.small_run.specs.declared.form.NoPlan.{NoPlan}
use Rattle.small_run.specs.declared.form.NoPlan.TheVariants.{OtherForm, OutOfMemory}
use Rattle.small_run.specs.declared.form.Plan.{Plan}
use Rattle.small_run.specs.declared.parts.Literal.{Literal}
use Rattle.small_run.specs.declared.parts.Test.{Test}
use Rattle.small_run.specs.declared.parts.Picked.{Picked}
use Rattle.small_run.specs.declared.parts.Selected.{Selected}
use Rattle.small_run.specs.Plans.{one, picked, answers, Plans}

-- a rule is broken
abbrev pub Refused : {A : Type 0} → Checked A → Type 0
Refused checked = (broken : ℕ × ℕ) × (checked ≡ Err broken)

-- what planning a part answers: what is said of the part, or that its form is another one, or that memory ran out
abbrev pub Made : {A : Type 0} → (A → Type 0) → Type 0 → Result A NoPlan → Type 0
Made Said other (Ok part) = Said part
Made Said other (Err OtherForm) = other
Made Said other (Err OutOfMemory) = Unit {0}

-- ---- what is in sight in WHERE and in the select list

abbrev pub scope_of : TableDef → List Entry
scope_of t = table_scope t.name t.columns

abbrev pub sight_of : TableDef → Sight
sight_of t = inside nothing_in_sight (scope_of t)

-- the environment at a row of the table
abbrev pub env_of : TableDef → List Value → Env
env_of t row = within empty_env (record { scope = scope_of t; values = table_values row })

-- ---- names

-- the place, if there is just one
abbrev pub only : List ℕ → Option ℕ
only [] = None
only (place ∷ []) = Some place
only (place ∷ other ∷ more) = None

-- the name is bound to the table's column at this place
pub record IsColumn (t : TableDef) (name : List ℕ) (slot : ℕ) : Type 0 where
  pub bound : found (scope_of t ∷ []) name [] ≡ Bound (record { level = 0; slot = slot; used = 1 })
  pub within : slot < length t.columns

-- the name is bound to a column, or it has no type
abbrev pub NamesColumn : TableDef → List ℕ → Option ℕ → Type 0
NamesColumn t name (Some slot) = IsColumn t name slot
NamesColumn t name None = (place : ℕ) → Refused (name_type place (scope_of t ∷ []) (found (scope_of t ∷ []) name []))

-- ---- select items, items of FROM, and literals

-- an expression without an alias
abbrev pub is_plain : Item Expr → Bool
is_plain (item.Expr e None place) = true
is_plain _ = false

-- a name of a table alone
abbrev pub is_table_name : {E P T F J Q S : Type 0} → Primary-F E P T F J Q S → Bool
is_table_name (ast.Table name None None place) = true
is_table_name _ = false

pub record IsLiteral (e : Expr) (l : Literal) : Type 0 where
  pub is : is_literal (out-Expr e) ≡ true
  pub checked : (catalog : Entries) (sight : Sight) → TypeExpr catalog e sight ≡ literal l.ty l.value
  pub means : (catalog : Entries) (tables : Tables) (env : Env) → MeansExpr catalog tables e env (Ok l.value)

-- ---- WHERE

-- the condition is typed, and at each row of the table it compares the value at a place with a literal
pub record Tests (t : TableDef) (e : Expr) (test : Test) : Type 0 where
  pub checked : filter_layer (one t) (typed (one t)) e (sight_of t) ≡ Ok tt
  pub means : (tables : Tables) (row : List Value) → fits_row t.columns row ≡ true →
      MeansExpr (one t) tables e (env_of t row) (Ok (truth (equal (slice_index_or row test.place Null) test.literal)))

-- whether the condition is typed, by what planning it answers
abbrev pub MakesTest : TableDef → Expr → Result Test NoPlan → Type 0
MakesTest t e result = Made (Tests t e) (Refused (filter_layer (one t) (typed (one t)) e (sight_of t))) result

-- a comparison of these operands
abbrev pub MakesComparison : TableDef → Expr → Comparison → Expr → Result Test NoPlan → Type 0
MakesComparison t left operator right result =
    (e : Expr) (operator_place place : ℕ) → out-Expr e ≡ ast.Compare left operator operator_place right place → MakesTest t e result

-- ---- the select list

-- the item is typed, and at each row of the table it is the fitting value at a place
pub record Picks (t : TableDef) (i : Item Expr) (p : Picked) : Type 0 where
  pub checked : item_layer (one t) (typed (one t)) i (sight_of t) ≡ Ok p.column
  pub means : (tables : Tables) (row : List Value) → fits_row t.columns row ≡ true →
      item_means (one t) tables (meant (one t) tables) i (env_of t row) (Ok (slice_index_or row p.slot Null))
  pub fits : (row : List Value) → fits_row t.columns row ≡ true → fits p.column.ty (slice_index_or row p.slot Null) ≡ true

-- the same of all items
pub record Selects (t : TableDef) (items : List (Item Expr)) (s : Selected) : Type 0 where
  pub checked : items_layer (one t) (typed (one t)) items (sight_of t) ≡ Ok s.columns
  pub means : (tables : Tables) (row : List Value) → fits_row t.columns row ≡ true →
      row_means (one t) tables (meant (one t) tables) items (env_of t row) (Ok (picked s.slots row))
  pub fits : (row : List Value) → fits_row t.columns row ≡ true → fits_row s.columns (picked s.slots row) ≡ true

-- ---- FROM, SELECT and the query

-- no part but FROM, WHERE and the select list
abbrev pub plain_parts : {E P T F J Q S : Type 0} → Select-F E P T F J Q S → Bool
plain_parts s = not s.distinct && not s.as_struct && is_none s.grouping && is_none s.having

abbrev pub is_select : {E P T F J Q S : Type 0} → Term-F E P T F J Q S → Bool
is_select (ast.Select select) = true
is_select _ = false

abbrev pub is_empty : {A : Type 0} → List A → Bool
is_empty [] = true
is_empty (x ∷ xs) = false

-- one term, without WITH, ORDER BY and LIMIT
abbrev pub one_term : {E P T F J Q S : Type 0} → Query-F E P T F J Q S → Bool
one_term q = is_empty q.ctes && is_empty q.body.rest && is_empty q.order && is_none q.limit

-- the item of FROM is the table
pub record IsPrimary (t : TableDef) (primary : Primary) : Type 0 where
  pub checked : TypePrimary (one t) primary nothing_in_sight ≡ Ok (scope_of t)
  pub means : (rows : List (List Value)) → MeansPrimary (one t) (rows ∷ []) primary empty_env (Ok (table_frames (one t) (rows ∷ []) t rows))

-- what follows FROM is the table
pub record IsTable (t : TableDef) (from : FromItem) : Type 0 where
  pub checked : TypeFrom (one t) from nothing_in_sight ≡ Ok (scope_of t)
  pub means : (rows : List (List Value)) → MeansFrom (one t) (rows ∷ []) from empty_env (Ok (table_frames (one t) (rows ∷ []) t rows))

-- the plan of a text of this type and this meaning over the table
pub record PlansText (t : TableDef) (type : Checked (List (Named SqlType))) (means : Tables → Meaning (List Row)) (p : Plan) : Type 0 where
  pub checked : type ≡ Ok p.columns
  pub permitted : (rows : List (List Value)) → list_all (fits_row t.columns) rows ≡ true → means (rows ∷ []) (Ok (answers p rows))
  pub fits : (row : List Value) → fits_row t.columns row ≡ true → fits_row p.columns (picked p.slots row) ≡ true

-- what planning a text of this type and this meaning answers
abbrev pub MakesPlan : TableDef → Checked (List (Named SqlType)) → (Tables → Meaning (List Row)) → Result Plan NoPlan → Type 0
MakesPlan t type means result = Made (PlansText t type means) (Refused type) result

-- FROM, WHERE and a select list
abbrev pub MakesParts : TableDef → FromItem → Expr → List (Item Expr) → Result Plan NoPlan → Type 0
MakesParts t from test items result =
    MakesPlan t (select_of (one t) (typed (one t)) from test items nothing_in_sight)
    (λ tables. select_means_of (one t) tables (meant (one t) tables) from test items empty_env) result

abbrev pub MakesSelect : TableDef → Select → Result Plan NoPlan → Type 0
MakesSelect t select result = MakesPlan t (TypeSelect (one t) select nothing_in_sight) (λ tables. MeansSelect (one t) tables select empty_env) result

abbrev pub MakesQuery : TableDef → Query → Result Plan NoPlan → Type 0
MakesQuery t q result = Made (Plans t q) (Refused (TypeQuery (one t) q nothing_in_sight)) result
