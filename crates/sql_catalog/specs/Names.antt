-- The names that the entries of a catalog take, and the entry of a name.
use Rattle.std.specs.Prelude.{◌≡◌, ◌<◌, ℕ, Bool, true, false, ◌||◌, List, [], ◌∷◌, ◌++◌, map, length, position, slice_get, Option, Some, None}
use Rattle.std.specs.List.{list_any, IsDistinct}
use Rattle.std.specs.Option.{option_map}
use Rattle.sql_names.specs.Words.{same_name}
use Rattle.sql_catalog.specs.declared.built_in.TheConstants.{BUILT_IN_NAMES}
use Rattle.sql_catalog.specs.declared.entries.Definition.{Definition}
use Rattle.sql_catalog.specs.declared.entries.Definition.TheVariants.{View, Function}
use Rattle.sql_catalog.specs.declared.entries.Entries.{Entries}
use Rattle.sql_catalog.specs.declared.entries.TableOrView.{TableOrView}
use Rattle.sql_catalog.specs.declared.entries.TableOrView.TheVariants as either

-- one of the names is this one; names are the same where they are equal after ASCII letters are made lower case
abbrev pub has_name : List (List ℕ) → List ℕ → Bool
has_name names name = list_any (same_name name) names

-- the names of the views
abbrev pub view_names : List Definition → List (List ℕ)
view_names [] = []
view_names (View view ∷ definitions) = view.name ∷ view_names definitions
view_names (Function function ∷ definitions) = view_names definitions

-- the names of the functions
abbrev pub function_names : List Definition → List (List ℕ)
function_names [] = []
function_names (View view ∷ definitions) = function_names definitions
function_names (Function function ∷ definitions) = function.name ∷ function_names definitions

-- Tables and views share their names.
abbrev pub names_in_from : Entries → List (List ℕ)
names_in_from entries = map (λ table. table.name) entries.tables ++ view_names entries.definitions

-- Functions have names of their own.
abbrev pub names_of_calls : Entries → List (List ℕ)
names_of_calls entries = function_names entries.definitions

-- So have parameters.
abbrev pub names_of_params : Entries → List (List ℕ)
names_of_params entries = map (λ param. param.name) entries.params

-- an operator, a function or an aggregate of the language has the name
unfoldable pub is_built_in : List ℕ → Bool
is_built_in name = has_name (map (λ word. word.now) BUILT_IN_NAMES) name

-- a table or a view can't take the name
abbrev pub taken_in_from : Entries → List ℕ → Bool
taken_in_from entries name = has_name (names_in_from entries) name

-- A function can't take the name of another one, nor one of the language.
abbrev pub taken_by_calls : Entries → List ℕ → Bool
taken_by_calls entries name = is_built_in name || has_name (names_of_calls entries) name

-- a parameter can't take the name
abbrev pub taken_by_params : Entries → List ℕ → Bool
taken_by_params entries name = has_name (names_of_params entries) name

-- Each name is taken once, and none of a function is one of the language.
pub record TakenOnce (entries : Entries) : Type 0 where
  pub in_from : IsDistinct same_name (names_in_from entries)
  pub by_calls : IsDistinct same_name (names_of_calls entries)
  pub by_params : IsDistinct same_name (names_of_params entries)
  pub own : list_any is_built_in (names_of_calls entries) ≡ false

-- the definition is a view, or a function, of this name
abbrev pub is_view_named : List ℕ → Definition → Bool
is_view_named name (View view) = same_name name view.name
is_view_named name (Function function) = false

abbrev pub is_function_named : List ℕ → Definition → Bool
is_function_named name (View view) = false
is_function_named name (Function function) = same_name name function.name

-- the table, or else the view, that has its place
abbrev pub table_or_view : Option ℕ → Option ℕ → Option TableOrView
table_or_view (Some table) view = Some (either.Table table)
table_or_view None (Some view) = Some (either.View view)
table_or_view None None = None

-- The table or view of a name, by its number among the tables or the definitions.
abbrev pub find_table : Entries → List ℕ → Option TableOrView
find_table entries name =
    table_or_view (position (λ table. same_name name table.name) entries.tables) (position (is_view_named name) entries.definitions)

-- The function of a name, by its number among the definitions.
abbrev pub find_function : Entries → List ℕ → Option ℕ
find_function entries name = position (is_function_named name) entries.definitions

-- The parameter of a name, by its number.
abbrev pub find_param : Entries → List ℕ → Option ℕ
find_param entries name = position (λ param. same_name name param.name) entries.params

-- whether a definition is a view
abbrev pub is_view : Definition → Bool
is_view (View view) = true
is_view (Function function) = false

-- Whether the definition of a number is a view. There is no answer where there is no such definition.
abbrev pub is_view_at : Entries → ℕ → Option Bool
is_view_at entries number = option_map is_view (slice_get entries.definitions number)

-- the table or view is there
abbrev pub IsThere : Entries → TableOrView → Type 0
IsThere entries (either.Table number) = number < length entries.tables
IsThere entries (either.View number) = is_view_at entries number ≡ Some true
