-- What the names of a catalog denote.
use Rattle.std.specs.Prelude.{ℕ, if◌then◌else◌, List, [], ◌∷◌, Option, None, Some}
use Rattle.sql_types.specs.declared.sql_type.Named.{Named}
use Rattle.sql_types.specs.declared.sql_type.SqlType.{SqlType}
use Rattle.sql_names.specs.Words.{same_name}
use Rattle.sql_catalog.specs.declared.entries.Definition.{Definition}
use Rattle.sql_catalog.specs.declared.entries.Definition.TheVariants.{View, Function}
use Rattle.sql_catalog.specs.declared.entries.Entries.{Entries}
use Rattle.sql_catalog.specs.declared.entries.ParamDef.{ParamDef}
use Rattle.sql_catalog.specs.declared.entries.TableDef.{TableDef}
use Rattle.written_types.specs.Checks.{Checked}
use Rattle.sql_semantics.specs.TypeCalls.{Defined, a_view}

-- the columns of the table of a name
abbrev pub table_among : List TableDef → List ℕ → Option (List (Named SqlType))
table_among [] name = None
table_among (t ∷ tables) name = if same_name t.name name then Some t.columns else table_among tables name

abbrev pub table_of : Entries → List ℕ → Option (List (Named SqlType))
table_of catalog name = table_among catalog.tables name

-- of the definitions in sight, each with how it is typed, the view of a name
abbrev pub view_among : List Definition → List Defined → List ℕ → Option (Checked (List (Named SqlType)))
view_among [] typed name = None
view_among (d ∷ definitions) [] name = None
view_among (View v ∷ definitions) (a_view columns ∷ typed) name = if same_name v.name name then Some columns else view_among definitions typed name
view_among (d ∷ definitions) (x ∷ typed) name = view_among definitions typed name

abbrev pub view_of : Entries → List Defined → List ℕ → Option (Checked (List (Named SqlType)))
view_of catalog typed name = view_among catalog.definitions typed name

-- and the function of a name
abbrev pub function_among : List Definition → List Defined → List ℕ → Option Defined
function_among [] typed name = None
function_among (d ∷ definitions) [] name = None
function_among (Function f ∷ definitions) (x ∷ typed) name = if same_name f.name name then Some x else function_among definitions typed name
function_among (View v ∷ definitions) (x ∷ typed) name = function_among definitions typed name

abbrev pub function_of : Entries → List Defined → List ℕ → Option Defined
function_of catalog typed name = function_among catalog.definitions typed name

-- the type of the parameter of a name
abbrev pub param_among : List ParamDef → List ℕ → Option SqlType
param_among [] name = None
param_among (p ∷ params) name = if same_name p.name name then Some p.ty else param_among params name

abbrev pub param_type : Entries → List ℕ → Option SqlType
param_type catalog name = param_among catalog.params name
