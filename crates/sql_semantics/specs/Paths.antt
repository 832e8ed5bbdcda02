-- Paths in expressions and in FROM.
use Rattle.std.specs.Prelude.{ℕ, zero, suc, ◌-◌, true, false, List, [], ◌∷◌, map, drop, Option, None, Some, Ok}
use Rattle.sql_types.specs.declared.sql_type.SqlType.{SqlType}
use Rattle.sql_ast.specs.declared.clauses.Name.{Name}
use Rattle.sql_ast.specs.declared.expr.Part.{Part}
use Rattle.sql_ast.specs.declared.expr.Part.TheVariants as part
use Rattle.sql_rules.specs.declared.scope.Entry.{Entry}
use Rattle.sql_rules.specs.declared.scope.Binding.{Binding}
use Rattle.sql_rules.specs.declared.scope.Found.{Found}
use Rattle.sql_rules.specs.declared.scope.Found.TheVariants.{Bound, Missing, Ambiguous}
use Rattle.sql_rules.specs.Scopes.{found, entry_at, is_range}
use Rattle.written_types.specs.Checks.{Checked, ◌>>=◌, broken}
use Rattle.sql_semantics.specs.TypeForms.{field_type, element_of}

-- the names with which the parts of a postfix begin
abbrev pub leading_names : {E : Type 0} → List (Part E) → List (List ℕ)
leading_names [] = []
leading_names (part.Field name ∷ parts) = name.text ∷ leading_names parts
leading_names (part.Index form index place ∷ parts) = []

-- a path that ends at a range variable has no value (rule 6 at the path)
abbrev pub entry_value : ℕ → Option SqlType → Checked SqlType
entry_value place None = broken 6 place
entry_value place (Some type) = Ok type

abbrev pub bound_type : ℕ → Option Entry → Checked SqlType
bound_type place None = broken 6 place
bound_type place (Some entry) = entry_value place entry.ty

-- how many of the names behind the first were used: the column of a range variable takes one
abbrev pub used_parts : Binding → ℕ
used_parts b = b.used - 1

-- What a path is: the type of what its first name, or its first two, denote, and how many of the others were used. A first
-- name that isn't found is rule 3, and an ambiguous one rule 4, both at the path.
abbrev pub path_type : ℕ → List (List Entry) → Found → Checked (SqlType × ℕ)
path_type place levels Missing = broken 3 place
path_type place levels Ambiguous = broken 4 place
path_type place levels (Bound b) = bound_type place (entry_at levels b.level b.slot) >>= (λ type. Ok (type, used_parts b))

-- ---- in FROM

-- fields, one after another
abbrev pub fields_type : SqlType → List Name → Checked SqlType
fields_type type [] = Ok type
fields_type type (name ∷ names) = field_type name type >>= (λ field. fields_type field names)

abbrev pub is_range_entry : Option Entry → Option Entry
is_range_entry None = None
is_range_entry (Some e) = elim (is_range e.what) [ true ↦ Some e | false ↦ None ]

-- A longer path in FROM begins with a range variable and a column of it. A first name that isn't one is rule 5, and a missing
-- column rule 6, at the path.
abbrev pub range_column : ℕ → List (List Entry) → Binding → ℕ → Option Entry → List Name → Checked SqlType
range_column place levels b (suc (suc zero)) entry names = bound_type place entry >>= (λ type. fields_type type names)
range_column place levels b used entry names = elim (is_range_entry entry) [ None ↦ broken 5 place | Some e ↦ broken 6 place ]

abbrev pub from_path : ℕ → List (List Entry) → Found → List Name → Checked SqlType
from_path place levels Missing names = broken 5 place
from_path place levels Ambiguous names = broken 4 place
from_path place levels (Bound b) names = range_column place levels b b.used (entry_at levels b.level b.slot) names

-- the array that a path in FROM names, by its element (rule 19 at the path)
abbrev pub path_element : ℕ → List (List Entry) → List Name → Checked SqlType
path_element place levels [] = broken 5 place
path_element place levels (first ∷ rest) =
    from_path place levels (found levels first.text (map (λ n. n.text) rest)) (drop 1 rest) >>= element_of place
