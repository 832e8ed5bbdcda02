-- References to columns, and the first column that is referred to and has a type that a test takes.
use Rattle.std.specs.Prelude.{◌==◌, Bool, true, false, ◌&&◌, ◌||◌, if◌then◌else◌, List, [], ◌∷◌, Option, None, Some}
use Rattle.sql_types.specs.declared.sql_type.SqlType.{SqlType}
use Rattle.sql_types.specs.SameType.{same_label}
use Rattle.resolved_ast.specs.declared.column.ColumnRef.{ColumnRef}
use Rattle.resolved_ast.specs.declared.column.MadeColumn.{MadeColumn}
use Rattle.resolved_ast.specs.Columns.{is_named}

-- they have the same number and name
abbrev pub refers : ColumnRef → ColumnRef → Bool
refers r s = (r.id.0 == s.id.0) && same_label r.name s.name

-- one of the list does
abbrev pub names : ColumnRef → List ColumnRef → Bool
names r [] = false
names r (s ∷ refs) = refers r s || names r refs

abbrev pub first_such : ColumnRef → (SqlType → Bool) → List MadeColumn → Option MadeColumn
first_such r test [] = None
first_such r test (c ∷ columns) = if is_named r c && test c.ty then Some c else first_such r test columns

-- the first, or else the second
abbrev pub or_else : {A : Type 0} → Option A → Option A → Option A
or_else None other = other
or_else (Some x) other = Some x

-- where something holds
abbrev pub where_so : {A : Type 0} → Bool → Option A → Option A
where_so true found = found
where_so false found = None
