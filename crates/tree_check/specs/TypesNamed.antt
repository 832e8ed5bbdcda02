-- The types of the columns that a list names.
use Rattle.std.specs.Prelude.{List, [], ◌∷◌, Option, None, Some}
use Rattle.sql_types.specs.declared.sql_type.SqlType.{SqlType}
use Rattle.resolved_ast.specs.declared.column.ColumnRef.{ColumnRef}
use Rattle.resolved_ast.specs.declared.column.MadeColumn.{MadeColumn}
use Rattle.resolved_ast.specs.Columns.{column_of}

abbrev pub types_named : List ColumnRef → List MadeColumn → List SqlType
types_named [] made = []
types_named (r ∷ refs) made = elim (column_of r made) [ None ↦ types_named refs made | Some c ↦ c.ty ∷ types_named refs made ]

-- the type of a column, where there is one
abbrev pub types_found : Option MadeColumn → List SqlType
types_found None = []
types_found (Some c) = c.ty ∷ []
