-- The set operations over tables.
use Rattle.std.specs.Prelude.{◌≡◌, List, [], ◌∷◌, map}
use Rattle.std.specs.List.{All}
use Rattle.sql_types.specs.declared.kinds.SetKind.{SetKind}
use Rattle.sql_types.specs.declared.rows.Rows.{Rows}
use Rattle.sql_types.specs.declared.sql_type.SqlType.{SqlType}
use Rattle.sql_types.specs.Combined.{Combined}
use Rattle.eval_rows.specs.Counts.{rows_of}

abbrev pub column_types : Rows → List SqlType
column_types operand = map (λ c. c.ty) operand.columns

-- each operand has as many columns as the first one, of equal types; the names may differ
abbrev pub Alike : List Rows → Type 0
Alike [] = Unit {0}
Alike (first ∷ others) = All (λ other. column_types other ≡ column_types first) others

-- the result has the columns of the first operand
abbrev pub HasFirstColumns : List Rows → Rows → Type 0
HasFirstColumns [] result = ⊥
HasFirstColumns (first ∷ others) result = result.columns ≡ first.columns

-- the result has the rows of the set operation over the operands
abbrev pub Combines : SetKind → List Rows → Rows → Type 0
Combines kind [] result = ⊥
Combines kind (first ∷ others) result = Combined kind first.rows (map rows_of others) result.rows
