-- The rows of FROM: bindings, each with a value per entry of the scope that FROM brings.
use Rattle.std.specs.Prelude.{ℕ, suc, Bool, true, false, ◌&&◌, List, [], ◌∷◌, ◌++◌, map, take, drop, length, slice_index_or, Option, None, Some, Ok, Err}
use Rattle.sql_types.specs.declared.kinds.JoinKind.{JoinKind}
use Rattle.sql_types.specs.declared.kinds.JoinKind.TheVariants as kind
use Rattle.sql_types.specs.declared.sql_type.Named.{Named}
use Rattle.sql_types.specs.declared.sql_type.SqlType.{SqlType, out-SqlType}
use Rattle.sql_types.specs.declared.value.Value.{Value, out-Value}
use Rattle.sql_types.specs.declared.value.Value.TheVariants as value
use Rattle.sql_types.specs.Before.{is_null}
use Rattle.sql_types.specs.Same.{equal}
use Rattle.sql_types.specs.Joined.{Pairs, met, padded_right}
use Rattle.sql_types.specs.Outcome.{Meaning, gives, just, ◌>>=◌, Gather}
use Rattle.sql_types.specs.Takes.{count_value, elements}
use Rattle.sql_ast.specs.declared.clauses.WithOffset.{WithOffset}
use Rattle.sql_ast.specs.declared.query.JoinWord.{JoinWord}
use Rattle.sql_ast.specs.declared.query.JoinWord.TheVariants as join
use Rattle.sql_coerce.specs.Casts.{converted}
use Rattle.sql_rules.specs.declared.scope.Entry.{Entry}
use Rattle.sql_semantics.specs.Environments.{Row}
use Rattle.sql_semantics.specs.FromScopes.{UsingColumn, fields_layer, entry_type}
use Rattle.sql_semantics.specs.MeansForms.{field_values}
use Rattle.sql_forms.specs.Conditions.{is_true}

-- a range variable stands behind the columns, and has no value
abbrev pub with_range : Option (List ℕ) → Row → Row
with_range None row = row
with_range (Some range) row = row ++ value.Null ∷ []

-- ---- UNNEST and paths

-- the fields of a STRUCT element stand behind it
abbrev pub with_fields : Option (List (Named SqlType)) → Value → Row
with_fields None x = x ∷ []
with_fields (Some fields) x = x ∷ field_values (length fields) (out-Value x)

-- the offset counts from 0; one that INT64 doesn't hold is OUT_OF_RANGE
abbrev pub with_offset : Option WithOffset → ℕ → Row → Meaning Row
with_offset None place row = gives row
with_offset (Some offset) place row = just (count_value place) >>= (λ n. gives (row ++ n ∷ []))

-- a row for each element, from a place on
abbrev pub element_rows : SqlType → Option WithOffset → ℕ → List Value → List (Meaning Row)
element_rows type offset place [] = []
element_rows type offset place (x ∷ xs) = with_offset offset place (with_fields (fields_layer (out-SqlType type)) x) ∷ element_rows type offset (suc place) xs

-- UNNEST of NULL or of nothing gives no row
abbrev pub unnested : SqlType → Option WithOffset → Value → Meaning (List Row)
unnested type offset array = Gather (element_rows type offset 0 (elements array))

-- ---- joins

abbrev pub join_kind : JoinWord → JoinKind
join_kind join.Comma = kind.Cross
join_kind join.Cross = kind.Cross
join_kind join.Inner = kind.Inner
join_kind join.Left = kind.Left
join_kind join.Right = kind.Right
join_kind join.Full = kind.Full

-- the pairs for which the test is TRUE
abbrev pub true_of : List Value → List Bool
true_of tests = map is_true tests

-- ---- USING

-- a value in the type in which both columns are compared
abbrev pub in_common : SqlType → SqlType → Value → Value
in_common from to x = elim (converted from to x) [ Ok y ↦ y | Err f ↦ value.Null ]

-- the two columns of a USING name in a pair of rows, in their supertype
abbrev pub left_value : List Entry → UsingColumn → Row → Value
left_value scope c row = in_common (entry_type scope c.left) c.ty (slice_index_or row c.left value.Null)

abbrev pub right_value : List Entry → UsingColumn → Row → Value
right_value scope c row = in_common (entry_type scope c.right) c.ty (slice_index_or row c.right value.Null)

abbrev pub is_equal : Option Bool → Bool
is_equal None = false
is_equal (Some b) = b

-- all columns are equal
abbrev pub using_test : List Entry → List Entry → List UsingColumn → Row → Row → Bool
using_test lefts rights [] left right = true
using_test lefts rights (c ∷ using) left right = is_equal (equal (left_value lefts c left) (right_value rights c right)) && using_test lefts rights using left right

-- the left value for INNER and LEFT, the right value for RIGHT, and for FULL the first that isn't NULL
abbrev pub using_value : JoinKind → Value → Value → Value
using_value kind.Right left right = right
using_value kind.Full left right = elim (is_null (out-Value left)) [ true ↦ right | false ↦ left ]
using_value k left right = left

-- a joined row, which is a left row and a right one, and behind it the columns of USING
abbrev pub using_values : JoinKind → List Entry → List Entry → List UsingColumn → Row → Row → List Value
using_values k lefts rights [] left right = []
using_values k lefts rights (c ∷ using) left right = using_value k (left_value lefts c left) (right_value rights c right) ∷ using_values k lefts rights using left right

abbrev pub with_using : JoinKind → List Entry → List Entry → List UsingColumn → Row → Row
with_using k lefts rights using row = row ++ using_values k lefts rights using (take (length lefts) row) (drop (length lefts) row)
