-- The types of what aggregates answer.
use Rattle.std.specs.Prelude.{List, [], ◌∷◌}
use Rattle.sql_types.specs.declared.sql_type.SqlType.{SqlType}
use Rattle.sql_types.specs.declared.sql_type.SqlType.TheVariants as ty
use Rattle.sql_aggregates.specs.declared.call.AggName.{AggName}
use Rattle.sql_aggregates.specs.declared.call.AggName.TheVariants as name

abbrev pub first_type : List SqlType → SqlType
first_type [] = ty.Int64
first_type (type ∷ types) = type

-- the type of what an aggregate answers over arguments of these types
abbrev pub answer_type : AggName → List SqlType → SqlType
-- the counts
answer_type name.Count types = ty.Int64
answer_type name.CountIf types = ty.Int64
-- a total, and one of the values, have the type of the values
answer_type name.Sum types = first_type types
answer_type name.Min types = first_type types
answer_type name.Max types = first_type types
answer_type name.AnyValue types = first_type types
-- truth values
answer_type name.LogicalAnd types = ty.Bool
answer_type name.LogicalOr types = ty.Bool
answer_type name.StringAgg types = ty.Text
answer_type name.ArrayAgg types = ty.Array (first_type types)
