-- The limit that a query is above.
use Rattle.std.specs.Prelude.{Option, None, Some}
use Rattle.sql_ast.specs.declared.query.Query.{Query}
use Rattle.gsql.specs.declared.status.LimitName.{LimitName}
use Rattle.gsql.specs.Stages.{Within, Exceeds}

-- none, where the query is within the limits of depth and weight; else the first that it is above
abbrev pub Measured : Query → Option LimitName → Type 0
Measured query None = Within query
Measured query (Some name) = Exceeds name query
