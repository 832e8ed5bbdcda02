-- What a call makes of a number that there may not be.
use Rattle.std.specs.Prelude.{ℕ, ℤ, Option, None, Some, Ok, Err}
use Rattle.sql_types.specs.declared.value.Value.{Value}
use Rattle.sql_types.specs.declared.value.Value.TheVariants as value
use Rattle.sql_types.specs.declared.fault.FaultKind.TheVariants as fault
use Rattle.sql_types.specs.Outcome.{Outcome}

abbrev pub int_or_fault : Option ℤ → Outcome Value
int_or_fault (Some n) = Ok (value.Int n)
int_or_fault None = Err fault.OutOfRange

abbrev pub uint_or_fault : Option ℕ → Outcome Value
uint_or_fault (Some n) = Ok (value.Uint n)
uint_or_fault None = Err fault.OutOfRange
