use Rattle.sql_coerce.proofs.Levels.{other_arrays, other_structs}
use Rattle.sql_coerce.proofs.coercions.+coerces.Goals as goal

pub other_coerces-returns-in-Array-to : goal.other_coerces-returns-in-Array-to
other_coerces-returns-in-Array-to t c = cc (other_arrays c.in-Array.element c.in-Array-to.other)

pub other_coerces-returns-in-Struct-to : goal.other_coerces-returns-in-Struct-to
other_coerces-returns-in-Struct-to t c = cc (other_structs c.in-Struct.fields c.in-Struct-to.others)
