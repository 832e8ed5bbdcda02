use Rattle.sql_coerce.proofs.CastLevels.{castable_arrays, castable_structs}
use Rattle.sql_coerce.proofs.pairs.+castable.Goals as goal

pub castable-returns-in-Array-to : goal.castable-returns-in-Array-to
castable-returns-in-Array-to t c = cc (castable_arrays c.in-Array.element c.in-Array-to.other)

pub castable-returns-in-Struct-to : goal.castable-returns-in-Struct-to
castable-returns-in-Struct-to t c = cc (castable_structs c.in-Struct.fields c.in-Struct-to.others)
