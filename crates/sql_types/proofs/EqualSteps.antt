-- AND over the fields of a STRUCT, one field at a time.
use Rattle.std.proofs.Common.{Bool, true, false, Option, None, Some}

-- what the fields so far say, none of which is FALSE: by whether one was NULL
abbrev pub so_far : Bool → Option Bool
so_far true = None
so_far false = Some true
