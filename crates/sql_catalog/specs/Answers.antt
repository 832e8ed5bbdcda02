-- What an addition answers.
use Rattle.std.specs.Prelude.{◌≡◌, Bool, true, false, Result, Ok, Err}
use Rattle.sql_catalog.specs.declared.refusal.AddRefusal.{AddRefusal}
use Rattle.sql_catalog.specs.declared.refusal.AddRefusal.TheVariants.{Duplicate, OutOfMemory}

-- Duplicate comes exactly where the name is taken. Want of memory comes only where it isn't.
abbrev pub Adds : Bool → Result (Unit {0}) AddRefusal → Type 0
Adds taken (Ok _) = taken ≡ false
Adds taken (Err Duplicate) = taken ≡ true
Adds taken (Err OutOfMemory) = taken ≡ false
