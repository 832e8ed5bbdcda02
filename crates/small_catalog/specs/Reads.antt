-- What the readers of a catalog answer.
use Rattle.std.specs.Prelude.{◌≡◌, Option, Some, None, Result, Ok, Err}
use Rattle.small_catalog.specs.declared.refusal.CatalogRefusal.{CatalogRefusal}
use Rattle.small_catalog.specs.declared.refusal.CatalogRefusal.TheVariants.{OtherForm, OutOfMemory}

-- what is read is what stands there, and another form stands for nothing, where there is memory
abbrev pub Reads : {A : Type 0} → Option A → Result A CatalogRefusal → Type 0
Reads there (Ok x) = there ≡ Some x
Reads there (Err OtherForm) = there ≡ None
Reads there (Err OutOfMemory) = Unit {0}
