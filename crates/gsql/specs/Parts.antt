-- One file of a run.
use Rattle.std.specs.Prelude.{◌≡◌, ℕ, ◌<◌, ◌≤◌, List, length, Option, Some, Result, Ok, Err}
use Rattle.gsql_io.specs.Whole.{IsWholeOf}
use Rattle.gsql.specs.Stages.{OnTold}
use Rattle.gsql.specs.declared.status.LimitName.{LimitName}
use Rattle.gsql.specs.declared.stop.Stop.{Stop}
use Rattle.gsql.specs.declared.stop.Stop.TheVariants.{BadTable, Unread, OtherForm, Limit, ReadFault, OutOfMemory}

-- The whole content of a file, where it has at most so many bytes. A file above that is above the limit of this name.
abbrev pub IsPart : Option (List ℕ) → ℕ → LimitName → ℕ → List ℕ → Option (List ℕ) → Result (List ℕ) Stop → Type 0
IsPart content limit limited file name begun (Ok bytes) = IsWholeOf content bytes × (length bytes ≤ limit)
IsPart content limit limited file name begun (Err (Unread place)) = ⊥
IsPart content limit limited file name begun (Err OtherForm) = ⊥
IsPart content limit limited file name begun (Err (BadTable row field)) = ⊥
IsPart content limit limited file name begun (Err (Limit exceeded)) = (exceeded ≡ limited) × OnTold content (λ bytes. limit < length bytes)
IsPart content limit limited file name begun (Err (ReadFault faulty)) = (faulty ≡ file) × (begun ≡ Some name)
IsPart content limit limited file name begun (Err OutOfMemory) = Unit {0}
