-- A report is written.
use Rattle.std.specs.Prelude.{◌≡◌, ◌⊎◌, ℕ, List, [], Result, Ok, Err}
use Rattle.gsql_io.specs.declared.inputs.Failed.{Failed as Failure}
use Rattle.gsql.specs.declared.status.Status.{Status}
use Rattle.gsql.specs.Report.{Outside, Wrote, Failed}

-- both texts were written, or a front of the first, or the first and a front of the second
abbrev pub Delivers : Status → List ℕ → List ℕ → Outside → Outside → Result Status Failure → Type 0
Delivers status out err output error (Ok answer) = (answer ≡ status) × Wrote output out × Wrote error err
Delivers status out err output error (Err failure) = (Failed output out × Wrote error []) ⊎ (Wrote output out × Failed error err)
