-- A part that can't be planned leaves the whole unplanned, for the same reason.
use Rattle.std.proofs.Common.{Err}
use Rattle.small_run.specs.declared.form.NoPlan.{NoPlan}
use Rattle.small_run.specs.declared.form.NoPlan.TheVariants.{OtherForm, OutOfMemory}
use Rattle.small_run.specs.Parts.{Made}

pub handed_on : {A B : Type 0} (Said : A → Type 0) (other : Type 0) (SaidNext : B → Type 0) (other_next : Type 0) (why : NoPlan) → Made Said other (Err why) → (other → other_next) → Made SaidNext other_next (Err why)
handed_on Said other SaidNext other_next OtherForm is next = next is
handed_on Said other SaidNext other_next OutOfMemory is next = tt
