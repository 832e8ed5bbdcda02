-- What a part of the check answers for a walk.
use Rattle.std.specs.Prelude.{◌≡◌, Result, Ok, Err}
use Rattle.resolved_ast.specs.declared.flaw.Flaw.{Flaw}
use Rattle.resolved_ast.specs.Flaws.{Before}
use Rattle.tree_check.specs.declared.refusal.CheckRefusal.{CheckRefusal}
use Rattle.tree_check.specs.declared.refusal.CheckRefusal.TheVariants as refusal

-- the refusal says the flaw that the walk finds; memory may be wanting at any time
abbrev pub Refused : Result Before Flaw → CheckRefusal → Type 0
Refused answer (refusal.Flaw place kind) = answer ≡ Err (record { place = place; kind = kind })
Refused answer refusal.OutOfMemory = Unit {0}

-- the walk finds no flaw and comes to what stands before the next part, or it finds the flaw that is refused
abbrev pub Walked : {A : Type 0} → Result Before Flaw → Before → Result A CheckRefusal → Type 0
Walked answer after (Ok x) = answer ≡ Ok after
Walked answer after (Err refused) = Refused answer refused
