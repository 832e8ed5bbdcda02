-- What the check answers.
use Rattle.std.specs.Prelude.{◌≡◌, None, Some, Result, Ok, Err}
use Rattle.resolved_ast.specs.declared.scan.Tree.{Tree}
use Rattle.resolved_ast.specs.Flaws.{first_flaw, Valid}
use Rattle.tree_check.specs.declared.refusal.CheckRefusal.{CheckRefusal}
use Rattle.tree_check.specs.declared.refusal.CheckRefusal.TheVariants as refusal

-- the refusal says the first flaw; memory may be wanting at any time
abbrev pub RefusedBy : Tree → CheckRefusal → Type 0
RefusedBy tree (refusal.Flaw place kind) = first_flaw tree ≡ Some (record { place = place; kind = kind })
RefusedBy tree refusal.OutOfMemory = Unit {0}

-- the same tree, which has no flaw, or its first flaw
abbrev pub Checks : Tree → Result Tree CheckRefusal → Type 0
Checks tree (Ok checked) = (checked ≡ tree) × (first_flaw tree ≡ None)
Checks tree (Err refused) = RefusedBy tree refused

abbrev pub Passes : {A : Type 0} → Tree → Result A CheckRefusal → Type 0
Passes tree (Ok x) = Valid tree
Passes tree (Err refused) = RefusedBy tree refused
