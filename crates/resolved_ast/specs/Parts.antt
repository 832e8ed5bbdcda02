-- The parts of a node that are trees themselves, in the order in which they stand below it in the tree's text.
use Rattle.std.specs.Prelude.{Bool, true, ◌&&◌, List, [], ◌∷◌, ◌++◌, map, Option, None, Some}
use Rattle.resolved_ast.specs.declared.rex.Compute.{Compute}
use Rattle.resolved_ast.specs.declared.rex.Rex.TheOpen.{Rex-F, Scan-F}
use Rattle.resolved_ast.specs.declared.rex.Rex.TheOpen as t
use Rattle.resolved_ast.specs.declared.scan.Cte.{Cte}

-- the expressions of columns that are computed
abbrev pub exprs_of : {A : Type 0} → List (Compute A) → List A
exprs_of cs = map (λ c. c.expr) cs

-- the scans of a WITH list
abbrev pub scans_of : {A : Type 0} → List (Cte A) → List A
scans_of ctes = map (λ c. c.scan) ctes

-- a part that may be missing
abbrev pub there : {A : Type 0} → Option A → List A
there None = []
there (Some x) = x ∷ []

abbrev pub rex_parts : {A : Type 0} → Rex-F A A → List A
rex_parts (t.Literal value ty) = []
rex_parts (t.Parameter name ty) = []
rex_parts (t.Column column ty) = []
rex_parts (t.Outer column ty) = []
rex_parts (t.Call signature ty arguments) = arguments
rex_parts (t.SafeCall signature ty arguments) = arguments
rex_parts (t.Cast ty expr) = expr ∷ []
rex_parts (t.SafeCast ty expr) = expr ∷ []
rex_parts (t.If ty operands) = operands
rex_parts (t.Case ty operands) = operands
rex_parts (t.Coalesce ty operands) = operands
rex_parts (t.And ty operands) = operands
rex_parts (t.Or ty operands) = operands
rex_parts (t.IfError ty operands) = operands
rex_parts (t.IsError ty operands) = operands
rex_parts (t.NullIfError ty operands) = operands
rex_parts (t.Raise ty operands) = operands
rex_parts (t.InList sought list) = sought ∷ list
rex_parts (t.InArray sought array) = sought ∷ array ∷ []
rex_parts (t.Let ty bindings expr) = exprs_of bindings ++ expr ∷ []
rex_parts (t.MakeArray ty parts) = parts
rex_parts (t.MakeStruct ty parts) = parts
rex_parts (t.Field place ty expr) = expr ∷ []
rex_parts (t.Index form ty array index) = array ∷ index ∷ []
rex_parts (t.Scalar ty column outer scan) = scan ∷ []
rex_parts (t.ArrayOf ty column outer scan) = scan ∷ []
rex_parts (t.Exists ty outer scan) = scan ∷ []
rex_parts (t.InQuery ty column outer sought scan) = sought ∷ scan ∷ []

abbrev pub scan_parts : {A : Type 0} → Scan-F A A → List A
scan_parts t.Single = []
scan_parts (t.Table name number columns) = []
scan_parts (t.With ctes scan) = scans_of ctes ++ scan ∷ []
scan_parts (t.CteRef number columns) = []
scan_parts (t.Unnest kind element offset scan array condition) = scan ∷ array ∷ there condition
scan_parts (t.Join kind left right condition) = left ∷ right ∷ there condition
scan_parts (t.Filter scan condition) = scan ∷ condition ∷ []
scan_parts (t.Project columns scan computed) = scan ∷ exprs_of computed

-- what holds of each part
abbrev pub all_so : List Bool → Bool
all_so [] = true
all_so (b ∷ bs) = b && all_so bs

-- the lists of all parts, one after another
abbrev pub together : {A : Type 0} → List (List A) → List A
together [] = []
together (xs ∷ more) = xs ++ together more
