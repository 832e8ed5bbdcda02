-- The numbers that a part uses or makes, one level at a time.
use Rattle.std.proofs.Common.{◌≡◌, ℕ, List, [], ◌∷◌, ◌++◌, map, None, Some, refl, ap, sym, ◌∙◌, append_assoc}
use Rattle.resolved_ast.specs.declared.rex.Compute.{Compute}
use Rattle.resolved_ast.specs.declared.rex.Rex.{Rex, out-Rex, roll-out-Rex, map-Rex, fold-roll-Rex}
use Rattle.resolved_ast.specs.declared.rex.Rex.TheOpen.{Rex-F, Scan-F}
use Rattle.resolved_ast.specs.declared.rex.Rex.TheOpen as t
use Rattle.resolved_ast.specs.declared.scan.Cte.{Cte}
use Rattle.resolved_ast.specs.declared.scan.Scan.{Scan, out-Scan, roll-out-Scan, map-Scan, fold-roll-Scan}
use Rattle.resolved_ast.specs.Columns.{ids_of, numbers, computed_columns, uses, makes}
use Rattle.resolved_ast.specs.Parts.{there, together, exprs_of, scans_of}
use Rattle.tree_check.specs.declared.gathering.Gathering.{Gathering}
use Rattle.tree_check.specs.declared.gathering.Gathering.TheVariants as gathering
use Rattle.tree_check.specs.Gathered.{rex_gathered, scan_gathered, RexNumbers, ScanNumbers, used, made}

-- ---- lists

none_after : (xs : List ℕ) → xs ++ [] ≡ xs
none_after [] = refl
none_after (x ∷ xs) = ap (λ (ys : List ℕ). x ∷ ys) (none_after xs)

together_append : (xs ys : List (List ℕ)) → together (xs ++ ys) ≡ together xs ++ together ys
together_append [] ys = refl
together_append (x ∷ xs) ys = ap (λ (zs : List ℕ). x ++ zs) (together_append xs ys) ∙ sym (append_assoc x (together xs) (together ys))

-- ---- parts

abbrev gathered_compute : Gathering → Compute Rex → Compute (List ℕ)
gathered_compute what c = record { column = c.column; expr = RexNumbers what c.expr }

abbrev gathered_cte : Gathering → Cte Scan → Cte (List ℕ)
gathered_cte what c = record { number = c.number; columns = c.columns; scan = ScanNumbers what c.scan }

abbrev pub each_expr : Gathering → List (Compute Rex) → List ℕ
each_expr what cs = together (map (λ c. RexNumbers what c.expr) cs)

abbrev pub each_scan : Gathering → List (Cte Scan) → List ℕ
each_scan what cs = together (map (λ c. ScanNumbers what c.scan) cs)

exprs_gathered : (what : Gathering) (cs : List (Compute Rex)) → exprs_of (map (gathered_compute what) cs) ≡ map (λ c. RexNumbers what c.expr) cs
exprs_gathered what [] = refl
exprs_gathered what (c ∷ cs) = ap (λ (xs : List (List ℕ)). RexNumbers what c.expr ∷ xs) (exprs_gathered what cs)

scans_gathered : (what : Gathering) (cs : List (Cte Scan)) → scans_of (map (gathered_cte what) cs) ≡ map (λ c. ScanNumbers what c.scan) cs
scans_gathered what [] = refl
scans_gathered what (c ∷ cs) = ap (λ (xs : List (List ℕ)). ScanNumbers what c.scan ∷ xs) (scans_gathered what cs)

computed_still : (what : Gathering) (cs : List (Compute Rex)) → computed_columns (map (gathered_compute what) cs) ≡ computed_columns cs
computed_still what [] = refl
computed_still what (c ∷ cs) = ap (λ xs. c.column ∷ xs) (computed_still what cs)

last_of : (xs : List (List ℕ)) (x : List ℕ) → together (xs ++ x ∷ []) ≡ together xs ++ x
last_of xs x = together_append xs (x ∷ []) ∙ ap (λ (ys : List ℕ). together xs ++ ys) (none_after x)

let_gathered : (what : Gathering) (cs : List (Compute Rex)) (x : Rex) → together (exprs_of (map (gathered_compute what) cs) ++ RexNumbers what x ∷ []) ≡ each_expr what cs ++ RexNumbers what x
let_gathered what cs x = ap (λ (xs : List (List ℕ)). together (xs ++ RexNumbers what x ∷ [])) (exprs_gathered what cs) ∙ last_of (map (λ c. RexNumbers what c.expr) cs) (RexNumbers what x)

with_gathered : (what : Gathering) (cs : List (Cte Scan)) (x : Scan) → together (scans_of (map (gathered_cte what) cs) ++ ScanNumbers what x ∷ []) ≡ each_scan what cs ++ ScanNumbers what x
with_gathered what cs x = ap (λ (xs : List (List ℕ)). together (xs ++ ScanNumbers what x ∷ [])) (scans_gathered what cs) ∙ last_of (map (λ c. ScanNumbers what c.scan) cs) (ScanNumbers what x)

-- ---- one level

abbrev pub rex_numbers_at : Gathering → Rex-F Rex Scan → List ℕ
rex_numbers_at what (t.Literal value ty) = []
rex_numbers_at what (t.Parameter name ty) = []
rex_numbers_at what (t.Column column ty) = used what (column.id.0 ∷ [])
rex_numbers_at what (t.Outer column ty) = used what (column.id.0 ∷ [])
rex_numbers_at what (t.Call signature ty arguments) = together (map (RexNumbers what) arguments)
rex_numbers_at what (t.SafeCall signature ty arguments) = together (map (RexNumbers what) arguments)
rex_numbers_at what (t.Cast ty expr) = RexNumbers what expr
rex_numbers_at what (t.SafeCast ty expr) = RexNumbers what expr
rex_numbers_at what (t.If ty operands) = together (map (RexNumbers what) operands)
rex_numbers_at what (t.Case ty operands) = together (map (RexNumbers what) operands)
rex_numbers_at what (t.Coalesce ty operands) = together (map (RexNumbers what) operands)
rex_numbers_at what (t.And ty operands) = together (map (RexNumbers what) operands)
rex_numbers_at what (t.Or ty operands) = together (map (RexNumbers what) operands)
rex_numbers_at what (t.IfError ty operands) = together (map (RexNumbers what) operands)
rex_numbers_at what (t.IsError ty operands) = together (map (RexNumbers what) operands)
rex_numbers_at what (t.NullIfError ty operands) = together (map (RexNumbers what) operands)
rex_numbers_at what (t.Raise ty operands) = together (map (RexNumbers what) operands)
rex_numbers_at what (t.InList search list) = RexNumbers what search ++ together (map (RexNumbers what) list)
rex_numbers_at what (t.InArray search array) = RexNumbers what search ++ RexNumbers what array
rex_numbers_at what (t.Let ty bindings expr) = made what (numbers (computed_columns bindings)) ++ (each_expr what bindings ++ RexNumbers what expr)
rex_numbers_at what (t.MakeArray ty parts) = together (map (RexNumbers what) parts)
rex_numbers_at what (t.MakeStruct ty parts) = together (map (RexNumbers what) parts)
rex_numbers_at what (t.Field place ty expr) = RexNumbers what expr
rex_numbers_at what (t.Index form ty array index) = RexNumbers what array ++ RexNumbers what index
rex_numbers_at what (t.Scalar ty column outer scan) = used what (ids_of outer) ++ ScanNumbers what scan
rex_numbers_at what (t.ArrayOf ty column outer scan) = used what (ids_of outer) ++ ScanNumbers what scan
rex_numbers_at what (t.Exists ty outer scan) = used what (ids_of outer) ++ ScanNumbers what scan
rex_numbers_at what (t.InQuery ty column outer search scan) = used what (ids_of outer) ++ (RexNumbers what search ++ ScanNumbers what scan)

rex_numbered : (what : Gathering) (z : Rex-F Rex Scan) → rex_gathered what (map-Rex Rex Scan (List ℕ) (List ℕ) (RexNumbers what) (ScanNumbers what) z) ≡ rex_numbers_at what z
rex_numbered gathering.Uses (t.Literal value ty) = refl
rex_numbered gathering.Uses (t.Parameter name ty) = refl
rex_numbered gathering.Uses (t.Column column ty) = refl
rex_numbered gathering.Uses (t.Outer column ty) = refl
rex_numbered gathering.Uses (t.Call signature ty arguments) = refl
rex_numbered gathering.Uses (t.SafeCall signature ty arguments) = refl
rex_numbered gathering.Uses (t.Cast ty expr) = none_after (RexNumbers gathering.Uses expr)
rex_numbered gathering.Uses (t.SafeCast ty expr) = none_after (RexNumbers gathering.Uses expr)
rex_numbered gathering.Uses (t.If ty operands) = refl
rex_numbered gathering.Uses (t.Case ty operands) = refl
rex_numbered gathering.Uses (t.Coalesce ty operands) = refl
rex_numbered gathering.Uses (t.And ty operands) = refl
rex_numbered gathering.Uses (t.Or ty operands) = refl
rex_numbered gathering.Uses (t.IfError ty operands) = refl
rex_numbered gathering.Uses (t.IsError ty operands) = refl
rex_numbered gathering.Uses (t.NullIfError ty operands) = refl
rex_numbered gathering.Uses (t.Raise ty operands) = refl
rex_numbered gathering.Uses (t.InList search list) = refl
rex_numbered gathering.Uses (t.InArray search array) = ap (λ (ys : List ℕ). RexNumbers gathering.Uses search ++ ys) (none_after (RexNumbers gathering.Uses array))
rex_numbered gathering.Uses (t.Let ty bindings expr) = let_gathered gathering.Uses bindings expr
rex_numbered gathering.Uses (t.MakeArray ty parts) = refl
rex_numbered gathering.Uses (t.MakeStruct ty parts) = refl
rex_numbered gathering.Uses (t.Field place ty expr) = none_after (RexNumbers gathering.Uses expr)
rex_numbered gathering.Uses (t.Index form ty array index) = ap (λ (ys : List ℕ). RexNumbers gathering.Uses array ++ ys) (none_after (RexNumbers gathering.Uses index))
rex_numbered gathering.Uses (t.Scalar ty column outer scan) = refl
rex_numbered gathering.Uses (t.ArrayOf ty column outer scan) = refl
rex_numbered gathering.Uses (t.Exists ty outer scan) = refl
rex_numbered gathering.Uses (t.InQuery ty column outer search scan) = append_assoc (ids_of outer) (RexNumbers gathering.Uses search) (ScanNumbers gathering.Uses scan)
rex_numbered gathering.Makes (t.Literal value ty) = refl
rex_numbered gathering.Makes (t.Parameter name ty) = refl
rex_numbered gathering.Makes (t.Column column ty) = refl
rex_numbered gathering.Makes (t.Outer column ty) = refl
rex_numbered gathering.Makes (t.Call signature ty arguments) = refl
rex_numbered gathering.Makes (t.SafeCall signature ty arguments) = refl
rex_numbered gathering.Makes (t.Cast ty expr) = none_after (RexNumbers gathering.Makes expr)
rex_numbered gathering.Makes (t.SafeCast ty expr) = none_after (RexNumbers gathering.Makes expr)
rex_numbered gathering.Makes (t.If ty operands) = refl
rex_numbered gathering.Makes (t.Case ty operands) = refl
rex_numbered gathering.Makes (t.Coalesce ty operands) = refl
rex_numbered gathering.Makes (t.And ty operands) = refl
rex_numbered gathering.Makes (t.Or ty operands) = refl
rex_numbered gathering.Makes (t.IfError ty operands) = refl
rex_numbered gathering.Makes (t.IsError ty operands) = refl
rex_numbered gathering.Makes (t.NullIfError ty operands) = refl
rex_numbered gathering.Makes (t.Raise ty operands) = refl
rex_numbered gathering.Makes (t.InList search list) = refl
rex_numbered gathering.Makes (t.InArray search array) = ap (λ (ys : List ℕ). RexNumbers gathering.Makes search ++ ys) (none_after (RexNumbers gathering.Makes array))
rex_numbered gathering.Makes (t.Let ty bindings expr) = ap (λ ds. numbers ds ++ together (exprs_of (map (gathered_compute gathering.Makes) bindings) ++ RexNumbers gathering.Makes expr ∷ [])) (computed_still gathering.Makes bindings) ∙ ap (λ (ys : List ℕ). numbers (computed_columns bindings) ++ ys) (let_gathered gathering.Makes bindings expr)
rex_numbered gathering.Makes (t.MakeArray ty parts) = refl
rex_numbered gathering.Makes (t.MakeStruct ty parts) = refl
rex_numbered gathering.Makes (t.Field place ty expr) = none_after (RexNumbers gathering.Makes expr)
rex_numbered gathering.Makes (t.Index form ty array index) = ap (λ (ys : List ℕ). RexNumbers gathering.Makes array ++ ys) (none_after (RexNumbers gathering.Makes index))
rex_numbered gathering.Makes (t.Scalar ty column outer scan) = none_after (ScanNumbers gathering.Makes scan)
rex_numbered gathering.Makes (t.ArrayOf ty column outer scan) = none_after (ScanNumbers gathering.Makes scan)
rex_numbered gathering.Makes (t.Exists ty outer scan) = none_after (ScanNumbers gathering.Makes scan)
rex_numbered gathering.Makes (t.InQuery ty column outer search scan) = ap (λ (ys : List ℕ). RexNumbers gathering.Makes search ++ ys) (none_after (ScanNumbers gathering.Makes scan))

abbrev pub scan_numbers_at : Gathering → Scan-F Rex Scan → List ℕ
scan_numbers_at what t.Single = []
scan_numbers_at what (t.Table name number columns) = made what (numbers columns)
scan_numbers_at what (t.With ctes scan) = each_scan what ctes ++ ScanNumbers what scan
scan_numbers_at what (t.CteRef number columns) = made what (numbers columns)
scan_numbers_at what (t.Unnest kind element offset scan array condition) = made what (numbers (element ∷ there offset)) ++ (ScanNumbers what scan ++ (RexNumbers what array ++ together (map (RexNumbers what) (there condition))))
scan_numbers_at what (t.Join kind left right condition) = ScanNumbers what left ++ (ScanNumbers what right ++ together (map (RexNumbers what) (there condition)))
scan_numbers_at what (t.Filter scan condition) = ScanNumbers what scan ++ RexNumbers what condition
scan_numbers_at what (t.Project columns scan computed) = made what (numbers (computed_columns computed)) ++ (ScanNumbers what scan ++ each_expr what computed)

scan_numbered : (what : Gathering) (z : Scan-F Rex Scan) → scan_gathered what (map-Scan Rex Scan (List ℕ) (List ℕ) (RexNumbers what) (ScanNumbers what) z) ≡ scan_numbers_at what z
scan_numbered gathering.Uses t.Single = refl
scan_numbered gathering.Uses (t.Table name number columns) = refl
scan_numbered gathering.Uses (t.With ctes scan) = with_gathered gathering.Uses ctes scan
scan_numbered gathering.Uses (t.CteRef number columns) = refl
scan_numbered gathering.Uses (t.Unnest kind element offset scan array None) = refl
scan_numbered gathering.Uses (t.Unnest kind element offset scan array (Some condition)) = refl
scan_numbered gathering.Uses (t.Join kind left right None) = refl
scan_numbered gathering.Uses (t.Join kind left right (Some condition)) = refl
scan_numbered gathering.Uses (t.Filter scan condition) = ap (λ (ys : List ℕ). ScanNumbers gathering.Uses scan ++ ys) (none_after (RexNumbers gathering.Uses condition))
scan_numbered gathering.Uses (t.Project columns scan computed) = ap (λ (xs : List (List ℕ)). ScanNumbers gathering.Uses scan ++ together xs) (exprs_gathered gathering.Uses computed)
scan_numbered gathering.Makes t.Single = refl
scan_numbered gathering.Makes (t.Table name number columns) = none_after (numbers columns)
scan_numbered gathering.Makes (t.With ctes scan) = with_gathered gathering.Makes ctes scan
scan_numbered gathering.Makes (t.CteRef number columns) = none_after (numbers columns)
scan_numbered gathering.Makes (t.Unnest kind element offset scan array None) = refl
scan_numbered gathering.Makes (t.Unnest kind element offset scan array (Some condition)) = refl
scan_numbered gathering.Makes (t.Join kind left right None) = refl
scan_numbered gathering.Makes (t.Join kind left right (Some condition)) = refl
scan_numbered gathering.Makes (t.Filter scan condition) = ap (λ (ys : List ℕ). ScanNumbers gathering.Makes scan ++ ys) (none_after (RexNumbers gathering.Makes condition))
scan_numbered gathering.Makes (t.Project columns scan computed) = ap (λ ds. numbers ds ++ (ScanNumbers gathering.Makes scan ++ together (exprs_of (map (gathered_compute gathering.Makes) computed)))) (computed_still gathering.Makes computed) ∙ ap (λ (xs : List (List ℕ)). numbers (computed_columns computed) ++ (ScanNumbers gathering.Makes scan ++ together xs)) (exprs_gathered gathering.Makes computed)

-- ---- one equation a sort

pub numbers_rex : (what : Gathering) (x : Rex) (z : Rex-F Rex Scan) → out-Rex x ≡ z → RexNumbers what x ≡ rex_numbers_at what z
unfolding RexNumbers ScanNumbers
numbers_rex what x z e =
    ap (RexNumbers what) (sym (roll-out-Rex x)) ∙ fold-roll-Rex (List ℕ) (List ℕ) (rex_gathered what) (scan_gathered what) (out-Rex x) ∙ rex_numbered what (out-Rex x) ∙ ap (rex_numbers_at what) e

pub numbers_scan : (what : Gathering) (x : Scan) (z : Scan-F Rex Scan) → out-Scan x ≡ z → ScanNumbers what x ≡ scan_numbers_at what z
unfolding RexNumbers ScanNumbers
numbers_scan what x z e =
    ap (ScanNumbers what) (sym (roll-out-Scan x)) ∙ fold-roll-Scan (List ℕ) (List ℕ) (rex_gathered what) (scan_gathered what) (out-Scan x) ∙ scan_numbered what (out-Scan x) ∙ ap (scan_numbers_at what) e

-- ---- whole scans

pub numbers_used : (x : Scan) → ScanNumbers gathering.Uses x ≡ uses x
unfolding ScanNumbers uses
numbers_used x = refl

pub numbers_made : (x : Scan) → ScanNumbers gathering.Makes x ≡ makes x
unfolding ScanNumbers makes
numbers_made x = refl
