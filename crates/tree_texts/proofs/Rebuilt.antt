-- A part is known from its kind, its fields and the parts below it.
use Rattle.std.proofs.Common.{ℕ, if◌then◌else◌, List, [], ◌∷◌, map, codes, Option, None, Some}
use Rattle.std.specs.Str.{bytes_eq}
use Rattle.sql_types.specs.declared.kinds.JoinKind.{JoinKind}
use Rattle.sql_types.specs.declared.kinds.JoinKind.TheVariants as join
use Rattle.sql_types.specs.declared.sql_type.SqlType.{SqlType}
use Rattle.sql_types.specs.declared.sql_type.SqlType.TheVariants as ty
use Rattle.sql_types.specs.declared.value.Value.{Value}
use Rattle.sql_types.specs.declared.value.Value.TheVariants as v
use Rattle.sql_ast.specs.declared.expr.IndexForm.{IndexForm}
use Rattle.sql_ast.specs.declared.expr.IndexForm.TheVariants as form
use Rattle.resolved_ast.specs.declared.column.ColumnRef.{ColumnRef}
use Rattle.resolved_ast.specs.declared.column.MadeColumn.{MadeColumn}
use Rattle.resolved_ast.specs.declared.rex.Compute.{Compute}
use Rattle.resolved_ast.specs.declared.rex.Rex.{Rex, roll-Rex}
use Rattle.resolved_ast.specs.declared.rex.Rex.TheOpen as t
use Rattle.resolved_ast.specs.declared.scan.Cte.{Cte}
use Rattle.resolved_ast.specs.declared.scan.Output.{Output}
use Rattle.resolved_ast.specs.declared.scan.Scan.{Scan, roll-Scan}
use Rattle.resolved_ast.specs.declared.scan.UnnestKind.{UnnestKind}
use Rattle.resolved_ast.specs.declared.scan.UnnestKind.TheVariants as unnest
use Rattle.resolved_ast.specs.Columns.{rex_type}
use Rattle.tree_texts.proofs.Fields.{Field}
use Rattle.tree_texts.proofs.Fields as f
use Rattle.tree_texts.proofs.NodeWords.{Kind}
use Rattle.tree_texts.proofs.NodeWords as k
use Rattle.tree_texts.proofs.Shapes.{Part, of_rex, of_scan, of_compute, of_cte, of_tree}
use Rattle.tree_texts.proofs.SignatureTexts.{signature_told}

-- ---- the first field of each sort; what stands for none is never used

abbrev pub the_type : List Field → SqlType
the_type [] = ty.Bool
the_type (f.literal x ty ∷ fs) = ty
the_type (f.type ty ∷ fs) = ty
the_type (_ ∷ fs) = the_type fs

abbrev pub the_value : List Field → Value
the_value [] = v.Null
the_value (f.literal x ty ∷ fs) = x
the_value (_ ∷ fs) = the_value fs

abbrev pub the_name : List Field → List ℕ
the_name [] = []
the_name (f.name n ∷ fs) = n
the_name (_ ∷ fs) = the_name fs

abbrev pub the_word : List Field → List ℕ
the_word [] = []
the_word (f.word w ∷ fs) = w
the_word (_ ∷ fs) = the_word fs

abbrev pub the_number : List Field → ℕ
the_number [] = 0
the_number (f.number n ∷ fs) = n
the_number (_ ∷ fs) = the_number fs

abbrev pub the_column : List Field → ColumnRef
the_column [] = record { name = None; id = record { 0 = 0 } }
the_column (f.column c ∷ fs) = c
the_column (_ ∷ fs) = the_column fs

abbrev pub the_columns : List Field → List ColumnRef
the_columns [] = []
the_columns (f.columns cs ∷ fs) = cs
the_columns (_ ∷ fs) = the_columns fs

abbrev pub the_made : List Field → MadeColumn
the_made [] = record { name = None; id = record { 0 = 0 }; ty = ty.Bool }
the_made (f.made c ∷ fs) = c
the_made (_ ∷ fs) = the_made fs

abbrev pub the_offset : List Field → Option MadeColumn
the_offset [] = None
the_offset (f.made_there c ∷ fs) = c
the_offset (_ ∷ fs) = the_offset fs

abbrev pub the_mades : List Field → List MadeColumn
the_mades [] = []
the_mades (f.mades cs ∷ fs) = cs
the_mades (_ ∷ fs) = the_mades fs

abbrev pub the_outputs : List Field → List Output
the_outputs [] = []
the_outputs (f.outputs os ∷ fs) = os
the_outputs (_ ∷ fs) = the_outputs fs

abbrev pub form_of : List ℕ → IndexForm
form_of w =
    if bytes_eq w (codes "OFFSET") then form.Offset else if bytes_eq w (codes "ORDINAL") then form.Ordinal else
    if bytes_eq w (codes "SAFE_OFFSET") then form.SafeOffset else form.SafeOrdinal

abbrev pub join_of : List ℕ → JoinKind
join_of w =
    if bytes_eq w (codes "CROSS") then join.Cross else if bytes_eq w (codes "INNER") then join.Inner else if bytes_eq w (codes "LEFT") then join.Left else
    if bytes_eq w (codes "RIGHT") then join.Right else join.Full

abbrev pub unnest_of : List ℕ → UnnestKind
unnest_of w = if bytes_eq w (codes "INNER") then unnest.Inner else unnest.Left

-- ---- the parts of each sort

abbrev pub rexes : List Part → List Rex
rexes [] = []
rexes (of_rex x ∷ ps) = x ∷ rexes ps
rexes (_ ∷ ps) = rexes ps

abbrev pub scans : List Part → List Scan
scans [] = []
scans (of_scan x ∷ ps) = x ∷ scans ps
scans (_ ∷ ps) = scans ps

abbrev pub computes : List Part → List (Compute Rex)
computes [] = []
computes (of_compute x ∷ ps) = x ∷ computes ps
computes (_ ∷ ps) = computes ps

abbrev pub ctes : List Part → List (Cte Scan)
ctes [] = []
ctes (of_cte x ∷ ps) = x ∷ ctes ps
ctes (_ ∷ ps) = ctes ps

abbrev pub first_rex : List Rex → Rex
first_rex [] = roll-Rex (t.Parameter [] ty.Bool)
first_rex (x ∷ xs) = x

abbrev pub first_scan : List Scan → Scan
first_scan [] = roll-Scan t.Single
first_scan (x ∷ xs) = x

abbrev pub front : {A : Type 0} → List A → Option A
front [] = None
front (x ∷ xs) = Some x

abbrev pub behind : {A : Type 0} → List A → List A
behind [] = []
behind (x ∷ xs) = xs

-- ---- the part; the number of a table is that of its name

module _ (numbers : List ℕ → ℕ) where
  abbrev pub rebuilt : Kind → List Field → List Part → Part
  rebuilt k.Literal fs ps = of_rex (roll-Rex (t.Literal (the_value fs) (the_type fs)))
  rebuilt k.Parameter fs ps = of_rex (roll-Rex (t.Parameter (the_name fs) (the_type fs)))
  rebuilt k.Column fs ps = of_rex (roll-Rex (t.Column (the_column fs) (the_type fs)))
  rebuilt k.Outer fs ps = of_rex (roll-Rex (t.Outer (the_column fs) (the_type fs)))
  rebuilt k.Call fs ps = of_rex (roll-Rex (t.Call (signature_told (the_word fs) (map rex_type (rexes ps))) (the_type fs) (rexes ps)))
  rebuilt k.SafeCall fs ps = of_rex (roll-Rex (t.SafeCall (signature_told (the_word fs) (map rex_type (rexes ps))) (the_type fs) (rexes ps)))
  rebuilt k.Cast fs ps = of_rex (roll-Rex (t.Cast (the_type fs) (first_rex (rexes ps))))
  rebuilt k.SafeCast fs ps = of_rex (roll-Rex (t.SafeCast (the_type fs) (first_rex (rexes ps))))
  rebuilt k.If fs ps = of_rex (roll-Rex (t.If (the_type fs) (rexes ps)))
  rebuilt k.Case fs ps = of_rex (roll-Rex (t.Case (the_type fs) (rexes ps)))
  rebuilt k.Coalesce fs ps = of_rex (roll-Rex (t.Coalesce (the_type fs) (rexes ps)))
  rebuilt k.And fs ps = of_rex (roll-Rex (t.And (the_type fs) (rexes ps)))
  rebuilt k.Or fs ps = of_rex (roll-Rex (t.Or (the_type fs) (rexes ps)))
  rebuilt k.IfError fs ps = of_rex (roll-Rex (t.IfError (the_type fs) (rexes ps)))
  rebuilt k.IsError fs ps = of_rex (roll-Rex (t.IsError (the_type fs) (rexes ps)))
  rebuilt k.NullIfError fs ps = of_rex (roll-Rex (t.NullIfError (the_type fs) (rexes ps)))
  rebuilt k.Raise fs ps = of_rex (roll-Rex (t.Raise (the_type fs) (rexes ps)))
  rebuilt k.InList fs ps = of_rex (roll-Rex (t.InList (first_rex (rexes ps)) (behind (rexes ps))))
  rebuilt k.InArray fs ps = of_rex (roll-Rex (t.InArray (first_rex (rexes ps)) (first_rex (behind (rexes ps)))))
  rebuilt k.Let fs ps = of_rex (roll-Rex (t.Let (the_type fs) (computes ps) (first_rex (rexes ps))))
  rebuilt k.MakeArray fs ps = of_rex (roll-Rex (t.MakeArray (the_type fs) (rexes ps)))
  rebuilt k.MakeStruct fs ps = of_rex (roll-Rex (t.MakeStruct (the_type fs) (rexes ps)))
  rebuilt k.Field fs ps = of_rex (roll-Rex (t.Field (the_number fs) (the_type fs) (first_rex (rexes ps))))
  rebuilt k.Index fs ps = of_rex (roll-Rex (t.Index (form_of (the_word fs)) (the_type fs) (first_rex (rexes ps)) (first_rex (behind (rexes ps)))))
  rebuilt k.Scalar fs ps = of_rex (roll-Rex (t.Scalar (the_type fs) (the_column fs) (the_columns fs) (first_scan (scans ps))))
  rebuilt k.ArrayOf fs ps = of_rex (roll-Rex (t.ArrayOf (the_type fs) (the_column fs) (the_columns fs) (first_scan (scans ps))))
  rebuilt k.Exists fs ps = of_rex (roll-Rex (t.Exists (the_type fs) (the_columns fs) (first_scan (scans ps))))
  rebuilt k.InQuery fs ps = of_rex (roll-Rex (t.InQuery (the_type fs) (the_column fs) (the_columns fs) (first_rex (rexes ps)) (first_scan (scans ps))))
  rebuilt k.Single fs ps = of_scan (roll-Scan t.Single)
  rebuilt k.Table fs ps = of_scan (roll-Scan (t.Table (the_name fs) (numbers (the_name fs)) (the_mades fs)))
  rebuilt k.With fs ps = of_scan (roll-Scan (t.With (ctes ps) (first_scan (scans ps))))
  rebuilt k.CteRef fs ps = of_scan (roll-Scan (t.CteRef (the_number fs) (the_mades fs)))
  rebuilt k.Unnest fs ps = of_scan (roll-Scan (t.Unnest (unnest_of (the_word fs)) (the_made fs) (the_offset fs) (first_scan (scans ps)) (first_rex (rexes ps)) (front (behind (rexes ps)))))
  rebuilt k.Join fs ps = of_scan (roll-Scan (t.Join (join_of (the_word fs)) (first_scan (scans ps)) (first_scan (behind (scans ps))) (front (rexes ps))))
  rebuilt k.Filter fs ps = of_scan (roll-Scan (t.Filter (first_scan (scans ps)) (first_rex (rexes ps))))
  rebuilt k.Project fs ps = of_scan (roll-Scan (t.Project (the_columns fs) (first_scan (scans ps)) (computes ps)))
  rebuilt k.Compute fs ps = of_compute (record { column = the_made fs; expr = first_rex (rexes ps) })
  rebuilt k.Cte fs ps = of_cte (record { number = the_number fs; columns = the_columns fs; scan = first_scan (scans ps) })
  rebuilt k.Output fs ps = of_tree (record { scan = first_scan (scans ps); outputs = the_outputs fs })
