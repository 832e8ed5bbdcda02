-- A tree's parts as its text shows them: each has a kind, fields and parts below it.
use Rattle.std.proofs.Common.{List, [], ◌∷◌, ◌++◌, map}
use Rattle.resolved_ast.specs.declared.rex.Compute.{Compute}
use Rattle.resolved_ast.specs.declared.rex.Rex.{Rex, out-Rex}
use Rattle.resolved_ast.specs.declared.rex.Rex.TheOpen.{Rex-F, Scan-F}
use Rattle.resolved_ast.specs.declared.rex.Rex.TheOpen as t
use Rattle.resolved_ast.specs.declared.scan.Cte.{Cte}
use Rattle.resolved_ast.specs.declared.scan.Scan.{Scan, out-Scan}
use Rattle.resolved_ast.specs.declared.scan.Tree.{Tree}
use Rattle.resolved_ast.specs.Parts.{there}
use Rattle.resolved_ast.specs.SignatureNames.{signature_name}
use Rattle.resolved_ast.specs.TreeText.{join_text, unnest_text, form_text}
use Rattle.tree_texts.proofs.Fields.{Field}
use Rattle.tree_texts.proofs.Fields as f
use Rattle.tree_texts.proofs.NodeWords.{Kind}
use Rattle.tree_texts.proofs.NodeWords as k

-- what has a line of its own
pub data Part : Type 0 where
  of_rex : Rex → Part
  of_scan : Scan → Part
  of_compute : Compute Rex → Part
  of_cte : Cte Scan → Part
  of_tree : Tree → Part

-- ---- expressions

abbrev pub rex_kind : Rex-F Rex Scan → Kind
rex_kind (t.Literal value ty) = k.Literal
rex_kind (t.Parameter name ty) = k.Parameter
rex_kind (t.Column column ty) = k.Column
rex_kind (t.Outer column ty) = k.Outer
rex_kind (t.Call signature ty arguments) = k.Call
rex_kind (t.SafeCall signature ty arguments) = k.SafeCall
rex_kind (t.Cast ty expr) = k.Cast
rex_kind (t.SafeCast ty expr) = k.SafeCast
rex_kind (t.If ty operands) = k.If
rex_kind (t.Case ty operands) = k.Case
rex_kind (t.Coalesce ty operands) = k.Coalesce
rex_kind (t.And ty operands) = k.And
rex_kind (t.Or ty operands) = k.Or
rex_kind (t.IfError ty operands) = k.IfError
rex_kind (t.IsError ty operands) = k.IsError
rex_kind (t.NullIfError ty operands) = k.NullIfError
rex_kind (t.Raise ty operands) = k.Raise
rex_kind (t.InList sought list) = k.InList
rex_kind (t.InArray sought array) = k.InArray
rex_kind (t.Let ty bindings expr) = k.Let
rex_kind (t.MakeArray ty operands) = k.MakeArray
rex_kind (t.MakeStruct ty operands) = k.MakeStruct
rex_kind (t.Field place ty expr) = k.Field
rex_kind (t.Index form ty array index) = k.Index
rex_kind (t.Scalar ty column outer inner) = k.Scalar
rex_kind (t.ArrayOf ty column outer inner) = k.ArrayOf
rex_kind (t.Exists ty outer inner) = k.Exists
rex_kind (t.InQuery ty column outer sought inner) = k.InQuery

abbrev pub rex_fields : Rex-F Rex Scan → List Field
rex_fields (t.Literal value ty) = f.literal value ty ∷ []
rex_fields (t.Parameter name ty) = f.name name ∷ f.type ty ∷ []
rex_fields (t.Column column ty) = f.column column ∷ f.type ty ∷ []
rex_fields (t.Outer column ty) = f.column column ∷ f.type ty ∷ []
rex_fields (t.Call signature ty arguments) = f.word (signature_name signature) ∷ f.type ty ∷ []
rex_fields (t.SafeCall signature ty arguments) = f.word (signature_name signature) ∷ f.type ty ∷ []
rex_fields (t.Cast ty expr) = f.type ty ∷ []
rex_fields (t.SafeCast ty expr) = f.type ty ∷ []
rex_fields (t.If ty operands) = f.type ty ∷ []
rex_fields (t.Case ty operands) = f.type ty ∷ []
rex_fields (t.Coalesce ty operands) = f.type ty ∷ []
rex_fields (t.And ty operands) = f.type ty ∷ []
rex_fields (t.Or ty operands) = f.type ty ∷ []
rex_fields (t.IfError ty operands) = f.type ty ∷ []
rex_fields (t.IsError ty operands) = f.type ty ∷ []
rex_fields (t.NullIfError ty operands) = f.type ty ∷ []
rex_fields (t.Raise ty operands) = f.type ty ∷ []
rex_fields (t.InList sought list) = []
rex_fields (t.InArray sought array) = []
rex_fields (t.Let ty bindings expr) = f.type ty ∷ []
rex_fields (t.MakeArray ty operands) = f.type ty ∷ []
rex_fields (t.MakeStruct ty operands) = f.type ty ∷ []
rex_fields (t.Field place ty expr) = f.number place ∷ f.type ty ∷ []
rex_fields (t.Index form ty array index) = f.word (form_text form) ∷ f.type ty ∷ []
rex_fields (t.Scalar ty column outer inner) = f.type ty ∷ f.column column ∷ f.columns outer ∷ []
rex_fields (t.ArrayOf ty column outer inner) = f.type ty ∷ f.column column ∷ f.columns outer ∷ []
rex_fields (t.Exists ty outer inner) = f.type ty ∷ f.columns outer ∷ []
rex_fields (t.InQuery ty column outer sought inner) = f.type ty ∷ f.column column ∷ f.columns outer ∷ []

abbrev pub rex_below : Rex-F Rex Scan → List Part
rex_below (t.Literal value ty) = []
rex_below (t.Parameter name ty) = []
rex_below (t.Column column ty) = []
rex_below (t.Outer column ty) = []
rex_below (t.Call signature ty arguments) = map of_rex arguments
rex_below (t.SafeCall signature ty arguments) = map of_rex arguments
rex_below (t.Cast ty expr) = of_rex expr ∷ []
rex_below (t.SafeCast ty expr) = of_rex expr ∷ []
rex_below (t.If ty operands) = map of_rex operands
rex_below (t.Case ty operands) = map of_rex operands
rex_below (t.Coalesce ty operands) = map of_rex operands
rex_below (t.And ty operands) = map of_rex operands
rex_below (t.Or ty operands) = map of_rex operands
rex_below (t.IfError ty operands) = map of_rex operands
rex_below (t.IsError ty operands) = map of_rex operands
rex_below (t.NullIfError ty operands) = map of_rex operands
rex_below (t.Raise ty operands) = map of_rex operands
rex_below (t.InList sought list) = of_rex sought ∷ map of_rex list
rex_below (t.InArray sought array) = of_rex sought ∷ of_rex array ∷ []
rex_below (t.Let ty bindings expr) = map of_compute bindings ++ of_rex expr ∷ []
rex_below (t.MakeArray ty operands) = map of_rex operands
rex_below (t.MakeStruct ty operands) = map of_rex operands
rex_below (t.Field place ty expr) = of_rex expr ∷ []
rex_below (t.Index form ty array index) = of_rex array ∷ of_rex index ∷ []
rex_below (t.Scalar ty column outer inner) = of_scan inner ∷ []
rex_below (t.ArrayOf ty column outer inner) = of_scan inner ∷ []
rex_below (t.Exists ty outer inner) = of_scan inner ∷ []
rex_below (t.InQuery ty column outer sought inner) = of_rex sought ∷ of_scan inner ∷ []

-- ---- scans

abbrev pub scan_kind : Scan-F Rex Scan → Kind
scan_kind t.Single = k.Single
scan_kind (t.Table name number columns) = k.Table
scan_kind (t.With ctes inner) = k.With
scan_kind (t.CteRef number columns) = k.CteRef
scan_kind (t.Unnest kind element offset inner array condition) = k.Unnest
scan_kind (t.Join kind left right condition) = k.Join
scan_kind (t.Filter inner condition) = k.Filter
scan_kind (t.Project columns inner computed) = k.Project

abbrev pub scan_fields : Scan-F Rex Scan → List Field
scan_fields t.Single = []
scan_fields (t.Table name number columns) = f.name name ∷ f.mades columns ∷ []
scan_fields (t.With ctes inner) = []
scan_fields (t.CteRef number columns) = f.number number ∷ f.mades columns ∷ []
scan_fields (t.Unnest kind element offset inner array condition) = f.word (unnest_text kind) ∷ f.made element ∷ f.made_there offset ∷ []
scan_fields (t.Join kind left right condition) = f.word (join_text kind) ∷ []
scan_fields (t.Filter inner condition) = []
scan_fields (t.Project columns inner computed) = f.columns columns ∷ []

abbrev pub scan_below : Scan-F Rex Scan → List Part
scan_below t.Single = []
scan_below (t.Table name number columns) = []
scan_below (t.With ctes inner) = map of_cte ctes ++ of_scan inner ∷ []
scan_below (t.CteRef number columns) = []
scan_below (t.Unnest kind element offset inner array condition) = of_scan inner ∷ of_rex array ∷ map of_rex (there condition)
scan_below (t.Join kind left right condition) = of_scan left ∷ of_scan right ∷ map of_rex (there condition)
scan_below (t.Filter inner condition) = of_scan inner ∷ of_rex condition ∷ []
scan_below (t.Project columns inner computed) = of_scan inner ∷ map of_compute computed

-- ---- all parts

abbrev pub kind : Part → Kind
kind (of_rex x) = rex_kind (out-Rex x)
kind (of_scan x) = scan_kind (out-Scan x)
kind (of_compute c) = k.Compute
kind (of_cte c) = k.Cte
kind (of_tree tree) = k.Output

abbrev pub fields : Part → List Field
fields (of_rex x) = rex_fields (out-Rex x)
fields (of_scan x) = scan_fields (out-Scan x)
fields (of_compute c) = f.made c.column ∷ []
fields (of_cte c) = f.number c.number ∷ f.columns c.columns ∷ []
fields (of_tree tree) = f.outputs tree.outputs ∷ []

abbrev pub below : Part → List Part
below (of_rex x) = rex_below (out-Rex x)
below (of_scan x) = scan_below (out-Scan x)
below (of_compute c) = of_rex c.expr ∷ []
below (of_cte c) = of_scan c.scan ∷ []
below (of_tree tree) = of_scan tree.scan ∷ []
