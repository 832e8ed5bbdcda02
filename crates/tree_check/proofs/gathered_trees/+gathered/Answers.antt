-- Each tree has the numbers that its law says.
use Rattle.std.proofs.Common.{rules, ap, ◌∙◌, append_assoc}
use Rattle.resolved_ast.specs.declared.rex.Rex.{out-Rex}
use Rattle.resolved_ast.specs.declared.rex.Rex.TheOpen as layer
use Rattle.resolved_ast.specs.declared.rex.Rex.TheVariants as rex
use Rattle.resolved_ast.specs.declared.scan.Scan.{out-Scan}
use Rattle.resolved_ast.specs.declared.scan.Scan.TheVariants as scan
use Rattle.tree_check.proofs.GatherLevels.{numbers_rex, numbers_scan}
use Rattle.tree_check.proofs.gathered_trees.+gathered.Goals as goal

pub RexGather::gather-returns-in-Literal : goal.RexGather::gather-returns-in-Literal
RexGather::gather-returns-in-Literal t c = rw (numbers_rex c.args.what c.args.self.now (layer.Literal c.in-Literal.value c.in-Literal.ty) (ap out-Rex c.in-Literal.is ∙ rex.outs-Literal c.in-Literal.value c.in-Literal.ty)) (search (rules, append_assoc))

pub RexGather::gather-returns-in-Parameter : goal.RexGather::gather-returns-in-Parameter
RexGather::gather-returns-in-Parameter t c = rw (numbers_rex c.args.what c.args.self.now (layer.Parameter c.in-Parameter.name c.in-Parameter.ty) (ap out-Rex c.in-Parameter.is ∙ rex.outs-Parameter c.in-Parameter.name c.in-Parameter.ty)) (search (rules, append_assoc))

pub RexGather::gather-returns-in-Column : goal.RexGather::gather-returns-in-Column
RexGather::gather-returns-in-Column t c = rw (numbers_rex c.args.what c.args.self.now (layer.Column c.in-Column.column c.in-Column.ty) (ap out-Rex c.in-Column.is ∙ rex.outs-Column c.in-Column.column c.in-Column.ty)) (search rules)

pub RexGather::gather-returns-in-Outer : goal.RexGather::gather-returns-in-Outer
RexGather::gather-returns-in-Outer t c = rw (numbers_rex c.args.what c.args.self.now (layer.Outer c.in-Outer.column c.in-Outer.ty) (ap out-Rex c.in-Outer.is ∙ rex.outs-Outer c.in-Outer.column c.in-Outer.ty)) (search rules)

pub RexGather::gather-returns-in-Call : goal.RexGather::gather-returns-in-Call
RexGather::gather-returns-in-Call t c = rw (numbers_rex c.args.what c.args.self.now (layer.Call c.in-Call.signature c.in-Call.ty c.in-Call.arguments) (ap out-Rex c.in-Call.is ∙ rex.outs-Call c.in-Call.signature c.in-Call.ty c.in-Call.arguments)) (search rules)

pub RexGather::gather-returns-in-SafeCall : goal.RexGather::gather-returns-in-SafeCall
RexGather::gather-returns-in-SafeCall t c = rw (numbers_rex c.args.what c.args.self.now (layer.SafeCall c.in-SafeCall.signature c.in-SafeCall.ty c.in-SafeCall.arguments) (ap out-Rex c.in-SafeCall.is ∙ rex.outs-SafeCall c.in-SafeCall.signature c.in-SafeCall.ty c.in-SafeCall.arguments)) (search rules)

pub RexGather::gather-returns-in-Cast : goal.RexGather::gather-returns-in-Cast
RexGather::gather-returns-in-Cast t c = rw (numbers_rex c.args.what c.args.self.now (layer.Cast c.in-Cast.ty c.in-Cast.expr) (ap out-Rex c.in-Cast.is ∙ rex.outs-Cast c.in-Cast.ty c.in-Cast.expr)) (search rules)

pub RexGather::gather-returns-in-SafeCast : goal.RexGather::gather-returns-in-SafeCast
RexGather::gather-returns-in-SafeCast t c = rw (numbers_rex c.args.what c.args.self.now (layer.SafeCast c.in-SafeCast.ty c.in-SafeCast.expr) (ap out-Rex c.in-SafeCast.is ∙ rex.outs-SafeCast c.in-SafeCast.ty c.in-SafeCast.expr)) (search rules)

pub RexGather::gather-returns-in-If : goal.RexGather::gather-returns-in-If
RexGather::gather-returns-in-If t c = rw (numbers_rex c.args.what c.args.self.now (layer.If c.in-If.ty c.in-If.operands) (ap out-Rex c.in-If.is ∙ rex.outs-If c.in-If.ty c.in-If.operands)) (search rules)

pub RexGather::gather-returns-in-Case : goal.RexGather::gather-returns-in-Case
RexGather::gather-returns-in-Case t c = rw (numbers_rex c.args.what c.args.self.now (layer.Case c.in-Case.ty c.in-Case.operands) (ap out-Rex c.in-Case.is ∙ rex.outs-Case c.in-Case.ty c.in-Case.operands)) (search rules)

pub RexGather::gather-returns-in-Coalesce : goal.RexGather::gather-returns-in-Coalesce
RexGather::gather-returns-in-Coalesce t c = rw (numbers_rex c.args.what c.args.self.now (layer.Coalesce c.in-Coalesce.ty c.in-Coalesce.operands) (ap out-Rex c.in-Coalesce.is ∙ rex.outs-Coalesce c.in-Coalesce.ty c.in-Coalesce.operands)) (search rules)

pub RexGather::gather-returns-in-And : goal.RexGather::gather-returns-in-And
RexGather::gather-returns-in-And t c = rw (numbers_rex c.args.what c.args.self.now (layer.And c.in-And.ty c.in-And.operands) (ap out-Rex c.in-And.is ∙ rex.outs-And c.in-And.ty c.in-And.operands)) (search rules)

pub RexGather::gather-returns-in-Or : goal.RexGather::gather-returns-in-Or
RexGather::gather-returns-in-Or t c = rw (numbers_rex c.args.what c.args.self.now (layer.Or c.in-Or.ty c.in-Or.operands) (ap out-Rex c.in-Or.is ∙ rex.outs-Or c.in-Or.ty c.in-Or.operands)) (search rules)

pub RexGather::gather-returns-in-IfError : goal.RexGather::gather-returns-in-IfError
RexGather::gather-returns-in-IfError t c = rw (numbers_rex c.args.what c.args.self.now (layer.IfError c.in-IfError.ty c.in-IfError.operands) (ap out-Rex c.in-IfError.is ∙ rex.outs-IfError c.in-IfError.ty c.in-IfError.operands)) (search rules)

pub RexGather::gather-returns-in-IsError : goal.RexGather::gather-returns-in-IsError
RexGather::gather-returns-in-IsError t c = rw (numbers_rex c.args.what c.args.self.now (layer.IsError c.in-IsError.ty c.in-IsError.operands) (ap out-Rex c.in-IsError.is ∙ rex.outs-IsError c.in-IsError.ty c.in-IsError.operands)) (search rules)

pub RexGather::gather-returns-in-NullIfError : goal.RexGather::gather-returns-in-NullIfError
RexGather::gather-returns-in-NullIfError t c = rw (numbers_rex c.args.what c.args.self.now (layer.NullIfError c.in-NullIfError.ty c.in-NullIfError.operands) (ap out-Rex c.in-NullIfError.is ∙ rex.outs-NullIfError c.in-NullIfError.ty c.in-NullIfError.operands)) (search rules)

pub RexGather::gather-returns-in-Raise : goal.RexGather::gather-returns-in-Raise
RexGather::gather-returns-in-Raise t c = rw (numbers_rex c.args.what c.args.self.now (layer.Raise c.in-Raise.ty c.in-Raise.operands) (ap out-Rex c.in-Raise.is ∙ rex.outs-Raise c.in-Raise.ty c.in-Raise.operands)) (search rules)

pub RexGather::gather-returns-in_ok-gather-in-InList : goal.RexGather::gather-returns-in_ok-gather-in-InList
RexGather::gather-returns-in_ok-gather-in-InList t c = rw (numbers_rex c.args.what c.args.self.now (layer.InList c.in-InList.search c.in-InList.list) (ap out-Rex c.in-InList.is ∙ rex.outs-InList c.in-InList.search c.in-InList.list)) (search (rules, append_assoc))

pub RexGather::gather-returns-in_ok-gather-in-InArray : goal.RexGather::gather-returns-in_ok-gather-in-InArray
RexGather::gather-returns-in_ok-gather-in-InArray t c = rw (numbers_rex c.args.what c.args.self.now (layer.InArray c.in-InArray.search c.in-InArray.array) (ap out-Rex c.in-InArray.is ∙ rex.outs-InArray c.in-InArray.search c.in-InArray.array)) (search (rules, append_assoc))

pub RexGather::gather-returns-in_ok-gather-in-Let : goal.RexGather::gather-returns-in_ok-gather-in-Let
RexGather::gather-returns-in_ok-gather-in-Let t c = rw (numbers_rex c.args.what c.args.self.now (layer.Let c.in-Let.ty c.in-Let.bindings c.in-Let.expr) (ap out-Rex c.in-Let.is ∙ rex.outs-Let c.in-Let.ty c.in-Let.bindings c.in-Let.expr)) (search (rules, append_assoc))

pub RexGather::gather-returns-in-MakeArray : goal.RexGather::gather-returns-in-MakeArray
RexGather::gather-returns-in-MakeArray t c = rw (numbers_rex c.args.what c.args.self.now (layer.MakeArray c.in-MakeArray.ty c.in-MakeArray.parts) (ap out-Rex c.in-MakeArray.is ∙ rex.outs-MakeArray c.in-MakeArray.ty c.in-MakeArray.parts)) (search rules)

pub RexGather::gather-returns-in-MakeStruct : goal.RexGather::gather-returns-in-MakeStruct
RexGather::gather-returns-in-MakeStruct t c = rw (numbers_rex c.args.what c.args.self.now (layer.MakeStruct c.in-MakeStruct.ty c.in-MakeStruct.parts) (ap out-Rex c.in-MakeStruct.is ∙ rex.outs-MakeStruct c.in-MakeStruct.ty c.in-MakeStruct.parts)) (search rules)

pub RexGather::gather-returns-in-Field : goal.RexGather::gather-returns-in-Field
RexGather::gather-returns-in-Field t c = rw (numbers_rex c.args.what c.args.self.now (layer.Field c.in-Field.place c.in-Field.ty c.in-Field.expr) (ap out-Rex c.in-Field.is ∙ rex.outs-Field c.in-Field.place c.in-Field.ty c.in-Field.expr)) (search rules)

pub RexGather::gather-returns-in_ok-gather-in-Index : goal.RexGather::gather-returns-in_ok-gather-in-Index
RexGather::gather-returns-in_ok-gather-in-Index t c = rw (numbers_rex c.args.what c.args.self.now (layer.Index c.in-Index.form c.in-Index.ty c.in-Index.array c.in-Index.index) (ap out-Rex c.in-Index.is ∙ rex.outs-Index c.in-Index.form c.in-Index.ty c.in-Index.array c.in-Index.index)) (search (rules, append_assoc))

pub RexGather::gather-returns-in_ok-used_columns-in-Scalar : goal.RexGather::gather-returns-in_ok-used_columns-in-Scalar
RexGather::gather-returns-in_ok-used_columns-in-Scalar t c = rw (numbers_rex c.args.what c.args.self.now (layer.Scalar c.in-Scalar.ty c.in-Scalar.column c.in-Scalar.outer c.in-Scalar.scan) (ap out-Rex c.in-Scalar.is ∙ rex.outs-Scalar c.in-Scalar.ty c.in-Scalar.column c.in-Scalar.outer c.in-Scalar.scan)) (search (rules, append_assoc))

pub RexGather::gather-returns-in_ok-used_columns-in-ArrayOf : goal.RexGather::gather-returns-in_ok-used_columns-in-ArrayOf
RexGather::gather-returns-in_ok-used_columns-in-ArrayOf t c = rw (numbers_rex c.args.what c.args.self.now (layer.ArrayOf c.in-ArrayOf.ty c.in-ArrayOf.column c.in-ArrayOf.outer c.in-ArrayOf.scan) (ap out-Rex c.in-ArrayOf.is ∙ rex.outs-ArrayOf c.in-ArrayOf.ty c.in-ArrayOf.column c.in-ArrayOf.outer c.in-ArrayOf.scan)) (search (rules, append_assoc))

pub RexGather::gather-returns-in_ok-used_columns-in-Exists : goal.RexGather::gather-returns-in_ok-used_columns-in-Exists
RexGather::gather-returns-in_ok-used_columns-in-Exists t c = rw (numbers_rex c.args.what c.args.self.now (layer.Exists c.in-Exists.ty c.in-Exists.outer c.in-Exists.scan) (ap out-Rex c.in-Exists.is ∙ rex.outs-Exists c.in-Exists.ty c.in-Exists.outer c.in-Exists.scan)) (search (rules, append_assoc))

pub RexGather::gather-returns-in_ok-gather-in-InQuery : goal.RexGather::gather-returns-in_ok-gather-in-InQuery
RexGather::gather-returns-in_ok-gather-in-InQuery t c = rw (numbers_rex c.args.what c.args.self.now (layer.InQuery c.in-InQuery.ty c.in-InQuery.column c.in-InQuery.outer c.in-InQuery.search c.in-InQuery.scan) (ap out-Rex c.in-InQuery.is ∙ rex.outs-InQuery c.in-InQuery.ty c.in-InQuery.column c.in-InQuery.outer c.in-InQuery.search c.in-InQuery.scan)) (search (rules, append_assoc))

pub ScanGather::gather-returns-in-Single : goal.ScanGather::gather-returns-in-Single
ScanGather::gather-returns-in-Single t c = rw (numbers_scan c.args.what c.args.self.now layer.Single (ap out-Scan c.in-Single.is ∙ scan.outs-Single)) (search (rules, append_assoc))

pub ScanGather::gather-returns-in-Table : goal.ScanGather::gather-returns-in-Table
ScanGather::gather-returns-in-Table t c = rw (numbers_scan c.args.what c.args.self.now (layer.Table c.in-Table.name c.in-Table.number c.in-Table.columns) (ap out-Scan c.in-Table.is ∙ scan.outs-Table c.in-Table.name c.in-Table.number c.in-Table.columns)) (search rules)

pub ScanGather::gather-returns-in_ok-gather-in-With : goal.ScanGather::gather-returns-in_ok-gather-in-With
ScanGather::gather-returns-in_ok-gather-in-With t c = rw (numbers_scan c.args.what c.args.self.now (layer.With c.in-With.ctes c.in-With.scan) (ap out-Scan c.in-With.is ∙ scan.outs-With c.in-With.ctes c.in-With.scan)) (search (rules, append_assoc))

pub ScanGather::gather-returns-in-CteRef : goal.ScanGather::gather-returns-in-CteRef
ScanGather::gather-returns-in-CteRef t c = rw (numbers_scan c.args.what c.args.self.now (layer.CteRef c.in-CteRef.number c.in-CteRef.columns) (ap out-Scan c.in-CteRef.is ∙ scan.outs-CteRef c.in-CteRef.number c.in-CteRef.columns)) (search rules)

pub ScanGather::gather-returns-in_ok-gather-in-Unnest-2 : goal.ScanGather::gather-returns-in_ok-gather-in-Unnest-2
ScanGather::gather-returns-in_ok-gather-in-Unnest-2 t c = rw (numbers_scan c.args.what c.args.self.now (layer.Unnest c.in-Unnest.kind c.in-Unnest.element c.in-Unnest.offset c.in-Unnest.scan c.in-Unnest.array c.in-Unnest.condition) (ap out-Scan c.in-Unnest.is ∙ scan.outs-Unnest c.in-Unnest.kind c.in-Unnest.element c.in-Unnest.offset c.in-Unnest.scan c.in-Unnest.array c.in-Unnest.condition)) (search (rules, append_assoc))

pub ScanGather::gather-returns-in_ok-gather-in-Join-2 : goal.ScanGather::gather-returns-in_ok-gather-in-Join-2
ScanGather::gather-returns-in_ok-gather-in-Join-2 t c = rw (numbers_scan c.args.what c.args.self.now (layer.Join c.in-Join.kind c.in-Join.left c.in-Join.right c.in-Join.condition) (ap out-Scan c.in-Join.is ∙ scan.outs-Join c.in-Join.kind c.in-Join.left c.in-Join.right c.in-Join.condition)) (search (rules, append_assoc))

pub ScanGather::gather-returns-in_ok-gather-in-Filter : goal.ScanGather::gather-returns-in_ok-gather-in-Filter
ScanGather::gather-returns-in_ok-gather-in-Filter t c = rw (numbers_scan c.args.what c.args.self.now (layer.Filter c.in-Filter.scan c.in-Filter.condition) (ap out-Scan c.in-Filter.is ∙ scan.outs-Filter c.in-Filter.scan c.in-Filter.condition)) (search (rules, append_assoc))

pub ScanGather::gather-returns-in_ok-gather-in-Project : goal.ScanGather::gather-returns-in_ok-gather-in-Project
ScanGather::gather-returns-in_ok-gather-in-Project t c = rw (numbers_scan c.args.what c.args.self.now (layer.Project c.in-Project.columns c.in-Project.scan c.in-Project.computed) (ap out-Scan c.in-Project.is ∙ scan.outs-Project c.in-Project.columns c.in-Project.scan c.in-Project.computed)) (search (rules, append_assoc))
