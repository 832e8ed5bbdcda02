-- Each tree is written as its law says, and its parts can be written where it can.
use Rattle.std.proofs.Common.{rules, sym, ap, ◌∙◌}
use Rattle.resolved_ast.specs.declared.rex.Rex.{out-Rex}
use Rattle.resolved_ast.specs.declared.rex.Rex.TheVariants as rex
use Rattle.resolved_ast.specs.declared.scan.Scan.{out-Scan}
use Rattle.resolved_ast.specs.declared.scan.Scan.TheVariants as scan
use Rattle.resolved_ast.proofs.FitLaws.{fits_rex, rex_fits_at, fits_scan, scan_fits_at, first_of, second_of}
use Rattle.resolved_ast.proofs.TextLaws.{paged_rex, rex_page, paged_scan, scan_page}
use Rattle.resolved_ast.proofs.shown_trees.+shown.Goals as goal

pub RexShown::show-literal_line-requires : goal.RexShown::show-literal_line-requires
RexShown::show-literal_line-requires t c = sym (fits_rex c.args.self.now ∙ ap rex_fits_at (ap out-Rex c.in-Literal.is ∙ rex.outs-Literal c.in-Literal.value c.in-Literal.ty)) ∙ c.requires

pub RexShown::show-show_below-requires : goal.RexShown::show-show_below-requires
RexShown::show-show_below-requires t c = sym (fits_rex c.args.self.now ∙ ap rex_fits_at (ap out-Rex c.in-Call.is ∙ rex.outs-Call c.in-Call.signature c.in-Call.ty c.in-Call.arguments)) ∙ c.requires

pub RexShown::show-show_below-requires-in-SafeCall : goal.RexShown::show-show_below-requires-in-SafeCall
RexShown::show-show_below-requires-in-SafeCall t c = sym (fits_rex c.args.self.now ∙ ap rex_fits_at (ap out-Rex c.in-SafeCall.is ∙ rex.outs-SafeCall c.in-SafeCall.signature c.in-SafeCall.ty c.in-SafeCall.arguments)) ∙ c.requires

pub RexShown::show-show_below-requires-in-Cast : goal.RexShown::show-show_below-requires-in-Cast
RexShown::show-show_below-requires-in-Cast t c = sym (fits_rex c.args.self.now ∙ ap rex_fits_at (ap out-Rex c.in-Cast.is ∙ rex.outs-Cast c.in-Cast.ty c.in-Cast.expr)) ∙ c.requires

pub RexShown::show-show_below-requires-in-SafeCast : goal.RexShown::show-show_below-requires-in-SafeCast
RexShown::show-show_below-requires-in-SafeCast t c = sym (fits_rex c.args.self.now ∙ ap rex_fits_at (ap out-Rex c.in-SafeCast.is ∙ rex.outs-SafeCast c.in-SafeCast.ty c.in-SafeCast.expr)) ∙ c.requires

pub RexShown::show-show_below-requires-in-If : goal.RexShown::show-show_below-requires-in-If
RexShown::show-show_below-requires-in-If t c = sym (fits_rex c.args.self.now ∙ ap rex_fits_at (ap out-Rex c.in-If.is ∙ rex.outs-If c.in-If.ty c.in-If.operands)) ∙ c.requires

pub RexShown::show-show_below-requires-in-Case : goal.RexShown::show-show_below-requires-in-Case
RexShown::show-show_below-requires-in-Case t c = sym (fits_rex c.args.self.now ∙ ap rex_fits_at (ap out-Rex c.in-Case.is ∙ rex.outs-Case c.in-Case.ty c.in-Case.operands)) ∙ c.requires

pub RexShown::show-show_below-requires-in-Coalesce : goal.RexShown::show-show_below-requires-in-Coalesce
RexShown::show-show_below-requires-in-Coalesce t c = sym (fits_rex c.args.self.now ∙ ap rex_fits_at (ap out-Rex c.in-Coalesce.is ∙ rex.outs-Coalesce c.in-Coalesce.ty c.in-Coalesce.operands)) ∙ c.requires

pub RexShown::show-show_below-requires-in-And : goal.RexShown::show-show_below-requires-in-And
RexShown::show-show_below-requires-in-And t c = sym (fits_rex c.args.self.now ∙ ap rex_fits_at (ap out-Rex c.in-And.is ∙ rex.outs-And c.in-And.ty c.in-And.operands)) ∙ c.requires

pub RexShown::show-show_below-requires-in-Or : goal.RexShown::show-show_below-requires-in-Or
RexShown::show-show_below-requires-in-Or t c = sym (fits_rex c.args.self.now ∙ ap rex_fits_at (ap out-Rex c.in-Or.is ∙ rex.outs-Or c.in-Or.ty c.in-Or.operands)) ∙ c.requires

pub RexShown::show-show_below-requires-in-IfError : goal.RexShown::show-show_below-requires-in-IfError
RexShown::show-show_below-requires-in-IfError t c = sym (fits_rex c.args.self.now ∙ ap rex_fits_at (ap out-Rex c.in-IfError.is ∙ rex.outs-IfError c.in-IfError.ty c.in-IfError.operands)) ∙ c.requires

pub RexShown::show-show_below-requires-in-IsError : goal.RexShown::show-show_below-requires-in-IsError
RexShown::show-show_below-requires-in-IsError t c = sym (fits_rex c.args.self.now ∙ ap rex_fits_at (ap out-Rex c.in-IsError.is ∙ rex.outs-IsError c.in-IsError.ty c.in-IsError.operands)) ∙ c.requires

pub RexShown::show-show_below-requires-in-NullIfError : goal.RexShown::show-show_below-requires-in-NullIfError
RexShown::show-show_below-requires-in-NullIfError t c = sym (fits_rex c.args.self.now ∙ ap rex_fits_at (ap out-Rex c.in-NullIfError.is ∙ rex.outs-NullIfError c.in-NullIfError.ty c.in-NullIfError.operands)) ∙ c.requires

pub RexShown::show-show_below-requires-in-Raise : goal.RexShown::show-show_below-requires-in-Raise
RexShown::show-show_below-requires-in-Raise t c = sym (fits_rex c.args.self.now ∙ ap rex_fits_at (ap out-Rex c.in-Raise.is ∙ rex.outs-Raise c.in-Raise.ty c.in-Raise.operands)) ∙ c.requires

pub RexShown::show-show_below-requires-in-InList : goal.RexShown::show-show_below-requires-in-InList
RexShown::show-show_below-requires-in-InList t c = first_of _ _ (sym (fits_rex c.args.self.now ∙ ap rex_fits_at (ap out-Rex c.in-InList.is ∙ rex.outs-InList c.in-InList.search c.in-InList.list)) ∙ c.requires)

pub RexShown::show-show_below-requires-in-InList-2 : goal.RexShown::show-show_below-requires-in-InList-2
RexShown::show-show_below-requires-in-InList-2 t c = second_of _ _ (sym (fits_rex c.args.self.now ∙ ap rex_fits_at (ap out-Rex c.in-InList.is ∙ rex.outs-InList c.in-InList.search c.in-InList.list)) ∙ c.requires)

pub RexShown::show-show_below-requires-in-InArray : goal.RexShown::show-show_below-requires-in-InArray
RexShown::show-show_below-requires-in-InArray t c = first_of _ _ (sym (fits_rex c.args.self.now ∙ ap rex_fits_at (ap out-Rex c.in-InArray.is ∙ rex.outs-InArray c.in-InArray.search c.in-InArray.array)) ∙ c.requires)

pub RexShown::show-show_below-requires-in-InArray-2 : goal.RexShown::show-show_below-requires-in-InArray-2
RexShown::show-show_below-requires-in-InArray-2 t c = second_of _ _ (sym (fits_rex c.args.self.now ∙ ap rex_fits_at (ap out-Rex c.in-InArray.is ∙ rex.outs-InArray c.in-InArray.search c.in-InArray.array)) ∙ c.requires)

pub RexShown::show-show_below-requires-in-Let : goal.RexShown::show-show_below-requires-in-Let
RexShown::show-show_below-requires-in-Let t c = first_of _ _ (sym (fits_rex c.args.self.now ∙ ap rex_fits_at (ap out-Rex c.in-Let.is ∙ rex.outs-Let c.in-Let.ty c.in-Let.bindings c.in-Let.expr)) ∙ c.requires)

pub RexShown::show-show_below-requires-in-Let-2 : goal.RexShown::show-show_below-requires-in-Let-2
RexShown::show-show_below-requires-in-Let-2 t c = second_of _ _ (sym (fits_rex c.args.self.now ∙ ap rex_fits_at (ap out-Rex c.in-Let.is ∙ rex.outs-Let c.in-Let.ty c.in-Let.bindings c.in-Let.expr)) ∙ c.requires)

pub RexShown::show-show_below-requires-in-MakeArray : goal.RexShown::show-show_below-requires-in-MakeArray
RexShown::show-show_below-requires-in-MakeArray t c = sym (fits_rex c.args.self.now ∙ ap rex_fits_at (ap out-Rex c.in-MakeArray.is ∙ rex.outs-MakeArray c.in-MakeArray.ty c.in-MakeArray.parts)) ∙ c.requires

pub RexShown::show-show_below-requires-in-MakeStruct : goal.RexShown::show-show_below-requires-in-MakeStruct
RexShown::show-show_below-requires-in-MakeStruct t c = sym (fits_rex c.args.self.now ∙ ap rex_fits_at (ap out-Rex c.in-MakeStruct.is ∙ rex.outs-MakeStruct c.in-MakeStruct.ty c.in-MakeStruct.parts)) ∙ c.requires

pub RexShown::show-show_below-requires-in-Field : goal.RexShown::show-show_below-requires-in-Field
RexShown::show-show_below-requires-in-Field t c = sym (fits_rex c.args.self.now ∙ ap rex_fits_at (ap out-Rex c.in-Field.is ∙ rex.outs-Field c.in-Field.place c.in-Field.ty c.in-Field.expr)) ∙ c.requires

pub RexShown::show-show_below-requires-in-Index : goal.RexShown::show-show_below-requires-in-Index
RexShown::show-show_below-requires-in-Index t c = first_of _ _ (sym (fits_rex c.args.self.now ∙ ap rex_fits_at (ap out-Rex c.in-Index.is ∙ rex.outs-Index c.in-Index.form c.in-Index.ty c.in-Index.array c.in-Index.index)) ∙ c.requires)

pub RexShown::show-show_below-requires-in-Index-2 : goal.RexShown::show-show_below-requires-in-Index-2
RexShown::show-show_below-requires-in-Index-2 t c = second_of _ _ (sym (fits_rex c.args.self.now ∙ ap rex_fits_at (ap out-Rex c.in-Index.is ∙ rex.outs-Index c.in-Index.form c.in-Index.ty c.in-Index.array c.in-Index.index)) ∙ c.requires)

pub RexShown::show-show_below-requires-in-Scalar : goal.RexShown::show-show_below-requires-in-Scalar
RexShown::show-show_below-requires-in-Scalar t c = sym (fits_rex c.args.self.now ∙ ap rex_fits_at (ap out-Rex c.in-Scalar.is ∙ rex.outs-Scalar c.in-Scalar.ty c.in-Scalar.column c.in-Scalar.outer c.in-Scalar.scan)) ∙ c.requires

pub RexShown::show-show_below-requires-in-ArrayOf : goal.RexShown::show-show_below-requires-in-ArrayOf
RexShown::show-show_below-requires-in-ArrayOf t c = sym (fits_rex c.args.self.now ∙ ap rex_fits_at (ap out-Rex c.in-ArrayOf.is ∙ rex.outs-ArrayOf c.in-ArrayOf.ty c.in-ArrayOf.column c.in-ArrayOf.outer c.in-ArrayOf.scan)) ∙ c.requires

pub RexShown::show-show_below-requires-in-Exists : goal.RexShown::show-show_below-requires-in-Exists
RexShown::show-show_below-requires-in-Exists t c = sym (fits_rex c.args.self.now ∙ ap rex_fits_at (ap out-Rex c.in-Exists.is ∙ rex.outs-Exists c.in-Exists.ty c.in-Exists.outer c.in-Exists.scan)) ∙ c.requires

pub RexShown::show-show_below-requires-in-InQuery : goal.RexShown::show-show_below-requires-in-InQuery
RexShown::show-show_below-requires-in-InQuery t c = first_of _ _ (sym (fits_rex c.args.self.now ∙ ap rex_fits_at (ap out-Rex c.in-InQuery.is ∙ rex.outs-InQuery c.in-InQuery.ty c.in-InQuery.column c.in-InQuery.outer c.in-InQuery.search c.in-InQuery.scan)) ∙ c.requires)

pub RexShown::show-show_below-requires-in-InQuery-2 : goal.RexShown::show-show_below-requires-in-InQuery-2
RexShown::show-show_below-requires-in-InQuery-2 t c = second_of _ _ (sym (fits_rex c.args.self.now ∙ ap rex_fits_at (ap out-Rex c.in-InQuery.is ∙ rex.outs-InQuery c.in-InQuery.ty c.in-InQuery.column c.in-InQuery.outer c.in-InQuery.search c.in-InQuery.scan)) ∙ c.requires)

pub RexShown::show-returns-in-Literal : goal.RexShown::show-returns-in-Literal
RexShown::show-returns-in-Literal t c = rw (paged_rex c.args.self.now c.args.page.now ∙ ap (λ z. rex_page z c.args.page.now) (ap out-Rex c.in-Literal.is ∙ rex.outs-Literal c.in-Literal.value c.in-Literal.ty)) (search rules)

pub RexShown::show-returns-in-Parameter : goal.RexShown::show-returns-in-Parameter
RexShown::show-returns-in-Parameter t c = rw (paged_rex c.args.self.now c.args.page.now ∙ ap (λ z. rex_page z c.args.page.now) (ap out-Rex c.in-Parameter.is ∙ rex.outs-Parameter c.in-Parameter.name c.in-Parameter.ty)) (search rules)

pub RexShown::show-returns-in-Column : goal.RexShown::show-returns-in-Column
RexShown::show-returns-in-Column t c = rw (paged_rex c.args.self.now c.args.page.now ∙ ap (λ z. rex_page z c.args.page.now) (ap out-Rex c.in-Column.is ∙ rex.outs-Column c.in-Column.column c.in-Column.ty)) (search rules)

pub RexShown::show-returns-in-Outer : goal.RexShown::show-returns-in-Outer
RexShown::show-returns-in-Outer t c = rw (paged_rex c.args.self.now c.args.page.now ∙ ap (λ z. rex_page z c.args.page.now) (ap out-Rex c.in-Outer.is ∙ rex.outs-Outer c.in-Outer.column c.in-Outer.ty)) (search rules)

pub RexShown::show-returns-in_ok-call_line-in-Call : goal.RexShown::show-returns-in_ok-call_line-in-Call
RexShown::show-returns-in_ok-call_line-in-Call t c = rw (paged_rex c.args.self.now c.args.page.now ∙ ap (λ z. rex_page z c.args.page.now) (ap out-Rex c.in-Call.is ∙ rex.outs-Call c.in-Call.signature c.in-Call.ty c.in-Call.arguments)) (search rules)

pub RexShown::show-returns-in_ok-call_line-in-SafeCall : goal.RexShown::show-returns-in_ok-call_line-in-SafeCall
RexShown::show-returns-in_ok-call_line-in-SafeCall t c = rw (paged_rex c.args.self.now c.args.page.now ∙ ap (λ z. rex_page z c.args.page.now) (ap out-Rex c.in-SafeCall.is ∙ rex.outs-SafeCall c.in-SafeCall.signature c.in-SafeCall.ty c.in-SafeCall.arguments)) (search rules)

pub RexShown::show-returns-in_ok-typed_line-in-Cast : goal.RexShown::show-returns-in_ok-typed_line-in-Cast
RexShown::show-returns-in_ok-typed_line-in-Cast t c = rw (paged_rex c.args.self.now c.args.page.now ∙ ap (λ z. rex_page z c.args.page.now) (ap out-Rex c.in-Cast.is ∙ rex.outs-Cast c.in-Cast.ty c.in-Cast.expr)) (search rules)

pub RexShown::show-returns-in_ok-typed_line-in-SafeCast : goal.RexShown::show-returns-in_ok-typed_line-in-SafeCast
RexShown::show-returns-in_ok-typed_line-in-SafeCast t c = rw (paged_rex c.args.self.now c.args.page.now ∙ ap (λ z. rex_page z c.args.page.now) (ap out-Rex c.in-SafeCast.is ∙ rex.outs-SafeCast c.in-SafeCast.ty c.in-SafeCast.expr)) (search rules)

pub RexShown::show-returns-in_ok-typed_line-in-If : goal.RexShown::show-returns-in_ok-typed_line-in-If
RexShown::show-returns-in_ok-typed_line-in-If t c = rw (paged_rex c.args.self.now c.args.page.now ∙ ap (λ z. rex_page z c.args.page.now) (ap out-Rex c.in-If.is ∙ rex.outs-If c.in-If.ty c.in-If.operands)) (search rules)

pub RexShown::show-returns-in_ok-typed_line-in-Case : goal.RexShown::show-returns-in_ok-typed_line-in-Case
RexShown::show-returns-in_ok-typed_line-in-Case t c = rw (paged_rex c.args.self.now c.args.page.now ∙ ap (λ z. rex_page z c.args.page.now) (ap out-Rex c.in-Case.is ∙ rex.outs-Case c.in-Case.ty c.in-Case.operands)) (search rules)

pub RexShown::show-returns-in_ok-typed_line-in-Coalesce : goal.RexShown::show-returns-in_ok-typed_line-in-Coalesce
RexShown::show-returns-in_ok-typed_line-in-Coalesce t c = rw (paged_rex c.args.self.now c.args.page.now ∙ ap (λ z. rex_page z c.args.page.now) (ap out-Rex c.in-Coalesce.is ∙ rex.outs-Coalesce c.in-Coalesce.ty c.in-Coalesce.operands)) (search rules)

pub RexShown::show-returns-in_ok-typed_line-in-And : goal.RexShown::show-returns-in_ok-typed_line-in-And
RexShown::show-returns-in_ok-typed_line-in-And t c = rw (paged_rex c.args.self.now c.args.page.now ∙ ap (λ z. rex_page z c.args.page.now) (ap out-Rex c.in-And.is ∙ rex.outs-And c.in-And.ty c.in-And.operands)) (search rules)

pub RexShown::show-returns-in_ok-typed_line-in-Or : goal.RexShown::show-returns-in_ok-typed_line-in-Or
RexShown::show-returns-in_ok-typed_line-in-Or t c = rw (paged_rex c.args.self.now c.args.page.now ∙ ap (λ z. rex_page z c.args.page.now) (ap out-Rex c.in-Or.is ∙ rex.outs-Or c.in-Or.ty c.in-Or.operands)) (search rules)

pub RexShown::show-returns-in_ok-typed_line-in-IfError : goal.RexShown::show-returns-in_ok-typed_line-in-IfError
RexShown::show-returns-in_ok-typed_line-in-IfError t c = rw (paged_rex c.args.self.now c.args.page.now ∙ ap (λ z. rex_page z c.args.page.now) (ap out-Rex c.in-IfError.is ∙ rex.outs-IfError c.in-IfError.ty c.in-IfError.operands)) (search rules)

pub RexShown::show-returns-in_ok-typed_line-in-IsError : goal.RexShown::show-returns-in_ok-typed_line-in-IsError
RexShown::show-returns-in_ok-typed_line-in-IsError t c = rw (paged_rex c.args.self.now c.args.page.now ∙ ap (λ z. rex_page z c.args.page.now) (ap out-Rex c.in-IsError.is ∙ rex.outs-IsError c.in-IsError.ty c.in-IsError.operands)) (search rules)

pub RexShown::show-returns-in_ok-typed_line-in-NullIfError : goal.RexShown::show-returns-in_ok-typed_line-in-NullIfError
RexShown::show-returns-in_ok-typed_line-in-NullIfError t c = rw (paged_rex c.args.self.now c.args.page.now ∙ ap (λ z. rex_page z c.args.page.now) (ap out-Rex c.in-NullIfError.is ∙ rex.outs-NullIfError c.in-NullIfError.ty c.in-NullIfError.operands)) (search rules)

pub RexShown::show-returns-in_ok-typed_line-in-Raise : goal.RexShown::show-returns-in_ok-typed_line-in-Raise
RexShown::show-returns-in_ok-typed_line-in-Raise t c = rw (paged_rex c.args.self.now c.args.page.now ∙ ap (λ z. rex_page z c.args.page.now) (ap out-Rex c.in-Raise.is ∙ rex.outs-Raise c.in-Raise.ty c.in-Raise.operands)) (search rules)

pub RexShown::show-returns-in_ok-show_below-in-InList : goal.RexShown::show-returns-in_ok-show_below-in-InList
RexShown::show-returns-in_ok-show_below-in-InList t c = rw (paged_rex c.args.self.now c.args.page.now ∙ ap (λ z. rex_page z c.args.page.now) (ap out-Rex c.in-InList.is ∙ rex.outs-InList c.in-InList.search c.in-InList.list)) (search rules)

pub RexShown::show-returns-in_ok-show_below-in-InArray : goal.RexShown::show-returns-in_ok-show_below-in-InArray
RexShown::show-returns-in_ok-show_below-in-InArray t c = rw (paged_rex c.args.self.now c.args.page.now ∙ ap (λ z. rex_page z c.args.page.now) (ap out-Rex c.in-InArray.is ∙ rex.outs-InArray c.in-InArray.search c.in-InArray.array)) (search rules)

pub RexShown::show-returns-in_ok-show_below-in-Let : goal.RexShown::show-returns-in_ok-show_below-in-Let
RexShown::show-returns-in_ok-show_below-in-Let t c = rw (paged_rex c.args.self.now c.args.page.now ∙ ap (λ z. rex_page z c.args.page.now) (ap out-Rex c.in-Let.is ∙ rex.outs-Let c.in-Let.ty c.in-Let.bindings c.in-Let.expr)) (search rules)

pub RexShown::show-returns-in_ok-typed_line-in-MakeArray : goal.RexShown::show-returns-in_ok-typed_line-in-MakeArray
RexShown::show-returns-in_ok-typed_line-in-MakeArray t c = rw (paged_rex c.args.self.now c.args.page.now ∙ ap (λ z. rex_page z c.args.page.now) (ap out-Rex c.in-MakeArray.is ∙ rex.outs-MakeArray c.in-MakeArray.ty c.in-MakeArray.parts)) (search rules)

pub RexShown::show-returns-in_ok-typed_line-in-MakeStruct : goal.RexShown::show-returns-in_ok-typed_line-in-MakeStruct
RexShown::show-returns-in_ok-typed_line-in-MakeStruct t c = rw (paged_rex c.args.self.now c.args.page.now ∙ ap (λ z. rex_page z c.args.page.now) (ap out-Rex c.in-MakeStruct.is ∙ rex.outs-MakeStruct c.in-MakeStruct.ty c.in-MakeStruct.parts)) (search rules)

pub RexShown::show-returns-in_ok-field_line-in-Field : goal.RexShown::show-returns-in_ok-field_line-in-Field
RexShown::show-returns-in_ok-field_line-in-Field t c = rw (paged_rex c.args.self.now c.args.page.now ∙ ap (λ z. rex_page z c.args.page.now) (ap out-Rex c.in-Field.is ∙ rex.outs-Field c.in-Field.place c.in-Field.ty c.in-Field.expr)) (search rules)

pub RexShown::show-returns-in_ok-show_below-in-Index : goal.RexShown::show-returns-in_ok-show_below-in-Index
RexShown::show-returns-in_ok-show_below-in-Index t c = rw (paged_rex c.args.self.now c.args.page.now ∙ ap (λ z. rex_page z c.args.page.now) (ap out-Rex c.in-Index.is ∙ rex.outs-Index c.in-Index.form c.in-Index.ty c.in-Index.array c.in-Index.index)) (search rules)

pub RexShown::show-returns-in_ok-subquery_line-in-Scalar : goal.RexShown::show-returns-in_ok-subquery_line-in-Scalar
RexShown::show-returns-in_ok-subquery_line-in-Scalar t c = rw (paged_rex c.args.self.now c.args.page.now ∙ ap (λ z. rex_page z c.args.page.now) (ap out-Rex c.in-Scalar.is ∙ rex.outs-Scalar c.in-Scalar.ty c.in-Scalar.column c.in-Scalar.outer c.in-Scalar.scan)) (search rules)

pub RexShown::show-returns-in_ok-subquery_line-in-ArrayOf : goal.RexShown::show-returns-in_ok-subquery_line-in-ArrayOf
RexShown::show-returns-in_ok-subquery_line-in-ArrayOf t c = rw (paged_rex c.args.self.now c.args.page.now ∙ ap (λ z. rex_page z c.args.page.now) (ap out-Rex c.in-ArrayOf.is ∙ rex.outs-ArrayOf c.in-ArrayOf.ty c.in-ArrayOf.column c.in-ArrayOf.outer c.in-ArrayOf.scan)) (search rules)

pub RexShown::show-returns-in_ok-exists_line-in-Exists : goal.RexShown::show-returns-in_ok-exists_line-in-Exists
RexShown::show-returns-in_ok-exists_line-in-Exists t c = rw (paged_rex c.args.self.now c.args.page.now ∙ ap (λ z. rex_page z c.args.page.now) (ap out-Rex c.in-Exists.is ∙ rex.outs-Exists c.in-Exists.ty c.in-Exists.outer c.in-Exists.scan)) (search rules)

pub RexShown::show-returns-in_ok-show_below-in-InQuery : goal.RexShown::show-returns-in_ok-show_below-in-InQuery
RexShown::show-returns-in_ok-show_below-in-InQuery t c = rw (paged_rex c.args.self.now c.args.page.now ∙ ap (λ z. rex_page z c.args.page.now) (ap out-Rex c.in-InQuery.is ∙ rex.outs-InQuery c.in-InQuery.ty c.in-InQuery.column c.in-InQuery.outer c.in-InQuery.search c.in-InQuery.scan)) (search rules)

pub ScanShown::show-show_below-requires : goal.ScanShown::show-show_below-requires
ScanShown::show-show_below-requires t c = first_of _ _ (sym (fits_scan c.args.self.now ∙ ap scan_fits_at (ap out-Scan c.in-With.is ∙ scan.outs-With c.in-With.ctes c.in-With.scan)) ∙ c.requires)

pub ScanShown::show-show_below-requires-in-With : goal.ScanShown::show-show_below-requires-in-With
ScanShown::show-show_below-requires-in-With t c = second_of _ _ (sym (fits_scan c.args.self.now ∙ ap scan_fits_at (ap out-Scan c.in-With.is ∙ scan.outs-With c.in-With.ctes c.in-With.scan)) ∙ c.requires)

pub ScanShown::show-show_below-requires-in-Unnest : goal.ScanShown::show-show_below-requires-in-Unnest
ScanShown::show-show_below-requires-in-Unnest t c = first_of _ _ (sym (fits_scan c.args.self.now ∙ ap scan_fits_at (ap out-Scan c.in-Unnest.is ∙ scan.outs-Unnest c.in-Unnest.kind c.in-Unnest.element c.in-Unnest.offset c.in-Unnest.scan c.in-Unnest.array c.in-Unnest.condition)) ∙ c.requires)

pub ScanShown::show-show_below-requires-in-Unnest-2 : goal.ScanShown::show-show_below-requires-in-Unnest-2
ScanShown::show-show_below-requires-in-Unnest-2 t c = first_of _ _ (second_of _ _ (sym (fits_scan c.args.self.now ∙ ap scan_fits_at (ap out-Scan c.in-Unnest.is ∙ scan.outs-Unnest c.in-Unnest.kind c.in-Unnest.element c.in-Unnest.offset c.in-Unnest.scan c.in-Unnest.array c.in-Unnest.condition)) ∙ c.requires))

pub ScanShown::show-show_below-requires-in-Unnest-3 : goal.ScanShown::show-show_below-requires-in-Unnest-3
ScanShown::show-show_below-requires-in-Unnest-3 t c = second_of _ _ (second_of _ _ (sym (fits_scan c.args.self.now ∙ ap scan_fits_at (ap out-Scan c.in-Unnest.is ∙ scan.outs-Unnest c.in-Unnest.kind c.in-Unnest.element c.in-Unnest.offset c.in-Unnest.scan c.in-Unnest.array c.in-Unnest.condition)) ∙ c.requires))

pub ScanShown::show-show_below-requires-in-Join : goal.ScanShown::show-show_below-requires-in-Join
ScanShown::show-show_below-requires-in-Join t c = first_of _ _ (sym (fits_scan c.args.self.now ∙ ap scan_fits_at (ap out-Scan c.in-Join.is ∙ scan.outs-Join c.in-Join.kind c.in-Join.left c.in-Join.right c.in-Join.condition)) ∙ c.requires)

pub ScanShown::show-show_below-requires-in-Join-2 : goal.ScanShown::show-show_below-requires-in-Join-2
ScanShown::show-show_below-requires-in-Join-2 t c = first_of _ _ (second_of _ _ (sym (fits_scan c.args.self.now ∙ ap scan_fits_at (ap out-Scan c.in-Join.is ∙ scan.outs-Join c.in-Join.kind c.in-Join.left c.in-Join.right c.in-Join.condition)) ∙ c.requires))

pub ScanShown::show-show_below-requires-in-Join-3 : goal.ScanShown::show-show_below-requires-in-Join-3
ScanShown::show-show_below-requires-in-Join-3 t c = second_of _ _ (second_of _ _ (sym (fits_scan c.args.self.now ∙ ap scan_fits_at (ap out-Scan c.in-Join.is ∙ scan.outs-Join c.in-Join.kind c.in-Join.left c.in-Join.right c.in-Join.condition)) ∙ c.requires))

pub ScanShown::show-show_below-requires-in-Filter : goal.ScanShown::show-show_below-requires-in-Filter
ScanShown::show-show_below-requires-in-Filter t c = first_of _ _ (sym (fits_scan c.args.self.now ∙ ap scan_fits_at (ap out-Scan c.in-Filter.is ∙ scan.outs-Filter c.in-Filter.scan c.in-Filter.condition)) ∙ c.requires)

pub ScanShown::show-show_below-requires-in-Filter-2 : goal.ScanShown::show-show_below-requires-in-Filter-2
ScanShown::show-show_below-requires-in-Filter-2 t c = second_of _ _ (sym (fits_scan c.args.self.now ∙ ap scan_fits_at (ap out-Scan c.in-Filter.is ∙ scan.outs-Filter c.in-Filter.scan c.in-Filter.condition)) ∙ c.requires)

pub ScanShown::show-show_below-requires-in-Project : goal.ScanShown::show-show_below-requires-in-Project
ScanShown::show-show_below-requires-in-Project t c = first_of _ _ (sym (fits_scan c.args.self.now ∙ ap scan_fits_at (ap out-Scan c.in-Project.is ∙ scan.outs-Project c.in-Project.columns c.in-Project.scan c.in-Project.computed)) ∙ c.requires)

pub ScanShown::show-show_below-requires-in-Project-2 : goal.ScanShown::show-show_below-requires-in-Project-2
ScanShown::show-show_below-requires-in-Project-2 t c = second_of _ _ (sym (fits_scan c.args.self.now ∙ ap scan_fits_at (ap out-Scan c.in-Project.is ∙ scan.outs-Project c.in-Project.columns c.in-Project.scan c.in-Project.computed)) ∙ c.requires)

pub ScanShown::show-returns-in-Single : goal.ScanShown::show-returns-in-Single
ScanShown::show-returns-in-Single t c = rw (paged_scan c.args.self.now c.args.page.now ∙ ap (λ z. scan_page z c.args.page.now) (ap out-Scan c.in-Single.is ∙ scan.outs-Single)) (search rules)

pub ScanShown::show-returns-in-Table : goal.ScanShown::show-returns-in-Table
ScanShown::show-returns-in-Table t c = rw (paged_scan c.args.self.now c.args.page.now ∙ ap (λ z. scan_page z c.args.page.now) (ap out-Scan c.in-Table.is ∙ scan.outs-Table c.in-Table.name c.in-Table.number c.in-Table.columns)) (search rules)

pub ScanShown::show-returns-in_ok-show_below-in-With : goal.ScanShown::show-returns-in_ok-show_below-in-With
ScanShown::show-returns-in_ok-show_below-in-With t c = rw (paged_scan c.args.self.now c.args.page.now ∙ ap (λ z. scan_page z c.args.page.now) (ap out-Scan c.in-With.is ∙ scan.outs-With c.in-With.ctes c.in-With.scan)) (search rules)

pub ScanShown::show-returns-in-CteRef : goal.ScanShown::show-returns-in-CteRef
ScanShown::show-returns-in-CteRef t c = rw (paged_scan c.args.self.now c.args.page.now ∙ ap (λ z. scan_page z c.args.page.now) (ap out-Scan c.in-CteRef.is ∙ scan.outs-CteRef c.in-CteRef.number c.in-CteRef.columns)) (search rules)

pub ScanShown::show-returns-in_ok-show_below-in-Unnest-2 : goal.ScanShown::show-returns-in_ok-show_below-in-Unnest-2
ScanShown::show-returns-in_ok-show_below-in-Unnest-2 t c = rw (paged_scan c.args.self.now c.args.page.now ∙ ap (λ z. scan_page z c.args.page.now) (ap out-Scan c.in-Unnest.is ∙ scan.outs-Unnest c.in-Unnest.kind c.in-Unnest.element c.in-Unnest.offset c.in-Unnest.scan c.in-Unnest.array c.in-Unnest.condition)) (search rules)

pub ScanShown::show-returns-in_ok-show_below-in-Join-2 : goal.ScanShown::show-returns-in_ok-show_below-in-Join-2
ScanShown::show-returns-in_ok-show_below-in-Join-2 t c = rw (paged_scan c.args.self.now c.args.page.now ∙ ap (λ z. scan_page z c.args.page.now) (ap out-Scan c.in-Join.is ∙ scan.outs-Join c.in-Join.kind c.in-Join.left c.in-Join.right c.in-Join.condition)) (search rules)

pub ScanShown::show-returns-in_ok-show_below-in-Filter : goal.ScanShown::show-returns-in_ok-show_below-in-Filter
ScanShown::show-returns-in_ok-show_below-in-Filter t c = rw (paged_scan c.args.self.now c.args.page.now ∙ ap (λ z. scan_page z c.args.page.now) (ap out-Scan c.in-Filter.is ∙ scan.outs-Filter c.in-Filter.scan c.in-Filter.condition)) (search rules)

pub ScanShown::show-returns-in_ok-show_below-in-Project : goal.ScanShown::show-returns-in_ok-show_below-in-Project
ScanShown::show-returns-in_ok-show_below-in-Project t c = rw (paged_scan c.args.self.now c.args.page.now ∙ ap (λ z. scan_page z c.args.page.now) (ap out-Scan c.in-Project.is ∙ scan.outs-Project c.in-Project.columns c.in-Project.scan c.in-Project.computed)) (search rules)
