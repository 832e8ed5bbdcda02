-- Each tree is walked as its law says.
use Rattle.std.proofs.Common.{Bool, List, [], ◌∷◌, ◌++◌, map, ap, sym, ◌∙◌}
use Rattle.sql_types.specs.declared.sql_type.SqlType.TheVariants as types
use Rattle.resolved_ast.specs.declared.column.MadeColumn.{MadeColumn}
use Rattle.resolved_ast.specs.declared.rex.Rex.{out-Rex}
use Rattle.resolved_ast.specs.declared.rex.Rex.TheOpen as layer
use Rattle.resolved_ast.specs.declared.rex.Rex.TheVariants as rex
use Rattle.resolved_ast.specs.declared.scan.Scan.{Scan, out-Scan}
use Rattle.resolved_ast.specs.declared.scan.Scan.TheVariants as scan
use Rattle.resolved_ast.specs.Columns.{columns, computed_columns, rex_type}
use Rattle.resolved_ast.specs.Flaws as flaws
use Rattle.resolved_ast.specs.Flaws.{Order, RexWalk, ScanWalk, at_node, in_order, over, below}
use Rattle.resolved_ast.specs.Parts.{there}
use Rattle.resolved_ast.specs.Signatures.{typed_as}
use Rattle.sql_types.specs.SameType.{same_type}
use Rattle.resolved_ast.proofs.WalkLaws.{scan_part}
use Rattle.tree_check.specs.LetWalks.{let_of}
use Rattle.tree_check.specs.Orders.{order_of}
use Rattle.tree_check.specs.Sights.{sight_of}
use Rattle.tree_check.specs.WithWalks.{cte_part}
use Rattle.tree_check.proofs.ThenLaws.{answers}
use Rattle.tree_check.proofs.RexLevels.{walks_rex, each_walk, types_of}
use Rattle.tree_check.proofs.ScanLevels.{walks_scan, there_walk, computes_walk, condition_of, one_in, two_in, elements_in}
use Rattle.tree_check.proofs.trees.+trees.Goals as goal

pub RexPart::check-returns-in-Literal : goal.RexPart::check-returns-in-Literal
RexPart::check-returns-in-Literal t c =
    answers (RexWalk c.args.self.now (sight_of c.args.sight.now) c.args.progress.now) (at_node (order_of c.by_type.result) [] [] c.args.progress.now) c.leaf.new.progress c.leaf.result
    (walks_rex c.args.self.now (layer.Literal c.in-Literal.value c.in-Literal.ty) (sight_of c.args.sight.now) c.args.progress.now (ap out-Rex c.in-Literal.is ∙ rex.outs-Literal c.in-Literal.value c.in-Literal.ty)
    ∙ ap (λ (o : Order). at_node o [] [] c.args.progress.now) (sym (c.by_type.ensures ∙ ap (λ (b : Bool). record in_order { typed = b }) c.fits.ensures)))
    c.leaf.ensures

pub RexPart::check-returns-in-Parameter : goal.RexPart::check-returns-in-Parameter
RexPart::check-returns-in-Parameter t c =
    answers (RexWalk c.args.self.now (sight_of c.args.sight.now) c.args.progress.now) (at_node (order_of c.by_type-in-Parameter.result) [] [] c.args.progress.now) c.leaf-in-Parameter.new.progress c.leaf-in-Parameter.result
    (walks_rex c.args.self.now (layer.Parameter c.in-Parameter.name c.in-Parameter.ty) (sight_of c.args.sight.now) c.args.progress.now (ap out-Rex c.in-Parameter.is ∙ rex.outs-Parameter c.in-Parameter.name c.in-Parameter.ty)
    ∙ ap (λ (o : Order). at_node o [] [] c.args.progress.now) (sym (c.by_type-in-Parameter.ensures)))
    c.leaf-in-Parameter.ensures

pub RexPart::check-returns-in-Column : goal.RexPart::check-returns-in-Column
RexPart::check-returns-in-Column t c =
    answers (RexWalk c.args.self.now (sight_of c.args.sight.now) c.args.progress.now) (at_node (order_of c.by_sight.result) [] [] c.args.progress.now) c.leaf-in-Column.new.progress c.leaf-in-Column.result
    (walks_rex c.args.self.now (layer.Column c.in-Column.column c.in-Column.ty) (sight_of c.args.sight.now) c.args.progress.now (ap out-Rex c.in-Column.is ∙ rex.outs-Column c.in-Column.column c.in-Column.ty)
    ∙ ap (λ (o : Order). at_node o [] [] c.args.progress.now) (sym (c.by_sight.ensures ∙ ap (λ (b : Bool). record in_order { seen = b }) c.sees_typed.ensures)))
    c.leaf-in-Column.ensures

pub RexPart::check-returns-in-Outer : goal.RexPart::check-returns-in-Outer
RexPart::check-returns-in-Outer t c =
    answers (RexWalk c.args.self.now (sight_of c.args.sight.now) c.args.progress.now) (at_node (order_of c.by_sight-in-Outer.result) [] [] c.args.progress.now) c.leaf-in-Outer.new.progress c.leaf-in-Outer.result
    (walks_rex c.args.self.now (layer.Outer c.in-Outer.column c.in-Outer.ty) (sight_of c.args.sight.now) c.args.progress.now (ap out-Rex c.in-Outer.is ∙ rex.outs-Outer c.in-Outer.column c.in-Outer.ty)
    ∙ ap (λ (o : Order). at_node o [] [] c.args.progress.now) (sym (c.by_sight-in-Outer.ensures ∙ ap (λ (b : Bool). record in_order { seen = b }) c.sees_typed-in-Outer.ensures)))
    c.leaf-in-Outer.ensures

pub RexPart::check-returns-in_ok-order-in-Call : goal.RexPart::check-returns-in_ok-order-in-Call
RexPart::check-returns-in_ok-order-in-Call t c =
    answers (RexWalk c.args.self.now (sight_of c.args.sight.now) c.args.progress.now) (at_node (order_of c.in_ok-order-in-Call.order) [] (each_walk c.in-Call.arguments (sight_of c.args.sight.now) ∷ []) c.args.progress.now) c.above.new.progress c.above.result
    (walks_rex c.args.self.now (layer.Call c.in-Call.signature c.in-Call.ty c.in-Call.arguments) (sight_of c.args.sight.now) c.args.progress.now (ap out-Rex c.in-Call.is ∙ rex.outs-Call c.in-Call.signature c.in-Call.ty c.in-Call.arguments)
    ∙ ap (λ (o : Order). at_node o [] (each_walk c.in-Call.arguments (sight_of c.args.sight.now) ∷ []) c.args.progress.now) (sym (c.in_ok-order-in-Call.ensures)))
    c.above.ensures

pub RexPart::check-returns-in_ok-order-in-SafeCall : goal.RexPart::check-returns-in_ok-order-in-SafeCall
RexPart::check-returns-in_ok-order-in-SafeCall t c =
    answers (RexWalk c.args.self.now (sight_of c.args.sight.now) c.args.progress.now) (at_node (order_of c.in_ok-order-in-SafeCall.order) [] (each_walk c.in-SafeCall.arguments (sight_of c.args.sight.now) ∷ []) c.args.progress.now) c.above-in-SafeCall.new.progress c.above-in-SafeCall.result
    (walks_rex c.args.self.now (layer.SafeCall c.in-SafeCall.signature c.in-SafeCall.ty c.in-SafeCall.arguments) (sight_of c.args.sight.now) c.args.progress.now (ap out-Rex c.in-SafeCall.is ∙ rex.outs-SafeCall c.in-SafeCall.signature c.in-SafeCall.ty c.in-SafeCall.arguments)
    ∙ ap (λ (o : Order). at_node o [] (each_walk c.in-SafeCall.arguments (sight_of c.args.sight.now) ∷ []) c.args.progress.now) (sym (c.in_ok-order-in-SafeCall.ensures)))
    c.above-in-SafeCall.ensures

pub RexPart::check-returns-in-Cast : goal.RexPart::check-returns-in-Cast
RexPart::check-returns-in-Cast t c =
    answers (RexWalk c.args.self.now (sight_of c.args.sight.now) c.args.progress.now) (at_node (order_of c.by_type-in-Cast.result) [] (RexWalk c.in-Cast.expr (sight_of c.args.sight.now) ∷ []) c.args.progress.now) c.above-in-Cast.new.progress c.above-in-Cast.result
    (walks_rex c.args.self.now (layer.Cast c.in-Cast.ty c.in-Cast.expr) (sight_of c.args.sight.now) c.args.progress.now (ap out-Rex c.in-Cast.is ∙ rex.outs-Cast c.in-Cast.ty c.in-Cast.expr)
    ∙ ap (λ (o : Order). at_node o [] (RexWalk c.in-Cast.expr (sight_of c.args.sight.now) ∷ []) c.args.progress.now) (sym (c.by_type-in-Cast.ensures ∙ ap (λ (b : Bool). record in_order { typed = b }) c.cast_typed.ensures)))
    c.above-in-Cast.ensures

pub RexPart::check-returns-in-SafeCast : goal.RexPart::check-returns-in-SafeCast
RexPart::check-returns-in-SafeCast t c =
    answers (RexWalk c.args.self.now (sight_of c.args.sight.now) c.args.progress.now) (at_node (order_of c.by_type-in-SafeCast.result) [] (RexWalk c.in-SafeCast.expr (sight_of c.args.sight.now) ∷ []) c.args.progress.now) c.above-in-SafeCast.new.progress c.above-in-SafeCast.result
    (walks_rex c.args.self.now (layer.SafeCast c.in-SafeCast.ty c.in-SafeCast.expr) (sight_of c.args.sight.now) c.args.progress.now (ap out-Rex c.in-SafeCast.is ∙ rex.outs-SafeCast c.in-SafeCast.ty c.in-SafeCast.expr)
    ∙ ap (λ (o : Order). at_node o [] (RexWalk c.in-SafeCast.expr (sight_of c.args.sight.now) ∷ []) c.args.progress.now) (sym (c.by_type-in-SafeCast.ensures ∙ ap (λ (b : Bool). record in_order { typed = b }) c.cast_typed-in-SafeCast.ensures)))
    c.above-in-SafeCast.ensures

pub RexPart::check-returns-in-If : goal.RexPart::check-returns-in-If
RexPart::check-returns-in-If t c =
    answers (RexWalk c.args.self.now (sight_of c.args.sight.now) c.args.progress.now) (at_node (order_of c.by_types-order.result) [] (each_walk c.in-If.operands (sight_of c.args.sight.now) ∷ []) c.args.progress.now) c.above-in-If.new.progress c.above-in-If.result
    (walks_rex c.args.self.now (layer.If c.in-If.ty c.in-If.operands) (sight_of c.args.sight.now) c.args.progress.now (ap out-Rex c.in-If.is ∙ rex.outs-If c.in-If.ty c.in-If.operands)
    ∙ ap (λ (o : Order). at_node o [] (each_walk c.in-If.operands (sight_of c.args.sight.now) ∷ []) c.args.progress.now) (sym (c.by_types-order.ensures ∙ ap (λ (b : Bool). record in_order { typed = b; shaped = c.count_is.result }) c.if_typed.ensures ∙ ap (λ (b : Bool). record in_order { typed = typed_as (types.Bool ∷ c.in-If.ty ∷ c.in-If.ty ∷ []) (types_of c.in-If.operands); shaped = b }) c.count_is.ensures)))
    c.above-in-If.ensures

pub RexPart::check-returns-in-Case : goal.RexPart::check-returns-in-Case
RexPart::check-returns-in-Case t c =
    answers (RexWalk c.args.self.now (sight_of c.args.sight.now) c.args.progress.now) (at_node (order_of c.by_types-order-in-Case.result) [] (each_walk c.in-Case.operands (sight_of c.args.sight.now) ∷ []) c.args.progress.now) c.above-in-Case.new.progress c.above-in-Case.result
    (walks_rex c.args.self.now (layer.Case c.in-Case.ty c.in-Case.operands) (sight_of c.args.sight.now) c.args.progress.now (ap out-Rex c.in-Case.is ∙ rex.outs-Case c.in-Case.ty c.in-Case.operands)
    ∙ ap (λ (o : Order). at_node o [] (each_walk c.in-Case.operands (sight_of c.args.sight.now) ∷ []) c.args.progress.now) (sym (c.by_types-order-in-Case.ensures ∙ ap (λ (b : Bool). record in_order { typed = b; shaped = c.several.result }) c.choice_typed.ensures ∙ ap (λ (b : Bool). record in_order { typed = flaws.case_typed c.in-Case.ty (types_of c.in-Case.operands); shaped = b }) c.several.ensures)))
    c.above-in-Case.ensures

pub RexPart::check-returns-in-Coalesce : goal.RexPart::check-returns-in-Coalesce
RexPart::check-returns-in-Coalesce t c =
    answers (RexWalk c.args.self.now (sight_of c.args.sight.now) c.args.progress.now) (at_node (order_of c.by_types-order-in-Coalesce.result) [] (each_walk c.in-Coalesce.operands (sight_of c.args.sight.now) ∷ []) c.args.progress.now) c.above-in-Coalesce.new.progress c.above-in-Coalesce.result
    (walks_rex c.args.self.now (layer.Coalesce c.in-Coalesce.ty c.in-Coalesce.operands) (sight_of c.args.sight.now) c.args.progress.now (ap out-Rex c.in-Coalesce.is ∙ rex.outs-Coalesce c.in-Coalesce.ty c.in-Coalesce.operands)
    ∙ ap (λ (o : Order). at_node o [] (each_walk c.in-Coalesce.operands (sight_of c.args.sight.now) ∷ []) c.args.progress.now) (sym (c.by_types-order-in-Coalesce.ensures ∙ ap (λ (b : Bool). record in_order { typed = b; shaped = c.some_part.result }) c.parts_typed.ensures ∙ ap (λ (b : Bool). record in_order { typed = flaws.all_of_type c.in-Coalesce.ty (types_of c.in-Coalesce.operands); shaped = b }) c.some_part.ensures)))
    c.above-in-Coalesce.ensures

pub RexPart::check-returns-in-And : goal.RexPart::check-returns-in-And
RexPart::check-returns-in-And t c =
    answers (RexWalk c.args.self.now (sight_of c.args.sight.now) c.args.progress.now) (at_node (order_of c.by_types-order-in-And.result) [] (each_walk c.in-And.operands (sight_of c.args.sight.now) ∷ []) c.args.progress.now) c.above-in-And.new.progress c.above-in-And.result
    (walks_rex c.args.self.now (layer.And c.in-And.ty c.in-And.operands) (sight_of c.args.sight.now) c.args.progress.now (ap out-Rex c.in-And.is ∙ rex.outs-And c.in-And.ty c.in-And.operands)
    ∙ ap (λ (o : Order). at_node o [] (each_walk c.in-And.operands (sight_of c.args.sight.now) ∷ []) c.args.progress.now) (sym (c.by_types-order-in-And.ensures ∙ ap (λ (b : Bool). record in_order { typed = b; shaped = c.some_part-in-And.result }) c.truths_typed.ensures ∙ ap (λ (b : Bool). record in_order { typed = flaws.all_of_type types.Bool (c.in-And.ty ∷ (types_of c.in-And.operands)); shaped = b }) c.some_part-in-And.ensures)))
    c.above-in-And.ensures

pub RexPart::check-returns-in-Or : goal.RexPart::check-returns-in-Or
RexPart::check-returns-in-Or t c =
    answers (RexWalk c.args.self.now (sight_of c.args.sight.now) c.args.progress.now) (at_node (order_of c.by_types-order-in-Or.result) [] (each_walk c.in-Or.operands (sight_of c.args.sight.now) ∷ []) c.args.progress.now) c.above-in-Or.new.progress c.above-in-Or.result
    (walks_rex c.args.self.now (layer.Or c.in-Or.ty c.in-Or.operands) (sight_of c.args.sight.now) c.args.progress.now (ap out-Rex c.in-Or.is ∙ rex.outs-Or c.in-Or.ty c.in-Or.operands)
    ∙ ap (λ (o : Order). at_node o [] (each_walk c.in-Or.operands (sight_of c.args.sight.now) ∷ []) c.args.progress.now) (sym (c.by_types-order-in-Or.ensures ∙ ap (λ (b : Bool). record in_order { typed = b; shaped = c.some_part-in-Or.result }) c.truths_typed-in-Or.ensures ∙ ap (λ (b : Bool). record in_order { typed = flaws.all_of_type types.Bool (c.in-Or.ty ∷ (types_of c.in-Or.operands)); shaped = b }) c.some_part-in-Or.ensures)))
    c.above-in-Or.ensures

pub RexPart::check-returns-in-IfError : goal.RexPart::check-returns-in-IfError
RexPart::check-returns-in-IfError t c =
    answers (RexWalk c.args.self.now (sight_of c.args.sight.now) c.args.progress.now) (at_node (order_of c.by_types-order-in-IfError.result) [] (each_walk c.in-IfError.operands (sight_of c.args.sight.now) ∷ []) c.args.progress.now) c.above-in-IfError.new.progress c.above-in-IfError.result
    (walks_rex c.args.self.now (layer.IfError c.in-IfError.ty c.in-IfError.operands) (sight_of c.args.sight.now) c.args.progress.now (ap out-Rex c.in-IfError.is ∙ rex.outs-IfError c.in-IfError.ty c.in-IfError.operands)
    ∙ ap (λ (o : Order). at_node o [] (each_walk c.in-IfError.operands (sight_of c.args.sight.now) ∷ []) c.args.progress.now) (sym (c.by_types-order-in-IfError.ensures ∙ ap (λ (b : Bool). record in_order { typed = b; shaped = c.count_is-in-IfError.result }) c.parts_typed-in-IfError.ensures ∙ ap (λ (b : Bool). record in_order { typed = flaws.all_of_type c.in-IfError.ty (types_of c.in-IfError.operands); shaped = b }) c.count_is-in-IfError.ensures)))
    c.above-in-IfError.ensures

pub RexPart::check-returns-in-NullIfError : goal.RexPart::check-returns-in-NullIfError
RexPart::check-returns-in-NullIfError t c =
    answers (RexWalk c.args.self.now (sight_of c.args.sight.now) c.args.progress.now) (at_node (order_of c.by_types-order-in-NullIfError.result) [] (each_walk c.in-NullIfError.operands (sight_of c.args.sight.now) ∷ []) c.args.progress.now) c.above-in-NullIfError.new.progress c.above-in-NullIfError.result
    (walks_rex c.args.self.now (layer.NullIfError c.in-NullIfError.ty c.in-NullIfError.operands) (sight_of c.args.sight.now) c.args.progress.now (ap out-Rex c.in-NullIfError.is ∙ rex.outs-NullIfError c.in-NullIfError.ty c.in-NullIfError.operands)
    ∙ ap (λ (o : Order). at_node o [] (each_walk c.in-NullIfError.operands (sight_of c.args.sight.now) ∷ []) c.args.progress.now) (sym (c.by_types-order-in-NullIfError.ensures ∙ ap (λ (b : Bool). record in_order { typed = b; shaped = c.count_is-in-NullIfError.result }) c.parts_typed-in-NullIfError.ensures ∙ ap (λ (b : Bool). record in_order { typed = flaws.all_of_type c.in-NullIfError.ty (types_of c.in-NullIfError.operands); shaped = b }) c.count_is-in-NullIfError.ensures)))
    c.above-in-NullIfError.ensures

pub RexPart::check-returns-in-IsError : goal.RexPart::check-returns-in-IsError
RexPart::check-returns-in-IsError t c =
    answers (RexWalk c.args.self.now (sight_of c.args.sight.now) c.args.progress.now) (at_node (order_of c.by_types-order-in-IsError.result) [] (each_walk c.in-IsError.operands (sight_of c.args.sight.now) ∷ []) c.args.progress.now) c.above-in-IsError.new.progress c.above-in-IsError.result
    (walks_rex c.args.self.now (layer.IsError c.in-IsError.ty c.in-IsError.operands) (sight_of c.args.sight.now) c.args.progress.now (ap out-Rex c.in-IsError.is ∙ rex.outs-IsError c.in-IsError.ty c.in-IsError.operands)
    ∙ ap (λ (o : Order). at_node o [] (each_walk c.in-IsError.operands (sight_of c.args.sight.now) ∷ []) c.args.progress.now) (sym (c.by_types-order-in-IsError.ensures ∙ ap (λ (b : Bool). record in_order { typed = b; shaped = c.count_is-in-IsError.result }) c.is_bool.ensures ∙ ap (λ (b : Bool). record in_order { typed = same_type c.in-IsError.ty types.Bool; shaped = b }) c.count_is-in-IsError.ensures)))
    c.above-in-IsError.ensures

pub RexPart::check-returns-in-Raise : goal.RexPart::check-returns-in-Raise
RexPart::check-returns-in-Raise t c =
    answers (RexWalk c.args.self.now (sight_of c.args.sight.now) c.args.progress.now) (at_node (order_of c.by_types-order-in-Raise.result) [] (each_walk c.in-Raise.operands (sight_of c.args.sight.now) ∷ []) c.args.progress.now) c.above-in-Raise.new.progress c.above-in-Raise.result
    (walks_rex c.args.self.now (layer.Raise c.in-Raise.ty c.in-Raise.operands) (sight_of c.args.sight.now) c.args.progress.now (ap out-Rex c.in-Raise.is ∙ rex.outs-Raise c.in-Raise.ty c.in-Raise.operands)
    ∙ ap (λ (o : Order). at_node o [] (each_walk c.in-Raise.operands (sight_of c.args.sight.now) ∷ []) c.args.progress.now) (sym (c.by_types-order-in-Raise.ensures ∙ ap (λ (b : Bool). record in_order { typed = b; shaped = c.count_is-in-Raise.result }) c.raise_typed.ensures ∙ ap (λ (b : Bool). record in_order { typed = typed_as (types.Text ∷ []) (types_of c.in-Raise.operands); shaped = b }) c.count_is-in-Raise.ensures)))
    c.above-in-Raise.ensures

pub RexPart::check-returns-in-InList : goal.RexPart::check-returns-in-InList
RexPart::check-returns-in-InList t c =
    answers (RexWalk c.args.self.now (sight_of c.args.sight.now) c.args.progress.now) (at_node (order_of c.by_types-order-in-InList.result) [] (RexWalk c.in-InList.search (sight_of c.args.sight.now) ∷ each_walk c.in-InList.list (sight_of c.args.sight.now) ∷ []) c.args.progress.now) c.above_both.new.progress c.above_both.result
    (walks_rex c.args.self.now (layer.InList c.in-InList.search c.in-InList.list) (sight_of c.args.sight.now) c.args.progress.now (ap out-Rex c.in-InList.is ∙ rex.outs-InList c.in-InList.search c.in-InList.list)
    ∙ ap (λ (o : Order). at_node o [] (RexWalk c.in-InList.search (sight_of c.args.sight.now) ∷ each_walk c.in-InList.list (sight_of c.args.sight.now) ∷ []) c.args.progress.now) (sym (c.by_types-order-in-InList.ensures ∙ ap (λ (b : Bool). record in_order { typed = b; shaped = c.list_shaped.result }) c.list_typed.ensures ∙ ap (λ (b : Bool). record in_order { typed = flaws.all_of_type (rex_type c.in-InList.search) (types_of c.in-InList.list); shaped = b }) c.list_shaped.ensures)))
    c.above_both.ensures

pub RexPart::check-returns-in-InArray : goal.RexPart::check-returns-in-InArray
RexPart::check-returns-in-InArray t c =
    answers (RexWalk c.args.self.now (sight_of c.args.sight.now) c.args.progress.now) (at_node (order_of c.by_types-order-in-InArray.result) [] (RexWalk c.in-InArray.search (sight_of c.args.sight.now) ∷ RexWalk c.in-InArray.array (sight_of c.args.sight.now) ∷ []) c.args.progress.now) c.above_both-in-InArray.new.progress c.above_both-in-InArray.result
    (walks_rex c.args.self.now (layer.InArray c.in-InArray.search c.in-InArray.array) (sight_of c.args.sight.now) c.args.progress.now (ap out-Rex c.in-InArray.is ∙ rex.outs-InArray c.in-InArray.search c.in-InArray.array)
    ∙ ap (λ (o : Order). at_node o [] (RexWalk c.in-InArray.search (sight_of c.args.sight.now) ∷ RexWalk c.in-InArray.array (sight_of c.args.sight.now) ∷ []) c.args.progress.now) (sym (c.by_types-order-in-InArray.ensures ∙ ap (λ (b : Bool). record in_order { typed = b; shaped = c.can_compare.result }) c.array_coerces.ensures ∙ ap (λ (b : Bool). record in_order { typed = flaws.elements_coerce (rex_type c.in-InArray.array) (rex_type c.in-InArray.search); shaped = b }) c.can_compare.ensures)))
    c.above_both-in-InArray.ensures

pub RexPart::check-returns-in-Let : goal.RexPart::check-returns-in-Let
RexPart::check-returns-in-Let t c =
    answers (RexWalk c.args.self.now (sight_of c.args.sight.now) c.args.progress.now) (at_node (order_of c.by_type-order.result) [] (let_of rex_type RexWalk RexWalk c.in-Let.bindings c.in-Let.expr (sight_of c.args.sight.now)) c.args.progress.now) c.above_bindings.new.progress c.above_bindings.result
    (walks_rex c.args.self.now (layer.Let c.in-Let.ty c.in-Let.bindings c.in-Let.expr) (sight_of c.args.sight.now) c.args.progress.now (ap out-Rex c.in-Let.is ∙ rex.outs-Let c.in-Let.ty c.in-Let.bindings c.in-Let.expr)
    ∙ ap (λ (o : Order). at_node o [] (let_of rex_type RexWalk RexWalk c.in-Let.bindings c.in-Let.expr (sight_of c.args.sight.now)) c.args.progress.now) (sym (c.by_type-order.ensures ∙ ap (λ (b : Bool). record in_order { typed = b }) c.is_of_type.ensures)))
    c.above_bindings.ensures

pub RexPart::check-returns-in-MakeArray : goal.RexPart::check-returns-in-MakeArray
RexPart::check-returns-in-MakeArray t c =
    answers (RexWalk c.args.self.now (sight_of c.args.sight.now) c.args.progress.now) (at_node (order_of c.by_type-in-MakeArray.result) [] (each_walk c.in-MakeArray.parts (sight_of c.args.sight.now) ∷ []) c.args.progress.now) c.above-in-MakeArray.new.progress c.above-in-MakeArray.result
    (walks_rex c.args.self.now (layer.MakeArray c.in-MakeArray.ty c.in-MakeArray.parts) (sight_of c.args.sight.now) c.args.progress.now (ap out-Rex c.in-MakeArray.is ∙ rex.outs-MakeArray c.in-MakeArray.ty c.in-MakeArray.parts)
    ∙ ap (λ (o : Order). at_node o [] (each_walk c.in-MakeArray.parts (sight_of c.args.sight.now) ∷ []) c.args.progress.now) (sym (c.by_type-in-MakeArray.ensures ∙ ap (λ (b : Bool). record in_order { typed = b }) c.array_typed.ensures)))
    c.above-in-MakeArray.ensures

pub RexPart::check-returns-in-MakeStruct : goal.RexPart::check-returns-in-MakeStruct
RexPart::check-returns-in-MakeStruct t c =
    answers (RexWalk c.args.self.now (sight_of c.args.sight.now) c.args.progress.now) (at_node (order_of c.by_types-order-in-MakeStruct.result) [] (each_walk c.in-MakeStruct.parts (sight_of c.args.sight.now) ∷ []) c.args.progress.now) c.above-in-MakeStruct.new.progress c.above-in-MakeStruct.result
    (walks_rex c.args.self.now (layer.MakeStruct c.in-MakeStruct.ty c.in-MakeStruct.parts) (sight_of c.args.sight.now) c.args.progress.now (ap out-Rex c.in-MakeStruct.is ∙ rex.outs-MakeStruct c.in-MakeStruct.ty c.in-MakeStruct.parts)
    ∙ ap (λ (o : Order). at_node o [] (each_walk c.in-MakeStruct.parts (sight_of c.args.sight.now) ∷ []) c.args.progress.now) (sym (c.by_types-order-in-MakeStruct.ensures ∙ ap (λ (b : Bool). record in_order { typed = b; shaped = c.struct_shaped.result }) c.struct_typed.ensures ∙ ap (λ (b : Bool). record in_order { typed = flaws.struct_typed c.in-MakeStruct.ty (types_of c.in-MakeStruct.parts); shaped = b }) c.struct_shaped.ensures)))
    c.above-in-MakeStruct.ensures

pub RexPart::check-returns-in-Field : goal.RexPart::check-returns-in-Field
RexPart::check-returns-in-Field t c =
    answers (RexWalk c.args.self.now (sight_of c.args.sight.now) c.args.progress.now) (at_node (order_of c.by_type-order-in-Field.result) [] (RexWalk c.in-Field.expr (sight_of c.args.sight.now) ∷ []) c.args.progress.now) c.above-in-Field.new.progress c.above-in-Field.result
    (walks_rex c.args.self.now (layer.Field c.in-Field.place c.in-Field.ty c.in-Field.expr) (sight_of c.args.sight.now) c.args.progress.now (ap out-Rex c.in-Field.is ∙ rex.outs-Field c.in-Field.place c.in-Field.ty c.in-Field.expr)
    ∙ ap (λ (o : Order). at_node o [] (RexWalk c.in-Field.expr (sight_of c.args.sight.now) ∷ []) c.args.progress.now) (sym (c.by_type-order-in-Field.ensures ∙ ap (λ (b : Bool). record in_order { typed = b }) c.field_typed.ensures)))
    c.above-in-Field.ensures

pub RexPart::check-returns-in-Index : goal.RexPart::check-returns-in-Index
RexPart::check-returns-in-Index t c =
    answers (RexWalk c.args.self.now (sight_of c.args.sight.now) c.args.progress.now) (at_node (order_of c.by_type-order-in-Index.result) [] (RexWalk c.in-Index.array (sight_of c.args.sight.now) ∷ RexWalk c.in-Index.index (sight_of c.args.sight.now) ∷ []) c.args.progress.now) c.above_both-in-Index.new.progress c.above_both-in-Index.result
    (walks_rex c.args.self.now (layer.Index c.in-Index.form c.in-Index.ty c.in-Index.array c.in-Index.index) (sight_of c.args.sight.now) c.args.progress.now (ap out-Rex c.in-Index.is ∙ rex.outs-Index c.in-Index.form c.in-Index.ty c.in-Index.array c.in-Index.index)
    ∙ ap (λ (o : Order). at_node o [] (RexWalk c.in-Index.array (sight_of c.args.sight.now) ∷ RexWalk c.in-Index.index (sight_of c.args.sight.now) ∷ []) c.args.progress.now) (sym (c.by_type-order-in-Index.ensures ∙ ap (λ (b : Bool). record in_order { typed = b }) c.index_typed.ensures)))
    c.above_both-in-Index.ensures

pub RexPart::check-returns-in_ok-order-in-Scalar : goal.RexPart::check-returns-in_ok-order-in-Scalar
RexPart::check-returns-in_ok-order-in-Scalar t c =
    answers (RexWalk c.args.self.now (sight_of c.args.sight.now) c.args.progress.now) (at_node (order_of c.in_ok-order-in-Scalar.order) [] (ScanWalk c.in-Scalar.scan (below (sight_of c.args.sight.now)) ∷ []) c.args.progress.now) c.above_query.new.progress c.above_query.result
    (walks_rex c.args.self.now (layer.Scalar c.in-Scalar.ty c.in-Scalar.column c.in-Scalar.outer c.in-Scalar.scan) (sight_of c.args.sight.now) c.args.progress.now (ap out-Rex c.in-Scalar.is ∙ rex.outs-Scalar c.in-Scalar.ty c.in-Scalar.column c.in-Scalar.outer c.in-Scalar.scan)
    ∙ ap (λ (o : Order). at_node o [] (ScanWalk c.in-Scalar.scan (below (sight_of c.args.sight.now)) ∷ []) c.args.progress.now) (sym (c.in_ok-order-in-Scalar.ensures ∙ ap (λ (o : Order). flaws.subquery c.in-Scalar.outer c.in-Scalar.scan (sight_of c.args.sight.now) o) (c.takes_same.ensures))))
    c.above_query.ensures

pub RexPart::check-returns-in_ok-order-in-ArrayOf : goal.RexPart::check-returns-in_ok-order-in-ArrayOf
RexPart::check-returns-in_ok-order-in-ArrayOf t c =
    answers (RexWalk c.args.self.now (sight_of c.args.sight.now) c.args.progress.now) (at_node (order_of c.in_ok-order-in-ArrayOf.order) [] (ScanWalk c.in-ArrayOf.scan (below (sight_of c.args.sight.now)) ∷ []) c.args.progress.now) c.above_query-in-ArrayOf.new.progress c.above_query-in-ArrayOf.result
    (walks_rex c.args.self.now (layer.ArrayOf c.in-ArrayOf.ty c.in-ArrayOf.column c.in-ArrayOf.outer c.in-ArrayOf.scan) (sight_of c.args.sight.now) c.args.progress.now (ap out-Rex c.in-ArrayOf.is ∙ rex.outs-ArrayOf c.in-ArrayOf.ty c.in-ArrayOf.column c.in-ArrayOf.outer c.in-ArrayOf.scan)
    ∙ ap (λ (o : Order). at_node o [] (ScanWalk c.in-ArrayOf.scan (below (sight_of c.args.sight.now)) ∷ []) c.args.progress.now) (sym (c.in_ok-order-in-ArrayOf.ensures ∙ ap (λ (o : Order). flaws.subquery c.in-ArrayOf.outer c.in-ArrayOf.scan (sight_of c.args.sight.now) o) (c.takes_element.ensures))))
    c.above_query-in-ArrayOf.ensures

pub RexPart::check-returns-in_ok-order-in-Exists : goal.RexPart::check-returns-in_ok-order-in-Exists
RexPart::check-returns-in_ok-order-in-Exists t c =
    answers (RexWalk c.args.self.now (sight_of c.args.sight.now) c.args.progress.now) (at_node (order_of c.in_ok-order-in-Exists.order) [] (ScanWalk c.in-Exists.scan (below (sight_of c.args.sight.now)) ∷ []) c.args.progress.now) c.above_query-in-Exists.new.progress c.above_query-in-Exists.result
    (walks_rex c.args.self.now (layer.Exists c.in-Exists.ty c.in-Exists.outer c.in-Exists.scan) (sight_of c.args.sight.now) c.args.progress.now (ap out-Rex c.in-Exists.is ∙ rex.outs-Exists c.in-Exists.ty c.in-Exists.outer c.in-Exists.scan)
    ∙ ap (λ (o : Order). at_node o [] (ScanWalk c.in-Exists.scan (below (sight_of c.args.sight.now)) ∷ []) c.args.progress.now) (sym (c.in_ok-order-in-Exists.ensures ∙ ap (λ (o : Order). flaws.subquery c.in-Exists.outer c.in-Exists.scan (sight_of c.args.sight.now) o) (c.by_type-in-Exists.ensures ∙ ap (λ (b : Bool). record in_order { typed = b }) c.is_bool-in-Exists.ensures))))
    c.above_query-in-Exists.ensures

pub RexPart::check-returns-in_ok-order-in-InQuery : goal.RexPart::check-returns-in_ok-order-in-InQuery
RexPart::check-returns-in_ok-order-in-InQuery t c =
    answers (RexWalk c.args.self.now (sight_of c.args.sight.now) c.args.progress.now) (at_node (order_of c.in_ok-order-in-InQuery.order) [] (RexWalk c.in-InQuery.search (sight_of c.args.sight.now) ∷ ScanWalk c.in-InQuery.scan (below (sight_of c.args.sight.now)) ∷ []) c.args.progress.now) c.above_search.new.progress c.above_search.result
    (walks_rex c.args.self.now (layer.InQuery c.in-InQuery.ty c.in-InQuery.column c.in-InQuery.outer c.in-InQuery.search c.in-InQuery.scan) (sight_of c.args.sight.now) c.args.progress.now (ap out-Rex c.in-InQuery.is ∙ rex.outs-InQuery c.in-InQuery.ty c.in-InQuery.column c.in-InQuery.outer c.in-InQuery.search c.in-InQuery.scan)
    ∙ ap (λ (o : Order). at_node o [] (RexWalk c.in-InQuery.search (sight_of c.args.sight.now) ∷ ScanWalk c.in-InQuery.scan (below (sight_of c.args.sight.now)) ∷ []) c.args.progress.now) (sym (c.in_ok-order-in-InQuery.ensures ∙ ap (λ (o : Order). flaws.subquery c.in-InQuery.outer c.in-InQuery.scan (sight_of c.args.sight.now) o) (c.takes_sought-takes.ensures))))
    c.above_search.ensures

pub ScanPart::check-returns-in-Single : goal.ScanPart::check-returns-in-Single
ScanPart::check-returns-in-Single t c =
    answers (ScanWalk c.args.self.now (sight_of c.args.sight.now) c.args.progress.now) (at_node (order_of c.by_type.result) [] [] c.args.progress.now) c.leaf.new.progress c.leaf.result
    (walks_scan c.args.self.now layer.Single (sight_of c.args.sight.now) c.args.progress.now (ap out-Scan c.in-Single.is ∙ scan.outs-Single)
    ∙ ap (λ (o : Order). at_node o [] [] c.args.progress.now) (sym (c.by_type.ensures)))
    c.leaf.ensures

pub ScanPart::check-returns-in-Table : goal.ScanPart::check-returns-in-Table
ScanPart::check-returns-in-Table t c =
    answers (ScanWalk c.args.self.now (sight_of c.args.sight.now) c.args.progress.now) (at_node (order_of c.by_type-in-Table.result) c.as_slice.result.now [] c.args.progress.now) c.pass.new.self c.pass.result
    (walks_scan c.args.self.now (layer.Table c.in-Table.name c.in-Table.number c.in-Table.columns) (sight_of c.args.sight.now) c.args.progress.now (ap out-Scan c.in-Table.is ∙ scan.outs-Table c.in-Table.name c.in-Table.number c.in-Table.columns)
    ∙ ap (λ (o : Order). at_node o c.in-Table.columns [] c.args.progress.now) (sym (c.by_type-in-Table.ensures))
    ∙ ap (λ (cs : List MadeColumn). at_node (order_of c.by_type-in-Table.result) cs [] c.args.progress.now) (sym c.as_slice.ensures))
    c.pass.ensures

pub ScanPart::check-returns-in-With : goal.ScanPart::check-returns-in-With
ScanPart::check-returns-in-With t c =
    answers (ScanWalk c.args.self.now (sight_of c.args.sight.now) c.args.progress.now) (at_node (order_of c.by_type-in-With.result) [] (flaws.with_walks [] (map (cte_part (λ s. s) ScanWalk) c.in-With.ctes) (scan_part c.in-With.scan) (sight_of c.args.sight.now)) c.args.progress.now) c.above_ctes.new.progress c.above_ctes.result
    (walks_scan c.args.self.now (layer.With c.in-With.ctes c.in-With.scan) (sight_of c.args.sight.now) c.args.progress.now (ap out-Scan c.in-With.is ∙ scan.outs-With c.in-With.ctes c.in-With.scan)
    ∙ ap (λ (o : Order). at_node o [] (flaws.with_walks [] (map (cte_part (λ s. s) ScanWalk) c.in-With.ctes) (scan_part c.in-With.scan) (sight_of c.args.sight.now)) c.args.progress.now) (sym (c.by_type-in-With.ensures)))
    c.above_ctes.ensures

pub ScanPart::check-returns-in-CteRef : goal.ScanPart::check-returns-in-CteRef
ScanPart::check-returns-in-CteRef t c =
    answers (ScanWalk c.args.self.now (sight_of c.args.sight.now) c.args.progress.now) (at_node (flaws.reference (flaws.types_of c.in-CteRef.columns) (flaws.cte_types c.in-CteRef.number (sight_of c.args.sight.now).ctes)) c.in-CteRef.columns [] c.args.progress.now) c.check_reference.new.progress c.check_reference.result
    (walks_scan c.args.self.now (layer.CteRef c.in-CteRef.number c.in-CteRef.columns) (sight_of c.args.sight.now) c.args.progress.now (ap out-Scan c.in-CteRef.is ∙ scan.outs-CteRef c.in-CteRef.number c.in-CteRef.columns)) c.check_reference.ensures

pub ScanPart::check-returns-in-Unnest : goal.ScanPart::check-returns-in-Unnest
ScanPart::check-returns-in-Unnest t c =
    answers (ScanWalk c.args.self.now (sight_of c.args.sight.now) c.args.progress.now) (at_node (order_of c.by_type-order.result) (c.in-Unnest.element ∷ there c.in-Unnest.offset) (ScanWalk c.in-Unnest.scan (sight_of c.args.sight.now) ∷ RexWalk c.in-Unnest.array (over (sight_of c.args.sight.now) (one_in c.in-Unnest.scan)) ∷ there_walk c.in-Unnest.condition (over (sight_of c.args.sight.now) (elements_in c.in-Unnest.scan c.in-Unnest.element c.in-Unnest.offset)) ∷ []) c.args.progress.now) c.above_elements.new.progress c.above_elements.result
    (walks_scan c.args.self.now (layer.Unnest c.in-Unnest.kind c.in-Unnest.element c.in-Unnest.offset c.in-Unnest.scan c.in-Unnest.array c.in-Unnest.condition) (sight_of c.args.sight.now) c.args.progress.now (ap out-Scan c.in-Unnest.is ∙ scan.outs-Unnest c.in-Unnest.kind c.in-Unnest.element c.in-Unnest.offset c.in-Unnest.scan c.in-Unnest.array c.in-Unnest.condition)
    ∙ ap (λ (o : Order). at_node o (c.in-Unnest.element ∷ there c.in-Unnest.offset) (ScanWalk c.in-Unnest.scan (sight_of c.args.sight.now) ∷ RexWalk c.in-Unnest.array (over (sight_of c.args.sight.now) (one_in c.in-Unnest.scan)) ∷ there_walk c.in-Unnest.condition (over (sight_of c.args.sight.now) (elements_in c.in-Unnest.scan c.in-Unnest.element c.in-Unnest.offset)) ∷ []) c.args.progress.now) (sym (c.by_type-order.ensures ∙ ap (λ (b : Bool). record in_order { typed = b }) c.unnest_typed.ensures)))
    c.above_elements.ensures

pub ScanPart::check-returns-in-Join : goal.ScanPart::check-returns-in-Join
ScanPart::check-returns-in-Join t c =
    answers (ScanWalk c.args.self.now (sight_of c.args.sight.now) c.args.progress.now) (at_node (order_of c.by_types-order.result) [] (ScanWalk c.in-Join.left (sight_of c.args.sight.now) ∷ ScanWalk c.in-Join.right (sight_of c.args.sight.now) ∷ there_walk c.in-Join.condition (over (sight_of c.args.sight.now) (two_in c.in-Join.left c.in-Join.right)) ∷ []) c.args.progress.now) c.above_pairs.new.progress c.above_pairs.result
    (walks_scan c.args.self.now (layer.Join c.in-Join.kind c.in-Join.left c.in-Join.right c.in-Join.condition) (sight_of c.args.sight.now) c.args.progress.now (ap out-Scan c.in-Join.is ∙ scan.outs-Join c.in-Join.kind c.in-Join.left c.in-Join.right c.in-Join.condition)
    ∙ ap (λ (o : Order). at_node o [] (ScanWalk c.in-Join.left (sight_of c.args.sight.now) ∷ ScanWalk c.in-Join.right (sight_of c.args.sight.now) ∷ there_walk c.in-Join.condition (over (sight_of c.args.sight.now) (two_in c.in-Join.left c.in-Join.right)) ∷ []) c.args.progress.now) (sym (c.by_types-order.ensures ∙ ap (λ (b : Bool). record in_order { typed = b; shaped = c.condition_shaped.result }) c.condition_typed-typed.ensures ∙ ap (λ (b : Bool). record in_order { typed = flaws.all_of_type types.Bool (condition_of c.in-Join.condition); shaped = b }) c.condition_shaped.ensures)))
    c.above_pairs.ensures

pub ScanPart::check-returns-in-Filter : goal.ScanPart::check-returns-in-Filter
ScanPart::check-returns-in-Filter t c =
    answers (ScanWalk c.args.self.now (sight_of c.args.sight.now) c.args.progress.now) (at_node (order_of c.by_type-order-in-Filter.result) [] (ScanWalk c.in-Filter.scan (sight_of c.args.sight.now) ∷ RexWalk c.in-Filter.condition (over (sight_of c.args.sight.now) (one_in c.in-Filter.scan)) ∷ []) c.args.progress.now) c.above_rows.new.progress c.above_rows.result
    (walks_scan c.args.self.now (layer.Filter c.in-Filter.scan c.in-Filter.condition) (sight_of c.args.sight.now) c.args.progress.now (ap out-Scan c.in-Filter.is ∙ scan.outs-Filter c.in-Filter.scan c.in-Filter.condition)
    ∙ ap (λ (o : Order). at_node o [] (ScanWalk c.in-Filter.scan (sight_of c.args.sight.now) ∷ RexWalk c.in-Filter.condition (over (sight_of c.args.sight.now) (one_in c.in-Filter.scan)) ∷ []) c.args.progress.now) (sym (c.by_type-order-in-Filter.ensures ∙ ap (λ (b : Bool). record in_order { typed = b }) c.is_of_type.ensures)))
    c.above_rows.ensures

pub ScanPart::check-returns-in-Project : goal.ScanPart::check-returns-in-Project
ScanPart::check-returns-in-Project t c =
    answers (ScanWalk c.args.self.now (sight_of c.args.sight.now) c.args.progress.now) (at_node (order_of c.by_sight-order.result) [] (ScanWalk c.in-Project.scan (sight_of c.args.sight.now) ∷ computes_walk c.in-Project.computed (over (sight_of c.args.sight.now) (one_in c.in-Project.scan)) ∷ []) c.args.progress.now) c.above_rows-in-Project.new.progress c.above_rows-in-Project.result
    (walks_scan c.args.self.now (layer.Project c.in-Project.columns c.in-Project.scan c.in-Project.computed) (sight_of c.args.sight.now) c.args.progress.now (ap out-Scan c.in-Project.is ∙ scan.outs-Project c.in-Project.columns c.in-Project.scan c.in-Project.computed)
    ∙ ap (λ (o : Order). at_node o [] (ScanWalk c.in-Project.scan (sight_of c.args.sight.now) ∷ computes_walk c.in-Project.computed (over (sight_of c.args.sight.now) (one_in c.in-Project.scan)) ∷ []) c.args.progress.now) (sym (c.by_sight-order.ensures ∙ ap (λ (b : Bool). record in_order { seen = b }) (c.all_listed.ensures ∙ ap (λ (s : Scan). flaws.all_seen c.in-Project.columns (columns s ++ computed_columns c.in-Project.computed)) c.get.ensures))))
    c.above_rows-in-Project.ensures
