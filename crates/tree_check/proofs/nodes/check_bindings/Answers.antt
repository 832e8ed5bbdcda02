-- One binding more is passed, and the columns in sight are one more.
use Rattle.std.proofs.Common.{◌+◌, ◌∷◌, List, drop, arith, ◌∙◌, ap, sym}
use Rattle.resolved_ast.specs.declared.column.MadeColumn.{MadeColumn}
use Rattle.resolved_ast.specs.Flaws.{walk_all, over, with_column}
use Rattle.tree_check.specs.declared.sight.Source.{Source}
use Rattle.tree_check.specs.LetWalks.{let_of, compute_of}
use Rattle.tree_check.specs.Sights.{columns_of, sight_of}
use Rattle.tree_check.proofs.EachLaws.{goes_on, next_one}
use Rattle.tree_check.proofs.nodes.check_bindings.Goals as goal

pub loop-binding-preserved : goal.loop-binding-preserved
loop-binding-preserved g c =
    let l = c.loop-binding in
    let x = c.binding-item.result in
    goes_on (walk_all (let_of g.R.Typed.type_of g.R.Part.walk g.P.Part.walk c.args.bindings.now c.args.expr.now (sight_of c.args.sight.now)) c.args.progress.now)
    (let_of g.R.Typed.type_of g.R.Part.walk g.P.Part.walk (drop l.binding-index c.args.bindings.now) c.args.expr.now (over (sight_of c.args.sight.now) (columns_of l.columns.items)))
    (compute_of g.R.Typed.type_of g.R.Part.walk x (over (sight_of c.args.sight.now) (columns_of c.as_slice.result.now)))
    (let_of g.R.Typed.type_of g.R.Part.walk g.P.Part.walk (drop (l.binding-index + 1) c.args.bindings.now) c.args.expr.now (with_column (over (sight_of c.args.sight.now) (columns_of l.columns.items)) x.column))
    l.progress c.check_over.new.progress l.invariant
    (next_one (λ cs. let_of g.R.Typed.type_of g.R.Part.walk g.P.Part.walk cs c.args.expr.now (over (sight_of c.args.sight.now) (columns_of l.columns.items))) c.args.bindings.now l.binding-index x (omega arith) c.binding-item.is
    ∙ ap (λ (ks : List Source). compute_of g.R.Typed.type_of g.R.Part.walk x (over (sight_of c.args.sight.now) (columns_of ks)) ∷ let_of g.R.Typed.type_of g.R.Part.walk g.P.Part.walk (drop (l.binding-index + 1) c.args.bindings.now) c.args.expr.now (with_column (over (sight_of c.args.sight.now) (columns_of l.columns.items)) x.column)) (sym c.as_slice.ensures.value))
    c.in_ok-check_over.ensures
    ∙ ap (λ (ks : List MadeColumn). walk_all (let_of g.R.Typed.type_of g.R.Part.walk g.P.Part.walk (drop (l.binding-index + 1) c.args.bindings.now) c.args.expr.now (over (sight_of c.args.sight.now) ks)) c.check_over.new.progress) (sym c.in_ok-add_column.ensures)
