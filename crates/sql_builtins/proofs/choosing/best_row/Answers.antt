use Rattle.std.proofs.Common.{sym, ap, ◌∙◌}
use Rattle.sql_builtins.specs.Steps.{best_after}
use Rattle.sql_builtins.proofs.RowSteps.{ends-behind, named-behind, other-behind}
use Rattle.sql_builtins.proofs.choosing.best_row.Goals as goal
use Rattle.sql_builtins.proofs.choosing.best_row.Goals.{then-same_letters+in_ok-better+in-Some, then-same_letters+in_ok-better+in-None, else-same_letters}

pub loop-row-preserved : goal.loop-row-preserved
loop-row-preserved c =
    let l = c.loop-row in
    let rows = c.args.rows.now in
    elim c.if-same_letters.branch [
      | then-same_letters+in_ok-better+in-Some w ↦ record {
        ends = ends-behind rows l.row-index c.loop-row-test.true l.invariant.ends;
        same = named-behind rows l.row-index _ c.args.name.now c.args.arguments.now l.best w.in_ok-better.field-0 c.if-same_letters.best _ c.loop-row-test.true (sym c.same_letters.ensures ∙ w.if-same_letters.true) w.in_ok-better.ensures
            (w.best-is ∙ sym (ap (best_after l.best) w.in-Some.is)) l.invariant.same;
      }
      | then-same_letters+in_ok-better+in-None w ↦ record {
        ends = ends-behind rows l.row-index c.loop-row-test.true l.invariant.ends;
        same = named-behind rows l.row-index _ c.args.name.now c.args.arguments.now l.best w.in_ok-better.field-0 c.if-same_letters.best _ c.loop-row-test.true (sym c.same_letters.ensures ∙ w.if-same_letters.true) w.in_ok-better.ensures
            (w.best-is ∙ sym (ap (best_after l.best) w.in-None.is)) l.invariant.same;
      }
      | else-same_letters w ↦ record {
        ends = ends-behind rows l.row-index c.loop-row-test.true l.invariant.ends;
        same = other-behind rows l.row-index _ c.args.name.now c.args.arguments.now l.best c.if-same_letters.best _ c.loop-row-test.true (sym c.same_letters.ensures ∙ w.if-same_letters.false) w.best-is l.invariant.same;
      }
    ]
