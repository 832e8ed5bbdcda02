-- One column more is new, or the columns aren't.
use Rattle.std.proofs.Common.{◌≡◌, ◌-◌, true, false, get_or, sym, ap, ◌∙◌, arith}
use Rattle.std.proofs.lemmas.Grind.{common_steps}
use Rattle.resolved_ast.specs.declared.column.MadeColumn.{MadeColumn}
use Rattle.tree_check.proofs.NewLaws.{goes_new, goes_known, stops_new}
use Rattle.tree_check.proofs.progress.add_all.Goals as goal

pub returns-then-not-branch-clause-new : goal.returns-then-not-branch-clause-new
returns-then-not-branch-clause-new c =
    let l = c.loop-left in
    let f : c.in_ok-add_one.field-0 ≡ false = grind (arith, common_steps) in
    sym (stops_new c.args.made.now (l.left - 1) l.left (get_or c.args.made.now (l.left - 1) c.index-made-left.result) c.args.known.now l.known (omega arith) (omega arith) (ap (λ (d : MadeColumn). get_or c.args.made.now (l.left - 1) d) c.index-made-left.is) l.invariant.new l.invariant.known
    (sym c.in_ok-add_one.ensures.new ∙ f))

pub loop-left-preserved : goal.loop-left-preserved
loop-left-preserved c =
    let l = c.loop-left in
    let f : c.in_ok-add_one.field-0 ≡ true = grind (arith, common_steps) in
    record {
      most = omega arith;
      new = goes_new c.args.made.now (l.left - 1) l.left (get_or c.args.made.now (l.left - 1) c.index-made-left.result) c.args.known.now l.known (omega arith) (omega arith) (ap (λ (d : MadeColumn). get_or c.args.made.now (l.left - 1) d) c.index-made-left.is) l.invariant.new l.invariant.known (sym c.in_ok-add_one.ensures.new ∙ f);
      known = c.in_ok-add_one.ensures.known f
          ∙ goes_known c.args.made.now (l.left - 1) l.left (get_or c.args.made.now (l.left - 1) c.index-made-left.result) c.args.known.now l.known (omega arith) (omega arith) (ap (λ (d : MadeColumn). get_or c.args.made.now (l.left - 1) d) c.index-made-left.is) l.invariant.new l.invariant.known;
    }
