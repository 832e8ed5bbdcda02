use Rattle.std.proofs.Common.{false, Option, Bool, sym, ap, ◌∙◌}
use Rattle.std.specs.Prelude.{unwrap_or}
use Rattle.small_run.proofs.Values.{passes_at, passes_past}
use Rattle.small_run.proofs.runner.passes.Goals as goal

pub returns-in-Some : goal.returns-in-Some
returns-in-Some c =
    c.unwrap_or.ensures ∙ ap (λ (o : Option Bool). unwrap_or o false) c.equal.ensures
    ∙ sym (passes_at c.args.test c.args.literal.now c.args.row.now c.in-Some.value.now (sym c.in-Some.ensures.value))

pub returns-in-None : goal.returns-in-None
returns-in-None c = sym (passes_past c.args.test c.args.literal.now c.args.row.now (sym c.in-None.ensures.value))
