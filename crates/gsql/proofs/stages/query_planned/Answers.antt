-- Where the planner has no plan, the query has no type.
use Rattle.std.proofs.Common.{ap}
use Rattle.small_run.specs.declared.form.NoPlan.{NoPlan}
use Rattle.small_run.specs.declared.form.Plan.{Plan}
use Rattle.gsql.proofs.Staged.{refuses, untyped}
use Rattle.gsql.proofs.stages.query_planned.Goals as goal

pub returns-in-Err-OtherForm-clause-said : goal.returns-in-Err-OtherForm-clause-said
returns-in-Err-OtherForm-clause-said g c =
    let is_other = c.in-Err-OtherForm.ensures.other (ap (λ (e : NoPlan). refuses Plan e) c.in-Err-OtherForm.field-0-is) in
    (c.args.query.now, (c.requires.spells, c.requires.within, untyped c.args.table.now c.args.query.now is_other.0 is_other.1))
