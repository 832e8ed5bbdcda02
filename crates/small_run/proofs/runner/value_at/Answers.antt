use Rattle.std.proofs.Common.{◌≡◌, sym, ◌∙◌, slice_index_or}
use Rattle.std.proofs.lemmas.Result.{IfOk-weaker}
use Rattle.sql_types.specs.declared.value.Value.TheVariants.{Null}
use Rattle.small_run.proofs.Rows.{index_at, index_past}
use Rattle.small_run.proofs.runner.value_at.Goals as goal

pub returns-in-None : goal.returns-in-None
returns-in-None c = sym (index_past c.args.row.now c.args.slot Null (sym c.in-None.ensures.value))

pub returns-in-Some : goal.returns-in-Some
returns-in-Some c =
    IfOk-weaker c.copy_value.result (λ copy. copy ≡ c.in-Some.value.now) (λ copy. copy ≡ slice_index_or c.args.row.now c.args.slot Null)
    (λ copy is. is ∙ sym (index_at c.args.row.now c.args.slot c.in-Some.value.now Null (sym c.in-Some.ensures.value))) c.copy_value.ensures
