use Rattle.std.proofs.Common.{sym, ◌∙◌, ap}
use Rattle.std.specs.Option.{option_to_list}
use Rattle.small_run.proofs.Places.{first_found, passed_by, second_found, all_found}
use Rattle.small_run.proofs.columns.only_column.Goals as goal
use Rattle.small_run.proofs.columns.only_column.Goals.{then-is_named+else-is_some, else-is_named}

pub returns-then-is_some : goal.returns-then-is_some
returns-then-is_some c =
    second_found c.args.name.now c.args.columns.now c.loop-place.place c.index-columns-place.result c.loop-place-test.true c.index-columns-place.is c.loop-place.found
    (sym c.is_named.ensures ∙ c.if-is_named.true) (sym c.is_some.ensures ∙ c.if-is_some.true) c.loop-place.invariant

pub returns : goal.returns
returns c = all_found c.args.name.now c.args.columns.now c.loop-place.place c.loop-place.found c.loop-place-test.false c.loop-place.invariant

pub loop-place-preserved : goal.loop-place-preserved
loop-place-preserved c =
    elim c.if-is_named.branch [
      | then-is_named+else-is_some w ↦ first_found c.args.name.now c.args.columns.now c.loop-place.place c.index-columns-place.result c.loop-place-test.true c.index-columns-place.is c.loop-place.found
          (sym c.is_named.ensures ∙ w.if-is_named.true) (sym w.is_some.ensures ∙ w.if-is_some.false) c.loop-place.invariant ∙ ap option_to_list (sym w.found-is)
      | else-is_named w ↦ passed_by c.args.name.now c.args.columns.now c.loop-place.place c.index-columns-place.result c.loop-place-test.true c.index-columns-place.is c.loop-place.found
          (sym c.is_named.ensures ∙ w.if-is_named.false) c.loop-place.invariant ∙ ap option_to_list (sym w.found-is)
    ]
