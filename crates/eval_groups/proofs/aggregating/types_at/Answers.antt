use Rattle.std.proofs.Common.{get_or, ap, ◌∙◌, arith}
use Rattle.eval_groups.specs.Aggregated.{column_types, types_at}
use Rattle.std.proofs.lemmas.List.{take_all, get_or_default}
use Rattle.eval_groups.proofs.AggregateLaws.{types_more}
use Rattle.eval_groups.proofs.aggregating.types_at.Goals as goal

pub type_at-requires : goal.type_at-requires
type_at-requires c = c.requires c.loop-place.place-index 0 c.loop-place-test.true

pub loop-place-preserved : goal.loop-place-preserved
loop-place-preserved c =
    types_more (column_types c.args.rows.now) c.args.places.now c.loop-place.place-index (get_or c.args.places.now c.loop-place.place-index 0) c.in_ok-copy_type.field-0 c.loop-place.types c.push.new.self
    c.loop-place-test.true (get_or_default c.args.places.now c.loop-place.place-index 0 _ c.loop-place-test.true) (c.in_ok-copy_type.ensures ∙ c.type_at.ensures) c.loop-place.invariant c.in_ok-push.ensures.ok

pub returns : goal.returns
returns c = c.loop-place.invariant ∙ ap (types_at (column_types c.args.rows.now)) (take_all c.loop-place.place-index c.args.places.now (omega (arith, c.loop-place-test.false)))
