use Rattle.std.proofs.Common.{◌≡◌, ℕ, ◌+◌, ◌<◌, ◌++◌, [], ◌∷◌, length, get_or, ap, sym, ◌∙◌, subst, arith}
use Rattle.std.specs.List.{All}
use Rattle.key_classes.specs.Classes.{key_of}
use Rattle.eval_groups.proofs.AggregateLaws.{read_default, list_more, still_addable, call_answered}
use Rattle.eval_groups.proofs.aggregating.call_answer.Goals as goal

pub start-requires : goal.start-requires
start-requires c = c.requires.call.modifiers

pub loop-number-init : goal.loop-number-init
loop-number-init c = record { call_is = ap (λ a. a.call) c.in_ok-accumulator.ensures; added = ap (λ a. a.added) c.in_ok-accumulator.ensures }

pub row-requires : goal.row-requires
row-requires c =
    let items : c.as_slice-number-items.result.now ≡ c.args.group.now.rows = c.as_slice-number-items.ensures in
    subst (All (λ (number : ℕ). number < length c.args.rows.now.rows)) (sym items) c.requires.members c.loop-number.number-index 0 c.loop-number-test.true

pub add-requires : goal.add-requires
add-requires c =
    let items : c.as_slice-number-items.result.now ≡ c.args.group.now.rows = c.as_slice-number-items.ensures in
    still_addable c.args.rows.now c.args.group.now c.args.call.now c.loop-number.accumulator.call c.args.places.now (c.loop-number.number-index + 1) (c.loop-number.accumulator.added ++ c.as_slice-in-loop-number.result.now ∷ [])
    c.requires.call c.loop-number.invariant.call_is
    (list_more c.args.rows.now c.args.places.now c.args.group.now.rows c.loop-number.number-index (get_or c.as_slice-number-items.result.now c.loop-number.number-index 0) c.row.result.now c.as_slice.result.now c.in_ok-list.list c.as_slice-in-loop-number.result.now c.loop-number.accumulator.added
    (omega (arith, ap length items, c.loop-number-test.true)) (read_default c.args.group.now.rows c.as_slice-number-items.result.now c.loop-number.number-index items c.loop-number-test.true)
    c.row.ensures c.as_slice.ensures c.in_ok-list.ensures c.as_slice-in-loop-number.ensures c.loop-number.invariant.added)

pub loop-number-preserved : goal.loop-number-preserved
loop-number-preserved c =
    let items : c.as_slice-number-items.result.now ≡ c.args.group.now.rows = c.as_slice-number-items.ensures in
    record {
      call_is = c.in_ok-add.ensures.call ∙ c.loop-number.invariant.call_is;
      added =
          c.in_ok-add.ensures.ok
          ∙ list_more c.args.rows.now c.args.places.now c.args.group.now.rows c.loop-number.number-index (get_or c.as_slice-number-items.result.now c.loop-number.number-index 0) c.row.result.now c.as_slice.result.now c.in_ok-list.list c.as_slice-in-loop-number.result.now c.loop-number.accumulator.added
          (omega (arith, ap length items, c.loop-number-test.true)) (read_default c.args.group.now.rows c.as_slice-number-items.result.now c.loop-number.number-index items c.loop-number-test.true)
          c.row.ensures c.as_slice.ensures c.in_ok-list.ensures c.as_slice-in-loop-number.ensures c.loop-number.invariant.added;
    }

pub returns : goal.returns
returns c =
    let items : c.as_slice-number-items.result.now ≡ c.args.group.now.rows = c.as_slice-number-items.ensures in
    call_answered c.args.call.now c.loop-number.accumulator.call (λ number. key_of c.args.places.now (get_or c.args.rows.now.rows number [])) c.args.group.now.rows c.loop-number.number-index c.loop-number.accumulator.added c.finish.result
    (omega (arith, ap length items, c.loop-number-test.false)) c.loop-number.invariant.call_is c.loop-number.invariant.added c.finish.ensures
