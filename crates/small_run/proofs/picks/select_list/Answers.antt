use Rattle.std.proofs.Common.{List, [], ℕ, subst, sym}
use Rattle.std.proofs.lemmas.List.{take_all}
use Rattle.std.proofs.lemmas.Result.{err_from_is_err_and}
use Rattle.sql_types.specs.declared.sql_type.Named.{Named}
use Rattle.sql_types.specs.declared.sql_type.SqlType.{SqlType}
use Rattle.sql_rules.specs.Typing.{item_layer, items_layer, typed}
use Rattle.small_run.specs.Plans.{one}
use Rattle.small_run.specs.Parts.{Refused, Picks, Selects, sight_of}
use Rattle.small_run.proofs.Exits.{handed_on}
use Rattle.small_run.proofs.Selection.{EachPicks, none_picks, picks_more, selects, item_refused}
use Rattle.small_run.proofs.picks.select_list.Goals as goal

pub returns : goal.returns
returns c = selects c.args.table.now c.args.items.now c.loop-item.item-index _ c.loop-item.invariant (take_all c.loop-item.item-index c.args.items.now c.loop-item-test.false)

pub returns-in_err-picked : goal.returns-in_err-picked
returns-in_err-picked c =
    let p = err_from_is_err_and c.from_residual.result c.from_residual.ensures.1 in
    rw (p.1, p.2)
    (handed_on (Picks c.args.table.now c.item-item.result) (Refused (item_layer (one c.args.table.now) (typed (one c.args.table.now)) c.item-item.result (sight_of c.args.table.now)))
    (Selects c.args.table.now c.args.items.now) (Refused (items_layer (one c.args.table.now) (typed (one c.args.table.now)) c.args.items.now (sight_of c.args.table.now)))
    _ c.in_err-picked.ensures (item_refused c.args.table.now c.args.items.now c.loop-item.item-index c.item-item.result c.loop-item-test.true c.item-item.is))

pub loop-item-init : goal.loop-item-init
loop-item-init c =
    subst (λ (cs : List (Named SqlType)). EachPicks c.args.table.now [] cs c.new-slots.result) (sym c.new-columns.ensures)
    (subst (λ (ss : List ℕ). EachPicks c.args.table.now [] [] ss) (sym c.new-slots.ensures) none_picks)

pub loop-item-preserved : goal.loop-item-preserved
loop-item-preserved c =
    picks_more c.args.table.now c.args.items.now c.loop-item.item-index c.item-item.result c.in_ok-picked.picked c.loop-item.columns c.push.new.self c.loop-item.slots c.push-in-loop-item.new.self
    c.loop-item-test.true c.item-item.is c.in_ok-push.ensures.ok c.in_ok-push-2.ensures.ok c.loop-item.invariant c.in_ok-picked.ensures
