use Rattle.std.proofs.Common.{refl}
use Rattle.std.proofs.lemmas.Result.{err_from_is_err_and}
use Rattle.sql_rules.specs.Typing.{select_of, filter_layer, items_layer, nothing_in_sight, typed}
use Rattle.sql_rules.specs.Meaning.{select_means_of, empty_env, meant}
use Rattle.small_run.specs.Plans.{one}
use Rattle.small_run.specs.Parts.{Refused, Tests, Selects, PlansText, sight_of}
use Rattle.small_run.proofs.Exits.{handed_on}
use Rattle.small_run.proofs.Whole.{from_refused, test_refused, items_refused, plans_parts}
use Rattle.small_run.proofs.selects.parts_plan.Goals as goal

pub returns : goal.returns
returns c =
    plans_parts c.args.table.now c.args.from.now c.args.filter.now c.args.items.now c.if-not-is_table.ensures c.in_ok-test.test c.in_ok-selected.selected _ c.in_ok-test.ensures c.in_ok-selected.ensures refl

pub returns-then-not-is_table : goal.returns-then-not-is_table
returns-then-not-is_table c = from_refused c.args.table.now c.args.from.now c.args.filter.now c.args.items.now c.if-not-is_table.ensures

pub returns-in_err-test : goal.returns-in_err-test
returns-in_err-test c =
    let p = err_from_is_err_and c.from_residual.result c.from_residual.ensures.1 in
    let t = c.args.table.now in
    rw (p.1, p.2)
    (handed_on (Tests t c.args.filter.now) (Refused (filter_layer (one t) (typed (one t)) c.args.filter.now (sight_of t)))
    (PlansText t (select_of (one t) (typed (one t)) c.args.from.now c.args.filter.now c.args.items.now nothing_in_sight) (λ tables. select_means_of (one t) tables (meant (one t) tables) c.args.from.now c.args.filter.now c.args.items.now empty_env))
    (Refused (select_of (one t) (typed (one t)) c.args.from.now c.args.filter.now c.args.items.now nothing_in_sight))
    _ c.in_err-test.ensures (test_refused t c.args.from.now c.args.filter.now c.args.items.now c.if-not-is_table.ensures))

pub returns-in_err-selected : goal.returns-in_err-selected
returns-in_err-selected c =
    let p = err_from_is_err_and c.from_residual-in_err-selected.result c.from_residual-in_err-selected.ensures.1 in
    let t = c.args.table.now in
    rw (p.1, p.2)
    (handed_on (Selects t c.args.items.now) (Refused (items_layer (one t) (typed (one t)) c.args.items.now (sight_of t)))
    (PlansText t (select_of (one t) (typed (one t)) c.args.from.now c.args.filter.now c.args.items.now nothing_in_sight) (λ tables. select_means_of (one t) tables (meant (one t) tables) c.args.from.now c.args.filter.now c.args.items.now empty_env))
    (Refused (select_of (one t) (typed (one t)) c.args.from.now c.args.filter.now c.args.items.now nothing_in_sight))
    _ c.in_err-selected.ensures (items_refused t c.args.from.now c.args.filter.now c.args.items.now c.if-not-is_table.ensures c.in_ok-test.test c.in_ok-test.ensures))
