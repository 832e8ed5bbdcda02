use Rattle.small_run.proofs.Terms.{picks_column, item_unnamed, item_no_column, item_not_plain}
use Rattle.small_run.proofs.picks.pick.Goals as goal

pub returns-in_default : goal.returns-in_default
returns-in_default c = item_not_plain c.args.table.now c.args.item.now c.in_default.ensures

pub returns-in_default-name_of : goal.returns-in_default-name_of
returns-in_default-name_of c =
    item_unnamed c.args.table.now c.args.item.now c.in-Some.expr.now c.in-Some.ensures.0 c.in-Some.ensures.1 c.in_default-name_of.ensures

pub returns-in_default-column_named : goal.returns-in_default-column_named
returns-in_default-column_named c =
    item_no_column c.args.table.now c.args.item.now c.in-Some.expr.now c.in-Some.ensures.0 c.in-Some.ensures.1
    c.in-Some-name_of.name.now c.in-Some-name_of.ensures.0 c.in-Some-name_of.ensures.1 c.in_default-column_named.ensures

pub returns : goal.returns
returns c =
    picks_column c.args.table.now c.args.item.now c.in-Some.expr.now c.in-Some.ensures.0 c.in-Some-name_of.name.now c.in-Some-name_of.ensures.0 c.in-Some-column_named.slot c.at.result.now _
    c.in-Some.ensures.1 c.in-Some-name_of.ensures.1 c.in-Some-column_named.ensures c.at.ensures
    (cc (c.in_ok-copy.ensures, c.in_ok-copy_type.ensures))
