use Rattle.std.proofs.Common.{sym, ◌∙◌}
use Rattle.sql_builtins.specs.declared.table.Slot.TheVariants as slot
use Rattle.sql_builtins.specs.Opened.{is_open}
use Rattle.sql_builtins.proofs.EndLaws.{standing-at}
use Rattle.sql_builtins.proofs.open_types.standing.Goals as goal

pub returns-then-is_open : goal.returns-then-is_open
returns-then-is_open c =
    let l = c.loop-slot in
    standing-at (is_open c.args.wanted) c.args.slots.now l.slot-index slot.Bool l.rest.now c.loop-slot-test.true (sym c.is_open.ensures ∙ c.if-is_open.true) l.invariant.ends l.invariant.as_many
    ∙ l.invariant.same
