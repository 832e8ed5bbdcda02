use Rattle.std.proofs.Common.{◌∙◌, sym, Some, None}
use Rattle.sql_coerce.proofs.MeetLevels.{apart, together, array_level}
use Rattle.sql_coerce.proofs.meets.+meet.Goals as goal

pub meet-returns-then-not-are_structs : goal.meet-returns-then-not-are_structs
meet-returns-then-not-are_structs t c =
    apart c.args.first.now c.in-Struct.fields c.args.list.now c.len.result c.in-Struct.is c.len.ensures (sym c.are_structs.ensures ∙ c.if-not-are_structs.true)

pub meet-returns-in-Some : goal.meet-returns-in-Some
meet-returns-in-Some t c =
    together c.args.first.now c.in-Struct.fields c.args.list.now c.len.result (Some c.in-Some.met) c.in-Struct.is c.len.ensures (sym c.are_structs.ensures ∙ c.if-not-are_structs.false)
    (sym c.in-Some.is ∙ c.in_ok-met-in-Struct.ensures)

pub meet-returns-in-None : goal.meet-returns-in-None
meet-returns-in-None t c =
    together c.args.first.now c.in-Struct.fields c.args.list.now c.len.result None c.in-Struct.is c.len.ensures (sym c.are_structs.ensures ∙ c.if-not-are_structs.false)
    (sym c.in-None.is ∙ c.in_ok-met-in-Struct.ensures)

pub meet-returns-in-Array : goal.meet-returns-in-Array
meet-returns-in-Array t c = rw (← array_level c.args.first.now c.in-Array.field-0 c.args.list.now c.in-Array.is) c.meet_arrays.ensures
