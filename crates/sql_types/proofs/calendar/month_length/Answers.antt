use Rattle.std.proofs.Common.{◌≡◌, ◌∙◌, ap, pos, w16, to_z, arith}
use Rattle.std.proofs.lemmas.Int.{to_z_pos}
use Rattle.jiff_core.specs.Calendar.{days_in_month}
use Rattle.sql_types.proofs.CalendarLaws.{month_length-civil}
use Rattle.sql_types.proofs.calendar.month_length.Goals as goal

pub returns : goal.returns
returns c =
    let year : to_z w16 c.args.year ≡ pos c.args.year = to_z_pos w16 c.args.year (omega arith) in
    c.days_in_month.ensures.value ∙ ap (λ y. days_in_month y c.args.month) year ∙ month_length-civil c.args.year c.args.month c.requires.january c.requires.december
