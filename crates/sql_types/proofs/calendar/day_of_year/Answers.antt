use Rattle.std.proofs.Common.{◌≡◌, ◌∙◌, ◌+◌, ◌-◌, ap, rules, unsigned_abs, arith}
use Rattle.jiff_core.specs.Calendar.{days_of_months}
use Rattle.jiff_core.specs.Date.{epoch_day}
use Rattle.jiff_core.proofs.CalendarLemmas.{days_in_year_bounds}
use Rattle.sql_types.proofs.CalendarLaws.{days_before_month-civil}
use Rattle.sql_types.proofs.CalendarCalls.{date_of-called}
use Rattle.sql_types.proofs.calendar.day_of_year.Goals as goal

pub returns : goal.returns
returns c =
    let e : epoch_day c.in-Ok.date ≡ c.args.days = search rules in
    let found = date_of-called c.in-Ok.date c.args.days e c.requires in
    let on = found.2 in
    let before = days_before_month-civil (unsigned_abs c.in-Ok.date.year) c.in-Ok.date.month on.first_month on.last_month in
    let same = ap (λ y. days_of_months y (c.in-Ok.date.month - 1) + c.in-Ok.date.day) found.0 ∙ ap (λ n. n + c.in-Ok.date.day) before in
    record {
      value = rw found.1 (c.day_of_year.ensures.value ∙ same);
      range = (c.day_of_year.ensures.bound.0, omega (arith, c.day_of_year.ensures.bound.1, days_in_year_bounds c.in-Ok.date.year));
    }
