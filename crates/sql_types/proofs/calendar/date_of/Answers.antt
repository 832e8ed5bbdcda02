use Rattle.std.proofs.Common.{◌≡◌, sym, rules, unsigned_abs}
use Rattle.jiff_core.specs.Date.{epoch_day}
use Rattle.sql_types.proofs.CalendarCalls.{date_of-called, day-most}
use Rattle.sql_types.proofs.calendar.date_of.Goals as goal

pub returns : goal.returns
returns c =
    let e : epoch_day c.in-Ok.date ≡ c.args.days = search rules in
    let found = date_of-called c.in-Ok.date c.args.days e c.requires in
    let same : c.unsigned_abs.result ≡ unsigned_abs c.in-Ok.date.year = search rules in
    let on = found.2 in
    let most = day-most (unsigned_abs c.in-Ok.date.year) c.in-Ok.date.month c.in-Ok.date.day on in
    record {
      date = rw same (sym found.1);
      year = rw same (on.first_year, on.last_year);
      month = (on.first_month, on.last_month);
      day = (on.first_day, most);
    }
