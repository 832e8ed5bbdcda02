-- The day with which a part begins lies in that part.
use Rattle.std.proofs.Common.{◌≡◌, ℕ, ◌+◌, ◌-◌, ◌*◌, ◌/◌, ◌%◌, ◌<◌, ◌≤◌, ℤ, pos, negsuc, ◌+ℤ◌, ◌-ℤ◌, ◌*ℤ◌, Bool, true, false, if◌then◌else◌, Option, Some, None, refl, sym, ap, ◌∙◌, arith}
use Rattle.std.specs.Int.{int_div_euclid}
use Rattle.jiff_core.proofs.SignedLemmas.{signed_arith, int_div_euclid-parts}
use Rattle.sql_types.specs.declared.calendar.CalendarDate.{CalendarDate}
use Rattle.sql_types.specs.Calendar.{date_of, day_of, day_number, is_date}
use Rattle.sql_types.specs.Fits.{is_day}
use Rattle.sql_types.proofs.CalendarLaws.{OnCalendar, on_calendar, date_of-day_number, is_date_of}
use Rattle.sql_dates.specs.declared.part.DatePart.{DatePart}
use Rattle.sql_dates.specs.declared.part.DatePart.TheVariants as part
use Rattle.sql_dates.specs.Parts.{part_index, part_start, within_dates, month_count, quarter_count, quarter_of, first_month, week_of, first_of_week}

same_some : {A : Type 0} (x y : A) → Some x ≡ Some y → x ≡ y
same_some x y e = cc

-- a day that is found by its date has this date
found-by : (year month day : ℕ) (s : ℤ) (b : Bool) → is_date year month day ≡ b → (if b then Some (day_number year month day) else None) ≡ Some s
    → date_of s ≡ record { year = year; month = month; day = day }
found-by year month day s true is e = ap date_of (sym (same_some (day_number year month day) s e)) ∙ date_of-day_number year month day (on_calendar year month day is)
found-by year month day s false is e = cc

found : (year month day : ℕ) (s : ℤ) → day_of year month day ≡ Some s → date_of s ≡ record { year = year; month = month; day = day }
found year month day s e = found-by year month day s (is_date year month day) refl e

kept-by : (day s : ℤ) (b : Bool) → (if b then Some day else None) ≡ Some s → day ≡ s
kept-by day s true e = same_some day s e
kept-by day s false e = cc

kept-day : (day s : ℤ) → within_dates day ≡ Some s → day ≡ s
kept-day day s e = kept-by day s (is_day day) e

week-of-first : (week : ℤ) → week_of (first_of_week week) ≡ week
week-of-first week =
    let e : pos 7 *ℤ week -ℤ pos 4 +ℤ pos 4 ≡ pos 7 *ℤ week = omega (arith, signed_arith) in
    let parts = int_div_euclid-parts (pos 7 *ℤ week) 7 (omega arith) in
    ap (λ z. int_div_euclid z (pos 7)) e ∙ omega (arith, signed_arith)

quarter-of-first : (month : ℕ) → quarter_of (first_month (quarter_of month)) ≡ quarter_of month
quarter-of-first month = omega arith

pub start-index : (p : DatePart) (day s : ℤ) → part_start p day ≡ Some s → part_index p s ≡ part_index p day
start-index part.Day day s e = sym (same_some day s e)
start-index part.Week day s e = ap week_of (sym (kept-day (first_of_week (week_of day)) s e)) ∙ week-of-first (week_of day)
start-index part.Month day s e =
    ap (λ date. pos (month_count date)) (found (date_of day).year (date_of day).month 1 s e)
start-index part.Quarter day s e =
    ap (λ date. pos (quarter_count date)) (found (date_of day).year (first_month (quarter_of (date_of day).month)) 1 s e)
    ∙ ap (λ q. pos (4 * (date_of day).year + (q - 1))) (quarter-of-first (date_of day).month)
start-index part.Year day s e =
    ap (λ (date : CalendarDate). pos date.year) (found (date_of day).year 1 1 s e)
