-- Worked examples of the functions on dates, by computation. Day 19753 is 2024-01-31, day 19782 is 2024-02-29.
use Rattle.std.proofs.Common.{◌≡◌, refl, pos, neg_ℤ, Some, None}
use Rattle.sql_types.specs.Calendar.{date_of, located, calendar_years, year_lengths, year_length, month_length, day_number, days_before_year, days_before_month}
use Rattle.sql_dates.specs.declared.part.DatePart.TheVariants.{Week, Month, Quarter, Year}
use Rattle.sql_dates.specs.declared.part.DateField.TheVariants.{DayOfWeek, DayOfYear}
use Rattle.sql_dates.specs.Parts.{parts_after, part_index, part_start, field_of}

-- a month after 2024-01-31 is 2024-02-29
a_month_later : parts_after Month (pos 1) (pos 19753) ≡ Some (pos 19782)
unfolding date_of located calendar_years year_lengths year_length month_length day_number days_before_year days_before_month
a_month_later = refl

-- there is no day a year before 0001-01-01
before_year_1 : parts_after Year (neg_ℤ (pos 1)) (neg_ℤ (pos 719162)) ≡ None
unfolding date_of located calendar_years year_lengths year_length month_length
before_year_1 = refl

-- Saturday 1969-12-27 lies in the week before the one of Sunday 1969-12-28
saturday : part_index Week (neg_ℤ (pos 5)) ≡ neg_ℤ (pos 1)
saturday = refl

sunday : part_index Week (neg_ℤ (pos 4)) ≡ pos 0
sunday = refl

-- the quarter of 2024-02-29 begins on 2024-01-01
first_quarter : part_start Quarter (pos 19782) ≡ Some (pos 19723)
unfolding date_of located calendar_years year_lengths year_length month_length day_number days_before_year days_before_month
first_quarter = refl

-- the week of Saturday 0001-01-06 begins before 0001-01-01, and that of the next day on that day
week_before_year_1 : part_start Week (neg_ℤ (pos 719157)) ≡ None
week_before_year_1 = refl

week_of_year_1 : part_start Week (neg_ℤ (pos 719156)) ≡ Some (neg_ℤ (pos 719156))
week_of_year_1 = refl

-- 2024-02-29 was a Thursday, and the 60th day of its year
thursday : field_of DayOfWeek (pos 19782) ≡ pos 5
thursday = refl

sixtieth : field_of DayOfYear (pos 19782) ≡ pos 60
unfolding date_of located calendar_years year_lengths year_length days_before_month
sixtieth = refl
