-- The proleptic Gregorian calendar from the year 1 to the year 9999, and the texts of its dates. A day is a number: how
-- many days it comes after 1970-01-01, negative before it.
use Rattle.std.specs.Prelude.{ℕ, zero, suc, ◌+◌, ◌-◌, ◌*◌, ◌/◌, ◌%◌, ℤ, pos, ◌+ℤ◌, ◌-ℤ◌, unsigned_abs, Bool, not, ◌&&◌, ◌||◌, ◌==◌, nat_lt, nat_le, if◌then◌else◌, List, [], ◌∷◌, ◌++◌, length, take, drop, slice_index, position, Option, Some, None, option_map, option_and_then}
use Rattle.std.specs.Char.{is_ascii_digit}
use Rattle.sql_types.specs.declared.calendar.CalendarDate.{CalendarDate}

-- every fourth year, but of the years that end a century only every fourth
abbrev pub is_leap : ℕ → Bool
is_leap year = (year % 4 == 0) && (not (year % 100 == 0) || (year % 400 == 0))

-- several lengths together
abbrev pub total : List ℕ → ℕ
total [] = 0
total (x ∷ xs) = x + total xs

-- how many days each month of a year has, from January on
abbrev pub month_lengths : ℕ → List ℕ
month_lengths year =
    31 ∷ (if is_leap year then 29 else 28) ∷ 31 ∷ 30 ∷ 31 ∷ 30 ∷ 31 ∷ 31 ∷ 30 ∷ 31 ∷ 30 ∷ 31 ∷ []

-- how many days a month of a year has
unfoldable pub month_length : ℕ → ℕ → ℕ
month_length year month = slice_index (month_lengths year) (month - 1)

-- how many days a year has
unfoldable pub year_length : ℕ → ℕ
year_length year = total (month_lengths year)

-- the lengths of so many years from a year on
unfoldable pub year_lengths : ℕ → ℕ → List ℕ
year_lengths zero year = []
year_lengths (suc count) year = year_length year ∷ year_lengths count (suc year)

-- the lengths of the years from 1 to 9999
unfoldable pub calendar_years : List ℕ
calendar_years = year_lengths 9999 1

abbrev pub from_to : ℕ → ℕ → ℕ → Bool
from_to least most n = nat_le least n && nat_le n most

-- the calendar has this year, month and day
abbrev pub is_date : ℕ → ℕ → ℕ → Bool
is_date year month day = from_to 1 9999 year && from_to 1 12 month && from_to 1 (month_length year month) day

-- how many days come before the year, from 0001-01-01 on
unfoldable pub days_before_year : ℕ → ℕ
days_before_year year = total (take (year - 1) calendar_years)

-- how many days of the year come before the month
unfoldable pub days_before_month : ℕ → ℕ → ℕ
days_before_month year month = total (take (month - 1) (month_lengths year))

-- the day of the year, from 1
abbrev pub day_of_year : ℕ → ℕ → ℕ → ℕ
day_of_year year month day = days_before_month year month + day

-- how many days lie between 0001-01-01 and 1970-01-01
abbrev pub days_to_1970 : ℕ
days_to_1970 = 719162

-- the number of the day with this date
unfoldable pub day_number : ℕ → ℕ → ℕ → ℤ
day_number year month day = pos (days_before_year year + (day_of_year year month day - 1)) -ℤ pos days_to_1970

-- the day with this date, where the calendar has it
abbrev pub day_of : ℕ → ℕ → ℕ → Option ℤ
day_of year month day = if is_date year month day then Some (day_number year month day) else None

-- one stretch further on
abbrev pub further : ℕ × ℕ → ℕ × ℕ
further found = (suc found.0, found.1)

-- Stretches of these lengths lie end to end. In which of them a place lies, and where in it, all counted from 0.
unfoldable pub located : List ℕ → ℕ → ℕ × ℕ
located [] place = (0, place)
located (first ∷ rest) place = if nat_lt place first then (0, place) else further (located rest (place - first))

-- the date in a year, by the month and the place in it
abbrev pub date_in_month : ℕ → ℕ × ℕ → CalendarDate
date_in_month year found = record { year = year; month = suc found.0; day = suc found.1 }

-- the date by the year and the place in it: the months of a year lie end to end
abbrev pub date_in_year : ℕ × ℕ → CalendarDate
date_in_year found = date_in_month (suc found.0) (located (month_lengths (suc found.0)) found.1)

-- the date of a day: the years of the calendar lie end to end
unfoldable pub date_of : ℤ → CalendarDate
date_of day = date_in_year (located calendar_years (unsigned_abs (day +ℤ pos days_to_1970)))

-- the date after a date: within the month, else the first of the next month, else the first of the next year
abbrev pub next_date : CalendarDate → CalendarDate
next_date date =
    if nat_lt date.day (month_length date.year date.month) then record date { day = suc date.day }
    else if nat_lt date.month 12 then record { year = date.year; month = suc date.month; day = 1 }
    else record { year = suc date.year; month = 1; day = 1 }

-- ---- texts

abbrev pub dash : ℕ
dash = 45

-- the digit of a number below ten
abbrev pub digit : ℕ → ℕ
digit n = 48 + n

-- a number below a hundred in two digits
abbrev pub two_digits : ℕ → List ℕ
two_digits n = digit (n / 10) ∷ digit (n % 10) ∷ []

-- a number below ten thousand in four digits
abbrev pub four_digits : ℕ → List ℕ
four_digits n = two_digits (n / 100) ++ two_digits (n % 100)

-- `YYYY-MM-DD`
abbrev pub written_date : CalendarDate → List ℕ
written_date date = four_digits date.year ++ (dash ∷ []) ++ two_digits date.month ++ (dash ∷ []) ++ two_digits date.day

-- the text of a day
unfoldable pub date_text : ℤ → List ℕ
date_text day = written_date (date_of day)

-- the number that digits write, behind a number that others before them write; what isn't a digit writes none
abbrev pub number_after : ℕ → List ℕ → Option ℕ
number_after n [] = Some n
number_after n (c ∷ cs) = if is_ascii_digit c then number_after (10 * n + (c - 48)) cs else None

-- the number that a text of at least and at most so many digits writes
abbrev pub number_of : ℕ → ℕ → List ℕ → Option ℕ
number_of least most text = if from_to least most (length text) then number_after 0 text else None

-- what stands before the first dash of a text, and what behind it
abbrev pub cut_at_dash : List ℕ → Option (List ℕ × List ℕ)
cut_at_dash text = option_map (λ place. (take place text, drop (place + 1) text)) (position (λ c. c == dash) text)

-- the day, by the texts of its year, its month and its day of the month
abbrev pub read_parts : List ℕ → List ℕ → List ℕ → Option ℤ
read_parts year month day =
    option_and_then (λ y. option_and_then (λ m. option_and_then (λ d. day_of y m d) (number_of 1 2 day)) (number_of 1 2 month))
    (number_of 4 4 year)

-- the day that a text writes: four digits, a dash, one or two digits, a dash, one or two digits, of a date of the
-- calendar
unfoldable pub read_date : List ℕ → Option ℤ
read_date text =
    option_and_then (λ year. option_and_then (λ month. read_parts year.0 month.0 month.1) (cut_at_dash year.1)) (cut_at_dash text)
