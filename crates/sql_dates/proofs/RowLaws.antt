-- What each function gives fits the type of its row: a DATE, or an INT64.
use Rattle.std.proofs.Common.{◌≡◌, ℕ, ◌+◌, ◌/◌, ◌%◌, ℤ, pos, negsuc, neg_ℤ, ◌+ℤ◌, ◌-ℤ◌, ◌*ℤ◌, Bool, true, false, if◌then◌else◌, List, Option, Some, None, min, refl, arith, FitsSigned, w64}
use Rattle.std.specs.Prelude.{IfSome, IfOk}
use Rattle.std.proofs.lemmas.Grind.{common_steps}
use Rattle.jiff_core.specs.Calendar.{IsWithin}
use Rattle.jiff_core.proofs.SignedLemmas.{signed_arith, fits_between, int_div_euclid-parts, int_rem_euclid-parts}
use Rattle.sql_types.specs.declared.fault.FaultKind.{FaultKind}
use Rattle.sql_types.specs.declared.fault.FaultKind.TheVariants.{OutOfRange, Argument}
use Rattle.sql_types.specs.declared.sql_type.SqlType.{SqlType}
use Rattle.sql_types.specs.declared.sql_type.SqlType.TheVariants as ty
use Rattle.sql_types.specs.declared.value.Value.{Value}
use Rattle.sql_types.specs.Calendar.{date_of, month_length}
use Rattle.sql_types.specs.Fits.{fits, is_day}
use Rattle.sql_types.specs.Outcome.{Outcome}
use Rattle.sql_types.proofs.CalendarLaws.{is_date_of, day_of_year-most}
use Rattle.sql_types.proofs.CalendarCalls.{day_of-fits, day-most}
use Rattle.sql_dates.specs.declared.part.DatePart.{DatePart}
use Rattle.sql_dates.specs.declared.part.DatePart.TheVariants as part
use Rattle.sql_dates.specs.declared.part.DateField.{DateField}
use Rattle.sql_dates.specs.declared.part.DateField.TheVariants as field
use Rattle.sql_dates.specs.Parts.{parts_after, part_index, part_start, field_of, within_dates, day_in_month, months_after, month_count, quarter_of, first_month, week_of}
use Rattle.sql_dates.specs.Arguments.{HasDates, date_at, int_at, part_at, field_at, unless_null}
use Rattle.sql_dates.specs.Apply as rows
use Rattle.sql_dates.proofs.FitLaws.{null_fits, date_fits, int_fits}

-- a value fits the type; a fault is no value
abbrev pub Gives : SqlType → Outcome Value → Type 0
Gives ty outcome = IfOk outcome (λ x. fits ty x ≡ true)

abbrev IsDay : ℤ → Type 0
IsDay day = is_day day ≡ true

gives-unless : {A : Type 0} (ty : SqlType) (o : Option A) (next : A → Outcome Value) → ((x : A) → Gives ty (next x)) → Gives ty (unless_null o next)
gives-unless ty None next each = null_fits ty
gives-unless ty (Some x) next each = each x

gives-unless-day : (ty : SqlType) (o : Option ℤ) (next : ℤ → Outcome Value) → IfSome o IsDay → ((x : ℤ) → IsDay x → Gives ty (next x)) → Gives ty (unless_null o next)
gives-unless-day ty None next days each = null_fits ty
gives-unless-day ty (Some x) next days each = each x days

gives-dated : (fault : FaultKind) (o : Option ℤ) → IfSome o IsDay → Gives ty.Date (rows.dated fault o)
gives-dated fault None days = tt
gives-dated fault (Some day) days = date_fits day days

-- ---- days

named_day-fits : (year month day : ℤ) → IfSome (rows.named_day year month day) IsDay
named_day-fits (pos year) (pos month) (pos day) = day_of-fits year month day
named_day-fits (pos year) (pos month) (negsuc day) = tt
named_day-fits (pos year) (negsuc month) day = tt
named_day-fits (negsuc year) month day = tt

within-by : (day : ℤ) (b : Bool) → is_day day ≡ b → IfSome (if b then Some day else None) IsDay
within-by day true is = is
within-by day false is = tt

within_dates-fits : (day : ℤ) → IfSome (within_dates day) IsDay
within_dates-fits day = within-by day (is_day day) refl

day_in_month-fits : (count : ℤ) (day : ℕ) → IfSome (day_in_month count day) IsDay
day_in_month-fits (pos count) day = day_of-fits (count / 12) (count % 12 + 1) (min day (month_length (count / 12) (count % 12 + 1)))
day_in_month-fits (negsuc count) day = tt

months_after-fits : (count day : ℤ) → IfSome (months_after count day) IsDay
months_after-fits count day = day_in_month-fits (pos (month_count (date_of day)) +ℤ count) (date_of day).day

parts_after-fits : (p : DatePart) (count day : ℤ) → IfSome (parts_after p count day) IsDay
parts_after-fits part.Day count day = within_dates-fits (day +ℤ count)
parts_after-fits part.Week count day = within_dates-fits (day +ℤ (pos 7 *ℤ count))
parts_after-fits part.Month count day = months_after-fits count day
parts_after-fits part.Quarter count day = months_after-fits (pos 3 *ℤ count) day
parts_after-fits part.Year count day = months_after-fits (pos 12 *ℤ count) day

part_start-fits : (p : DatePart) (day : ℤ) → IsDay day → IfSome (part_start p day) IsDay
part_start-fits part.Day day is = is
part_start-fits part.Week day is = within_dates-fits (pos 7 *ℤ week_of day -ℤ pos 4)
part_start-fits part.Month day is = day_of-fits (date_of day).year (date_of day).month 1
part_start-fits part.Quarter day is = day_of-fits (date_of day).year (first_month (quarter_of (date_of day).month)) 1
part_start-fits part.Year day is = day_of-fits (date_of day).year 1 1

-- ---- numbers

small : (n : ℤ) → IsWithin 6000000 n → FitsSigned w64 n
small n within = fits_between w64 n (omega (arith, signed_arith))

day-small : (day : ℤ) → IsDay day → IsWithin 3000000 day
day-small day is = grind (arith, signed_arith, common_steps)

part_index-small : (p : DatePart) (day : ℤ) → IsDay day → IsWithin 3000000 (part_index p day)
part_index-small part.Day day is = day-small day is
part_index-small part.Week day is =
    let range = day-small day is in
    let parts = int_div_euclid-parts (day +ℤ pos 4) 7 (omega arith) in
    (omega (arith, signed_arith), omega (arith, signed_arith))
part_index-small part.Month day is =
    let on = (is_date_of day is).calendar in
    (omega (arith, signed_arith), omega (arith, signed_arith))
part_index-small part.Quarter day is =
    let on = (is_date_of day is).calendar in
    (omega (arith, signed_arith), omega (arith, signed_arith))
part_index-small part.Year day is =
    let on = (is_date_of day is).calendar in
    (omega (arith, signed_arith), omega (arith, signed_arith))

wider : (n : ℤ) → IsWithin 3000000 n → IsWithin 6000000 n
wider n within = (omega (arith, signed_arith), omega (arith, signed_arith))

difference-small : (a b : ℤ) → IsWithin 3000000 a → IsWithin 3000000 b → IsWithin 6000000 (a -ℤ b)
difference-small a b x y = (omega (arith, signed_arith), omega (arith, signed_arith))

field_of-small : (f : DateField) (day : ℤ) → IsDay day → IsWithin 6000000 (field_of f day)
field_of-small field.Day day is =
    let on = (is_date_of day is).calendar in
    let most = day-most (date_of day).year (date_of day).month (date_of day).day on in
    (omega (arith, signed_arith), omega (arith, signed_arith))
field_of-small field.Month day is =
    let on = (is_date_of day is).calendar in
    (omega (arith, signed_arith), omega (arith, signed_arith))
field_of-small field.Quarter day is =
    let on = (is_date_of day is).calendar in
    (omega (arith, signed_arith), omega (arith, signed_arith))
field_of-small field.Year day is =
    let on = (is_date_of day is).calendar in
    (omega (arith, signed_arith), omega (arith, signed_arith))
field_of-small field.DayOfWeek day is =
    let parts = int_rem_euclid-parts (day +ℤ pos 4) 7 (omega arith) in
    (omega (arith, signed_arith), omega (arith, signed_arith))
field_of-small field.DayOfYear day is =
    let on = (is_date_of day is).calendar in
    let most = day_of_year-most (date_of day).year (date_of day).month (date_of day).day on in
    (omega (arith, signed_arith), omega (arith, signed_arith))

-- ---- rows

pub date-gives : (values : List Value) → Gives ty.Date (rows.date values)
date-gives values =
    gives-unless ty.Date (int_at values 0) _ (λ year. gives-unless ty.Date (int_at values 1) _ (λ month. gives-unless ty.Date (int_at values 2) _ (λ day.
    gives-dated Argument (rows.named_day year month day) (named_day-fits year month day))))

pub date_add-gives : (values : List Value) → Gives ty.Date (rows.date_add values)
date_add-gives values =
    gives-unless ty.Date (date_at values 0) _ (λ day. gives-unless ty.Date (int_at values 1) _ (λ count. gives-unless ty.Date (part_at values 2) _ (λ p.
    gives-dated OutOfRange (parts_after p count day) (parts_after-fits p count day))))

pub date_sub-gives : (values : List Value) → Gives ty.Date (rows.date_sub values)
date_sub-gives values =
    gives-unless ty.Date (date_at values 0) _ (λ day. gives-unless ty.Date (int_at values 1) _ (λ count. gives-unless ty.Date (part_at values 2) _ (λ p.
    gives-dated OutOfRange (parts_after p (neg_ℤ count) day) (parts_after-fits p (neg_ℤ count) day))))

pub date_diff-gives : (values : List Value) → HasDates values → Gives ty.Int64 (rows.date_diff values)
date_diff-gives values has =
    gives-unless-day ty.Int64 (date_at values 0) _ (has.each 0) (λ day is. gives-unless-day ty.Int64 (date_at values 1) _ (has.each 1) (λ from is₂. gives-unless ty.Int64 (part_at values 2) _ (λ p.
    int_fits (part_index p day -ℤ part_index p from) (small (part_index p day -ℤ part_index p from) (difference-small (part_index p day) (part_index p from) (part_index-small p day is) (part_index-small p from is₂))))))

pub date_trunc-gives : (values : List Value) → HasDates values → Gives ty.Date (rows.date_trunc values)
date_trunc-gives values has =
    gives-unless-day ty.Date (date_at values 0) _ (has.each 0) (λ day is. gives-unless ty.Date (part_at values 1) _ (λ p.
    gives-dated OutOfRange (part_start p day) (part_start-fits p day is)))

pub extract-gives : (values : List Value) → HasDates values → Gives ty.Int64 (rows.extract values)
extract-gives values has =
    gives-unless ty.Int64 (field_at values 0) _ (λ f. gives-unless-day ty.Int64 (date_at values 1) _ (has.each 1) (λ day is.
    int_fits (field_of f day) (small (field_of f day) (field_of-small f day is))))

pub unix_date-gives : (values : List Value) → HasDates values → Gives ty.Int64 (rows.unix_date values)
unix_date-gives values has =
    gives-unless-day ty.Int64 (date_at values 0) _ (has.each 0) (λ day is.
    int_fits day (small day (wider day (day-small day is))))

pub date_from_unix_date-gives : (values : List Value) → Gives ty.Date (rows.date_from_unix_date values)
date_from_unix_date-gives values =
    gives-unless ty.Date (int_at values 0) _ (λ days. gives-dated OutOfRange (within_dates days) (within_dates-fits days))
