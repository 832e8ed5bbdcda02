-- The rows of functions on arrays and on dates, in the order of the table.
use Rattle.std.proofs.Common.{[], ◌∷◌, drop}
use Rattle.sql_types.specs.declared.sql_type.SqlType.TheVariants.{Text, Date}
use Rattle.sql_dates.proofs.ArgumentLaws.{has_dates}
use Rattle.sql_dates.proofs.RowLaws as dates
use Rattle.sql_builtins.specs.Table.{functions}
use Rattle.sql_gives.proofs.ArrayRows.{length_gives, reverse_gives, concat_gives, first_gives, last_gives, includes_gives}
use Rattle.sql_gives.proofs.GeneratedRows.{generate_gives}
use Rattle.sql_gives.proofs.JoinedRows.{array_to_string_gives}
use Rattle.sql_gives.proofs.Placed.{arrays, repeated_arrays}
use Rattle.sql_gives.proofs.Sound.{AllSound, none, ◌▸◌}

pub array_rows : AllSound (drop 89 functions)
array_rows =
    (λ values p asks. length_gives values)
    ▸ (λ values p asks. reverse_gives p.element values (arrays 1 values p))
    ▸ (λ values p asks. concat_gives p.element values (repeated_arrays values p))
    ▸ (λ values p asks. first_gives p.element values (arrays 1 values p))
    ▸ (λ values p asks. last_gives p.element values (arrays 1 values p))
    ▸ (λ values p asks. array_to_string_gives values asks)
    ▸ (λ values p asks. includes_gives values)
    ▸ (λ values p asks. generate_gives values asks)
    ▸ (λ values p asks. dates.date-gives values)
    ▸ (λ values p asks. dates.date_add-gives values)
    ▸ (λ values p asks. dates.date_sub-gives values)
    ▸ (λ values p asks. dates.date_diff-gives values (has_dates (Date ∷ Date ∷ Text ∷ []) values asks))
    ▸ (λ values p asks. dates.date_trunc-gives values (has_dates (Date ∷ Text ∷ []) values asks))
    ▸ (λ values p asks. dates.extract-gives values (has_dates (Text ∷ Date ∷ []) values asks))
    ▸ (λ values p asks. dates.unix_date-gives values (has_dates (Date ∷ []) values asks))
    ▸ (λ values p asks. dates.date_from_unix_date-gives values)
    ▸ none
