-- The rows of `||`, of comparisons and of logic, in the order of the table.
use Rattle.std.proofs.Common.{take, drop}
use Rattle.sql_types.specs.declared.sql_type.SqlType.TheVariants as ty
use Rattle.sql_strings.specs.Rows.{string_kind, bytes_kind}
use Rattle.sql_builtins.specs.Table.{functions}
use Rattle.sql_gives.proofs.ArrayRows as array
use Rattle.sql_gives.proofs.KindRows as text
use Rattle.sql_gives.proofs.Placed.{arrays, same_fit}
use Rattle.sql_gives.proofs.Sound.{AllSound, none, ◌▸◌}
use Rattle.sql_gives.proofs.SymbolLaws.{strings, byte_strings}
use Rattle.sql_gives.proofs.TruthRows.{eq_gives, ne_gives, lt_gives, le_gives, gt_gives, ge_gives, not_gives, and_gives, or_gives, between_gives, is_null_gives, is_true_gives, is_false_gives, distinct_gives}

pub operator_rows : AllSound (take 19 (drop 21 functions))
operator_rows =
    (λ values p asks. text.concat_gives string_kind ty.Text strings values (same_fit ty.Text 2 values asks))
    ▸ (λ values p asks. text.concat_gives bytes_kind ty.Bytes byte_strings values (same_fit ty.Bytes 2 values asks))
    ▸ (λ values p asks. array.concat_gives p.element values (arrays 2 values p))
    ▸ (λ values p asks. eq_gives values)
    ▸ (λ values p asks. ne_gives values)
    ▸ (λ values p asks. lt_gives values)
    ▸ (λ values p asks. le_gives values)
    ▸ (λ values p asks. gt_gives values)
    ▸ (λ values p asks. ge_gives values)
    ▸ (λ values p asks. text.like_gives string_kind values)
    ▸ (λ values p asks. text.like_gives bytes_kind values)
    ▸ (λ values p asks. not_gives values)
    ▸ (λ values p asks. and_gives values)
    ▸ (λ values p asks. or_gives values)
    ▸ (λ values p asks. between_gives values)
    ▸ (λ values p asks. is_null_gives values)
    ▸ (λ values p asks. is_true_gives values)
    ▸ (λ values p asks. is_false_gives values)
    ▸ (λ values p asks. distinct_gives values)
    ▸ none
