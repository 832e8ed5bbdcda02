-- The rows of functions on STRING and BYTES, in the order of the table.
use Rattle.std.proofs.Common.{take, drop}
use Rattle.sql_types.specs.declared.sql_type.SqlType.TheVariants as ty
use Rattle.sql_strings.specs.Rows.{string_kind, bytes_kind}
use Rattle.sql_builtins.specs.Table.{functions}
use Rattle.sql_gives.proofs.HexRows.{to_hex_gives, from_hex_gives}
use Rattle.sql_gives.proofs.KindRows.{length_gives, starts_gives, ends_gives, strpos_gives, concat_gives, substr_gives, replace_gives, reverse_gives}
use Rattle.sql_gives.proofs.Placed.{same_fit, repeated_fit}
use Rattle.sql_gives.proofs.Sound.{AllSound, none, ◌▸◌}
use Rattle.sql_gives.proofs.SymbolLaws.{strings, byte_strings}
use Rattle.sql_gives.proofs.TextRows.{repeat_text_gives, repeat_bytes_gives, trim_gives, ltrim_gives, rtrim_gives, split_gives}

pub text_rows : AllSound (take 27 (drop 62 functions))
text_rows =
    (λ values p asks. length_gives string_kind values)
    ▸ (λ values p asks. length_gives bytes_kind values)
    -- BYTE_LENGTH of either
    ▸ (λ values p asks. length_gives bytes_kind values)
    ▸ (λ values p asks. length_gives bytes_kind values)
    ▸ (λ values p asks. length_gives string_kind values)
    ▸ (λ values p asks. concat_gives string_kind ty.Text strings values (repeated_fit ty.Text values asks))
    ▸ (λ values p asks. concat_gives bytes_kind ty.Bytes byte_strings values (repeated_fit ty.Bytes values asks))
    ▸ (λ values p asks. substr_gives string_kind ty.Text strings values asks)
    ▸ (λ values p asks. substr_gives bytes_kind ty.Bytes byte_strings values asks)
    ▸ (λ values p asks. starts_gives string_kind values)
    ▸ (λ values p asks. starts_gives bytes_kind values)
    ▸ (λ values p asks. ends_gives string_kind values)
    ▸ (λ values p asks. ends_gives bytes_kind values)
    ▸ (λ values p asks. strpos_gives string_kind values)
    ▸ (λ values p asks. strpos_gives bytes_kind values)
    ▸ (λ values p asks. replace_gives string_kind ty.Text strings values (same_fit ty.Text 3 values asks))
    ▸ (λ values p asks. replace_gives bytes_kind ty.Bytes byte_strings values (same_fit ty.Bytes 3 values asks))
    ▸ (λ values p asks. repeat_text_gives values asks)
    ▸ (λ values p asks. repeat_bytes_gives values asks)
    ▸ (λ values p asks. reverse_gives string_kind ty.Text strings values (same_fit ty.Text 1 values asks))
    ▸ (λ values p asks. reverse_gives bytes_kind ty.Bytes byte_strings values (same_fit ty.Bytes 1 values asks))
    ▸ (λ values p asks. trim_gives values asks)
    ▸ (λ values p asks. ltrim_gives values asks)
    ▸ (λ values p asks. rtrim_gives values asks)
    ▸ (λ values p asks. split_gives values asks)
    ▸ (λ values p asks. to_hex_gives values asks)
    ▸ (λ values p asks. from_hex_gives values)
    ▸ none
