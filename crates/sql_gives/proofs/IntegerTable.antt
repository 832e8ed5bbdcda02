-- The rows of the operators on integers, in the order of the table.
use Rattle.std.proofs.Common.{take}
use Rattle.sql_types.specs.declared.sql_type.SqlType.TheVariants as ty
use Rattle.sql_types.specs.Takes.{as_int64, as_uint64}
use Rattle.sql_builtins.specs.Table.{functions}
use Rattle.sql_gives.proofs.GivesLaws.{int64_gives, uint64_gives}
use Rattle.sql_gives.proofs.NumberRows.{add_gives, sub_gives, mul_gives, neg_gives, pos_gives}
use Rattle.sql_gives.proofs.BitRows.{int_flip_gives, int_bitand_gives, int_bitxor_gives, int_bitor_gives, int_shl_gives, int_shr_gives, uint_flip_gives, uint_bitand_gives, uint_bitxor_gives, uint_bitor_gives, uint_shl_gives, uint_shr_gives}
use Rattle.sql_gives.proofs.Sound.{AllSound, none, ◌▸◌}

pub integer_rows : AllSound (take 21 functions)
integer_rows =
    (λ values p asks. add_gives ty.Int64 as_int64 int64_gives values)
    ▸ (λ values p asks. add_gives ty.Uint64 as_uint64 uint64_gives values)
    ▸ (λ values p asks. mul_gives ty.Int64 as_int64 int64_gives values)
    ▸ (λ values p asks. mul_gives ty.Uint64 as_uint64 uint64_gives values)
    ▸ (λ values p asks. sub_gives values)
    ▸ (λ values p asks. sub_gives values)
    ▸ (λ values p asks. neg_gives values)
    ▸ (λ values p asks. pos_gives ty.Int64 as_int64 int64_gives values)
    ▸ (λ values p asks. pos_gives ty.Uint64 as_uint64 uint64_gives values)
    ▸ (λ values p asks. int_flip_gives values)
    ▸ (λ values p asks. uint_flip_gives values)
    ▸ (λ values p asks. int_bitand_gives values)
    ▸ (λ values p asks. uint_bitand_gives values asks)
    ▸ (λ values p asks. int_bitxor_gives values)
    ▸ (λ values p asks. uint_bitxor_gives values asks)
    ▸ (λ values p asks. int_bitor_gives values)
    ▸ (λ values p asks. uint_bitor_gives values asks)
    ▸ (λ values p asks. int_shl_gives values)
    ▸ (λ values p asks. uint_shl_gives values asks)
    ▸ (λ values p asks. int_shr_gives values)
    ▸ (λ values p asks. uint_shr_gives values asks)
    ▸ none
