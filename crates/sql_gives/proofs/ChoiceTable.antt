-- The rows that choose an argument, and those of functions on integers, in the order of the table.
use Rattle.std.proofs.Common.{[], ◌∷◌, take, drop}
use Rattle.sql_types.specs.declared.sql_type.SqlType.TheVariants as ty
use Rattle.sql_types.specs.Takes.{as_int64, as_uint64}
use Rattle.sql_builtins.specs.declared.table.Slot.TheVariants.{Bool, Common}
use Rattle.sql_builtins.specs.Table.{functions}
use Rattle.sql_gives.proofs.ChosenRows.{if_gives, coalesce_gives, nullif_gives, iferror_gives, nulliferror_gives, greatest_gives, least_gives}
use Rattle.sql_gives.proofs.GivesLaws.{int64_gives, uint64_gives}
use Rattle.sql_gives.proofs.NumberRows.{abs_gives, sign_gives, div_gives, mod_gives, safe_add_gives, safe_sub_gives, safe_mul_gives}
use Rattle.sql_gives.proofs.Placed.{exact_fit, commons, repeated_commons}
use Rattle.sql_gives.proofs.Sound.{AllSound, none, ◌▸◌}
use Rattle.sql_gives.proofs.TruthRows.{iserror_gives}

pub choice_rows : AllSound (take 22 (drop 40 functions))
choice_rows =
    (λ values p asks. if_gives p.common ty.Bool values (exact_fit (Bool ∷ Common ∷ Common ∷ []) values p))
    ▸ (λ values p asks. coalesce_gives p.common values (commons 2 values p))
    ▸ (λ values p asks. coalesce_gives p.common values (repeated_commons values p))
    ▸ (λ values p asks. nullif_gives p.common values (commons 2 values p))
    -- ERROR has no value
    ▸ (λ values p asks. tt)
    ▸ (λ values p asks. iferror_gives p.common values (commons 2 values p))
    ▸ (λ values p asks. nulliferror_gives p.common values (commons 1 values p))
    ▸ (λ values p asks. iserror_gives values)
    ▸ (λ values p asks. abs_gives values)
    ▸ (λ values p asks. sign_gives values)
    ▸ (λ values p asks. div_gives ty.Int64 as_int64 int64_gives values)
    ▸ (λ values p asks. div_gives ty.Uint64 as_uint64 uint64_gives values)
    ▸ (λ values p asks. mod_gives ty.Int64 as_int64 int64_gives values)
    ▸ (λ values p asks. mod_gives ty.Uint64 as_uint64 uint64_gives values)
    ▸ (λ values p asks. greatest_gives p.common values (repeated_commons values p))
    ▸ (λ values p asks. least_gives p.common values (repeated_commons values p))
    ▸ (λ values p asks. safe_add_gives ty.Int64 as_int64 int64_gives values)
    ▸ (λ values p asks. safe_add_gives ty.Uint64 as_uint64 uint64_gives values)
    ▸ (λ values p asks. safe_sub_gives values)
    ▸ (λ values p asks. safe_sub_gives values)
    ▸ (λ values p asks. safe_mul_gives ty.Int64 as_int64 int64_gives values)
    ▸ (λ values p asks. safe_mul_gives ty.Uint64 as_uint64 uint64_gives values)
    ▸ none
