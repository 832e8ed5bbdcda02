-- Aggregates are applied to no values of one row: they answer NULL.
use Rattle.sql_types.specs.declared.sql_type.SqlType.TheVariants as ty
use Rattle.sql_builtins.specs.Table.{aggregates}
use Rattle.sql_gives.proofs.GivesLaws.{null_fits}
use Rattle.sql_gives.proofs.Sound.{AllSound, none, ◌▸◌}

pub aggregate_rows : AllSound aggregates
aggregate_rows =
    (λ values p asks. null_fits ty.Int64)
    ▸ (λ values p asks. null_fits ty.Int64)
    ▸ (λ values p asks. null_fits ty.Int64)
    ▸ (λ values p asks. null_fits ty.Int64)
    ▸ (λ values p asks. null_fits ty.Uint64)
    ▸ (λ values p asks. null_fits p.common)
    ▸ (λ values p asks. null_fits p.common)
    ▸ (λ values p asks. null_fits ty.Bool)
    ▸ (λ values p asks. null_fits ty.Bool)
    ▸ (λ values p asks. null_fits ty.Text)
    ▸ (λ values p asks. null_fits (ty.Array p.element))
    ▸ (λ values p asks. null_fits p.common)
    ▸ none
