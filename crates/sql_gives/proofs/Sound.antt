-- Rows that are sound: what they answer for values at their places fits the type that they give.
use Rattle.std.proofs.Common.{◌≡◌, ℕ, zero, suc, ◌<◌, List, [], ◌∷◌, ◌++◌, length, take, drop, subst, arith}
use Rattle.std.specs.Prelude.{Contains, slice_index_or}
use Rattle.sql_types.specs.declared.sql_type.SqlType.TheVariants as ty
use Rattle.sql_types.specs.declared.value.Value.{Value}
use Rattle.sql_builtins.specs.Applies.{apply}
use Rattle.sql_builtins.specs.Asks.{Asks}
use Rattle.sql_builtins.specs.Choices.{slot_type}
use Rattle.sql_builtins.specs.Table.{Signature}
use Rattle.sql_gives.proofs.GivesLaws.{Gives}
use Rattle.sql_gives.proofs.Placed.{Placed}

abbrev pub Sound : Signature → Type 0
Sound row = (values : List Value) (p : Placed row.repeats row.takes values) → Asks row.sig values → Gives (slot_type p.common p.element ty.Int64 row.gives) (apply row.sig values)

-- a list of rows, a line each
infixr 1 ◌▸◌
pub data AllSound : List Signature → Type 0 where
  none : AllSound []
  ◌▸◌ : {row : Signature} {rows : List Signature} → Sound row → AllSound rows → AllSound (row ∷ rows)

-- the rows are those in front and those behind
pub in_parts : (n : ℕ) (rows : List Signature) → AllSound (take n rows) → AllSound (drop n rows) → AllSound rows
in_parts zero rows front behind = behind
in_parts (suc n) [] front behind = none
in_parts (suc n) (row ∷ rows) (one ▸ front) behind = one ▸ in_parts n rows front behind

pub all_rows : (rows others : List Signature) → AllSound rows → AllSound others → AllSound (rows ++ others)
all_rows [] others front behind = behind
all_rows (row ∷ rows) others (one ▸ front) behind = one ▸ all_rows rows others front behind

sound_at : (rows : List Signature) (k : ℕ) (row : Signature) → k < length rows → slice_index_or rows k row ≡ row → AllSound rows → Sound row
sound_at [] k row within is each = absurd (omega arith)
sound_at (first ∷ rows) zero row within is (one ▸ each) = subst Sound is one
sound_at (first ∷ rows) (suc k) row within is (one ▸ each) = sound_at rows k row (omega arith) is each

pub sound_listed : (rows : List Signature) (row : Signature) → AllSound rows → Contains rows row → Sound row
sound_listed rows row each listed = sound_at rows listed.0 row listed.1 listed.2 each
