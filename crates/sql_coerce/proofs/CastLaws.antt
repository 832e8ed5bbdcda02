-- What the readers of texts say, for the casts.
use Rattle.std.proofs.Common.{◌≡◌, ℕ, Bool, true, false, List, Option, Some, None, if◌then◌else◌, refl, arith}
use Rattle.std.specs.Prelude.{ℤ, pos, negsuc, neg_ℤ, option_and_then, Ok, Err}
use Rattle.std.proofs.lemmas.Grind.{common_steps}
use Rattle.std.proofs.lemmas.Str.{is_utf8-from_IsUtf8, IsUtf8-from_is_utf8}
use Rattle.std.specs.Str.{is_utf8, IsUtf8}
use Rattle.sql_types.specs.Fits.{within}
use Rattle.sql_types.specs.declared.fault.FaultKind.TheVariants.{Cast}
use Rattle.sql_types.specs.declared.sql_type.SqlType.{SqlType, out-SqlType}
use Rattle.sql_types.specs.declared.sql_type.SqlType.TheVariants as ty
use Rattle.sql_types.specs.declared.value.Value.TheVariants as value
use Rattle.sql_types.specs.declared.sql_type.SqlType.TheOpen as t
use Rattle.sql_coerce.specs.Numerals.{only_wide}
use Rattle.sql_coerce.specs.Casts.{integer_value, text_of_bytes, cast_bytes}

abbrev wide : ℤ → Bool
wide n = within (neg_ℤ (pos 18446744073709551615)) (pos 18446744073709551615) n

-- a number past 64 bits and a sign is in no type
past_types : (to : t.SqlType-F SqlType) (n : ℤ) → wide n ≡ false → integer_value to n ≡ None
past_types t.Int32 n past = grind (arith, common_steps)
past_types t.Int64 n past = grind (arith, common_steps)
past_types t.Uint32 (pos n) past = grind (arith, common_steps)
past_types t.Uint32 (negsuc n) past = refl
past_types t.Uint64 (pos n) past = grind (arith, common_steps)
past_types t.Uint64 (negsuc n) past = refl
past_types t.Bool n past = refl
past_types t.Text n past = refl
past_types t.Bytes n past = refl
past_types t.Date n past = refl
past_types (t.Array element) n past = refl
past_types (t.Struct fields) n past = refl

by-width : (to : t.SqlType-F SqlType) (n : ℤ) (b : Bool) → wide n ≡ b → option_and_then (integer_value to) (if b then Some n else None) ≡ integer_value to n
by-width to n true test = refl
by-width to n false test = rw (past_types to n test) refl

-- it doesn't matter that the reader stops past 64 bits and a sign
pub value_first : (to : t.SqlType-F SqlType) (o : Option ℤ) → option_and_then (integer_value to) (option_and_then only_wide o) ≡ option_and_then (integer_value to) o
value_first to None = refl
value_first to (Some n) = by-width to n (wide n) refl

pub utf8_text : (bytes : List ℕ) → IsUtf8 bytes → text_of_bytes bytes ≡ Some bytes
utf8_text bytes utf8 = rw (is_utf8-from_IsUtf8 bytes utf8) refl

by-test : (bytes : List ℕ) (b : Bool) → is_utf8 bytes ≡ b → ¬ IsUtf8 bytes → (if b then Some bytes else None) ≡ None
by-test bytes true test none = absurd (none (IsUtf8-from_is_utf8 bytes test))
by-test bytes false test none = refl

pub utf8_none : (bytes : List ℕ) → ¬ IsUtf8 bytes → text_of_bytes bytes ≡ None
utf8_none bytes none = by-test bytes (is_utf8 bytes) refl none

pub bytes_text : (to : SqlType) (bytes : List ℕ) → to ≡ ty.Text → IsUtf8 bytes → cast_bytes bytes (out-SqlType to) ≡ Ok (value.Text bytes)
bytes_text to bytes is utf8 = rw (is, ty.outs-Text, utf8_text bytes utf8) refl

pub bytes_fault : (to : SqlType) (bytes : List ℕ) → to ≡ ty.Text → ¬ IsUtf8 bytes → cast_bytes bytes (out-SqlType to) ≡ Err Cast
bytes_fault to bytes is none = rw (is, ty.outs-Text, utf8_none bytes none) refl
