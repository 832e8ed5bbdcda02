-- What each row of the signature table answers.
use Rattle.std.specs.Prelude.{List, Ok}
use Rattle.sql_types.specs.declared.value.Value.{Value}
use Rattle.sql_types.specs.declared.value.Value.TheVariants as value
use Rattle.sql_types.specs.Outcome.{Outcome}
use Rattle.sql_types.specs.Takes.{as_int64, as_uint64}
use Rattle.sql_numbers.specs.Integers as i
use Rattle.sql_numbers.specs.Comparisons as c
use Rattle.sql_numbers.specs.Arrays as a
use Rattle.sql_strings.specs.Rows as s
use Rattle.sql_dates.specs.Apply as d
use Rattle.sql_builtins.specs.declared.sig.SigId.{SigId}
use Rattle.sql_builtins.specs.declared.sig.SigId.TheVariants as sig

-- The value or the fault of a row for values that fit it. No row asks for the type that it gives.
abbrev pub apply : SigId → List Value → Outcome Value
apply sig.AddInt64 = i.apply_add as_int64
apply sig.AddUint64 = i.apply_add as_uint64
apply sig.MultiplyInt64 = i.apply_mul as_int64
apply sig.MultiplyUint64 = i.apply_mul as_uint64
apply sig.SubtractInt64 = i.apply_sub
apply sig.SubtractUint64 = i.apply_sub
apply sig.Negate = i.apply_neg
apply sig.PlusInt64 = i.apply_pos as_int64
apply sig.PlusUint64 = i.apply_pos as_uint64
apply sig.FlipInt64 = i.apply_flip i.int64_bits
apply sig.FlipUint64 = i.apply_flip i.uint64_bits
apply sig.BitAndInt64 = i.apply_bitand i.int64_bits
apply sig.BitAndUint64 = i.apply_bitand i.uint64_bits
apply sig.BitXorInt64 = i.apply_bitxor i.int64_bits
apply sig.BitXorUint64 = i.apply_bitxor i.uint64_bits
apply sig.BitOrInt64 = i.apply_bitor i.int64_bits
apply sig.BitOrUint64 = i.apply_bitor i.uint64_bits
apply sig.ShiftLeftInt64 = i.apply_shl i.int64_bits
apply sig.ShiftLeftUint64 = i.apply_shl i.uint64_bits
apply sig.ShiftRightInt64 = i.apply_shr i.int64_bits
apply sig.ShiftRightUint64 = i.apply_shr i.uint64_bits
apply sig.JoinString = s.apply_concat s.string_kind
apply sig.JoinBytes = s.apply_concat s.bytes_kind
apply sig.JoinArray = a.apply_array_concat
apply sig.Equal = c.apply_eq
apply sig.NotEqual = c.apply_ne
apply sig.Less = c.apply_lt
apply sig.LessEqual = c.apply_le
apply sig.Greater = c.apply_gt
apply sig.GreaterEqual = c.apply_ge
apply sig.LikeString = s.apply_like s.string_kind
apply sig.LikeBytes = s.apply_like s.bytes_kind
apply sig.Not = c.apply_not
apply sig.And = c.apply_and
apply sig.Or = c.apply_or
apply sig.Between = c.apply_between
apply sig.IsNull = c.apply_is_null
apply sig.IsTrue = c.apply_is_true
apply sig.IsFalse = c.apply_is_false
apply sig.IsDistinct = c.apply_distinct
apply sig.If = c.apply_if
apply sig.IfNull = c.apply_coalesce
apply sig.Coalesce = c.apply_coalesce
apply sig.NullIf = c.apply_nullif
apply sig.Error = c.apply_error
apply sig.IfError = c.apply_iferror
apply sig.NullIfError = c.apply_nulliferror
apply sig.IsError = c.apply_iserror
apply sig.Abs = i.apply_abs
apply sig.Sign = i.apply_sign
apply sig.DivInt64 = i.apply_div as_int64
apply sig.DivUint64 = i.apply_div as_uint64
apply sig.ModInt64 = i.apply_mod as_int64
apply sig.ModUint64 = i.apply_mod as_uint64
apply sig.Greatest = c.apply_greatest
apply sig.Least = c.apply_least
apply sig.SafeAddInt64 = i.apply_safe_add as_int64
apply sig.SafeAddUint64 = i.apply_safe_add as_uint64
apply sig.SafeSubtractInt64 = i.apply_safe_subtract
apply sig.SafeSubtractUint64 = i.apply_safe_subtract
apply sig.SafeMultiplyInt64 = i.apply_safe_multiply as_int64
apply sig.SafeMultiplyUint64 = i.apply_safe_multiply as_uint64
apply sig.LengthString = s.apply_length s.string_kind
apply sig.LengthBytes = s.apply_length s.bytes_kind
apply sig.ByteLengthString = s.apply_byte_length
apply sig.ByteLengthBytes = s.apply_byte_length
apply sig.CharLength = s.apply_length s.string_kind
apply sig.ConcatString = s.apply_concat s.string_kind
apply sig.ConcatBytes = s.apply_concat s.bytes_kind
apply sig.SubstrString = s.apply_substr s.string_kind
apply sig.SubstrBytes = s.apply_substr s.bytes_kind
apply sig.StartsWithString = s.apply_starts_with s.string_kind
apply sig.StartsWithBytes = s.apply_starts_with s.bytes_kind
apply sig.EndsWithString = s.apply_ends_with s.string_kind
apply sig.EndsWithBytes = s.apply_ends_with s.bytes_kind
apply sig.StrposString = s.apply_strpos s.string_kind
apply sig.StrposBytes = s.apply_strpos s.bytes_kind
apply sig.ReplaceString = s.apply_replace s.string_kind
apply sig.ReplaceBytes = s.apply_replace s.bytes_kind
apply sig.RepeatString = s.apply_repeat value.Text
apply sig.RepeatBytes = s.apply_repeat value.Bytes
apply sig.ReverseString = s.apply_reverse s.string_kind
apply sig.ReverseBytes = s.apply_reverse s.bytes_kind
apply sig.Trim = s.apply_trim
apply sig.LeftTrim = s.apply_ltrim
apply sig.RightTrim = s.apply_rtrim
apply sig.Split = s.apply_split
apply sig.ToHex = s.apply_to_hex
apply sig.FromHex = s.apply_from_hex
apply sig.ArrayLength = a.apply_array_length
apply sig.ArrayReverse = a.apply_array_reverse
apply sig.ArrayConcat = a.apply_array_concat
apply sig.ArrayFirst = a.apply_array_first
apply sig.ArrayLast = a.apply_array_last
apply sig.ArrayToString = s.apply_array_to_string
apply sig.ArrayIncludes = a.apply_array_includes
apply sig.GenerateArray = a.apply_generate_array
apply sig.Date = d.date
apply sig.DateAdd = d.date_add
apply sig.DateSub = d.date_sub
apply sig.DateDiff = d.date_diff
apply sig.DateTrunc = d.date_trunc
apply sig.Extract = d.extract
apply sig.UnixDate = d.unix_date
apply sig.DateFromUnixDate = d.date_from_unix_date
-- a lambda is no value: these rows are applied to none
apply sig.ArrayIncludesLambda = λ values. Ok value.Null
apply sig.ArrayFilter = λ values. Ok value.Null
apply sig.ArrayTransform = λ values. Ok value.Null
-- an aggregate goes over the values of many rows: these rows are applied to none either
apply sig.CountRows = λ values. Ok value.Null
apply sig.Count = λ values. Ok value.Null
apply sig.CountIf = λ values. Ok value.Null
apply sig.SumInt64 = λ values. Ok value.Null
apply sig.SumUint64 = λ values. Ok value.Null
apply sig.Min = λ values. Ok value.Null
apply sig.Max = λ values. Ok value.Null
apply sig.LogicalAnd = λ values. Ok value.Null
apply sig.LogicalOr = λ values. Ok value.Null
apply sig.StringAgg = λ values. Ok value.Null
apply sig.ArrayAgg = λ values. Ok value.Null
apply sig.AnyValue = λ values. Ok value.Null
