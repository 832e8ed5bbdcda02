-- What the call of each row asks of its values: that they fit, where the row names their types.
use Rattle.std.specs.Prelude.{◌≡◌, true, List, [], ◌∷◌}
use Rattle.sql_types.specs.declared.sql_type.SqlType.{SqlType}
use Rattle.sql_types.specs.declared.sql_type.SqlType.TheVariants.{Int64, Uint64, Text, Bytes, Date, Array}
use Rattle.sql_types.specs.declared.value.Value.{Value}
use Rattle.sql_types.specs.Takes.{fits_types, fits_types_or_less, fits_repeated}
use Rattle.sql_builtins.specs.declared.sig.SigId.{SigId}
use Rattle.sql_builtins.specs.declared.sig.SigId.TheVariants as sig

-- values of just these types
abbrev pub Just : List SqlType → List Value → Type 0
Just types values = fits_types types values ≡ true

-- the same, where the last may be missing
abbrev pub OrLess : List SqlType → SqlType → List Value → Type 0
OrLess types last values = fits_types_or_less types last values ≡ true

-- one or more of this type
abbrev pub Repeated : SqlType → List Value → Type 0
Repeated ty values = fits_repeated ty values ≡ true

abbrev pub Asks : SigId → List Value → Type 0
Asks sig.AddInt64 = Just (Int64 ∷ Int64 ∷ [])
Asks sig.AddUint64 = Just (Uint64 ∷ Uint64 ∷ [])
Asks sig.MultiplyInt64 = Just (Int64 ∷ Int64 ∷ [])
Asks sig.MultiplyUint64 = Just (Uint64 ∷ Uint64 ∷ [])
Asks sig.SubtractInt64 = Just (Int64 ∷ Int64 ∷ [])
Asks sig.SubtractUint64 = Just (Uint64 ∷ Uint64 ∷ [])
Asks sig.Negate = Just (Int64 ∷ [])
Asks sig.PlusInt64 = Just (Int64 ∷ [])
Asks sig.PlusUint64 = Just (Uint64 ∷ [])
Asks sig.FlipInt64 = Just (Int64 ∷ [])
Asks sig.FlipUint64 = Just (Uint64 ∷ [])
Asks sig.BitAndInt64 = Just (Int64 ∷ Int64 ∷ [])
Asks sig.BitAndUint64 = Just (Uint64 ∷ Uint64 ∷ [])
Asks sig.BitXorInt64 = Just (Int64 ∷ Int64 ∷ [])
Asks sig.BitXorUint64 = Just (Uint64 ∷ Uint64 ∷ [])
Asks sig.BitOrInt64 = Just (Int64 ∷ Int64 ∷ [])
Asks sig.BitOrUint64 = Just (Uint64 ∷ Uint64 ∷ [])
Asks sig.ShiftLeftInt64 = Just (Int64 ∷ Int64 ∷ [])
Asks sig.ShiftLeftUint64 = Just (Uint64 ∷ Int64 ∷ [])
Asks sig.ShiftRightInt64 = Just (Int64 ∷ Int64 ∷ [])
Asks sig.ShiftRightUint64 = Just (Uint64 ∷ Int64 ∷ [])
Asks sig.JoinString = Just (Text ∷ Text ∷ [])
Asks sig.JoinBytes = Just (Bytes ∷ Bytes ∷ [])
Asks sig.LikeString = Just (Text ∷ Text ∷ [])
Asks sig.LikeBytes = Just (Bytes ∷ Bytes ∷ [])
Asks sig.Abs = Just (Int64 ∷ [])
Asks sig.Sign = Just (Int64 ∷ [])
Asks sig.DivInt64 = Just (Int64 ∷ Int64 ∷ [])
Asks sig.DivUint64 = Just (Uint64 ∷ Uint64 ∷ [])
Asks sig.ModInt64 = Just (Int64 ∷ Int64 ∷ [])
Asks sig.ModUint64 = Just (Uint64 ∷ Uint64 ∷ [])
Asks sig.SafeAddInt64 = Just (Int64 ∷ Int64 ∷ [])
Asks sig.SafeAddUint64 = Just (Uint64 ∷ Uint64 ∷ [])
Asks sig.SafeSubtractInt64 = Just (Int64 ∷ Int64 ∷ [])
Asks sig.SafeSubtractUint64 = Just (Uint64 ∷ Uint64 ∷ [])
Asks sig.SafeMultiplyInt64 = Just (Int64 ∷ Int64 ∷ [])
Asks sig.SafeMultiplyUint64 = Just (Uint64 ∷ Uint64 ∷ [])
Asks sig.LengthString = Just (Text ∷ [])
Asks sig.LengthBytes = Just (Bytes ∷ [])
Asks sig.ByteLengthString = Just (Text ∷ [])
Asks sig.ByteLengthBytes = Just (Bytes ∷ [])
Asks sig.CharLength = Just (Text ∷ [])
Asks sig.ConcatString = Repeated Text
Asks sig.ConcatBytes = Repeated Bytes
Asks sig.SubstrString = OrLess (Text ∷ Int64 ∷ []) Int64
Asks sig.SubstrBytes = OrLess (Bytes ∷ Int64 ∷ []) Int64
Asks sig.StartsWithString = Just (Text ∷ Text ∷ [])
Asks sig.StartsWithBytes = Just (Bytes ∷ Bytes ∷ [])
Asks sig.EndsWithString = Just (Text ∷ Text ∷ [])
Asks sig.EndsWithBytes = Just (Bytes ∷ Bytes ∷ [])
Asks sig.StrposString = Just (Text ∷ Text ∷ [])
Asks sig.StrposBytes = Just (Bytes ∷ Bytes ∷ [])
Asks sig.ReplaceString = Just (Text ∷ Text ∷ Text ∷ [])
Asks sig.ReplaceBytes = Just (Bytes ∷ Bytes ∷ Bytes ∷ [])
Asks sig.RepeatString = Just (Text ∷ Int64 ∷ [])
Asks sig.RepeatBytes = Just (Bytes ∷ Int64 ∷ [])
Asks sig.ReverseString = Just (Text ∷ [])
Asks sig.ReverseBytes = Just (Bytes ∷ [])
Asks sig.Trim = OrLess (Text ∷ []) Text
Asks sig.LeftTrim = OrLess (Text ∷ []) Text
Asks sig.RightTrim = OrLess (Text ∷ []) Text
Asks sig.Split = Just (Text ∷ Text ∷ [])
Asks sig.ToHex = Just (Bytes ∷ [])
Asks sig.FromHex = Just (Text ∷ [])
Asks sig.ArrayToString = OrLess (Array Text ∷ Text ∷ []) Text
Asks sig.GenerateArray = OrLess (Int64 ∷ Int64 ∷ []) Int64
Asks sig.Date = Just (Int64 ∷ Int64 ∷ Int64 ∷ [])
Asks sig.DateAdd = Just (Date ∷ Int64 ∷ Text ∷ [])
Asks sig.DateSub = Just (Date ∷ Int64 ∷ Text ∷ [])
Asks sig.DateDiff = Just (Date ∷ Date ∷ Text ∷ [])
Asks sig.DateTrunc = Just (Date ∷ Text ∷ [])
Asks sig.Extract = Just (Text ∷ Date ∷ [])
Asks sig.UnixDate = Just (Date ∷ [])
Asks sig.DateFromUnixDate = Just (Int64 ∷ [])
-- the others take every value
Asks _ = λ values. Unit {0}
