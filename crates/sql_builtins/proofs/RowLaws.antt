-- A signature has one row of the table at most.
use Rattle.std.proofs.Common.{◌≡◌, [], ◌∷◌, Option, Some, None, refl, ap, sym, ◌∙◌}
use Rattle.std.specs.Prelude.{codes, Contains}
use Rattle.sql_builtins.specs.declared.sig.SigId.{SigId}
use Rattle.sql_builtins.specs.declared.sig.SigId.TheVariants as sig
use Rattle.sql_builtins.specs.declared.table.Slot.TheVariants.{Bool, Int64, Uint64, String, Bytes, Date, Texts, Numbers, Common, Element, ArrayOfElement, Any}
use Rattle.sql_builtins.specs.declared.table.Repeats.TheVariants.{Exactly, LastOptional, LastRepeats}
use Rattle.sql_builtins.specs.declared.table.Needs.TheVariants.{Nothing, Comparable, Orderable, NoArray}
use Rattle.sql_builtins.specs.Table.{Signature, entry, functions, aggregates, signatures}
use Rattle.sql_builtins.proofs.FittingLaws.{Each, each-both, each-listed}
use Rattle.sql_builtins.proofs.PlaceLaws.{some-same}

abbrev row_at : SigId → Option Signature
row_at sig.AddInt64 = Some (entry sig.AddInt64 (codes "+") (Int64 ∷ Int64 ∷ []) Exactly Nothing Int64)
row_at sig.AddUint64 = Some (entry sig.AddUint64 (codes "+") (Uint64 ∷ Uint64 ∷ []) Exactly Nothing Uint64)
row_at sig.MultiplyInt64 = Some (entry sig.MultiplyInt64 (codes "*") (Int64 ∷ Int64 ∷ []) Exactly Nothing Int64)
row_at sig.MultiplyUint64 = Some (entry sig.MultiplyUint64 (codes "*") (Uint64 ∷ Uint64 ∷ []) Exactly Nothing Uint64)
row_at sig.SubtractInt64 = Some (entry sig.SubtractInt64 (codes "-") (Int64 ∷ Int64 ∷ []) Exactly Nothing Int64)
row_at sig.SubtractUint64 = Some (entry sig.SubtractUint64 (codes "-") (Uint64 ∷ Uint64 ∷ []) Exactly Nothing Int64)
row_at sig.Negate = Some (entry sig.Negate (codes "-") (Int64 ∷ []) Exactly Nothing Int64)
row_at sig.PlusInt64 = Some (entry sig.PlusInt64 (codes "+") (Int64 ∷ []) Exactly Nothing Int64)
row_at sig.PlusUint64 = Some (entry sig.PlusUint64 (codes "+") (Uint64 ∷ []) Exactly Nothing Uint64)
row_at sig.FlipInt64 = Some (entry sig.FlipInt64 (codes "~") (Int64 ∷ []) Exactly Nothing Int64)
row_at sig.FlipUint64 = Some (entry sig.FlipUint64 (codes "~") (Uint64 ∷ []) Exactly Nothing Uint64)
row_at sig.BitAndInt64 = Some (entry sig.BitAndInt64 (codes "&") (Int64 ∷ Int64 ∷ []) Exactly Nothing Int64)
row_at sig.BitAndUint64 = Some (entry sig.BitAndUint64 (codes "&") (Uint64 ∷ Uint64 ∷ []) Exactly Nothing Uint64)
row_at sig.BitXorInt64 = Some (entry sig.BitXorInt64 (codes "^") (Int64 ∷ Int64 ∷ []) Exactly Nothing Int64)
row_at sig.BitXorUint64 = Some (entry sig.BitXorUint64 (codes "^") (Uint64 ∷ Uint64 ∷ []) Exactly Nothing Uint64)
row_at sig.BitOrInt64 = Some (entry sig.BitOrInt64 (codes "|") (Int64 ∷ Int64 ∷ []) Exactly Nothing Int64)
row_at sig.BitOrUint64 = Some (entry sig.BitOrUint64 (codes "|") (Uint64 ∷ Uint64 ∷ []) Exactly Nothing Uint64)
row_at sig.ShiftLeftInt64 = Some (entry sig.ShiftLeftInt64 (codes "<<") (Int64 ∷ Int64 ∷ []) Exactly Nothing Int64)
row_at sig.ShiftLeftUint64 = Some (entry sig.ShiftLeftUint64 (codes "<<") (Uint64 ∷ Int64 ∷ []) Exactly Nothing Uint64)
row_at sig.ShiftRightInt64 = Some (entry sig.ShiftRightInt64 (codes ">>") (Int64 ∷ Int64 ∷ []) Exactly Nothing Int64)
row_at sig.ShiftRightUint64 = Some (entry sig.ShiftRightUint64 (codes ">>") (Uint64 ∷ Int64 ∷ []) Exactly Nothing Uint64)
row_at sig.JoinString = Some (entry sig.JoinString (codes "||") (String ∷ String ∷ []) Exactly Nothing String)
row_at sig.JoinBytes = Some (entry sig.JoinBytes (codes "||") (Bytes ∷ Bytes ∷ []) Exactly Nothing Bytes)
row_at sig.JoinArray = Some (entry sig.JoinArray (codes "||") (ArrayOfElement ∷ ArrayOfElement ∷ []) Exactly Nothing ArrayOfElement)
row_at sig.Equal = Some (entry sig.Equal (codes "=") (Common ∷ Common ∷ []) Exactly Comparable Bool)
row_at sig.NotEqual = Some (entry sig.NotEqual (codes "!=") (Common ∷ Common ∷ []) Exactly Comparable Bool)
row_at sig.Less = Some (entry sig.Less (codes "<") (Common ∷ Common ∷ []) Exactly Orderable Bool)
row_at sig.LessEqual = Some (entry sig.LessEqual (codes "<=") (Common ∷ Common ∷ []) Exactly Orderable Bool)
row_at sig.Greater = Some (entry sig.Greater (codes ">") (Common ∷ Common ∷ []) Exactly Orderable Bool)
row_at sig.GreaterEqual = Some (entry sig.GreaterEqual (codes ">=") (Common ∷ Common ∷ []) Exactly Orderable Bool)
row_at sig.LikeString = Some (entry sig.LikeString (codes "LIKE") (String ∷ String ∷ []) Exactly Nothing Bool)
row_at sig.LikeBytes = Some (entry sig.LikeBytes (codes "LIKE") (Bytes ∷ Bytes ∷ []) Exactly Nothing Bool)
row_at sig.Not = Some (entry sig.Not (codes "NOT") (Bool ∷ []) Exactly Nothing Bool)
row_at sig.And = Some (entry sig.And (codes "AND") (Bool ∷ Bool ∷ []) Exactly Nothing Bool)
row_at sig.Or = Some (entry sig.Or (codes "OR") (Bool ∷ Bool ∷ []) Exactly Nothing Bool)
row_at sig.Between = Some (entry sig.Between (codes "BETWEEN") (Common ∷ Common ∷ Common ∷ []) Exactly Orderable Bool)
row_at sig.IsNull = Some (entry sig.IsNull (codes "IS NULL") (Any ∷ []) Exactly Nothing Bool)
row_at sig.IsTrue = Some (entry sig.IsTrue (codes "IS TRUE") (Bool ∷ []) Exactly Nothing Bool)
row_at sig.IsFalse = Some (entry sig.IsFalse (codes "IS FALSE") (Bool ∷ []) Exactly Nothing Bool)
row_at sig.IsDistinct = Some (entry sig.IsDistinct (codes "IS DISTINCT FROM") (Common ∷ Common ∷ []) Exactly Comparable Bool)
row_at sig.If = Some (entry sig.If (codes "IF") (Bool ∷ Common ∷ Common ∷ []) Exactly Nothing Common)
row_at sig.IfNull = Some (entry sig.IfNull (codes "IFNULL") (Common ∷ Common ∷ []) Exactly Nothing Common)
row_at sig.Coalesce = Some (entry sig.Coalesce (codes "COALESCE") (Common ∷ []) LastRepeats Nothing Common)
row_at sig.NullIf = Some (entry sig.NullIf (codes "NULLIF") (Common ∷ Common ∷ []) Exactly Comparable Common)
row_at sig.Error = Some (entry sig.Error (codes "ERROR") (String ∷ []) Exactly Nothing Int64)
row_at sig.IfError = Some (entry sig.IfError (codes "IFERROR") (Common ∷ Common ∷ []) Exactly Nothing Common)
row_at sig.NullIfError = Some (entry sig.NullIfError (codes "NULLIFERROR") (Common ∷ []) Exactly Nothing Common)
row_at sig.IsError = Some (entry sig.IsError (codes "ISERROR") (Any ∷ []) Exactly Nothing Bool)
row_at sig.Abs = Some (entry sig.Abs (codes "ABS") (Int64 ∷ []) Exactly Nothing Int64)
row_at sig.Sign = Some (entry sig.Sign (codes "SIGN") (Int64 ∷ []) Exactly Nothing Int64)
row_at sig.DivInt64 = Some (entry sig.DivInt64 (codes "DIV") (Int64 ∷ Int64 ∷ []) Exactly Nothing Int64)
row_at sig.DivUint64 = Some (entry sig.DivUint64 (codes "DIV") (Uint64 ∷ Uint64 ∷ []) Exactly Nothing Uint64)
row_at sig.ModInt64 = Some (entry sig.ModInt64 (codes "MOD") (Int64 ∷ Int64 ∷ []) Exactly Nothing Int64)
row_at sig.ModUint64 = Some (entry sig.ModUint64 (codes "MOD") (Uint64 ∷ Uint64 ∷ []) Exactly Nothing Uint64)
row_at sig.Greatest = Some (entry sig.Greatest (codes "GREATEST") (Common ∷ []) LastRepeats Orderable Common)
row_at sig.Least = Some (entry sig.Least (codes "LEAST") (Common ∷ []) LastRepeats Orderable Common)
row_at sig.SafeAddInt64 = Some (entry sig.SafeAddInt64 (codes "SAFE_ADD") (Int64 ∷ Int64 ∷ []) Exactly Nothing Int64)
row_at sig.SafeAddUint64 = Some (entry sig.SafeAddUint64 (codes "SAFE_ADD") (Uint64 ∷ Uint64 ∷ []) Exactly Nothing Uint64)
row_at sig.SafeSubtractInt64 = Some (entry sig.SafeSubtractInt64 (codes "SAFE_SUBTRACT") (Int64 ∷ Int64 ∷ []) Exactly Nothing Int64)
row_at sig.SafeSubtractUint64 = Some (entry sig.SafeSubtractUint64 (codes "SAFE_SUBTRACT") (Uint64 ∷ Uint64 ∷ []) Exactly Nothing Int64)
row_at sig.SafeMultiplyInt64 = Some (entry sig.SafeMultiplyInt64 (codes "SAFE_MULTIPLY") (Int64 ∷ Int64 ∷ []) Exactly Nothing Int64)
row_at sig.SafeMultiplyUint64 = Some (entry sig.SafeMultiplyUint64 (codes "SAFE_MULTIPLY") (Uint64 ∷ Uint64 ∷ []) Exactly Nothing Uint64)
row_at sig.LengthString = Some (entry sig.LengthString (codes "LENGTH") (String ∷ []) Exactly Nothing Int64)
row_at sig.LengthBytes = Some (entry sig.LengthBytes (codes "LENGTH") (Bytes ∷ []) Exactly Nothing Int64)
row_at sig.ByteLengthString = Some (entry sig.ByteLengthString (codes "BYTE_LENGTH") (String ∷ []) Exactly Nothing Int64)
row_at sig.ByteLengthBytes = Some (entry sig.ByteLengthBytes (codes "BYTE_LENGTH") (Bytes ∷ []) Exactly Nothing Int64)
row_at sig.CharLength = Some (entry sig.CharLength (codes "CHAR_LENGTH") (String ∷ []) Exactly Nothing Int64)
row_at sig.ConcatString = Some (entry sig.ConcatString (codes "CONCAT") (String ∷ []) LastRepeats Nothing String)
row_at sig.ConcatBytes = Some (entry sig.ConcatBytes (codes "CONCAT") (Bytes ∷ []) LastRepeats Nothing Bytes)
row_at sig.SubstrString = Some (entry sig.SubstrString (codes "SUBSTR") (String ∷ Int64 ∷ Int64 ∷ []) LastOptional Nothing String)
row_at sig.SubstrBytes = Some (entry sig.SubstrBytes (codes "SUBSTR") (Bytes ∷ Int64 ∷ Int64 ∷ []) LastOptional Nothing Bytes)
row_at sig.StartsWithString = Some (entry sig.StartsWithString (codes "STARTS_WITH") (String ∷ String ∷ []) Exactly Nothing Bool)
row_at sig.StartsWithBytes = Some (entry sig.StartsWithBytes (codes "STARTS_WITH") (Bytes ∷ Bytes ∷ []) Exactly Nothing Bool)
row_at sig.EndsWithString = Some (entry sig.EndsWithString (codes "ENDS_WITH") (String ∷ String ∷ []) Exactly Nothing Bool)
row_at sig.EndsWithBytes = Some (entry sig.EndsWithBytes (codes "ENDS_WITH") (Bytes ∷ Bytes ∷ []) Exactly Nothing Bool)
row_at sig.StrposString = Some (entry sig.StrposString (codes "STRPOS") (String ∷ String ∷ []) Exactly Nothing Int64)
row_at sig.StrposBytes = Some (entry sig.StrposBytes (codes "STRPOS") (Bytes ∷ Bytes ∷ []) Exactly Nothing Int64)
row_at sig.ReplaceString = Some (entry sig.ReplaceString (codes "REPLACE") (String ∷ String ∷ String ∷ []) Exactly Nothing String)
row_at sig.ReplaceBytes = Some (entry sig.ReplaceBytes (codes "REPLACE") (Bytes ∷ Bytes ∷ Bytes ∷ []) Exactly Nothing Bytes)
row_at sig.RepeatString = Some (entry sig.RepeatString (codes "REPEAT") (String ∷ Int64 ∷ []) Exactly Nothing String)
row_at sig.RepeatBytes = Some (entry sig.RepeatBytes (codes "REPEAT") (Bytes ∷ Int64 ∷ []) Exactly Nothing Bytes)
row_at sig.ReverseString = Some (entry sig.ReverseString (codes "REVERSE") (String ∷ []) Exactly Nothing String)
row_at sig.ReverseBytes = Some (entry sig.ReverseBytes (codes "REVERSE") (Bytes ∷ []) Exactly Nothing Bytes)
row_at sig.Trim = Some (entry sig.Trim (codes "TRIM") (String ∷ String ∷ []) LastOptional Nothing String)
row_at sig.LeftTrim = Some (entry sig.LeftTrim (codes "LTRIM") (String ∷ String ∷ []) LastOptional Nothing String)
row_at sig.RightTrim = Some (entry sig.RightTrim (codes "RTRIM") (String ∷ String ∷ []) LastOptional Nothing String)
row_at sig.Split = Some (entry sig.Split (codes "SPLIT") (String ∷ String ∷ []) Exactly Nothing Texts)
row_at sig.ToHex = Some (entry sig.ToHex (codes "TO_HEX") (Bytes ∷ []) Exactly Nothing String)
row_at sig.FromHex = Some (entry sig.FromHex (codes "FROM_HEX") (String ∷ []) Exactly Nothing Bytes)
row_at sig.ArrayLength = Some (entry sig.ArrayLength (codes "ARRAY_LENGTH") (ArrayOfElement ∷ []) Exactly Nothing Int64)
row_at sig.ArrayReverse = Some (entry sig.ArrayReverse (codes "ARRAY_REVERSE") (ArrayOfElement ∷ []) Exactly Nothing ArrayOfElement)
row_at sig.ArrayConcat = Some (entry sig.ArrayConcat (codes "ARRAY_CONCAT") (ArrayOfElement ∷ []) LastRepeats Nothing ArrayOfElement)
row_at sig.ArrayFirst = Some (entry sig.ArrayFirst (codes "ARRAY_FIRST") (ArrayOfElement ∷ []) Exactly Nothing Element)
row_at sig.ArrayLast = Some (entry sig.ArrayLast (codes "ARRAY_LAST") (ArrayOfElement ∷ []) Exactly Nothing Element)
row_at sig.ArrayToString = Some (entry sig.ArrayToString (codes "ARRAY_TO_STRING") (Texts ∷ String ∷ String ∷ []) LastOptional Nothing String)
row_at sig.ArrayIncludes = Some (entry sig.ArrayIncludes (codes "ARRAY_INCLUDES") (ArrayOfElement ∷ Element ∷ []) Exactly Comparable Bool)
row_at sig.GenerateArray = Some (entry sig.GenerateArray (codes "GENERATE_ARRAY") (Int64 ∷ Int64 ∷ Int64 ∷ []) LastOptional Nothing Numbers)
row_at sig.Date = Some (entry sig.Date (codes "DATE") (Int64 ∷ Int64 ∷ Int64 ∷ []) Exactly Nothing Date)
row_at sig.DateAdd = Some (entry sig.DateAdd (codes "DATE_ADD") (Date ∷ Int64 ∷ String ∷ []) Exactly Nothing Date)
row_at sig.DateSub = Some (entry sig.DateSub (codes "DATE_SUB") (Date ∷ Int64 ∷ String ∷ []) Exactly Nothing Date)
row_at sig.DateDiff = Some (entry sig.DateDiff (codes "DATE_DIFF") (Date ∷ Date ∷ String ∷ []) Exactly Nothing Int64)
row_at sig.DateTrunc = Some (entry sig.DateTrunc (codes "DATE_TRUNC") (Date ∷ String ∷ []) Exactly Nothing Date)
row_at sig.Extract = Some (entry sig.Extract (codes "EXTRACT") (String ∷ Date ∷ []) Exactly Nothing Int64)
row_at sig.UnixDate = Some (entry sig.UnixDate (codes "UNIX_DATE") (Date ∷ []) Exactly Nothing Int64)
row_at sig.DateFromUnixDate = Some (entry sig.DateFromUnixDate (codes "DATE_FROM_UNIX_DATE") (Int64 ∷ []) Exactly Nothing Date)
row_at sig.CountRows = Some (entry sig.CountRows (codes "COUNT") [] Exactly Nothing Int64)
row_at sig.Count = Some (entry sig.Count (codes "COUNT") (Any ∷ []) Exactly Nothing Int64)
row_at sig.CountIf = Some (entry sig.CountIf (codes "COUNTIF") (Bool ∷ []) Exactly Nothing Int64)
row_at sig.SumInt64 = Some (entry sig.SumInt64 (codes "SUM") (Int64 ∷ []) Exactly Nothing Int64)
row_at sig.SumUint64 = Some (entry sig.SumUint64 (codes "SUM") (Uint64 ∷ []) Exactly Nothing Uint64)
row_at sig.Min = Some (entry sig.Min (codes "MIN") (Common ∷ []) Exactly Orderable Common)
row_at sig.Max = Some (entry sig.Max (codes "MAX") (Common ∷ []) Exactly Orderable Common)
row_at sig.LogicalAnd = Some (entry sig.LogicalAnd (codes "LOGICAL_AND") (Bool ∷ []) Exactly Nothing Bool)
row_at sig.LogicalOr = Some (entry sig.LogicalOr (codes "LOGICAL_OR") (Bool ∷ []) Exactly Nothing Bool)
row_at sig.StringAgg = Some (entry sig.StringAgg (codes "STRING_AGG") (String ∷ String ∷ []) LastOptional Nothing String)
row_at sig.ArrayAgg = Some (entry sig.ArrayAgg (codes "ARRAY_AGG") (Element ∷ []) Exactly NoArray ArrayOfElement)
row_at sig.AnyValue = Some (entry sig.AnyValue (codes "ANY_VALUE") (Common ∷ []) Exactly Nothing Common)
row_at _ = None

abbrev Found : Signature → Type 0
Found row = row_at row.sig ≡ Some row

each_function : Each Found functions
each_function =
    (refl, (refl, (refl, (refl, (refl, (refl, (refl, (refl, (refl, (refl, (refl, (refl, (refl, (refl, (refl, (refl, (refl, (refl, (refl, (refl, (refl, (refl, (refl, (refl, (refl, (refl, (refl, (refl, (refl, (refl, (refl, (refl, (refl, (refl, (refl, (refl, (refl, (refl, (refl, (refl, (refl, (refl, (refl, (refl, (refl, (refl, (refl, (refl, (refl, (refl, (refl, (refl, (refl, (refl, (refl, (refl, (refl, (refl, (refl, (refl, (refl, (refl, (refl, (refl, (refl, (refl, (refl, (refl, (refl, (refl, (refl, (refl, (refl, (refl, (refl, (refl, (refl, (refl, (refl, (refl, (refl, (refl, (refl, (refl, (refl, (refl, (refl, (refl, (refl, (refl, (refl, (refl, (refl, (refl, (refl, (refl, (refl, (refl, (refl, (refl, (refl, (refl, (refl, (refl, (refl, tt)))))))))))))))))))))))))))))))))))))))))))))))))))))))))))))))))))))))))))))))))))))))))))))))))))))))))

each_aggregate : Each Found aggregates
each_aggregate =
    (refl, (refl, (refl, (refl, (refl, (refl, (refl, (refl, (refl, (refl, (refl, (refl, tt))))))))))))

each_found : Each Found signatures
each_found = each-both Found functions aggregates each_function each_aggregate

pub one_row : (row other : Signature) → Contains signatures row → Contains signatures other → row.sig ≡ other.sig → row ≡ other
one_row row other listed other_listed same =
    some-same row other (sym (each-listed Found signatures row each_found listed) ∙ ap row_at same ∙ each-listed Found signatures other each_found other_listed)
