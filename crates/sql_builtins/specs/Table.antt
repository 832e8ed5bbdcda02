-- The signature table: each function, operator and aggregate with what it takes and gives, a row a line. No call with a lambda
-- stands in it, since a lambda is no argument by whose type a row is chosen.
use Rattle.std.specs.Prelude.{ℕ, List, [], ◌∷◌, ◌++◌, codes}
use Rattle.sql_builtins.specs.declared.sig.SigId.{SigId}
use Rattle.sql_builtins.specs.declared.sig.SigId.TheVariants as sig
use Rattle.sql_builtins.specs.declared.table.Slot.{Slot}
use Rattle.sql_builtins.specs.declared.table.Slot.TheVariants.{Bool, Int64, Uint64, String, Bytes, Date, Texts, Numbers, Common, Element, ArrayOfElement, Any}
use Rattle.sql_builtins.specs.declared.table.Repeats.{Repeats}
use Rattle.sql_builtins.specs.declared.table.Repeats.TheVariants.{Exactly, LastOptional, LastRepeats}
use Rattle.sql_builtins.specs.declared.table.Needs.{Needs}
use Rattle.sql_builtins.specs.declared.table.Needs.TheVariants.{Nothing, Comparable, Orderable, NoArray}

-- a row: its name as it is written, an operator's being its sign or its words
pub record Signature : Type 0 where
  pub sig : SigId
  pub name : List ℕ
  pub takes : List Slot
  pub repeats : Repeats
  pub needs : Needs
  pub gives : Slot

abbrev pub entry : SigId → List ℕ → List Slot → Repeats → Needs → Slot → Signature
entry sig name takes repeats needs gives = record { sig = sig; name = name; takes = takes; repeats = repeats; needs = needs; gives = gives }

-- functions and operators
abbrev pub functions : List Signature
functions =
    entry sig.AddInt64 (codes "+") (Int64 ∷ Int64 ∷ []) Exactly Nothing Int64 ∷
    entry sig.AddUint64 (codes "+") (Uint64 ∷ Uint64 ∷ []) Exactly Nothing Uint64 ∷
    entry sig.MultiplyInt64 (codes "*") (Int64 ∷ Int64 ∷ []) Exactly Nothing Int64 ∷
    entry sig.MultiplyUint64 (codes "*") (Uint64 ∷ Uint64 ∷ []) Exactly Nothing Uint64 ∷
    entry sig.SubtractInt64 (codes "-") (Int64 ∷ Int64 ∷ []) Exactly Nothing Int64 ∷
    entry sig.SubtractUint64 (codes "-") (Uint64 ∷ Uint64 ∷ []) Exactly Nothing Int64 ∷
    entry sig.Negate (codes "-") (Int64 ∷ []) Exactly Nothing Int64 ∷
    entry sig.PlusInt64 (codes "+") (Int64 ∷ []) Exactly Nothing Int64 ∷
    entry sig.PlusUint64 (codes "+") (Uint64 ∷ []) Exactly Nothing Uint64 ∷
    entry sig.FlipInt64 (codes "~") (Int64 ∷ []) Exactly Nothing Int64 ∷
    entry sig.FlipUint64 (codes "~") (Uint64 ∷ []) Exactly Nothing Uint64 ∷
    entry sig.BitAndInt64 (codes "&") (Int64 ∷ Int64 ∷ []) Exactly Nothing Int64 ∷
    entry sig.BitAndUint64 (codes "&") (Uint64 ∷ Uint64 ∷ []) Exactly Nothing Uint64 ∷
    entry sig.BitXorInt64 (codes "^") (Int64 ∷ Int64 ∷ []) Exactly Nothing Int64 ∷
    entry sig.BitXorUint64 (codes "^") (Uint64 ∷ Uint64 ∷ []) Exactly Nothing Uint64 ∷
    entry sig.BitOrInt64 (codes "|") (Int64 ∷ Int64 ∷ []) Exactly Nothing Int64 ∷
    entry sig.BitOrUint64 (codes "|") (Uint64 ∷ Uint64 ∷ []) Exactly Nothing Uint64 ∷
    entry sig.ShiftLeftInt64 (codes "<<") (Int64 ∷ Int64 ∷ []) Exactly Nothing Int64 ∷
    entry sig.ShiftLeftUint64 (codes "<<") (Uint64 ∷ Int64 ∷ []) Exactly Nothing Uint64 ∷
    entry sig.ShiftRightInt64 (codes ">>") (Int64 ∷ Int64 ∷ []) Exactly Nothing Int64 ∷
    entry sig.ShiftRightUint64 (codes ">>") (Uint64 ∷ Int64 ∷ []) Exactly Nothing Uint64 ∷
    entry sig.JoinString (codes "||") (String ∷ String ∷ []) Exactly Nothing String ∷
    entry sig.JoinBytes (codes "||") (Bytes ∷ Bytes ∷ []) Exactly Nothing Bytes ∷
    entry sig.JoinArray (codes "||") (ArrayOfElement ∷ ArrayOfElement ∷ []) Exactly Nothing ArrayOfElement ∷
    entry sig.Equal (codes "=") (Common ∷ Common ∷ []) Exactly Comparable Bool ∷
    entry sig.NotEqual (codes "!=") (Common ∷ Common ∷ []) Exactly Comparable Bool ∷
    entry sig.Less (codes "<") (Common ∷ Common ∷ []) Exactly Orderable Bool ∷
    entry sig.LessEqual (codes "<=") (Common ∷ Common ∷ []) Exactly Orderable Bool ∷
    entry sig.Greater (codes ">") (Common ∷ Common ∷ []) Exactly Orderable Bool ∷
    entry sig.GreaterEqual (codes ">=") (Common ∷ Common ∷ []) Exactly Orderable Bool ∷
    entry sig.LikeString (codes "LIKE") (String ∷ String ∷ []) Exactly Nothing Bool ∷
    entry sig.LikeBytes (codes "LIKE") (Bytes ∷ Bytes ∷ []) Exactly Nothing Bool ∷
    entry sig.Not (codes "NOT") (Bool ∷ []) Exactly Nothing Bool ∷
    entry sig.And (codes "AND") (Bool ∷ Bool ∷ []) Exactly Nothing Bool ∷
    entry sig.Or (codes "OR") (Bool ∷ Bool ∷ []) Exactly Nothing Bool ∷
    entry sig.Between (codes "BETWEEN") (Common ∷ Common ∷ Common ∷ []) Exactly Orderable Bool ∷
    entry sig.IsNull (codes "IS NULL") (Any ∷ []) Exactly Nothing Bool ∷
    entry sig.IsTrue (codes "IS TRUE") (Bool ∷ []) Exactly Nothing Bool ∷
    entry sig.IsFalse (codes "IS FALSE") (Bool ∷ []) Exactly Nothing Bool ∷
    entry sig.IsDistinct (codes "IS DISTINCT FROM") (Common ∷ Common ∷ []) Exactly Comparable Bool ∷
    entry sig.If (codes "IF") (Bool ∷ Common ∷ Common ∷ []) Exactly Nothing Common ∷
    entry sig.IfNull (codes "IFNULL") (Common ∷ Common ∷ []) Exactly Nothing Common ∷
    entry sig.Coalesce (codes "COALESCE") (Common ∷ []) LastRepeats Nothing Common ∷
    entry sig.NullIf (codes "NULLIF") (Common ∷ Common ∷ []) Exactly Comparable Common ∷
    entry sig.Error (codes "ERROR") (String ∷ []) Exactly Nothing Int64 ∷
    entry sig.IfError (codes "IFERROR") (Common ∷ Common ∷ []) Exactly Nothing Common ∷
    entry sig.NullIfError (codes "NULLIFERROR") (Common ∷ []) Exactly Nothing Common ∷
    entry sig.IsError (codes "ISERROR") (Any ∷ []) Exactly Nothing Bool ∷
    entry sig.Abs (codes "ABS") (Int64 ∷ []) Exactly Nothing Int64 ∷
    entry sig.Sign (codes "SIGN") (Int64 ∷ []) Exactly Nothing Int64 ∷
    entry sig.DivInt64 (codes "DIV") (Int64 ∷ Int64 ∷ []) Exactly Nothing Int64 ∷
    entry sig.DivUint64 (codes "DIV") (Uint64 ∷ Uint64 ∷ []) Exactly Nothing Uint64 ∷
    entry sig.ModInt64 (codes "MOD") (Int64 ∷ Int64 ∷ []) Exactly Nothing Int64 ∷
    entry sig.ModUint64 (codes "MOD") (Uint64 ∷ Uint64 ∷ []) Exactly Nothing Uint64 ∷
    entry sig.Greatest (codes "GREATEST") (Common ∷ []) LastRepeats Orderable Common ∷
    entry sig.Least (codes "LEAST") (Common ∷ []) LastRepeats Orderable Common ∷
    entry sig.SafeAddInt64 (codes "SAFE_ADD") (Int64 ∷ Int64 ∷ []) Exactly Nothing Int64 ∷
    entry sig.SafeAddUint64 (codes "SAFE_ADD") (Uint64 ∷ Uint64 ∷ []) Exactly Nothing Uint64 ∷
    entry sig.SafeSubtractInt64 (codes "SAFE_SUBTRACT") (Int64 ∷ Int64 ∷ []) Exactly Nothing Int64 ∷
    entry sig.SafeSubtractUint64 (codes "SAFE_SUBTRACT") (Uint64 ∷ Uint64 ∷ []) Exactly Nothing Int64 ∷
    entry sig.SafeMultiplyInt64 (codes "SAFE_MULTIPLY") (Int64 ∷ Int64 ∷ []) Exactly Nothing Int64 ∷
    entry sig.SafeMultiplyUint64 (codes "SAFE_MULTIPLY") (Uint64 ∷ Uint64 ∷ []) Exactly Nothing Uint64 ∷
    entry sig.LengthString (codes "LENGTH") (String ∷ []) Exactly Nothing Int64 ∷
    entry sig.LengthBytes (codes "LENGTH") (Bytes ∷ []) Exactly Nothing Int64 ∷
    entry sig.ByteLengthString (codes "BYTE_LENGTH") (String ∷ []) Exactly Nothing Int64 ∷
    entry sig.ByteLengthBytes (codes "BYTE_LENGTH") (Bytes ∷ []) Exactly Nothing Int64 ∷
    entry sig.CharLength (codes "CHAR_LENGTH") (String ∷ []) Exactly Nothing Int64 ∷
    entry sig.ConcatString (codes "CONCAT") (String ∷ []) LastRepeats Nothing String ∷
    entry sig.ConcatBytes (codes "CONCAT") (Bytes ∷ []) LastRepeats Nothing Bytes ∷
    entry sig.SubstrString (codes "SUBSTR") (String ∷ Int64 ∷ Int64 ∷ []) LastOptional Nothing String ∷
    entry sig.SubstrBytes (codes "SUBSTR") (Bytes ∷ Int64 ∷ Int64 ∷ []) LastOptional Nothing Bytes ∷
    entry sig.StartsWithString (codes "STARTS_WITH") (String ∷ String ∷ []) Exactly Nothing Bool ∷
    entry sig.StartsWithBytes (codes "STARTS_WITH") (Bytes ∷ Bytes ∷ []) Exactly Nothing Bool ∷
    entry sig.EndsWithString (codes "ENDS_WITH") (String ∷ String ∷ []) Exactly Nothing Bool ∷
    entry sig.EndsWithBytes (codes "ENDS_WITH") (Bytes ∷ Bytes ∷ []) Exactly Nothing Bool ∷
    entry sig.StrposString (codes "STRPOS") (String ∷ String ∷ []) Exactly Nothing Int64 ∷
    entry sig.StrposBytes (codes "STRPOS") (Bytes ∷ Bytes ∷ []) Exactly Nothing Int64 ∷
    entry sig.ReplaceString (codes "REPLACE") (String ∷ String ∷ String ∷ []) Exactly Nothing String ∷
    entry sig.ReplaceBytes (codes "REPLACE") (Bytes ∷ Bytes ∷ Bytes ∷ []) Exactly Nothing Bytes ∷
    entry sig.RepeatString (codes "REPEAT") (String ∷ Int64 ∷ []) Exactly Nothing String ∷
    entry sig.RepeatBytes (codes "REPEAT") (Bytes ∷ Int64 ∷ []) Exactly Nothing Bytes ∷
    entry sig.ReverseString (codes "REVERSE") (String ∷ []) Exactly Nothing String ∷
    entry sig.ReverseBytes (codes "REVERSE") (Bytes ∷ []) Exactly Nothing Bytes ∷
    entry sig.Trim (codes "TRIM") (String ∷ String ∷ []) LastOptional Nothing String ∷
    entry sig.LeftTrim (codes "LTRIM") (String ∷ String ∷ []) LastOptional Nothing String ∷
    entry sig.RightTrim (codes "RTRIM") (String ∷ String ∷ []) LastOptional Nothing String ∷
    entry sig.Split (codes "SPLIT") (String ∷ String ∷ []) Exactly Nothing Texts ∷
    entry sig.ToHex (codes "TO_HEX") (Bytes ∷ []) Exactly Nothing String ∷
    entry sig.FromHex (codes "FROM_HEX") (String ∷ []) Exactly Nothing Bytes ∷
    entry sig.ArrayLength (codes "ARRAY_LENGTH") (ArrayOfElement ∷ []) Exactly Nothing Int64 ∷
    entry sig.ArrayReverse (codes "ARRAY_REVERSE") (ArrayOfElement ∷ []) Exactly Nothing ArrayOfElement ∷
    entry sig.ArrayConcat (codes "ARRAY_CONCAT") (ArrayOfElement ∷ []) LastRepeats Nothing ArrayOfElement ∷
    entry sig.ArrayFirst (codes "ARRAY_FIRST") (ArrayOfElement ∷ []) Exactly Nothing Element ∷
    entry sig.ArrayLast (codes "ARRAY_LAST") (ArrayOfElement ∷ []) Exactly Nothing Element ∷
    entry sig.ArrayToString (codes "ARRAY_TO_STRING") (Texts ∷ String ∷ String ∷ []) LastOptional Nothing String ∷
    entry sig.ArrayIncludes (codes "ARRAY_INCLUDES") (ArrayOfElement ∷ Element ∷ []) Exactly Comparable Bool ∷
    entry sig.GenerateArray (codes "GENERATE_ARRAY") (Int64 ∷ Int64 ∷ Int64 ∷ []) LastOptional Nothing Numbers ∷
    entry sig.Date (codes "DATE") (Int64 ∷ Int64 ∷ Int64 ∷ []) Exactly Nothing Date ∷
    entry sig.DateAdd (codes "DATE_ADD") (Date ∷ Int64 ∷ String ∷ []) Exactly Nothing Date ∷
    entry sig.DateSub (codes "DATE_SUB") (Date ∷ Int64 ∷ String ∷ []) Exactly Nothing Date ∷
    entry sig.DateDiff (codes "DATE_DIFF") (Date ∷ Date ∷ String ∷ []) Exactly Nothing Int64 ∷
    entry sig.DateTrunc (codes "DATE_TRUNC") (Date ∷ String ∷ []) Exactly Nothing Date ∷
    entry sig.Extract (codes "EXTRACT") (String ∷ Date ∷ []) Exactly Nothing Int64 ∷
    entry sig.UnixDate (codes "UNIX_DATE") (Date ∷ []) Exactly Nothing Int64 ∷
    entry sig.DateFromUnixDate (codes "DATE_FROM_UNIX_DATE") (Int64 ∷ []) Exactly Nothing Date ∷
    []

-- Aggregates. COUNT(*) has no argument. What ARRAY_AGG takes is no array.
abbrev pub aggregates : List Signature
aggregates =
    entry sig.CountRows (codes "COUNT") [] Exactly Nothing Int64 ∷
    entry sig.Count (codes "COUNT") (Any ∷ []) Exactly Nothing Int64 ∷
    entry sig.CountIf (codes "COUNTIF") (Bool ∷ []) Exactly Nothing Int64 ∷
    entry sig.SumInt64 (codes "SUM") (Int64 ∷ []) Exactly Nothing Int64 ∷
    entry sig.SumUint64 (codes "SUM") (Uint64 ∷ []) Exactly Nothing Uint64 ∷
    entry sig.Min (codes "MIN") (Common ∷ []) Exactly Orderable Common ∷
    entry sig.Max (codes "MAX") (Common ∷ []) Exactly Orderable Common ∷
    entry sig.LogicalAnd (codes "LOGICAL_AND") (Bool ∷ []) Exactly Nothing Bool ∷
    entry sig.LogicalOr (codes "LOGICAL_OR") (Bool ∷ []) Exactly Nothing Bool ∷
    entry sig.StringAgg (codes "STRING_AGG") (String ∷ String ∷ []) LastOptional Nothing String ∷
    entry sig.ArrayAgg (codes "ARRAY_AGG") (Element ∷ []) Exactly NoArray ArrayOfElement ∷
    entry sig.AnyValue (codes "ANY_VALUE") (Common ∷ []) Exactly Nothing Common ∷
    []

abbrev pub signatures : List Signature
signatures = functions ++ aggregates
