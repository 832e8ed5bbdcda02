-- A call's signature is told by its name and the type of its first argument: of signatures that share a name each takes
-- another type there.
use Rattle.std.proofs.Common.{◌≡◌, ℕ, ◌==◌, true, if◌then◌else◌, List, map, codes, refl, ap, ◌∙◌}
use Rattle.std.specs.List.{list_all}
use Rattle.std.specs.Str.{bytes_eq}
use Rattle.std.proofs.lemmas.Bool.{false≢true}
use Rattle.sql_names.specs.Spelling.{is_inner}
use Rattle.sql_types.specs.declared.sql_type.SqlType.{SqlType}
use Rattle.sql_builtins.specs.declared.sig.SigId.{SigId}
use Rattle.sql_builtins.specs.declared.sig.SigId.TheVariants as sig
use Rattle.resolved_ast.specs.declared.rex.Rex.{Rex}
use Rattle.resolved_ast.specs.Columns.{rex_type}
use Rattle.resolved_ast.specs.SignatureNames.{signature_name}
use Rattle.resolved_ast.specs.Signatures.{call_row, row_typed, row_shaped}
use Rattle.tree_texts.proofs.FirstTypes.{first_class, row_class, decides, led}

-- of several, by the first argument
abbrev of_two : ℕ → SigId → SigId → SigId
of_two n first second = if n == 0 then first else second

abbrev of_three : ℕ → SigId → SigId → SigId → SigId
of_three n first second third = if n == 0 then first else if n == 1 then second else third

-- the signature of a call, by the name and the first argument's type
abbrev told_by : List ℕ → ℕ → SigId
told_by name n =
    if bytes_eq name (codes "add") then of_two n sig.AddInt64 sig.AddUint64 else if bytes_eq name (codes "mul") then of_two n sig.MultiplyInt64 sig.MultiplyUint64 else
    if bytes_eq name (codes "sub") then of_two n sig.SubtractInt64 sig.SubtractUint64 else if bytes_eq name (codes "neg") then sig.Negate else
    if bytes_eq name (codes "pos") then of_two n sig.PlusInt64 sig.PlusUint64 else if bytes_eq name (codes "flip") then of_two n sig.FlipInt64 sig.FlipUint64 else
    if bytes_eq name (codes "bitand") then of_two n sig.BitAndInt64 sig.BitAndUint64 else if bytes_eq name (codes "bitxor") then of_two n sig.BitXorInt64 sig.BitXorUint64 else
    if bytes_eq name (codes "bitor") then of_two n sig.BitOrInt64 sig.BitOrUint64 else if bytes_eq name (codes "shl") then of_two n sig.ShiftLeftInt64 sig.ShiftLeftUint64 else
    if bytes_eq name (codes "shr") then of_two n sig.ShiftRightInt64 sig.ShiftRightUint64 else if bytes_eq name (codes "join") then of_three n sig.JoinString sig.JoinBytes sig.JoinArray else
    if bytes_eq name (codes "eq") then sig.Equal else if bytes_eq name (codes "ne") then sig.NotEqual else
    if bytes_eq name (codes "lt") then sig.Less else if bytes_eq name (codes "le") then sig.LessEqual else
    if bytes_eq name (codes "gt") then sig.Greater else if bytes_eq name (codes "ge") then sig.GreaterEqual else
    if bytes_eq name (codes "like") then of_two n sig.LikeString sig.LikeBytes else if bytes_eq name (codes "not") then sig.Not else
    if bytes_eq name (codes "and") then sig.And else if bytes_eq name (codes "or") then sig.Or else
    if bytes_eq name (codes "between") then sig.Between else if bytes_eq name (codes "is_null") then sig.IsNull else
    if bytes_eq name (codes "is_true") then sig.IsTrue else if bytes_eq name (codes "is_false") then sig.IsFalse else
    if bytes_eq name (codes "distinct") then sig.IsDistinct else if bytes_eq name (codes "if") then sig.If else
    if bytes_eq name (codes "ifnull") then sig.IfNull else if bytes_eq name (codes "coalesce") then sig.Coalesce else
    if bytes_eq name (codes "nullif") then sig.NullIf else if bytes_eq name (codes "error") then sig.Error else
    if bytes_eq name (codes "iferror") then sig.IfError else if bytes_eq name (codes "nulliferror") then sig.NullIfError else
    if bytes_eq name (codes "iserror") then sig.IsError else if bytes_eq name (codes "abs") then sig.Abs else
    if bytes_eq name (codes "sign") then sig.Sign else if bytes_eq name (codes "div") then of_two n sig.DivInt64 sig.DivUint64 else
    if bytes_eq name (codes "mod") then of_two n sig.ModInt64 sig.ModUint64 else if bytes_eq name (codes "greatest") then sig.Greatest else
    if bytes_eq name (codes "least") then sig.Least else if bytes_eq name (codes "safe_add") then of_two n sig.SafeAddInt64 sig.SafeAddUint64 else
    if bytes_eq name (codes "safe_subtract") then of_two n sig.SafeSubtractInt64 sig.SafeSubtractUint64 else if bytes_eq name (codes "safe_multiply") then of_two n sig.SafeMultiplyInt64 sig.SafeMultiplyUint64 else
    if bytes_eq name (codes "length") then of_two n sig.LengthString sig.LengthBytes else if bytes_eq name (codes "byte_length") then of_two n sig.ByteLengthString sig.ByteLengthBytes else
    if bytes_eq name (codes "char_length") then sig.CharLength else if bytes_eq name (codes "concat") then of_two n sig.ConcatString sig.ConcatBytes else
    if bytes_eq name (codes "substr") then of_two n sig.SubstrString sig.SubstrBytes else if bytes_eq name (codes "starts_with") then of_two n sig.StartsWithString sig.StartsWithBytes else
    if bytes_eq name (codes "ends_with") then of_two n sig.EndsWithString sig.EndsWithBytes else if bytes_eq name (codes "strpos") then of_two n sig.StrposString sig.StrposBytes else
    if bytes_eq name (codes "replace") then of_two n sig.ReplaceString sig.ReplaceBytes else if bytes_eq name (codes "repeat") then of_two n sig.RepeatString sig.RepeatBytes else
    if bytes_eq name (codes "reverse") then of_two n sig.ReverseString sig.ReverseBytes else if bytes_eq name (codes "trim") then sig.Trim else
    if bytes_eq name (codes "ltrim") then sig.LeftTrim else if bytes_eq name (codes "rtrim") then sig.RightTrim else
    if bytes_eq name (codes "split") then sig.Split else if bytes_eq name (codes "to_hex") then sig.ToHex else
    if bytes_eq name (codes "from_hex") then sig.FromHex else if bytes_eq name (codes "array_length") then sig.ArrayLength else
    if bytes_eq name (codes "array_reverse") then sig.ArrayReverse else if bytes_eq name (codes "array_concat") then sig.ArrayConcat else
    if bytes_eq name (codes "array_first") then sig.ArrayFirst else if bytes_eq name (codes "array_last") then sig.ArrayLast else
    if bytes_eq name (codes "array_to_string") then sig.ArrayToString else if bytes_eq name (codes "array_includes") then sig.ArrayIncludes else
    if bytes_eq name (codes "generate_array") then sig.GenerateArray else if bytes_eq name (codes "date") then sig.Date else
    if bytes_eq name (codes "date_add") then sig.DateAdd else if bytes_eq name (codes "date_sub") then sig.DateSub else
    if bytes_eq name (codes "date_diff") then sig.DateDiff else if bytes_eq name (codes "date_trunc") then sig.DateTrunc else
    if bytes_eq name (codes "extract") then sig.Extract else if bytes_eq name (codes "unix_date") then sig.UnixDate else
    if bytes_eq name (codes "date_from_unix_date") then sig.DateFromUnixDate else
    sig.Not

abbrev pub signature_told : List ℕ → List SqlType → SigId
signature_told name types = told_by name (first_class types)

-- a signature whose row begins with a type of its own
by_first : (s : SigId) (xs : List Rex) (gives : SqlType) → decides (call_row s) ≡ true → told_by (signature_name s) (row_class (call_row s)) ≡ s
    → row_typed (call_row s) (map rex_type xs) gives ≡ true → row_shaped (call_row s) xs ≡ true → signature_told (signature_name s) (map rex_type xs) ≡ s
by_first s xs gives first told typed shaped = ap (told_by (signature_name s)) (led (call_row s) xs gives first typed shaped) ∙ told

-- the signature of a call that is in order
pub signature_once : (s : SigId) (xs : List Rex) (gives : SqlType) → row_typed (call_row s) (map rex_type xs) gives ≡ true → row_shaped (call_row s) xs ≡ true
    → signature_told (signature_name s) (map rex_type xs) ≡ s
signature_once sig.AddInt64 xs gives typed shaped = by_first sig.AddInt64 xs gives refl refl typed shaped
signature_once sig.AddUint64 xs gives typed shaped = by_first sig.AddUint64 xs gives refl refl typed shaped
signature_once sig.MultiplyInt64 xs gives typed shaped = by_first sig.MultiplyInt64 xs gives refl refl typed shaped
signature_once sig.MultiplyUint64 xs gives typed shaped = by_first sig.MultiplyUint64 xs gives refl refl typed shaped
signature_once sig.SubtractInt64 xs gives typed shaped = by_first sig.SubtractInt64 xs gives refl refl typed shaped
signature_once sig.SubtractUint64 xs gives typed shaped = by_first sig.SubtractUint64 xs gives refl refl typed shaped
signature_once sig.PlusInt64 xs gives typed shaped = by_first sig.PlusInt64 xs gives refl refl typed shaped
signature_once sig.PlusUint64 xs gives typed shaped = by_first sig.PlusUint64 xs gives refl refl typed shaped
signature_once sig.FlipInt64 xs gives typed shaped = by_first sig.FlipInt64 xs gives refl refl typed shaped
signature_once sig.FlipUint64 xs gives typed shaped = by_first sig.FlipUint64 xs gives refl refl typed shaped
signature_once sig.BitAndInt64 xs gives typed shaped = by_first sig.BitAndInt64 xs gives refl refl typed shaped
signature_once sig.BitAndUint64 xs gives typed shaped = by_first sig.BitAndUint64 xs gives refl refl typed shaped
signature_once sig.BitXorInt64 xs gives typed shaped = by_first sig.BitXorInt64 xs gives refl refl typed shaped
signature_once sig.BitXorUint64 xs gives typed shaped = by_first sig.BitXorUint64 xs gives refl refl typed shaped
signature_once sig.BitOrInt64 xs gives typed shaped = by_first sig.BitOrInt64 xs gives refl refl typed shaped
signature_once sig.BitOrUint64 xs gives typed shaped = by_first sig.BitOrUint64 xs gives refl refl typed shaped
signature_once sig.ShiftLeftInt64 xs gives typed shaped = by_first sig.ShiftLeftInt64 xs gives refl refl typed shaped
signature_once sig.ShiftLeftUint64 xs gives typed shaped = by_first sig.ShiftLeftUint64 xs gives refl refl typed shaped
signature_once sig.ShiftRightInt64 xs gives typed shaped = by_first sig.ShiftRightInt64 xs gives refl refl typed shaped
signature_once sig.ShiftRightUint64 xs gives typed shaped = by_first sig.ShiftRightUint64 xs gives refl refl typed shaped
signature_once sig.JoinString xs gives typed shaped = by_first sig.JoinString xs gives refl refl typed shaped
signature_once sig.JoinBytes xs gives typed shaped = by_first sig.JoinBytes xs gives refl refl typed shaped
signature_once sig.JoinArray xs gives typed shaped = by_first sig.JoinArray xs gives refl refl typed shaped
signature_once sig.LikeString xs gives typed shaped = by_first sig.LikeString xs gives refl refl typed shaped
signature_once sig.LikeBytes xs gives typed shaped = by_first sig.LikeBytes xs gives refl refl typed shaped
signature_once sig.DivInt64 xs gives typed shaped = by_first sig.DivInt64 xs gives refl refl typed shaped
signature_once sig.DivUint64 xs gives typed shaped = by_first sig.DivUint64 xs gives refl refl typed shaped
signature_once sig.ModInt64 xs gives typed shaped = by_first sig.ModInt64 xs gives refl refl typed shaped
signature_once sig.ModUint64 xs gives typed shaped = by_first sig.ModUint64 xs gives refl refl typed shaped
signature_once sig.SafeAddInt64 xs gives typed shaped = by_first sig.SafeAddInt64 xs gives refl refl typed shaped
signature_once sig.SafeAddUint64 xs gives typed shaped = by_first sig.SafeAddUint64 xs gives refl refl typed shaped
signature_once sig.SafeSubtractInt64 xs gives typed shaped = by_first sig.SafeSubtractInt64 xs gives refl refl typed shaped
signature_once sig.SafeSubtractUint64 xs gives typed shaped = by_first sig.SafeSubtractUint64 xs gives refl refl typed shaped
signature_once sig.SafeMultiplyInt64 xs gives typed shaped = by_first sig.SafeMultiplyInt64 xs gives refl refl typed shaped
signature_once sig.SafeMultiplyUint64 xs gives typed shaped = by_first sig.SafeMultiplyUint64 xs gives refl refl typed shaped
signature_once sig.LengthString xs gives typed shaped = by_first sig.LengthString xs gives refl refl typed shaped
signature_once sig.LengthBytes xs gives typed shaped = by_first sig.LengthBytes xs gives refl refl typed shaped
signature_once sig.ByteLengthString xs gives typed shaped = by_first sig.ByteLengthString xs gives refl refl typed shaped
signature_once sig.ByteLengthBytes xs gives typed shaped = by_first sig.ByteLengthBytes xs gives refl refl typed shaped
signature_once sig.ConcatString xs gives typed shaped = by_first sig.ConcatString xs gives refl refl typed shaped
signature_once sig.ConcatBytes xs gives typed shaped = by_first sig.ConcatBytes xs gives refl refl typed shaped
signature_once sig.SubstrString xs gives typed shaped = by_first sig.SubstrString xs gives refl refl typed shaped
signature_once sig.SubstrBytes xs gives typed shaped = by_first sig.SubstrBytes xs gives refl refl typed shaped
signature_once sig.StartsWithString xs gives typed shaped = by_first sig.StartsWithString xs gives refl refl typed shaped
signature_once sig.StartsWithBytes xs gives typed shaped = by_first sig.StartsWithBytes xs gives refl refl typed shaped
signature_once sig.EndsWithString xs gives typed shaped = by_first sig.EndsWithString xs gives refl refl typed shaped
signature_once sig.EndsWithBytes xs gives typed shaped = by_first sig.EndsWithBytes xs gives refl refl typed shaped
signature_once sig.StrposString xs gives typed shaped = by_first sig.StrposString xs gives refl refl typed shaped
signature_once sig.StrposBytes xs gives typed shaped = by_first sig.StrposBytes xs gives refl refl typed shaped
signature_once sig.ReplaceString xs gives typed shaped = by_first sig.ReplaceString xs gives refl refl typed shaped
signature_once sig.ReplaceBytes xs gives typed shaped = by_first sig.ReplaceBytes xs gives refl refl typed shaped
signature_once sig.RepeatString xs gives typed shaped = by_first sig.RepeatString xs gives refl refl typed shaped
signature_once sig.RepeatBytes xs gives typed shaped = by_first sig.RepeatBytes xs gives refl refl typed shaped
signature_once sig.ReverseString xs gives typed shaped = by_first sig.ReverseString xs gives refl refl typed shaped
signature_once sig.ReverseBytes xs gives typed shaped = by_first sig.ReverseBytes xs gives refl refl typed shaped
signature_once sig.CountRows xs gives typed shaped = absurd (false≢true typed)
signature_once sig.Count xs gives typed shaped = absurd (false≢true typed)
signature_once sig.CountIf xs gives typed shaped = absurd (false≢true typed)
signature_once sig.SumInt64 xs gives typed shaped = absurd (false≢true typed)
signature_once sig.SumUint64 xs gives typed shaped = absurd (false≢true typed)
signature_once sig.Min xs gives typed shaped = absurd (false≢true typed)
signature_once sig.Max xs gives typed shaped = absurd (false≢true typed)
signature_once sig.LogicalAnd xs gives typed shaped = absurd (false≢true typed)
signature_once sig.LogicalOr xs gives typed shaped = absurd (false≢true typed)
signature_once sig.StringAgg xs gives typed shaped = absurd (false≢true typed)
signature_once sig.ArrayAgg xs gives typed shaped = absurd (false≢true typed)
signature_once sig.AnyValue xs gives typed shaped = absurd (false≢true typed)
signature_once sig.ArrayIncludesLambda xs gives typed shaped = absurd (false≢true typed)
signature_once sig.ArrayFilter xs gives typed shaped = absurd (false≢true typed)
signature_once sig.ArrayTransform xs gives typed shaped = absurd (false≢true typed)
signature_once _ xs gives typed shaped = refl

pub signature_run : (s : SigId) → list_all is_inner (signature_name s) ≡ true
signature_run sig.Not = refl
signature_run _ = refl
