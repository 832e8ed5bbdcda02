-- What a cast of a value without fields gives fits its type.
use Rattle.std.proofs.Common.{◌≡◌, ℕ, ◌≤◌, Bool, true, false, List, Option, Some, None, if◌then◌else◌, refl, ◌∙◌, arith}
use Rattle.std.specs.Prelude.{ℤ, pos, negsuc, Ok, option_map, option_and_then, nat_lt, IfSome}
use Rattle.std.proofs.lemmas.Grind.{common_steps}
use Rattle.std.specs.Str.{is_utf8}
use Rattle.std.specs.Fmt.{signed_decimal}
use Rattle.std.proofs.lemmas.Str.{is_utf8-from_IsUtf8}
use Rattle.sql_types.specs.Outcome.{Outcome}
use Rattle.sql_types.specs.Fits.{within, is_day}
use Rattle.sql_types.specs.Calendar.{read_date, date_text}
use Rattle.sql_types.proofs.DateTextLaws.{read_date-fits, utf8-date_text}
use Rattle.sql_types.proofs.ValueOpens.{fits_at}
use Rattle.sql_types.specs.declared.sql_type.SqlType.{SqlType}
use Rattle.sql_types.specs.declared.sql_type.SqlType.TheOpen as t
use Rattle.sql_types.specs.declared.value.Value.{Value, out-Value}
use Rattle.sql_types.specs.declared.value.Value.TheOpen as v
use Rattle.sql_types.specs.declared.value.Value.TheVariants as value
use Rattle.sql_coerce.specs.Numerals.{integer}
use Rattle.sql_coerce.specs.Casts.{or_cast_fault, signed_value, unsigned_value, integer_value, number_of_truth, truth_of_number, truth_text, truth_of_text, text_of_bytes, cast_bool, cast_integer, cast_text, cast_bytes, cast_date, plain_cast}
use Rattle.sql_coerce.proofs.ByteLaws.{utf8_bytes, utf8_number, utf8_truth}
use Rattle.sql_coerce.proofs.CastLevels.{castable_at}
use Rattle.sql_coerce.proofs.FitLaws.{null_fits, array_fits}

-- the value fits the type
abbrev Good : t.SqlType-F SqlType → Value → Type 0
Good m y = fits_at m (out-Value y) ≡ true

-- ---- integers

tested : {A : Type 0} (b : Bool) (x y : A) → (if b then Some x else None) ≡ Some y → (x ≡ y) × (b ≡ true)
tested true x y is = (let same : x ≡ y = cc in same, refl)
tested false x y is = cc

signed-good : (m : t.SqlType-F SqlType) (least greatest n : ℤ) (y : Value) → ((k : ℤ) → fits_at m (v.Int k) ≡ within least greatest k) → signed_value least greatest n ≡ Some y → Good m y
signed-good m least greatest n y fit is =
    let told = tested (within least greatest n) (value.Int n) y is in
    rw (← told.0, value.outs-Int n) (fit n ∙ told.1)

unsigned-good : (m : t.SqlType-F SqlType) (greatest n : ℤ) (y : Value) → ((k : ℕ) → within (pos 0) greatest (pos k) ≡ true → fits_at m (v.Uint k) ≡ true) → unsigned_value greatest n ≡ Some y → Good m y
unsigned-good m greatest (pos n) y fit is =
    let told = tested (within (pos 0) greatest (pos n)) (value.Uint n) y is in
    rw (← told.0, value.outs-Uint n) (fit n told.1)
unsigned-good m greatest (negsuc n) y fit is = cc

below-32 : (k : ℕ) → within (pos 0) (pos 4294967295) (pos k) ≡ true → nat_lt k 4294967296 ≡ true
below-32 k is = grind (arith, common_steps)

below-64 : (k : ℕ) → within (pos 0) (pos 18446744073709551615) (pos k) ≡ true → nat_lt k 18446744073709551616 ≡ true
below-64 k is = grind (arith, common_steps)

integer-good : (m : t.SqlType-F SqlType) (n : ℤ) (y : Value) → integer_value m n ≡ Some y → Good m y
integer-good t.Int32 n y is = signed-good t.Int32 (negsuc 2147483647) (pos 2147483647) n y (λ k. refl) is
integer-good t.Int64 n y is = signed-good t.Int64 (negsuc 9223372036854775807) (pos 9223372036854775807) n y (λ k. refl) is
integer-good t.Uint32 n y is = unsigned-good t.Uint32 (pos 4294967295) n y below-32 is
integer-good t.Uint64 n y is = unsigned-good t.Uint64 (pos 18446744073709551615) n y below-64 is
integer-good t.Bool n y is = cc
integer-good _ n y is = cc

-- ---- what isn't the fault

is-some : {A : Type 0} (o : Option A) (x : A) → or_cast_fault o ≡ Ok x → o ≡ Some x
is-some (Some z) x is = cc
is-some None x is = cc

abbrev ok : Value → Outcome Value
ok x = Ok x

ok-good : (m : t.SqlType-F SqlType) (x y : Value) → ok x ≡ Ok y → Good m x → Good m y
ok-good m x y is good = let same : x ≡ y = cc in rw (← same) good

mapped-good : {A : Type 0} (m : t.SqlType-F SqlType) (f : A → Value) (o : Option A) (y : Value) → ((a : A) → o ≡ Some a → Good m (f a)) → option_map f o ≡ Some y → Good m y
mapped-good m f (Some a) y good is = let same : f a ≡ y = cc in rw (← same) (good a refl)
mapped-good m f None y good is = cc

then-good : (m : t.SqlType-F SqlType) (o : Option ℤ) (y : Value) → option_and_then (integer_value m) o ≡ Some y → Good m y
then-good m (Some n) y is = integer-good m n y is
then-good m None y is = cc

-- ---- the rows of the table

bool-good : (b : Bool) → Good t.Bool (value.Bool b)
bool-good b = rw (value.outs-Bool b) refl

text-good : (text : List ℕ) → is_utf8 text ≡ true → Good t.Text (value.Text text)
text-good text utf8 = rw (value.outs-Text text) utf8

from-bool : (b : Bool) (m : t.SqlType-F SqlType) (y : Value) → cast_bool b m ≡ Ok y → Good m y
from-bool b t.Bool y is = ok-good t.Bool (value.Bool b) y is (bool-good b)
from-bool b t.Text y is = ok-good t.Text _ y is (text-good (truth_text b) (utf8_truth b))
from-bool b m y is = integer-good m (number_of_truth b) y (is-some (integer_value m (number_of_truth b)) y is)

from-integer : (n : ℤ) (m : t.SqlType-F SqlType) (y : Value) → within (negsuc 9223372036854775807) (pos 18446744073709551615) n ≡ true → cast_integer n m ≡ Ok y → Good m y
from-integer n t.Bool y wide is = ok-good t.Bool _ y is (bool-good (truth_of_number n))
from-integer n t.Text y wide is = ok-good t.Text _ y is (text-good (signed_decimal n) (utf8_number n wide))
from-integer n m y wide is = integer-good m n y (is-some (integer_value m n) y is)

bytes-good : (bytes : List ℕ) → fits_at t.Bytes (v.Bytes bytes) ≡ true → Good t.Bytes (value.Bytes bytes)
bytes-good bytes fit = rw (value.outs-Bytes bytes) fit

date-good : (day : ℤ) → is_day day ≡ true → Good t.Date (value.Date day)
date-good day fit = rw (value.outs-Date day) fit

read-good : (text : List ℕ) (day : ℤ) (o : Option ℤ) → IfSome o (λ d. is_day d ≡ true) → o ≡ Some day → is_day day ≡ true
read-good text day (Some d) fit is = let same : d ≡ day = cc in rw (← same) fit
read-good text day None fit is = cc

from-text : (text : List ℕ) (m : t.SqlType-F SqlType) (y : Value) → is_utf8 text ≡ true → cast_text text m ≡ Ok y → Good m y
from-text text t.Text y utf8 is = ok-good t.Text _ y is (text-good text utf8)
from-text text t.Bool y utf8 is = mapped-good t.Bool value.Bool (truth_of_text text) y (λ b at. bool-good b) (is-some (option_map value.Bool (truth_of_text text)) y is)
from-text text t.Bytes y utf8 is = ok-good t.Bytes _ y is (bytes-good text (utf8_bytes text utf8))
from-text text t.Date y utf8 is = mapped-good t.Date value.Date (read_date text) y (λ day at. date-good day (read-good text day (read_date text) (read_date-fits text) at)) (is-some (option_map value.Date (read_date text)) y is)
from-text text m y utf8 is = then-good m (integer text) y (is-some (option_and_then (integer_value m) (integer text)) y is)

utf8-of : (bytes text : List ℕ) → text_of_bytes bytes ≡ Some text → is_utf8 text ≡ true
utf8-of bytes text is = let told = tested (is_utf8 bytes) bytes text is in rw (← told.0) told.1

from-bytes : (bytes : List ℕ) (m : t.SqlType-F SqlType) (y : Value) → fits_at t.Bytes (v.Bytes bytes) ≡ true → cast_bytes bytes m ≡ Ok y → Good m y
from-bytes bytes t.Bytes y fit is = ok-good t.Bytes _ y is (bytes-good bytes fit)
from-bytes bytes t.Text y fit is = mapped-good t.Text value.Text (text_of_bytes bytes) y (λ text at. text-good text (utf8-of bytes text at)) (is-some (option_map value.Text (text_of_bytes bytes)) y is)
from-bytes bytes t.Bool y fit is = cc
from-bytes bytes _ y fit is = cc

from-date : (day : ℤ) (m : t.SqlType-F SqlType) (y : Value) → is_day day ≡ true → cast_date day m ≡ Ok y → Good m y
from-date day t.Date y fit is = ok-good t.Date _ y is (date-good day fit)
from-date day t.Text y fit is = ok-good t.Text _ y is (text-good (date_text day) (is_utf8-from_IsUtf8 (date_text day) (utf8-date_text day fit)))
from-date day t.Bool y fit is = cc
from-date day _ y fit is = cc

int-wide : (n : ℤ) → within (negsuc 2147483647) (pos 2147483647) n ≡ true → within (negsuc 9223372036854775807) (pos 18446744073709551615) n ≡ true
int-wide n fit = grind (arith, common_steps)

long-wide : (n : ℤ) → within (negsuc 9223372036854775807) (pos 9223372036854775807) n ≡ true → within (negsuc 9223372036854775807) (pos 18446744073709551615) n ≡ true
long-wide n fit = grind (arith, common_steps)

nat-wide : (n most : ℕ) → most ≤ 18446744073709551616 → nat_lt n most ≡ true → within (negsuc 9223372036854775807) (pos 18446744073709551615) (pos n) ≡ true
nat-wide n most small fit = grind (arith, common_steps)

-- ---- a value without fields

pub plain_good : (l m : t.SqlType-F SqlType) (x : v.Value-F Value) (y : Value) → castable_at l m ≡ true → fits_at l x ≡ true → plain_cast x m ≡ Ok y → Good m y
plain_good l m v.Null y cast fit is = ok-good m _ y is (rw value.outs-Null (null_fits m))
plain_good t.Bool m (v.Bool b) y cast fit is = from-bool b m y is
plain_good t.Int32 m (v.Int n) y cast fit is = from-integer n m y (int-wide n fit) is
plain_good t.Int64 m (v.Int n) y cast fit is = from-integer n m y (long-wide n fit) is
plain_good t.Uint32 m (v.Uint n) y cast fit is = from-integer (pos n) m y (nat-wide n 4294967296 (omega arith) fit) is
plain_good t.Uint64 m (v.Uint n) y cast fit is = from-integer (pos n) m y (nat-wide n 18446744073709551616 (omega arith) fit) is
plain_good t.Text m (v.Text text) y cast fit is = from-text text m y fit is
plain_good t.Bytes m (v.Bytes bytes) y cast fit is = from-bytes bytes m y fit is
plain_good t.Date m (v.Date day) y cast fit is = from-date day m y fit is
plain_good (t.Array e) (t.Array f) (v.Array xs) y cast fit is = ok-good (t.Array f) _ y is (rw (value.outs-Array xs) (array_fits e f xs cast fit))
plain_good (t.Array e) _ (v.Array xs) y cast fit is = cc
plain_good l m (v.Struct xs) y cast fit is = cc
plain_good _ m x y cast fit is = cc
