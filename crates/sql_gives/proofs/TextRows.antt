-- What the rows give that repeat texts, trim them or split them.
use Rattle.std.proofs.Common.{◌≡◌, ℕ, zero, suc, ℤ, pos, negsuc, Bool, true, false, List, [], ◌∷◌, map, length, Ok, Err, refl}
use Rattle.std.specs.Prelude.{◌*◌, nat_lt, if◌then◌else◌}
use Rattle.std.specs.Char.{is_whitespace}
use Rattle.std.specs.List.{list_all}
use Rattle.std.specs.Str.{IsUtf8}
use Rattle.std.proofs.lemmas.Str.{IsUtf8-nil, IsUtf8-append}
use Rattle.sql_types.specs.declared.sql_type.SqlType.{SqlType}
use Rattle.sql_types.specs.declared.sql_type.SqlType.TheVariants as ty
use Rattle.sql_types.specs.declared.value.Value.{Value}
use Rattle.sql_types.specs.declared.value.Value.TheVariants as value
use Rattle.sql_types.specs.declared.fault.FaultKind.TheVariants as fault
use Rattle.sql_types.specs.Fits.{fits}
use Rattle.sql_types.specs.Takes.{content, number, fits_types, fits_types_or_less}
use Rattle.sql_types.proofs.TestParts.{first as left_of, second as right_of}
use Rattle.sql_strings.specs.Rows as s
use Rattle.sql_strings.specs.Texts.{split_text, repeated, drop_front, drop_back, stands_in}
use Rattle.sql_gives.proofs.EachPasses.{both}
use Rattle.sql_gives.proofs.GivesLaws.{Gives, null_fits, strict_gives, array_fits}
use Rattle.sql_gives.proofs.PieceLaws.{AllPass, repeated_passes, split_passes, drop_front_passes, drop_back_passes}
use Rattle.sql_gives.proofs.SymbolLaws.{strings, is_byte, content_utf8, text_fits, content_bytes, bytes_fit}

-- ---- REPEAT

repeated_utf8 : (n : ℕ) (text : List ℕ) → IsUtf8 text → IsUtf8 (repeated n text)
repeated_utf8 zero text is = IsUtf8-nil
repeated_utf8 (suc n) text is = IsUtf8-append text (repeated n text) is (repeated_utf8 n text is)

at_most : (type : SqlType) (b : Bool) (x : Value) → fits type x ≡ true → Gives type (if b then Err fault.OutOfRange else Ok x)
at_most type true x fit = tt
at_most type false x fit = fit

repeat_by_gives : (type : SqlType) (make : List ℕ → Value) (bytes : List ℕ) (count : ℤ) → ((n : ℕ) → fits type (make (repeated n bytes)) ≡ true) → Gives type (s.repeat_by make bytes count)
repeat_by_gives type make bytes (pos n) each = at_most type (nat_lt 1048576 (n * length bytes)) (make (repeated n bytes)) (each n)
repeat_by_gives type make bytes (negsuc n) each = tt

repeat_gives : (type : SqlType) (make : List ℕ → Value) → ((x : Value) (n : ℕ) → fits type x ≡ true → fits type (make (repeated n (content x))) ≡ true) → (values : List Value) → fits_types (type ∷ ty.Int64 ∷ []) values ≡ true → Gives type (s.apply_repeat make values)
repeat_gives type make each values fit = strict_gives type (s.repeat_row make) values (row values fit)
  where
    row : (values : List Value) → fits_types (type ∷ ty.Int64 ∷ []) values ≡ true → Gives type (s.repeat_row make values)
    row (x ∷ n ∷ []) fit = repeat_by_gives type make (content x) (number n) (λ k. each x k (left_of (fits type x) _ fit))
    row _ fit = null_fits type

pub repeat_text_gives : (values : List Value) → fits_types (ty.Text ∷ ty.Int64 ∷ []) values ≡ true → Gives ty.Text (s.apply_repeat value.Text values)
repeat_text_gives = repeat_gives ty.Text value.Text (λ x n fit. text_fits (repeated n (content x)) (repeated_utf8 n (content x) (content_utf8 x fit)))

pub repeat_bytes_gives : (values : List Value) → fits_types (ty.Bytes ∷ ty.Int64 ∷ []) values ≡ true → Gives ty.Bytes (s.apply_repeat value.Bytes values)
repeat_bytes_gives = repeat_gives ty.Bytes value.Bytes (λ x n fit. bytes_fit (repeated n (content x)) (repeated_passes is_byte n (content x) (content_bytes x fit)))

-- ---- TRIM, LTRIM and RTRIM

-- what a cut leaves are symbols of the text
abbrev Cuts : ((ℕ → Bool) → List ℕ → List ℕ) → Type 0
Cuts cut = (drops : ℕ → Bool) (xs : List ℕ) → list_all strings.test xs ≡ true → list_all strings.test (cut drops xs) ≡ true

trim_row_gives : (cut : (ℕ → Bool) → List ℕ → List ℕ) → Cuts cut → (values : List Value) → fits_types_or_less (ty.Text ∷ []) ty.Text values ≡ true → Gives ty.Text (s.trim_row cut values)
trim_row_gives cut keeps (x ∷ []) fit =
    strings.made (cut is_whitespace (s.characters x)) (keeps is_whitespace (s.characters x) (strings.said x (left_of (fits ty.Text x) _ fit)))
trim_row_gives cut keeps (x ∷ set ∷ []) fit =
    strings.made (cut (stands_in (s.characters set)) (s.characters x)) (keeps (stands_in (s.characters set)) (s.characters x) (strings.said x (left_of (fits ty.Text x) _ fit)))
trim_row_gives cut keeps [] fit = null_fits ty.Text
trim_row_gives cut keeps (x ∷ y ∷ z ∷ more) fit = null_fits ty.Text

pub ltrim_gives : (values : List Value) → fits_types_or_less (ty.Text ∷ []) ty.Text values ≡ true → Gives ty.Text (s.apply_ltrim values)
ltrim_gives values fit = strict_gives ty.Text (s.trim_row drop_front) values (trim_row_gives drop_front (drop_front_passes strings.test) values fit)

pub rtrim_gives : (values : List Value) → fits_types_or_less (ty.Text ∷ []) ty.Text values ≡ true → Gives ty.Text (s.apply_rtrim values)
rtrim_gives values fit = strict_gives ty.Text (s.trim_row drop_back) values (trim_row_gives drop_back (drop_back_passes strings.test) values fit)

pub trim_gives : (values : List Value) → fits_types_or_less (ty.Text ∷ []) ty.Text values ≡ true → Gives ty.Text (s.apply_trim values)
trim_gives values fit =
    strict_gives ty.Text (s.trim_row (λ drops xs. drop_back drops (drop_front drops xs))) values
    (trim_row_gives (λ drops xs. drop_back drops (drop_front drops xs)) (λ drops xs all. drop_back_passes strings.test drops (drop_front drops xs) (drop_front_passes strings.test drops xs all)) values fit)

-- ---- SPLIT

strings_fit : (texts : List (List ℕ)) → AllPass strings.test texts → list_all (fits ty.Text) (map s.string texts) ≡ true
strings_fit [] all = refl
strings_fit (cs ∷ more) all =
    both (fits ty.Text (s.string cs)) (list_all (fits ty.Text) (map s.string more)) (strings.made cs (left_of (list_all strings.test cs) _ all)) (strings_fit more (right_of (list_all strings.test cs) _ all))

pub split_gives : (values : List Value) → fits_types (ty.Text ∷ ty.Text ∷ []) values ≡ true → Gives (ty.Array ty.Text) (s.apply_split values)
split_gives values fit = strict_gives (ty.Array ty.Text) s.split_row values (row values fit)
  where
    row : (values : List Value) → fits_types (ty.Text ∷ ty.Text ∷ []) values ≡ true → Gives (ty.Array ty.Text) (s.split_row values)
    row (x ∷ separator ∷ []) fit =
        array_fits ty.Text (map s.string (split_text (s.characters separator) (s.characters x)))
        (strings_fit (split_text (s.characters separator) (s.characters x)) (split_passes strings.test (s.characters separator) (s.characters x) (strings.said x (left_of (fits ty.Text x) _ fit))))
    row _ fit = null_fits (ty.Array ty.Text)
