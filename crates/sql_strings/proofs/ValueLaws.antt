-- What values that fit a type say.
use Rattle.std.proofs.Common.{◌≡◌, ℕ, suc, ◌<◌, ◌^◌, Bool, true, false, List, [], ◌∷◌, ◌++◌, get_or, refl, ap, sym, ◌∙◌, arith}
use Rattle.std.specs.Prelude.{ℤ, pos, negsuc, nat_lt, nat_le}
use mir.Val.{SFits}
use mir.Syntax.{w64}
use Rattle.std.specs.Str.{IsUtf8}
use Rattle.std.proofs.lemmas.Str.{is_utf8-from_IsUtf8}
use Rattle.std.proofs.lemmas.Grind.{common_steps}
use Rattle.std.specs.List.{list_all}
use Rattle.sql_types.specs.declared.sql_type.SqlType.{SqlType, out-SqlType, map-SqlType, out-roll-SqlType}
use Rattle.sql_types.specs.declared.sql_type.SqlType.TheVariants as types
use Rattle.sql_types.specs.declared.sql_type.SqlType.TheOpen as t
use Rattle.sql_types.specs.declared.value.Value.{Value, roll-Value, out-Value, roll-out-Value, out-roll-Value}
use Rattle.sql_types.specs.declared.value.Value.TheVariants as value
use Rattle.sql_types.specs.declared.value.Value.TheOpen as v
use Rattle.sql_types.specs.Fits.{fits, fits_layer, within}
use Rattle.sql_types.specs.Takes.{content, content_layer, number, number_layer, elements, elements_layer}
use Rattle.sql_types.proofs.Opens.{fits-opens}

-- what a layer of a type takes
abbrev Taken : t.SqlType-F SqlType → Value → Bool
Taken layer x = fits_layer (map-SqlType SqlType (Value → Bool) fits layer) (out-Value x)

taken : (ty : SqlType) (layer : t.SqlType-F SqlType) (x : Value) → out-SqlType ty ≡ layer → fits ty x ≡ true → Taken layer x ≡ true
taken ty layer x is fit = ap (λ l. Taken l x) (sym is) ∙ sym (fits-opens ty x) ∙ fit

out-Text : out-SqlType types.Text ≡ t.Text
out-Text = ap out-SqlType (sym types.rolls-Text) ∙ out-roll-SqlType t.Text

out-Bytes : out-SqlType types.Bytes ≡ t.Bytes
out-Bytes = ap out-SqlType (sym types.rolls-Bytes) ∙ out-roll-SqlType t.Bytes

out-Int64 : out-SqlType types.Int64 ≡ t.Int64
out-Int64 = ap out-SqlType (sym types.rolls-Int64) ∙ out-roll-SqlType t.Int64

rolled : (x : Value) (y : v.Value-F Value) → out-Value x ≡ y → x ≡ roll-Value y
rolled x y is = sym (roll-out-Value x) ∙ ap roll-Value is

-- a value of STRING that isn't a text is NULL, whose content is empty
no-text : (x : Value) (y : v.Value-F Value) → out-Value x ≡ y → fits_layer t.Text y ≡ true → ((text : List ℕ) → x ≡ value.Text text → ⊥) → [] ≡ content_layer y
no-text x v.Null is fit other = refl
no-text x (v.Bool b) is fit other = cc
no-text x (v.Int n) is fit other = cc
no-text x (v.Uint n) is fit other = cc
no-text x (v.Text text) is fit other = absurd (other text (rolled x (v.Text text) is ∙ value.rolls-Text text))
no-text x (v.Bytes bytes) is fit other = cc
no-text x (v.Date day) is fit other = cc
no-text x (v.Array xs) is fit other = cc
no-text x (v.Struct xs) is fit other = cc

pub null-text : (x : Value) → fits types.Text x ≡ true → ((text : List ℕ) → x ≡ value.Text text → ⊥) → [] ≡ content x
null-text x fit other = no-text x (out-Value x) refl (taken types.Text t.Text x out-Text fit) other

no-bytes : (x : Value) (y : v.Value-F Value) → out-Value x ≡ y → fits_layer t.Bytes y ≡ true → ((bytes : List ℕ) → x ≡ value.Bytes bytes → ⊥) → [] ≡ content_layer y
no-bytes x v.Null is fit other = refl
no-bytes x (v.Bool b) is fit other = cc
no-bytes x (v.Int n) is fit other = cc
no-bytes x (v.Uint n) is fit other = cc
no-bytes x (v.Text text) is fit other = cc
no-bytes x (v.Bytes bytes) is fit other = absurd (other bytes (rolled x (v.Bytes bytes) is ∙ value.rolls-Bytes bytes))
no-bytes x (v.Date day) is fit other = cc
no-bytes x (v.Array xs) is fit other = cc
no-bytes x (v.Struct xs) is fit other = cc

pub null-bytes : (x : Value) → fits types.Bytes x ≡ true → ((bytes : List ℕ) → x ≡ value.Bytes bytes → ⊥) → [] ≡ content x
null-bytes x fit other = no-bytes x (out-Value x) refl (taken types.Bytes t.Bytes x out-Bytes fit) other

no-number : (x : Value) (y : v.Value-F Value) → out-Value x ≡ y → fits_layer t.Int64 y ≡ true → ((n : ℤ) → x ≡ value.Int n → ⊥) → pos 0 ≡ number_layer y
no-number x v.Null is fit other = refl
no-number x (v.Bool b) is fit other = cc
no-number x (v.Int n) is fit other = absurd (other n (rolled x (v.Int n) is ∙ value.rolls-Int n))
no-number x (v.Uint n) is fit other = cc
no-number x (v.Text text) is fit other = cc
no-number x (v.Bytes bytes) is fit other = cc
no-number x (v.Date day) is fit other = cc
no-number x (v.Array xs) is fit other = cc
no-number x (v.Struct xs) is fit other = cc

pub null-number : (x : Value) → fits types.Int64 x ≡ true → ((n : ℤ) → x ≡ value.Int n → ⊥) → pos 0 ≡ number x
null-number x fit other = no-number x (out-Value x) refl (taken types.Int64 t.Int64 x out-Int64 fit) other

-- the elements of a value of ARRAY<STRING> fit STRING
array-layer : (y : v.Value-F Value) → fits_layer (t.Array (fits types.Text)) y ≡ true → list_all (fits types.Text) (elements_layer y) ≡ true
array-layer v.Null fit = refl
array-layer (v.Bool b) fit = cc
array-layer (v.Int n) fit = cc
array-layer (v.Uint n) fit = cc
array-layer (v.Text text) fit = cc
array-layer (v.Bytes bytes) fit = cc
array-layer (v.Date day) fit = cc
array-layer (v.Array xs) fit = fit
array-layer (v.Struct xs) fit = cc

out-Array : out-SqlType (types.Array types.Text) ≡ t.Array types.Text
out-Array = ap out-SqlType (sym (types.rolls-Array types.Text)) ∙ out-roll-SqlType (t.Array types.Text)

pub elements-fit : (x : Value) → fits (types.Array types.Text) x ≡ true → list_all (fits types.Text) (elements x) ≡ true
elements-fit x fit = array-layer (out-Value x) (taken (types.Array types.Text) (t.Array types.Text) x out-Array fit)

pub array-elements : (x : Value) (xs : List Value) → x ≡ value.Array xs → elements x ≡ xs
array-elements x xs is = ap elements is ∙ ap elements_layer (ap out-Value (sym (value.rolls-Array xs)) ∙ out-roll-Value (v.Array xs))

-- ---- values that fit

fits-by : (ty : SqlType) (layer : t.SqlType-F SqlType) (x : Value) (y : v.Value-F Value) → out-SqlType ty ≡ layer → out-Value x ≡ y
    → fits_layer (map-SqlType SqlType (Value → Bool) fits layer) y ≡ true → fits ty x ≡ true
fits-by ty layer x y is at fit =
    fits-opens ty x ∙ ap (λ l. fits_layer (map-SqlType SqlType (Value → Bool) fits l) (out-Value x)) is ∙ ap (fits_layer (map-SqlType SqlType (Value → Bool) fits layer)) at ∙ fit

out-null : out-Value value.Null ≡ v.Null
out-null = ap out-Value (sym value.rolls-Null) ∙ out-roll-Value v.Null

pub null_fits_text : fits types.Text value.Null ≡ true
null_fits_text = fits-by types.Text t.Text value.Null v.Null out-Text out-null refl

pub null_fits_bytes : fits types.Bytes value.Null ≡ true
null_fits_bytes = fits-by types.Bytes t.Bytes value.Null v.Null out-Bytes out-null refl

pub null_fits_int64 : fits types.Int64 value.Null ≡ true
null_fits_int64 = fits-by types.Int64 t.Int64 value.Null v.Null out-Int64 out-null refl

pub text_fits : (text : List ℕ) → IsUtf8 text → fits types.Text (value.Text text) ≡ true
text_fits text utf8 =
    fits-by types.Text t.Text (value.Text text) (v.Text text) out-Text (ap out-Value (sym (value.rolls-Text text)) ∙ out-roll-Value (v.Text text)) (is_utf8-from_IsUtf8 text utf8)

all-bytes : (bytes : List ℕ) → ((i : ℕ) → get_or bytes i 0 < 256) → list_all (λ b. nat_lt b 256) bytes ≡ true
all-bytes [] small = refl
all-bytes (b ∷ bytes) small =
    let first : b < 256 = small 0 in
    let test : nat_lt b 256 ≡ true = grind (arith, common_steps) in
    rw test (all-bytes bytes (λ i. small (suc i)))

pub bytes_fit : (bytes : List ℕ) → ((i : ℕ) → get_or bytes i 0 < 256) → fits types.Bytes (value.Bytes bytes) ≡ true
bytes_fit bytes small =
    fits-by types.Bytes t.Bytes (value.Bytes bytes) (v.Bytes bytes) out-Bytes (ap out-Value (sym (value.rolls-Bytes bytes)) ∙ out-roll-Value (v.Bytes bytes)) (all-bytes bytes small)

pub number_fits : (n : ℤ) → within (negsuc 9223372036854775807) (pos 9223372036854775807) n ≡ true → fits types.Int64 (value.Int n) ≡ true
number_fits n inside =
    fits-by types.Int64 t.Int64 (value.Int n) (v.Int n) out-Int64 (ap out-Value (sym (value.rolls-Int n)) ∙ out-roll-Value (v.Int n)) inside

pub array_fits : (xs : List Value) → list_all (fits types.Text) xs ≡ true → fits (types.Array types.Text) (value.Array xs) ≡ true
array_fits xs fit =
    fits-by (types.Array types.Text) (t.Array types.Text) (value.Array xs) (v.Array xs) out-Array (ap out-Value (sym (value.rolls-Array xs)) ∙ out-roll-Value (v.Array xs)) fit

pub number_inside : (n : ℤ) → SFits w64 n → within (negsuc 9223372036854775807) (pos 9223372036854775807) n ≡ true
number_inside (pos k) range =
    let small : k < 2 ^ 63 = range.sfits in
    let test : nat_le k 9223372036854775807 ≡ true = grind (arith, common_steps) in
    test
number_inside (negsuc k) range =
    let small : k < 2 ^ 63 = range.sfits in
    let test : nat_le k 9223372036854775807 ≡ true = grind (arith, common_steps) in
    rw test refl

pub three_fit : (none : List Value) (one two three : List Value) (a b c : Value) → none ≡ [] → one ≡ none ++ a ∷ [] → two ≡ one ++ b ∷ [] → three ≡ two ++ c ∷ []
    → fits types.Text a ≡ true → fits types.Text b ≡ true → fits types.Text c ≡ true → list_all (fits types.Text) three ≡ true
three_fit none one two three a b c no-one first second third fa fb fc =
    let all : three ≡ a ∷ b ∷ c ∷ [] = third ∙ ap (λ t. t ++ c ∷ []) (second ∙ ap (λ t. t ++ b ∷ []) (first ∙ ap (λ t. t ++ a ∷ []) no-one)) in
    ap (list_all (fits types.Text)) all ∙ by
  where
    by : list_all (fits types.Text) (a ∷ b ∷ c ∷ []) ≡ true
    by = rw (fa, fb, fc) refl
