-- The two kinds of texts: which symbols a value of the kind has, and which make one.
use Rattle.std.proofs.Common.{◌≡◌, ℕ, Bool, true, List, [], ◌∷◌, refl, ap, sym, ◌∙◌}
use Rattle.std.specs.Prelude.{nat_lt, ◌&&◌}
use Rattle.std.specs.List.{list_all}
use Rattle.std.specs.Str.{IsUtf8, chars, encode_utf8_all}
use Rattle.std.proofs.lemmas.Bool.{false≢true}
use Rattle.std.proofs.lemmas.Str.{IsUtf8-nil, IsUtf8-from_is_utf8, is_utf8-from_IsUtf8, scalars-chars}
use lib.Utf8.{scalar, scalars}
use Rattle.sql_types.specs.declared.sql_type.SqlType.{SqlType}
use Rattle.sql_types.specs.declared.sql_type.SqlType.TheVariants as ty
use Rattle.sql_types.specs.declared.sql_type.SqlType.TheOpen as t
use Rattle.sql_types.specs.declared.value.Value.{Value, out-Value}
use Rattle.sql_types.specs.declared.value.Value.TheVariants as value
use Rattle.sql_types.specs.declared.value.Value.TheOpen as v
use Rattle.sql_types.specs.Fits.{fits}
use Rattle.sql_types.specs.Takes.{content, content_layer}
use Rattle.sql_types.proofs.ValueOpens.{fits_at, fits_by}
use Rattle.sql_strings.specs.Rows.{Kind, string_kind, bytes_kind}
use Rattle.sql_gives.proofs.GivesLaws.{at_form}

-- the symbols of a value of the type pass the test, and symbols that pass make one
pub record KindFits (k : Kind) (type : SqlType) : Type 0 where
  pub test : ℕ → Bool
  pub said : (x : Value) → fits type x ≡ true → list_all test (k.symbols x) ≡ true
  pub made : (xs : List ℕ) → list_all test xs ≡ true → fits type (k.make xs) ≡ true

-- ---- STRING

text_form : (x : v.Value-F Value) → fits_at t.Text x ≡ true → IsUtf8 (content_layer x)
text_form (v.Text text) fit = IsUtf8-from_is_utf8 text fit
text_form (v.Bytes bytes) fit = absurd (false≢true fit)
text_form _ fit = IsUtf8-nil

pub content_utf8 : (x : Value) → fits ty.Text x ≡ true → IsUtf8 (content x)
content_utf8 x fit = text_form (out-Value x) (at_form ty.Text t.Text x ty.outs-Text fit)

pub text_fits : (text : List ℕ) → IsUtf8 text → fits ty.Text (value.Text text) ≡ true
text_fits text is = fits_by ty.Text (value.Text text) t.Text (v.Text text) ty.outs-Text (value.outs-Text text) ∙ is_utf8-from_IsUtf8 text is

each_scalar : (cs : List ℕ) → list_all scalar cs ≡ scalars cs
each_scalar [] = refl
each_scalar (c ∷ cs) = ap (λ b. scalar c && b) (each_scalar cs)

pub strings : KindFits string_kind ty.Text
strings = record {
  test = scalar;
  said = λ x fit. each_scalar (chars (content x)) ∙ scalars-chars (content x) (content_utf8 x fit);
  made = λ cs all. text_fits (encode_utf8_all cs) (cs, (sym (each_scalar cs) ∙ all, refl));
}

-- ---- BYTES

abbrev pub is_byte : ℕ → Bool
is_byte b = nat_lt b 256

bytes_form : (x : v.Value-F Value) → fits_at t.Bytes x ≡ true → list_all is_byte (content_layer x) ≡ true
bytes_form (v.Bytes bytes) fit = fit
bytes_form (v.Text text) fit = absurd (false≢true fit)
bytes_form _ fit = refl

pub content_bytes : (x : Value) → fits ty.Bytes x ≡ true → list_all is_byte (content x) ≡ true
content_bytes x fit = bytes_form (out-Value x) (at_form ty.Bytes t.Bytes x ty.outs-Bytes fit)

pub bytes_fit : (bytes : List ℕ) → list_all is_byte bytes ≡ true → fits ty.Bytes (value.Bytes bytes) ≡ true
bytes_fit bytes all = fits_by ty.Bytes (value.Bytes bytes) t.Bytes (v.Bytes bytes) ty.outs-Bytes (value.outs-Bytes bytes) ∙ all

pub byte_strings : KindFits bytes_kind ty.Bytes
byte_strings = record { test = is_byte; said = content_bytes; made = bytes_fit }
