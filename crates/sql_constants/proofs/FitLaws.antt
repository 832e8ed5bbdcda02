-- A constant of a type fits the type.
use Rattle.std.proofs.Common.{◌≡◌, ℕ, ℤ, pos, negsuc, Bool, true, false, ◌&&◌, if◌then◌else◌, List, [], ◌∷◌, ◌++◌, Option, Some, None, refl, sym, ◌∙◌, ap, subst, arith}
use Rattle.std.specs.Prelude.{nat_lt, IfSome}
use Rattle.std.proofs.lemmas.Bool.{and_parts}
use Rattle.std.proofs.lemmas.Grind.{common_steps}
use Rattle.std.specs.List.{list_all}
use Rattle.std.specs.Str.{is_utf8}
use Rattle.sql_types.specs.Calendar.{read_date}
use Rattle.sql_types.specs.Fits.{fits, fits_row, within, is_day}
use Rattle.sql_types.proofs.DateTextLaws.{read_date-fits}
use Rattle.sql_types.proofs.ValueOpens.{fits_at, fits_by, fits_opens}
use Rattle.sql_types.specs.declared.sql_type.Named.{Named}
use Rattle.sql_types.specs.declared.sql_type.SqlType.{SqlType, out-SqlType}
use Rattle.sql_types.specs.declared.sql_type.SqlType.TheOpen as t
use Rattle.sql_types.specs.declared.sql_type.SqlType.TheVariants as ty
use Rattle.sql_types.specs.declared.value.Value.{Value, out-Value}
use Rattle.sql_types.specs.declared.value.Value.TheOpen as o
use Rattle.sql_types.specs.declared.value.Value.TheVariants as v
use Rattle.sql_ast.specs.declared.token.Token.{Token}
use Rattle.sql_ast.specs.Marks.{Tokens, Is, text, bytes, content}
use Rattle.sql_coerce.specs.Casts.{integer_value, signed_value, unsigned_value}
use Rattle.sql_coerce.proofs.FitLaws.{null_fits}
use Rattle.sql_constants.specs.Constants.{ConstantOf, constant_null, constant_true, constant_false, constant_integer, constant_minus, constant_text, constant_bytes, constant_day, constant_date, constant_empty, constant_array, constant_struct, ElementsOf, elements_one, elements_more, FieldsOf, fields_one, fields_more, ConstantText}
use Rattle.sql_constants.proofs.Lexemes.{is_text, is_bytes}
use Rattle.sql_constants.proofs.GoodTokens.{all_bytes, good_lexeme, all_good, lexes_good}

-- ---- integers

abbrev FitsForm : t.SqlType-F SqlType → Value → Type 0
FitsForm m y = fits_at m (out-Value y) ≡ true

tested : {A : Type 0} (b : Bool) (x y : A) → (if b then Some x else None) ≡ Some y → (x ≡ y) × (b ≡ true)
tested true x y is = (let same : x ≡ y = cc in same, refl)
tested false x y is = cc

signed-fits : (m : t.SqlType-F SqlType) (least greatest n : ℤ) (y : Value) → ((k : ℤ) → fits_at m (o.Int k) ≡ within least greatest k) → signed_value least greatest n ≡ Some y → FitsForm m y
signed-fits m least greatest n y fit is =
    let told = tested (within least greatest n) (v.Int n) y is in
    rw (← told.0, v.outs-Int n) (fit n ∙ told.1)

unsigned-fits : (m : t.SqlType-F SqlType) (greatest n : ℤ) (y : Value) → ((k : ℕ) → within (pos 0) greatest (pos k) ≡ true → fits_at m (o.Uint k) ≡ true) → unsigned_value greatest n ≡ Some y → FitsForm m y
unsigned-fits m greatest (pos n) y fit is =
    let told = tested (within (pos 0) greatest (pos n)) (v.Uint n) y is in
    rw (← told.0, v.outs-Uint n) (fit n told.1)
unsigned-fits m greatest (negsuc n) y fit is = cc

below-32 : (k : ℕ) → within (pos 0) (pos 4294967295) (pos k) ≡ true → nat_lt k 4294967296 ≡ true
below-32 k is = grind (arith, common_steps)

below-64 : (k : ℕ) → within (pos 0) (pos 18446744073709551615) (pos k) ≡ true → nat_lt k 18446744073709551616 ≡ true
below-64 k is = grind (arith, common_steps)

integer-form : (m : t.SqlType-F SqlType) (n : ℤ) (y : Value) → integer_value m n ≡ Some y → FitsForm m y
integer-form t.Int32 n y is = signed-fits t.Int32 (negsuc 2147483647) (pos 2147483647) n y (λ k. refl) is
integer-form t.Int64 n y is = signed-fits t.Int64 (negsuc 9223372036854775807) (pos 9223372036854775807) n y (λ k. refl) is
integer-form t.Uint32 n y is = unsigned-fits t.Uint32 (pos 4294967295) n y below-32 is
integer-form t.Uint64 n y is = unsigned-fits t.Uint64 (pos 18446744073709551615) n y below-64 is
integer-form t.Bool n y is = cc
integer-form _ n y is = cc

-- a number that a type has fits the type
pub integer-fits : (type : SqlType) (n : ℤ) (y : Value) → integer_value (out-SqlType type) n ≡ Some y → fits type y ≡ true
integer-fits type n y is = fits_opens type y ∙ integer-form (out-SqlType type) n y is

-- ---- the other types without parts

pub null-fits : (type : SqlType) → fits type v.Null ≡ true
null-fits type = fits_by type v.Null (out-SqlType type) o.Null refl v.outs-Null ∙ null_fits (out-SqlType type)

bool-fits : (b : Bool) → fits ty.Bool (v.Bool b) ≡ true
bool-fits b = fits_by ty.Bool (v.Bool b) t.Bool (o.Bool b) ty.outs-Bool (v.outs-Bool b)

text-fits : (x : List ℕ) → is_utf8 x ≡ true → fits ty.Text (v.Text x) ≡ true
text-fits x h = fits_by ty.Text (v.Text x) t.Text (o.Text x) ty.outs-Text (v.outs-Text x) ∙ h

bytes-fits : (x : List ℕ) → all_bytes x ≡ true → fits ty.Bytes (v.Bytes x) ≡ true
bytes-fits x h = fits_by ty.Bytes (v.Bytes x) t.Bytes (o.Bytes x) ty.outs-Bytes (v.outs-Bytes x) ∙ h

day-known : (r : Option ℤ) (d : ℤ) → IfSome r (λ k. is_day k ≡ true) → r ≡ Some d → is_day d ≡ true
day-known (Some k) d h e = let f : k ≡ d = cc in subst (λ z. is_day z ≡ true) f h
day-known None d h e = cc

day-fits : (x : List ℕ) (d : ℤ) → read_date x ≡ Some d → fits ty.Date (v.Date d) ≡ true
day-fits x d e = fits_by ty.Date (v.Date d) t.Date (o.Date d) ty.outs-Date (v.outs-Date d) ∙ day-known (read_date x) d (read_date-fits x) e

-- ---- all types

and-true : (a b : Bool) → a ≡ true → b ≡ true → (a && b) ≡ true
and-true a b p q = rw (p, q) refl

good_parts : (u w : Tokens) → all_good (u ++ w) ≡ true → (all_good u ≡ true) × (all_good w ≡ true)
good_parts [] w h = (refl, h)
good_parts (a ∷ u) w h =
    let parts = and_parts (good_lexeme a.lexeme) (all_good (u ++ w)) h in
    let rest = good_parts u w parts.1 in
    (and-true (good_lexeme a.lexeme) (all_good u) parts.0 rest.0, rest.1)

good_tail : (a : Token) (u : Tokens) → all_good (a ∷ u) ≡ true → all_good u ≡ true
good_tail a u h = (and_parts (good_lexeme a.lexeme) (all_good u) h).1

good_head : (a : Token) (u : Tokens) → all_good (a ∷ u) ≡ true → good_lexeme a.lexeme ≡ true
good_head a u h = (and_parts (good_lexeme a.lexeme) (all_good u) h).0

text_good : (a : Token) → Is text a → good_lexeme a.lexeme ≡ true → is_utf8 (content a) ≡ true
text_good a i h = sym (ap good_lexeme (is_text a i)) ∙ h

bytes_good : (a : Token) → Is bytes a → good_lexeme a.lexeme ≡ true → all_bytes (content a) ≡ true
bytes_good a i h = sym (ap good_lexeme (is_bytes a i)) ∙ h

mutual
  constant-fits : (type : SqlType) (u : Tokens) (x : Value) → ConstantOf type u x → all_good u ≡ true → fits type x ≡ true
  constant-fits type _ _ (constant_null i) good = null-fits type
  constant-fits _ _ _ (constant_true i) good = bool-fits true
  constant-fits _ _ _ (constant_false i) good = bool-fits false
  constant-fits type _ x (constant_integer i e) good = integer-fits type _ x e
  constant-fits type _ x (constant_minus im i e) good = integer-fits type _ x e
  constant-fits _ _ _ (constant_text {t = a} i) good = text-fits (content a) (text_good a i (good_head a [] good))
  constant-fits _ _ _ (constant_bytes {t = a} i) good = bytes-fits (content a) (bytes_good a i (good_head a [] good))
  constant-fits _ _ _ (constant_day {t = a} {day = d} i e) good = day-fits (content a) d e
  constant-fits _ _ _ (constant_date {t = a} {day = d} id i e) good = day-fits (content a) d e
  constant-fits _ _ _ (constant_empty element io ic) good = fits_by (ty.Array element) (v.Array []) (t.Array element) (o.Array []) (ty.outs-Array element) (v.outs-Array [])
  constant-fits _ _ _ (constant_array element {xs = xs} {o = a} {c = c} {u = u} io es ic) good =
      fits_by (ty.Array element) (v.Array xs) (t.Array element) (o.Array xs) (ty.outs-Array element) (v.outs-Array xs)
      ∙ elements-fit element u xs es (good_parts u (c ∷ []) (good_tail a (u ++ (c ∷ [])) good)).0
  constant-fits _ _ _ (constant_struct fields {xs = xs} {t = a} {o = b} {c = c} {u = u} it io fs ic) good =
      fits_by (ty.Struct fields) (v.Struct xs) (t.Struct fields) (o.Struct xs) (ty.outs-Struct fields) (v.outs-Struct xs)
      ∙ fields-fit fields u xs fs (good_parts u (c ∷ []) (good_tail b (u ++ (c ∷ [])) (good_tail a (b ∷ (u ++ (c ∷ []))) good))).0

  elements-fit : (type : SqlType) (u : Tokens) (xs : List Value) → ElementsOf type u xs → all_good u ≡ true → list_all (fits type) xs ≡ true
  elements-fit type u _ (elements_one {x = x} d) good = and-true (fits type x) true (constant-fits type u x d good) refl
  elements-fit type _ _ (elements_more {x = x} {xs = xs} {t = a} {u = u} {w = w} d ic es) good =
      let parts = good_parts u (a ∷ w) good in
      and-true (fits type x) (list_all (fits type) xs) (constant-fits type u x d parts.0) (elements-fit type w xs es (good_tail a w parts.1))

  fields-fit : (fields : List (Named SqlType)) (u : Tokens) (xs : List Value) → FieldsOf fields u xs → all_good u ≡ true → fits_row fields xs ≡ true
  fields-fit _ u _ (fields_one {field = field} {x = x} d) good = and-true (fits field.ty x) true (constant-fits field.ty u x d good) refl
  fields-fit _ _ _ (fields_more {field = field} {fields = fields} {x = x} {xs = xs} {t = a} {u = u} {w = w} d ic ds) good =
      let parts = good_parts u (a ∷ w) good in
      and-true (fits field.ty x) (fits_row fields xs) (constant-fits field.ty u x d parts.0) (fields-fit fields w xs ds (good_tail a w parts.1))

-- the constant that a text is fits the type
pub constant_fits : (type : SqlType) (text : List ℕ) (x : Value) → ConstantText type text (Some x) → fits type x ≡ true
constant_fits type text x (tokens, l, n, d) = constant-fits type tokens x d (lexes_good 0 false text tokens l)
