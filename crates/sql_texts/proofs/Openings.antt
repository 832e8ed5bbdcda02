-- The bytes that begin a literal.
use Rattle.std.proofs.Common.{◌≡◌, ℕ, suc, ◌<◌, ◌^◌, ℤ, pos, negsuc, Bool, true, false, ◌||◌, ◌==◌, List, ◌++◌, codes, decimal, refl, ap, sym, ◌∙◌, arith}
use Rattle.std.proofs.lemmas.Bool.{false≢true}
use Rattle.std.proofs.lemmas.List.{append_cancel_left}
use Rattle.std.specs.Char.{is_ascii_digit}
use Rattle.std.specs.Fmt.{signed_decimal}
use Rattle.std.proofs.lemmas.Grind.{common_steps}
use Rattle.sql_types.specs.declared.sql_type.SqlType.{SqlType}
use Rattle.sql_types.specs.declared.sql_type.SqlType.TheOpen as t
use Rattle.sql_types.specs.declared.value.Value.{Value, map-Value, out-Value, roll-out-Value, fold-Value, fold-roll-Value}
use Rattle.sql_types.specs.declared.value.Value.TheOpen as v
use Rattle.sql_types.proofs.ValueOpens.{fits_at}
use Rattle.sql_ast.specs.Literals.{LiteralText, literal_layer}
use Rattle.sql_texts.proofs.Numbers.{first_of, decimal_digits}

-- the literal of a value, whose parts stand as they are
abbrev pub literal_at : v.Value-F Value → List ℕ
literal_at a = literal_layer (map-Value Value (List ℕ) LiteralText a)

pub literal_opens : (x : Value) → LiteralText x ≡ literal_at (out-Value x)
unfolding LiteralText
literal_opens x = ap (fold-Value (List ℕ) literal_layer) (sym (roll-out-Value x)) ∙ fold-roll-Value (List ℕ) literal_layer (out-Value x)

-- how many digits a number needs that fits a type
pub uint_small : (form : t.SqlType-F SqlType) (n : ℕ) → fits_at form (v.Uint n) ≡ true → n < 2 ^ 64
uint_small t.Uint32 n fit = grind (arith, common_steps)
uint_small t.Uint64 n fit = grind (arith, common_steps)
uint_small _ n fit = cc

-- the number without its sign
abbrev pub IsSmall : ℤ → Type 0
IsSmall (pos n) = n < 2 ^ 64
IsSmall (negsuc n) = suc n < 2 ^ 64

pub int_small : (form : t.SqlType-F SqlType) (n : ℤ) → fits_at form (v.Int n) ≡ true → IsSmall n
int_small t.Int32 (pos n) fit = grind (arith, common_steps)
int_small t.Int32 (negsuc n) fit = grind (arith, common_steps)
int_small t.Int64 (pos n) fit = grind (arith, common_steps)
int_small t.Int64 (negsuc n) fit = grind (arith, common_steps)
int_small _ n fit = cc

-- a digit, a minus, a `"`, `[`, or one of the letters with which a word of a literal begins
abbrev pub opening : ℕ → Bool
opening c = is_ascii_digit c || c == 45 || c == 34 || c == 91 || c == 78 || c == 84 || c == 70 || c == 98 || c == 68 || c == 83

digit_opens : (c : ℕ) → is_ascii_digit c ≡ true → opening c ≡ true
digit_opens c is = rw is refl

decimal_first : (n : ℕ) (r : List ℕ) → n < 2 ^ 64 → opening (first_of (decimal n ++ r)) ≡ true
decimal_first n r small = digit_opens (first_of (decimal n ++ r)) ((decimal_digits n small).1 r)

signed_first : (n : ℤ) (r : List ℕ) → IsSmall n → opening (first_of (signed_decimal n ++ r)) ≡ true
signed_first (pos n) r small = decimal_first n r small
signed_first (negsuc n) r small = refl

pub first_at : (form : t.SqlType-F SqlType) (a : v.Value-F Value) (r : List ℕ) → fits_at form a ≡ true → opening (first_of (literal_at a ++ r)) ≡ true
first_at form v.Null r fit = refl
first_at form (v.Bool true) r fit = refl
first_at form (v.Bool false) r fit = refl
first_at form (v.Int n) r fit = signed_first n r (int_small form n fit)
first_at form (v.Uint n) r fit = decimal_first n r (uint_small form n fit)
first_at form (v.Text text) r fit = refl
first_at form (v.Bytes bytes) r fit = refl
first_at form (v.Date day) r fit = refl
first_at form (v.Array xs) r fit = refl
first_at form (v.Struct xs) r fit = refl

-- ---- NULL alone begins with `N`

digit_not : (c : ℕ) → is_ascii_digit c ≡ true → (c == 78) ≡ false
digit_not c is = grind (arith, common_steps)

signed_not : (n : ℤ) (r : List ℕ) → IsSmall n → (first_of (signed_decimal n ++ r) == 78) ≡ false
signed_not (pos n) r small = digit_not (first_of (decimal n ++ r)) ((decimal_digits n small).1 r)
signed_not (negsuc n) r small = refl

clash : (text other : List ℕ) → text ≡ other → (first_of text == 78) ≡ true → (first_of other == 78) ≡ false → true ≡ false
clash text other e is not = sym is ∙ ap (λ z. first_of z == 78) e ∙ not

pub null_once : (form : t.SqlType-F SqlType) (a : v.Value-F Value) (r s : List ℕ) → fits_at form a ≡ true → literal_at v.Null ++ r ≡ literal_at a ++ s → (v.Null ≡ a) × (r ≡ s)
null_once form v.Null r s fit e = (refl, append_cancel_left (codes "NULL") r s e)
null_once form (v.Int n) r s fit e = absurd (false≢true (sym (clash _ (signed_decimal n ++ s) e refl (signed_not n s (int_small form n fit)))))
null_once form (v.Uint n) r s fit e = absurd (false≢true (sym (clash _ (decimal n ++ s) e refl (digit_not (first_of (decimal n ++ s)) ((decimal_digits n (uint_small form n fit)).1 s)))))
null_once form (v.Bool true) r s fit e = absurd (false≢true (sym (clash _ _ e refl refl)))
null_once form (v.Bool false) r s fit e = absurd (false≢true (sym (clash _ _ e refl refl)))
null_once form (v.Text text) r s fit e = absurd (false≢true (sym (clash _ _ e refl refl)))
null_once form (v.Bytes bytes) r s fit e = absurd (false≢true (sym (clash _ _ e refl refl)))
null_once form (v.Date day) r s fit e = absurd (false≢true (sym (clash _ _ e refl refl)))
null_once form (v.Array xs) r s fit e = absurd (false≢true (sym (clash _ _ e refl refl)))
null_once form (v.Struct xs) r s fit e = absurd (false≢true (sym (clash _ _ e refl refl)))
