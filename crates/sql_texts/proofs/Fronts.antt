-- The literals of a type: where one ends, and which value it spells.
use Rattle.std.proofs.Common.{◌≡◌, ℕ, ℤ, Bool, true, List, [], ◌++◌, refl, ap, sym, subst, ◌∙◌}
use Rattle.std.proofs.lemmas.Bool.{false≢true}
use Rattle.sql_types.specs.Fits.{fits}
use Rattle.sql_types.specs.declared.sql_type.Named.{Named}
use Rattle.sql_types.specs.declared.sql_type.SqlType.{SqlType, roll-SqlType, out-roll-SqlType, ind-SqlType}
use Rattle.sql_types.specs.declared.sql_type.SqlType.TheOpen as t
use Rattle.sql_types.specs.declared.value.Value.{Value, out-Value, roll-Value, roll-out-Value}
use Rattle.sql_types.specs.declared.value.Value.TheOpen as v
use Rattle.sql_types.proofs.ValueOpens.{fits_at, fits_opens}
use Rattle.sql_ast.specs.Literals.{LiteralText}
use Rattle.sql_texts.proofs.PlainValues.{signed_once, truth_once, quoted_once, bytes_quoted_once, day_once}
use Rattle.sql_texts.proofs.Lists.{Front, With, bare, array_once, struct_once}
use Rattle.sql_texts.proofs.Numbers.{stops, decimal_once}
use Rattle.sql_texts.proofs.Openings.{literal_at, literal_opens, int_small, uint_small, null_once}

under : {A B : Type 0} {x y : A} {r s : List ℕ} (f : A → B) → (x ≡ y) × (r ≡ s) → (f x ≡ f y) × (r ≡ s)
under f same = (ap f same.0, same.1)

-- a value of a kind, and any other value of the type
module _ (r s : List ℕ) (stop : stops r ≡ true) (stop' : stops s ≡ true) where
  -- two values of the type with one literal before what stands behind them
  abbrev Both : t.SqlType-F With → v.Value-F Value → v.Value-F Value → Type 0
  Both parts a b = fits_at (bare parts) a ≡ true → fits_at (bare parts) b ≡ true → literal_at a ++ r ≡ literal_at b ++ s → (a ≡ b) × (r ≡ s)

  null_second : (parts : t.SqlType-F With) (a : v.Value-F Value) → Both parts a v.Null
  null_second parts a fit fit' e = let same = null_once (bare parts) a s r fit (sym e) in (sym same.0, sym same.1)

  truth_both : (a : Bool) (b : v.Value-F Value) → Both t.Bool (v.Bool a) b
  truth_both a (v.Bool b) fit fit' e = under v.Bool (truth_once a b r s e)
  truth_both a v.Null fit fit' e = null_second t.Bool (v.Bool a) fit fit' e
  truth_both a _ fit fit' e = absurd (false≢true fit')

  int32_both : (n : ℤ) (b : v.Value-F Value) → Both t.Int32 (v.Int n) b
  int32_both n (v.Int m) fit fit' e = under v.Int (signed_once n m r s (int_small t.Int32 n fit) (int_small t.Int32 m fit') stop stop' e)
  int32_both n v.Null fit fit' e = null_second t.Int32 (v.Int n) fit fit' e
  int32_both n _ fit fit' e = absurd (false≢true fit')

  int64_both : (n : ℤ) (b : v.Value-F Value) → Both t.Int64 (v.Int n) b
  int64_both n (v.Int m) fit fit' e = under v.Int (signed_once n m r s (int_small t.Int64 n fit) (int_small t.Int64 m fit') stop stop' e)
  int64_both n v.Null fit fit' e = null_second t.Int64 (v.Int n) fit fit' e
  int64_both n _ fit fit' e = absurd (false≢true fit')

  uint32_both : (n : ℕ) (b : v.Value-F Value) → Both t.Uint32 (v.Uint n) b
  uint32_both n (v.Uint m) fit fit' e = under v.Uint (decimal_once n m r s (uint_small t.Uint32 n fit) (uint_small t.Uint32 m fit') stop stop' e)
  uint32_both n v.Null fit fit' e = null_second t.Uint32 (v.Uint n) fit fit' e
  uint32_both n _ fit fit' e = absurd (false≢true fit')

  uint64_both : (n : ℕ) (b : v.Value-F Value) → Both t.Uint64 (v.Uint n) b
  uint64_both n (v.Uint m) fit fit' e = under v.Uint (decimal_once n m r s (uint_small t.Uint64 n fit) (uint_small t.Uint64 m fit') stop stop' e)
  uint64_both n v.Null fit fit' e = null_second t.Uint64 (v.Uint n) fit fit' e
  uint64_both n _ fit fit' e = absurd (false≢true fit')

  text_both : (a : List ℕ) (b : v.Value-F Value) → Both t.Text (v.Text a) b
  text_both a (v.Text b) fit fit' e = under v.Text (quoted_once a b r s e)
  text_both a v.Null fit fit' e = null_second t.Text (v.Text a) fit fit' e
  text_both a _ fit fit' e = absurd (false≢true fit')

  bytes_both : (a : List ℕ) (b : v.Value-F Value) → Both t.Bytes (v.Bytes a) b
  bytes_both a (v.Bytes b) fit fit' e = under v.Bytes (bytes_quoted_once a b r s e)
  bytes_both a v.Null fit fit' e = null_second t.Bytes (v.Bytes a) fit fit' e
  bytes_both a _ fit fit' e = absurd (false≢true fit')

  date_both : (a : ℤ) (b : v.Value-F Value) → Both t.Date (v.Date a) b
  date_both a (v.Date b) fit fit' e = under v.Date (day_once a b r s fit fit' e)
  date_both a v.Null fit fit' e = null_second t.Date (v.Date a) fit fit' e
  date_both a _ fit fit' e = absurd (false≢true fit')

  array_both : (part : With) (xs : List Value) (b : v.Value-F Value) → Both (t.Array part) (v.Array xs) b
  array_both part xs (v.Array ys) fit fit' e = under v.Array (array_once part xs ys r s fit fit' e)
  array_both part xs v.Null fit fit' e = null_second (t.Array part) (v.Array xs) fit fit' e
  array_both part xs _ fit fit' e = absurd (false≢true fit')

  struct_both : (fs : List (Named With)) (xs : List Value) (b : v.Value-F Value) → Both (t.Struct fs) (v.Struct xs) b
  struct_both fs xs (v.Struct ys) fit fit' e = under v.Struct (struct_once fs xs ys r s fit fit' e)
  struct_both fs xs v.Null fit fit' e = null_second (t.Struct fs) (v.Struct xs) fit fit' e
  struct_both fs xs _ fit fit' e = absurd (false≢true fit')

  values_once : (parts : t.SqlType-F With) (a b : v.Value-F Value) → Both parts a b
  values_once t.Bool (v.Bool a) b fit fit' e = truth_both a b fit fit' e
  values_once t.Int32 (v.Int n) b fit fit' e = int32_both n b fit fit' e
  values_once t.Int64 (v.Int n) b fit fit' e = int64_both n b fit fit' e
  values_once t.Uint32 (v.Uint n) b fit fit' e = uint32_both n b fit fit' e
  values_once t.Uint64 (v.Uint n) b fit fit' e = uint64_both n b fit fit' e
  values_once t.Text (v.Text a) b fit fit' e = text_both a b fit fit' e
  values_once t.Bytes (v.Bytes a) b fit fit' e = bytes_both a b fit fit' e
  values_once t.Date (v.Date a) b fit fit' e = date_both a b fit fit' e
  values_once (t.Array part) (v.Array xs) b fit fit' e = array_both part xs b fit fit' e
  values_once (t.Struct fs) (v.Struct xs) b fit fit' e = struct_both fs xs b fit fit' e
  values_once parts v.Null b fit fit' e = null_once (bare parts) b r s fit' e
  values_once _ _ b fit fit' e = absurd (false≢true fit)

front_step : (parts : t.SqlType-F With) → Front (roll-SqlType (bare parts))
front_step parts x y r s fit fit' stop stop' e =
    let level : (z : Value) → fits (roll-SqlType (bare parts)) z ≡ true → fits_at (bare parts) (out-Value z) ≡ true =
    λ z is. ap (λ l. fits_at l (out-Value z)) (sym (out-roll-SqlType (bare parts))) ∙ sym (fits_opens (roll-SqlType (bare parts)) z) ∙ is in
    let same = values_once r s stop stop' parts (out-Value x) (out-Value y) (level x fit) (level y fit')
    (ap (λ l. l ++ r) (sym (literal_opens x)) ∙ e ∙ ap (λ l. l ++ s) (literal_opens y)) in
    (sym (roll-out-Value x) ∙ ap roll-Value same.0 ∙ roll-out-Value y, same.1)

pub literal_once : (ty : SqlType) → Front ty
literal_once = ind-SqlType Front (λ ty parts is. subst (λ l. Front (roll-SqlType l)) is (front_step parts))

-- the literal of a value of a type is that of no other value of the type
pub text_of_one : (ty : SqlType) (x y : Value) → fits ty x ≡ true → fits ty y ≡ true → LiteralText x ≡ LiteralText y → x ≡ y
text_of_one ty x y fit fit' e = (literal_once ty x y [] [] fit fit' refl refl (ap (λ l. l ++ []) e)).0
