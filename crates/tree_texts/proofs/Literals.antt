-- A literal and its type: where both end, and which they are. The literal stands before its type, so its text comes first.
use Rattle.std.proofs.Common.{◌≡◌, ℕ, suc, ◌<◌, ◌^◌, ℤ, pos, negsuc, Bool, true, false, ◌==◌, if◌then◌else◌, List, [], ◌∷◌, ◌++◌, map, codes, decimal, refl, ap, sym, subst, ◌∙◌, append_assoc, arith}
use Rattle.std.specs.Char.{is_ascii_digit}
use Rattle.std.specs.Fmt.{signed_decimal}
use Rattle.std.specs.List.{list_all}
use Rattle.std.proofs.lemmas.Bool.{false≢true, and_parts}
use Rattle.std.proofs.lemmas.Grind.{common_steps}
use Rattle.sql_names.specs.Commas.{joined}
use Rattle.sql_names.specs.Spelling.{is_inner}
use Rattle.sql_types.specs.Fits.{fits, fits_row}
use Rattle.sql_types.specs.TypeText.{type_text}
use Rattle.sql_types.specs.declared.sql_type.Named.{Named}
use Rattle.sql_types.specs.declared.sql_type.SqlType.{SqlType, out-SqlType}
use Rattle.sql_types.specs.declared.sql_type.SqlType.TheOpen as t
use Rattle.sql_types.specs.declared.value.Value.{Value, map-Value, out-Value, roll-Value, out-roll-Value, ind-Value}
use Rattle.sql_types.specs.declared.value.Value.TheOpen as v
use Rattle.sql_types.proofs.ValueOpens.{fits_at, fits_opens}
use Rattle.sql_ast.specs.Literals.{LiteralText, truth_text, quote_bytes, quote_date}
use Rattle.sql_names.specs.Spelling.{quote_text}
use Rattle.sql_texts.proofs.Fronts.{text_of_one}
use Rattle.sql_texts.proofs.Lists.{literal_first}
use Rattle.sql_texts.proofs.Numbers.{stops, first_of, Digits, decimal_digits}
use Rattle.sql_texts.proofs.Openings.{literal_at, literal_opens, opening, IsSmall, int_small, uint_small}
use Rattle.sql_texts.proofs.PlainValues.{truth_once, quoted_once, bytes_quoted_once, day_once}
use Rattle.tree_texts.proofs.Joins.{after, Each, joined_once}
use Rattle.tree_texts.proofs.Runs.{ends, run_once}
use Rattle.tree_texts.proofs.Types.{type_once}

-- ---- numbers, of INT64 as of UINT64

abbrev sign : Bool → List ℕ
sign true = 45 ∷ []
sign false = []

abbrev Number : List ℕ → Type 0
Number text = (minus : Bool) × ((ds : List ℕ) × (Digits ds × (text ≡ sign minus ++ ds)))

int_number : (n : ℤ) → IsSmall n → Number (signed_decimal n)
int_number (pos n) small = (false, (decimal n, (decimal_digits n small, refl)))
int_number (negsuc n) small = (true, (decimal (suc n), (decimal_digits (suc n) small, refl)))

uint_number : (n : ℕ) → n < 2 ^ 64 → Number (decimal n)
uint_number n small = (false, (decimal n, (decimal_digits n small, refl)))

stops_ends : (r : List ℕ) → stops r ≡ true → ends is_ascii_digit r ≡ true
stops_ends [] stop = refl
stops_ends (c ∷ r) stop = stop

minus_apart : (xs ys r s : List ℕ) → Digits xs → xs ++ r ≡ 45 ∷ (ys ++ s) → true ≡ false
minus_apart xs ys r s digits e = sym (digits.1 r) ∙ ap (λ z. is_ascii_digit (first_of z)) e

signed_once : (m n : Bool) (xs ys r s : List ℕ) → Digits xs → Digits ys → stops r ≡ true → stops s ≡ true → (sign m ++ xs) ++ r ≡ (sign n ++ ys) ++ s → (sign m ++ xs ≡ sign n ++ ys) × (r ≡ s)
signed_once false false xs ys r s d d' stop stop' e = run_once is_ascii_digit xs ys r s d.0 d'.0 (stops_ends r stop) (stops_ends s stop') e
signed_once false true xs ys r s d d' stop stop' e = absurd (false≢true (sym (minus_apart xs ys r s d e)))
signed_once true false xs ys r s d d' stop stop' e = absurd (false≢true (sym (minus_apart ys xs s r d' (sym e))))
signed_once true true xs ys r s d d' stop stop' e =
    let behind : xs ++ r ≡ ys ++ s = cc in
    let same = run_once is_ascii_digit xs ys r s d.0 d'.0 (stops_ends r stop) (stops_ends s stop') behind in
    (ap (λ z. 45 ∷ z) same.0, same.1)

number_once : (a b r s : List ℕ) → Number a → Number b → stops r ≡ true → stops s ≡ true → a ++ r ≡ b ++ s → (a ≡ b) × (r ≡ s)
number_once a b r s x y stop stop' e =
    let same = signed_once x.0 y.0 x.1.0 y.1.0 r s x.1.1.0 y.1.1.0 stop stop' (ap (λ z. z ++ r) (sym x.1.1.1) ∙ e ∙ ap (λ z. z ++ s) y.1.1.1) in
    (x.1.1.1 ∙ same.0 ∙ sym y.1.1.1, same.1)

-- ---- the first byte tells the kind of a value

abbrev kind : {A : Type 0} → v.Value-F A → ℕ
kind v.Null = 0
kind (v.Bool truth) = 1
kind (v.Int n) = 2
kind (v.Uint n) = 2
kind (v.Text text) = 3
kind (v.Bytes bytes) = 4
kind (v.Date day) = 5
kind (v.Array xs) = 6
kind (v.Struct xs) = 7

abbrev kind_at : ℕ → ℕ
kind_at c =
    if c == 78 then 0 else if c == 84 then 1 else if c == 70 then 1 else if c == 34 then 3 else if c == 98 then 4 else
    if c == 68 then 5 else if c == 91 then 6 else if c == 83 then 7 else 2

digit_kind : (c : ℕ) → is_ascii_digit c ≡ true → kind_at c ≡ 2
digit_kind c is = grind (arith, common_steps)

signed_kind : (n : ℤ) (r : List ℕ) → IsSmall n → kind_at (first_of (signed_decimal n ++ r)) ≡ 2
signed_kind (pos n) r small = digit_kind (first_of (decimal n ++ r)) ((decimal_digits n small).1 r)
signed_kind (negsuc n) r small = refl

kind_first : (form : t.SqlType-F SqlType) (a : v.Value-F Value) (r : List ℕ) → fits_at form a ≡ true → kind_at (first_of (literal_at a ++ r)) ≡ kind a
kind_first form v.Null r fit = refl
kind_first form (v.Bool true) r fit = refl
kind_first form (v.Bool false) r fit = refl
kind_first form (v.Int n) r fit = signed_kind n r (int_small form n fit)
kind_first form (v.Uint n) r fit = digit_kind (first_of (decimal n ++ r)) ((decimal_digits n (uint_small form n fit)).1 r)
kind_first form (v.Text text) r fit = refl
kind_first form (v.Bytes bytes) r fit = refl
kind_first form (v.Date day) r fit = refl
kind_first form (v.Array xs) r fit = refl
kind_first form (v.Struct xs) r fit = refl

-- ---- values that fit some types

abbrev SomeFit : Value → Type 0
SomeFit x = (ty : SqlType) × (fits ty x ≡ true)

abbrev Told : Value → Type 0
Told x = (y : Value) (r s : List ℕ) → SomeFit x → SomeFit y → stops r ≡ true → stops s ≡ true → LiteralText x ++ r ≡ LiteralText y ++ s → (LiteralText x ≡ LiteralText y) × (r ≡ s)

abbrev With : Type 0
With = (x : Value) × Told x

abbrev bare : List With → List Value
bare = map (λ e. e.0)

each_fit : (ty : SqlType) (xs : List Value) → list_all (fits ty) xs ≡ true → Each SomeFit xs
each_fit ty [] all = tt
each_fit ty (x ∷ xs) all = let both = and_parts (fits ty x) (list_all (fits ty) xs) all in ((ty, both.0), each_fit ty xs both.1)

row_fit : (fs : List (Named SqlType)) (xs : List Value) → fits_row fs xs ≡ true → Each SomeFit xs
row_fit fs [] all = tt
row_fit [] (x ∷ xs) all = absurd (false≢true all)
row_fit (f ∷ fs) (x ∷ xs) all = let both = and_parts (fits f.ty x) (fits_row fs xs) all in ((f.ty, both.0), row_fit fs xs both.1)

elements_fit : (form : t.SqlType-F SqlType) (xs : List Value) → fits_at form (v.Array xs) ≡ true → Each SomeFit xs
elements_fit (t.Array ty) xs fit = each_fit ty xs fit
elements_fit _ xs fit = absurd (false≢true fit)

fields_fit : (form : t.SqlType-F SqlType) (xs : List Value) → fits_at form (v.Struct xs) ≡ true → Each SomeFit xs
fields_fit (t.Struct fs) xs fit = row_fit fs xs fit
fields_fit _ xs fit = absurd (false≢true fit)

-- ---- lists of literals

not_closing : (c : ℕ) → opening c ≡ true → ((c == 93) ≡ false) × ((c == 41) ≡ false)
not_closing c is = (grind (arith, common_steps), grind (arith, common_steps))

module _ (z : ℕ) (no_comma : (44 == z) ≡ false) (closing : (c : ℕ) → opening c ≡ true → (c == z) ≡ false) (after_stops : (r : List ℕ) → after z r ≡ true → stops r ≡ true) where
  abbrev JoinLaw : Value → Type 0
  JoinLaw x = (y : Value) (r s : List ℕ) → SomeFit y → after z r ≡ true → after z s ≡ true → LiteralText x ++ r ≡ LiteralText y ++ s → (LiteralText x ≡ LiteralText y) × (r ≡ s)

  laws : (xs : List With) → Each SomeFit (bare xs) → Each JoinLaw (bare xs)
  laws [] fit = tt
  laws (x ∷ xs) fit = (λ y r s fit' stop stop' e. x.1 y r s fit.0 fit' (after_stops r stop) (after_stops s stop') e, laws xs fit.1)

  list_once : (xs : List With) (ys : List Value) (r s : List ℕ) → Each SomeFit (bare xs) → Each SomeFit ys → joined (map LiteralText (bare xs)) ++ z ∷ r ≡ joined (map LiteralText ys) ++ z ∷ s
      → (map LiteralText (bare xs) ≡ map LiteralText ys) × (r ≡ s)
  list_once xs ys r s fit fit' e =
      joined_once LiteralText LiteralText SomeFit z no_comma (λ x r f. closing (first_of (LiteralText x ++ r)) (literal_first f.0 x r f.1)) (bare xs) ys r s (laws xs fit) fit fit' e

square_stops : (r : List ℕ) → after 93 r ≡ true → stops r ≡ true
square_stops [] stop = refl
square_stops (c ∷ r) stop = grind (arith, common_steps)

round_stops : (r : List ℕ) → after 41 r ≡ true → stops r ≡ true
round_stops [] stop = refl
round_stops (c ∷ r) stop = grind (arith, common_steps)

closed : (front p r : List ℕ) (z : ℕ) → ((front ++ p) ++ z ∷ []) ++ r ≡ front ++ (p ++ z ∷ r)
closed front p r z = append_assoc (front ++ p) (z ∷ []) r ∙ append_assoc front p (z ∷ r)

-- ---- one level

abbrev Same : v.Value-F Value → v.Value-F Value → List ℕ → List ℕ → Type 0
Same a b r s = literal_at a ++ r ≡ literal_at b ++ s → (literal_at a ≡ literal_at b) × (r ≡ s)

null_by : (b : v.Value-F Value) (r s : List ℕ) → 0 ≡ kind b → Same v.Null b r s
null_by v.Null r s is e = (refl, cc)
null_by _ r s is e = absurd cc

bool_by : (a : Bool) (b : v.Value-F Value) (r s : List ℕ) → 1 ≡ kind b → Same (v.Bool a) b r s
bool_by a (v.Bool b) r s is e = let same = truth_once a b r s e in (ap truth_text same.0, same.1)
bool_by a _ r s is e = absurd cc

number_by : (a : v.Value-F Value) (b : v.Value-F Value) (form : t.SqlType-F SqlType) (r s : List ℕ) → Number (literal_at a) → fits_at form b ≡ true → stops r ≡ true → stops s ≡ true → 2 ≡ kind b → Same a b r s
number_by a (v.Int n) form r s x fit stop stop' is e = number_once (literal_at a) (signed_decimal n) r s x (int_number n (int_small form n fit)) stop stop' e
number_by a (v.Uint n) form r s x fit stop stop' is e = number_once (literal_at a) (decimal n) r s x (uint_number n (uint_small form n fit)) stop stop' e
number_by a _ form r s x fit stop stop' is e = absurd cc

text_by : (a : List ℕ) (b : v.Value-F Value) (r s : List ℕ) → 3 ≡ kind b → Same (v.Text a) b r s
text_by a (v.Text b) r s is e = let same = quoted_once a b r s e in (ap quote_text same.0, same.1)
text_by a _ r s is e = absurd cc

bytes_by : (a : List ℕ) (b : v.Value-F Value) (r s : List ℕ) → 4 ≡ kind b → Same (v.Bytes a) b r s
bytes_by a (v.Bytes b) r s is e = let same = bytes_quoted_once a b r s e in (ap quote_bytes same.0, same.1)
bytes_by a _ r s is e = absurd cc

day_fits : (form : t.SqlType-F SqlType) (day : ℤ) → fits_at form (v.Date day) ≡ true → fits_at t.Date (v.Date day) ≡ true
day_fits t.Date day fit = fit
day_fits _ day fit = absurd (false≢true fit)

date_by : (a : ℤ) (b : v.Value-F Value) (form other : t.SqlType-F SqlType) (r s : List ℕ) → fits_at form (v.Date a) ≡ true → fits_at other b ≡ true → 5 ≡ kind b → Same (v.Date a) b r s
date_by a (v.Date b) form other r s fit fit' is e = let same = day_once a b r s (day_fits form a fit) (day_fits other b fit') e in (ap quote_date same.0, same.1)
date_by a _ form other r s fit fit' is e = absurd cc

array_by : (xs : List With) (b : v.Value-F Value) (form other : t.SqlType-F SqlType) (r s : List ℕ) → fits_at form (v.Array (bare xs)) ≡ true → fits_at other b ≡ true → 6 ≡ kind b → Same (v.Array (bare xs)) b r s
array_by xs (v.Array ys) form other r s fit fit' is e =
    let p = joined (map LiteralText (bare xs)) in
    let q = joined (map LiteralText ys) in
    let opened : 91 ∷ (p ++ 93 ∷ r) ≡ 91 ∷ (q ++ 93 ∷ s) = sym (closed (codes "[") p r 93) ∙ e ∙ closed (codes "[") q s 93 in
    let behind : p ++ 93 ∷ r ≡ q ++ 93 ∷ s = cc in
    let same = list_once 93 refl (λ c is. (not_closing c is).0) square_stops xs ys r s (elements_fit form (bare xs) fit) (elements_fit other ys fit') behind in
    (ap (λ l. (codes "[" ++ joined l) ++ codes "]") same.0, same.1)
array_by xs _ form other r s fit fit' is e = absurd cc

struct_by : (xs : List With) (b : v.Value-F Value) (form other : t.SqlType-F SqlType) (r s : List ℕ) → fits_at form (v.Struct (bare xs)) ≡ true → fits_at other b ≡ true → 7 ≡ kind b → Same (v.Struct (bare xs)) b r s
struct_by xs (v.Struct ys) form other r s fit fit' is e =
    let p = joined (map LiteralText (bare xs)) in
    let q = joined (map LiteralText ys) in
    let opened : codes "STRUCT(" ++ (p ++ 41 ∷ r) ≡ codes "STRUCT(" ++ (q ++ 41 ∷ s) = sym (closed (codes "STRUCT(") p r 41) ∙ e ∙ closed (codes "STRUCT(") q s 41 in
    let behind : p ++ 41 ∷ r ≡ q ++ 41 ∷ s = cc in
    let same = list_once 41 refl (λ c is. (not_closing c is).1) round_stops xs ys r s (fields_fit form (bare xs) fit) (fields_fit other ys fit') behind in
    (ap (λ l. (codes "STRUCT(" ++ joined l) ++ codes ")") same.0, same.1)
struct_by xs _ form other r s fit fit' is e = absurd cc

abbrev bare_value : v.Value-F With → v.Value-F Value
bare_value = map-Value With Value (λ e. e.0)

level_by : (parts : v.Value-F With) (b : v.Value-F Value) (form other : t.SqlType-F SqlType) (r s : List ℕ) → fits_at form (bare_value parts) ≡ true → fits_at other b ≡ true → stops r ≡ true → stops s ≡ true
    → kind (bare_value parts) ≡ kind b → Same (bare_value parts) b r s
level_by v.Null b form other r s fit fit' stop stop' is e = null_by b r s is e
level_by (v.Bool a) b form other r s fit fit' stop stop' is e = bool_by a b r s is e
level_by (v.Int n) b form other r s fit fit' stop stop' is e = number_by (v.Int n) b other r s (int_number n (int_small form n fit)) fit' stop stop' is e
level_by (v.Uint n) b form other r s fit fit' stop stop' is e = number_by (v.Uint n) b other r s (uint_number n (uint_small form n fit)) fit' stop stop' is e
level_by (v.Text a) b form other r s fit fit' stop stop' is e = text_by a b r s is e
level_by (v.Bytes a) b form other r s fit fit' stop stop' is e = bytes_by a b r s is e
level_by (v.Date a) b form other r s fit fit' stop stop' is e = date_by a b form other r s fit fit' is e
level_by (v.Array xs) b form other r s fit fit' stop stop' is e = array_by xs b form other r s fit fit' is e
level_by (v.Struct xs) b form other r s fit fit' stop stop' is e = struct_by xs b form other r s fit fit' is e

level_once : (parts : v.Value-F With) (b : v.Value-F Value) (form other : t.SqlType-F SqlType) (r s : List ℕ) → fits_at form (bare_value parts) ≡ true → fits_at other b ≡ true → stops r ≡ true → stops s ≡ true
    → Same (bare_value parts) b r s
level_once parts b form other r s fit fit' stop stop' e =
    level_by parts b form other r s fit fit' stop stop' (sym (kind_first form (bare_value parts) r fit) ∙ ap (λ z. kind_at (first_of z)) e ∙ kind_first other b s fit') e

step : (parts : v.Value-F With) → Told (roll-Value (bare_value parts))
step parts y r s fit fit' stop stop' e =
    let x = roll-Value (bare_value parts) in
    let level = out-roll-Value (bare_value parts) in
    let same = level_once parts (out-Value y) (out-SqlType fit.0) (out-SqlType fit'.0) r s
    (ap (fits_at (out-SqlType fit.0)) (sym level) ∙ sym (fits_opens fit.0 x) ∙ fit.1) (sym (fits_opens fit'.0 y) ∙ fit'.1) stop stop'
    (ap (λ a. literal_at a ++ r) (sym level) ∙ ap (λ z. z ++ r) (sym (literal_opens x)) ∙ e ∙ ap (λ z. z ++ s) (literal_opens y)) in
    (literal_opens x ∙ ap literal_at level ∙ same.0 ∙ sym (literal_opens y), same.1)

texts_once : (x : Value) → Told x
texts_once = ind-Value Told (λ x parts is. subst (λ l. Told (roll-Value l)) is (step parts))

-- a literal, a space and its type
pub literal_once : (x y : Value) (a b : SqlType) (r s : List ℕ) → fits a x ≡ true → fits b y ≡ true → ends is_inner r ≡ true → ends is_inner s ≡ true
    → (LiteralText x ++ 32 ∷ type_text a) ++ r ≡ (LiteralText y ++ 32 ∷ type_text b) ++ s → (x ≡ y) × ((a ≡ b) × (r ≡ s))
literal_once x y a b r s fit fit' stop stop' e =
    let values = texts_once x y (32 ∷ (type_text a ++ r)) (32 ∷ (type_text b ++ s)) (a, fit) (b, fit') refl refl
    (sym (append_assoc (LiteralText x) (32 ∷ type_text a) r) ∙ e ∙ append_assoc (LiteralText y) (32 ∷ type_text b) s) in
    let spaced : 32 ∷ (type_text a ++ r) ≡ 32 ∷ (type_text b ++ s) = values.1 in
    let behind : type_text a ++ r ≡ type_text b ++ s = cc in
    let types = type_once a b r s stop stop' behind in
    (text_of_one b x y (ap (λ z. fits z x) (sym types.0) ∙ fit) fit' values.0, types)
