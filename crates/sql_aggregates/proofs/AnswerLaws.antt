-- What an aggregate answers fits the type of its answer.
use Rattle.std.proofs.Common.{◌≡◌, ℕ, zero, suc, ◌<◌, ℤ, pos, negsuc, Bool, true, false, ◌&&◌, List, [], ◌∷◌, ◌++◌, map, length, take, Option, None, Some, Ok, Err, refl, ap, sym, ◌∙◌, subst, arith, ltb-true}
use Rattle.std.specs.Prelude.{IfOk, nat_lt, if◌then◌else◌}
use Rattle.std.specs.List.{Contains, list_all}
use Rattle.std.specs.Str.{IsUtf8}
use Rattle.std.specs.declared.cmp.Ordering.{Ordering}
use Rattle.std.specs.declared.cmp.Ordering.TheVariants.{Less, Equal, Greater}
use Rattle.std.proofs.lemmas.Bool.{false≢true}
use Rattle.std.proofs.lemmas.Grind.{common_steps}
use Rattle.std.proofs.lemmas.Str.{IsUtf8-append, IsUtf8-nil, IsUtf8-from_is_utf8, is_utf8-from_IsUtf8}
use Rattle.sql_types.specs.declared.sql_type.SqlType.{SqlType, out-SqlType, map-SqlType}
use Rattle.sql_types.specs.declared.sql_type.SqlType.TheVariants as ty
use Rattle.sql_types.specs.declared.sql_type.SqlType.TheOpen as t
use Rattle.sql_types.specs.declared.value.Value.{Value, out-Value}
use Rattle.sql_types.specs.declared.value.Value.TheVariants as value
use Rattle.sql_types.specs.declared.value.Value.TheOpen as v
use Rattle.sql_types.specs.declared.fault.FaultKind.TheVariants as fault
use Rattle.sql_types.specs.Before.{is_null, order}
use Rattle.sql_types.specs.Fits.{fits, fits_layer, within}
use Rattle.sql_types.specs.Outcome.{Outcome}
use Rattle.sql_types.specs.Takes.{content, content_layer, fits_types, count_value, as_int64, as_uint64}
use Rattle.sql_types.proofs.Opens.{fits-opens}
use Rattle.sql_types.proofs.TestParts.{first as left_of, second as right_of}
use Rattle.sql_types.proofs.ValueOpens.{fits_at, fits_by}
use Rattle.sql_aggregates.specs.declared.call.AggName.{AggName}
use Rattle.sql_aggregates.specs.declared.call.AggName.TheVariants as name
use Rattle.sql_aggregates.specs.declared.call.AggCall.{AggCall}
use Rattle.sql_aggregates.specs.AnswerTypes.{answer_type}
use Rattle.sql_aggregates.specs.Lists.{first, skips, null_argument, without_nulls, kept, limited, GoesOver}
use Rattle.sql_aggregates.specs.Calls.{Addable, AllAddable, TakesTypes, takes_rows, takes_any, takes_truths, takes_signed, takes_unsigned, takes_least, takes_greatest, takes_and, takes_or, takes_texts, takes_separator, takes_elements, takes_one}
use Rattle.sql_aggregates.specs.Aggregates.{total, is_unsigned, sum, lesser, greater, best, best_of, first_of, truth_on, all_of, some_of, separator, continued, joined, arguments, joined_lists, array_of, answer, AggMeans}
use Rattle.sql_aggregates.proofs.ChoosingLaws.{in_permuted, in_chosen, gone_over}
use Rattle.sql_aggregates.proofs.AddableLaws.{is_texts}

-- a value fits the type; a fault is no value
abbrev pub Gives : SqlType → Outcome Value → Type 0
Gives type outcome = IfOk outcome (λ x. fits type x ≡ true)

null_fits : (type : SqlType) → fits type value.Null ≡ true
null_fits type = fits-opens type value.Null ∙ ap (fits_layer (map-SqlType SqlType (Value → Bool) fits (out-SqlType type))) value.outs-Null

both : (a b : Bool) → a ≡ true → b ≡ true → (a && b) ≡ true
both a b e f = ap (λ x. x && b) e ∙ f

-- ---- counts and totals

int_by : (n : ℤ) (b : Bool) → (b ≡ true → within (negsuc 9223372036854775807) (pos 9223372036854775807) n ≡ true) → Gives ty.Int64 (if b then Ok (value.Int n) else Err fault.OutOfRange)
int_by n true is = fits_by ty.Int64 (value.Int n) t.Int64 (v.Int n) ty.outs-Int64 (value.outs-Int n) ∙ is refl
int_by n false is = tt

int64_gives : (n : ℤ) → Gives ty.Int64 (as_int64 n)
int64_gives n = int_by n (within (negsuc 9223372036854775807) (pos 9223372036854775807) n) (λ is. is)

count_within : (n : ℕ) → nat_lt n 9223372036854775808 ≡ true → within (negsuc 9223372036854775807) (pos 9223372036854775807) (pos n) ≡ true
count_within n is = let below : n < 9223372036854775808 = ltb-true n 9223372036854775808 is in grind (arith, common_steps)

count_gives : (n : ℕ) → Gives ty.Int64 (count_value n)
count_gives n = int_by (pos n) (nat_lt n 9223372036854775808) (count_within n)

uint_by : (n : ℕ) (b : Bool) → nat_lt n 18446744073709551616 ≡ b → Gives ty.Uint64 (if b then Ok (value.Uint n) else Err fault.OutOfRange)
uint_by n true is = fits_by ty.Uint64 (value.Uint n) t.Uint64 (v.Uint n) ty.outs-Uint64 (value.outs-Uint n) ∙ is
uint_by n false is = tt

uint64_gives : (n : ℤ) → Gives ty.Uint64 (as_uint64 n)
uint64_gives (pos n) = uint_by n (nat_lt n 18446744073709551616) refl
uint64_gives (negsuc n) = tt

signed_form : (x : v.Value-F Value) → fits_at t.Int64 x ≡ true → is_unsigned x ≡ false
signed_form (v.Uint n) fit = absurd (false≢true fit)
signed_form _ fit = refl

unsigned_form : (x : v.Value-F Value) → fits_at t.Uint64 x ≡ true → is_null x ≡ false → is_unsigned x ≡ true
unsigned_form (v.Uint n) fit some = refl
unsigned_form v.Null fit some = sym some
unsigned_form _ fit some = fit

-- the form of a value that fits a type
at_form : (type : SqlType) (form : t.SqlType-F SqlType) (x : Value) → out-SqlType type ≡ form → fits type x ≡ true → fits_at form (out-Value x) ≡ true
at_form type form x is fit = sym (fits_by type x form (out-Value x) is refl) ∙ fit

sum_by : (type : SqlType) (n : ℤ) (b c : Bool) → b ≡ c → Gives type (elim c [ true ↦ as_uint64 n | false ↦ as_int64 n ]) → Gives type (elim b [ true ↦ as_uint64 n | false ↦ as_int64 n ])
sum_by type n b c is gives = subst (λ (z : Bool). Gives type (elim z [ true ↦ as_uint64 n | false ↦ as_int64 n ])) (sym is) gives

signed_sum : (sorts : List SqlType) (lists : List (List Value)) → ((one : List Value) → Contains lists one → fits_types (ty.Int64 ∷ sorts) one ≡ true) → Gives ty.Int64 (sum (map first lists))
signed_sum sorts [] fit = null_fits ty.Int64
signed_sum sorts ([] ∷ lists) fit = absurd (false≢true (fit [] (0, omega arith, refl)))
signed_sum sorts ((x ∷ xs) ∷ lists) fit =
    let here : fits ty.Int64 x ≡ true = left_of _ _ (fit (x ∷ xs) (0, omega arith, refl)) in
    sum_by ty.Int64 (total (map first ((x ∷ xs) ∷ lists))) (is_unsigned (out-Value x)) false (signed_form (out-Value x) (at_form ty.Int64 t.Int64 x ty.outs-Int64 here)) (int64_gives (total (map first ((x ∷ xs) ∷ lists))))

unsigned_sum : (sorts : List SqlType) (lists : List (List Value)) → ((one : List Value) → Contains lists one → fits_types (ty.Uint64 ∷ sorts) one ≡ true) → ((one : List Value) → Contains lists one → null_argument one ≡ false) → Gives ty.Uint64 (sum (map first lists))
unsigned_sum sorts [] fit some = null_fits ty.Uint64
unsigned_sum sorts ([] ∷ lists) fit some = absurd (false≢true (fit [] (0, omega arith, refl)))
unsigned_sum sorts ((x ∷ xs) ∷ lists) fit some =
    let here : fits ty.Uint64 x ≡ true = left_of _ _ (fit (x ∷ xs) (0, omega arith, refl)) in
    sum_by ty.Uint64 (total (map first ((x ∷ xs) ∷ lists))) (is_unsigned (out-Value x)) true
    (unsigned_form (out-Value x) (at_form ty.Uint64 t.Uint64 x ty.outs-Uint64 here) (some (x ∷ xs) (0, omega arith, refl)))
    (uint64_gives (total (map first ((x ∷ xs) ∷ lists))))

-- ---- one of the values

either : (s : SqlType) (o : Ordering) (x y : Value) → fits s x ≡ true → fits s y ≡ true → (fits s (elim o [ Less ↦ y | Equal ↦ x | Greater ↦ x ]) ≡ true) × (fits s (elim o [ Greater ↦ y | Equal ↦ x | Less ↦ x ]) ≡ true)
either s Less x y fit other = (other, fit)
either s Equal x y fit other = (fit, fit)
either s Greater x y fit other = (fit, other)

best_fits : (s : SqlType) (choose : Value → Value → Value) → ((x y : Value) → fits s x ≡ true → fits s y ≡ true → fits s (choose x y) ≡ true) → (x : Value) (xs : List Value) → fits s x ≡ true → list_all (fits s) xs ≡ true → fits s (best choose x xs) ≡ true
best_fits s choose keeps x [] fit all = fit
best_fits s choose keeps x (y ∷ ys) fit all = best_fits s choose keeps (choose x y) ys (keeps x y fit (left_of _ _ all)) (right_of _ _ all)

best_of_fits : (s : SqlType) (choose : Value → Value → Value) → ((x y : Value) → fits s x ≡ true → fits s y ≡ true → fits s (choose x y) ≡ true) → (xs : List Value) → list_all (fits s) xs ≡ true → fits s (best_of choose xs) ≡ true
best_of_fits s choose keeps [] all = null_fits s
best_of_fits s choose keeps (x ∷ xs) all = best_fits s choose keeps x xs (left_of _ _ all) (right_of _ _ all)

first_of_fits : (s : SqlType) (xs : List Value) → list_all (fits s) xs ≡ true → fits s (first_of xs) ≡ true
first_of_fits s [] all = null_fits s
first_of_fits s (x ∷ xs) all = left_of _ _ all

-- ---- truth values, arrays and texts

truth_fits : (holds : List Value → Bool) (xs : List Value) → fits ty.Bool (truth_on holds xs) ≡ true
truth_fits holds [] = null_fits ty.Bool
truth_fits holds (x ∷ xs) = fits_by ty.Bool (value.Bool (holds (x ∷ xs))) t.Bool (v.Bool (holds (x ∷ xs))) ty.outs-Bool (value.outs-Bool (holds (x ∷ xs)))

array_fits : (s : SqlType) (xs : List Value) → list_all (fits s) xs ≡ true → fits (ty.Array s) (array_of xs) ≡ true
array_fits s [] all = null_fits (ty.Array s)
array_fits s (x ∷ xs) all = fits_by (ty.Array s) (value.Array (x ∷ xs)) (t.Array s) (v.Array (x ∷ xs)) (ty.outs-Array s) (value.outs-Array (x ∷ xs)) ∙ all

text_form : (x : v.Value-F Value) → fits_at t.Text x ≡ true → IsUtf8 (content_layer x)
text_form (v.Text text) fit = IsUtf8-from_is_utf8 text fit
text_form (v.Bytes bytes) fit = absurd (false≢true fit)
text_form _ fit = IsUtf8-nil

content_utf8 : (x : Value) → fits ty.Text x ≡ true → IsUtf8 (content x)
content_utf8 x fit = text_form (out-Value x) (at_form ty.Text t.Text x ty.outs-Text fit)

continued_utf8 : (s : List ℕ) (xs : List Value) → IsUtf8 s → list_all (fits ty.Text) xs ≡ true → IsUtf8 (continued s xs)
continued_utf8 s [] text all = IsUtf8-nil
continued_utf8 s (x ∷ xs) text all = IsUtf8-append (s ++ content x) (continued s xs) (IsUtf8-append s (content x) text (content_utf8 x (left_of _ _ all))) (continued_utf8 s xs text (right_of _ _ all))

text_by : (b : Bool) (text : List ℕ) → IsUtf8 text → fits ty.Text (elim b [ true ↦ value.Null | false ↦ value.Text text ]) ≡ true
text_by true text is = null_fits ty.Text
text_by false text is = fits_by ty.Text (value.Text text) t.Text (v.Text text) ty.outs-Text (value.outs-Text text) ∙ is_utf8-from_IsUtf8 text is

joined_fits : (s : Value) (xs : List Value) → fits ty.Text s ≡ true → list_all (fits ty.Text) xs ≡ true → fits ty.Text (joined s xs) ≡ true
joined_fits s [] fit all = null_fits ty.Text
joined_fits s (x ∷ xs) fit all =
    text_by (is_null (out-Value s)) (content x ++ continued (content s) xs) (IsUtf8-append (content x) (continued (content s) xs) (content_utf8 x (left_of _ _ all)) (continued_utf8 (content s) xs (content_utf8 s fit) (right_of _ _ all)))

joined_lists_fits : (sorts : ℕ) (lists : List (List Value)) → list_all (fits ty.Text) (map first lists) ≡ true → ((one : List Value) → Contains lists one → fits ty.Text (separator (arguments sorts one)) ≡ true) → fits ty.Text (joined_lists sorts lists) ≡ true
joined_lists_fits sorts [] all separators = null_fits ty.Text
joined_lists_fits sorts (list ∷ lists) all separators = joined_fits (separator (arguments sorts list)) (map first (list ∷ lists)) (separators list (0, omega arith, refl)) all

-- ---- the rows

first_fits : (s : SqlType) (types : List SqlType) (one : List Value) → fits_types (s ∷ types) one ≡ true → fits s (first one) ≡ true
first_fits s types [] fit = absurd (false≢true fit)
first_fits s types (x ∷ xs) fit = left_of _ _ fit

firsts_fit : (s : SqlType) (types : List SqlType) (lists : List (List Value)) → ((one : List Value) → Contains lists one → fits_types (s ∷ types) one ≡ true) → list_all (fits s) (map first lists) ≡ true
firsts_fit s types [] fit = refl
firsts_fit s types (list ∷ lists) fit =
    both (fits s (first list)) (list_all (fits s) (map first lists)) (first_fits s types list (fit list (0, omega arith, refl))) (firsts_fit s types lists (λ one c. fit one (suc c.0, omega (arith, c.1), c.2)))

-- lists that fit, without NULL for a total, and with texts between where texts are joined
record Given (n : AggName) (types sort_types : List SqlType) (sorts : ℕ) (lists : List (List Value)) : Type 0 where
  fit : (one : List Value) → Contains lists one → fits_types (types ++ sort_types) one ≡ true
  some : n ≡ name.Sum → (one : List Value) → Contains lists one → null_argument one ≡ false
  separators : n ≡ name.StringAgg → (one : List Value) → Contains lists one → fits ty.Text (separator (arguments sorts one)) ≡ true

row_gives : (n : AggName) (types sort_types : List SqlType) (sorts : ℕ) (lists : List (List Value)) → TakesTypes n types → Given n types sort_types sorts lists → Gives (answer_type n types) (answer n sorts lists)
row_gives n types sort_types sorts lists takes_rows given = count_gives (length lists)
row_gives n types sort_types sorts lists takes_any given = count_gives (length lists)
row_gives n types sort_types sorts lists takes_truths given = count_gives _
row_gives n types sort_types sorts lists takes_signed given = signed_sum sort_types lists given.fit
row_gives n types sort_types sorts lists takes_unsigned given = unsigned_sum sort_types lists given.fit (given.some refl)
row_gives n types sort_types sorts lists (takes_least {any} orders) given =
    best_of_fits any lesser (λ x y fit other. (either any (order y x) x y fit other).0) (map first lists) (firsts_fit any sort_types lists given.fit)
row_gives n types sort_types sorts lists (takes_greatest {any} orders) given =
    best_of_fits any greater (λ x y fit other. (either any (order y x) x y fit other).1) (map first lists) (firsts_fit any sort_types lists given.fit)
row_gives n types sort_types sorts lists takes_and given = truth_fits all_of (map first lists)
row_gives n types sort_types sorts lists takes_or given = truth_fits some_of (map first lists)
row_gives n types sort_types sorts lists takes_texts given = joined_lists_fits sorts lists (firsts_fit ty.Text sort_types lists given.fit) (given.separators refl)
row_gives n types sort_types sorts lists takes_separator given = joined_lists_fits sorts lists (firsts_fit ty.Text (ty.Text ∷ sort_types) lists given.fit) (given.separators refl)
row_gives n types sort_types sorts lists (takes_elements {any} flat) given = array_fits any (map first lists) (firsts_fit any sort_types lists given.fit)
row_gives n types sort_types sorts lists (takes_one {any}) given = first_of_fits any (map first lists) (firsts_fit any sort_types lists given.fit)

-- ---- the lists that a call goes over

in_taken : (n : ℕ) (lists : List (List Value)) (x : List Value) → Contains (take n lists) x → Contains lists x
in_taken zero lists x (k, within, at) = absurd (omega arith)
in_taken (suc n) [] x c = c
in_taken (suc n) (list ∷ lists) x (zero, within, at) = (zero, omega arith, at)
in_taken (suc n) (list ∷ lists) x (suc k, within, at) = let more = in_taken n lists x (k, omega arith, at) in (suc more.0, omega (arith, more.1), more.2)

in_limited : (limit : Option ℕ) (lists : List (List Value)) (x : List Value) → Contains (limited limit lists) x → Contains lists x
in_limited None lists x c = c
in_limited (Some count) lists x c = in_taken count lists x c

still_kept : (call : AggCall) (lists list : List (List Value)) → GoesOver call lists list → (x : List Value) → Contains list x → Contains (kept (skips call.name call.ignore_nulls) lists) x
still_kept call lists list over x c =
    in_chosen call.distinct (kept (skips call.name call.ignore_nulls) lists) over.some x over.chosen (in_permuted x over.arranged.permutes (in_limited call.limit over.ordered x (subst (λ all. Contains all x) over.is c)))

some_more : (b : Bool) (list : List Value) (others : List (List Value)) (x : List Value) → null_argument list ≡ b → (Contains others x → null_argument x ≡ false) → Contains (elim b [ true ↦ others | false ↦ list ∷ others ]) x → null_argument x ≡ false
some_more true list others x is more c = more c
some_more false list others x is more (zero, within, at) = ap null_argument (sym at) ∙ is
some_more false list others x is more (suc k, within, at) = more (k, omega arith, at)

no_null : (lists : List (List Value)) (x : List Value) → Contains (without_nulls lists) x → null_argument x ≡ false
no_null [] x (k, within, at) = absurd (omega arith)
no_null (list ∷ lists) x c = some_more (null_argument list) list (without_nulls lists) x refl (no_null lists x) c

-- a total goes over no NULL
total_some : (call : AggCall) (lists list : List (List Value)) → GoesOver call lists list → call.name ≡ name.Sum → (x : List Value) → Contains list x → null_argument x ≡ false
total_some call lists list over is x c = no_null lists x (subst (λ (z : AggName). Contains (kept (skips z call.ignore_nulls) lists) x) is (still_kept call lists list over x c))

only : (x y : List Value) → Contains (x ∷ []) y → y ≡ x
only x y (zero, within, at) = sym at
only x y (suc k, within, at) = absurd (omega arith)

-- a list that may be added may be added alone
alone : (call : AggCall) (types sort_types : List SqlType) (list : List Value) → Addable call types sort_types list → AllAddable call (list ∷ [])
alone call types sort_types list addable = record {
  argument_types = types;
  sort_types = sort_types;
  each = λ x c. subst (Addable call types sort_types) (sym (only list x c)) addable;
  separators = λ two one other c d. rw (only list one c, only list other d) refl;
}

-- What a call permits over lists that may be added fits the type of its answer.
pub answer_fits : (call : AggCall) (types sort_types : List SqlType) (lists : List (List Value)) (x : Value) → TakesTypes call.name types → ((list : List Value) → Contains lists list → Addable call types sort_types list) → AggMeans call lists (Ok x) → fits (answer_type call.name types) x ≡ true
answer_fits call types sort_types lists x taken each (list, over, is) =
    let among : (one : List Value) → Contains list one → Contains lists one = gone_over call lists list over in
    let given : Given call.name types sort_types (length call.order) list = record {
      fit = λ one c. (each one (among one c)).values;
      some = total_some call lists list over;
      separators = λ named one c. (is_texts call (one ∷ []) (alone call types sort_types one (each one (among one c))) named one (0, omega arith, refl)).1;
    } in
    subst (Gives (answer_type call.name types)) (sym is) (row_gives call.name types sort_types (length call.order) list taken given)
