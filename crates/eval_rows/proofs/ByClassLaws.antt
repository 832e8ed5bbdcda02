-- What is kept for each of distinct keys, after one of them was changed or a new one came.
use Rattle.std.proofs.Common.{◌≡◌, ℕ, suc, ◌+◌, ◌<◌, Bool, true, false, cond, List, [], ◌∷◌, ◌++◌, length, get_or, set, refl, ap, sym, ◌∙◌, arith, Option, None, Some}
use Rattle.std.specs.List.{position_from}
use Rattle.std.proofs.lemmas.Bool.{false≢true}
use Rattle.std.proofs.lemmas.Iterator.Adapters.{position_from-zero}
use Rattle.std.proofs.lemmas.List.{get_or-set_same, get_or-set_other, get_or_append_left, get_or_push, get_or_past, length-set, length-append}
use Rattle.sql_types.specs.Joined.{Row}
use Rattle.sql_types.specs.SameValue.{same_values}
use Rattle.key_classes.specs.Classes.{with_key, number_of}
use Rattle.key_classes.specs.KeyLaws.{told, itself}
use Rattle.key_classes.proofs.ClassLaws.{with_key-known, with_key-new, number_within, number_tells}
use Rattle.eval_rows.specs.ByClass.{value_at, by_class}

-- ---- the number of a key, where another key was put behind the others

abbrev or_else : Option ℕ → Option ℕ → Option ℕ
or_else None other = other
or_else (Some n) other = Some n

push_by : (i n : ℕ) (b c : Bool) (first after : Option ℕ) → after ≡ or_else first (cond c (Some ((i + 1) + n)) None) → cond b (Some i) after ≡ or_else (cond b (Some i) first) (cond c (Some (i + suc n)) None)
push_by i n true c first after more = refl
push_by i n false c first after more =
    let same : (i + 1) + n ≡ i + suc n = omega arith in
    more ∙ ap (λ m. or_else first (cond c (Some m) None)) same

from_push : {X : Type 0} (p : X → Bool) (i : ℕ) (xs : List X) (y : X) → position_from p i (xs ++ y ∷ []) ≡ or_else (position_from p i xs) (cond (p y) (Some (i + length xs)) None)
from_push p i [] y =
    let same : i ≡ i + 0 = omega arith in
    ap (λ m. cond (p y) (Some m) None) same
from_push p i (x ∷ xs) y = push_by i (length xs) (p x) (p y) (position_from p (i + 1) xs) _ (from_push p (i + 1) xs y)

number_from : (keys : List Row) (key : Row) → number_of keys key ≡ position_from (same_values key) 0 keys
number_from keys key = position_from-zero (same_values key) keys

number_push : (keys : List Row) (key row : Row) → number_of (keys ++ key ∷ []) row ≡ or_else (number_of keys row) (cond (same_values row key) (Some (0 + length keys)) None)
number_push keys key row =
    number_from (keys ++ key ∷ []) row ∙ from_push (same_values row) 0 keys key ∙ ap (λ o. or_else o (cond (same_values row key) (Some (0 + length keys)) None)) (sym (number_from keys row))

-- ---- what is kept

module _ {A : Type 0} (none : A) where
  -- one value is put in place of another
  other_by : (keys : List Row) (values : List A) (key row : Row) (n : ℕ) (v : A) (o : Option ℕ) → number_of keys row ≡ o → number_of keys key ≡ Some n → same_values row key ≡ false →
      value_at none (set values n v) o ≡ value_at none values o
  other_by keys values key row n v None is here differs = refl
  other_by keys values key row n v (Some j) is here differs =
      get_or-set_other values n j v none (λ e. false≢true (sym differs ∙ ap (same_values row) (sym (number_tells keys row key n (is ∙ ap Some e) here)) ∙ itself row))

  put_by : (keys : List Row) (values : List A) (key row : Row) (n : ℕ) (v : A) (b : Bool) → same_values row key ≡ b → number_of keys key ≡ Some n → n < length values →
      by_class none keys (set values n v) row ≡ cond b v (by_class none keys values row)
  put_by keys values key row n v true same here within =
      ap (value_at none (set values n v)) (ap (number_of keys) (told row key same) ∙ here) ∙ get_or-set_same values n v none within
  put_by keys values key row n v false same here within = other_by keys values key row n v (number_of keys row) refl here same

  pub class_put : (keys : List Row) (values : List A) (key row : Row) (n : ℕ) (v : A) → number_of keys key ≡ Some n → n < length values →
      by_class none keys (set values n v) row ≡ cond (same_values row key) v (by_class none keys values row)
  class_put keys values key row n v here within = put_by keys values key row n v (same_values row key) refl here within

  -- a value is put behind the others
  behind_by : (keys : List Row) (values : List A) (key row : Row) (v : A) (b : Bool) (o : Option ℕ) → same_values row key ≡ b → number_of keys row ≡ o → number_of keys key ≡ None → length values ≡ length keys →
      value_at none (values ++ v ∷ []) (or_else o (cond b (Some (0 + length keys)) None)) ≡ cond b v (value_at none values o)
  behind_by keys values key row v true None same is here long = get_or_push values v none (0 + length keys) (omega (arith, long))
  behind_by keys values key row v true (Some j) same is here long =
      let broken : ◌≡◌ {A = Option ℕ} (Some j) None = sym is ∙ ap (number_of keys) (told row key same) ∙ here in
      cc
  behind_by keys values key row v false None same is here long = refl
  behind_by keys values key row v false (Some j) same is here long = get_or_append_left values (v ∷ []) none j (omega (arith, number_within keys row j is, long))

  pub class_behind : (keys : List Row) (values : List A) (key row : Row) (v : A) → number_of keys key ≡ None → length values ≡ length keys →
      by_class none (keys ++ key ∷ []) (values ++ v ∷ []) row ≡ cond (same_values row key) v (by_class none keys values row)
  class_behind keys values key row v here long =
      ap (value_at none (values ++ v ∷ [])) (number_push keys key row) ∙ behind_by keys values key row v (same_values row key) (number_of keys row) refl refl here long

-- the number that a new key has
pub new_number : (keys : List Row) (key : Row) (n : ℕ) → number_of keys key ≡ None → number_of (keys ++ key ∷ []) key ≡ Some n → n ≡ length keys
new_number keys key n here after =
    let whole : ◌≡◌ {A = Option ℕ} (Some n) (Some (0 + length keys)) =
    sym after ∙ number_push keys key key ∙ ap (λ o. or_else o (cond (same_values key key) (Some (0 + length keys)) None)) here ∙ ap (λ b. cond b (Some (0 + length keys)) None) (itself key) in
    let same : n ≡ 0 + length keys = cc in
    omega (arith, same)

-- ---- one key more, whose number is given: what is kept for it is changed, or put behind the others

module _ {A : Type 0} (none : A) (more : A → A) where
  pub record OneMore (keys : List Row) (values : List A) (key : Row) (after : List Row) (put : List A) : Type 0 where
    pub as_many : length put ≡ length after
    pub kept : (row : Row) → by_class none after put row ≡ cond (same_values row key) (more (by_class none keys values row)) (by_class none keys values row)

  changed_by : (b : Bool) (x y : A) → (b ≡ true → x ≡ y) → cond b (more x) y ≡ cond b (more y) y
  changed_by true x y same = ap more (same refl)
  changed_by false x y same = refl

  again : (keys after : List Row) (values put : List A) (key : Row) (n m : ℕ) → length values ≡ length keys → number_of keys key ≡ Some m → after ≡ with_key keys key → number_of after key ≡ Some n →
      (n < length values → put ≡ set values n (more (get_or values n none))) → OneMore keys values key after put
  again keys after values put key n m long here after_is number put_is =
      let same : after ≡ keys = after_is ∙ with_key-known keys key m here in
      let own : number_of keys key ≡ Some n = ap (λ (z : List Row). number_of z key) (sym same) ∙ number in
      let within : n < length values = omega (arith, number_within keys key n own, long) in
      let put_so : put ≡ set values n (more (get_or values n none)) = put_is within in
      record {
        as_many = ap length put_so ∙ length-set values n (more (get_or values n none)) ∙ long ∙ ap length (sym same);
        kept = λ row.
            ap (λ (z : List Row). by_class none z put row) same ∙ ap (λ (z : List A). by_class none keys z row) put_so
            ∙ class_put none keys values key row n (more (get_or values n none)) own within
            ∙ changed_by (same_values row key) (get_or values n none) (by_class none keys values row)
            (λ e. sym (ap (value_at none values) (ap (number_of keys) (told row key e) ∙ own)));
      }

  first : (keys after : List Row) (values put : List A) (key : Row) (n : ℕ) → length values ≡ length keys → number_of keys key ≡ None → after ≡ with_key keys key → number_of after key ≡ Some n →
      (n ≡ length values → put ≡ values ++ more none ∷ []) → OneMore keys values key after put
  first keys after values put key n long here after_is number put_is =
      let same : after ≡ keys ++ key ∷ [] = after_is ∙ with_key-new keys key here in
      let own : n ≡ length keys = new_number keys key n here (ap (λ (z : List Row). number_of z key) (sym same) ∙ number) in
      let put_so : put ≡ values ++ more none ∷ [] = put_is (own ∙ sym long) in
      record {
        as_many = ap length put_so ∙ length-append values (more none ∷ []) ∙ ap (λ m. m + 1) long ∙ sym (length-append keys (key ∷ [])) ∙ ap length (sym same);
        kept = λ row.
            ap (λ (z : List Row). by_class none z put row) same ∙ ap (λ (z : List A). by_class none (keys ++ key ∷ []) z row) put_so
            ∙ class_behind none keys values key row (more none) here long
            ∙ changed_by (same_values row key) none (by_class none keys values row)
            (λ e. sym (ap (value_at none values) (ap (number_of keys) (told row key e) ∙ here)));
      }

  one_by : (keys after : List Row) (values put : List A) (key : Row) (n : ℕ) (o : Option ℕ) → length values ≡ length keys → number_of keys key ≡ o → after ≡ with_key keys key → number_of after key ≡ Some n →
      (n < length values → put ≡ set values n (more (get_or values n none))) → (n ≡ length values → put ≡ values ++ more none ∷ []) → OneMore keys values key after put
  one_by keys after values put key n (Some m) long here after_is number changed new = again keys after values put key n m long here after_is number changed
  one_by keys after values put key n None long here after_is number changed new = first keys after values put key n long here after_is number new

  pub one_more : (keys after : List Row) (values put : List A) (key : Row) (n : ℕ) → length values ≡ length keys → after ≡ with_key keys key → number_of after key ≡ Some n →
      (n < length values → put ≡ set values n (more (get_or values n none))) → (n ≡ length values → put ≡ values ++ more none ∷ []) → OneMore keys values key after put
  one_more keys after values put key n long after_is number changed new = one_by keys after values put key n (number_of keys key) long refl after_is number changed new

-- what is kept at the number that a key gets is what is kept for it
kept_by : {A : Type 0} (none : A) (keys after : List Row) (values : List A) (key : Row) (n : ℕ) (o : Option ℕ) → length values ≡ length keys → number_of keys key ≡ o → after ≡ with_key keys key → number_of after key ≡ Some n →
    get_or values n none ≡ value_at none values o
kept_by none keys after values key n (Some m) long here after_is number =
    let whole : ◌≡◌ {A = Option ℕ} (Some n) (Some m) = sym number ∙ ap (λ (z : List Row). number_of z key) (after_is ∙ with_key-known keys key m here) ∙ here in
    let same : n ≡ m = cc in
    ap (λ k. get_or values k none) same
kept_by none keys after values key n None long here after_is number =
    let own : n ≡ length keys = new_number keys key n here (ap (λ (z : List Row). number_of z key) (sym (after_is ∙ with_key-new keys key here)) ∙ number) in
    get_or_past values n none (omega (arith, own, long))

pub kept_there : {A : Type 0} (none : A) (keys after : List Row) (values : List A) (key : Row) (n : ℕ) → length values ≡ length keys → after ≡ with_key keys key → number_of after key ≡ Some n →
    get_or values n none ≡ by_class none keys values key
kept_there none keys after values key n long after_is number = kept_by none keys after values key n (number_of keys key) long refl after_is number
