-- What literals and names say is UTF-8, as the text is.
use Rattle.std.proofs.Common.{◌≡◌, ℕ, ◌-◌, ◌^◌, ◌<◌, ◌≤◌, Bool, true, false, cond, ◌&&◌, ◌||◌, List, [], ◌∷◌, length, take, get_or, Option, Some, None, refl, sym, ap, subst, arith}
use Rattle.std.proofs.lemmas.List.{get_or-take, length-take-le}
use Rattle.std.proofs.lemmas.List.Folds.{list_all_at}
use Rattle.std.proofs.lemmas.Bool.Decides.{nat_tests}
use Rattle.std.proofs.lemmas.Str.{IsUtf8-encode, encode_ascii}
use Rattle.std.specs.Prelude.{◌==◌, nat_lt, nat_le, IsUtf8, option_map, option_and_then, encode_utf8}
use Rattle.std.specs.Char.{is_digit, IsScalar}
use Rattle.std.specs.List.{list_all}
use Rattle.sql_ast.specs.declared.pieces.Content.TheVariants as content
use Rattle.sql_ast.specs.Values.{Escape, escape, one, numbered, number_at_start, number, number_of, are_digits, coded, is_code_point, octal, hexadecimal, code_point}

-- ---- escapes

-- an escape takes bytes that are there, the last of them is ASCII, and it stands for UTF-8
pub record Sound (bytes : List ℕ) (e : Escape) : Type 0 where
  pub some : 0 < e.size
  pub within : e.size ≤ length bytes
  pub ascii : get_or bytes (e.size - 1) 0 < 128
  pub utf8 : IsUtf8 e.bytes

abbrev Each : List ℕ → Option Escape → Type 0
Each bytes o = (e : Escape) → o ≡ Some e → Sound bytes e

by_test : (P : Option Escape → Type 0) (b : Bool) (x y : Option Escape) → (b ≡ true → P x) → (b ≡ false → P y) → P (cond b x y)
by_test P true x y f g = f refl
by_test P false x y f g = g refl

none_sound : (bytes : List ℕ) → Each bytes None
none_sound bytes e is = absurd (cc)

ascii_utf8 : (b : ℕ) → b < 128 → IsUtf8 (b ∷ [])
ascii_utf8 b h = subst IsUtf8 (encode_ascii b h) (IsUtf8-encode b (scalar_ascii b h))
  where
    scalar_ascii : (b : ℕ) → b < 128 → IsScalar b
    scalar_ascii b h = grind (arith, nat_tests)

one_sound : (b v : ℕ) (more : List ℕ) → b < 128 → v < 128 → Each (b ∷ more) (one v)
one_sound b v more h k e is =
    let f : e ≡ record { bytes = v ∷ []; size = 1 } = cc in
    subst (Sound (b ∷ more)) (sym f) (record { some = omega arith; within = omega arith; ascii = h; utf8 = ascii_utf8 v k })

scalar_code_point : (n : ℕ) → is_code_point n ≡ true → IsScalar n
scalar_code_point n e = grind (arith, nat_tests)

digit_ascii : (base d : ℕ) → base ≤ 36 → is_digit d base ≡ true → d < 128
digit_ascii base d h e = grind (arith, nat_tests)

of_cond : {A : Type 0} (b : Bool) (x : Option A) (a : A) → cond b x None ≡ Some a → (b ≡ true) × (x ≡ Some a)
of_cond true x a e = (refl, e)
of_cond false x a e = absurd (cc)

pub of_and : (x y : Bool) → (x && y) ≡ true → (x ≡ true) × (y ≡ true)
of_and true y e = (refl, e)
of_and false y e = absurd (cc)

each_digit : (base : ℕ) (digits : List ℕ) (k : ℕ) → list_all (λ d. is_digit d base) digits ≡ true → k < length digits → is_digit (get_or digits k 0) base ≡ true
each_digit base digits k e lt = elim (is_digit (get_or digits k 0) base) as (λ b. is_digit (get_or digits k 0) base ≡ b → b ≡ true) [
  | true ↦ λ _. refl
  | false ↦ λ f. let g = list_all_at (λ d. is_digit d base) digits k 0 lt f in absurd (cc)
] refl

le_of : (a b : ℕ) → nat_le a b ≡ true → a ≤ b
le_of a b e = grind (arith, nat_tests)

-- digits at the start are there, and the last of them is ASCII
module _ (base count : ℕ) (bytes : List ℕ) (n : ℕ) (small : base ≤ 36) (some : 0 < count) (e : number_at_start base count bytes ≡ Some n) where
  pub digits_within : count ≤ length bytes
  digits_within = le_of count (length bytes) (of_cond (nat_le count (length bytes)) (number base (take count bytes)) n e).0

  are_all : list_all (λ d. is_digit d base) (take count bytes) ≡ true
  are_all =
      let f = (of_cond (nat_le count (length bytes)) (number base (take count bytes)) n e).1 in
      let g = (of_cond (are_digits base (take count bytes) && nat_lt (number_of base (take count bytes)) (2 ^ 64)) (Some (number_of base (take count bytes))) n f).0 in
      let h = (of_and (are_digits base (take count bytes)) (nat_lt (number_of base (take count bytes)) (2 ^ 64)) g).0 in
      (of_and (nat_lt 0 (length (take count bytes))) (list_all (λ d. is_digit d base) (take count bytes)) h).1

  pub digits_ascii : get_or bytes (count - 1) 0 < 128
  digits_ascii =
      let w = digits_within in
      let l = length-take-le count bytes w in
      let lt : count - 1 < length (take count bytes) = omega arith in
      let same = get_or-take count bytes (count - 1) 0 (omega arith) in
      digit_ascii base (get_or bytes (count - 1) 0) small (subst (λ x. is_digit x base ≡ true) same (each_digit base (take count bytes) (count - 1) are_all lt))

coded_utf8 : (n : ℕ) (b : List ℕ) → coded content.Text n ≡ Some b → IsUtf8 b
coded_utf8 n b e =
    let f = of_cond (is_code_point n) (Some (encode_utf8 n)) b e in
    let g : encode_utf8 n ≡ b = let h = f.1 in cc in
    subst IsUtf8 g (IsUtf8-encode n (scalar_code_point n f.0))

-- an escape of this size
abbrev sized : ℕ → List ℕ → Escape
sized size b = record { bytes = b; size = size }

numbered_is : (size : ℕ) (o : Option (List ℕ)) (e : Escape) → option_map (sized size) o ≡ Some e → (o ≡ Some e.bytes) × (e.size ≡ size)
numbered_is size None e is = absurd (cc)
numbered_is size (Some b) e is = let f : sized size b ≡ e = cc in (ap Some (ap (λ (x : Escape). x.bytes) f), sym (ap (λ (x : Escape). x.size) f))

numbered_sound : (size n : ℕ) (bytes : List ℕ) → 0 < size → size ≤ length bytes → get_or bytes (size - 1) 0 < 128 → Each bytes (numbered content.Text size n)
numbered_sound size n bytes some within ascii e is =
    let f = numbered_is size (coded content.Text n) e is in
    let same = sym f.1 in
    record {
      some = subst (λ k. 0 < k) same some;
      within = subst (λ k. k ≤ length bytes) same within;
      ascii = subst (λ k. get_or bytes (k - 1) 0 < 128) same ascii;
      utf8 = coded_utf8 n e.bytes f.0;
    }

by_number : (bytes : List ℕ) (o : Option ℕ) (f : ℕ → Option Escape) → ((n : ℕ) → o ≡ Some n → Each bytes (f n)) → Each bytes (option_and_then f o)
by_number bytes None f g = none_sound bytes
by_number bytes (Some n) f g = g n refl

octal_sound : (bytes : List ℕ) → Each bytes (octal content.Text bytes)
octal_sound bytes = by_number bytes (number_at_start 8 3 bytes) (λ n. cond (nat_le n 255) (numbered content.Text 3 n) None) (λ n e.
    by_test (Each bytes) (nat_le n 255) (numbered content.Text 3 n) None
    (λ _. numbered_sound 3 n bytes (omega arith) (digits_within 8 3 bytes n (omega arith) (omega arith) e) (digits_ascii 8 3 bytes n (omega arith) (omega arith) e))
    (λ _. none_sound bytes))

hexadecimal_sound : (b : ℕ) (more : List ℕ) → Each (b ∷ more) (hexadecimal content.Text more)
hexadecimal_sound b more = by_number (b ∷ more) (number_at_start 16 2 more) (numbered content.Text 3) (λ n e.
    let w = digits_within 16 2 more n (omega arith) (omega arith) e in
    numbered_sound 3 n (b ∷ more) (omega arith) (omega arith) (digits_ascii 16 2 more n (omega arith) (omega arith) e))

four_sound : (b : ℕ) (more : List ℕ) → Each (b ∷ more) (code_point content.Text 4 more)
four_sound b more = by_number (b ∷ more) (number_at_start 16 4 more) (numbered content.Text 5) (λ n e.
    let w = digits_within 16 4 more n (omega arith) (omega arith) e in
    numbered_sound 5 n (b ∷ more) (omega arith) (omega arith) (digits_ascii 16 4 more n (omega arith) (omega arith) e))

eight_sound : (b : ℕ) (more : List ℕ) → Each (b ∷ more) (code_point content.Text 8 more)
eight_sound b more = by_number (b ∷ more) (number_at_start 16 8 more) (numbered content.Text 9) (λ n e.
    let w = digits_within 16 8 more n (omega arith) (omega arith) e in
    numbered_sound 9 n (b ∷ more) (omega arith) (omega arith) (digits_ascii 16 8 more n (omega arith) (omega arith) e))

letter_ascii : (b c : ℕ) → c < 128 → (b == c) ≡ true → b < 128
letter_ascii b c h e = grind (arith, nat_tests)

itself_ascii : (b : ℕ) → (b == 92 || b == 63 || b == 34 || b == 39 || b == 96) ≡ true → b < 128
itself_ascii b e = grind (arith, nat_tests)

one_letter : (b c v : ℕ) (more : List ℕ) (rest : Option Escape) → c < 128 → v < 128 → Each (b ∷ more) rest → Each (b ∷ more) (cond (b == c) (one v) rest)
one_letter b c v more rest h k r = by_test (Each (b ∷ more)) (b == c) (one v) rest (λ e. one_sound b v more (letter_ascii b c h e) k) (λ _. r)

-- behind the letters for one byte
abbrev escape_digits : ℕ → List ℕ → Option Escape
escape_digits b more = cond (b == 120 || b == 88) (hexadecimal content.Text more) (cond (b == 117) (code_point content.Text 4 more) (cond (b == 85) (code_point content.Text 8 more) (octal content.Text (b ∷ more))))

digits_sound : (b : ℕ) (more : List ℕ) → Each (b ∷ more) (escape_digits b more)
digits_sound b more =
    by_test (Each (b ∷ more)) (b == 120 || b == 88) (hexadecimal content.Text more) (cond (b == 117) (code_point content.Text 4 more) (cond (b == 85) (code_point content.Text 8 more) (octal content.Text (b ∷ more)))) (λ _. hexadecimal_sound b more) (λ _.
    by_test (Each (b ∷ more)) (b == 117) (code_point content.Text 4 more) (cond (b == 85) (code_point content.Text 8 more) (octal content.Text (b ∷ more))) (λ _. four_sound b more) (λ _.
    by_test (Each (b ∷ more)) (b == 85) (code_point content.Text 8 more) (octal content.Text (b ∷ more)) (λ _. eight_sound b more) (λ _. octal_sound (b ∷ more))))

pub sound : (bytes : List ℕ) → Each bytes (escape content.Text bytes)
unfolding escape
sound [] = none_sound []
sound (b ∷ more) =
    one_letter b 97 7 more _ (omega arith) (omega arith) (
    one_letter b 98 8 more _ (omega arith) (omega arith) (
    one_letter b 116 9 more _ (omega arith) (omega arith) (
    one_letter b 110 10 more _ (omega arith) (omega arith) (
    one_letter b 118 11 more _ (omega arith) (omega arith) (
    one_letter b 102 12 more _ (omega arith) (omega arith) (
    one_letter b 114 13 more _ (omega arith) (omega arith) (
    by_test (Each (b ∷ more)) (b == 92 || b == 63 || b == 34 || b == 39 || b == 96) (one b) _ (λ e. one_sound b b more (itself_ascii b e) (itself_ascii b e)) (λ _. digits_sound b more))))))))
