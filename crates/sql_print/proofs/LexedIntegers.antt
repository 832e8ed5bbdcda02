-- Integers are read back as themselves.
use Rattle.std.proofs.Common.{◌≡◌, ℕ, ◌+◌, ◌*◌, ◌/◌, ◌%◌, ◌^◌, ◌<◌, ◌≤◌, Bool, true, false, ◌==◌, ◌&&◌, ◌||◌, if◌then◌else◌, nat_le, nat_lt, List, [], ◌∷◌, ◌++◌, length, map, decimal, Option, Some, None, refl, sym, ◌∙◌, ap, arith}
use Rattle.std.proofs.lemmas.Bool.{and_parts}
use Rattle.std.proofs.lemmas.Bool.Decides.{nat_tests}
use Rattle.std.proofs.lemmas.Fmt.{decimal_by_steps}
use Rattle.std.specs.Prelude.{fold, slice_index, option_map}
use Rattle.std.specs.Char.{is_digit, digit_value}
use Rattle.std.specs.List.{list_all}
use Rattle.sql_ast.specs.declared.pieces.Class.{Class}
use Rattle.sql_ast.specs.declared.pieces.Class.TheVariants as c
use Rattle.sql_ast.specs.declared.pieces.Shape.TheVariants as s
use Rattle.sql_ast.specs.declared.pieces.Piece.TheVariants as piece
use Rattle.sql_ast.specs.declared.token.Lexeme.TheVariants as l
use Rattle.sql_ast.specs.Classes.{class}
use Rattle.sql_ast.specs.Pieces.{lexeme_text}
use Rattle.sql_ast.specs.Values.{meaning, number, integer}
use Rattle.sql_lexer.specs.declared.machine.State.TheVariants as t
use Rattle.sql_lexer.specs.Machine.{step, whole}
use Rattle.sql_print.proofs.AsciiTexts.{is_ascii, ascii_text}
use Rattle.sql_print.proofs.LexedWalks.{run, run_step}
use Rattle.sql_print.proofs.LexedSigns.{Lexing, read_is, is_calm, some_class}
use Rattle.sql_print.proofs.LexedQuotes.{some_byte}

never : {A : Type 0} → false ≡ true → A
never h = absurd (let g : true ≡ false = sym h in cc)

abbrev step10 : ℕ → ℕ → ℕ
step10 n d = n * 10 + digit_value d

record Digits (n : ℕ) (ds : List ℕ) : Type 0 where
  digits : list_all (λ d. is_digit d 10) ds ≡ true
  value : fold step10 0 ds ≡ n
  some : some_byte ds ≡ true

fold_last : (z d : ℕ) (ds : List ℕ) → fold step10 z (ds ++ (d ∷ [])) ≡ step10 (fold step10 z ds) d
fold_last z d [] = refl
fold_last z d (x ∷ ds) = fold_last (step10 z x) d ds

all_last : (d : ℕ) (ds : List ℕ) → list_all (λ d. is_digit d 10) ds ≡ true → is_digit d 10 ≡ true → list_all (λ d. is_digit d 10) (ds ++ (d ∷ [])) ≡ true
all_last d [] h g = rw g refl
all_last d (x ∷ ds) h g = let f = and_parts (is_digit x 10) (list_all (λ d. is_digit d 10) ds) h in rw f.0 (all_last d ds f.1 g)

some_last : (d : ℕ) (ds : List ℕ) → some_byte (ds ++ (d ∷ [])) ≡ true
some_last d [] = refl
some_last d (x ∷ ds) = refl

digit_says : (k : ℕ) → k < 10 → digit_value (48 + k) ≡ k
digit_says k h = grind (arith, nat_tests)

digit_is : (k : ℕ) → k < 10 → is_digit (48 + k) 10 ≡ true
digit_is k h = grind (arith, nat_tests)

one_digit : (n : ℕ) → n < 10 → Digits n ((48 + n) ∷ [])
one_digit n h = record { digits = rw (digit_is n h) refl; value = ap (λ (k : ℕ). 0 * 10 + k) (digit_says n h) ∙ (let e : 0 * 10 + n ≡ n = omega arith in e); some = refl }

more_digits : (n : ℕ) (ds : List ℕ) → 10 ≤ n → Digits (n / 10) ds → Digits n (ds ++ ((48 + n % 10) ∷ []))
more_digits n ds h x = record {
  digits = all_last (48 + n % 10) ds x.digits (digit_is (n % 10) (omega arith));
  value = fold_last 0 (48 + n % 10) ds ∙ ap (λ (k : ℕ). k * 10 + digit_value (48 + n % 10)) x.value ∙ ap (λ (k : ℕ). (n / 10) * 10 + k) (digit_says (n % 10) (omega arith)) ∙ (let e : (n / 10) * 10 + n % 10 ≡ n = omega arith in e);
  some = some_last (48 + n % 10) ds;
}

decimal_digits : (n : ℕ) → n < 2 ^ 64 → Digits n (decimal n)
decimal_digits n h = decimal_by_steps Digits one_digit more_digits n h

if_class : (P : Class → Type 0) (b : Bool) (x y : Class) → (b ≡ true → P x) → (b ≡ false → P y) → P (if b then x else y)
if_class P true x y f g = f refl
if_class P false x y f g = g refl

digit_least : (d : ℕ) → is_digit d 10 ≡ true → 48 ≤ d
digit_least d h = grind (arith, nat_tests)

digit_most : (d : ℕ) → is_digit d 10 ≡ true → d < 58
digit_most d h = grind (arith, nat_tests)

no_r : (d : ℕ) → 48 ≤ d → d < 58 → (d == 114 || d == 82) ≡ true → ⊥
no_r d h k e = grind (arith, nat_tests)

no_b : (d : ℕ) → 48 ≤ d → d < 58 → (d == 98 || d == 66) ≡ true → ⊥
no_b d h k e = grind (arith, nat_tests)

no_letter : (d : ℕ) → 48 ≤ d → d < 58 → ((nat_le 97 d && nat_le d 122) || (nat_le 65 d && nat_le d 90) || d == 95) ≡ true → ⊥
no_letter d h k e = grind (arith, nat_tests)

no_other : (d : ℕ) → 48 ≤ d → d < 58 → (nat_le 48 d && nat_le d 57) ≡ false → ⊥
no_other d h k e = grind (arith, nat_tests)

digit_class : (d : ℕ) → is_digit d 10 ≡ true → class d ≡ c.Digit
unfolding class
digit_class d h =
    let P : Class → Type 0 = λ x. x ≡ c.Digit in
    let least = digit_least d h in let most = digit_most d h in
    if_class P (d == 114 || d == 82) _ _ (λ e. absurd (no_r d least most e)) (λ _.
    if_class P (d == 98 || d == 66) _ _ (λ e. absurd (no_b d least most e)) (λ _.
    if_class P ((nat_le 97 d && nat_le d 122) || (nat_le 65 d && nat_le d 90) || d == 95) _ _ (λ e. absurd (no_letter d least most e)) (λ _.
    if_class P (nat_le 48 d && nat_le d 57) _ _ (λ _. refl) (λ e. absurd (no_other d least most e)))))

digit_ascii : (d : ℕ) → is_digit d 10 ≡ true → is_ascii d ≡ true
digit_ascii d h = grind (arith, nat_tests)

step_digit : step t.Integer c.Digit ≡ Some t.Integer
unfolding step
step_digit = refl

start_digit : step t.Start c.Digit ≡ Some t.Integer
unfolding step
start_digit = refl

digits_run : (ds : List ℕ) → list_all (λ d. is_digit d 10) ds ≡ true → run t.Integer (map class ds) ≡ Some t.Integer
digits_run [] h = refl
digits_run (d ∷ ds) h = let f = and_parts (is_digit d 10) (list_all (λ d. is_digit d 10) ds) h in run_step t.Integer t.Integer (class d) (map class ds) (ap (step t.Integer) (digit_class d f.0) ∙ step_digit) ∙ digits_run ds f.1

digits_start : (ds : List ℕ) → some_byte ds ≡ true → list_all (λ d. is_digit d 10) ds ≡ true → run t.Start (map class ds) ≡ Some t.Integer
digits_start [] s h = never s
digits_start (d ∷ ds) s h = let f = and_parts (is_digit d 10) (list_all (λ d. is_digit d 10) ds) h in run_step t.Start t.Integer (class d) (map class ds) (ap (step t.Start) (digit_class d f.0) ∙ start_digit) ∙ digits_run ds f.1

digits_ascii : (ds : List ℕ) → list_all (λ d. is_digit d 10) ds ≡ true → list_all is_ascii ds ≡ true
digits_ascii [] h = refl
digits_ascii (d ∷ ds) h = let f = and_parts (is_digit d 10) (list_all (λ d. is_digit d 10) ds) h in rw (digit_ascii d f.0) (digits_ascii ds f.1)

no_letter_x : (d : ℕ) → is_digit d 10 ≡ true → (d == 120 || d == 88) ≡ false
no_letter_x d h = grind (arith, nat_tests)

and_false : (b : Bool) → (b && false) ≡ false
and_false true = refl
and_false false = refl

no_hex : (ds : List ℕ) → list_all (λ d. is_digit d 10) ds ≡ true → (slice_index ds 0 == 48 && (slice_index ds 1 == 120 || slice_index ds 1 == 88)) ≡ false
no_hex [] h = refl
no_hex (d ∷ []) h = and_false (d == 48)
no_hex (d ∷ k ∷ ds) h = let f = and_parts (is_digit d 10) (list_all (λ d. is_digit d 10) (k ∷ ds)) h in let g = and_parts (is_digit k 10) (list_all (λ d. is_digit d 10) ds) f.1 in ap (λ (b : Bool). (d == 48) && b) (no_letter_x k g.0) ∙ and_false (d == 48)

some_length : (ds : List ℕ) → some_byte ds ≡ true → nat_lt 0 (length ds) ≡ true
some_length [] h = never h
some_length (d ∷ ds) h = grind (arith, nat_tests)

number_back : (n : ℕ) (ds : List ℕ) → n < 2 ^ 64 → Digits n ds → number 10 ds ≡ Some n
number_back n ds h x = let small : nat_lt n (2 ^ 64) ≡ true = grind (arith, nat_tests) in rw (some_length ds x.some, x.digits) (rw (x.value, small) refl)

integer_back : (n : ℕ) → n < 2 ^ 64 → integer (decimal n) ≡ Some n
unfolding integer
integer_back n h = let x = decimal_digits n h in rw (no_hex (decimal n) x.digits) (number_back n (decimal n) h x)

integer_means : (dot : Bool) (n : ℕ) → n < 2 ^ 64 → meaning dot s.Integer (decimal n) ≡ Some (piece.Token (l.Integer n))
unfolding meaning
integer_means dot n h = ap (λ (o : Option ℕ). option_map piece.Token (option_map l.Integer o)) (integer_back n h)

integer_calm : (y : Class) → is_calm y ≡ true → step t.Integer y ≡ None
unfolding step
integer_calm c.Space h = refl
integer_calm c.Sign h = refl
integer_calm _ h = never h

integer_whole : whole t.Integer ≡ Some s.Integer
unfolding whole
integer_whole = refl

some_classes : (ds : List ℕ) → some_byte ds ≡ true → some_class (map class ds) ≡ true
some_classes [] h = never h
some_classes (d ∷ ds) h = refl

pub integer_lexing : (n : ℕ) → n < 2 ^ 64 → Lexing (l.Integer n)
unfolding lexeme_text
integer_lexing n g =
    let x = decimal_digits n g in record {
      end = t.Integer;
      shape = s.Integer;
      runs = digits_start (decimal n) x.some x.digits;
      whole_is = integer_whole;
      reads = λ dot h. read_is dot s.Integer (decimal n) (Some (piece.Token (l.Integer n))) (ascii_text (decimal n) (digits_ascii (decimal n) x.digits)) (integer_means dot n g);
      calm = integer_calm;
      closed = λ h y. never h;
      angle = λ h y k. never h;
      less = λ h y k. never h;
      greater = λ h. never h;
      some = some_classes (decimal n) x.some;
      first_calm = λ h. never h;
      first_less = λ h. never h;
      first_greater = λ h. never h;
      first_letter = λ h. never h;
    }
