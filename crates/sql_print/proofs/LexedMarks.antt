-- The lexer's machine goes over what stands between two marks, escapes and all.
use Rattle.std.proofs.Common.{◌≡◌, inl, inr, ℕ, ◌/◌, ◌%◌, ◌<◌, Bool, true, false, cond, ◌==◌, ◌&&◌, ◌||◌, if◌then◌else◌, nat_le, nat_lt, List, [], ◌∷◌, ◌++◌, map, Some, None, refl, sym, ◌∙◌, ap, subst, arith}
use Rattle.std.proofs.lemmas.Bool.{and_parts, or_cases, or_parts}
use Rattle.std.proofs.lemmas.Bool.Decides.{nat_tests, Decides-eqb}
use Rattle.std.specs.List.{list_all}
use Rattle.sql_names.specs.Spelling.{hex_digit, escaped, escapes}
use Rattle.sql_ast.specs.declared.pieces.Class.{Class}
use Rattle.sql_ast.specs.declared.pieces.Class.TheVariants as c
use Rattle.sql_ast.specs.declared.pieces.Mark.{Mark}
use Rattle.sql_ast.specs.declared.pieces.Mark.TheVariants as mark
use Rattle.sql_ast.specs.declared.pieces.Quote.TheVariants as quote
use Rattle.sql_ast.specs.declared.pieces.Shape.{Shape}
use Rattle.sql_ast.specs.Classes.{class, closes, is_backslash, is_line_break}
use Rattle.sql_ast.specs.Literals.{byte_text, bytes_text}
use Rattle.sql_lexer.specs.declared.machine.State.{State}
use Rattle.sql_lexer.specs.declared.machine.State.TheVariants as t
use Rattle.sql_lexer.specs.Machine.{step}
use Rattle.sql_print.proofs.LexedWalks.{run, run_step, run_more, classes_append}

both_ways : (b : Bool) → b ≡ true → b ≡ false → ⊥
both_ways b g h = let f : true ≡ false = sym g ∙ h in cc

if_class : (P : Class → Type 0) (b : Bool) (x y : Class) → (b ≡ true → P x) → (b ≡ false → P y) → P (if b then x else y)
if_class P true x y f g = f refl
if_class P false x y f g = g refl

pub branch : (P : List ℕ → Type 0) (b : Bool) (x y : List ℕ) → (b ≡ true → P x) → (b ≡ false → P y) → P (if b then x else y)
branch P true x y f g = f refl
branch P false x y f g = g refl

pub is_byte : (b k : ℕ) → (b == k) ≡ true → b ≡ k
is_byte b k h = (Decides-eqb b k).0 h

-- ---- bytes that stand between marks as they are

-- neither the mark, nor a backslash, nor the end of a line
abbrev pub Plain : Mark → Class → Type 0
Plain m x = (closes m x ≡ false) × ((is_backslash x ≡ false) × (is_line_break x ≡ false))

abbrev Other : ℕ → ℕ → Type 0
Other m b = ((b == m) ≡ false) × (((b == 92) ≡ false) × ((b == 10 || b == 13) ≡ false))

plain_backquote : (b : ℕ) → Other 96 b → Plain mark.Backquote (class b)
unfolding class
plain_backquote b h =
    let P : Class → Type 0 = λ x. Plain mark.Backquote x in
    if_class P (b == 114 || b == 82) _ _ (λ _. (refl, (refl, refl))) (λ _.
    if_class P (b == 98 || b == 66) _ _ (λ _. (refl, (refl, refl))) (λ _.
    if_class P ((nat_le 97 b && nat_le b 122) || (nat_le 65 b && nat_le b 90) || b == 95) _ _ (λ _. (refl, (refl, refl))) (λ _.
    if_class P (nat_le 48 b && nat_le b 57) _ _ (λ _. (refl, (refl, refl))) (λ _.
    if_class P (b == 10 || b == 13) _ _ (λ g. absurd (both_ways (b == 10 || b == 13) g h.1.1)) (λ _.
    if_class P ((nat_le 9 b && nat_le b 13) || b == 32) _ _ (λ _. (refl, (refl, refl))) (λ _.
    if_class P (b == 39) _ _ (λ _. (refl, (refl, refl))) (λ _.
    if_class P (b == 34) _ _ (λ _. (refl, (refl, refl))) (λ _.
    if_class P (b == 96) _ _ (λ g. absurd (both_ways (b == 96) g h.0)) (λ _.
    if_class P (b == 92) _ _ (λ g. absurd (both_ways (b == 92) g h.1.0)) (λ _.
    if_class P (b == 42) _ _ (λ _. (refl, (refl, refl))) (λ _.
    if_class P (b == 47) _ _ (λ _. (refl, (refl, refl))) (λ _.
    if_class P (b == 35) _ _ (λ _. (refl, (refl, refl))) (λ _.
    if_class P (b == 45) _ _ (λ _. (refl, (refl, refl))) (λ _.
    if_class P (b == 60) _ _ (λ _. (refl, (refl, refl))) (λ _.
    if_class P (b == 61) _ _ (λ _. (refl, (refl, refl))) (λ _.
    if_class P (b == 62) _ _ (λ _. (refl, (refl, refl))) (λ _.
    if_class P (b == 124) _ _ (λ _. (refl, (refl, refl))) (λ _.
    if_class P (b == 33) _ _ (λ _. (refl, (refl, refl))) (λ _.
    if_class P (b == 64) _ _ (λ _. (refl, (refl, refl))) (λ _.
    if_class P (b == 40 || b == 41 || b == 91 || b == 93 || b == 44 || b == 46 || b == 59 || b == 43 || b == 126 || b == 38 || b == 94) _ _ (λ _. (refl, (refl, refl))) (λ _. (refl, (refl, refl)))))))))))))))))))))))

plain_double : (b : ℕ) → Other 34 b → Plain (mark.Quote quote.Double) (class b)
unfolding class
plain_double b h =
    let P : Class → Type 0 = λ x. Plain (mark.Quote quote.Double) x in
    if_class P (b == 114 || b == 82) _ _ (λ _. (refl, (refl, refl))) (λ _.
    if_class P (b == 98 || b == 66) _ _ (λ _. (refl, (refl, refl))) (λ _.
    if_class P ((nat_le 97 b && nat_le b 122) || (nat_le 65 b && nat_le b 90) || b == 95) _ _ (λ _. (refl, (refl, refl))) (λ _.
    if_class P (nat_le 48 b && nat_le b 57) _ _ (λ _. (refl, (refl, refl))) (λ _.
    if_class P (b == 10 || b == 13) _ _ (λ g. absurd (both_ways (b == 10 || b == 13) g h.1.1)) (λ _.
    if_class P ((nat_le 9 b && nat_le b 13) || b == 32) _ _ (λ _. (refl, (refl, refl))) (λ _.
    if_class P (b == 39) _ _ (λ _. (refl, (refl, refl))) (λ _.
    if_class P (b == 34) _ _ (λ g. absurd (both_ways (b == 34) g h.0)) (λ _.
    if_class P (b == 96) _ _ (λ _. (refl, (refl, refl))) (λ _.
    if_class P (b == 92) _ _ (λ g. absurd (both_ways (b == 92) g h.1.0)) (λ _.
    if_class P (b == 42) _ _ (λ _. (refl, (refl, refl))) (λ _.
    if_class P (b == 47) _ _ (λ _. (refl, (refl, refl))) (λ _.
    if_class P (b == 35) _ _ (λ _. (refl, (refl, refl))) (λ _.
    if_class P (b == 45) _ _ (λ _. (refl, (refl, refl))) (λ _.
    if_class P (b == 60) _ _ (λ _. (refl, (refl, refl))) (λ _.
    if_class P (b == 61) _ _ (λ _. (refl, (refl, refl))) (λ _.
    if_class P (b == 62) _ _ (λ _. (refl, (refl, refl))) (λ _.
    if_class P (b == 124) _ _ (λ _. (refl, (refl, refl))) (λ _.
    if_class P (b == 33) _ _ (λ _. (refl, (refl, refl))) (λ _.
    if_class P (b == 64) _ _ (λ _. (refl, (refl, refl))) (λ _.
    if_class P (b == 40 || b == 41 || b == 91 || b == 93 || b == 44 || b == 46 || b == 59 || b == 43 || b == 126 || b == 38 || b == 94) _ _ (λ _. (refl, (refl, refl))) (λ _. (refl, (refl, refl)))))))))))))))))))))))

-- a digit of base 16 is one
hex_other : (m k : ℕ) → ((m == 34) || (m == 96)) ≡ true → k < 16 → Other m (hex_digit k)
hex_other m k h lt = (grind (arith, nat_tests), (grind (arith, nat_tests), grind (arith, nat_tests)))

-- ---- the machine between marks

module _ (m : ℕ) (mark_is : ((m == 34) || (m == 96)) ≡ true) (M : Mark) (shape : Shape) (others : (b : ℕ) → Other m b → Plain M (class b)) (ends_line : is_line_break (class m) ≡ false) where
  abbrev W : State
  W = t.Within M shape

  plain_step : (x : Class) → Plain M x → step W x ≡ Some W
  unfolding step
  plain_step x h = rw (h.0, h.1.0, h.1.1) refl

  run_plain : (b : ℕ) (u : List Class) → Other m b → run W (class b ∷ u) ≡ run W u
  run_plain b u h = run_step W W (class b) u (plain_step (class b) (others b h))

  run_pair : (x : Class) (u : List Class) → is_line_break x ≡ false → run W (c.Backslash ∷ x ∷ u) ≡ run W u
  unfolding step
  run_pair x u h = run_step W (t.Escape M shape) c.Backslash (x ∷ u) refl ∙ run_step (t.Escape M shape) W x u (ap (λ (b : Bool). cond b None (Some W)) h)

  run_hex : (b : ℕ) → b < 256 → run W (map class (92 ∷ 120 ∷ hex_digit (b / 16) ∷ hex_digit (b % 16) ∷ [])) ≡ Some W
  unfolding class
  run_hex b lt = run_pair c.Letter (map class (hex_digit (b / 16) ∷ hex_digit (b % 16) ∷ [])) refl ∙ run_plain (hex_digit (b / 16)) (class (hex_digit (b % 16)) ∷ []) (hex_other m (b / 16) mark_is (omega arith)) ∙ run_plain (hex_digit (b % 16)) [] (hex_other m (b % 16) mark_is (omega arith))

  run_own : (b : ℕ) → (b == 92 || b == m) ≡ true → run W (map class (92 ∷ b ∷ [])) ≡ Some W
  unfolding class
  run_own b h = elim (or_cases (b == 92) (b == m) h) [
    | inl g ↦ subst (λ (b : ℕ). run W (map class (92 ∷ b ∷ [])) ≡ Some W) (sym (is_byte b 92 g)) (run_pair c.Backslash [] refl)
    | inr g ↦ subst (λ (b : ℕ). run W (map class (92 ∷ b ∷ [])) ≡ Some W) (sym (is_byte b m g)) (run_pair (class m) [] ends_line)
  ]

  low_byte : (b : ℕ) → (nat_lt b 32 || b == 127) ≡ true → b < 256
  low_byte b h = grind (arith, nat_tests)

  no_line : (b : ℕ) → (b == 10) ≡ false → (b == 13) ≡ false → (b == 10 || b == 13) ≡ false
  no_line b g h = rw (g, h) refl

  pub run_escaped : (b : ℕ) → run W (map class (escaped m b)) ≡ Some W
  unfolding escaped class
  run_escaped b =
      let P : List ℕ → Type 0 = λ u. run W (map class u) ≡ Some W in
      branch P (b == 92 || b == m) _ _ (λ h. run_own b h) (λ h.
      branch P (b == 10) _ _ (λ _. run_pair c.Letter [] refl) (λ n10.
      branch P (b == 13) _ _ (λ _. run_pair c.LetterR [] refl) (λ n13.
      branch P (b == 9) _ _ (λ _. run_pair c.Letter [] refl) (λ _.
      branch P (nat_lt b 32 || b == 127) _ _ (λ k. run_hex b (low_byte b k)) (λ _.
      let o = or_parts (b == 92) (b == m) h in run_plain b [] (o.1, (o.0, no_line b n10 n13)))))))

  pub run_escapes : (u : List ℕ) → run W (map class (escapes m u)) ≡ Some W
  run_escapes [] = refl
  run_escapes (b ∷ u) = ap (run W) (classes_append (escaped m b) (escapes m u)) ∙ run_more W (map class (escaped m b)) (map class (escapes m u)) W (run_escaped b) ∙ run_escapes u

pub byte_bound : (b : ℕ) → nat_lt b 256 ≡ true → b < 256
byte_bound b h = grind (arith, nat_tests)

neither_line : (b : ℕ) → (b == 10) ≡ false → (b == 13) ≡ false → (b == 10 || b == 13) ≡ false
neither_line b g h = rw (g, h) refl

printable : (b : ℕ) → (nat_le 32 b && nat_le b 126) ≡ true → (b == 10 || b == 13) ≡ false
printable b h = grind (arith, nat_tests)

no_break_double : is_line_break (class 34) ≡ false
unfolding class
no_break_double = refl

no_break_back : is_line_break (class 96) ≡ false
unfolding class
no_break_back = refl

module _ (shape : Shape) where
  abbrev D : State
  D = t.Within (mark.Quote quote.Double) shape

  run_byte : (b : ℕ) → b < 256 → run D (map class (byte_text b)) ≡ Some D
  unfolding byte_text
  run_byte b lt =
      let P : List ℕ → Type 0 = λ u. run D (map class u) ≡ Some D in
      branch P (b == 92 || b == 34) _ _ (λ h. run_own 34 refl (mark.Quote quote.Double) shape plain_double no_break_double b h) (λ h.
      branch P (nat_le 32 b && nat_le b 126) _ _ (λ k. let o = or_parts (b == 92) (b == 34) h in run_plain 34 refl (mark.Quote quote.Double) shape plain_double no_break_double b [] (o.1, (o.0, printable b k))) (λ _.
      run_hex 34 refl (mark.Quote quote.Double) shape plain_double no_break_double b lt))

  pub run_bytes : (u : List ℕ) → list_all (λ b. nat_lt b 256) u ≡ true → run D (map class (bytes_text u)) ≡ Some D
  run_bytes [] h = refl
  run_bytes (b ∷ u) h =
      let f = and_parts (nat_lt b 256) (list_all (λ b. nat_lt b 256) u) h in
      ap (run D) (classes_append (byte_text b) (bytes_text u)) ∙ run_more D (map class (byte_text b)) (map class (bytes_text u)) D (run_byte b (byte_bound b f.0)) ∙ run_bytes u f.1

  -- a STRING or a name in its mark
  pub run_text : (u : List ℕ) → run D (map class (escapes 34 u)) ≡ Some D
  run_text = run_escapes 34 refl (mark.Quote quote.Double) shape plain_double no_break_double

  pub run_name : (u : List ℕ) → run (t.Within mark.Backquote shape) (map class (escapes 96 u)) ≡ Some (t.Within mark.Backquote shape)
  run_name = run_escapes 96 refl mark.Backquote shape plain_backquote no_break_back

-- ---- the first byte isn't the mark

abbrev pub head_byte : List ℕ → ℕ
head_byte [] = 0
head_byte (b ∷ u) = b

pub text_first : (b : ℕ) (r : List ℕ) → closes (mark.Quote quote.Double) (class (head_byte (escaped 34 b ++ r))) ≡ false
unfolding escaped class
text_first b r =
    let P : List ℕ → Type 0 = λ u. closes (mark.Quote quote.Double) (class (head_byte (u ++ r))) ≡ false in
    branch P (b == 92 || b == 34) _ _ (λ _. refl) (λ h.
    branch P (b == 10) _ _ (λ _. refl) (λ n10.
    branch P (b == 13) _ _ (λ _. refl) (λ n13.
    branch P (b == 9) _ _ (λ _. refl) (λ _.
    branch P (nat_lt b 32 || b == 127) _ _ (λ _. refl) (λ _.
    let o = or_parts (b == 92) (b == 34) h in (plain_double b (o.1, (o.0, neither_line b n10 n13))).0)))))

pub byte_first : (b : ℕ) (r : List ℕ) → closes (mark.Quote quote.Double) (class (head_byte (byte_text b ++ r))) ≡ false
unfolding byte_text class
byte_first b r =
    let P : List ℕ → Type 0 = λ u. closes (mark.Quote quote.Double) (class (head_byte (u ++ r))) ≡ false in
    branch P (b == 92 || b == 34) _ _ (λ _. refl) (λ h.
    branch P (nat_le 32 b && nat_le b 126) _ _ (λ k. let o = or_parts (b == 92) (b == 34) h in (plain_double b (o.1, (o.0, printable b k))).0) (λ _. refl))
