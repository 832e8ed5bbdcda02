-- Text in UTF-8 stays UTF-8 when its escapes are read and its lines are ended by LF.
use Rattle.std.proofs.Common.{◌≡◌, ℕ, zero, suc, ◌+◌, ◌-◌, ◌<◌, ◌≤◌, Bool, true, false, cond, ◌&&◌, ◌||◌, List, [], ◌∷◌, ◌++◌, length, drop, get_or, Option, Some, None, refl, sym, ◌∙◌, ap, subst, append_assoc, append-nil, length-drop, length-append, arith}
use Rattle.std.proofs.lemmas.Bool.Decides.{nat_tests}
use Rattle.std.proofs.lemmas.Str.{IsUtf8-append, IsUtf8-nil, IsUtf8-encode, IsUtf8-drop, IsCharBoundary-after_ascii, encode_ascii, inside_one, length-encode, len_utf8_bounds}
use Rattle.std.specs.Prelude.{◌==◌, IsUtf8, IsCharBoundary, encode_utf8, encode_utf8_all}
use Rattle.std.specs.Char.{IsScalar}
use Rattle.std.specs.Str.{all_scalars}
use Rattle.sql_ast.specs.declared.pieces.Content.TheVariants as content
use Rattle.sql_ast.specs.Values.{Escape, escape, after, unescape_from, unescape, lines_after, lines}
use Rattle.sql_lexer.proofs.Unescape.{passed, behind, backslash, plain}
use Rattle.sql_lexer.proofs.Utf8.{sound, of_and}

-- ---- characters whose bytes a test spares

-- no byte passes the test
abbrev Spared : (ℕ → Bool) → List ℕ → Type 0
Spared p [] = Unit {0}
Spared p (b ∷ w) = (p b ≡ false) × Spared p w

spared_from : (p : ℕ → Bool) (w : List ℕ) → ((k : ℕ) → k < length w → p (get_or w k 0) ≡ false) → Spared p w
spared_from p [] h = tt
spared_from p (b ∷ w) h = (h 0 (omega arith), spared_from p w (λ k lt. h (suc k) (omega arith)))

-- a test that only ASCII passes spares a character that doesn't pass it
spared_char : (p : ℕ → Bool) → ((b : ℕ) → p b ≡ true → b < 128) → (c : ℕ) → p c ≡ false → Spared p (encode_utf8 c)
spared_char p low c out = spared_from p (encode_utf8 c) (λ k lt. elim (p (get_or (encode_utf8 c) k 0)) as (λ t. p (get_or (encode_utf8 c) k 0) ≡ t → t ≡ false) [
  | true ↦ λ e. let same = inside_one c [] (encode_utf8 c) k (sym (append-nil (encode_utf8 c))) lt (low (get_or (encode_utf8 c) k 0) e) in absurd (let f : p c ≡ true = ap p same ∙ e in cc)
  | false ↦ λ e. refl
] refl)

-- the first character of a text, and what is behind it
record First (u : List ℕ) : Type 0 where
  char : ℕ
  rest : List ℕ
  is : u ≡ encode_utf8 char ++ rest
  scalar : IsScalar char
  utf8 : IsUtf8 rest

first_char : (u : List ℕ) → IsUtf8 u → 0 < length u → First u
first_char u ([], (s, e)) lt = absurd (let f = ap length e in omega arith)
first_char u (c ∷ cs, (s, e)) lt = let h = of_and _ _ s in record { char = c; rest = encode_utf8_all cs; is = sym e; scalar = h.0; utf8 = (cs, (h.1, refl)) }

shorter : (c : ℕ) (rest : List ℕ) → length rest < length (encode_utf8 c ++ rest)
shorter c rest = let e = length-append (encode_utf8 c) rest in let f = length-encode c in let g = (len_utf8_bounds c).0 in omega arith

-- ---- escapes

abbrev is_slope : ℕ → Bool
is_slope b = b == 92

slope_low : (b : ℕ) → is_slope b ≡ true → b < 128
slope_low b e = grind (arith, nat_tests)

after_after : (a b : List ℕ) (o : Option (List ℕ)) → after a (after b o) ≡ after (a ++ b) o
after_after a b None = refl
after_after a b (Some u) = ap Some (sym (append_assoc a b u))

plain_run : (w rest : List ℕ) → Spared is_slope w → unescape_from content.Text 0 (w ++ rest) ≡ after w (unescape_from content.Text 0 rest)
plain_run [] rest h = sym (after_nil (unescape_from content.Text 0 rest))
  where
    after_nil : (o : Option (List ℕ)) → after [] o ≡ o
    after_nil None = refl
    after_nil (Some u) = refl
plain_run (b ∷ w) rest h = plain content.Text b (w ++ rest) h.0 ∙ ap (after (b ∷ [])) (plain_run w rest h.1) ∙ after_after (b ∷ []) w (unescape_from content.Text 0 rest)

-- a front and what follows it, where something does
after_some : (a v : List ℕ) (o : Option (List ℕ)) → after a o ≡ Some v → (w : List ℕ) × (o ≡ Some w) × (v ≡ a ++ w)
after_some a v None e = absurd (cc)
after_some a v (Some w) e = (w, refl, cc)

-- behind an ASCII byte
utf8_behind : (u : List ℕ) (k : ℕ) → IsUtf8 u → 0 < k → k ≤ length u → get_or u (k - 1) 0 < 128 → IsUtf8 (drop k u)
utf8_behind u k h some within ascii =
    let one : (k - 1) + 1 ≡ k = omega arith in
    IsUtf8-drop u k h (subst (IsCharBoundary u) one (IsCharBoundary-after_ascii u (k - 1) h (omega arith) ascii))

other_first : (b : ℕ) (u : List ℕ) (f : First (b ∷ u)) → is_slope b ≡ false → is_slope f.char ≡ false
other_first b u f h = elim (is_slope f.char) as (λ t. is_slope f.char ≡ t → t ≡ false) [
  | true ↦ λ e. absurd (same_byte b u f h (is_92 f.char e))
  | false ↦ λ e. refl
] refl
  where
    is_92 : (c : ℕ) → is_slope c ≡ true → c ≡ 92
    is_92 c e = grind (arith, nat_tests)

    not_92 : (b : ℕ) → is_slope b ≡ false → b ≡ 92 → ⊥
    not_92 b h e = grind (arith, nat_tests)

    same_byte : (b : ℕ) (u : List ℕ) (f : First (b ∷ u)) → is_slope b ≡ false → f.char ≡ 92 → ⊥
    same_byte b u f h e =
        let g : b ∷ u ≡ 92 ∷ f.rest = f.is ∙ ap (λ w. w ++ f.rest) (ap encode_utf8 e ∙ encode_ascii 92 (omega arith)) in
        not_92 b h (cc)

-- what has at most so many bytes
abbrev Kept : ℕ → Type 0
Kept n = (u : List ℕ) → length u ≤ n → IsUtf8 u → (v : List ℕ) → unescape_from content.Text 0 u ≡ Some v → IsUtf8 v

-- behind a backslash
kept_escape : (n : ℕ) → Kept n → (u : List ℕ) → length u ≤ n → IsUtf8 u → (o : Option Escape) → escape content.Text u ≡ o → (v : List ℕ) → behind content.Text u o ≡ Some v → IsUtf8 v
kept_escape n again u le h None is v e = absurd (cc)
kept_escape n again u le h (Some f) is v e =
    let s = sound u f is in
    let g = after_some f.bytes v (unescape_from content.Text f.size u) e in
    let l = length-drop f.size u in
    subst IsUtf8 (sym g.2) (IsUtf8-append f.bytes g.0 s.utf8
    (again (drop f.size u) (omega arith) (utf8_behind u f.size h s.some s.within s.ascii) g.0 (sym (passed content.Text f.size u) ∙ g.1)))

kept : (n : ℕ) → Kept n
kept n [] le h v e = subst IsUtf8 (let f : [] ≡ v = cc in f) IsUtf8-nil
kept zero (b ∷ u) le h v e = absurd (omega arith)
kept (suc n) (b ∷ u) le h v e = elim (is_slope b) as (λ t. is_slope b ≡ t → IsUtf8 v) [
  | true ↦ λ s. kept_escape n (kept n) u (omega arith) (utf8_behind (b ∷ u) 1 h (omega arith) (omega arith) (slope_low b s)) (escape content.Text u) refl v (sym (backslash content.Text b u s) ∙ e)
  | false ↦ λ s.
      let f = first_char (b ∷ u) h (omega arith) in
      let run = plain_run (encode_utf8 f.char) f.rest (spared_char is_slope slope_low f.char (other_first b u f s)) in
      let g = after_some (encode_utf8 f.char) v (unescape_from content.Text 0 f.rest) (sym run ∙ sym (ap (unescape_from content.Text 0) f.is) ∙ e) in
      let l = shorter f.char f.rest in
      let m = ap length f.is in
      subst IsUtf8 (sym g.2) (IsUtf8-append (encode_utf8 f.char) g.0 (IsUtf8-encode f.char f.scalar) (kept n f.rest (omega arith) f.utf8 g.0 g.1))
] refl

pub unescape_utf8 : (u v : List ℕ) → IsUtf8 u → unescape content.Text u ≡ Some v → IsUtf8 v
unfolding unescape
unescape_utf8 u v h e = kept (length u) u (omega arith) h v e

-- ---- lines

abbrev ends_line : ℕ → Bool
ends_line b = b == 10 || b == 13

line_low : (b : ℕ) → ends_line b ≡ true → b < 128
line_low b e = grind (arith, nat_tests)

-- the byte before what follows
abbrev last_of : ℕ → List ℕ → ℕ
last_of before [] = before
last_of before (b ∷ w) = last_of b w

line_byte : (before b : ℕ) (more : List ℕ) → ends_line b ≡ false → lines_after before (b ∷ more) ≡ b ∷ lines_after b more
line_byte before b more e =
    let f : (b == 10) ≡ false = grind (arith, nat_tests) in
    let g : (b == 13) ≡ false = grind (arith, nat_tests) in
    ap (λ t. cond (t && before == 13) (lines_after b more) (cond (b == 13) 10 b ∷ lines_after b more)) f
    ∙ ap (λ t. cond t 10 b ∷ lines_after b more) g

line_run : (w rest : List ℕ) (before : ℕ) → Spared ends_line w → lines_after before (w ++ rest) ≡ w ++ lines_after (last_of before w) rest
line_run [] rest before h = refl
line_run (b ∷ w) rest before h = line_byte before b (w ++ rest) h.0 ∙ ap (λ u. b ∷ u) (line_run w rest b h.1)

is_line_end : (c : ℕ) → ends_line c ≡ true → (c == 10) ≡ false → c ≡ 13
is_line_end c e f = grind (arith, nat_tests)

is_ten : (c : ℕ) → (c == 10) ≡ true → c ≡ 10
is_ten c e = grind (arith, nat_tests)

ten : (u : List ℕ) → IsUtf8 u → IsUtf8 (10 ∷ u)
ten u h = IsUtf8-append (10 ∷ []) u (subst IsUtf8 (encode_ascii 10 (omega arith)) (IsUtf8-encode 10 refl)) h

ten_or_none : (t : Bool) (u : List ℕ) → IsUtf8 u → IsUtf8 (cond t u (10 ∷ u))
ten_or_none true u h = h
ten_or_none false u h = ten u h

lines_kept : (cs : List ℕ) → all_scalars cs ≡ true → (before : ℕ) → IsUtf8 (lines_after before (encode_utf8_all cs))
lines_kept [] s before = IsUtf8-nil
lines_kept (c ∷ cs) s before =
    let h = of_and _ _ s in
    elim (ends_line c) as (λ t. ends_line c ≡ t → IsUtf8 (lines_after before (encode_utf8 c ++ encode_utf8_all cs))) [
      | false ↦ λ e. subst IsUtf8 (sym (line_run (encode_utf8 c) (encode_utf8_all cs) before (spared_char ends_line line_low c e)))
          (IsUtf8-append (encode_utf8 c) (lines_after (last_of before (encode_utf8 c)) (encode_utf8_all cs)) (IsUtf8-encode c h.0) (lines_kept cs h.1 (last_of before (encode_utf8 c))))
      | true ↦ λ e. elim (c == 10) as (λ t. (c == 10) ≡ t → IsUtf8 (lines_after before (encode_utf8 c ++ encode_utf8_all cs))) [
        | true ↦ λ f. subst (λ w. IsUtf8 (lines_after before (w ++ encode_utf8_all cs))) (sym (ap encode_utf8 (is_ten c f) ∙ encode_ascii 10 (omega arith)))
            (ten_or_none (before == 13) (lines_after 10 (encode_utf8_all cs)) (lines_kept cs h.1 10))
        | false ↦ λ f. subst (λ w. IsUtf8 (lines_after before (w ++ encode_utf8_all cs))) (sym (ap encode_utf8 (is_line_end c e f) ∙ encode_ascii 13 (omega arith)))
            (ten (lines_after 13 (encode_utf8_all cs)) (lines_kept cs h.1 13))
      ] refl
    ] refl

pub lines_utf8 : (u : List ℕ) → IsUtf8 u → IsUtf8 (lines u)
unfolding lines
lines_utf8 u (cs, (s, e)) = subst (λ w. IsUtf8 (lines_after 0 w)) e (lines_kept cs s 0)
