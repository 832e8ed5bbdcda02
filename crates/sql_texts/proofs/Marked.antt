-- Where a text between marks ends, and which text it is.
use Rattle.std.proofs.Common.{◌≡◌, ℕ, ◌+◌, ◌-◌, ◌*◌, ◌/◌, ◌%◌, Bool, true, false, ◌==◌, ◌||◌, ◌&&◌, nat_lt, nat_le, if◌then◌else◌, List, [], ◌∷◌, ◌++◌, Option, Some, None, refl, ap, sym, ◌∙◌, arith, append_assoc}
use Rattle.std.proofs.lemmas.Bool.Decides.{nat_tests, Decides-eqb}
use Rattle.sql_names.specs.Spelling.{hex_digit, escaped, escapes}
use Rattle.sql_ast.specs.Literals.{byte_text, bytes_text}

-- what a digit of base 16 says
abbrev hex_value : ℕ → ℕ
hex_value d = if nat_lt d 58 then d - 48 else d - 87

-- what a letter behind a backslash says
abbrev simple : ℕ → ℕ
simple c = if c == 110 then 10 else if c == 114 then 13 else if c == 116 then 9 else c

abbrev hexadecimal : List ℕ → Option ℕ × List ℕ
hexadecimal (h ∷ l ∷ r) = (Some (16 * hex_value h + hex_value l), r)
hexadecimal _ = (None, [])

abbrev escape : List ℕ → Option ℕ × List ℕ
escape [] = (None, [])
escape (c ∷ r) = if c == 120 then hexadecimal r else (Some (simple c), r)

-- the first byte of what stands before a closing mark, or none at the mark, and what stands behind it
abbrev step : ℕ → List ℕ → Option ℕ × List ℕ
step mark [] = (None, [])
step mark (c ∷ r) = if c == mark then (None, r) else if c == 92 then escape r else (Some c, r)

-- a mark that is no backslash, and no letter that says something else behind one
pub record IsMark (mark : ℕ) : Type 0 where
  pub apart : (92 == mark) ≡ false
  pub x : (mark == 120) ≡ false
  pub n : (mark == 110) ≡ false
  pub r : (mark == 114) ≡ false
  pub t : (mark == 116) ≡ false

branch : (P : List ℕ → Type 0) (t : Bool) (x y : List ℕ) → (t ≡ true → P x) → (t ≡ false → P y) → P (if t then x else y)
branch P true x y f g = f refl
branch P false x y f g = g refl

hex_back : (n : ℕ) → hex_value (hex_digit n) ≡ n
hex_back n = grind (arith, nat_tests)

either : {G : Type 0} (a b : Bool) → (a || b) ≡ true → (a ≡ true → G) → (b ≡ true → G) → G
either true b h f g = f refl
either false b h f g = g h

neither : (a b : Bool) → (a || b) ≡ false → (a ≡ false) × (b ≡ false)
neither true b h = absurd cc
neither false b h = (refl, h)

module _ (mark : ℕ) (m : IsMark mark) where
  special : (b : ℕ) (r : List ℕ) → (b == 92 || b == mark) ≡ true → step mark (92 ∷ b ∷ r) ≡ (Some b, r)
  special b r h =
      either (b == 92) (b == mark) h (λ k. let e : b ≡ 92 = (Decides-eqb b 92).0 k in rw (e, m.apart) refl)
      (λ k. let e : b ≡ mark = (Decides-eqb b mark).0 k in rw (e, m.apart, m.x, m.n, m.r, m.t) refl)

  plain : (b : ℕ) (r : List ℕ) → (b == 92 || b == mark) ≡ false → step mark (b ∷ r) ≡ (Some b, r)
  plain b r h = let k = neither (b == 92) (b == mark) h in rw (k.0, k.1) refl

  in_hex : (b : ℕ) (r : List ℕ) → step mark (92 ∷ 120 ∷ hex_digit (b / 16) ∷ hex_digit (b % 16) ∷ r) ≡ (Some b, r)
  in_hex b r = rw (m.apart, hex_back (b / 16), hex_back (b % 16)) (ap (λ n. (Some n, r)) (omega arith))

  step_escaped : (b : ℕ) (r : List ℕ) → step mark (escaped mark b ++ r) ≡ (Some b, r)
  unfolding escaped
  step_escaped b r =
      let P : List ℕ → Type 0 = λ text. step mark (text ++ r) ≡ (Some b, r) in
      branch P (b == 92 || b == mark) _ _ (λ h. special b r h) (λ h.
      branch P (b == 10) _ _ (λ k. let e : b ≡ 10 = (Decides-eqb b 10).0 k in rw (e, m.apart) refl) (λ _.
      branch P (b == 13) _ _ (λ k. let e : b ≡ 13 = (Decides-eqb b 13).0 k in rw (e, m.apart) refl) (λ _.
      branch P (b == 9) _ _ (λ k. let e : b ≡ 9 = (Decides-eqb b 9).0 k in rw (e, m.apart) refl) (λ _.
      branch P (nat_lt b 32 || b == 127) _ _ (λ _. in_hex b r) (λ _. plain b r h)))))

  module _ (spell : ℕ → List ℕ) (back : (b : ℕ) (r : List ℕ) → step mark (spell b ++ r) ≡ (Some b, r)) (texts : List ℕ → List ℕ) (empty : texts [] ≡ []) (more : (b : ℕ) (t : List ℕ) → texts (b ∷ t) ≡ spell b ++ texts t)
      (closed : (r : List ℕ) → step mark (mark ∷ r) ≡ (None, r)) where
    at_end : (r : List ℕ) → step mark (texts [] ++ mark ∷ r) ≡ (None, r)
    at_end r = rw empty (closed r)

    at_byte : (b : ℕ) (t r : List ℕ) → step mark (texts (b ∷ t) ++ mark ∷ r) ≡ (Some b, texts t ++ mark ∷ r)
    at_byte b t r = ap (λ z. step mark (z ++ mark ∷ r)) (more b t) ∙ ap (step mark) (append_assoc (spell b) (texts t) (mark ∷ r)) ∙ back b (texts t ++ mark ∷ r)

    marked_once : (t u r s : List ℕ) → texts t ++ mark ∷ r ≡ texts u ++ mark ∷ s → (t ≡ u) × (r ≡ s)
    marked_once [] [] r s e = (refl, ap (λ p. p.1) (sym (at_end r) ∙ ap (step mark) e ∙ at_end s))
    marked_once [] (c ∷ u) r s e = absurd (let f = sym (at_end r) ∙ ap (step mark) e ∙ at_byte c u s in let g = ap (λ p. p.0) f in cc)
    marked_once (b ∷ t) [] r s e = absurd (let f = sym (at_byte b t r) ∙ ap (step mark) e ∙ at_end s in let g = ap (λ p. p.0) f in cc)
    marked_once (b ∷ t) (c ∷ u) r s e =
        let f = sym (at_byte b t r) ∙ ap (step mark) e ∙ at_byte c u s in
        let g : Some b ≡ Some c = ap (λ p. p.0) f in
        let first : b ≡ c = cc in
        let rest = marked_once t u r s (ap (λ p. p.1) f) in
        let same = rest.0 in
        (cc, rest.1)

closes : (mark : ℕ) (r : List ℕ) → step mark (mark ∷ r) ≡ (None, r)
closes mark r = let is : (mark == mark) ≡ true = grind (arith, nat_tests) in rw is refl

-- a text before its closing mark
pub escapes_once : (mark : ℕ) → IsMark mark → (t u r s : List ℕ) → escapes mark t ++ mark ∷ r ≡ escapes mark u ++ mark ∷ s → (t ≡ u) × (r ≡ s)
escapes_once mark m = marked_once mark m (escaped mark) (step_escaped mark m) (escapes mark) refl (λ b t. refl) (closes mark)

-- the mark of texts
quote_mark : IsMark 34
quote_mark = record { apart = refl; x = refl; n = refl; r = refl; t = refl }

step_byte : (b : ℕ) (r : List ℕ) → step 34 (byte_text b ++ r) ≡ (Some b, r)
unfolding byte_text
step_byte b r =
    let P : List ℕ → Type 0 = λ text. step 34 (text ++ r) ≡ (Some b, r) in
    branch P (b == 92 || b == 34) _ _ (λ h. special 34 quote_mark b r h) (λ h.
    branch P (nat_le 32 b && nat_le b 126) _ _ (λ _. plain 34 quote_mark b r h) (λ _. in_hex 34 quote_mark b r))

-- texts and bytes, before their closing `"`
pub text_once : (t u r s : List ℕ) → escapes 34 t ++ 34 ∷ r ≡ escapes 34 u ++ 34 ∷ s → (t ≡ u) × (r ≡ s)
text_once = escapes_once 34 quote_mark

pub bytes_once : (t u r s : List ℕ) → bytes_text t ++ 34 ∷ r ≡ bytes_text u ++ 34 ∷ s → (t ≡ u) × (r ≡ s)
bytes_once = marked_once 34 quote_mark byte_text step_byte bytes_text refl (λ b t. refl) (closes 34)
