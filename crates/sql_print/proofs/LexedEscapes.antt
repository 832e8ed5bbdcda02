-- The escapes of a text between marks say the text.
use Rattle.std.proofs.Common.{◌≡◌, inl, inr, ℕ, ◌+◌, ◌*◌, ◌/◌, ◌%◌, ◌^◌, ◌<◌, Bool, true, ◌==◌, ◌&&◌, ◌||◌, if◌then◌else◌, nat_le, nat_lt, List, [], ◌∷◌, ◌++◌, length, Option, Some, None, refl, sym, ◌∙◌, ap, subst, arith}
use Rattle.std.proofs.lemmas.Bool.{and_parts, or_cases, or_parts}
use Rattle.std.proofs.lemmas.Bool.Decides.{nat_tests}
use Rattle.std.proofs.lemmas.Str.{digit_value-digit_char, encode_ascii}
use Rattle.std.specs.Prelude.{encode_utf8}
use Rattle.std.specs.List.{list_all}
use Rattle.sql_names.specs.Spelling.{hex_digit, escaped, escapes}
use Rattle.sql_ast.specs.declared.pieces.Content.{Content}
use Rattle.sql_ast.specs.declared.pieces.Content.TheVariants as content
use Rattle.sql_ast.specs.Literals.{byte_text, bytes_text}
use Rattle.sql_ast.specs.Values.{escape, after, unescape_from, unescape, number, coded}
use Rattle.sql_lexer.proofs.Unescape.{behind, backslash, plain}
use Rattle.sql_print.proofs.LexedMarks.{branch, is_byte, byte_bound}

abbrev from : Content → List ℕ → Option (List ℕ)
from kind u = unescape_from kind 0 u

simple : (kind : Content) (v b : ℕ) (r : List ℕ) → escape kind (v ∷ r) ≡ Some (record { bytes = b ∷ []; size = 1 }) → from kind (92 ∷ v ∷ r) ≡ after (b ∷ []) (from kind r)
simple kind v b r e = backslash kind 92 (v ∷ r) refl ∙ ap (behind kind (v ∷ r)) e

hex_value : (h k b : ℕ) → h < 16 → k < 16 → h * 16 + k ≡ b → b < 256 → (if (nat_lt h 16 && (nat_lt k 16 && true)) && nat_lt ((0 * 16 + h) * 16 + k) (2 ^ 64) then Some ((0 * 16 + h) * 16 + k) else None) ≡ Some b
hex_value h k b lh lk e lt =
    let f : nat_lt h 16 ≡ true = grind (arith, nat_tests) in
    let g : nat_lt k 16 ≡ true = grind (arith, nat_tests) in
    let same : (0 * 16 + h) * 16 + k ≡ b = omega arith in
    let small : nat_lt b (2 ^ 64) ≡ true = grind (arith, nat_tests) in
    rw (f, g, same, small) refl

hex_number : (b : ℕ) → b < 256 → number 16 (hex_digit (b / 16) ∷ hex_digit (b % 16) ∷ []) ≡ Some b
hex_number b lt = rw (digit_value-digit_char (b / 16) (omega arith), digit_value-digit_char (b % 16) (omega arith)) (hex_value (b / 16) (b % 16) b (omega arith) (omega arith) (omega arith) lt)

hex_escape : (kind : Content) (b : ℕ) (r : List ℕ) → coded kind b ≡ Some (b ∷ []) → b < 256 → escape kind (120 ∷ hex_digit (b / 16) ∷ hex_digit (b % 16) ∷ r) ≡ Some (record { bytes = b ∷ []; size = 3 })
unfolding escape
hex_escape kind b r e lt = rw (let two : nat_le 2 (length (hex_digit (b / 16) ∷ hex_digit (b % 16) ∷ r)) ≡ true = grind (arith, nat_tests) in two) (rw (hex_number b lt) (rw e refl))

in_hex : (kind : Content) (b : ℕ) (r : List ℕ) → coded kind b ≡ Some (b ∷ []) → b < 256 → from kind (92 ∷ 120 ∷ hex_digit (b / 16) ∷ hex_digit (b % 16) ∷ r) ≡ after (b ∷ []) (from kind r)
in_hex kind b r e lt = backslash kind 92 (120 ∷ hex_digit (b / 16) ∷ hex_digit (b % 16) ∷ r) refl ∙ ap (behind kind (120 ∷ hex_digit (b / 16) ∷ hex_digit (b % 16) ∷ r)) (hex_escape kind b r e lt)

coded_text : (b : ℕ) → b < 128 → coded content.Text b ≡ Some (b ∷ [])
coded_text b lt = let f : (nat_lt b 0xD800 || (nat_le 0xE000 b && nat_le b 0x10_FFFF)) ≡ true = grind (arith, nat_tests) in ap (λ (t : Bool). if t then Some (encode_utf8 b) else None) f ∙ ap Some (encode_ascii b lt)

coded_bytes : (b : ℕ) → b < 256 → coded content.Bytes b ≡ Some (b ∷ [])
coded_bytes b lt = let f : nat_le b 255 ≡ true = grind (arith, nat_tests) in ap (λ (t : Bool). if t then Some (b ∷ []) else None) f

ascii_byte : (b : ℕ) → (nat_lt b 32 || b == 127) ≡ true → b < 128
ascii_byte b h = grind (arith, nat_tests)

module _ (m : ℕ) (own : (r : List ℕ) → escape content.Text (m ∷ r) ≡ Some (record { bytes = m ∷ []; size = 1 })) where
  from_own : (b : ℕ) (r : List ℕ) → (b == 92 || b == m) ≡ true → from content.Text (92 ∷ b ∷ r) ≡ after (b ∷ []) (from content.Text r)
  unfolding escape
  from_own b r h = elim (or_cases (b == 92) (b == m) h) [
    | inl g ↦ subst (λ (b : ℕ). from content.Text (92 ∷ b ∷ r) ≡ after (b ∷ []) (from content.Text r)) (sym (is_byte b 92 g)) (simple content.Text 92 92 r refl)
    | inr g ↦ subst (λ (b : ℕ). from content.Text (92 ∷ b ∷ r) ≡ after (b ∷ []) (from content.Text r)) (sym (is_byte b m g)) (simple content.Text m m r (own r))
  ]

  from_escaped : (b : ℕ) (r : List ℕ) → from content.Text (escaped m b ++ r) ≡ after (b ∷ []) (from content.Text r)
  unfolding escaped escape
  from_escaped b r =
      let P : List ℕ → Type 0 = λ u. from content.Text (u ++ r) ≡ after (b ∷ []) (from content.Text r) in
      branch P (b == 92 || b == m) _ _ (λ h. from_own b r h) (λ h.
      branch P (b == 10) _ _ (λ g. subst (λ (b : ℕ). from content.Text (92 ∷ 110 ∷ r) ≡ after (b ∷ []) (from content.Text r)) (sym (is_byte b 10 g)) (simple content.Text 110 10 r refl)) (λ _.
      branch P (b == 13) _ _ (λ g. subst (λ (b : ℕ). from content.Text (92 ∷ 114 ∷ r) ≡ after (b ∷ []) (from content.Text r)) (sym (is_byte b 13 g)) (simple content.Text 114 13 r refl)) (λ _.
      branch P (b == 9) _ _ (λ g. subst (λ (b : ℕ). from content.Text (92 ∷ 116 ∷ r) ≡ after (b ∷ []) (from content.Text r)) (sym (is_byte b 9 g)) (simple content.Text 116 9 r refl)) (λ _.
      branch P (nat_lt b 32 || b == 127) _ _ (λ k. let low = ascii_byte b k in in_hex content.Text b r (coded_text b low) (omega arith)) (λ _.
      plain content.Text b r (or_parts (b == 92) (b == m) h).0)))))

  pub escapes_say : (u : List ℕ) → unescape content.Text (escapes m u) ≡ Some u
  unfolding unescape
  escapes_say [] = refl
  escapes_say (b ∷ u) = from_escaped b (escapes m u) ∙ ap (after (b ∷ [])) (escapes_say u)

-- ---- BYTES

from_byte : (b : ℕ) (r : List ℕ) → b < 256 → from content.Bytes (byte_text b ++ r) ≡ after (b ∷ []) (from content.Bytes r)
unfolding byte_text escape
from_byte b r lt =
    let P : List ℕ → Type 0 = λ u. from content.Bytes (u ++ r) ≡ after (b ∷ []) (from content.Bytes r) in
    branch P (b == 92 || b == 34) _ _ (λ h. elim (or_cases (b == 92) (b == 34) h) [
      | inl g ↦ subst (λ (b : ℕ). from content.Bytes (92 ∷ b ∷ r) ≡ after (b ∷ []) (from content.Bytes r)) (sym (is_byte b 92 g)) (simple content.Bytes 92 92 r refl)
      | inr g ↦ subst (λ (b : ℕ). from content.Bytes (92 ∷ b ∷ r) ≡ after (b ∷ []) (from content.Bytes r)) (sym (is_byte b 34 g)) (simple content.Bytes 34 34 r refl)
    ]) (λ h.
    branch P (nat_le 32 b && nat_le b 126) _ _ (λ _. plain content.Bytes b r (or_parts (b == 92) (b == 34) h).0) (λ _. in_hex content.Bytes b r (coded_bytes b lt) lt))

pub bytes_say : (u : List ℕ) → list_all (λ b. nat_lt b 256) u ≡ true → unescape content.Bytes (bytes_text u) ≡ Some u
unfolding unescape
bytes_say [] h = refl
bytes_say (b ∷ u) h =
    let f = and_parts (nat_lt b 256) (list_all (λ b. nat_lt b 256) u) h in
    from_byte b (bytes_text u) (byte_bound b f.0) ∙ ap (after (b ∷ [])) (bytes_say u f.1)

own_double : (r : List ℕ) → escape content.Text (34 ∷ r) ≡ Some (record { bytes = 34 ∷ []; size = 1 })
unfolding escape
own_double r = refl

own_back : (r : List ℕ) → escape content.Text (96 ∷ r) ≡ Some (record { bytes = 96 ∷ []; size = 1 })
unfolding escape
own_back r = refl

pub text_says : (u : List ℕ) → unescape content.Text (escapes 34 u) ≡ Some u
text_says = escapes_say 34 own_double

pub name_says : (u : List ℕ) → unescape content.Text (escapes 96 u) ≡ Some u
name_says = escapes_say 96 own_back
