-- Bytes in digits of base 16, byte by byte.
use Rattle.std.proofs.Common.{◌≡◌, ℕ, zero, suc, ◌+◌, ◌*◌, ◌/◌, ◌%◌, ◌<◌, Bool, true, false, List, [], ◌∷◌, ◌++◌, length, get_or, Option, Some, None, Ok, Err, if◌then◌else◌, refl, ap, sym, ◌∙◌, arith, eqb, append_assoc}
use Rattle.std.specs.Prelude.{MatchOption, option_map, slice_index}
use denote.Ref.{Bor}
use Rattle.std.specs.Str.{IsUtf8, chars}
use Rattle.std.proofs.lemmas.List.{append-nil}
use Rattle.hex.specs.Hex.{encode_with, encode_lower, lower_digits}
use Rattle.sql_types.specs.declared.value.Value.TheVariants as value
use Rattle.sql_types.specs.declared.fault.FaultKind.TheVariants as fault
use Rattle.sql_strings.specs.Hex.{digit_value, hex_digit, to_hex, with_byte, pairs_of, from_hex, padded}
use Rattle.sql_strings.specs.Rows.{bytes_or_fault}
use Rattle.sql_strings.proofs.CharLaws.{some-chars, chars-none}

-- ---- TO_HEX

digit-is : (n : ℕ) → n < 16 → slice_index lower_digits n ≡ hex_digit n
digit-is zero small = refl
digit-is (suc zero) small = refl
digit-is (suc (suc zero)) small = refl
digit-is (suc (suc (suc zero))) small = refl
digit-is (suc (suc (suc (suc zero)))) small = refl
digit-is (suc (suc (suc (suc (suc zero))))) small = refl
digit-is (suc (suc (suc (suc (suc (suc zero)))))) small = refl
digit-is (suc (suc (suc (suc (suc (suc (suc zero))))))) small = refl
digit-is (suc (suc (suc (suc (suc (suc (suc (suc zero)))))))) small = refl
digit-is (suc (suc (suc (suc (suc (suc (suc (suc (suc zero))))))))) small = refl
digit-is (suc (suc (suc (suc (suc (suc (suc (suc (suc (suc zero)))))))))) small = refl
digit-is (suc (suc (suc (suc (suc (suc (suc (suc (suc (suc (suc zero))))))))))) small = refl
digit-is (suc (suc (suc (suc (suc (suc (suc (suc (suc (suc (suc (suc zero)))))))))))) small = refl
digit-is (suc (suc (suc (suc (suc (suc (suc (suc (suc (suc (suc (suc (suc zero))))))))))))) small = refl
digit-is (suc (suc (suc (suc (suc (suc (suc (suc (suc (suc (suc (suc (suc (suc zero)))))))))))))) small = refl
digit-is (suc (suc (suc (suc (suc (suc (suc (suc (suc (suc (suc (suc (suc (suc (suc zero))))))))))))))) small = refl
digit-is (suc (suc (suc (suc (suc (suc (suc (suc (suc (suc (suc (suc (suc (suc (suc (suc n)))))))))))))))) small = absurd (omega (arith, small))

pub encoded : (bytes : List ℕ) → ((i : ℕ) → get_or bytes i 0 < 256) → encode_lower bytes ≡ to_hex bytes
unfolding encode_with
encoded [] small = refl
encoded (b ∷ bytes) small =
    let byte : b < 256 = small 0 in
    let high : slice_index lower_digits (b / 16) ≡ hex_digit (b / 16) = digit-is (b / 16) (omega (arith, byte)) in
    let low : slice_index lower_digits (b % 16) ≡ hex_digit (b % 16) = digit-is (b % 16) (omega arith) in
    let rest = encoded bytes (λ i. small (suc i)) in
    ap (λ t. t ∷ slice_index lower_digits (b % 16) ∷ encode_lower bytes) high ∙ ap (λ t. hex_digit (b / 16) ∷ t ∷ encode_lower bytes) low ∙ ap (λ t. hex_digit (b / 16) ∷ hex_digit (b % 16) ∷ t) rest

-- ---- the first byte

abbrev NoDigit : List ℕ → Type 0
NoDigit cs = (c : ℕ) (more : List ℕ) → cs ≡ c ∷ more → digit_value c ≡ None

abbrev Digit : List ℕ → ℕ × Bor (List ℕ) → Type 0
Digit cs r = (c : ℕ) × (cs ≡ c ∷ chars r.1.now) × (digit_value c ≡ Some r.0)

abbrev FirstByte : List ℕ → ℕ × Bor (List ℕ) → Type 0
FirstByte digits r = pairs_of digits ≡ option_map (λ bytes. r.0 ∷ bytes) (pairs_of (chars r.1.now))

-- one digit behind a `0` is the byte
low-byte : (v : ℕ) (o : Option (List ℕ)) → with_byte (Some 0) (Some v) o ≡ option_map (λ bytes. v ∷ bytes) o
low-byte v None = refl
low-byte v (Some bytes) = let same : 16 * 0 + v ≡ v = omega arith in ap (λ n. Some (n ∷ bytes)) same

pub odd-first : (text : List ℕ) (is_odd : Bool) (r : Option (ℕ × Bor (List ℕ))) → IsUtf8 text → 0 < length text → is_odd ≡ true
    → MatchOption r (NoDigit (chars text)) (Digit (chars text)) → MatchOption r (pairs_of (padded is_odd (chars text)) ≡ None) (FirstByte (padded is_odd (chars text)))
odd-first text is_odd None ut some odd isnt =
    let first = some-chars text ut some in
    let none : digit_value first.0 ≡ None = isnt first.0 first.1 first.2 in
    ap (λ b. pairs_of (padded b (chars text))) odd ∙ ap (λ cs. pairs_of (48 ∷ cs)) first.2 ∙ ap (λ d. with_byte (Some 0) d (pairs_of first.1)) none
odd-first text is_odd (Some r) ut some odd (c, split, is) =
    ap (λ b. pairs_of (padded b (chars text))) odd ∙ ap (λ cs. pairs_of (48 ∷ cs)) split ∙ ap (λ d. with_byte (Some 0) d (pairs_of (chars r.1.now))) is ∙ low-byte r.0 (pairs_of (chars r.1.now))

no-high : (d : Option ℕ) (e : Option ℕ) (o : Option (List ℕ)) → d ≡ None → with_byte d e o ≡ None
no-high d e o none = ap (λ x. with_byte x e o) none

no-low : (d : Option ℕ) (o : Option (List ℕ)) → with_byte d None o ≡ None
no-low None o = refl
no-low (Some n) o = refl

pub first-not : (text : List ℕ) (is_odd : Bool) → IsUtf8 text → 0 < length text → is_odd ≡ false → NoDigit (chars text) → pairs_of (padded is_odd (chars text)) ≡ None
first-not text is_odd ut some even isnt =
    let first = some-chars text ut some in
    let none : digit_value first.0 ≡ None = isnt first.0 first.1 first.2 in
    ap (λ b. pairs_of (padded b (chars text))) even ∙ ap pairs_of first.2 ∙ by first.0 first.1 none
  where
    by : (c : ℕ) (cs : List ℕ) → digit_value c ≡ None → pairs_of (c ∷ cs) ≡ None
    by c [] none = refl
    by c (d ∷ cs) none = no-high (digit_value c) (digit_value d) (pairs_of cs) none

pub second-not : (text behind : List ℕ) (is_odd : Bool) (c : ℕ) → is_odd ≡ false → chars text ≡ c ∷ chars behind → NoDigit (chars behind) → pairs_of (padded is_odd (chars text)) ≡ None
second-not text behind is_odd c even split isnt =
    ap (λ b. pairs_of (padded b (chars text))) even ∙ ap pairs_of split ∙ by (chars behind) isnt
  where
    by : (cs : List ℕ) → NoDigit cs → pairs_of (c ∷ cs) ≡ None
    by [] isnt = refl
    by (d ∷ cs) isnt = ap (λ e. with_byte (digit_value c) e (pairs_of cs)) (isnt d cs refl) ∙ no-low (digit_value c) (pairs_of cs)

-- ---- the bytes so far

pub hex-start : (made digits : List ℕ) (is_odd : Bool) → made ≡ [] → is_odd ≡ eqb (length digits % 2) 1 → option_map (λ bytes. made ++ bytes) (pairs_of (padded is_odd digits)) ≡ from_hex digits
hex-start made digits is_odd none odd =
    ap (λ m. option_map (λ bytes. m ++ bytes) (pairs_of (padded is_odd digits))) none ∙ same (pairs_of (padded is_odd digits)) ∙ ap (λ b. pairs_of (padded b digits)) odd ∙ by (length digits % 2) (omega arith)
  where
    same : (o : Option (List ℕ)) → option_map (λ bytes. [] ++ bytes) o ≡ o
    same None = refl
    same (Some bytes) = refl

    by : (n : ℕ) → n < 2 → pairs_of (padded (eqb n 1) digits) ≡ (if eqb n 0 then pairs_of digits else pairs_of (48 ∷ digits))
    by zero small = refl
    by (suc zero) small = refl
    by (suc (suc n)) small = absurd (omega (arith, small))

pub hex-more : (made now rest behind : List ℕ) (is_odd : Bool) (byte : ℕ) (whole : Option (List ℕ)) → now ≡ made ++ byte ∷ []
    → pairs_of (padded is_odd (chars rest)) ≡ option_map (λ bytes. byte ∷ bytes) (pairs_of (chars behind))
    → option_map (λ bytes. made ++ bytes) (pairs_of (padded is_odd (chars rest))) ≡ whole → option_map (λ bytes. now ++ bytes) (pairs_of (chars behind)) ≡ whole
hex-more made now rest behind is_odd byte whole push first so_far =
    ap (λ m. option_map (λ bytes. m ++ bytes) (pairs_of (chars behind))) push ∙ by (pairs_of (chars behind)) ∙ ap (option_map (λ bytes. made ++ bytes)) (sym first) ∙ so_far
  where
    by : (o : Option (List ℕ)) → option_map (λ bytes. (made ++ byte ∷ []) ++ bytes) o ≡ option_map (λ bytes. made ++ bytes) (option_map (λ bytes. byte ∷ bytes) o)
    by None = refl
    by (Some bytes) = ap Some (append_assoc made (byte ∷ []) bytes)

pub hex-end : (made rest : List ℕ) (is_odd : Bool) (whole : Option (List ℕ)) → length rest ≡ 0 → (is_odd ≡ true → 0 < length rest)
    → option_map (λ bytes. made ++ bytes) (pairs_of (padded is_odd (chars rest))) ≡ whole → Ok (value.Bytes made) ≡ bytes_or_fault whole
hex-end made rest true whole none odd so_far = let some = odd refl in absurd (omega (arith, none, some))
hex-end made rest false whole none odd so_far =
    ap (λ t. Ok (value.Bytes t)) (sym (append-nil made)) ∙ ap (λ cs. bytes_or_fault (option_map (λ bytes. made ++ bytes) (pairs_of cs))) (sym (chars-none rest none)) ∙ ap bytes_or_fault so_far

pub hex-some : (text : List ℕ) (is_odd : Bool) → is_odd ≡ eqb (length (chars text) % 2) 1 → is_odd ≡ true → 0 < length text
hex-some [] is_odd odd is = let none : eqb (length (chars []) % 2) 1 ≡ false = ap (λ cs. eqb (length cs % 2) 1) (chars-none [] refl) in let both : true ≡ false = sym is ∙ odd ∙ none in cc
hex-some (b ∷ text) is_odd odd is = omega arith
