-- Symbols that are dropped at the ends of a text.
use Rattle.std.proofs.Common.{◌≡◌, ℕ, suc, Bool, true, false, ◌&&◌, cond, List, [], ◌∷◌, ◌++◌, length, reverse, if◌then◌else◌, refl, ap, sym, ◌∙◌, arith, eqb}
use Rattle.std.proofs.lemmas.Grind.{common_steps}
use Rattle.std.specs.Char.{is_whitespace}
use Rattle.std.specs.Str.{IsUtf8, chars, skip_leading_whitespace, drop_trailing_whitespace, trim_start, trim_end}
use Rattle.std.proofs.lemmas.Str.{chars_from_encodes}
use Rattle.std.proofs.lemmas.List.{reverse-append, reverse-reverse, length-reverse}
use Rattle.sql_strings.specs.Texts.{drop_front, drop_back}

-- ---- white space, as std drops it

skip-is : (cs : List ℕ) → skip_leading_whitespace cs ≡ drop_front is_whitespace cs
skip-is [] = refl
skip-is (c ∷ cs) = ap (λ t. if is_whitespace c then t else c ∷ cs) (skip-is cs)

front-all : (drops : ℕ → Bool) (xs ys : List ℕ) → drop_front drops xs ≡ [] → drop_front drops (xs ++ ys) ≡ drop_front drops ys
front-all drops [] ys none = refl
front-all drops (x ∷ xs) ys none = by (drops x) none (front-all drops xs ys)
  where
    by : (b : Bool) → (if b then drop_front drops xs else x ∷ xs) ≡ [] → (drop_front drops xs ≡ [] → drop_front drops (xs ++ ys) ≡ drop_front drops ys)
        → (if b then drop_front drops (xs ++ ys) else x ∷ (xs ++ ys)) ≡ drop_front drops ys
    by true none more = more none
    by false none more = cc

front-some : (drops : ℕ → Bool) (xs ys : List ℕ) (r : ℕ) (rs : List ℕ) → drop_front drops xs ≡ r ∷ rs → drop_front drops (xs ++ ys) ≡ (r ∷ rs) ++ ys
front-some drops [] ys r rs some = cc
front-some drops (x ∷ xs) ys r rs some = by (drops x) some (front-some drops xs ys r rs)
  where
    by : (b : Bool) → (if b then drop_front drops xs else x ∷ xs) ≡ r ∷ rs → (drop_front drops xs ≡ r ∷ rs → drop_front drops (xs ++ ys) ≡ (r ∷ rs) ++ ys)
        → (if b then drop_front drops (xs ++ ys) else x ∷ (xs ++ ys)) ≡ (r ∷ rs) ++ ys
    by true some more = more some
    by false some more = ap (λ t. t ++ ys) some

not-none : (n : ℕ) → eqb (suc n) 0 ≡ false
not-none n = grind (arith, common_steps)

-- the end of a text with one symbol more before it
back-cons : (drops : ℕ → Bool) (c : ℕ) (cs : List ℕ) → cond (drops c && eqb (length (drop_back drops cs)) 0) [] (c ∷ drop_back drops cs) ≡ drop_back drops (c ∷ cs)
back-cons drops c cs = by (drop_front drops (reverse cs)) refl
  where
    whole : drop_back drops (c ∷ cs) ≡ reverse (drop_front drops (reverse cs ++ c ∷ []))
    whole = ap (λ t. reverse (drop_front drops t)) (reverse-append (c ∷ []) cs)

    one : (b : Bool) → cond (b && true) [] (c ∷ []) ≡ reverse (if b then [] else c ∷ [])
    one true = refl
    one false = refl

    and-false : (b : Bool) → (b && false) ≡ false
    and-false true = refl
    and-false false = refl

    by : (rs : List ℕ) → drop_front drops (reverse cs) ≡ rs → cond (drops c && eqb (length (drop_back drops cs)) 0) [] (c ∷ drop_back drops cs) ≡ drop_back drops (c ∷ cs)
    by [] is =
        let none : drop_back drops cs ≡ [] = ap reverse is in
        ap (λ t. cond (drops c && eqb (length t) 0) [] (c ∷ t)) none ∙ one (drops c) ∙ ap reverse (sym (front-all drops (reverse cs) (c ∷ []) is)) ∙ sym whole
    by (r ∷ rs) is =
        let some : drop_back drops cs ≡ reverse (r ∷ rs) = ap reverse is in
        let size : length (drop_back drops cs) ≡ suc (length rs) = ap length some ∙ length-reverse (r ∷ rs) in
        let test : eqb (length (drop_back drops cs)) 0 ≡ false = ap (λ n. eqb n 0) size ∙ not-none (length rs) in
        let longer : (drops c && eqb (length (drop_back drops cs)) 0) ≡ false = ap (λ b. drops c && b) test ∙ and-false (drops c) in
        ap (λ b. cond b [] (c ∷ drop_back drops cs)) longer ∙ ap (λ t. c ∷ t) some
        ∙ sym (reverse-append (r ∷ rs) (c ∷ [])) ∙ ap reverse (sym (front-some drops (reverse cs) (c ∷ []) r rs is)) ∙ sym whole

trailing-is : (cs : List ℕ) → drop_trailing_whitespace cs ≡ drop_back is_whitespace cs
trailing-is [] = refl
trailing-is (c ∷ cs) = ap (λ t. cond (is_whitespace c && eqb (length t) 0) [] (c ∷ t)) (trailing-is cs) ∙ back-cons is_whitespace c cs

pub start-is : (text rest : List ℕ) → IsUtf8 rest → rest ≡ trim_start text → chars rest ≡ drop_front is_whitespace (chars text)
unfolding trim_start
start-is text rest ur is = sym (chars_from_encodes (skip_leading_whitespace (chars text)) rest ur (sym is)) ∙ skip-is (chars text)

pub end-is : (text rest : List ℕ) → IsUtf8 rest → rest ≡ trim_end text → chars rest ≡ drop_back is_whitespace (chars text)
unfolding trim_end
end-is text rest ur is = sym (chars_from_encodes (drop_trailing_whitespace (chars text)) rest ur (sym is)) ∙ trailing-is (chars text)
