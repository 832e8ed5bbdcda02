-- One more time a text.
use Rattle.std.proofs.Common.{◌≡◌, ℕ, zero, suc, ◌+◌, List, [], ◌∷◌, ◌++◌, length, refl, ap, sym, ◌∙◌, arith, append_assoc}
use Rattle.std.proofs.lemmas.List.{append-nil}
use Rattle.sql_strings.specs.Texts.{repeated}

pub repeated_push : (n : ℕ) (xs : List ℕ) → repeated n xs ++ xs ≡ repeated (n + 1) xs
repeated_push zero xs = sym (append-nil xs)
repeated_push (suc n) xs =
    let one : suc n + 1 ≡ suc (n + 1) = omega arith in
    append_assoc xs (repeated n xs) xs ∙ ap (λ t. xs ++ t) (repeated_push n xs) ∙ ap (λ k. repeated k xs) (sym one)

pub repeated_none : (n : ℕ) (xs : List ℕ) → length xs ≡ 0 → xs ≡ repeated n xs
repeated_none n (x ∷ xs) none = absurd (omega (arith, none))
repeated_none zero [] none = refl
repeated_none (suc n) [] none = repeated_none n [] refl
