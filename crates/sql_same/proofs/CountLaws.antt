-- Two lists of places without their places are equal where there are as many.
use Rattle.std.proofs.Common.{◌≡◌, ◌↔◌, ℕ, suc, List, [], ◌∷◌, length, map, refl, ap, arith}

forth : (xs ys : List ℕ) → length xs ≡ length ys → map {B = ℕ} (λ x. 0) xs ≡ map {B = ℕ} (λ y. 0) ys
forth [] [] e = refl
forth [] (y ∷ ys) e = absurd (omega arith)
forth (x ∷ xs) [] e = absurd (omega arith)
forth (x ∷ xs) (y ∷ ys) e = ap (λ (zs : List ℕ). 0 ∷ zs) (forth xs ys (omega arith))

count : (xs : List ℕ) → length {A = ℕ} (map {B = ℕ} (λ x. 0) xs) ≡ length xs
count [] = refl
count (x ∷ xs) = ap suc (count xs)

back : (xs ys : List ℕ) → map {B = ℕ} (λ x. 0) xs ≡ map {B = ℕ} (λ y. 0) ys → length xs ≡ length ys
back xs ys e = let f = count xs in let g = count ys in let h = ap length e in omega arith

pub as_many : (xs ys : List ℕ) → (length xs ≡ length ys) ↔ (map {B = ℕ} (λ x. 0) xs ≡ map {B = ℕ} (λ y. 0) ys)
as_many xs ys = (forth xs ys, back xs ys)
