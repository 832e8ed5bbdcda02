-- Lists of which each element passes a test, joined, turned and cut.
use Rattle.std.proofs.Common.{◌≡◌, ℕ, zero, suc, Bool, true, List, [], ◌∷◌, ◌++◌, reverse, take, drop, refl, ap, ◌∙◌}
use Rattle.std.specs.Prelude.{◌&&◌}
use Rattle.std.specs.List.{list_all}
use Rattle.std.proofs.lemmas.List.{reverse-append}
use Rattle.sql_types.proofs.TestParts.{first as left_of, second as right_of}

pub both : (a b : Bool) → a ≡ true → b ≡ true → (a && b) ≡ true
both a b e f = ap (λ x. x && b) e ∙ f

pub all_append : {A : Type 0} (test : A → Bool) (xs ys : List A) → list_all test xs ≡ true → list_all test ys ≡ true → list_all test (xs ++ ys) ≡ true
all_append test [] ys all more = more
all_append test (x ∷ xs) ys all more =
    both (test x) (list_all test (xs ++ ys)) (left_of (test x) _ all) (all_append test xs ys (right_of (test x) _ all) more)

pub all_reverse : {A : Type 0} (test : A → Bool) (xs : List A) → list_all test xs ≡ true → list_all test (reverse xs) ≡ true
all_reverse test [] all = refl
all_reverse test (x ∷ xs) all =
    ap (list_all test) (reverse-append (x ∷ []) xs)
    ∙ all_append test (reverse xs) (x ∷ []) (all_reverse test xs (right_of (test x) _ all)) (both (test x) true (left_of (test x) _ all) refl)

pub all_drop : {A : Type 0} (test : A → Bool) (n : ℕ) (xs : List A) → list_all test xs ≡ true → list_all test (drop n xs) ≡ true
all_drop test zero xs all = all
all_drop test (suc n) [] all = refl
all_drop test (suc n) (x ∷ xs) all = all_drop test n xs (right_of (test x) _ all)

pub all_take : {A : Type 0} (test : A → Bool) (n : ℕ) (xs : List A) → list_all test xs ≡ true → list_all test (take n xs) ≡ true
all_take test zero xs all = refl
all_take test (suc n) [] all = refl
all_take test (suc n) (x ∷ xs) all = both (test x) (list_all test (take n xs)) (left_of (test x) _ all) (all_take test n xs (right_of (test x) _ all))
