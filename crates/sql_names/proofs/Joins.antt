-- A loop that writes pieces joined by commas.
use Rattle.std.proofs.Common.{◌≡◌, ℕ, suc, ◌+◌, ◌<◌, List, [], ◌∷◌, ◌++◌, length, map, take, get_or, codes, refl, sym, ◌∙◌, ap, append_assoc, arith}
use Rattle.std.proofs.lemmas.Bool.Decides.{nat_tests}
use Rattle.std.proofs.lemmas.List.{take_more, length-take-le}
use Rattle.sql_names.specs.Commas.{continued, joined, separator}

append_nil : (xs : List ℕ) → xs ++ [] ≡ xs
append_nil [] = refl
append_nil (x ∷ xs) = ap (λ r. x ∷ r) (append_nil xs)

continued-last : {X : Type 0} (text : X → List ℕ) (xs : List X) (y : X) → continued (map text (xs ++ y ∷ [])) ≡ continued (map text xs) ++ (codes ", " ++ text y)
continued-last text [] y = append_nil (codes ", " ++ text y)
continued-last text (x ∷ xs) y =
    ap (λ r. (codes ", " ++ text x) ++ r) (continued-last text xs y) ∙ sym (append_assoc (codes ", " ++ text x) (continued (map text xs)) (codes ", " ++ text y))

separator-suc : (n : ℕ) → separator (suc n) ≡ codes ", "
separator-suc n = grind (arith, nat_tests)

joined-last : {X : Type 0} (text : X → List ℕ) (xs : List X) (y : X) → joined (map text (xs ++ y ∷ [])) ≡ joined (map text xs) ++ (separator (length xs) ++ text y)
joined-last text [] y = append_nil (text y)
joined-last text (x ∷ xs) y =
    ap (λ r. text x ++ r) (continued-last text xs y ∙ ap (λ s. continued (map text xs) ++ (s ++ text y)) (sym (separator-suc (length xs))))
    ∙ sym (append_assoc (text x) (continued (map text xs)) (separator (suc (length xs)) ++ text y))

-- what was written before is the first pieces, and a separator with the next piece makes it one more
pub wrote_joined : {X : Type 0} (text : X → List ℕ) (xs : List X) (i : ℕ) (y : X) → i < length xs → y ≡ get_or xs i y →
    (start before after : List ℕ) → after ≡ before ++ (separator i ++ text y) → before ≡ start ++ joined (map text (take i xs)) → after ≡ start ++ joined (map text (take (i + 1) xs))
wrote_joined text xs i y within at start before after wrote was =
    wrote ∙ ap (λ r. r ++ (separator i ++ text y)) was ∙ append_assoc start (joined (map text (take i xs))) (separator i ++ text y)
    ∙ ap
    (λ r. start ++ r)
    (ap (λ n. joined (map text (take i xs)) ++ (separator n ++ text y)) (sym (length-take-le i xs (omega arith)))
    ∙ sym (joined-last text (take i xs) y)
    ∙ ap (λ z. joined (map text (take i xs ++ z ∷ []))) at
    ∙ sym (ap (λ l. joined (map text l)) (take_more xs i y within)))
