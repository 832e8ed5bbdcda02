-- A loop that writes one piece for each element of a list.
use Rattle.std.proofs.Common.{◌≡◌, ℕ, ◌+◌, ◌<◌, List, [], ◌∷◌, ◌++◌, length, take, get_or, refl, sym, ◌∙◌, ap, append_assoc}
use Rattle.std.proofs.lemmas.List.{take_more}

append_nil : (xs : List ℕ) → xs ++ [] ≡ xs
append_nil [] = refl
append_nil (x ∷ xs) = ap (λ r. x ∷ r) (append_nil xs)

-- the text of a list is the pieces of its elements, one after another
pub record InPieces {X : Type 0} (text : List X → List ℕ) (piece : X → List ℕ) : Type 0 where
  pub none : text [] ≡ []
  pub more : (x : X) (xs : List X) → text (x ∷ xs) ≡ piece x ++ text xs

pub in_pieces-last : {X : Type 0} {text : List X → List ℕ} {piece : X → List ℕ} → InPieces text piece → (xs : List X) (y : X) → text (xs ++ y ∷ []) ≡ text xs ++ piece y
in_pieces-last {X} {text} {piece} p [] y = p.more y [] ∙ ap (λ r. piece y ++ r) p.none ∙ append_nil (piece y) ∙ sym (ap (λ r. r ++ piece y) p.none)
in_pieces-last {X} {text} {piece} p (x ∷ xs) y =
    p.more x (xs ++ y ∷ []) ∙ ap (λ r. piece x ++ r) (in_pieces-last p xs y) ∙ sym (append_assoc (piece x) (text xs) (piece y)) ∙ sym (ap (λ r. r ++ piece y) (p.more x xs))

-- what was written before is the text of the first elements, and the next piece makes it that of one more
pub wrote_more : {X : Type 0} {text : List X → List ℕ} {piece : X → List ℕ} → InPieces text piece → (xs : List X) (i : ℕ) (y : X) → i < length xs → y ≡ get_or xs i y →
    (start before after : List ℕ) → after ≡ before ++ piece y → before ≡ start ++ text (take i xs) → after ≡ start ++ text (take (i + 1) xs)
wrote_more {X} {text} {piece} p xs i y within at start before after wrote was =
    wrote ∙ ap (λ r. r ++ piece y) was ∙ append_assoc start (text (take i xs)) (piece y)
    ∙ ap (λ r. start ++ r) (sym (in_pieces-last p (take i xs) y) ∙ ap (λ z. text (take i xs ++ z ∷ [])) at ∙ sym (ap text (take_more xs i y within)))
