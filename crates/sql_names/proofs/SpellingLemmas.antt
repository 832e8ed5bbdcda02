-- Escapes of one text after another.
use Rattle.std.proofs.Common.{◌≡◌, ℕ, ◌+◌, ◌<◌, List, [], ◌∷◌, ◌++◌, length, take, get_or, refl, sym, ◌∙◌, ap, append_assoc}
use Rattle.std.proofs.lemmas.List.{take_more}
use Rattle.sql_names.specs.Spelling.{escaped, escapes}

append_nil : (xs : List ℕ) → xs ++ [] ≡ xs
append_nil [] = refl
append_nil (x ∷ xs) = ap (λ r. x ∷ r) (append_nil xs)

escapes-append : (mark : ℕ) (u v : List ℕ) → escapes mark (u ++ v) ≡ escapes mark u ++ escapes mark v
escapes-append mark [] v = refl
escapes-append mark (b ∷ u) v = ap (λ r. escaped mark b ++ r) (escapes-append mark u v) ∙ sym (append_assoc (escaped mark b) (escapes mark u) (escapes mark v))

-- the escapes of one byte more
pub escapes_take : (mark i : ℕ) (text : List ℕ) → i < length text → escapes mark (take (i + 1) text) ≡ escapes mark (take i text) ++ escaped mark (get_or text i 0)
escapes_take mark i text within =
    ap (escapes mark) (take_more text i 0 within) ∙ escapes-append mark (take i text) (get_or text i 0 ∷ []) ∙ ap (λ r. escapes mark (take i text) ++ r) (append_nil (escaped mark (get_or text i 0)))
