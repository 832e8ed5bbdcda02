-- Which right rows have met a left row, noted place by place.
use Rattle.std.proofs.Common.{◌≡◌, ℕ, zero, suc, ◌+◌, ◌<◌, Bool, true, false, ◌||◌, List, [], ◌∷◌, length, get_or, set, take, refl, ap, sym, ◌∙◌, add-one, arith}
use Rattle.std.proofs.lemmas.List.{get_or_default}
use Rattle.eval_rows.specs.Met.{either_each}

or_true : (b : Bool) → true ≡ (b || true)
or_true true = refl
or_true false = refl

or_false : (b : Bool) → b ≡ (b || false)
or_false true = refl
or_false false = refl

pub by_none : (had : List Bool) → had ≡ either_each had []
by_none [] = refl
by_none (one ∷ had) = refl

note_true : (had kept : List Bool) (i : ℕ) → i < length had → i < length kept → get_or kept i true ≡ true → set (either_each had (take i kept)) i true ≡ either_each had (take (suc i) kept)
note_true [] kept i few some is = absurd (omega arith)
note_true (one ∷ had) [] i few some is = absurd (omega arith)
note_true (one ∷ had) (keep ∷ kept) zero few some is = ap (λ b. b ∷ had) (or_true one ∙ ap (λ b. one || b) (sym is)) ∙ ap (λ z. (one || keep) ∷ z) (by_none had)
note_true (one ∷ had) (keep ∷ kept) (suc i) few some is = ap (λ z. (one || keep) ∷ z) (note_true had kept i (omega arith) (omega arith) is)

note_false : (had kept : List Bool) (i : ℕ) → i < length had → i < length kept → get_or kept i false ≡ false → either_each had (take i kept) ≡ either_each had (take (suc i) kept)
note_false [] kept i few some is = absurd (omega arith)
note_false (one ∷ had) [] i few some is = absurd (omega arith)
note_false (one ∷ had) (keep ∷ kept) zero few some is = ap (λ b. b ∷ had) (or_false one ∙ ap (λ b. one || b) (sym is)) ∙ ap (λ z. (one || keep) ∷ z) (by_none had)
note_false (one ∷ had) (keep ∷ kept) (suc i) few some is = ap (λ z. (one || keep) ∷ z) (note_false had kept i (omega arith) (omega arith) is)

pub noted_true : (had kept : List Bool) (i : ℕ) (d : Bool) → i < length had → i < length kept → get_or kept i d ≡ true → set (either_each had (take i kept)) i true ≡ either_each had (take (i + 1) kept)
noted_true had kept i d few some kept_here =
    note_true had kept i few some (get_or_default kept i true d some ∙ kept_here) ∙ ap (λ n. either_each had (take n kept)) (sym (add-one i))

pub noted_false : (had kept : List Bool) (i : ℕ) (d : Bool) → i < length had → i < length kept → get_or kept i d ≡ false → either_each had (take i kept) ≡ either_each had (take (i + 1) kept)
noted_false had kept i d few some left_out =
    note_false had kept i few some (get_or_default kept i false d some ∙ left_out) ∙ ap (λ n. either_each had (take n kept)) (sym (add-one i))
