-- Where a run of bytes of one sort ends.
use Rattle.std.proofs.Common.{◌≡◌, ℕ, Bool, true, false, not, List, [], ◌∷◌, ◌++◌, refl, ap, sym, ◌∙◌}
use Rattle.std.specs.List.{list_all}
use Rattle.std.proofs.lemmas.Bool.{false≢true, and_parts}

module _ (sort : ℕ → Bool) where
  -- no byte of the sort stands at the front
  abbrev pub ends : List ℕ → Bool
  ends [] = true
  ends (c ∷ r) = not (sort c)

  goes_on : (c : ℕ) (r s : List ℕ) → sort c ≡ true → ends r ≡ true → r ≡ c ∷ s → true ≡ false
  goes_on c r s is stop e = sym stop ∙ ap ends e ∙ ap not is

  -- two runs, each with no further byte of the sort behind it
  pub run_once : (xs ys r s : List ℕ) → list_all sort xs ≡ true → list_all sort ys ≡ true → ends r ≡ true → ends s ≡ true → xs ++ r ≡ ys ++ s → (xs ≡ ys) × (r ≡ s)
  run_once [] [] r s all all' stop stop' e = (refl, e)
  run_once [] (y ∷ ys) r s all all' stop stop' e = absurd (false≢true (sym (goes_on y r (ys ++ s) (and_parts (sort y) (list_all sort ys) all').0 stop e)))
  run_once (x ∷ xs) [] r s all all' stop stop' e = absurd (false≢true (sym (goes_on x s (xs ++ r) (and_parts (sort x) (list_all sort xs) all).0 stop' (sym e))))
  run_once (x ∷ xs) (y ∷ ys) r s all all' stop stop' e =
      let first : x ≡ y = cc in
      let behind : xs ++ r ≡ ys ++ s = cc in
      let rest = run_once xs ys r s (and_parts (sort x) (list_all sort xs) all).1 (and_parts (sort y) (list_all sort ys) all').1 stop stop' behind in
      (λ i. first i ∷ rest.0 i, rest.1)
