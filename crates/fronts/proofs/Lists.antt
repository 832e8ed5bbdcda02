-- Lists that are cut in two.
use Rattle.std.proofs.Common.{◌≡◌, ℕ, ◌+◌, ◌-◌, List, [], ◌∷◌, ◌++◌, length, take, drop, refl, sym, ◌∙◌, ap, add-one, arith}
use Rattle.std.proofs.lemmas.List.{append_assoc, length-append}
use Rattle.std.proofs.Math.Seq.{take-append_seam, take-append-add, drop-append_seam}

module _ {C : Type 0} where
  pub take_more : (n : ℕ) (x : C) (u : List C) → take (n + 1) (x ∷ u) ≡ x ∷ take n u
  take_more n x u = rw add-one refl

  -- a list with something before it is another
  pub no_longer : (x : C) (u v : List C) → v ≡ (x ∷ u) ++ v → ⊥
  no_longer x u v e = let f : length v ≡ length (x ∷ u) + length v = ap length e ∙ length-append (x ∷ u) v in omega arith

  -- what stands before the same rest is the same
  pub same_front_of : (u v rest : List C) → u ++ rest ≡ v ++ rest → u ≡ v
  same_front_of [] [] rest e = refl
  same_front_of [] (x ∷ v) rest e = absurd (no_longer x v rest e)
  same_front_of (x ∷ u) [] rest e = absurd (no_longer x u rest (sym e))
  same_front_of (x ∷ u) (y ∷ v) rest e = let h : x ≡ y = cc in let i : u ++ rest ≡ v ++ rest = cc in let j = same_front_of u v rest i in cc

  pub joined : (ts u rest v more : List C) → ts ≡ u ++ rest → rest ≡ v ++ more → ts ≡ (u ++ v) ++ more
  joined ts u rest v more e f = e ∙ ap (λ x. u ++ x) f ∙ sym (append_assoc u v more)

  pub split_at : (ts u rest : List C) → ts ≡ u ++ rest → length ts - length rest ≡ length u
  split_at ts u rest e = let f : length ts ≡ length u + length rest = ap length e ∙ length-append u rest in omega arith

  pub front_is : (ts u rest : List C) → ts ≡ u ++ rest → take (length ts - length rest) ts ≡ u
  front_is ts u rest e = ap (λ n. take n ts) (split_at ts u rest e) ∙ ap (take (length u)) e ∙ take-append_seam u rest

  pub rest_is : (ts u rest : List C) → ts ≡ u ++ rest → rest ≡ drop (length ts - length rest) ts
  rest_is ts u rest e = sym (ap (λ n. drop n ts) (split_at ts u rest e) ∙ ap (drop (length u)) e ∙ drop-append_seam u rest)

  pub one_more_is : (ts u : List C) (t : C) (rest : List C) → ts ≡ u ++ (t ∷ rest) → take (length ts - length (t ∷ rest) + 1) ts ≡ u ++ (t ∷ [])
  one_more_is ts u t rest e = ap (λ n. take (n + 1) ts) (split_at ts u (t ∷ rest) e) ∙ ap (take (length u + 1)) e ∙ take-append-add u (t ∷ rest) 1

  -- the end of nothing is nothing
  pub end_is : (u rest : List C) → [] ≡ u ++ rest → rest ≡ []
  end_is [] rest e = sym e
  end_is (x ∷ u) rest e = absurd (let f : [] ≡ x ∷ (u ++ rest) = e in cc)

  pub start_is : (u rest : List C) → [] ≡ u ++ rest → u ≡ []
  start_is [] rest e = refl
  start_is (x ∷ u) rest e = absurd (let f : [] ≡ x ∷ (u ++ rest) = e in cc)

  -- a list in which it stands itself leaves no gap
  pub no_gap : (u w v r : List C) → v ≡ u ++ r → r ≡ w ++ v → r ≡ v
  no_gap u [] v r e f = f
  no_gap u (x ∷ w) v r e f =
      let h : length v ≡ length u + length r = ap length e ∙ length-append u r in
      let i : length r ≡ length (x ∷ w) + length v = ap length f ∙ length-append (x ∷ w) v in
      absurd (omega arith)
