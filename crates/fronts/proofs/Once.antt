-- An answer of `Front` is determined by the text, where no word is read in two ways.
use Rattle.std.proofs.Common.{◌≡◌, ℕ, ◌+◌, ◌<◌, ◌≤◌, List, [], ◌++◌, length, take, drop, Option, Some, None, refl, sym, ◌∙◌, ap, subst, append-nil, append_assoc, arith}
use Rattle.std.proofs.lemmas.List.{take-append-drop, take-take}
use Rattle.fronts.specs.Fronts.{Language, OneReading, Begins, Front}

module _ {C A : Type 0} (L : Language C A) (text : List C) where
  pub front_begins : (n : ℕ) (o : Option A) → Front L text n o → Begins L (take n text)
  front_begins n None f = f.begun
  front_begins n (Some a) f = ([], a, subst (L a) (sym (append-nil (take n text))) f.spells)

  pub front_within : (n : ℕ) (o : Option A) → Front L text n o → n ≤ length text
  front_within n None f = f.within
  front_within n (Some a) f = f.within

  pub front_ended : (n : ℕ) (o : Option A) → Front L text n o → n < length text → Begins L (take (n + 1) text) → ⊥
  front_ended n None f = f.ended
  front_ended n (Some a) f = f.ended

  -- a shorter front begins what a longer one begins
  pub less_begins : (n m : ℕ) → n ≤ m → Begins L (take m text) → Begins L (take n text)
  less_begins n m le (v, a, l) = (drop n (take m text) ++ v, a, subst (L a) whole l)
    where
      front : take n text ++ drop n (take m text) ≡ take m text
      front = ap (λ u. u ++ drop n (take m text)) (sym (take-take n m text le)) ∙ take-append-drop n (take m text)

      whole : take m text ++ v ≡ take n text ++ (drop n (take m text) ++ v)
      whole = ap (λ u. u ++ v) (sym front) ∙ append_assoc (take n text) (drop n (take m text)) v

  not_less : (n m : ℕ) (o p : Option A) → Front L text n o → Front L text m p → n < m → ⊥
  not_less n m o p f g lt = front_ended n o f (let w = front_within m p g in omega arith) (less_begins (n + 1) m (omega arith) (front_begins m p g))

  pub same_length : (n m : ℕ) (o p : Option A) → Front L text n o → Front L text m p → n ≡ m
  same_length n m o p f g = let a = not_less n m o p f g in let b = not_less m n p o g f in omega (arith, a, b)

  module _ (one : OneReading L) where
    same_reading : (n : ℕ) (o p : Option A) → Front L text n o → Front L text n p → o ≡ p
    same_reading n None None f g = refl
    same_reading n None (Some b) f g = absurd (f.none b g.spells)
    same_reading n (Some a) None f g = absurd (g.none a f.spells)
    same_reading n (Some a) (Some b) f g = ap Some (one a b (take n text) f.spells g.spells)

    pub same_front : (n m : ℕ) (o p : Option A) → Front L text n o → Front L text m p → (n ≡ m) × (o ≡ p)
    same_front n m o p f g =
        let e = same_length n m o p f g in
        (e, same_reading n o p f (subst (λ k. Front L text k p) (sym e) g))
