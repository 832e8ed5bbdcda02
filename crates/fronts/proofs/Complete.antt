-- That a reader reads each word of a language, where what follows the word doesn't go on with it.
use Rattle.std.proofs.Common.{◌≡◌, ℕ, zero, suc, ◌<◌, ◌≤◌, Bool, true, false, cond, List, [], ◌∷◌, ◌++◌, length, Option, Some, None, refl, sym, ◌∙◌, ap, subst, arith}
use Rattle.std.proofs.lemmas.List.{append_assoc, append-nil, length-append}
use Rattle.fronts.specs.Fronts.{Language}
use Rattle.fronts.specs.Readers.{Outcome, taken, stuck, Reader, and_then, next, lets, comes, token, many, noted, noting}
use Rattle.fronts.proofs.Lists.{front_is}
use Rattle.fronts.proofs.Agrees.{Many, many_none, many_more, WithText}

-- A word shorter than n is read, whatever follows: F says which next symbol doesn't go on with a word. The end of the text
-- is a next symbol too, which is None.
pub record Complete {C A : Type 0} (F : Option C → Type 0) (n : ℕ) (L : Language C A) (p : Reader C A) : Type 0 where
  pub reads : (a : A) (u : List C) → L a u → (rest : List C) → F (next rest) → length u < n → p (u ++ rest) ≡ taken a rest

-- the same before more of a longer word
pub front : {C A : Type 0} {F : Option C → Type 0} {n : ℕ} {L : Language C A} {p : Reader C A} → Complete F n L p
    → (a : A) (u : List C) → L a u → (v rest : List C) → F (next (v ++ rest)) → length u < n → p ((u ++ v) ++ rest) ≡ taken a (v ++ rest)
front {C} {A} {F} {n} {L} {p} x a u l v rest h lt = ap p (append_assoc u v rest) ∙ x.reads a u l (v ++ rest) h lt

-- a word that is all of the text
pub whole : {C A : Type 0} {F : Option C → Type 0} {n : ℕ} {L : Language C A} {p : Reader C A} → Complete F n L p
    → F None → (a : A) (u : List C) → L a u → length u < n → p u ≡ taken a []
whole {C} {A} {F} {n} {L} {p} x h a u l lt = ap p (sym (append-nil u)) ∙ x.reads a u l [] h lt

-- ---- steps of such a proof

pub via : {C A B : Type 0} {x : Outcome C A} {a : A} {rest : List C} {o : Outcome C B} (q : A → Reader C B) → x ≡ taken a rest → q a rest ≡ o → and_then x q ≡ o
via q e f = ap (λ x. and_then x q) e ∙ f

pub fitting : {C B : Type 0} {o : Outcome C B} (fits : C → Bool) (t : C) → fits t ≡ true → (q : C → Reader C B) (ts : List C) → q t ts ≡ o → and_then (token fits (t ∷ ts)) q ≡ o
unfolding token
fitting fits t h q ts e = ap (λ (b : Bool). and_then (cond b (taken t ts) (stuck (t ∷ ts))) q) h ∙ e

pub then_it : {X : Type 0} {b : Bool} {z : X} (x y : X) → b ≡ true → x ≡ z → cond b x y ≡ z
then_it x y h e = ap (λ c. cond c x y) h ∙ e

pub else_it : {X : Type 0} {b : Bool} {z : X} (x y : X) → b ≡ false → y ≡ z → cond b x y ≡ z
else_it x y h e = ap (λ c. cond c x y) h ∙ e

-- ---- a repetition

-- E says which next symbol doesn't go on with the words in a row, and F which doesn't go on with one
module _ {C A : Type 0} (E F : Option C → Type 0) (n : ℕ) (L : Language C A) (fits : C → Bool) (item : Reader C A)
    (stops : (o : Option C) → E o → lets fits o ≡ false) (over : (t : C) → fits t ≡ true → F (Some t)) (down : (o : Option C) → E o → F o)
    (starts : (a : A) (u rest : List C) → L a u → comes fits (u ++ rest) ≡ true)
    (solid : (a : A) (u : List C) → L a u → 1 ≤ length u)
    (x : Complete F n L item) where
  over_next : (ts : List C) → comes fits ts ≡ true → F (next ts)
  over_next [] h = absurd cc
  over_next (t ∷ ts) h = over t h

  pub ahead : (ls : List A) (v rest : List C) → Many L ls v → E (next rest) → F (next (v ++ rest))
  ahead _ _ rest many_none h = down _ h
  ahead _ _ rest (many_more {a = a} {u = u} {v = v} l s) h = subst (λ (w : List C). F (next w)) (sym (append_assoc u v rest)) (over_next (u ++ (v ++ rest)) (starts a u (v ++ rest) l))

  pub complete_many : (ls : List A) (v : List C) → Many L ls v → (m : ℕ) (found : List A) (rest : List C) → E (next rest) → length v ≤ m → length v < n
      → many fits item m found (v ++ rest) ≡ taken (found ++ ls) rest
  unfolding many
  complete_many _ _ many_none zero found rest h le lt = else_it _ _ (stops _ h) (ap (λ (b : List A). taken b rest) (sym (append-nil found)))
  complete_many _ _ many_none (suc m) found rest h le lt = else_it _ _ (stops _ h) (ap (λ (b : List A). taken b rest) (sym (append-nil found)))
  complete_many _ _ (many_more {a = a} {u = u} {ls = ls} {v = v} l s) zero found rest h le lt = let g = solid a u l in let e = length-append u v in absurd (omega arith)
  complete_many _ _ (many_more {a = a} {u = u} {ls = ls} {v = v} l s) (suc m) found rest h le lt =
      let g = solid a u l in
      let e = length-append u v in
      then_it _ _ (ap (λ (w : List C). comes fits w) (append_assoc u v rest) ∙ starts a u (v ++ rest) l)
      (via _ (front x a u l v rest (ahead ls v rest s h) (omega arith))
      (complete_many ls v s m (found ++ a ∷ []) rest h (omega arith) (omega arith) ∙ ap (λ (b : List A). taken b rest) (append_assoc found (a ∷ []) ls)))

-- ---- with the symbols that it was read from

pub complete_noting : {C A : Type 0} (F : Option C → Type 0) (n : ℕ) (L : Language C A) (p : Reader C A) → Complete F n L p → Complete F n (WithText L) (noting p)
complete_noting {C} {A} F n L p x = record {
  reads = λ w u l rest h lt. ap (noted (u ++ rest)) (x.reads w.1 u l.1 rest h lt) ∙ ap (λ (v : List C). taken (v, w.1) rest) (front_is (u ++ rest) u rest refl ∙ sym l.0);
}
