-- That a reader which is content with a text at its end isn't stuck before a symbol that follows there: what stands before
-- the symbol at which it is stuck is then no word. And how that goes through each way to join readers.
use Rattle.std.proofs.Common.{◌≡◌, ℕ, zero, suc, ◌-◌, ◌≤◌, Bool, true, false, cond, List, [], ◌∷◌, ◌++◌, length, take, Option, Some, None, refl, sym, ◌∙◌, ap, subst, arith}
use Rattle.std.proofs.lemmas.List.{append_assoc, append-nil}
use Rattle.fronts.specs.Fronts.{Language}
use Rattle.fronts.specs.Readers.{Outcome, taken, stuck, deep, Reader, and_then, ◌>>=◌, pure, refuse, exhausted, next, lets, token, if_comes, many, noted, noting}
use Rattle.fronts.proofs.Lists.{same_front_of, no_longer, no_gap, front_is}
use Rattle.fronts.proofs.Agrees.{Agrees, Answer, Took, Stopped, SameNext, Many, many_none, many_more, Found, agrees_into, agrees_lower, agrees_many}

pub record Firm {C A : Type 0} (p : Reader C A) : Type 0 where
  -- it isn't stuck before a symbol that follows
  pub firm : (u : List C) (t : C) (rest : List C) (a : A) → p u ≡ taken a [] → p (u ++ (t ∷ rest)) ≡ stuck (t ∷ rest) → ⊥
  -- and where it ends before it, it has read the same
  pub steady : (u : List C) (t : C) (rest : List C) (a c : A) → p u ≡ taken a [] → p (u ++ (t ∷ rest)) ≡ taken c (t ∷ rest) → c ≡ a

pub firm_pure : {C A : Type 0} (a : A) → Firm {C = C} (pure a)
firm_pure a = record { firm = λ u t rest b e f. absurd cc; steady = λ u t rest b c e f. cc }

pub firm_refuse : {C A : Type 0} → Firm {C = C} {A = A} refuse
firm_refuse = record { firm = λ u t rest b e f. absurd cc; steady = λ u t rest b c e f. absurd cc }

pub firm_exhausted : {C A : Type 0} → Firm {C = C} {A = A} exhausted
firm_exhausted = record { firm = λ u t rest b e f. absurd cc; steady = λ u t rest b c e f. absurd cc }

-- ---- one reader after another

module _ {C A B : Type 0} (m n : ℕ) (L : Language C A) (M : Language C B) (p : Reader C A) (q : A → Reader C B)
    (x : Agrees m L p p) (y : (a : A) (u : List C) → L a u → Agrees n (λ b v. M b (u ++ v)) (q a) (q a))
    (f : Firm p) (g : (a : A) (u : List C) → L a u → Firm (q a)) where
  -- o is how both parts end before the symbol, and Z what is to be shown of it
  module _ (u : List C) (t : C) (rest : List C) (b : B) (o : Outcome C B) (Z : Type 0)
      (close : (a : A) (v w : List C) → L a v → q a w ≡ taken b [] → q a (w ++ (t ∷ rest)) ≡ o → Z)
      (left : (c : A) (v r : List C) → L c v → q c r ≡ o → (w : List C) × (r ≡ w ++ (t ∷ rest)))
      (wrong : (a : A) (r : List C) → p u ≡ taken a [] → p (u ++ (t ∷ rest)) ≡ stuck r → stuck r ≡ o → Z)
      (not_deep : deep ≡ o → ⊥) where
    split_here : (a c : A) (w r : List C) → L a u → p u ≡ taken a [] → p (u ++ (t ∷ rest)) ≡ taken c r → Took L p (u ++ (t ∷ rest)) c r → r ≡ w ++ (t ∷ rest) → q c r ≡ o → q a [] ≡ taken b [] → Z
    split_here a c [] r l pu e k is s h =
        let ca : c ≡ a = f.steady u t rest a c pu (e ∙ ap (taken c) is) in
        close a u [] l h (sym (ap (λ z. q z r) ca ∙ ap (q a) is) ∙ s)
    split_here a c (v ∷ w) r l pu e k is s h =
        let whole : u ++ (t ∷ rest) ≡ (k.text ++ (v ∷ w)) ++ (t ∷ rest) = k.splits ∙ ap (λ z. k.text ++ z) is ∙ sym (append_assoc k.text (v ∷ w) (t ∷ rest)) in
        let z : p (k.text ++ (v ∷ w)) ≡ taken c (v ∷ w) = k.stays (v ∷ w) (ap next is) in
        let z2 : p u ≡ taken c (v ∷ w) = ap p (same_front_of u (k.text ++ (v ∷ w)) (t ∷ rest) whole) ∙ z in
        let z3 : taken a [] ≡ taken c (v ∷ w) = sym pu ∙ z2 in
        absurd (let none : [] ≡ v ∷ w = cc in cc)

    at_end_of : (a : A) → L a u → p u ≡ taken a [] → q a [] ≡ taken b [] → (i : Outcome C A) → p (u ++ (t ∷ rest)) ≡ i → and_then i q ≡ o → Z
    at_end_of a l pu h (stuck r) e s = wrong a r pu e s
    at_end_of a l pu h deep e s = absurd (not_deep s)
    at_end_of a l pu h (taken c r) e s =
        let k : Took L p (u ++ (t ∷ rest)) c r = subst (Answer m L p (u ++ (t ∷ rest))) e (x.answers (u ++ (t ∷ rest))) in
        let j = left c k.text r k.spells s in
        split_here a c j.0 r l pu e k j.1 s h

    -- the first part ends before the end of u
    before : (a : A) (v : List C) (x0 : C) (w : List C) → L a v → u ≡ v ++ (x0 ∷ w) → ((more : List C) → SameNext (x0 ∷ w) more → p (v ++ more) ≡ taken a more) → q a (x0 ∷ w) ≡ taken b [] → (p >>= q) (u ++ (t ∷ rest)) ≡ o → Z
    before a v x0 w l is stays h s =
        let z : p (u ++ (t ∷ rest)) ≡ taken a ((x0 ∷ w) ++ (t ∷ rest)) = ap p (ap (λ z. z ++ (t ∷ rest)) is ∙ append_assoc v (x0 ∷ w) (t ∷ rest)) ∙ stays ((x0 ∷ w) ++ (t ∷ rest)) refl in
        close a v (x0 ∷ w) l h (sym (ap (λ i. and_then i q) z) ∙ s)

    second : (a : A) (r : List C) → Took L p u a r → p u ≡ taken a r → q a r ≡ taken b [] → (p >>= q) (u ++ (t ∷ rest)) ≡ o → Z
    second a [] k pu h s = at_end_of a (subst (L a) (sym (append-nil k.text) ∙ sym k.splits) k.spells) pu h (p (u ++ (t ∷ rest))) refl s
    second a (x0 ∷ w) k pu h s = before a k.text x0 w k.spells k.splits k.stays h s

    first : (i : Outcome C A) → p u ≡ i → and_then i q ≡ taken b [] → (p >>= q) (u ++ (t ∷ rest)) ≡ o → Z
    first (stuck r) e h s = absurd (cc)
    first deep e h s = absurd (cc)
    first (taken a r) e h s = second a r (subst (Answer m L p u) e (x.answers u)) e h s

  left_stuck : (c : A) (v r end : List C) → L c v → q c r ≡ stuck end → (w : List C) × (r ≡ w ++ end)
  left_stuck c v r end l e = let j : Stopped (λ b w. M b (v ++ w)) (q c) r end = subst (Answer n (λ b w. M b (v ++ w)) (q c) r) e ((y c v l).answers r) in (j.text, j.splits)

  left_taken : (c : A) (v r end : List C) (d : B) → L c v → q c r ≡ taken d end → (w : List C) × (r ≡ w ++ end)
  left_taken c v r end d l e = let j : Took (λ b w. M b (v ++ w)) (q c) r d end = subst (Answer n (λ b w. M b (v ++ w)) (q c) r) e ((y c v l).answers r) in (j.text, j.splits)

  pub firm_bind : Firm (p >>= q)
  firm_bind = record {
    firm = λ u t rest b h s. first u t rest b (stuck (t ∷ rest)) ⊥
        (λ a v w l e z. (g a v l).firm w t rest b e z)
        (λ c v r l e. left_stuck c v r (t ∷ rest) l e)
        (λ a r pu e z. f.firm u t rest a pu (e ∙ ap stuck (let is : r ≡ t ∷ rest = cc in is)))
        (λ z. cc)
        (p u) refl h s;
    steady = λ u t rest b d h s. first u t rest b (taken d (t ∷ rest)) (d ≡ b)
        (λ a v w l e z. (g a v l).steady w t rest b d e z)
        (λ c v r l e. left_taken c v r (t ∷ rest) d l e)
        (λ a r pu e z. absurd (cc))
        (λ z. cc)
        (p u) refl h s;
  }

-- ---- a symbol

token_ends : {C : Type 0} (fits : C → Bool) (u : List C) (a : C) → token fits u ≡ taken a [] → u ≡ a ∷ []
unfolding token
token_ends fits [] a e = absurd cc
token_ends {C} fits (t ∷ u) a e = by (fits t) e
  where
    by : (b : Bool) → cond b (taken t u) (stuck (t ∷ u)) ≡ taken a [] → t ∷ u ≡ a ∷ []
    by true e = cc
    by false e = absurd cc

pub firm_token : {C : Type 0} (fits : C → Bool) → Firm (token fits)
unfolding token
firm_token {C} fits = record {
  firm = λ u t rest a e s. firm_at u t rest a (token_ends fits u a e) e s;
  steady = λ u t rest a c e s. steady_at u t rest a c (token_ends fits u a e) e s;
}
  where
    taken_by : (b : Bool) (a : C) (v : List C) (o : Outcome C C) → cond b (taken a []) (stuck (a ∷ [])) ≡ taken a [] → cond b (taken a v) (stuck (a ∷ v)) ≡ o → taken a v ≡ o
    taken_by true a v o e s = s
    taken_by false a v o e s = absurd cc

    ends : (u : List C) (t : C) (rest : List C) (a : C) (o : Outcome C C) → u ≡ a ∷ [] → token fits u ≡ taken a [] → token fits (u ++ (t ∷ rest)) ≡ o → taken a (t ∷ rest) ≡ o
    ends u t rest a o is e s = taken_by (fits a) a (t ∷ rest) o (ap (token fits) (sym is) ∙ e) (ap (λ w. token fits (w ++ (t ∷ rest))) (sym is) ∙ s)

    firm_at : (u : List C) (t : C) (rest : List C) (a : C) → u ≡ a ∷ [] → token fits u ≡ taken a [] → token fits (u ++ (t ∷ rest)) ≡ stuck (t ∷ rest) → ⊥
    firm_at u t rest a is e s = let h = ends u t rest a (stuck (t ∷ rest)) is e s in cc

    steady_at : (u : List C) (t : C) (rest : List C) (a c : C) → u ≡ a ∷ [] → token fits u ≡ taken a [] → token fits (u ++ (t ∷ rest)) ≡ taken c (t ∷ rest) → c ≡ a
    steady_at u t rest a c is e s = let h = ends u t rest a (taken c (t ∷ rest)) is e s in cc

-- ---- a choice by what comes next

-- a reader takes this symbol, where it comes next: it is neither stuck before it nor done
pub record Opens {C A : Type 0} (t : C) (p : Reader C A) : Type 0 where
  pub goes : (rest : List C) → p (t ∷ rest) ≡ stuck (t ∷ rest) → ⊥
  pub moves : (rest : List C) (a : A) → p (t ∷ rest) ≡ taken a (t ∷ rest) → ⊥

-- a reader isn't content with nothing
pub record Hungry {C A : Type 0} (p : Reader C A) : Type 0 where
  pub wants : (a : A) → p [] ≡ taken a [] → ⊥

-- How the reader that is chosen before a symbol, q, goes with the one that is chosen at the end, p: p isn't content with
-- nothing, or q takes the symbol, or they are the same.
pub data Goes {C A : Type 0} (p : Reader C A) (t : C) (q : Reader C A) : Type 0 where
  hungry : Hungry p → Goes p t q
  opens : Opens t q → Goes p t q
  alike : q ≡ p → Goes p t q

module _ {C K A : Type 0} (key : Option C → K) (f : K → Reader C A) (each : (k : K) → Firm (f k))
    (goes : (t : C) (k : K) → key (Some t) ≡ k → Goes (f (key None)) t (f k)) where
  firm_by : (t : C) (rest : List C) (a : A) → Goes (f (key None)) t (f (key (Some t))) → f (key None) [] ≡ taken a [] → f (key (Some t)) (t ∷ rest) ≡ stuck (t ∷ rest) → ⊥
  firm_by t rest a (hungry h) e s = h.wants a e
  firm_by t rest a (opens h) e s = h.goes rest s
  firm_by t rest a (alike h) e s = (each (key None)).firm [] t rest a e (ap (λ (p : Reader C A). p (t ∷ rest)) (sym h) ∙ s)

  steady_by : (t : C) (rest : List C) (a c : A) → Goes (f (key None)) t (f (key (Some t))) → f (key None) [] ≡ taken a [] → f (key (Some t)) (t ∷ rest) ≡ taken c (t ∷ rest) → c ≡ a
  steady_by t rest a c (hungry h) e s = absurd (h.wants a e)
  steady_by t rest a c (opens h) e s = absurd (h.moves rest c s)
  steady_by t rest a c (alike h) e s = (each (key None)).steady [] t rest a c e (ap (λ (p : Reader C A). p (t ∷ rest)) (sym h) ∙ s)

  firm_on : (u : List C) (t : C) (rest : List C) (a : A) → f (key (next u)) u ≡ taken a [] → f (key (next (u ++ (t ∷ rest)))) (u ++ (t ∷ rest)) ≡ stuck (t ∷ rest) → ⊥
  firm_on [] t rest a e s = firm_by t rest a (goes t (key (Some t)) refl) e s
  firm_on (z ∷ u) t rest a e s = (each (key (Some z))).firm (z ∷ u) t rest a e s

  steady_on : (u : List C) (t : C) (rest : List C) (a c : A) → f (key (next u)) u ≡ taken a [] → f (key (next (u ++ (t ∷ rest)))) (u ++ (t ∷ rest)) ≡ taken c (t ∷ rest) → c ≡ a
  steady_on [] t rest a c e s = steady_by t rest a c (goes t (key (Some t)) refl) e s
  steady_on (z ∷ u) t rest a c e s = (each (key (Some z))).steady (z ∷ u) t rest a c e s

  pub firm_peek : Firm (λ ts. f (key (next ts)) ts)
  firm_peek = record { firm = firm_on; steady = steady_on }

module _ {C A : Type 0} (fits : C → Bool) (p q : Reader C A) (f : Firm p) (g : Firm q) (goes : (t : C) → fits t ≡ true → Goes q t p) where
  chosen : Bool → Reader C A
  chosen b = λ ts. cond b (p ts) (q ts)

  chosen_firm : (b : Bool) → Firm (chosen b)
  unfolding chosen
  chosen_firm true = f
  chosen_firm false = g

  chosen_goes : (t : C) (b : Bool) → fits t ≡ b → Goes (chosen false) t (chosen b)
  unfolding chosen
  chosen_goes t true e = goes t e
  chosen_goes t false e = alike refl

  pub firm_if : Firm (if_comes fits p q)
  unfolding chosen
  firm_if = firm_peek (lets fits) chosen chosen_firm chosen_goes

-- ---- what a symbol opens

-- the language of which each list is a word
abbrev pub Any : {C A : Type 0} → Language C A
Any a u = Unit {0}

pub opens_exhausted : {C A : Type 0} (t : C) → Opens t (exhausted {C = C} {A = A})
opens_exhausted t = record { goes = λ rest s. cc; moves = λ rest a s. cc }

pub opens_token : {C : Type 0} (fits : C → Bool) (t : C) → fits t ≡ true → Opens t (token fits)
unfolding token
opens_token fits t h = record {
  goes = λ rest s. let e : taken t rest ≡ stuck (t ∷ rest) = ap (λ (b : Bool). cond b (taken t rest) (stuck (t ∷ rest))) (sym h) ∙ s in cc;
  moves = λ rest a s.
      let e : taken t rest ≡ taken a (t ∷ rest) = ap (λ (b : Bool). cond b (taken t rest) (stuck (t ∷ rest))) (sym h) ∙ s in
      let is : rest ≡ t ∷ rest = cc in no_longer t [] rest is;
}

-- what a symbol opens, it opens with more to read behind
module _ {C A B : Type 0} (m n : ℕ) (L : Language C A) (p : Reader C A) (q : A → Reader C B) (x : Agrees m L p p)
    (y : (a : A) (u : List C) → L a u → Agrees n Any (q a) (q a)) (t : C) (h : Opens t p) where
  goes_by : (rest : List C) (o : Outcome C A) → p (t ∷ rest) ≡ o → and_then o q ≡ stuck (t ∷ rest) → ⊥
  goes_by rest (stuck r) e s = let is : r ≡ t ∷ rest = cc in h.goes rest (e ∙ ap stuck is)
  goes_by rest deep e s = cc
  goes_by rest (taken c r) e s =
      let k : Took L p (t ∷ rest) c r = subst (Answer m L p (t ∷ rest)) e (x.answers (t ∷ rest)) in
      let j : Stopped Any (q c) r (t ∷ rest) = subst (Answer n Any (q c) r) s ((y c k.text k.spells).answers r) in
      h.moves rest c (e ∙ ap (taken c) (no_gap k.text j.text (t ∷ rest) r k.splits j.splits))

  moves_by : (rest : List C) (b : B) (o : Outcome C A) → p (t ∷ rest) ≡ o → and_then o q ≡ taken b (t ∷ rest) → ⊥
  moves_by rest b (stuck r) e s = cc
  moves_by rest b deep e s = cc
  moves_by rest b (taken c r) e s =
      let k : Took L p (t ∷ rest) c r = subst (Answer m L p (t ∷ rest)) e (x.answers (t ∷ rest)) in
      let j : Took Any (q c) r b (t ∷ rest) = subst (Answer n Any (q c) r) s ((y c k.text k.spells).answers r) in
      h.moves rest c (e ∙ ap (taken c) (no_gap k.text j.text (t ∷ rest) r k.splits j.splits))

  pub opens_bind : Opens t (p >>= q)
  opens_bind = record { goes = λ rest s. goes_by rest (p (t ∷ rest)) refl s; moves = λ rest b s. moves_by rest b (p (t ∷ rest)) refl s }

-- ---- a repetition

module _ {C A : Type 0} (i : ℕ) (L : Language C A) (fits : C → Bool) (item : Reader C A) (solid : (a : A) (u : List C) → L a u → 1 ≤ length u)
    (x : Agrees i L item item) (f : Firm item) (goes : (t : C) → fits t ≡ true → Opens t item) where
  turns : (n : ℕ) (found : List A) → Agrees 0 Any (many fits item n found) (many fits item n found)
  turns n found = agrees_into (Found (Many L) found) Any (many fits item n found) (many fits item n found) (λ b v l. tt) 0
      (agrees_many L (Many L) fits item item many_none (λ a u ls v l s. many_more l s) solid n n 0 (omega arith) (omega arith) (agrees_lower L item item 0 i (omega arith) x) found)

  pub firm_many : (n : ℕ) (found : List A) → Firm (many fits item n found)
  unfolding many
  firm_many zero found = firm_if fits exhausted (pure found) firm_exhausted (firm_pure found) (λ t h. opens (opens_exhausted t))
  firm_many (suc n) found =
      firm_if fits (item >>= (λ a. many fits item n (found ++ a ∷ []))) (pure found)
      (firm_bind i 0 L Any item (λ a. many fits item n (found ++ a ∷ [])) x (λ a u l. turns n (found ++ a ∷ [])) f (λ a u l. firm_many n (found ++ a ∷ [])))
      (firm_pure found)
      (λ t h. opens (opens_bind i 0 L item (λ a. many fits item n (found ++ a ∷ [])) x (λ a u l. turns n (found ++ a ∷ [])) t (goes t h)))

-- ---- with the symbols that it was read from

module _ {C A : Type 0} (p : Reader C A) (f : Firm p) where
  noted_taken : (ts : List C) (o : Outcome C A) (w : List C × A) (rest : List C) → noted ts o ≡ taken w rest
      → (o ≡ taken w.1 rest) × (w.0 ≡ take (length ts - length rest) ts)
  noted_taken ts (taken a r) w rest e =
      let is : (take (length ts - length r) ts, a) ≡ w = cc in
      let same : r ≡ rest = cc in
      (ap (λ x. taken x r) (ap (λ (x : List C × A). x.1) is) ∙ ap (taken w.1) same, sym (ap (λ (x : List C × A). x.0) is) ∙ ap (λ (r : List C). take (length ts - length r) ts) same)
  noted_taken ts (stuck r) w rest e = absurd cc
  noted_taken ts deep w rest e = absurd cc

  noted_stuck : (ts : List C) (o : Outcome C A) (rest : List C) → noted ts o ≡ stuck rest → o ≡ stuck rest
  noted_stuck ts (taken a r) rest e = absurd cc
  noted_stuck ts (stuck r) rest e = ap stuck (let is : r ≡ rest = cc in is)
  noted_stuck ts deep rest e = absurd cc

  same_noted : (u : List C) (t : C) (rest : List C) (a c : List C × A) → noted u (p u) ≡ taken a [] → noted (u ++ (t ∷ rest)) (p (u ++ (t ∷ rest))) ≡ taken c (t ∷ rest) → c ≡ a
  same_noted u t rest a c e s =
      let h = noted_taken u (p u) a [] e in
      let i = noted_taken (u ++ (t ∷ rest)) (p (u ++ (t ∷ rest))) c (t ∷ rest) s in
      let texts : c.0 ≡ a.0 = i.1 ∙ front_is (u ++ (t ∷ rest)) u (t ∷ rest) refl ∙ sym (front_is u u [] (sym (append-nil u))) ∙ sym h.1 in
      let reads : c.1 ≡ a.1 = f.steady u t rest a.1 c.1 h.0 i.0 in
      pairs c a texts reads
    where
      pairs : (c a : List C × A) → c.0 ≡ a.0 → c.1 ≡ a.1 → c ≡ a
      pairs (v, c) (w, a) e h = ap (λ (x : List C). (x, c)) e ∙ ap (λ (x : A). (w, x)) h

  pub firm_noting : Firm (noting p)
  firm_noting = record {
    firm = λ u t rest a e s. f.firm u t rest a.1 (noted_taken u (p u) a [] e).0 (noted_stuck (u ++ (t ∷ rest)) (p (u ++ (t ∷ rest))) (t ∷ rest) s);
    steady = same_noted;
  }
