-- What it is that a reader reads a language exactly, and the ways to join such readers.
--
-- `Exact n L p q`: the answers of p, a reader of depth n, are right, and q, the same reader with at least that depth, gives
-- them too; q is right and firm itself. A reader's proof is one term in its own shape, in which L, M, p and q are found from
-- the goal. A reader that has read a word refuses nothing: before a symbol that doesn't go on with it, it ends.
use Rattle.std.proofs.Common.{◌≡◌, ℕ, suc, ◌+◌, ◌≤◌, Bool, true, List, [], ◌∷◌, ◌++◌, length, Option, Some, None, refl, sym, ◌∙◌, ap, subst, arith}
use Rattle.std.proofs.lemmas.List.{append-nil}
use Rattle.fronts.specs.Fronts.{Language}
use Rattle.fronts.specs.Readers.{Outcome, taken, stuck, deep, Reader, and_then, ◌>>=◌, pure, refuse, exhausted, peek, token, if_comes, many, noting}
use Rattle.fronts.proofs.Lists.{end_is, start_is}
use Rattle.fronts.proofs.Agrees.{Agrees, Answer, Took, Single, single, Found, WithText, agrees_pure, agrees_refuse, agrees_exhausted, agrees_lower, agrees_into, agrees_bind, agrees_token, agrees_peek, agrees_if, agrees_many, agrees_noting}
use Rattle.fronts.proofs.Firm.{Firm, Opens, Hungry, Goes, opens, Any, firm_pure, firm_refuse, firm_exhausted, firm_bind, firm_token, firm_peek, firm_if, firm_many, firm_noting, opens_token, opens_bind as opens_with}

pub record Exact {C A : Type 0} (n : ℕ) (L : Language C A) (p q : Reader C A) : Type 0 where
  pub near : Agrees n L p q
  pub far : Agrees 0 L q q
  pub firm : Firm q

-- ---- the ways to join, with all that they join written out

module _ {C A : Type 0} (n : ℕ) (L : Language C A) where
  pub exact_pure : (a : A) → L a [] → Exact n L (pure a) (pure a)
  exact_pure a h = record { near = agrees_pure n a h; far = agrees_pure 0 a h; firm = firm_pure a }

  -- it reads nothing, so any word of the language serves
  pub exact_refuse : (a : A) (u : List C) → L a u → Exact n L refuse refuse
  exact_refuse a u h = record { near = agrees_refuse n a u h; far = agrees_refuse 0 a u h; firm = firm_refuse }

module _ {C A : Type 0} (L : Language C A) (p q : Reader C A) where
  pub exact_lower : (m n : ℕ) → m ≤ n → Exact n L p q → Exact m L p q
  exact_lower m n le x = record { near = agrees_lower L p q m n le x.near; far = x.far; firm = x.firm }

  -- with no depth left, beside any depth
  pub exact_exhausted : (n : ℕ) → Exact n L p q → Exact 0 L exhausted q
  exact_exhausted n x = record { near = agrees_exhausted q x.near.some.0 x.near.some.1 x.near.some.2; far = x.far; firm = x.firm }

  pub exact_into : (M : Language C A) → ((a : A) (u : List C) → L a u → M a u) → (n : ℕ) → Exact n L p q → Exact n M p q
  exact_into M f n x = record { near = agrees_into L M p q f n x.near; far = agrees_into L M q q f 0 x.far; firm = x.firm }

  pub exact_noting : (n : ℕ) → Exact n L p q → Exact n (WithText L) (noting p) (noting q)
  exact_noting n x = record { near = agrees_noting L p q n x.near; far = agrees_noting L q q 0 x.far; firm = firm_noting q x.firm }

-- with no depth left on both sides
pub exact_none : {C A : Type 0} (L : Language C A) (a : A) (u : List C) → L a u → Exact 0 L exhausted exhausted
exact_none L a u h = record { near = agrees_exhausted exhausted a u h; far = agrees_exhausted exhausted a u h; firm = firm_exhausted }

module _ {C A B : Type 0} (m n : ℕ) (L : Language C A) (M : Language C B) (p p' : Reader C A) (q q' : A → Reader C B)
    (takes : (a : A) (u : List C) → L a u → m ≤ n + length u)
    (then : (a : A) (u : List C) → L a u → Exact n (λ b v. M b (u ++ v)) (q a) (q' a)) where
  pub exact_bind : Exact m L p p' → Exact m M (p >>= q) (p' >>= q')
  exact_bind x = record {
    near = agrees_bind m n L M p p' q q' takes (λ a u l. (then a u l).near) x.near;
    far = agrees_bind 0 0 L M p' p' q' q' (λ a u l. omega arith) (λ a u l. (then a u l).far) x.far;
    firm = firm_bind 0 0 L M p' q' x.far (λ a u l. (then a u l).far) x.firm (λ a u l. (then a u l).firm);
  }

module _ {C : Type 0} (fits : C → Bool) (one : C) (fit : fits one ≡ true) where
  pub exact_token : (n : ℕ) → Exact n (Single fits) (token fits) (token fits)
  exact_token n = record { near = agrees_token fits one fit n; far = agrees_token fits one fit 0; firm = firm_token fits }

  takes_one : (n : ℕ) (t : C) (u : List C) → Single fits t u → suc n ≤ n + length u
  takes_one n _ _ (single h) = omega arith

  module _ {B : Type 0} (n : ℕ) (M : Language C B) (q q' : C → Reader C B) (then : (t : C) → fits t ≡ true → Exact n (λ b v. M b (t ∷ v)) (q t) (q' t)) where
    after_token : (t : C) (u : List C) → Single fits t u → Exact n (λ b v. M b (u ++ v)) (q t) (q' t)
    after_token _ _ (single {t = t} h) = then t h

    pub exact_by : Exact (suc n) M (token fits >>= q) (token fits >>= q')
    exact_by = exact_bind (suc n) n (Single fits) M (token fits) (token fits) q q' (takes_one n) after_token (exact_token (suc n))

module _ {C K A : Type 0} (n : ℕ) (M : Language C A) (key : Option C → K) (f f' : K → Reader C A)
    (goes : (t : C) (k : K) → key (Some t) ≡ k → Goes (f' (key None)) t (f' k)) (x : (k : K) → Exact n M (f k) (f' k)) where
  pub exact_peek : Exact n M (peek key >>= f) (peek key >>= f')
  exact_peek = record {
    near = agrees_peek n M key f f' (λ k. (x k).near);
    far = agrees_peek 0 M key f' f' (λ k. (x k).far);
    firm = firm_peek key f' (λ k. (x k).firm) goes;
  }

module _ {C A : Type 0} (n : ℕ) (M : Language C A) (fits : C → Bool) (p p' q q' : Reader C A)
    (goes : (t : C) → fits t ≡ true → Goes q' t p') (x : Exact n M p p') (y : Exact n M q q') where
  pub exact_if : Exact n M (if_comes fits p q) (if_comes fits p' q')
  exact_if = record {
    near = agrees_if n M fits p p' q q' x.near y.near;
    far = agrees_if 0 M fits p' p' q' q' x.far y.far;
    firm = firm_if fits p' q' x.firm y.firm goes;
  }

-- LS has the words of L in a row, and no word of L is empty
module _ {C A : Type 0} (L : Language C A) (LS : Language C (List A)) (fits : C → Bool) (item item' : Reader C A)
    (nil : LS [] []) (more : (a : A) (u : List C) (ls : List A) (v : List C) → L a u → LS ls v → LS (a ∷ ls) (u ++ v))
    (solid : (a : A) (u : List C) → L a u → 1 ≤ length u) (goes : (t : C) → fits t ≡ true → Opens t item') where
  pub exact_many : (n m i : ℕ) → n ≤ m → i ≤ suc n → Exact i L item item' → (found : List A) → Exact i (Found LS found) (many fits item n found) (many fits item' m found)
  exact_many n m i up le x found = record {
    near = agrees_many L LS fits item item' nil more solid n m i up le x.near found;
    far = agrees_many L LS fits item' item' nil more solid m m 0 (omega arith) (omega arith) x.far found;
    firm = firm_many 0 L fits item' solid x.far x.firm goes m found;
  }

  all_found : (b : List A) (v : List C) → Found LS [] b v → LS b v
  all_found b v (ls, s, e) = subst (λ (x : List A). LS x v) (sym e) s

  -- a repetition that begins with nothing
  pub exact_all : (n m : ℕ) → n ≤ m → Exact (suc n) L item item' → Exact (suc n) LS (many fits item n []) (many fits item' m [])
  exact_all n m up x = exact_into (Found LS []) (many fits item n []) (many fits item' m []) LS all_found (suc n) (exact_many n m (suc n) up (omega arith) x [])

-- ---- the same, for readers that are seen in the goal

pub done : {C A : Type 0} {n : ℕ} {L : Language C A} {a : A} → L a [] → Exact n L (pure a) (pure a)
done {C} {A} {n} {L} {a} h = exact_pure n L a h

pub into : {C A : Type 0} {n : ℕ} {L M : Language C A} {p p' : Reader C A} → Exact n L p p' → ((a : A) (u : List C) → L a u → M a u) → Exact n M p p'
into {C} {A} {n} {L} {M} {p} {p'} x f = exact_into L p p' M f n x

pub less : {C A : Type 0} {n : ℕ} {L : Language C A} {p p' : Reader C A} → Exact (suc n) L p p' → Exact n L p p'
less {C} {A} {n} {L} {p} {p'} x = exact_lower L p p' n (suc n) (omega arith) x

pub bind : {C A B : Type 0} {n : ℕ} {L : Language C A} {M : Language C B} {p p' : Reader C A} {q q' : A → Reader C B}
    → Exact n L p p' → ((a : A) (u : List C) → L a u → Exact n (λ b v. M b (u ++ v)) (q a) (q' a)) → Exact n M (p >>= q) (p' >>= q')
bind {C} {A} {B} {n} {L} {M} {p} {p'} {q} {q'} x then = exact_bind n n L M p p' q q' (λ a u l. omega arith) then x

-- the last part, with no rest of nothing to be thought of
pub last : {C A B : Type 0} {n : ℕ} {L : Language C A} {M : Language C B} {p p' : Reader C A} (f : A → B)
    → Exact n L p p' → ((a : A) (u : List C) → L a u → M (f a) u) → Exact n M (p >>= (λ a. pure (f a))) (p' >>= (λ a. pure (f a)))
last {C} {A} {B} {n} {L} {M} {p} {p'} f x g = bind x (λ a u l. done (subst (M (f a)) (sym (append-nil u)) (g a u l)))

-- a symbol, with less depth behind it: `one` is a symbol that fits
pub tok : {C B : Type 0} {n : ℕ} {M : Language C B} {q q' : C → Reader C B} (fits : C → Bool) (one : C) → fits one ≡ true
    → ((t : C) → fits t ≡ true → Exact n (λ b v. M b (t ∷ v)) (q t) (q' t)) → Exact (suc n) M (token fits >>= q) (token fits >>= q')
tok {C} {B} {n} {M} {q} {q'} fits one fit then = exact_by fits one fit n M q q' then

-- the same with as much depth behind it
pub also : {C B : Type 0} {n : ℕ} {M : Language C B} {q q' : C → Reader C B} (fits : C → Bool) (one : C) → fits one ≡ true
    → ((t : C) → fits t ≡ true → Exact n (λ b v. M b (t ∷ v)) (q t) (q' t)) → Exact n M (token fits >>= q) (token fits >>= q')
also fits one fit then = less (tok fits one fit then)

pub either : {C A : Type 0} {n : ℕ} {M : Language C A} {p p' q q' : Reader C A} (fits : C → Bool) → ((t : C) → fits t ≡ true → Goes q' t p')
    → Exact n M p p' → Exact n M q q' → Exact n M (if_comes fits p q) (if_comes fits p' q')
either {C} {A} {n} {M} {p} {p'} {q} {q'} fits goes x y = exact_if n M fits p p' q q' goes x y

-- ---- what goes with a choice

-- a reader of a language with no empty word isn't content with nothing
module _ {C A : Type 0} {n : ℕ} {L : Language C A} {p p' : Reader C A} (x : Exact n L p p') where
  pub hungry_solid : ((a : A) → L a [] → ⊥) → Hungry p'
  hungry_solid solid = record {
    wants = λ a e.
        let k : Took L p' [] a [] = subst (Answer 0 L p' []) e (x.far.answers []) in
        solid a (subst (L a) (start_is k.text [] k.splits) k.spells);
  }

  -- nor is it with more to read behind
  module _ {B : Type 0} (q : A → Reader C B) (h : Hungry p') where
    wants_by : (o : Outcome C A) → p' [] ≡ o → (b : B) → and_then o q ≡ taken b [] → ⊥
    wants_by (stuck r) e b s = cc
    wants_by deep e b s = cc
    wants_by (taken a r) e b s =
        let k : Took L p' [] a r = subst (Answer 0 L p' []) e (x.far.answers []) in
        h.wants a (e ∙ ap (taken a) (end_is k.text r k.splits))

  pub hungry_bind : {B : Type 0} (q : A → Reader C B) → Hungry p' → Hungry (p' >>= q)
  hungry_bind q h = record { wants = λ b s. wants_by q h (p' []) refl b s }

pub hungry_refuse : {C A : Type 0} → Hungry (refuse {C = C} {A = A})
hungry_refuse = record { wants = λ a e. cc }

pub hungry_tok : {C B : Type 0} (fits : C → Bool) (q : C → Reader C B) → Hungry (token fits >>= q)
unfolding token
hungry_tok fits q = record { wants = λ b e. cc }

-- what a symbol opens, it opens with anything to read behind
pub opens_bind : {C A B : Type 0} {n m : ℕ} {L : Language C A} {p p' : Reader C A} {q q' : A → Reader C B} {t : C}
    → Opens t p' → Exact n L p p' → ((a : A) (u : List C) → L a u → Exact m Any (q a) (q' a)) → Opens t (p' >>= q')
opens_bind {C} {A} {B} {n} {m} {L} {p} {p'} {q} {q'} {t} h x then = opens_with 0 0 L p' q' x.far (λ a u l. (then a u l).far) t h

pub opens_tok : {C B : Type 0} {n : ℕ} {fits : C → Bool} {q q' : C → Reader C B} {t : C}
    → fits t ≡ true → ((s : C) → fits s ≡ true → Exact n Any (q s) (q' s)) → Opens t (token fits >>= q')
opens_tok {C} {B} {n} {fits} {q} {q'} {t} h then = opens_with 0 0 (Single fits) (token fits) q' (agrees_token fits t h 0) (behind q q' then) t (opens_token fits t h)
  where
    behind : (q q' : C → Reader C B) → ((s : C) → fits s ≡ true → Exact n Any (q s) (q' s)) → (s : C) (u : List C) → Single fits s u → Agrees 0 Any (q' s) (q' s)
    behind q q' then _ _ (single {t = s} i) = (then s i).far

-- a choice whose first branch takes the symbol that was tested: `one` is a symbol that fits
pub either_tok : {C A : Type 0} {n : ℕ} {M : Language C A} {q q' : C → Reader C A} {r r' : Reader C A} (fits : C → Bool) (one : C) → fits one ≡ true
    → ((t : C) → fits t ≡ true → Exact n (λ b v. M b (t ∷ v)) (q t) (q' t)) → Exact (suc n) M r r'
    → Exact (suc n) M (if_comes fits (token fits >>= q) r) (if_comes fits (token fits >>= q') r')
either_tok fits one fit then y = either fits (λ t h. opens (opens_tok h (λ s i. into (then s i) (λ b v l. tt)))) (tok fits one fit then) y

-- the same with as much depth behind it
pub either_also : {C A : Type 0} {n : ℕ} {M : Language C A} {q q' : C → Reader C A} {r r' : Reader C A} (fits : C → Bool) (one : C) → fits one ≡ true
    → ((t : C) → fits t ≡ true → Exact n (λ b v. M b (t ∷ v)) (q t) (q' t)) → Exact n M r r'
    → Exact n M (if_comes fits (token fits >>= q) r) (if_comes fits (token fits >>= q') r')
either_also fits one fit then y = either fits (λ t h. opens (opens_tok h (λ s i. into (then s i) (λ b v l. tt)))) (also fits one fit then) y
