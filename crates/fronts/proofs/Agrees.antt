-- That the answers of a reader are right, and are those of another reader of the same language with more depth; and how
-- that goes through each way to join readers.
use Rattle.std.proofs.Common.{◌≡◌, ℕ, zero, suc, ◌+◌, ◌-◌, ◌≤◌, Bool, true, false, cond, List, [], ◌∷◌, ◌++◌, length, Option, None, refl, sym, ◌∙◌, ap, subst, arith}
use Rattle.std.proofs.lemmas.List.{append_assoc, append-nil, length-append}
use Rattle.fronts.specs.Fronts.{Language, Begins}
use Rattle.fronts.specs.Readers.{Outcome, taken, stuck, deep, Reader, and_then, ◌>>=◌, pure, refuse, exhausted, next, lets, comes, token, if_comes, many, noted, noting}
use Rattle.fronts.proofs.Lists.{joined, front_is}

-- the same symbol comes next, or none does
abbrev pub SameNext : {C : Type 0} → List C → List C → Type 0
SameNext rest more = next rest ≡ next more

-- The text before the rest is a word with this reading, and q answers the same on that text and whatever follows with the
-- same next symbol.
pub record Took {C A : Type 0} (L : Language C A) (q : Reader C A) (ts : List C) (a : A) (rest : List C) : Type 0 where
  pub text : List C
  pub splits : ts ≡ text ++ rest
  pub spells : L a text
  pub stays : (more : List C) → SameNext rest more → q (text ++ more) ≡ taken a more

-- The text before the rest begins a word, and q is stuck behind that text whatever follows with the same next symbol.
pub record Stopped {C A : Type 0} (L : Language C A) (q : Reader C A) (ts : List C) (rest : List C) : Type 0 where
  pub text : List C
  pub splits : ts ≡ text ++ rest
  pub begins : Begins L text
  pub stays : (more : List C) → SameNext rest more → q (text ++ more) ≡ stuck more

-- an outcome on these symbols is right; a reader of depth n has depth enough for fewer than n symbols
abbrev pub Answer : {C A : Type 0} → ℕ → Language C A → Reader C A → List C → Outcome C A → Type 0
Answer n L q ts (taken a rest) = Took L q ts a rest
Answer n L q ts (stuck rest) = Stopped L q ts rest
Answer n L q ts deep = n ≤ length ts

pub record Agrees {C A : Type 0} (n : ℕ) (L : Language C A) (p q : Reader C A) : Type 0 where
  pub some : (a : A) × (u : List C) × L a u
  pub answers : (ts : List C) → Answer n L q ts (p ts)

-- ---- lists

pub same_self : {C : Type 0} (rest : List C) → SameNext rest rest
same_self rest = refl

pub next_of : {C : Type 0} (u rest more : List C) → SameNext rest more → SameNext (u ++ rest) (u ++ more)
next_of [] rest more h = h
next_of (t ∷ u) rest more h = refl

kept_next : {C : Type 0} (ts u rest more : List C) → ts ≡ u ++ rest → SameNext rest more → next (u ++ more) ≡ next ts
kept_next ts u rest more e h = sym (next_of u rest more h) ∙ ap next (sym e)

-- ---- nothing, and no depth

pub agrees_pure : {C A : Type 0} {L : Language C A} (n : ℕ) (a : A) → L a [] → Agrees n L (pure a) (pure a)
agrees_pure n a h = record { some = (a, [], h); answers = λ ts. record { text = []; splits = refl; spells = h; stays = λ more _. refl } }

pub agrees_refuse : {C A : Type 0} {L : Language C A} (n : ℕ) (a : A) (u : List C) → L a u → Agrees n L refuse refuse
agrees_refuse n a u h = record { some = (a, u, h); answers = λ ts. record { text = []; splits = refl; begins = (u, a, h); stays = λ more _. refl } }

pub agrees_exhausted : {C A : Type 0} {L : Language C A} (q : Reader C A) (a : A) (u : List C) → L a u → Agrees 0 L exhausted q
agrees_exhausted q a u h = record { some = (a, u, h); answers = λ ts. omega arith }

module _ {C A : Type 0} (L : Language C A) (p q : Reader C A) where
  lower_answer : (m n : ℕ) → m ≤ n → (ts : List C) (o : Outcome C A) → Answer n L q ts o → Answer m L q ts o
  lower_answer m n le ts (taken a rest) h = h
  lower_answer m n le ts (stuck rest) h = h
  lower_answer m n le ts deep h = omega arith

  pub agrees_lower : (m n : ℕ) → m ≤ n → Agrees n L p q → Agrees m L p q
  agrees_lower m n le x = record { some = x.some; answers = λ ts. lower_answer m n le ts (p ts) (x.answers ts) }

-- ---- as words of another language

module _ {C A : Type 0} (L M : Language C A) (p q : Reader C A) (f : (a : A) (u : List C) → L a u → M a u) where
  into_answer : (n : ℕ) (ts : List C) (o : Outcome C A) → Answer n L q ts o → Answer n M q ts o
  into_answer n ts (taken a rest) h = record { text = h.text; splits = h.splits; spells = f a h.text h.spells; stays = h.stays }
  into_answer n ts (stuck rest) h = record { text = h.text; splits = h.splits; begins = (h.begins.0, h.begins.1, f _ _ h.begins.2); stays = h.stays }
  into_answer n ts deep h = h

  pub agrees_into : (n : ℕ) → Agrees n L p q → Agrees n M p q
  agrees_into n x = record { some = (x.some.0, x.some.1, f _ _ x.some.2); answers = λ ts. into_answer n ts (p ts) (x.answers ts) }

-- ---- one reader after another: the second one reads what is left of the language behind the first one's word

module _ {C A B : Type 0} (m n : ℕ) (L : Language C A) (M : Language C B) (p p' : Reader C A) (q q' : A → Reader C B)
    (takes : (a : A) (u : List C) → L a u → m ≤ n + length u)
    (then : (a : A) (u : List C) → L a u → Agrees n (λ b v. M b (u ++ v)) (q a) (q' a)) where
  second : (ts rest : List C) (a : A) (u : List C) → L a u → (o : Outcome C B) → Answer n (λ b v. M b (u ++ v)) (q' a) rest o
      → ts ≡ u ++ rest → ((more : List C) → SameNext rest more → p' (u ++ more) ≡ taken a more) → Answer m M (p' >>= q') ts o
  second ts rest a u l (taken b end) g is stays = record {
    text = u ++ g.text;
    splits = joined ts u rest g.text end is g.splits;
    spells = g.spells;
    stays = λ more same.
        let e : p' ((u ++ g.text) ++ more) ≡ taken a (g.text ++ more) = ap p' (append_assoc u g.text more) ∙ stays (g.text ++ more) (ap next g.splits ∙ next_of g.text end more same) in
        ap (λ o. and_then o q') e ∙ g.stays more same;
  }
  second ts rest a u l (stuck end) g is stays = record {
    text = u ++ g.text;
    splits = joined ts u rest g.text end is g.splits;
    begins = (g.begins.0, g.begins.1, subst (M g.begins.1) (sym (append_assoc u g.text g.begins.0)) g.begins.2);
    stays = λ more same.
        let e : p' ((u ++ g.text) ++ more) ≡ taken a (g.text ++ more) = ap p' (append_assoc u g.text more) ∙ stays (g.text ++ more) (ap next g.splits ∙ next_of g.text end more same) in
        ap (λ o. and_then o q') e ∙ g.stays more same;
  }
  second ts rest a u l deep g is stays = let t = takes a u l in let e : length ts ≡ length u + length rest = ap length is ∙ length-append u rest in omega arith

  first : (ts : List C) (o : Outcome C A) → Answer m L p' ts o → Answer m M (p' >>= q') ts (and_then o q)
  first ts (taken a rest) h = second ts rest a h.text h.spells (q a rest) ((then a h.text h.spells).answers rest) h.splits h.stays
  first ts (stuck rest) h =
      let x = (then h.begins.1 (h.text ++ h.begins.0) h.begins.2).some in
      record {
        text = h.text;
        splits = h.splits;
        begins = (h.begins.0 ++ x.1, x.0, subst (M x.0) (append_assoc h.text h.begins.0 x.1) x.2);
        stays = λ more same. ap (λ o. and_then o q') (h.stays more same);
      }
  first ts deep h = h

  pub agrees_bind : Agrees m L p p' → Agrees m M (p >>= q) (p' >>= q')
  agrees_bind x = record {
    some = let y = (then x.some.0 x.some.1 x.some.2).some in (y.0, x.some.1 ++ y.1, y.2);
    answers = λ ts. first ts (p ts) (x.answers ts);
  }

-- ---- a symbol

pub data Single {C : Type 0} (fits : C → Bool) : C → List C → Type 0 where
  single : {t : C} → fits t ≡ true → Single fits t (t ∷ [])

module _ {C : Type 0} (fits : C → Bool) (one : C) (fit : fits one ≡ true) (n : ℕ) where
  taken_or_stuck : (t : C) (ts : List C) (b : Bool) → fits t ≡ b → Answer n (Single fits) (token fits) (t ∷ ts) (cond b (taken t ts) (stuck (t ∷ ts)))
  unfolding token
  taken_or_stuck t ts true h = record { text = t ∷ []; splits = refl; spells = single h; stays = λ more _. ap (λ (x : Bool). cond x (taken t more) (stuck (t ∷ more))) h }
  taken_or_stuck t ts false h = record { text = []; splits = refl; begins = (one ∷ [], one, single fit); stays = stays }
    where
      stays : (more : List C) → SameNext (t ∷ ts) more → token fits more ≡ stuck more
      stays [] e = absurd cc
      stays (s ∷ ss) e = let i : t ≡ s = cc in let g : fits s ≡ false = ap fits (sym i) ∙ h in ap (λ (x : Bool). cond x (taken s ss) (stuck (s ∷ ss))) g

  token_answers : (ts : List C) → Answer n (Single fits) (token fits) ts (token fits ts)
  unfolding token
  token_answers [] = record { text = []; splits = refl; begins = (one ∷ [], one, single fit); stays = stays }
    where
      stays : (more : List C) → SameNext [] more → token fits more ≡ stuck more
      stays [] e = refl
      stays (s ∷ ss) e = absurd cc
  token_answers (t ∷ ts) = taken_or_stuck t ts (fits t) refl

  pub agrees_token : Agrees n (Single fits) (token fits) (token fits)
  agrees_token = record { some = (one, one ∷ [], single fit); answers = token_answers }

-- ---- a choice by what comes next

module _ {C A : Type 0} (n : ℕ) (M : Language C A) (p r : Reader C A) (ts : List C)
    (like : (u rest more : List C) → ts ≡ u ++ rest → SameNext rest more → r (u ++ more) ≡ p (u ++ more)) where
  restay : (o : Outcome C A) → Answer n M p ts o → Answer n M r ts o
  restay (taken a rest) h = record { text = h.text; splits = h.splits; spells = h.spells; stays = λ more e. like h.text rest more h.splits e ∙ h.stays more e }
  restay (stuck rest) h = record { text = h.text; splits = h.splits; begins = h.begins; stays = λ more e. like h.text rest more h.splits e ∙ h.stays more e }
  restay deep h = h

module _ {C K A : Type 0} (n : ℕ) (M : Language C A) (key : Option C → K) (f f' : K → Reader C A) (x : (k : K) → Agrees n M (f k) (f' k)) where
  pub agrees_peek : Agrees n M (λ ts. f (key (next ts)) ts) (λ ts. f' (key (next ts)) ts)
  agrees_peek = record {
    some = (x (key None)).some;
    answers = λ ts. restay n M (f' (key (next ts))) (λ ts. f' (key (next ts)) ts) ts
        (λ u rest more e h. ap (λ (o : Option C). f' (key o) (u ++ more)) (kept_next ts u rest more e h)) (f (key (next ts)) ts) ((x (key (next ts))).answers ts);
  }

-- ---- with the symbols that it was read from

-- the language whose readings hold the word itself
abbrev pub WithText : {C A : Type 0} → Language C A → Language C (List C × A)
WithText L x u = (x.0 ≡ u) × L x.1 u

module _ {C A : Type 0} (L : Language C A) (p q : Reader C A) where
  noted_on : (u more : List C) (a : A) → q (u ++ more) ≡ taken a more → noting q (u ++ more) ≡ taken (u, a) more
  noted_on u more a e = ap (noted (u ++ more)) e ∙ ap (λ (w : List C). taken (w, a) more) (front_is (u ++ more) u more refl)

  noted_answer : (n : ℕ) (ts : List C) (o : Outcome C A) → Answer n L q ts o → Answer n (WithText L) (noting q) ts (noted ts o)
  noted_answer n ts (taken a rest) h =
      let e = front_is ts h.text rest h.splits in
      record { text = h.text; splits = h.splits; spells = (e, h.spells); stays = λ more s. noted_on h.text more a (h.stays more s) ∙ ap (λ (w : List C). taken (w, a) more) (sym e) }
  noted_answer n ts (stuck rest) h =
      record { text = h.text; splits = h.splits; begins = (h.begins.0, (h.text ++ h.begins.0, h.begins.1), (refl, h.begins.2)); stays = λ more s. ap (noted (h.text ++ more)) (h.stays more s) }
  noted_answer n ts deep h = h

  pub agrees_noting : (n : ℕ) → Agrees n L p q → Agrees n (WithText L) (noting p) (noting q)
  agrees_noting n x = record { some = ((x.some.1, x.some.0), x.some.1, (refl, x.some.2)); answers = λ ts. noted_answer n ts (p ts) (x.answers ts) }

module _ {C A : Type 0} (n : ℕ) (M : Language C A) (fits : C → Bool) (p p' q q' : Reader C A) (x : Agrees n M p p') (y : Agrees n M q q') where
  branches : (b : Bool) → Agrees n M (λ ts. cond b (p ts) (q ts)) (λ ts. cond b (p' ts) (q' ts))
  branches true = x
  branches false = y

  pub agrees_if : Agrees n M (if_comes fits p q) (if_comes fits p' q')
  agrees_if = agrees_peek n M (lets fits) (λ b ts. cond b (p ts) (q ts)) (λ b ts. cond b (p' ts) (q' ts)) branches

-- ---- a repetition

-- words of L in a row
pub data Many {C A : Type 0} (L : Language C A) : List A → List C → Type 0 where
  many_none : Many L [] []
  many_more : {a : A} {u : List C} {ls : List A} {v : List C} → L a u → Many L ls v → Many L (a ∷ ls) (u ++ v)

-- the items of a list that were found already, and then those of a word of LS
abbrev pub Found : {C A : Type 0} → Language C (List A) → List A → Language C (List A)
Found {A = A} LS found b w = (ls : List A) × LS ls w × (b ≡ found ++ ls)

module _ {C A : Type 0} (L : Language C A) (LS : Language C (List A)) (fits : C → Bool) (item item' : Reader C A)
    (nil : LS [] []) (more : (a : A) (u : List C) (ls : List A) (v : List C) → L a u → LS ls v → LS (a ∷ ls) (u ++ v))
    (solid : (a : A) (u : List C) → L a u → 1 ≤ length u) where
  longer : (found : List A) (a : A) (u : List C) → L a u → (b : List A) (v : List C) → Found LS (found ++ a ∷ []) b v → Found LS found b (u ++ v)
  longer found a u l b v (ls, s, e) = (a ∷ ls, more a u ls v l s, e ∙ append_assoc found (a ∷ []) ls)

  none_more : (i : ℕ) (found : List A) → Agrees i (Found LS found) (pure found) (pure found)
  none_more i found = agrees_pure i found ([], nil, sym (append-nil found))

  stop : (ts : List C) → comes fits ts ≡ true → 1 ≤ length ts
  stop [] h = absurd cc
  stop (t ∷ ts) h = omega arith

  none_left : (m : ℕ) (found : List A) (more : List C) → comes fits more ≡ false → many fits item' m found more ≡ taken found more
  unfolding many
  none_left zero found more h = ap (λ (b : Bool). cond b deep (taken found more)) h
  none_left (suc m) found more h = ap (λ (b : Bool). cond b (and_then (item' more) (λ x. many fits item' m (found ++ x ∷ []))) (taken found more)) h

  no_turns : (m i : ℕ) (found : List A) → i ≤ 1 → (ts : List C) (b : Bool) → comes fits ts ≡ b
      → Answer i (Found LS found) (many fits item' m found) ts (cond b deep (taken found ts))
  no_turns m i found le ts true h = let e = stop ts h in omega arith
  no_turns m i found le ts false h = record {
    text = [];
    splits = refl;
    spells = ([], nil, sym (append-nil found));
    stays = λ more e. none_left m found more (ap (lets fits) (sym e) ∙ h);
  }

  pub agrees_many : (n m i : ℕ) → n ≤ m → i ≤ suc n → Agrees i L item item' → (found : List A) → Agrees i (Found LS found) (many fits item n found) (many fits item' m found)
  unfolding many
  agrees_many zero m i up le x found = record { some = (none_more i found).some; answers = λ ts. no_turns m i found (omega arith) ts (comes fits ts) refl }
  agrees_many (suc n) zero i up le x found = absurd (omega arith)
  agrees_many (suc n) (suc m) i up le x found =
      agrees_if i (Found LS found) fits (item >>= (λ a. many fits item n (found ++ a ∷ []))) (item' >>= (λ a. many fits item' m (found ++ a ∷ []))) (pure found) (pure found)
      (agrees_bind i (i - 1) L (Found LS found) item item' (λ a. many fits item n (found ++ a ∷ [])) (λ a. many fits item' m (found ++ a ∷ []))
      (λ a u l. let s = solid a u l in omega arith)
      (λ a u l. agrees_into (Found LS (found ++ a ∷ [])) (λ b v. Found LS found b (u ++ v)) (many fits item n (found ++ a ∷ [])) (many fits item' m (found ++ a ∷ [])) (longer found a u l) (i - 1)
      (agrees_many n m (i - 1) (omega arith) (omega arith) (agrees_lower L item item' (i - 1) i (omega arith) x) (found ++ a ∷ []))) x)
      (none_more i found)
