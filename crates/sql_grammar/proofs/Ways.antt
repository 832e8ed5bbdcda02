-- The ways to join readers that are the grammar's own, proved as those of any symbols are.
use Rattle.std.proofs.Common.{◌≡◌, ℕ, zero, suc, ◌-◌, ◌≤◌, Bool, true, false, cond, List, [], ◌∷◌, ◌++◌, length, Option, Some, None, refl, sym, ◌∙◌, ap, subst, arith}
use Rattle.std.proofs.lemmas.List.{append_assoc, append-nil, length-append}
use Rattle.fronts.specs.Fronts.{Language, Begins}
use Rattle.fronts.specs.Readers.{Outcome, taken, stuck, deep, Reader, and_then, ◌>>=◌, pure, exhausted, next, lets, comes, if_comes}
use Rattle.fronts.proofs.Agrees.{Agrees, Answer, Took, SameNext, agrees_pure, agrees_into, agrees_lower, agrees_bind, agrees_if}
use Rattle.fronts.proofs.Firm.{Firm, Opens, Goes, opens, Any, firm_pure, firm_exhausted, firm_bind, firm_if, opens_exhausted, opens_bind}
use Rattle.fronts.proofs.Exact.{Exact, into}
use Rattle.sql_ast.specs.declared.token.Token.{Token}
use Rattle.sql_ast.specs.Marks.{Tokens, start_of}
use Rattle.sql_grammar.specs.Ways.{Parser, Ended, until, place_of, starting}

-- ---- a repetition that an item may end

-- what was found, and then what a word of LS adds
abbrev pub FoundTo : {C A E : Type 0} → Language C (Ended A E) → List A → Language C (Ended A E)
FoundTo {A = A} LS found b w = (ls : List A) × LS (ls, b.1) w × (b.0 ≡ found ++ ls)

-- a reader of the next turn, by how an item ended
abbrev turn : {C A E : Type 0} → (C → Bool) → Reader C (Ended A E) → ℕ → List A → Ended A E → Reader C (Ended A E)
turn fits item n found x = elim x.1 [ None ↦ until fits item n (found ++ x.0) | Some e ↦ pure (found ++ x.0, Some e) ]

module _ {C A E : Type 0} (L LS : Language C (Ended A E)) (fits : C → Bool) (item item' : Reader C (Ended A E))
    (nil : LS ([], None) [])
    (more : (xs : List A) (u : List C) (ls : List A) (o : Option E) (v : List C) → L (xs, None) u → LS (ls, o) v → LS (xs ++ ls, o) (u ++ v))
    (ends : (xs : List A) (e : E) (u : List C) → L (xs, Some e) u → LS (xs, Some e) u)
    (solid : (a : Ended A E) (u : List C) → L a u → 1 ≤ length u) where
  longer : (found xs : List A) (u : List C) → L (xs, None) u → (b : Ended A E) (v : List C) → FoundTo LS (found ++ xs) b v → FoundTo LS found b (u ++ v)
  longer found xs u l (b, o) v (ls, s, e) = (xs ++ ls, more xs u ls o v l s, e ∙ append_assoc found xs ls)

  none_more : (i : ℕ) (found : List A) → Agrees i (FoundTo LS found) (pure (found, None)) (pure (found, None))
  none_more i found = agrees_pure i (found, None) ([], nil, sym (append-nil found))

  stop : (ts : List C) → comes fits ts ≡ true → 1 ≤ length ts
  stop [] h = absurd cc
  stop (t ∷ ts) h = omega arith

  none_left : (m : ℕ) (found : List A) (more : List C) → comes fits more ≡ false → until fits item' m found more ≡ taken (found, None) more
  unfolding until
  none_left zero found more h = ap (λ (b : Bool). cond b deep (taken (found, None) more)) h
  none_left (suc m) found more h = ap (λ (b : Bool). cond b (and_then (item' more) (turn fits item' m found)) (taken (found, None) more)) h

  no_turns : (m i : ℕ) (found : List A) → i ≤ 1 → (ts : List C) (b : Bool) → comes fits ts ≡ b
      → Answer i (FoundTo LS found) (until fits item' m found) ts (cond b deep (taken (found, None) ts))
  no_turns m i found le ts true h = let e = stop ts h in omega arith
  no_turns m i found le ts false h = record {
    text = [];
    splits = refl;
    spells = ([], nil, sym (append-nil found));
    stays = λ more e. none_left m found more (ap (lets fits) (sym e) ∙ h);
  }

  turn_agrees : (n m i : ℕ) → ((found : List A) → Agrees i (FoundTo LS found) (until fits item n found) (until fits item' m found)) → (found : List A) (a : Ended A E) (u : List C) → L a u
      → Agrees i (λ b v. FoundTo LS found b (u ++ v)) (turn fits item n found a) (turn fits item' m found a)
  turn_agrees n m i y found (xs, None) u l =
      agrees_into (FoundTo LS (found ++ xs)) (λ b v. FoundTo LS found b (u ++ v)) (until fits item n (found ++ xs)) (until fits item' m (found ++ xs)) (longer found xs u l) i (y (found ++ xs))
  turn_agrees n m i y found (xs, Some e) u l = agrees_pure i (found ++ xs, Some e) (subst (λ (w : List C). FoundTo LS found (found ++ xs, Some e) w) (sym (append-nil u)) (xs, ends xs e u l, refl))

  pub agrees_until : (n m i : ℕ) → n ≤ m → i ≤ suc n → Agrees i L item item' → (found : List A) → Agrees i (FoundTo LS found) (until fits item n found) (until fits item' m found)
  unfolding until
  agrees_until zero m i up le x found = record { some = (none_more i found).some; answers = λ ts. no_turns m i found (omega arith) ts (comes fits ts) refl }
  agrees_until (suc n) zero i up le x found = absurd (omega arith)
  agrees_until (suc n) (suc m) i up le x found =
      agrees_if i (FoundTo LS found) fits (item >>= turn fits item n found) (item' >>= turn fits item' m found) (pure (found, None)) (pure (found, None))
      (agrees_bind i (i - 1) L (FoundTo LS found) item item' (turn fits item n found) (turn fits item' m found)
      (λ a u l. let s = solid a u l in omega arith)
      (λ a u l. turn_agrees n m (i - 1) (λ f. agrees_until n m (i - 1) (omega arith) (omega arith) (agrees_lower L item item' (i - 1) i (omega arith) x) f) found a u l) x)
      (none_more i found)

module _ {C A E : Type 0} (L LS : Language C (Ended A E)) (fits : C → Bool) (item item' : Reader C (Ended A E))
    (nil : LS ([], None) [])
    (more : (xs : List A) (u : List C) (ls : List A) (o : Option E) (v : List C) → L (xs, None) u → LS (ls, o) v → LS (xs ++ ls, o) (u ++ v))
    (ends : (xs : List A) (e : E) (u : List C) → L (xs, Some e) u → LS (xs, Some e) u)
    (solid : (a : Ended A E) (u : List C) → L a u → 1 ≤ length u) (goes : (t : C) → fits t ≡ true → Opens t item') where
  turn_any : Agrees 0 L item' item' → (n : ℕ) (found : List A) (a : Ended A E) → Agrees 0 Any (turn fits item' n found a) (turn fits item' n found a)
  turn_any far n found (xs, None) = agrees_into (FoundTo LS (found ++ xs)) Any (until fits item' n (found ++ xs)) (until fits item' n (found ++ xs)) (λ b v l. tt) 0
      (agrees_until L LS fits item' item' nil more ends solid n n 0 (omega arith) (omega arith) far (found ++ xs))
  turn_any far n found (xs, Some e) = agrees_pure 0 (found ++ xs, Some e) tt

  turn_firm : (n : ℕ) → ((found : List A) → Firm (until fits item' n found)) → (found : List A) (a : Ended A E) → Firm (turn fits item' n found a)
  turn_firm n y found (xs, None) = y (found ++ xs)
  turn_firm n y found (xs, Some e) = firm_pure (found ++ xs, Some e)

  firm_until : Agrees 0 L item' item' → Firm item' → (n : ℕ) (found : List A) → Firm (until fits item' n found)
  unfolding until
  firm_until far firm zero found = firm_if fits exhausted (pure (found, None)) firm_exhausted (firm_pure (found, None)) (λ t h. opens (opens_exhausted t))
  firm_until far firm (suc n) found =
      firm_if fits (item' >>= turn fits item' n found) (pure (found, None))
      (firm_bind 0 0 L Any item' (turn fits item' n found) far (λ a u l. turn_any far n found a) firm (λ a u l. turn_firm n (λ f. firm_until far firm n f) found a))
      (firm_pure (found, None))
      (λ t h. opens (opens_bind 0 0 L item' (turn fits item' n found) far (λ a u l. turn_any far n found a) t (goes t h)))

  pub exact_until : (n m i : ℕ) → n ≤ m → i ≤ suc n → Exact i L item item' → (found : List A) → Exact i (FoundTo LS found) (until fits item n found) (until fits item' m found)
  exact_until n m i up le x found = record {
    near = agrees_until L LS fits item item' nil more ends solid n m i up le x.near found;
    far = agrees_until L LS fits item' item' nil more ends solid m m 0 (omega arith) (omega arith) x.far found;
    firm = firm_until x.far x.firm m found;
  }

  all_found : (b : Ended A E) (v : List C) → FoundTo LS [] b v → LS b v
  all_found (b, o) v (ls, s, e) = subst (λ (x : List A). LS (x, o) v) (sym e) s

  -- one that begins with nothing
  pub exact_to_end : (n m : ℕ) → n ≤ m → Exact (suc n) L item item' → Exact (suc n) LS (until fits item n []) (until fits item' m [])
  exact_to_end n m up x = into (exact_until n m (suc n) up (omega arith) x []) all_found

-- ---- what begins at a place

-- a word, not empty, that is one of M if it begins at this place
pub record Begun {A : Type 0} (M : Language Token A) (k : ℕ) (a : A) (u : Tokens) : Type 0 where
  pub solid : 1 ≤ length u
  pub spells : k ≡ start_of u → M a u

pub start_next : (ts u rest : Tokens) → ts ≡ u ++ rest → 1 ≤ length u → place_of (next ts) ≡ start_of u
start_next ts [] rest e le = absurd (omega arith)
start_next ts (t ∷ u) rest e le = ap (λ (w : Tokens). place_of (next w)) e

pub start_front : (u v : Tokens) → 1 ≤ length u → start_of (u ++ v) ≡ start_of u
start_front [] v le = absurd (omega arith)
start_front (t ∷ u) v le = refl

module _ {A : Type 0} (M : Language Token A) (some : (a : A) × (u : Tokens) × M a u) (solid : (a : A) → M a [] → ⊥) (f f' : ℕ → Parser A) where
  begun_word : (k : ℕ) (a : A) (u : Tokens) → Begun M k a u → k ≡ start_of u → M a u
  begun_word k a u h e = h.spells e

  begins_here : (k : ℕ) (ts text rest : Tokens) → ts ≡ text ++ rest → k ≡ place_of (next ts) → Begins (Begun M k) text → Begins M text
  begins_here k ts [] rest is e (v, a, h) = (some.1, some.0, some.2)
  begins_here k ts (t ∷ text) rest is e (v, a, h) = (v, a, h.spells (e ∙ ap (λ (w : Tokens). place_of (next w)) is))

  here : (n k : ℕ) (ts : Tokens) (o : Outcome Token A) → k ≡ place_of (next ts) → Answer n (Begun M k) (f' k) ts o → Answer n M (starting f') ts o
  here n k ts (taken a rest) e h = record {
    text = h.text;
    splits = h.splits;
    spells = h.spells.spells (e ∙ start_next ts h.text rest h.splits h.spells.solid);
    stays = λ more s. ap (λ (j : ℕ). f' j (h.text ++ more)) (start_next (h.text ++ more) h.text more refl h.spells.solid ∙ sym (start_next ts h.text rest h.splits h.spells.solid) ∙ sym e) ∙ h.stays more s;
  }
  here n k ts (stuck rest) e h = record {
    text = h.text;
    splits = h.splits;
    begins = begins_here k ts h.text rest h.splits e h.begins;
    stays = λ more s. ap (λ (j : ℕ). f' j (h.text ++ more)) (same_place ts h.text rest more h.splits s ∙ sym e) ∙ h.stays more s;
  }
    where
      same_place : (ts text rest more : Tokens) → ts ≡ text ++ rest → SameNext rest more → place_of (next (text ++ more)) ≡ place_of (next ts)
      same_place ts [] rest more is s = ap place_of (sym s) ∙ ap (λ (w : Tokens). place_of (next w)) (sym is)
      same_place ts (t ∷ text) rest more is s = ap (λ (w : Tokens). place_of (next w)) (sym is)
  here n k ts deep e h = h

  module _ (x : (k : ℕ) → Firm (f' k)) (far : (k : ℕ) → Agrees 0 (Begun M k) (f' k) (f' k)) where
    not_empty : (k : ℕ) (a : A) → f' k [] ≡ taken a [] → ⊥
    not_empty k a e =
        let h : Took (Begun M k) (f' k) [] a [] = subst (Answer 0 (Begun M k) (f' k) []) e ((far k).answers []) in
        let is : [] ≡ h.text ++ [] = h.splits in
        let l : length h.text ≡ 0 = sym (length-append h.text [] ∙ omega arith) ∙ ap length (sym is) in
        let s = h.spells.solid in omega arith

    starting_firm : (u : Tokens) (t : Token) (rest : Tokens) (a : A) → starting f' u ≡ taken a [] → starting f' (u ++ (t ∷ rest)) ≡ stuck (t ∷ rest) → ⊥
    starting_firm [] t rest a e s = not_empty 0 a e
    starting_firm (z ∷ u) t rest a e s = (x z.start).firm (z ∷ u) t rest a e s

    starting_steady : (u : Tokens) (t : Token) (rest : Tokens) (a c : A) → starting f' u ≡ taken a [] → starting f' (u ++ (t ∷ rest)) ≡ taken c (t ∷ rest) → c ≡ a
    starting_steady [] t rest a c e s = absurd (not_empty 0 a e)
    starting_steady (z ∷ u) t rest a c e s = (x z.start).steady (z ∷ u) t rest a c e s

  pub exact_starting : (n : ℕ) → ((k : ℕ) → Exact n (Begun M k) (f k) (f' k)) → Exact n M (starting f) (starting f')
  exact_starting n x = record {
    near = record { some = some; answers = λ ts. here n (place_of (next ts)) ts (f (place_of (next ts)) ts) refl ((x (place_of (next ts))).near.answers ts) };
    far = record { some = some; answers = λ ts. here 0 (place_of (next ts)) ts (f' (place_of (next ts)) ts) refl ((x (place_of (next ts))).far.answers ts) };
    firm = record { firm = starting_firm (λ k. (x k).firm) (λ k. (x k).far); steady = starting_steady (λ k. (x k).firm) (λ k. (x k).far) };
  }

-- ---- a choice whose second reader need only be right where the test fails

module _ {A : Type 0} (n : ℕ) (M : Language Token A) (fits : Token → Bool) (some : (a : A) × (u : Tokens) × M a u) (p p' q q' : Parser A) where
  Otherwise : Language Token A
  Otherwise a u = comes fits u ≡ false → M a u

  came : (ts text rest : Tokens) → ts ≡ text ++ rest → comes fits ts ≡ false → comes fits text ≡ false
  came ts [] rest is h = refl
  came ts (t ∷ text) rest is h = ap (comes fits) (sym is) ∙ h

  begins_else : (ts text rest : Tokens) → ts ≡ text ++ rest → comes fits ts ≡ false → Begins (λ a u. comes fits u ≡ false → M a u) text → Begins M text
  begins_else ts [] rest is h (v, a, l) = (some.1, some.0, some.2)
  begins_else ts (t ∷ text) rest is h (v, a, l) = (v, a, l (ap (comes fits) (sym is) ∙ h))

  still : (ts text rest more : Tokens) → ts ≡ text ++ rest → SameNext rest more → comes fits ts ≡ false → comes fits (text ++ more) ≡ false
  still ts [] rest more is s h = ap (lets fits) (sym s) ∙ ap (comes fits) (sym is) ∙ h
  still ts (t ∷ text) rest more is s h = ap (comes fits) (sym is) ∙ h

  else_answer : (i : ℕ) (ts : Tokens) (o : Outcome Token A) → comes fits ts ≡ false → Answer i (λ a u. comes fits u ≡ false → M a u) q' ts o → Answer i M (if_comes fits p' q') ts o
  else_answer i ts (taken a rest) h k = record {
    text = k.text;
    splits = k.splits;
    spells = k.spells (came ts k.text rest k.splits h);
    stays = λ more s. ap (λ c. cond c (p' (k.text ++ more)) (q' (k.text ++ more))) (still ts k.text rest more k.splits s h) ∙ k.stays more s;
  }
  else_answer i ts (stuck rest) h k = record {
    text = k.text;
    splits = k.splits;
    begins = begins_else ts k.text rest k.splits h k.begins;
    stays = λ more s. ap (λ c. cond c (p' (k.text ++ more)) (q' (k.text ++ more))) (still ts k.text rest more k.splits s h) ∙ k.stays more s;
  }
  else_answer i ts deep h k = k

  then_still : (ts text rest more : Tokens) → ts ≡ text ++ rest → SameNext rest more → comes fits ts ≡ true → comes fits (text ++ more) ≡ true
  then_still ts [] rest more is s h = ap (lets fits) (sym s) ∙ ap (comes fits) (sym is) ∙ h
  then_still ts (t ∷ text) rest more is s h = ap (comes fits) (sym is) ∙ h

  then_answer : (i : ℕ) (ts : Tokens) (o : Outcome Token A) → comes fits ts ≡ true → Answer i M p' ts o → Answer i M (if_comes fits p' q') ts o
  then_answer i ts (taken a rest) h k = record { text = k.text; splits = k.splits; spells = k.spells; stays = λ more s. ap (λ c. cond c (p' (k.text ++ more)) (q' (k.text ++ more))) (then_still ts k.text rest more k.splits s h) ∙ k.stays more s }
  then_answer i ts (stuck rest) h k = record { text = k.text; splits = k.splits; begins = k.begins; stays = λ more s. ap (λ c. cond c (p' (k.text ++ more)) (q' (k.text ++ more))) (then_still ts k.text rest more k.splits s h) ∙ k.stays more s }
  then_answer i ts deep h k = k

  by_test : (i : ℕ) (f g : Parser A) → Agrees i M f p' → Agrees i (λ a u. comes fits u ≡ false → M a u) g q' → (ts : Tokens) (c : Bool) → comes fits ts ≡ c → Answer i M (if_comes fits p' q') ts (cond c (f ts) (g ts))
  by_test i f g x y ts true h = then_answer i ts (f ts) h (x.answers ts)
  by_test i f g x y ts false h = else_answer i ts (g ts) h (y.answers ts)

  pub exact_else : ((t : Token) → fits t ≡ true → Goes q' t p') → Exact n M p p' → Exact n (λ a u. comes fits u ≡ false → M a u) q q' → Exact n M (if_comes fits p q) (if_comes fits p' q')
  exact_else goes x y = record {
    near = record { some = some; answers = λ ts. by_test n p q x.near y.near ts (comes fits ts) refl };
    far = record { some = some; answers = λ ts. by_test 0 p' q' x.far y.far ts (comes fits ts) refl };
    firm = firm_if fits p' q' x.firm y.firm goes;
  }
