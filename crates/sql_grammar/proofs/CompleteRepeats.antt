-- Repetitions that an item may end read each word, and what begins at a place.
use Rattle.std.proofs.Common.{◌≡◌, ℕ, zero, suc, ◌<◌, ◌≤◌, Bool, true, false, List, [], ◌∷◌, ◌++◌, length, Some, None, refl, sym, ◌∙◌, ap, subst, arith}
use Rattle.std.proofs.lemmas.List.{append_assoc, append-nil, length-append}
use Rattle.fronts.specs.Fronts.{Language}
use Rattle.fronts.specs.Readers.{Outcome, taken, and_then, comes}
use Rattle.fronts.proofs.Agrees.{Many, many_none, many_more}
use Rattle.sql_ast.specs.declared.token.Token.{Token}
use Rattle.sql_ast.specs.Marks.{Tokens, start_of}
use Rattle.sql_grammar.specs.Ways.{Parser, Ended, until, starting}
use Rattle.sql_grammar.proofs.Ways.{start_next}
use Rattle.sql_grammar.proofs.CompleteSteps.{Read, then_on, else_on, done}

-- ---- what begins at a place

pub begun : {A : Type 0} {o : Outcome Token A} {N : Type 0} (f : ℕ → Parser A) (u v rest : Tokens) → 1 ≤ length u → (N → f (start_of u) ((u ++ v) ++ rest) ≡ o) → N → starting f ((u ++ v) ++ rest) ≡ o
begun f u v rest le h lt = ap (λ k. f k ((u ++ v) ++ rest)) (start_next ((u ++ v) ++ rest) u (v ++ rest) (append_assoc u v rest) le) ∙ h lt

pub begun_only : {A : Type 0} {o : Outcome Token A} {N : Type 0} (f : ℕ → Parser A) (u rest : Tokens) → 1 ≤ length u → (N → f (start_of u) (u ++ rest) ≡ o) → N → starting f (u ++ rest) ≡ o
begun_only f u rest le h lt = ap (λ k. f k (u ++ rest)) (start_next (u ++ rest) u rest refl le) ∙ h lt

-- ---- items that end nothing

pub data One {A E : Type 0} (L : Language Token A) : Ended A E → Tokens → Type 0 where
  one : {a : A} {u : Tokens} → L a u → One L (a ∷ [], None) u

module _ {A E : Type 0} (fits : Token → Bool) (item : Parser (Ended A E)) where
  pub until_stop : (m : ℕ) (found : List A) (ts : Tokens) → comes fits ts ≡ false → until fits item m found ts ≡ taken (found, None) ts
  unfolding until
  until_stop zero found ts h = else_on {N = Unit {0}} h _ _ done tt
  until_stop (suc m) found ts h = else_on {N = Unit {0}} h _ _ done tt

  came : (ts : Tokens) → comes fits ts ≡ true → 1 ≤ length ts
  came [] h = absurd cc
  came (t ∷ ts) h = omega arith

  pub until_end : (m : ℕ) (found : List A) (ts : Tokens) → length ts ≤ m → comes fits ts ≡ true → (xs : List A) (e : E) (rest : Tokens) → item ts ≡ taken (xs, Some e) rest
      → until fits item m found ts ≡ taken (found ++ xs, Some e) rest
  unfolding until
  until_end zero found ts le h xs e rest is = let g = came ts h in absurd (omega arith)
  until_end (suc m) found ts le h xs e rest is = then_on {N = Unit {0}} h _ _ (λ _. ap (λ o. and_then o (λ x. elim x.1 [ None ↦ until fits item m (found ++ x.0) | Some e ↦ λ ts. taken (found ++ x.0, Some e) ts ])) is) tt

  until_one : (m : ℕ) (found : List A) (ts : Tokens) → comes fits ts ≡ true → (xs : List A) (rest : Tokens) → item ts ≡ taken (xs, None) rest
      → until fits item (suc m) found ts ≡ until fits item m (found ++ xs) rest
  unfolding until
  until_one m found ts h xs rest is = then_on {N = Unit {0}} h _ _ (λ _. ap (λ o. and_then o (λ x. elim x.1 [ None ↦ until fits item m (found ++ x.0) | Some e ↦ λ ts. taken (found ++ x.0, Some e) ts ])) is) tt

  -- how far it came: what was found, and turns enough for what is left
  pub record Came (from : Outcome Token (Ended A E)) (found : List A) (rest : Tokens) : Type 0 where
    pub turns : ℕ
    pub room : length rest ≤ turns
    pub is : from ≡ until fits item turns found rest

  -- one item more
  pub until_next : (m : ℕ) (found : List A) (ts : Tokens) → length ts ≤ m → comes fits ts ≡ true → (xs : List A) (rest : Tokens) → item ts ≡ taken (xs, None) rest → length rest < length ts
      → Came (until fits item m found ts) (found ++ xs) rest
  until_next zero found ts le h xs rest is lt = let g = came ts h in absurd (omega arith)
  until_next (suc m) found ts le h xs rest is lt = record { turns = m; room = omega arith; is = until_one m found ts h xs rest is }

  module _ (F : Tokens → Type 0) (n : ℕ) (L : Language Token A) (over : (t : Token) (ts : Tokens) → fits t ≡ true → F (t ∷ ts))
      (begins : (a : A) (u rest : Tokens) → L a u → comes fits (u ++ rest) ≡ true) (x : Read (suc n) F (One L) item) where
    over_next : (ts : Tokens) → comes fits ts ≡ true → F ts
    over_next [] h = absurd cc
    over_next (t ∷ ts) h = over t ts h

    pub until_follows : (ls : List A) (v rest : Tokens) → Many L ls v → F rest → F (v ++ rest)
    until_follows _ _ rest many_none h = h
    until_follows _ _ rest (many_more {a = a} {u = u} {v = v} l z) h = subst F (sym (append_assoc u v rest)) (over_next (u ++ (v ++ rest)) (begins a u (v ++ rest) l))

    solid : (a : A) (u : Tokens) → L a u → 1 ≤ length u
    solid a [] l = absurd (let h : false ≡ true = begins a [] [] l in cc)
    solid a (t ∷ u) l = omega arith

    pub until_goes : (ls : List A) (v : Tokens) → Many L ls v → (m : ℕ) (found : List A) (rest : Tokens) → F rest → length (v ++ rest) ≤ m → length (v ++ rest) < suc n
        → Came (until fits item m found (v ++ rest)) (found ++ ls) rest
    until_goes _ _ many_none m found rest h le lt = record { turns = m; room = le; is = ap (λ (b : List A). until fits item m b rest) (sym (append-nil found)) }
    until_goes _ _ (many_more {a = a} {u = u} {ls = ls} {v = v} l z) zero found rest h le lt = let g = solid a u l in let e = length-append (u ++ v) rest in let f = length-append u v in absurd (omega arith)
    until_goes _ _ (many_more {a = a} {u = u} {ls = ls} {v = v} l z) (suc m) found rest h le lt =
        let g = solid a u l in
        let e : length ((u ++ v) ++ rest) ≡ length (u ++ (v ++ rest)) = ap length (append_assoc u v rest) in
        let f = length-append u (v ++ rest) in
        let y = until_goes ls v z m (found ++ a ∷ []) rest h (omega arith) (omega arith) in
        record {
          turns = y.turns;
          room = y.room;
          is = ap (until fits item (suc m) found) (append_assoc u v rest)
              ∙ until_one m found (u ++ (v ++ rest)) (begins a u (v ++ rest) l) (a ∷ []) (v ++ rest) (x.reads (one l) (v ++ rest) (until_follows ls v rest z h) (omega arith))
              ∙ y.is ∙ ap (λ (b : List A). until fits item y.turns b rest) (append_assoc found (a ∷ []) ls);
        }

-- a repetition that isn't empty, with its last item apart
pub record LastApart {A : Type 0} (L : Language Token A) (ls : List A) (v : Tokens) : Type 0 where
  pub before : List A
  pub text : Tokens
  pub many : Many L before text
  pub item : A
  pub end : Tokens
  pub spells : L item end
  pub all : ls ≡ before ++ item ∷ []
  pub whole : v ≡ text ++ end

pub last_apart : {A : Type 0} (L : Language Token A) (a : A) (u : Tokens) → L a u → (ls : List A) (v : Tokens) → Many L ls v → LastApart L (a ∷ ls) (u ++ v)
last_apart L a u l _ _ many_none = record { before = []; text = []; many = many_none; item = a; end = u; spells = l; all = refl; whole = append-nil u }
last_apart L a u l _ _ (many_more {a = c} {u = w} {ls = ls} {v = v} m z) =
    let y = last_apart L c w m ls v z in
    record { before = a ∷ y.before; text = u ++ y.text; many = many_more l y.many; item = y.item; end = y.end; spells = y.spells; all = ap (λ (b : List _). a ∷ b) y.all; whole = ap (λ (t : Tokens). u ++ t) y.whole ∙ sym (append_assoc u y.text y.end) }

-- ---- a whole repetition, as a reader

-- items of LS behind those that were found, of which none ends it
abbrev pub Gone : {A E : Type 0} → Language Token (List A) → List A → Language Token (Ended A E)
Gone {A = A} LS found b w = (ls : List A) × LS ls w × (b ≡ (found ++ ls, None))

-- and with an item that ends it
pub data GoneTo {A E : Type 0} (LS : Language Token (List A)) (Final : List A → E → Tokens → Type 0) (found : List A) : Ended A E → Tokens → Type 0 where
  gone_to : {ls xs : List A} {e : E} {v u : Tokens} → LS ls v → Final xs e u → GoneTo LS Final found ((found ++ ls) ++ xs, Some e) (v ++ u)

module _ {A E : Type 0} {n : ℕ} {L : Language Token A} (fits : Token → Bool) (item : Parser (Ended A E)) (F : Tokens → Type 0) (over : (t : Token) (ts : Tokens) → fits t ≡ true → F (t ∷ ts))
    (begins : (a : A) (u rest : Tokens) → L a u → comes fits (u ++ rest) ≡ true) (x : Read (suc n) F (One L) item) (LS : Language Token (List A)) (view : (ls : List A) (v : Tokens) → LS ls v → Many L ls v) where
  pub until_read : (G : Tokens → Type 0) (stops : (ts : Tokens) → G ts → comes fits ts ≡ false) (down : (ts : Tokens) → G ts → F ts) (found : List A) → Read (suc n) G (Gone LS found) (until fits item n found)
  until_read G stops down found = record {
    reads = λ (ls, z, e) rest g lt.
        let y = until_goes fits item F n L over begins x ls _ (view ls _ z) n found rest (down rest g) (omega arith) lt in
        y.is ∙ until_stop fits item y.turns (found ++ ls) rest (stops rest g) ∙ ap (λ (b : Ended A E). taken b rest) (sym e);
  }

  module _ (G : Tokens → Type 0) (Final : List A → E → Tokens → Type 0) (begins_end : (xs : List A) (e : E) (u rest : Tokens) → Final xs e u → comes fits (u ++ rest) ≡ true)
      (ends : (xs : List A) (e : E) (u : Tokens) → Final xs e u → (rest : Tokens) → G rest → length (u ++ rest) < suc n → item (u ++ rest) ≡ taken (xs, Some e) rest) where
    fits_next : (ts : Tokens) → comes fits ts ≡ true → F ts
    fits_next [] h = absurd cc
    fits_next (t ∷ ts) h = over t ts h

    by : (found : List A) {a : Ended A E} {w : Tokens} → GoneTo LS Final found a w → (rest : Tokens) → G rest → length (w ++ rest) < suc n → until fits item n found (w ++ rest) ≡ taken a rest
    by found (gone_to {ls = ls} {xs = xs} {e = e} {v = v} {u = u} z k) rest g lt =
        let is : length ((v ++ u) ++ rest) ≡ length (v ++ (u ++ rest)) = ap length (append_assoc v u rest) in
        let h = length-append v (u ++ rest) in
        let y = until_goes fits item F n L over begins x ls v (view ls v z) n found (u ++ rest) (fits_next (u ++ rest) (begins_end xs e u rest k)) (omega arith) (omega arith) in
        ap (until fits item n found) (append_assoc v u rest) ∙ y.is
        ∙ until_end fits item y.turns (found ++ ls) (u ++ rest) y.room (begins_end xs e u rest k) xs e rest (ends xs e u k rest g (omega arith))

    pub until_to_read : (found : List A) → Read (suc n) G (GoneTo LS Final found) (until fits item n found)
    until_to_read found = record { reads = by found }
