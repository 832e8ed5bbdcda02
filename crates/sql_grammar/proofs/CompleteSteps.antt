-- The steps of a proof that a reader reads each word, and repetitions.
use Rattle.std.proofs.Common.{◌≡◌, ℕ, zero, suc, ◌+◌, ◌<◌, ◌≤◌, Bool, true, false, cond, List, [], ◌∷◌, ◌++◌, length, Option, Some, refl, sym, ◌∙◌, ap, subst, arith}
use Rattle.std.proofs.lemmas.List.{append_assoc, append-nil, length-append}
use Rattle.fronts.specs.Fronts.{Language}
use Rattle.fronts.specs.Readers.{Outcome, taken, stuck, and_then, ◌>>=◌, peek, next, comes, token, many}
use Rattle.fronts.proofs.Agrees.{Many, many_none, many_more, Found}
use Rattle.sql_names.specs.declared.words.Reserved.{Reserved}
use Rattle.sql_ast.specs.declared.words.Sign.{Sign}
use Rattle.sql_ast.specs.declared.words.Sign.TheVariants as s
use Rattle.sql_ast.specs.declared.words.Word.{Word}
use Rattle.sql_ast.specs.declared.token.Token.{Token}
use Rattle.sql_ast.specs.declared.token.Lexeme.{Lexeme}
use Rattle.sql_ast.specs.declared.token.Lexeme.TheVariants as l
use Rattle.sql_ast.specs.Marks.{Tokens, Is, reserved, sign, word, named, same_reserved, reserved_lexeme}
use Rattle.sql_grammar.specs.Ways.{Parser}
use Rattle.sql_grammar.proofs.Marks.{AfterOf, after_of}
use Rattle.sql_grammar.proofs.Follows.{Over, Starts, level, rank, word_level, sign_level, word_rank, sign_rank, is_reserved, is_sign, is_named, is_word}

-- A word is read, whatever follows that F lets follow, where fewer than n tokens are left.
pub record Read {A : Type 0} (n : ℕ) (F : Tokens → Type 0) (L : Language Token A) (p : Parser A) : Type 0 where
  pub reads : {a : A} {u : Tokens} → L a u → (rest : Tokens) → F rest → length (u ++ rest) < n → p (u ++ rest) ≡ taken a rest

-- whatever follows
abbrev pub Free : Tokens → Type 0
Free ts = Unit {0}

pub less : {A : Type 0} {n : ℕ} {F : Tokens → Type 0} {L : Language Token A} {p : Parser A} → Read (suc n) F L p → Read n F L p
less x = record { reads = λ l rest f lt. x.reads l rest f (omega arith) }

pub under : {A : Type 0} {n : ℕ} {F G : Tokens → Type 0} {L : Language Token A} {p : Parser A} → Read n F L p → ((ts : Tokens) → G ts → F ts) → Read n G L p
under x h = record { reads = λ l rest g lt. x.reads l rest (h rest g) lt }

-- ---- steps: what is left is shorter than n

pub tok : {B : Type 0} {n : ℕ} {fits : Token → Bool} {t : Token} {ts : Tokens} {o : Outcome Token B} → Is fits t → (q : Token → Parser B) → (length ts < n → q t ts ≡ o) → length (t ∷ ts) < suc n
    → and_then (token fits (t ∷ ts)) q ≡ o
unfolding token
tok {n = n} {t = t} {ts = ts} i q k lt = ap (λ (b : Bool). and_then (cond b (taken t ts) (stuck (t ∷ ts))) q) i.is ∙ k (omega arith)

-- the same where a token isn't needed for the depth
pub also : {B : Type 0} {n : ℕ} {fits : Token → Bool} {t : Token} {ts : Tokens} {o : Outcome Token B} → Is fits t → (q : Token → Parser B) → (length ts < n → q t ts ≡ o) → length (t ∷ ts) < n
    → and_then (token fits (t ∷ ts)) q ≡ o
unfolding token
also {n = n} {t = t} {ts = ts} i q k lt = ap (λ (b : Bool). and_then (cond b (taken t ts) (stuck (t ∷ ts))) q) i.is ∙ k (omega arith)

pub part : {A B : Type 0} {n : ℕ} {F : Tokens → Type 0} {L : Language Token A} {p : Parser A} {a : A} {u : Tokens} {o : Outcome Token B} → Read n F L p → L a u → (v rest : Tokens) (q : A → Parser B)
    → F (v ++ rest) → (length (v ++ rest) < n → q a (v ++ rest) ≡ o) → length ((u ++ v) ++ rest) < n → and_then (p ((u ++ v) ++ rest)) q ≡ o
part {A} {B} {n} {F} {L} {p} {a} {u} {o} x l v rest q f k lt =
    let e : length ((u ++ v) ++ rest) ≡ length (u ++ (v ++ rest)) = ap length (append_assoc u v rest) in
    let g : length (u ++ (v ++ rest)) ≡ length u + length (v ++ rest) = length-append u (v ++ rest) in
    ap (λ (w : Tokens). and_then (p w) q) (append_assoc u v rest) ∙ ap (λ (y : Outcome Token A). and_then y q) (x.reads l (v ++ rest) f (omega arith)) ∙ k (omega arith)

pub last : {A B : Type 0} {n : ℕ} {F : Tokens → Type 0} {L : Language Token A} {p : Parser A} {a : A} {u rest : Tokens} {o : Outcome Token B} → Read n F L p → L a u → (q : A → Parser B)
    → F rest → (length rest < n → q a rest ≡ o) → length (u ++ rest) < n → and_then (p (u ++ rest)) q ≡ o
last {A} {B} {n} {F} {L} {p} {a} {u} {rest} {o} x l q f k lt =
    let g : length (u ++ rest) ≡ length u + length rest = length-append u rest in
    ap (λ (y : Outcome Token A). and_then y q) (x.reads l rest f lt) ∙ k (omega arith)

-- a word that is all that a reader reads
pub only : {A : Type 0} {n : ℕ} {F : Tokens → Type 0} {L : Language Token A} {p : Parser A} {a : A} {u rest : Tokens} → Read n F L p → L a u → F rest → length (u ++ rest) < n → p (u ++ rest) ≡ taken a rest
only {rest = rest} x l f lt = x.reads l rest f lt

pub then_on : {N X : Type 0} {b : Bool} {z : X} → b ≡ true → (x y : X) → (N → x ≡ z) → N → cond b x y ≡ z
then_on h x y k lt = ap (λ c. cond c x y) h ∙ k lt

pub else_on : {N X : Type 0} {b : Bool} {z : X} → b ≡ false → (x y : X) → (N → y ≡ z) → N → cond b x y ≡ z
else_on h x y k lt = ap (λ c. cond c x y) h ∙ k lt

pub peeked : {B K N : Type 0} (key : Option Token → K) (f : K → Parser B) {ts : Tokens} {k : K} {o : Outcome Token B} → key (next ts) ≡ k → (N → f k ts ≡ o) → N → and_then (peek key ts) f ≡ o
peeked key f {ts} e h lt = ap (λ k. f k ts) e ∙ h lt

pub done : {N X : Type 0} {x : X} → N → x ≡ x
done lt = refl

-- ---- what the next token isn't

pub refute : (b : Bool) → (b ≡ true → ⊥) → b ≡ false
refute true h = absurd (h refl)
refute false h = refl

module _ {k : ℕ} where
  level_not : (f : Lexeme → ℕ) (c x : Lexeme) → f c ≤ k → k < f x → x ≡ c → ⊥
  level_not f c x le lt e = let g : f x ≡ f c = ap f e in omega arith

  pub over_not_r : {ts : Tokens} → Over k ts → (x : Reserved) → word_level x ≤ k → comes (reserved x) ts ≡ false
  over_not_r {ts = []} h x le = refl
  over_not_r {ts = t ∷ ts} h x le = refute (reserved x t) (λ e. level_not level (l.Reserved x) t.lexeme le h.over (is_reserved {t = t} (record { is = e })))

  pub over_not_s : {ts : Tokens} → Over k ts → (x : Sign) → sign_level x ≤ k → comes (sign x) ts ≡ false
  over_not_s {ts = []} h x le = refl
  over_not_s {ts = t ∷ ts} h x le = refute (sign x t) (λ e. level_not level (l.Sign x) t.lexeme le h.over (is_sign {t = t} (record { is = e })))

  pub over_not_n : {ts : Tokens} → Over k ts → 11 ≤ k → comes named ts ≡ false
  over_not_n {ts = []} h le = refl
  over_not_n {ts = t ∷ ts} h le = refute (named t) (λ e. let g = is_named {t = t} (record { is = e }) in let f : level t.lexeme ≡ 11 = ap level g.is in let i = h.over in omega arith)

  pub over_not_w : {ts : Tokens} → Over k ts → (x : Word) → 11 ≤ k → comes (word x) ts ≡ false
  over_not_w {ts = []} h x le = refl
  over_not_w {ts = t ∷ ts} h x le = refute (word x t) (λ e. let g = is_word {t = t} (record { is = e }) in let f : level t.lexeme ≡ 11 = ap level g.is in let i = h.over in omega arith)

  pub starts_not_r : {ts : Tokens} → Starts k ts → (x : Reserved) → k < word_rank x → comes (reserved x) ts ≡ false
  starts_not_r {ts = []} h x le = refl
  starts_not_r {ts = t ∷ ts} h x le = refute (reserved x t) (λ e. let f : rank t.lexeme ≡ word_rank x = ap rank (is_reserved {t = t} (record { is = e })) in let i = h.starts in omega arith)

  pub starts_not_s : {ts : Tokens} → Starts k ts → (x : Sign) → k < sign_rank x → comes (sign x) ts ≡ false
  starts_not_s {ts = []} h x le = refl
  starts_not_s {ts = t ∷ ts} h x le = refute (sign x t) (λ e. let f : rank t.lexeme ≡ sign_rank x = ap rank (is_sign {t = t} (record { is = e })) in let i = h.starts in omega arith)

pub weak : {j k : ℕ} {ts : Tokens} → j ≤ k → Over k ts → Over j ts
weak le h = record { over = let i = h.over in omega arith }

pub over_end : {k : ℕ} → k < 100 → Over k []
over_end lt = record { over = lt }

pub over_r : {k : ℕ} {t : Token} {ts : Tokens} (x : Reserved) → Is (reserved x) t → k < word_level x → Over k (t ∷ ts)
over_r {k} {t} x i lt = record { over = let e : level t.lexeme ≡ word_level x = ap level (is_reserved i) in omega arith }

pub over_s : {k : ℕ} {t : Token} {ts : Tokens} (x : Sign) → Is (sign x) t → k < sign_level x → Over k (t ∷ ts)
over_s {k} {t} x i lt = record { over = let e : level t.lexeme ≡ sign_level x = ap level (is_sign i) in omega arith }

pub over_n : {k : ℕ} {t : Token} {ts : Tokens} → Is named t → k < 11 → Over k (t ∷ ts)
over_n {k} {t} i lt = record { over = let e : level t.lexeme ≡ 11 = ap level (is_named i).is in omega arith }

-- what a test says of a token that is known
pub r_test : {t : Token} {X : Type 0} {b : X} (x : Reserved) (f : Lexeme → X) → Is (reserved x) t → f (l.Reserved x) ≡ b → f t.lexeme ≡ b
r_test x f i h = ap f (is_reserved i) ∙ h

pub s_test : {t : Token} {X : Type 0} {b : X} (x : Sign) (f : Lexeme → X) → Is (sign x) t → f (l.Sign x) ≡ b → f t.lexeme ≡ b
s_test x f i h = ap f (is_sign i) ∙ h

-- ---- parts that may be nothing, before more

-- what stands before the rest begins with a token of this level, or is nothing
pub record Ahead (j : ℕ) (v : Tokens) : Type 0 where
  pub ahead : (k : ℕ) (rest : Tokens) → k < j → Over k rest → Over k (v ++ rest)

pub on : {j k : ℕ} {v : Tokens} (w rest : Tokens) → Ahead j v → k < j → Over k (w ++ rest) → Over k ((v ++ w) ++ rest)
on {j} {k} {v} w rest x lt h = subst (Over k) (sym (append_assoc v w rest)) (x.ahead k (w ++ rest) lt h)

pub to : {j k : ℕ} {v rest : Tokens} → Ahead j v → k < j → Over k rest → Over k (v ++ rest)
to {k = k} {rest = rest} x lt h = x.ahead k rest lt h

pub nothing_ahead : {j : ℕ} → Ahead j []
nothing_ahead = record { ahead = λ k rest lt h. h }

pub level_ahead : {j : ℕ} {t : Token} {v : Tokens} → level t.lexeme ≡ j → Ahead j (t ∷ v)
level_ahead {j} {t} e = record { ahead = λ k rest lt h. record { over = let g = e in omega arith } }

pub r_ahead : {t : Token} {v : Tokens} (x : Reserved) → Is (reserved x) t → Ahead (word_level x) (t ∷ v)
r_ahead x i = level_ahead (ap level (is_reserved i))

pub s_ahead : {t : Token} {v : Tokens} (x : Sign) → Is (sign x) t → Ahead (sign_level x) (t ∷ v)
s_ahead x i = level_ahead (ap level (is_sign i))

-- ---- words whose first token is known

pub starts_front : {k : ℕ} (u v rest : Tokens) → Starts k (u ++ (v ++ rest)) → Starts k ((u ++ v) ++ rest)
starts_front {k} u v rest h = subst (Starts k) (sym (append_assoc u v rest)) h

pub starts_weak : {j k : ℕ} {ts : Tokens} → j ≤ k → Starts j ts → Starts k ts
starts_weak le h = record { starts = let i = h.starts in omega arith }

-- ---- repetitions

pub after_read : {A : Type 0} {n : ℕ} {F : Tokens → Type 0} {L : Language Token A} {fits : Token → Bool} {p : Parser A} → Read n F L p → Read (suc n) F (AfterOf fits L) (token fits >>= (λ _. p))
after_read {A} {n} {F} {L} {fits} {p} x = record { reads = by }
  where
    by : {a : A} {u : Tokens} → AfterOf fits L a u → (rest : Tokens) → F rest → length (u ++ rest) < suc n → (token fits >>= (λ _. p)) (u ++ rest) ≡ taken a rest
    by (after_of {t = t} {a = a} {u = u} i l) rest f lt = tok i _ (λ lt. x.reads l rest f lt) lt

module _ {A : Type 0} (E F : Tokens → Type 0) (n : ℕ) (L : Language Token A) (fits : Token → Bool) (item : Parser A)
    (stops : (ts : Tokens) → E ts → comes fits ts ≡ false) (over : (t : Token) (ts : Tokens) → fits t ≡ true → F (t ∷ ts)) (down : (ts : Tokens) → E ts → F ts)
    (begins : (a : A) (u rest : Tokens) → L a u → comes fits (u ++ rest) ≡ true) (x : Read (suc n) F L item) where
  over_next : (ts : Tokens) → comes fits ts ≡ true → F ts
  over_next [] h = absurd cc
  over_next (t ∷ ts) h = over t ts h

  solid : (a : A) (u : Tokens) → L a u → 1 ≤ length u
  solid a [] l = absurd (let h : false ≡ true = begins a [] [] l in cc)
  solid a (t ∷ u) l = omega arith

  pub many_follows : {ls : List A} {v : Tokens} (rest : Tokens) → Many L ls v → E rest → F (v ++ rest)
  many_follows rest many_none h = down rest h
  many_follows rest (many_more {a = a} {u = u} {v = v} l s) h = subst F (sym (append_assoc u v rest)) (over_next (u ++ (v ++ rest)) (begins a u (v ++ rest) l))

  many_by : {ls : List A} {v : Tokens} → Many L ls v → (m : ℕ) (found : List A) (rest : Tokens) → E rest → length (v ++ rest) ≤ m → length (v ++ rest) < suc n
      → many fits item m found (v ++ rest) ≡ taken (found ++ ls) rest
  unfolding many
  many_by many_none zero found rest h le lt = else_on (stops rest h) _ _ (λ _. ap (λ (b : List A). taken b rest) (sym (append-nil found))) lt
  many_by many_none (suc m) found rest h le lt = else_on (stops rest h) _ _ (λ _. ap (λ (b : List A). taken b rest) (sym (append-nil found))) lt
  many_by (many_more {a = a} {u = u} {ls = ls} {v = v} l s) zero found rest h le lt =
      let g = solid a u l in let e = length-append (u ++ v) rest in let f = length-append u v in absurd (omega arith)
  many_by (many_more {a = a} {u = u} {ls = ls} {v = v} l s) (suc m) found rest h le lt =
      let g = solid a u l in
      let e : length ((u ++ v) ++ rest) ≡ length (u ++ (v ++ rest)) = ap length (append_assoc u v rest) in
      let f = length-append u (v ++ rest) in
      then_on (ap (comes fits) (append_assoc u v rest) ∙ begins a u (v ++ rest) l) _ _
      (part x l v rest _ (many_follows rest s h) (λ lt. many_by s m (found ++ a ∷ []) rest h (omega arith) lt ∙ ap (λ (b : List A). taken b rest) (append_assoc found (a ∷ []) ls))) lt

  pub many_read : {LS : Language Token (List A)} (found : List A) → ((ls : List A) (v : Tokens) → LS ls v → Many L ls v) → Read (suc n) E (Found LS found) (many fits item n found)
  many_read {LS} found view = record { reads = λ (ls, z, e) rest h lt. many_by (view ls _ z) n found rest h (omega arith) lt ∙ ap (λ (b : List A). taken b rest) (sym e) }

-- a token that fits doesn't come next
pub record Not (fits : Token → Bool) (ts : Tokens) : Type 0 where
  pub is : comes fits ts ≡ false

module _ {A : Type 0} {n : ℕ} {L : Language Token A} {LS : Language Token (List A)} {fits : Token → Bool} {item : Parser A} where
  pub free_many : ((a : A) (u rest : Tokens) → L a u → comes fits (u ++ rest) ≡ true) → Read (suc n) Free L item → (found : List A) → ((ls : List A) (v : Tokens) → LS ls v → Many L ls v)
      → Read (suc n) (Not fits) (Found LS found) (many fits item n found)
  free_many begins x found view = many_read (Not fits) Free n L fits item (λ ts h. h.is) (λ t ts h. tt) (λ ts h. tt) begins x found view

module _ {j k : ℕ} (fits : Token → Bool) (levels : (t : Token) → fits t ≡ true → level t.lexeme ≡ k) (lt : j < k) where
  over_stops : (ts : Tokens) → Over k ts → comes fits ts ≡ false
  over_stops [] h = refl
  over_stops (t ∷ ts) h = refute (fits t) (λ e. let g = levels t e in let i = h.over in omega arith)

  over_over : (t : Token) (ts : Tokens) → fits t ≡ true → Over j (t ∷ ts)
  over_over t ts e = record { over = let g = levels t e in omega arith }

  module _ {A : Type 0} {n : ℕ} {L : Language Token A} {item : Parser A} (begins : (a : A) (u rest : Tokens) → L a u → comes fits (u ++ rest) ≡ true) (x : Read (suc n) (Over j) L item) where
    pub over_many : {LS : Language Token (List A)} (found : List A) → ((ls : List A) (v : Tokens) → LS ls v → Many L ls v) → Read (suc n) (Over k) (Found LS found) (many fits item n found)
    over_many found view = many_read (Over k) (Over j) n L fits item over_stops over_over (λ ts h. weak (omega arith) h) begins x found view

  module _ {A : Type 0} {L : Language Token A} (begins : (a : A) (u rest : Tokens) → L a u → comes fits (u ++ rest) ≡ true) where
    each_ahead : (ls : List A) (v : Tokens) → Many L ls v → (i : ℕ) (rest : Tokens) → i < k → Over i rest → Over i (v ++ rest)
    each_ahead _ _ many_none i rest le h = h
    each_ahead _ _ (many_more {a = a} {u = u} {ls = ls} {v = v} l z) i rest le h = subst (Over i) (sym (append_assoc u v rest)) (front (u ++ (v ++ rest)) (begins a u (v ++ rest) l))
      where
        front : (ts : Tokens) → comes fits ts ≡ true → Over i ts
        front [] e = absurd cc
        front (t ∷ ts) e = record { over = let g = levels t e in omega arith }

    pub many_ahead : (ls : List A) (v : Tokens) → Many L ls v → Ahead k v
    many_ahead ls v z = record { ahead = λ i rest le h. each_ahead ls v z i rest le h }

pub after_begins : {A : Type 0} (fits : Token → Bool) (L : Language Token A) (a : A) (u rest : Tokens) → AfterOf fits L a u → comes fits (u ++ rest) ≡ true
after_begins fits L _ _ rest (after_of i l) = i.is

pub comma_level : (t : Token) → sign s.Comma t ≡ true → level t.lexeme ≡ 15
comma_level t h = ap level (is_sign {t = t} (record { is = h }))

pub n_test : {t : Token} {X : Type 0} {b : X} (f : Lexeme → X) → Is named t → ((n : List ℕ) (o : Option Word) → f (l.Name n o) ≡ b) → f t.lexeme ≡ b
n_test f i h = let g = is_named i in ap f g.is ∙ h g.letters g.spells

pub w_test : {t : Token} {X : Type 0} {b : X} (x : Word) (f : Lexeme → X) → Is (word x) t → ((n : List ℕ) → f (l.Name n (Some x)) ≡ b) → f t.lexeme ≡ b
w_test x f i h = let g = is_word i in ap f g.is ∙ h g.letters

pub record Comes (fits : Token → Bool) (ts : Tokens) : Type 0 where
  pub is : comes fits ts ≡ true

-- a reader inside another, whose answer is known
pub inside : {A B N : Type 0} {x : Outcome Token A} {a : A} {rest : Tokens} {o : Outcome Token B} → (N → x ≡ taken a rest) → (q : A → Parser B) → (N → q a rest ≡ o) → N → and_then x q ≡ o
inside h q k lt = ap (λ y. and_then y q) (h lt) ∙ k lt

-- ---- a token of which the test is known, as the next

pub comes_r_over : {k : ℕ} (ts : Tokens) (x : Reserved) → Comes (reserved x) ts → k < word_level x → Over k ts
comes_r_over [] x h lt = absurd (let g = h.is in cc)
comes_r_over (t ∷ ts) x h lt = over_r {t = t} x (record { is = h.is }) lt

pub comes_r_not : (ts : Tokens) (x y : Reserved) → Comes (reserved x) ts → same_reserved y x ≡ false → comes (reserved y) ts ≡ false
comes_r_not [] x y h e = refl
comes_r_not (t ∷ ts) x y h e = r_test {t = t} x (reserved_lexeme y) (record { is = h.is }) e

-- a lexeme that a test takes is none that it does not take
pub apart : {x y : Lexeme} (f : Lexeme → Bool) → f y ≡ true → y ≡ x → f x ≡ false → ⊥
apart f h e n = let g : true ≡ false = sym h ∙ ap f e ∙ n in cc
