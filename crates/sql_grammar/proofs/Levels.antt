-- The levels of expressions: chains, and chains whose operand may end in a `>`.
use Rattle.std.proofs.Common.{◌≡◌, ℕ, suc, ◌≤◌, Bool, true, List, [], ◌∷◌, ◌++◌, length, Option, Some, None, sym, ◌∙◌, ap, subst, arith}
use Rattle.std.proofs.lemmas.List.{append_assoc, append-nil}
use Rattle.fronts.specs.Fronts.{Language}
use Rattle.fronts.specs.Readers.{◌>>=◌}
use Rattle.fronts.proofs.Firm.{Opens}
use Rattle.fronts.proofs.Exact.{Exact, bind, last, into, done, less, exact_all, opens_bind}
use Rattle.sql_ast.specs.declared.words.Sign.TheVariants as s
use Rattle.sql_ast.specs.declared.token.Token.{Token}
use Rattle.sql_ast.specs.declared.expr.Expr.{Expr}
use Rattle.sql_ast.specs.declared.expr.Link.{Link}
use Rattle.sql_ast.specs.declared.expr.Operator.{Operator}
use Rattle.sql_ast.specs.Marks.{Tokens, Is, sign, start_of}
use Rattle.sql_ast.specs.Trees.{link, chain}
use Rattle.sql_grammar.specs.Ways.{Parser, Ended, starting}
use Rattle.sql_grammar.specs.Exprs.{Below, Pending, linked, linked_pending, chain_from, pending_from}
use Rattle.sql_grammar.proofs.Ways.{Begun, start_front, exact_starting, exact_to_end}
use Rattle.sql_grammar.proofs.Marks.{Example, tok, tok_opens}
use Rattle.sql_grammar.proofs.Solid.{solid_front}

-- a reader that goes on behind a word of L, which begins at the place that it is given, to a word of M
abbrev pub From : {A B : Type 0} → ℕ → Language Token A → Language Token B → (f f' : ℕ → A → Parser B) → Type 0
From {A} {B} n L M f f' = (k : ℕ) (a : A) (u : Tokens) → Begun L k a u → Exact n (λ b v. Begun M k b (u ++ v)) (f k a) (f' k a)

pub from_then : {A B C : Type 0} (n : ℕ) (L : Language Token A) (M : Language Token B) (O : Language Token C) (f f' : ℕ → A → Parser B) (g g' : ℕ → B → Parser C)
    → From n L M f f' → From n M O g g' → From n L O (λ k a. f k a >>= g k) (λ k a. f' k a >>= g' k)
from_then n L M O f f' g g' x y k a u h = bind (x k a u h) (λ b v m. into (y k b (u ++ v) m) (λ c w o. subst (Begun O k c) (append_assoc u v w) o))

pub begun_as : {A : Type 0} (L : Language Token A) (solid : (a : A) (u : Tokens) → L a u → 1 ≤ length u) (k : ℕ) (a : A) (u : Tokens) → L a u → Begun L k a u
begun_as L solid k a u l = record { solid = solid a u l; spells = λ e. l }

-- what was said of a beginning
pub begun_on : {A : Type 0} (L : Language Token A) (k : ℕ) (a : A) (u v : Tokens) → Begun L k a u → (P : ℕ → Type 0) → (L a u → P (start_of u)) → k ≡ start_of (u ++ v) → P k
begun_on L k a u v h P f e = let i = e ∙ start_front u v h.solid in subst P (sym i) (f (h.spells i))

-- a level: an operand, and what goes on behind it
pub level : {A B : Type 0} (n : ℕ) (L : Language Token A) (M : Language Token B) (some : (b : B) × (u : Tokens) × M b u) (nothing : (b : B) → M b [] → ⊥)
    (solid : (a : A) (u : Tokens) → L a u → 1 ≤ length u) (p p' : Parser A) (f f' : ℕ → A → Parser B)
    → Exact n L p p' → From n L M f f' → Exact n M (starting (λ k. p >>= f k)) (starting (λ k. p' >>= f' k))
level n L M some nothing solid p p' f f' x y = exact_starting M some nothing (λ k. p >>= f k) (λ k. p' >>= f' k) n (λ k. bind x (λ a u l. y k a u (begun_as L solid k a u l)))

-- it takes each token that its operand takes
pub level_opens : {A B : Type 0} {n : ℕ} (L : Language Token A) (M : Language Token B) (solid : (a : A) (u : Tokens) → L a u → 1 ≤ length u) (p p' : Parser A) (f f' : ℕ → A → Parser B)
    → Exact n L p p' → From n L M f f' → (t : Token) → Opens t p' → Opens t (starting (λ k. p' >>= f' k))
level_opens L M solid p p' f f' x y t h =
    let g : Opens t (p' >>= f' t.start) = opens_bind h x (λ a u l. into (y t.start a u (begun_as L solid t.start a u l)) (λ b v z. tt)) in
    record { goes = λ rest e. g.goes rest e; moves = λ rest a e. g.moves rest a e }

pub no_word : {A : Type 0} (M : Language Token A) (solid : (a : A) (u : Tokens) → M a u → 1 ≤ length u) (b : A) → M b [] → ⊥
no_word M solid b h = let e = solid b [] h in omega arith

-- ---- links

pub data LinkOf (fits : Token → Bool) (op : Token → Operator) (L : Language Token Expr) : Link Expr → Tokens → Type 0 where
  link_of : {t : Token} {a : Expr} {u : Tokens} → Is fits t → L a u → LinkOf fits op L (link (op t) t a) (t ∷ u)

pub link_solid : (fits : Token → Bool) (op : Token → Operator) (L : Language Token Expr) (a : Link Expr) (u : Tokens) → LinkOf fits op L a u → 1 ≤ length u
link_solid fits op L _ _ (link_of i j) = omega arith

module _ (fits : Token → Bool) (op : Token → Operator) (one : Example fits) (L : Language Token Expr) (n : ℕ) (p p' : Parser Expr) (x : Exact (suc n) L p p') where
  pub linked_exact : Exact (suc n) (LinkOf fits op L) (linked fits op p) (linked fits op p')
  unfolding linked
  linked_exact = tok one (λ t it. last (link (op t) t) (less x) (λ a u l. link_of it l))

  pub linked_opens : (t : Token) → fits t ≡ true → Opens t (linked fits op p')
  unfolding linked
  linked_opens t h = tok_opens h (λ z iz. last (link (op z) z) x (λ a u l. tt))

module _ (fits : Token → Bool) (op : Token → Operator) (one : Example fits) (make : Expr → List (Link Expr) → ℕ → Expr) (L M : Language Token Expr) (LS : Language Token (List (Link Expr)))
    (nil : LS [] []) (more : (t : Token) (a : Expr) (u : Tokens) (ls : List (Link Expr)) (v : Tokens) → Is fits t → L a u → LS ls v → LS (link (op t) t a ∷ ls) (t ∷ (u ++ v)))
    (made : (a : Expr) (u : Tokens) (ls : List (Link Expr)) (v : Tokens) → L a u → LS ls v → M (chain make a ls (start_of u)) (u ++ v))
    (n m : ℕ) (up : n ≤ m) (b b' : Below) (p p' : Parser Expr) (x : Exact (suc n) L p p') where
  more_at : (a : Link Expr) (u : Tokens) (ls : List (Link Expr)) (v : Tokens) → LinkOf fits op L a u → LS ls v → LS (a ∷ ls) (u ++ v)
  more_at _ _ ls v (link_of {t = t} {a = a} {u = u} i l) z = more t a u ls v i l z

  pub chain_exact : From (suc n) L M (chain_from n b fits op p make) (chain_from m b' fits op p' make)
  unfolding chain_from
  chain_exact k a u g = last (λ ls. chain make a ls k) (exact_all (LinkOf fits op L) LS fits (linked fits op p) (linked fits op p') nil more_at (link_solid fits op L) (linked_opens fits op one L n p p' x) n m up (linked_exact fits op one L n p p' x))
      (λ ls v z. record { solid = solid_front u v g.solid; spells = begun_on L k a u v g (λ j. M (chain make a ls j) (u ++ v)) (λ l. made a u ls v l z) })

-- ---- operands that may end in a `>`

pub data PendingOf (L : Language Token Expr) : Pending → Tokens → Type 0 where
  pending_none : {a : Expr} {u : Tokens} → L a u → PendingOf L (a, None) u
  pending_is : {a : Expr} {t : Token} {u : Tokens} → L a u → Is (sign s.Greater) t → PendingOf L (a, Some t) (u ++ (t ∷ []))

pub data LinksTo (LS : Language Token (List (Link Expr))) : Ended (Link Expr) Token → Tokens → Type 0 where
  links_none : {ls : List (Link Expr)} {u : Tokens} → LS ls u → LinksTo LS (ls, None) u
  links_pending : {ls : List (Link Expr)} {t : Token} {u : Tokens} → LS ls u → Is (sign s.Greater) t → LinksTo LS (ls, Some t) (u ++ (t ∷ []))

pub data LinkTo (fits : Token → Bool) (op : Operator) (L : Language Token Expr) : Ended (Link Expr) Token → Tokens → Type 0 where
  link_to : {t : Token} {a : Expr} {o : Option Token} {u : Tokens} → Is fits t → PendingOf L (a, o) u → LinkTo fits op L (link op t a ∷ [], o) (t ∷ u)

link_to_solid : (fits : Token → Bool) (op : Operator) (L : Language Token Expr) (a : Ended (Link Expr) Token) (u : Tokens) → LinkTo fits op L a u → 1 ≤ length u
link_to_solid fits op L _ _ (link_to i l) = omega arith

pub pending_solid : (L : Language Token Expr) → ((a : Expr) (u : Tokens) → L a u → 1 ≤ length u) → (a : Pending) (u : Tokens) → PendingOf L a u → 1 ≤ length u
pending_solid L solid _ _ (pending_none {a = a} {u = u} l) = solid a u l
pending_solid L solid _ _ (pending_is {a = a} {t = t} {u = u} l i) = solid_front u (t ∷ []) (solid a u l)

pub pending_some : (L : Language Token Expr) → ((a : Expr) × (u : Tokens) × L a u) → (a : Pending) × (u : Tokens) × PendingOf L a u
pending_some L x = ((x.0, None), x.1, pending_none x.2)

-- what was found behind an operand makes a word of M that may end in a `>`
module _ (make : Expr → List (Link Expr) → ℕ → Expr) (L M : Language Token Expr) (LS : Language Token (List (Link Expr)))
    (made : (a : Expr) (u : Tokens) (ls : List (Link Expr)) (v : Tokens) → L a u → LS ls v → M (chain make a ls (start_of u)) (u ++ v)) where
  pub made_pending : (a : Expr) (u : Tokens) → L a u → (x : Ended (Link Expr) Token) (v : Tokens) → LinksTo LS x v → PendingOf M (chain make a x.0 (start_of u), x.1) (u ++ v)
  made_pending a u l _ _ (links_none {ls = ls} {u = v} z) = pending_none (made a u ls v l z)
  made_pending a u l _ _ (links_pending {ls = ls} {t = t} {u = v} z i) = subst (PendingOf M (chain make a ls (start_of u), Some t)) (append_assoc u v (t ∷ [])) (pending_is (made a u ls v l z) i)

module _ (fits : Token → Bool) (op : Operator) (one : Example fits) (make : Expr → List (Link Expr) → ℕ → Expr) (L M : Language Token Expr) (LS : Language Token (List (Link Expr)))
    (nil : LS [] []) (more : (t : Token) (a : Expr) (u : Tokens) (ls : List (Link Expr)) (v : Tokens) → Is fits t → L a u → LS ls v → LS (link op t a ∷ ls) (t ∷ (u ++ v)))
    (made : (a : Expr) (u : Tokens) (ls : List (Link Expr)) (v : Tokens) → L a u → LS ls v → M (chain make a ls (start_of u)) (u ++ v))
    (n m : ℕ) (up : n ≤ m) (b b' : Below) (p p' : Parser Pending) (x : Exact (suc n) (PendingOf L) p p') where
  more_to : (xs : List (Link Expr)) (u : Tokens) (ls : List (Link Expr)) (o : Option Token) (v : Tokens) → LinkTo fits op L (xs, None) u → LinksTo LS (ls, o) v → LinksTo LS (xs ++ ls, o) (u ++ v)
  more_to _ _ _ _ _ (link_to {t = t} {a = a} {u = u} i (pending_none l)) (links_none {ls = ls} {u = v} z) = links_none (more t a u ls v i l z)
  more_to _ _ _ _ _ (link_to {t = t} {a = a} {u = u} i (pending_none l)) (links_pending {ls = ls} {t = g} {u = v} z j) =
      subst (LinksTo LS (link op t a ∷ ls, Some g)) (append_assoc (t ∷ u) v (g ∷ [])) (links_pending (more t a u ls v i l z) j)

  ends_to : (xs : List (Link Expr)) (e : Token) (u : Tokens) → LinkTo fits op L (xs, Some e) u → LinksTo LS (xs, Some e) u
  ends_to _ _ _ (link_to {t = t} {a = a} i (pending_is {t = g} {u = u} l j)) =
      subst (λ (w : Tokens). LinksTo LS (link op t a ∷ [], Some g) (w ++ (g ∷ []))) (ap (λ (w : Tokens). t ∷ w) (append-nil u)) (links_pending (more t a u [] [] i l nil) j)

  item_exact : Exact (suc n) (LinkTo fits op L) (linked_pending fits op p) (linked_pending fits op p')
  unfolding linked_pending
  item_exact = tok one (λ t it. last (λ (a : Pending). (link op t a.0 ∷ [], a.1)) (less x) (λ a u l. link_to it l))

  item_opens : (t : Token) → fits t ≡ true → Opens t (linked_pending fits op p')
  unfolding linked_pending
  item_opens t h = tok_opens h (λ z iz. last (λ (a : Pending). (link op z a.0 ∷ [], a.1)) x (λ a u l. tt))

  kept : (a : Expr) (t : Token) (u : Tokens) → PendingOf L (a, Some t) u → PendingOf M (a, Some t) u
  unfolding chain
  kept _ _ _ (pending_is {a = a} {t = t} {u = u} l i) = pending_is (subst (M a) (append-nil u) (made a u [] [] l nil)) i

  none : (a : Expr) (u : Tokens) → PendingOf L (a, None) u → L a u
  none _ _ (pending_none l) = l

  pub pending_exact : From (suc n) (PendingOf L) (PendingOf M) (pending_from n b fits op p make) (pending_from m b' fits op p' make)
  pending_exact k (a, Some t) u g = done (subst (Begun (PendingOf M) k (a, Some t)) (sym (append-nil u)) (record { solid = g.solid; spells = λ e. kept a t u (g.spells e) }))
  pending_exact k (a, None) u g = last (λ (x : Ended (Link Expr) Token). (chain make a x.0 k, x.1)) (exact_to_end (LinkTo fits op L) (LinksTo LS) fits (linked_pending fits op p) (linked_pending fits op p') (links_none nil) more_to ends_to (link_to_solid fits op L) item_opens n m up item_exact)
      (λ x v z. record { solid = solid_front u v g.solid; spells = begun_on (PendingOf L) k (a, None) u v g (λ j. PendingOf M (chain make a x.0 j, x.1) (u ++ v)) (λ l. made_pending make L M LS made a u (none a u l) x v z) })
