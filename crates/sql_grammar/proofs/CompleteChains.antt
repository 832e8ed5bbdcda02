-- Chains read each word, also those whose operands may end in a `>`.
use Rattle.std.proofs.Common.{◌≡◌, ℕ, suc, ◌<◌, ◌≤◌, Bool, true, false, List, [], ◌∷◌, ◌++◌, length, Some, None, refl, sym, ◌∙◌, ap, subst, arith}
use Rattle.std.proofs.lemmas.List.{append_assoc}
use Rattle.fronts.specs.Fronts.{Language}
use Rattle.fronts.specs.Readers.{taken, ◌>>=◌, comes, many}
use Rattle.fronts.proofs.Agrees.{Many, many_none, many_more, Found}
use Rattle.sql_ast.specs.declared.expr.Expr.{Expr}
use Rattle.sql_ast.specs.declared.expr.Link.{Link}
use Rattle.sql_ast.specs.declared.expr.Operator.{Operator}
use Rattle.sql_ast.specs.declared.words.Sign.TheVariants as s
use Rattle.sql_ast.specs.declared.token.Token.{Token}
use Rattle.sql_ast.specs.Marks.{Tokens, Is, sign, closes_shift, start_of}
use Rattle.sql_ast.specs.Trees.{link, chain}
use Rattle.sql_grammar.specs.Ways.{Parser, Ended, until, starting}
use Rattle.sql_grammar.specs.Exprs.{Below, Pending, linked, linked_pending, chain_from, pending_from}
use Rattle.sql_grammar.proofs.Levels.{LinkOf, link_of}
use Rattle.sql_grammar.proofs.Follows.{Over, level}
use Rattle.sql_grammar.proofs.CompleteSteps.{Read, Not, less, tok, part, last, done, weak, to, over_many, many_ahead}
use Rattle.sql_grammar.proofs.CompleteRepeats.{begun, One, one, Gone, GoneTo, gone_to, until_read, until_to_read, last_apart}

link_begins : (fits : Token → Bool) (op : Token → Operator) (L : Language Token Expr) (a : Link Expr) (u rest : Tokens) → LinkOf fits op L a u → comes fits (u ++ rest) ≡ true
link_begins fits op L _ _ rest (link_of i l) = i.is

-- ---- chains

-- operators of level k, between operands that tokens over level j don't go on with
module _ {j k : ℕ} (fits : Token → Bool) (op : Token → Operator) (levels : (t : Token) → fits t ≡ true → level t.lexeme ≡ k) (lt : j < k) (make : Expr → List (Link Expr) → ℕ → Expr)
    (L : Language Token Expr) (LS : Language Token (List (Link Expr))) (solid : (a : Expr) (u : Tokens) → L a u → 1 ≤ length u) (view : (ls : List (Link Expr)) (v : Tokens) → LS ls v → Many (LinkOf fits op L) ls v)
    (n : ℕ) (b : Below) (operand : Parser Expr) (x : Read (suc n) (Over j) L operand) where
  linked_read : Read (suc n) (Over j) (LinkOf fits op L) (linked fits op operand)
  unfolding linked
  linked_read = record { reads = by }
    where
      by : {a : Link Expr} {u : Tokens} → LinkOf fits op L a u → (rest : Tokens) → Over j rest → length (u ++ rest) < suc n → linked fits op operand (u ++ rest) ≡ taken a rest
      by (link_of i l) rest f = tok i _ (last (less x) l _ f done)

  links_read : Read (suc n) (Over k) (Found LS []) (many fits (linked fits op operand) n [])
  links_read = over_many fits levels lt (link_begins fits op L) linked_read [] view

  -- what goes on behind the first operand
  pub chain_from_read : (p : ℕ) (a : Expr) (ls : List (Link Expr)) (v : Tokens) → LS ls v → (rest : Tokens) → Over k rest → length (v ++ rest) < suc n → chain_from n b fits op operand make p a (v ++ rest) ≡ taken (chain make a ls p) rest
  unfolding chain_from
  chain_from_read p a ls v z rest f = last links_read (ls, z, refl) _ f done

  pub chain_read : (a : Expr) (u : Tokens) → L a u → (ls : List (Link Expr)) (v : Tokens) → LS ls v → (rest : Tokens) → Over k rest → length ((u ++ v) ++ rest) < suc n
      → starting (λ p. operand >>= chain_from n b fits op operand make p) ((u ++ v) ++ rest) ≡ taken (chain make a ls (start_of u)) rest
  chain_read a u l ls v z rest f = begun (λ p. operand >>= chain_from n b fits op operand make p) u v rest (solid a u l)
      (part x l v rest _ (to (many_ahead fits levels lt (link_begins fits op L) ls v (view ls v z)) lt (weak (omega arith) f)) (chain_from_read (start_of u) a ls v z rest f))

-- ---- operands that may end in a `>`

pub data PlainOf (L : Language Token Expr) : Pending → Tokens → Type 0 where
  plain_of : {a : Expr} {u : Tokens} → L a u → PlainOf L (a, None) u

pub data EndsIn (L : Language Token Expr) (g : Token) : Pending → Tokens → Type 0 where
  ends_in : {a : Expr} {u : Tokens} → L a u → EndsIn L g (a, Some g) (u ++ (g ∷ []))

-- a word that no token up to level k follows, and one behind which stands a `>` that begins no `>>`
pub record Pends (n k : ℕ) (L : Language Token Expr) (p : Parser Pending) : Type 0 where
  pub plain : Read n (Over k) (PlainOf L) p
  pub greater : (g : Token) → Is (sign s.Greater) g → Read n (Not (closes_shift g)) (EndsIn L g) p

module _ {j k : ℕ} (fits : Token → Bool) (op : Operator) (levels : (t : Token) → fits t ≡ true → level t.lexeme ≡ k) (lt : j < k) (make : Expr → List (Link Expr) → ℕ → Expr)
    (L : Language Token Expr) (LS : Language Token (List (Link Expr))) (solid : (a : Expr) (u : Tokens) → L a u → 1 ≤ length u)
    (view : (ls : List (Link Expr)) (v : Tokens) → LS ls v → Many (LinkOf fits (λ t. op) L) ls v)
    (n : ℕ) (b : Below) (operand : Parser Pending) (x : Pends (suc n) j L operand) where
  abbrev Links : Language Token (Link Expr)
  Links = LinkOf fits (λ t. op) L

  item_read : Read (suc n) (Over j) (One Links) (linked_pending fits op operand)
  unfolding linked_pending
  item_read = record { reads = by }
    where
      by : {a : Ended (Link Expr) Token} {u : Tokens} → One Links a u → (rest : Tokens) → Over j rest → length (u ++ rest) < suc n → linked_pending fits op operand (u ++ rest) ≡ taken a rest
      by (one (link_of i l)) rest f = tok i _ (last (less x.plain) (plain_of l) _ f done)

  -- the last link, with a `>` behind it
  data LinkFinal (g : Token) : List (Link Expr) → Token → Tokens → Type 0 where
    link_final : {a : Link Expr} {u : Tokens} → Links a u → LinkFinal g (a ∷ []) g (u ++ (g ∷ []))

  final_begins : (g : Token) (xs : List (Link Expr)) (e : Token) (u rest : Tokens) → LinkFinal g xs e u → comes fits (u ++ rest) ≡ true
  final_begins g _ _ _ rest (link_final (link_of i l)) = i.is

  final_ends : (g : Token) → Is (sign s.Greater) g → (xs : List (Link Expr)) (e : Token) (u : Tokens) → LinkFinal g xs e u → (rest : Tokens) → Not (closes_shift g) rest → length (u ++ rest) < suc n
      → linked_pending fits op operand (u ++ rest) ≡ taken (xs, Some e) rest
  unfolding linked_pending
  final_ends g ig _ _ _ (link_final (link_of i l)) rest f = tok i _ (last (less (x.greater g ig)) (ends_in l) _ f done)

  over_fits : (t : Token) (ts : Tokens) → fits t ≡ true → Over j (t ∷ ts)
  over_fits t ts h = record { over = let e = levels t h in omega arith }

  links_stop : (ts : Tokens) → Over k ts → comes fits ts ≡ false
  links_stop [] h = refl
  links_stop (t ∷ ts) h = go (fits t) refl
    where
      go : (c : Bool) → fits t ≡ c → fits t ≡ false
      go true e = let g = levels t e in let i = h.over in absurd (omega arith)
      go false e = e

  plain_links : Read (suc n) (Over k) (Gone LS []) (until fits (linked_pending fits op operand) n [])
  plain_links = until_read fits (linked_pending fits op operand) (Over j) over_fits (link_begins fits (λ t. op) L) item_read LS view (Over k) links_stop (λ ts h. weak (omega arith) h) []

  ended_links : (g : Token) → Is (sign s.Greater) g → Read (suc n) (Not (closes_shift g)) (GoneTo (Many Links) (LinkFinal g) []) (until fits (linked_pending fits op operand) n [])
  ended_links g ig = until_to_read fits (linked_pending fits op operand) (Over j) over_fits (link_begins fits (λ t. op) L) item_read (Many Links) (λ ls v z. z) (Not (closes_shift g)) (LinkFinal g) (final_begins g) (final_ends g ig) []

  gone_last : (g : Token) (a : Link Expr) (u : Tokens) → Links a u → (ls : List (Link Expr)) (v : Tokens) → Many Links ls v → GoneTo (Many Links) (LinkFinal g) [] (a ∷ ls, Some g) ((u ++ v) ++ (g ∷ []))
  gone_last g a u l ls v z =
      let y = last_apart Links a u l ls v z in
      subst (λ (w : Tokens). GoneTo (Many Links) (LinkFinal g) [] (a ∷ ls, Some g) w) (sym (append_assoc y.text y.end (g ∷ [])) ∙ ap (λ (w : Tokens). w ++ (g ∷ [])) (sym y.whole))
      (subst (λ (w : List (Link Expr)). GoneTo (Many Links) (LinkFinal g) [] (w, Some g) (y.text ++ (y.end ++ (g ∷ [])))) (sym y.all) (gone_to y.many (link_final y.spells)))

  pub plain_chain : (a : Expr) (u : Tokens) → L a u → (ls : List (Link Expr)) (v : Tokens) → LS ls v → (rest : Tokens) → Over k rest → length ((u ++ v) ++ rest) < suc n
      → starting (λ p. operand >>= pending_from n b fits op operand make p) ((u ++ v) ++ rest) ≡ taken (chain make a ls (start_of u), None) rest
  plain_chain a u l ls v z rest f = begun (λ p. operand >>= pending_from n b fits op operand make p) u v rest (solid a u l)
      (part x.plain (plain_of l) v rest _ (to (many_ahead fits levels lt (link_begins fits (λ t. op) L) ls v (view ls v z)) lt (weak (omega arith) f)) (last plain_links (ls, z, refl) _ f done))

  greater_by : (g : Token) → Is (sign s.Greater) g → (a : Expr) (u : Tokens) → L a u → (ls : List (Link Expr)) (v : Tokens) → Many Links ls v → (rest : Tokens) → Not (closes_shift g) rest
      → length ((u ++ (v ++ (g ∷ []))) ++ rest) < suc n → starting (λ p. operand >>= pending_from n b fits op operand make p) ((u ++ (v ++ (g ∷ []))) ++ rest) ≡ taken (chain make a ls (start_of u), Some g) rest
  unfolding chain
  greater_by g ig a u l _ _ many_none rest f = begun (λ p. operand >>= pending_from n b fits op operand make p) u (g ∷ []) rest (solid a u l) (last (x.greater g ig) (ends_in l) _ f done)
  greater_by g ig a u l _ _ (many_more {a = c} {u = w} {ls = ls} {v = v} (link_of {t = t} {a = d} {u = y} i m) z) rest f =
      begun (λ p. operand >>= pending_from n b fits op operand make p) u (((t ∷ y) ++ v) ++ (g ∷ [])) rest (solid a u l)
      (part x.plain (plain_of l) (((t ∷ y) ++ v) ++ (g ∷ [])) rest _ (over_fits t _ i.is) (last (ended_links g ig) (gone_last g (link op t d) (t ∷ y) (link_of i m) ls v z) _ f done))

  pub greater_chain : (g : Token) → Is (sign s.Greater) g → (a : Expr) (u : Tokens) → L a u → (ls : List (Link Expr)) (v : Tokens) → LS ls v → (rest : Tokens) → Not (closes_shift g) rest
      → length (((u ++ v) ++ (g ∷ [])) ++ rest) < suc n → starting (λ p. operand >>= pending_from n b fits op operand make p) (((u ++ v) ++ (g ∷ [])) ++ rest) ≡ taken (chain make a ls (start_of u), Some g) rest
  greater_chain g ig a u l ls v z rest f =
      subst (λ (w : Tokens). length (w ++ rest) < suc n → starting (λ p. operand >>= pending_from n b fits op operand make p) (w ++ rest) ≡ taken (chain make a ls (start_of u), Some g) rest) (sym (append_assoc u v (g ∷ [])))
      (greater_by g ig a u l ls v (view ls v z) rest f)
