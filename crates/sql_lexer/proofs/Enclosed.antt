-- Within marks: names in backquotes and literals in one quote.
use Rattle.std.proofs.Common.{◌≡◌, true, false, cond, List, [], ◌∷◌, Some, None, refl, sym, ap, subst}
use Rattle.sql_ast.specs.declared.pieces.Quote.{Quote}
use Rattle.sql_ast.specs.declared.pieces.Mark.{Mark}
use Rattle.sql_ast.specs.declared.pieces.Mark.TheVariants as mark
use Rattle.sql_ast.specs.declared.pieces.Class.{Class}
use Rattle.sql_ast.specs.declared.pieces.Class.TheVariants as c
use Rattle.sql_ast.specs.declared.pieces.LiteralPrefix.{LiteralPrefix}
use Rattle.sql_ast.specs.declared.pieces.Quotes.{Quotes}
use Rattle.sql_ast.specs.declared.pieces.Quotes.TheVariants as quotes
use Rattle.sql_ast.specs.declared.pieces.Shape.{Shape}
use Rattle.sql_ast.specs.declared.pieces.Shape.TheVariants as s
use Rattle.sql_ast.specs.Classes.{closes, same_quote, is_backslash, is_line_break}
use Rattle.sql_ast.specs.Forms.{Rest, rest_end, rest_escape, rest_more, Tripled, Quoted, quoted_once, quoted_thrice}
use Rattle.sql_lexer.specs.declared.machine.State.TheVariants as t
use Rattle.sql_lexer.specs.Machine.{within}
use Rattle.sql_lexer.proofs.Left.{Of, of, Literal, literal, Empty, empty, mark_of, Next, on_true, on_false, by_test, is_the_backslash, quote_self, is_the_quote}

-- ---- within marks

pub forth_within : (m : Mark) (shape : Shape) (x : Class) (a : Shape) (u : List Class) → Of (Rest m) shape a (x ∷ u) → Next a u (within m shape (t.Closed shape) x)
forth_within m shape x _ _ (of (rest_end h)) = on_true shape [] _ _ h (of empty)
forth_within m shape _ _ u (of (rest_escape h r)) = of (rest_escape h r)
forth_within m shape x _ u (of (rest_more h k l r)) = on_false shape u _ _ h (on_false shape u _ _ k (on_false shape u _ _ l (of r)))

within_end : (m : Mark) (shape : Shape) (x : Class) (a : Shape) (u : List Class) → closes m x ≡ true → Of Empty shape a u → Of (Rest m) shape a (x ∷ u)
within_end m shape x _ _ h (of empty) = of (rest_end h)

within_escape : (m : Mark) (shape : Shape) (x : Class) (a : Shape) (u : List Class) → is_backslash x ≡ true → Of (λ v. Rest m (c.Backslash ∷ v)) shape a u → Of (Rest m) shape a (x ∷ u)
within_escape m shape x _ u h (of r) = of (subst (λ (y : Class). Rest m (y ∷ u)) (sym (is_the_backslash x h)) r)

within_more : (m : Mark) (shape : Shape) (x : Class) (a : Shape) (u : List Class) → closes m x ≡ false → is_backslash x ≡ false → is_line_break x ≡ false → Of (Rest m) shape a u → Of (Rest m) shape a (x ∷ u)
within_more m shape x _ u h k l (of r) = of (rest_more h k l r)

-- what isn't the mark
within_other : (m : Mark) (shape : Shape) (x : Class) (a : Shape) (u : List Class) → closes m x ≡ false
    → Next a u (cond (is_backslash x) (Some (t.Escape m shape)) (cond (is_line_break x) None (Some (t.Within m shape)))) → Of (Rest m) shape a (x ∷ u)
within_other m shape x a u h = by_test a u (is_backslash x) _ _ (λ k r. within_escape m shape x a u k r)
    (λ k. by_test a u (is_line_break x) _ _ (λ l r. absurd r) (λ l r. within_more m shape x a u h k l r))

pub back_within : (m : Mark) (shape : Shape) (x : Class) (a : Shape) (u : List Class) → Next a u (within m shape (t.Closed shape) x) → Of (Rest m) shape a (x ∷ u)
back_within m shape x a u = by_test a u (closes m x) _ _ (λ h r. within_end m shape x a u h r) (λ h r. within_other m shape x a u h r)

pub forth_escape : (m : Mark) (shape : Shape) (x : Class) (a : Shape) (u : List Class) → Of (λ v. Rest m (c.Backslash ∷ v)) shape a (x ∷ u) → Next a u (cond (is_line_break x) None (Some (t.Within m shape)))
forth_escape m shape x _ u (of (rest_escape h r)) = on_false shape u _ _ h (of r)
forth_escape m shape x _ u (of (rest_more h k l r)) = absurd (cc)

escape_one : (m : Mark) (shape : Shape) (x : Class) (a : Shape) (u : List Class) → is_line_break x ≡ false → Of (Rest m) shape a u → Of (λ v. Rest m (c.Backslash ∷ v)) shape a (x ∷ u)
escape_one m shape x _ u h (of r) = of (rest_escape h r)

pub back_escape : (m : Mark) (shape : Shape) (x : Class) (a : Shape) (u : List Class) → Next a u (cond (is_line_break x) None (Some (t.Within m shape))) → Of (λ v. Rest m (c.Backslash ∷ v)) shape a (x ∷ u)
back_escape m shape x a u = by_test a u (is_line_break x) _ _ (λ k h. absurd h) (λ k h. escape_one m shape x a u k h)

-- ---- behind one quote, and behind two

module _ (q : Quote) (p : LiteralPrefix) where
  abbrev One : Quotes → List Class → Type 0
  One n v = Quoted n (mark_of q ∷ v)

  abbrev Two : Quotes → List Class → Type 0
  Two n v = Quoted n (mark_of q ∷ mark_of q ∷ v)

  -- the rest of a literal in one quote, or two quotes more
  pub forth_opened : (x : Class) (a : Shape) (u : List Class) → Literal p One a (x ∷ u) → Next a u (within (mark.Quote q) (s.Literal p quotes.One) (t.Twice q p) x)
  forth_opened x _ _ (literal (quoted_once (rest_end h))) =
      on_true (s.Literal p quotes.One) [] _ _ h (literal (subst (λ (y : Class). Quoted quotes.One (mark_of q ∷ y ∷ [])) (is_the_quote q x h) (quoted_once (rest_end h))))
  forth_opened _ _ u (literal (quoted_once (rest_escape h r))) = of (rest_escape h r)
  forth_opened x _ u (literal (quoted_once (rest_more h k l r))) =
      on_false (s.Literal p quotes.One) u _ _ h (on_false (s.Literal p quotes.One) u _ _ k (on_false (s.Literal p quotes.One) u _ _ l (of r)))
  forth_opened _ _ u (literal (quoted_thrice r)) = on_true (s.Literal p quotes.Three) u _ _ (quote_self q) (literal (quoted_thrice r))

  opened_twice : (x : Class) (a : Shape) (u : List Class) → closes (mark.Quote q) x ≡ true → Literal p Two a u → Literal p One a (x ∷ u)
  opened_twice x _ u h (literal {n = n} l) = literal (subst (λ (y : Class). Quoted n (mark_of q ∷ y ∷ u)) (sym (is_the_quote q x h)) l)

  opened_rest : (a : Shape) (u : List Class) → Of (Rest (mark.Quote q)) (s.Literal p quotes.One) a u → Literal p One a u
  opened_rest _ u (of r) = literal (quoted_once r)

  pub back_opened : (x : Class) (a : Shape) (u : List Class) → Next a u (within (mark.Quote q) (s.Literal p quotes.One) (t.Twice q p) x) → Literal p One a (x ∷ u)
  back_opened x a u = by_test a u (closes (mark.Quote q) x) _ _ (λ h r. opened_twice x a u h r)
      (λ h r. opened_rest a (x ∷ u) (within_other (mark.Quote q) (s.Literal p quotes.One) x a u h r))

  -- with two quotes, so that no index stands twice
  third : (r : Quote) (n : Quotes) (x : Class) (u : List Class) → r ≡ q → Quoted n (mark_of q ∷ mark_of r ∷ x ∷ u) → Next (s.Literal p n) u (cond (closes (mark.Quote q) x) (Some (t.Triple q p)) None)
  third r _ x _ e (quoted_once (rest_more h k l m)) = absurd (let f = quote_self q in let g = ap (λ y. same_quote q y) e in cc)
  third r _ _ u e (quoted_thrice m) = on_true (s.Literal p quotes.Three) u _ _ (quote_self q) (of m)

  pub forth_twice : (x : Class) (a : Shape) (u : List Class) → Literal p Two a (x ∷ u) → Next a u (cond (closes (mark.Quote q) x) (Some (t.Triple q p)) None)
  forth_twice x _ u (literal {n = n} l) = third q n x u refl l

  twice_more : (x : Class) (a : Shape) (u : List Class) → closes (mark.Quote q) x ≡ true → Of (Tripled q) (s.Literal p quotes.Three) a u → Literal p Two a (x ∷ u)
  twice_more x _ u h (of r) = literal (subst (λ (y : Class). Quoted quotes.Three (mark_of q ∷ mark_of q ∷ y ∷ u)) (sym (is_the_quote q x h)) (quoted_thrice r))

  pub back_twice : (x : Class) (a : Shape) (u : List Class) → Next a u (cond (closes (mark.Quote q) x) (Some (t.Triple q p)) None) → Literal p Two a (x ∷ u)
  back_twice x a u = by_test a u (closes (mark.Quote q) x) _ _ (λ h r. twice_more x a u h r) (λ h r. absurd r)
