-- What is left of a piece at each state of the machine.
use Rattle.std.proofs.Common.{◌≡◌, Bool, true, false, cond, List, [], ◌∷◌, Option, refl, sym, ap, subst}
use Rattle.fronts.proofs.Walks.{On}
use Rattle.sql_ast.specs.declared.pieces.Quote.{Quote}
use Rattle.sql_ast.specs.declared.pieces.Quote.TheVariants as quote
use Rattle.sql_ast.specs.declared.pieces.Mark.TheVariants as mark
use Rattle.sql_ast.specs.declared.pieces.Class.{Class}
use Rattle.sql_ast.specs.declared.pieces.Class.TheVariants as c
use Rattle.sql_ast.specs.declared.pieces.LiteralPrefix.{LiteralPrefix}
use Rattle.sql_ast.specs.declared.pieces.LiteralPrefix.TheVariants as prefix
use Rattle.sql_ast.specs.declared.pieces.Quotes.{Quotes}
use Rattle.sql_ast.specs.declared.pieces.Quotes.TheVariants as quotes
use Rattle.sql_ast.specs.declared.pieces.Shape.{Shape}
use Rattle.sql_ast.specs.declared.pieces.Shape.TheVariants as s
use Rattle.sql_ast.specs.Classes.{closes, same_quote, is_backslash, is_star, is_slash}
use Rattle.sql_ast.specs.Forms.{Inner, Rest, Tripled, Quoted, Line, Block, Form}
use Rattle.sql_lexer.specs.declared.machine.State.{State}
use Rattle.sql_lexer.specs.declared.machine.State.TheVariants as t
use Rattle.sql_lexer.specs.Machine.{is_letter_r, is_letter_b, is_minus}

-- a rest of this kind, of a piece of this shape
pub data Of (L : List Class → Type 0) (a : Shape) : Shape → List Class → Type 0 where
  of : {u : List Class} → L u → Of L a a u

-- a rest of a literal, which may have one quote or three
pub data Literal (p : LiteralPrefix) (L : Quotes → List Class → Type 0) : Shape → List Class → Type 0 where
  literal : {n : Quotes} {u : List Class} → L n u → Literal p L (s.Literal p n) u

-- nothing
pub data Empty : List Class → Type 0 where
  empty : Empty []

-- the rest behind the letters of both prefixes
pub data Behind : Shape → List Class → Type 0 where
  behind_word : {u : List Class} → Inner u → Behind s.Word u
  behind_literal : {n : Quotes} {u : List Class} → Quoted n u → Behind (s.Literal prefix.RawBytes n) u

abbrev pub mark_of : Quote → Class
mark_of q = c.Mark (mark.Quote q)

abbrev pub Left : State → Shape → List Class → Type 0
Left t.Start a u = Form a u
Left t.Word a u = Of Inner s.Word a u
Left t.Integer a u = Of Inner s.Integer a u
Left t.LetterR a u = Form a (c.LetterR ∷ u)
Left t.LetterB a u = Form a (c.LetterB ∷ u)
Left t.BothLetters a u = Behind a u
Left (t.Opened q p) a u = Literal p (λ n v. Quoted n (mark_of q ∷ v)) a u
Left (t.Twice q p) a u = Literal p (λ n v. Quoted n (mark_of q ∷ mark_of q ∷ v)) a u
Left (t.Within m shape) a u = Of (Rest m) shape a u
Left (t.Escape m shape) a u = Of (λ v. Rest m (c.Backslash ∷ v)) shape a u
Left (t.Triple q p) a u = Of (Tripled q) (s.Literal p quotes.Three) a u
Left (t.TripleOne q p) a u = Of (λ v. Tripled q (mark_of q ∷ v)) (s.Literal p quotes.Three) a u
Left (t.TripleTwo q p) a u = Of (λ v. Tripled q (mark_of q ∷ mark_of q ∷ v)) (s.Literal p quotes.Three) a u
Left (t.TripleEscape q p) a u = Of (λ v. Tripled q (c.Backslash ∷ v)) (s.Literal p quotes.Three) a u
Left t.At a u = Form a (c.At ∷ u)
Left t.Parameter a u = Of Inner s.Parameter a u
Left t.Minus a u = Form a (c.Minus ∷ u)
Left t.Less a u = Form a (c.Less ∷ u)
Left t.Greater a u = Form a (c.Greater ∷ u)
Left t.Bar a u = Form a (c.Bar ∷ u)
Left t.Bang a u = Form a (c.Bang ∷ u)
Left t.Line a u = Of Line s.Gap a u
Left t.Slash a u = Form a (c.Slash ∷ u)
Left t.Block a u = Of Block s.Gap a u
Left t.BlockStar a u = Of (λ v. Block (c.Star ∷ v)) s.Gap a u
Left (t.Closed b) a u = Of Empty b a u

-- this is left at the next state, if there is one
abbrev pub Next : Shape → List Class → Option State → Type 0
Next a u o = On (λ t. Left t a u) o

-- ---- tests

pub on_true : {b : Bool} (a : Shape) (u : List Class) (o p : Option State) → b ≡ true → Next a u o → Next a u (cond b o p)
on_true a u o p e h = subst (λ (v : Bool). Next a u (cond v o p)) (sym e) h

pub on_false : {b : Bool} (a : Shape) (u : List Class) (o p : Option State) → b ≡ false → Next a u p → Next a u (cond b o p)
on_false a u o p e h = subst (λ (v : Bool). Next a u (cond v o p)) (sym e) h

-- what holds by both ways of a test
pub by_test : {G : Type 0} (a : Shape) (u : List Class) (b : Bool) (o p : Option State) → (b ≡ true → Next a u o → G) → (b ≡ false → Next a u p → G) → Next a u (cond b o p) → G
by_test a u true o p f g h = f refl h
by_test a u false o p f g h = g refl h

pub both : (a : Shape) (u : List Class) (b : Bool) (o p : Option State) → (b ≡ true → Next a u o) → (b ≡ false → Next a u p) → Next a u (cond b o p)
both a u true o p f g = f refl
both a u false o p f g = g refl

-- ---- classes that a test tells

pub is_b : (x : Class) → is_letter_b x ≡ true → x ≡ c.LetterB
is_b c.LetterB e = refl
is_b _ e = cc

pub is_r : (x : Class) → is_letter_r x ≡ true → x ≡ c.LetterR
is_r c.LetterR e = refl
is_r _ e = cc

pub is_the_backslash : (x : Class) → is_backslash x ≡ true → x ≡ c.Backslash
is_the_backslash c.Backslash e = refl
is_the_backslash _ e = cc

pub is_the_star : (x : Class) → is_star x ≡ true → x ≡ c.Star
is_the_star c.Star e = refl
is_the_star _ e = cc

pub is_the_slash : (x : Class) → is_slash x ≡ true → x ≡ c.Slash
is_the_slash c.Slash e = refl
is_the_slash _ e = cc

pub is_the_minus : (x : Class) → is_minus x ≡ true → x ≡ c.Minus
is_the_minus c.Minus e = refl
is_the_minus _ e = cc

same_quote_is : (x y : Quote) → same_quote x y ≡ true → y ≡ x
same_quote_is quote.Single quote.Single e = refl
same_quote_is quote.Double quote.Double e = refl
same_quote_is quote.Single quote.Double e = cc
same_quote_is quote.Double quote.Single e = cc

pub quote_self : (x : Quote) → same_quote x x ≡ true
quote_self quote.Single = refl
quote_self quote.Double = refl

pub is_the_quote : (x : Quote) (y : Class) → closes (mark.Quote x) y ≡ true → y ≡ mark_of x
is_the_quote x (c.Mark (mark.Quote y)) e = ap mark_of (same_quote_is x y e)
is_the_quote x (c.Mark mark.Backquote) e = cc
is_the_quote x _ e = cc

pub is_the_backquote : (y : Class) → closes mark.Backquote y ≡ true → y ≡ c.Mark mark.Backquote
is_the_backquote (c.Mark mark.Backquote) e = refl
is_the_backquote (c.Mark (mark.Quote q)) e = cc
is_the_backquote _ e = cc
