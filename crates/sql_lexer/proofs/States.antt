-- The machine: what is left at each state goes forth and back by each step.
use Rattle.std.proofs.Common.{◌≡◌, true, List, [], ◌∷◌, Some, refl, sym, ap}
use Rattle.fronts.proofs.Walks.{If, Machine}
use Rattle.sql_ast.specs.declared.pieces.Quote.{Quote}
use Rattle.sql_ast.specs.declared.pieces.Mark.{Mark}
use Rattle.sql_ast.specs.declared.pieces.Mark.TheVariants as mark
use Rattle.sql_ast.specs.declared.pieces.Class.{Class}
use Rattle.sql_ast.specs.declared.pieces.Class.TheVariants as c
use Rattle.sql_ast.specs.declared.pieces.Quotes.{Quotes}
use Rattle.sql_ast.specs.declared.pieces.Quotes.TheVariants as quotes
use Rattle.sql_ast.specs.declared.pieces.Shape.{Shape}
use Rattle.sql_ast.specs.declared.pieces.Shape.TheVariants as s
use Rattle.sql_ast.specs.Classes.{closes}
use Rattle.sql_ast.specs.Forms.{inner_none, rest_end, rest_escape, rest_more, Tripled, tripled_end, tripled_escape, tripled_more, tripled_one, Quoted, quoted_once, line_none, block_end, block_more, form_word, form_plain, form_raw, form_bytes, form_parameter, form_single, form_pair, form_blank, form_block}
use Rattle.sql_lexer.specs.declared.machine.State.{State}
use Rattle.sql_lexer.specs.declared.machine.State.TheVariants as t
use Rattle.sql_lexer.specs.Machine.{step, whole}
use Rattle.sql_lexer.proofs.Left.{Of, of, literal, Empty, empty, behind_word, behind_literal, mark_of, Left, Next, quote_self}
use Rattle.sql_lexer.proofs.Starts.{forth_start, back_start, forth_inner, back_inner, forth_at, back_at, forth_letter_r, back_letter_r, forth_letter_b, back_letter_b, forth_both, back_both}
use Rattle.sql_lexer.proofs.Enclosed.{forth_within, back_within, forth_escape, back_escape, forth_opened, back_opened, forth_twice, back_twice}
use Rattle.sql_lexer.proofs.Thrice.{forth_triple, back_triple, forth_one, back_one, forth_two, back_two, forth_triple_escape, back_triple_escape}
use Rattle.sql_lexer.proofs.Signs.{forth_minus, back_minus, forth_less, back_less, forth_greater, back_greater, forth_bar, back_bar, forth_bang, back_bang, forth_slash, back_slash, forth_line, back_line, forth_block, back_block, forth_star, back_star}

forth_closed : (b : Shape) (x : Class) (a : Shape) (u : List Class) → Of Empty b a (x ∷ u) → ⊥
forth_closed b x _ u (of e) = elim e [ ]

forth : (at : State) (x : Class) (a : Shape) (u : List Class) → Left at a (x ∷ u) → Next a u (step at x)
unfolding step
forth t.Start x a u h = forth_start x a u h
forth t.Word x a u h = forth_inner s.Word t.Word x a u (λ v n. of n) h
forth t.Integer x a u h = forth_inner s.Integer t.Integer x a u (λ v n. of n) h
forth t.LetterR x a u h = forth_letter_r x a u h
forth t.LetterB x a u h = forth_letter_b x a u h
forth t.BothLetters x a u h = forth_both x a u h
forth (t.Opened q p) x a u h = forth_opened q p x a u h
forth (t.Twice q p) x a u h = forth_twice q p x a u h
forth (t.Within m shape) x a u h = forth_within m shape x a u h
forth (t.Escape m shape) x a u h = forth_escape m shape x a u h
forth (t.Triple q p) x a u h = forth_triple q p x a u h
forth (t.TripleOne q p) x a u h = forth_one q p x a u h
forth (t.TripleTwo q p) x a u h = forth_two q p x a u h
forth (t.TripleEscape q p) x a u h = forth_triple_escape q p x a u h
forth t.At x a u h = forth_at x a u h
forth t.Parameter x a u h = forth_inner s.Parameter t.Parameter x a u (λ v n. of n) h
forth t.Minus x a u h = forth_minus x a u h
forth t.Less x a u h = forth_less x a u h
forth t.Greater x a u h = forth_greater x a u h
forth t.Bar x a u h = forth_bar x a u h
forth t.Bang x a u h = forth_bang x a u h
forth t.Line x a u h = forth_line x a u h
forth t.Slash x a u h = forth_slash x a u h
forth t.Block x a u h = forth_block x a u h
forth t.BlockStar x a u h = forth_star x a u h
forth (t.Closed b) x a u h = forth_closed b x a u h

back : (at : State) (x : Class) (a : Shape) (u : List Class) → Next a u (step at x) → Left at a (x ∷ u)
unfolding step
back t.Start x a u = back_start x a u
back t.Word x a u = back_inner s.Word t.Word x a u (λ h. h)
back t.Integer x a u = back_inner s.Integer t.Integer x a u (λ h. h)
back t.LetterR x a u = back_letter_r x a u
back t.LetterB x a u = back_letter_b x a u
back t.BothLetters x a u = back_both x a u
back (t.Opened q p) x a u = back_opened q p x a u
back (t.Twice q p) x a u = back_twice q p x a u
back (t.Within m shape) x a u = back_within m shape x a u
back (t.Escape m shape) x a u = back_escape m shape x a u
back (t.Triple q p) x a u = back_triple q p x a u
back (t.TripleOne q p) x a u = back_one q p x a u
back (t.TripleTwo q p) x a u = back_two q p x a u
back (t.TripleEscape q p) x a u = back_triple_escape q p x a u
back t.At x a u = back_at x a u
back t.Parameter x a u = back_inner s.Parameter t.Parameter x a u (λ h. h)
back t.Minus x a u = back_minus x a u
back t.Less x a u = back_less x a u
back t.Greater x a u = back_greater x a u
back t.Bar x a u = back_bar x a u
back t.Bang x a u = back_bang x a u
back t.Line x a u = back_line x a u
back t.Slash x a u = back_slash x a u
back t.Block x a u = back_block x a u
back t.BlockStar x a u = back_star x a u
back (t.Closed b) x a u = λ h. absurd h

-- ---- where a piece may end

backslash_no_mark : (m : Mark) → closes m c.Backslash ≡ true → ⊥
backslash_no_mark m h = cc

-- two quotes are a literal in one quote; with two names, so that no index stands twice
two_are_one : (q r : Quote) (n : Quotes) → Quoted n (mark_of q ∷ mark_of r ∷ []) → n ≡ quotes.One
two_are_one q r _ (quoted_once e) = refl

ends : (at : State) (a : Shape) → Left at a [] → whole at ≡ Some a
unfolding whole
ends t.Start _ (form_plain l) = elim l [ ]
ends t.Word _ (of n) = refl
ends t.Integer _ (of n) = refl
ends t.LetterR _ (form_word h n) = refl
ends t.LetterR _ (form_plain l) = elim l [ ]
ends t.LetterR _ (form_raw l) = elim l [ ]
ends t.LetterR _ (form_single h) = absurd (cc)
ends t.LetterR _ (form_blank h) = absurd (cc)
ends t.LetterB _ (form_word h n) = refl
ends t.LetterB _ (form_plain l) = elim l [ ]
ends t.LetterB _ (form_bytes l) = elim l [ ]
ends t.LetterB _ (form_single h) = absurd (cc)
ends t.LetterB _ (form_blank h) = absurd (cc)
ends t.BothLetters _ (behind_word n) = refl
ends t.BothLetters _ (behind_literal l) = elim l [ ]
ends (t.Opened q p) _ (literal (quoted_once r)) = elim r [ ]
ends (t.Twice q p) _ (literal {n = n} l) = ap (λ (k : Quotes). Some (s.Literal p k)) (sym (two_are_one q q n l))
ends (t.Within m shape) _ (of r) = elim r [ ]
ends (t.Escape m shape) _ (of (rest_end h)) = absurd (backslash_no_mark m h)
ends (t.Escape m shape) _ (of (rest_more h k l r)) = absurd (cc)
ends (t.Triple q p) _ (of r) = elim r [ ]
ends (t.TripleOne q p) _ (of (tripled_more h k r)) = elim r [ ]
ends (t.TripleTwo q p) _ (of (tripled_more h k r)) = absurd (let e = quote_self q in cc)
ends (t.TripleTwo q p) _ (of (tripled_one h k r)) = absurd (let e = quote_self q in cc)
ends (t.TripleEscape q p) _ (of (tripled_more h k r)) = absurd (cc)
ends t.At _ (form_word h n) = absurd (cc)
ends t.At _ (form_plain l) = elim l [ ]
ends t.At _ (form_single h) = absurd (cc)
ends t.At _ (form_blank h) = absurd (cc)
ends t.Parameter _ (of n) = refl
ends t.Minus _ (form_word h n) = absurd (cc)
ends t.Minus _ (form_plain l) = elim l [ ]
ends t.Minus _ (form_single h) = refl
ends t.Minus _ (form_blank h) = absurd (cc)
ends t.Less _ (form_word h n) = absurd (cc)
ends t.Less _ (form_plain l) = elim l [ ]
ends t.Less _ (form_single h) = refl
ends t.Less _ (form_blank h) = absurd (cc)
ends t.Greater _ (form_word h n) = absurd (cc)
ends t.Greater _ (form_plain l) = elim l [ ]
ends t.Greater _ (form_single h) = refl
ends t.Greater _ (form_blank h) = absurd (cc)
ends t.Bar _ (form_word h n) = absurd (cc)
ends t.Bar _ (form_plain l) = elim l [ ]
ends t.Bar _ (form_single h) = refl
ends t.Bar _ (form_blank h) = absurd (cc)
ends t.Bang _ (form_word h n) = absurd (cc)
ends t.Bang _ (form_plain l) = elim l [ ]
ends t.Bang _ (form_single h) = absurd (cc)
ends t.Bang _ (form_blank h) = absurd (cc)
ends t.Line _ (of l) = refl
ends t.Slash _ (form_word h n) = absurd (cc)
ends t.Slash _ (form_plain l) = elim l [ ]
ends t.Slash _ (form_single h) = absurd (cc)
ends t.Slash _ (form_blank h) = absurd (cc)
ends t.Block _ (of b) = elim b [ ]
ends t.BlockStar _ (of (block_more h b)) = absurd (cc)
ends (t.Closed b) _ (of e) = refl

ended : (at : State) → If (λ a. Left at a []) (whole at)
unfolding whole
ended t.Word = of inner_none
ended t.Integer = of inner_none
ended t.LetterR = form_word refl inner_none
ended t.LetterB = form_word refl inner_none
ended t.BothLetters = behind_word inner_none
ended (t.Twice q p) = literal (quoted_once (rest_end (quote_self q)))
ended t.Parameter = of inner_none
ended t.Minus = form_single refl
ended t.Less = form_single refl
ended t.Greater = form_single refl
ended t.Bar = form_single refl
ended t.Line = of line_none
ended (t.Closed b) = of empty
ended _ = tt

-- ---- each state has a way on

mark_closes : (m : Mark) → closes m (c.Mark m) ≡ true
mark_closes (mark.Quote q) = quote_self q
mark_closes mark.Backquote = refl

three : (q : Quote) → Tripled q (mark_of q ∷ mark_of q ∷ mark_of q ∷ [])
three q = tripled_end (quote_self q) (quote_self q) (quote_self q)

some : (at : State) → (a : Shape) × (u : List Class) × Left at a u
some t.Start = (s.Sign, c.Star ∷ [], form_single refl)
some t.Word = (s.Word, [], of inner_none)
some t.Integer = (s.Integer, [], of inner_none)
some t.LetterR = (s.Word, [], form_word refl inner_none)
some t.LetterB = (s.Word, [], form_word refl inner_none)
some t.BothLetters = (s.Word, [], behind_word inner_none)
some (t.Opened q p) = (s.Literal p quotes.One, mark_of q ∷ [], literal (quoted_once (rest_end (quote_self q))))
some (t.Twice q p) = (s.Literal p quotes.One, [], literal (quoted_once (rest_end (quote_self q))))
some (t.Within m shape) = (shape, c.Mark m ∷ [], of (rest_end (mark_closes m)))
some (t.Escape m shape) = (shape, c.Other ∷ c.Mark m ∷ [], of (rest_escape refl (rest_end (mark_closes m))))
some (t.Triple q p) = (s.Literal p quotes.Three, mark_of q ∷ mark_of q ∷ mark_of q ∷ [], of (three q))
some (t.TripleOne q p) = (s.Literal p quotes.Three, mark_of q ∷ mark_of q ∷ [], of (three q))
some (t.TripleTwo q p) = (s.Literal p quotes.Three, mark_of q ∷ [], of (three q))
some (t.TripleEscape q p) = (s.Literal p quotes.Three, c.Other ∷ mark_of q ∷ mark_of q ∷ mark_of q ∷ [], of (tripled_escape (three q)))
some t.At = (s.Parameter, c.Letter ∷ [], form_parameter refl inner_none)
some t.Parameter = (s.Parameter, [], of inner_none)
some t.Minus = (s.Sign, [], form_single refl)
some t.Less = (s.Sign, [], form_single refl)
some t.Greater = (s.Sign, [], form_single refl)
some t.Bar = (s.Sign, [], form_single refl)
some t.Bang = (s.Sign, c.Equal ∷ [], form_pair refl)
some t.Line = (s.Gap, [], of line_none)
some t.Slash = (s.Gap, c.Star ∷ c.Star ∷ c.Slash ∷ [], form_block block_end)
some t.Block = (s.Gap, c.Star ∷ c.Slash ∷ [], of block_end)
some t.BlockStar = (s.Gap, c.Slash ∷ [], of block_end)
some (t.Closed b) = (b, [], of empty)

pub machine : Machine step whole Left
machine = record { forth = forth; back = back; ends = ends; ended = ended; some = some }
