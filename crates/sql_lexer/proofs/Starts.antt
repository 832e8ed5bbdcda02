-- The start of a piece, words, and the letters that may stand before a literal.
use Rattle.std.proofs.Common.{◌≡◌, true, cond, List, [], ◌∷◌, Some, None, refl, sym, subst}
use Rattle.sql_ast.specs.declared.pieces.Mark.TheVariants as mark
use Rattle.sql_ast.specs.declared.pieces.Class.{Class}
use Rattle.sql_ast.specs.declared.pieces.Class.TheVariants as c
use Rattle.sql_ast.specs.declared.pieces.LiteralPrefix.{LiteralPrefix}
use Rattle.sql_ast.specs.declared.pieces.LiteralPrefix.TheVariants as prefix
use Rattle.sql_ast.specs.declared.pieces.Shape.{Shape}
use Rattle.sql_ast.specs.declared.pieces.Shape.TheVariants as s
use Rattle.sql_ast.specs.Classes.{is_letter, is_inner, closes, is_blank, is_single, is_pair}
use Rattle.sql_ast.specs.Forms.{Inner, inner_more, Rest, Quoted, quoted_once, quoted_thrice, Form, form_word, form_integer, form_quoted_name, form_plain, form_raw, form_bytes, form_raw_bytes, form_bytes_raw, form_parameter, form_quoted_parameter, form_single, form_pair, form_blank, form_dashes, form_hash, form_block}
use Rattle.sql_lexer.specs.declared.machine.State.{State}
use Rattle.sql_lexer.specs.declared.machine.State.TheVariants as t
use Rattle.sql_lexer.specs.Machine.{start, opened, is_letter_r, is_letter_b, step}
use Rattle.sql_lexer.proofs.Left.{Of, of, Literal, literal, empty, Behind, behind_word, behind_literal, Left, Next, on_true, by_test, both, is_b, is_r, is_the_backquote}

-- ---- the start

word_start : (x : Class) (u : List Class) → is_letter x ≡ true → Inner u → Next s.Word u (start x)
word_start c.LetterR u h i = form_word refl i
word_start c.LetterB u h i = form_word refl i
word_start c.Letter u h i = of i
word_start _ u h i = absurd (cc)

single_start : (x : Class) → is_single x ≡ true → Next s.Sign [] (start x)
single_start c.Sign h = of empty
single_start c.Star h = of empty
single_start c.Equal h = of empty
single_start c.Minus h = form_single refl
single_start c.Less h = form_single refl
single_start c.Greater h = form_single refl
single_start c.Bar h = form_single refl
single_start _ h = absurd (cc)

pair_start : (x y : Class) → is_pair x y ≡ true → Next s.Sign (y ∷ []) (start x)
pair_start c.Minus y h = form_pair h
pair_start c.Less y h = form_pair h
pair_start c.Greater y h = form_pair h
pair_start c.Bar y h = form_pair h
pair_start c.Bang y h = form_pair h
pair_start _ y h = absurd (cc)

blank_start : (x : Class) → is_blank x ≡ true → Next s.Gap [] (start x)
blank_start c.Space h = of empty
blank_start c.LineBreak h = of empty
blank_start _ h = absurd (cc)

pub forth_start : (x : Class) (a : Shape) (u : List Class) → Form a (x ∷ u) → Next a u (start x)
forth_start _ _ _ (form_word h i) = word_start _ _ h i
forth_start _ _ _ (form_integer i) = of i
forth_start _ _ _ (form_quoted_name r) = of r
forth_start _ _ _ (form_plain (quoted_once r)) = literal (quoted_once r)
forth_start _ _ _ (form_plain (quoted_thrice r)) = literal (quoted_thrice r)
forth_start _ _ _ (form_raw l) = form_raw l
forth_start _ _ _ (form_bytes l) = form_bytes l
forth_start _ _ _ (form_raw_bytes l) = form_raw_bytes l
forth_start _ _ _ (form_bytes_raw l) = form_bytes_raw l
forth_start _ _ _ (form_parameter h i) = form_parameter h i
forth_start _ _ _ (form_quoted_parameter r) = form_quoted_parameter r
forth_start _ _ _ (form_single h) = single_start _ h
forth_start _ _ _ (form_pair h) = pair_start _ _ h
forth_start _ _ _ (form_blank h) = blank_start _ h
forth_start _ _ _ (form_dashes l) = form_dashes l
forth_start _ _ _ (form_hash l) = of l
forth_start _ _ _ (form_block b) = form_block b

pub back_start : (x : Class) (a : Shape) (u : List Class) → Next a u (start x) → Form a (x ∷ u)
back_start c.LetterR a u h = h
back_start c.LetterB a u h = h
back_start c.Letter _ _ (of i) = form_word refl i
back_start c.Digit _ _ (of i) = form_integer i
back_start c.LineBreak _ _ (of empty) = form_blank refl
back_start c.Space _ _ (of empty) = form_blank refl
back_start (c.Mark (mark.Quote q)) _ _ (literal l) = form_plain l
back_start (c.Mark mark.Backquote) _ _ (of r) = form_quoted_name r
back_start c.Backslash a u h = absurd h
back_start c.Star _ _ (of empty) = form_single refl
back_start c.Slash a u h = h
back_start c.Hash _ _ (of l) = form_hash l
back_start c.Minus a u h = h
back_start c.Less a u h = h
back_start c.Equal _ _ (of empty) = form_single refl
back_start c.Greater a u h = h
back_start c.Bar a u h = h
back_start c.Bang a u h = h
back_start c.At a u h = h
back_start c.Sign _ _ (of empty) = form_single refl
back_start c.Other a u h = absurd h

-- ---- words, numbers and parameters

pub forth_inner : (shape : Shape) (state : State) (x : Class) (a : Shape) (u : List Class) → ((v : List Class) → Inner v → Left state shape v) → Of Inner shape a (x ∷ u) → Next a u (cond (is_inner x) (Some state) None)
forth_inner shape state x _ u f (of (inner_more i n)) = on_true shape u (Some state) None i (f u n)

inner_one : (shape : Shape) (x : Class) (a : Shape) (u : List Class) → is_inner x ≡ true → Of Inner shape a u → Of Inner shape a (x ∷ u)
inner_one shape x _ u i (of n) = of (inner_more i n)

pub back_inner : (shape : Shape) (state : State) (x : Class) (a : Shape) (u : List Class) → (Left state a u → Of Inner shape a u) → Next a u (cond (is_inner x) (Some state) None) → Of Inner shape a (x ∷ u)
back_inner shape state x a u f = by_test a u (is_inner x) (Some state) None (λ i h. inner_one shape x a u i (f h)) (λ i h. absurd h)

pub forth_at : (x : Class) (a : Shape) (u : List Class) → Form a (c.At ∷ x ∷ u) → Next a u (step t.At x)
unfolding step
forth_at x _ _ (form_word h i) = absurd (cc)
forth_at x _ _ (form_plain l) = elim l [ ]
forth_at x _ u (form_parameter h i) = on_true _ u _ _ h (of i)
forth_at _ _ _ (form_quoted_parameter r) = of r
forth_at x _ _ (form_pair h) = absurd (cc)

at_letter : (x : Class) (a : Shape) (u : List Class) → is_letter x ≡ true → Of Inner s.Parameter a u → Form a (c.At ∷ x ∷ u)
at_letter x _ u h (of i) = form_parameter h i

at_backquote : (x : Class) (a : Shape) (u : List Class) → closes mark.Backquote x ≡ true → Of (Rest mark.Backquote) s.QuotedParameter a u → Form a (c.At ∷ x ∷ u)
at_backquote x _ u h (of r) = subst (λ (y : Class). Form s.QuotedParameter (c.At ∷ y ∷ u)) (sym (is_the_backquote x h)) (form_quoted_parameter r)

pub back_at : (x : Class) (a : Shape) (u : List Class) → Next a u (step t.At x) → Form a (c.At ∷ x ∷ u)
unfolding step
back_at x a u = by_test a u (is_letter x) _ _ (λ h r. at_letter x a u h r) (λ h. by_test a u (closes mark.Backquote x) _ _ (λ k r. at_backquote x a u k r) (λ k r. absurd r))

-- ---- letters that may stand before a literal

behind_opened : (p : LiteralPrefix) (x : Class) (a : Shape) (u : List Class) → Next a u (opened p x) → Literal p (λ n v. Quoted n v) a (x ∷ u)
behind_opened p (c.Mark (mark.Quote q)) _ _ (literal l) = literal l
behind_opened p _ a u h = absurd h

pub forth_letter_r : (x : Class) (a : Shape) (u : List Class) → Form a (c.LetterR ∷ x ∷ u) → Next a u (step t.LetterR x)
unfolding step
forth_letter_r x _ u (form_word h (inner_more i n)) = on_true s.Word u _ _ i (both s.Word u (is_letter_b x) _ _ (λ _. behind_word n) (λ _. of n))
forth_letter_r _ _ _ (form_plain l) = elim l [ ]
forth_letter_r _ _ _ (form_raw (quoted_once r)) = literal (quoted_once r)
forth_letter_r _ _ _ (form_raw (quoted_thrice r)) = literal (quoted_thrice r)
forth_letter_r _ _ _ (form_raw_bytes l) = behind_literal l
forth_letter_r _ _ _ (form_pair h) = absurd (cc)

r_both : (x : Class) (a : Shape) (u : List Class) → is_inner x ≡ true → is_letter_b x ≡ true → Behind a u → Form a (c.LetterR ∷ x ∷ u)
r_both x _ u i e (behind_word n) = form_word refl (inner_more i n)
r_both x _ u i e (behind_literal {n = n} l) = subst (λ (y : Class). Form (s.Literal prefix.RawBytes n) (c.LetterR ∷ y ∷ u)) (sym (is_b x e)) (form_raw_bytes l)

r_word : (x : Class) (a : Shape) (u : List Class) → is_inner x ≡ true → Of Inner s.Word a u → Form a (c.LetterR ∷ x ∷ u)
r_word x _ u i (of n) = form_word refl (inner_more i n)

r_literal : (a : Shape) (u : List Class) → Literal prefix.Raw (λ n v. Quoted n v) a u → Form a (c.LetterR ∷ u)
r_literal _ _ (literal l) = form_raw l

pub back_letter_r : (x : Class) (a : Shape) (u : List Class) → Next a u (step t.LetterR x) → Form a (c.LetterR ∷ x ∷ u)
unfolding step
back_letter_r x a u = by_test a u (is_inner x) _ _ (λ i. by_test a u (is_letter_b x) _ _ (λ e h. r_both x a u i e h) (λ e h. r_word x a u i h)) (λ i h. r_literal a (x ∷ u) (behind_opened prefix.Raw x a u h))

pub forth_letter_b : (x : Class) (a : Shape) (u : List Class) → Form a (c.LetterB ∷ x ∷ u) → Next a u (step t.LetterB x)
unfolding step
forth_letter_b x _ u (form_word h (inner_more i n)) = on_true s.Word u _ _ i (both s.Word u (is_letter_r x) _ _ (λ _. behind_word n) (λ _. of n))
forth_letter_b _ _ _ (form_plain l) = elim l [ ]
forth_letter_b _ _ _ (form_bytes (quoted_once r)) = literal (quoted_once r)
forth_letter_b _ _ _ (form_bytes (quoted_thrice r)) = literal (quoted_thrice r)
forth_letter_b _ _ _ (form_bytes_raw l) = behind_literal l
forth_letter_b _ _ _ (form_pair h) = absurd (cc)

b_both : (x : Class) (a : Shape) (u : List Class) → is_inner x ≡ true → is_letter_r x ≡ true → Behind a u → Form a (c.LetterB ∷ x ∷ u)
b_both x _ u i e (behind_word n) = form_word refl (inner_more i n)
b_both x _ u i e (behind_literal {n = n} l) = subst (λ (y : Class). Form (s.Literal prefix.RawBytes n) (c.LetterB ∷ y ∷ u)) (sym (is_r x e)) (form_bytes_raw l)

b_word : (x : Class) (a : Shape) (u : List Class) → is_inner x ≡ true → Of Inner s.Word a u → Form a (c.LetterB ∷ x ∷ u)
b_word x _ u i (of n) = form_word refl (inner_more i n)

b_literal : (a : Shape) (u : List Class) → Literal prefix.Bytes (λ n v. Quoted n v) a u → Form a (c.LetterB ∷ u)
b_literal _ _ (literal l) = form_bytes l

pub back_letter_b : (x : Class) (a : Shape) (u : List Class) → Next a u (step t.LetterB x) → Form a (c.LetterB ∷ x ∷ u)
unfolding step
back_letter_b x a u = by_test a u (is_inner x) _ _ (λ i. by_test a u (is_letter_r x) _ _ (λ e h. b_both x a u i e h) (λ e h. b_word x a u i h)) (λ i h. b_literal a (x ∷ u) (behind_opened prefix.Bytes x a u h))

pub forth_both : (x : Class) (a : Shape) (u : List Class) → Behind a (x ∷ u) → Next a u (step t.BothLetters x)
unfolding step
forth_both x _ u (behind_word (inner_more i n)) = on_true s.Word u _ _ i (of n)
forth_both _ _ _ (behind_literal (quoted_once r)) = literal (quoted_once r)
forth_both _ _ _ (behind_literal (quoted_thrice r)) = literal (quoted_thrice r)

both_word : (x : Class) (a : Shape) (u : List Class) → is_inner x ≡ true → Of Inner s.Word a u → Behind a (x ∷ u)
both_word x _ u i (of n) = behind_word (inner_more i n)

both_literal : (a : Shape) (u : List Class) → Literal prefix.RawBytes (λ n v. Quoted n v) a u → Behind a u
both_literal _ _ (literal l) = behind_literal l

pub back_both : (x : Class) (a : Shape) (u : List Class) → Next a u (step t.BothLetters x) → Behind a (x ∷ u)
unfolding step
back_both x a u = by_test a u (is_inner x) _ _ (λ i h. both_word x a u i h) (λ i h. both_literal a (x ∷ u) (behind_opened prefix.RawBytes x a u h))
