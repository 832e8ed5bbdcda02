-- Signs of one or two bytes, and comments.
use Rattle.std.proofs.Common.{◌≡◌, true, false, cond, List, [], ◌∷◌, Some, None, sym, subst}
use Rattle.sql_ast.specs.declared.pieces.Class.{Class}
use Rattle.sql_ast.specs.declared.pieces.Class.TheVariants as c
use Rattle.sql_ast.specs.declared.pieces.Shape.{Shape}
use Rattle.sql_ast.specs.declared.pieces.Shape.TheVariants as s
use Rattle.sql_ast.specs.Classes.{is_line_break, is_star, is_slash, is_pair, is_after_less, is_equal, is_greater, is_bar}
use Rattle.sql_ast.specs.Forms.{Line, line_more, Block, block_end, block_star, block_more, Form, form_word, form_plain, form_pair, form_dashes, form_block}
use Rattle.sql_lexer.specs.declared.machine.State.TheVariants as t
use Rattle.sql_lexer.specs.Machine.{in_block, is_minus, step}
use Rattle.sql_lexer.proofs.Left.{Of, of, Empty, empty, Next, on_true, on_false, by_test, both, is_the_star, is_the_slash, is_the_minus}

-- ---- signs

pair_end : (x y : Class) (a : Shape) (u : List Class) → is_pair x y ≡ true → Of Empty s.Sign a u → Form a (x ∷ y ∷ u)
pair_end x y _ _ h (of empty) = form_pair h

pub forth_minus : (x : Class) (a : Shape) (u : List Class) → Form a (c.Minus ∷ x ∷ u) → Next a u (step t.Minus x)
unfolding step
forth_minus x _ _ (form_word h i) = absurd (cc)
forth_minus x _ _ (form_plain l) = elim l [ ]
forth_minus x _ _ (form_pair h) = both s.Sign [] (is_minus x) _ _ (λ e. absurd (subst (λ (y : Class). is_greater y ≡ true → ⊥) (sym (is_the_minus x e)) (λ k. cc) h)) (λ _. on_true s.Sign [] _ _ h (of empty))
forth_minus _ _ _ (form_dashes l) = of l

minus_line : (x : Class) (a : Shape) (u : List Class) → is_minus x ≡ true → Of Line s.Gap a u → Form a (c.Minus ∷ x ∷ u)
minus_line x _ u h (of l) = subst (λ (y : Class). Form s.Gap (c.Minus ∷ y ∷ u)) (sym (is_the_minus x h)) (form_dashes l)

pub back_minus : (x : Class) (a : Shape) (u : List Class) → Next a u (step t.Minus x) → Form a (c.Minus ∷ x ∷ u)
unfolding step
back_minus x a u = by_test a u (is_minus x) _ _ (λ h r. minus_line x a u h r) (λ h. by_test a u (is_greater x) _ _ (λ k r. pair_end c.Minus x a u k r) (λ k r. absurd r))

pub forth_less : (x : Class) (a : Shape) (u : List Class) → Form a (c.Less ∷ x ∷ u) → Next a u (step t.Less x)
unfolding step
forth_less x _ _ (form_word h i) = absurd (cc)
forth_less x _ _ (form_plain l) = elim l [ ]
forth_less x _ _ (form_pair h) = on_true s.Sign [] _ _ h (of empty)

pub back_less : (x : Class) (a : Shape) (u : List Class) → Next a u (step t.Less x) → Form a (c.Less ∷ x ∷ u)
unfolding step
back_less x a u = by_test a u (is_after_less x) _ _ (λ k r. pair_end c.Less x a u k r) (λ k r. absurd r)

pub forth_greater : (x : Class) (a : Shape) (u : List Class) → Form a (c.Greater ∷ x ∷ u) → Next a u (step t.Greater x)
unfolding step
forth_greater x _ _ (form_word h i) = absurd (cc)
forth_greater x _ _ (form_plain l) = elim l [ ]
forth_greater x _ _ (form_pair h) = on_true s.Sign [] _ _ h (of empty)

pub back_greater : (x : Class) (a : Shape) (u : List Class) → Next a u (step t.Greater x) → Form a (c.Greater ∷ x ∷ u)
unfolding step
back_greater x a u = by_test a u (is_equal x) _ _ (λ k r. pair_end c.Greater x a u k r) (λ k r. absurd r)

pub forth_bar : (x : Class) (a : Shape) (u : List Class) → Form a (c.Bar ∷ x ∷ u) → Next a u (step t.Bar x)
unfolding step
forth_bar x _ _ (form_word h i) = absurd (cc)
forth_bar x _ _ (form_plain l) = elim l [ ]
forth_bar x _ _ (form_pair h) = on_true s.Sign [] _ _ h (of empty)

pub back_bar : (x : Class) (a : Shape) (u : List Class) → Next a u (step t.Bar x) → Form a (c.Bar ∷ x ∷ u)
unfolding step
back_bar x a u = by_test a u (is_bar x) _ _ (λ k r. pair_end c.Bar x a u k r) (λ k r. absurd r)

pub forth_bang : (x : Class) (a : Shape) (u : List Class) → Form a (c.Bang ∷ x ∷ u) → Next a u (step t.Bang x)
unfolding step
forth_bang x _ _ (form_word h i) = absurd (cc)
forth_bang x _ _ (form_plain l) = elim l [ ]
forth_bang x _ _ (form_pair h) = on_true s.Sign [] _ _ h (of empty)

pub back_bang : (x : Class) (a : Shape) (u : List Class) → Next a u (step t.Bang x) → Form a (c.Bang ∷ x ∷ u)
unfolding step
back_bang x a u = by_test a u (is_equal x) _ _ (λ k r. pair_end c.Bang x a u k r) (λ k r. absurd r)

-- ---- comments

pub forth_slash : (x : Class) (a : Shape) (u : List Class) → Form a (c.Slash ∷ x ∷ u) → Next a u (step t.Slash x)
unfolding step
forth_slash x _ _ (form_word h i) = absurd (cc)
forth_slash x _ _ (form_plain l) = elim l [ ]
forth_slash x _ _ (form_pair h) = absurd (cc)
forth_slash _ _ _ (form_block b) = of b

slash_block : (x : Class) (a : Shape) (u : List Class) → is_star x ≡ true → Of Block s.Gap a u → Form a (c.Slash ∷ x ∷ u)
slash_block x _ u h (of l) = subst (λ (y : Class). Form s.Gap (c.Slash ∷ y ∷ u)) (sym (is_the_star x h)) (form_block l)

pub back_slash : (x : Class) (a : Shape) (u : List Class) → Next a u (step t.Slash x) → Form a (c.Slash ∷ x ∷ u)
unfolding step
back_slash x a u = by_test a u (is_star x) _ _ (λ k h. slash_block x a u k h) (λ k h. absurd h)

pub forth_line : (x : Class) (a : Shape) (u : List Class) → Of Line s.Gap a (x ∷ u) → Next a u (cond (is_line_break x) None (Some t.Line))
forth_line x _ u (of (line_more h l)) = on_false s.Gap u _ _ h (of l)

line_one : (x : Class) (a : Shape) (u : List Class) → is_line_break x ≡ false → Of Line s.Gap a u → Of Line s.Gap a (x ∷ u)
line_one x _ u h (of l) = of (line_more h l)

pub back_line : (x : Class) (a : Shape) (u : List Class) → Next a u (cond (is_line_break x) None (Some t.Line)) → Of Line s.Gap a (x ∷ u)
back_line x a u = by_test a u (is_line_break x) _ _ (λ k h. absurd h) (λ k h. line_one x a u k h)

pub forth_block : (x : Class) (a : Shape) (u : List Class) → Of Block s.Gap a (x ∷ u) → Next a u (in_block x)
forth_block _ _ _ (of block_end) = of block_end
forth_block _ _ _ (of (block_star h b)) = of (block_star h b)
forth_block x _ u (of (block_more h b)) = on_false s.Gap u _ _ h (of b)

block_at_star : (x : Class) (a : Shape) (u : List Class) → is_star x ≡ true → Of (λ v. Block (c.Star ∷ v)) s.Gap a u → Of Block s.Gap a (x ∷ u)
block_at_star x _ u h (of b) = of (subst (λ (y : Class). Block (y ∷ u)) (sym (is_the_star x h)) b)

block_one : (x : Class) (a : Shape) (u : List Class) → is_star x ≡ false → Of Block s.Gap a u → Of Block s.Gap a (x ∷ u)
block_one x _ u h (of b) = of (block_more h b)

pub back_block : (x : Class) (a : Shape) (u : List Class) → Next a u (in_block x) → Of Block s.Gap a (x ∷ u)
back_block x a u = by_test a u (is_star x) _ _ (λ h r. block_at_star x a u h r) (λ h r. block_one x a u h r)

star_other : (x : Class) (u : List Class) → is_slash x ≡ false → Block (c.Star ∷ x ∷ u) → Block (x ∷ u)
star_other _ _ h block_end = absurd (cc)
star_other x u h (block_star k b) = b
star_other x u h (block_more k b) = absurd (cc)

star_slash : (x : Class) (u : List Class) → is_slash x ≡ true → Block (c.Star ∷ x ∷ u) → Of Empty s.Gap s.Gap u
star_slash _ _ h block_end = of empty
star_slash x u h (block_star k b) = absurd (cc)
star_slash x u h (block_more k b) = absurd (cc)

pub forth_star : (x : Class) (a : Shape) (u : List Class) → Of (λ v. Block (c.Star ∷ v)) s.Gap a (x ∷ u) → Next a u (cond (is_slash x) (Some (t.Closed s.Gap)) (in_block x))
forth_star x _ u (of b) = both s.Gap u (is_slash x) _ _ (λ h. star_slash x u h b) (λ h. forth_block x s.Gap u (of (star_other x u h b)))

star_closed : (x : Class) (a : Shape) (u : List Class) → is_slash x ≡ true → Of Empty s.Gap a u → Of (λ v. Block (c.Star ∷ v)) s.Gap a (x ∷ u)
star_closed x _ _ h (of empty) = of (subst (λ (y : Class). Block (c.Star ∷ y ∷ [])) (sym (is_the_slash x h)) block_end)

star_back : (x : Class) (a : Shape) (u : List Class) → is_slash x ≡ false → Of Block s.Gap a (x ∷ u) → Of (λ v. Block (c.Star ∷ v)) s.Gap a (x ∷ u)
star_back x _ u h (of b) = of (block_star h b)

pub back_star : (x : Class) (a : Shape) (u : List Class) → Next a u (cond (is_slash x) (Some (t.Closed s.Gap)) (in_block x)) → Of (λ v. Block (c.Star ∷ v)) s.Gap a (x ∷ u)
back_star x a u = by_test a u (is_slash x) _ _ (λ h r. star_closed x a u h r) (λ h r. star_back x a u h (back_block x a u r))
