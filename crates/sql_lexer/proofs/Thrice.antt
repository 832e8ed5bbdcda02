-- Within three quotes.
use Rattle.std.proofs.Common.{◌≡◌, true, false, cond, List, ◌∷◌, Option, Some, sym, subst}
use Rattle.sql_ast.specs.declared.pieces.Quote.{Quote}
use Rattle.sql_ast.specs.declared.pieces.Mark.TheVariants as mark
use Rattle.sql_ast.specs.declared.pieces.Class.{Class}
use Rattle.sql_ast.specs.declared.pieces.Class.TheVariants as c
use Rattle.sql_ast.specs.declared.pieces.LiteralPrefix.{LiteralPrefix}
use Rattle.sql_ast.specs.declared.pieces.Quotes.TheVariants as quotes
use Rattle.sql_ast.specs.declared.pieces.Shape.{Shape}
use Rattle.sql_ast.specs.declared.pieces.Shape.TheVariants as s
use Rattle.sql_ast.specs.Classes.{closes, is_backslash}
use Rattle.sql_ast.specs.Forms.{Tripled, tripled_end, tripled_escape, tripled_more, tripled_one, tripled_two}
use Rattle.sql_lexer.specs.declared.machine.State.{State}
use Rattle.sql_lexer.specs.declared.machine.State.TheVariants as t
use Rattle.sql_lexer.specs.Machine.{thrice}
use Rattle.sql_lexer.proofs.Left.{Of, of, Empty, empty, mark_of, Next, on_true, on_false, by_test, both, is_the_backslash, quote_self, is_the_quote}

-- ---- what a quote has behind it that is none

module _ (q : Quote) (x : Class) where
  one_other : (u : List Class) → closes (mark.Quote q) x ≡ false → Tripled q (mark_of q ∷ x ∷ u) → Tripled q (x ∷ u)
  one_other _ h (tripled_end a b d) = absurd (cc)
  one_other u h (tripled_more a b r) = r
  one_other u h (tripled_one a b r) = r
  one_other _ h (tripled_two a b d r) = absurd (cc)

  two_other : (u : List Class) → closes (mark.Quote q) x ≡ false → Tripled q (mark_of q ∷ mark_of q ∷ x ∷ u) → Tripled q (x ∷ u)
  two_other _ h (tripled_end a b d) = absurd (cc)
  two_other u h (tripled_more a b r) = absurd (let e = quote_self q in cc)
  two_other u h (tripled_one a b r) = absurd (let e = quote_self q in cc)
  two_other u h (tripled_two a b d r) = r

  other_one : (u : List Class) → closes (mark.Quote q) x ≡ false → Tripled q (x ∷ u) → Tripled q (mark_of q ∷ x ∷ u)
  other_one u h r = tripled_one (quote_self q) h r

  other_two : (u : List Class) → closes (mark.Quote q) x ≡ false → Tripled q (x ∷ u) → Tripled q (mark_of q ∷ mark_of q ∷ x ∷ u)
  other_two u h r = tripled_two (quote_self q) (quote_self q) h r

-- ---- the states

module _ (q : Quote) (p : LiteralPrefix) where
  abbrev shape : Shape
  shape = s.Literal p quotes.Three

  abbrev One : List Class → Type 0
  One v = Tripled q (mark_of q ∷ v)

  abbrev Two : List Class → Type 0
  Two v = Tripled q (mark_of q ∷ mark_of q ∷ v)

  same_quote_first : (x : Class) (u : List Class) → closes (mark.Quote q) x ≡ true → Tripled q (x ∷ u) → Tripled q (mark_of q ∷ u)
  same_quote_first x u h r = subst (λ (y : Class). Tripled q (y ∷ u)) (is_the_quote q x h) r

  pub forth_triple : (x : Class) (a : Shape) (u : List Class) → Of (Tripled q) shape a (x ∷ u) → Next a u (thrice q p (t.TripleOne q p) x)
  forth_triple x _ u (of (tripled_end h k l)) = on_true shape u _ _ h (of (same_quote_first x u h (tripled_end h k l)))
  forth_triple _ _ u (of (tripled_escape r)) = of (tripled_escape r)
  forth_triple x _ u (of (tripled_more h k r)) = on_false shape u _ _ h (on_false shape u _ _ k (of r))
  forth_triple x _ u (of (tripled_one h k r)) = on_true shape u _ _ h (of (same_quote_first x u h (tripled_one h k r)))
  forth_triple x _ u (of (tripled_two h k l r)) = on_true shape u _ _ h (of (same_quote_first x u h (tripled_two h k l r)))

  triple_one : (x : Class) (a : Shape) (u : List Class) → closes (mark.Quote q) x ≡ true → Of One shape a u → Of (Tripled q) shape a (x ∷ u)
  triple_one x _ u h (of r) = of (subst (λ (y : Class). Tripled q (y ∷ u)) (sym (is_the_quote q x h)) r)

  triple_escape : (x : Class) (a : Shape) (u : List Class) → is_backslash x ≡ true → Of (λ v. Tripled q (c.Backslash ∷ v)) shape a u → Of (Tripled q) shape a (x ∷ u)
  triple_escape x _ u h (of r) = of (subst (λ (y : Class). Tripled q (y ∷ u)) (sym (is_the_backslash x h)) r)

  triple_more : (x : Class) (a : Shape) (u : List Class) → closes (mark.Quote q) x ≡ false → is_backslash x ≡ false → Of (Tripled q) shape a u → Of (Tripled q) shape a (x ∷ u)
  triple_more x _ u h k (of r) = of (tripled_more h k r)

  -- the other bytes go on as before the quotes
  abbrev other : Class → Option State
  other x = cond (is_backslash x) (Some (t.TripleEscape q p)) (Some (t.Triple q p))

  forth_other : (x : Class) (u : List Class) → closes (mark.Quote q) x ≡ false → Tripled q (x ∷ u) → Next shape u (other x)
  forth_other x _ n (tripled_end h k l) = absurd (cc)
  forth_other _ u n (tripled_escape r) = of (tripled_escape r)
  forth_other x u n (tripled_more h k r) = on_false shape u _ _ k (of r)
  forth_other x _ n (tripled_one h k r) = absurd (cc)
  forth_other x _ n (tripled_two h k l r) = absurd (cc)

  back_other : (x : Class) (a : Shape) (u : List Class) → closes (mark.Quote q) x ≡ false → Next a u (other x) → Of (Tripled q) shape a (x ∷ u)
  back_other x a u h = by_test a u (is_backslash x) _ _ (λ k r. triple_escape x a u k r) (λ k r. triple_more x a u h k r)

  pub back_triple : (x : Class) (a : Shape) (u : List Class) → Next a u (thrice q p (t.TripleOne q p) x) → Of (Tripled q) shape a (x ∷ u)
  back_triple x a u = by_test a u (closes (mark.Quote q) x) _ _ (λ h r. triple_one x a u h r) (λ h r. back_other x a u h r)

  pub forth_one : (x : Class) (a : Shape) (u : List Class) → Of One shape a (x ∷ u) → Next a u (thrice q p (t.TripleTwo q p) x)
  forth_one x _ u (of r) = both shape u (closes (mark.Quote q) x) _ _
      (λ h. of (subst (λ (y : Class). Tripled q (mark_of q ∷ y ∷ u)) (is_the_quote q x h) r)) (λ h. forth_other x u h (one_other q x u h r))

  one_two : (x : Class) (a : Shape) (u : List Class) → closes (mark.Quote q) x ≡ true → Of Two shape a u → Of One shape a (x ∷ u)
  one_two x _ u h (of r) = of (subst (λ (y : Class). Tripled q (mark_of q ∷ y ∷ u)) (sym (is_the_quote q x h)) r)

  one_back : (x : Class) (a : Shape) (u : List Class) → closes (mark.Quote q) x ≡ false → Of (Tripled q) shape a (x ∷ u) → Of One shape a (x ∷ u)
  one_back x _ u h (of r) = of (other_one q x u h r)

  pub back_one : (x : Class) (a : Shape) (u : List Class) → Next a u (thrice q p (t.TripleTwo q p) x) → Of One shape a (x ∷ u)
  back_one x a u = by_test a u (closes (mark.Quote q) x) _ _ (λ h r. one_two x a u h r) (λ h r. one_back x a u h (back_other x a u h r))

  closed_two : (x : Class) (u : List Class) → closes (mark.Quote q) x ≡ true → Tripled q (mark_of q ∷ mark_of q ∷ x ∷ u) → Of Empty shape shape u
  closed_two x _ h (tripled_end a b d) = of empty
  closed_two x u h (tripled_more a b r) = absurd (let e = quote_self q in cc)
  closed_two x u h (tripled_one a b r) = absurd (let e = quote_self q in cc)
  closed_two x u h (tripled_two a b d r) = absurd (cc)

  pub forth_two : (x : Class) (a : Shape) (u : List Class) → Of Two shape a (x ∷ u) → Next a u (thrice q p (t.Closed shape) x)
  forth_two x _ u (of r) = both shape u (closes (mark.Quote q) x) _ _ (λ h. closed_two x u h r) (λ h. forth_other x u h (two_other q x u h r))

  two_closed : (x : Class) (a : Shape) (u : List Class) → closes (mark.Quote q) x ≡ true → Of Empty shape a u → Of Two shape a (x ∷ u)
  two_closed x _ _ h (of empty) = of (tripled_end (quote_self q) (quote_self q) h)

  two_back : (x : Class) (a : Shape) (u : List Class) → closes (mark.Quote q) x ≡ false → Of (Tripled q) shape a (x ∷ u) → Of Two shape a (x ∷ u)
  two_back x _ u h (of r) = of (other_two q x u h r)

  pub back_two : (x : Class) (a : Shape) (u : List Class) → Next a u (thrice q p (t.Closed shape) x) → Of Two shape a (x ∷ u)
  back_two x a u = by_test a u (closes (mark.Quote q) x) _ _ (λ h r. two_closed x a u h r) (λ h r. two_back x a u h (back_other x a u h r))

  pub forth_triple_escape : (x : Class) (a : Shape) (u : List Class) → Of (λ v. Tripled q (c.Backslash ∷ v)) shape a (x ∷ u) → Of (Tripled q) shape a u
  forth_triple_escape x _ u (of (tripled_escape r)) = of r
  forth_triple_escape x _ u (of (tripled_more h k r)) = absurd (cc)
  forth_triple_escape x _ _ (of (tripled_end h k l)) = absurd (cc)
  forth_triple_escape x _ _ (of (tripled_one h k r)) = absurd (cc)
  forth_triple_escape x _ _ (of (tripled_two h k l r)) = absurd (cc)

  pub back_triple_escape : (x : Class) (a : Shape) (u : List Class) → Of (Tripled q) shape a u → Of (λ v. Tripled q (c.Backslash ∷ v)) shape a (x ∷ u)
  back_triple_escape x _ u (of r) = of (tripled_escape r)
