-- What goes on behind the first part of an expression is read: since the whole is, and the first part is.
use Rattle.std.proofs.Common.{◌≡◌, ℕ, suc, ◌<◌, ◌≤◌, Bool, false, [], ◌∷◌, ◌++◌, length, None, refl, sym, ◌∙◌, ap, arith}
use Rattle.std.proofs.lemmas.List.{append_assoc}
use Rattle.fronts.specs.Readers.{Outcome, taken, stuck, deep, ◌>>=◌, and_then, token, next}
use Rattle.sql_ast.specs.declared.expr.Expr.{Expr}
use Rattle.sql_ast.specs.declared.expr.Expr.TheVariants as e
use Rattle.sql_ast.specs.declared.expr.Part.{Part}
use Rattle.sql_names.specs.declared.words.Reserved.TheVariants as r
use Rattle.sql_ast.specs.declared.words.Sign.TheVariants as s
use Rattle.sql_ast.specs.declared.token.Token.{Token}
use Rattle.sql_ast.specs.Marks.{Tokens, Is, reserved, sign, start_of}
use Rattle.sql_ast.specs.Grammar.{ExprOf, BasicOf}
use Rattle.sql_grammar.specs.Ways.{Parser, Ended, place_of}
use Rattle.sql_grammar.specs.Classes.{class_of, BasicStart, basic_lexeme, no_basic, a_bracket, a_grouping, a_with}
use Rattle.sql_grammar.specs.Exprs.{Below, grouped, bracketed, grouping, with_body, with_expr, enclosed, group, basic_by, opened_by, opened, parts_from, postfix_from, postfix_or_star, postfix, disjunction, expr_from, expr_after}
use Rattle.sql_grammar.proofs.Solid.{solid_postfix}
use Rattle.sql_grammar.proofs.Follows.{Over, Starts}
use Rattle.sql_grammar.proofs.CompleteSteps.{also, done, peeked, r_test, s_test, starts_not_r}
use Rattle.sql_grammar.proofs.CompleteStarts.{starts_r, starts_s}
use Rattle.sql_grammar.proofs.CompleteLevels.{no_prefix}
use Rattle.sql_grammar.proofs.CompleteExprs.{regrouped, expr_thus}
use Rattle.sql_grammar.proofs.CompleteFronts.{FrontPart}
use Rattle.sql_grammar.proofs.CompleteParts.{Reading}
use Rattle.sql_grammar.proofs.CompleteHeld.{with_body_all}
use Rattle.sql_grammar.proofs.CompleteStars.{postfix_read, expr_read}

-- where a reader takes something after another, the other took something
pub record Both {A B : Type 0} (o : Outcome Token A) (q : A → Parser B) (c : B) (rest : Tokens) : Type 0 where
  pub first : A
  pub left : Tokens
  pub reads : o ≡ taken first left
  pub goes_on : q first left ≡ taken c rest

pub both_of : {A B : Type 0} (o : Outcome Token A) (q : A → Parser B) (c : B) (rest : Tokens) → and_then o q ≡ taken c rest → Both o q c rest
both_of (taken a left) q c rest h = record { first = a; left = left; reads = refl; goes_on = h }
both_of (stuck left) q c rest h = absurd cc
both_of deep q c rest h = absurd cc

-- no part was read with it
abbrev whole : Expr → Parser (Expr × Ended (Part Expr) Token)
whole a = λ ts. taken (a, ([], None)) ts

opened_then : (n : ℕ) (b : Below) (p : ℕ) (o : Outcome Token Expr)
    → and_then (and_then (and_then o whole) (λ x. parts_from n b false p x.0 x.1.0 x.1.1)) (λ y. λ ts. taken y.0 ts) ≡ and_then o (postfix_from n b p)
unfolding postfix_from
opened_then n b p (taken a rest) = refl
opened_then n b p (stuck rest) = refl
opened_then n b p deep = refl

passing : {A B C : Type 0} (o : Outcome Token A) (f : A → B) (q : B → Parser C) → and_then (and_then o (λ a. λ ts. taken (f a) ts)) q ≡ and_then o (λ a. q (f a))
passing (taken a rest) f q = refl
passing (stuck rest) f q = refl
passing deep f q = refl

module _ (n : ℕ) (b : Below) where
  -- an expression that begins with a basic expression of this class, which is no name
  expr_by : (k : BasicStart) (ts : Tokens) → class_of no_basic basic_lexeme (next ts) ≡ k → ((ts : Tokens) → opened_by n b false k ts ≡ and_then (basic_by n b k ts) whole)
      → Starts 1 ts → disjunction n b ts ≡ and_then (basic_by n b k ts) (expr_after n b (place_of (next ts)))
  unfolding postfix postfix_or_star opened expr_after
  expr_by k ts c same h =
      let p = place_of (next ts) in
      let o : opened n b false ts ≡ and_then (basic_by n b k ts) whole = peeked {N = Unit {0}} (class_of no_basic basic_lexeme) (opened_by n b false) c (λ _. same ts) tt in
      expr_thus n b ts (starts_not_r h r.Not (omega arith)) (no_prefix ts h)
      ∙ ap (λ o. and_then (and_then (and_then o (λ x. parts_from n b false p x.0 x.1.0 x.1.1)) (λ y. λ ts. taken y.0 ts)) (expr_from n b p)) o
      ∙ ap (λ o. and_then o (expr_from n b p)) (opened_then n b p (basic_by n b k ts))
      ∙ regrouped (basic_by n b k ts) (postfix_from n b p) (expr_from n b p)

  token_is : {A : Type 0} {fits : Token → Bool} {t : Token} (ts : Tokens) (q : Token → Parser A) → Is fits t → and_then (token fits (t ∷ ts)) q ≡ q t ts
  token_is {t = t} ts q i = also {n = suc (length (t ∷ ts))} i q done (omega arith)

module _ (n : ℕ) (b : Below) (x : Reading n b) where
  -- what parentheses hold, and what goes on behind them
  pub behind_bracket : (o : Token) (w : Tokens) (c : Expr) → Is (sign s.OpenRound) o → ExprOf c (o ∷ w) → (rest : Tokens) → Over 10 rest → length ((o ∷ w) ++ rest) < suc n
      → Both (enclosed n b (w ++ rest)) (λ h. expr_after n b o.start (grouped o.start h)) c rest
  unfolding group
  behind_bracket o w c io l rest f lt =
      both_of (enclosed n b (w ++ rest)) (λ h. expr_after n b o.start (grouped o.start h)) c rest
      (sym (passing (enclosed n b (w ++ rest)) (grouped o.start) (expr_after n b o.start))
      ∙ ap (λ k. and_then k (expr_after n b o.start)) (sym (token_is n b (w ++ rest) (λ o. enclosed n b >>= (λ h. λ ts. taken (grouped o.start h) ts)) io))
      ∙ sym (expr_by n b a_bracket ((o ∷ w) ++ rest) (s_test s.OpenRound basic_lexeme io refl) (λ ts. refl) (starts_s s.OpenRound io (omega arith)))
      ∙ (expr_read n b x).reads l rest f lt)

  -- the call of GROUPING, and what goes on behind it
  pub behind_grouping : (t : Token) (w : Tokens) (c : Expr) → Is (reserved r.Grouping) t → ExprOf c (t ∷ w) → (rest : Tokens) → Over 10 rest → length ((t ∷ w) ++ rest) < suc n
      → Both (bracketed n b (w ++ rest)) (λ a. expr_after n b t.start (e.Grouping a t.start)) c rest
  unfolding grouping
  behind_grouping t w c it l rest f lt =
      both_of (bracketed n b (w ++ rest)) (λ a. expr_after n b t.start (e.Grouping a t.start)) c rest
      (sym (passing (bracketed n b (w ++ rest)) (λ a. e.Grouping a t.start) (expr_after n b t.start))
      ∙ ap (λ k. and_then k (expr_after n b t.start)) (sym (token_is n b (w ++ rest) (λ t. bracketed n b >>= (λ a. λ ts. taken (e.Grouping a t.start) ts)) it))
      ∙ sym (expr_by n b a_grouping ((t ∷ w) ++ rest) (r_test r.Grouping basic_lexeme it refl) (λ ts. refl) (starts_r r.Grouping it (omega arith)))
      ∙ (expr_read n b x).reads l rest f lt)

  -- what goes on behind an expression that begins with WITH
  pub behind_with : (a c : Expr) (t : Token) (u v : Tokens) → Is (reserved r.With) t → BasicOf a (t ∷ u) → ExprOf c ((t ∷ u) ++ v) → (rest : Tokens) → Over 10 rest → length (((t ∷ u) ++ v) ++ rest) < suc n
      → expr_after n b t.start a (v ++ rest) ≡ taken c rest
  unfolding with_expr
  behind_with a c t u v it m l rest f lt =
      sym (ap (λ o. and_then o (expr_after n b t.start)) (ap (with_body n b t.start) (append_assoc u v rest) ∙ (with_body_all n b x t it).reads m (v ++ rest) tt (let g : length ((u ++ v) ++ rest) ≡ length (u ++ (v ++ rest)) = ap length (append_assoc u v rest) in omega arith)))
      ∙ ap (λ k. and_then k (expr_after n b t.start)) (sym (token_is n b ((u ++ v) ++ rest) (λ t. with_body n b t.start) it))
      ∙ sym (expr_by n b a_with (((t ∷ u) ++ v) ++ rest) (r_test r.With basic_lexeme it refl) (λ ts. refl) (starts_r r.With it (omega arith)))
      ∙ (expr_read n b x).reads l rest f lt

  -- what goes on behind a postfix expression
  pub behind_postfix : (c : Expr) (w : Tokens) → ExprOf c w → (g : FrontPart w) → (rest : Tokens) → Over 10 rest → Starts 1 (w ++ rest) → length (w ++ rest) < suc n
      → expr_from n b (start_of g.text) g.first (g.more ++ rest) ≡ taken c rest
  behind_postfix c w l g rest f h lt =
      let is : w ++ rest ≡ g.text ++ (g.more ++ rest) = ap (λ (q : Tokens). q ++ rest) g.splits ∙ append_assoc g.text g.more rest in
      let same : length (w ++ rest) ≡ length (g.text ++ (g.more ++ rest)) = ap length is in
      let place : place_of (next (w ++ rest)) ≡ start_of g.text = ap (λ (q : Tokens). place_of (next q)) is ∙ at_start g.text (g.more ++ rest) (solid_postfix g.first g.text g.spells) in
      sym (ap (λ o. and_then o (expr_from n b (start_of g.text))) (ap (postfix n b) is ∙ (postfix_read n b x).reads g.spells (g.more ++ rest) (g.follows rest (record { over = let k = f.over in omega arith })) (omega arith)))
      ∙ ap (λ p. and_then (postfix n b (w ++ rest)) (expr_from n b p)) (sym place)
      ∙ sym (expr_thus n b (w ++ rest) (starts_not_r h r.Not (omega arith)) (no_prefix (w ++ rest) h))
      ∙ (expr_read n b x).reads l rest f lt
    where
      at_start : (u v : Tokens) → 1 ≤ length u → place_of (next (u ++ v)) ≡ start_of u
      at_start [] v le = absurd (omega arith)
      at_start (t ∷ u) v le = refl
