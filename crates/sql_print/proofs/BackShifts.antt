-- Shifts are spelled by the tokens of their prints, if their operands are: `>>` is two tokens with nothing between.
use Rattle.std.proofs.Common.{◌≡◌, ℕ, ◌<◌, ◌==◌, Bool, true, false, ◌&&◌, List, [], ◌∷◌, ◌++◌, length, map, refl, ap, arith}
use Rattle.std.proofs.lemmas.List.{length-append}
use Rattle.std.proofs.lemmas.Bool.Decides.{nat_tests}
use Rattle.sql_ast.specs.declared.words.Sign.TheVariants as s
use Rattle.sql_ast.specs.declared.token.Token.{Token}
use Rattle.sql_ast.specs.declared.expr.Expr.{Expr}
use Rattle.sql_ast.specs.declared.expr.Expr.TheVariants as e
use Rattle.sql_ast.specs.declared.expr.Expr.TheOpen as ast
use Rattle.sql_ast.specs.declared.expr.Link.{Link}
use Rattle.sql_ast.specs.declared.expr.Operator.TheVariants as operator
use Rattle.sql_ast.specs.Marks.{Tokens, Is, sign as sign_test, closes_shift, start_of}
use Rattle.sql_ast.specs.Trees.{link}
use Rattle.sql_ast.specs.Grammar.{SumOf, ShiftOf, shift_is, ShiftsOf, shifts_none, shifts_left, shifts_right}
use Rattle.sql_ast.specs.Pieces.{Piece}
use Rattle.sql_ast.specs.Canon.{operator_pieces}
use Rattle.sql_same.specs.Bare.{as_is, bare_link, BareExpr}
use Rattle.sql_print.specs.PartPieces.{run, operand, link_pieces}
use Rattle.sql_print.specs.TreePieces.{expr_level, expr_pieces}
use Rattle.sql_print.proofs.Carried.{Carries, carries_more, Found, Back, split, one, nothing, is_sign}
use Rattle.sql_print.proofs.BackLevels.{Level, Spelled}
use Rattle.sql_print.proofs.BackChains.{chain_spelled}

abbrev bare : Expr → Expr
bare = BareExpr as_is

abbrev bares : List (Link Expr) → List (Link Expr)
bares = map (bare_link bare)

abbrev linked : List (Link Expr) → List Piece
linked ls = run (link_pieces expr_level expr_pieces 8) ls

both : (a b : Bool) → a ≡ true → b ≡ true → (a && b) ≡ true
both true true e f = refl
both true false e f = f
both false b e f = e

same_number : (m n : ℕ) → m ≡ n → (m == n) ≡ true
same_number m n e = grind (arith, nat_tests)

-- the two tokens of `>>`
shifted : (ps : List Piece) (G : Tokens → Type 0) → ((t x : Token) (v : Tokens) → Is (sign_test s.Greater) t → Is (closes_shift t) x → Carries ps v → G (t ∷ x ∷ v)) → (ts : Tokens) → Carries (operator_pieces operator.ShiftRight ++ ps) ts → G ts
shifted ps G k _ (carries_more {t = t} e touch (carries_more {t = x} {ts = v} f touch' h)) =
    let second = is_sign s.Greater x f in
    k t x v (is_sign s.Greater t e) (record { is = both _ _ second.is (same_number t.end x.start (touch refl)) }) h

module _ (n : ℕ) (operands : (a : Expr) (u : Tokens) → SumOf a u → length u < n → Spelled a) where
  back_shifts : (ls : List (Link Expr)) (v : Tokens) → ShiftsOf ls v → length v < n → Back ShiftsOf bares (linked ls) ls
  unfolding Level link
  back_shifts _ _ shifts_none lt = record { back = λ ts h. nothing (Found ShiftsOf bares []) ts h (record { tree = []; spells = shifts_none; same = refl }) }
  back_shifts _ _ (shifts_left {t = t} {a = a} {ls = ls} {u = u} {v = v} i z y) lt =
      let long = length-append u v in record {
        back = λ ts h.
            one (Found ShiftsOf bares (link operator.ShiftLeft t a ∷ ls)) ts h (λ x w e h. split (λ w. Found ShiftsOf bares (link operator.ShiftLeft t a ∷ ls) (x ∷ w)) w h (λ p q cp cq.
            let f = ((operands a u z (omega arith)).at 8 (omega arith)).back p cp in
            let g = (back_shifts ls v y (omega arith)).back q cq in
            record {
              tree = link operator.ShiftLeft x f.tree ∷ g.tree;
              spells = shifts_left (is_sign s.LessLess x e) f.spells g.spells;
              same = rw f.same (ap (λ (m : List (Link Expr)). bare_link bare (link operator.ShiftLeft t a) ∷ m) g.same);
            }));
      }
  back_shifts _ _ (shifts_right {t = t} {x = x} {a = a} {ls = ls} {u = u} {v = v} i j z y) lt =
      let long = length-append u v in record {
        back = λ ts h.
            shifted (operand expr_level expr_pieces 8 a ++ linked ls) (Found ShiftsOf bares (link operator.ShiftRight t a ∷ ls)) (λ t' x' w it ix h.
            split (λ w. Found ShiftsOf bares (link operator.ShiftRight t a ∷ ls) (t' ∷ x' ∷ w)) w h (λ p q cp cq.
            let f = ((operands a u z (omega arith)).at 8 (omega arith)).back p cp in
            let g = (back_shifts ls v y (omega arith)).back q cq in
            record {
              tree = link operator.ShiftRight t' f.tree ∷ g.tree;
              spells = shifts_right it ix f.spells g.spells;
              same = rw f.same (ap (λ (m : List (Link Expr)). bare_link bare (link operator.ShiftRight t a) ∷ m) g.same);
            })) ts h;
      }

  pub shift_spelled : (a : Expr) (u : Tokens) → ShiftOf a u → length u < n → Spelled a
  unfolding Level
  shift_spelled _ _ (shift_is {a = a} {ls = ls} {u = u} {v = v} z y) lt =
      let long = length-append u v in
      chain_spelled 7 (omega arith) e.Shift (λ a ls p. ast.Shift a ls p) ShiftsOf (λ a ls u v i j. shift_is i j) e.outs-Shift (λ a ls p. refl) (λ a ls p. refl) (λ a ls p. refl)
      (λ a b ls ms p q x y. rw x (ap (λ (m : List (Link Expr)). ast.Shift (bare b) m 0) y)) a ls (start_of u) (operands a u z (omega arith)) (back_shifts ls v y (omega arith))
