-- Prefixes, fields and subscripts, and shifts are spelled by the tokens of their prints, if their operands are.
use Rattle.std.proofs.Common.{◌≡◌, ℕ, suc, ◌<◌, List, [], ◌∷◌, ◌++◌, length, map, Some, refl, sym, ◌∙◌, ap, subst, arith}
use Rattle.std.proofs.lemmas.List.{length-append, append_assoc}
use Rattle.sql_ast.specs.declared.words.Sign.TheVariants as s
use Rattle.sql_ast.specs.declared.expr.Expr.{Expr}
use Rattle.sql_ast.specs.declared.expr.Expr.TheVariants as e
use Rattle.sql_ast.specs.declared.expr.Expr.TheOpen as ast
use Rattle.sql_ast.specs.declared.expr.IndexForm.{IndexForm}
use Rattle.sql_ast.specs.declared.expr.IndexForm.TheVariants as form
use Rattle.sql_ast.specs.declared.expr.Part.{Part}
use Rattle.sql_ast.specs.declared.expr.Part.TheVariants as part
use Rattle.sql_ast.specs.declared.expr.Prefix.{Prefix}
use Rattle.sql_ast.specs.declared.expr.Signed.{Signed}
use Rattle.sql_ast.specs.declared.expr.Signed.TheVariants as signed
use Rattle.sql_ast.specs.Marks.{Tokens, start_of}
use Rattle.sql_ast.specs.Trees.{name_at, prefix_lexeme, form_lexeme, prefixes, path}
use Rattle.sql_ast.specs.Parts.{PrefixesOf, prefixes_none, prefixes_more}
use Rattle.sql_ast.specs.Grammar.{ExprOf, UnaryOf, unary_is, PostfixOf, postfix_is, PartsOf, parts_none, parts_more, PartOf, part_field, part_index, BasicOf}
use Rattle.sql_ast.specs.Pieces.{Piece, word_if_plain}
use Rattle.sql_ast.specs.Canon.{prefix_piece, form_piece}
use Rattle.sql_same.specs.Bare.{as_is, bare_prefix, bare_part, BareExpr}
use Rattle.sql_print.specs.PartPieces.{run, operand, part_pieces}
use Rattle.sql_print.specs.TreePieces.{expr_level, expr_pieces}
use Rattle.sql_print.proofs.Carried.{Carries, Found, Back, split, one, nothing, is_sign, is_named}
use Rattle.sql_print.proofs.BackNames.{name_same}
use Rattle.sql_print.proofs.BackLevels.{Level, Spelled}
use Rattle.sql_print.proofs.BackLists.{Inner, node, found, enclosed}

abbrev bare : Expr → Expr
bare = BareExpr as_is

abbrev bares : List (Part Expr) → List (Part Expr)
bares = map (bare_part as_is bare)

prefix_said : (x : Signed) → prefix_lexeme (prefix_piece x).lexeme ≡ Some x
prefix_said signed.Plus = refl
prefix_said signed.Minus = refl
prefix_said signed.Flip = refl

form_said : (f : IndexForm) → form_lexeme (form_piece f).lexeme ≡ Some f
form_said form.Offset = refl
form_said form.Ordinal = refl
form_said form.SafeOffset = refl
form_said form.SafeOrdinal = refl

module _ (n : ℕ) (x : Inner n) (basics : (a : Expr) (u : Tokens) → BasicOf a u → length u < suc n → Spelled a) where
  -- ---- parts

  back_part : (p : Part Expr) (v : Tokens) → PartOf p v → length v < suc n → Back PartOf (bare_part as_is bare) (part_pieces expr_pieces p) p
  back_part _ _ (part_field {t = t} {n = m} i j) lt = record {
    back = λ ts h.
        one (Found PartOf (bare_part as_is bare) (part.Field (name_at m))) ts h (λ t' w g h. one (λ w. Found PartOf (bare_part as_is bare) (part.Field (name_at m)) (t' ∷ w)) w h (λ m' w g' h. nothing (λ w. Found PartOf (bare_part as_is bare) (part.Field (name_at m)) (t' ∷ m' ∷ w)) w h (record {
          tree = part.Field (name_at m');
          spells = part_field (is_sign s.Dot t' g) (is_named (name_at m).text (word_if_plain (name_at m).text) m' g');
          same = ap (λ y. part.Field y) (name_same (name_at m).text (word_if_plain (name_at m).text) m' (name_at m).place g');
        })));
  }
  back_part _ _ (part_index {f = f} {a = a} {b = b} {x = t} {o = o} {c = c} {d = d} {v = v} i j k z ic id) lt =
      let long = length-append v (c ∷ d ∷ []) in record {
        back = λ ts h.
            one (Found PartOf (bare_part as_is bare) (part.Index f a b.start)) ts h (λ b' w g h. one (λ w. Found PartOf (bare_part as_is bare) (part.Index f a b.start) (b' ∷ w)) w h (λ t' w g' h.
            split (λ w. Found PartOf (bare_part as_is bare) (part.Index f a b.start) (b' ∷ t' ∷ w)) w h (λ p q cp cq. one (λ q. Found PartOf (bare_part as_is bare) (part.Index f a b.start) (b' ∷ t' ∷ (p ++ q))) q cq (λ d' q g'' cq. nothing (λ q. Found PartOf (bare_part as_is bare) (part.Index f a b.start) (b' ∷ t' ∷ (p ++ (d' ∷ q)))) q cq (
            enclosed ExprOf bare (expr_pieces a) a (x.expr a v z (omega arith)).whole (λ p. Found PartOf (bare_part as_is bare) (part.Index f a b.start) (b' ∷ t' ∷ (p ++ (d' ∷ [])))) (λ o' c' u io f' ic'. record {
              tree = part.Index f f'.tree b'.start;
              spells = subst (λ (y : Tokens). PartOf (part.Index f f'.tree b'.start) (b' ∷ t' ∷ o' ∷ y)) (sym (append_assoc u (c' ∷ []) (d' ∷ [])))
                  (part_index (is_sign s.OpenSquare b' g) (record { is = ap form_lexeme g' ∙ form_said f }) io f'.spells ic' (is_sign s.CloseSquare d' g''));
              same = ap (λ y. part.Index f y 0) f'.same;
            }) p cp)))));
      }

  back_parts : (ps : List (Part Expr)) (v : Tokens) → PartsOf ps v → length v < suc n → Back PartsOf bares (run (part_pieces expr_pieces) ps) ps
  back_parts _ _ parts_none lt = record { back = λ ts h. nothing (Found PartsOf bares []) ts h (record { tree = []; spells = parts_none; same = refl }) }
  back_parts _ _ (parts_more {p = p} {ps = ps} {u = u} {v = v} z y) lt =
      let long = length-append u v in record {
        back = λ ts h.
            split (Found PartsOf bares (p ∷ ps)) ts h (λ p' q cp cq.
            let f = (back_part p u z (omega arith)).back p' cp in
            let g = (back_parts ps v y (omega arith)).back q cq in
            record { tree = f.tree ∷ g.tree; spells = parts_more f.spells g.spells; same = rw f.same (ap (λ (m : List (Part Expr)). bare_part as_is bare p ∷ m) g.same) });
      }

  with_parts : (a : Expr) (p : Part Expr) (ps qs : List (Part Expr)) (place : ℕ) (u v : Tokens) → Found BasicOf bare a u → PartsOf qs v → bares qs ≡ bares (p ∷ ps) → Found PostfixOf bare (e.Postfix a (p ∷ ps) place) (u ++ v)
  unfolding Level path
  with_parts a p ps [] place u v f z same = absurd (cc)
  with_parts a p ps (q ∷ qs) place u v f z same =
      found 11 (u ++ v) (e.Postfix f.tree (q ∷ qs) (start_of u)) (e.Postfix a (p ∷ ps) place) (ast.Postfix f.tree (q ∷ qs) (start_of u)) (ast.Postfix a (p ∷ ps) place) (e.outs-Postfix f.tree (q ∷ qs) (start_of u)) (e.outs-Postfix a (p ∷ ps) place)
      (postfix_is f.spells z) (rw f.same (ap (λ (m : List (Part Expr)). ast.Postfix (bare a) m 0) same))

  pub postfix_spelled : (a : Expr) (u : Tokens) → PostfixOf a u → length u < suc n → Spelled a
  unfolding Level path
  postfix_spelled _ _ (postfix_is {a = a} {ps = []} {u = u} {v = v} z y) lt = let long = length-append u v in basics a u z (omega arith)
  postfix_spelled _ _ (postfix_is {a = a} {ps = p ∷ ps} {u = u} {v = v} z y) lt =
      let long = length-append u v in
      node 11 (omega arith) (e.Postfix a (p ∷ ps) (start_of u)) (ast.Postfix a (p ∷ ps) (start_of u)) (e.outs-Postfix a (p ∷ ps) (start_of u)) refl refl (λ ts h.
      split (Found PostfixOf bare (e.Postfix a (p ∷ ps) (start_of u))) ts h (λ c d ch cd.
      let g = (back_parts (p ∷ ps) v y (omega arith)).back d cd in
      with_parts a p ps g.tree (start_of u) c d (((basics a u z (omega arith)).at 12 (omega arith)).back c ch) g.spells g.same))

  -- ---- prefixes

  back_prefixes : (ps : List Prefix) (v : Tokens) → PrefixesOf ps v → (rest : List Piece) (G : Tokens → Type 0)
      → ((qs : List Prefix) (s w : Tokens) → PrefixesOf qs s → map bare_prefix qs ≡ map bare_prefix ps → Carries rest w → G (s ++ w)) → (ts : Tokens) → Carries (map (λ p. prefix_piece p.operator) ps ++ rest) ts → G ts
  back_prefixes _ _ prefixes_none rest G k ts h = k [] [] ts prefixes_none refl h
  back_prefixes _ _ (prefixes_more {t = t} {x = y} {ps = ps} {v = v} i z) rest G k ts h =
      one G ts h (λ t' w g h. back_prefixes ps v z rest (λ w. G (t' ∷ w)) (λ qs s w z' same h.
      k (record { operator = y; place = t'.start } ∷ qs) (t' ∷ s) w (prefixes_more (record { is = ap prefix_lexeme g ∙ prefix_said y }) z') (ap (λ (m : List Prefix). record { operator = y; place = 0 } ∷ m) same) h) w h)

  with_prefixes : (a : Expr) (p : Prefix) (ps qs : List Prefix) (s w : Tokens) → PrefixesOf qs s → map bare_prefix qs ≡ map bare_prefix (p ∷ ps) → Found PostfixOf bare a w → Found UnaryOf bare (e.Unary (p ∷ ps) a p.place) (s ++ w)
  unfolding Level prefixes
  with_prefixes a p ps [] s w z same f = absurd (cc)
  with_prefixes a p ps (q ∷ qs) s w z same f =
      found 10 (s ++ w) (e.Unary (q ∷ qs) f.tree q.place) (e.Unary (p ∷ ps) a p.place) (ast.Unary (q ∷ qs) f.tree q.place) (ast.Unary (p ∷ ps) a p.place) (e.outs-Unary (q ∷ qs) f.tree q.place) (e.outs-Unary (p ∷ ps) a p.place)
      (unary_is z f.spells) (rw f.same (ap (λ (m : List Prefix). ast.Unary m (bare a) 0) same))

  pub unary_spelled : (a : Expr) (u : Tokens) → UnaryOf a u → length u < suc n → Spelled a
  unfolding Level prefixes
  unary_spelled _ _ (unary_is {ps = []} {a = a} {u = u} {v = v} z y) lt = let long = length-append u v in postfix_spelled a v y (omega arith)
  unary_spelled _ _ (unary_is {ps = p ∷ ps} {a = a} {u = u} {v = v} z y) lt =
      let long = length-append u v in
      node 10 (omega arith) (e.Unary (p ∷ ps) a p.place) (ast.Unary (p ∷ ps) a p.place) (e.outs-Unary (p ∷ ps) a p.place) refl refl (λ ts h.
      back_prefixes (p ∷ ps) u z (operand expr_level expr_pieces 11 a) (Found UnaryOf bare (e.Unary (p ∷ ps) a p.place)) (λ qs s w z' same cw.
      with_prefixes a p ps qs s w z' same (((postfix_spelled a v y (omega arith)).at 11 (omega arith)).back w cw)) ts h)
