-- What follows FROM is spelled by the tokens of its print, if the expressions and queries in it are.
use Rattle.std.proofs.Common.{◌≡◌, ℕ, suc, ◌<◌, List, [], ◌∷◌, ◌++◌, length, map, Option, Some, None, option_map, refl, sym, ◌∙◌, ap, subst, arith}
use Rattle.std.proofs.lemmas.List.{length-append, append_assoc}
use Rattle.sql_names.specs.declared.words.Reserved.TheVariants as fixed
use Rattle.sql_ast.specs.declared.words.Sign.TheVariants as mark
use Rattle.sql_ast.specs.declared.words.Word.TheVariants as keyword
use Rattle.sql_ast.specs.declared.token.Token.{Token}
use Rattle.sql_ast.specs.declared.token.Lexeme.TheVariants as l
use Rattle.sql_ast.specs.declared.clauses.Aliased.{Aliased}
use Rattle.sql_ast.specs.declared.clauses.On.{On}
use Rattle.sql_ast.specs.declared.clauses.On.TheVariants as on
use Rattle.sql_ast.specs.declared.clauses.PivotCall.{PivotCall}
use Rattle.sql_ast.specs.declared.clauses.Turn.{Turn}
use Rattle.sql_ast.specs.declared.clauses.Turn.TheVariants as turn
use Rattle.sql_ast.specs.declared.clauses.Turned.{Turned}
use Rattle.sql_ast.specs.declared.expr.Expr.{Expr}
use Rattle.sql_ast.specs.declared.expr.Expr.TheOpen.{Primary-F, Joined-F}
use Rattle.sql_ast.specs.declared.expr.Expr.TheOpen as ast
use Rattle.sql_ast.specs.declared.query.FromItem.{FromItem}
use Rattle.sql_ast.specs.declared.query.Joined.{Joined}
use Rattle.sql_ast.specs.declared.query.Primary.{Primary, out-Primary}
use Rattle.sql_ast.specs.declared.query.Primary.TheVariants as primary
use Rattle.sql_ast.specs.declared.query.Query.{Query}
use Rattle.sql_ast.specs.declared.query.Select.{Select}
use Rattle.sql_ast.specs.declared.query.Term.{Term}
use Rattle.sql_ast.specs.Marks.{Tokens, Is}
use Rattle.sql_ast.specs.Trees.{name_at}
use Rattle.sql_ast.specs.Grammar.{ExprOf, QueryOf, OnOf, on_expr, on_using, PrimaryOf, primary_table, primary_query, primary_path, primary_unnest, TurnedOf, turned_none, turned_is, TurnOf, turn_pivot, turn_unpivot, PivotCallOf, pivot_call, PivotCallsOf, pivot_calls_none, pivot_calls_more, PivotValueOf, pivot_value, PivotValuesOf, pivot_values_none, pivot_values_more}
use Rattle.sql_ast.specs.Pieces.{word, bracketed, after_commas, if_there, word_if_plain, spelled_word}
use Rattle.sql_ast.specs.Canon.{canon_pieces, alias_pieces, path_pieces, offset_pieces}
use Rattle.sql_same.specs.Bare.{as_is, bare_name, bare_aliased, bare_on, bare_pivot_call, bare_turn, bare_turned, BareExpr, BareQuery, BarePrimary}
use Rattle.sql_same.proofs.BareSame.{same_primary}
use Rattle.sql_print.specs.PartPieces.{on_pieces, pivot_call_pieces, aliased_pieces, turn_pieces, turned_pieces}
use Rattle.sql_print.specs.TreePieces.{expr_pieces, primary_pieces}
use Rattle.sql_print.proofs.CanonFroms.{primary_at}
use Rattle.sql_print.proofs.CanonLaws.{print_primary}
use Rattle.sql_print.proofs.Carried.{Carries, Found, Back, split, one, nothing, carry, in_three, is_reserved, is_sign, is_word, is_named}
use Rattle.sql_print.proofs.BackNames.{name_same, back_alias, back_from_alias, back_dots, back_names, back_place, back_include, back_column, back_columns}
use Rattle.sql_print.proofs.BackLists.{Inner, enclosed}
use Rattle.sql_print.proofs.BackCalls.{back_call}

abbrev bare : Expr → Expr
bare = BareExpr as_is

abbrev bare_calls : List (PivotCall Expr) → List (PivotCall Expr)
bare_calls = map (bare_pivot_call as_is bare)

abbrev bare_values : List (Aliased Expr) → List (Aliased Expr)
bare_values = map (bare_aliased as_is bare)

-- a name is there
the_name : (m t : Token) → t.lexeme ≡ l.Name (name_at m).text (word_if_plain (name_at m).text) → Is Rattle.sql_ast.specs.Marks.named t
the_name m t e = is_named (name_at m).text (word_if_plain (name_at m).text) t e

name_as : (m t : Token) → t.lexeme ≡ l.Name (name_at m).text (word_if_plain (name_at m).text) → bare_name as_is (name_at t) ≡ bare_name as_is (name_at m)
name_as m t e = name_same (name_at m).text (word_if_plain (name_at m).text) t (name_at m).place e

pivot_tokens : (p q v y z : Tokens) (f m i b c d : Token) → ((p ++ q) ++ (f ∷ m ∷ (v ++ (i ∷ b ∷ ((y ++ z) ++ (c ∷ [])))))) ++ (d ∷ []) ≡ p ++ (q ++ (f ∷ m ∷ (v ++ (i ∷ b ∷ (y ++ (z ++ (c ∷ d ∷ [])))))))
pivot_tokens p q v y z f m i b c d =
    append_assoc (p ++ q) (f ∷ m ∷ (v ++ (i ∷ b ∷ ((y ++ z) ++ (c ∷ []))))) (d ∷ []) ∙ append_assoc p q (f ∷ m ∷ ((v ++ (i ∷ b ∷ ((y ++ z) ++ (c ∷ [])))) ++ (d ∷ [])))
    ∙ ap (λ (r : Tokens). p ++ (q ++ (f ∷ m ∷ r))) (append_assoc v (i ∷ b ∷ ((y ++ z) ++ (c ∷ []))) (d ∷ []) ∙ ap (λ (r : Tokens). v ++ (i ∷ b ∷ r)) (append_assoc (y ++ z) (c ∷ []) (d ∷ []) ∙ append_assoc y z (c ∷ d ∷ [])))

module _ (n : ℕ) (x : Inner n) where
  -- ---- ON and USING

  pub back_on : (o : On Expr) (v : Tokens) → OnOf o v → length v < suc n → Back OnOf (bare_on as_is bare) (on_pieces expr_pieces o) o
  back_on _ _ (on_expr {t = t} {a = a} {u = u} i z) lt = record {
    back = λ ts h. one (Found OnOf (bare_on as_is bare) (on.On a t.start)) ts h (λ t' w e h.
        let f = (x.expr a u z (omega arith)).whole.back w h in record { tree = on.On f.tree t'.start; spells = on_expr (is_reserved fixed.On t' e) f.spells; same = ap (λ y. on.On y 0) f.same });
  }
  back_on _ _ (on_using {t = t} {ns = []} {u = u} i z) lt = elim z [ ]
  back_on _ _ (on_using {t = t} {ns = m ∷ ns} {u = u} i z) lt = record {
    back = λ ts h. one (Found OnOf (bare_on as_is bare) (on.Using (m ∷ ns) t.start)) ts h (λ t' w e h.
        let f = (back_names m ns).back w h in record { tree = on.Using f.tree t'.start; spells = on_using (is_reserved fixed.Using t' e) f.spells; same = ap (λ y. on.Using y 0) f.same });
  }

  -- ---- PIVOT and UNPIVOT

  back_pivot_call : (k : PivotCall Expr) (v : Tokens) → PivotCallOf k v → length v < suc n → Back PivotCallOf (bare_pivot_call as_is bare) (pivot_call_pieces expr_pieces k) k
  back_pivot_call _ _ (pivot_call {k = k} {a = a} {u = u} {v = v} z i) lt =
      let long = length-append u v in record {
        back = λ ts h. split (Found PivotCallOf (bare_pivot_call as_is bare) (record { call = k; alias = a })) ts h (λ p q cp cq.
            let f = (back_call n x k u z (omega arith)).back p cp in
            let g = (back_alias a).back q cq in
            record { tree = record { call = f.tree; alias = g.tree }; spells = pivot_call f.spells g.spells; same = rw f.same (rw g.same refl) });
      }

  back_pivot_calls : (ks : List (PivotCall Expr)) (v : Tokens) → PivotCallsOf ks v → length v < suc n → Back PivotCallsOf bare_calls (after_commas (map (pivot_call_pieces expr_pieces) ks)) ks
  back_pivot_calls _ _ pivot_calls_none lt = record { back = λ ts h. nothing (Found PivotCallsOf bare_calls []) ts h (record { tree = []; spells = pivot_calls_none; same = refl }) }
  back_pivot_calls _ _ (pivot_calls_more {t = t} {a = a} {ms = ms} {u = u} {v = v} i z y) lt =
      let long = length-append u v in record {
        back = λ ts h. one (Found PivotCallsOf bare_calls (a ∷ ms)) ts h (λ t w e h. split (λ w. Found PivotCallsOf bare_calls (a ∷ ms) (t ∷ w)) w h (λ p q cp cq.
            let f = (back_pivot_call a u z (omega arith)).back p cp in
            let g = (back_pivot_calls ms v y (omega arith)).back q cq in
            record { tree = f.tree ∷ g.tree; spells = pivot_calls_more (is_sign mark.Comma t e) f.spells g.spells; same = rw f.same (ap (λ (m : List (PivotCall Expr)). bare_pivot_call as_is bare a ∷ m) g.same) }));
      }

  back_value : (a : Aliased Expr) (v : Tokens) → PivotValueOf a v → length v < n → Back PivotValueOf (bare_aliased as_is bare) (aliased_pieces expr_pieces a) a
  back_value _ _ (pivot_value {x = a} {a = k} {u = u} {v = v} z i) lt =
      let long = length-append u v in record {
        back = λ ts h. split (Found PivotValueOf (bare_aliased as_is bare) (record { expr = a; alias = k })) ts h (λ p q cp cq.
            let f = (x.expr a u z (omega arith)).whole.back p cp in
            let g = (back_alias k).back q cq in
            record { tree = record { expr = f.tree; alias = g.tree }; spells = pivot_value f.spells g.spells; same = rw f.same (rw g.same refl) });
      }

  back_values : (cs : List (Aliased Expr)) (v : Tokens) → PivotValuesOf cs v → length v < n → Back PivotValuesOf bare_values (after_commas (map (aliased_pieces expr_pieces) cs)) cs
  back_values _ _ pivot_values_none lt = record { back = λ ts h. nothing (Found PivotValuesOf bare_values []) ts h (record { tree = []; spells = pivot_values_none; same = refl }) }
  back_values _ _ (pivot_values_more {t = t} {a = a} {ms = ms} {u = u} {v = v} i z y) lt =
      let long = length-append u v in record {
        back = λ ts h. one (Found PivotValuesOf bare_values (a ∷ ms)) ts h (λ t w e h. split (λ w. Found PivotValuesOf bare_values (a ∷ ms) (t ∷ w)) w h (λ p q cp cq.
            let f = (back_value a u z (omega arith)).back p cp in
            let g = (back_values ms v y (omega arith)).back q cq in
            record { tree = f.tree ∷ g.tree; spells = pivot_values_more (is_sign mark.Comma t e) f.spells g.spells; same = rw f.same (ap (λ (m : List (Aliased Expr)). bare_aliased as_is bare a ∷ m) g.same) }));
      }

  back_turn : (t : Turn Expr) (v : Tokens) → TurnOf t v → length v < suc n → Back TurnOf (bare_turn as_is bare) (turn_pieces expr_pieces t) t
  back_turn _ _ (turn_pivot {t = t} {o = o} {f = f} {n = m} {i = i} {b = b} {c = c} {d = d} {k = k} {ks = ks} {ns = ns} {x = y} {xs = ys} {u = u} {v = v} {y = w} {z = z} {m = q} it io ku kv jf jn nw ji jb xz xm jc jd) lt =
      let l1 = length-append u (v ++ (f ∷ m ∷ (w ++ (i ∷ b ∷ (z ++ (q ++ (c ∷ d ∷ []))))))) in let l2 = length-append v (f ∷ m ∷ (w ++ (i ∷ b ∷ (z ++ (q ++ (c ∷ d ∷ [])))))) in let l3 = length-append w (i ∷ b ∷ (z ++ (q ++ (c ∷ d ∷ [])))) in
      let l4 = length-append z (q ++ (c ∷ d ∷ [])) in let l5 = length-append q (c ∷ d ∷ []) in
      let whole = turn.Pivot (k ∷ ks) (name_at m ∷ ns) (y ∷ ys) t.start in
      record {
        back = λ ts h. one (Found TurnOf (bare_turn as_is bare) whole) ts h (λ t' h1 e1 h. one (λ s. Found TurnOf (bare_turn as_is bare) whole (t' ∷ s)) h1 h (λ o' s e2 h.
            split (λ s. Found TurnOf (bare_turn as_is bare) whole (t' ∷ o' ∷ s)) s h (λ p s cp cs. one (λ s. Found TurnOf (bare_turn as_is bare) whole (t' ∷ o' ∷ (p ++ s))) s cs (λ d' s e3 cs. nothing (λ s. Found TurnOf (bare_turn as_is bare) whole (t' ∷ o' ∷ (p ++ (d' ∷ s)))) s cs (
            split (λ p. Found TurnOf (bare_turn as_is bare) whole (t' ∷ o' ∷ (p ++ (d' ∷ [])))) p cp (λ p s cp cs.
            split (λ p. Found TurnOf (bare_turn as_is bare) whole (t' ∷ o' ∷ ((p ++ s) ++ (d' ∷ [])))) p cp (λ p1 p2 cp1 cp2.
            one (λ s. Found TurnOf (bare_turn as_is bare) whole (t' ∷ o' ∷ (((p1 ++ p2) ++ s) ++ (d' ∷ [])))) s cs (λ f' s e4 cs. one (λ s. Found TurnOf (bare_turn as_is bare) whole (t' ∷ o' ∷ (((p1 ++ p2) ++ (f' ∷ s)) ++ (d' ∷ [])))) s cs (λ m' s e5 cs.
            split (λ s. Found TurnOf (bare_turn as_is bare) whole (t' ∷ o' ∷ (((p1 ++ p2) ++ (f' ∷ m' ∷ s)) ++ (d' ∷ [])))) s cs (λ p3 s cp3 cs. one (λ s. Found TurnOf (bare_turn as_is bare) whole (t' ∷ o' ∷ (((p1 ++ p2) ++ (f' ∷ m' ∷ (p3 ++ s))) ++ (d' ∷ [])))) s cs (λ i' s e6 cs.
            one (λ s. Found TurnOf (bare_turn as_is bare) whole (t' ∷ o' ∷ (((p1 ++ p2) ++ (f' ∷ m' ∷ (p3 ++ (i' ∷ s)))) ++ (d' ∷ [])))) s cs (λ b' s e7 cs.
            split (λ s. Found TurnOf (bare_turn as_is bare) whole (t' ∷ o' ∷ (((p1 ++ p2) ++ (f' ∷ m' ∷ (p3 ++ (i' ∷ b' ∷ s)))) ++ (d' ∷ [])))) s cs (λ p4 s cp4 cs. one (λ s. Found TurnOf (bare_turn as_is bare) whole (t' ∷ o' ∷ (((p1 ++ p2) ++ (f' ∷ m' ∷ (p3 ++ (i' ∷ b' ∷ (p4 ++ s))))) ++ (d' ∷ [])))) s cs (λ c' s e8 cs.
            nothing (λ s. Found TurnOf (bare_turn as_is bare) whole (t' ∷ o' ∷ (((p1 ++ p2) ++ (f' ∷ m' ∷ (p3 ++ (i' ∷ b' ∷ (p4 ++ (c' ∷ s)))))) ++ (d' ∷ [])))) s cs (
            split (λ p4. Found TurnOf (bare_turn as_is bare) whole (t' ∷ o' ∷ (((p1 ++ p2) ++ (f' ∷ m' ∷ (p3 ++ (i' ∷ b' ∷ (p4 ++ (c' ∷ [])))))) ++ (d' ∷ [])))) p4 cp4 (λ p4 p5 cp4 cp5.
            let f1 = (back_pivot_call k u ku (omega arith)).back p1 cp1 in
            let f2 = (back_pivot_calls ks v kv (omega arith)).back p2 cp2 in
            let f3 = (back_dots ns).back p3 cp3 in
            let f4 = (back_value y z xz (omega arith)).back p4 cp4 in
            let f5 = (back_values ys q xm (omega arith)).back p5 cp5 in
            let tree = turn.Pivot (f1.tree ∷ f2.tree) (name_at m' ∷ f3.tree) (f4.tree ∷ f5.tree) t'.start in
            record {
              tree = tree;
              spells = subst (λ (r : Tokens). TurnOf tree (t' ∷ o' ∷ r)) (sym (pivot_tokens p1 p2 p3 p4 p5 f' m' i' b' c' d'))
                  (turn_pivot (is_word keyword.Pivot (spelled_word keyword.Pivot) t' e1) (is_sign mark.OpenRound o' e2) f1.spells f2.spells (is_reserved fixed.For f' e4) (the_name m m' e5) f3.spells (is_reserved fixed.In i' e6) (is_sign mark.OpenRound b' e7) f4.spells f5.spells (is_sign mark.CloseRound c' e8) (is_sign mark.CloseRound d' e3));
              same = rw f1.same (rw f2.same (rw (name_as m m' e5) (rw f3.same (rw f4.same (rw f5.same refl)))));
            }))))))))))))))));
      }
  back_turn _ _ (turn_unpivot {t = t} {o = o} {n = m} {f = f} {m = q} {i = i} {b = b} {c = c} {d = d} {k = k} {x = y} {xs = ys} {u = u} {v = v} {y = z} it ku io im jf iq ji jb yv yz jc jd) lt =
      let whole = turn.Unpivot k (name_at m) (name_at q) (y ∷ ys) t.start in
      record {
        back = λ ts h. one (Found TurnOf (bare_turn as_is bare) whole) ts h (λ t' s e1 h. split (λ s. Found TurnOf (bare_turn as_is bare) whole (t' ∷ s)) s h (λ p s cp cs. one (λ s. Found TurnOf (bare_turn as_is bare) whole (t' ∷ (p ++ s))) s cs (λ o' s e2 cs.
            split (λ s. Found TurnOf (bare_turn as_is bare) whole (t' ∷ (p ++ (o' ∷ s)))) s cs (λ r s cr cs. one (λ s. Found TurnOf (bare_turn as_is bare) whole (t' ∷ (p ++ (o' ∷ (r ++ s))))) s cs (λ d' s e3 cs. nothing (λ s. Found TurnOf (bare_turn as_is bare) whole (t' ∷ (p ++ (o' ∷ (r ++ (d' ∷ s)))))) s cs (
            one (λ r. Found TurnOf (bare_turn as_is bare) whole (t' ∷ (p ++ (o' ∷ (r ++ (d' ∷ [])))))) r cr (λ m' r e4 cr. one (λ r. Found TurnOf (bare_turn as_is bare) whole (t' ∷ (p ++ (o' ∷ m' ∷ (r ++ (d' ∷ [])))))) r cr (λ f' r e5 cr.
            one (λ r. Found TurnOf (bare_turn as_is bare) whole (t' ∷ (p ++ (o' ∷ m' ∷ f' ∷ (r ++ (d' ∷ [])))))) r cr (λ q' r e6 cr. one (λ r. Found TurnOf (bare_turn as_is bare) whole (t' ∷ (p ++ (o' ∷ m' ∷ f' ∷ q' ∷ (r ++ (d' ∷ [])))))) r cr (λ i' r e7 cr.
            one (λ r. Found TurnOf (bare_turn as_is bare) whole (t' ∷ (p ++ (o' ∷ m' ∷ f' ∷ q' ∷ i' ∷ (r ++ (d' ∷ [])))))) r cr (λ b' r e8 cr. split (λ r. Found TurnOf (bare_turn as_is bare) whole (t' ∷ (p ++ (o' ∷ m' ∷ f' ∷ q' ∷ i' ∷ b' ∷ (r ++ (d' ∷ [])))))) r cr (λ r s cr cs.
            one (λ s. Found TurnOf (bare_turn as_is bare) whole (t' ∷ (p ++ (o' ∷ m' ∷ f' ∷ q' ∷ i' ∷ b' ∷ ((r ++ s) ++ (d' ∷ [])))))) s cs (λ c' s e9 cs. nothing (λ s. Found TurnOf (bare_turn as_is bare) whole (t' ∷ (p ++ (o' ∷ m' ∷ f' ∷ q' ∷ i' ∷ b' ∷ ((r ++ (c' ∷ s)) ++ (d' ∷ [])))))) s cs (
            split (λ r. Found TurnOf (bare_turn as_is bare) whole (t' ∷ (p ++ (o' ∷ m' ∷ f' ∷ q' ∷ i' ∷ b' ∷ ((r ++ (c' ∷ [])) ++ (d' ∷ [])))))) r cr (λ r1 r2 c1 c2.
            let f1 = (back_include k).back p cp in
            let f2 = (back_column y).back r1 c1 in
            let f3 = (back_columns ys).back r2 c2 in
            let tree = turn.Unpivot f1.tree (name_at m') (name_at q') (f2.tree ∷ f3.tree) t'.start in
            record {
              tree = tree;
              spells = subst (λ (z : Tokens). TurnOf tree (t' ∷ (p ++ (o' ∷ m' ∷ f' ∷ q' ∷ i' ∷ b' ∷ z)))) (sym (append_assoc (r1 ++ r2) (c' ∷ []) (d' ∷ []) ∙ append_assoc r1 r2 (c' ∷ d' ∷ [])))
                  (turn_unpivot (is_word keyword.Unpivot (spelled_word keyword.Unpivot) t' e1) f1.spells (is_sign mark.OpenRound o' e2) (the_name m m' e4) (is_reserved fixed.For f' e5) (the_name q q' e6) (is_reserved fixed.In i' e7) (is_sign mark.OpenRound b' e8) f2.spells f3.spells (is_sign mark.CloseRound c' e9) (is_sign mark.CloseRound d' e3));
              same = rw f1.same (rw (name_as m m' e4) (rw (name_as q q' e6) (rw f2.same (rw f3.same refl))));
            })))))))))))))));
      }

  back_turned : (t : Option (Turned Expr)) (v : Tokens) → TurnedOf t v → length v < suc n → Back TurnedOf (option_map (bare_turned as_is bare)) (if_there (turned_pieces expr_pieces) t) t
  back_turned _ _ turned_none lt = record { back = λ ts h. nothing (Found TurnedOf (option_map (bare_turned as_is bare)) None) ts h (record { tree = None; spells = turned_none; same = refl }) }
  back_turned _ _ (turned_is {x = t} {a = a} {u = u} {v = v} z i) lt =
      let long = length-append u v in
      record {
        back = λ ts h. split (Found TurnedOf (option_map (bare_turned as_is bare)) (Some (record { turn = t; alias = a }))) ts h (λ p q cp cq.
            let f = (back_turn t u z (omega arith)).back p cp in
            let g = (back_from_alias a).back q cq in
            record { tree = Some (record { turn = f.tree; alias = g.tree }); spells = turned_is f.spells g.spells; same = rw f.same (rw g.same refl) });
      }

  -- ---- items of FROM

  primary_by : (y : Primary) (p : Primary-F Expr Primary Term FromItem Joined Query Select) → out-Primary y ≡ p → ((ts : Tokens) → Carries (primary_at p) ts → Found PrimaryOf (BarePrimary as_is) y ts) → Back PrimaryOf (BarePrimary as_is) (primary_pieces y) y
  primary_by y p e f = record { back = λ ts c. f ts (carry (print_primary y ∙ ap primary_at e) ts c) }

  pub back_primary : (y : Primary) (v : Tokens) → PrimaryOf y v → length v < suc n → Back PrimaryOf (BarePrimary as_is) (primary_pieces y) y
  back_primary _ _ (primary_table {n = m} {a = a} {x = t} {u = u} {v = v} i ai ti) lt =
      let long = length-append u v in
      let whole = primary.Table (name_at m) a t m.start in
      primary_by whole (ast.Table (name_at m) a t m.start) (primary.outs-Table (name_at m) a t m.start) (λ ts h. one (Found PrimaryOf (BarePrimary as_is) whole) ts h (λ m' w e h. split (λ w. Found PrimaryOf (BarePrimary as_is) whole (m' ∷ w)) w h (λ p q cp cq.
      let f = (back_from_alias a).back p cp in
      let g = (back_turned t v ti (omega arith)).back q cq in
      record {
        tree = primary.Table (name_at m') f.tree g.tree m'.start;
        spells = primary_table (the_name m m' e) f.spells g.spells;
        same = same_primary as_is (primary.Table (name_at m') f.tree g.tree m'.start) whole (ast.Table (name_at m') f.tree g.tree m'.start) (ast.Table (name_at m) a t m.start) (primary.outs-Table (name_at m') f.tree g.tree m'.start) (primary.outs-Table (name_at m) a t m.start)
            (rw (name_as m m' e) (rw f.same (rw g.same refl)));
      })))
  back_primary _ _ (primary_query {o = o} {c = c} {q = y} {a = a} {x = t} {u = u} {v = v} {y = w} io z ic ai ti) lt =
      let l1 = length-append w (c ∷ (u ++ v)) in let l2 = length-append u v in
      let whole = primary.Query y a t o.start in
      primary_by whole (Primary-F.«Primary::Query» y a t o.start) (primary.outs-Query y a t o.start) (λ ts h.
      split (Found PrimaryOf (BarePrimary as_is) whole) ts (carry (in_three (bracketed (canon_pieces y)) (alias_pieces a) (if_there (turned_pieces expr_pieces) t)) ts h) (λ p q cp cq. split (λ q. Found PrimaryOf (BarePrimary as_is) whole (p ++ q)) q cq (λ q1 q2 c1 c2.
      enclosed QueryOf (BareQuery as_is) (canon_pieces y) y (x.query y w z (omega arith)) (λ p. Found PrimaryOf (BarePrimary as_is) whole (p ++ (q1 ++ q2))) (λ o' c' p io' d ic'.
      let f = (back_from_alias a).back q1 c1 in
      let g = (back_turned t v ti (omega arith)).back q2 c2 in
      let tree = primary.Query d.tree f.tree g.tree o'.start in
      record {
        tree = tree;
        spells = subst (λ (z : Tokens). PrimaryOf tree (o' ∷ z)) (sym (append_assoc p (c' ∷ []) (q1 ++ q2))) (primary_query io' d.spells ic' f.spells g.spells);
        same = same_primary as_is tree whole (Primary-F.«Primary::Query» d.tree f.tree g.tree o'.start) (Primary-F.«Primary::Query» y a t o.start) (primary.outs-Query d.tree f.tree g.tree o'.start) (primary.outs-Query y a t o.start)
            (rw d.same (rw f.same (rw g.same refl)));
      }) p cp)))
  back_primary _ _ (primary_path {n = m} {t = t} {m = q} {ns = ns} {a = a} {d = d} {u = u} {v = v} {y = w} im it iq nw ai di) lt =
      let whole = primary.Path (name_at m ∷ name_at q ∷ ns) a d m.start in
      primary_by whole (ast.Path (name_at m ∷ name_at q ∷ ns) a d m.start) (primary.outs-Path (name_at m ∷ name_at q ∷ ns) a d m.start) (λ ts h.
      one (Found PrimaryOf (BarePrimary as_is) whole) ts (carry (in_three (path_pieces (name_at m ∷ name_at q ∷ ns)) (alias_pieces a) (if_there offset_pieces d)) ts h) (λ m' w e1 h. one (λ w. Found PrimaryOf (BarePrimary as_is) whole (m' ∷ w)) w h (λ t' w e2 h. one (λ w. Found PrimaryOf (BarePrimary as_is) whole (m' ∷ t' ∷ w)) w h (λ q' w e3 h.
      split (λ w. Found PrimaryOf (BarePrimary as_is) whole (m' ∷ t' ∷ q' ∷ w)) w h (λ p1 w c1 h. split (λ w. Found PrimaryOf (BarePrimary as_is) whole (m' ∷ t' ∷ q' ∷ (p1 ++ w))) w h (λ p2 p3 c2 c3.
      let f1 = (back_dots ns).back p1 c1 in
      let f2 = (back_from_alias a).back p2 c2 in
      let f3 = (back_place d).back p3 c3 in
      let tree = primary.Path (name_at m' ∷ name_at q' ∷ f1.tree) f2.tree f3.tree m'.start in
      record {
        tree = tree;
        spells = primary_path (the_name m m' e1) (is_sign mark.Dot t' e2) (the_name q q' e3) f1.spells f2.spells f3.spells;
        same = same_primary as_is tree whole (ast.Path (name_at m' ∷ name_at q' ∷ f1.tree) f2.tree f3.tree m'.start) (ast.Path (name_at m ∷ name_at q ∷ ns) a d m.start) (primary.outs-Path (name_at m' ∷ name_at q' ∷ f1.tree) f2.tree f3.tree m'.start) (primary.outs-Path (name_at m ∷ name_at q ∷ ns) a d m.start)
            (rw (name_as m m' e1) (rw (name_as q q' e3) (rw f1.same (rw f2.same (rw f3.same refl)))));
      }))))))
  back_primary _ _ (primary_unnest {t = t} {o = o} {c = c} {x = b} {a = a} {d = d} {u = u} {v = v} {y = w} it io z ic ai di) lt =
      let l1 = length-append w (c ∷ (u ++ v)) in
      let whole = primary.Unnest b a d t.start in
      primary_by whole (ast.Unnest b a d t.start) (primary.outs-Unnest b a d t.start) (λ ts h.
      one (Found PrimaryOf (BarePrimary as_is) whole) ts (carry (in_three (word fixed.Unnest ∷ bracketed (expr_pieces b)) (alias_pieces a) (if_there offset_pieces d)) ts h) (λ t' w' e h.
      split (λ w. Found PrimaryOf (BarePrimary as_is) whole (t' ∷ w)) w' h (λ p q cp cq. split (λ q. Found PrimaryOf (BarePrimary as_is) whole (t' ∷ (p ++ q))) q cq (λ q1 q2 c1 c2.
      enclosed ExprOf bare (expr_pieces b) b (x.expr b w z (omega arith)).whole (λ p. Found PrimaryOf (BarePrimary as_is) whole (t' ∷ (p ++ (q1 ++ q2)))) (λ o' c' p io' f ic'.
      let g = (back_from_alias a).back q1 c1 in
      let k = (back_place d).back q2 c2 in
      let tree = primary.Unnest f.tree g.tree k.tree t'.start in
      record {
        tree = tree;
        spells = subst (λ (z : Tokens). PrimaryOf tree (t' ∷ o' ∷ z)) (sym (append_assoc p (c' ∷ []) (q1 ++ q2))) (primary_unnest (is_reserved fixed.Unnest t' e) io' f.spells ic' g.spells k.spells);
        same = same_primary as_is tree whole (ast.Unnest f.tree g.tree k.tree t'.start) (ast.Unnest b a d t.start) (primary.outs-Unnest f.tree g.tree k.tree t'.start) (primary.outs-Unnest b a d t.start)
            (rw f.same (rw g.same (rw k.same refl)));
      }) p cp))))
