-- Calls are spelled by the tokens of their prints, if the expressions in them are.
use Rattle.std.proofs.Common.{◌≡◌, ℕ, suc, ◌<◌, Bool, true, false, List, [], ◌∷◌, ◌++◌, length, map, Some, refl, sym, ◌∙◌, ap, subst, arith}
use Rattle.std.proofs.lemmas.List.{length-append, append_assoc}
use Rattle.sql_names.specs.declared.words.Reserved.TheVariants as r
use Rattle.sql_ast.specs.declared.words.Sign.TheVariants as s
use Rattle.sql_ast.specs.declared.token.Token.{Token}
use Rattle.sql_ast.specs.declared.token.Lexeme.TheVariants as l
use Rattle.sql_ast.specs.declared.clauses.Arg.{Arg}
use Rattle.sql_ast.specs.declared.clauses.Arg.TheVariants as arg
use Rattle.sql_ast.specs.declared.clauses.Call.{Call}
use Rattle.sql_ast.specs.declared.clauses.Function.{Function}
use Rattle.sql_ast.specs.declared.clauses.Function.TheVariants as function
use Rattle.sql_ast.specs.declared.clauses.Sort.{Sort}
use Rattle.sql_ast.specs.declared.expr.Expr.{Expr}
use Rattle.sql_ast.specs.Marks.{Tokens, Is, named, start_of}
use Rattle.sql_ast.specs.Trees.{name_at, function_lexeme}
use Rattle.sql_ast.specs.Grammar.{SortOf, sort_is, SortsOf, sorts_none, sorts_more, OrderOf, order_none, order_is, ArgOf, arg_expr, arg_lambda, arg_lambda_two, arg_interval, ArgsOf, args_none, args_more, ArgumentsOf, arguments_none, arguments_star, arguments_are, CallOf, call_is}
use Rattle.sql_ast.specs.Pieces.{word, after_commas, if_so, if_there, word_if_plain}
use Rattle.sql_ast.specs.Canon.{function_piece, nulls_place_pieces, nulls_part_pieces, call_limit}
use Rattle.sql_same.specs.Bare.{as_is, bare_name, bare_function, bare_sort, bare_argument, bare_call, BareExpr}
use Rattle.sql_print.specs.PartPieces.{sort_pieces, order_pieces, argument_pieces, star_or_arguments, call_pieces}
use Rattle.sql_print.specs.TreePieces.{expr_pieces}
use Rattle.sql_print.proofs.Carried.{Carries, carries_more, Found, Back, split, one, nothing, carry, in_three, in_five, is_reserved, is_sign, is_named}
use Rattle.sql_print.proofs.BackNames.{name_same, back_direction, back_nulls_place, back_distinct, back_nulls_part, back_call_limit}
use Rattle.sql_print.proofs.BackLists.{Inner}

abbrev bare : Expr → Expr
bare = BareExpr as_is

abbrev bare_sorts : List (Sort Expr) → List (Sort Expr)
bare_sorts = map (bare_sort bare)

abbrev bare_arguments : List (Arg Expr) → List (Arg Expr)
bare_arguments = map (bare_argument as_is bare)

function_said : (f : Function) → function_lexeme (function_piece f).lexeme ≡ Some f
function_said function.If = refl
function_said (function.Named text) = refl

function_bare : (f : Function) → bare_function as_is f ≡ f
function_bare function.If = refl
function_bare (function.Named text) = refl

regroup : (u v x y z w : Tokens) → (u ++ (v ++ (x ++ (y ++ z)))) ++ w ≡ u ++ (v ++ (x ++ (y ++ (z ++ w))))
regroup u v x y z w =
    append_assoc u (v ++ (x ++ (y ++ z))) w
    ∙ ap (λ (m : Tokens). u ++ m) (append_assoc v (x ++ (y ++ z)) w ∙ ap (λ (m : Tokens). v ++ m) (append_assoc x (y ++ z) w ∙ ap (λ (m : Tokens). x ++ m) (append_assoc y z w)))

module _ (n : ℕ) (x : Inner n) where
  -- ---- sorts

  back_sort : (o : Sort Expr) (v : Tokens) → SortOf o v → length v < n → Back SortOf (bare_sort bare) (sort_pieces expr_pieces o) o
  back_sort _ _ (sort_is {a = a} {d = d} {n = k} {u = u} {v = v} {x = m} z i j) lt =
      let long = length-append u (v ++ m) in record {
        back = λ ts h.
            split (Found SortOf (bare_sort bare) (record { expr = a; descending = d; nulls = k; place = start_of u })) ts (carry (in_three (expr_pieces a) (if_so d (word r.Desc ∷ [])) (if_there nulls_place_pieces k)) ts h) (λ p q cp cq. split (λ q. Found SortOf (bare_sort bare) (record { expr = a; descending = d; nulls = k; place = start_of u }) (p ++ q)) q cq (λ q t cq ct.
            let f = (x.expr a u z (omega arith)).whole.back p cp in
            let g = (back_direction d).back q cq in
            let w = (back_nulls_place k).back t ct in
            record {
              tree = record { expr = f.tree; descending = g.tree; nulls = w.tree; place = start_of p };
              spells = sort_is f.spells g.spells w.spells;
              same = rw f.same (rw g.same (rw w.same refl));
            }));
      }

  back_sorts : (os : List (Sort Expr)) (v : Tokens) → SortsOf os v → length v < n → Back SortsOf bare_sorts (after_commas (map (sort_pieces expr_pieces) os)) os
  back_sorts _ _ sorts_none lt = record { back = λ ts h. nothing (Found SortsOf bare_sorts []) ts h (record { tree = []; spells = sorts_none; same = refl }) }
  back_sorts _ _ (sorts_more {t = t} {a = a} {ms = ms} {u = u} {v = v} i z y) lt =
      let long = length-append u v in record {
        back = λ ts h.
            one (Found SortsOf bare_sorts (a ∷ ms)) ts h (λ t w e h. split (λ w. Found SortsOf bare_sorts (a ∷ ms) (t ∷ w)) w h (λ p q cp cq.
            let f = (back_sort a u z (omega arith)).back p cp in
            let g = (back_sorts ms v y (omega arith)).back q cq in
            record { tree = f.tree ∷ g.tree; spells = sorts_more (is_sign s.Comma t e) f.spells g.spells; same = rw f.same (ap (λ (m : List (Sort Expr)). bare_sort bare a ∷ m) g.same) }));
      }

  pub back_order : (os : List (Sort Expr)) (v : Tokens) → OrderOf os v → length v < suc n → Back OrderOf bare_sorts (order_pieces expr_pieces os) os
  back_order _ _ order_none lt = record { back = λ ts h. nothing (Found OrderOf bare_sorts []) ts h (record { tree = []; spells = order_none; same = refl }) }
  back_order _ _ (order_is {t = t} {b = b} {a = a} {ms = ms} {u = u} {v = v} i j z y) lt =
      let long = length-append u v in record {
        back = λ ts h.
            one (Found OrderOf bare_sorts (a ∷ ms)) ts h (λ t w e h. one (λ w. Found OrderOf bare_sorts (a ∷ ms) (t ∷ w)) w h (λ b w e' h. split (λ w. Found OrderOf bare_sorts (a ∷ ms) (t ∷ b ∷ w)) w h (λ p q cp cq.
            let f = (back_sort a u z (omega arith)).back p cp in
            let g = (back_sorts ms v y (omega arith)).back q cq in
            record { tree = f.tree ∷ g.tree; spells = order_is (is_reserved r.Order t e) (is_reserved r.By b e') f.spells g.spells; same = rw f.same (ap (λ (m : List (Sort Expr)). bare_sort bare a ∷ m) g.same) })));
      }

  -- ---- arguments

  named_as : (m t : Token) → t.lexeme ≡ l.Name (name_at m).text (word_if_plain (name_at m).text) → Is named t
  named_as m t e = is_named (name_at m).text (word_if_plain (name_at m).text) t e

  name_as : (m t : Token) → t.lexeme ≡ l.Name (name_at m).text (word_if_plain (name_at m).text) → bare_name as_is (name_at t) ≡ bare_name as_is (name_at m)
  name_as m t e = name_same (name_at m).text (word_if_plain (name_at m).text) t (name_at m).place e

  back_argument : (a : Arg Expr) (v : Tokens) → ArgOf a v → length v < n → Back ArgOf (bare_argument as_is bare) (argument_pieces expr_pieces a) a
  back_argument _ _ (arg_expr {a = a} {u = u} z) lt = record { back = λ ts h. let f = (x.expr a u z lt).whole.back ts h in record { tree = arg.Expr f.tree; spells = arg_expr f.spells; same = ap (λ y. arg.Expr y) f.same } }
  back_argument _ _ (arg_lambda {n = m} {t = t} {a = a} {u = u} i j z) lt = record { back = by }
    where
      by : (ts : Tokens) → Carries (argument_pieces expr_pieces (arg.Lambda (name_at m ∷ []) a m.start)) ts → Found ArgOf (bare_argument as_is bare) (arg.Lambda (name_at m ∷ []) a m.start) ts
      by _ (carries_more {t = m'} e _ (carries_more {t = t'} {ts = w} e' _ h)) =
          let f = (x.expr a u z (omega arith)).whole.back w h in
          record {
            tree = arg.Lambda (name_at m' ∷ []) f.tree m'.start;
            spells = arg_lambda (named_as m m' e) (is_sign s.Arrow t' e') f.spells;
            same = rw (name_as m m' e) (ap (λ (y : Expr). arg.Lambda (bare_name as_is (name_at m) ∷ []) y 0) f.same);
          }
  back_argument _ _ (arg_lambda_two {o = o} {n = m} {k = k} {m = q} {c = c} {t = t} {a = a} {u = u} io im ik iq ic it z) lt = record { back = by }
    where
      by : (ts : Tokens) → Carries (argument_pieces expr_pieces (arg.Lambda (name_at m ∷ name_at q ∷ []) a o.start)) ts → Found ArgOf (bare_argument as_is bare) (arg.Lambda (name_at m ∷ name_at q ∷ []) a o.start) ts
      by _ (carries_more {t = o'} e _ (carries_more {t = m'} e1 _ (carries_more {t = k'} e2 _ (carries_more {t = q'} e3 _ (carries_more {t = c'} e4 _ (carries_more {t = t'} {ts = w} e5 _ h)))))) =
          let f = (x.expr a u z (omega arith)).whole.back w h in
          record {
            tree = arg.Lambda (name_at m' ∷ name_at q' ∷ []) f.tree o'.start;
            spells = arg_lambda_two (is_sign s.OpenRound o' e) (named_as m m' e1) (is_sign s.Comma k' e2) (named_as q q' e3) (is_sign s.CloseRound c' e4) (is_sign s.Arrow t' e5) f.spells;
            same = rw (name_as m m' e1) (rw (name_as q q' e3) (ap (λ (y : Expr). arg.Lambda (bare_name as_is (name_at m) ∷ bare_name as_is (name_at q) ∷ []) y 0) f.same));
          }
  back_argument _ _ (arg_interval {t = t} {n = m} {a = a} {u = u} i z j) lt =
      let long = length-append u (m ∷ []) in record {
        back = λ ts h.
            one (Found ArgOf (bare_argument as_is bare) (arg.Interval a (name_at m) t.start)) ts h (λ t' w e h. split (λ w. Found ArgOf (bare_argument as_is bare) (arg.Interval a (name_at m) t.start) (t' ∷ w)) w h (λ p q cp cq.
            one (λ q. Found ArgOf (bare_argument as_is bare) (arg.Interval a (name_at m) t.start) (t' ∷ (p ++ q))) q cq (λ m' q e' cq. nothing (λ q. Found ArgOf (bare_argument as_is bare) (arg.Interval a (name_at m) t.start) (t' ∷ (p ++ (m' ∷ q)))) q cq (
            let f = (x.expr a u z (omega arith)).whole.back p cp in
            record {
              tree = arg.Interval f.tree (name_at m') t'.start;
              spells = arg_interval (is_reserved r.Interval t' e) f.spells (named_as m m' e');
              same = rw (name_as m m' e') (ap (λ (y : Expr). arg.Interval y (bare_name as_is (name_at m)) 0) f.same);
            }))));
      }

  back_arguments_behind : (cs : List (Arg Expr)) (v : Tokens) → ArgsOf cs v → length v < n → Back ArgsOf bare_arguments (after_commas (map (argument_pieces expr_pieces) cs)) cs
  back_arguments_behind _ _ args_none lt = record { back = λ ts h. nothing (Found ArgsOf bare_arguments []) ts h (record { tree = []; spells = args_none; same = refl }) }
  back_arguments_behind _ _ (args_more {t = t} {a = a} {ms = ms} {u = u} {v = v} i z y) lt =
      let long = length-append u v in record {
        back = λ ts h.
            one (Found ArgsOf bare_arguments (a ∷ ms)) ts h (λ t w e h. split (λ w. Found ArgsOf bare_arguments (a ∷ ms) (t ∷ w)) w h (λ p q cp cq.
            let f = (back_argument a u z (omega arith)).back p cp in
            let g = (back_arguments_behind ms v y (omega arith)).back q cq in
            record { tree = f.tree ∷ g.tree; spells = args_more (is_sign s.Comma t e) f.spells g.spells; same = rw f.same (ap (λ (m : List (Arg Expr)). bare_argument as_is bare a ∷ m) g.same) }));
      }

  back_arguments : (star : Bool) (cs : List (Arg Expr)) (v : Tokens) → ArgumentsOf star cs v → length v < n → Back (ArgumentsOf star) bare_arguments (star_or_arguments expr_pieces star cs) cs
  back_arguments _ _ _ arguments_none lt = record { back = λ ts h. nothing (Found (ArgumentsOf false) bare_arguments []) ts h (record { tree = []; spells = arguments_none; same = refl }) }
  back_arguments _ _ _ (arguments_star i) lt = record { back = λ ts h. one (Found (ArgumentsOf true) bare_arguments []) ts h (λ t w e h. nothing (λ w. Found (ArgumentsOf true) bare_arguments [] (t ∷ w)) w h (record { tree = []; spells = arguments_star (is_sign s.Star t e); same = refl })) }
  back_arguments _ _ _ (arguments_are {a = a} {ms = ms} {u = u} {v = v} z y) lt =
      let long = length-append u v in record {
        back = λ ts h.
            split (Found (ArgumentsOf false) bare_arguments (a ∷ ms)) ts h (λ p q cp cq.
            let f = (back_argument a u z (omega arith)).back p cp in
            let g = (back_arguments_behind ms v y (omega arith)).back q cq in
            record { tree = f.tree ∷ g.tree; spells = arguments_are f.spells g.spells; same = rw f.same (ap (λ (m : List (Arg Expr)). bare_argument as_is bare a ∷ m) g.same) });
      }

  -- ---- calls

  pub back_call : (k : Call Expr) (v : Tokens) → CallOf k v → length v < suc n → Back CallOf (bare_call as_is bare) (call_pieces expr_pieces k) k
  back_call _ _ (call_is {f = f} {t = t} {o = o} {c = c} {d = d} {star = star} {ms = ms} {n = nulls} {ss = ss} {k = k} {u = u} {v = v} {x = m} {y = y} {z = z} i io di ai ni oi ki ic) lt =
      let l1 = length-append u (v ++ (m ++ (y ++ (z ++ (c ∷ []))))) in let l2 = length-append v (m ++ (y ++ (z ++ (c ∷ [])))) in let l3 = length-append m (y ++ (z ++ (c ∷ []))) in let l4 = length-append y (z ++ (c ∷ [])) in
      let call : Call Expr = record { function = f; distinct = d; star = star; arguments = ms; nulls = nulls; order = ss; limit = k; place = t.start } in
      record {
        back = λ ts h.
            one (Found CallOf (bare_call as_is bare) call) ts h (λ t' w e h. one (λ w. Found CallOf (bare_call as_is bare) call (t' ∷ w)) w h (λ o' w e' h.
            split (λ w. Found CallOf (bare_call as_is bare) call (t' ∷ o' ∷ w)) w h (λ p q cp cq. one (λ q. Found CallOf (bare_call as_is bare) call (t' ∷ o' ∷ (p ++ q))) q cq (λ c' q e'' cq. nothing (λ q. Found CallOf (bare_call as_is bare) call (t' ∷ o' ∷ (p ++ (c' ∷ q)))) q cq (
            split (λ p. Found CallOf (bare_call as_is bare) call (t' ∷ o' ∷ (p ++ (c' ∷ [])))) p (carry (in_five (if_so d (word r.Distinct ∷ [])) (star_or_arguments expr_pieces star ms) (if_there nulls_part_pieces nulls) (order_pieces expr_pieces ss) (call_limit k)) p cp) (λ p1 p cp1 cp.
            split (λ p. Found CallOf (bare_call as_is bare) call (t' ∷ o' ∷ ((p1 ++ p) ++ (c' ∷ [])))) p cp (λ p2 p cp2 cp.
            split (λ p. Found CallOf (bare_call as_is bare) call (t' ∷ o' ∷ ((p1 ++ (p2 ++ p)) ++ (c' ∷ [])))) p cp (λ p3 p cp3 cp.
            split (λ p. Found CallOf (bare_call as_is bare) call (t' ∷ o' ∷ ((p1 ++ (p2 ++ (p3 ++ p))) ++ (c' ∷ [])))) p cp (λ p4 p5 cp4 cp5.
            let a1 = (back_distinct d).back p1 cp1 in
            let a2 = (back_arguments star ms v ai (omega arith)).back p2 cp2 in
            let a3 = (back_nulls_part nulls).back p3 cp3 in
            let a4 = (back_order ss y oi (omega arith)).back p4 cp4 in
            let a5 = (back_call_limit k).back p5 cp5 in
            let tree : Call Expr = record { function = f; distinct = a1.tree; star = star; arguments = a2.tree; nulls = a3.tree; order = a4.tree; limit = a5.tree; place = t'.start } in
            record {
              tree = tree;
              spells = subst (λ (w : Tokens). CallOf tree (t' ∷ o' ∷ w)) (sym (regroup p1 p2 p3 p4 p5 (c' ∷ [])))
                  (call_is (record { is = ap function_lexeme e ∙ function_said f }) (is_sign s.OpenRound o' e') a1.spells a2.spells a3.spells a4.spells a5.spells (is_sign s.CloseRound c' e''));
              same = rw a1.same (rw a2.same (rw a3.same (rw a4.same (rw a5.same refl))));
            })))))))));
      }
