-- The prints of calls, their arguments and ORDER BY are runs of tokens that are read back, if those of the expressions are.
use Rattle.std.proofs.Common.{ℕ, suc, Bool, if◌then◌else◌, List, [], ◌∷◌, ◌++◌, map, refl}
use Rattle.sql_names.specs.declared.words.Reserved.TheVariants as r
use Rattle.sql_ast.specs.declared.words.Sign.TheVariants as s
use Rattle.sql_ast.specs.declared.clauses.Arg.{Arg}
use Rattle.sql_ast.specs.declared.clauses.Call.{Call}
use Rattle.sql_ast.specs.declared.clauses.Sort.{Sort}
use Rattle.sql_ast.specs.declared.expr.Expr.{Expr}
use Rattle.sql_ast.specs.Marks.{Tokens}
use Rattle.sql_ast.specs.Grammar.{CallOf, call_is, ArgumentsOf, arguments_none, arguments_star, arguments_are, ArgsOf, args_none, args_more, ArgOf, arg_expr, arg_lambda, arg_lambda_two, arg_interval, SortOf, sort_is, SortsOf, sorts_none, sorts_more, OrderOf, order_none, order_is}
use Rattle.sql_ast.specs.Pieces.{word, sign, after_commas}
use Rattle.sql_print.specs.PartPieces.{listed, sort_pieces, order_pieces, argument_pieces, call_pieces}
use Rattle.sql_print.specs.TreePieces.{expr_pieces}
use Rattle.sql_print.proofs.Flows.{Flow, flow_none, beside, single}
use Rattle.sql_print.proofs.FlowParts.{a_word, a_comma, in_brackets, in_call, so, the_name, flow_function, flow_nulls_place, flow_nulls_part, flow_call_limit}
use Rattle.sql_print.proofs.Held.{Held, hd, tl, fr, bk, inside, Inner}
use Rattle.sql_print.proofs.FlowWords.{a_star}

module _ (size : ℕ) (inner : Inner size) where
  flow_argument : (a : Arg Expr) (u : Tokens) → ArgOf a u → Held size u → Flow (argument_pieces expr_pieces a)
  flow_argument _ _ (arg_expr z) g = inner.expr _ _ z g
  flow_argument _ _ (arg_lambda {n = n} i j z) g = beside (the_name n i (hd g)) (beside {ps = sign s.Arrow ∷ []} (single (tt, tt) refl refl) (inner.expr _ _ z (tl (tl g))))
  flow_argument _ _ (arg_lambda_two {n = n} {m = m} io i k j c t z) g =
      beside (in_brackets (beside (the_name n i (hd (tl g))) (beside a_comma (the_name m j (hd (tl (tl (tl g)))))))) (beside {ps = sign s.Arrow ∷ []} (single (tt, tt) refl refl) (inner.expr _ _ z (tl (tl (tl (tl (tl (tl g))))))))
  flow_argument _ _ (arg_interval {n = n} {u = qu} i z j) g = beside (a_word r.Interval) (beside (inner.expr _ _ z (fr (n ∷ []) (tl g))) (the_name n j (hd (bk qu (tl g)))))

  flow_args : (ms : List (Arg Expr)) (u : Tokens) → ArgsOf ms u → Held size u → Flow (after_commas (map (argument_pieces expr_pieces) ms))
  flow_args _ _ args_none g = flow_none
  flow_args _ _ (args_more {u = qu} {v = qv} i z y) g = beside (beside a_comma (flow_argument _ _ z (fr qv (tl g)))) (flow_args _ _ y (bk qu (tl g)))

  flow_arguments : (star : Bool) (ms : List (Arg Expr)) (u : Tokens) → ArgumentsOf star ms u → Held size u → Flow (if star then sign s.Star ∷ [] else listed (argument_pieces expr_pieces) ms)
  flow_arguments _ _ _ arguments_none g = flow_none
  flow_arguments _ _ _ (arguments_star i) g = a_star
  flow_arguments _ _ _ (arguments_are {u = qu} {v = qv} z y) g = beside (flow_argument _ _ z (fr qv g)) (flow_args _ _ y (bk qu g))

  flow_sort : (a : Sort Expr) (u : Tokens) → SortOf a u → Held size u → Flow (sort_pieces expr_pieces a)
  flow_sort _ _ (sort_is {d = d} {n = n} {v = qv} {x = qx} z i j) g = beside (beside (inner.expr _ _ z (fr (qv ++ qx) g)) (so d (word r.Desc ∷ []) (a_word r.Desc))) (flow_nulls_place n)

  flow_sorts : (ss : List (Sort Expr)) (u : Tokens) → SortsOf ss u → Held size u → Flow (after_commas (map (sort_pieces expr_pieces) ss))
  flow_sorts _ _ sorts_none g = flow_none
  flow_sorts _ _ (sorts_more {u = qu} {v = qv} i z y) g = beside (beside a_comma (flow_sort _ _ z (fr qv (tl g)))) (flow_sorts _ _ y (bk qu (tl g)))

  pub flow_order : (ss : List (Sort Expr)) (u : Tokens) → OrderOf ss u → Held (suc size) u → Flow (order_pieces expr_pieces ss)
  flow_order _ _ order_none g = flow_none
  flow_order _ _ (order_is {u = qu} {v = qv} i j z y) g = beside (a_word r.Order) (beside (a_word r.By) (beside (flow_sort _ _ z (fr qv (tl (inside g)))) (flow_sorts _ _ y (bk qu (tl (inside g))))))

  pub flow_call : (k : Call Expr) (u : Tokens) → CallOf k u → Held (suc size) u → Flow (call_pieces expr_pieces k)
  flow_call _ _ (call_is {f = f} {t = t} {c = qc} {d = d} {n = n} {u = u} {v = v} {x = x} {y = y} {z = qz} i o di ai ni oi ki c) g =
      beside (flow_function t f i (hd g)) (in_call (beside (beside (beside (beside (so d (word r.Distinct ∷ []) (a_word r.Distinct)) (flow_arguments _ _ _ ai (fr (x ++ (y ++ (qz ++ (qc ∷ [])))) (bk u (tl (inside g)))))) (flow_nulls_part n)) (flow_order _ _ oi (fr (qz ++ (qc ∷ [])) (bk x (bk v (bk u (tl (tl g)))))))) (flow_call_limit _ _ ki (fr (qc ∷ []) (bk y (bk x (bk v (bk u (tl (tl g))))))).goods)))
