-- The prints of PIVOT and UNPIVOT are runs of tokens that are read back, if those of the expressions are.
use Rattle.std.proofs.Common.{ℕ, List, [], ◌∷◌, ◌++◌, map, Option}
use Rattle.sql_names.specs.declared.words.Reserved.TheVariants as r
use Rattle.sql_ast.specs.declared.words.Word.TheVariants as w
use Rattle.sql_ast.specs.declared.clauses.Aliased.{Aliased}
use Rattle.sql_ast.specs.declared.clauses.PivotCall.{PivotCall}
use Rattle.sql_ast.specs.declared.clauses.Turn.{Turn}
use Rattle.sql_ast.specs.declared.clauses.Turned.{Turned}
use Rattle.sql_ast.specs.declared.expr.Expr.{Expr}
use Rattle.sql_ast.specs.Marks.{Tokens}
use Rattle.sql_ast.specs.Grammar.{TurnedOf, turned_none, turned_is, TurnOf, turn_pivot, turn_unpivot, PivotCallOf, pivot_call, PivotCallsOf, pivot_calls_none, pivot_calls_more, PivotValueOf, pivot_value, PivotValuesOf, pivot_values_none, pivot_values_more}
use Rattle.sql_ast.specs.Pieces.{word, read_word, after_commas, if_there}
use Rattle.sql_print.specs.PartPieces.{aliased_pieces, pivot_call_pieces, turn_pieces, turned_pieces}
use Rattle.sql_print.specs.TreePieces.{expr_pieces}
use Rattle.sql_print.proofs.Flows.{Flow, flow_none, beside}
use Rattle.sql_print.proofs.FlowParts.{a_word, a_read, a_comma, in_brackets, so, the_name, flow_alias, flow_from_alias, flow_dots, flow_column, flow_columns}
use Rattle.sql_print.proofs.Held.{Held, hd, tl, fr, bk, wider, Inner}
use Rattle.sql_print.proofs.FlowCalls.{flow_call}

module _ (size : ℕ) (inner : Inner size) where
  flow_pivot_call : (k : PivotCall Expr) (u : Tokens) → PivotCallOf k u → Held size u → Flow (pivot_call_pieces expr_pieces k)
  flow_pivot_call _ _ (pivot_call {u = qu} {v = qv} z y) g = beside (flow_call size inner _ _ z (wider (fr qv g))) (flow_alias _ _ y (bk qu g).goods)

  flow_pivot_calls : (ks : List (PivotCall Expr)) (u : Tokens) → PivotCallsOf ks u → Held size u → Flow (after_commas (map (pivot_call_pieces expr_pieces) ks))
  flow_pivot_calls _ _ pivot_calls_none g = flow_none
  flow_pivot_calls _ _ (pivot_calls_more {u = qu} {v = qv} i z y) g = beside (beside a_comma (flow_pivot_call _ _ z (fr qv (tl g)))) (flow_pivot_calls _ _ y (bk qu (tl g)))

  flow_pivot_value : (x : Aliased Expr) (u : Tokens) → PivotValueOf x u → Held size u → Flow (aliased_pieces expr_pieces x)
  flow_pivot_value _ _ (pivot_value {u = qu} {v = qv} z y) g = beside (inner.expr _ _ z (fr qv g)) (flow_alias _ _ y (bk qu g).goods)

  flow_pivot_values : (xs : List (Aliased Expr)) (u : Tokens) → PivotValuesOf xs u → Held size u → Flow (after_commas (map (aliased_pieces expr_pieces) xs))
  flow_pivot_values _ _ pivot_values_none g = flow_none
  flow_pivot_values _ _ (pivot_values_more {u = qu} {v = qv} i z y) g = beside (beside a_comma (flow_pivot_value _ _ z (fr qv (tl g)))) (flow_pivot_values _ _ y (bk qu (tl g)))

  flow_turn : (x : Turn Expr) (u : Tokens) → TurnOf x u → Held size u → Flow (turn_pieces expr_pieces x)
  flow_turn _ _ (turn_pivot {f = qf} {n = n} {i = qi} {b = qb} {c = qc} {d = qd} {u = qu} {v = qv} {y = qy} {z = qz} {m = qm} i o k ks f j d a b x xs c m) g =
      beside (a_read w.Pivot) (in_brackets (beside (beside (flow_pivot_call _ _ k (fr (qv ++ (qf ∷ (n ∷ (qy ++ (qi ∷ (qb ∷ (qz ++ (qm ++ (qc ∷ (qd ∷ [])))))))))) (tl (tl g)))) (flow_pivot_calls _ _ ks (fr (qf ∷ (n ∷ (qy ++ (qi ∷ (qb ∷ (qz ++ (qm ++ (qc ∷ (qd ∷ []))))))))) (bk qu (tl (tl g)))))) (beside (a_word r.For) (beside (beside (the_name n j (hd (tl (bk qv (bk qu (tl (tl g))))))) (flow_dots _ _ d (fr (qi ∷ (qb ∷ (qz ++ (qm ++ (qc ∷ (qd ∷ [])))))) (tl (tl (bk qv (bk qu (tl (tl g))))))).goods))
      (beside (a_word r.In) (in_brackets (beside (flow_pivot_value _ _ x (fr (qm ++ (qc ∷ (qd ∷ []))) (tl (tl (bk qy (tl (tl (bk qv (bk qu (tl (tl g))))))))))) (flow_pivot_values _ _ xs (fr (qc ∷ (qd ∷ [])) (bk qz (tl (tl (bk qy (tl (tl (bk qv (bk qu (tl (tl g)))))))))))))))))))
  flow_turn _ _ (turn_unpivot {n = n} {m = m} {c = qc} {d = qd} {k = k} {u = qu} {v = qv} {y = qy} i x o j f h a b z y c d) g =
      beside (a_read w.Unpivot) (beside (so k (read_word w.Include ∷ word r.Nulls ∷ []) (beside (a_read w.Include) (a_word r.Nulls))) (in_brackets (beside (the_name n j (hd (tl (bk qu (tl g))))) (beside (a_word r.For) (beside (the_name m h (hd (tl (tl (tl (bk qu (tl g))))))) (beside (a_word r.In)
      (in_brackets (beside (flow_column _ _ z (fr (qy ++ (qc ∷ (qd ∷ []))) (tl (tl (tl (tl (tl (tl (bk qu (tl g))))))))).goods) (flow_columns _ _ y (fr (qc ∷ (qd ∷ [])) (bk qv (tl (tl (tl (tl (tl (tl (bk qu (tl g)))))))))).goods)))))))))

  pub flow_turned : (x : Option (Turned Expr)) (u : Tokens) → TurnedOf x u → Held size u → Flow (if_there (turned_pieces expr_pieces) x)
  flow_turned _ _ turned_none g = flow_none
  flow_turned _ _ (turned_is {u = qu} {v = qv} z y) g = beside (flow_turn _ _ z (fr qv g)) (flow_from_alias _ _ y (bk qu g).goods)
