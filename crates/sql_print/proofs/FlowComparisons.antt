-- The prints of comparisons and of NOT are runs of tokens that are read back, if those of their operands and what their brackets hold are.
use Rattle.std.proofs.Common.{ℕ, suc, [], ◌∷◌, ◌++◌}
use Rattle.sql_names.specs.declared.words.Reserved.TheVariants as r
use Rattle.sql_ast.specs.declared.expr.Expr.{Expr}
use Rattle.sql_ast.specs.declared.expr.Expr.TheVariants as e
use Rattle.sql_ast.specs.Marks.{Tokens}
use Rattle.sql_ast.specs.Trees.{nots}
use Rattle.sql_ast.specs.Grammar.{NegOf, neg_is, CompOf, comp_bor, comp_compare, comp_like, comp_like_list, comp_like_unnest, comp_between, comp_in_list, comp_in_query, comp_in_unnest, comp_is, comp_distinct, BorOf}
use Rattle.sql_print.specs.TreePieces.{expr_pieces}
use Rattle.sql_print.proofs.Flows.{Flow, beside}
use Rattle.sql_print.proofs.FlowParts.{a_word, in_brackets}
use Rattle.sql_print.proofs.Held.{Held, tl, fr, bk, inside, Inner}
use Rattle.sql_print.proofs.FlowWords.{flow_comparison, flow_quantifier, flow_test, flow_nots, negated}
use Rattle.sql_print.proofs.FlowNodes.{as_expr, op}
use Rattle.sql_print.proofs.FlowLists.{flow_list}

module _ (size : ℕ) (inner : Inner size) (below : (a : Expr) (u : Tokens) → BorOf a u → Held (suc size) u → Flow (expr_pieces a)) where
  comp_flow : (a : Expr) (u : Tokens) → CompOf a u → Held (suc size) u → Flow (expr_pieces a)
  comp_flow _ _ (comp_bor z) g = below _ _ z g
  comp_flow _ _ (comp_compare {c = k} {t = qt} {u = qu} {v = qv} z i y) g = as_expr _ _ (e.outs-Compare _ _ _ _ _) (beside (op 4 _ (below _ _ z (fr (qt ∷ qv) g))) (beside (flow_comparison k) (op 4 _ (below _ _ y (tl (bk qu g))))))
  comp_flow _ _ (comp_like {n = n} {u = qu} {x = qx} {v = qv} z i y) g = as_expr _ _ (e.outs-Like _ _ _ _ _) (beside (beside (op 4 _ (below _ _ z (fr (qx ++ qv) g))) (negated n)) (beside (a_word r.Like) (op 4 _ (below _ _ y (bk qx (bk qu g))))))
  comp_flow _ _ (comp_like_list {q = q} {t = qt} {x = qx} {o = qo} {c = qc} {u = qu} {v = qv} z i j k y c) g = as_expr _ _ (e.outs-LikeList _ _ _ _ _) (beside (op 4 _ (below _ _ z (fr (qt ∷ (qx ∷ (qo ∷ (qv ++ (qc ∷ []))))) g))) (beside (a_word r.Like) (beside (flow_quantifier q) (in_brackets (flow_list size inner _ _ y (fr (qc ∷ []) (tl (tl (inside (bk qu g))))))))))
  comp_flow _ _ (comp_like_unnest {q = q} {t = qt} {x = qx} {y = qy} {o = qo} {c = qc} {u = qu} {v = qv} z i j k o y c) g =
      as_expr _ _ (e.outs-LikeUnnest _ _ _ _ _) (beside (op 4 _ (below _ _ z (fr (qt ∷ (qx ∷ (qy ∷ (qo ∷ (qv ++ (qc ∷ [])))))) g))) (beside (a_word r.Like) (beside (flow_quantifier q) (beside (a_word r.Unnest) (in_brackets (inner.expr _ _ y (fr (qc ∷ []) (tl (tl (tl (inside (bk qu g))))))))))))
  comp_flow _ _ (comp_between {n = n} {t = qt} {u = u} {x = x} {v = v} {y = qy} z i y j m) g =
      as_expr _ _ (e.outs-Between _ _ _ _ _ _)
      (beside (beside (op 4 _ (below _ _ z (fr (x ++ (v ++ (qt ∷ qy))) g))) (negated n)) (beside (a_word r.Between) (beside (op 4 _ (below _ _ y (fr (qt ∷ qy) (bk x (bk u g))))) (beside (a_word r.And) (op 4 _ (below _ _ m (tl (bk v (bk x (bk u g))))))))))
  comp_flow _ _ (comp_in_list {n = n} {o = qo} {c = qc} {u = qu} {x = qx} {v = qv} z i o y h c) g = as_expr _ _ (e.outs-InList _ _ _ _ _) (beside (beside (op 4 _ (below _ _ z (fr (qx ++ (qo ∷ (qv ++ (qc ∷ [])))) g))) (negated n)) (beside (a_word r.In) (in_brackets (flow_list size inner _ _ y (fr (qc ∷ []) (inside (bk qx (bk qu g))))))))
  comp_flow _ _ (comp_in_query {n = n} {o = qo} {c = qc} {u = qu} {x = qx} {v = qv} z i o y c) g = as_expr _ _ (e.outs-InQuery _ _ _ _ _ _) (beside (beside (op 4 _ (below _ _ z (fr (qx ++ (qo ∷ (qv ++ (qc ∷ [])))) g))) (negated n)) (beside (a_word r.In) (in_brackets (inner.query _ _ y (fr (qc ∷ []) (inside (bk qx (bk qu g))))))))
  comp_flow _ _ (comp_in_unnest {n = n} {y = qy} {o = qo} {c = qc} {u = qu} {x = qx} {v = qv} z i j o y c) g =
      as_expr _ _ (e.outs-InUnnest _ _ _ _ _) (beside (beside (op 4 _ (below _ _ z (fr (qx ++ (qy ∷ (qo ∷ (qv ++ (qc ∷ []))))) g))) (negated n)) (beside (a_word r.In) (beside (a_word r.Unnest) (in_brackets (inner.expr _ _ y (fr (qc ∷ []) (tl (inside (bk qx (bk qu g))))))))))
  comp_flow _ _ (comp_is {n = n} {i = i} {t = qt} {x = qx} z j k) g = as_expr _ _ (e.outs-Is _ _ _ _ _) (beside (op 4 _ (below _ _ z (fr (qx ++ (qt ∷ [])) g))) (beside (a_word r.Is) (beside (negated n) (flow_test i))))
  comp_flow _ _ (comp_distinct {n = n} {t = qt} {y = qy} {u = qu} {x = qx} {v = qv} z i j k y) g =
      as_expr _ _ (e.outs-Distinct _ _ _ _ _) (beside (op 4 _ (below _ _ z (fr (qx ++ (qt ∷ (qy ∷ qv))) g))) (beside (a_word r.Is) (beside (negated n) (beside (a_word r.Distinct) (beside (a_word r.From) (op 4 _ (below _ _ y (tl (tl (bk qx (bk qu g)))))))))))

  pub neg_flow : (a : Expr) (u : Tokens) → NegOf a u → Held (suc size) u → Flow (expr_pieces a)
  unfolding nots
  neg_flow _ _ (neg_is {ps = []} {u = qu} z y) g = comp_flow _ _ y (bk qu g)
  neg_flow _ _ (neg_is {ps = p ∷ ps} {u = qu} z y) g = as_expr _ _ (e.outs-Not _ _ _) (beside (flow_nots (p ∷ ps)) (op 3 _ (comp_flow _ _ y (bk qu g))))
