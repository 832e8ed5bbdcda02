-- The print of each query is a run of tokens that are read back, where the tokens of a text spell it.
use Rattle.std.proofs.Common.{ℕ, zero, suc, List, [], length, arith, ◌∷◌, ◌++◌, map, Option}
use Rattle.sql_types.specs.declared.kinds.SetKind.{SetKind}
use Rattle.sql_names.specs.declared.words.Reserved.TheVariants as r
use Rattle.sql_ast.specs.declared.clauses.FilterPart.{FilterPart}
use Rattle.sql_ast.specs.declared.expr.Expr.{Expr}
use Rattle.sql_ast.specs.declared.query.Cte.{Cte}
use Rattle.sql_ast.specs.declared.query.FromItem.{FromItem}
use Rattle.sql_ast.specs.declared.query.Query.{Query, out-roll-Query}
use Rattle.sql_ast.specs.declared.query.Select.{Select, out-roll-Select}
use Rattle.sql_ast.specs.declared.query.SetTerm.{SetTerm}
use Rattle.sql_ast.specs.declared.query.Term.{Term}
use Rattle.sql_ast.specs.declared.query.Term.TheVariants as term
use Rattle.sql_ast.specs.Marks.{Tokens}
use Rattle.sql_ast.specs.Trees.{set_word, set_quantifier}
use Rattle.sql_ast.specs.Grammar.{QueryOf, query_is, CtesOf, ctes_none, ctes_are, CteCommasOf, cte_commas_none, cte_commas_more, CteOf, cte_is, body_is, SetTermsOf, set_terms_none, set_terms_more, TermOf, term_select, term_query, SelectOf, select_is, WhereOf, where_none, where_is, HavingOf, having_none, having_is, FromPartOf, from_none, from_is}
use Rattle.sql_ast.specs.Pieces.{word, after_commas, if_there}
use Rattle.sql_ast.specs.Canon.{canon_pieces}
use Rattle.sql_print.specs.PartPieces.{run, having_pieces, cte_pieces, ctes_pieces, set_term_pieces}
use Rattle.sql_print.specs.QueryPieces.{clause_pieces}
use Rattle.sql_print.specs.TreePieces.{expr_pieces, term_pieces, from_pieces, select_pieces}
use Rattle.sql_print.proofs.Flows.{Goods, Flow, flow_none, beside}
use Rattle.sql_print.proofs.FlowParts.{a_word, a_comma, in_brackets, so, the_name}
use Rattle.sql_print.proofs.Held.{Held, hd, tl, fr, bk, inside, Inner}
use Rattle.sql_print.proofs.FlowNodes.{as_query, as_term, as_select}
use Rattle.sql_print.proofs.FlowCalls.{flow_order}
use Rattle.sql_print.proofs.FlowItems.{flow_item, flow_items}
use Rattle.sql_print.proofs.FlowFroms.{flow_from}
use Rattle.sql_print.proofs.FlowGroups.{flow_grouping}
use Rattle.sql_print.proofs.FlowExprs.{flow_expr, flow_postfix}
use Rattle.sql_print.proofs.FlowLimits.{flow_limit}

module _ (size : ℕ) (inner : Inner size) where
  flow_from_part : (f : Option FromItem) (u : Tokens) → FromPartOf f u → Held size u → Flow (clause_pieces from_pieces r.From f)
  flow_from_part _ _ from_none g = flow_none
  flow_from_part _ _ (from_is i z) g = beside (a_word r.From) (flow_from size inner _ _ z (tl g))

  flow_where : (a : Option Expr) (u : Tokens) → WhereOf a u → Held size u → Flow (clause_pieces expr_pieces r.Where a)
  flow_where _ _ where_none g = flow_none
  flow_where _ _ (where_is i z) g = beside (a_word r.Where) (inner.expr _ _ z (tl g))

  flow_having : (a : Option (FilterPart Expr)) (u : Tokens) → HavingOf a u → Held size u → Flow (if_there (having_pieces expr_pieces) a)
  flow_having _ _ having_none g = flow_none
  flow_having _ _ (having_is i z) g = beside (a_word r.Having) (inner.expr _ _ z (tl g))

  flow_select : (q : Select) (u : Tokens) → SelectOf q u → Held (suc size) u → Flow (select_pieces q)
  flow_select _ _ (select_is {d = d} {b = b} {u = u} {v = v} {x = x} {y = y} {z = z} {m = m} {k = k} {j = j} i di bi ki ks fi ci gi hi) g =
      let g1 = bk v (bk u (inside g)) in let g2 = bk x g1 in let g3 = bk y g2 in let g4 = bk z g3 in let g5 = bk m g4 in
      as_select _ _ (out-roll-Select _) (beside (a_word r.Select) (beside (beside (beside (beside (beside (beside (so d (word r.Distinct ∷ []) (a_word r.Distinct)) (so b (word r.As ∷ word r.Struct ∷ []) (beside (a_word r.As) (a_word r.Struct))))
      (beside (flow_item size inner _ _ ki (fr (y ++ (z ++ (m ++ (k ++ j)))) g1)) (flow_items size inner _ _ ks (fr (z ++ (m ++ (k ++ j))) g2)))) (flow_from_part _ _ fi (fr (m ++ (k ++ j)) g3))) (flow_where _ _ ci (fr (k ++ j) g4))) (flow_grouping size inner _ _ gi (fr j g5))) (flow_having _ _ hi (bk k g5))))

  flow_term : (a : Term) (u : Tokens) → TermOf a u → Held (suc size) u → Flow (term_pieces a)
  flow_term _ _ (term_select z) g = as_term _ _ (term.outs-Select _) (flow_select _ _ z g)
  flow_term _ _ (term_query {c = qc} i z c) g = as_term _ _ (term.outs-Query _ _) (in_brackets (inner.query _ _ z (fr (qc ∷ []) (inside g))))

  flow_sets : (k : SetKind) (ms : List (SetTerm Term)) (u : Tokens) → SetTermsOf k ms u → Held (suc size) u → Flow (run (set_term_pieces term_pieces) ms)
  flow_sets _ _ _ set_terms_none g = flow_none
  flow_sets _ _ _ (set_terms_more {k = k} {u = qu} {v = qv} i j z y) g = beside (beside (a_word (set_word k)) (beside (a_word (set_quantifier k)) (flow_term _ _ z (fr qv (tl (tl g)))))) (flow_sets _ _ _ y (bk qu (tl (tl g))))

  flow_cte : (a : Cte Query) (u : Tokens) → CteOf a u → Held (suc size) u → Flow (cte_pieces canon_pieces a)
  flow_cte _ _ (cte_is {n = n} {c = qc} i j o z c) g = beside (the_name n i (hd g)) (beside (a_word r.As) (in_brackets (inner.query _ _ z (fr (qc ∷ []) (tl (tl (inside g)))))))

  flow_cte_commas : (cs : List (Cte Query)) (u : Tokens) → CteCommasOf cs u → Held (suc size) u → Flow (after_commas (map (cte_pieces canon_pieces) cs))
  flow_cte_commas _ _ cte_commas_none g = flow_none
  flow_cte_commas _ _ (cte_commas_more {u = qu} {v = qv} i z y) g = beside (beside a_comma (flow_cte _ _ z (fr qv (tl g)))) (flow_cte_commas _ _ y (bk qu (tl g)))

  flow_ctes : (cs : List (Cte Query)) (u : Tokens) → CtesOf cs u → Held (suc size) u → Flow (ctes_pieces canon_pieces cs)
  flow_ctes _ _ ctes_none g = flow_none
  flow_ctes _ _ (ctes_are {u = qu} {v = qv} i z y) g = beside (a_word r.With) (beside (flow_cte _ _ z (fr qv (tl g))) (flow_cte_commas _ _ y (bk qu (tl g))))

  query_flow : (q : Query) (u : Tokens) → QueryOf q u → Held (suc size) u → Flow (canon_pieces q)
  query_flow _ _ (query_is {u = u} {x = x} {y = y} ci (body_is {u = p} {v = w} ti si) oi ki) g =
      let g1 = fr (x ++ y) (bk u g) in let g2 = bk (p ++ w) (bk u g) in
      as_query _ _ (out-roll-Query _) (beside (beside (beside (beside (flow_ctes _ _ ci (fr ((p ++ w) ++ (x ++ y)) g)) (flow_term _ _ ti (fr w g1))) (flow_sets _ _ _ si (bk p g1))) (flow_order size inner _ _ oi (fr y g2))) (flow_limit _ _ ki (bk x g2).goods))

-- ---- whatever the length

all_inner : (n : ℕ) → Inner n
all_inner zero = record { expr = λ a u z g. none g; postfix = λ a u z g. none g; query = λ q u z g. none g }
  where
    none : {A : Type 0} {u : Tokens} → Held zero u → A
    none g = let h = g.short in absurd (omega arith)
all_inner (suc n) = let x = all_inner n in record { expr = flow_expr n x; postfix = flow_postfix n x; query = query_flow n x }

pub flow_query : (q : Query) (u : Tokens) → QueryOf q u → Goods u → Flow (canon_pieces q)
flow_query q u z g = (all_inner (suc (length u))).query q u z (record { goods = g; short = omega arith })
