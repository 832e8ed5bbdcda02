-- The prints of what stands behind FROM are runs of tokens that are read back, if those of the expressions and queries are.
use Rattle.std.proofs.Common.{ℕ, Bool, List, ◌∷◌, ◌++◌, Option, refl}
use Rattle.sql_names.specs.declared.words.Reserved.TheVariants as r
use Rattle.sql_ast.specs.declared.clauses.On.{On}
use Rattle.sql_ast.specs.declared.expr.Expr.{Expr}
use Rattle.sql_ast.specs.declared.query.FromItem.{FromItem, out-roll-FromItem}
use Rattle.sql_ast.specs.declared.query.Joined.{Joined, out-roll-Joined}
use Rattle.sql_ast.specs.declared.query.Primary.{Primary}
use Rattle.sql_ast.specs.declared.query.Primary.TheVariants as primary
use Rattle.sql_ast.specs.Marks.{Tokens}
use Rattle.sql_ast.specs.Trees.{name_at}
use Rattle.sql_ast.specs.Grammar.{FromOf, from_are, JoinsOf, joins_none, joins_comma, joins_join, JoinOf, join_cross, join_inner, join_plain, join_left, join_right, join_full, OnPartOf, on_is, on_missing, OnOf, on_expr, on_using, PrimaryOf, primary_table, primary_query, primary_path, primary_unnest}
use Rattle.sql_ast.specs.Pieces.{name, if_there}
use Rattle.sql_print.specs.PartPieces.{run, on_pieces}
use Rattle.sql_print.specs.TreePieces.{expr_pieces, primary_pieces, from_pieces, joined_pieces}
use Rattle.sql_print.proofs.Flows.{Flow, flow_none, beside}
use Rattle.sql_print.proofs.FlowParts.{a_word, a_comma, in_brackets, dotted, the_name, flow_from_alias, flow_names, flow_dots, flow_place}
use Rattle.sql_print.proofs.Held.{Held, hd, tl, fr, bk, Inner}
use Rattle.sql_print.proofs.FlowNodes.{as_from, as_joined, as_primary}
use Rattle.sql_print.proofs.FlowPivots.{flow_turned}

module _ (size : ℕ) (inner : Inner size) where
  flow_primary : (a : Primary) (u : Tokens) → PrimaryOf a u → Held size u → Flow (primary_pieces a)
  flow_primary _ _ (primary_table {n = n} {u = qu} {v = qv} i z y) g = as_primary _ _ (primary.outs-Table _ _ _ _) (beside (the_name n i (hd g)) (beside (flow_from_alias _ _ z (fr qv (tl g)).goods) (flow_turned size inner _ _ y (bk qu (tl g)))))
  flow_primary _ _ (primary_query {c = qc} {u = qu} {v = qv} {y = qy} i q c z y) g =
      as_primary _ _ (primary.outs-Query _ _ _ _) (beside (beside (in_brackets (inner.query _ _ q (fr (qc ∷ (qu ++ qv)) (tl g)))) (flow_from_alias _ _ z (fr qv (tl (bk qy (tl g)))).goods)) (flow_turned size inner _ _ y (bk qu (tl (bk qy (tl g))))))
  flow_primary _ _ (primary_path {n = n} {m = m} {ns = ns} {u = qu} {v = qv} {y = qy} i j k x z y) g =
      as_primary _ _ (primary.outs-Path _ _ _ _) (beside (beside (beside (the_name n i (hd g)) (dotted (name (name_at m).text) _ refl (beside (the_name m k (hd (tl (tl g)))) (flow_dots _ _ x (fr (qu ++ qv) (tl (tl (tl g)))).goods)))) (flow_from_alias _ _ z (fr qv (bk qy (tl (tl (tl g))))).goods))
      (flow_place _ _ y (bk qu (bk qy (tl (tl (tl g))))).goods))
  flow_primary _ _ (primary_unnest {c = qc} {u = qu} {v = qv} {y = qy} i o x c z y) g =
      as_primary _ _ (primary.outs-Unnest _ _ _ _) (beside (beside (beside (a_word r.Unnest) (in_brackets (inner.expr _ _ x (fr (qc ∷ (qu ++ qv)) (tl (tl g)))))) (flow_from_alias _ _ z (fr qv (tl (bk qy (tl (tl g))))).goods)) (flow_place _ _ y (bk qu (tl (bk qy (tl (tl g))))).goods))

  flow_on : (o : On Expr) (u : Tokens) → OnOf o u → Held size u → Flow (on_pieces expr_pieces o)
  flow_on _ _ (on_expr i z) g = beside (a_word r.On) (inner.expr _ _ z (tl g))
  flow_on _ _ (on_using i z) g = beside (a_word r.Using) (flow_names _ _ z (tl g).goods)

  flow_on_part : (a : Primary) (o : Option (On Expr)) (u : Tokens) → OnPartOf a o u → Held size u → Flow (if_there (on_pieces expr_pieces) o)
  flow_on_part _ _ _ (on_is z) g = flow_on _ _ z g
  flow_on_part _ _ _ (on_missing h) g = flow_none

  flow_join : (b : Bool) (a : Joined) (u : Tokens) → JoinOf b a u → Held size u → Flow (joined_pieces a)
  flow_join _ _ _ (join_cross i j z) g = as_joined _ _ (out-roll-Joined _) (beside (beside (beside (a_word r.Cross) (a_word r.Join)) (flow_primary _ _ z (tl (tl g)))) flow_none)
  flow_join _ _ _ (join_inner {u = qu} {v = qv} i j z y) g = as_joined _ _ (out-roll-Joined _) (beside (beside (a_word r.Join) (flow_primary _ _ z (fr qv (tl (tl g))))) (flow_on_part _ _ _ y (bk qu (tl (tl g)))))
  flow_join _ _ _ (join_plain {u = qu} {v = qv} j z y) g = as_joined _ _ (out-roll-Joined _) (beside (beside (a_word r.Join) (flow_primary _ _ z (fr qv (tl g)))) (flow_on_part _ _ _ y (bk qu (tl g))))
  flow_join _ _ _ (join_left {u = qu} {v = qv} {x = qx} i x j z y) g = as_joined _ _ (out-roll-Joined _) (beside (beside (beside (a_word r.Left) (a_word r.Join)) (flow_primary _ _ z (fr qv (tl (bk qx (tl g)))))) (flow_on_part _ _ _ y (bk qu (tl (bk qx (tl g))))))
  flow_join _ _ _ (join_right {u = qu} {v = qv} {x = qx} i x j z y) g = as_joined _ _ (out-roll-Joined _) (beside (beside (beside (a_word r.Right) (a_word r.Join)) (flow_primary _ _ z (fr qv (tl (bk qx (tl g)))))) (flow_on _ _ y (bk qu (tl (bk qx (tl g))))))
  flow_join _ _ _ (join_full {u = qu} {v = qv} {x = qx} i x j z y) g = as_joined _ _ (out-roll-Joined _) (beside (beside (beside (a_word r.Full) (a_word r.Join)) (flow_primary _ _ z (fr qv (tl (bk qx (tl g)))))) (flow_on _ _ y (bk qu (tl (bk qx (tl g))))))

  flow_joins : (b : Bool) (ms : List Joined) (u : Tokens) → JoinsOf b ms u → Held size u → Flow (run joined_pieces ms)
  flow_joins _ _ _ joins_none g = flow_none
  flow_joins _ _ _ (joins_comma {u = qu} {v = qv} i z y) g = beside (as_joined _ _ (out-roll-Joined _) (beside (beside a_comma (flow_primary _ _ z (fr qv (tl g)))) flow_none)) (flow_joins _ _ _ y (bk qu (tl g)))
  flow_joins _ _ _ (joins_join {u = qu} {v = qv} z y) g = beside (flow_join _ _ _ z (fr qv g)) (flow_joins _ _ _ y (bk qu g))

  pub flow_from : (f : FromItem) (u : Tokens) → FromOf f u → Held size u → Flow (from_pieces f)
  flow_from _ _ (from_are {u = qu} {v = qv} z y) g = as_from _ _ (out-roll-FromItem _) (beside (flow_primary _ _ z (fr qv g)) (flow_joins _ _ _ y (bk qu g)))
