-- The print of GROUP BY is a run of tokens that are read back, if those of the expressions are.
use Rattle.std.proofs.Common.{ℕ, List, [], ◌∷◌, ◌++◌, map, Option}
use Rattle.sql_names.specs.declared.words.Reserved.TheVariants as r
use Rattle.sql_ast.specs.declared.words.Word.TheVariants as w
use Rattle.sql_ast.specs.declared.expr.Expr.{Expr}
use Rattle.sql_ast.specs.declared.grouping.Cube.{Cube}
use Rattle.sql_ast.specs.declared.grouping.GroupItem.{GroupItem}
use Rattle.sql_ast.specs.declared.grouping.GroupSet.{GroupSet}
use Rattle.sql_ast.specs.declared.grouping.Groups.{Groups}
use Rattle.sql_ast.specs.Marks.{Tokens}
use Rattle.sql_ast.specs.Grammar.{GroupByOf, group_none, group_is, GroupsOf, groups_keys, groups_empty, groups_sets, groups_cube, GroupSetOf, set_item, set_cube, GroupSetsOf, sets_none, sets_more, CubeOf, cube_is, GroupItemsOf, gitems_none, gitems_more, GroupItemOf, gitem_empty, gitem_list, gitem_expr, gitem_longer, gitem_query}
use Rattle.sql_ast.specs.Pieces.{after_commas}
use Rattle.sql_print.specs.PartPieces.{group_item_pieces, cube_pieces, set_pieces, groups_pieces}
use Rattle.sql_print.specs.QueryPieces.{grouping_pieces}
use Rattle.sql_print.specs.TreePieces.{expr_pieces}
use Rattle.sql_print.proofs.Flows.{Flow, flow_none, beside}
use Rattle.sql_print.proofs.FlowParts.{a_word, a_read, a_comma, in_brackets}
use Rattle.sql_print.proofs.Held.{Held, tl, fr, bk, Inner}
use Rattle.sql_print.proofs.FlowWords.{flow_cube_word}
use Rattle.sql_print.proofs.FlowLists.{flow_list}

module _ (size : ℕ) (inner : Inner size) where
  flow_gitem : (x : GroupItem Expr) (u : Tokens) → GroupItemOf x u → Held size u → Flow (group_item_pieces expr_pieces x)
  flow_gitem _ _ (gitem_empty i j) g = in_brackets flow_none
  flow_gitem _ _ (gitem_list {c = qc} i z h c) g = in_brackets (flow_list size inner _ _ z (fr (qc ∷ []) (tl g)))
  flow_gitem _ _ (gitem_expr i z) g = inner.expr _ _ z g
  flow_gitem _ _ (gitem_longer t x i y h c z) g = inner.expr _ _ z g
  flow_gitem _ _ (gitem_query x i y c z) g = inner.expr _ _ z g

  flow_gitems : (xs : List (GroupItem Expr)) (u : Tokens) → GroupItemsOf xs u → Held size u → Flow (after_commas (map (group_item_pieces expr_pieces) xs))
  flow_gitems _ _ gitems_none g = flow_none
  flow_gitems _ _ (gitems_more {u = qu} {v = qv} i z y) g = beside (beside a_comma (flow_gitem _ _ z (fr qv (tl g)))) (flow_gitems _ _ y (bk qu (tl g)))

  flow_cube : (x : Cube Expr) (u : Tokens) → CubeOf x u → Held size u → Flow (cube_pieces expr_pieces x)
  flow_cube _ _ (cube_is {c = qc} {k = k} {u = qu} {v = qv} i o z y c) g = beside (flow_cube_word k) (in_brackets (beside (flow_gitem _ _ z (fr (qv ++ (qc ∷ [])) (tl (tl g)))) (flow_gitems _ _ y (fr (qc ∷ []) (bk qu (tl (tl g)))))))

  flow_set : (x : GroupSet Expr) (u : Tokens) → GroupSetOf x u → Held size u → Flow (set_pieces expr_pieces x)
  flow_set _ _ (set_item z) g = flow_gitem _ _ z g
  flow_set _ _ (set_cube z) g = flow_cube _ _ z g

  flow_group_sets : (xs : List (GroupSet Expr)) (u : Tokens) → GroupSetsOf xs u → Held size u → Flow (after_commas (map (set_pieces expr_pieces) xs))
  flow_group_sets _ _ sets_none g = flow_none
  flow_group_sets _ _ (sets_more {u = qu} {v = qv} i z y) g = beside (beside a_comma (flow_set _ _ z (fr qv (tl g)))) (flow_group_sets _ _ y (bk qu (tl g)))

  flow_groups : (x : Groups Expr) (u : Tokens) → GroupsOf x u → Held size u → Flow (groups_pieces expr_pieces x)
  flow_groups _ _ (groups_keys z) g = flow_list size inner _ _ z g
  flow_groups _ _ (groups_empty i j) g = in_brackets flow_none
  flow_groups _ _ (groups_sets {c = qc} {u = qu} {v = qv} i j o z y c) g = beside (a_word r.Grouping) (beside (a_read w.Sets) (in_brackets (beside (flow_set _ _ z (fr (qv ++ (qc ∷ [])) (tl (tl (tl g))))) (flow_group_sets _ _ y (fr (qc ∷ []) (bk qu (tl (tl (tl g)))))))))
  flow_groups _ _ (groups_cube z) g = flow_cube _ _ z g

  pub flow_grouping : (x : Option (Groups Expr)) (u : Tokens) → GroupByOf x u → Held size u → Flow (grouping_pieces expr_pieces x)
  flow_grouping _ _ group_none g = flow_none
  flow_grouping _ _ (group_is i j z) g = beside (a_word r.Group) (beside (a_word r.By) (flow_groups _ _ z (tl (tl g))))
