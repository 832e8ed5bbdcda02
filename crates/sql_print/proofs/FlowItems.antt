-- The prints of the items of a SELECT are runs of tokens that are read back, if those of the expressions are.
use Rattle.std.proofs.Common.{ℕ, List, [], ◌∷◌, ◌++◌, map, refl}
use Rattle.sql_names.specs.declared.words.Reserved.TheVariants as r
use Rattle.sql_ast.specs.declared.words.Sign.TheVariants as s
use Rattle.sql_ast.specs.declared.words.Word.TheVariants as w
use Rattle.sql_ast.specs.declared.clauses.Edit.{Edit}
use Rattle.sql_ast.specs.declared.clauses.Item.{Item}
use Rattle.sql_ast.specs.declared.clauses.Name.{Name}
use Rattle.sql_ast.specs.declared.clauses.Replacement.{Replacement}
use Rattle.sql_ast.specs.declared.expr.Expr.{Expr}
use Rattle.sql_ast.specs.Marks.{Tokens}
use Rattle.sql_ast.specs.Parts.{NamesOf, names_are}
use Rattle.sql_ast.specs.Grammar.{ItemsOf, items_none, items_comma, items_more, ItemOf, item_star, item_qualified, item_expr, EditOf, edit_is, ExceptOf, except_none, except_is, ReplaceOf, replace_none, replace_is, ReplacementOf, replacement_is, ReplacementsOf, replacements_none, replacements_more}
use Rattle.sql_ast.specs.Pieces.{sign, after_commas}
use Rattle.sql_ast.specs.Canon.{except_pieces}
use Rattle.sql_print.specs.PartPieces.{replacement_pieces, replace_pieces, edit_pieces, item_pieces}
use Rattle.sql_print.specs.TreePieces.{expr_level, expr_pieces}
use Rattle.sql_print.proofs.Flows.{Goods, Flow, flow_none, beside}
use Rattle.sql_print.proofs.FlowParts.{a_word, a_read, a_comma, in_brackets, dotted, the_name, flow_alias, flow_names}
use Rattle.sql_print.proofs.Held.{Held, hd, tl, fr, bk, Inner}
use Rattle.sql_print.proofs.FlowWords.{a_star}
use Rattle.sql_print.proofs.FlowNodes.{op}

-- ---- what `*` leaves out

except_flow : (ns : List Name) (u : Tokens) → NamesOf ns u → Goods u → Flow (except_pieces ns)
except_flow _ _ (names_are i j z k) g = beside (a_word r.Except) (flow_names _ _ (names_are i j z k) g)

module _ (size : ℕ) (inner : Inner size) where
  flow_except : (ns : List Name) (u : Tokens) → ExceptOf ns u → Held size u → Flow (except_pieces ns)
  flow_except _ _ except_none g = flow_none
  flow_except _ _ (except_is {ns = ns} {u = u} i z) g = except_flow ns u z (tl g).goods

  flow_replacement : (a : Replacement Expr) (u : Tokens) → ReplacementOf a u → Held size u → Flow (replacement_pieces expr_pieces a)
  flow_replacement _ _ (replacement_is {t = qt} {n = n} {u = qu} z i j) g = beside (inner.expr _ _ z (fr (qt ∷ (n ∷ [])) g)) (beside (a_word r.As) (the_name n j (hd (tl (bk qu g)))))

  flow_replacements : (rs : List (Replacement Expr)) (u : Tokens) → ReplacementsOf rs u → Held size u → Flow (after_commas (map (replacement_pieces expr_pieces) rs))
  flow_replacements _ _ replacements_none g = flow_none
  flow_replacements _ _ (replacements_more {u = qu} {v = qv} i z y) g = beside (beside a_comma (flow_replacement _ _ z (fr qv (tl g)))) (flow_replacements _ _ y (bk qu (tl g)))

  flow_replace : (rs : List (Replacement Expr)) (u : Tokens) → ReplaceOf rs u → Held size u → Flow (replace_pieces expr_pieces rs)
  flow_replace _ _ replace_none g = flow_none
  flow_replace _ _ (replace_is {c = qc} {u = qu} {v = qv} i o z y c) g = beside (a_read w.Replace) (in_brackets (beside (flow_replacement _ _ z (fr (qv ++ (qc ∷ [])) (tl (tl g)))) (flow_replacements _ _ y (fr (qc ∷ []) (bk qu (tl (tl g)))))))

  flow_edit : (d : Edit Expr) (u : Tokens) → EditOf d u → Held size u → Flow (edit_pieces expr_pieces d)
  flow_edit _ _ (edit_is {u = qu} {v = qv} z y) g = beside (flow_except _ _ z (fr qv g)) (flow_replace _ _ y (bk qu g))

  pub flow_item : (i : Item Expr) (u : Tokens) → ItemOf i u → Held size u → Flow (item_pieces expr_level expr_pieces i)
  flow_item _ _ (item_star i z) g = beside a_star (flow_edit _ _ z (tl g))
  flow_item _ _ (item_qualified {t = qt} {x = qx} {u = qu} {v = qv} z i j y) g = beside (op 11 _ (inner.postfix _ _ z (fr (qt ∷ (qx ∷ qv)) g))) (dotted (sign s.Star) _ refl (beside a_star (flow_edit _ _ y (tl (tl (bk qu g))))))
  flow_item _ _ (item_expr {u = qu} {v = qv} z y) g = beside (inner.expr _ _ z (fr qv g)) (flow_alias _ _ y (bk qu g).goods)

  pub flow_items : (is : List (Item Expr)) (u : Tokens) → ItemsOf is u → Held size u → Flow (after_commas (map (item_pieces expr_level expr_pieces) is))
  flow_items _ _ items_none g = flow_none
  flow_items _ _ (items_comma i) g = flow_none
  flow_items _ _ (items_more {u = qu} {v = qv} i z y) g = beside (beside a_comma (flow_item _ _ z (fr qv (tl g)))) (flow_items _ _ y (bk qu (tl g)))
