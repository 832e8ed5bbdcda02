-- The prints of lists of expressions are runs of tokens that are read back, if those of the expressions are.
use Rattle.std.proofs.Common.{ℕ, suc, List, [], ◌∷◌, ◌++◌, map, refl}
use Rattle.sql_ast.specs.declared.words.Sign.TheVariants as s
use Rattle.sql_ast.specs.declared.token.Token.{Token}
use Rattle.sql_ast.specs.declared.expr.Expr.{Expr}
use Rattle.sql_ast.specs.Marks.{Tokens}
use Rattle.sql_ast.specs.Grammar.{ListOf, list_is, CommasOf, commas_none, commas_more, ArrayItemsOf, array_empty, array_items}
use Rattle.sql_ast.specs.Pieces.{sign, after_commas}
use Rattle.sql_print.specs.PartPieces.{listed}
use Rattle.sql_print.specs.TreePieces.{expr_pieces}
use Rattle.sql_print.proofs.Flows.{Flow, flow_none, beside, single}
use Rattle.sql_print.proofs.FlowParts.{a_comma}
use Rattle.sql_print.proofs.Held.{Held, tl, fr, bk, inside, Inner}

module _ (size : ℕ) (inner : Inner size) where
  flow_commas : (es : List Expr) (u : Tokens) → CommasOf es u → Held size u → Flow (after_commas (map expr_pieces es))
  flow_commas _ _ commas_none g = flow_none
  flow_commas _ _ (commas_more {u = qu} {v = qv} i z y) g = beside (beside a_comma (inner.expr _ _ z (fr qv (tl g)))) (flow_commas _ _ y (bk qu (tl g)))

  pub flow_list : (es : List Expr) (u : Tokens) → ListOf es u → Held size u → Flow (listed expr_pieces es)
  flow_list _ _ (list_is {u = qu} {v = qv} z y) g = beside (inner.expr _ _ z (fr qv g)) (flow_commas _ _ y (bk qu g))

  pub flow_array_items : (ms : List Expr) (b : Token) (u : Tokens) → ArrayItemsOf ms b u → Held (suc size) u → Flow (sign s.OpenSquare ∷ (listed expr_pieces ms ++ sign s.CloseSquare ∷ []))
  flow_array_items _ _ _ (array_empty i j) g = beside {ps = sign s.OpenSquare ∷ []} (single (tt, tt) refl refl) (single (tt, tt) refl refl)
  flow_array_items _ _ _ (array_items {c = qc} i z j) g = beside {ps = sign s.OpenSquare ∷ []} (single (tt, tt) refl refl) (beside (flow_list _ _ z (fr (qc ∷ []) (inside g))) (single (tt, tt) refl refl))
