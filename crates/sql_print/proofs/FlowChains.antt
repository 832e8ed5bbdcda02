-- The print of a chain of operators is a run of tokens that are read back, if the prints of its operands are.
use Rattle.std.proofs.Common.{ℕ, List, ◌∙◌, ap}
use Rattle.sql_ast.specs.declared.expr.Expr.{Expr}
use Rattle.sql_ast.specs.declared.expr.Expr.TheVariants as e
use Rattle.sql_ast.specs.declared.expr.Link.{Link}
use Rattle.sql_ast.specs.declared.expr.Operator.TheVariants as operator
use Rattle.sql_ast.specs.Marks.{Tokens, start_of}
use Rattle.sql_ast.specs.Trees.{link}
use Rattle.sql_ast.specs.Grammar.{ExprOf, expr_is, OrsOf, ors_none, ors_more, ConjOf, conj_is, AndsOf, ands_none, ands_more, NegOf, BorOf, bor_is, BorsOf, bors_none, bors_more, BxorOf, bxor_is, BxorsOf, bxors_none, bxors_more, BandOf, band_is, BandsOf, bands_none, bands_more, ShiftOf, shift_is, ShiftsOf, shifts_none, shifts_left, shifts_right, SumOf, sum_is, SumsOf, sums_none, sums_more, ProdOf, prod_is, ProdsOf, prods_none, prods_more, UnaryOf}
use Rattle.sql_print.specs.PartPieces.{run, link_pieces}
use Rattle.sql_print.specs.TreePieces.{expr_level, expr_pieces}
use Rattle.sql_print.proofs.CanonLaws.{pieces_at, pieces_expr}
use Rattle.sql_print.proofs.Flows.{Flow, flow_none}
use Rattle.sql_print.proofs.Held.{Held, tl, fr, bk}
use Rattle.sql_print.proofs.FlowNodes.{chained, linked}

module _ (n : ℕ) (below : (a : Expr) (u : Tokens) → UnaryOf a u → Held n u → Flow (expr_pieces a)) where
  flow_prods : (ls : List (Link Expr)) (u : Tokens) → ProdsOf ls u → Held n u → Flow (run (link_pieces expr_level expr_pieces 10) ls)
  unfolding link
  flow_prods _ _ prods_none g = flow_none
  flow_prods _ _ (prods_more {o = o} {u = qu} {v = qv} i z y) g = linked 10 o _ _ (below _ _ z (fr qv (tl g))) (flow_prods _ _ y (bk qu (tl g)))

  pub prod_flow : (a : Expr) (u : Tokens) → ProdOf a u → Held n u → Flow (expr_pieces a)
  prod_flow _ _ (prod_is {a = a} {ls = ls} {u = u} {v = qv} z y) g = chained 10 e.Product (λ a ls p. pieces_expr (e.Product a ls p) ∙ ap pieces_at (e.outs-Product a ls p)) a ls (start_of u) (below _ _ z (fr qv g)) (flow_prods _ _ y (bk u g))

module _ (n : ℕ) (below : (a : Expr) (u : Tokens) → ProdOf a u → Held n u → Flow (expr_pieces a)) where
  flow_sums : (ls : List (Link Expr)) (u : Tokens) → SumsOf ls u → Held n u → Flow (run (link_pieces expr_level expr_pieces 9) ls)
  unfolding link
  flow_sums _ _ sums_none g = flow_none
  flow_sums _ _ (sums_more {o = o} {u = qu} {v = qv} i z y) g = linked 9 o _ _ (below _ _ z (fr qv (tl g))) (flow_sums _ _ y (bk qu (tl g)))

  pub sum_flow : (a : Expr) (u : Tokens) → SumOf a u → Held n u → Flow (expr_pieces a)
  sum_flow _ _ (sum_is {a = a} {ls = ls} {u = u} {v = qv} z y) g = chained 9 e.Sum (λ a ls p. pieces_expr (e.Sum a ls p) ∙ ap pieces_at (e.outs-Sum a ls p)) a ls (start_of u) (below _ _ z (fr qv g)) (flow_sums _ _ y (bk u g))

module _ (n : ℕ) (below : (a : Expr) (u : Tokens) → SumOf a u → Held n u → Flow (expr_pieces a)) where
  flow_shifts : (ls : List (Link Expr)) (u : Tokens) → ShiftsOf ls u → Held n u → Flow (run (link_pieces expr_level expr_pieces 8) ls)
  unfolding link
  flow_shifts _ _ shifts_none g = flow_none
  flow_shifts _ _ (shifts_left {u = qu} {v = qv} i z y) g = linked 8 operator.ShiftLeft _ _ (below _ _ z (fr qv (tl g))) (flow_shifts _ _ y (bk qu (tl g)))
  flow_shifts _ _ (shifts_right {u = qu} {v = qv} i j z y) g = linked 8 operator.ShiftRight _ _ (below _ _ z (fr qv (tl (tl g)))) (flow_shifts _ _ y (bk qu (tl (tl g))))

  pub shift_flow : (a : Expr) (u : Tokens) → ShiftOf a u → Held n u → Flow (expr_pieces a)
  shift_flow _ _ (shift_is {a = a} {ls = ls} {u = u} {v = qv} z y) g = chained 8 e.Shift (λ a ls p. pieces_expr (e.Shift a ls p) ∙ ap pieces_at (e.outs-Shift a ls p)) a ls (start_of u) (below _ _ z (fr qv g)) (flow_shifts _ _ y (bk u g))

module _ (n : ℕ) (below : (a : Expr) (u : Tokens) → ShiftOf a u → Held n u → Flow (expr_pieces a)) where
  flow_bands : (ls : List (Link Expr)) (u : Tokens) → BandsOf ls u → Held n u → Flow (run (link_pieces expr_level expr_pieces 7) ls)
  unfolding link
  flow_bands _ _ bands_none g = flow_none
  flow_bands _ _ (bands_more {u = qu} {v = qv} i z y) g = linked 7 operator.BitAnd _ _ (below _ _ z (fr qv (tl g))) (flow_bands _ _ y (bk qu (tl g)))

  pub band_flow : (a : Expr) (u : Tokens) → BandOf a u → Held n u → Flow (expr_pieces a)
  band_flow _ _ (band_is {a = a} {ls = ls} {u = u} {v = qv} z y) g = chained 7 e.BitAnd (λ a ls p. pieces_expr (e.BitAnd a ls p) ∙ ap pieces_at (e.outs-BitAnd a ls p)) a ls (start_of u) (below _ _ z (fr qv g)) (flow_bands _ _ y (bk u g))

module _ (n : ℕ) (below : (a : Expr) (u : Tokens) → BandOf a u → Held n u → Flow (expr_pieces a)) where
  flow_bxors : (ls : List (Link Expr)) (u : Tokens) → BxorsOf ls u → Held n u → Flow (run (link_pieces expr_level expr_pieces 6) ls)
  unfolding link
  flow_bxors _ _ bxors_none g = flow_none
  flow_bxors _ _ (bxors_more {u = qu} {v = qv} i z y) g = linked 6 operator.BitXor _ _ (below _ _ z (fr qv (tl g))) (flow_bxors _ _ y (bk qu (tl g)))

  pub bxor_flow : (a : Expr) (u : Tokens) → BxorOf a u → Held n u → Flow (expr_pieces a)
  bxor_flow _ _ (bxor_is {a = a} {ls = ls} {u = u} {v = qv} z y) g = chained 6 e.BitXor (λ a ls p. pieces_expr (e.BitXor a ls p) ∙ ap pieces_at (e.outs-BitXor a ls p)) a ls (start_of u) (below _ _ z (fr qv g)) (flow_bxors _ _ y (bk u g))

module _ (n : ℕ) (below : (a : Expr) (u : Tokens) → BxorOf a u → Held n u → Flow (expr_pieces a)) where
  flow_bors : (ls : List (Link Expr)) (u : Tokens) → BorsOf ls u → Held n u → Flow (run (link_pieces expr_level expr_pieces 5) ls)
  unfolding link
  flow_bors _ _ bors_none g = flow_none
  flow_bors _ _ (bors_more {u = qu} {v = qv} i z y) g = linked 5 operator.BitOr _ _ (below _ _ z (fr qv (tl g))) (flow_bors _ _ y (bk qu (tl g)))

  pub bor_flow : (a : Expr) (u : Tokens) → BorOf a u → Held n u → Flow (expr_pieces a)
  bor_flow _ _ (bor_is {a = a} {ls = ls} {u = u} {v = qv} z y) g = chained 5 e.BitOr (λ a ls p. pieces_expr (e.BitOr a ls p) ∙ ap pieces_at (e.outs-BitOr a ls p)) a ls (start_of u) (below _ _ z (fr qv g)) (flow_bors _ _ y (bk u g))

module _ (n : ℕ) (below : (a : Expr) (u : Tokens) → NegOf a u → Held n u → Flow (expr_pieces a)) where
  flow_ands : (ls : List (Link Expr)) (u : Tokens) → AndsOf ls u → Held n u → Flow (run (link_pieces expr_level expr_pieces 2) ls)
  unfolding link
  flow_ands _ _ ands_none g = flow_none
  flow_ands _ _ (ands_more {u = qu} {v = qv} i z y) g = linked 2 operator.And _ _ (below _ _ z (fr qv (tl g))) (flow_ands _ _ y (bk qu (tl g)))

  pub conj_flow : (a : Expr) (u : Tokens) → ConjOf a u → Held n u → Flow (expr_pieces a)
  conj_flow _ _ (conj_is {a = a} {ls = ls} {u = u} {v = qv} z y) g = chained 2 e.And (λ a ls p. pieces_expr (e.And a ls p) ∙ ap pieces_at (e.outs-And a ls p)) a ls (start_of u) (below _ _ z (fr qv g)) (flow_ands _ _ y (bk u g))

module _ (n : ℕ) (below : (a : Expr) (u : Tokens) → ConjOf a u → Held n u → Flow (expr_pieces a)) where
  flow_ors : (ls : List (Link Expr)) (u : Tokens) → OrsOf ls u → Held n u → Flow (run (link_pieces expr_level expr_pieces 1) ls)
  unfolding link
  flow_ors _ _ ors_none g = flow_none
  flow_ors _ _ (ors_more {u = qu} {v = qv} i z y) g = linked 1 operator.Or _ _ (below _ _ z (fr qv (tl g))) (flow_ors _ _ y (bk qu (tl g)))

  pub expr_flow : (a : Expr) (u : Tokens) → ExprOf a u → Held n u → Flow (expr_pieces a)
  expr_flow _ _ (expr_is {a = a} {ls = ls} {u = u} {v = qv} z y) g = chained 1 e.Or (λ a ls p. pieces_expr (e.Or a ls p) ∙ ap pieces_at (e.outs-Or a ls p)) a ls (start_of u) (below _ _ z (fr qv g)) (flow_ors _ _ y (bk u g))
