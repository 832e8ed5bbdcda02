-- The prints of what CASE, STRUCT and WITH hold are runs of tokens that are read back, if those of the expressions are.
use Rattle.std.proofs.Common.{ℕ, List, [], ◌∷◌, map, Option}
use Rattle.sql_names.specs.declared.words.Reserved.TheVariants as r
use Rattle.sql_ast.specs.declared.clauses.Aliased.{Aliased}
use Rattle.sql_ast.specs.declared.clauses.Binding.{Binding}
use Rattle.sql_ast.specs.declared.clauses.When.{When}
use Rattle.sql_ast.specs.declared.expr.Expr.{Expr}
use Rattle.sql_ast.specs.Marks.{Tokens}
use Rattle.sql_ast.specs.Grammar.{SubjectOf, subject_none, subject_is, WhenOf, when_is, WhensOf, whens_none, whens_more, ElseOf, else_none, else_is, MemberOf, member_plain, member_as, MembersOf, members_none, members_more, BindingOf, binding_is, BindingsOf, bindings_none, bindings_more}
use Rattle.sql_ast.specs.Pieces.{after_commas, if_there}
use Rattle.sql_print.specs.PartPieces.{run, when_pieces, aliased_pieces, binding_pieces}
use Rattle.sql_print.specs.ExprPieces.{else_pieces}
use Rattle.sql_print.specs.TreePieces.{expr_pieces}
use Rattle.sql_print.proofs.Flows.{Flow, flow_none, beside}
use Rattle.sql_print.proofs.FlowParts.{a_word, a_comma, the_name}
use Rattle.sql_print.proofs.Held.{Held, hd, tl, fr, bk, Inner}

module _ (size : ℕ) (inner : Inner size) where
  pub flow_subject : (a : Option Expr) (u : Tokens) → SubjectOf a u → Held size u → Flow (if_there expr_pieces a)
  flow_subject _ _ subject_none g = flow_none
  flow_subject _ _ (subject_is z) g = inner.expr _ _ z g

  pub flow_when : (b : When Expr) (u : Tokens) → WhenOf b u → Held size u → Flow (when_pieces expr_pieces b)
  flow_when _ _ (when_is {x = qx} {u = qu} {v = qv} i z j y) g = beside (beside (a_word r.When) (inner.expr _ _ z (fr (qx ∷ qv) (tl g)))) (beside (a_word r.Then) (inner.expr _ _ y (tl (bk qu (tl g)))))

  pub flow_whens : (bs : List (When Expr)) (u : Tokens) → WhensOf bs u → Held size u → Flow (run (when_pieces expr_pieces) bs)
  flow_whens _ _ whens_none g = flow_none
  flow_whens _ _ (whens_more {u = qu} {v = qv} z y) g = beside (flow_when _ _ z (fr qv g)) (flow_whens _ _ y (bk qu g))

  pub flow_else : (a : Option Expr) (u : Tokens) → ElseOf a u → Held size u → Flow (else_pieces expr_pieces a)
  flow_else _ _ else_none g = flow_none
  flow_else _ _ (else_is i z) g = beside (a_word r.Else) (inner.expr _ _ z (tl g))

  pub flow_member : (a : Aliased Expr) (u : Tokens) → MemberOf a u → Held size u → Flow (aliased_pieces expr_pieces a)
  flow_member _ _ (member_plain z) g = beside (inner.expr _ _ z g) flow_none
  flow_member _ _ (member_as {t = qt} {n = n} {u = qu} z i j) g = beside (inner.expr _ _ z (fr (qt ∷ (n ∷ [])) g)) (beside (a_word r.As) (the_name n j (hd (tl (bk qu g)))))

  pub flow_members : (ms : List (Aliased Expr)) (u : Tokens) → MembersOf ms u → Held size u → Flow (after_commas (map (aliased_pieces expr_pieces) ms))
  flow_members _ _ members_none g = flow_none
  flow_members _ _ (members_more {u = qu} {v = qv} i z y) g = beside (beside a_comma (flow_member _ _ z (fr qv (tl g)))) (flow_members _ _ y (bk qu (tl g)))

  pub flow_binding : (b : Binding Expr) (u : Tokens) → BindingOf b u → Held size u → Flow (binding_pieces expr_pieces b)
  flow_binding _ _ (binding_is {n = n} i j z) g = beside (the_name n i (hd g)) (beside (a_word r.As) (inner.expr _ _ z (tl (tl g))))

  pub flow_bindings : (bs : List (Binding Expr)) (u : Tokens) → BindingsOf bs u → Held size u → Flow (after_commas (map (binding_pieces expr_pieces) bs))
  flow_bindings _ _ bindings_none g = flow_none
  flow_bindings _ _ (bindings_more {u = qu} {v = qv} i z y) g = beside (beside a_comma (flow_binding _ _ z (fr qv (tl g)))) (flow_bindings _ _ y (bk qu (tl g)))
