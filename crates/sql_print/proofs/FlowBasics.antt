-- The prints of the expressions without operators are runs of tokens that are read back, if what they hold is.
use Rattle.std.proofs.Common.{◌≡◌, ℕ, suc, true, false, List, [], ◌∷◌, ◌++◌, Some, refl, sym, subst}
use Rattle.std.proofs.lemmas.List.{append_assoc}
use Rattle.sql_names.specs.declared.words.Reserved.TheVariants as r
use Rattle.sql_ast.specs.declared.words.Sign.TheVariants as s
use Rattle.sql_ast.specs.declared.words.Word.TheVariants as w
use Rattle.sql_ast.specs.declared.token.Token.{Token}
use Rattle.sql_ast.specs.declared.token.Lexeme.{Lexeme}
use Rattle.sql_ast.specs.declared.token.Lexeme.TheVariants as l
use Rattle.sql_ast.specs.declared.clauses.Call.{Call}
use Rattle.sql_ast.specs.declared.clauses.Function.{Function}
use Rattle.sql_ast.specs.declared.clauses.Function.TheVariants as function
use Rattle.sql_ast.specs.declared.expr.Expr.{Expr}
use Rattle.sql_ast.specs.declared.expr.Expr.TheVariants as e
use Rattle.sql_ast.specs.Marks.{Tokens, Is, named, spelled, name_lexeme}
use Rattle.sql_ast.specs.Trees.{name_at, function_lexeme}
use Rattle.sql_ast.specs.Grammar.{BasicOf, basic_integer, basic_string, basic_bytes, basic_true, basic_false, basic_null, basic_date, basic_parameter, basic_name, basic_call, basic_safe_call, basic_group, basic_query, basic_tuple, basic_case, basic_cast, basic_safe_cast, basic_extract, basic_grouping, basic_exists, basic_array_query, basic_array, basic_array_word, basic_array_typed, basic_struct, basic_typed_struct, basic_with, CallOf, call_is}
use Rattle.sql_ast.specs.Pieces.{Piece, word, name, sign, bracketed}
use Rattle.sql_ast.specs.Canon.{function_piece, type_pieces, angled}
use Rattle.sql_print.specs.PartPieces.{listed, field_pieces}
use Rattle.sql_print.specs.TreePieces.{expr_pieces}
use Rattle.sql_print.proofs.Flows.{Good, is_reserved, angled_type, Flow, beside, typed}
use Rattle.sql_print.proofs.FlowParts.{a_word, a_read, open_round, close_round, a_comma, in_brackets, dotted, the_name, a_text, a_bytes, a_parameter, an_integer, flow_type, flow_fields}
use Rattle.sql_print.proofs.Held.{Held, hd, tl, fr, bk, inside, Inner}
use Rattle.sql_print.proofs.FlowWords.{never}
use Rattle.sql_print.proofs.FlowNodes.{as_expr}
use Rattle.sql_print.proofs.FlowLists.{flow_list, flow_array_items}
use Rattle.sql_print.proofs.FlowCalls.{flow_call}
use Rattle.sql_print.proofs.FlowCases.{flow_subject, flow_when, flow_whens, flow_else, flow_member, flow_members, flow_binding, flow_bindings}

spelled_flow : (t : Token) → Is named t → Good t.lexeme → Flow (name (spelled t) ∷ [])
unfolding name_at
spelled_flow t i g = the_name t i g

cast_type : (a t : List Piece) → Flow a → Flow (word r.As ∷ (t ++ (sign s.CloseRound ∷ []))) → Flow (bracketed (a ++ (word r.As ∷ t)))
cast_type a t x y = beside open_round (subst Flow (sym (append_assoc a (word r.As ∷ t) (sign s.CloseRound ∷ []))) (beside x y))

-- a function that is called by a name is no reserved word
named_lexeme : (x : Lexeme) (f : Function) → function_lexeme x ≡ Some f → name_lexeme x ≡ true → is_reserved (function_piece f).lexeme ≡ false
named_lexeme (l.Name n o) function.If h i = absurd (cc)
named_lexeme (l.Name n o) (function.Named text) h i = refl
named_lexeme _ f h i = never i

function_named : (k : Call Expr) (t : Token) (u : Tokens) → CallOf k (t ∷ u) → Is named t → is_reserved (function_piece k.function).lexeme ≡ false
function_named _ t u (call_is {f = f} i io di ai ni oi ki ic) j = named_lexeme t.lexeme f i.is j.is

module _ (size : ℕ) (inner : Inner size) where
  pub flow_basic : (a : Expr) (u : Tokens) → BasicOf a u → Held (suc size) u → Flow (expr_pieces a)
  flow_basic _ _ (basic_integer {t = t} i) g = as_expr _ _ (e.outs-Integer _ _) (an_integer t i (hd g))
  flow_basic _ _ (basic_string {t = t} i) g = as_expr _ _ (e.outs-Text _ _) (a_text t i (hd g))
  flow_basic _ _ (basic_bytes {t = t} i) g = as_expr _ _ (e.outs-Bytes _ _) (a_bytes t i (hd g))
  flow_basic _ _ (basic_true i) g = as_expr _ _ (e.outs-Bool _ _) (a_word r.True)
  flow_basic _ _ (basic_false i) g = as_expr _ _ (e.outs-Bool _ _) (a_word r.False)
  flow_basic _ _ (basic_null i) g = as_expr _ _ (e.outs-Null _) (a_word r.Null)
  flow_basic _ _ (basic_date {x = x} i j) g = as_expr _ _ (e.outs-Date _ _) (beside (a_read w.Date) (a_text x j (hd (tl g))))
  flow_basic _ _ (basic_parameter {t = t} i) g = as_expr _ _ (e.outs-Parameter _ _) (a_parameter t i (hd g))
  flow_basic _ _ (basic_name {t = t} i) g = as_expr _ _ (e.outs-Name _ _) (spelled_flow t i (hd g))
  flow_basic _ _ (basic_call z) g = as_expr _ _ (e.outs-Call _ _) (flow_call size inner _ _ z g)
  flow_basic _ _ (basic_safe_call {n = n} {k = k} {u = u} i j m z) g = as_expr _ _ (e.outs-SafeCall _ _) (beside (a_read w.Safe) (dotted (function_piece k.function) _ (function_named k n u z m) (flow_call size inner _ _ z (tl (tl g)))))
  flow_basic _ _ (basic_group {c = qc} i z h c) g = inner.expr _ _ z (fr (qc ∷ []) (inside g))
  flow_basic _ _ (basic_query {c = qc} i z c) g = as_expr _ _ (e.outs-Scalar _ _) (in_brackets (inner.query _ _ z (fr (qc ∷ []) (inside g))))
  flow_basic _ _ (basic_tuple {c = qc} i z c) g = as_expr _ _ (e.outs-Tuple _ _) (in_brackets (flow_list size inner _ _ z (fr (qc ∷ []) (inside g))))
  flow_basic _ _ (basic_case {d = qd} {u = u} {v = v} {x = x} {y = qy} i a b bs o j) g =
      as_expr _ _ (e.outs-Case _ _ _ _) (beside (a_word r.Case) (beside (beside (beside (flow_subject size inner _ _ a (fr (v ++ (x ++ (qy ++ (qd ∷ [])))) (inside g))) (beside (flow_when size inner _ _ b (fr (x ++ (qy ++ (qd ∷ []))) (bk u (inside g)))) (flow_whens size inner _ _ bs (fr (qy ++ (qd ∷ [])) (bk v (bk u (inside g))))))) (flow_else size inner _ _ o (fr (qd ∷ []) (bk x (bk v (bk u (inside g))))))) (a_word r.End)))
  flow_basic _ _ (basic_cast {x = qx} {c = qc} {y = y} {u = qu} {v = qv} i j z k t c) g =
      as_expr _ _ (e.outs-Cast _ _ _ _) (beside (a_word r.Cast) (cast_type _ (type_pieces y) (inner.expr _ _ z (fr (qx ∷ (qv ++ (qc ∷ []))) (tl (inside g)))) (beside (a_word r.As) (typed _ (sign s.CloseRound) [] (flow_type _ _ _ t (fr (qc ∷ []) (tl (bk qu (tl (tl g))))).goods) refl close_round))))
  flow_basic _ _ (basic_safe_cast {x = qx} {c = qc} {y = y} {u = qu} {v = qv} i j z k t c) g =
      as_expr _ _ (e.outs-Cast _ _ _ _) (beside (a_read w.SafeCast) (cast_type _ (type_pieces y) (inner.expr _ _ z (fr (qx ∷ (qv ++ (qc ∷ []))) (tl (inside g)))) (beside (a_word r.As) (typed _ (sign s.CloseRound) [] (flow_type _ _ _ t (fr (qc ∷ []) (tl (bk qu (tl (tl g))))).goods) refl close_round))))
  flow_basic _ _ (basic_extract {n = n} {c = qc} i j m k z c) g = as_expr _ _ (e.outs-Extract _ _ _) (beside (a_word r.Extract) (in_brackets (beside (the_name n m (hd (tl (tl g)))) (beside (a_word r.From) (inner.expr _ _ z (fr (qc ∷ []) (tl (tl (tl (inside g))))))))))
  flow_basic _ _ (basic_grouping {c = qc} i j z c) g = as_expr _ _ (e.outs-Grouping _ _) (beside (a_word r.Grouping) (in_brackets (inner.expr _ _ z (fr (qc ∷ []) (tl (inside g))))))
  flow_basic _ _ (basic_exists {c = qc} i j z c) g = as_expr _ _ (e.outs-Exists _ _) (beside (a_word r.Exists) (in_brackets (inner.query _ _ z (fr (qc ∷ []) (tl (inside g))))))
  flow_basic _ _ (basic_array_query {c = qc} i j z c) g = as_expr _ _ (e.outs-ArrayQuery _ _ _) (beside (a_word r.Array) (in_brackets (inner.query _ _ z (fr (qc ∷ []) (tl (inside g))))))
  flow_basic _ _ (basic_array z) g = as_expr _ _ (e.outs-Array _ _ _ _) (flow_array_items size inner _ _ _ z g)
  flow_basic _ _ (basic_array_word i z) g = as_expr _ _ (e.outs-Array _ _ _ _) (flow_array_items size inner _ _ _ z (tl g))
  flow_basic _ _ (basic_array_typed {c = qc} {y = y} {u = qu} {v = qv} i j t k z) g =
      as_expr _ _ (e.outs-Array _ _ _ _) (typed (word r.Array ∷ angled (type_pieces y)) (sign s.OpenSquare) _ (angled_type r.Array (type_pieces y) (flow_type _ _ _ t (fr (qc ∷ qu) (tl (tl g))).goods)) refl (flow_array_items size inner _ _ _ z (tl (bk qv (tl (tl g))))))
  flow_basic _ _ (basic_struct {c = qc} {u = qu} {v = qv} i j z y c) g = as_expr _ _ (e.outs-Struct _ _) (beside (a_word r.Struct) (in_brackets (beside (flow_member size inner _ _ z (fr (qv ++ (qc ∷ [])) (tl (inside g)))) (flow_members size inner _ _ y (fr (qc ∷ []) (bk qu (tl (inside g))))))))
  flow_basic _ _ (basic_typed_struct {g = qg} {o = qo} {c = qc} {fs = fs} {u = qu} {v = qv} i j t k o z c) g =
      as_expr _ _ (e.outs-TypedStruct _ _ _ _) (typed (word r.Struct ∷ angled (listed (field_pieces type_pieces) fs)) (sign s.OpenRound) _ (angled_type r.Struct (listed (field_pieces type_pieces) fs) (flow_fields _ _ _ t (fr (qg ∷ (qo ∷ (qv ++ (qc ∷ [])))) (tl (tl g))).goods)) refl (in_brackets (flow_list size inner _ _ z (fr (qc ∷ []) (tl (tl (bk qu (tl (inside g)))))))))
  flow_basic _ _ (basic_with {k = qk} {c = qc} {u = qu} {v = qv} {x = qx} i o b bs k z c) g =
      as_expr _ _ (e.outs-With _ _ _) (beside (a_word r.With) (in_brackets (beside (beside (flow_binding size inner _ _ b (fr (qv ++ (qk ∷ (qx ++ (qc ∷ [])))) (tl (inside g)))) (flow_bindings size inner _ _ bs (fr (qk ∷ (qx ++ (qc ∷ []))) (bk qu (tl (inside g)))))) (beside a_comma (inner.expr _ _ z (fr (qc ∷ []) (tl (bk qv (bk qu (tl (inside g)))))))))))
