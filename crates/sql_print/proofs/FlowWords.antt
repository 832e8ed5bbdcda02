-- The prints of operators and of single words are runs of tokens that are read back.
use Rattle.std.proofs.Common.{◌≡◌, ℕ, Bool, true, false, List, [], ◌∷◌, map, refl, sym}
use Rattle.sql_names.specs.declared.words.Reserved.TheVariants as r
use Rattle.sql_ast.specs.declared.words.Sign.TheVariants as s
use Rattle.sql_ast.specs.declared.words.Word.TheVariants as w
use Rattle.sql_ast.specs.declared.expr.Comparison.{Comparison}
use Rattle.sql_ast.specs.declared.expr.Comparison.TheVariants as comparison
use Rattle.sql_ast.specs.declared.expr.IndexForm.{IndexForm}
use Rattle.sql_ast.specs.declared.expr.IndexForm.TheVariants as form
use Rattle.sql_ast.specs.declared.expr.IsTest.{IsTest}
use Rattle.sql_ast.specs.declared.expr.IsTest.TheVariants as test
use Rattle.sql_ast.specs.declared.expr.Operator.{Operator}
use Rattle.sql_ast.specs.declared.expr.Operator.TheVariants as operator
use Rattle.sql_ast.specs.declared.expr.Prefix.{Prefix}
use Rattle.sql_ast.specs.declared.expr.Quantifier.{Quantifier}
use Rattle.sql_ast.specs.declared.expr.Quantifier.TheVariants as quantifier
use Rattle.sql_ast.specs.declared.expr.Signed.{Signed}
use Rattle.sql_ast.specs.declared.expr.Signed.TheVariants as signed
use Rattle.sql_ast.specs.declared.grouping.CubeKind.{CubeKind}
use Rattle.sql_ast.specs.declared.grouping.CubeKind.TheVariants as cube
use Rattle.sql_ast.specs.Pieces.{Piece, word, sign}
use Rattle.sql_ast.specs.Canon.{operator_pieces, prefix_piece, comparison_piece, quantifier_piece, test_piece, form_piece, not_if, cube_word}
use Rattle.sql_print.proofs.Flows.{Flow, flow_none, flow_some, runs_last, runs_more, beside, single}
use Rattle.sql_print.proofs.FlowParts.{a_word, a_read, so}

pub never : {A : Type 0} → false ≡ true → A
never h = absurd (let g : true ≡ false = sym h in cc)

-- ---- operators

pub flow_operator : (o : Operator) → Flow (operator_pieces o)
flow_operator operator.Or = a_word r.Or
flow_operator operator.And = a_word r.And
flow_operator operator.ShiftRight = flow_some refl (runs_more (tt, tt) refl (runs_last (tt, tt) refl))
flow_operator operator.BitOr = single (tt, tt) refl refl
flow_operator operator.BitXor = single (tt, tt) refl refl
flow_operator operator.BitAnd = single (tt, tt) refl refl
flow_operator operator.ShiftLeft = single (tt, tt) refl refl
flow_operator operator.Add = single (tt, tt) refl refl
flow_operator operator.Subtract = single (tt, tt) refl refl
flow_operator operator.Multiply = single (tt, tt) refl refl
flow_operator operator.Concat = single (tt, tt) refl refl

pub flow_comparison : (k : Comparison) → Flow (comparison_piece k ∷ [])
flow_comparison comparison.Equal = single (tt, tt) refl refl
flow_comparison comparison.NotEqual = single (tt, tt) refl refl
flow_comparison comparison.Less = single (tt, tt) refl refl
flow_comparison comparison.LessEqual = single (tt, tt) refl refl
flow_comparison comparison.Greater = single (tt, tt) refl refl
flow_comparison comparison.GreaterEqual = single (tt, tt) refl refl

flow_signed : (x : Signed) → Flow (prefix_piece x ∷ [])
flow_signed signed.Plus = single (tt, tt) refl refl
flow_signed signed.Minus = single (tt, tt) refl refl
flow_signed signed.Flip = single (tt, tt) refl refl

pub flow_prefixes : (ps : List Prefix) → Flow (map (λ (p : Prefix). prefix_piece p.operator) ps)
flow_prefixes [] = flow_none
flow_prefixes (p ∷ ps) = beside (flow_signed p.operator) (flow_prefixes ps)

pub flow_nots : (ps : List ℕ) → Flow (map {B = Piece} (λ (o : ℕ). word r.Not) ps)
flow_nots [] = flow_none
flow_nots (p ∷ ps) = beside (a_word r.Not) (flow_nots ps)

-- ---- words

pub flow_quantifier : (q : Quantifier) → Flow (quantifier_piece q ∷ [])
flow_quantifier quantifier.Any = a_word r.Any
flow_quantifier quantifier.Some = a_word r.Some
flow_quantifier quantifier.All = a_word r.All

pub flow_test : (i : IsTest) → Flow (test_piece i ∷ [])
flow_test test.Null = a_word r.Null
flow_test test.True = a_word r.True
flow_test test.False = a_word r.False

pub flow_form : (f : IndexForm) → Flow (form_piece f ∷ [])
flow_form form.Offset = a_read w.Offset
flow_form form.Ordinal = a_read w.Ordinal
flow_form form.SafeOffset = a_read w.SafeOffset
flow_form form.SafeOrdinal = a_read w.SafeOrdinal

pub flow_cube_word : (k : CubeKind) → Flow (cube_word k ∷ [])
flow_cube_word cube.Rollup = a_word r.Rollup
flow_cube_word cube.Cube = a_word r.Cube

pub negated : (n : Bool) → Flow (not_if n)
negated n = so n (word r.Not ∷ []) (a_word r.Not)

pub a_star : Flow (sign s.Star ∷ [])
a_star = single (tt, tt) refl refl
