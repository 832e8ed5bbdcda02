-- Two trees are alike as their law says.
use Rattle.std.proofs.Common.{rules, ap, refl, ◌∙◌, arith}
use Rattle.std.proofs.lemmas.Grind.{common_steps}
use Rattle.sql_ast.specs.declared.expr.Expr.{out-Expr}
use Rattle.sql_ast.specs.declared.expr.Expr.TheVariants as expr
use Rattle.sql_ast.specs.declared.query.Primary.{out-Primary}
use Rattle.sql_ast.specs.declared.query.Primary.TheVariants as primary
use Rattle.sql_ast.specs.declared.query.Term.{out-Term}
use Rattle.sql_ast.specs.declared.query.Term.TheVariants as term
use Rattle.sql_same.proofs.ExprLaws.{expr_by, expr_only_Or, expr_only_And, expr_only_Not, expr_only_BitOr, expr_only_BitXor, expr_only_BitAnd, expr_only_Shift, expr_only_Sum, expr_only_Product, expr_only_Unary, expr_only_Compare, expr_only_Like, expr_only_LikeList, expr_only_LikeUnnest, expr_only_Between, expr_only_InList, expr_only_InQuery, expr_only_InUnnest, expr_only_Is, expr_only_Distinct, expr_only_Postfix, expr_only_Integer, expr_only_Text, expr_only_Bytes, expr_only_Bool, expr_only_Null, expr_only_Date, expr_only_Parameter, expr_only_Name, expr_only_Call, expr_only_SafeCall, expr_only_Scalar, expr_only_Tuple, expr_only_Case, expr_only_Cast, expr_only_Extract, expr_only_Grouping, expr_only_Exists, expr_only_ArrayQuery, expr_only_Array, expr_only_Struct, expr_only_TypedStruct, expr_only_With}
use Rattle.sql_same.proofs.TreeLaws.{primary_by, primary_only_Table, primary_only_Query, primary_only_Path, primary_only_Unnest, term_by, term_only_Select, term_only_Query, from_by, joined_by, query_by, select_by}
use Rattle.sql_same.proofs.alike_trees.+alike.Goals as goal

pub ExprAlike::alike-returns-in-Integer-other : goal.ExprAlike::alike-returns-in-Integer-other
ExprAlike::alike-returns-in-Integer-other t c = expr_by _ _ _ _ _ (ap out-Expr c.in-Integer.is ∙ expr.outs-Integer _ _) (ap out-Expr c.in-Integer-other.is ∙ expr.outs-Integer _ _) (grind (arith, common_steps))

pub ExprAlike::alike-returns-in-Text-other : goal.ExprAlike::alike-returns-in-Text-other
ExprAlike::alike-returns-in-Text-other t c = expr_by _ _ _ _ _ (ap out-Expr c.in-Text.is ∙ expr.outs-Text _ _) (ap out-Expr c.in-Text-other.is ∙ expr.outs-Text _ _) (grind (arith, common_steps))

pub ExprAlike::alike-returns-in-Bytes-other : goal.ExprAlike::alike-returns-in-Bytes-other
ExprAlike::alike-returns-in-Bytes-other t c = expr_by _ _ _ _ _ (ap out-Expr c.in-Bytes.is ∙ expr.outs-Bytes _ _) (ap out-Expr c.in-Bytes-other.is ∙ expr.outs-Bytes _ _) (grind (arith, common_steps))

pub ExprAlike::alike-returns-in-Bool-other : goal.ExprAlike::alike-returns-in-Bool-other
ExprAlike::alike-returns-in-Bool-other t c = expr_by _ _ _ _ _ (ap out-Expr c.in-Bool.is ∙ expr.outs-Bool _ _) (ap out-Expr c.in-Bool-other.is ∙ expr.outs-Bool _ _) (grind (arith, common_steps))

pub ExprAlike::alike-returns-in-Date-other : goal.ExprAlike::alike-returns-in-Date-other
ExprAlike::alike-returns-in-Date-other t c = expr_by _ _ _ _ _ (ap out-Expr c.in-Date.is ∙ expr.outs-Date _ _) (ap out-Expr c.in-Date-other.is ∙ expr.outs-Date _ _) (grind (arith, common_steps))

pub ExprAlike::alike-returns-in-Parameter-other : goal.ExprAlike::alike-returns-in-Parameter-other
ExprAlike::alike-returns-in-Parameter-other t c = expr_by _ _ _ _ _ (ap out-Expr c.in-Parameter.is ∙ expr.outs-Parameter _ _) (ap out-Expr c.in-Parameter-other.is ∙ expr.outs-Parameter _ _) (grind (arith, common_steps))

pub ExprAlike::alike-returns-in-Name-other : goal.ExprAlike::alike-returns-in-Name-other
ExprAlike::alike-returns-in-Name-other t c = expr_by _ _ _ _ _ (ap out-Expr c.in-Name.is ∙ expr.outs-Name _ _) (ap out-Expr c.in-Name-other.is ∙ expr.outs-Name _ _) (grind (arith, common_steps))

pub ExprAlike::alike-returns-in-Call-other : goal.ExprAlike::alike-returns-in-Call-other
ExprAlike::alike-returns-in-Call-other t c = expr_by _ _ _ _ _ (ap out-Expr c.in-Call.is ∙ expr.outs-Call _ _) (ap out-Expr c.in-Call-other.is ∙ expr.outs-Call _ _) (grind (arith, common_steps))

pub ExprAlike::alike-returns-in-SafeCall-other : goal.ExprAlike::alike-returns-in-SafeCall-other
ExprAlike::alike-returns-in-SafeCall-other t c = expr_by _ _ _ _ _ (ap out-Expr c.in-SafeCall.is ∙ expr.outs-SafeCall _ _) (ap out-Expr c.in-SafeCall-other.is ∙ expr.outs-SafeCall _ _) (grind (arith, common_steps))

pub ExprAlike::alike-returns-in-Scalar-other : goal.ExprAlike::alike-returns-in-Scalar-other
ExprAlike::alike-returns-in-Scalar-other t c = expr_by _ _ _ _ _ (ap out-Expr c.in-Scalar.is ∙ expr.outs-Scalar _ _) (ap out-Expr c.in-Scalar-other.is ∙ expr.outs-Scalar _ _) (grind (arith, common_steps))

pub ExprAlike::alike-returns-in-Tuple-other : goal.ExprAlike::alike-returns-in-Tuple-other
ExprAlike::alike-returns-in-Tuple-other t c = expr_by _ _ _ _ _ (ap out-Expr c.in-Tuple.is ∙ expr.outs-Tuple _ _) (ap out-Expr c.in-Tuple-other.is ∙ expr.outs-Tuple _ _) (grind (arith, common_steps))

pub ExprAlike::alike-returns-in-Grouping-other : goal.ExprAlike::alike-returns-in-Grouping-other
ExprAlike::alike-returns-in-Grouping-other t c = expr_by _ _ _ _ _ (ap out-Expr c.in-Grouping.is ∙ expr.outs-Grouping _ _) (ap out-Expr c.in-Grouping-other.is ∙ expr.outs-Grouping _ _) (grind (arith, common_steps))

pub ExprAlike::alike-returns-in-Exists-other : goal.ExprAlike::alike-returns-in-Exists-other
ExprAlike::alike-returns-in-Exists-other t c = expr_by _ _ _ _ _ (ap out-Expr c.in-Exists.is ∙ expr.outs-Exists _ _) (ap out-Expr c.in-Exists-other.is ∙ expr.outs-Exists _ _) (grind (arith, common_steps))

pub ExprAlike::alike-returns-in-ArrayQuery-other : goal.ExprAlike::alike-returns-in-ArrayQuery-other
ExprAlike::alike-returns-in-ArrayQuery-other t c = expr_by _ _ _ _ _ (ap out-Expr c.in-ArrayQuery.is ∙ expr.outs-ArrayQuery _ _ _) (ap out-Expr c.in-ArrayQuery-other.is ∙ expr.outs-ArrayQuery _ _ _) (grind (arith, common_steps))

pub ExprAlike::alike-returns-in-Struct-other : goal.ExprAlike::alike-returns-in-Struct-other
ExprAlike::alike-returns-in-Struct-other t c = expr_by _ _ _ _ _ (ap out-Expr c.in-Struct.is ∙ expr.outs-Struct _ _) (ap out-Expr c.in-Struct-other.is ∙ expr.outs-Struct _ _) (grind (arith, common_steps))

pub ExprAlike::alike-returns-in_default : goal.ExprAlike::alike-returns-in_default
ExprAlike::alike-returns-in_default t c = expr_only_Or _ _ _ _ _ c.in-Or.is c.in_default.not-Or

pub ExprAlike::alike-returns-in_default-other : goal.ExprAlike::alike-returns-in_default-other
ExprAlike::alike-returns-in_default-other t c = expr_only_And _ _ _ _ _ c.in-And.is c.in_default-other.not-And

pub ExprAlike::alike-returns-in_default-other-2 : goal.ExprAlike::alike-returns-in_default-other-2
ExprAlike::alike-returns-in_default-other-2 t c = expr_only_Not _ _ _ _ _ c.in-Not.is c.in_default-other-2.not-Not

pub ExprAlike::alike-returns-in_default-other-3 : goal.ExprAlike::alike-returns-in_default-other-3
ExprAlike::alike-returns-in_default-other-3 t c = expr_only_BitOr _ _ _ _ _ c.in-BitOr.is c.in_default-other-3.not-BitOr

pub ExprAlike::alike-returns-in_default-other-4 : goal.ExprAlike::alike-returns-in_default-other-4
ExprAlike::alike-returns-in_default-other-4 t c = expr_only_BitXor _ _ _ _ _ c.in-BitXor.is c.in_default-other-4.not-BitXor

pub ExprAlike::alike-returns-in_default-other-5 : goal.ExprAlike::alike-returns-in_default-other-5
ExprAlike::alike-returns-in_default-other-5 t c = expr_only_BitAnd _ _ _ _ _ c.in-BitAnd.is c.in_default-other-5.not-BitAnd

pub ExprAlike::alike-returns-in_default-other-6 : goal.ExprAlike::alike-returns-in_default-other-6
ExprAlike::alike-returns-in_default-other-6 t c = expr_only_Shift _ _ _ _ _ c.in-Shift.is c.in_default-other-6.not-Shift

pub ExprAlike::alike-returns-in_default-other-7 : goal.ExprAlike::alike-returns-in_default-other-7
ExprAlike::alike-returns-in_default-other-7 t c = expr_only_Sum _ _ _ _ _ c.in-Sum.is c.in_default-other-7.not-Sum

pub ExprAlike::alike-returns-in_default-other-8 : goal.ExprAlike::alike-returns-in_default-other-8
ExprAlike::alike-returns-in_default-other-8 t c = expr_only_Product _ _ _ _ _ c.in-Product.is c.in_default-other-8.not-Product

pub ExprAlike::alike-returns-in_default-other-9 : goal.ExprAlike::alike-returns-in_default-other-9
ExprAlike::alike-returns-in_default-other-9 t c = expr_only_Unary _ _ _ _ _ c.in-Unary.is c.in_default-other-9.not-Unary

pub ExprAlike::alike-returns-in_default-other-10 : goal.ExprAlike::alike-returns-in_default-other-10
ExprAlike::alike-returns-in_default-other-10 t c = expr_only_Compare _ _ _ _ _ _ _ c.in-Compare.is c.in_default-other-10.not-Compare

pub ExprAlike::alike-returns-in_default-other-11 : goal.ExprAlike::alike-returns-in_default-other-11
ExprAlike::alike-returns-in_default-other-11 t c = expr_only_Like _ _ _ _ _ _ _ c.in-Like.is c.in_default-other-11.not-Like

pub ExprAlike::alike-returns-in_default-other-12 : goal.ExprAlike::alike-returns-in_default-other-12
ExprAlike::alike-returns-in_default-other-12 t c = expr_only_LikeList _ _ _ _ _ _ _ c.in-LikeList.is c.in_default-other-12.not-LikeList

pub ExprAlike::alike-returns-in_default-other-13 : goal.ExprAlike::alike-returns-in_default-other-13
ExprAlike::alike-returns-in_default-other-13 t c = expr_only_LikeUnnest _ _ _ _ _ _ _ c.in-LikeUnnest.is c.in_default-other-13.not-LikeUnnest

pub ExprAlike::alike-returns-in_default-other-14 : goal.ExprAlike::alike-returns-in_default-other-14
ExprAlike::alike-returns-in_default-other-14 t c = expr_only_Between _ _ _ _ _ _ _ _ c.in-Between.is c.in_default-other-14.not-Between

pub ExprAlike::alike-returns-in_default-other-15 : goal.ExprAlike::alike-returns-in_default-other-15
ExprAlike::alike-returns-in_default-other-15 t c = expr_only_InList _ _ _ _ _ _ _ c.in-InList.is c.in_default-other-15.not-InList

pub ExprAlike::alike-returns-in_default-other-16 : goal.ExprAlike::alike-returns-in_default-other-16
ExprAlike::alike-returns-in_default-other-16 t c = expr_only_InQuery _ _ _ _ _ _ _ _ c.in-InQuery.is c.in_default-other-16.not-InQuery

pub ExprAlike::alike-returns-in_default-other-17 : goal.ExprAlike::alike-returns-in_default-other-17
ExprAlike::alike-returns-in_default-other-17 t c = expr_only_InUnnest _ _ _ _ _ _ _ c.in-InUnnest.is c.in_default-other-17.not-InUnnest

pub ExprAlike::alike-returns-in_default-other-18 : goal.ExprAlike::alike-returns-in_default-other-18
ExprAlike::alike-returns-in_default-other-18 t c = expr_only_Is _ _ _ _ _ _ _ c.in-Is.is c.in_default-other-18.not-Is

pub ExprAlike::alike-returns-in_default-other-19 : goal.ExprAlike::alike-returns-in_default-other-19
ExprAlike::alike-returns-in_default-other-19 t c = expr_only_Distinct _ _ _ _ _ _ _ c.in-Distinct.is c.in_default-other-19.not-Distinct

pub ExprAlike::alike-returns-in_default-other-20 : goal.ExprAlike::alike-returns-in_default-other-20
ExprAlike::alike-returns-in_default-other-20 t c = expr_only_Postfix _ _ _ _ _ c.in-Postfix.is c.in_default-other-20.not-Postfix

pub ExprAlike::alike-returns-in_default-other-21 : goal.ExprAlike::alike-returns-in_default-other-21
ExprAlike::alike-returns-in_default-other-21 t c = expr_only_Integer _ _ _ _ c.in-Integer.is c.in_default-other-21.not-Integer

pub ExprAlike::alike-returns-in_default-other-22 : goal.ExprAlike::alike-returns-in_default-other-22
ExprAlike::alike-returns-in_default-other-22 t c = expr_only_Text _ _ _ _ c.in-Text.is c.in_default-other-22.not-Text

pub ExprAlike::alike-returns-in_default-other-23 : goal.ExprAlike::alike-returns-in_default-other-23
ExprAlike::alike-returns-in_default-other-23 t c = expr_only_Bytes _ _ _ _ c.in-Bytes.is c.in_default-other-23.not-Bytes

pub ExprAlike::alike-returns-in_default-other-24 : goal.ExprAlike::alike-returns-in_default-other-24
ExprAlike::alike-returns-in_default-other-24 t c = expr_only_Bool _ _ _ _ c.in-Bool.is c.in_default-other-24.not-Bool

pub ExprAlike::alike-returns-in_default-other-25 : goal.ExprAlike::alike-returns-in_default-other-25
ExprAlike::alike-returns-in_default-other-25 t c = expr_only_Date _ _ _ _ c.in-Date.is c.in_default-other-25.not-Date

pub ExprAlike::alike-returns-in_default-other-26 : goal.ExprAlike::alike-returns-in_default-other-26
ExprAlike::alike-returns-in_default-other-26 t c = expr_only_Parameter _ _ _ _ c.in-Parameter.is c.in_default-other-26.not-Parameter

pub ExprAlike::alike-returns-in_default-other-27 : goal.ExprAlike::alike-returns-in_default-other-27
ExprAlike::alike-returns-in_default-other-27 t c = expr_only_Name _ _ _ _ c.in-Name.is c.in_default-other-27.not-Name

pub ExprAlike::alike-returns-in_default-other-28 : goal.ExprAlike::alike-returns-in_default-other-28
ExprAlike::alike-returns-in_default-other-28 t c = expr_only_Call _ _ _ _ c.in-Call.is c.in_default-other-28.not-Call

pub ExprAlike::alike-returns-in_default-other-29 : goal.ExprAlike::alike-returns-in_default-other-29
ExprAlike::alike-returns-in_default-other-29 t c = expr_only_SafeCall _ _ _ _ c.in-SafeCall.is c.in_default-other-29.not-SafeCall

pub ExprAlike::alike-returns-in_default-other-30 : goal.ExprAlike::alike-returns-in_default-other-30
ExprAlike::alike-returns-in_default-other-30 t c = expr_only_Scalar _ _ _ _ c.in-Scalar.is c.in_default-other-30.not-Scalar

pub ExprAlike::alike-returns-in_default-other-31 : goal.ExprAlike::alike-returns-in_default-other-31
ExprAlike::alike-returns-in_default-other-31 t c = expr_only_Tuple _ _ _ _ c.in-Tuple.is c.in_default-other-31.not-Tuple

pub ExprAlike::alike-returns-in_default-other-32 : goal.ExprAlike::alike-returns-in_default-other-32
ExprAlike::alike-returns-in_default-other-32 t c = expr_only_Case _ _ _ _ _ _ c.in-Case.is c.in_default-other-32.not-Case

pub ExprAlike::alike-returns-in_default-other-33 : goal.ExprAlike::alike-returns-in_default-other-33
ExprAlike::alike-returns-in_default-other-33 t c = expr_only_Cast _ _ _ _ _ _ c.in-Cast.is c.in_default-other-33.not-Cast

pub ExprAlike::alike-returns-in_default-other-34 : goal.ExprAlike::alike-returns-in_default-other-34
ExprAlike::alike-returns-in_default-other-34 t c = expr_only_Extract _ _ _ _ _ c.in-Extract.is c.in_default-other-34.not-Extract

pub ExprAlike::alike-returns-in_default-other-35 : goal.ExprAlike::alike-returns-in_default-other-35
ExprAlike::alike-returns-in_default-other-35 t c = expr_only_Grouping _ _ _ _ c.in-Grouping.is c.in_default-other-35.not-Grouping

pub ExprAlike::alike-returns-in_default-other-36 : goal.ExprAlike::alike-returns-in_default-other-36
ExprAlike::alike-returns-in_default-other-36 t c = expr_only_Exists _ _ _ _ c.in-Exists.is c.in_default-other-36.not-Exists

pub ExprAlike::alike-returns-in_default-other-37 : goal.ExprAlike::alike-returns-in_default-other-37
ExprAlike::alike-returns-in_default-other-37 t c = expr_only_ArrayQuery _ _ _ _ _ c.in-ArrayQuery.is c.in_default-other-37.not-ArrayQuery

pub ExprAlike::alike-returns-in_default-other-38 : goal.ExprAlike::alike-returns-in_default-other-38
ExprAlike::alike-returns-in_default-other-38 t c = expr_only_Array _ _ _ _ _ _ c.in-Array.is c.in_default-other-38.not-Array

pub ExprAlike::alike-returns-in_default-other-39 : goal.ExprAlike::alike-returns-in_default-other-39
ExprAlike::alike-returns-in_default-other-39 t c = expr_only_Struct _ _ _ _ c.in-Struct.is c.in_default-other-39.not-Struct

pub ExprAlike::alike-returns-in_default-other-40 : goal.ExprAlike::alike-returns-in_default-other-40
ExprAlike::alike-returns-in_default-other-40 t c = expr_only_TypedStruct _ _ _ _ _ _ c.in-TypedStruct.is c.in_default-other-40.not-TypedStruct

pub ExprAlike::alike-returns-in_default-other-41 : goal.ExprAlike::alike-returns-in_default-other-41
ExprAlike::alike-returns-in_default-other-41 t c = expr_only_With _ _ _ _ _ c.in-With.is c.in_default-other-41.not-With

pub PrimaryAlike::alike-returns-in_default : goal.PrimaryAlike::alike-returns-in_default
PrimaryAlike::alike-returns-in_default t c = primary_only_Table _ _ _ _ _ _ c.in_default.is-0 c.in_default.not-Table-1

pub PrimaryAlike::alike-returns-in_default-2 : goal.PrimaryAlike::alike-returns-in_default-2
PrimaryAlike::alike-returns-in_default-2 t c = primary_only_Query _ _ _ _ _ _ c.in_default.is-0 c.in_default.not-Query-1

pub PrimaryAlike::alike-returns-in_default-3 : goal.PrimaryAlike::alike-returns-in_default-3
PrimaryAlike::alike-returns-in_default-3 t c = primary_only_Path _ _ _ _ _ _ c.in_default.is-0 c.in_default.not-Path-1

pub PrimaryAlike::alike-returns-in_default-4 : goal.PrimaryAlike::alike-returns-in_default-4
PrimaryAlike::alike-returns-in_default-4 t c = primary_only_Unnest _ _ _ _ _ _ c.in_default.is-0 c.in_default.not-Unnest-1

pub TermAlike::alike-returns-in-Select-other : goal.TermAlike::alike-returns-in-Select-other
TermAlike::alike-returns-in-Select-other t c = term_by _ _ _ _ _ (ap out-Term c.in-Select.is ∙ term.outs-Select _) (ap out-Term c.in-Select-other.is ∙ term.outs-Select _) (grind (arith, common_steps))

pub TermAlike::alike-returns-in-Query-other : goal.TermAlike::alike-returns-in-Query-other
TermAlike::alike-returns-in-Query-other t c = term_by _ _ _ _ _ (ap out-Term c.in-Query.is ∙ term.outs-Query _ _) (ap out-Term c.in-Query-other.is ∙ term.outs-Query _ _) (grind (arith, common_steps))

pub TermAlike::alike-returns-in_default : goal.TermAlike::alike-returns-in_default
TermAlike::alike-returns-in_default t c = term_only_Select _ _ _ c.in-Select.is c.in_default.not-Select

pub TermAlike::alike-returns-in_default-other : goal.TermAlike::alike-returns-in_default-other
TermAlike::alike-returns-in_default-other t c = term_only_Query _ _ _ _ c.in-Query.is c.in_default-other.not-Query

pub ExprAlike::alike-returns-then-alike : goal.ExprAlike::alike-returns-then-alike
ExprAlike::alike-returns-then-alike t c = expr_by _ _ _ _ _ (ap out-Expr c.in-Or.is ∙ expr.outs-Or _ _ _) (ap out-Expr c.in-Or-other.is ∙ expr.outs-Or _ _ _) (grind (arith, common_steps))

pub ExprAlike::alike-returns-else-alike : goal.ExprAlike::alike-returns-else-alike
ExprAlike::alike-returns-else-alike t c = expr_by _ _ _ _ _ (ap out-Expr c.in-Or.is ∙ expr.outs-Or _ _ _) (ap out-Expr c.in-Or-other.is ∙ expr.outs-Or _ _ _) (grind (arith, common_steps))

pub ExprAlike::alike-returns-then-alike-2 : goal.ExprAlike::alike-returns-then-alike-2
ExprAlike::alike-returns-then-alike-2 t c = expr_by _ _ _ _ _ (ap out-Expr c.in-And.is ∙ expr.outs-And _ _ _) (ap out-Expr c.in-And-other.is ∙ expr.outs-And _ _ _) (grind (arith, common_steps))

pub ExprAlike::alike-returns-else-alike-2 : goal.ExprAlike::alike-returns-else-alike-2
ExprAlike::alike-returns-else-alike-2 t c = expr_by _ _ _ _ _ (ap out-Expr c.in-And.is ∙ expr.outs-And _ _ _) (ap out-Expr c.in-And-other.is ∙ expr.outs-And _ _ _) (grind (arith, common_steps))

pub ExprAlike::alike-returns-then-same_count : goal.ExprAlike::alike-returns-then-same_count
ExprAlike::alike-returns-then-same_count t c = expr_by _ _ _ _ _ (ap out-Expr c.in-Not.is ∙ expr.outs-Not _ _ _) (ap out-Expr c.in-Not-other.is ∙ expr.outs-Not _ _ _) (grind (arith, common_steps))

pub ExprAlike::alike-returns-else-same_count : goal.ExprAlike::alike-returns-else-same_count
ExprAlike::alike-returns-else-same_count t c = expr_by _ _ _ _ _ (ap out-Expr c.in-Not.is ∙ expr.outs-Not _ _ _) (ap out-Expr c.in-Not-other.is ∙ expr.outs-Not _ _ _) (grind (arith, common_steps))

pub ExprAlike::alike-returns-then-alike-3 : goal.ExprAlike::alike-returns-then-alike-3
ExprAlike::alike-returns-then-alike-3 t c = expr_by _ _ _ _ _ (ap out-Expr c.in-BitOr.is ∙ expr.outs-BitOr _ _ _) (ap out-Expr c.in-BitOr-other.is ∙ expr.outs-BitOr _ _ _) (grind (arith, common_steps))

pub ExprAlike::alike-returns-else-alike-3 : goal.ExprAlike::alike-returns-else-alike-3
ExprAlike::alike-returns-else-alike-3 t c = expr_by _ _ _ _ _ (ap out-Expr c.in-BitOr.is ∙ expr.outs-BitOr _ _ _) (ap out-Expr c.in-BitOr-other.is ∙ expr.outs-BitOr _ _ _) (grind (arith, common_steps))

pub ExprAlike::alike-returns-then-alike-4 : goal.ExprAlike::alike-returns-then-alike-4
ExprAlike::alike-returns-then-alike-4 t c = expr_by _ _ _ _ _ (ap out-Expr c.in-BitXor.is ∙ expr.outs-BitXor _ _ _) (ap out-Expr c.in-BitXor-other.is ∙ expr.outs-BitXor _ _ _) (grind (arith, common_steps))

pub ExprAlike::alike-returns-else-alike-4 : goal.ExprAlike::alike-returns-else-alike-4
ExprAlike::alike-returns-else-alike-4 t c = expr_by _ _ _ _ _ (ap out-Expr c.in-BitXor.is ∙ expr.outs-BitXor _ _ _) (ap out-Expr c.in-BitXor-other.is ∙ expr.outs-BitXor _ _ _) (grind (arith, common_steps))

pub ExprAlike::alike-returns-then-alike-5 : goal.ExprAlike::alike-returns-then-alike-5
ExprAlike::alike-returns-then-alike-5 t c = expr_by _ _ _ _ _ (ap out-Expr c.in-BitAnd.is ∙ expr.outs-BitAnd _ _ _) (ap out-Expr c.in-BitAnd-other.is ∙ expr.outs-BitAnd _ _ _) (grind (arith, common_steps))

pub ExprAlike::alike-returns-else-alike-5 : goal.ExprAlike::alike-returns-else-alike-5
ExprAlike::alike-returns-else-alike-5 t c = expr_by _ _ _ _ _ (ap out-Expr c.in-BitAnd.is ∙ expr.outs-BitAnd _ _ _) (ap out-Expr c.in-BitAnd-other.is ∙ expr.outs-BitAnd _ _ _) (grind (arith, common_steps))

pub ExprAlike::alike-returns-then-alike-6 : goal.ExprAlike::alike-returns-then-alike-6
ExprAlike::alike-returns-then-alike-6 t c = expr_by _ _ _ _ _ (ap out-Expr c.in-Shift.is ∙ expr.outs-Shift _ _ _) (ap out-Expr c.in-Shift-other.is ∙ expr.outs-Shift _ _ _) (grind (arith, common_steps))

pub ExprAlike::alike-returns-else-alike-6 : goal.ExprAlike::alike-returns-else-alike-6
ExprAlike::alike-returns-else-alike-6 t c = expr_by _ _ _ _ _ (ap out-Expr c.in-Shift.is ∙ expr.outs-Shift _ _ _) (ap out-Expr c.in-Shift-other.is ∙ expr.outs-Shift _ _ _) (grind (arith, common_steps))

pub ExprAlike::alike-returns-then-alike-7 : goal.ExprAlike::alike-returns-then-alike-7
ExprAlike::alike-returns-then-alike-7 t c = expr_by _ _ _ _ _ (ap out-Expr c.in-Sum.is ∙ expr.outs-Sum _ _ _) (ap out-Expr c.in-Sum-other.is ∙ expr.outs-Sum _ _ _) (grind (arith, common_steps))

pub ExprAlike::alike-returns-else-alike-7 : goal.ExprAlike::alike-returns-else-alike-7
ExprAlike::alike-returns-else-alike-7 t c = expr_by _ _ _ _ _ (ap out-Expr c.in-Sum.is ∙ expr.outs-Sum _ _ _) (ap out-Expr c.in-Sum-other.is ∙ expr.outs-Sum _ _ _) (grind (arith, common_steps))

pub ExprAlike::alike-returns-then-alike-8 : goal.ExprAlike::alike-returns-then-alike-8
ExprAlike::alike-returns-then-alike-8 t c = expr_by _ _ _ _ _ (ap out-Expr c.in-Product.is ∙ expr.outs-Product _ _ _) (ap out-Expr c.in-Product-other.is ∙ expr.outs-Product _ _ _) (grind (arith, common_steps))

pub ExprAlike::alike-returns-else-alike-8 : goal.ExprAlike::alike-returns-else-alike-8
ExprAlike::alike-returns-else-alike-8 t c = expr_by _ _ _ _ _ (ap out-Expr c.in-Product.is ∙ expr.outs-Product _ _ _) (ap out-Expr c.in-Product-other.is ∙ expr.outs-Product _ _ _) (grind (arith, common_steps))

pub ExprAlike::alike-returns-then-alike-9 : goal.ExprAlike::alike-returns-then-alike-9
ExprAlike::alike-returns-then-alike-9 t c = expr_by _ _ _ _ _ (ap out-Expr c.in-Unary.is ∙ expr.outs-Unary _ _ _) (ap out-Expr c.in-Unary-other.is ∙ expr.outs-Unary _ _ _) (grind (arith, common_steps))

pub ExprAlike::alike-returns-else-alike-9 : goal.ExprAlike::alike-returns-else-alike-9
ExprAlike::alike-returns-else-alike-9 t c = expr_by _ _ _ _ _ (ap out-Expr c.in-Unary.is ∙ expr.outs-Unary _ _ _) (ap out-Expr c.in-Unary-other.is ∙ expr.outs-Unary _ _ _) (grind (arith, common_steps))

pub ExprAlike::alike-returns-then-eq : goal.ExprAlike::alike-returns-then-eq
ExprAlike::alike-returns-then-eq t c = expr_by _ _ _ _ _ (ap out-Expr c.in-Compare.is ∙ expr.outs-Compare _ _ _ _ _) (ap out-Expr c.in-Compare-other.is ∙ expr.outs-Compare _ _ _ _ _) (grind (arith, common_steps))

pub ExprAlike::alike-returns-else-eq : goal.ExprAlike::alike-returns-else-eq
ExprAlike::alike-returns-else-eq t c = expr_by _ _ _ _ _ (ap out-Expr c.in-Compare.is ∙ expr.outs-Compare _ _ _ _ _) (ap out-Expr c.in-Compare-other.is ∙ expr.outs-Compare _ _ _ _ _) (grind (arith, common_steps))

pub ExprAlike::alike-returns-then-negated-other_negated : goal.ExprAlike::alike-returns-then-negated-other_negated
ExprAlike::alike-returns-then-negated-other_negated t c = expr_by _ _ _ _ _ (ap out-Expr c.in-Like.is ∙ expr.outs-Like _ _ _ _ _) (ap out-Expr c.in-Like-other.is ∙ expr.outs-Like _ _ _ _ _) (grind (arith, common_steps))

pub ExprAlike::alike-returns-else-negated-other_negated : goal.ExprAlike::alike-returns-else-negated-other_negated
ExprAlike::alike-returns-else-negated-other_negated t c = expr_by _ _ _ _ _ (ap out-Expr c.in-Like.is ∙ expr.outs-Like _ _ _ _ _) (ap out-Expr c.in-Like-other.is ∙ expr.outs-Like _ _ _ _ _) (grind (arith, common_steps))

pub ExprAlike::alike-returns-then-eq-2 : goal.ExprAlike::alike-returns-then-eq-2
ExprAlike::alike-returns-then-eq-2 t c = expr_by _ _ _ _ _ (ap out-Expr c.in-LikeList.is ∙ expr.outs-LikeList _ _ _ _ _) (ap out-Expr c.in-LikeList-other.is ∙ expr.outs-LikeList _ _ _ _ _) (grind (arith, common_steps))

pub ExprAlike::alike-returns-else-eq-2 : goal.ExprAlike::alike-returns-else-eq-2
ExprAlike::alike-returns-else-eq-2 t c = expr_by _ _ _ _ _ (ap out-Expr c.in-LikeList.is ∙ expr.outs-LikeList _ _ _ _ _) (ap out-Expr c.in-LikeList-other.is ∙ expr.outs-LikeList _ _ _ _ _) (grind (arith, common_steps))

pub ExprAlike::alike-returns-then-eq-3 : goal.ExprAlike::alike-returns-then-eq-3
ExprAlike::alike-returns-then-eq-3 t c = expr_by _ _ _ _ _ (ap out-Expr c.in-LikeUnnest.is ∙ expr.outs-LikeUnnest _ _ _ _ _) (ap out-Expr c.in-LikeUnnest-other.is ∙ expr.outs-LikeUnnest _ _ _ _ _) (grind (arith, common_steps))

pub ExprAlike::alike-returns-else-eq-3 : goal.ExprAlike::alike-returns-else-eq-3
ExprAlike::alike-returns-else-eq-3 t c = expr_by _ _ _ _ _ (ap out-Expr c.in-LikeUnnest.is ∙ expr.outs-LikeUnnest _ _ _ _ _) (ap out-Expr c.in-LikeUnnest-other.is ∙ expr.outs-LikeUnnest _ _ _ _ _) (grind (arith, common_steps))

pub ExprAlike::alike-returns-then-alike-15 : goal.ExprAlike::alike-returns-then-alike-15
ExprAlike::alike-returns-then-alike-15 t c = expr_by _ _ _ _ _ (ap out-Expr c.in-Between.is ∙ expr.outs-Between _ _ _ _ _ _) (ap out-Expr c.in-Between-other.is ∙ expr.outs-Between _ _ _ _ _ _) (grind (arith, common_steps))

pub ExprAlike::alike-returns-else-alike-15 : goal.ExprAlike::alike-returns-else-alike-15
ExprAlike::alike-returns-else-alike-15 t c = expr_by _ _ _ _ _ (ap out-Expr c.in-Between.is ∙ expr.outs-Between _ _ _ _ _ _) (ap out-Expr c.in-Between-other.is ∙ expr.outs-Between _ _ _ _ _ _) (grind (arith, common_steps))

pub ExprAlike::alike-returns-then-negated-other_negated-3 : goal.ExprAlike::alike-returns-then-negated-other_negated-3
ExprAlike::alike-returns-then-negated-other_negated-3 t c = expr_by _ _ _ _ _ (ap out-Expr c.in-InList.is ∙ expr.outs-InList _ _ _ _ _) (ap out-Expr c.in-InList-other.is ∙ expr.outs-InList _ _ _ _ _) (grind (arith, common_steps))

pub ExprAlike::alike-returns-else-negated-other_negated-3 : goal.ExprAlike::alike-returns-else-negated-other_negated-3
ExprAlike::alike-returns-else-negated-other_negated-3 t c = expr_by _ _ _ _ _ (ap out-Expr c.in-InList.is ∙ expr.outs-InList _ _ _ _ _) (ap out-Expr c.in-InList-other.is ∙ expr.outs-InList _ _ _ _ _) (grind (arith, common_steps))

pub ExprAlike::alike-returns-then-negated-other_negated-4 : goal.ExprAlike::alike-returns-then-negated-other_negated-4
ExprAlike::alike-returns-then-negated-other_negated-4 t c = expr_by _ _ _ _ _ (ap out-Expr c.in-InQuery.is ∙ expr.outs-InQuery _ _ _ _ _ _) (ap out-Expr c.in-InQuery-other.is ∙ expr.outs-InQuery _ _ _ _ _ _) (grind (arith, common_steps))

pub ExprAlike::alike-returns-else-negated-other_negated-4 : goal.ExprAlike::alike-returns-else-negated-other_negated-4
ExprAlike::alike-returns-else-negated-other_negated-4 t c = expr_by _ _ _ _ _ (ap out-Expr c.in-InQuery.is ∙ expr.outs-InQuery _ _ _ _ _ _) (ap out-Expr c.in-InQuery-other.is ∙ expr.outs-InQuery _ _ _ _ _ _) (grind (arith, common_steps))

pub ExprAlike::alike-returns-then-negated-other_negated-5 : goal.ExprAlike::alike-returns-then-negated-other_negated-5
ExprAlike::alike-returns-then-negated-other_negated-5 t c = expr_by _ _ _ _ _ (ap out-Expr c.in-InUnnest.is ∙ expr.outs-InUnnest _ _ _ _ _) (ap out-Expr c.in-InUnnest-other.is ∙ expr.outs-InUnnest _ _ _ _ _) (grind (arith, common_steps))

pub ExprAlike::alike-returns-else-negated-other_negated-5 : goal.ExprAlike::alike-returns-else-negated-other_negated-5
ExprAlike::alike-returns-else-negated-other_negated-5 t c = expr_by _ _ _ _ _ (ap out-Expr c.in-InUnnest.is ∙ expr.outs-InUnnest _ _ _ _ _) (ap out-Expr c.in-InUnnest-other.is ∙ expr.outs-InUnnest _ _ _ _ _) (grind (arith, common_steps))

pub ExprAlike::alike-returns-then-negated-other_negated-6 : goal.ExprAlike::alike-returns-then-negated-other_negated-6
ExprAlike::alike-returns-then-negated-other_negated-6 t c = expr_by _ _ _ _ _ (ap out-Expr c.in-Is.is ∙ expr.outs-Is _ _ _ _ _) (ap out-Expr c.in-Is-other.is ∙ expr.outs-Is _ _ _ _ _) (grind (arith, common_steps))

pub ExprAlike::alike-returns-else-negated-other_negated-6 : goal.ExprAlike::alike-returns-else-negated-other_negated-6
ExprAlike::alike-returns-else-negated-other_negated-6 t c = expr_by _ _ _ _ _ (ap out-Expr c.in-Is.is ∙ expr.outs-Is _ _ _ _ _) (ap out-Expr c.in-Is-other.is ∙ expr.outs-Is _ _ _ _ _) (grind (arith, common_steps))

pub ExprAlike::alike-returns-then-negated-other_negated-7 : goal.ExprAlike::alike-returns-then-negated-other_negated-7
ExprAlike::alike-returns-then-negated-other_negated-7 t c = expr_by _ _ _ _ _ (ap out-Expr c.in-Distinct.is ∙ expr.outs-Distinct _ _ _ _ _) (ap out-Expr c.in-Distinct-other.is ∙ expr.outs-Distinct _ _ _ _ _) (grind (arith, common_steps))

pub ExprAlike::alike-returns-else-negated-other_negated-7 : goal.ExprAlike::alike-returns-else-negated-other_negated-7
ExprAlike::alike-returns-else-negated-other_negated-7 t c = expr_by _ _ _ _ _ (ap out-Expr c.in-Distinct.is ∙ expr.outs-Distinct _ _ _ _ _) (ap out-Expr c.in-Distinct-other.is ∙ expr.outs-Distinct _ _ _ _ _) (grind (arith, common_steps))

pub ExprAlike::alike-returns-then-alike-21 : goal.ExprAlike::alike-returns-then-alike-21
ExprAlike::alike-returns-then-alike-21 t c = expr_by _ _ _ _ _ (ap out-Expr c.in-Postfix.is ∙ expr.outs-Postfix _ _ _) (ap out-Expr c.in-Postfix-other.is ∙ expr.outs-Postfix _ _ _) (grind (arith, common_steps))

pub ExprAlike::alike-returns-else-alike-21 : goal.ExprAlike::alike-returns-else-alike-21
ExprAlike::alike-returns-else-alike-21 t c = expr_by _ _ _ _ _ (ap out-Expr c.in-Postfix.is ∙ expr.outs-Postfix _ _ _) (ap out-Expr c.in-Postfix-other.is ∙ expr.outs-Postfix _ _ _) (grind (arith, common_steps))

pub ExprAlike::alike-returns-then-alike-23 : goal.ExprAlike::alike-returns-then-alike-23
ExprAlike::alike-returns-then-alike-23 t c = expr_by _ _ _ _ _ (ap out-Expr c.in-Case.is ∙ expr.outs-Case _ _ _ _) (ap out-Expr c.in-Case-other.is ∙ expr.outs-Case _ _ _ _) (grind (arith, common_steps))

pub ExprAlike::alike-returns-else-alike-23 : goal.ExprAlike::alike-returns-else-alike-23
ExprAlike::alike-returns-else-alike-23 t c = expr_by _ _ _ _ _ (ap out-Expr c.in-Case.is ∙ expr.outs-Case _ _ _ _) (ap out-Expr c.in-Case-other.is ∙ expr.outs-Case _ _ _ _) (grind (arith, common_steps))

pub ExprAlike::alike-returns-then-alike-24 : goal.ExprAlike::alike-returns-then-alike-24
ExprAlike::alike-returns-then-alike-24 t c = expr_by _ _ _ _ _ (ap out-Expr c.in-Cast.is ∙ expr.outs-Cast _ _ _ _) (ap out-Expr c.in-Cast-other.is ∙ expr.outs-Cast _ _ _ _) (grind (arith, common_steps))

pub ExprAlike::alike-returns-else-alike-24 : goal.ExprAlike::alike-returns-else-alike-24
ExprAlike::alike-returns-else-alike-24 t c = expr_by _ _ _ _ _ (ap out-Expr c.in-Cast.is ∙ expr.outs-Cast _ _ _ _) (ap out-Expr c.in-Cast-other.is ∙ expr.outs-Cast _ _ _ _) (grind (arith, common_steps))

pub ExprAlike::alike-returns-then-alike-25 : goal.ExprAlike::alike-returns-then-alike-25
ExprAlike::alike-returns-then-alike-25 t c = expr_by _ _ _ _ _ (ap out-Expr c.in-Extract.is ∙ expr.outs-Extract _ _ _) (ap out-Expr c.in-Extract-other.is ∙ expr.outs-Extract _ _ _) (grind (arith, common_steps))

pub ExprAlike::alike-returns-else-alike-25 : goal.ExprAlike::alike-returns-else-alike-25
ExprAlike::alike-returns-else-alike-25 t c = expr_by _ _ _ _ _ (ap out-Expr c.in-Extract.is ∙ expr.outs-Extract _ _ _) (ap out-Expr c.in-Extract-other.is ∙ expr.outs-Extract _ _ _) (grind (arith, common_steps))

pub ExprAlike::alike-returns-then-alike-26 : goal.ExprAlike::alike-returns-then-alike-26
ExprAlike::alike-returns-then-alike-26 t c = expr_by _ _ _ _ _ (ap out-Expr c.in-Array.is ∙ expr.outs-Array _ _ _ _) (ap out-Expr c.in-Array-other.is ∙ expr.outs-Array _ _ _ _) (grind (arith, common_steps))

pub ExprAlike::alike-returns-else-alike-26 : goal.ExprAlike::alike-returns-else-alike-26
ExprAlike::alike-returns-else-alike-26 t c = expr_by _ _ _ _ _ (ap out-Expr c.in-Array.is ∙ expr.outs-Array _ _ _ _) (ap out-Expr c.in-Array-other.is ∙ expr.outs-Array _ _ _ _) (grind (arith, common_steps))

pub ExprAlike::alike-returns-then-alike-27 : goal.ExprAlike::alike-returns-then-alike-27
ExprAlike::alike-returns-then-alike-27 t c = expr_by _ _ _ _ _ (ap out-Expr c.in-TypedStruct.is ∙ expr.outs-TypedStruct _ _ _ _) (ap out-Expr c.in-TypedStruct-other.is ∙ expr.outs-TypedStruct _ _ _ _) (grind (arith, common_steps))

pub ExprAlike::alike-returns-else-alike-27 : goal.ExprAlike::alike-returns-else-alike-27
ExprAlike::alike-returns-else-alike-27 t c = expr_by _ _ _ _ _ (ap out-Expr c.in-TypedStruct.is ∙ expr.outs-TypedStruct _ _ _ _) (ap out-Expr c.in-TypedStruct-other.is ∙ expr.outs-TypedStruct _ _ _ _) (grind (arith, common_steps))

pub ExprAlike::alike-returns-then-alike-28 : goal.ExprAlike::alike-returns-then-alike-28
ExprAlike::alike-returns-then-alike-28 t c = expr_by _ _ _ _ _ (ap out-Expr c.in-With.is ∙ expr.outs-With _ _ _) (ap out-Expr c.in-With-other.is ∙ expr.outs-With _ _ _) (grind (arith, common_steps))

pub ExprAlike::alike-returns-else-alike-28 : goal.ExprAlike::alike-returns-else-alike-28
ExprAlike::alike-returns-else-alike-28 t c = expr_by _ _ _ _ _ (ap out-Expr c.in-With.is ∙ expr.outs-With _ _ _) (ap out-Expr c.in-With-other.is ∙ expr.outs-With _ _ _) (grind (arith, common_steps))

pub PrimaryAlike::alike-returns-then-alike-2 : goal.PrimaryAlike::alike-returns-then-alike-2
PrimaryAlike::alike-returns-then-alike-2 t c = primary_by _ _ _ _ _ (ap out-Primary c.in-Table-Table.is-0 ∙ primary.outs-Table _ _ _ _) (ap out-Primary c.in-Table-Table.is-1 ∙ primary.outs-Table _ _ _ _) (grind (arith, common_steps))

pub PrimaryAlike::alike-returns-else-alike-2 : goal.PrimaryAlike::alike-returns-else-alike-2
PrimaryAlike::alike-returns-else-alike-2 t c = primary_by _ _ _ _ _ (ap out-Primary c.in-Table-Table.is-0 ∙ primary.outs-Table _ _ _ _) (ap out-Primary c.in-Table-Table.is-1 ∙ primary.outs-Table _ _ _ _) (grind (arith, common_steps))

pub PrimaryAlike::alike-returns-then-alike-4 : goal.PrimaryAlike::alike-returns-then-alike-4
PrimaryAlike::alike-returns-then-alike-4 t c = primary_by _ _ _ _ _ (ap out-Primary c.in-Query-Query.is-0 ∙ primary.outs-Query _ _ _ _) (ap out-Primary c.in-Query-Query.is-1 ∙ primary.outs-Query _ _ _ _) (grind (arith, common_steps))

pub PrimaryAlike::alike-returns-else-alike-4 : goal.PrimaryAlike::alike-returns-else-alike-4
PrimaryAlike::alike-returns-else-alike-4 t c = primary_by _ _ _ _ _ (ap out-Primary c.in-Query-Query.is-0 ∙ primary.outs-Query _ _ _ _) (ap out-Primary c.in-Query-Query.is-1 ∙ primary.outs-Query _ _ _ _) (grind (arith, common_steps))

pub PrimaryAlike::alike-returns-then-alike-6 : goal.PrimaryAlike::alike-returns-then-alike-6
PrimaryAlike::alike-returns-then-alike-6 t c = primary_by _ _ _ _ _ (ap out-Primary c.in-Path-Path.is-0 ∙ primary.outs-Path _ _ _ _) (ap out-Primary c.in-Path-Path.is-1 ∙ primary.outs-Path _ _ _ _) (grind (arith, common_steps))

pub PrimaryAlike::alike-returns-else-alike-6 : goal.PrimaryAlike::alike-returns-else-alike-6
PrimaryAlike::alike-returns-else-alike-6 t c = primary_by _ _ _ _ _ (ap out-Primary c.in-Path-Path.is-0 ∙ primary.outs-Path _ _ _ _) (ap out-Primary c.in-Path-Path.is-1 ∙ primary.outs-Path _ _ _ _) (grind (arith, common_steps))

pub PrimaryAlike::alike-returns-then-alike-8 : goal.PrimaryAlike::alike-returns-then-alike-8
PrimaryAlike::alike-returns-then-alike-8 t c = primary_by _ _ _ _ _ (ap out-Primary c.in-Unnest-Unnest.is-0 ∙ primary.outs-Unnest _ _ _ _) (ap out-Primary c.in-Unnest-Unnest.is-1 ∙ primary.outs-Unnest _ _ _ _) (grind (arith, common_steps))

pub PrimaryAlike::alike-returns-else-alike-8 : goal.PrimaryAlike::alike-returns-else-alike-8
PrimaryAlike::alike-returns-else-alike-8 t c = primary_by _ _ _ _ _ (ap out-Primary c.in-Unnest-Unnest.is-0 ∙ primary.outs-Unnest _ _ _ _) (ap out-Primary c.in-Unnest-Unnest.is-1 ∙ primary.outs-Unnest _ _ _ _) (grind (arith, common_steps))

pub FromItemAlike::alike-returns-then-alike : goal.FromItemAlike::alike-returns-then-alike
FromItemAlike::alike-returns-then-alike t c = from_by _ _ _ _ _ refl refl (grind (arith, common_steps))

pub FromItemAlike::alike-returns-else-alike : goal.FromItemAlike::alike-returns-else-alike
FromItemAlike::alike-returns-else-alike t c = from_by _ _ _ _ _ refl refl (grind (arith, common_steps))

pub JoinedAlike::alike-returns-then-alike : goal.JoinedAlike::alike-returns-then-alike
JoinedAlike::alike-returns-then-alike t c = joined_by _ _ _ _ _ refl refl (grind (arith, common_steps))

pub JoinedAlike::alike-returns-else-alike : goal.JoinedAlike::alike-returns-else-alike
JoinedAlike::alike-returns-else-alike t c = joined_by _ _ _ _ _ refl refl (grind (arith, common_steps))

pub QueryAlike::alike-returns-then-alike-3 : goal.QueryAlike::alike-returns-then-alike-3
QueryAlike::alike-returns-then-alike-3 t c = query_by _ _ _ _ _ refl refl (grind (arith, common_steps))

pub QueryAlike::alike-returns-else-alike-3 : goal.QueryAlike::alike-returns-else-alike-3
QueryAlike::alike-returns-else-alike-3 t c = query_by _ _ _ _ _ refl refl (grind (arith, common_steps))

pub SelectAlike::alike-returns-then-alike-4 : goal.SelectAlike::alike-returns-then-alike-4
SelectAlike::alike-returns-then-alike-4 t c = select_by _ _ _ _ _ refl refl (grind (arith, common_steps))

pub SelectAlike::alike-returns-else-alike-4 : goal.SelectAlike::alike-returns-else-alike-4
SelectAlike::alike-returns-else-alike-4 t c = select_by _ _ _ _ _ refl refl (grind (arith, common_steps))

pub ExprAlike::alike-returns-in-Null-matches : goal.ExprAlike::alike-returns-in-Null-matches
ExprAlike::alike-returns-in-Null-matches t c = expr_by _ _ _ _ _ (ap out-Expr c.in-Null.is ∙ expr.outs-Null _) (ap out-Expr c.in-Null-matches.is ∙ expr.outs-Null _) (grind (arith, common_steps))

pub ExprAlike::alike-returns-in_default-matches : goal.ExprAlike::alike-returns-in_default-matches
ExprAlike::alike-returns-in_default-matches t c = expr_only_Null _ _ _ c.in-Null.is c.in_default-matches.not-Null
