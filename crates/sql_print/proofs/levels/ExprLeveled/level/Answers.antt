-- The level of each expression is its law's.
use Rattle.std.proofs.Common.{rules, ap, ◌∙◌}
use Rattle.sql_ast.specs.declared.expr.Expr.{out-Expr}
use Rattle.sql_ast.specs.declared.expr.Expr.TheVariants as expr
use Rattle.sql_print.proofs.CanonLaws.{level_expr, level_at}
use Rattle.sql_print.proofs.levels.ExprLeveled.level.Goals as goal

pub returns-in-Or : goal.returns-in-Or
returns-in-Or c = rw (level_expr c.args.self.now ∙ ap level_at (ap out-Expr c.in-Or.is ∙ expr.outs-Or c.in-Or.first c.in-Or.rest c.in-Or.place)) (search rules)

pub returns-in-And : goal.returns-in-And
returns-in-And c = rw (level_expr c.args.self.now ∙ ap level_at (ap out-Expr c.in-And.is ∙ expr.outs-And c.in-And.first c.in-And.rest c.in-And.place)) (search rules)

pub returns-in-Not : goal.returns-in-Not
returns-in-Not c = rw (level_expr c.args.self.now ∙ ap level_at (ap out-Expr c.in-Not.is ∙ expr.outs-Not c.in-Not.operators c.in-Not.operand c.in-Not.place)) (search rules)

pub returns-in-BitOr : goal.returns-in-BitOr
returns-in-BitOr c = rw (level_expr c.args.self.now ∙ ap level_at (ap out-Expr c.in-BitOr.is ∙ expr.outs-BitOr c.in-BitOr.first c.in-BitOr.rest c.in-BitOr.place)) (search rules)

pub returns-in-BitXor : goal.returns-in-BitXor
returns-in-BitXor c = rw (level_expr c.args.self.now ∙ ap level_at (ap out-Expr c.in-BitXor.is ∙ expr.outs-BitXor c.in-BitXor.first c.in-BitXor.rest c.in-BitXor.place)) (search rules)

pub returns-in-BitAnd : goal.returns-in-BitAnd
returns-in-BitAnd c = rw (level_expr c.args.self.now ∙ ap level_at (ap out-Expr c.in-BitAnd.is ∙ expr.outs-BitAnd c.in-BitAnd.first c.in-BitAnd.rest c.in-BitAnd.place)) (search rules)

pub returns-in-Shift : goal.returns-in-Shift
returns-in-Shift c = rw (level_expr c.args.self.now ∙ ap level_at (ap out-Expr c.in-Shift.is ∙ expr.outs-Shift c.in-Shift.first c.in-Shift.rest c.in-Shift.place)) (search rules)

pub returns-in-Sum : goal.returns-in-Sum
returns-in-Sum c = rw (level_expr c.args.self.now ∙ ap level_at (ap out-Expr c.in-Sum.is ∙ expr.outs-Sum c.in-Sum.first c.in-Sum.rest c.in-Sum.place)) (search rules)

pub returns-in-Product : goal.returns-in-Product
returns-in-Product c = rw (level_expr c.args.self.now ∙ ap level_at (ap out-Expr c.in-Product.is ∙ expr.outs-Product c.in-Product.first c.in-Product.rest c.in-Product.place)) (search rules)

pub returns-in-Unary : goal.returns-in-Unary
returns-in-Unary c = rw (level_expr c.args.self.now ∙ ap level_at (ap out-Expr c.in-Unary.is ∙ expr.outs-Unary c.in-Unary.operators c.in-Unary.operand c.in-Unary.place)) (search rules)

pub returns-in-Compare : goal.returns-in-Compare
returns-in-Compare c = rw (level_expr c.args.self.now ∙ ap level_at (ap out-Expr c.in-Compare.is ∙ expr.outs-Compare c.in-Compare.left c.in-Compare.operator c.in-Compare.operator_place c.in-Compare.right c.in-Compare.place)) (search rules)

pub returns-in-Like : goal.returns-in-Like
returns-in-Like c = rw (level_expr c.args.self.now ∙ ap level_at (ap out-Expr c.in-Like.is ∙ expr.outs-Like c.in-Like.left c.in-Like.negated c.in-Like.operator_place c.in-Like.right c.in-Like.place)) (search rules)

pub returns-in-LikeList : goal.returns-in-LikeList
returns-in-LikeList c = rw (level_expr c.args.self.now ∙ ap level_at (ap out-Expr c.in-LikeList.is ∙ expr.outs-LikeList c.in-LikeList.left c.in-LikeList.quantifier c.in-LikeList.operator_place c.in-LikeList.patterns c.in-LikeList.place)) (search rules)

pub returns-in-LikeUnnest : goal.returns-in-LikeUnnest
returns-in-LikeUnnest c = rw (level_expr c.args.self.now ∙ ap level_at (ap out-Expr c.in-LikeUnnest.is ∙ expr.outs-LikeUnnest c.in-LikeUnnest.left c.in-LikeUnnest.quantifier c.in-LikeUnnest.operator_place c.in-LikeUnnest.array c.in-LikeUnnest.place)) (search rules)

pub returns-in-Between : goal.returns-in-Between
returns-in-Between c = rw (level_expr c.args.self.now ∙ ap level_at (ap out-Expr c.in-Between.is ∙ expr.outs-Between c.in-Between.subject c.in-Between.negated c.in-Between.operator_place c.in-Between.low c.in-Between.high c.in-Between.place)) (search rules)

pub returns-in-InList : goal.returns-in-InList
returns-in-InList c = rw (level_expr c.args.self.now ∙ ap level_at (ap out-Expr c.in-InList.is ∙ expr.outs-InList c.in-InList.left c.in-InList.negated c.in-InList.operator_place c.in-InList.list c.in-InList.place)) (search rules)

pub returns-in-InQuery : goal.returns-in-InQuery
returns-in-InQuery c = rw (level_expr c.args.self.now ∙ ap level_at (ap out-Expr c.in-InQuery.is ∙ expr.outs-InQuery c.in-InQuery.left c.in-InQuery.negated c.in-InQuery.operator_place c.in-InQuery.query c.in-InQuery.open_place c.in-InQuery.place)) (search rules)

pub returns-in-InUnnest : goal.returns-in-InUnnest
returns-in-InUnnest c = rw (level_expr c.args.self.now ∙ ap level_at (ap out-Expr c.in-InUnnest.is ∙ expr.outs-InUnnest c.in-InUnnest.left c.in-InUnnest.negated c.in-InUnnest.operator_place c.in-InUnnest.array c.in-InUnnest.place)) (search rules)

pub returns-in-Is : goal.returns-in-Is
returns-in-Is c = rw (level_expr c.args.self.now ∙ ap level_at (ap out-Expr c.in-Is.is ∙ expr.outs-Is c.in-Is.left c.in-Is.negated c.in-Is.test c.in-Is.operator_place c.in-Is.place)) (search rules)

pub returns-in-Distinct : goal.returns-in-Distinct
returns-in-Distinct c = rw (level_expr c.args.self.now ∙ ap level_at (ap out-Expr c.in-Distinct.is ∙ expr.outs-Distinct c.in-Distinct.left c.in-Distinct.negated c.in-Distinct.operator_place c.in-Distinct.right c.in-Distinct.place)) (search rules)

pub returns-in-Postfix : goal.returns-in-Postfix
returns-in-Postfix c = rw (level_expr c.args.self.now ∙ ap level_at (ap out-Expr c.in-Postfix.is ∙ expr.outs-Postfix c.in-Postfix.first c.in-Postfix.parts c.in-Postfix.place)) (search rules)

pub returns-in-Integer : goal.returns-in-Integer
returns-in-Integer c = rw (level_expr c.args.self.now ∙ ap level_at (ap out-Expr c.in-Integer.is ∙ expr.outs-Integer c.in-Integer.value c.in-Integer.place)) (search rules)

pub returns-in-Text : goal.returns-in-Text
returns-in-Text c = rw (level_expr c.args.self.now ∙ ap level_at (ap out-Expr c.in-Text.is ∙ expr.outs-Text c.in-Text.value c.in-Text.place)) (search rules)

pub returns-in-Bytes : goal.returns-in-Bytes
returns-in-Bytes c = rw (level_expr c.args.self.now ∙ ap level_at (ap out-Expr c.in-Bytes.is ∙ expr.outs-Bytes c.in-Bytes.value c.in-Bytes.place)) (search rules)

pub returns-in-Bool : goal.returns-in-Bool
returns-in-Bool c = rw (level_expr c.args.self.now ∙ ap level_at (ap out-Expr c.in-Bool.is ∙ expr.outs-Bool c.in-Bool.value c.in-Bool.place)) (search rules)

pub returns-in-Null : goal.returns-in-Null
returns-in-Null c = rw (level_expr c.args.self.now ∙ ap level_at (ap out-Expr c.in-Null.is ∙ expr.outs-Null c.in-Null.place)) (search rules)

pub returns-in-Date : goal.returns-in-Date
returns-in-Date c = rw (level_expr c.args.self.now ∙ ap level_at (ap out-Expr c.in-Date.is ∙ expr.outs-Date c.in-Date.text c.in-Date.place)) (search rules)

pub returns-in-Parameter : goal.returns-in-Parameter
returns-in-Parameter c = rw (level_expr c.args.self.now ∙ ap level_at (ap out-Expr c.in-Parameter.is ∙ expr.outs-Parameter c.in-Parameter.name c.in-Parameter.place)) (search rules)

pub returns-in-Name : goal.returns-in-Name
returns-in-Name c = rw (level_expr c.args.self.now ∙ ap level_at (ap out-Expr c.in-Name.is ∙ expr.outs-Name c.in-Name.name c.in-Name.place)) (search rules)

pub returns-in-Call : goal.returns-in-Call
returns-in-Call c = rw (level_expr c.args.self.now ∙ ap level_at (ap out-Expr c.in-Call.is ∙ expr.outs-Call c.in-Call.call c.in-Call.place)) (search rules)

pub returns-in-SafeCall : goal.returns-in-SafeCall
returns-in-SafeCall c = rw (level_expr c.args.self.now ∙ ap level_at (ap out-Expr c.in-SafeCall.is ∙ expr.outs-SafeCall c.in-SafeCall.call c.in-SafeCall.place)) (search rules)

pub returns-in-Scalar : goal.returns-in-Scalar
returns-in-Scalar c = rw (level_expr c.args.self.now ∙ ap level_at (ap out-Expr c.in-Scalar.is ∙ expr.outs-Scalar c.in-Scalar.query c.in-Scalar.place)) (search rules)

pub returns-in-Tuple : goal.returns-in-Tuple
returns-in-Tuple c = rw (level_expr c.args.self.now ∙ ap level_at (ap out-Expr c.in-Tuple.is ∙ expr.outs-Tuple c.in-Tuple.parts c.in-Tuple.place)) (search rules)

pub returns-in-Case : goal.returns-in-Case
returns-in-Case c = rw (level_expr c.args.self.now ∙ ap level_at (ap out-Expr c.in-Case.is ∙ expr.outs-Case c.in-Case.subject c.in-Case.branches c.in-Case.otherwise c.in-Case.place)) (search rules)

pub returns-in-Cast : goal.returns-in-Cast
returns-in-Cast c = rw (level_expr c.args.self.now ∙ ap level_at (ap out-Expr c.in-Cast.is ∙ expr.outs-Cast c.in-Cast.safe c.in-Cast.expr c.in-Cast.ty c.in-Cast.place)) (search rules)

pub returns-in-Extract : goal.returns-in-Extract
returns-in-Extract c = rw (level_expr c.args.self.now ∙ ap level_at (ap out-Expr c.in-Extract.is ∙ expr.outs-Extract c.in-Extract.part c.in-Extract.expr c.in-Extract.place)) (search rules)

pub returns-in-Grouping : goal.returns-in-Grouping
returns-in-Grouping c = rw (level_expr c.args.self.now ∙ ap level_at (ap out-Expr c.in-Grouping.is ∙ expr.outs-Grouping c.in-Grouping.argument c.in-Grouping.place)) (search rules)

pub returns-in-Exists : goal.returns-in-Exists
returns-in-Exists c = rw (level_expr c.args.self.now ∙ ap level_at (ap out-Expr c.in-Exists.is ∙ expr.outs-Exists c.in-Exists.query c.in-Exists.place)) (search rules)

pub returns-in-ArrayQuery : goal.returns-in-ArrayQuery
returns-in-ArrayQuery c = rw (level_expr c.args.self.now ∙ ap level_at (ap out-Expr c.in-ArrayQuery.is ∙ expr.outs-ArrayQuery c.in-ArrayQuery.query c.in-ArrayQuery.open_place c.in-ArrayQuery.place)) (search rules)

pub returns-in-Array : goal.returns-in-Array
returns-in-Array c = rw (level_expr c.args.self.now ∙ ap level_at (ap out-Expr c.in-Array.is ∙ expr.outs-Array c.in-Array.element c.in-Array.items c.in-Array.open_place c.in-Array.place)) (search rules)

pub returns-in-Struct : goal.returns-in-Struct
returns-in-Struct c = rw (level_expr c.args.self.now ∙ ap level_at (ap out-Expr c.in-Struct.is ∙ expr.outs-Struct c.in-Struct.parts c.in-Struct.place)) (search rules)

pub returns-in-TypedStruct : goal.returns-in-TypedStruct
returns-in-TypedStruct c = rw (level_expr c.args.self.now ∙ ap level_at (ap out-Expr c.in-TypedStruct.is ∙ expr.outs-TypedStruct c.in-TypedStruct.fields c.in-TypedStruct.parts c.in-TypedStruct.open_place c.in-TypedStruct.place)) (search rules)

pub returns-in-With : goal.returns-in-With
returns-in-With c = rw (level_expr c.args.self.now ∙ ap level_at (ap out-Expr c.in-With.is ∙ expr.outs-With c.in-With.bindings c.in-With.result c.in-With.place)) (search rules)
