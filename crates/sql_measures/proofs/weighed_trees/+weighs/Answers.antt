-- Each tree weighs what its law says.
use Rattle.std.proofs.Common.{rules, ap, ◌∙◌}
use Rattle.sql_ast.specs.declared.expr.Expr.{out-Expr}
use Rattle.sql_ast.specs.declared.expr.Expr.TheVariants as expr
use Rattle.sql_ast.specs.declared.query.Primary.{out-Primary}
use Rattle.sql_ast.specs.declared.query.Primary.TheVariants as primary
use Rattle.sql_ast.specs.declared.query.Term.{out-Term}
use Rattle.sql_ast.specs.declared.query.Term.TheVariants as term
use Rattle.sql_measures.proofs.WeightLaws.{weight_expr, expr_at, weight_primary, primary_at, weight_term, term_at, weight_from, weight_joined, weight_select, weight_query}
use Rattle.sql_measures.proofs.weighed_trees.+weighs.Goals as goal

pub ExprWeighed::weight-returns-in-Or : goal.ExprWeighed::weight-returns-in-Or
ExprWeighed::weight-returns-in-Or t c = rw (weight_expr c.args.self.now ∙ ap expr_at (ap out-Expr c.in-Or.is ∙ expr.outs-Or c.in-Or.first c.in-Or.rest c.in-Or.place)) (search rules)

pub ExprWeighed::weight-returns-in-And : goal.ExprWeighed::weight-returns-in-And
ExprWeighed::weight-returns-in-And t c = rw (weight_expr c.args.self.now ∙ ap expr_at (ap out-Expr c.in-And.is ∙ expr.outs-And c.in-And.first c.in-And.rest c.in-And.place)) (search rules)

pub ExprWeighed::weight-returns-in-Not : goal.ExprWeighed::weight-returns-in-Not
ExprWeighed::weight-returns-in-Not t c = rw (weight_expr c.args.self.now ∙ ap expr_at (ap out-Expr c.in-Not.is ∙ expr.outs-Not c.in-Not.operators c.in-Not.operand c.in-Not.place)) (search rules)

pub ExprWeighed::weight-returns-in-BitOr : goal.ExprWeighed::weight-returns-in-BitOr
ExprWeighed::weight-returns-in-BitOr t c = rw (weight_expr c.args.self.now ∙ ap expr_at (ap out-Expr c.in-BitOr.is ∙ expr.outs-BitOr c.in-BitOr.first c.in-BitOr.rest c.in-BitOr.place)) (search rules)

pub ExprWeighed::weight-returns-in-BitXor : goal.ExprWeighed::weight-returns-in-BitXor
ExprWeighed::weight-returns-in-BitXor t c = rw (weight_expr c.args.self.now ∙ ap expr_at (ap out-Expr c.in-BitXor.is ∙ expr.outs-BitXor c.in-BitXor.first c.in-BitXor.rest c.in-BitXor.place)) (search rules)

pub ExprWeighed::weight-returns-in-BitAnd : goal.ExprWeighed::weight-returns-in-BitAnd
ExprWeighed::weight-returns-in-BitAnd t c = rw (weight_expr c.args.self.now ∙ ap expr_at (ap out-Expr c.in-BitAnd.is ∙ expr.outs-BitAnd c.in-BitAnd.first c.in-BitAnd.rest c.in-BitAnd.place)) (search rules)

pub ExprWeighed::weight-returns-in-Shift : goal.ExprWeighed::weight-returns-in-Shift
ExprWeighed::weight-returns-in-Shift t c = rw (weight_expr c.args.self.now ∙ ap expr_at (ap out-Expr c.in-Shift.is ∙ expr.outs-Shift c.in-Shift.first c.in-Shift.rest c.in-Shift.place)) (search rules)

pub ExprWeighed::weight-returns-in-Sum : goal.ExprWeighed::weight-returns-in-Sum
ExprWeighed::weight-returns-in-Sum t c = rw (weight_expr c.args.self.now ∙ ap expr_at (ap out-Expr c.in-Sum.is ∙ expr.outs-Sum c.in-Sum.first c.in-Sum.rest c.in-Sum.place)) (search rules)

pub ExprWeighed::weight-returns-in-Product : goal.ExprWeighed::weight-returns-in-Product
ExprWeighed::weight-returns-in-Product t c = rw (weight_expr c.args.self.now ∙ ap expr_at (ap out-Expr c.in-Product.is ∙ expr.outs-Product c.in-Product.first c.in-Product.rest c.in-Product.place)) (search rules)

pub ExprWeighed::weight-returns-in-Unary : goal.ExprWeighed::weight-returns-in-Unary
ExprWeighed::weight-returns-in-Unary t c = rw (weight_expr c.args.self.now ∙ ap expr_at (ap out-Expr c.in-Unary.is ∙ expr.outs-Unary c.in-Unary.operators c.in-Unary.operand c.in-Unary.place)) (search rules)

pub ExprWeighed::weight-returns-in-Compare : goal.ExprWeighed::weight-returns-in-Compare
ExprWeighed::weight-returns-in-Compare t c = rw (weight_expr c.args.self.now ∙ ap expr_at (ap out-Expr c.in-Compare.is ∙ expr.outs-Compare c.in-Compare.left c.in-Compare.operator c.in-Compare.operator_place c.in-Compare.right c.in-Compare.place)) (search rules)

pub ExprWeighed::weight-returns-in-Like : goal.ExprWeighed::weight-returns-in-Like
ExprWeighed::weight-returns-in-Like t c = rw (weight_expr c.args.self.now ∙ ap expr_at (ap out-Expr c.in-Like.is ∙ expr.outs-Like c.in-Like.left c.in-Like.negated c.in-Like.operator_place c.in-Like.right c.in-Like.place)) (search rules)

pub ExprWeighed::weight-returns-in-LikeList : goal.ExprWeighed::weight-returns-in-LikeList
ExprWeighed::weight-returns-in-LikeList t c = rw (weight_expr c.args.self.now ∙ ap expr_at (ap out-Expr c.in-LikeList.is ∙ expr.outs-LikeList c.in-LikeList.left c.in-LikeList.quantifier c.in-LikeList.operator_place c.in-LikeList.patterns c.in-LikeList.place)) (search rules)

pub ExprWeighed::weight-returns-in-LikeUnnest : goal.ExprWeighed::weight-returns-in-LikeUnnest
ExprWeighed::weight-returns-in-LikeUnnest t c = rw (weight_expr c.args.self.now ∙ ap expr_at (ap out-Expr c.in-LikeUnnest.is ∙ expr.outs-LikeUnnest c.in-LikeUnnest.left c.in-LikeUnnest.quantifier c.in-LikeUnnest.operator_place c.in-LikeUnnest.array c.in-LikeUnnest.place)) (search rules)

pub ExprWeighed::weight-returns-in-Between : goal.ExprWeighed::weight-returns-in-Between
ExprWeighed::weight-returns-in-Between t c = rw (weight_expr c.args.self.now ∙ ap expr_at (ap out-Expr c.in-Between.is ∙ expr.outs-Between c.in-Between.subject c.in-Between.negated c.in-Between.operator_place c.in-Between.low c.in-Between.high c.in-Between.place)) (search rules)

pub ExprWeighed::weight-returns-in-InList : goal.ExprWeighed::weight-returns-in-InList
ExprWeighed::weight-returns-in-InList t c = rw (weight_expr c.args.self.now ∙ ap expr_at (ap out-Expr c.in-InList.is ∙ expr.outs-InList c.in-InList.left c.in-InList.negated c.in-InList.operator_place c.in-InList.list c.in-InList.place)) (search rules)

pub ExprWeighed::weight-returns-in-InQuery : goal.ExprWeighed::weight-returns-in-InQuery
ExprWeighed::weight-returns-in-InQuery t c = rw (weight_expr c.args.self.now ∙ ap expr_at (ap out-Expr c.in-InQuery.is ∙ expr.outs-InQuery c.in-InQuery.left c.in-InQuery.negated c.in-InQuery.operator_place c.in-InQuery.query c.in-InQuery.open_place c.in-InQuery.place)) (search rules)

pub ExprWeighed::weight-returns-in-InUnnest : goal.ExprWeighed::weight-returns-in-InUnnest
ExprWeighed::weight-returns-in-InUnnest t c = rw (weight_expr c.args.self.now ∙ ap expr_at (ap out-Expr c.in-InUnnest.is ∙ expr.outs-InUnnest c.in-InUnnest.left c.in-InUnnest.negated c.in-InUnnest.operator_place c.in-InUnnest.array c.in-InUnnest.place)) (search rules)

pub ExprWeighed::weight-returns-in-Is : goal.ExprWeighed::weight-returns-in-Is
ExprWeighed::weight-returns-in-Is t c = rw (weight_expr c.args.self.now ∙ ap expr_at (ap out-Expr c.in-Is.is ∙ expr.outs-Is c.in-Is.left c.in-Is.negated c.in-Is.test c.in-Is.operator_place c.in-Is.place)) (search rules)

pub ExprWeighed::weight-returns-in-Distinct : goal.ExprWeighed::weight-returns-in-Distinct
ExprWeighed::weight-returns-in-Distinct t c = rw (weight_expr c.args.self.now ∙ ap expr_at (ap out-Expr c.in-Distinct.is ∙ expr.outs-Distinct c.in-Distinct.left c.in-Distinct.negated c.in-Distinct.operator_place c.in-Distinct.right c.in-Distinct.place)) (search rules)

pub ExprWeighed::weight-returns-in-Postfix : goal.ExprWeighed::weight-returns-in-Postfix
ExprWeighed::weight-returns-in-Postfix t c = rw (weight_expr c.args.self.now ∙ ap expr_at (ap out-Expr c.in-Postfix.is ∙ expr.outs-Postfix c.in-Postfix.first c.in-Postfix.parts c.in-Postfix.place)) (search rules)

pub ExprWeighed::weight-returns-in-Integer : goal.ExprWeighed::weight-returns-in-Integer
ExprWeighed::weight-returns-in-Integer t c = rw (weight_expr c.args.self.now ∙ ap expr_at (ap out-Expr c.in-Integer.is ∙ expr.outs-Integer c.in-Integer.value c.in-Integer.place)) (search rules)

pub ExprWeighed::weight-returns-in-Text : goal.ExprWeighed::weight-returns-in-Text
ExprWeighed::weight-returns-in-Text t c = rw (weight_expr c.args.self.now ∙ ap expr_at (ap out-Expr c.in-Text.is ∙ expr.outs-Text c.in-Text.value c.in-Text.place)) (search rules)

pub ExprWeighed::weight-returns-in-Bytes : goal.ExprWeighed::weight-returns-in-Bytes
ExprWeighed::weight-returns-in-Bytes t c = rw (weight_expr c.args.self.now ∙ ap expr_at (ap out-Expr c.in-Bytes.is ∙ expr.outs-Bytes c.in-Bytes.value c.in-Bytes.place)) (search rules)

pub ExprWeighed::weight-returns-in-Bool : goal.ExprWeighed::weight-returns-in-Bool
ExprWeighed::weight-returns-in-Bool t c = rw (weight_expr c.args.self.now ∙ ap expr_at (ap out-Expr c.in-Bool.is ∙ expr.outs-Bool c.in-Bool.value c.in-Bool.place)) (search rules)

pub ExprWeighed::weight-returns-in-Null : goal.ExprWeighed::weight-returns-in-Null
ExprWeighed::weight-returns-in-Null t c = rw (weight_expr c.args.self.now ∙ ap expr_at (ap out-Expr c.in-Null.is ∙ expr.outs-Null c.in-Null.place)) (search rules)

pub ExprWeighed::weight-returns-in-Date : goal.ExprWeighed::weight-returns-in-Date
ExprWeighed::weight-returns-in-Date t c = rw (weight_expr c.args.self.now ∙ ap expr_at (ap out-Expr c.in-Date.is ∙ expr.outs-Date c.in-Date.text c.in-Date.place)) (search rules)

pub ExprWeighed::weight-returns-in-Parameter : goal.ExprWeighed::weight-returns-in-Parameter
ExprWeighed::weight-returns-in-Parameter t c = rw (weight_expr c.args.self.now ∙ ap expr_at (ap out-Expr c.in-Parameter.is ∙ expr.outs-Parameter c.in-Parameter.name c.in-Parameter.place)) (search rules)

pub ExprWeighed::weight-returns-in-Name : goal.ExprWeighed::weight-returns-in-Name
ExprWeighed::weight-returns-in-Name t c = rw (weight_expr c.args.self.now ∙ ap expr_at (ap out-Expr c.in-Name.is ∙ expr.outs-Name c.in-Name.name c.in-Name.place)) (search rules)

pub ExprWeighed::weight-returns-in-Call : goal.ExprWeighed::weight-returns-in-Call
ExprWeighed::weight-returns-in-Call t c = rw (weight_expr c.args.self.now ∙ ap expr_at (ap out-Expr c.in-Call.is ∙ expr.outs-Call c.in-Call.call c.in-Call.place)) (search rules)

pub ExprWeighed::weight-returns-in-SafeCall : goal.ExprWeighed::weight-returns-in-SafeCall
ExprWeighed::weight-returns-in-SafeCall t c = rw (weight_expr c.args.self.now ∙ ap expr_at (ap out-Expr c.in-SafeCall.is ∙ expr.outs-SafeCall c.in-SafeCall.call c.in-SafeCall.place)) (search rules)

pub ExprWeighed::weight-returns-in-Scalar : goal.ExprWeighed::weight-returns-in-Scalar
ExprWeighed::weight-returns-in-Scalar t c = rw (weight_expr c.args.self.now ∙ ap expr_at (ap out-Expr c.in-Scalar.is ∙ expr.outs-Scalar c.in-Scalar.query c.in-Scalar.place)) (search rules)

pub ExprWeighed::weight-returns-in-Tuple : goal.ExprWeighed::weight-returns-in-Tuple
ExprWeighed::weight-returns-in-Tuple t c = rw (weight_expr c.args.self.now ∙ ap expr_at (ap out-Expr c.in-Tuple.is ∙ expr.outs-Tuple c.in-Tuple.parts c.in-Tuple.place)) (search rules)

pub ExprWeighed::weight-returns-in-Case : goal.ExprWeighed::weight-returns-in-Case
ExprWeighed::weight-returns-in-Case t c = rw (weight_expr c.args.self.now ∙ ap expr_at (ap out-Expr c.in-Case.is ∙ expr.outs-Case c.in-Case.subject c.in-Case.branches c.in-Case.otherwise c.in-Case.place)) (search rules)

pub ExprWeighed::weight-returns-in-Cast : goal.ExprWeighed::weight-returns-in-Cast
ExprWeighed::weight-returns-in-Cast t c = rw (weight_expr c.args.self.now ∙ ap expr_at (ap out-Expr c.in-Cast.is ∙ expr.outs-Cast c.in-Cast.safe c.in-Cast.expr c.in-Cast.ty c.in-Cast.place)) (search rules)

pub ExprWeighed::weight-returns-in-Extract : goal.ExprWeighed::weight-returns-in-Extract
ExprWeighed::weight-returns-in-Extract t c = rw (weight_expr c.args.self.now ∙ ap expr_at (ap out-Expr c.in-Extract.is ∙ expr.outs-Extract c.in-Extract.part c.in-Extract.expr c.in-Extract.place)) (search rules)

pub ExprWeighed::weight-returns-in-Grouping : goal.ExprWeighed::weight-returns-in-Grouping
ExprWeighed::weight-returns-in-Grouping t c = rw (weight_expr c.args.self.now ∙ ap expr_at (ap out-Expr c.in-Grouping.is ∙ expr.outs-Grouping c.in-Grouping.argument c.in-Grouping.place)) (search rules)

pub ExprWeighed::weight-returns-in-Exists : goal.ExprWeighed::weight-returns-in-Exists
ExprWeighed::weight-returns-in-Exists t c = rw (weight_expr c.args.self.now ∙ ap expr_at (ap out-Expr c.in-Exists.is ∙ expr.outs-Exists c.in-Exists.query c.in-Exists.place)) (search rules)

pub ExprWeighed::weight-returns-in-ArrayQuery : goal.ExprWeighed::weight-returns-in-ArrayQuery
ExprWeighed::weight-returns-in-ArrayQuery t c = rw (weight_expr c.args.self.now ∙ ap expr_at (ap out-Expr c.in-ArrayQuery.is ∙ expr.outs-ArrayQuery c.in-ArrayQuery.query c.in-ArrayQuery.open_place c.in-ArrayQuery.place)) (search rules)

pub ExprWeighed::weight-returns-in-Array : goal.ExprWeighed::weight-returns-in-Array
ExprWeighed::weight-returns-in-Array t c = rw (weight_expr c.args.self.now ∙ ap expr_at (ap out-Expr c.in-Array.is ∙ expr.outs-Array c.in-Array.element c.in-Array.items c.in-Array.open_place c.in-Array.place)) (search rules)

pub ExprWeighed::weight-returns-in-Struct : goal.ExprWeighed::weight-returns-in-Struct
ExprWeighed::weight-returns-in-Struct t c = rw (weight_expr c.args.self.now ∙ ap expr_at (ap out-Expr c.in-Struct.is ∙ expr.outs-Struct c.in-Struct.parts c.in-Struct.place)) (search rules)

pub ExprWeighed::weight-returns-in-TypedStruct : goal.ExprWeighed::weight-returns-in-TypedStruct
ExprWeighed::weight-returns-in-TypedStruct t c = rw (weight_expr c.args.self.now ∙ ap expr_at (ap out-Expr c.in-TypedStruct.is ∙ expr.outs-TypedStruct c.in-TypedStruct.fields c.in-TypedStruct.parts c.in-TypedStruct.open_place c.in-TypedStruct.place)) (search rules)

pub ExprWeighed::weight-returns-in-With : goal.ExprWeighed::weight-returns-in-With
ExprWeighed::weight-returns-in-With t c = rw (weight_expr c.args.self.now ∙ ap expr_at (ap out-Expr c.in-With.is ∙ expr.outs-With c.in-With.bindings c.in-With.result c.in-With.place)) (search rules)

pub PrimaryWeighed::weight-returns-in-Table : goal.PrimaryWeighed::weight-returns-in-Table
PrimaryWeighed::weight-returns-in-Table t c = rw (weight_primary c.args.self.now ∙ ap primary_at (ap out-Primary c.in-Table.is ∙ primary.outs-Table c.in-Table.name c.in-Table.alias c.in-Table.turned c.in-Table.place)) (search rules)

pub PrimaryWeighed::weight-returns-in-Query : goal.PrimaryWeighed::weight-returns-in-Query
PrimaryWeighed::weight-returns-in-Query t c = rw (weight_primary c.args.self.now ∙ ap primary_at (ap out-Primary c.in-Query.is ∙ primary.outs-Query c.in-Query.query c.in-Query.alias c.in-Query.turned c.in-Query.place)) (search rules)

pub PrimaryWeighed::weight-returns-in-Path : goal.PrimaryWeighed::weight-returns-in-Path
PrimaryWeighed::weight-returns-in-Path t c = rw (weight_primary c.args.self.now ∙ ap primary_at (ap out-Primary c.in-Path.is ∙ primary.outs-Path c.in-Path.path c.in-Path.alias c.in-Path.offset c.in-Path.place)) (search rules)

pub PrimaryWeighed::weight-returns-in-Unnest : goal.PrimaryWeighed::weight-returns-in-Unnest
PrimaryWeighed::weight-returns-in-Unnest t c = rw (weight_primary c.args.self.now ∙ ap primary_at (ap out-Primary c.in-Unnest.is ∙ primary.outs-Unnest c.in-Unnest.array c.in-Unnest.alias c.in-Unnest.offset c.in-Unnest.place)) (search rules)

pub TermWeighed::weight-returns-in-Select : goal.TermWeighed::weight-returns-in-Select
TermWeighed::weight-returns-in-Select t c = rw (weight_term c.args.self.now ∙ ap term_at (ap out-Term c.in-Select.is ∙ term.outs-Select c.in-Select.select)) (search rules)

pub TermWeighed::weight-returns-in-Query : goal.TermWeighed::weight-returns-in-Query
TermWeighed::weight-returns-in-Query t c = rw (weight_term c.args.self.now ∙ ap term_at (ap out-Term c.in-Query.is ∙ term.outs-Query c.in-Query.query c.in-Query.place)) (search rules)

pub FromItemWeighed::weight-returns : goal.FromItemWeighed::weight-returns
FromItemWeighed::weight-returns t c = rw (weight_from c.args.self.now) (search rules)

pub JoinedWeighed::weight-returns : goal.JoinedWeighed::weight-returns
JoinedWeighed::weight-returns t c = rw (weight_joined c.args.self.now) (search rules)

pub SelectWeighed::weight-returns : goal.SelectWeighed::weight-returns
SelectWeighed::weight-returns t c = rw (weight_select c.args.self.now) (search rules)

pub QueryWeighed::weight-returns : goal.QueryWeighed::weight-returns
QueryWeighed::weight-returns t c = rw (weight_query c.args.self.now) (search rules)
