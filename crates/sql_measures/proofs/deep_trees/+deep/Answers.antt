-- Each tree is as deep as its law says.
use Rattle.std.proofs.Common.{rules, ap, ◌∙◌}
use Rattle.sql_ast.specs.declared.expr.Expr.{out-Expr}
use Rattle.sql_ast.specs.declared.expr.Expr.TheVariants as expr
use Rattle.sql_ast.specs.declared.query.Primary.{out-Primary}
use Rattle.sql_ast.specs.declared.query.Primary.TheVariants as primary
use Rattle.sql_ast.specs.declared.query.Term.{out-Term}
use Rattle.sql_ast.specs.declared.query.Term.TheVariants as term
use Rattle.sql_measures.proofs.DepthLaws.{depth_expr, expr_at, depth_primary, primary_at, depth_term, term_at, depth_from, depth_joined, depth_select, depth_query}
use Rattle.sql_measures.proofs.deep_trees.+deep.Goals as goal

pub ExprDeep::depth-returns-in-Or : goal.ExprDeep::depth-returns-in-Or
ExprDeep::depth-returns-in-Or t c = rw (depth_expr c.args.self.now ∙ ap expr_at (ap out-Expr c.in-Or.is ∙ expr.outs-Or c.in-Or.first c.in-Or.rest c.in-Or.place)) (search rules)

pub ExprDeep::depth-returns-in-And : goal.ExprDeep::depth-returns-in-And
ExprDeep::depth-returns-in-And t c = rw (depth_expr c.args.self.now ∙ ap expr_at (ap out-Expr c.in-And.is ∙ expr.outs-And c.in-And.first c.in-And.rest c.in-And.place)) (search rules)

pub ExprDeep::depth-returns-in-Not : goal.ExprDeep::depth-returns-in-Not
ExprDeep::depth-returns-in-Not t c = rw (depth_expr c.args.self.now ∙ ap expr_at (ap out-Expr c.in-Not.is ∙ expr.outs-Not c.in-Not.operators c.in-Not.operand c.in-Not.place)) (search rules)

pub ExprDeep::depth-returns-in-BitOr : goal.ExprDeep::depth-returns-in-BitOr
ExprDeep::depth-returns-in-BitOr t c = rw (depth_expr c.args.self.now ∙ ap expr_at (ap out-Expr c.in-BitOr.is ∙ expr.outs-BitOr c.in-BitOr.first c.in-BitOr.rest c.in-BitOr.place)) (search rules)

pub ExprDeep::depth-returns-in-BitXor : goal.ExprDeep::depth-returns-in-BitXor
ExprDeep::depth-returns-in-BitXor t c = rw (depth_expr c.args.self.now ∙ ap expr_at (ap out-Expr c.in-BitXor.is ∙ expr.outs-BitXor c.in-BitXor.first c.in-BitXor.rest c.in-BitXor.place)) (search rules)

pub ExprDeep::depth-returns-in-BitAnd : goal.ExprDeep::depth-returns-in-BitAnd
ExprDeep::depth-returns-in-BitAnd t c = rw (depth_expr c.args.self.now ∙ ap expr_at (ap out-Expr c.in-BitAnd.is ∙ expr.outs-BitAnd c.in-BitAnd.first c.in-BitAnd.rest c.in-BitAnd.place)) (search rules)

pub ExprDeep::depth-returns-in-Shift : goal.ExprDeep::depth-returns-in-Shift
ExprDeep::depth-returns-in-Shift t c = rw (depth_expr c.args.self.now ∙ ap expr_at (ap out-Expr c.in-Shift.is ∙ expr.outs-Shift c.in-Shift.first c.in-Shift.rest c.in-Shift.place)) (search rules)

pub ExprDeep::depth-returns-in-Sum : goal.ExprDeep::depth-returns-in-Sum
ExprDeep::depth-returns-in-Sum t c = rw (depth_expr c.args.self.now ∙ ap expr_at (ap out-Expr c.in-Sum.is ∙ expr.outs-Sum c.in-Sum.first c.in-Sum.rest c.in-Sum.place)) (search rules)

pub ExprDeep::depth-returns-in-Product : goal.ExprDeep::depth-returns-in-Product
ExprDeep::depth-returns-in-Product t c = rw (depth_expr c.args.self.now ∙ ap expr_at (ap out-Expr c.in-Product.is ∙ expr.outs-Product c.in-Product.first c.in-Product.rest c.in-Product.place)) (search rules)

pub ExprDeep::depth-returns-in-Unary : goal.ExprDeep::depth-returns-in-Unary
ExprDeep::depth-returns-in-Unary t c = rw (depth_expr c.args.self.now ∙ ap expr_at (ap out-Expr c.in-Unary.is ∙ expr.outs-Unary c.in-Unary.operators c.in-Unary.operand c.in-Unary.place)) (search rules)

pub ExprDeep::depth-returns-in-Compare : goal.ExprDeep::depth-returns-in-Compare
ExprDeep::depth-returns-in-Compare t c = rw (depth_expr c.args.self.now ∙ ap expr_at (ap out-Expr c.in-Compare.is ∙ expr.outs-Compare c.in-Compare.left c.in-Compare.operator c.in-Compare.operator_place c.in-Compare.right c.in-Compare.place)) (search rules)

pub ExprDeep::depth-returns-in-Like : goal.ExprDeep::depth-returns-in-Like
ExprDeep::depth-returns-in-Like t c = rw (depth_expr c.args.self.now ∙ ap expr_at (ap out-Expr c.in-Like.is ∙ expr.outs-Like c.in-Like.left c.in-Like.negated c.in-Like.operator_place c.in-Like.right c.in-Like.place)) (search rules)

pub ExprDeep::depth-returns-in-LikeList : goal.ExprDeep::depth-returns-in-LikeList
ExprDeep::depth-returns-in-LikeList t c = rw (depth_expr c.args.self.now ∙ ap expr_at (ap out-Expr c.in-LikeList.is ∙ expr.outs-LikeList c.in-LikeList.left c.in-LikeList.quantifier c.in-LikeList.operator_place c.in-LikeList.patterns c.in-LikeList.place)) (search rules)

pub ExprDeep::depth-returns-in-LikeUnnest : goal.ExprDeep::depth-returns-in-LikeUnnest
ExprDeep::depth-returns-in-LikeUnnest t c = rw (depth_expr c.args.self.now ∙ ap expr_at (ap out-Expr c.in-LikeUnnest.is ∙ expr.outs-LikeUnnest c.in-LikeUnnest.left c.in-LikeUnnest.quantifier c.in-LikeUnnest.operator_place c.in-LikeUnnest.array c.in-LikeUnnest.place)) (search rules)

pub ExprDeep::depth-returns-in-Between : goal.ExprDeep::depth-returns-in-Between
ExprDeep::depth-returns-in-Between t c = rw (depth_expr c.args.self.now ∙ ap expr_at (ap out-Expr c.in-Between.is ∙ expr.outs-Between c.in-Between.subject c.in-Between.negated c.in-Between.operator_place c.in-Between.low c.in-Between.high c.in-Between.place)) (search rules)

pub ExprDeep::depth-returns-in-InList : goal.ExprDeep::depth-returns-in-InList
ExprDeep::depth-returns-in-InList t c = rw (depth_expr c.args.self.now ∙ ap expr_at (ap out-Expr c.in-InList.is ∙ expr.outs-InList c.in-InList.left c.in-InList.negated c.in-InList.operator_place c.in-InList.list c.in-InList.place)) (search rules)

pub ExprDeep::depth-returns-in-InQuery : goal.ExprDeep::depth-returns-in-InQuery
ExprDeep::depth-returns-in-InQuery t c = rw (depth_expr c.args.self.now ∙ ap expr_at (ap out-Expr c.in-InQuery.is ∙ expr.outs-InQuery c.in-InQuery.left c.in-InQuery.negated c.in-InQuery.operator_place c.in-InQuery.query c.in-InQuery.open_place c.in-InQuery.place)) (search rules)

pub ExprDeep::depth-returns-in-InUnnest : goal.ExprDeep::depth-returns-in-InUnnest
ExprDeep::depth-returns-in-InUnnest t c = rw (depth_expr c.args.self.now ∙ ap expr_at (ap out-Expr c.in-InUnnest.is ∙ expr.outs-InUnnest c.in-InUnnest.left c.in-InUnnest.negated c.in-InUnnest.operator_place c.in-InUnnest.array c.in-InUnnest.place)) (search rules)

pub ExprDeep::depth-returns-in-Is : goal.ExprDeep::depth-returns-in-Is
ExprDeep::depth-returns-in-Is t c = rw (depth_expr c.args.self.now ∙ ap expr_at (ap out-Expr c.in-Is.is ∙ expr.outs-Is c.in-Is.left c.in-Is.negated c.in-Is.test c.in-Is.operator_place c.in-Is.place)) (search rules)

pub ExprDeep::depth-returns-in-Distinct : goal.ExprDeep::depth-returns-in-Distinct
ExprDeep::depth-returns-in-Distinct t c = rw (depth_expr c.args.self.now ∙ ap expr_at (ap out-Expr c.in-Distinct.is ∙ expr.outs-Distinct c.in-Distinct.left c.in-Distinct.negated c.in-Distinct.operator_place c.in-Distinct.right c.in-Distinct.place)) (search rules)

pub ExprDeep::depth-returns-in-Postfix : goal.ExprDeep::depth-returns-in-Postfix
ExprDeep::depth-returns-in-Postfix t c = rw (depth_expr c.args.self.now ∙ ap expr_at (ap out-Expr c.in-Postfix.is ∙ expr.outs-Postfix c.in-Postfix.first c.in-Postfix.parts c.in-Postfix.place)) (search rules)

pub ExprDeep::depth-returns-in-Integer : goal.ExprDeep::depth-returns-in-Integer
ExprDeep::depth-returns-in-Integer t c = rw (depth_expr c.args.self.now ∙ ap expr_at (ap out-Expr c.in-Integer.is ∙ expr.outs-Integer c.in-Integer.value c.in-Integer.place)) (search rules)

pub ExprDeep::depth-returns-in-Text : goal.ExprDeep::depth-returns-in-Text
ExprDeep::depth-returns-in-Text t c = rw (depth_expr c.args.self.now ∙ ap expr_at (ap out-Expr c.in-Text.is ∙ expr.outs-Text c.in-Text.value c.in-Text.place)) (search rules)

pub ExprDeep::depth-returns-in-Bytes : goal.ExprDeep::depth-returns-in-Bytes
ExprDeep::depth-returns-in-Bytes t c = rw (depth_expr c.args.self.now ∙ ap expr_at (ap out-Expr c.in-Bytes.is ∙ expr.outs-Bytes c.in-Bytes.value c.in-Bytes.place)) (search rules)

pub ExprDeep::depth-returns-in-Bool : goal.ExprDeep::depth-returns-in-Bool
ExprDeep::depth-returns-in-Bool t c = rw (depth_expr c.args.self.now ∙ ap expr_at (ap out-Expr c.in-Bool.is ∙ expr.outs-Bool c.in-Bool.value c.in-Bool.place)) (search rules)

pub ExprDeep::depth-returns-in-Null : goal.ExprDeep::depth-returns-in-Null
ExprDeep::depth-returns-in-Null t c = rw (depth_expr c.args.self.now ∙ ap expr_at (ap out-Expr c.in-Null.is ∙ expr.outs-Null c.in-Null.place)) (search rules)

pub ExprDeep::depth-returns-in-Date : goal.ExprDeep::depth-returns-in-Date
ExprDeep::depth-returns-in-Date t c = rw (depth_expr c.args.self.now ∙ ap expr_at (ap out-Expr c.in-Date.is ∙ expr.outs-Date c.in-Date.text c.in-Date.place)) (search rules)

pub ExprDeep::depth-returns-in-Parameter : goal.ExprDeep::depth-returns-in-Parameter
ExprDeep::depth-returns-in-Parameter t c = rw (depth_expr c.args.self.now ∙ ap expr_at (ap out-Expr c.in-Parameter.is ∙ expr.outs-Parameter c.in-Parameter.name c.in-Parameter.place)) (search rules)

pub ExprDeep::depth-returns-in-Name : goal.ExprDeep::depth-returns-in-Name
ExprDeep::depth-returns-in-Name t c = rw (depth_expr c.args.self.now ∙ ap expr_at (ap out-Expr c.in-Name.is ∙ expr.outs-Name c.in-Name.name c.in-Name.place)) (search rules)

pub ExprDeep::depth-returns-in-Call : goal.ExprDeep::depth-returns-in-Call
ExprDeep::depth-returns-in-Call t c = rw (depth_expr c.args.self.now ∙ ap expr_at (ap out-Expr c.in-Call.is ∙ expr.outs-Call c.in-Call.call c.in-Call.place)) (search rules)

pub ExprDeep::depth-returns-in-SafeCall : goal.ExprDeep::depth-returns-in-SafeCall
ExprDeep::depth-returns-in-SafeCall t c = rw (depth_expr c.args.self.now ∙ ap expr_at (ap out-Expr c.in-SafeCall.is ∙ expr.outs-SafeCall c.in-SafeCall.call c.in-SafeCall.place)) (search rules)

pub ExprDeep::depth-returns-in-Scalar : goal.ExprDeep::depth-returns-in-Scalar
ExprDeep::depth-returns-in-Scalar t c = rw (depth_expr c.args.self.now ∙ ap expr_at (ap out-Expr c.in-Scalar.is ∙ expr.outs-Scalar c.in-Scalar.query c.in-Scalar.place)) (search rules)

pub ExprDeep::depth-returns-in-Tuple : goal.ExprDeep::depth-returns-in-Tuple
ExprDeep::depth-returns-in-Tuple t c = rw (depth_expr c.args.self.now ∙ ap expr_at (ap out-Expr c.in-Tuple.is ∙ expr.outs-Tuple c.in-Tuple.parts c.in-Tuple.place)) (search rules)

pub ExprDeep::depth-returns-in-Case : goal.ExprDeep::depth-returns-in-Case
ExprDeep::depth-returns-in-Case t c = rw (depth_expr c.args.self.now ∙ ap expr_at (ap out-Expr c.in-Case.is ∙ expr.outs-Case c.in-Case.subject c.in-Case.branches c.in-Case.otherwise c.in-Case.place)) (search rules)

pub ExprDeep::depth-returns-in-Cast : goal.ExprDeep::depth-returns-in-Cast
ExprDeep::depth-returns-in-Cast t c = rw (depth_expr c.args.self.now ∙ ap expr_at (ap out-Expr c.in-Cast.is ∙ expr.outs-Cast c.in-Cast.safe c.in-Cast.expr c.in-Cast.ty c.in-Cast.place)) (search rules)

pub ExprDeep::depth-returns-in-Extract : goal.ExprDeep::depth-returns-in-Extract
ExprDeep::depth-returns-in-Extract t c = rw (depth_expr c.args.self.now ∙ ap expr_at (ap out-Expr c.in-Extract.is ∙ expr.outs-Extract c.in-Extract.part c.in-Extract.expr c.in-Extract.place)) (search rules)

pub ExprDeep::depth-returns-in-Grouping : goal.ExprDeep::depth-returns-in-Grouping
ExprDeep::depth-returns-in-Grouping t c = rw (depth_expr c.args.self.now ∙ ap expr_at (ap out-Expr c.in-Grouping.is ∙ expr.outs-Grouping c.in-Grouping.argument c.in-Grouping.place)) (search rules)

pub ExprDeep::depth-returns-in-Exists : goal.ExprDeep::depth-returns-in-Exists
ExprDeep::depth-returns-in-Exists t c = rw (depth_expr c.args.self.now ∙ ap expr_at (ap out-Expr c.in-Exists.is ∙ expr.outs-Exists c.in-Exists.query c.in-Exists.place)) (search rules)

pub ExprDeep::depth-returns-in-ArrayQuery : goal.ExprDeep::depth-returns-in-ArrayQuery
ExprDeep::depth-returns-in-ArrayQuery t c = rw (depth_expr c.args.self.now ∙ ap expr_at (ap out-Expr c.in-ArrayQuery.is ∙ expr.outs-ArrayQuery c.in-ArrayQuery.query c.in-ArrayQuery.open_place c.in-ArrayQuery.place)) (search rules)

pub ExprDeep::depth-returns-in-Array : goal.ExprDeep::depth-returns-in-Array
ExprDeep::depth-returns-in-Array t c = rw (depth_expr c.args.self.now ∙ ap expr_at (ap out-Expr c.in-Array.is ∙ expr.outs-Array c.in-Array.element c.in-Array.items c.in-Array.open_place c.in-Array.place)) (search rules)

pub ExprDeep::depth-returns-in-Struct : goal.ExprDeep::depth-returns-in-Struct
ExprDeep::depth-returns-in-Struct t c = rw (depth_expr c.args.self.now ∙ ap expr_at (ap out-Expr c.in-Struct.is ∙ expr.outs-Struct c.in-Struct.parts c.in-Struct.place)) (search rules)

pub ExprDeep::depth-returns-in-TypedStruct : goal.ExprDeep::depth-returns-in-TypedStruct
ExprDeep::depth-returns-in-TypedStruct t c = rw (depth_expr c.args.self.now ∙ ap expr_at (ap out-Expr c.in-TypedStruct.is ∙ expr.outs-TypedStruct c.in-TypedStruct.fields c.in-TypedStruct.parts c.in-TypedStruct.open_place c.in-TypedStruct.place)) (search rules)

pub ExprDeep::depth-returns-in-With : goal.ExprDeep::depth-returns-in-With
ExprDeep::depth-returns-in-With t c = rw (depth_expr c.args.self.now ∙ ap expr_at (ap out-Expr c.in-With.is ∙ expr.outs-With c.in-With.bindings c.in-With.result c.in-With.place)) (search rules)

pub PrimaryDeep::depth-returns-in-Table : goal.PrimaryDeep::depth-returns-in-Table
PrimaryDeep::depth-returns-in-Table t c = rw (depth_primary c.args.self.now ∙ ap primary_at (ap out-Primary c.in-Table.is ∙ primary.outs-Table c.in-Table.name c.in-Table.alias c.in-Table.turned c.in-Table.place)) (search rules)

pub PrimaryDeep::depth-returns-in-Query : goal.PrimaryDeep::depth-returns-in-Query
PrimaryDeep::depth-returns-in-Query t c = rw (depth_primary c.args.self.now ∙ ap primary_at (ap out-Primary c.in-Query.is ∙ primary.outs-Query c.in-Query.query c.in-Query.alias c.in-Query.turned c.in-Query.place)) (search rules)

pub PrimaryDeep::depth-returns-in-Path : goal.PrimaryDeep::depth-returns-in-Path
PrimaryDeep::depth-returns-in-Path t c = rw (depth_primary c.args.self.now ∙ ap primary_at (ap out-Primary c.in-Path.is ∙ primary.outs-Path c.in-Path.path c.in-Path.alias c.in-Path.offset c.in-Path.place)) (search rules)

pub PrimaryDeep::depth-returns-in-Unnest : goal.PrimaryDeep::depth-returns-in-Unnest
PrimaryDeep::depth-returns-in-Unnest t c = rw (depth_primary c.args.self.now ∙ ap primary_at (ap out-Primary c.in-Unnest.is ∙ primary.outs-Unnest c.in-Unnest.array c.in-Unnest.alias c.in-Unnest.offset c.in-Unnest.place)) (search rules)

pub TermDeep::depth-returns-in-Select : goal.TermDeep::depth-returns-in-Select
TermDeep::depth-returns-in-Select t c = rw (depth_term c.args.self.now ∙ ap term_at (ap out-Term c.in-Select.is ∙ term.outs-Select c.in-Select.select)) (search rules)

pub TermDeep::depth-returns-in-Query : goal.TermDeep::depth-returns-in-Query
TermDeep::depth-returns-in-Query t c = rw (depth_term c.args.self.now ∙ ap term_at (ap out-Term c.in-Query.is ∙ term.outs-Query c.in-Query.query c.in-Query.place)) (search rules)

pub FromItemDeep::depth-returns : goal.FromItemDeep::depth-returns
FromItemDeep::depth-returns t c = rw (depth_from c.args.self.now) (search rules)

pub JoinedDeep::depth-returns : goal.JoinedDeep::depth-returns
JoinedDeep::depth-returns t c = rw (depth_joined c.args.self.now) (search rules)

pub SelectDeep::depth-returns : goal.SelectDeep::depth-returns
SelectDeep::depth-returns t c = rw (depth_select c.args.self.now) (search rules)

pub QueryDeep::depth-returns : goal.QueryDeep::depth-returns
QueryDeep::depth-returns t c = rw (depth_query c.args.self.now) (search rules)
