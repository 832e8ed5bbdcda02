-- Each tree is printed as its law says.
use Rattle.std.proofs.Common.{rules, ap, ◌∙◌}
use Rattle.sql_ast.specs.declared.expr.Expr.{out-Expr}
use Rattle.sql_ast.specs.declared.expr.Expr.TheVariants as expr
use Rattle.sql_ast.specs.declared.query.Primary.{out-Primary}
use Rattle.sql_ast.specs.declared.query.Primary.TheVariants as primary
use Rattle.sql_ast.specs.declared.query.Term.{out-Term}
use Rattle.sql_ast.specs.declared.query.Term.TheVariants as term
use Rattle.sql_print.proofs.PageLaws.{written_append}
use Rattle.sql_print.proofs.CanonFroms.{primary_at}
use Rattle.sql_print.proofs.CanonLaws.{pieces_expr, pieces_at, print_primary, print_term, term_at, print_from, print_joined, print_select, print_query}
use Rattle.sql_print.proofs.printed_trees.+print.Goals as goal

pub ExprPrinted::print-returns-in-Or : goal.ExprPrinted::print-returns-in-Or
ExprPrinted::print-returns-in-Or t c = rw (pieces_expr c.args.self.now ∙ ap pieces_at (ap out-Expr c.in-Or.is ∙ expr.outs-Or c.in-Or.first c.in-Or.rest c.in-Or.place)) (search rules)

pub ExprPrinted::print-returns-in-And : goal.ExprPrinted::print-returns-in-And
ExprPrinted::print-returns-in-And t c = rw (pieces_expr c.args.self.now ∙ ap pieces_at (ap out-Expr c.in-And.is ∙ expr.outs-And c.in-And.first c.in-And.rest c.in-And.place)) (search rules)

pub ExprPrinted::print-returns-in-Not : goal.ExprPrinted::print-returns-in-Not
ExprPrinted::print-returns-in-Not t c = rw (pieces_expr c.args.self.now ∙ ap pieces_at (ap out-Expr c.in-Not.is ∙ expr.outs-Not c.in-Not.operators c.in-Not.operand c.in-Not.place)) (search rules)

pub ExprPrinted::print-returns-in-BitOr : goal.ExprPrinted::print-returns-in-BitOr
ExprPrinted::print-returns-in-BitOr t c = rw (pieces_expr c.args.self.now ∙ ap pieces_at (ap out-Expr c.in-BitOr.is ∙ expr.outs-BitOr c.in-BitOr.first c.in-BitOr.rest c.in-BitOr.place)) (search rules)

pub ExprPrinted::print-returns-in-BitXor : goal.ExprPrinted::print-returns-in-BitXor
ExprPrinted::print-returns-in-BitXor t c = rw (pieces_expr c.args.self.now ∙ ap pieces_at (ap out-Expr c.in-BitXor.is ∙ expr.outs-BitXor c.in-BitXor.first c.in-BitXor.rest c.in-BitXor.place)) (search rules)

pub ExprPrinted::print-returns-in-BitAnd : goal.ExprPrinted::print-returns-in-BitAnd
ExprPrinted::print-returns-in-BitAnd t c = rw (pieces_expr c.args.self.now ∙ ap pieces_at (ap out-Expr c.in-BitAnd.is ∙ expr.outs-BitAnd c.in-BitAnd.first c.in-BitAnd.rest c.in-BitAnd.place)) (search rules)

pub ExprPrinted::print-returns-in-Shift : goal.ExprPrinted::print-returns-in-Shift
ExprPrinted::print-returns-in-Shift t c = rw (pieces_expr c.args.self.now ∙ ap pieces_at (ap out-Expr c.in-Shift.is ∙ expr.outs-Shift c.in-Shift.first c.in-Shift.rest c.in-Shift.place)) (search rules)

pub ExprPrinted::print-returns-in-Sum : goal.ExprPrinted::print-returns-in-Sum
ExprPrinted::print-returns-in-Sum t c = rw (pieces_expr c.args.self.now ∙ ap pieces_at (ap out-Expr c.in-Sum.is ∙ expr.outs-Sum c.in-Sum.first c.in-Sum.rest c.in-Sum.place)) (search rules)

pub ExprPrinted::print-returns-in-Product : goal.ExprPrinted::print-returns-in-Product
ExprPrinted::print-returns-in-Product t c = rw (pieces_expr c.args.self.now ∙ ap pieces_at (ap out-Expr c.in-Product.is ∙ expr.outs-Product c.in-Product.first c.in-Product.rest c.in-Product.place)) (search rules)

pub ExprPrinted::print-returns-in-Unary : goal.ExprPrinted::print-returns-in-Unary
ExprPrinted::print-returns-in-Unary t c = rw (pieces_expr c.args.self.now ∙ ap pieces_at (ap out-Expr c.in-Unary.is ∙ expr.outs-Unary c.in-Unary.operators c.in-Unary.operand c.in-Unary.place)) (search rules)

pub ExprPrinted::print-returns-in-Compare : goal.ExprPrinted::print-returns-in-Compare
ExprPrinted::print-returns-in-Compare t c = rw (pieces_expr c.args.self.now ∙ ap pieces_at (ap out-Expr c.in-Compare.is ∙ expr.outs-Compare c.in-Compare.left c.in-Compare.operator c.in-Compare.operator_place c.in-Compare.right c.in-Compare.place)) (search rules)

pub ExprPrinted::print-returns-in-Like : goal.ExprPrinted::print-returns-in-Like
ExprPrinted::print-returns-in-Like t c = rw (pieces_expr c.args.self.now ∙ ap pieces_at (ap out-Expr c.in-Like.is ∙ expr.outs-Like c.in-Like.left c.in-Like.negated c.in-Like.operator_place c.in-Like.right c.in-Like.place)) (search rules)

pub ExprPrinted::print-returns-in-LikeList : goal.ExprPrinted::print-returns-in-LikeList
ExprPrinted::print-returns-in-LikeList t c = rw (pieces_expr c.args.self.now ∙ ap pieces_at (ap out-Expr c.in-LikeList.is ∙ expr.outs-LikeList c.in-LikeList.left c.in-LikeList.quantifier c.in-LikeList.operator_place c.in-LikeList.patterns c.in-LikeList.place)) (search rules)

pub ExprPrinted::print-returns-in-LikeUnnest : goal.ExprPrinted::print-returns-in-LikeUnnest
ExprPrinted::print-returns-in-LikeUnnest t c = rw (pieces_expr c.args.self.now ∙ ap pieces_at (ap out-Expr c.in-LikeUnnest.is ∙ expr.outs-LikeUnnest c.in-LikeUnnest.left c.in-LikeUnnest.quantifier c.in-LikeUnnest.operator_place c.in-LikeUnnest.array c.in-LikeUnnest.place)) (search rules)

pub ExprPrinted::print-returns-in-Between : goal.ExprPrinted::print-returns-in-Between
ExprPrinted::print-returns-in-Between t c = rw (pieces_expr c.args.self.now ∙ ap pieces_at (ap out-Expr c.in-Between.is ∙ expr.outs-Between c.in-Between.subject c.in-Between.negated c.in-Between.operator_place c.in-Between.low c.in-Between.high c.in-Between.place)) (search rules)

pub ExprPrinted::print-returns-in-InList : goal.ExprPrinted::print-returns-in-InList
ExprPrinted::print-returns-in-InList t c = rw (pieces_expr c.args.self.now ∙ ap pieces_at (ap out-Expr c.in-InList.is ∙ expr.outs-InList c.in-InList.left c.in-InList.negated c.in-InList.operator_place c.in-InList.list c.in-InList.place)) (search rules)

pub ExprPrinted::print-returns-in-InQuery : goal.ExprPrinted::print-returns-in-InQuery
ExprPrinted::print-returns-in-InQuery t c = rw (pieces_expr c.args.self.now ∙ ap pieces_at (ap out-Expr c.in-InQuery.is ∙ expr.outs-InQuery c.in-InQuery.left c.in-InQuery.negated c.in-InQuery.operator_place c.in-InQuery.query c.in-InQuery.open_place c.in-InQuery.place)) (search rules)

pub ExprPrinted::print-returns-in-InUnnest : goal.ExprPrinted::print-returns-in-InUnnest
ExprPrinted::print-returns-in-InUnnest t c = rw (pieces_expr c.args.self.now ∙ ap pieces_at (ap out-Expr c.in-InUnnest.is ∙ expr.outs-InUnnest c.in-InUnnest.left c.in-InUnnest.negated c.in-InUnnest.operator_place c.in-InUnnest.array c.in-InUnnest.place)) (search rules)

pub ExprPrinted::print-returns-in-Is : goal.ExprPrinted::print-returns-in-Is
ExprPrinted::print-returns-in-Is t c = rw (pieces_expr c.args.self.now ∙ ap pieces_at (ap out-Expr c.in-Is.is ∙ expr.outs-Is c.in-Is.left c.in-Is.negated c.in-Is.test c.in-Is.operator_place c.in-Is.place)) (search rules)

pub ExprPrinted::print-returns-in-Distinct : goal.ExprPrinted::print-returns-in-Distinct
ExprPrinted::print-returns-in-Distinct t c = rw (pieces_expr c.args.self.now ∙ ap pieces_at (ap out-Expr c.in-Distinct.is ∙ expr.outs-Distinct c.in-Distinct.left c.in-Distinct.negated c.in-Distinct.operator_place c.in-Distinct.right c.in-Distinct.place)) (search rules)

pub ExprPrinted::print-returns-in-Postfix : goal.ExprPrinted::print-returns-in-Postfix
ExprPrinted::print-returns-in-Postfix t c = rw (pieces_expr c.args.self.now ∙ ap pieces_at (ap out-Expr c.in-Postfix.is ∙ expr.outs-Postfix c.in-Postfix.first c.in-Postfix.parts c.in-Postfix.place)) (search rules)

pub ExprPrinted::print-returns-in-Integer : goal.ExprPrinted::print-returns-in-Integer
ExprPrinted::print-returns-in-Integer t c = rw (pieces_expr c.args.self.now ∙ ap pieces_at (ap out-Expr c.in-Integer.is ∙ expr.outs-Integer c.in-Integer.value c.in-Integer.place)) (search rules)

pub ExprPrinted::print-returns-in-Text : goal.ExprPrinted::print-returns-in-Text
ExprPrinted::print-returns-in-Text t c = rw (pieces_expr c.args.self.now ∙ ap pieces_at (ap out-Expr c.in-Text.is ∙ expr.outs-Text c.in-Text.value c.in-Text.place)) (search rules)

pub ExprPrinted::print-returns-in-Bytes : goal.ExprPrinted::print-returns-in-Bytes
ExprPrinted::print-returns-in-Bytes t c = rw (pieces_expr c.args.self.now ∙ ap pieces_at (ap out-Expr c.in-Bytes.is ∙ expr.outs-Bytes c.in-Bytes.value c.in-Bytes.place)) (search rules)

pub ExprPrinted::print-returns-in-Bool : goal.ExprPrinted::print-returns-in-Bool
ExprPrinted::print-returns-in-Bool t c = rw (pieces_expr c.args.self.now ∙ ap pieces_at (ap out-Expr c.in-Bool.is ∙ expr.outs-Bool c.in-Bool.value c.in-Bool.place)) (search rules)

pub ExprPrinted::print-returns-in-Null : goal.ExprPrinted::print-returns-in-Null
ExprPrinted::print-returns-in-Null t c = rw (pieces_expr c.args.self.now ∙ ap pieces_at (ap out-Expr c.in-Null.is ∙ expr.outs-Null c.in-Null.place)) (search rules)

pub ExprPrinted::print-returns-in-Date : goal.ExprPrinted::print-returns-in-Date
ExprPrinted::print-returns-in-Date t c = rw (pieces_expr c.args.self.now ∙ ap pieces_at (ap out-Expr c.in-Date.is ∙ expr.outs-Date c.in-Date.text c.in-Date.place)) (search rules)

pub ExprPrinted::print-returns-in-Parameter : goal.ExprPrinted::print-returns-in-Parameter
ExprPrinted::print-returns-in-Parameter t c = rw (pieces_expr c.args.self.now ∙ ap pieces_at (ap out-Expr c.in-Parameter.is ∙ expr.outs-Parameter c.in-Parameter.name c.in-Parameter.place)) (search rules)

pub ExprPrinted::print-returns-in-Name : goal.ExprPrinted::print-returns-in-Name
ExprPrinted::print-returns-in-Name t c = rw (pieces_expr c.args.self.now ∙ ap pieces_at (ap out-Expr c.in-Name.is ∙ expr.outs-Name c.in-Name.name c.in-Name.place)) (search rules)

pub ExprPrinted::print-returns-in-Call : goal.ExprPrinted::print-returns-in-Call
ExprPrinted::print-returns-in-Call t c = rw (pieces_expr c.args.self.now ∙ ap pieces_at (ap out-Expr c.in-Call.is ∙ expr.outs-Call c.in-Call.call c.in-Call.place)) (search rules)

pub ExprPrinted::print-returns-in-SafeCall : goal.ExprPrinted::print-returns-in-SafeCall
ExprPrinted::print-returns-in-SafeCall t c = rw (pieces_expr c.args.self.now ∙ ap pieces_at (ap out-Expr c.in-SafeCall.is ∙ expr.outs-SafeCall c.in-SafeCall.call c.in-SafeCall.place)) (search rules)

pub ExprPrinted::print-returns-in-Scalar : goal.ExprPrinted::print-returns-in-Scalar
ExprPrinted::print-returns-in-Scalar t c = rw (pieces_expr c.args.self.now ∙ ap pieces_at (ap out-Expr c.in-Scalar.is ∙ expr.outs-Scalar c.in-Scalar.query c.in-Scalar.place)) (search rules)

pub ExprPrinted::print-returns-in-Tuple : goal.ExprPrinted::print-returns-in-Tuple
ExprPrinted::print-returns-in-Tuple t c = rw (pieces_expr c.args.self.now ∙ ap pieces_at (ap out-Expr c.in-Tuple.is ∙ expr.outs-Tuple c.in-Tuple.parts c.in-Tuple.place)) (search rules)

pub ExprPrinted::print-returns-in-Case : goal.ExprPrinted::print-returns-in-Case
ExprPrinted::print-returns-in-Case t c = rw (pieces_expr c.args.self.now ∙ ap pieces_at (ap out-Expr c.in-Case.is ∙ expr.outs-Case c.in-Case.subject c.in-Case.branches c.in-Case.otherwise c.in-Case.place)) (search rules)

pub ExprPrinted::print-returns-in-Cast : goal.ExprPrinted::print-returns-in-Cast
ExprPrinted::print-returns-in-Cast t c = rw (pieces_expr c.args.self.now ∙ ap pieces_at (ap out-Expr c.in-Cast.is ∙ expr.outs-Cast c.in-Cast.safe c.in-Cast.expr c.in-Cast.ty c.in-Cast.place)) (search rules)

pub ExprPrinted::print-returns-in-Extract : goal.ExprPrinted::print-returns-in-Extract
ExprPrinted::print-returns-in-Extract t c = rw (pieces_expr c.args.self.now ∙ ap pieces_at (ap out-Expr c.in-Extract.is ∙ expr.outs-Extract c.in-Extract.part c.in-Extract.expr c.in-Extract.place)) (search rules)

pub ExprPrinted::print-returns-in-Grouping : goal.ExprPrinted::print-returns-in-Grouping
ExprPrinted::print-returns-in-Grouping t c = rw (pieces_expr c.args.self.now ∙ ap pieces_at (ap out-Expr c.in-Grouping.is ∙ expr.outs-Grouping c.in-Grouping.argument c.in-Grouping.place)) (search rules)

pub ExprPrinted::print-returns-in-Exists : goal.ExprPrinted::print-returns-in-Exists
ExprPrinted::print-returns-in-Exists t c = rw (pieces_expr c.args.self.now ∙ ap pieces_at (ap out-Expr c.in-Exists.is ∙ expr.outs-Exists c.in-Exists.query c.in-Exists.place)) (search rules)

pub ExprPrinted::print-returns-in-ArrayQuery : goal.ExprPrinted::print-returns-in-ArrayQuery
ExprPrinted::print-returns-in-ArrayQuery t c = rw (pieces_expr c.args.self.now ∙ ap pieces_at (ap out-Expr c.in-ArrayQuery.is ∙ expr.outs-ArrayQuery c.in-ArrayQuery.query c.in-ArrayQuery.open_place c.in-ArrayQuery.place)) (search rules)

pub ExprPrinted::print-returns-in-Array : goal.ExprPrinted::print-returns-in-Array
ExprPrinted::print-returns-in-Array t c = rw (pieces_expr c.args.self.now ∙ ap pieces_at (ap out-Expr c.in-Array.is ∙ expr.outs-Array c.in-Array.element c.in-Array.items c.in-Array.open_place c.in-Array.place)) (search rules)

pub ExprPrinted::print-returns-in-Struct : goal.ExprPrinted::print-returns-in-Struct
ExprPrinted::print-returns-in-Struct t c = rw (pieces_expr c.args.self.now ∙ ap pieces_at (ap out-Expr c.in-Struct.is ∙ expr.outs-Struct c.in-Struct.parts c.in-Struct.place)) (search rules)

pub ExprPrinted::print-returns-in-TypedStruct : goal.ExprPrinted::print-returns-in-TypedStruct
ExprPrinted::print-returns-in-TypedStruct t c = rw (pieces_expr c.args.self.now ∙ ap pieces_at (ap out-Expr c.in-TypedStruct.is ∙ expr.outs-TypedStruct c.in-TypedStruct.fields c.in-TypedStruct.parts c.in-TypedStruct.open_place c.in-TypedStruct.place)) (search rules)

pub ExprPrinted::print-returns-in-With : goal.ExprPrinted::print-returns-in-With
ExprPrinted::print-returns-in-With t c = rw (pieces_expr c.args.self.now ∙ ap pieces_at (ap out-Expr c.in-With.is ∙ expr.outs-With c.in-With.bindings c.in-With.result c.in-With.place)) (search rules)

pub PrimaryPrinted::print-returns-in-Table : goal.PrimaryPrinted::print-returns-in-Table
PrimaryPrinted::print-returns-in-Table t c = rw (print_primary c.args.self.now ∙ ap primary_at (ap out-Primary c.in-Table.is ∙ primary.outs-Table c.in-Table.name c.in-Table.alias c.in-Table.turned c.in-Table.place)) (search rules)

pub PrimaryPrinted::print-returns-in-Query : goal.PrimaryPrinted::print-returns-in-Query
PrimaryPrinted::print-returns-in-Query t c = rw (print_primary c.args.self.now ∙ ap primary_at (ap out-Primary c.in-Query.is ∙ primary.outs-Query c.in-Query.query c.in-Query.alias c.in-Query.turned c.in-Query.place)) (search rules)

pub PrimaryPrinted::print-returns-in-Path : goal.PrimaryPrinted::print-returns-in-Path
PrimaryPrinted::print-returns-in-Path t c = rw (print_primary c.args.self.now ∙ ap primary_at (ap out-Primary c.in-Path.is ∙ primary.outs-Path c.in-Path.path c.in-Path.alias c.in-Path.offset c.in-Path.place)) (search rules)

pub PrimaryPrinted::print-returns-in-Unnest : goal.PrimaryPrinted::print-returns-in-Unnest
PrimaryPrinted::print-returns-in-Unnest t c = rw (print_primary c.args.self.now ∙ ap primary_at (ap out-Primary c.in-Unnest.is ∙ primary.outs-Unnest c.in-Unnest.array c.in-Unnest.alias c.in-Unnest.offset c.in-Unnest.place)) (search rules)

pub TermPrinted::print-returns-in-Select : goal.TermPrinted::print-returns-in-Select
TermPrinted::print-returns-in-Select t c = rw (print_term c.args.self.now ∙ ap term_at (ap out-Term c.in-Select.is ∙ term.outs-Select c.in-Select.select)) (search rules)

pub TermPrinted::print-returns-in-Query : goal.TermPrinted::print-returns-in-Query
TermPrinted::print-returns-in-Query t c = rw (print_term c.args.self.now ∙ ap term_at (ap out-Term c.in-Query.is ∙ term.outs-Query c.in-Query.query c.in-Query.place)) (search rules)

pub JoinedPrinted::print-returns : goal.JoinedPrinted::print-returns
JoinedPrinted::print-returns t c = rw (print_joined c.args.self.now) (search (rules, written_append))

pub FromItemPrinted::print-returns : goal.FromItemPrinted::print-returns
FromItemPrinted::print-returns t c = rw (print_from c.args.self.now) (search (rules, written_append))

pub SelectPrinted::print-returns : goal.SelectPrinted::print-returns
SelectPrinted::print-returns t c = rw (print_select c.args.self.now) (search (rules, written_append))

pub QueryPrinted::print-returns : goal.QueryPrinted::print-returns
QueryPrinted::print-returns t c = rw (print_query c.args.self.now) (search (rules, written_append))
