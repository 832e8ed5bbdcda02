-- Whether a text holds a form that isn't built, one construct at a time: a part holds one where its layer over its own parts does.
use Rattle.std.proofs.Common.{◌≡◌, Bool}
use Rattle.sql_ast.specs.declared.expr.Expr.{Expr, out-Expr, map-Expr, fold_out-Expr}
use Rattle.sql_ast.specs.declared.query.Primary.{Primary, out-Primary, map-Primary, fold-Primary, fold_out-Primary}
use Rattle.sql_ast.specs.declared.query.Term.{Term, out-Term, map-Term, fold-Term, fold_out-Term}
use Rattle.sql_ast.specs.declared.query.FromItem.{FromItem, out-FromItem, map-FromItem, fold-FromItem, fold_out-FromItem}
use Rattle.sql_ast.specs.declared.query.Joined.{Joined, out-Joined, map-Joined, fold-Joined, fold_out-Joined}
use Rattle.sql_ast.specs.declared.query.Query.{Query, out-Query, map-Query, fold_out-Query}
use Rattle.sql_ast.specs.declared.query.Select.{Select, out-Select, map-Select, fold-Select, fold_out-Select}
use Rattle.sql_semantics.specs.Unbuilt.{in_expr, in_primary, in_term, in_from, in_joined, in_query, in_select, unbuilt_query, unbuilt_expr}

unfoldable pub unbuilt_primary : Primary → Bool
unbuilt_primary = fold-Primary Bool Bool Bool Bool Bool Bool Bool in_expr in_primary in_term in_from in_joined in_query in_select

unfoldable pub unbuilt_term : Term → Bool
unbuilt_term = fold-Term Bool Bool Bool Bool Bool Bool Bool in_expr in_primary in_term in_from in_joined in_query in_select

unfoldable pub unbuilt_from : FromItem → Bool
unbuilt_from = fold-FromItem Bool Bool Bool Bool Bool Bool Bool in_expr in_primary in_term in_from in_joined in_query in_select

unfoldable pub unbuilt_joined : Joined → Bool
unbuilt_joined = fold-Joined Bool Bool Bool Bool Bool Bool Bool in_expr in_primary in_term in_from in_joined in_query in_select

unfoldable pub unbuilt_select : Select → Bool
unbuilt_select = fold-Select Bool Bool Bool Bool Bool Bool Bool in_expr in_primary in_term in_from in_joined in_query in_select

pub unbuilt-expr : (x : Expr) → unbuilt_expr x ≡ in_expr (map-Expr _ _ _ _ _ _ _ _ _ _ _ _ _ _ unbuilt_expr unbuilt_primary unbuilt_term unbuilt_from unbuilt_joined unbuilt_query unbuilt_select (out-Expr x))
unfolding unbuilt_expr unbuilt_primary unbuilt_term unbuilt_from unbuilt_joined unbuilt_query unbuilt_select
unbuilt-expr x = fold_out-Expr Bool Bool Bool Bool Bool Bool Bool in_expr in_primary in_term in_from in_joined in_query in_select x

pub unbuilt-primary : (x : Primary) → unbuilt_primary x ≡ in_primary (map-Primary _ _ _ _ _ _ _ _ _ _ _ _ _ _ unbuilt_expr unbuilt_primary unbuilt_term unbuilt_from unbuilt_joined unbuilt_query unbuilt_select (out-Primary x))
unfolding unbuilt_expr unbuilt_primary unbuilt_term unbuilt_from unbuilt_joined unbuilt_query unbuilt_select
unbuilt-primary x = fold_out-Primary Bool Bool Bool Bool Bool Bool Bool in_expr in_primary in_term in_from in_joined in_query in_select x

pub unbuilt-term : (x : Term) → unbuilt_term x ≡ in_term (map-Term _ _ _ _ _ _ _ _ _ _ _ _ _ _ unbuilt_expr unbuilt_primary unbuilt_term unbuilt_from unbuilt_joined unbuilt_query unbuilt_select (out-Term x))
unfolding unbuilt_expr unbuilt_primary unbuilt_term unbuilt_from unbuilt_joined unbuilt_query unbuilt_select
unbuilt-term x = fold_out-Term Bool Bool Bool Bool Bool Bool Bool in_expr in_primary in_term in_from in_joined in_query in_select x

pub unbuilt-from : (x : FromItem) → unbuilt_from x ≡ in_from (map-FromItem _ _ _ _ _ _ _ _ _ _ _ _ _ _ unbuilt_expr unbuilt_primary unbuilt_term unbuilt_from unbuilt_joined unbuilt_query unbuilt_select (out-FromItem x))
unfolding unbuilt_expr unbuilt_primary unbuilt_term unbuilt_from unbuilt_joined unbuilt_query unbuilt_select
unbuilt-from x = fold_out-FromItem Bool Bool Bool Bool Bool Bool Bool in_expr in_primary in_term in_from in_joined in_query in_select x

pub unbuilt-joined : (x : Joined) → unbuilt_joined x ≡ in_joined (map-Joined _ _ _ _ _ _ _ _ _ _ _ _ _ _ unbuilt_expr unbuilt_primary unbuilt_term unbuilt_from unbuilt_joined unbuilt_query unbuilt_select (out-Joined x))
unfolding unbuilt_expr unbuilt_primary unbuilt_term unbuilt_from unbuilt_joined unbuilt_query unbuilt_select
unbuilt-joined x = fold_out-Joined Bool Bool Bool Bool Bool Bool Bool in_expr in_primary in_term in_from in_joined in_query in_select x

pub unbuilt-query : (x : Query) → unbuilt_query x ≡ in_query (map-Query _ _ _ _ _ _ _ _ _ _ _ _ _ _ unbuilt_expr unbuilt_primary unbuilt_term unbuilt_from unbuilt_joined unbuilt_query unbuilt_select (out-Query x))
unfolding unbuilt_expr unbuilt_primary unbuilt_term unbuilt_from unbuilt_joined unbuilt_query unbuilt_select
unbuilt-query x = fold_out-Query Bool Bool Bool Bool Bool Bool Bool in_expr in_primary in_term in_from in_joined in_query in_select x

pub unbuilt-select : (x : Select) → unbuilt_select x ≡ in_select (map-Select _ _ _ _ _ _ _ _ _ _ _ _ _ _ unbuilt_expr unbuilt_primary unbuilt_term unbuilt_from unbuilt_joined unbuilt_query unbuilt_select (out-Select x))
unfolding unbuilt_expr unbuilt_primary unbuilt_term unbuilt_from unbuilt_joined unbuilt_query unbuilt_select
unbuilt-select x = fold_out-Select Bool Bool Bool Bool Bool Bool Bool in_expr in_primary in_term in_from in_joined in_query in_select x
