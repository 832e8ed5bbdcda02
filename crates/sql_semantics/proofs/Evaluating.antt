-- The equations of meaning as worked examples use them, applied to an environment.
use Rattle.std.proofs.Common.{◌≡◌, List, [], ◌∷◌, refl, ap}
use Rattle.sql_types.specs.declared.value.Value.{Value}
use Rattle.sql_types.specs.Outcome.{Outcome, Meaning}
use Rattle.sql_ast.specs.declared.expr.Expr.{Expr, out-Expr}
use Rattle.sql_ast.specs.declared.query.Primary.{Primary, out-Primary}
use Rattle.sql_ast.specs.declared.query.Term.{Term, out-Term}
use Rattle.sql_ast.specs.declared.query.FromItem.{FromItem, out-FromItem}
use Rattle.sql_ast.specs.declared.query.Joined.{Joined, out-Joined}
use Rattle.sql_ast.specs.declared.query.Query.{Query, out-Query}
use Rattle.sql_ast.specs.declared.query.Select.{Select, out-Select}
use Rattle.sql_ast.specs.declared.query.Cte.{Cte}
use Rattle.sql_catalog.specs.declared.entries.Entries.{Entries}
use Rattle.sql_semantics.specs.FromScopes.{FromScope}
use Rattle.sql_semantics.specs.TypeCalls.{Defined}
use Rattle.sql_semantics.specs.Types.{TypeQuery}
use Rattle.sql_semantics.specs.Environments.{Row, Frame, Env, with_outcome, sight_of}
use Rattle.sql_semantics.specs.MeansLayers.{TableRows, columns_or, ctes_means, Meant, expr_means, primary_means, term_means, from_means, joined_means, query_means, select_means}
use Rattle.sql_semantics.specs.Meanings.{ME, MP, MJ, MQ, meant_parts, MeansExpr, MeansPrimary, MeansTerm, MeansFrom, MeansJoined, MeansQuery, MeansSelect}
use Rattle.sql_semantics.proofs.MeaningLaws.{meant-expr, meant-primary, meant-term, meant-from, meant-joined, meant-query, meant-select}

module _ (catalog : Entries) (definitions : List Defined) (meant : List Meant) (tables : TableRows) (params : List Value) where
  pub means-expr : (x : Expr) (env : Env) → MeansExpr catalog definitions meant tables params x env ≡ expr_means catalog definitions meant tables params (meant_parts catalog definitions meant tables params) (out-Expr x) env
  means-expr x env = ap (λ (f : ME). f env) (meant-expr catalog definitions meant tables params x)

  pub means-primary : (x : Primary) (env : Env) (left : Frame) → MeansPrimary catalog definitions meant tables params x env left ≡ primary_means catalog definitions meant tables params (meant_parts catalog definitions meant tables params) (out-Primary x) env left
  means-primary x env left = ap (λ (f : MP). f env left) (meant-primary catalog definitions meant tables params x)

  pub means-term : (x : Term) (env : Env) → MeansTerm catalog definitions meant tables params x env ≡ term_means catalog definitions meant tables params (meant_parts catalog definitions meant tables params) (out-Term x) env
  means-term x env = ap (λ (f : MQ). f env) (meant-term catalog definitions meant tables params x)

  pub means-from : (x : FromItem) (env : Env) → MeansFrom catalog definitions meant tables params x env ≡ from_means catalog definitions meant tables params (meant_parts catalog definitions meant tables params) (out-FromItem x) env
  means-from x env = ap (λ (f : MQ). f env) (meant-from catalog definitions meant tables params x)

  pub means-joined : (x : Joined) (env : Env) (left : FromScope) (rows : Meaning (List Row)) → MeansJoined catalog definitions meant tables params x env left rows ≡ joined_means catalog definitions meant tables params (meant_parts catalog definitions meant tables params) (out-Joined x) env left rows
  means-joined x env left rows = ap (λ (f : MJ). f env left rows) (meant-joined catalog definitions meant tables params x)

  pub means-query : (x : Query) (env : Env) → MeansQuery catalog definitions meant tables params x env ≡ query_means catalog definitions meant tables params (meant_parts catalog definitions meant tables params) (out-Query x) env
  means-query x env = ap (λ (f : MQ). f env) (meant-query catalog definitions meant tables params x)

  pub means-select : (x : Select) (env : Env) → MeansSelect catalog definitions meant tables params x env ≡ select_means catalog definitions meant tables params (meant_parts catalog definitions meant tables params) (out-Select x) env
  means-select x env = ap (λ (f : MQ). f env) (meant-select catalog definitions meant tables params x)

  -- no CTE is left, or one is taken
  pub no_ctes : (first : Term) (env : Env) → ctes_means catalog definitions meant tables params (meant_parts catalog definitions meant tables params) [] first env ≡ MeansTerm catalog definitions meant tables params first env
  no_ctes first env = refl

  pub one_cte : (c : Cte Query) (ctes : List (Cte Query)) (first : Term) (env : Env) →
      ctes_means catalog definitions meant tables params (meant_parts catalog definitions meant tables params) (c ∷ ctes) first env
      ≡ (λ o. (taken : Outcome (List Row)) × MeansQuery catalog definitions meant tables params c.query env taken
      × ctes_means catalog definitions meant tables params (meant_parts catalog definitions meant tables params) ctes first (with_outcome env (record { name = c.name.text; columns = columns_or (TypeQuery catalog definitions c.query (sight_of env)); outcome = taken })) o)
  one_cte c ctes first env = refl

pub ruleset meaning = (means-expr, means-primary, means-term, means-from, means-joined, means-query, means-select, no_ctes, one_cte)
