-- The type of a text, one construct at a time: each part is typed by its layer over its own parts.
use Rattle.std.proofs.Common.{◌≡◌, ℕ, Bool, false, List, [], ◌∷◌, Option, None, Some, Ok, refl, sym, ◌∙◌, ap}
use mathlib.Core.Path.{fun_ext}
use Rattle.sql_types.specs.declared.sql_type.Named.{Named}
use Rattle.sql_types.specs.declared.sql_type.SqlType.{SqlType}
use Rattle.sql_ast.specs.declared.clauses.Item.{Item}
use Rattle.sql_ast.specs.declared.clauses.Item.TheVariants as item
use Rattle.sql_ast.specs.declared.clauses.Sort.{Sort}
use Rattle.sql_ast.specs.declared.clauses.LimitPart.{LimitPart}
use Rattle.sql_ast.specs.declared.clauses.FilterPart.{FilterPart}
use Rattle.sql_ast.specs.declared.grouping.Groups.{Groups}
use Rattle.sql_ast.specs.declared.query.Cte.{Cte}
use Rattle.sql_ast.specs.declared.query.SetTerm.{SetTerm}
use Rattle.sql_ast.specs.declared.expr.Expr.{Expr, out-Expr, roll-out-Expr, map-Expr, para-roll-Expr}
use Rattle.sql_ast.specs.declared.query.Primary.{Primary, out-Primary, roll-out-Primary, map-Primary, para-roll-Primary}
use Rattle.sql_ast.specs.declared.query.Term.{Term, out-Term, roll-out-Term, map-Term, para-roll-Term}
use Rattle.sql_ast.specs.declared.query.FromItem.{FromItem, out-FromItem, roll-out-FromItem, map-FromItem, para-roll-FromItem}
use Rattle.sql_ast.specs.declared.query.Joined.{Joined}
use Rattle.sql_ast.specs.declared.query.Query.{Query, out-Query, roll-out-Query, map-Query, para-roll-Query}
use Rattle.sql_ast.specs.declared.query.Select.{Select, out-Select, roll-out-Select, map-Select, para-roll-Select}
use Rattle.sql_ast.specs.declared.expr.Expr.TheOpen.{Expr-F, Primary-F, Term-F, FromItem-F, Joined-F, Query-F, Select-F}
use Rattle.sql_ast.specs.declared.expr.Expr.TheOpen as ast
use Rattle.sql_ast.specs.declared.expr.Expr.TheShapes.{former-Select-items}
use Rattle.sql_coerce.specs.declared.arg.Arg.{Arg}
use Rattle.sql_catalog.specs.declared.entries.Entries.{Entries}
use Rattle.sql_rules.specs.declared.scope.Entry.{Entry}
use Rattle.sql_rules.specs.Typing.{Checked, ◌>>=◌, Sight, given, expr_layer, primary_layer, from_layer, joined_layer, select_layer, term_layer, query_layer, items_layer, item_layer, filter_layer, inside, typed, TypeExpr, TypePrimary, TypeTerm, TypeFrom, TypeJoined, TypeQuery, TypeSelect}

module _ (catalog : Entries) where
  abbrev AE : Type 0
  AE = Sight → Checked Arg

  abbrev AF : Type 0
  AF = Sight → Checked (List Entry)

  abbrev AQ : Type 0
  AQ = Sight → Checked (List (Named SqlType))

  -- ---- a layer over each part with its type is the layer over the parts

  pair-expr : (x : Expr-F Expr Primary Term FromItem Joined Query Select) → expr_layer catalog (given catalog) (map-Expr _ _ _ _ _ _ _ _ _ _ _ _ _ _ (λ y. (y, TypeExpr catalog y)) (λ y. (y, TypePrimary catalog y)) (λ y. (y, TypeTerm catalog y)) (λ y. (y, TypeFrom catalog y)) (λ y. (y, TypeJoined catalog y)) (λ y. (y, TypeQuery catalog y)) (λ y. (y, TypeSelect catalog y)) (x)) ≡ expr_layer catalog (typed catalog) x
  pair-expr (ast.Integer n place) = refl
  pair-expr _ = refl

  pair-primary : (x : Primary-F Expr Primary Term FromItem Joined Query Select) → primary_layer catalog (given catalog) (map-Primary _ _ _ _ _ _ _ _ _ _ _ _ _ _ (λ y. (y, TypeExpr catalog y)) (λ y. (y, TypePrimary catalog y)) (λ y. (y, TypeTerm catalog y)) (λ y. (y, TypeFrom catalog y)) (λ y. (y, TypeJoined catalog y)) (λ y. (y, TypeQuery catalog y)) (λ y. (y, TypeSelect catalog y)) (x)) ≡ primary_layer catalog (typed catalog) x
  pair-primary (ast.Table name None None place) = refl
  pair-primary _ = refl

  pair-term : (x : Term-F Expr Primary Term FromItem Joined Query Select) → term_layer catalog (given catalog) (map-Term _ _ _ _ _ _ _ _ _ _ _ _ _ _ (λ y. (y, TypeExpr catalog y)) (λ y. (y, TypePrimary catalog y)) (λ y. (y, TypeTerm catalog y)) (λ y. (y, TypeFrom catalog y)) (λ y. (y, TypeJoined catalog y)) (λ y. (y, TypeQuery catalog y)) (λ y. (y, TypeSelect catalog y)) (x)) ≡ term_layer catalog (typed catalog) x
  pair-term (ast.Select select) = refl
  pair-term _ = refl

  pair-from : (first : Primary) (rest : List Joined) (place : ℕ) →
      from_layer catalog (given catalog) (map-FromItem _ _ _ _ _ _ _ _ _ _ _ _ _ _ (λ y. (y, TypeExpr catalog y)) (λ y. (y, TypePrimary catalog y)) (λ y. (y, TypeTerm catalog y)) (λ y. (y, TypeFrom catalog y)) (λ y. (y, TypeJoined catalog y)) (λ y. (y, TypeQuery catalog y)) (λ y. (y, TypeSelect catalog y)) (record { first = first; rest = rest; place = place })) ≡ from_layer catalog (typed catalog) (record { first = first; rest = rest; place = place })
  pair-from first [] place = refl
  pair-from first (j ∷ js) place = refl

  pair-query : (ctes : List (Cte Query)) (first : Term) (rest : List (SetTerm Term)) (body_place : ℕ) (order : List (Sort Expr)) (limit : Option (LimitPart Expr)) (place : ℕ) →
      query_layer catalog (given catalog) (map-Query _ _ _ _ _ _ _ _ _ _ _ _ _ _ (λ y. (y, TypeExpr catalog y)) (λ y. (y, TypePrimary catalog y)) (λ y. (y, TypeTerm catalog y)) (λ y. (y, TypeFrom catalog y)) (λ y. (y, TypeJoined catalog y)) (λ y. (y, TypeQuery catalog y)) (λ y. (y, TypeSelect catalog y)) (record { ctes = ctes; body = record { first = first; rest = rest; place = body_place }; order = order; limit = limit; place = place }))
      ≡ query_layer catalog (typed catalog) (record { ctes = ctes; body = record { first = first; rest = rest; place = body_place }; order = order; limit = limit; place = place })
  pair-query [] first [] body_place [] None place = refl
  pair-query _ first _ body_place _ _ place = refl

  -- the items of a select list, each with its type
  abbrev paired : List (Item Expr) → List (Item (Expr × AE))
  paired items = former-Select-items.map Expr (Expr × AE) (λ y. (y, TypeExpr catalog y)) items

  pair-item : (i : Item Expr) (sight : Sight) (rest : Checked (List (Named SqlType))) (is : List (Item Expr)) → items_layer catalog (given catalog) (paired is) sight ≡ rest →
      items_layer catalog (given catalog) (paired (i ∷ is)) sight ≡ (item_layer catalog (typed catalog) i sight >>= (λ c. rest >>= (λ cs. Ok (c ∷ cs))))
  pair-item (item.Expr e None place) sight rest is same = ap (λ r. item_layer catalog (typed catalog) (item.Expr e None place) sight >>= (λ c. r >>= (λ cs. Ok (c ∷ cs)))) same
  pair-item (item.Expr e (Some alias) place) sight rest is same = refl
  pair-item (item.Star edit place) sight rest is same = refl
  pair-item (item.QualifiedStar e edit place) sight rest is same = refl

  pair-items : (items : List (Item Expr)) (sight : Sight) → items_layer catalog (given catalog) (paired items) sight ≡ items_layer catalog (typed catalog) items sight
  pair-items [] sight = refl
  pair-items (i ∷ is) sight = pair-item i sight _ is (pair-items is sight)

  pair-select : (distinct as_struct : Bool) (items : List (Item Expr)) (from : Option FromItem) (filter : Option Expr) (grouping : Option (Groups Expr)) (having : Option (FilterPart Expr)) (place : ℕ) (sight : Sight) →
      select_layer catalog (given catalog) (map-Select _ _ _ _ _ _ _ _ _ _ _ _ _ _ (λ y. (y, TypeExpr catalog y)) (λ y. (y, TypePrimary catalog y)) (λ y. (y, TypeTerm catalog y)) (λ y. (y, TypeFrom catalog y)) (λ y. (y, TypeJoined catalog y)) (λ y. (y, TypeQuery catalog y)) (λ y. (y, TypeSelect catalog y)) (record { distinct = distinct; as_struct = as_struct; items = items; from = from; filter = filter; grouping = grouping; having = having; place = place })) sight
      ≡ select_layer catalog (typed catalog) (record { distinct = distinct; as_struct = as_struct; items = items; from = from; filter = filter; grouping = grouping; having = having; place = place }) sight
  pair-select false false items (Some from) (Some test) None None place sight =
      ap (λ (k : Sight → Checked (List (Named SqlType))). TypeFrom catalog from sight >>= (λ scope. filter_layer catalog (typed catalog) test (inside sight scope) >>= (λ _. k (inside sight scope)))) (fun_ext (pair-items items))
  pair-select _ _ items _ _ _ _ place sight = refl

  -- ---- one equation a sort

  pub typed-expr : (e : Expr) → TypeExpr catalog e ≡ expr_layer catalog (typed catalog) (out-Expr e)
  unfolding TypeExpr TypePrimary TypeTerm TypeFrom TypeJoined TypeQuery TypeSelect
  typed-expr e =
      ap (TypeExpr catalog) (sym (roll-out-Expr e))
      ∙ para-roll-Expr AE AF AQ AF AF AQ AQ (expr_layer catalog (given catalog)) (primary_layer catalog (given catalog)) (term_layer catalog (given catalog)) (from_layer catalog (given catalog)) (joined_layer catalog (given catalog)) (query_layer catalog (given catalog)) (select_layer catalog (given catalog)) (out-Expr e)
      ∙ pair-expr (out-Expr e)

  pub typed-primary : (e : Primary) → TypePrimary catalog e ≡ primary_layer catalog (typed catalog) (out-Primary e)
  unfolding TypeExpr TypePrimary TypeTerm TypeFrom TypeJoined TypeQuery TypeSelect
  typed-primary e =
      ap (TypePrimary catalog) (sym (roll-out-Primary e))
      ∙ para-roll-Primary AE AF AQ AF AF AQ AQ (expr_layer catalog (given catalog)) (primary_layer catalog (given catalog)) (term_layer catalog (given catalog)) (from_layer catalog (given catalog)) (joined_layer catalog (given catalog)) (query_layer catalog (given catalog)) (select_layer catalog (given catalog)) (out-Primary e)
      ∙ pair-primary (out-Primary e)

  pub typed-term : (e : Term) → TypeTerm catalog e ≡ term_layer catalog (typed catalog) (out-Term e)
  unfolding TypeExpr TypePrimary TypeTerm TypeFrom TypeJoined TypeQuery TypeSelect
  typed-term e =
      ap (TypeTerm catalog) (sym (roll-out-Term e))
      ∙ para-roll-Term AE AF AQ AF AF AQ AQ (expr_layer catalog (given catalog)) (primary_layer catalog (given catalog)) (term_layer catalog (given catalog)) (from_layer catalog (given catalog)) (joined_layer catalog (given catalog)) (query_layer catalog (given catalog)) (select_layer catalog (given catalog)) (out-Term e)
      ∙ pair-term (out-Term e)

  pub typed-from : (e : FromItem) → TypeFrom catalog e ≡ from_layer catalog (typed catalog) (out-FromItem e)
  unfolding TypeExpr TypePrimary TypeTerm TypeFrom TypeJoined TypeQuery TypeSelect
  typed-from e =
      ap (TypeFrom catalog) (sym (roll-out-FromItem e))
      ∙ para-roll-FromItem AE AF AQ AF AF AQ AQ (expr_layer catalog (given catalog)) (primary_layer catalog (given catalog)) (term_layer catalog (given catalog)) (from_layer catalog (given catalog)) (joined_layer catalog (given catalog)) (query_layer catalog (given catalog)) (select_layer catalog (given catalog)) (out-FromItem e)
      ∙ pair-from (out-FromItem e).first (out-FromItem e).rest (out-FromItem e).place

  pub typed-query : (e : Query) → TypeQuery catalog e ≡ query_layer catalog (typed catalog) (out-Query e)
  unfolding TypeExpr TypePrimary TypeTerm TypeFrom TypeJoined TypeQuery TypeSelect
  typed-query e =
      ap (TypeQuery catalog) (sym (roll-out-Query e))
      ∙ para-roll-Query AE AF AQ AF AF AQ AQ (expr_layer catalog (given catalog)) (primary_layer catalog (given catalog)) (term_layer catalog (given catalog)) (from_layer catalog (given catalog)) (joined_layer catalog (given catalog)) (query_layer catalog (given catalog)) (select_layer catalog (given catalog)) (out-Query e)
      ∙ pair-query (out-Query e).ctes (out-Query e).body.first (out-Query e).body.rest (out-Query e).body.place (out-Query e).order (out-Query e).limit (out-Query e).place

  pub typed-select : (e : Select) → TypeSelect catalog e ≡ select_layer catalog (typed catalog) (out-Select e)
  unfolding TypeExpr TypePrimary TypeTerm TypeFrom TypeJoined TypeQuery TypeSelect
  typed-select e =
      ap (TypeSelect catalog) (sym (roll-out-Select e))
      ∙ para-roll-Select AE AF AQ AF AF AQ AQ (expr_layer catalog (given catalog)) (primary_layer catalog (given catalog)) (term_layer catalog (given catalog)) (from_layer catalog (given catalog)) (joined_layer catalog (given catalog)) (query_layer catalog (given catalog)) (select_layer catalog (given catalog)) (out-Select e)
      ∙ fun_ext (pair-select (out-Select e).distinct (out-Select e).as_struct (out-Select e).items (out-Select e).from (out-Select e).filter (out-Select e).grouping (out-Select e).having (out-Select e).place)
