-- The meaning of a text, one construct at a time: each part means what its layer says over its own parts.
use Rattle.std.proofs.Common.{◌≡◌, ℕ, Bool, false, List, [], ◌∷◌, map, Option, None, Some, refl, sym, ◌∙◌, ap}
use mathlib.Core.Path.{fun_ext}
use Rattle.sql_types.specs.declared.value.Value.{Value}
use Rattle.sql_types.specs.Outcome.{Meaning, ◌>>=◌, Gather}
use Rattle.sql_ast.specs.declared.clauses.Item.{Item}
use Rattle.sql_ast.specs.declared.clauses.Item.TheVariants as item
use Rattle.sql_ast.specs.declared.clauses.Sort.{Sort}
use Rattle.sql_ast.specs.declared.clauses.LimitPart.{LimitPart}
use Rattle.sql_ast.specs.declared.clauses.FilterPart.{FilterPart}
use Rattle.sql_ast.specs.declared.grouping.Groups.{Groups}
use Rattle.sql_ast.specs.declared.query.Cte.{Cte}
use Rattle.sql_ast.specs.declared.query.SetTerm.{SetTerm}
use Rattle.sql_ast.specs.declared.expr.Expr.{Expr, out-Expr, roll-out-Expr, map-Expr, rec-roll-Expr}
use Rattle.sql_ast.specs.declared.query.Primary.{Primary, out-Primary, roll-out-Primary, map-Primary, rec-roll-Primary}
use Rattle.sql_ast.specs.declared.query.Term.{Term, out-Term, roll-out-Term, map-Term, rec-roll-Term}
use Rattle.sql_ast.specs.declared.query.FromItem.{FromItem, out-FromItem, roll-out-FromItem, map-FromItem, rec-roll-FromItem}
use Rattle.sql_ast.specs.declared.query.Joined.{Joined}
use Rattle.sql_ast.specs.declared.query.Query.{Query, out-Query, roll-out-Query, map-Query, rec-roll-Query}
use Rattle.sql_ast.specs.declared.query.Select.{Select, out-Select, roll-out-Select, map-Select, rec-roll-Select}
use Rattle.sql_ast.specs.declared.expr.Expr.TheOpen.{Expr-F, Primary-F, Term-F, FromItem-F, Joined-F, Query-F, Select-F}
use Rattle.sql_ast.specs.declared.expr.Expr.TheOpen as ast
use Rattle.sql_ast.specs.declared.expr.Expr.TheShapes.{former-Select-items}
use Rattle.sql_catalog.specs.declared.entries.Entries.{Entries}
use Rattle.sql_rules.specs.Tables.{Tables}
use Rattle.sql_rules.specs.Meaning.{Row, Frame, Env, within, kept, Meanings, meanings, meant, expr_means, primary_means, term_means, from_means, joined_means, query_means, select_means, item_means, row_means, MeansExpr, MeansPrimary, MeansTerm, MeansFrom, MeansJoined, MeansQuery, MeansSelect}

module _ (catalog : Entries) (tables : Tables) where
  abbrev ME : Type 1
  ME = Env → Meaning Value

  abbrev MF : Type 1
  MF = Env → Meaning (List Frame)

  abbrev MQ : Type 1
  MQ = Env → Meaning (List Row)

  -- ---- a layer doesn't depend on how its parts are named

  module _ {E P T F J Q S : Type 0} (v1 : E → Expr) (v2 : P → Primary) (v3 : T → Term) (v4 : F → FromItem) (v5 : J → Joined) (v6 : Q → Query) (v7 : S → Select) (k1 : Expr → ME) (k2 : Primary → MF) (k3 : Term → MQ) (k4 : FromItem → MF) (k5 : Joined → MF) (k6 : Query → MQ) (k7 : Select → MQ) where
    abbrev named : Meanings E P T F J Q S
    named = meanings catalog tables (λ p. k1 (v1 p)) (λ p. k2 (v2 p)) (λ p. k3 (v3 p)) (λ p. k4 (v4 p)) (λ p. k5 (v5 p)) (λ p. k6 (v6 p)) (λ p. k7 (v7 p))

    abbrev whole : Meanings Expr Primary Term FromItem Joined Query Select
    whole = meanings catalog tables k1 k2 k3 k4 k5 k6 k7

    natural-expr : (x : Expr-F E P T F J Q S) → expr_means catalog tables named x ≡ expr_means catalog tables whole (map-Expr E P T F J Q S Expr Primary Term FromItem Joined Query Select v1 v2 v3 v4 v5 v6 v7 (x))
    natural-expr (ast.Integer n place) = refl
    natural-expr _ = refl

    natural-primary : (x : Primary-F E P T F J Q S) → primary_means catalog tables named x ≡ primary_means catalog tables whole (map-Primary E P T F J Q S Expr Primary Term FromItem Joined Query Select v1 v2 v3 v4 v5 v6 v7 (x))
    natural-primary (ast.Table name None None place) = refl
    natural-primary _ = refl

    natural-term : (x : Term-F E P T F J Q S) → term_means catalog tables named x ≡ term_means catalog tables whole (map-Term E P T F J Q S Expr Primary Term FromItem Joined Query Select v1 v2 v3 v4 v5 v6 v7 (x))
    natural-term (ast.Select select) = refl
    natural-term _ = refl

    natural-from : (first : P) (rest : List J) (place : ℕ) →
        from_means catalog tables named (record { first = first; rest = rest; place = place }) ≡ from_means catalog tables whole (map-FromItem E P T F J Q S Expr Primary Term FromItem Joined Query Select v1 v2 v3 v4 v5 v6 v7 (record { first = first; rest = rest; place = place }))
    natural-from first [] place = refl
    natural-from first (j ∷ js) place = refl

    natural-query : (ctes : List (Cte Q)) (first : T) (rest : List (SetTerm T)) (body_place : ℕ) (order : List (Sort E)) (limit : Option (LimitPart E)) (place : ℕ) →
        query_means catalog tables named (record { ctes = ctes; body = record { first = first; rest = rest; place = body_place }; order = order; limit = limit; place = place })
        ≡ query_means catalog tables whole (map-Query E P T F J Q S Expr Primary Term FromItem Joined Query Select v1 v2 v3 v4 v5 v6 v7 (record { ctes = ctes; body = record { first = first; rest = rest; place = body_place }; order = order; limit = limit; place = place }))
    natural-query [] first [] body_place [] None place = refl
    natural-query _ first _ body_place _ _ place = refl

    abbrev renamed : List (Item E) → List (Item Expr)
    renamed items = former-Select-items.map E Expr v1 items

    natural-item : (i : Item E) (env : Env) (rest : List (Meaning Value)) (is : List (Item E)) → map (λ j. item_means catalog tables named j env) is ≡ map (λ j. item_means catalog tables whole j env) (renamed is) →
        map (λ j. item_means catalog tables named j env) (i ∷ is) ≡ map (λ j. item_means catalog tables whole j env) (renamed (i ∷ is))
    natural-item (item.Expr e None place) env rest is same = ap (λ r. k1 (v1 e) env ∷ r) same
    natural-item (item.Expr e (Some alias) place) env rest is same = ap (λ r. item_means catalog tables named (item.Expr e (Some alias) place) env ∷ r) same
    natural-item (item.Star edit place) env rest is same = ap (λ r. item_means catalog tables named (item.Star edit place) env ∷ r) same
    natural-item (item.QualifiedStar e edit place) env rest is same = ap (λ r. item_means catalog tables named (item.QualifiedStar e edit place) env ∷ r) same

    natural-items : (items : List (Item E)) (env : Env) → map (λ j. item_means catalog tables named j env) items ≡ map (λ j. item_means catalog tables whole j env) (renamed items)
    natural-items [] env = refl
    natural-items (i ∷ is) env = natural-item i env [] is (natural-items is env)

    natural-row : (items : List (Item E)) (env : Env) → row_means catalog tables named items env ≡ row_means catalog tables whole (renamed items) env
    natural-row items env = ap (λ (ms : List (Meaning Value)). Gather ms) (natural-items items env)

    natural-select : (distinct as_struct : Bool) (items : List (Item E)) (from : Option F) (filter : Option E) (grouping : Option (Groups E)) (having : Option (FilterPart E)) (place : ℕ) (env : Env) →
        select_means catalog tables named (record { distinct = distinct; as_struct = as_struct; items = items; from = from; filter = filter; grouping = grouping; having = having; place = place }) env
        ≡ select_means catalog tables whole (map-Select E P T F J Q S Expr Primary Term FromItem Joined Query Select v1 v2 v3 v4 v5 v6 v7 (record { distinct = distinct; as_struct = as_struct; items = items; from = from; filter = filter; grouping = grouping; having = having; place = place })) env
    natural-select false false items (Some from) (Some test) None None place env =
        ap (λ (r : Env → Meaning Row). k4 (v4 from) env >>= (λ frames. Gather (map (λ frame. k1 (v1 test) (within env frame)) frames) >>= (λ tests. Gather (map (λ frame. r (within env frame)) (kept frames tests)))))
        (fun_ext (natural-row items))
    natural-select _ _ items _ _ _ _ place env = refl

  -- ---- one equation a sort

  pub meant-expr : (e : Expr) → MeansExpr catalog tables e ≡ expr_means catalog tables (meant catalog tables) (out-Expr e)
  unfolding MeansExpr MeansPrimary MeansTerm MeansFrom MeansJoined MeansQuery MeansSelect
  meant-expr e =
      ap (MeansExpr catalog tables) (sym (roll-out-Expr e))
      ∙ rec-roll-Expr ME MF MQ MF MF MQ MQ (λ E P T F J Q S _ _ _ _ _ _ _ e p t f j q s. expr_means catalog tables (meanings catalog tables e p t f j q s)) (λ E P T F J Q S _ _ _ _ _ _ _ e p t f j q s. primary_means catalog tables (meanings catalog tables e p t f j q s)) (λ E P T F J Q S _ _ _ _ _ _ _ e p t f j q s. term_means catalog tables (meanings catalog tables e p t f j q s)) (λ E P T F J Q S _ _ _ _ _ _ _ e p t f j q s. from_means catalog tables (meanings catalog tables e p t f j q s)) (λ E P T F J Q S _ _ _ _ _ _ _ e p t f j q s. joined_means catalog tables (meanings catalog tables e p t f j q s)) (λ E P T F J Q S _ _ _ _ _ _ _ e p t f j q s. query_means catalog tables (meanings catalog tables e p t f j q s)) (λ E P T F J Q S _ _ _ _ _ _ _ e p t f j q s. select_means catalog tables (meanings catalog tables e p t f j q s))
      (λ E P T F J Q S v1 v2 v3 v4 v5 v6 v7 k1 k2 k3 k4 k5 k6 k7 x. natural-expr v1 v2 v3 v4 v5 v6 v7 k1 k2 k3 k4 k5 k6 k7 x)
      (out-Expr e)

  pub meant-primary : (e : Primary) → MeansPrimary catalog tables e ≡ primary_means catalog tables (meant catalog tables) (out-Primary e)
  unfolding MeansExpr MeansPrimary MeansTerm MeansFrom MeansJoined MeansQuery MeansSelect
  meant-primary e =
      ap (MeansPrimary catalog tables) (sym (roll-out-Primary e))
      ∙ rec-roll-Primary ME MF MQ MF MF MQ MQ (λ E P T F J Q S _ _ _ _ _ _ _ e p t f j q s. expr_means catalog tables (meanings catalog tables e p t f j q s)) (λ E P T F J Q S _ _ _ _ _ _ _ e p t f j q s. primary_means catalog tables (meanings catalog tables e p t f j q s)) (λ E P T F J Q S _ _ _ _ _ _ _ e p t f j q s. term_means catalog tables (meanings catalog tables e p t f j q s)) (λ E P T F J Q S _ _ _ _ _ _ _ e p t f j q s. from_means catalog tables (meanings catalog tables e p t f j q s)) (λ E P T F J Q S _ _ _ _ _ _ _ e p t f j q s. joined_means catalog tables (meanings catalog tables e p t f j q s)) (λ E P T F J Q S _ _ _ _ _ _ _ e p t f j q s. query_means catalog tables (meanings catalog tables e p t f j q s)) (λ E P T F J Q S _ _ _ _ _ _ _ e p t f j q s. select_means catalog tables (meanings catalog tables e p t f j q s))
      (λ E P T F J Q S v1 v2 v3 v4 v5 v6 v7 k1 k2 k3 k4 k5 k6 k7 x. natural-primary v1 v2 v3 v4 v5 v6 v7 k1 k2 k3 k4 k5 k6 k7 x)
      (out-Primary e)

  pub meant-term : (e : Term) → MeansTerm catalog tables e ≡ term_means catalog tables (meant catalog tables) (out-Term e)
  unfolding MeansExpr MeansPrimary MeansTerm MeansFrom MeansJoined MeansQuery MeansSelect
  meant-term e =
      ap (MeansTerm catalog tables) (sym (roll-out-Term e))
      ∙ rec-roll-Term ME MF MQ MF MF MQ MQ (λ E P T F J Q S _ _ _ _ _ _ _ e p t f j q s. expr_means catalog tables (meanings catalog tables e p t f j q s)) (λ E P T F J Q S _ _ _ _ _ _ _ e p t f j q s. primary_means catalog tables (meanings catalog tables e p t f j q s)) (λ E P T F J Q S _ _ _ _ _ _ _ e p t f j q s. term_means catalog tables (meanings catalog tables e p t f j q s)) (λ E P T F J Q S _ _ _ _ _ _ _ e p t f j q s. from_means catalog tables (meanings catalog tables e p t f j q s)) (λ E P T F J Q S _ _ _ _ _ _ _ e p t f j q s. joined_means catalog tables (meanings catalog tables e p t f j q s)) (λ E P T F J Q S _ _ _ _ _ _ _ e p t f j q s. query_means catalog tables (meanings catalog tables e p t f j q s)) (λ E P T F J Q S _ _ _ _ _ _ _ e p t f j q s. select_means catalog tables (meanings catalog tables e p t f j q s))
      (λ E P T F J Q S v1 v2 v3 v4 v5 v6 v7 k1 k2 k3 k4 k5 k6 k7 x. natural-term v1 v2 v3 v4 v5 v6 v7 k1 k2 k3 k4 k5 k6 k7 x)
      (out-Term e)

  pub meant-from : (e : FromItem) → MeansFrom catalog tables e ≡ from_means catalog tables (meant catalog tables) (out-FromItem e)
  unfolding MeansExpr MeansPrimary MeansTerm MeansFrom MeansJoined MeansQuery MeansSelect
  meant-from e =
      ap (MeansFrom catalog tables) (sym (roll-out-FromItem e))
      ∙ rec-roll-FromItem ME MF MQ MF MF MQ MQ (λ E P T F J Q S _ _ _ _ _ _ _ e p t f j q s. expr_means catalog tables (meanings catalog tables e p t f j q s)) (λ E P T F J Q S _ _ _ _ _ _ _ e p t f j q s. primary_means catalog tables (meanings catalog tables e p t f j q s)) (λ E P T F J Q S _ _ _ _ _ _ _ e p t f j q s. term_means catalog tables (meanings catalog tables e p t f j q s)) (λ E P T F J Q S _ _ _ _ _ _ _ e p t f j q s. from_means catalog tables (meanings catalog tables e p t f j q s)) (λ E P T F J Q S _ _ _ _ _ _ _ e p t f j q s. joined_means catalog tables (meanings catalog tables e p t f j q s)) (λ E P T F J Q S _ _ _ _ _ _ _ e p t f j q s. query_means catalog tables (meanings catalog tables e p t f j q s)) (λ E P T F J Q S _ _ _ _ _ _ _ e p t f j q s. select_means catalog tables (meanings catalog tables e p t f j q s))
      (λ E P T F J Q S v1 v2 v3 v4 v5 v6 v7 k1 k2 k3 k4 k5 k6 k7 x. natural-from v1 v2 v3 v4 v5 v6 v7 k1 k2 k3 k4 k5 k6 k7 x.first x.rest x.place)
      (out-FromItem e)

  pub meant-query : (e : Query) → MeansQuery catalog tables e ≡ query_means catalog tables (meant catalog tables) (out-Query e)
  unfolding MeansExpr MeansPrimary MeansTerm MeansFrom MeansJoined MeansQuery MeansSelect
  meant-query e =
      ap (MeansQuery catalog tables) (sym (roll-out-Query e))
      ∙ rec-roll-Query ME MF MQ MF MF MQ MQ (λ E P T F J Q S _ _ _ _ _ _ _ e p t f j q s. expr_means catalog tables (meanings catalog tables e p t f j q s)) (λ E P T F J Q S _ _ _ _ _ _ _ e p t f j q s. primary_means catalog tables (meanings catalog tables e p t f j q s)) (λ E P T F J Q S _ _ _ _ _ _ _ e p t f j q s. term_means catalog tables (meanings catalog tables e p t f j q s)) (λ E P T F J Q S _ _ _ _ _ _ _ e p t f j q s. from_means catalog tables (meanings catalog tables e p t f j q s)) (λ E P T F J Q S _ _ _ _ _ _ _ e p t f j q s. joined_means catalog tables (meanings catalog tables e p t f j q s)) (λ E P T F J Q S _ _ _ _ _ _ _ e p t f j q s. query_means catalog tables (meanings catalog tables e p t f j q s)) (λ E P T F J Q S _ _ _ _ _ _ _ e p t f j q s. select_means catalog tables (meanings catalog tables e p t f j q s))
      (λ E P T F J Q S v1 v2 v3 v4 v5 v6 v7 k1 k2 k3 k4 k5 k6 k7 x. natural-query v1 v2 v3 v4 v5 v6 v7 k1 k2 k3 k4 k5 k6 k7 x.ctes x.body.first x.body.rest x.body.place x.order x.limit x.place)
      (out-Query e)

  pub meant-select : (e : Select) → MeansSelect catalog tables e ≡ select_means catalog tables (meant catalog tables) (out-Select e)
  unfolding MeansExpr MeansPrimary MeansTerm MeansFrom MeansJoined MeansQuery MeansSelect
  meant-select e =
      ap (MeansSelect catalog tables) (sym (roll-out-Select e))
      ∙ rec-roll-Select ME MF MQ MF MF MQ MQ (λ E P T F J Q S _ _ _ _ _ _ _ e p t f j q s. expr_means catalog tables (meanings catalog tables e p t f j q s)) (λ E P T F J Q S _ _ _ _ _ _ _ e p t f j q s. primary_means catalog tables (meanings catalog tables e p t f j q s)) (λ E P T F J Q S _ _ _ _ _ _ _ e p t f j q s. term_means catalog tables (meanings catalog tables e p t f j q s)) (λ E P T F J Q S _ _ _ _ _ _ _ e p t f j q s. from_means catalog tables (meanings catalog tables e p t f j q s)) (λ E P T F J Q S _ _ _ _ _ _ _ e p t f j q s. joined_means catalog tables (meanings catalog tables e p t f j q s)) (λ E P T F J Q S _ _ _ _ _ _ _ e p t f j q s. query_means catalog tables (meanings catalog tables e p t f j q s)) (λ E P T F J Q S _ _ _ _ _ _ _ e p t f j q s. select_means catalog tables (meanings catalog tables e p t f j q s))
      (λ E P T F J Q S v1 v2 v3 v4 v5 v6 v7 k1 k2 k3 k4 k5 k6 k7 x. fun_ext (natural-select v1 v2 v3 v4 v5 v6 v7 k1 k2 k3 k4 k5 k6 k7 x.distinct x.as_struct x.items x.from x.filter x.grouping x.having x.place))
      (out-Select e)
