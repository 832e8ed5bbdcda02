-- The readers of queries are exact, also where the front of a query was read before.
use Rattle.std.proofs.Common.{◌≡◌, ℕ, suc, ◌≤◌, true, List, [], ◌∷◌, ◌++◌, length, Option, None, refl, sym, ◌∙◌, subst, arith}
use Rattle.std.proofs.lemmas.List.{append_assoc, length-append}
use Rattle.fronts.specs.Fronts.{Language}
use Rattle.fronts.specs.Readers.{◌>>=◌}
use Rattle.fronts.proofs.Agrees.{Found}
use Rattle.fronts.proofs.Firm.{Opens}
use Rattle.fronts.proofs.Exact.{Exact, bind, last, into, done, less, exact_many}
use Rattle.sql_ast.specs.declared.clauses.LimitPart.{LimitPart}
use Rattle.sql_ast.specs.declared.clauses.Sort.{Sort}
use Rattle.sql_ast.specs.declared.expr.Expr.{Expr}
use Rattle.sql_ast.specs.declared.query.Body.{Body}
use Rattle.sql_ast.specs.declared.query.Cte.{Cte}
use Rattle.sql_ast.specs.declared.query.Query.{Query, roll-Query}
use Rattle.sql_ast.specs.declared.query.SetTerm.{SetTerm}
use Rattle.sql_ast.specs.declared.query.Term.{Term}
use Rattle.sql_ast.specs.declared.token.Token.{Token}
use Rattle.sql_names.specs.declared.words.Reserved.TheVariants as r
use Rattle.sql_ast.specs.declared.words.Sign.TheVariants as s
use Rattle.sql_ast.specs.Marks.{Tokens, Is, reserved, sign, start_of}
use Rattle.sql_ast.specs.Grammar.{BodyOf, CteCommasOf, CteOf, CtesOf, OrderOf, QueryOf, TermOf, body_is, cte_commas_more, cte_commas_none, cte_is, ctes_are, ctes_none, order_none, query_is}
use Rattle.sql_ast.specs.Parts.{LimitOf, limit_none}
use Rattle.sql_grammar.specs.Exprs.{Below, term_read}
use Rattle.sql_grammar.specs.Queries.{term_or_except, query_end, cte, comma_cte, query_body, query_with, query_whole, query_more}
use Rattle.sql_grammar.proofs.Ways.{Begun, start_front, exact_starting}
use Rattle.sql_grammar.proofs.Marks.{the_reserved, the_sign, some_name, tok, also, opt, AfterOf, after_of, after_solid, after_exact, after_opens}
use Rattle.sql_grammar.proofs.Solid.{solid_front, some_query}
use Rattle.sql_grammar.proofs.Calls.{Under, order_exact}
use Rattle.sql_grammar.proofs.Froms.{limit_exact}
use Rattle.sql_grammar.proofs.Selects.{Excepted, plainly, excepted_solid}
use Rattle.sql_grammar.proofs.Clauses.{solid_term, some_body, term_exact}
use Rattle.sql_grammar.proofs.SetTerms.{sets_exact}

solid_body : (a : Body Term) (u : Tokens) → BodyOf a u → 1 ≤ length u
solid_body _ _ (body_is {u = u} {v = v} l z) = solid_front u v (solid_term _ u l)

-- what stands behind other tokens begins where they do, or itself where there are none
solid_behind : (p u : Tokens) → 1 ≤ length u → 1 ≤ length (p ++ u)
solid_behind p u h = let e = length-append p u in omega arith

start_behind : (p u v : Tokens) → 1 ≤ length u → start_of (p ++ (u ++ v)) ≡ start_of (p ++ u)
start_behind [] u v h = start_front u v h
start_behind (t ∷ p) u v h = refl

solid_query : (q : Query) (u : Tokens) → QueryOf q u → 1 ≤ length u
solid_query _ _ (query_is {u = u} {v = v} {x = x} {y = y} c l s k) = solid_behind u (v ++ (x ++ y)) (solid_front v (x ++ y) (solid_body _ v l))

no_query : (q : Query) → QueryOf q [] → ⊥
no_query q l = let h = solid_query q [] l in omega arith

ctes_at : (a : Cte Query) (u : Tokens) (ls : List (Cte Query)) (v : Tokens) → AfterOf (sign s.Comma) CteOf a u → CteCommasOf ls v → CteCommasOf (a ∷ ls) (u ++ v)
ctes_at _ _ ls v (after_of i l) z = cte_commas_more i l z

ctes_found : (t : Token) → Is (reserved r.With) t → (a : Cte Query) (u : Tokens) → CteOf a u → (xs : List (Cte Query)) (v : Tokens) → Found CteCommasOf (a ∷ []) xs v → CtesOf xs (t ∷ (u ++ v))
ctes_found t it a u l xs v (ls, z, f) = subst (λ (q : List (Cte Query)). CtesOf q (t ∷ (u ++ v))) (sym f) (ctes_are it l z)

-- ---- behind the tokens p of CTEs

-- what follows the tokens u of a first term, where the query and the term begin at these places
abbrev EndOf : Tokens → Tokens → ℕ → ℕ → Language Token Query
EndOf p u place from q v = place ≡ start_of (p ++ u) → from ≡ start_of u → QueryOf q (p ++ (u ++ v))

-- a body and what follows it, where the query begins at this place
abbrev RestOf : Tokens → ℕ → Language Token Query
RestOf p place q v = (1 ≤ length v) × (place ≡ start_of (p ++ v) → QueryOf q (p ++ v))

module _ (cs : List (Cte Query)) (p : Tokens) (lc : CtesOf cs p) where
  end_from : (a : Term) (u : Tokens) → 1 ≤ length u → (ls : List (SetTerm Term)) (v : Tokens) → BodyOf (record { first = a; rest = ls; place = start_of u }) (u ++ v) → (ss : List (Sort Expr)) (w : Tokens) → OrderOf ss w
      → (k : Option (LimitPart Expr)) (y : Tokens) → LimitOf k y → (place from : ℕ) → EndOf p u place from (roll-Query (record { ctes = cs; body = record { first = a; rest = ls; place = from }; order = ss; limit = k; place = place })) (v ++ (w ++ y))
  end_from a u solid ls v l ss w lo k y lk place from h g =
      subst (λ (j : ℕ). QueryOf (roll-Query (record { ctes = cs; body = record { first = a; rest = ls; place = from }; order = ss; limit = k; place = j })) (p ++ (u ++ (v ++ (w ++ y))))) (start_behind p u v solid ∙ sym h)
      (subst (λ (j : ℕ). QueryOf (roll-Query (record { ctes = cs; body = record { first = a; rest = ls; place = j }; order = ss; limit = k; place = start_of (p ++ (u ++ v)) })) (p ++ (u ++ (v ++ (w ++ y))))) (sym g)
      (subst (λ (z : Tokens). QueryOf (roll-Query (record { ctes = cs; body = record { first = a; rest = ls; place = start_of u }; order = ss; limit = k; place = start_of (p ++ (u ++ v)) })) (p ++ z)) (append_assoc u v (w ++ y)) (query_is lc l lo lk)))

  some_rest : (place : ℕ) → (q : Query) × (v : Tokens) × RestOf p place q v
  some_rest place = (_, some_body.1 ++ [], (solid_front (some_body.1) [] (solid_body _ _ some_body.2), λ h. query_is lc some_body.2 order_none limit_none))

  module _ (n m : ℕ) (up : n ≤ m) (b b' : Below) (x : Under n b b') where
    end_exact : (y : Term × Option Token) (u : Tokens) → Excepted TermOf y u → (place from : ℕ) → Exact (suc n) (EndOf p u place from) (query_end n b place cs from y.0 y.1) (query_end m b' place cs from y.0 y.1)
    unfolding query_end
    end_exact y u l place from = bind (sets_exact n m up b b' x y u l) (λ ls v z. bind (order_exact n m up b b' x) (λ ss w lo. last (λ k. roll-Query (record { ctes = cs; body = record { first = y.0; rest = ls; place = from }; order = ss; limit = k; place = place })) (limit_exact n)
        (λ k j lk. end_from y.0 u (excepted_solid TermOf solid_term y u l) ls v z ss w lo k j lk place from)))

    body_at : (place k : ℕ) → Exact (suc n) (Begun (RestOf p place) k) (term_or_except n b >>= (λ y. query_end n b place cs k y.0 y.1)) (term_or_except m b' >>= (λ y. query_end m b' place cs k y.0 y.1))
    body_at place k = bind (term_exact n m up b b' x) (λ y u l. let solid = excepted_solid TermOf solid_term y u l in into (end_exact y u l place k) (λ q v z. record {
      solid = solid_front u v solid;
      spells = λ h. (solid_front u v solid, λ g. z (g ∙ start_behind p u v solid) (h ∙ start_front u v solid));
    }))

    body_exact : (place : ℕ) → Exact (suc n) (RestOf p place) (query_body n b place cs) (query_body m b' place cs)
    unfolding query_body
    body_exact place = exact_starting (RestOf p place) (some_rest place) (λ q h. let e = h.0 in omega arith) _ _ (suc n) (body_at place)

-- ---- queries

module _ (n m : ℕ) (up : n ≤ m) (b b' : Below) (x : Under n b b') where
  cte_exact : Exact (suc n) CteOf (cte n b) (cte m b')
  unfolding cte
  cte_exact = tok some_name (λ z iz. also (the_reserved r.As) (λ t it. also (the_sign s.OpenRound) (λ o io. bind x.query (λ q u l. also (the_sign s.CloseRound) (λ c ic. done (cte_is iz it io l ic))))))

  comma_cte_exact : Exact (suc (suc n)) (AfterOf (sign s.Comma) CteOf) (comma_cte n b) (comma_cte m b')
  unfolding comma_cte
  comma_cte_exact = after_exact (the_sign s.Comma) cte_exact

  comma_cte_opens : (t : Token) → sign s.Comma t ≡ true → Opens t (comma_cte m b')
  unfolding comma_cte
  comma_cte_opens t h = after_opens (the_sign s.Comma) cte_exact t h

  with_from : (t : Token) (u v : Tokens) (q : Query) (w : Tokens) → RestOf (t ∷ (u ++ v)) t.start q w → QueryOf q (t ∷ (u ++ (v ++ w)))
  with_from t u v q w z = subst (λ (y : Tokens). QueryOf q (t ∷ y)) (append_assoc u v w) (z.1 refl)

  -- behind the word WITH
  pub with_exact : (t : Token) → Is (reserved r.With) t → Exact (suc n) (λ q v. QueryOf q (t ∷ v)) (query_with n b t) (query_with m b' t)
  unfolding query_with
  with_exact t it = bind cte_exact (λ c u lc. bind (exact_many (AfterOf (sign s.Comma) CteOf) CteCommasOf (sign s.Comma) (comma_cte n b) (comma_cte m b') cte_commas_none ctes_at (after_solid (sign s.Comma) CteOf) comma_cte_opens n m (suc n) up (omega arith) (less comma_cte_exact) (c ∷ []))
      (λ cs v f. into (body_exact cs (t ∷ (u ++ v)) (ctes_found t it c u lc cs v f) n m up b b' x t.start) (with_from t u v)))

  -- behind its first term
  pub more_exact : (a : Term) (k : ℕ) (u : Tokens) → TermOf a u → k ≡ start_of u → Exact (suc n) (λ q v. QueryOf q (u ++ v)) (query_more n b (term_read a k)) (query_more m b' (term_read a k))
  more_exact a k u l h = into (end_exact [] [] ctes_none n m up b b' x (a, None) u (plainly l) k k) (λ q v z. z h h)

  pub query_exact : Exact (suc n) QueryOf (query_whole n b) (query_whole m b')
  unfolding query_whole
  query_exact = opt (the_reserved r.With) (λ t it. less (with_exact t it))
      (exact_starting QueryOf some_query no_query _ _ (suc n) (λ k. into (body_exact [] [] ctes_none n m up b b' x k) (λ q v z. record { solid = z.0; spells = z.1 })))
