-- The readers of the clauses of a SELECT, of a SELECT and of a term are exact.
use Rattle.std.proofs.Common.{◌≡◌, ℕ, suc, ◌≤◌, Bool, List, [], ◌∷◌, ◌++◌, length, Option, Some, None, sym, ◌∙◌, ap, subst, arith}
use Rattle.std.proofs.lemmas.List.{append_assoc, append-nil}
use Rattle.fronts.proofs.Firm.{opens}
use Rattle.fronts.proofs.Exact.{Exact, bind, either, last, done, less, opens_bind}
use Rattle.sql_types.specs.declared.kinds.SetKind.TheVariants as set
use Rattle.sql_ast.specs.declared.clauses.FilterPart.{FilterPart}
use Rattle.sql_ast.specs.declared.clauses.Item.{Item}
use Rattle.sql_ast.specs.declared.expr.Expr.{Expr}
use Rattle.sql_ast.specs.declared.grouping.Groups.{Groups}
use Rattle.sql_ast.specs.declared.query.FromItem.{FromItem}
use Rattle.sql_ast.specs.declared.query.Select.{Select}
use Rattle.sql_ast.specs.declared.query.Body.{Body}
use Rattle.sql_ast.specs.declared.query.Term.{Term}
use Rattle.sql_ast.specs.declared.query.Term.TheVariants as term_kind
use Rattle.sql_ast.specs.declared.token.Token.{Token}
use Rattle.sql_names.specs.declared.words.Reserved.TheVariants as r
use Rattle.sql_ast.specs.declared.words.Sign.TheVariants as s
use Rattle.sql_ast.specs.Marks.{Tokens, Is, reserved}
use Rattle.sql_ast.specs.Grammar.{BodyOf, body_is, set_terms_none, ExprOf, FromPartOf, GroupByOf, HavingOf, SelectOf, TermOf, WhereOf, from_none, group_none, having_is, having_none, select_is, term_query, term_select, where_is, where_none}
use Rattle.sql_ast.specs.Parts.{AsStructOf, SelectDistinctOf}
use Rattle.sql_grammar.specs.Ways.{Ended}
use Rattle.sql_grammar.specs.Exprs.{Below}
use Rattle.sql_grammar.specs.Queries.{where_part, having_part, clauses, select_of, select_end, select_or_except, term_or_except, ItemsEnd, at_comma, at_except}
use Rattle.sql_grammar.proofs.Marks.{the_reserved, the_sign, is_example, tok, also, opt, AfterOf, after_of}
use Rattle.sql_grammar.proofs.Solid.{some_query}
use Rattle.sql_grammar.proofs.Calls.{Under}
use Rattle.sql_grammar.proofs.Basics.{after_word, after_word_opens}
use Rattle.sql_grammar.proofs.Froms.{select_distinct_exact, as_struct_exact, from_part_exact}
use Rattle.sql_grammar.proofs.Groupings.{group_by_exact}
use Rattle.sql_grammar.proofs.Selects.{Longer, Excepted, plainly, excepted, ListedItems, listed_items, AllItems, all_plain, all_comma, all_except, items_exact}

where_from : (a : Expr) (u : Tokens) → AfterOf (reserved r.Where) ExprOf a u → WhereOf (Some a) u
where_from _ _ (after_of i l) = where_is i l

module _ (n m : ℕ) (up : n ≤ m) (b b' : Below) (x : Under n b b') where
  where_exact : Exact (suc n) WhereOf (where_part n b) (where_part m b')
  unfolding where_part
  where_exact = either (reserved r.Where) (λ y h. opens (opens_bind (after_word_opens n m up b b' x r.Where y h) (after_word n m up b b' x r.Where) (λ a u l. done {n = 0} tt))) (last Some (after_word n m up b b' x r.Where) where_from) (done where_none)

  having_exact : Exact (suc n) HavingOf (having_part n b) (having_part m b')
  unfolding having_part
  having_exact = opt (the_reserved r.Having) (λ y iy. last (λ a. Some (record { test = a; place = y.start })) x.inner (λ a u l. having_is iy l)) (done having_none)

-- ---- SELECT and the items behind it

behind : (p q u v : Tokens) → (p ++ (q ++ u)) ++ v ≡ p ++ (q ++ (u ++ v))
behind p q u v = append_assoc p (q ++ u) v ∙ ap (λ (w : Tokens). p ++ w) (append_assoc q u v)

-- what stands before the clauses: the word, [ALL | DISTINCT], [AS STRUCT] and the items
module _ (t : Token) (it : Is (reserved r.Select) t) (d : Bool) (p : Tokens) (ld : SelectDistinctOf d p) (c : Bool) (q : Tokens) (lc : AsStructOf c q) where
  select_from : (is : List (Item Expr)) (u : Tokens) → ListedItems is u → (f : Option FromItem) (z : Tokens) → FromPartOf f z → (w : Option Expr) (k : Tokens) → WhereOf w k
      → (g : Option (Groups Expr)) (j : Tokens) → GroupByOf g j → (h : Option (FilterPart Expr)) (y : Tokens) → HavingOf h y → SelectOf (select_of t d c is f w g h) (t ∷ (p ++ (q ++ (u ++ (z ++ (k ++ (j ++ y)))))))
  select_from _ _ (listed_items {i = i} {ms = is} {u = u} {v = v} l m) f z lf w k lw g j lg h y lh =
      subst (λ (x : Tokens). SelectOf (select_of t d c (i ∷ is) f w g h) (t ∷ (p ++ (q ++ x)))) (sym (append_assoc u v (z ++ (k ++ (j ++ y))))) (select_is it ld lc l m lf lw lg lh)

  -- with no clause
  select_bare : (is : List (Item Expr)) (u : Tokens) → ListedItems is u → SelectOf (select_of t d c is None None None None) (t ∷ (p ++ (q ++ u)))
  select_bare is u l = subst (λ (x : Tokens). SelectOf (select_of t d c is None None None None) (t ∷ (p ++ (q ++ x)))) (append-nil u) (select_from is u l None [] from_none None [] where_none None [] group_none None [] having_none)

  select_longer : (u : Tokens) (k : Token) → Longer ListedItems u k → Longer SelectOf (t ∷ (p ++ (q ++ u))) k
  select_longer u k g =
      (select_of t d c g.0 None None None None, g.1, subst (λ (x : Tokens). SelectOf (select_of t d c g.0 None None None None) (t ∷ x)) (sym (behind p q u (k ∷ g.1))) (select_bare g.0 (u ++ (k ∷ g.1)) g.2))

  plain_listed : (is : List (Item Expr)) (u : Tokens) → AllItems (is, None) u → ListedItems is u
  plain_listed _ _ (all_plain l) = l

  comma_listed : (is : List (Item Expr)) (u : Tokens) → AllItems (is, Some at_comma) u → ListedItems is u
  comma_listed _ _ (all_comma l) = l

  except_listed : (is : List (Item Expr)) (k : Token) (u : Tokens) → AllItems (is, Some (at_except k)) u → Excepted SelectOf (select_of t d c is None None None None, Some k) (t ∷ (p ++ (q ++ u)))
  except_listed _ _ _ (all_except {ms = is} {x = k} {u = u} l ik g) =
      subst (λ (x : Tokens). Excepted SelectOf (select_of t d c is None None None None, Some k) (t ∷ x)) (behind p q u (k ∷ [])) (excepted (select_bare is u l) ik (select_longer u k g))

  module _ (n m : ℕ) (up : n ≤ m) (b b' : Below) (x : Under n b b') where
    clauses_exact : (is : List (Item Expr)) (u : Tokens) → ListedItems is u → Exact n (λ y v. Excepted SelectOf y (t ∷ (p ++ (q ++ (u ++ v))))) (clauses n b t d c is) (clauses m b' t d c is)
    unfolding clauses
    clauses_exact is u l = bind (less (from_part_exact n m up b b' x)) (λ f z lf. bind (less (where_exact n m up b b' x)) (λ w k lw. bind (less (group_by_exact n m up b b' x)) (λ g j lg. last (λ h. (select_of t d c is f w g h, None)) (less (having_exact n m up b b' x))
        (λ h y lh. plainly (select_from is u l f z lf w k lw g j lg h y lh)))))

    end_exact : (y : Ended (Item Expr) ItemsEnd) (u : Tokens) → AllItems y u → Exact n (λ a v. Excepted SelectOf a (t ∷ (p ++ (q ++ (u ++ v))))) (select_end n b t d c y.0 y.1) (select_end m b' t d c y.0 y.1)
    end_exact (is, None) u l = clauses_exact is u (plain_listed is u l)
    end_exact (is, Some at_comma) u l = clauses_exact is u (comma_listed is u l)
    end_exact (is, Some (at_except k)) u l = done (subst (λ (w : Tokens). Excepted SelectOf (select_of t d c is None None None None, Some k) (t ∷ (p ++ (q ++ w)))) (sym (append-nil u)) (except_listed is k u l))

-- ---- terms

solid_select : (a : Select) (u : Tokens) → SelectOf a u → 1 ≤ length u
solid_select _ _ (select_is i d c l m f w g h) = omega arith

pub solid_term : (a : Term) (u : Tokens) → TermOf a u → 1 ≤ length u
solid_term _ _ (term_select {u = u} l) = solid_select _ u l
solid_term _ _ (term_query i l j) = omega arith

pub some_term : (a : Term) × (u : Tokens) × TermOf a u
some_term = (_, _, term_query (is_example (the_sign s.OpenRound)) (some_query.2) (is_example (the_sign s.CloseRound)))

pub some_body : (a : Body Term) × (u : Tokens) × BodyOf a u
some_body = (_, _, body_is (some_term.2) (set_terms_none {k = set.UnionAll}))

term_from : (y : Select × Option Token) (u : Tokens) → Excepted SelectOf y u → Excepted TermOf (term_kind.Select y.0, y.1) u
term_from _ _ (plainly l) = plainly (term_select l)
term_from _ _ (excepted l i g) = excepted (term_select l) i (term_kind.Select g.0, g.1, term_select g.2)

module _ (n m : ℕ) (up : n ≤ m) (b b' : Below) (x : Under n b b') where
  pub select_exact : Exact (suc n) (Excepted SelectOf) (select_or_except n b) (select_or_except m b')
  unfolding select_or_except
  select_exact = tok (the_reserved r.Select) (λ t it. bind (less (select_distinct_exact n)) (λ d p ld. bind (less (as_struct_exact n)) (λ c q lc. bind (items_exact n m up b b' x) (λ y u l. end_exact t it d p ld c q lc n m up b b' x y u l))))

  pub term_exact : Exact (suc n) (Excepted TermOf) (term_or_except n b) (term_or_except m b')
  unfolding term_or_except
  term_exact = opt (the_sign s.OpenRound) (λ o io. bind x.query (λ q u l. also (the_sign s.CloseRound) (λ c ic. done (plainly (term_query io l ic))))) (last (λ (y : Select × Option Token). (term_kind.Select y.0, y.1)) select_exact term_from)
