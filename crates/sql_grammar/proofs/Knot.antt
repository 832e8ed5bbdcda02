-- The readers of all depths are exact: from those of one depth, the readers that they are below of. First a depth beside
-- itself, then one beside a greater one; with no depth left nothing is read, beside whatever is.
use Rattle.std.proofs.Common.{ℕ, zero, suc, ◌≤◌, [], ◌∷◌, ◌++◌, sym, ◌∙◌, subst, arith}
use Rattle.std.proofs.lemmas.List.{append_assoc, append-nil}
use Rattle.fronts.specs.Fronts.{Language}
use Rattle.fronts.specs.Readers.{exhausted}
use Rattle.fronts.proofs.Firm.{opens_exhausted}
use Rattle.fronts.proofs.Exact.{Exact, bind, into, done, less, exact_none, exact_exhausted}
use Rattle.sql_types.specs.declared.kinds.SetKind.TheVariants as set
use Rattle.sql_ast.specs.declared.expr.Expr.{Expr}
use Rattle.sql_ast.specs.declared.query.Query.{Query}
use Rattle.sql_ast.specs.declared.query.Term.{Term}
use Rattle.sql_ast.specs.declared.token.Token.{Token}
use Rattle.sql_names.specs.declared.words.Reserved.TheVariants as r
use Rattle.sql_ast.specs.declared.words.Sign.TheVariants as s
use Rattle.sql_ast.specs.Marks.{Tokens, Is, reserved}
use Rattle.sql_ast.specs.Grammar.{BandOf, BasicOf, BorOf, BxorOf, ConjOf, ExprOf, PostfixOf, ProdOf, QueryOf, ShiftOf, SumOf, TermOf, TextOf, ands_none, band_is, bands_none, body_is, bor_is, bors_none, bxor_is, bxors_none, comp_bor, conj_is, cte_commas_none, cte_is, ctes_are, ctes_none, expr_is, neg_is, order_none, ors_none, parts_none, postfix_is, prod_is, prods_none, query_is, set_terms_none, shift_is, shifts_none, sum_is, sums_none, text_is, text_semicolon, unary_is}
use Rattle.sql_ast.specs.Parts.{TypeOf, limit_none, nots_none, prefixes_none, type_levels}
use Rattle.sql_grammar.specs.Exprs.{Below, disjunction, expr_after}
use Rattle.sql_grammar.specs.Queries.{query_whole, query_more}
use Rattle.sql_grammar.specs.Knot.{below, expr_at, query_at, text_at, written_type_at}
use Rattle.sql_grammar.proofs.Ways.{start_front}
use Rattle.sql_grammar.proofs.Marks.{the_reserved, the_sign, some_name, is_example, opt_also}
use Rattle.sql_grammar.proofs.Words.{whole_type_exact}
use Rattle.sql_grammar.proofs.Solid.{solid_basic, some_expr, some_query}
use Rattle.sql_grammar.proofs.Levels.{begun_as}
use Rattle.sql_grammar.proofs.Calls.{Under}
use Rattle.sql_grammar.proofs.Comparisons.{disjunction_exact, expr_after_exact}
use Rattle.sql_grammar.proofs.Prefixed.{disjunction_opens}
use Rattle.sql_grammar.proofs.Clauses.{some_body}
use Rattle.sql_grammar.proofs.Queries.{with_exact, more_exact, query_exact as whole_exact}

-- ---- words, for the readers that read nothing

bare : {A : Type 0} (L : Language Token A) (u : Tokens) {a : A} → L a (u ++ []) → L a u
bare L u {a = a} l = subst (L a) (append-nil u) l

-- a basic expression is an expression
basic_expr : (a : Expr) (u : Tokens) → BasicOf a u → (c : Expr) × ExprOf c u
basic_expr a u l =
    let p = unary_is prefixes_none (bare PostfixOf u (postfix_is l parts_none)) in
    let h = bare ShiftOf u (shift_is (bare SumOf u (sum_is (bare ProdOf u (prod_is p prods_none)) sums_none)) shifts_none) in
    let o = bare BorOf u (bor_is (bare BxorOf u (bxor_is (bare BandOf u (band_is h bands_none)) bxors_none)) bors_none) in
    (_, bare ExprOf u (expr_is (bare ConjOf u (conj_is (neg_is nots_none (comp_bor o)) ands_none)) ors_none))

-- a term is a query
term_word : (a : Term) (u : Tokens) → TermOf a u → (q : Query) × QueryOf q (u ++ [])
term_word a u l = (_, subst (QueryOf _) (append_assoc u [] []) (query_is ctes_none (body_is l (set_terms_none {k = set.UnionAll})) order_none limit_none))

with_word : (t : Token) → Is (reserved r.With) t → (q : Query) × (v : Tokens) × QueryOf q (t ∷ v)
with_word t it = (_, _, query_is (ctes_are it (cte_is (is_example some_name) (is_example (the_reserved r.As)) (is_example (the_sign s.OpenRound)) some_query.2 (is_example (the_sign s.CloseRound))) cte_commas_none) some_body.2 order_none limit_none)

-- ---- one depth more

no_depth : Below
no_depth = record { inner = exhausted; query = exhausted; more = λ o. exhausted; rest = λ p a. exhausted }

over : ℕ → Below → Below
over n b = record { inner = disjunction n b; query = query_whole n b; more = query_more n b; rest = expr_after n b }

under_over : (n m : ℕ) → n ≤ m → (b b' : Below) → Under n b b' → Under (suc n) (over n b) (over m b')
unfolding over
under_over n m up b b' x = record {
  inner = disjunction_exact n m up b b' x;
  query = whole_exact n m up b b' x;
  with_more = λ t it. with_exact n m up b b' x t it;
  term_more = λ a p u l h. more_exact n m up b b' x a p u l h;
  rest = λ p a u l h. into (expr_after_exact n m up b b' x p a u (begun_as BasicOf solid_basic p a u l)) (λ c v g. g.spells (h ∙ sym (start_front u v (solid_basic a u l))));
  prefixed = λ t h. disjunction_opens n m up b b' x t h;
}

under_none : Under 0 no_depth no_depth
unfolding no_depth
under_none = record {
  inner = exact_none ExprOf _ _ some_expr.2;
  query = exact_none QueryOf _ _ some_query.2;
  with_more = λ t it. let g = with_word t it in exact_none _ g.0 g.1 g.2;
  term_more = λ a p u l h. let g = term_word a u l in exact_none _ g.0 [] g.1;
  rest = λ p a u l h. let g = basic_expr a u l in exact_none _ g.0 [] (subst (ExprOf g.0) (sym (append-nil u)) g.1);
  prefixed = λ t h. opens_exhausted t;
}

-- nothing is read, beside readers that are exact
none_under : (n : ℕ) (b b' : Below) → Under n b b' → Under 0 no_depth b'
unfolding no_depth
none_under n b b' x = record {
  inner = exact_exhausted _ _ _ n x.inner;
  query = exact_exhausted _ _ _ n x.query;
  with_more = λ t it. exact_exhausted _ _ _ n (x.with_more t it);
  term_more = λ a p u l h. exact_exhausted _ _ _ n (x.term_more a p u l h);
  rest = λ p a u l h. exact_exhausted _ _ _ n (x.rest p a u l h);
  prefixed = x.prefixed;
}

-- ---- all depths

under_same : (n : ℕ) → Under n (below n) (below n)
unfolding below no_depth over
under_same zero = under_none
under_same (suc n) = under_over n n (omega arith) (below n) (below n) (under_same n)

pub under : (n m : ℕ) → n ≤ m → Under n (below n) (below m)
unfolding below no_depth over
under zero m up = none_under m (below m) (below m) (under_same m)
under (suc n) zero up = absurd (omega arith)
under (suc n) (suc m) up = under_over n m (omega arith) (below n) (below m) (under n m (omega arith))

-- the readers of expressions, queries, texts and written types, each beside itself with as much depth or more
pub expr_exact : (n m : ℕ) → n ≤ m → Exact n ExprOf (expr_at n) (expr_at m)
expr_exact n m up = (under n m up).inner

pub query_exact : (n m : ℕ) → n ≤ m → Exact n QueryOf (query_at n) (query_at m)
query_exact n m up = (under n m up).query

pub text_exact : (n m : ℕ) → n ≤ m → Exact n TextOf (text_at n) (text_at m)
unfolding text_at
text_exact n m up = bind (query_exact n m up) (λ q u l. opt_also (the_sign s.Semicolon) (λ t it. done (text_semicolon l it)) (done (subst (TextOf q) (sym (append-nil u)) (text_is l))))

pub type_exact : (n m : ℕ) → n ≤ m → Exact n (TypeOf type_levels) (written_type_at n) (written_type_at m)
type_exact n m up = less (whole_type_exact n m up)
