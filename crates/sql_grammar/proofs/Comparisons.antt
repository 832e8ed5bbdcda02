-- The readers of comparisons and of whole expressions are exact.
use Rattle.std.proofs.Common.{◌≡◌, ℕ, suc, ◌≤◌, Bool, true, false, List, [], ◌∷◌, ◌++◌, Some, None, refl, sym, subst}
use Rattle.std.proofs.lemmas.List.{append_assoc, append-nil}
use Rattle.fronts.specs.Readers.{◌>>=◌, ◌>>◌, pure, peek, token, if_comes}
use Rattle.fronts.proofs.Firm.{Opens, Goes, hungry, opens, alike}
use Rattle.fronts.proofs.Exact.{Exact, bind, either, last, into, done, less, exact_all, exact_peek, exact_refuse, hungry_solid, hungry_bind, hungry_tok, hungry_refuse, opens_bind}
use Rattle.sql_ast.specs.declared.expr.Expr.{Expr}
use Rattle.sql_ast.specs.declared.token.Lexeme.{Lexeme}
use Rattle.sql_ast.specs.declared.token.Token.{Token}
use Rattle.sql_ast.specs.declared.expr.Comparison.TheVariants as compare
use Rattle.sql_ast.specs.declared.expr.Expr.TheVariants as e
use Rattle.sql_ast.specs.declared.expr.IsTest.TheVariants as is_test_kind
use Rattle.sql_ast.specs.declared.expr.Operator.TheVariants as op
use Rattle.sql_ast.specs.declared.expr.Quantifier.TheVariants as quantifier_kind
use Rattle.sql_ast.specs.declared.token.Lexeme.TheVariants as l
use Rattle.sql_names.specs.declared.words.Reserved.TheVariants as r
use Rattle.sql_ast.specs.declared.words.Sign.TheVariants as s
use Rattle.sql_ast.specs.Marks.{Tokens, Is, Says, reserved, sign, start_of, same_reserved, same_sign, reserved_lexeme, sign_lexeme}
use Rattle.sql_ast.specs.Trees.{comparison_lexeme, comparison_of, quantifier_of, test_of, nots, prefixes}
use Rattle.sql_ast.specs.Grammar.{AndsOf, BandOf, BasicOf, BorOf, BxorOf, CompOf, ConjOf, ExprOf, ListOf, NegOf, OrsOf, PostfixOf, ProdOf, ShiftOf, SumOf, UnaryOf, ands_more, ands_none, comp_between, comp_bor, comp_compare, comp_distinct, comp_in_list, comp_in_query, comp_in_unnest, comp_is, comp_like, comp_like_list, comp_like_unnest, conj_is, expr_is, neg_is, ors_more, ors_none, unary_is}
use Rattle.sql_ast.specs.Parts.{IsNotOf, NegatableOf, NotsOf, is_negated, is_not, is_plain, not_negated, nots_none, prefixes_none}
use Rattle.sql_grammar.specs.Classes.{class_of, comparison_class, ComparisonStart, by_sign, by_like, by_between, by_in, by_is, by_not, no_comparison}
use Rattle.sql_grammar.specs.Exprs.{tells, told, not_place, postfix_from, product_from, sum_from, shift_from, band_from, bxor_from, bor_from, bor_pending, bor, sign_after, unnested, quantified, like_bor, like_after, between_after, in_held, in_after, is_test, is_after, negated_by, not_after, compared_by, compared, comparison, negation, conjunction_from, conjunction, disjunction_from, disjunction, expr_from, expr_after, Held, Below}
use Rattle.sql_grammar.proofs.Ways.{Begun, start_front}
use Rattle.sql_grammar.proofs.Marks.{the_reserved, the_sign, is_example, a_comparison, a_quantifier, a_test, tok, also, opt_also, tok_opens, says, AfterOf, after_of, after_exact, after_opens}
use Rattle.sql_grammar.proofs.Solid.{solid_front, solid_bor, solid_comp, solid_neg, solid_conj, solid_expr, some_bor, some_comp, some_conj, some_expr}
use Rattle.sql_grammar.proofs.Levels.{From, from_then, begun_on, level, no_word, chain_exact, PendingOf, pending_solid, pending_is}
use Rattle.sql_grammar.proofs.Calls.{Under, Bracketed, bracketed_exact, list_exact, bracketed_is}
use Rattle.sql_grammar.proofs.Basics.{HeldOf, holds_query, holds_exprs}
use Rattle.sql_grammar.proofs.Exprs.{postfix_from_exact, enclosed_exact}
use Rattle.sql_grammar.proofs.Chains.{NotIs, not_solid, nots_at, not_exact, not_opens, bor_settled, product_from_exact, sum_from_exact, shift_from_exact, band_from_exact, bxor_from_exact, bor_from_exact, bor_pending_exact, bor_exact}

-- ---- which token begins a comparison

class_like : (z : Lexeme) → comparison_class z ≡ by_like → reserved_lexeme r.Like z ≡ true
unfolding same_reserved
class_like (l.Reserved r.Like) h = refl
class_like (l.Reserved r.Between) h = absurd cc
class_like (l.Reserved r.In) h = absurd cc
class_like (l.Reserved r.Is) h = absurd cc
class_like (l.Reserved r.Not) h = absurd cc
class_like (l.Reserved _) h = absurd cc
class_like (l.Sign s.Equal) h = absurd cc
class_like (l.Sign s.BangEqual) h = absurd cc
class_like (l.Sign s.LessGreater) h = absurd cc
class_like (l.Sign s.Less) h = absurd cc
class_like (l.Sign s.LessEqual) h = absurd cc
class_like (l.Sign s.Greater) h = absurd cc
class_like (l.Sign s.GreaterEqual) h = absurd cc
class_like (l.Sign _) h = absurd cc
class_like _ h = absurd cc

class_between : (z : Lexeme) → comparison_class z ≡ by_between → reserved_lexeme r.Between z ≡ true
unfolding same_reserved
class_between (l.Reserved r.Between) h = refl
class_between (l.Reserved r.Like) h = absurd cc
class_between (l.Reserved r.In) h = absurd cc
class_between (l.Reserved r.Is) h = absurd cc
class_between (l.Reserved r.Not) h = absurd cc
class_between (l.Reserved _) h = absurd cc
class_between (l.Sign s.Equal) h = absurd cc
class_between (l.Sign s.BangEqual) h = absurd cc
class_between (l.Sign s.LessGreater) h = absurd cc
class_between (l.Sign s.Less) h = absurd cc
class_between (l.Sign s.LessEqual) h = absurd cc
class_between (l.Sign s.Greater) h = absurd cc
class_between (l.Sign s.GreaterEqual) h = absurd cc
class_between (l.Sign _) h = absurd cc
class_between _ h = absurd cc

class_in : (z : Lexeme) → comparison_class z ≡ by_in → reserved_lexeme r.In z ≡ true
unfolding same_reserved
class_in (l.Reserved r.In) h = refl
class_in (l.Reserved r.Like) h = absurd cc
class_in (l.Reserved r.Between) h = absurd cc
class_in (l.Reserved r.Is) h = absurd cc
class_in (l.Reserved r.Not) h = absurd cc
class_in (l.Reserved _) h = absurd cc
class_in (l.Sign s.Equal) h = absurd cc
class_in (l.Sign s.BangEqual) h = absurd cc
class_in (l.Sign s.LessGreater) h = absurd cc
class_in (l.Sign s.Less) h = absurd cc
class_in (l.Sign s.LessEqual) h = absurd cc
class_in (l.Sign s.Greater) h = absurd cc
class_in (l.Sign s.GreaterEqual) h = absurd cc
class_in (l.Sign _) h = absurd cc
class_in _ h = absurd cc

class_is : (z : Lexeme) → comparison_class z ≡ by_is → reserved_lexeme r.Is z ≡ true
unfolding same_reserved
class_is (l.Reserved r.Is) h = refl
class_is (l.Reserved r.Like) h = absurd cc
class_is (l.Reserved r.Between) h = absurd cc
class_is (l.Reserved r.In) h = absurd cc
class_is (l.Reserved r.Not) h = absurd cc
class_is (l.Reserved _) h = absurd cc
class_is (l.Sign s.Equal) h = absurd cc
class_is (l.Sign s.BangEqual) h = absurd cc
class_is (l.Sign s.LessGreater) h = absurd cc
class_is (l.Sign s.Less) h = absurd cc
class_is (l.Sign s.LessEqual) h = absurd cc
class_is (l.Sign s.Greater) h = absurd cc
class_is (l.Sign s.GreaterEqual) h = absurd cc
class_is (l.Sign _) h = absurd cc
class_is _ h = absurd cc

class_not : (z : Lexeme) → comparison_class z ≡ by_not → reserved_lexeme r.Not z ≡ true
unfolding same_reserved
class_not (l.Reserved r.Not) h = refl
class_not (l.Reserved r.Like) h = absurd cc
class_not (l.Reserved r.Between) h = absurd cc
class_not (l.Reserved r.In) h = absurd cc
class_not (l.Reserved r.Is) h = absurd cc
class_not (l.Reserved _) h = absurd cc
class_not (l.Sign s.Equal) h = absurd cc
class_not (l.Sign s.BangEqual) h = absurd cc
class_not (l.Sign s.LessGreater) h = absurd cc
class_not (l.Sign s.Less) h = absurd cc
class_not (l.Sign s.LessEqual) h = absurd cc
class_not (l.Sign s.Greater) h = absurd cc
class_not (l.Sign s.GreaterEqual) h = absurd cc
class_not (l.Sign _) h = absurd cc
class_not _ h = absurd cc

class_sign : (z : Lexeme) → comparison_class z ≡ by_sign → (elim (comparison_lexeme z) [ None ↦ false | Some c ↦ true ]) ≡ true
class_sign (l.Sign s.Equal) h = refl
class_sign (l.Sign s.BangEqual) h = refl
class_sign (l.Sign s.LessGreater) h = refl
class_sign (l.Sign s.Less) h = refl
class_sign (l.Sign s.LessEqual) h = refl
class_sign (l.Sign s.Greater) h = refl
class_sign (l.Sign s.GreaterEqual) h = refl
class_sign (l.Sign _) h = absurd cc
class_sign (l.Reserved r.Like) h = absurd cc
class_sign (l.Reserved r.Between) h = absurd cc
class_sign (l.Reserved r.In) h = absurd cc
class_sign (l.Reserved r.Is) h = absurd cc
class_sign (l.Reserved r.Not) h = absurd cc
class_sign (l.Reserved _) h = absurd cc
class_sign _ h = absurd cc

-- a comparison behind its left side
closes : (k : ℕ) (a : Expr) (u : Tokens) → Begun (PendingOf BorOf) k (a, None) u → (P : ℕ → Expr) (v : Tokens) → (BorOf a u → CompOf (P (start_of u)) (u ++ v)) → Begun CompOf k (P k) (u ++ v)
closes k a u g P v f = record { solid = solid_front u v g.solid; spells = begun_on (PendingOf BorOf) k (a, None) u v g (λ j. CompOf (P j) (u ++ v)) (λ l. f (bor_settled a u l)) }

greater_lexeme : (z : Lexeme) → sign_lexeme s.Greater z ≡ true → comparison_lexeme z ≡ Some compare.Greater
unfolding same_sign
greater_lexeme (l.Sign s.Greater) h = refl
greater_lexeme (l.Sign _) h = absurd cc
greater_lexeme (l.Reserved z) h = absurd cc
greater_lexeme _ h = absurd cc

greater_says : (t : Token) → Is (sign s.Greater) t → Says comparison_of t compare.Greater
greater_says t it = record { is = greater_lexeme t.lexeme it.is }

greater_from : (a : Expr) (t : Token) (u : Tokens) → PendingOf BorOf (a, Some t) u → (c : Expr) (v : Tokens) → BorOf c v → CompOf (e.Compare a compare.Greater t.start c (start_of u)) (u ++ v)
greater_from _ _ _ (pending_is {a = a} {t = t} {u = u} k it) c v lc =
    subst (λ (j : ℕ). CompOf (e.Compare a compare.Greater t.start c j) ((u ++ (t ∷ [])) ++ v)) (sym (start_front u (t ∷ []) (solid_bor a u k)))
    (subst (CompOf (e.Compare a compare.Greater t.start c (start_of u))) (sym (append_assoc u (t ∷ []) v)) (comp_compare k (greater_says t it) lc))

no_bracketed : (xs : List Expr) (u : Tokens) → Bracketed ListOf xs u → u ≡ [] → ⊥
no_bracketed _ _ (bracketed_is i l j) h = cc

module _ (n m : ℕ) (up : n ≤ m) (b b' : Below) (x : Under n b b') where
  unnested_exact : Exact (suc n) (AfterOf (reserved r.Unnest) (Bracketed ExprOf)) (unnested n b) (unnested m b')
  unfolding unnested
  unnested_exact = less (after_exact (the_reserved r.Unnest) (bracketed_exact n m up b b' x))

  unnested_opens : {A : Type 0} (f : Expr → A) (t : Token) → reserved r.Unnest t ≡ true → Opens t (unnested m b' >>= (λ a. pure (f a)))
  unfolding unnested
  unnested_opens f t h = opens_bind (after_opens (the_reserved r.Unnest) (bracketed_exact n m up b b' x) t h) unnested_exact (λ a u l. done {n = 0} tt)

  -- behind the left side a, whose tokens are u
  module _ (k : ℕ) (a : Expr) (u : Tokens) (g : Begun (PendingOf BorOf) k (a, None) u) where
    sign_cont : (t : Token) → Is (tells comparison_of) t → Exact n (λ c v. Begun CompOf k c (u ++ (t ∷ v))) (bor n b >>= (λ c. pure (e.Compare a (told compare.Equal comparison_of t) t.start c k))) (bor m b' >>= (λ c. pure (e.Compare a (told compare.Equal comparison_of t) t.start c k)))
    sign_cont t it = last (λ c. e.Compare a (told compare.Equal comparison_of t) t.start c k) (less (bor_exact n m up b b' x)) (λ c v l. closes k a u g (λ j. e.Compare a (told compare.Equal comparison_of t) t.start c j) (t ∷ v) (λ la. comp_compare la (says compare.Equal comparison_of t it) l))

    like_bor_exact : (neg : Bool) (at : ℕ) (w : Tokens) → NegatableOf r.Like neg at w → Exact n (λ c v. Begun CompOf k c (u ++ (w ++ v))) (like_bor n b k a neg at) (like_bor m b' k a neg at)
    unfolding like_bor
    like_bor_exact neg at w i = last (λ c. e.Like a neg at c k) (less (bor_exact n m up b b' x)) (λ c v l. closes k a u g (λ j. e.Like a neg at c j) (w ++ v) (λ la. comp_like la i l))

    like_unnest_from : (t y : Token) → Is (reserved r.Like) t → Is (tells quantifier_of) y → (c : Expr) (v : Tokens) → AfterOf (reserved r.Unnest) (Bracketed ExprOf) c v
        → Begun CompOf k (e.LikeUnnest a (told quantifier_kind.Any quantifier_of y) t.start c k) (u ++ (t ∷ y ∷ v))
    like_unnest_from t y it iy _ _ (after_of {t = z} iz (bracketed_is {o = o} {c = d} {a = c} {u = v} io l id)) =
        closes k a u g (λ j. e.LikeUnnest a (told quantifier_kind.Any quantifier_of y) t.start c j) (t ∷ y ∷ z ∷ o ∷ (v ++ (d ∷ []))) (λ la. comp_like_unnest la it (says quantifier_kind.Any quantifier_of y iy) iz io l id)

    like_list_from : (t y : Token) → Is (reserved r.Like) t → Is (tells quantifier_of) y → (xs : List Expr) (v : Tokens) → Bracketed ListOf xs v
        → Begun CompOf k (e.LikeList a (told quantifier_kind.Any quantifier_of y) t.start xs k) (u ++ (t ∷ y ∷ v))
    like_list_from t y it iy _ _ (bracketed_is {o = o} {c = d} {a = xs} {u = v} io l id) =
        closes k a u g (λ j. e.LikeList a (told quantifier_kind.Any quantifier_of y) t.start xs j) (t ∷ y ∷ o ∷ (v ++ (d ∷ []))) (λ la. comp_like_list la it (says quantifier_kind.Any quantifier_of y iy) io l id)

    quantified_exact : (t y : Token) → Is (reserved r.Like) t → Is (tells quantifier_of) y → Exact n (λ c v. Begun CompOf k c (u ++ (t ∷ y ∷ v))) (quantified n b k a t.start y) (quantified m b' k a t.start y)
    unfolding quantified
    quantified_exact t y it iy = either (reserved r.Unnest) (λ z h. hungry (hungry_bind (list_exact n m up b b' x) _ (hungry_solid (list_exact n m up b b' x) (λ xs l. no_bracketed xs [] l refl))))
        (last (λ c. e.LikeUnnest a (told quantifier_kind.Any quantifier_of y) t.start c k) (less unnested_exact) (like_unnest_from t y it iy))
        (last (λ xs. e.LikeList a (told quantifier_kind.Any quantifier_of y) t.start xs k) (less (list_exact n m up b b' x)) (like_list_from t y it iy))

    like_cont : (t : Token) → Is (reserved r.Like) t → Exact n (λ c v. Begun CompOf k c (u ++ (t ∷ v))) (if_comes (tells quantifier_of) (token (tells quantifier_of) >>= quantified n b k a t.start) (like_bor n b k a false t.start))
        (if_comes (tells quantifier_of) (token (tells quantifier_of) >>= quantified m b' k a t.start) (like_bor m b' k a false t.start))
    like_cont t it = opt_also a_quantifier (λ y iy. quantified_exact t y it iy) (like_bor_exact false t.start (t ∷ []) (not_negated it))

    between_exact : (neg : Bool) (at : ℕ) (w : Tokens) → NegatableOf r.Between neg at w → Exact n (λ c v. Begun CompOf k c (u ++ (w ++ v))) (between_after n b k a neg at) (between_after m b' k a neg at)
    unfolding between_after
    between_exact neg at w i = bind (less (bor_exact n m up b b' x)) (λ c v l. also (the_reserved r.And) (λ t it. last (λ d. e.Between a neg at c d k) (less (bor_exact n m up b b' x))
        (λ d y ld. closes k a u g (λ j. e.Between a neg at c d j) (w ++ (v ++ (t ∷ y))) (λ la. comp_between la i l it ld))))

    in_unnest_from : (neg : Bool) (at : ℕ) (w : Tokens) → NegatableOf r.In neg at w → (c : Expr) (v : Tokens) → AfterOf (reserved r.Unnest) (Bracketed ExprOf) c v → Begun CompOf k (e.InUnnest a neg at c k) (u ++ (w ++ v))
    in_unnest_from neg at w i _ _ (after_of {t = z} iz (bracketed_is {o = o} {c = d} {a = c} {u = v} io l id)) =
        closes k a u g (λ j. e.InUnnest a neg at c j) (w ++ (z ∷ o ∷ (v ++ (d ∷ [])))) (λ la. comp_in_unnest la i iz io l id)

    in_held_from : (neg : Bool) (at : ℕ) (w : Tokens) → NegatableOf r.In neg at w → (o : Token) → Is (sign s.OpenRound) o → (h : Held) (v : Tokens) → HeldOf h v → Begun CompOf k (in_held n b k a neg at o.start h) (u ++ (w ++ (o ∷ v)))
    in_held_from neg at w i o io _ _ (holds_query {q = q} {c = d} {u = v} l id) = closes k a u g (λ j. e.InQuery a neg at q o.start j) (w ++ (o ∷ (v ++ (d ∷ [])))) (λ la. comp_in_query la i io l id)
    in_held_from neg at w i o io _ _ (holds_exprs {xs = xs} {c = d} {u = v} l h id) = closes k a u g (λ j. e.InList a neg at xs j) (w ++ (o ∷ (v ++ (d ∷ [])))) (λ la. comp_in_list la i io l h id)

    in_exact : (neg : Bool) (at : ℕ) (w : Tokens) → NegatableOf r.In neg at w → Exact n (λ c v. Begun CompOf k c (u ++ (w ++ v))) (in_after n b k a neg at) (in_after m b' k a neg at)
    unfolding in_after
    in_exact neg at w i = either (reserved r.Unnest) (λ z h. hungry (hungry_tok _ _)) (last (λ c. e.InUnnest a neg at c k) (less unnested_exact) (in_unnest_from neg at w i))
        (also (the_sign s.OpenRound) (λ o io. last (λ h. in_held n b k a neg at o.start h) (enclosed_exact n m up b b' x) (in_held_from neg at w i o io)))

    is_test_exact : (neg : Bool) (at : ℕ) (w : Tokens) → IsNotOf neg at w → Exact n (λ c v. Begun CompOf k c (u ++ (w ++ v))) (is_test n b k a neg at) (is_test m b' k a neg at)
    unfolding is_test
    is_test_exact neg at w i = opt_also (the_reserved r.Distinct) (λ t it. also (the_reserved r.From) (λ y iy. last (λ c. e.Distinct a neg at c k) (less (bor_exact n m up b b' x)) (λ c v l. closes k a u g (λ j. e.Distinct a neg at c j) (w ++ (t ∷ y ∷ v)) (λ la. comp_distinct la i it iy l))))
        (also a_test (λ t it. done (closes k a u g (λ j. e.Is a neg (told is_test_kind.Null test_of t) at j) (w ++ (t ∷ [])) (λ la. comp_is la i (says is_test_kind.Null test_of t it)))))

    is_cont : (t : Token) → Is (reserved r.Is) t → Exact n (λ c v. Begun CompOf k c (u ++ (t ∷ v))) (if_comes (reserved r.Not) (token (reserved r.Not) >> is_test n b k a true t.start) (is_test n b k a false t.start))
        (if_comes (reserved r.Not) (token (reserved r.Not) >> is_test m b' k a true t.start) (is_test m b' k a false t.start))
    is_cont t it = opt_also (the_reserved r.Not) (λ z iz. is_test_exact true t.start (t ∷ z ∷ []) (is_not it iz)) (is_test_exact false t.start (t ∷ []) (is_plain it))

    not_word : (t : Token) → Is (reserved r.Not) t → (c : Expr) × (v : Tokens) × Begun CompOf k c (u ++ (t ∷ v))
    not_word t it = (_, _, closes k a u g (λ j. e.Like a true t.start some_bor.0 j) (t ∷ (the_reserved r.Like).0 ∷ some_bor.1) (λ la. comp_like la (is_negated it (is_example (the_reserved r.Like))) some_bor.2))

    negated_kinds : (t : Token) → Is (reserved r.Not) t → (y : ComparisonStart) → Exact n (λ c v. Begun CompOf k c (u ++ (t ∷ v))) (negated_by n b k a t.start y) (negated_by m b' k a t.start y)
    negated_kinds t it by_like = also (the_reserved r.Like) (λ z iz. like_bor_exact true t.start (t ∷ z ∷ []) (is_negated it iz))
    negated_kinds t it by_between = also (the_reserved r.Between) (λ z iz. between_exact true t.start (t ∷ z ∷ []) (is_negated it iz))
    negated_kinds t it by_in = also (the_reserved r.In) (λ z iz. in_exact true t.start (t ∷ z ∷ []) (is_negated it iz))
    negated_kinds t it by_sign = exact_refuse n _ (not_word t it).0 (not_word t it).1 (not_word t it).2
    negated_kinds t it by_is = exact_refuse n _ (not_word t it).0 (not_word t it).1 (not_word t it).2
    negated_kinds t it by_not = exact_refuse n _ (not_word t it).0 (not_word t it).1 (not_word t it).2
    negated_kinds t it no_comparison = exact_refuse n _ (not_word t it).0 (not_word t it).1 (not_word t it).2

    not_cont : (t : Token) → Is (reserved r.Not) t → Exact n (λ c v. Begun CompOf k c (u ++ (t ∷ v))) (peek (class_of no_comparison comparison_class) >>= negated_by n b k a t.start) (peek (class_of no_comparison comparison_class) >>= negated_by m b' k a t.start)
    not_cont t it = exact_peek n _ (class_of no_comparison comparison_class) (negated_by n b k a t.start) (negated_by m b' k a t.start) (λ z y h. hungry hungry_refuse) (negated_kinds t it)

    compared_kinds : (y : ComparisonStart) → Exact (suc n) (λ c v. Begun CompOf k c (u ++ v)) (compared_by n b k a y) (compared_by m b' k a y)
    unfolding sign_after like_after is_after not_after
    compared_kinds by_sign = tok a_comparison sign_cont
    compared_kinds by_like = tok (the_reserved r.Like) like_cont
    compared_kinds by_between = tok (the_reserved r.Between) (λ t it. between_exact false t.start (t ∷ []) (not_negated it))
    compared_kinds by_in = tok (the_reserved r.In) (λ t it. in_exact false t.start (t ∷ []) (not_negated it))
    compared_kinds by_is = tok (the_reserved r.Is) is_cont
    compared_kinds by_not = tok (the_reserved r.Not) not_cont
    compared_kinds no_comparison = done (subst (Begun CompOf k a) (sym (append-nil u)) (record { solid = g.solid; spells = λ z. comp_bor (bor_settled a u (g.spells z)) }))

    compared_goes : (t : Token) (y : ComparisonStart) → comparison_class t.lexeme ≡ y → Goes (compared_by m b' k a no_comparison) t (compared_by m b' k a y)
    unfolding sign_after like_after is_after not_after
    compared_goes t by_sign h = opens (tok_opens (class_sign t.lexeme h) (λ z iz. into (sign_cont z iz) (λ c v q. tt)))
    compared_goes t by_like h = opens (tok_opens (class_like t.lexeme h) (λ z iz. into (like_cont z iz) (λ c v q. tt)))
    compared_goes t by_between h = opens (tok_opens (class_between t.lexeme h) (λ z iz. into (between_exact false z.start (z ∷ []) (not_negated iz)) (λ c v q. tt)))
    compared_goes t by_in h = opens (tok_opens (class_in t.lexeme h) (λ z iz. into (in_exact false z.start (z ∷ []) (not_negated iz)) (λ c v q. tt)))
    compared_goes t by_is h = opens (tok_opens (class_is t.lexeme h) (λ z iz. into (is_cont z iz) (λ c v q. tt)))
    compared_goes t by_not h = opens (tok_opens (class_not t.lexeme h) (λ z iz. into (not_cont z iz) (λ c v q. tt)))
    compared_goes t no_comparison h = alike refl

    compared_none : Exact (suc n) (λ c v. Begun CompOf k c (u ++ v)) (peek (class_of no_comparison comparison_class) >>= compared_by n b k a) (peek (class_of no_comparison comparison_class) >>= compared_by m b' k a)
    compared_none = exact_peek (suc n) _ (class_of no_comparison comparison_class) (compared_by n b k a) (compared_by m b' k a) compared_goes compared_kinds

  pub compared_exact : From (suc n) (PendingOf BorOf) CompOf (compared n b) (compared m b')
  compared_exact k (a, None) u g = compared_none k a u g
  compared_exact k (a, Some t) u g = last (λ c. e.Compare a compare.Greater t.start c k) (bor_exact n m up b b' x) (λ c v l. record { solid = solid_front u v g.solid; spells = begun_on (PendingOf BorOf) k (a, Some t) u v g (λ j. CompOf (e.Compare a compare.Greater t.start c j) (u ++ v)) (λ p. greater_from a t u p c v l) })

  pub comparison_exact : Exact (suc n) CompOf (comparison n b) (comparison m b')
  unfolding comparison
  comparison_exact = level (suc n) (PendingOf BorOf) CompOf some_comp (no_word CompOf solid_comp) (pending_solid BorOf solid_bor) (bor_pending n b) (bor_pending m b') (compared n b) (compared m b') (bor_pending_exact n m up b b' x) compared_exact

  -- ---- NOT, AND, OR

  pub negation_exact : Exact (suc n) NegOf (negation n b) (negation m b')
  unfolding negation
  negation_exact = bind (exact_all NotIs NotsOf (reserved r.Not) not_place not_place nots_none nots_at not_solid not_opens n m up (not_exact n)) (λ ps u l. last (nots ps) comparison_exact (λ a v la. neg_is l la))

  pub conjunction_from_exact : From (suc n) NegOf ConjOf (conjunction_from n b) (conjunction_from m b')
  unfolding conjunction_from
  conjunction_from_exact = chain_exact (reserved r.And) (λ t. op.And) (the_reserved r.And) e.And NegOf ConjOf AndsOf ands_none (λ t a u ls v i l z. ands_more i l z) (λ a u ls v l z. conj_is l z) n m up b b' (negation n b) (negation m b') negation_exact

  pub conjunction_exact : Exact (suc n) ConjOf (conjunction n b) (conjunction m b')
  unfolding conjunction
  conjunction_exact = level (suc n) NegOf ConjOf some_conj (no_word ConjOf solid_conj) solid_neg (negation n b) (negation m b') (conjunction_from n b) (conjunction_from m b') negation_exact conjunction_from_exact

  pub disjunction_from_exact : From (suc n) ConjOf ExprOf (disjunction_from n b) (disjunction_from m b')
  unfolding disjunction_from
  disjunction_from_exact = chain_exact (reserved r.Or) (λ t. op.Or) (the_reserved r.Or) e.Or ConjOf ExprOf OrsOf ors_none (λ t a u ls v i l z. ors_more i l z) (λ a u ls v l z. expr_is l z) n m up b b' (conjunction n b) (conjunction m b') conjunction_exact

  -- an expression
  pub disjunction_exact : Exact (suc n) ExprOf (disjunction n b) (disjunction m b')
  unfolding disjunction
  disjunction_exact = level (suc n) ConjOf ExprOf some_expr (no_word ExprOf solid_expr) solid_conj (conjunction n b) (conjunction m b') (disjunction_from n b) (disjunction_from m b') conjunction_exact disjunction_from_exact

  -- ---- an expression that goes on

  comp_neg : (k : ℕ) (a : Expr) (u : Tokens) → Begun CompOf k a u → Begun NegOf k a u
  unfolding nots
  comp_neg k a u h = record { solid = h.solid; spells = λ z. neg_is nots_none (h.spells z) }

  postfix_unary : (k : ℕ) (a : Expr) (u : Tokens) → Begun PostfixOf k a u → Begun UnaryOf k a u
  unfolding prefixes
  postfix_unary k a u h = record { solid = h.solid; spells = λ z. unary_is prefixes_none (h.spells z) }

  compared_neg : From (suc n) (PendingOf BorOf) NegOf (compared n b) (compared m b')
  compared_neg k y u g = into (compared_exact k y u g) (λ c v h. comp_neg k c (u ++ v) h)

  product_of_postfix : From (suc n) PostfixOf ProdOf (product_from n b) (product_from m b')
  product_of_postfix k a u g = product_from_exact n m up b b' x k a u (postfix_unary k a u g)

  from_7 : From (suc n) NegOf ExprOf (λ k. (λ z7. conjunction_from n b k z7 >>= (disjunction_from n b k))) (λ k. (λ z7. conjunction_from m b' k z7 >>= (disjunction_from m b' k)))
  from_7 = from_then (suc n) NegOf ConjOf ExprOf (conjunction_from n b) (conjunction_from m b') (disjunction_from n b) (disjunction_from m b') conjunction_from_exact disjunction_from_exact

  from_6 : From (suc n) (PendingOf BorOf) ExprOf (λ k. (λ z6. compared n b k z6 >>= (λ z7. conjunction_from n b k z7 >>= (disjunction_from n b k)))) (λ k. (λ z6. compared m b' k z6 >>= (λ z7. conjunction_from m b' k z7 >>= (disjunction_from m b' k))))
  from_6 = from_then (suc n) (PendingOf BorOf) NegOf ExprOf (compared n b) (compared m b') (λ k. (λ z7. conjunction_from n b k z7 >>= (disjunction_from n b k))) (λ k. (λ z7. conjunction_from m b' k z7 >>= (disjunction_from m b' k))) compared_neg from_7

  from_5 : From (suc n) (PendingOf BxorOf) ExprOf (λ k. (λ z5. bor_from n b k z5 >>= (λ z6. compared n b k z6 >>= (λ z7. conjunction_from n b k z7 >>= (disjunction_from n b k))))) (λ k. (λ z5. bor_from m b' k z5 >>= (λ z6. compared m b' k z6 >>= (λ z7. conjunction_from m b' k z7 >>= (disjunction_from m b' k)))))
  from_5 = from_then (suc n) (PendingOf BxorOf) (PendingOf BorOf) ExprOf (bor_from n b) (bor_from m b') (λ k. (λ z6. compared n b k z6 >>= (λ z7. conjunction_from n b k z7 >>= (disjunction_from n b k)))) (λ k. (λ z6. compared m b' k z6 >>= (λ z7. conjunction_from m b' k z7 >>= (disjunction_from m b' k)))) (bor_from_exact n m up b b' x) from_6

  from_4 : From (suc n) (PendingOf BandOf) ExprOf (λ k. (λ z4. bxor_from n b k z4 >>= (λ z5. bor_from n b k z5 >>= (λ z6. compared n b k z6 >>= (λ z7. conjunction_from n b k z7 >>= (disjunction_from n b k)))))) (λ k. (λ z4. bxor_from m b' k z4 >>= (λ z5. bor_from m b' k z5 >>= (λ z6. compared m b' k z6 >>= (λ z7. conjunction_from m b' k z7 >>= (disjunction_from m b' k))))))
  from_4 = from_then (suc n) (PendingOf BandOf) (PendingOf BxorOf) ExprOf (bxor_from n b) (bxor_from m b') (λ k. (λ z5. bor_from n b k z5 >>= (λ z6. compared n b k z6 >>= (λ z7. conjunction_from n b k z7 >>= (disjunction_from n b k))))) (λ k. (λ z5. bor_from m b' k z5 >>= (λ z6. compared m b' k z6 >>= (λ z7. conjunction_from m b' k z7 >>= (disjunction_from m b' k))))) (bxor_from_exact n m up b b' x) from_5

  from_3 : From (suc n) (PendingOf ShiftOf) ExprOf (λ k. (λ z3. band_from n b k z3 >>= (λ z4. bxor_from n b k z4 >>= (λ z5. bor_from n b k z5 >>= (λ z6. compared n b k z6 >>= (λ z7. conjunction_from n b k z7 >>= (disjunction_from n b k))))))) (λ k. (λ z3. band_from m b' k z3 >>= (λ z4. bxor_from m b' k z4 >>= (λ z5. bor_from m b' k z5 >>= (λ z6. compared m b' k z6 >>= (λ z7. conjunction_from m b' k z7 >>= (disjunction_from m b' k)))))))
  from_3 = from_then (suc n) (PendingOf ShiftOf) (PendingOf BandOf) ExprOf (band_from n b) (band_from m b') (λ k. (λ z4. bxor_from n b k z4 >>= (λ z5. bor_from n b k z5 >>= (λ z6. compared n b k z6 >>= (λ z7. conjunction_from n b k z7 >>= (disjunction_from n b k)))))) (λ k. (λ z4. bxor_from m b' k z4 >>= (λ z5. bor_from m b' k z5 >>= (λ z6. compared m b' k z6 >>= (λ z7. conjunction_from m b' k z7 >>= (disjunction_from m b' k)))))) (band_from_exact n m up b b' x) from_4

  from_2 : From (suc n) SumOf ExprOf (λ k. (λ z2. shift_from n b k z2 >>= (λ z3. band_from n b k z3 >>= (λ z4. bxor_from n b k z4 >>= (λ z5. bor_from n b k z5 >>= (λ z6. compared n b k z6 >>= (λ z7. conjunction_from n b k z7 >>= (disjunction_from n b k)))))))) (λ k. (λ z2. shift_from m b' k z2 >>= (λ z3. band_from m b' k z3 >>= (λ z4. bxor_from m b' k z4 >>= (λ z5. bor_from m b' k z5 >>= (λ z6. compared m b' k z6 >>= (λ z7. conjunction_from m b' k z7 >>= (disjunction_from m b' k))))))))
  from_2 = from_then (suc n) SumOf (PendingOf ShiftOf) ExprOf (shift_from n b) (shift_from m b') (λ k. (λ z3. band_from n b k z3 >>= (λ z4. bxor_from n b k z4 >>= (λ z5. bor_from n b k z5 >>= (λ z6. compared n b k z6 >>= (λ z7. conjunction_from n b k z7 >>= (disjunction_from n b k))))))) (λ k. (λ z3. band_from m b' k z3 >>= (λ z4. bxor_from m b' k z4 >>= (λ z5. bor_from m b' k z5 >>= (λ z6. compared m b' k z6 >>= (λ z7. conjunction_from m b' k z7 >>= (disjunction_from m b' k))))))) (shift_from_exact n m up b b' x) from_3

  from_1 : From (suc n) ProdOf ExprOf (λ k. (λ z1. sum_from n b k z1 >>= (λ z2. shift_from n b k z2 >>= (λ z3. band_from n b k z3 >>= (λ z4. bxor_from n b k z4 >>= (λ z5. bor_from n b k z5 >>= (λ z6. compared n b k z6 >>= (λ z7. conjunction_from n b k z7 >>= (disjunction_from n b k))))))))) (λ k. (λ z1. sum_from m b' k z1 >>= (λ z2. shift_from m b' k z2 >>= (λ z3. band_from m b' k z3 >>= (λ z4. bxor_from m b' k z4 >>= (λ z5. bor_from m b' k z5 >>= (λ z6. compared m b' k z6 >>= (λ z7. conjunction_from m b' k z7 >>= (disjunction_from m b' k)))))))))
  from_1 = from_then (suc n) ProdOf SumOf ExprOf (sum_from n b) (sum_from m b') (λ k. (λ z2. shift_from n b k z2 >>= (λ z3. band_from n b k z3 >>= (λ z4. bxor_from n b k z4 >>= (λ z5. bor_from n b k z5 >>= (λ z6. compared n b k z6 >>= (λ z7. conjunction_from n b k z7 >>= (disjunction_from n b k)))))))) (λ k. (λ z2. shift_from m b' k z2 >>= (λ z3. band_from m b' k z3 >>= (λ z4. bxor_from m b' k z4 >>= (λ z5. bor_from m b' k z5 >>= (λ z6. compared m b' k z6 >>= (λ z7. conjunction_from m b' k z7 >>= (disjunction_from m b' k)))))))) (sum_from_exact n m up b b' x) from_2

  from_0 : From (suc n) PostfixOf ExprOf (λ k. (λ z0. product_from n b k z0 >>= (λ z1. sum_from n b k z1 >>= (λ z2. shift_from n b k z2 >>= (λ z3. band_from n b k z3 >>= (λ z4. bxor_from n b k z4 >>= (λ z5. bor_from n b k z5 >>= (λ z6. compared n b k z6 >>= (λ z7. conjunction_from n b k z7 >>= (disjunction_from n b k)))))))))) (λ k. (λ z0. product_from m b' k z0 >>= (λ z1. sum_from m b' k z1 >>= (λ z2. shift_from m b' k z2 >>= (λ z3. band_from m b' k z3 >>= (λ z4. bxor_from m b' k z4 >>= (λ z5. bor_from m b' k z5 >>= (λ z6. compared m b' k z6 >>= (λ z7. conjunction_from m b' k z7 >>= (disjunction_from m b' k))))))))))
  from_0 = from_then (suc n) PostfixOf ProdOf ExprOf (product_from n b) (product_from m b') (λ k. (λ z1. sum_from n b k z1 >>= (λ z2. shift_from n b k z2 >>= (λ z3. band_from n b k z3 >>= (λ z4. bxor_from n b k z4 >>= (λ z5. bor_from n b k z5 >>= (λ z6. compared n b k z6 >>= (λ z7. conjunction_from n b k z7 >>= (disjunction_from n b k))))))))) (λ k. (λ z1. sum_from m b' k z1 >>= (λ z2. shift_from m b' k z2 >>= (λ z3. band_from m b' k z3 >>= (λ z4. bxor_from m b' k z4 >>= (λ z5. bor_from m b' k z5 >>= (λ z6. compared m b' k z6 >>= (λ z7. conjunction_from m b' k z7 >>= (disjunction_from m b' k))))))))) product_of_postfix from_1

  pub expr_from_exact : From (suc n) PostfixOf ExprOf (expr_from n b) (expr_from m b')
  unfolding expr_from
  expr_from_exact k a u g = from_0 k a u g

  -- the same behind a basic expression
  pub expr_after_exact : From (suc n) BasicOf ExprOf (expr_after n b) (expr_after m b')
  unfolding expr_after
  expr_after_exact = from_then (suc n) BasicOf PostfixOf ExprOf (postfix_from n b) (postfix_from m b') (expr_from n b) (expr_from m b') (postfix_from_exact n m up b b' x) expr_from_exact
