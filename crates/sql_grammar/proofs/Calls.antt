-- The readers of calls and lists are exact.
use Rattle.std.proofs.Common.{◌≡◌, ℕ, suc, ◌≤◌, ◌&&◌, Bool, true, false, List, [], ◌∷◌, ◌++◌, length, Option, Some, None, refl, sym, ◌∙◌, subst, arith}
use Rattle.std.proofs.lemmas.List.{append_assoc, append-nil}
use Rattle.fronts.specs.Fronts.{Language}
use Rattle.fronts.specs.Readers.{◌>>=◌, pure, token, if_comes}
use Rattle.fronts.proofs.Agrees.{Found}
use Rattle.fronts.proofs.Firm.{Opens, Hungry, hungry}
use Rattle.fronts.proofs.Exact.{Exact, bind, last, into, done, less, exact_many, exact_peek, exact_noting, hungry_solid, hungry_bind}
use Rattle.sql_ast.specs.declared.clauses.Aliased.{Aliased}
use Rattle.sql_ast.specs.declared.clauses.Arg.{Arg}
use Rattle.sql_ast.specs.declared.clauses.Name.{Name}
use Rattle.sql_ast.specs.declared.clauses.Sort.{Sort}
use Rattle.sql_ast.specs.declared.clauses.When.{When}
use Rattle.sql_ast.specs.declared.expr.Expr.{Expr}
use Rattle.sql_ast.specs.declared.query.Term.{Term}
use Rattle.sql_ast.specs.declared.token.Token.{Token}
use Rattle.sql_ast.specs.declared.type_spelling.TypeSpelling.{TypeSpelling}
use Rattle.sql_ast.specs.declared.words.Sign.{Sign}
use Rattle.sql_ast.specs.declared.clauses.Arg.TheVariants as arg_kind
use Rattle.sql_ast.specs.declared.clauses.Function.TheVariants as function_kind
use Rattle.sql_ast.specs.declared.expr.Expr.TheVariants as e
use Rattle.sql_names.specs.declared.words.Reserved.TheVariants as r
use Rattle.sql_ast.specs.declared.words.Sign.TheVariants as s
use Rattle.sql_ast.specs.Marks.{Tokens, Is, reserved, sign, named, start_of}
use Rattle.sql_ast.specs.Trees.{name_at, function_of}
use Rattle.sql_ast.specs.Grammar.{ArgOf, ArgsOf, ArgumentsOf, BasicOf, CallOf, CommasOf, ExprOf, ListOf, MemberOf, MembersOf, OrderOf, QueryOf, SortOf, SortsOf, TermOf, WhenOf, WhensOf, arg_expr, arg_interval, arg_lambda, arg_lambda_two, args_more, args_none, arguments_are, arguments_none, arguments_star, call_is, commas_more, commas_none, list_is, members_more, order_is, order_none, sort_is, sorts_more, sorts_none, when_is, whens_more}
use Rattle.sql_ast.specs.Parts.{DistinctOf, TypeOf, direction_none, nulls_none, type_levels}
use Rattle.sql_grammar.specs.Ways.{Parser}
use Rattle.sql_grammar.specs.Classes.{class_of, arguments_lexeme, ArgumentsStart, by_star, by_nothing, by_arg}
use Rattle.sql_grammar.specs.Exprs.{tells, two_named, variables_of, after, bracketed, bracketed_query, list_closed, list, sort, comma_sort, order, arg_after, interval, argument, comma_argument, arguments_from, arguments_by, arguments, call_tail, call_body, call_of, call, cast_end, Below, with_read, term_read}
use Rattle.sql_grammar.proofs.Ways.{start_front, exact_starting}
use Rattle.sql_grammar.proofs.Marks.{the_reserved, the_sign, some_name, a_function, tok, also, opt, opt_also, tok_opens, says, AfterOf, after_of, after_solid, after_exact, after_opens, not_nil}
use Rattle.sql_grammar.proofs.Words.{distinct_exact, direction_exact, nulls_place_exact, nulls_part_exact, call_limit_exact, whole_type_exact}
use Rattle.sql_grammar.proofs.Starts.{prefixes_expr}
use Rattle.sql_grammar.proofs.Solid.{solid_front, solid_expr, some_expr}
use Rattle.std.proofs.lemmas.Bool.{and_parts}

-- the readers of less depth are exact
pub record Under (n : ℕ) (b b' : Below) : Type 0 where
  pub inner : Exact n ExprOf b.inner b'.inner
  pub query : Exact n QueryOf b.query b'.query
  pub with_more : (t : Token) → Is (reserved r.With) t → Exact n (λ q v. QueryOf q (t ∷ v)) (b.more (with_read t)) (b'.more (with_read t))
  pub term_more : (a : Term) (p : ℕ) (u : Tokens) → TermOf a u → p ≡ start_of u → Exact n (λ q v. QueryOf q (u ++ v)) (b.more (term_read a p)) (b'.more (term_read a p))
  pub rest : (p : ℕ) (a : Expr) (u : Tokens) → BasicOf a u → p ≡ start_of u → Exact n (λ c v. ExprOf c (u ++ v)) (b.rest p a) (b'.rest p a)
  -- that of expressions takes a prefix and NOT
  pub prefixed : (t : Token) → prefixes_expr t ≡ true → Opens t b'.inner

-- ---- parts in brackets

pub data Bracketed {A : Type 0} (L : Language Token A) : A → Tokens → Type 0 where
  bracketed_is : {o c : Token} {a : A} {u : Tokens} → Is (sign s.OpenRound) o → L a u → Is (sign s.CloseRound) c → Bracketed L a (o ∷ (u ++ (c ∷ [])))

-- with the place of the bracket
pub data Placed {A : Type 0} (L : Language Token A) : A × ℕ → Tokens → Type 0 where
  placed_is : {o c : Token} {a : A} {u : Tokens} → Is (sign s.OpenRound) o → L a u → Is (sign s.CloseRound) c → Placed L (a, o.start) (o ∷ (u ++ (c ∷ [])))

-- before the bracket that closes it
pub data Closed {A : Type 0} (close : Sign) (L : Language Token A) : A → Tokens → Type 0 where
  closed_is : {c : Token} {a : A} {u : Tokens} → L a u → Is (sign close) c → Closed close L a (u ++ (c ∷ []))

pub commas_at : (a : Expr) (u : Tokens) (ls : List Expr) (v : Tokens) → AfterOf (sign s.Comma) ExprOf a u → CommasOf ls v → CommasOf (a ∷ ls) (u ++ v)
commas_at _ _ ls v (after_of i l) z = commas_more i l z

sorts_at : (a : Sort Expr) (u : Tokens) (ls : List (Sort Expr)) (v : Tokens) → AfterOf (sign s.Comma) SortOf a u → SortsOf ls v → SortsOf (a ∷ ls) (u ++ v)
sorts_at _ _ ls v (after_of i l) z = sorts_more i l z

args_at : (a : Arg Expr) (u : Tokens) (ls : List (Arg Expr)) (v : Tokens) → AfterOf (sign s.Comma) ArgOf a u → ArgsOf ls v → ArgsOf (a ∷ ls) (u ++ v)
args_at _ _ ls v (after_of i l) z = args_more i l z

pub members_at : (a : Aliased Expr) (u : Tokens) (ls : List (Aliased Expr)) (v : Tokens) → AfterOf (sign s.Comma) MemberOf a u → MembersOf ls v → MembersOf (a ∷ ls) (u ++ v)
members_at _ _ ls v (after_of i l) z = members_more i l z

pub whens_at : (a : When Expr) (u : Tokens) (ls : List (When Expr)) (v : Tokens) → WhenOf a u → WhensOf ls v → WhensOf (a ∷ ls) (u ++ v)
whens_at _ _ ls v l z = whens_more l z

pub when_solid : (a : When Expr) (u : Tokens) → WhenOf a u → 1 ≤ length u
when_solid _ _ (when_is i l j m) = omega arith

pub solid_arg : (a : Arg Expr) (u : Tokens) → ArgOf a u → 1 ≤ length u
solid_arg _ _ (arg_expr {u = u} l) = solid_expr _ u l
solid_arg _ _ (arg_lambda i j l) = omega arith
solid_arg _ _ (arg_lambda_two i j g h c d l) = omega arith
solid_arg _ _ (arg_interval i l j) = omega arith

some_arg : (a : Arg Expr) × (u : Tokens) × ArgOf a u
some_arg = (_, _, arg_expr (some_expr.2))

-- ---- variables of a lambda

one_variable : (n : Token) (b : Bool) (ns : List Name) → named n ≡ b → (elim b [ true ↦ Some (name_at n ∷ []) | false ↦ None ]) ≡ Some ns → (t : Token) → Is (sign s.Arrow) t → (a : Expr) (v : Tokens) → ExprOf a v
    → ArgOf (arg_kind.Lambda ns a n.start) (n ∷ t ∷ v)
one_variable n true ns e h t it a v l = let is : name_at n ∷ [] ≡ ns = cc in subst (λ (x : List Name). ArgOf (arg_kind.Lambda x a n.start) (n ∷ t ∷ v)) is (arg_lambda (record { is = e }) it l)
one_variable n false ns e h t it a v l = absurd cc

two_variables : (o n k m c : Token) (b : Bool) (ns : List Name) → two_named o n k m c ≡ b → (elim b [ true ↦ Some (name_at n ∷ name_at m ∷ []) | false ↦ None ]) ≡ Some ns → (t : Token) → Is (sign s.Arrow) t
    → (a : Expr) (v : Tokens) → ExprOf a v → ArgOf (arg_kind.Lambda ns a o.start) (o ∷ n ∷ k ∷ m ∷ c ∷ t ∷ v)
two_variables o n k m c true ns e h t it a v l =
    let is : name_at n ∷ name_at m ∷ [] ≡ ns = cc in
    let g1 = and_parts (sign s.OpenRound o) (named n && (sign s.Comma k && (named m && sign s.CloseRound c))) e in
    let g2 = and_parts (named n) (sign s.Comma k && (named m && sign s.CloseRound c)) (g1.1) in
    let g3 = and_parts (sign s.Comma k) (named m && sign s.CloseRound c) (g2.1) in
    let g4 = and_parts (named m) (sign s.CloseRound c) (g3.1) in
    subst (λ (x : List Name). ArgOf (arg_kind.Lambda x a o.start) (o ∷ n ∷ k ∷ m ∷ c ∷ t ∷ v)) is (arg_lambda_two (record { is = g1.0 }) (record { is = g2.0 }) (record { is = g3.0 }) (record { is = g4.0 }) (record { is = g4.1 }) it l)
two_variables o n k m c false ns e h t it a v l = absurd cc

lambda_from : (u : Tokens) (ns : List Name) → variables_of u ≡ Some ns → (t : Token) → Is (sign s.Arrow) t → (a : Expr) (v : Tokens) → ExprOf a v → ArgOf (arg_kind.Lambda ns a (start_of u)) (u ++ (t ∷ v))
lambda_from [] ns h t it a v l = absurd cc
lambda_from (n ∷ []) ns h t it a v l = one_variable n (named n) ns refl h t it a v l
lambda_from (o ∷ n ∷ []) ns h t it a v l = absurd cc
lambda_from (o ∷ n ∷ k ∷ []) ns h t it a v l = absurd cc
lambda_from (o ∷ n ∷ k ∷ m ∷ []) ns h t it a v l = absurd cc
lambda_from (o ∷ n ∷ k ∷ m ∷ c ∷ []) ns h t it a v l = two_variables o n k m c (two_named o n k m c) ns refl h t it a v l
lambda_from (o ∷ n ∷ k ∷ m ∷ c ∷ d ∷ w) ns h t it a v l = absurd cc

module _ (n m : ℕ) (up : n ≤ m) (b b' : Below) (x : Under n b b') where
  pub comma_expr_exact : Exact (suc n) (AfterOf (sign s.Comma) ExprOf) (after n b (sign s.Comma)) (after m b' (sign s.Comma))
  unfolding after
  comma_expr_exact = after_exact (the_sign s.Comma) x.inner

  pub comma_expr_opens : (t : Token) → sign s.Comma t ≡ true → Opens t (after m b' (sign s.Comma))
  unfolding after
  comma_expr_opens t h = after_opens (the_sign s.Comma) x.inner t h

  pub bracketed_exact : Exact (suc n) (Bracketed ExprOf) (bracketed n b) (bracketed m b')
  unfolding bracketed
  bracketed_exact = tok (the_sign s.OpenRound) (λ o io. bind x.inner (λ a u l. also (the_sign s.CloseRound) (λ c ic. done (bracketed_is io l ic))))

  pub bracketed_query_exact : Exact (suc n) (Placed QueryOf) (bracketed_query n b) (bracketed_query m b')
  unfolding bracketed_query
  bracketed_query_exact = tok (the_sign s.OpenRound) (λ o io. bind x.query (λ a u l. also (the_sign s.CloseRound) (λ c ic. done (placed_is io l ic))))

  list_found : (found : List Expr) (u : Tokens) → ((ls : List Expr) (v : Tokens) → CommasOf ls v → ListOf (found ++ ls) (u ++ v)) → (close : Sign) (xs : List Expr) (v : Tokens) → Found CommasOf found xs v
      → (c : Token) → Is (sign close) c → Closed close ListOf xs (u ++ (v ++ (c ∷ [])))
  list_found found u h close xs v (ls, z, e) c ic = subst (Closed close ListOf xs) (append_assoc u v (c ∷ [])) (closed_is (subst (λ (y : List Expr). ListOf y (u ++ v)) (sym e) (h ls v z)) ic)

  pub list_closed_exact : (close : Sign) (found : List Expr) (u : Tokens) → ((ls : List Expr) (v : Tokens) → CommasOf ls v → ListOf (found ++ ls) (u ++ v))
      → Exact n (λ xs v. Closed close ListOf xs (u ++ v)) (list_closed n b close found) (list_closed m b' close found)
  unfolding list_closed
  list_closed_exact close found u h = bind (exact_many (AfterOf (sign s.Comma) ExprOf) CommasOf (sign s.Comma) (after n b (sign s.Comma)) (after m b' (sign s.Comma)) commas_none commas_at (after_solid (sign s.Comma) ExprOf) comma_expr_opens n m n up (omega arith) (less comma_expr_exact) found)
      (λ xs v f. also (the_sign close) (λ c ic. done (list_found found u h close xs v f c ic)))

  -- the same for whatever these items and their end make
  pub list_closed_to : (M : Language Token (List Expr)) (close : Sign) (found : List Expr) (u : Tokens) → ((ls : List Expr) (v : Tokens) (c : Token) → CommasOf ls v → Is (sign close) c → M (found ++ ls) (u ++ (v ++ (c ∷ []))))
      → Exact n (λ xs v. M xs (u ++ v)) (list_closed n b close found) (list_closed m b' close found)
  unfolding list_closed
  list_closed_to M close found u h = bind (exact_many (AfterOf (sign s.Comma) ExprOf) CommasOf (sign s.Comma) (after n b (sign s.Comma)) (after m b' (sign s.Comma)) commas_none commas_at (after_solid (sign s.Comma) ExprOf) comma_expr_opens n m n up (omega arith) (less comma_expr_exact) found)
      (λ xs v f. also (the_sign close) (λ c ic. done (subst (λ (y : List Expr). M y (u ++ (v ++ (c ∷ [])))) (sym f.2) (h f.0 v c f.1 ic))))

  -- behind a first expression
  pub list_behind : (close : Sign) (a : Expr) (u : Tokens) → ExprOf a u → Exact n (λ xs v. Closed close ListOf xs (u ++ v)) (list_closed n b close (a ∷ [])) (list_closed m b' close (a ∷ []))
  list_behind close a u l = list_closed_exact close (a ∷ []) u (λ ls v z. list_is l z)

  list_from : (o : Token) → Is (sign s.OpenRound) o → (xs : List Expr) (u : Tokens) → Closed s.CloseRound ListOf xs u → Bracketed ListOf xs (o ∷ u)
  list_from o io _ _ (closed_is l ic) = bracketed_is io l ic

  pub list_exact : Exact (suc n) (Bracketed ListOf) (list n b) (list m b')
  unfolding list
  list_exact = tok (the_sign s.OpenRound) (λ o io. bind x.inner (λ a u l. into (list_behind s.CloseRound a u l) (λ xs v z. list_from o io xs (u ++ v) z)))

  -- ---- calls

  sort_exact : Exact n SortOf (sort n b) (sort m b')
  unfolding sort
  sort_exact = exact_starting SortOf (_, _, sort_is (some_expr.2) direction_none nulls_none) (λ a h. no_sort a [] h refl) _ _ n (λ k. bind x.inner (λ a u l. bind (less (direction_exact n)) (λ d v ld. last (λ z. record { expr = a; descending = d; nulls = z; place = k }) (less (nulls_place_exact n))
      (λ z w lz. record { solid = solid_front u (v ++ w) (solid_expr a u l); spells = λ e. subst (λ (j : ℕ). SortOf (record { expr = a; descending = d; nulls = z; place = j }) (u ++ (v ++ w))) (sym (e ∙ start_front u (v ++ w) (solid_expr a u l))) (sort_is l ld lz) }))))
    where
      no_sort : (a : Sort Expr) (u : Tokens) → SortOf a u → u ≡ [] → ⊥
      no_sort _ _ (sort_is {u = u} {v = v} {x = w} l d z) e = not_nil (u ++ (v ++ w)) (solid_front u (v ++ w) (solid_expr _ u l)) e

  comma_sort_exact : Exact (suc n) (AfterOf (sign s.Comma) SortOf) (comma_sort n b) (comma_sort m b')
  unfolding comma_sort
  comma_sort_exact = after_exact (the_sign s.Comma) sort_exact

  comma_sort_opens : (t : Token) → sign s.Comma t ≡ true → Opens t (comma_sort m b')
  unfolding comma_sort
  comma_sort_opens t h = after_opens (the_sign s.Comma) sort_exact t h

  order_found : (t y : Token) → Is (reserved r.Order) t → Is (reserved r.By) y → (a : Sort Expr) (u : Tokens) → SortOf a u → (xs : List (Sort Expr)) (v : Tokens) → Found SortsOf (a ∷ []) xs v → OrderOf xs (t ∷ y ∷ (u ++ v))
  order_found t y it iy a u l xs v (ls, z, e) = subst (λ (q : List (Sort Expr)). OrderOf q (t ∷ y ∷ (u ++ v))) (sym e) (order_is it iy l z)

  pub order_exact : Exact (suc n) OrderOf (order n b) (order m b')
  unfolding order
  order_exact = opt (the_reserved r.Order) (λ t it. also (the_reserved r.By) (λ y iy. bind sort_exact (λ a u l.
      into (exact_many (AfterOf (sign s.Comma) SortOf) SortsOf (sign s.Comma) (comma_sort n b) (comma_sort m b') sorts_none sorts_at (after_solid (sign s.Comma) SortOf) comma_sort_opens n m n up (omega arith) (less comma_sort_exact) (a ∷ []))
      (order_found t y it iy a u l)))) (done order_none)

  arg_by : (w : Tokens) (o : Option (List Name)) → variables_of w ≡ o → (a : Expr) → ExprOf a w
      → Exact n (λ c v. ArgOf c (w ++ v)) (elim o [ None ↦ pure (arg_kind.Expr a) | Some ns ↦ if_comes (sign s.Arrow) (token (sign s.Arrow) >>= (λ _. b.inner >>= (λ c. pure (arg_kind.Lambda ns c (start_of w))))) (pure (arg_kind.Expr a)) ])
      (elim o [ None ↦ pure (arg_kind.Expr a) | Some ns ↦ if_comes (sign s.Arrow) (token (sign s.Arrow) >>= (λ _. b'.inner >>= (λ c. pure (arg_kind.Lambda ns c (start_of w))))) (pure (arg_kind.Expr a)) ])
  arg_by w None e a l = done (subst (ArgOf (arg_kind.Expr a)) (sym (append-nil w)) (arg_expr l))
  arg_by w (Some ns) e a l = opt_also (the_sign s.Arrow) (λ t it. last (λ c. arg_kind.Lambda ns c (start_of w)) x.inner (λ c v lc. lambda_from w ns e t it c v lc)) (done (subst (ArgOf (arg_kind.Expr a)) (sym (append-nil w)) (arg_expr l)))

  arg_after_exact : (w : Tokens) (a : Expr) (u : Tokens) → w ≡ u → ExprOf a u → Exact n (λ c v. ArgOf c (u ++ v)) (arg_after n b w a) (arg_after m b' w a)
  unfolding arg_after
  arg_after_exact w a u e l = subst (λ (y : Tokens). Exact n (λ c v. ArgOf c (y ++ v)) (arg_after n b w a) (arg_after m b' w a)) e (arg_by w (variables_of w) refl a (subst (ExprOf a) (sym e) l))

  pub argument_exact : Exact n ArgOf (argument n b) (argument m b')
  unfolding argument interval
  argument_exact = opt_also (the_reserved r.Interval) (λ t it. bind x.inner (λ a u l. also some_name (λ z iz. done (arg_interval it l iz))))
      (bind (exact_noting ExprOf b.inner b'.inner n x.inner) (λ w u l. arg_after_exact w.0 w.1 u l.0 l.1))

  comma_argument_exact : Exact (suc n) (AfterOf (sign s.Comma) ArgOf) (comma_argument n b) (comma_argument m b')
  unfolding comma_argument
  comma_argument_exact = after_exact (the_sign s.Comma) argument_exact

  comma_argument_opens : (t : Token) → sign s.Comma t ≡ true → Opens t (comma_argument m b')
  unfolding comma_argument
  comma_argument_opens t h = after_opens (the_sign s.Comma) argument_exact t h

  args_found : (a : Arg Expr) (u : Tokens) → ArgOf a u → (xs : List (Arg Expr)) (v : Tokens) → Found ArgsOf (a ∷ []) xs v → ArgumentsOf false xs (u ++ v)
  args_found a u l xs v (ls, z, e) = subst (λ (q : List (Arg Expr)). ArgumentsOf false q (u ++ v)) (sym e) (arguments_are l z)

  pub arguments_from_exact : (a : Arg Expr) (u : Tokens) → ArgOf a u → Exact n (λ xs v. ArgumentsOf false xs (u ++ v)) (arguments_from n b a) (arguments_from m b' a)
  unfolding arguments_from
  arguments_from_exact a u l = into (exact_many (AfterOf (sign s.Comma) ArgOf) ArgsOf (sign s.Comma) (comma_argument n b) (comma_argument m b') args_none args_at (after_solid (sign s.Comma) ArgOf) comma_argument_opens n m n up (omega arith) (less comma_argument_exact) (a ∷ []))
      (args_found a u l)

  pub argument_hungry : {A : Type 0} (q : Arg Expr → Parser A) → Hungry (argument m b' >>= q)
  argument_hungry q = hungry_bind argument_exact q (hungry_solid argument_exact (λ a l. let h = solid_arg a [] l in omega arith))

  arguments_kinds : (k : ArgumentsStart) → Exact n (λ y. ArgumentsOf y.0 y.1) (arguments_by n b k) (arguments_by m b' k)
  arguments_kinds by_star = also (the_sign s.Star) (λ t it. done (arguments_star it))
  arguments_kinds by_nothing = done arguments_none
  arguments_kinds by_arg = bind argument_exact (λ a u l. last (λ xs. (false, xs)) (arguments_from_exact a u l) (λ xs v z. z))

  arguments_exact : Exact n (λ y. ArgumentsOf y.0 y.1) (arguments n b) (arguments m b')
  unfolding arguments
  arguments_exact = exact_peek n _ (class_of by_arg arguments_lexeme) (arguments_by n b) (arguments_by m b') (λ t k h. hungry (argument_hungry _)) arguments_kinds

  pub call_tail_exact : (t o : Token) → Is (tells function_of) t → Is (sign s.OpenRound) o → (d star : Bool) (xs : List (Arg Expr)) (u v : Tokens) → DistinctOf d u → ArgumentsOf star xs v
      → Exact n (λ k w. CallOf k (t ∷ o ∷ (u ++ (v ++ w)))) (call_tail n b t d star xs) (call_tail m b' t d star xs)
  unfolding call_tail
  call_tail_exact t o it io d star xs u v ld lx = bind (less (nulls_part_exact n)) (λ z w1 lz. bind (less order_exact) (λ ss w2 ls. bind (less (call_limit_exact n)) (λ k w3 lk. also (the_sign s.CloseRound) (λ c ic.
      done (call_is (says function_kind.If function_of t it) io ld lx lz ls lk ic)))))

  pub call_body_exact : (t o : Token) → Is (tells function_of) t → Is (sign s.OpenRound) o → Exact n (λ k w. CallOf k (t ∷ o ∷ w)) (call_body n b t) (call_body m b' t)
  unfolding call_body
  call_body_exact t o it io = bind (less (distinct_exact n)) (λ d u ld. bind arguments_exact (λ y v ly. call_tail_exact t o it io d y.0 y.1 u v ld ly))

  pub call_of_exact : (t : Token) → Is (tells function_of) t → Exact (suc n) (λ k w. CallOf k (t ∷ w)) (call_of n b t) (call_of m b' t)
  unfolding call_of
  call_of_exact t it = tok (the_sign s.OpenRound) (λ o io. call_body_exact t o it io)

  pub call_exact : Exact (suc n) CallOf (call n b) (call m b')
  unfolding call
  call_exact = tok a_function (λ t it. less (call_of_exact t it))

  pub cast_end_exact : (M : Language Token Expr) (safe : Bool) (place : ℕ) (a : Expr) → ((y : Token) (c : Token) (z : TypeSpelling) (v : Tokens) → Is (reserved r.As) y → TypeOf type_levels z v → Is (sign s.CloseRound) c → M (e.Cast safe a z place) (y ∷ (v ++ (c ∷ []))))
      → Exact (suc n) M (cast_end n b safe place a) (cast_end m b' safe place a)
  unfolding cast_end
  cast_end_exact M safe place a h = tok (the_reserved r.As) (λ y iy. bind (less (whole_type_exact n m up)) (λ z v lz. also (the_sign s.CloseRound) (λ c ic. done (h y c z v iy lz ic))))

  pub cast_end_opens : (safe : Bool) (place : ℕ) (a : Expr) (t : Token) → reserved r.As t ≡ true → Opens t (cast_end m b' safe place a)
  unfolding cast_end
  cast_end_opens safe place a t h = tok_opens h (λ y iy. bind (whole_type_exact n m up) (λ z v lz. also (the_sign s.CloseRound) (λ c ic. done tt)))
