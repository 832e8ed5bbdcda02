-- Sort items, arguments and calls are read.
use Rattle.std.proofs.Common.{◌≡◌, ℕ, suc, ◌<◌, ◌≤◌, Bool, true, false, List, [], ◌∷◌, ◌++◌, length, Option, Some, None, refl, sym, ◌∙◌, ap, subst, arith}
use Rattle.std.proofs.lemmas.List.{append_assoc}
use Rattle.std.proofs.lemmas.Bool.{and_from}
use Rattle.fronts.specs.Fronts.{Language}
use Rattle.fronts.specs.Readers.{taken, ◌>>=◌, pure, token, if_comes, comes, next, noted, noting}
use Rattle.fronts.proofs.Lists.{front_is}
use Rattle.fronts.proofs.Agrees.{Many, many_none, many_more, Found, WithText}
use Rattle.sql_ast.specs.declared.clauses.Arg.{Arg}
use Rattle.sql_ast.specs.declared.clauses.Arg.TheVariants as arg
use Rattle.sql_ast.specs.declared.clauses.Name.{Name}
use Rattle.sql_ast.specs.declared.clauses.Sort.{Sort}
use Rattle.sql_ast.specs.declared.expr.Expr.{Expr}
use Rattle.sql_ast.specs.declared.expr.Expr.TheVariants as e
use Rattle.sql_names.specs.declared.words.Reserved.TheVariants as r
use Rattle.sql_ast.specs.declared.words.Sign.TheVariants as s
use Rattle.sql_ast.specs.declared.token.Token.{Token}
use Rattle.sql_ast.specs.declared.token.Lexeme.{Lexeme}
use Rattle.sql_ast.specs.declared.token.Lexeme.TheVariants as l
use Rattle.sql_ast.specs.Marks.{Tokens, Is, reserved, sign, named, spelled, same_reserved, reserved_lexeme, start_of}
use Rattle.sql_ast.specs.Trees.{name_at}
use Rattle.sql_ast.specs.Grammar.{ExprOf, basic_name, basic_tuple, list_is, commas_none, commas_more, ArgumentsOf, arguments_none, arguments_star, arguments_are, ArgsOf, args_none, args_more, ArgOf, arg_expr, arg_lambda, arg_lambda_two, arg_interval, SortOf, sort_is, SortsOf, sorts_none, sorts_more, OrderOf, order_none, order_is}
use Rattle.sql_grammar.specs.Ways.{Parser}
use Rattle.sql_grammar.specs.Classes.{class_of, arguments_lexeme, by_nothing, by_arg}
use Rattle.sql_grammar.specs.Words.{direction, nulls_place}
use Rattle.sql_grammar.specs.Exprs.{Below, variables_of, two_named, sort, comma_sort, order, arg_after, interval, argument, comma_argument, arguments_from, arguments_by, arguments}
use Rattle.sql_grammar.proofs.Marks.{AfterOf, after_of}
use Rattle.sql_grammar.proofs.Solid.{solid_expr}
use Rattle.sql_grammar.proofs.Follows.{Over, Starts, level, rank}
use Rattle.sql_grammar.proofs.CompleteSteps.{Read, less, under, tok, also, part, last, only, then_on, else_on, peeked, done, weak, over_s, over_n, over_not_r, over_not_s, starts_not_r, r_test, s_test, n_test, after_read, after_begins, over_many, comma_level, many_ahead, Ahead, nothing_ahead, r_ahead, to, on}
use Rattle.sql_grammar.proofs.CompleteStarts.{expr_starts}
use Rattle.sql_grammar.proofs.CompleteRepeats.{begun}
use Rattle.sql_grammar.proofs.CompleteWords.{direction_read, direction_ahead, nulls_place_read, nulls_place_ahead}
use Rattle.sql_grammar.proofs.CompleteFronts.{basic_expr}
use Rattle.sql_grammar.proofs.CompleteParts.{Reading}

pub noting_read : {A : Type 0} {n : ℕ} {F : Tokens → Type 0} {L : Language Token A} {p : Parser A} → Read n F L p → Read n F (WithText L) (noting p)
noting_read {A} {n} {F} {L} {p} x = record {
  reads = λ {a = w} {u = u} l rest f lt. ap (noted (u ++ rest)) (x.reads l.1 rest f lt) ∙ ap (λ (v : Tokens). taken (v, w.1) rest) (front_is (u ++ rest) u rest refl ∙ sym l.0);
}

-- ---- sort items

pub many_sorts : (ms : List (Sort Expr)) (v : Tokens) → SortsOf ms v → Many (AfterOf (sign s.Comma) SortOf) ms v
many_sorts _ _ sorts_none = many_none
many_sorts _ _ (sorts_more {ms = ms} {v = v} i l z) = many_more (after_of i l) (many_sorts ms v z)

pub order_ahead : (ss : List (Sort Expr)) (u : Tokens) → OrderOf ss u → Ahead 21 u
order_ahead _ _ order_none = nothing_ahead
order_ahead _ _ (order_is i j l z) = r_ahead r.Order i

module _ (n : ℕ) (b : Below) (x : Reading n b) where
  sort_read : Read n (Over 14) SortOf (sort n b)
  unfolding sort
  sort_read = record { reads = by }
    where
      by : {a : Sort Expr} {u : Tokens} → SortOf a u → (rest : Tokens) → Over 14 rest → length (u ++ rest) < n → sort n b (u ++ rest) ≡ taken a rest
      by (sort_is {a = a} {d = d} {n = k} {u = u} {v = v} {x = y} l m z) rest f =
          begun (λ p. b.inner >>= (λ a. direction >>= (λ d. nulls_place >>= (λ k. λ ts. taken (record { expr = a; descending = d; nulls = k; place = p }) ts)))) u (v ++ y) rest (solid_expr a u l)
          (part x.inner l (v ++ y) rest _ (on y rest (direction_ahead d v m) (omega arith) (to (nulls_place_ahead k y z) (omega arith) (weak (omega arith) f)))
          (part (direction_read n) m y rest _ (to (nulls_place_ahead k y z) (omega arith) (weak (omega arith) f)) (last (nulls_place_read n) z _ f done)))

  comma_sort_read : Read (suc n) (Over 14) (AfterOf (sign s.Comma) SortOf) (comma_sort n b)
  unfolding comma_sort
  comma_sort_read = after_read sort_read

  pub order_read : Read (suc n) (Over 21) OrderOf (order n b)
  unfolding order
  order_read = record { reads = by }
    where
      by : {a : List (Sort Expr)} {u : Tokens} → OrderOf a u → (rest : Tokens) → Over 21 rest → length (u ++ rest) < suc n → order n b (u ++ rest) ≡ taken a rest
      by order_none rest f = else_on (over_not_r f r.Order (omega arith)) _ _ done
      by (order_is {a = a} {ms = ms} {u = u} {v = v} i j l z) rest f = then_on i.is _ _ (tok i _ (also j _ (part sort_read l v rest _
          (to (many_ahead {j = 14} {k = 15} (sign s.Comma) comma_level (omega arith) (after_begins (sign s.Comma) SortOf) ms v (many_sorts ms v z)) (omega arith) (weak (omega arith) f))
          (only (less (over_many (sign s.Comma) comma_level (omega arith) (after_begins (sign s.Comma) SortOf) comma_sort_read (a ∷ []) many_sorts)) (ms, z, refl) (weak (omega arith) f)))))

-- ---- arguments

-- what may follow an argument
pub record ArgEnds (ts : Tokens) : Type 0 where
  pub over : Over 10 ts
  pub no_arrow : comes (sign s.Arrow) ts ≡ false

pub over_arg_ends : (ts : Tokens) → Over 11 ts → ArgEnds ts
over_arg_ends ts h = record { over = weak (omega arith) h; no_arrow = over_not_s h s.Arrow (omega arith) }

-- what may follow all the arguments of a call
pub record Ends (ts : Tokens) : Type 0 where
  pub is : class_of by_arg arguments_lexeme (next ts) ≡ by_nothing

ends_level : (x : Lexeme) → arguments_lexeme x ≡ by_nothing → 15 < level x
ends_level (l.Sign s.Star) h = absurd cc
ends_level (l.Sign s.CloseRound) h = omega arith
ends_level (l.Sign _) h = absurd cc
ends_level (l.Reserved r.Ignore) h = omega arith
ends_level (l.Reserved r.Respect) h = omega arith
ends_level (l.Reserved r.Order) h = omega arith
ends_level (l.Reserved r.Limit) h = omega arith
ends_level (l.Reserved _) h = absurd cc
ends_level _ h = absurd cc

pub ends_over : (ts : Tokens) → Ends ts → Over 15 ts
ends_over [] h = absurd (let g = h.is in cc)
ends_over (t ∷ ts) h = record { over = ends_level t.lexeme h.is }

ends_not_distinct_by : (x : Lexeme) → arguments_lexeme x ≡ by_nothing → reserved_lexeme r.Distinct x ≡ false
unfolding same_reserved
ends_not_distinct_by (l.Reserved r.Ignore) h = refl
ends_not_distinct_by (l.Reserved r.Respect) h = refl
ends_not_distinct_by (l.Reserved r.Order) h = refl
ends_not_distinct_by (l.Reserved r.Limit) h = refl
ends_not_distinct_by (l.Reserved _) h = absurd cc
ends_not_distinct_by _ h = refl

pub ends_not_distinct : (ts : Tokens) → Ends ts → comes (reserved r.Distinct) ts ≡ false
ends_not_distinct [] h = refl
ends_not_distinct (t ∷ ts) h = ends_not_distinct_by t.lexeme h.is

expr_by_arg : (x : Lexeme) → rank x ≤ 3 → arguments_lexeme x ≡ by_arg
expr_by_arg (l.Sign s.Star) h = absurd (omega arith)
expr_by_arg (l.Sign s.CloseRound) h = absurd (omega arith)
expr_by_arg (l.Sign _) h = refl
expr_by_arg (l.Reserved r.Ignore) h = absurd (omega arith)
expr_by_arg (l.Reserved r.Respect) h = absurd (omega arith)
expr_by_arg (l.Reserved r.Order) h = absurd (omega arith)
expr_by_arg (l.Reserved r.Limit) h = absurd (omega arith)
expr_by_arg (l.Reserved _) h = refl
expr_by_arg _ h = refl

starts_by_arg : (ts : Tokens) → Starts 3 ts → class_of by_arg arguments_lexeme (next ts) ≡ by_arg
starts_by_arg [] h = refl
starts_by_arg (t ∷ ts) h = expr_by_arg t.lexeme h.starts

-- with what an argument begins
pub record ArgStarts (ts : Tokens) : Type 0 where
  pub is : class_of by_arg arguments_lexeme (next ts) ≡ by_arg
  pub no_distinct : comes (reserved r.Distinct) ts ≡ false

pub arg_starts : (a : Arg Expr) (u rest : Tokens) → ArgOf a u → ArgStarts (u ++ rest)
unfolding same_reserved
arg_starts _ _ rest (arg_expr {a = a} {u = u} l) = let h = expr_starts a u rest l in record { is = starts_by_arg (u ++ rest) h; no_distinct = starts_not_r h r.Distinct (omega arith) }
arg_starts _ _ rest (arg_lambda i j l) = record { is = n_test arguments_lexeme i (λ n o. refl); no_distinct = n_test (reserved_lexeme r.Distinct) i (λ n o. refl) }
arg_starts _ _ rest (arg_lambda_two i j k m c t l) = record { is = s_test s.OpenRound arguments_lexeme i refl; no_distinct = s_test s.OpenRound (reserved_lexeme r.Distinct) i refl }
arg_starts _ _ rest (arg_interval i l j) = record { is = r_test r.Interval arguments_lexeme i refl; no_distinct = r_test r.Interval (reserved_lexeme r.Distinct) i refl }

pub many_args : (ms : List (Arg Expr)) (v : Tokens) → ArgsOf ms v → Many (AfterOf (sign s.Comma) ArgOf) ms v
many_args _ _ args_none = many_none
many_args _ _ (args_more {ms = ms} {v = v} i l z) = many_more (after_of i l) (many_args ms v z)

pub args_ahead : (ms : List (Arg Expr)) (v : Tokens) → ArgsOf ms v → Ahead 15 v
args_ahead ms v z = many_ahead {j = 11} {k = 15} (sign s.Comma) comma_level (omega arith) (after_begins (sign s.Comma) ArgOf) ms v (many_args ms v z)

two_named_is : {o n k m c : Token} → Is (sign s.OpenRound) o → Is named n → Is (sign s.Comma) k → Is named m → Is (sign s.CloseRound) c → two_named o n k m c ≡ true
two_named_is io i ik j ic = and_from _ _ io.is (and_from _ _ i.is (and_from _ _ ik.is (and_from _ _ j.is ic.is)))

-- two names in brackets, as an expression
tuple_expr : {o n k m c : Token} → Is (sign s.OpenRound) o → Is named n → Is (sign s.Comma) k → Is named m → Is (sign s.CloseRound) c
    → ExprOf (e.Tuple (e.Name (spelled n) n.start ∷ e.Name (spelled m) m.start ∷ []) o.start) (o ∷ n ∷ k ∷ m ∷ c ∷ [])
tuple_expr {o} {n} {k} {m} {c} io i ik j ic = basic_expr _ (o ∷ n ∷ k ∷ m ∷ c ∷ []) (basic_tuple io (list_is (basic_expr _ (n ∷ []) (basic_name i)) (commas_more ik (basic_expr _ (m ∷ []) (basic_name j)) commas_none)) ic)

module _ (n : ℕ) (b : Below) (x : Reading n b) where
  abbrev chosen : Tokens → Expr → Option (List Name) → Parser (Arg Expr)
  chosen u a o = elim o [
    | None ↦ pure (arg.Expr a)
    | Some ns ↦ if_comes (sign s.Arrow) (token (sign s.Arrow) >>= (λ _. b.inner >>= (λ c. pure (arg.Lambda ns c (start_of u))))) (pure (arg.Expr a))
  ]

  -- behind the variables of a lambda
  lambda_after : (u : Tokens) (ns : List Name) (a c : Expr) (t : Token) (v : Tokens) → variables_of u ≡ Some ns → Is (sign s.Arrow) t → ExprOf c v → (rest : Tokens) → Over 10 rest → length ((t ∷ v) ++ rest) < n
      → arg_after n b u a ((t ∷ v) ++ rest) ≡ taken (arg.Lambda ns c (start_of u)) rest
  unfolding arg_after
  lambda_after u ns a c t v h i l rest f lt = ap (λ o. chosen u a o ((t ∷ v) ++ rest)) h ∙ then_on i.is _ _ (also i _ (last x.inner l _ f done)) lt

  plain_by : (u : Tokens) (a : Expr) (ts : Tokens) → comes (sign s.Arrow) ts ≡ false → (o : Option (List Name)) → chosen u a o ts ≡ taken (arg.Expr a) ts
  plain_by u a ts h None = refl
  plain_by u a ts h (Some ns) = else_on {N = Unit {0}} h _ _ done tt

  plain_after : (u : Tokens) (a : Expr) (ts : Tokens) → comes (sign s.Arrow) ts ≡ false → arg_after n b u a ts ≡ taken (arg.Expr a) ts
  unfolding arg_after
  plain_after u a ts h = plain_by u a ts h (variables_of u)

  argument_by : {a : Arg Expr} {u : Tokens} → ArgOf a u → (rest : Tokens) → ArgEnds rest → length (u ++ rest) < n → argument n b (u ++ rest) ≡ taken a rest
  unfolding argument interval
  argument_by (arg_expr {a = a} {u = u} l) rest f = else_on (starts_not_r (expr_starts a u rest l) r.Interval (omega arith)) _ _ (last (noting_read x.inner) (refl, l) _ f.over (λ _. plain_after u a rest f.no_arrow))
  argument_by (arg_lambda {n = k} {t = t} {a = a} {u = u} i j l) rest f = else_on (n_test (reserved_lexeme r.Interval) i (λ n o. refl)) _ _
      (last (noting_read x.inner) (refl, basic_expr _ (k ∷ []) (basic_name i)) _ (over_s s.Arrow j (omega arith))
      (lambda_after (k ∷ []) (name_at k ∷ []) _ a t u (ap (λ c. elim c [ true ↦ Some (name_at k ∷ []) | false ↦ None ]) i.is) j l rest f.over))
  argument_by (arg_lambda_two {o = o} {n = k} {k = y} {m = m} {c = c} {t = t} {a = a} {u = u} io i iy im ic j l) rest f = else_on (s_test s.OpenRound (reserved_lexeme r.Interval) io refl) _ _
      (last (noting_read x.inner) (refl, tuple_expr io i iy im ic) _ (over_s s.Arrow j (omega arith))
      (lambda_after (o ∷ k ∷ y ∷ m ∷ c ∷ []) (name_at k ∷ name_at m ∷ []) _ a t u (ap (λ c. elim c [ true ↦ Some (name_at k ∷ name_at m ∷ []) | false ↦ None ]) (two_named_is io i iy im ic)) j l rest f.over))
  argument_by (arg_interval {n = k} i l j) rest f = then_on i.is _ _ (also i _ (part x.inner l (k ∷ []) rest _ (over_n j (omega arith)) (also j _ done)))

  pub argument_read : Read n ArgEnds ArgOf (argument n b)
  argument_read = record { reads = argument_by }

  comma_argument_read : Read (suc n) (Over 11) (AfterOf (sign s.Comma) ArgOf) (comma_argument n b)
  unfolding comma_argument
  comma_argument_read = after_read (under argument_read over_arg_ends)

  pub arguments_from_read : (a : Arg Expr) → Read (suc n) (Over 15) (Found ArgsOf (a ∷ [])) (arguments_from n b a)
  unfolding arguments_from
  arguments_from_read a = over_many (sign s.Comma) comma_level (omega arith) (after_begins (sign s.Comma) ArgOf) comma_argument_read (a ∷ []) many_args

-- what stands behind an argument
pub args_arg_ends : (ms : List (Arg Expr)) (v rest : Tokens) → ArgsOf ms v → Ends rest → ArgEnds (v ++ rest)
args_arg_ends ms v rest z h = over_arg_ends (v ++ rest) ((args_ahead ms v z).ahead 11 rest (omega arith) (weak (omega arith) (ends_over rest h)))

-- whether `*` stands, and the arguments
pub data Args : Bool × List (Arg Expr) → Tokens → Type 0 where
  args_are : {star : Bool} {ms : List (Arg Expr)} {u : Tokens} → ArgumentsOf star ms u → Args (star, ms) u

pub arguments_read : (n : ℕ) (b : Below) → Reading n b → Read n Ends Args (arguments n b)
unfolding arguments
arguments_read n b x = record { reads = by }
  where
    by : {a : Bool × List (Arg Expr)} {u : Tokens} → Args a u → (rest : Tokens) → Ends rest → length (u ++ rest) < n → arguments n b (u ++ rest) ≡ taken a rest
    by (args_are arguments_none) rest f = peeked (class_of by_arg arguments_lexeme) (arguments_by n b) f.is done
    by (args_are (arguments_star i)) rest f = peeked (class_of by_arg arguments_lexeme) (arguments_by n b) (s_test s.Star arguments_lexeme i refl) (also i _ done)
    by (args_are (arguments_are {a = a} {ms = ms} {u = u} {v = v} l z)) rest f = peeked (class_of by_arg arguments_lexeme) (arguments_by n b) (subst (λ (w : Tokens). class_of by_arg arguments_lexeme (next w) ≡ by_arg) (sym (append_assoc u v rest)) (arg_starts a u (v ++ rest) l).is)
        (part (argument_read n b x) l v rest _ (args_arg_ends ms v rest z f) (last (less (arguments_from_read n b x a)) (ms, z, refl) _ (ends_over rest f) done))
