-- Whole calls are read, and casts that look like a call.
use Rattle.std.proofs.Common.{◌≡◌, ℕ, suc, ◌<◌, Bool, true, false, List, [], ◌∷◌, ◌++◌, length, Option, refl, sym, ◌∙◌, ap, subst, arith}
use Rattle.std.proofs.lemmas.List.{append_assoc}
use Rattle.fronts.specs.Readers.{taken, ◌>>=◌, pure, comes, next}
use Rattle.sql_ast.specs.declared.clauses.Arg.{Arg}
use Rattle.sql_ast.specs.declared.clauses.Arg.TheVariants as arg
use Rattle.sql_ast.specs.declared.clauses.Call.{Call}
use Rattle.sql_ast.specs.declared.clauses.Function.{Function}
use Rattle.sql_ast.specs.declared.clauses.Function.TheVariants as function
use Rattle.sql_ast.specs.declared.clauses.NullsPart.{NullsPart}
use Rattle.sql_ast.specs.declared.clauses.Sort.{Sort}
use Rattle.sql_ast.specs.declared.expr.Expr.{Expr}
use Rattle.sql_ast.specs.declared.expr.Expr.TheVariants as e
use Rattle.sql_ast.specs.declared.type_spelling.TypeSpelling.{TypeSpelling}
use Rattle.sql_names.specs.declared.words.Reserved.TheVariants as r
use Rattle.sql_ast.specs.declared.words.Sign.TheVariants as s
use Rattle.sql_ast.specs.declared.words.Word.TheVariants as w
use Rattle.sql_ast.specs.declared.token.Token.{Token}
use Rattle.sql_ast.specs.Marks.{Tokens, Is, reserved, sign, word, same_reserved, reserved_lexeme, sign_lexeme}
use Rattle.sql_ast.specs.Trees.{function_of}
use Rattle.sql_ast.specs.Parts.{DistinctOf, distinct_none, distinct_is, NullsPartOf, nulls_part_none, nulls_ignore, nulls_respect, CallLimitOf, call_limit_none, call_limit_is, TypeOf, type_levels}
use Rattle.sql_ast.specs.Grammar.{ExprOf, CallOf, call_is, ArgumentsOf, arguments_none, arguments_star, arguments_are, ArgsOf, arg_expr, OrderOf, order_none, order_is}
use Rattle.sql_grammar.specs.Ways.{Parser}
use Rattle.sql_grammar.specs.Classes.{class_of, arguments_lexeme, by_arg}
use Rattle.sql_grammar.specs.Exprs.{tells, told, Below, argument, call_tail, call_body, call_of, call, cast_end, call_from, cast_or_call, safe_cast_by, safe_cast, called}
use Rattle.sql_grammar.proofs.Marks.{told_is, tells_is, AfterOf, after_of}
use Rattle.sql_grammar.proofs.CompleteSteps.{Read, Free, less, tok, also, part, last, only, then_on, else_on, peeked, done, weak, over_r, over_s, over_not_r, r_test, s_test, after_read, on}
use Rattle.sql_grammar.proofs.CompleteWords.{distinct_read, nulls_part_read, call_limit_read, call_limit_ahead}
use Rattle.sql_grammar.proofs.CompleteTypes.{whole_type_read}
use Rattle.sql_grammar.proofs.CompleteParts.{Reading}
use Rattle.sql_grammar.proofs.CompleteCalls.{order_read, order_ahead, ArgEnds, Ends, ends_over, ArgStarts, arg_starts, args_ahead, args_arg_ends, argument_read, arguments_from_read, arguments_read, args_are, ends_not_distinct}

-- ---- the end of a call

-- behind the arguments, up to the closing bracket
pub data TailOf (t : Token) (d star : Bool) (ms : List (Arg Expr)) : Call Expr → Tokens → Type 0 where
  tail_is : {c : Token} {n : Option NullsPart} {ss : List (Sort Expr)} {k : Option ℕ} {x y z : Tokens} → NullsPartOf n x → OrderOf ss y → CallLimitOf k z → Is (sign s.CloseRound) c
      → TailOf t d star ms (record { function = told function.If function_of t; distinct = d; star = star; arguments = ms; nulls = n; order = ss; limit = k; place = t.start }) (x ++ (y ++ (z ++ (c ∷ []))))

-- behind the opening bracket
pub data BodyOf (t : Token) : Call Expr → Tokens → Type 0 where
  body_is : {d star : Bool} {ms : List (Arg Expr)} {k : Call Expr} {u v w : Tokens} → DistinctOf d u → ArgumentsOf star ms v → TailOf t d star ms k w → BodyOf t k (u ++ (v ++ w))

limit_ends : (k : Option ℕ) (z : Tokens) (c : Token) (rest : Tokens) → CallLimitOf k z → Is (sign s.CloseRound) c → Ends ((z ++ (c ∷ [])) ++ rest)
limit_ends _ _ c rest call_limit_none ic = record { is = s_test s.CloseRound arguments_lexeme ic refl }
limit_ends _ _ c rest (call_limit_is i j) ic = record { is = r_test r.Limit arguments_lexeme i refl }

order_ends : (ss : List (Sort Expr)) (y w rest : Tokens) → OrderOf ss y → Ends (w ++ rest) → Ends ((y ++ w) ++ rest)
order_ends _ _ w rest order_none h = h
order_ends _ _ w rest (order_is i j l z) h = record { is = r_test r.Order arguments_lexeme i refl }

nulls_ends : (n : Option NullsPart) (x w rest : Tokens) → NullsPartOf n x → Ends (w ++ rest) → Ends ((x ++ w) ++ rest)
nulls_ends _ _ w rest nulls_part_none h = h
nulls_ends _ _ w rest (nulls_ignore i j) h = record { is = r_test r.Ignore arguments_lexeme i refl }
nulls_ends _ _ w rest (nulls_respect i j) h = record { is = r_test r.Respect arguments_lexeme i refl }

tail_ends : (t : Token) (d star : Bool) (ms : List (Arg Expr)) (k : Call Expr) (w rest : Tokens) → TailOf t d star ms k w → Ends (w ++ rest)
tail_ends t d star ms _ _ rest (tail_is {c = c} {n = n} {ss = ss} {k = k} {x = x} {y = y} {z = z} i o l ic) =
    nulls_ends n x (y ++ (z ++ (c ∷ []))) rest i (order_ends ss y (z ++ (c ∷ [])) rest o (limit_ends k z c rest l ic))

-- behind DISTINCT, or where it is missing
no_distinct : (star : Bool) (ms : List (Arg Expr)) (v w rest : Tokens) → ArgumentsOf star ms v → Ends (w ++ rest) → comes (reserved r.Distinct) ((v ++ w) ++ rest) ≡ false
unfolding same_reserved
no_distinct _ _ _ w rest arguments_none h = ends_not_distinct (w ++ rest) h
no_distinct _ _ _ w rest (arguments_star i) h = s_test s.Star (reserved_lexeme r.Distinct) i refl
no_distinct _ _ _ w rest (arguments_are {a = a} {u = u} {v = v} l z) h =
    subst (λ (q : Tokens). comes (reserved r.Distinct) q ≡ false) (sym (ap (λ (q : Tokens). q ++ rest) (append_assoc u v w) ∙ append_assoc u (v ++ w) rest)) (arg_starts a u ((v ++ w) ++ rest) l).no_distinct

after_call : (t : Token) (k : Call Expr) (u : Tokens) → CallOf k (t ∷ u) → AfterOf (sign s.OpenRound) (BodyOf t) k u
after_call t _ _ (call_is {f = f} {o = o} {c = c} {d = d} {star = star} {ms = ms} {n = n} {ss = ss} {k = k} {u = u} {v = v} {x = x} {y = y} {z = z} i io a b m p q ic) =
    subst (λ (g : Function). AfterOf (sign s.OpenRound) (BodyOf t) (record { function = g; distinct = d; star = star; arguments = ms; nulls = n; order = ss; limit = k; place = t.start }) (o ∷ (u ++ (v ++ (x ++ (y ++ (z ++ (c ∷ []))))))))
    (told_is function.If function_of t f i) (after_of io (body_is a b (tail_is m p q ic)))

pub call_function : (t : Token) (k : Call Expr) (u : Tokens) → CallOf k (t ∷ u) → Is (tells function_of) t
call_function t _ _ (call_is {f = f} i io a b m p q ic) = record { is = tells_is function.If function_of t f i }

module _ (n : ℕ) (b : Below) (x : Reading n b) where
  call_tail_read : (t : Token) (d star : Bool) (ms : List (Arg Expr)) → Read (suc n) Free (TailOf t d star ms) (call_tail n b t d star ms)
  unfolding call_tail
  call_tail_read t d star ms = record { reads = by }
    where
      by : {a : Call Expr} {u : Tokens} → TailOf t d star ms a u → (rest : Tokens) → Unit {0} → length (u ++ rest) < suc n → call_tail n b t d star ms (u ++ rest) ≡ taken a rest
      by (tail_is {c = c} {n = i} {ss = ss} {k = k} {x = v} {y = y} {z = z} g o l ic) rest f =
          part (nulls_part_read (suc n)) g (y ++ (z ++ (c ∷ []))) rest _ (on (z ++ (c ∷ [])) rest (order_ahead ss y o) (omega arith) (on (c ∷ []) rest (call_limit_ahead k z l) (omega arith) (over_s s.CloseRound ic (omega arith))))
          (part (order_read n b x) o (z ++ (c ∷ [])) rest _ (on (c ∷ []) rest (call_limit_ahead k z l) (omega arith) (over_s s.CloseRound ic (omega arith)))
          (part (call_limit_read (suc n)) l (c ∷ []) rest _ (over_s s.CloseRound ic (omega arith)) (also ic _ done)))

  call_body_read : (t : Token) → Read n Free (BodyOf t) (call_body n b t)
  unfolding call_body
  call_body_read t = record { reads = by }
    where
      by : {a : Call Expr} {u : Tokens} → BodyOf t a u → (rest : Tokens) → Unit {0} → length (u ++ rest) < n → call_body n b t (u ++ rest) ≡ taken a rest
      by (body_is {d = d} {star = star} {ms = ms} {k = k} {u = u} {v = v} {w = w} i l z) rest f =
          part (distinct_read n) i (v ++ w) rest _ (record { is = no_distinct star ms v w rest l (tail_ends t d star ms k w rest z) })
          (part (arguments_read n b x) (args_are l) w rest _ (tail_ends t d star ms k w rest z) (only (less (call_tail_read t d star ms)) z tt))

  pub call_of_read : (t : Token) → Read (suc n) Free (AfterOf (sign s.OpenRound) (BodyOf t)) (call_of n b t)
  unfolding call_of
  call_of_read t = after_read (call_body_read t)

  -- a call behind its function
  pub call_behind : (t : Token) (k : Call Expr) (u : Tokens) → CallOf k (t ∷ u) → (rest : Tokens) → length (u ++ rest) < suc n → call_of n b t (u ++ rest) ≡ taken k rest
  call_behind t k u l rest lt = (call_of_read t).reads (after_call t k u l) rest tt lt

  pub call_read : Read (suc n) Free CallOf (call n b)
  unfolding call
  call_read = record { reads = λ {a = k} {u = u} l rest f lt. by k u l rest lt }
    where
      by : (k : Call Expr) (u : Tokens) → CallOf k u → (rest : Tokens) → length (u ++ rest) < suc n → call n b (u ++ rest) ≡ taken k rest
      by _ _ (call_is {f = g} {t = t} i io a d m p q ic) rest = also (record { is = tells_is function.If function_of t g i }) _ (λ lt. call_behind t _ _ (call_is i io a d m p q ic) rest lt)

  -- ---- casts

  -- AS type ")"
  pub data CastEnd (safe : Bool) (place : ℕ) (a : Expr) : Expr → Tokens → Type 0 where
    cast_ends : {t c : Token} {y : TypeSpelling} {v : Tokens} → Is (reserved r.As) t → TypeOf type_levels y v → Is (sign s.CloseRound) c → CastEnd safe place a (e.Cast safe a y place) (t ∷ (v ++ (c ∷ [])))

  pub cast_end_read : (safe : Bool) (place : ℕ) (a : Expr) → Read (suc n) Free (CastEnd safe place a) (cast_end n b safe place a)
  unfolding cast_end
  cast_end_read safe place a = record { reads = by }
    where
      by : {d : Expr} {u : Tokens} → CastEnd safe place a d u → (rest : Tokens) → Unit {0} → length (u ++ rest) < suc n → cast_end n b safe place a (u ++ rest) ≡ taken d rest
      by (cast_ends {c = c} i y ic) rest f = also i _ (part (whole_type_read n) y (c ∷ []) rest _ tt (also ic _ done))

  -- a call behind its first argument
  call_from_by : (t : Token) (a : Arg Expr) (ms : List (Arg Expr)) (v w : Tokens) (k : Call Expr) → ArgsOf ms v → TailOf t false false (a ∷ ms) k w → (rest : Tokens) → length ((v ++ w) ++ rest) < suc n
      → call_from n b t a ((v ++ w) ++ rest) ≡ taken (e.Call k t.start) rest
  unfolding call_from
  call_from_by t a ms v w k z g rest = part (arguments_from_read n b x a) (ms, z, refl) w rest _ (ends_over (w ++ rest) (tail_ends t false false (a ∷ ms) k w rest g)) (last (call_tail_read t false false (a ∷ ms)) g _ tt done)

  -- no cast where AS doesn't follow
  no_cast : (t : Token) (a : Arg Expr) (ts : Tokens) → comes (reserved r.As) ts ≡ false → cast_or_call n b t a ts ≡ call_from n b t a ts
  no_cast t (arg.Expr a) ts h = else_on {N = Unit {0}} h _ _ done tt
  no_cast t (arg.Lambda ns a p) ts h = refl
  no_cast t (arg.Interval a m p) ts h = refl

  safe_call_read : (t : Token) (d star : Bool) (ms : List (Arg Expr)) (k : Call Expr) (u v w : Tokens) → DistinctOf d u → ArgumentsOf star ms v → TailOf t d star ms k w → (rest : Tokens) → length ((u ++ (v ++ w)) ++ rest) < n
      → safe_cast n b t ((u ++ (v ++ w)) ++ rest) ≡ taken (e.Call k t.start) rest
  unfolding safe_cast
  safe_call_read t _ star ms k _ v w (distinct_is i) l z rest = then_on i.is _ _ (last (call_body_read t) (body_is (distinct_is i) l z) _ tt done)
  safe_call_read t _ _ _ k _ _ w distinct_none arguments_none z rest = else_on (no_distinct false [] [] w rest arguments_none (tail_ends t false false [] k w rest z)) _ _
      (peeked (class_of by_arg arguments_lexeme) (safe_cast_by n b t) (tail_ends t false false [] k w rest z).is (last (call_body_read t) (body_is distinct_none arguments_none z) _ tt done))
  safe_call_read t _ _ _ k _ _ w distinct_none (arguments_star {t = j} i) z rest = else_on (no_distinct true [] (j ∷ []) w rest (arguments_star i) (tail_ends t false true [] k w rest z)) _ _
      (peeked (class_of by_arg arguments_lexeme) (safe_cast_by n b t) (s_test s.Star arguments_lexeme i refl) (last (call_body_read t) (body_is distinct_none (arguments_star i) z) _ tt done))
  safe_call_read t _ _ _ k _ _ w distinct_none (arguments_are {a = a} {ms = ms} {u = u} {v = v} l z) g rest =
      let h = tail_ends t false false (a ∷ ms) k w rest g in
      else_on (no_distinct false (a ∷ ms) (u ++ v) w rest (arguments_are l z) h) _ _
      (peeked (class_of by_arg arguments_lexeme) (safe_cast_by n b t)
      (subst (λ (q : Tokens). class_of by_arg arguments_lexeme (next q) ≡ by_arg) (sym (ap (λ (q : Tokens). q ++ rest) (append_assoc u v w) ∙ append_assoc u (v ++ w) rest)) (arg_starts a u ((v ++ w) ++ rest) l).is)
      (subst (λ (q : Tokens). length (q ++ rest) < n → (argument n b >>= cast_or_call n b t) (q ++ rest) ≡ taken (e.Call k t.start) rest) (sym (append_assoc u v w))
      (part (argument_read n b x) l (v ++ w) rest (cast_or_call n b t) (subst ArgEnds (sym (append_assoc v w rest)) (args_arg_ends ms v (w ++ rest) z h))
      (λ lt. no_cast t a ((v ++ w) ++ rest) (over_not_r {k = 14} (on w rest (args_ahead ms v z) (omega arith) (weak (omega arith) (ends_over (w ++ rest) h))) r.As (omega arith)) ∙ call_from_by t a ms v w k z g rest (omega arith)))))

  safe_by : (t : Token) (k : Call Expr) (u : Tokens) → BodyOf t k u → (rest : Tokens) → length (u ++ rest) < n → safe_cast n b t (u ++ rest) ≡ taken (e.Call k t.start) rest
  safe_by t _ _ (body_is {d = d} {star = star} {ms = ms} {k = k} {u = u} {v = v} {w = w} i l z) rest = safe_call_read t d star ms k u v w i l z rest

  abbrev name_call : Token → Bool → Parser Expr
  name_call t c = elim c [ true ↦ safe_cast n b t | false ↦ call_body n b t >>= (λ k. pure (e.Call k t.start)) ]

  name_call_by : (t : Token) (k : Call Expr) (u : Tokens) → BodyOf t k u → (rest : Tokens) → length (u ++ rest) < n → (c : Bool) → name_call t c (u ++ rest) ≡ taken (e.Call k t.start) rest
  name_call_by t k u l rest lt true = safe_by t k u l rest lt
  name_call_by t k u l rest lt false = last (call_body_read t) l _ tt done lt

  -- a call behind the name of its function
  pub called_read : (t : Token) (k : Call Expr) (u : Tokens) → CallOf k (t ∷ u) → (rest : Tokens) → length (u ++ rest) < suc n → called n b t (u ++ rest) ≡ taken (e.Call k t.start) rest
  unfolding called
  called_read t k u l rest lt = by k u (after_call t k u l) lt
    where
      by : (k : Call Expr) (u : Tokens) → AfterOf (sign s.OpenRound) (BodyOf t) k u → length (u ++ rest) < suc n → called n b t (u ++ rest) ≡ taken (e.Call k t.start) rest
      by k _ (after_of {u = u} io z) = tok io _ (λ lt. name_call_by t k u z rest lt (word w.SafeCast t))

  -- SAFE_CAST "(" expr AS type ")" behind its name
  pub safe_cast_read : (t o y c : Token) (a : Expr) (z : TypeSpelling) (u v : Tokens) → Is (word w.SafeCast) t → Is (sign s.OpenRound) o → ExprOf a u → Is (reserved r.As) y → TypeOf type_levels z v → Is (sign s.CloseRound) c
      → (rest : Tokens) → length ((o ∷ (u ++ (y ∷ (v ++ (c ∷ []))))) ++ rest) < suc n → called n b t ((o ∷ (u ++ (y ∷ (v ++ (c ∷ []))))) ++ rest) ≡ taken (e.Cast true a z t.start) rest
  unfolding called safe_cast
  safe_cast_read t o y c a z u v it io l iy lz ic rest = tok io _ (λ lt. ap (λ d. name_call t d ((u ++ (y ∷ (v ++ (c ∷ [])))) ++ rest)) it.is ∙ cast lt)
    where
      starts : ArgStarts (u ++ ((y ∷ (v ++ (c ∷ []))) ++ rest))
      starts = arg_starts (arg.Expr a) u ((y ∷ (v ++ (c ∷ []))) ++ rest) (arg_expr l)

      at : ArgStarts ((u ++ (y ∷ (v ++ (c ∷ [])))) ++ rest)
      at = subst ArgStarts (sym (append_assoc u (y ∷ (v ++ (c ∷ []))) rest)) starts

      cast : length ((u ++ (y ∷ (v ++ (c ∷ [])))) ++ rest) < n → safe_cast n b t ((u ++ (y ∷ (v ++ (c ∷ [])))) ++ rest) ≡ taken (e.Cast true a z t.start) rest
      cast = else_on at.no_distinct _ _ (peeked (class_of by_arg arguments_lexeme) (safe_cast_by n b t) at.is
          (part (argument_read n b x) (arg_expr l) (y ∷ (v ++ (c ∷ []))) rest (cast_or_call n b t) (record { over = over_r r.As iy (omega arith); no_arrow = r_test r.As (sign_lexeme s.Arrow) iy refl })
          (then_on iy.is _ _ (only (less (cast_end_read true t.start a)) (cast_ends iy lz ic) tt))))
