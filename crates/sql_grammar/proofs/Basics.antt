-- The readers of basic expressions are exact.
use Rattle.std.proofs.Common.{◌≡◌, ℕ, suc, ◌≤◌, Bool, true, false, List, [], ◌∷◌, ◌++◌, length, Option, Some, None, refl, sym, ap, subst, arith}
use Rattle.std.proofs.lemmas.List.{append_assoc, append-nil}
use Rattle.fronts.specs.Fronts.{Language}
use Rattle.fronts.specs.Readers.{◌>>=◌, pure, peek, if_comes}
use Rattle.fronts.proofs.Agrees.{Found}
use Rattle.fronts.proofs.Firm.{Opens, Hungry, hungry, opens}
use Rattle.fronts.proofs.Exact.{Exact, bind, either, last, into, done, less, exact_many, exact_peek, exact_refuse, exact_noting, hungry_solid, hungry_bind, opens_bind}
use Rattle.sql_ast.specs.declared.clauses.Aliased.{Aliased}
use Rattle.sql_ast.specs.declared.clauses.Arg.{Arg}
use Rattle.sql_ast.specs.declared.clauses.Binding.{Binding}
use Rattle.sql_ast.specs.declared.clauses.When.{When}
use Rattle.sql_ast.specs.declared.expr.Expr.{Expr}
use Rattle.sql_ast.specs.declared.expr.Part.{Part}
use Rattle.sql_ast.specs.declared.query.Query.{Query}
use Rattle.sql_ast.specs.declared.token.Token.{Token}
use Rattle.sql_ast.specs.declared.type_spelling.TypeField.{TypeField}
use Rattle.sql_ast.specs.declared.type_spelling.TypeSpelling.{TypeSpelling}
use Rattle.sql_names.specs.declared.words.Reserved.{Reserved}
use Rattle.sql_ast.specs.declared.clauses.Arg.TheVariants as arg_kind
use Rattle.sql_ast.specs.declared.expr.Expr.TheVariants as e
use Rattle.sql_names.specs.declared.words.Reserved.TheVariants as r
use Rattle.sql_ast.specs.declared.words.Sign.TheVariants as s
use Rattle.sql_ast.specs.declared.words.Word.TheVariants as w
use Rattle.sql_ast.specs.Marks.{Tokens, Is, reserved, sign, word, named}
use Rattle.sql_ast.specs.Trees.{name_at, function_of, alone}
use Rattle.sql_ast.specs.Grammar.{ArgOf, ArrayItemsOf, BasicOf, BindingOf, BindingsOf, CallOf, ElseOf, ExprOf, ListOf, MemberOf, MembersOf, PartOf, PartsOf, PostfixOf, QueryOf, SubjectOf, WhenOf, WhensOf, arg_expr, array_empty, array_items, basic_array_query, basic_array_typed, basic_array_word, basic_call, basic_case, basic_cast, basic_exists, basic_extract, basic_group, basic_grouping, basic_query, basic_safe_cast, basic_struct, basic_tuple, basic_typed_struct, basic_with, binding_is, bindings_more, bindings_none, commas_more, commas_none, else_is, else_none, list_is, member_as, member_plain, members_none, part_field, part_index, parts_more, parts_none, subject_is, subject_none, when_is, whens_none}
use Rattle.sql_ast.specs.Parts.{distinct_none, type_levels}
use Rattle.sql_grammar.specs.Ways.{Ended}
use Rattle.sql_grammar.specs.Classes.{class_of, arguments_lexeme, ArgumentsStart, by_star, by_nothing, by_arg}
use Rattle.sql_grammar.specs.Exprs.{tells, single_name, grouped_exprs, grouped, starred, after, bracketed_query, call_body, call_from, cast_or_call, safe_cast_by, safe_cast, called, when, otherwise, subject, case, cast, extract, grouping, exists, array_from, array, member, comma_member, struct, bound, with_after, with_item, with_end, with_body, with_expr, Held, Below, held_query, held_exprs}
use Rattle.sql_grammar.proofs.Ways.{FoundTo, exact_until}
use Rattle.sql_grammar.proofs.Marks.{the_reserved, the_sign, some_name, is_example, tok, also, opt_also, tok_opens, Taker, taker, AfterOf, after_of, after_solid, after_exact, after_opens}
use Rattle.sql_grammar.proofs.Words.{ClosedOf, whole_type_exact, typed_fields_exact, closed_fields}
use Rattle.sql_grammar.proofs.Solid.{no_expr, some_expr}
use Rattle.sql_grammar.proofs.Calls.{Under, Bracketed, Placed, Closed, members_at, whens_at, when_solid, bracketed_exact, bracketed_query_exact, list_behind, argument_exact, arguments_from_exact, argument_hungry, call_tail_exact, call_body_exact, cast_end_exact, cast_end_opens, bracketed_is, placed_is, closed_is}
use Rattle.std.proofs.lemmas.Bool.{and_parts}

-- ---- what is read with a basic expression, and what parentheses hold

pub data OpenedOf (star : Bool) : Expr × Ended (Part Expr) Token → Tokens → Type 0 where
  opened_plain : {a : Expr} {ps : List (Part Expr)} {u v : Tokens} → BasicOf a u → PartsOf ps v → OpenedOf star (a, (ps, None)) (u ++ v)
  opened_star : {a : Expr} {ps : List (Part Expr)} {d t : Token} {u v : Tokens} → star ≡ true → BasicOf a u → PartsOf ps v → Is (sign s.Dot) d → Is (sign s.Star) t
      → OpenedOf star (a, (ps, Some t)) (u ++ (v ++ (d ∷ t ∷ [])))

pub data StarOf (star : Bool) : Expr × Option Token → Tokens → Type 0 where
  star_none : {a : Expr} {u : Tokens} → PostfixOf a u → StarOf star (a, None) u
  star_is : {a : Expr} {d t : Token} {u : Tokens} → star ≡ true → PostfixOf a u → Is (sign s.Dot) d → Is (sign s.Star) t → StarOf star (a, Some t) (u ++ (d ∷ t ∷ []))

pub data PartsTo (star : Bool) : Ended (Part Expr) Token → Tokens → Type 0 where
  parts_to_end : {ps : List (Part Expr)} {u : Tokens} → PartsOf ps u → PartsTo star (ps, None) u
  parts_to_star : {ps : List (Part Expr)} {d t : Token} {u : Tokens} → star ≡ true → PartsOf ps u → Is (sign s.Dot) d → Is (sign s.Star) t → PartsTo star (ps, Some t) (u ++ (d ∷ t ∷ []))

pub data PartTo (star : Bool) : Ended (Part Expr) Token → Tokens → Type 0 where
  part_to : {p : Part Expr} {u : Tokens} → PartOf p u → PartTo star (p ∷ [], None) u
  part_to_star : {d t : Token} → star ≡ true → Is (sign s.Dot) d → Is (sign s.Star) t → PartTo star ([], Some t) (d ∷ t ∷ [])

pub part_to_solid : (star : Bool) (a : Ended (Part Expr) Token) (u : Tokens) → PartTo star a u → 1 ≤ length u
part_to_solid star _ _ (part_to (part_field i j)) = omega arith
part_to_solid star _ _ (part_to (part_index i j g l c d)) = omega arith
part_to_solid star _ _ (part_to_star h i j) = omega arith

pub parts_more_to : (star : Bool) (xs : List (Part Expr)) (u : Tokens) (ls : List (Part Expr)) (o : Option Token) (v : Tokens) → PartTo star (xs, None) u → PartsTo star (ls, o) v → PartsTo star (xs ++ ls, o) (u ++ v)
parts_more_to star _ _ _ _ _ (part_to l) (parts_to_end z) = parts_to_end (parts_more l z)
parts_more_to star _ _ _ _ _ (part_to {p = p} {u = u} l) (parts_to_star {ps = ps} {d = d} {t = t} {u = v} h z i j) =
    subst (PartsTo star (p ∷ ps, Some t)) (append_assoc u v (d ∷ t ∷ [])) (parts_to_star h (parts_more l z) i j)

pub parts_end_to : (star : Bool) (xs : List (Part Expr)) (e : Token) (u : Tokens) → PartTo star (xs, Some e) u → PartsTo star (xs, Some e) u
parts_end_to star _ _ _ (part_to_star h i j) = parts_to_star h parts_none i j

pub parts_join : (ps : List (Part Expr)) (u : Tokens) (qs : List (Part Expr)) (v : Tokens) → PartsOf ps u → PartsOf qs v → PartsOf (ps ++ qs) (u ++ v)
parts_join _ _ qs v parts_none z = z
parts_join _ _ qs v (parts_more {p = p} {ps = ps} {u = u} {v = w} i l) z = subst (PartsOf (p ∷ (ps ++ qs))) (sym (append_assoc u w v)) (parts_more i (parts_join ps w qs v l z))

pub opened_basic : (star : Bool) (a : Expr) (u : Tokens) → BasicOf a u → OpenedOf star (a, ([], None)) u
opened_basic star a u l = subst (OpenedOf star (a, ([], None))) (append-nil u) (opened_plain l parts_none)

-- where a `*` is permitted and comes
pub starred_is : (star : Bool) (t : Token) → starred star t ≡ true → (star ≡ true) × Is (sign s.Star) t
starred_is star t h = let g = and_parts star (sign s.Star t) h in (g.0, record { is = g.1 })

-- what the parentheses hold, before the one that closes them
pub data HeldOf : Held → Tokens → Type 0 where
  holds_query : {q : Query} {c : Token} {u : Tokens} → QueryOf q u → Is (sign s.CloseRound) c → HeldOf (held_query q) (u ++ (c ∷ []))
  holds_exprs : {xs : List Expr} {c : Token} {u : Tokens} → ListOf xs u → alone xs ≡ false → Is (sign s.CloseRound) c → HeldOf (held_exprs xs) (u ++ (c ∷ []))

pub single_list : (xs : List Expr) (u : Tokens) → ListOf xs u → (a : Expr) → xs ≡ a ∷ [] → ExprOf a u
single_list _ _ (list_is {a = b} {u = u} l commas_none) a e = let is : b ≡ a = cc in subst (λ (c : Expr). ExprOf c (u ++ [])) is (subst (ExprOf b) (sym (append-nil u)) l)
single_list _ _ (list_is l (commas_more i k z)) a e = absurd cc

pub no_list : (xs : List Expr) (u : Tokens) → ListOf xs u → xs ≡ [] → ⊥
no_list _ _ (list_is i j) e = cc

pub group_by_list : (o c : Token) → Is (sign s.OpenRound) o → Is (sign s.CloseRound) c → (xs : List Expr) (u : Tokens) → ListOf xs u → alone xs ≡ false → BasicOf (grouped_exprs o.start xs) (o ∷ (u ++ (c ∷ [])))
unfolding alone
group_by_list o c io ic [] u l h = absurd (no_list [] u l refl)
group_by_list o c io ic (a ∷ []) u l h = basic_group io (single_list (a ∷ []) u l a refl) h ic
group_by_list o c io ic (a ∷ d ∷ ys) u l h = basic_tuple io l ic

-- the expression of brackets that hold this
pub group_from : (o : Token) → Is (sign s.OpenRound) o → (h : Held) (u : Tokens) → HeldOf h u → BasicOf (grouped o.start h) (o ∷ u)
group_from o io _ _ (holds_query l ic) = basic_query io l ic
group_from o io _ _ (holds_exprs {xs = xs} {c = c} {u = u} l h ic) = group_by_list o c io ic xs u l h

-- ---- WITH expressions

pub data WithTo : Ended (Binding Expr) Expr → Tokens → Type 0 where
  with_more_is : {t : Token} {a : Binding Expr} {u : Tokens} → Is (sign s.Comma) t → BindingOf a u → WithTo (a ∷ [], None) (t ∷ u)
  with_result : {t : Token} {a : Expr} {u : Tokens} → Is (sign s.Comma) t → ExprOf a u → WithTo ([], Some a) (t ∷ u)

pub data WithsTo : Ended (Binding Expr) Expr → Tokens → Type 0 where
  withs_none : {ds : List (Binding Expr)} {u : Tokens} → BindingsOf ds u → WithsTo (ds, None) u
  withs_result : {t : Token} {ds : List (Binding Expr)} {a : Expr} {u v : Tokens} → BindingsOf ds u → Is (sign s.Comma) t → ExprOf a v → WithsTo (ds, Some a) (u ++ (t ∷ v))

pub with_to_solid : (a : Ended (Binding Expr) Expr) (u : Tokens) → WithTo a u → 1 ≤ length u
with_to_solid _ _ (with_more_is i l) = omega arith
with_to_solid _ _ (with_result i l) = omega arith

pub withs_more : (xs : List (Binding Expr)) (u : Tokens) (ls : List (Binding Expr)) (o : Option Expr) (v : Tokens) → WithTo (xs, None) u → WithsTo (ls, o) v → WithsTo (xs ++ ls, o) (u ++ v)
withs_more _ _ _ _ _ (with_more_is i l) (withs_none z) = withs_none (bindings_more i l z)
withs_more _ _ _ _ _ (with_more_is {t = t} {a = a} {u = u} i l) (withs_result {t = k} {ds = ds} {a = c} {u = v} {v = w} z j lc) =
    subst (WithsTo (a ∷ ds, Some c)) (append_assoc (t ∷ u) v (k ∷ w)) (withs_result (bindings_more i l z) j lc)

pub withs_end : (xs : List (Binding Expr)) (e : Expr) (u : Tokens) → WithTo (xs, Some e) u → WithsTo (xs, Some e) u
withs_end _ _ _ (with_result i l) = withs_result bindings_none i l

-- a name that was read alone
pub single_is : (u : Tokens) (b : Token) → single_name u ≡ Some b → (Is named b) × (u ≡ b ∷ [])
single_is [] b e = absurd cc
single_is (t ∷ []) b e = by (named t) refl e
  where
    by : (c : Bool) → named t ≡ c → (elim c [ true ↦ Some t | false ↦ None ]) ≡ Some b → (Is named b) × (t ∷ [] ≡ b ∷ [])
    by true h g = let is : t ≡ b = cc in (subst (Is named) is (record { is = h }), ap (λ (z : Token). z ∷ []) is)
    by false h g = absurd cc
single_is (t ∷ k ∷ u) b e = absurd cc

pub members_found : (t o : Token) → Is (reserved r.Struct) t → Is (sign s.OpenRound) o → (a : Aliased Expr) (u : Tokens) → MemberOf a u → (xs : List (Aliased Expr)) (v : Tokens) → Found MembersOf (a ∷ []) xs v
    → (c : Token) → Is (sign s.CloseRound) c → BasicOf (e.Struct xs t.start) (t ∷ o ∷ (u ++ (v ++ (c ∷ []))))
members_found t o it io a u l xs v (ls, z, f) c ic = subst (λ (q : List (Aliased Expr)). BasicOf (e.Struct q t.start) (t ∷ o ∷ (u ++ (v ++ (c ∷ []))))) (sym f) (basic_struct it io l z ic)

pub case_found : (t : Token) → Is (reserved r.Case) t → (a : Option Expr) (u : Tokens) → SubjectOf a u → (w : When Expr) (v : Tokens) → WhenOf w v → (xs : List (When Expr)) (y : Tokens) → Found WhensOf (w ∷ []) xs y
    → (o : Option Expr) (z : Tokens) → ElseOf o z → (d : Token) → Is (reserved r.End) d → BasicOf (e.Case a xs o t.start) (t ∷ (u ++ (v ++ (y ++ (z ++ (d ∷ []))))))
case_found t it a u la w v lw xs y (ls, q, f) o z lo d id = subst (λ (k : List (When Expr)). BasicOf (e.Case a k o t.start) (t ∷ (u ++ (v ++ (y ++ (z ++ (d ∷ []))))))) (sym f) (basic_case it la lw q lo id)

pub typed_from : (t k o : Token) → Is (reserved r.Struct) t → Is (sign s.Less) k → Is (sign s.OpenRound) o → (fs : List (TypeField TypeSpelling)) (u : Tokens) → ClosedOf type_levels fs u → (xs : List Expr) (v : Tokens) → Closed s.CloseRound ListOf xs v
    → BasicOf (e.TypedStruct fs xs o.start t.start) (t ∷ k ∷ (u ++ (o ∷ v)))
typed_from t k o it ik io _ _ (closed_fields {fs = fs} {u = u} {c = g} lf ig) _ _ (closed_is {c = c} {a = xs} {u = v} l ic) =
    subst (λ (w : Tokens). BasicOf (e.TypedStruct fs xs o.start t.start) (t ∷ k ∷ w)) (sym (append_assoc u (g ∷ []) (o ∷ (v ++ (c ∷ []))))) (basic_typed_struct it ik lf ig io l ic)

module _ (n m : ℕ) (up : n ≤ m) (b b' : Below) (x : Under n b b') where
  -- ---- calls by a name

  pub call_from_exact : (t o : Token) → Is (tells function_of) t → Is (sign s.OpenRound) o → (a : Arg Expr) (u : Tokens) → ArgOf a u → Exact n (λ c v. BasicOf c (t ∷ o ∷ (u ++ v))) (call_from n b t a) (call_from m b' t a)
  unfolding call_from
  call_from_exact t o it io a u l = bind (arguments_from_exact n m up b b' x a u l) (λ xs v z. last (λ k. e.Call k t.start) (call_tail_exact n m up b b' x t o it io false false xs [] (u ++ v) distinct_none z)
      (λ k w lk. basic_call (subst (λ (y : Tokens). CallOf k (t ∷ o ∷ y)) (append_assoc u v w) lk)))

  pub plain_arg : (a : Expr) (u : Tokens) → ArgOf (arg_kind.Expr a) u → ExprOf a u
  plain_arg _ _ (arg_expr l) = l

  pub cast_or_call_exact : (t o : Token) → Is (word w.SafeCast) t → Is (tells function_of) t → Is (sign s.OpenRound) o → (a : Arg Expr) (u : Tokens) → ArgOf a u
      → Exact n (λ c v. BasicOf c (t ∷ o ∷ (u ++ v))) (cast_or_call n b t a) (cast_or_call m b' t a)
  cast_or_call_exact t o iw it io (arg_kind.Expr a) u l = either (reserved r.As) (λ z h. opens (cast_end_opens n m up b b' x true t.start a z h))
      (less (cast_end_exact n m up b b' x _ true t.start a (λ y c z v iy lz ic. basic_safe_cast iw io (plain_arg a u l) iy lz ic)))
      (call_from_exact t o it io (arg_kind.Expr a) u l)
  cast_or_call_exact t o iw it io (arg_kind.Lambda ns a p) u l = call_from_exact t o it io (arg_kind.Lambda ns a p) u l
  cast_or_call_exact t o iw it io (arg_kind.Interval a p q) u l = call_from_exact t o it io (arg_kind.Interval a p q) u l

  pub body_exact : (t o : Token) → Is (tells function_of) t → Is (sign s.OpenRound) o → Exact n (λ c v. BasicOf c (t ∷ o ∷ v)) (call_body n b t >>= (λ k. pure (e.Call k t.start))) (call_body m b' t >>= (λ k. pure (e.Call k t.start)))
  body_exact t o it io = last (λ k. e.Call k t.start) (call_body_exact n m up b b' x t o it io) (λ k w l. basic_call l)

  pub safe_cast_kinds : (t o : Token) → Is (word w.SafeCast) t → Is (tells function_of) t → Is (sign s.OpenRound) o → (k : ArgumentsStart) → Exact n (λ c v. BasicOf c (t ∷ o ∷ v)) (safe_cast_by n b t k) (safe_cast_by m b' t k)
  safe_cast_kinds t o iw it io by_arg = bind (argument_exact n m up b b' x) (λ a u l. cast_or_call_exact t o iw it io a u l)
  safe_cast_kinds t o iw it io by_star = body_exact t o it io
  safe_cast_kinds t o iw it io by_nothing = body_exact t o it io

  pub safe_cast_hungry : (t : Token) → Hungry (peek (class_of by_arg arguments_lexeme) >>= safe_cast_by m b' t)
  safe_cast_hungry t = record { wants = λ a e. (argument_hungry n m up b b' x (cast_or_call m b' t)).wants a e }

  pub safe_cast_exact : (t o : Token) → Is (word w.SafeCast) t → Is (tells function_of) t → Is (sign s.OpenRound) o → Exact n (λ c v. BasicOf c (t ∷ o ∷ v)) (safe_cast n b t) (safe_cast m b' t)
  unfolding safe_cast
  safe_cast_exact t o iw it io = either (reserved r.Distinct) (λ z h. hungry (safe_cast_hungry t)) (body_exact t o it io)
      (exact_peek n _ (class_of by_arg arguments_lexeme) (safe_cast_by n b t) (safe_cast_by m b' t) (λ z k h. hungry (argument_hungry n m up b b' x (cast_or_call m b' t))) (safe_cast_kinds t o iw it io))

  pub called_by : (t o : Token) → Is (tells function_of) t → Is (sign s.OpenRound) o → (c : Bool) → word w.SafeCast t ≡ c → Exact n (λ c v. BasicOf c (t ∷ o ∷ v)) (elim c [ true ↦ safe_cast n b t | false ↦ call_body n b t >>= (λ k. pure (e.Call k t.start)) ])
      (elim c [ true ↦ safe_cast m b' t | false ↦ call_body m b' t >>= (λ k. pure (e.Call k t.start)) ])
  called_by t o it io true h = safe_cast_exact t o (record { is = h }) it io
  called_by t o it io false h = body_exact t o it io

  pub called_exact : (t : Token) → Is (tells function_of) t → Exact (suc n) (λ c v. BasicOf c (t ∷ v)) (called n b t) (called m b' t)
  unfolding called
  called_exact t it = tok (the_sign s.OpenRound) (λ o io. called_by t o it io (word w.SafeCast t) refl)

  -- ---- basic expressions of one word

  pub when_from : (c d : Expr) (u v : Tokens) → AfterOf (reserved r.When) ExprOf c u → AfterOf (reserved r.Then) ExprOf d v → WhenOf (record { test = c; result = d }) (u ++ v)
  when_from _ _ _ _ (after_of i l) (after_of j k) = when_is i l j k

  pub after_word : (y : Reserved) → Exact (suc n) (AfterOf (reserved y) ExprOf) (after n b (reserved y)) (after m b' (reserved y))
  unfolding after
  after_word y = after_exact (the_reserved y) x.inner

  pub after_word_opens : (y : Reserved) (t : Token) → reserved y t ≡ true → Opens t (after m b' (reserved y))
  unfolding after
  after_word_opens y t h = after_opens (the_reserved y) x.inner t h

  pub when_exact : Exact (suc n) WhenOf (when n b) (when m b')
  unfolding when
  when_exact = bind (after_word r.When) (λ c u l. last (λ d. record { test = c; result = d }) (after_word r.Then) (λ d v k. when_from c d u v l k))

  pub when_opens : (t : Token) → reserved r.When t ≡ true → Opens t (when m b')
  unfolding when
  when_opens t h = opens_bind (after_word_opens r.When t h) (after_word r.When) (λ c u l. last (λ d. record { test = c; result = d }) (after_word r.Then) (λ d v k. tt))

  pub else_from : (a : Expr) (u : Tokens) → AfterOf (reserved r.Else) ExprOf a u → ElseOf (Some a) u
  else_from _ _ (after_of i l) = else_is i l

  pub otherwise_exact : Exact (suc n) ElseOf (otherwise n b) (otherwise m b')
  unfolding otherwise
  otherwise_exact = either (reserved r.Else) (λ t h. opens (opens_bind (after_word_opens r.Else t h) (after_word r.Else) (λ a u l. done {n = 0} tt))) (last Some (after_word r.Else) else_from) (done else_none)

  pub subject_exact : Exact n SubjectOf (subject n b) (subject m b')
  unfolding subject
  subject_exact = either (reserved r.When) (λ t h. hungry (hungry_bind x.inner _ (hungry_solid x.inner no_expr))) (done subject_none) (last Some x.inner (λ a u l. subject_is l))

  pub case_taker : Taker (suc n) (reserved r.Case) BasicOf (case n b) (case m b')
  unfolding case
  case_taker = taker (the_reserved r.Case) (λ t it. bind subject_exact (λ a u la. bind (less when_exact) (λ y v ly.
      bind (exact_many WhenOf WhensOf (reserved r.When) (when n b) (when m b') whens_none whens_at when_solid when_opens n m n up (omega arith) (less when_exact) (y ∷ [])) (λ ys z f.
      bind (less otherwise_exact) (λ o q lo. also (the_reserved r.End) (λ d id. done (case_found t it a u la y v ly ys z f o q lo d id)))))))

  pub cast_taker : Taker (suc n) (reserved r.Cast) BasicOf (cast n b) (cast m b')
  unfolding cast
  cast_taker = taker (the_reserved r.Cast) (λ t it. also (the_sign s.OpenRound) (λ o io. bind x.inner (λ a u l. less (cast_end_exact n m up b b' x _ false t.start a (λ y c z v iy lz ic. basic_cast it io l iy lz ic)))))

  pub extract_taker : Taker (suc n) (reserved r.Extract) BasicOf (extract n b) (extract m b')
  unfolding extract
  extract_taker = taker (the_reserved r.Extract) (λ t it. also (the_sign s.OpenRound) (λ o io. also some_name (λ z iz. also (the_reserved r.From) (λ y iy. bind x.inner (λ a u l. also (the_sign s.CloseRound) (λ c ic. done (basic_extract it io iz iy l ic)))))))

  pub grouping_from : (t : Token) → Is (reserved r.Grouping) t → (a : Expr) (u : Tokens) → Bracketed ExprOf a u → BasicOf (e.Grouping a t.start) (t ∷ u)
  grouping_from t it _ _ (bracketed_is io l ic) = basic_grouping it io l ic

  pub grouping_taker : Taker (suc n) (reserved r.Grouping) BasicOf (grouping n b) (grouping m b')
  unfolding grouping
  grouping_taker = taker (the_reserved r.Grouping) (λ t it. last (λ a. e.Grouping a t.start) (less (bracketed_exact n m up b b' x)) (grouping_from t it))

  pub exists_from : (t : Token) → Is (reserved r.Exists) t → (q : Query × ℕ) (u : Tokens) → Placed QueryOf q u → BasicOf (e.Exists q.0 t.start) (t ∷ u)
  exists_from t it _ _ (placed_is io l ic) = basic_exists it io l ic

  pub exists_taker : Taker (suc n) (reserved r.Exists) BasicOf (exists n b) (exists m b')
  unfolding exists
  exists_taker = taker (the_reserved r.Exists) (λ t it. last (λ (q : Query × ℕ). e.Exists q.0 t.start) (less (bracketed_query_exact n m up b b' x)) (exists_from t it))

  pub items_from_closed : (d : Token) → Is (sign s.OpenSquare) d → (xs : List Expr) (u : Tokens) → Closed s.CloseSquare ListOf xs u → ArrayItemsOf xs d (d ∷ u)
  items_from_closed d id _ _ (closed_is l ic) = array_items id l ic

  pub array_from_taker : (M : Language Token Expr) (element : Option TypeSpelling) (from : Option ℕ) → ((d : Token) (xs : List Expr) (u : Tokens) → ArrayItemsOf xs d u → M (e.Array element xs d.start (elim from [ None ↦ d.start | Some p ↦ p ])) u)
      → Taker (suc n) (sign s.OpenSquare) M (array_from n b element from) (array_from m b' element from)
  unfolding array_from
  array_from_taker M element from h = taker (the_sign s.OpenSquare) (λ d id. last (λ xs. e.Array element xs d.start (elim from [ None ↦ d.start | Some p ↦ p ]))
      (opt_also {M = λ xs v. ArrayItemsOf xs d (d ∷ v)} (the_sign s.CloseSquare) (λ c ic. done (array_empty id ic)) (bind x.inner (λ a u l. into (list_behind n m up b b' x s.CloseSquare a u l) (λ xs v z. items_from_closed d id xs (u ++ v) z))))
      (λ xs v z. h d xs (d ∷ v) z))

  pub array_query_from : (t : Token) → Is (reserved r.Array) t → (q : Query × ℕ) (u : Tokens) → Placed QueryOf q u → BasicOf (e.ArrayQuery q.0 q.1 t.start) (t ∷ u)
  array_query_from t it _ _ (placed_is io l ic) = basic_array_query it io l ic

  pub bracket_query_opens : {A : Type 0} (f : Query × ℕ → A) (t : Token) → sign s.OpenRound t ≡ true → Opens t (bracketed_query m b' >>= (λ q. pure (f q)))
  unfolding bracketed_query
  bracket_query_opens f t h = opens_bind (tok_opens h (λ o io. bind x.query (λ a u l. also (the_sign s.CloseRound) (λ c ic. done tt)))) (bracketed_query_exact n m up b b' x) (λ q u l. done {n = 0} tt)

  pub array_taker : Taker (suc n) (reserved r.Array) BasicOf (array n b) (array m b')
  unfolding array
  array_taker = taker (the_reserved r.Array) (λ t it. either (sign s.OpenRound) (λ z h. opens (bracket_query_opens _ z h)) (last (λ (q : Query × ℕ). e.ArrayQuery q.0 q.1 t.start) (less (bracketed_query_exact n m up b b' x)) (array_query_from t it))
      (opt_also (the_sign s.Less) (λ o io. bind (less (whole_type_exact n m up)) (λ y v ly. also (the_sign s.Greater) (λ c ic. less (array_from_taker _ (Some y) (Some t.start) (λ d xs u z. basic_array_typed it io ly ic z)).exact)))
      (less (array_from_taker _ None (Some t.start) (λ d xs u z. basic_array_word it z)).exact)))

  pub member_exact : Exact n MemberOf (member n b) (member m b')
  unfolding member
  member_exact = bind x.inner (λ a u l. opt_also (the_reserved r.As) (λ t it. also some_name (λ z iz. done (member_as l it iz))) (done (subst (MemberOf (record { expr = a; alias = None })) (sym (append-nil u)) (member_plain l))))

  pub comma_member_exact : Exact (suc n) (AfterOf (sign s.Comma) MemberOf) (comma_member n b) (comma_member m b')
  unfolding comma_member
  comma_member_exact = after_exact (the_sign s.Comma) member_exact

  pub comma_member_opens : (t : Token) → sign s.Comma t ≡ true → Opens t (comma_member m b')
  unfolding comma_member
  comma_member_opens t h = after_opens (the_sign s.Comma) member_exact t h

  pub struct_taker : Taker (suc n) (reserved r.Struct) BasicOf (struct n b) (struct m b')
  unfolding struct
  struct_taker = taker (the_reserved r.Struct) (λ t it. opt_also (the_sign s.Less)
      (λ k ik. bind (less (typed_fields_exact n m up)) (λ fs u lf. also (the_sign s.OpenRound) (λ o io. bind x.inner (λ a v l. last (λ xs. e.TypedStruct fs xs o.start t.start) (list_behind n m up b b' x s.CloseRound a v l) (λ xs w z. typed_from t k o it ik io fs u lf xs (v ++ w) z)))))
      (also (the_sign s.OpenRound) (λ o io. bind member_exact (λ a u l.
      bind (exact_many (AfterOf (sign s.Comma) MemberOf) MembersOf (sign s.Comma) (comma_member n b) (comma_member m b') members_none members_at (after_solid (sign s.Comma) MemberOf) comma_member_opens n m n up (omega arith) (less comma_member_exact) (a ∷ []))
      (λ xs v f. also (the_sign s.CloseRound) (λ c ic. done (members_found t o it io a u l xs v f c ic)))))))

  -- ---- WITH expressions

  pub bound_exact : (z : Token) → Is named z → Exact (suc n) (λ a v. BindingOf a (z ∷ v)) (bound n b z) (bound m b' z)
  unfolding bound
  bound_exact z iz = tok (the_reserved r.As) (λ y iy. last (λ a. record { name = name_at z; expr = a }) x.inner (λ a v l. binding_is iz iy l))

  pub bound_opens : (z t : Token) → reserved r.As t ≡ true → Opens t (bound m b' z)
  unfolding bound
  bound_opens z t h = tok_opens h (λ y iy. last (λ a. record { name = name_at z; expr = a }) x.inner (λ a v l. tt))

  pub with_by : (k : Token) → Is (sign s.Comma) k → (w : Tokens) (o : Option Token) → single_name w ≡ o → (a : Expr) → ExprOf a w
      → Exact n (λ c v. WithTo c (k ∷ (w ++ v))) (elim o [ None ↦ pure ([], Some a) | Some z ↦ if_comes (reserved r.As) (bound n b z >>= (λ y. pure (y ∷ [], None))) (pure ([], Some a)) ])
      (elim o [ None ↦ pure ([], Some a) | Some z ↦ if_comes (reserved r.As) (bound m b' z >>= (λ y. pure (y ∷ [], None))) (pure ([], Some a)) ])
  with_by k ik w None e a l = done (with_result ik (subst (ExprOf a) (sym (append-nil w)) l))
  with_by k ik w (Some z) e a l =
      let g = single_is w z e in
      either (reserved r.As) (λ t h. opens (opens_bind (bound_opens z t h) (bound_exact z g.0) (λ y v ly. done {n = 0} tt)))
      (last (λ y. (y ∷ [], None)) (less (bound_exact z g.0)) (λ y v ly. subst (λ (q : Tokens). WithTo (y ∷ [], None) (k ∷ (q ++ v))) (sym g.1) (with_more_is ik ly)))
      (done (with_result ik (subst (ExprOf a) (sym (append-nil w)) l)))

  pub with_after_exact : (k : Token) → Is (sign s.Comma) k → (w : Tokens) (a : Expr) (u : Tokens) → w ≡ u → ExprOf a u → Exact n (λ c v. WithTo c (k ∷ (u ++ v))) (with_after n b w a) (with_after m b' w a)
  with_after_exact k ik w a u e l = subst (λ (y : Tokens). Exact n (λ c v. WithTo c (k ∷ (y ++ v))) (with_after n b w a) (with_after m b' w a)) e (with_by k ik w (single_name w) refl a (subst (ExprOf a) (sym e) l))

  pub with_item_exact : Exact (suc n) WithTo (with_item n b) (with_item m b')
  unfolding with_item
  with_item_exact = tok (the_sign s.Comma) (λ k ik. bind (exact_noting ExprOf b.inner b'.inner n x.inner) (λ w u l. with_after_exact k ik w.0 w.1 u l.0 l.1))

  pub with_item_opens : (t : Token) → sign s.Comma t ≡ true → Opens t (with_item m b')
  unfolding with_item
  with_item_opens t h = tok_opens h (λ k ik. bind (exact_noting ExprOf b.inner b'.inner n x.inner) (λ w u l. into (with_after_exact k ik w.0 w.1 u l.0 l.1) (λ c v z. tt)))

  pub with_done : (t o : Token) → Is (reserved r.With) t → Is (sign s.OpenRound) o → (d : Binding Expr) (u : Tokens) → BindingOf d u → (xs : List (Binding Expr)) (a : Expr) (v : Tokens) → FoundTo WithsTo (d ∷ []) (xs, Some a) v
      → (c : Token) → Is (sign s.CloseRound) c → BasicOf (e.With xs a t.start) (t ∷ o ∷ (u ++ (v ++ (c ∷ []))))
  with_done t o it io d u ld xs a _ (ls, withs_result {t = k} {u = v} {v = w} z ik l, f) c ic =
      subst (λ (q : List (Binding Expr)). BasicOf (e.With q a t.start) (t ∷ o ∷ (u ++ ((v ++ (k ∷ w)) ++ (c ∷ []))))) (sym f)
      (subst (λ (q : Tokens). BasicOf (e.With (d ∷ ls) a t.start) (t ∷ o ∷ (u ++ q))) (sym (append_assoc v (k ∷ w) (c ∷ []))) (basic_with it io ld z ik l ic))

  pub with_word : (t o : Token) → Is (reserved r.With) t → Is (sign s.OpenRound) o → (d : Binding Expr) (u : Tokens) → BindingOf d u → (xs : List (Binding Expr)) (v : Tokens) → FoundTo WithsTo (d ∷ []) (xs, None) v
      → (a : Expr) × (w : Tokens) × BasicOf a (t ∷ o ∷ (u ++ (v ++ w)))
  with_word t o it io d u ld xs _ (ls, withs_none {u = v} z, f) = (_, _, basic_with it io ld z (is_example (the_sign s.Comma)) (some_expr.2) (is_example (the_sign s.CloseRound)))

  pub with_end_exact : (t o : Token) → Is (reserved r.With) t → Is (sign s.OpenRound) o → (d : Binding Expr) (u : Tokens) → BindingOf d u → (y : Ended (Binding Expr) Expr) (v : Tokens) → FoundTo WithsTo (d ∷ []) y v
      → Exact n (λ c w. BasicOf c (t ∷ o ∷ (u ++ (v ++ w)))) (with_end n b t.start y.0 y.1) (with_end m b' t.start y.0 y.1)
  with_end_exact t o it io d u ld (xs, None) v f = let g = with_word t o it io d u ld xs v f in exact_refuse n _ g.0 g.1 g.2
  with_end_exact t o it io d u ld (xs, Some a) v f = also (the_sign s.CloseRound) (λ c ic. done (with_done t o it io d u ld xs a v f c ic))

  pub with_body_exact : (t : Token) → Is (reserved r.With) t → Exact (suc n) (λ c v. BasicOf c (t ∷ v)) (with_body n b t.start) (with_body m b' t.start)
  unfolding with_body
  with_body_exact t it = tok (the_sign s.OpenRound) (λ o io. also some_name (λ z iz. bind (less (bound_exact z iz)) (λ d u ld.
      bind (exact_until WithTo WithsTo (sign s.Comma) (with_item n b) (with_item m b') (withs_none bindings_none) withs_more withs_end with_to_solid with_item_opens n m n up (omega arith) (less with_item_exact) (d ∷ []))
      (λ y v f. with_end_exact t o it io d (z ∷ u) ld y v f))))

  pub with_expr_taker : Taker (suc n) (reserved r.With) BasicOf (with_expr n b) (with_expr m b')
  unfolding with_expr
  with_expr_taker = taker (the_reserved r.With) (λ t it. less (with_body_exact t it))
