-- The readers of postfix expressions, and of what parentheses hold, are exact.
use Rattle.std.proofs.Math.Path.{fun_ext}
use Rattle.std.proofs.Common.{◌≡◌, ℕ, suc, ◌≤◌, ◌||◌, Bool, true, false, cond, List, [], ◌∷◌, ◌++◌, length, Option, Some, None, refl, sym, ◌∙◌, ap, subst, arith}
use Rattle.std.proofs.lemmas.List.{append_assoc, append-nil}
use Rattle.fronts.specs.Fronts.{Language}
use Rattle.fronts.specs.Readers.{Outcome, ◌>>=◌, ◌>>◌, pure, refuse, token, if_comes}
use Rattle.fronts.proofs.Firm.{Opens, Hungry, hungry, opens, Any}
use Rattle.fronts.proofs.Exact.{Exact, bind, either, last, into, done, less, exact_peek, exact_refuse, hungry_solid, hungry_bind, opens_bind}
use Rattle.sql_ast.specs.declared.expr.Expr.{Expr}
use Rattle.sql_ast.specs.declared.expr.Part.{Part}
use Rattle.sql_ast.specs.declared.query.Query.{Query}
use Rattle.sql_ast.specs.declared.token.Lexeme.{Lexeme}
use Rattle.sql_ast.specs.declared.token.Token.{Token}
use Rattle.sql_ast.specs.declared.words.Word.{Word}
use Rattle.sql_ast.specs.declared.expr.Expr.TheVariants as e
use Rattle.sql_ast.specs.declared.expr.IndexForm.TheVariants as index_form_kind
use Rattle.sql_ast.specs.declared.expr.Part.TheVariants as part_kind
use Rattle.sql_ast.specs.declared.token.Lexeme.TheVariants as l
use Rattle.sql_names.specs.declared.words.Reserved.TheVariants as r
use Rattle.sql_ast.specs.declared.words.Sign.TheVariants as s
use Rattle.sql_ast.specs.declared.words.Word.TheVariants as w
use Rattle.sql_ast.specs.Marks.{Tokens, Is, reserved, sign, word, named, spelled, content, start_of, same_reserved, same_word, reserved_lexeme, word_lexeme, name_lexeme}
use Rattle.sql_ast.specs.Trees.{function_lexeme, function_of, form_of, path, is_subquery, alone}
use Rattle.sql_ast.specs.Grammar.{BasicOf, CommasOf, ExprOf, PartsOf, PostfixOf, QueryOf, basic_array, basic_bytes, basic_call, basic_date, basic_false, basic_integer, basic_name, basic_null, basic_parameter, basic_safe_call, basic_string, basic_true, bindings_none, commas_more, list_is, part_field, part_index, parts_more, parts_none, postfix_is}
use Rattle.sql_grammar.specs.Ways.{Parser, Ended}
use Rattle.sql_grammar.specs.Classes.{class_of, basic_lexeme, name_class, content_class, BasicStart, NameWord, Content, an_integer, a_string, a_bytes, a_true, a_false, a_null, a_parameter, a_name, an_if, a_bracket, a_case, a_cast, an_extract, a_grouping, an_exists, an_array, a_square, a_struct, a_with, no_basic, the_date, the_safe, plain_name, by_select, by_with, by_expr}
use Rattle.sql_grammar.specs.Exprs.{tells, told, opening_of, grouped, starred, part_next, call_of, called, with_item, with_body, safe_part, name_by, name_opened, index, field_or_star, part_or_star, parts_from, postfix_from, listed, two_listed, query_closed, held_from, held_with, enclosed_by, enclosed, group, opened_by, opened, postfix_or_star, postfix, Opening, Below, with_read, held_query, held_exprs}
use Rattle.sql_grammar.proofs.Ways.{FoundTo, exact_until, Begun, start_front}
use Rattle.sql_grammar.proofs.Marks.{the_reserved, the_sign, some_name, some_integer, some_text, some_bytes, some_parameter, a_form, tok, also, opt, opt_also, tok_opens, Taker, taker, says, AfterOf, after_of}
use Rattle.sql_grammar.proofs.Solid.{solid_front, solid_basic, solid_postfix, no_expr, some_basic, some_postfix}
use Rattle.sql_grammar.proofs.Starts.{begins_basic}
use Rattle.sql_grammar.proofs.Levels.{From, begun_on, level, level_opens, no_word}
use Rattle.sql_grammar.proofs.Calls.{Under, Bracketed, comma_expr_exact, comma_expr_opens, bracketed_exact, list_closed_to, call_body_exact, call_of_exact, bracketed_is}
use Rattle.sql_grammar.proofs.Subqueries.{TermText, no_subquery_shuts, expr_term}
use Rattle.sql_grammar.proofs.Basics.{OpenedOf, StarOf, PartsTo, PartTo, part_to_solid, parts_more_to, parts_end_to, parts_join, opened_basic, HeldOf, group_from, WithTo, WithsTo, with_to_solid, withs_more, withs_end, called_by, called_exact, case_taker, cast_taker, extract_taker, grouping_taker, exists_taker, array_from_taker, array_taker, struct_taker, bound_exact, with_item_exact, with_item_opens, with_end_exact, with_body_exact, with_expr_taker, opened_plain, opened_star, star_none, star_is, parts_to_end, parts_to_star, part_to, part_to_star, holds_query, holds_exprs, withs_none}

-- a choice of which the first branch is never taken
pub exact_never : {A : Type 0} (n : ℕ) (M : Language Token A) (fits : Token → Bool) → ((t : Token) → fits t ≡ false) → (p p' q q' : Parser A) → Exact n M q q' → Exact n M (if_comes fits p q) (if_comes fits p' q')
exact_never {A} n M fits never p p' q q' x = subst (λ (f : Parser A). Exact n M f (if_comes fits p' q')) (sym (is p q)) (subst (λ (f : Parser A). Exact n M q f) (sym (is p' q')) x)
  where
    at : (p q : Parser A) (ts : Tokens) → if_comes fits p q ts ≡ q ts
    at p q [] = refl
    at p q (t ∷ ts) = ap (λ (c : Bool). cond c (p (t ∷ ts)) (q (t ∷ ts))) (never t)

    is : (p q : Parser A) → if_comes fits p q ≡ q
    is p q = fun_ext (λ ts. at p q ts)

-- `*` where it is permitted, and else another reader
pub opt_star : {A : Type 0} {n : ℕ} {M : Language Token A} {q q' : Token → Parser A} {r r' : Parser A} (star : Bool)
    → ((t : Token) → star ≡ true → Is (sign s.Star) t → Exact n (λ b v. M b (t ∷ v)) (q t) (q' t)) → Exact n M r r'
    → Exact n M (if_comes (starred star) (token (starred star) >>= q) r) (if_comes (starred star) (token (starred star) >>= q') r')
opt_star true then y = opt_also (the_sign s.Star) (λ t it. then t refl (record { is = it.is })) y
opt_star {n = n} {M = M} false then y = exact_never n M (starred false) (λ t. refl) _ _ _ _ y

pub function_named : (t : Token) → Is named t → Is (tells function_of) t
function_named t h = record { is = by t.lexeme h.is }
  where
    by : (x : Lexeme) → name_lexeme x ≡ true → (elim (function_lexeme x) [ None ↦ false | Some a ↦ true ]) ≡ true
    by (l.Name n o) h = refl
    by (l.Reserved y) h = absurd cc
    by _ h = absurd cc

pub function_if : (t : Token) → Is (reserved r.If) t → Is (tells function_of) t
unfolding same_reserved
function_if t h = record { is = by t.lexeme h.is }
  where
    by : (x : Lexeme) → reserved_lexeme r.If x ≡ true → (elim (function_lexeme x) [ None ↦ false | Some a ↦ true ]) ≡ true
    by (l.Reserved r.If) h = refl
    by (l.Reserved _) h = absurd cc
    by _ h = absurd cc

pub index_from : (star : Bool) (d y : Token) → Is (sign s.OpenSquare) d → Is (tells form_of) y → (a : Expr) (u : Tokens) → Bracketed ExprOf a u → (c : Token) → Is (sign s.CloseSquare) c
    → PartTo star (part_kind.Index (told index_form_kind.Offset form_of y) a d.start ∷ [], None) (d ∷ y ∷ (u ++ (c ∷ [])))
index_from star d y id iy _ _ (bracketed_is {o = o} {c = k} {a = a} {u = u} io l ik) c ic =
    subst (λ (w : Tokens). PartTo star (part_kind.Index (told index_form_kind.Offset form_of y) a d.start ∷ [], None) (d ∷ y ∷ o ∷ w)) (sym (append_assoc u (k ∷ []) (c ∷ []))) (part_to (part_index id (says index_form_kind.Offset form_of y iy) io l ik ic))

pub name_basic : (star : Bool) (t : Token) → Is named t → OpenedOf star (e.Name (spelled t) t.start, ([], None)) (t ∷ [])
name_basic star t it = opened_basic star (e.Name (spelled t) t.start) (t ∷ []) (basic_name it)

pub named_word : (y : Word) (t : Token) → Is (word y) t → Is named t
named_word y t h = record { is = by t.lexeme h.is }
  where
    by : (z : Lexeme) → word_lexeme y z ≡ true → name_lexeme z ≡ true
    by (l.Name n o) h = refl
    by (l.Reserved z) h = absurd cc
    by _ h = absurd cc

pub date_class : (z : Lexeme) → name_class z ≡ the_date → word_lexeme w.Date z ≡ true
unfolding same_word
date_class (l.Name n (Some w.Date)) h = refl
date_class (l.Name n (Some w.Safe)) h = absurd cc
date_class (l.Name n (Some _)) h = absurd cc
date_class (l.Name n None) h = absurd cc
date_class (l.Reserved z) h = absurd cc
date_class _ h = absurd cc

pub safe_class : (z : Lexeme) → name_class z ≡ the_safe → word_lexeme w.Safe z ≡ true
unfolding same_word
safe_class (l.Name n (Some w.Safe)) h = refl
safe_class (l.Name n (Some w.Date)) h = absurd cc
safe_class (l.Name n (Some _)) h = absurd cc
safe_class (l.Name n None) h = absurd cc
safe_class (l.Reserved z) h = absurd cc
safe_class _ h = absurd cc

pub some_opened : (star : Bool) → (a : Expr × Ended (Part Expr) Token) × (u : Tokens) × OpenedOf star a u
some_opened star = (_, _, opened_plain (some_basic.2) parts_none)

pub no_opened : (star : Bool) (a : Expr × Ended (Part Expr) Token) (u : Tokens) → OpenedOf star a u → 1 ≤ length u
no_opened star _ _ (opened_plain {u = u} {v = v} l z) = solid_front u v (solid_basic _ u l)
no_opened star _ _ (opened_star {u = u} h l z i j) = solid_front u _ (solid_basic _ u l)

pub no_star : (star : Bool) (a : Expr × Option Token) (u : Tokens) → StarOf star a u → 1 ≤ length u
no_star star _ _ (star_none {u = u} l) = solid_postfix _ u l
no_star star _ _ (star_is {u = u} h l i j) = solid_front u _ (solid_postfix _ u l)

pub plain_star : (a : Expr) (u : Tokens) → StarOf false (a, None) u → PostfixOf a u
plain_star _ _ (star_none l) = l

pub no_star_false : (a : Expr) (t : Token) (u : Tokens) → StarOf false (a, Some t) u → ⊥
no_star_false _ _ _ (star_is h l i j) = cc

pub postfix_of_star : (y : Expr × Option Token) (u : Tokens) → StarOf false y u → PostfixOf y.0 u
postfix_of_star (a, None) u l = plain_star a u l
postfix_of_star (a, Some t) u l = absurd (no_star_false a t u l)

-- the parts behind those that were read with a basic expression
pub star_from : (star : Bool) (a : Expr) (ps : List (Part Expr)) (u : Tokens) → OpenedOf star (a, (ps, None)) u → (y : Ended (Part Expr) Token) (v : Tokens) → FoundTo (PartsTo star) ps y v → StarOf star (path a y.0 (start_of u), y.1) (u ++ v)
star_from star a ps _ (opened_plain {u = u} {v = v} l z) (xs, None) _ (ls, parts_to_end {u = w} q, f) =
    subst (λ (j : ℕ). StarOf star (path a xs j, None) ((u ++ v) ++ w)) (sym (start_front u v (solid_basic a u l)))
    (subst (λ (k : Tokens). StarOf star (path a xs (start_of u), None) k) (sym (append_assoc u v w)) (star_none (postfix_is l (subst (λ (x : List (Part Expr)). PartsOf x (v ++ w)) (sym f) (parts_join ps v ls w z q)))))
star_from star a ps _ (opened_plain {u = u} {v = v} l z) (xs, Some t) _ (ls, parts_to_star {d = d} {u = w} h q i j, f) =
    subst (λ (n : ℕ). StarOf star (path a xs n, Some t) ((u ++ v) ++ (w ++ (d ∷ t ∷ [])))) (sym (start_front u v (solid_basic a u l)))
    (subst (λ (k : Tokens). StarOf star (path a xs (start_of u), Some t) k) (append_assoc u (v ++ w) (d ∷ t ∷ []) ∙ ap (λ (k : Tokens). u ++ k) (append_assoc v w (d ∷ t ∷ [])) ∙ sym (append_assoc u v (w ++ (d ∷ t ∷ []))))
    (star_is h (postfix_is l (subst (λ (x : List (Part Expr)). PartsOf x (v ++ w)) (sym f) (parts_join ps v ls w z q))) i j))

pub star_kept : (star : Bool) (a : Expr) (ps : List (Part Expr)) (t : Token) (u : Tokens) → OpenedOf star (a, (ps, Some t)) u → StarOf star (path a ps (start_of u), Some t) u
star_kept star a ps t _ (opened_star {d = d} {u = u} {v = v} h l z i j) =
    subst (λ (n : ℕ). StarOf star (path a ps n, Some t) (u ++ (v ++ (d ∷ t ∷ [])))) (sym (start_front u (v ++ (d ∷ t ∷ [])) (solid_basic a u l)))
    (subst (λ (k : Tokens). StarOf star (path a ps (start_of u), Some t) k) (append_assoc u v (d ∷ t ∷ [])) (star_is h (postfix_is l z) i j))

module _ (n m : ℕ) (up : n ≤ m) (b b' : Below) (x : Under n b b') where
  -- ---- postfix

  pub index_exact : (star : Bool) → Exact (suc n) (PartTo star) (index n b) (index m b')
  unfolding index
  index_exact star = tok (the_sign s.OpenSquare) (λ d id. also a_form (λ y iy. bind (less (bracketed_exact n m up b b' x)) (λ a u l. also (the_sign s.CloseSquare) (λ c ic. done (index_from star d y id iy a u l c ic)))))

  pub index_opens : (t : Token) → sign s.OpenSquare t ≡ true → Opens t (index m b')
  unfolding index
  index_opens t h = tok_opens h (λ d id. also a_form (λ y iy. bind (less (bracketed_exact n m up b b' x)) (λ a u l. also (the_sign s.CloseSquare) (λ c ic. done tt))))

  pub field_exact : (star : Bool) (d : Token) → Is (sign s.Dot) d → Exact n (λ c v. PartTo star c (d ∷ v)) (field_or_star n b star) (field_or_star m b' star)
  unfolding field_or_star
  field_exact star d id = opt_star star (λ t h it. done (part_to_star h id it)) (also some_name (λ z iz. done (part_to (part_field id iz))))

  pub part_exact : (star : Bool) → Exact (suc n) (PartTo star) (part_or_star n b star) (part_or_star m b' star)
  unfolding part_or_star
  part_exact star = opt (the_sign s.Dot) (λ d id. field_exact star d id) (index_exact star)

  pub part_by : (star : Bool) (t : Token) (c k : Bool) → sign s.Dot t ≡ c → sign s.OpenSquare t ≡ k → (c || k) ≡ true → (rest : Tokens) → (o : Outcome Token (Ended (Part Expr) Token)) → part_or_star m b' star (t ∷ rest) ≡ o
      → (cond c ((token (sign s.Dot) >> field_or_star m b' star) (t ∷ rest)) (index m b' (t ∷ rest))) ≡ o
  unfolding part_or_star
  part_by star t c k hc hk h rest o e = ap (λ z. cond z ((token (sign s.Dot) >> field_or_star m b' star) (t ∷ rest)) (index m b' (t ∷ rest))) (sym hc) ∙ e

  pub dot_opens : (star : Bool) (t : Token) → sign s.Dot t ≡ true → Opens t (token (sign s.Dot) >> field_or_star m b' star)
  dot_opens star t h = tok_opens h (λ d id. into (field_exact star d id) (λ c v z. tt))

  pub part_opens_by : (star : Bool) (t : Token) (c k : Bool) → sign s.Dot t ≡ c → sign s.OpenSquare t ≡ k → (c || k) ≡ true → Opens t (part_or_star m b' star)
  part_opens_by star t true k hc hk h = record {
    goes = λ rest e. (dot_opens star t hc).goes rest (part_by star t true k hc hk h rest _ e);
    moves = λ rest a e. (dot_opens star t hc).moves rest a (part_by star t true k hc hk h rest _ e);
  }
  part_opens_by star t false true hc hk h = record {
    goes = λ rest e. (index_opens t hk).goes rest (part_by star t false true hc hk h rest _ e);
    moves = λ rest a e. (index_opens t hk).moves rest a (part_by star t false true hc hk h rest _ e);
  }
  part_opens_by star t false false hc hk h = absurd cc

  pub part_opens : (star : Bool) (t : Token) → part_next t ≡ true → Opens t (part_or_star m b' star)
  part_opens star t h = part_opens_by star t (sign s.Dot t) (sign s.OpenSquare t) refl refl h

  pub parts_exact : (star : Bool) → From (suc n) (OpenedOf star) (StarOf star) (λ k y. parts_from n b star k y.0 y.1.0 y.1.1) (λ k y. parts_from m b' star k y.0 y.1.0 y.1.1)
  parts_exact star k (a, (ps, None)) u g = last (λ (y : Ended (Part Expr) Token). (path a y.0 k, y.1)) (exact_until (PartTo star) (PartsTo star) part_next (part_or_star n b star) (part_or_star m b' star) (parts_to_end parts_none) (parts_more_to star) (parts_end_to star) (part_to_solid star) (part_opens star) n m (suc n) up (omega arith) (part_exact star) ps)
      (λ y v f. record { solid = solid_front u v g.solid; spells = begun_on (OpenedOf star) k (a, (ps, None)) u v g (λ j. StarOf star (path a y.0 j, y.1) (u ++ v)) (λ l. star_from star a ps u l y v f) })
  parts_exact star k (a, (ps, Some t)) u g = done (subst (Begun (StarOf star) k (path a ps k, Some t)) (sym (append-nil u)) (record {
    solid = g.solid;
    spells = λ z. subst (λ (j : ℕ). StarOf star (path a ps j, Some t) u) (sym z) (star_kept star a ps t u (g.spells z));
  }))

  -- a postfix behind a basic expression
  pub postfix_from_exact : From (suc n) BasicOf PostfixOf (postfix_from n b) (postfix_from m b')
  unfolding postfix_from
  postfix_from_exact k a u g = last (λ (y : Expr × Option Token). y.0) (parts_exact false k (a, ([], None)) u (record { solid = g.solid; spells = λ z. opened_basic false a u (g.spells z) }))
      (λ y v f. record { solid = f.solid; spells = λ z. postfix_of_star y (u ++ v) (f.spells z) })

  pub with_body_opens : (t : Token) → Is (reserved r.With) t → (y : Token) → sign s.OpenRound y ≡ true → Opens y (with_body m b' t.start)
  unfolding with_body
  with_body_opens t it y h = tok_opens h (λ o io. also some_name (λ z iz. bind (less (bound_exact n m up b b' x z iz)) (λ d u ld.
      bind (exact_until WithTo WithsTo (sign s.Comma) (with_item n b) (with_item m b') (withs_none bindings_none) withs_more withs_end with_to_solid (with_item_opens n m up b b' x) n m n up (omega arith) (less (with_item_exact n m up b b' x)) (d ∷ []))
      (λ k v f. into (with_end_exact n m up b b' x t o it io d (z ∷ u) ld k v f) (λ c w q. tt)))))

  -- ---- names

  pub call_of_opens : (z : Token) → Is named z → (y : Token) → sign s.OpenRound y ≡ true → Opens y (call_of m b' z)
  unfolding call_of
  call_of_opens z iz y h = tok_opens h (λ o io. into (call_body_exact n m up b b' x z o (function_named z iz) io) (λ k u l. tt))

  pub safe_part_exact : (star : Bool) (t d : Token) → Is (word w.Safe) t → Is (sign s.Dot) d → Exact n (λ y v. OpenedOf star y (t ∷ d ∷ v)) (safe_part n b star t) (safe_part m b' star t)
  unfolding safe_part
  safe_part_exact star t d it id = opt_star star (λ y h iy. done (opened_star h (basic_name (named_word w.Safe t it)) parts_none id iy))
      (also some_name (λ z iz. either (sign s.OpenRound) (λ y h. opens (opens_bind (call_of_opens z iz y h) (call_of_exact n m up b b' x z (function_named z iz)) (λ k u l. done {n = 0} tt)))
      (last (λ k. (e.SafeCall k t.start, ([], None))) (less (call_of_exact n m up b b' x z (function_named z iz))) (λ k u l. opened_basic star (e.SafeCall k t.start) (t ∷ d ∷ z ∷ u) (basic_safe_call it id iz l)))
      (done (opened_plain (basic_name (named_word w.Safe t it)) (parts_more (part_field id iz) parts_none)))))

  pub name_kinds : (star : Bool) (t : Token) → Is named t → (k : NameWord) → name_class t.lexeme ≡ k → Exact n (λ y v. OpenedOf star y (t ∷ v)) (name_by n b star t k) (name_by m b' star t k)
  name_kinds star t it the_date h = opt_also some_text (λ y iy. done (opened_basic star (e.Date (content y) t.start) (t ∷ y ∷ []) (basic_date (record { is = date_class t.lexeme h }) iy))) (done (name_basic star t it))
  name_kinds star t it the_safe h = opt_also (the_sign s.Dot) (λ d id. safe_part_exact star t d (record { is = safe_class t.lexeme h }) id) (done (name_basic star t it))
  name_kinds star t it plain_name h = done (name_basic star t it)

  pub called_opens : (t : Token) → Is (tells function_of) t → (y : Token) → sign s.OpenRound y ≡ true → Opens y (called m b' t)
  unfolding called
  called_opens t it y h = tok_opens h (λ o io. into (called_by n m up b b' x t o it io (word w.SafeCast t) refl) (λ a u l. tt))

  pub name_taker : (star : Bool) → Taker (suc n) named (OpenedOf star) (name_opened n b star) (name_opened m b' star)
  unfolding name_opened
  name_taker star = taker some_name (λ t it. either (sign s.OpenRound) (λ y h. opens (opens_bind (called_opens t (function_named t it) y h) (called_exact n m up b b' x t (function_named t it)) (λ a u l. done {n = 0} tt)))
      (last (λ a. (a, ([], None))) (less (called_exact n m up b b' x t (function_named t it))) (λ a u l. opened_basic star a (t ∷ u) l))
      (name_kinds star t it (name_class t.lexeme) refl))

  -- ---- what parentheses hold

  pub alone_shut : (a : Expr) (ls : List Expr) → is_subquery a ≡ false → alone (a ∷ ls) ≡ false
  unfolding alone
  alone_shut a [] h = h
  alone_shut a (d ∷ ls) h = refl

  pub alone_two : (a c : Expr) (ls : List Expr) → alone (a ∷ c ∷ ls) ≡ false
  unfolding alone
  alone_two a c ls = refl

  pub listed_exact : (a : Expr) (u : Tokens) → ExprOf a u → is_subquery a ≡ false → Exact n (λ h v. HeldOf h (u ++ v)) (listed n b (a ∷ [])) (listed m b' (a ∷ []))
  listed_exact a u l h = last held_exprs (list_closed_to n m up b b' x (λ xs w. HeldOf (held_exprs xs) w) s.CloseRound (a ∷ []) u
      (λ ls v c z ic. subst (HeldOf (held_exprs (a ∷ ls))) (append_assoc u v (c ∷ [])) (holds_exprs (list_is l z) (alone_shut a ls h) ic))) (λ xs v z. z)

  pub two_listed_from : (a : Expr) (u : Tokens) → ExprOf a u → (d : Expr) (v : Tokens) → AfterOf (sign s.Comma) ExprOf d v → (ls : List Expr) (w : Tokens) (c : Token) → CommasOf ls w → Is (sign s.CloseRound) c
      → HeldOf (held_exprs (a ∷ d ∷ ls)) (u ++ (v ++ (w ++ (c ∷ []))))
  two_listed_from a u l _ _ (after_of {t = t} {a = d} {u = v} i k) ls w c z ic =
      subst (HeldOf (held_exprs (a ∷ d ∷ ls))) (append_assoc u (t ∷ (v ++ w)) (c ∷ []) ∙ ap (λ (y : Tokens). u ++ (t ∷ y)) (append_assoc v w (c ∷ []))) (holds_exprs (list_is l (commas_more i k z)) (alone_two a d ls) ic)

  pub two_listed_exact : (a : Expr) (u : Tokens) → ExprOf a u → Exact n (λ h v. HeldOf h (u ++ v)) (two_listed n b a) (two_listed m b' a)
  unfolding two_listed
  two_listed_exact a u l = bind (less (comma_expr_exact n m up b b' x)) (λ d v ld. last held_exprs (list_closed_to n m up b b' x (λ xs w. HeldOf (held_exprs xs) (u ++ w)) s.CloseRound (a ∷ d ∷ []) v
      (λ ls w c z ic. two_listed_from a u l d v ld ls w c z ic)) (λ xs w z. z))

  pub two_listed_opens : (a : Expr) (t : Token) → sign s.Comma t ≡ true → Opens t (two_listed m b' a)
  unfolding two_listed
  two_listed_opens a t h = opens_bind (comma_expr_opens n m up b b' x t h) (comma_expr_exact n m up b b' x) (λ d v ld. last held_exprs (list_closed_to n m up b b' x Any s.CloseRound (a ∷ d ∷ []) v (λ ls w c z ic. tt)) (λ xs w z. tt))

  pub query_closed_exact : (u : Tokens) (p p' : Parser Query) → Exact n (λ q v. QueryOf q (u ++ v)) p p' → Exact n (λ h v. HeldOf h (u ++ v)) (query_closed n b p) (query_closed m b' p')
  unfolding query_closed
  query_closed_exact u p p' y = bind y (λ q v l. also (the_sign s.CloseRound) (λ c ic. done (subst (HeldOf (held_query q)) (append_assoc u v (c ∷ [])) (holds_query l ic))))

  pub term_more_of : (o : Opening) (u : Tokens) → TermText o u → Exact n (λ q v. QueryOf q (u ++ v)) (b.more o) (b'.more o)
  term_more_of o u k = subst (λ (y : Opening). Exact n (λ q v. QueryOf q (u ++ v)) (b.more y) (b'.more y)) (sym k.is) (x.term_more k.term k.place u k.spells k.here)

  pub held_by : (a : Expr) (u : Tokens) → ExprOf a u → (o : Option Opening) → opening_of a ≡ o
      → Exact n (λ h v. HeldOf h (u ++ v)) (elim o [ None ↦ listed n b (a ∷ []) | Some y ↦ if_comes (sign s.Comma) (two_listed n b a) (query_closed n b (b.more y)) ])
      (elim o [ None ↦ listed m b' (a ∷ []) | Some y ↦ if_comes (sign s.Comma) (two_listed m b' a) (query_closed m b' (b'.more y)) ])
  held_by a u l None h = listed_exact a u l (no_subquery_shuts a h)
  held_by a u l (Some y) h = either (sign s.Comma) (λ t g. opens (two_listed_opens a t g)) (two_listed_exact a u l) (query_closed_exact u (b.more y) (b'.more y) (term_more_of y u (expr_term a u l y h)))

  pub held_from_exact : (a : Expr) (u : Tokens) → ExprOf a u → Exact n (λ h v. HeldOf h (u ++ v)) (held_from n b a) (held_from m b' a)
  unfolding held_from
  held_from_exact a u l = held_by a u l (opening_of a) refl

  pub held_with_exact : (t : Token) → Is (reserved r.With) t → Exact n (λ h v. HeldOf h (t ∷ v)) (held_with n b t) (held_with m b' t)
  unfolding held_with
  held_with_exact t it = either (sign s.OpenRound) (λ y h. opens (opens_bind (with_body_opens t it y h) (with_body_exact n m up b b' x t it) (λ a u l. into {L = Any} (bind (x.rest t.start a (t ∷ u) l refl) (λ c v lc. into (held_from_exact c (t ∷ (u ++ v)) lc) (λ h w z. tt))) (λ h w z. tt))))
      (bind (less (with_body_exact n m up b b' x t it)) (λ a u l. bind (x.rest t.start a (t ∷ u) l refl) (λ c v lc. into (held_from_exact c (t ∷ (u ++ v)) lc) (λ h w z. subst (HeldOf h) (ap (λ (y : Tokens). t ∷ y) (append_assoc u v w)) z))))
      (query_closed_exact (t ∷ []) (b.more (with_read t)) (b'.more (with_read t)) (x.with_more t it))

  pub enclosed_kinds : (k : Content) → Exact n HeldOf (enclosed_by n b k) (enclosed_by m b' k)
  enclosed_kinds by_select = query_closed_exact [] b.query b'.query x.query
  enclosed_kinds by_with = also (the_reserved r.With) (λ t it. held_with_exact t it)
  enclosed_kinds by_expr = bind x.inner (λ a u l. held_from_exact a u l)

  pub enclosed_exact : Exact n HeldOf (enclosed n b) (enclosed m b')
  unfolding enclosed
  enclosed_exact = exact_peek n HeldOf (class_of by_expr content_class) (enclosed_by n b) (enclosed_by m b') (λ t k h. hungry (hungry_bind x.inner _ (hungry_solid x.inner no_expr))) enclosed_kinds

  pub group_taker : Taker (suc n) (sign s.OpenRound) BasicOf (group n b) (group m b')
  unfolding group
  group_taker = taker (the_sign s.OpenRound) (λ o io. last (grouped o.start) enclosed_exact (λ h u l. group_from o io h u l))

  -- ---- basic expressions

  pub if_taker : Taker (suc n) (reserved r.If) BasicOf (token (reserved r.If) >>= (λ t. call_of n b t >>= (λ k. pure (e.Call k t.start)))) (token (reserved r.If) >>= (λ t. call_of m b' t >>= (λ k. pure (e.Call k t.start))))
  if_taker = taker (the_reserved r.If) (λ t it. last (λ k. e.Call k t.start) (less (call_of_exact n m up b b' x t (function_if t it))) (λ k u l. basic_call l))

  -- a basic expression with which no part is read
  pub opened_alone : (star : Bool) {fits : Token → Bool} {p p' : Parser Expr} → Taker (suc n) fits BasicOf p p' → Taker (suc n) fits (OpenedOf star) (p >>= (λ a. pure (a, ([], None)))) (p' >>= (λ a. pure (a, ([], None))))
  opened_alone star y = record {
    exact = last (λ a. (a, ([], None))) y.exact (λ a u l. opened_basic star a u l);
    takes = λ t h. opens_bind (y.takes t h) y.exact (λ a u l. done {n = 0} tt);
  }

  pub opened_takers : (star : Bool) (k : BasicStart) → Taker (suc n) (begins_basic k) (OpenedOf star) (opened_by n b star k) (opened_by m b' star k)
  opened_takers star a_name = name_taker star
  opened_takers star an_integer = opened_alone star (taker some_integer (λ t it. done (basic_integer it)))
  opened_takers star a_string = opened_alone star (taker some_text (λ t it. done (basic_string it)))
  opened_takers star a_bytes = opened_alone star (taker some_bytes (λ t it. done (basic_bytes it)))
  opened_takers star a_true = opened_alone star (taker (the_reserved r.True) (λ t it. done (basic_true it)))
  opened_takers star a_false = opened_alone star (taker (the_reserved r.False) (λ t it. done (basic_false it)))
  opened_takers star a_null = opened_alone star (taker (the_reserved r.Null) (λ t it. done (basic_null it)))
  opened_takers star a_parameter = opened_alone star (taker some_parameter (λ t it. done (basic_parameter it)))
  opened_takers star an_if = opened_alone star if_taker
  opened_takers star a_bracket = opened_alone star group_taker
  opened_takers star a_case = opened_alone star (case_taker n m up b b' x)
  opened_takers star a_cast = opened_alone star (cast_taker n m up b b' x)
  opened_takers star an_extract = opened_alone star (extract_taker n m up b b' x)
  opened_takers star a_grouping = opened_alone star (grouping_taker n m up b b' x)
  opened_takers star an_exists = opened_alone star (exists_taker n m up b b' x)
  opened_takers star an_array = opened_alone star (array_taker n m up b b' x)
  opened_takers star a_square = opened_alone star (array_from_taker n m up b b' x BasicOf None None (λ d xs u z. basic_array z))
  opened_takers star a_struct = opened_alone star (struct_taker n m up b b' x)
  opened_takers star a_with = opened_alone star (with_expr_taker n m up b b' x)
  opened_takers star no_basic = opened_alone star (record { exact = exact_refuse (suc n) BasicOf some_basic.0 some_basic.1 some_basic.2; takes = λ t h. absurd cc })

  pub refuse_hungry : {A : Type 0} (q : Expr → Parser A) → Hungry (refuse >>= q)
  refuse_hungry q = record { wants = λ a h. cc }

  pub opened_exact : (star : Bool) → Exact (suc n) (OpenedOf star) (opened n b star) (opened m b' star)
  unfolding opened
  opened_exact star = exact_peek (suc n) (OpenedOf star) (class_of no_basic basic_lexeme) (opened_by n b star) (opened_by m b' star) (λ t k h. hungry (refuse_hungry (λ a. pure (a, ([], None))))) (λ k. (opened_takers star k).exact)

  pub opened_opens : (star : Bool) (t : Token) → begins_basic (basic_lexeme t.lexeme) t ≡ true → Opens t (opened m b' star)
  unfolding opened
  opened_opens star t h = let g = (opened_takers star (basic_lexeme t.lexeme)).takes t h in record { goes = λ rest e. g.goes rest e; moves = λ rest a e. g.moves rest a e }

  pub postfix_or_star_exact : (star : Bool) → Exact (suc n) (StarOf star) (postfix_or_star n b star) (postfix_or_star m b' star)
  unfolding postfix_or_star
  postfix_or_star_exact star = level (suc n) (OpenedOf star) (StarOf star) (_, _, star_none (some_postfix.2)) (no_word (StarOf star) (no_star star)) (no_opened star) (opened n b star) (opened m b' star) _ _ (opened_exact star) (parts_exact star)

  pub postfix_or_star_opens : (star : Bool) (t : Token) → begins_basic (basic_lexeme t.lexeme) t ≡ true → Opens t (postfix_or_star m b' star)
  unfolding postfix_or_star
  postfix_or_star_opens star t h = level_opens (OpenedOf star) (StarOf star) (no_opened star) (opened n b star) (opened m b' star) _ _ (opened_exact star) (parts_exact star) t (opened_opens star t h)

  pub postfix_exact : Exact (suc n) PostfixOf (postfix n b) (postfix m b')
  unfolding postfix
  postfix_exact = last (λ (y : Expr × Option Token). y.0) (postfix_or_star_exact false) postfix_of_star
