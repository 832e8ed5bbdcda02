-- What parentheses hold is read, a query or expressions; and so are the expressions in parentheses.
use Rattle.std.proofs.Common.{◌≡◌, ℕ, suc, ◌<◌, ◌≤◌, Bool, true, false, List, [], ◌∷◌, ◌++◌, length, Option, Some, None, refl, sym, ◌∙◌, ap, subst, arith}
use Rattle.std.proofs.lemmas.List.{append_assoc, append-nil, length-append}
use Rattle.fronts.specs.Fronts.{Language}
use Rattle.fronts.specs.Readers.{taken, and_then, if_comes, comes}
use Rattle.sql_types.specs.declared.kinds.SetKind.{SetKind}
use Rattle.sql_types.specs.declared.kinds.SetKind.TheVariants as set
use Rattle.sql_ast.specs.declared.clauses.Binding.{Binding}
use Rattle.sql_ast.specs.declared.clauses.LimitPart.{LimitPart}
use Rattle.sql_ast.specs.declared.clauses.Sort.{Sort}
use Rattle.sql_ast.specs.declared.expr.Expr.{Expr}
use Rattle.sql_ast.specs.declared.expr.Expr.TheVariants as e
use Rattle.sql_ast.specs.declared.expr.Expr.TheViews.{outs-Scalar}
use Rattle.sql_ast.specs.declared.query.Query.{Query, roll-Query}
use Rattle.sql_ast.specs.declared.query.SetTerm.{SetTerm}
use Rattle.sql_ast.specs.declared.query.Term.{Term}
use Rattle.sql_ast.specs.declared.query.Term.TheVariants as term
use Rattle.sql_names.specs.declared.words.Reserved.TheVariants as r
use Rattle.sql_ast.specs.declared.words.Sign.TheVariants as s
use Rattle.sql_ast.specs.declared.words.Word.TheVariants as w
use Rattle.sql_ast.specs.declared.token.Token.{Token}
use Rattle.sql_ast.specs.declared.token.Lexeme.{Lexeme}
use Rattle.sql_ast.specs.declared.token.Lexeme.TheVariants as l
use Rattle.sql_ast.specs.Marks.{Tokens, Is, reserved, sign, same_reserved, reserved_lexeme, sign_lexeme, integer_lexeme, text_lexeme, bytes_lexeme, parameter_lexeme}
use Rattle.sql_ast.specs.Trees.{set_word, is_subquery, alone, function_lexeme}
use Rattle.sql_ast.specs.Parts.{LimitOf}
use Rattle.sql_ast.specs.Grammar.{ExprOf, PostfixOf, postfix_is, BasicOf, basic_integer, basic_string, basic_bytes, basic_true, basic_false, basic_null, basic_date, basic_parameter, basic_name, basic_call, basic_safe_call, basic_group, basic_query, basic_tuple, basic_case, basic_cast, basic_safe_cast, basic_extract, basic_grouping, basic_exists, basic_array_query, basic_array, basic_array_word, basic_array_typed, basic_struct, basic_typed_struct, basic_with, BindingOf, BindingsOf, ArrayItemsOf, array_empty, array_items, ListOf, list_is, CommasOf, commas_none, commas_more, QueryOf, query_is, ctes_none, ctes_are, cte_is, body_is, term_select, term_query, select_is, SetTermsOf, set_terms_none, set_terms_more, OrderOf}
use Rattle.sql_grammar.specs.Ways.{Parser}
use Rattle.sql_grammar.specs.Classes.{class_of, Content, by_select, by_with, by_expr, content_class}
use Rattle.sql_grammar.specs.Exprs.{Below, Opening, term_read, Held, held_query, held_exprs, opening_layer, opening_of, with_body, listed, two_listed, query_closed, held_from, held_with, enclosed_by, enclosed, group}
use Rattle.sql_grammar.proofs.Marks.{after_of}
use Rattle.sql_grammar.proofs.Subqueries.{subquery_opens}
use Rattle.sql_grammar.proofs.Basics.{HeldOf, holds_query, holds_exprs}
use Rattle.sql_grammar.proofs.Solid.{solid_basic, no_expr}
use Rattle.sql_grammar.proofs.Follows.{Over, level, rank, is_reserved, is_sign, is_named, is_word}
use Rattle.sql_grammar.proofs.CompleteSteps.{apart, Read, Free, less, tok, also, part, last, then_on, else_on, peeked, done, weak, over_s, over_not_s, r_test, s_test, n_test, Ahead, nothing_ahead, level_ahead, on}
use Rattle.sql_grammar.proofs.CompleteStarts.{expr_starts, starts_r, r_level}
use Rattle.sql_grammar.proofs.CompleteWords.{limit_ahead}
use Rattle.sql_grammar.proofs.CompleteFronts.{expr_front, basic_expr}
use Rattle.sql_grammar.proofs.CompleteParts.{Reading, term_more_is, list_closed_read, closed_over, commas_closed, comma_expr_read}
use Rattle.sql_grammar.proofs.CompleteCalls.{order_ahead}
use Rattle.sql_grammar.proofs.CompleteTails.{call_function}
use Rattle.sql_grammar.proofs.CompleteBasics.{with_body_read}

-- ---- what a token isn't

abbrev tells_function : Lexeme → Bool
tells_function x = elim (function_lexeme x) [ None ↦ false | Some a ↦ true ]

no_items : (ms : List Expr) (d t : Token) (u : Tokens) → Is (reserved r.With) t → ArrayItemsOf ms d (t ∷ u) → ⊥
unfolding same_reserved
no_items _ _ t _ i (array_empty j k) = apart (reserved_lexeme r.With) i.is (is_sign {x = s.OpenSquare} j) refl
no_items _ _ t _ i (array_items j l k) = apart (reserved_lexeme r.With) i.is (is_sign {x = s.OpenSquare} j) refl

-- ---- the words of set operations

pub set_word_level : (k : SetKind) → level (l.Reserved (set_word k)) ≡ 20
set_word_level set.UnionAll = refl
set_word_level set.UnionDistinct = refl
set_word_level set.IntersectAll = refl
set_word_level set.IntersectDistinct = refl
set_word_level set.ExceptAll = refl
set_word_level set.ExceptDistinct = refl

pub sets_ahead : (k : SetKind) (ms : List (SetTerm Term)) (v : Tokens) → SetTermsOf k ms v → Ahead 20 v
sets_ahead k _ _ set_terms_none = nothing_ahead
sets_ahead k _ _ (set_terms_more {t = t} i j l z) = level_ahead (r_level (set_word k) 20 (set_word_level k) t i.is)

pub both_ahead : {j k : ℕ} (u v : Tokens) → Ahead j u → Ahead k v → j ≤ k → Ahead j (u ++ v)
both_ahead u v x y le = record { ahead = λ i rest lt h. on v rest x lt (y.ahead i rest (omega arith) h) }

-- ---- which of them a content is

content_expr : (x : Lexeme) → rank x ≤ 3 → content_class x ≡ by_select → ⊥
content_expr (l.Reserved r.Select) h e = omega arith
content_expr (l.Reserved r.With) h e = cc
content_expr (l.Reserved _) h e = cc
content_expr _ h e = cc

content_with : (x : Lexeme) → content_class x ≡ by_with → reserved_lexeme r.With x ≡ true
unfolding same_reserved
content_with (l.Reserved r.Select) e = absurd cc
content_with (l.Reserved r.With) e = refl
content_with (l.Reserved _) e = absurd cc
content_with _ e = absurd cc

-- what stands behind the word WITH of an expression
data WithIs (t : Token) : Expr → Tokens → Type 0 where
  with_is : {o k c : Token} {d : Binding Expr} {bs : List (Binding Expr)} {a : Expr} {u v y : Tokens} → Is (sign s.OpenRound) o → BindingOf d u → BindingsOf bs v → Is (sign s.Comma) k → ExprOf a y → Is (sign s.CloseRound) c
      → WithIs t (e.With (d ∷ bs) a t.start) (o ∷ (u ++ (v ++ (k ∷ (y ++ (c ∷ []))))))

with_word : (t : Token) (u : Tokens) (a : Expr) → BasicOf a (t ∷ u) → Is (reserved r.With) t → WithIs t a u
unfolding same_reserved
with_word t _ _ (basic_integer i) h = absurd (apart integer_lexeme i.is (is_reserved {x = r.With} h) refl)
with_word t _ _ (basic_string i) h = absurd (apart text_lexeme i.is (is_reserved {x = r.With} h) refl)
with_word t _ _ (basic_bytes i) h = absurd (apart bytes_lexeme i.is (is_reserved {x = r.With} h) refl)
with_word t _ _ (basic_true i) h = absurd (apart (reserved_lexeme r.With) h.is (is_reserved {x = r.True} i) refl)
with_word t _ _ (basic_false i) h = absurd (apart (reserved_lexeme r.With) h.is (is_reserved {x = r.False} i) refl)
with_word t _ _ (basic_null i) h = absurd (apart (reserved_lexeme r.With) h.is (is_reserved {x = r.Null} i) refl)
with_word t _ _ (basic_date i j) h = absurd (apart (reserved_lexeme r.With) h.is (is_word {x = w.Date} i).is refl)
with_word t _ _ (basic_parameter i) h = absurd (apart parameter_lexeme i.is (is_reserved {x = r.With} h) refl)
with_word t _ _ (basic_name i) h = absurd (apart (reserved_lexeme r.With) h.is (is_named i).is refl)
with_word t _ _ (basic_call {k = k} {u = u} l) h = absurd (apart tells_function (call_function t k u l).is (is_reserved {x = r.With} h) refl)
with_word t _ _ (basic_safe_call i j g k) h = absurd (apart (reserved_lexeme r.With) h.is (is_word {x = w.Safe} i).is refl)
with_word t _ _ (basic_group i l g j) h = absurd (apart (reserved_lexeme r.With) h.is (is_sign {x = s.OpenRound} i) refl)
with_word t _ _ (basic_query i l j) h = absurd (apart (reserved_lexeme r.With) h.is (is_sign {x = s.OpenRound} i) refl)
with_word t _ _ (basic_tuple i l j) h = absurd (apart (reserved_lexeme r.With) h.is (is_sign {x = s.OpenRound} i) refl)
with_word t _ _ (basic_case i a b c d j) h = absurd (apart (reserved_lexeme r.With) h.is (is_reserved {x = r.Case} i) refl)
with_word t _ _ (basic_cast i j l g y k) h = absurd (apart (reserved_lexeme r.With) h.is (is_reserved {x = r.Cast} i) refl)
with_word t _ _ (basic_safe_cast i j l g y k) h = absurd (apart (reserved_lexeme r.With) h.is (is_word {x = w.SafeCast} i).is refl)
with_word t _ _ (basic_extract i j g k l c) h = absurd (apart (reserved_lexeme r.With) h.is (is_reserved {x = r.Extract} i) refl)
with_word t _ _ (basic_grouping i j l c) h = absurd (apart (reserved_lexeme r.With) h.is (is_reserved {x = r.Grouping} i) refl)
with_word t _ _ (basic_exists i j l c) h = absurd (apart (reserved_lexeme r.With) h.is (is_reserved {x = r.Exists} i) refl)
with_word t _ _ (basic_array_query i j l c) h = absurd (apart (reserved_lexeme r.With) h.is (is_reserved {x = r.Array} i) refl)
with_word t u _ (basic_array {b = d} {ms = ms} l) h = absurd (no_items ms d t u h l)
with_word t _ _ (basic_array_word i l) h = absurd (apart (reserved_lexeme r.With) h.is (is_reserved {x = r.Array} i) refl)
with_word t _ _ (basic_array_typed i j y g l) h = absurd (apart (reserved_lexeme r.With) h.is (is_reserved {x = r.Array} i) refl)
with_word t _ _ (basic_struct i j a b c) h = absurd (apart (reserved_lexeme r.With) h.is (is_reserved {x = r.Struct} i) refl)
with_word t _ _ (basic_typed_struct i j f g k l c) h = absurd (apart (reserved_lexeme r.With) h.is (is_reserved {x = r.Struct} i) refl)
with_word t _ _ (basic_with i io l z ik g ic) h = with_is io l z ik g ic

with_opens : (t : Token) (u : Tokens) (a : Expr) → WithIs t a u → (rest : Tokens) → comes (sign s.OpenRound) (u ++ rest) ≡ true
with_opens t _ _ (with_is io l z ik g ic) rest = io.is

module _ (n : ℕ) (b : Below) (x : Reading n b) where
  with_body_by : (t : Token) (w : Tokens) (a : Expr) → WithIs t a w → (rest : Tokens) → length (w ++ rest) < suc n → with_body n b t.start (w ++ rest) ≡ taken a rest
  with_body_by t _ _ (with_is {o = o} {k = k} {c = c} {d = d} {bs = bs} {a = a} {u = u} {v = v} {y = y} io l z ik g ic) rest lt = with_body_read n b x t.start o k c d bs a u v y io l z ik g ic rest lt

  pub with_body_all : (t : Token) → Is (reserved r.With) t → Read (suc n) Free (λ a w. BasicOf a (t ∷ w)) (with_body n b t.start)
  with_body_all t it = record { reads = λ {a = a} {u = w} l rest f lt. with_body_by t w a (with_word t w a l it) rest lt }

  -- ---- behind the expression with which they begin

  abbrev from : Expr → Option Opening → Parser Held
  from a o = elim o [ None ↦ listed n b (a ∷ []) | Some o ↦ if_comes (sign s.Comma) (two_listed n b a) (query_closed n b (b.more o)) ]

  from_read : (a : Expr) (bs : List Expr) (v : Tokens) → CommasOf bs v → alone (a ∷ bs) ≡ false → (c : Token) → Is (sign s.CloseRound) c → (rest : Tokens) → (o : Option Opening) → opening_of a ≡ o
      → length ((v ++ (c ∷ [])) ++ rest) < n → from a o ((v ++ (c ∷ [])) ++ rest) ≡ taken (held_exprs (a ∷ bs)) rest
  unfolding two_listed alone
  from_read a bs v z h c ic rest None g = last (less (list_closed_read n b x s.CloseRound refl (a ∷ []))) (commas_closed z ic) _ tt done
  from_read a _ _ commas_none h c ic rest (Some o) g = absurd (let i : true ≡ false = sym (subquery_opens a o g) ∙ h in cc)
  from_read a _ _ (commas_more {t = t} {a = d} {bs = bs} {u = u} {v = v} i l z) h c ic rest (Some o) g = then_on i.is _ _
      (subst (λ (w : Tokens). length ((t ∷ w) ++ rest) < n → two_listed n b a ((t ∷ w) ++ rest) ≡ taken (held_exprs (a ∷ d ∷ bs)) rest) (sym (append_assoc u v (c ∷ [])))
      (part (less (comma_expr_read n b x)) (after_of i l) (v ++ (c ∷ [])) rest _ (closed_over n b x s.CloseRound refl bs v z c ic rest) (last (less (list_closed_read n b x s.CloseRound refl (a ∷ d ∷ []))) (commas_closed z ic) _ tt done)))

  held_from_read : (a : Expr) (bs : List Expr) (v : Tokens) → CommasOf bs v → alone (a ∷ bs) ≡ false → (c : Token) → Is (sign s.CloseRound) c → (rest : Tokens) → length ((v ++ (c ∷ [])) ++ rest) < n
      → held_from n b a ((v ++ (c ∷ [])) ++ rest) ≡ taken (held_exprs (a ∷ bs)) rest
  unfolding held_from
  held_from_read a bs v z h c ic rest lt = from_read a bs v z h c ic rest (opening_of a) refl lt

  -- ---- expressions

  -- the first begins with WITH
  held_with_read : (t : Token) (w y : Tokens) (d a : Expr) → BasicOf d (t ∷ w) → Is (reserved r.With) t → ExprOf a ((t ∷ w) ++ y) → (bs : List Expr) (v : Tokens) → CommasOf bs v → alone (a ∷ bs) ≡ false
      → (c : Token) → Is (sign s.CloseRound) c → (rest : Tokens) → length ((t ∷ (w ++ (y ++ (v ++ (c ∷ []))))) ++ rest) < n → held_with n b t ((w ++ (y ++ (v ++ (c ∷ [])))) ++ rest) ≡ taken (held_exprs (a ∷ bs)) rest
  unfolding held_with
  held_with_read t w y d a m it l bs v z h c ic rest lt =
      let long : length (((t ∷ w) ++ y) ++ ((v ++ (c ∷ [])) ++ rest)) ≡ length ((t ∷ (w ++ (y ++ (v ++ (c ∷ []))))) ++ rest)
      = ap (λ (q : Tokens). length (t ∷ q)) (sym (append_assoc (w ++ y) (v ++ (c ∷ [])) rest) ∙ ap (λ (q : Tokens). q ++ rest) (append_assoc w y (v ++ (c ∷ [])))) in
      then_on {N = length ((w ++ (y ++ (v ++ (c ∷ [])))) ++ rest) < n} (ap (λ (q : Tokens). comes (sign s.OpenRound) q) (append_assoc w (y ++ (v ++ (c ∷ []))) rest) ∙ with_opens t w d (with_word t w d m it) ((y ++ (v ++ (c ∷ []))) ++ rest)) _ _
      (part (less (with_body_all t it)) m (y ++ (v ++ (c ∷ []))) rest _ tt
      (λ short. ap (λ (q : Tokens). and_then (b.rest t.start d q) (held_from n b)) (append_assoc y (v ++ (c ∷ [])) rest)
      ∙ ap (λ o. and_then o (held_from n b)) (x.rest d a t w y it m l ((v ++ (c ∷ [])) ++ rest) (closed_over n b x s.CloseRound refl bs v z c ic rest) (omega arith))
      ∙ held_from_read a bs v z h c ic rest (let g : length ((y ++ (v ++ (c ∷ []))) ++ rest) ≡ length (y ++ ((v ++ (c ∷ [])) ++ rest)) = ap length (append_assoc y (v ++ (c ∷ [])) rest) in let k = length-append y ((v ++ (c ∷ [])) ++ rest) in omega arith))) (omega arith)

  module _ (a : Expr) (bs : List Expr) (v : Tokens) (z : CommasOf bs v) (h : alone (a ∷ bs) ≡ false) (c : Token) (ic : Is (sign s.CloseRound) c) (rest : Tokens) where
    abbrev Goal : Tokens → Type 0
    Goal u = length ((u ++ (v ++ (c ∷ []))) ++ rest) < n → enclosed n b ((u ++ (v ++ (c ∷ []))) ++ rest) ≡ taken (held_exprs (a ∷ bs)) rest

    by_with_word : (t : Token) (w y : Tokens) (d : Expr) → BasicOf d (t ∷ w) → Is (reserved r.With) t → ExprOf a ((t ∷ w) ++ y) → Goal ((t ∷ w) ++ y)
    unfolding enclosed
    by_with_word t w y d m it l = subst (λ (q : Tokens). length ((t ∷ q) ++ rest) < n → enclosed n b ((t ∷ q) ++ rest) ≡ taken (held_exprs (a ∷ bs)) rest) (sym (append_assoc w y (v ++ (c ∷ []))))
        (λ lt. peeked (class_of by_expr content_class) (enclosed_by n b) (r_test r.With content_class it refl) (also it _ (λ _. held_with_read t w y d a m it l bs v z h c ic rest lt)) lt)

    by_basic : (t : Token) (u : Tokens) → Is (reserved r.With) t → ExprOf a (t ∷ u) → (d : Expr) (w y : Tokens) → BasicOf d w → (t ∷ u) ≡ w ++ y → Goal (t ∷ u)
    by_basic t u it l d [] y m q = let g = solid_basic d [] m in absurd (omega arith)
    by_basic t u it l d (k ∷ w) y m q =
        let same : t ≡ k = cc in
        subst Goal (sym q) (by_with_word k w y d m (subst (λ (j : Token). Is (reserved r.With) j) same it) (subst (ExprOf a) q l))

    by_front : (t : Token) (u : Tokens) → Is (reserved r.With) t → ExprOf a (t ∷ u) → (d : Expr) (w y : Tokens) → PostfixOf d w → (t ∷ u) ≡ w ++ y → Goal (t ∷ u)
    by_front t u it l _ _ y (postfix_is {a = d} {u = w} {v = k} m g) q = by_basic t u it l d w (k ++ y) m (q ∙ append_assoc w k y)

    by_class : (t : Token) (u : Tokens) → ExprOf a (t ∷ u) → (k : Content) → content_class t.lexeme ≡ k → Goal (t ∷ u)
    unfolding enclosed
    by_class t u l by_select q = absurd (content_expr t.lexeme (expr_starts a (t ∷ u) [] l).starts q)
    by_class t u l by_with q =
        let it : Is (reserved r.With) t = record { is = content_with t.lexeme q } in
        let g = expr_front a (t ∷ u) l [] (starts_r r.With it (omega arith)) in
        by_front t u it l g.first g.text g.more g.spells g.splits
    by_class t u l by_expr q = peeked (class_of by_expr content_class) (enclosed_by n b) q (part x.inner l (v ++ (c ∷ [])) rest _ (closed_over n b x s.CloseRound refl bs v z c ic rest) (held_from_read a bs v z h c ic rest))

    exprs_by : (u : Tokens) → ExprOf a u → Goal u
    exprs_by [] l = absurd (no_expr a l)
    exprs_by (t ∷ u) l = by_class t u l (content_class t.lexeme) refl

  -- ---- a query

  scalar_from : (q : Query) (p : ℕ) (ts : Tokens) → held_from n b (e.Scalar q p) ts ≡ from (e.Scalar q p) (Some (term_read (term.Query q p) p)) ts
  unfolding held_from opening_of
  scalar_from q p ts = ap (λ o. from (e.Scalar q p) o ts) (ap opening_layer (outs-Scalar q p))

  closed_by : (p : Parser Query) {F : Tokens → Type 0} {L : Language Token Query} → Read n F L p → (q : Query) (u : Tokens) → L q u → (c : Token) → Is (sign s.CloseRound) c → (rest : Tokens) → F ((c ∷ []) ++ rest) → length ((u ++ (c ∷ [])) ++ rest) < n
      → query_closed n b p ((u ++ (c ∷ [])) ++ rest) ≡ taken (held_query q) rest
  unfolding query_closed
  closed_by p y q u l c ic rest f = part y l (c ∷ []) rest _ f (also ic _ done)

  term_by : (o d : Token) (q : Query) (v : Tokens) → Is (sign s.OpenRound) o → QueryOf q v → Is (sign s.CloseRound) d → (k : SetKind) (ms : List (SetTerm Term)) (w : Tokens) → SetTermsOf k ms w
      → (ss : List (Sort Expr)) (y : Tokens) → OrderOf ss y → (j : Option (LimitPart Expr)) (z : Tokens) → LimitOf j z → (c : Token) → Is (sign s.CloseRound) c → (rest : Tokens)
      → length ((((o ∷ (v ++ (d ∷ []))) ++ (w ++ (y ++ z))) ++ (c ∷ [])) ++ rest) < n → enclosed n b ((((o ∷ (v ++ (d ∷ []))) ++ (w ++ (y ++ z))) ++ (c ∷ [])) ++ rest)
      ≡ taken (held_query (roll-Query (record { ctes = []; body = record { first = term.Query q o.start; rest = ms; place = o.start }; order = ss; limit = j; place = o.start }))) rest
  unfolding enclosed
  term_by o d q v io l id k ms w m ss y g j z i c ic rest =
      let ahead = both_ahead w (y ++ z) (sets_ahead k ms w m) (both_ahead y z (order_ahead ss y g) (limit_ahead j z i) (omega arith)) (omega arith) in
      let over : Over 15 (((w ++ (y ++ z)) ++ (c ∷ [])) ++ rest) = on (c ∷ []) rest ahead (omega arith) (over_s s.CloseRound ic (omega arith)) in
      let tree = roll-Query (record { ctes = []; body = record { first = term.Query q o.start; rest = ms; place = o.start }; order = ss; limit = j; place = o.start }) in
      subst (λ (q : Tokens). length (q ++ rest) < n → enclosed n b (q ++ rest) ≡ taken (held_query tree) rest) (sym (append_assoc (o ∷ (v ++ (d ∷ []))) (w ++ (y ++ z)) (c ∷ [])))
      (peeked (class_of by_expr content_class) (enclosed_by n b) (s_test s.OpenRound content_class io refl)
      (part x.inner (basic_expr (e.Scalar q o.start) (o ∷ (v ++ (d ∷ []))) (basic_query io l id)) ((w ++ (y ++ z)) ++ (c ∷ [])) rest _ (weak (omega arith) over)
      (λ lt. scalar_from q o.start (((w ++ (y ++ z)) ++ (c ∷ [])) ++ rest)
      ∙ else_on (over_not_s over s.Comma (omega arith)) _ _ (closed_by _ (x.term_more (term.Query q o.start) o.start) tree (w ++ (y ++ z)) (term_more_is m g i) c ic rest (over_s s.CloseRound ic (omega arith))) lt)))

  query_by : (q : Query) (u : Tokens) → QueryOf q u → (c : Token) → Is (sign s.CloseRound) c → (rest : Tokens) → length ((u ++ (c ∷ [])) ++ rest) < n → enclosed n b ((u ++ (c ∷ [])) ++ rest) ≡ taken (held_query q) rest
  unfolding enclosed held_with
  query_by _ _ (query_is ctes_none (body_is (term_select (select_is i k1 k2 k3 k4 k5 k6 k7 k8)) m) g j) c ic rest =
      peeked (class_of by_expr content_class) (enclosed_by n b) (r_test r.Select content_class i refl)
      (closed_by b.query x.query _ _ (query_is ctes_none (body_is (term_select (select_is i k1 k2 k3 k4 k5 k6 k7 k8)) m) g j) c ic rest (over_s s.CloseRound ic (omega arith)))
  query_by _ _ (query_is {ss = ss} {k = j} {x = y} {y = z} ctes_none (body_is {k = k} {ms = ms} {v = w} (term_query {o = o} {c = d} {q = q} {v = v} io l id) m) g i) c ic rest =
      subst (λ (p : Tokens). length ((p ++ (c ∷ [])) ++ rest) < n → enclosed n b ((p ++ (c ∷ [])) ++ rest)
      ≡ taken (held_query (roll-Query (record { ctes = []; body = record { first = term.Query q o.start; rest = ms; place = o.start }; order = ss; limit = j; place = o.start }))) rest)
      (sym (append_assoc (o ∷ (v ++ (d ∷ []))) w (y ++ z))) (term_by o d q v io l id k ms w m ss y g j z i c ic rest)
  query_by _ _ (query_is (ctes_are {t = t} it (cte_is jn ja jo jq jc) k) m g j) c ic rest =
      peeked (class_of by_expr content_class) (enclosed_by n b) (r_test r.With content_class it refl) (also it _ (else_on (n_test (sign_lexeme s.OpenRound) jn (λ n o. refl)) _ _
      (closed_by _ (x.with_more t it) _ _ (query_is (ctes_are it (cte_is jn ja jo jq jc) k) m g j) c ic rest (over_s s.CloseRound ic (omega arith)))))

  pub held_read : Read n Free HeldOf (enclosed n b)
  held_read = record { reads = by }
    where
      by : {a : Held} {u : Tokens} → HeldOf a u → (rest : Tokens) → Unit {0} → length (u ++ rest) < n → enclosed n b (u ++ rest) ≡ taken a rest
      by (holds_query {q = q} {c = c} {u = u} l ic) rest f = query_by q u l c ic rest
      by (holds_exprs {c = c} (list_is {a = a} {bs = bs} {u = u} {v = v} l z) h ic) rest f =
          subst (λ (w : Tokens). length (w ++ rest) < n → enclosed n b (w ++ rest) ≡ taken (held_exprs (a ∷ bs)) rest) (sym (append_assoc u v (c ∷ []))) (exprs_by a bs v z h c ic rest u l)

  -- ---- expressions in parentheses

  pub group_read : (o c : Token) (a : Expr) (v : Tokens) → Is (sign s.OpenRound) o → ExprOf a v → is_subquery a ≡ false → Is (sign s.CloseRound) c → (rest : Tokens) → length ((o ∷ (v ++ (c ∷ []))) ++ rest) < suc n
      → group n b ((o ∷ (v ++ (c ∷ []))) ++ rest) ≡ taken a rest
  unfolding group alone
  group_read o c a v io l h ic rest = tok io _ (last held_read (subst (λ (w : Tokens). HeldOf (held_exprs (a ∷ [])) (w ++ (c ∷ []))) (append-nil v) (holds_exprs (list_is l commas_none) h ic)) _ tt done)

  pub scalar_read : (o c : Token) (q : Query) (v : Tokens) → Is (sign s.OpenRound) o → QueryOf q v → Is (sign s.CloseRound) c → (rest : Tokens) → length ((o ∷ (v ++ (c ∷ []))) ++ rest) < suc n
      → group n b ((o ∷ (v ++ (c ∷ []))) ++ rest) ≡ taken (e.Scalar q o.start) rest
  unfolding group
  scalar_read o c q v io l ic rest = tok io _ (last held_read (holds_query l ic) _ tt done)

  pub tuple_read : (o c : Token) (a d : Expr) (bs : List Expr) (v : Tokens) → Is (sign s.OpenRound) o → ListOf (a ∷ d ∷ bs) v → Is (sign s.CloseRound) c → (rest : Tokens) → length ((o ∷ (v ++ (c ∷ []))) ++ rest) < suc n
      → group n b ((o ∷ (v ++ (c ∷ []))) ++ rest) ≡ taken (e.Tuple (a ∷ d ∷ bs) o.start) rest
  unfolding group alone
  tuple_read o c a d bs v io l ic rest = tok io _ (last held_read (holds_exprs l refl ic) _ tt done)
