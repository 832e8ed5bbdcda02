-- Where nothing goes on, what goes on behind an expression is nothing; and with which tokens brackets begin that hold
-- something.
use Rattle.std.proofs.Common.{◌≡◌, ℕ, zero, suc, Bool, true, false, List, [], ◌∷◌, ◌++◌, Option, Some, None, refl, ◌∙◌, ap, subst, arith}
use Rattle.std.proofs.lemmas.List.{append_assoc}
use Rattle.fronts.specs.Readers.{taken, ◌>>=◌, and_then, comes, many}
use Rattle.sql_ast.specs.declared.expr.Expr.{Expr}
use Rattle.sql_ast.specs.declared.expr.Expr.TheVariants as e
use Rattle.sql_ast.specs.declared.expr.Link.{Link}
use Rattle.sql_ast.specs.declared.expr.Operator.{Operator}
use Rattle.sql_ast.specs.declared.expr.Operator.TheVariants as operator
use Rattle.sql_ast.specs.declared.expr.Part.{Part}
use Rattle.sql_ast.specs.declared.query.Query.{Query}
use Rattle.sql_names.specs.declared.words.Reserved.TheVariants as r
use Rattle.sql_ast.specs.declared.words.Sign.TheVariants as s
use Rattle.sql_ast.specs.declared.words.Word.TheVariants as w
use Rattle.sql_ast.specs.declared.token.Token.{Token}
use Rattle.sql_ast.specs.declared.token.Lexeme.{Lexeme}
use Rattle.sql_ast.specs.Marks.{Tokens, Is, reserved, sign, same_sign, sign_lexeme, integer_lexeme, text_lexeme, bytes_lexeme, parameter_lexeme}
use Rattle.sql_ast.specs.Trees.{chain, path, function_lexeme, product_of, sum_of}
use Rattle.sql_ast.specs.Grammar.{ExprOf, PostfixOf, postfix_is, BasicOf, basic_integer, basic_string, basic_bytes, basic_true, basic_false, basic_null, basic_date, basic_parameter, basic_name, basic_call, basic_safe_call, basic_group, basic_query, basic_tuple, basic_case, basic_cast, basic_safe_cast, basic_extract, basic_grouping, basic_exists, basic_array_query, basic_array, basic_array_word, basic_array_typed, basic_struct, basic_typed_struct, basic_with, ArrayItemsOf, array_empty, array_items, QueryOf, query_is, ctes_none, ctes_are, body_is, term_select, term_query, select_is}
use Rattle.sql_grammar.specs.Ways.{Parser, Ended}
use Rattle.sql_grammar.specs.Classes.{class_of, comparison_class, no_comparison}
use Rattle.sql_grammar.specs.Exprs.{tells, told, Below, Pending, part_next, shift_next, linked, linked_pending, part_or_star, postfix_from, chain_from, pending_from, product_from, sum_from, shift_item, shift_from, band_from, bxor_from, bor_from, compared, compared_by, conjunction_from, disjunction_from, expr_from, expr_after, unary, product, shift, band, bxor, negation, conjunction}
use Rattle.sql_grammar.proofs.Solid.{solid_basic}
use Rattle.sql_grammar.proofs.Follows.{Over, level, is_reserved, is_sign, is_named, is_word}
use Rattle.sql_grammar.proofs.CompleteSteps.{apart, else_on, done, peeked, weak, refute, r_test, s_test, over_not_s, over_not_r, starts_not_s}
use Rattle.sql_grammar.proofs.CompleteStarts.{product_level, sum_level, expr_starts, list_starts, starts_s}
use Rattle.sql_grammar.proofs.CompleteRepeats.{until_stop}
use Rattle.sql_grammar.proofs.CompleteLevels.{shift_level}
use Rattle.sql_grammar.proofs.CompleteFronts.{expr_front}
use Rattle.sql_grammar.proofs.CompleteComparisons.{no_comparison_next}
use Rattle.sql_grammar.proofs.CompletePostfix.{no_part}
use Rattle.sql_grammar.proofs.CompleteTails.{call_function}

many_stop : {A : Type 0} (fits : Token → Bool) (item : Parser A) (m : ℕ) (found : List A) (ts : Tokens) → comes fits ts ≡ false → many fits item m found ts ≡ taken found ts
unfolding many
many_stop fits item zero found ts h = else_on {N = Unit {0}} h _ _ done tt
many_stop fits item (suc m) found ts h = else_on {N = Unit {0}} h _ _ done tt

no_level : (fits : Token → Bool) (k : ℕ) → ((t : Token) → fits t ≡ true → level t.lexeme ≡ k) → (ts : Tokens) → Over k ts → comes fits ts ≡ false
no_level fits k h [] o = refl
no_level fits k h (t ∷ ts) o = refute (fits t) (λ e. let g = h t e in let i = o.over in omega arith)

module _ (n : ℕ) (b : Below) (p : ℕ) (ts : Tokens) (f : Over 10 ts) where
  chain_nothing : (fits : Token → Bool) (op : Token → Operator) (operand : Parser Expr) (make : Expr → List (Link Expr) → ℕ → Expr) (a : Expr) → comes fits ts ≡ false → chain_from n b fits op operand make p a ts ≡ taken a ts
  unfolding chain_from chain
  chain_nothing fits op operand make a h = ap (λ o. and_then o (λ ls. λ ts. taken (chain make a ls p) ts)) (many_stop fits (linked fits op operand) n [] ts h)

  pending_nothing : (fits : Token → Bool) (op : Operator) (operand : Parser Pending) (make : Expr → List (Link Expr) → ℕ → Expr) (a : Expr) → comes fits ts ≡ false → pending_from n b fits op operand make p (a, None) ts ≡ taken (a, None) ts
  unfolding chain
  pending_nothing fits op operand make a h = ap (λ o. and_then o (λ x. λ ts. taken (chain make a x.0 p, x.1) ts)) (until_stop fits (linked_pending fits op operand) n [] ts h)

  shift_nothing : (a : Expr) → shift_from n b p a ts ≡ taken (a, None) ts
  unfolding shift_from chain
  shift_nothing a = ap (λ o. and_then o (λ x. λ ts. taken (chain e.Shift a x.0 p, x.1) ts)) (until_stop shift_next (shift_item n b) n [] ts (no_level shift_next 4 shift_level ts (weak (omega arith) f)))

  pub from_nothing : (a : Expr) → expr_from n b p a ts ≡ taken a ts
  unfolding expr_from product_from sum_from band_from bxor_from bor_from conjunction_from disjunction_from
  from_nothing a =
      let k9 : Expr → Parser Expr = disjunction_from n b p in
      let k8 : Expr → Parser Expr = λ c. conjunction_from n b p c >>= k9 in
      let k7 : Pending → Parser Expr = λ c. compared n b p c >>= k8 in
      let k6 : Pending → Parser Expr = λ c. bor_from n b p c >>= k7 in
      let k5 : Pending → Parser Expr = λ c. bxor_from n b p c >>= k6 in
      let k4 : Pending → Parser Expr = λ c. band_from n b p c >>= k5 in
      let k3 : Expr → Parser Expr = λ c. shift_from n b p c >>= k4 in
      let k2 : Expr → Parser Expr = λ c. sum_from n b p c >>= k3 in
      ap (λ o. and_then o k2) (chain_nothing (tells product_of) (told operator.Multiply product_of) (unary n b) e.Product a (no_level (tells product_of) 2 product_level ts (weak (omega arith) f)))
      ∙ ap (λ o. and_then o k3) (chain_nothing (tells sum_of) (told operator.Add sum_of) (product n b) e.Sum a (no_level (tells sum_of) 3 sum_level ts (weak (omega arith) f)))
      ∙ ap (λ o. and_then o k4) (shift_nothing a)
      ∙ ap (λ o. and_then o k5) (pending_nothing (sign s.Ampersand) operator.BitAnd (shift n b) e.BitAnd a (over_not_s f s.Ampersand (omega arith)))
      ∙ ap (λ o. and_then o k6) (pending_nothing (sign s.Caret) operator.BitXor (band n b) e.BitXor a (over_not_s f s.Caret (omega arith)))
      ∙ ap (λ o. and_then o k7) (pending_nothing (sign s.Bar) operator.BitOr (bxor n b) e.BitOr a (over_not_s f s.Bar (omega arith)))
      ∙ ap (λ o. and_then o k8) (peeked {N = Unit {0}} (class_of no_comparison comparison_class) (compared_by n b p a) (no_comparison_next ts (weak (omega arith) f)) done tt)
      ∙ ap (λ o. and_then o k9) (chain_nothing (reserved r.And) (λ t. operator.And) (negation n b) e.And a (over_not_r f r.And (omega arith)))
      ∙ chain_nothing (reserved r.Or) (λ t. operator.Or) (conjunction n b) e.Or a (over_not_r f r.Or (omega arith))

  pub after_nothing : (a : Expr) → expr_after n b p a ts ≡ taken a ts
  unfolding expr_after postfix_from path
  after_nothing a =
      let k1 : Ended (Part Expr) Token → Parser (Expr × Option Token) = λ x. λ ts. taken (path a x.0 p, x.1) ts in
      let k2 : Expr × Option Token → Parser Expr = λ y. λ ts. taken y.0 ts in
      ap (λ o. and_then (and_then (and_then o k1) k2) (expr_from n b p)) (until_stop part_next (part_or_star n b false) n [] ts (no_part ts (weak (omega arith) f))) ∙ from_nothing a

-- ---- a bracket that holds something

abbrev tells_function : Lexeme → Bool
tells_function x = elim (function_lexeme x) [ None ↦ false | Some a ↦ true ]

no_items : (ms : List Expr) (d t : Token) (u : Tokens) → Is (sign s.OpenRound) t → ArrayItemsOf ms d (t ∷ u) → ⊥
unfolding same_sign
no_items _ _ t _ i (array_empty j k) = apart (sign_lexeme s.OpenRound) i.is (is_sign {x = s.OpenSquare} j) refl
no_items _ _ t _ i (array_items j l k) = apart (sign_lexeme s.OpenRound) i.is (is_sign {x = s.OpenSquare} j) refl

pub query_not_close : (q : Query) (v rest : Tokens) → QueryOf q v → comes (sign s.CloseRound) (v ++ rest) ≡ false
unfolding same_sign
query_not_close _ _ rest (query_is ctes_none (body_is (term_select (select_is i k1 k2 k3 k4 k5 k6 k7 k8)) m) g j) = r_test r.Select (sign_lexeme s.CloseRound) i refl
query_not_close _ _ rest (query_is ctes_none (body_is (term_query i k c) m) g j) = s_test s.OpenRound (sign_lexeme s.CloseRound) i refl
query_not_close _ _ rest (query_is (ctes_are i k1 k2) k g j) = r_test r.With (sign_lexeme s.CloseRound) i refl

front : (v : Tokens) (c : Token) (rest : Tokens) → ((r : Tokens) → comes (sign s.CloseRound) (v ++ r) ≡ false) → comes (sign s.CloseRound) ((v ++ (c ∷ [])) ++ rest) ≡ false
front v c rest h = ap (comes (sign s.CloseRound)) (append_assoc v (c ∷ []) rest) ∙ h (c ∷ rest)

bracket_word : (t : Token) (u : Tokens) (a : Expr) → BasicOf a (t ∷ u) → Is (sign s.OpenRound) t → (rest : Tokens) → comes (sign s.CloseRound) (u ++ rest) ≡ false
unfolding same_sign
bracket_word t _ _ (basic_integer i) h rest = absurd (apart integer_lexeme i.is (is_sign {x = s.OpenRound} h) refl)
bracket_word t _ _ (basic_string i) h rest = absurd (apart text_lexeme i.is (is_sign {x = s.OpenRound} h) refl)
bracket_word t _ _ (basic_bytes i) h rest = absurd (apart bytes_lexeme i.is (is_sign {x = s.OpenRound} h) refl)
bracket_word t _ _ (basic_true i) h rest = absurd (apart (sign_lexeme s.OpenRound) h.is (is_reserved {x = r.True} i) refl)
bracket_word t _ _ (basic_false i) h rest = absurd (apart (sign_lexeme s.OpenRound) h.is (is_reserved {x = r.False} i) refl)
bracket_word t _ _ (basic_null i) h rest = absurd (apart (sign_lexeme s.OpenRound) h.is (is_reserved {x = r.Null} i) refl)
bracket_word t _ _ (basic_date i j) h rest = absurd (apart (sign_lexeme s.OpenRound) h.is (is_word {x = w.Date} i).is refl)
bracket_word t _ _ (basic_parameter i) h rest = absurd (apart parameter_lexeme i.is (is_sign {x = s.OpenRound} h) refl)
bracket_word t _ _ (basic_name i) h rest = absurd (apart (sign_lexeme s.OpenRound) h.is (is_named i).is refl)
bracket_word t _ _ (basic_call {k = k} {u = u} l) h rest = absurd (apart tells_function (call_function t k u l).is (is_sign {x = s.OpenRound} h) refl)
bracket_word t _ _ (basic_safe_call i j g k) h rest = absurd (apart (sign_lexeme s.OpenRound) h.is (is_word {x = w.Safe} i).is refl)
bracket_word t _ _ (basic_case i a b c d j) h rest = absurd (apart (sign_lexeme s.OpenRound) h.is (is_reserved {x = r.Case} i) refl)
bracket_word t _ _ (basic_cast i j l g y k) h rest = absurd (apart (sign_lexeme s.OpenRound) h.is (is_reserved {x = r.Cast} i) refl)
bracket_word t _ _ (basic_safe_cast i j l g y k) h rest = absurd (apart (sign_lexeme s.OpenRound) h.is (is_word {x = w.SafeCast} i).is refl)
bracket_word t _ _ (basic_extract i j g k l c) h rest = absurd (apart (sign_lexeme s.OpenRound) h.is (is_reserved {x = r.Extract} i) refl)
bracket_word t _ _ (basic_grouping i j l c) h rest = absurd (apart (sign_lexeme s.OpenRound) h.is (is_reserved {x = r.Grouping} i) refl)
bracket_word t _ _ (basic_exists i j l c) h rest = absurd (apart (sign_lexeme s.OpenRound) h.is (is_reserved {x = r.Exists} i) refl)
bracket_word t _ _ (basic_array_query i j l c) h rest = absurd (apart (sign_lexeme s.OpenRound) h.is (is_reserved {x = r.Array} i) refl)
bracket_word t u _ (basic_array {b = d} {ms = ms} l) h rest = absurd (no_items ms d t u h l)
bracket_word t _ _ (basic_array_word i l) h rest = absurd (apart (sign_lexeme s.OpenRound) h.is (is_reserved {x = r.Array} i) refl)
bracket_word t _ _ (basic_array_typed i j y g l) h rest = absurd (apart (sign_lexeme s.OpenRound) h.is (is_reserved {x = r.Array} i) refl)
bracket_word t _ _ (basic_struct i j a b c) h rest = absurd (apart (sign_lexeme s.OpenRound) h.is (is_reserved {x = r.Struct} i) refl)
bracket_word t _ _ (basic_typed_struct i j f g k l c) h rest = absurd (apart (sign_lexeme s.OpenRound) h.is (is_reserved {x = r.Struct} i) refl)
bracket_word t _ _ (basic_with i io l z ik g ic) h rest = absurd (apart (sign_lexeme s.OpenRound) h.is (is_reserved {x = r.With} i) refl)
bracket_word t _ _ (basic_group {c = c} {a = a} {v = v} i l g j) h rest = front v c rest (λ r. starts_not_s (expr_starts a v r l) s.CloseRound (omega arith))
bracket_word t _ _ (basic_query {c = c} {q = q} {v = v} i l j) h rest = front v c rest (λ r. query_not_close q v r l)
bracket_word t _ _ (basic_tuple {c = c} {a = a} {b = d} {bs = bs} {v = v} i l j) h rest = front v c rest (λ r. starts_not_s (list_starts (a ∷ d ∷ bs) v r l) s.CloseRound (omega arith))

by_basic : (t : Token) (u : Tokens) → Is (sign s.OpenRound) t → (rest : Tokens) → (d : Expr) (v y : Tokens) → BasicOf d v → (t ∷ u) ≡ v ++ y → comes (sign s.CloseRound) (u ++ rest) ≡ false
by_basic t u it rest d [] y m q = let g = solid_basic d [] m in absurd (omega arith)
by_basic t u it rest d (k ∷ v) y m q =
    let same : t ≡ k = cc in
    let is : u ≡ v ++ y = cc in
    ap (λ (x : Tokens). comes (sign s.CloseRound) (x ++ rest)) is ∙ ap (comes (sign s.CloseRound)) (append_assoc v y rest) ∙ bracket_word k v d m (subst (λ (j : Token). Is (sign s.OpenRound) j) same it) (y ++ rest)

by_front : (t : Token) (u : Tokens) → Is (sign s.OpenRound) t → (rest : Tokens) → (d : Expr) (v y : Tokens) → PostfixOf d v → (t ∷ u) ≡ v ++ y → comes (sign s.CloseRound) (u ++ rest) ≡ false
by_front t u it rest _ _ y (postfix_is {a = d} {u = v} {v = k} m g) q = by_basic t u it rest d v (k ++ y) m (q ∙ append_assoc v k y)

-- an expression that begins with `(` doesn't begin with `()`
pub bracket_holds : (t : Token) (u : Tokens) (a : Expr) → ExprOf a (t ∷ u) → Is (sign s.OpenRound) t → (rest : Tokens) → comes (sign s.CloseRound) (u ++ rest) ≡ false
bracket_holds t u a l it rest = let g = expr_front a (t ∷ u) l [] (starts_s s.OpenRound it (omega arith)) in by_front t u it rest g.first g.text g.more g.spells g.splits
