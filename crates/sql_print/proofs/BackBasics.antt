-- Basic expressions are spelled by the tokens of their prints, if the expressions, types and queries in them are.
use Rattle.std.proofs.Common.{◌≡◌, ℕ, suc, ◌<◌, true, false, List, [], ◌∷◌, ◌++◌, length, map, Some, None, refl, sym, ◌∙◌, ap, subst, arith}
use Rattle.std.proofs.lemmas.List.{length-append, append_assoc}
use Rattle.sql_names.specs.declared.words.Reserved.TheVariants as r
use Rattle.sql_ast.specs.declared.words.Sign.TheVariants as s
use Rattle.sql_ast.specs.declared.words.Word.TheVariants as keyword
use Rattle.sql_ast.specs.declared.token.Token.{Token}
use Rattle.sql_ast.specs.declared.token.Lexeme.{Lexeme}
use Rattle.sql_ast.specs.declared.token.Lexeme.TheVariants as l
use Rattle.sql_ast.specs.declared.clauses.Aliased.{Aliased}
use Rattle.sql_ast.specs.declared.clauses.Binding.{Binding}
use Rattle.sql_ast.specs.declared.clauses.Call.{Call}
use Rattle.sql_ast.specs.declared.clauses.Function.{Function}
use Rattle.sql_ast.specs.declared.clauses.Function.TheVariants as function
use Rattle.sql_ast.specs.declared.expr.Expr.{Expr}
use Rattle.sql_ast.specs.declared.expr.Expr.TheVariants as e
use Rattle.sql_ast.specs.declared.expr.Expr.TheOpen as ast
use Rattle.sql_ast.specs.declared.query.Query.{Query}
use Rattle.sql_ast.specs.Marks.{Tokens, Is, sign as sign_test, named, name_lexeme, integer_lexeme, number, number_lexeme, text_lexeme, bytes_lexeme, parameter_lexeme, content, content_lexeme, spelled, spelled_lexeme}
use Rattle.sql_ast.specs.Trees.{name_at, function_lexeme}
use Rattle.sql_ast.specs.Parts.{TypeOf, type_levels, FieldsOf}
use Rattle.sql_ast.specs.Grammar.{ExprOf, QueryOf, ListOf, CallOf, call_is, ArrayItemsOf, BasicOf, basic_integer, basic_string, basic_bytes, basic_true, basic_false, basic_null, basic_date, basic_parameter, basic_name, basic_call, basic_safe_call, basic_group, basic_query, basic_tuple, basic_case, basic_cast, basic_safe_cast, basic_extract, basic_grouping, basic_exists, basic_array_query, basic_array, basic_array_word, basic_array_typed, basic_struct, basic_typed_struct, basic_with}
use Rattle.sql_ast.specs.Pieces.{Piece, word, name, sign, bracketed, if_there, word_if_plain, spelled_word}
use Rattle.sql_ast.specs.Canon.{function_piece, canon_pieces, type_pieces}
use Rattle.sql_same.specs.Bare.{as_is, bare_call, bare_field, bare_aliased, bare_binding, BareExpr, BareType, BareQuery}
use Rattle.sql_print.specs.PartPieces.{run, listed, call_pieces, field_pieces, when_pieces, aliased_pieces, binding_pieces}
use Rattle.sql_print.specs.ExprPieces.{else_pieces}
use Rattle.sql_print.specs.TreePieces.{expr_pieces}
use Rattle.sql_print.proofs.Carried.{Carries, carries_more, Found, Back, split, one, nothing, carry, in_four, is_reserved, is_sign, is_word, is_named}
use Rattle.sql_print.proofs.BackNames.{name_same}
use Rattle.sql_print.proofs.BackTypes.{back_type, back_fields, angled_by}
use Rattle.sql_print.proofs.BackLevels.{Level, Spelled}
use Rattle.sql_print.proofs.BackLists.{Inner, basic_node, found, enclosed, back_list}
use Rattle.sql_print.proofs.BackCalls.{back_call}
use Rattle.sql_print.proofs.BackParts.{back_subject, back_else, back_when, back_whens, back_member, back_members, back_binding, back_bindings, array_back}

abbrev bare : Expr → Expr
bare = BareExpr as_is

never : {A : Type 0} → false ≡ true → A
never h = absurd (let g : true ≡ false = sym h in cc)

-- brackets and what the tokens in them carry
within : (ps : List Piece) (G : Tokens → Type 0) → ((o c : Token) (u : Tokens) → Is (sign_test s.OpenRound) o → Carries ps u → Is (sign_test s.CloseRound) c → G (o ∷ (u ++ (c ∷ [])))) → (ts : Tokens) → Carries (bracketed ps) ts → G ts
within ps G k ts h = one G ts h (λ o v e h. split (λ v. G (o ∷ v)) v h (λ u w cu cw. one (λ w. G (o ∷ (u ++ w))) w cw (λ c w f cw. nothing (λ w. G (o ∷ (u ++ (c ∷ w)))) w cw (k o c u (is_sign s.OpenRound o e) cu (is_sign s.CloseRound c f)))))

-- a function that is called by a name is printed as a name
named_function : (x : Lexeme) (f : Function) → function_lexeme x ≡ Some f → name_lexeme x ≡ true → name_lexeme (function_piece f).lexeme ≡ true
named_function (l.Name n o) function.If h i = absurd (cc)
named_function (l.Name n o) (function.Named text) h i = refl
named_function _ f h i = never i

named_call : (k : Call Expr) (t : Token) (u : Tokens) → CallOf k (t ∷ u) → Is named t → name_lexeme (function_piece k.function).lexeme ≡ true
named_call _ t u (call_is {f = f} i io di ai ni oi ki ic) j = named_function t.lexeme f i.is j.is

module _ (n : ℕ) (x : Inner n) where
  -- a node that is found beside its tokens
  at : (ts : Tokens) (b a : Expr) → BasicOf b ts → bare b ≡ bare a → Found (Level 12) bare a ts
  unfolding Level
  at ts b a z same = record { tree = b; spells = z; same = same }

  -- the tokens of a call, the first apart
  call_at : (k : Call Expr) (G : Tokens → Type 0) → Back CallOf (bare_call as_is bare) (call_pieces expr_pieces k) k
      → ((t : Token) (w : Tokens) → t.lexeme ≡ (function_piece k.function).lexeme → Found CallOf (bare_call as_is bare) k (t ∷ w) → G (t ∷ w)) → (ts : Tokens) → Carries (call_pieces expr_pieces k) ts → G ts
  call_at k G b f _ (carries_more {t = t} {ts = w} e touch h) = f t w e (b.back (t ∷ w) (carries_more e touch h))

  tuple_at : (a b : Expr) (bs : List Expr) (place : ℕ) (o c : Token) (w : Tokens) → Is (sign_test s.OpenRound) o → Found ListOf (map bare) (a ∷ b ∷ bs) w → Is (sign_test s.CloseRound) c → Found BasicOf bare (e.Tuple (a ∷ b ∷ bs) place) (o ∷ (w ++ (c ∷ [])))
  unfolding Level
  tuple_at a b bs place o c w io f ic = by f.tree f.spells f.same
    where
      by : (ms : List Expr) → ListOf ms w → map bare ms ≡ map bare (a ∷ b ∷ bs) → Found BasicOf bare (e.Tuple (a ∷ b ∷ bs) place) (o ∷ (w ++ (c ∷ [])))
      by [] z same = absurd (cc)
      by (m ∷ []) z same = absurd (cc)
      by (m ∷ k ∷ ms) z same =
          found 12 (o ∷ (w ++ (c ∷ []))) (e.Tuple (m ∷ k ∷ ms) o.start) (e.Tuple (a ∷ b ∷ bs) place) (ast.Tuple (m ∷ k ∷ ms) o.start) (ast.Tuple (a ∷ b ∷ bs) place) (e.outs-Tuple (m ∷ k ∷ ms) o.start) (e.outs-Tuple (a ∷ b ∷ bs) place)
          (basic_tuple io z ic) (ap (λ (y : List Expr). ast.Tuple y 0) same)

  untyped_array : (p q : ℕ) (ms : List Expr) (b : Token) (u : Tokens) → ArrayItemsOf ms b u → length u < suc n → Spelled (e.Array None ms p q)
  unfolding Level
  untyped_array p q ms b u z lt =
      let whole = e.Array None ms p q in
      basic_node whole (ast.Array None ms p q) (e.outs-Array None ms p q) refl (λ ts h. array_back n x ms b u z lt (Found BasicOf bare whole) (λ b' w f.
      found 12 (b' ∷ w) (e.Array None f.tree b'.start b'.start) whole (ast.Array None f.tree b'.start b'.start) (ast.Array None ms p q) (e.outs-Array None f.tree b'.start b'.start) (e.outs-Array None ms p q)
      (basic_array f.spells) (ap (λ (m : List Expr). ast.Array None m 0 0) f.same)) ts h)

  pub basic_spelled : (a : Expr) (u : Tokens) → BasicOf a u → length u < suc n → Spelled a
  unfolding Level
  basic_spelled _ _ (basic_integer {t = t} i) lt =
      basic_node (e.Integer (number t) t.start) (ast.Integer (number t) t.start) (e.outs-Integer (number t) t.start) refl (λ ts h. one (Found BasicOf bare (e.Integer (number t) t.start)) ts h (λ t' w g h. nothing (λ w. Found BasicOf bare (e.Integer (number t) t.start) (t' ∷ w)) w h
      (found 12 (t' ∷ []) (e.Integer (number t') t'.start) (e.Integer (number t) t.start) (ast.Integer (number t') t'.start) (ast.Integer (number t) t.start) (e.outs-Integer (number t') t'.start) (e.outs-Integer (number t) t.start)
      (basic_integer (record { is = ap integer_lexeme g })) (ap (λ (y : ℕ). ast.Integer y 0) (ap number_lexeme g)))))
  basic_spelled _ _ (basic_string {t = t} i) lt =
      basic_node (e.Text (content t) t.start) (ast.Text (content t) t.start) (e.outs-Text (content t) t.start) refl (λ ts h. one (Found BasicOf bare (e.Text (content t) t.start)) ts h (λ t' w g h. nothing (λ w. Found BasicOf bare (e.Text (content t) t.start) (t' ∷ w)) w h
      (found 12 (t' ∷ []) (e.Text (content t') t'.start) (e.Text (content t) t.start) (ast.Text (content t') t'.start) (ast.Text (content t) t.start) (e.outs-Text (content t') t'.start) (e.outs-Text (content t) t.start)
      (basic_string (record { is = ap text_lexeme g })) (ap (λ (y : List ℕ). ast.Text y 0) (ap content_lexeme g)))))
  basic_spelled _ _ (basic_bytes {t = t} i) lt =
      basic_node (e.Bytes (content t) t.start) (ast.Bytes (content t) t.start) (e.outs-Bytes (content t) t.start) refl (λ ts h. one (Found BasicOf bare (e.Bytes (content t) t.start)) ts h (λ t' w g h. nothing (λ w. Found BasicOf bare (e.Bytes (content t) t.start) (t' ∷ w)) w h
      (found 12 (t' ∷ []) (e.Bytes (content t') t'.start) (e.Bytes (content t) t.start) (ast.Bytes (content t') t'.start) (ast.Bytes (content t) t.start) (e.outs-Bytes (content t') t'.start) (e.outs-Bytes (content t) t.start)
      (basic_bytes (record { is = ap bytes_lexeme g })) (ap (λ (y : List ℕ). ast.Bytes y 0) (ap content_lexeme g)))))
  basic_spelled _ _ (basic_parameter {t = t} i) lt =
      basic_node (e.Parameter (content t) t.start) (ast.Parameter (content t) t.start) (e.outs-Parameter (content t) t.start) refl (λ ts h. one (Found BasicOf bare (e.Parameter (content t) t.start)) ts h (λ t' w g h. nothing (λ w. Found BasicOf bare (e.Parameter (content t) t.start) (t' ∷ w)) w h
      (found 12 (t' ∷ []) (e.Parameter (content t') t'.start) (e.Parameter (content t) t.start) (ast.Parameter (content t') t'.start) (ast.Parameter (content t) t.start) (e.outs-Parameter (content t') t'.start) (e.outs-Parameter (content t) t.start)
      (basic_parameter (record { is = ap parameter_lexeme g })) (ap (λ (y : List ℕ). ast.Parameter y 0) (ap content_lexeme g)))))
  basic_spelled _ _ (basic_name {t = t} i) lt =
      basic_node (e.Name (spelled t) t.start) (ast.Name (spelled t) t.start) (e.outs-Name (spelled t) t.start) refl (λ ts h. one (Found BasicOf bare (e.Name (spelled t) t.start)) ts h (λ t' w g h. nothing (λ w. Found BasicOf bare (e.Name (spelled t) t.start) (t' ∷ w)) w h
      (found 12 (t' ∷ []) (e.Name (spelled t') t'.start) (e.Name (spelled t) t.start) (ast.Name (spelled t') t'.start) (ast.Name (spelled t) t.start) (e.outs-Name (spelled t') t'.start) (e.outs-Name (spelled t) t.start)
      (basic_name (record { is = ap name_lexeme g })) (ap (λ (y : List ℕ). ast.Name y 0) (ap spelled_lexeme g)))))
  basic_spelled _ _ (basic_true {t = t} i) lt =
      basic_node (e.Bool true t.start) (ast.Bool true t.start) (e.outs-Bool true t.start) refl (λ ts h. one (Found BasicOf bare (e.Bool true t.start)) ts h (λ t' w g h. nothing (λ w. Found BasicOf bare (e.Bool true t.start) (t' ∷ w)) w h
      (found 12 (t' ∷ []) (e.Bool true t'.start) (e.Bool true t.start) (ast.Bool true t'.start) (ast.Bool true t.start) (e.outs-Bool true t'.start) (e.outs-Bool true t.start)
      (basic_true (is_reserved r.True t' g)) refl)))
  basic_spelled _ _ (basic_false {t = t} i) lt =
      basic_node (e.Bool false t.start) (ast.Bool false t.start) (e.outs-Bool false t.start) refl (λ ts h. one (Found BasicOf bare (e.Bool false t.start)) ts h (λ t' w g h. nothing (λ w. Found BasicOf bare (e.Bool false t.start) (t' ∷ w)) w h
      (found 12 (t' ∷ []) (e.Bool false t'.start) (e.Bool false t.start) (ast.Bool false t'.start) (ast.Bool false t.start) (e.outs-Bool false t'.start) (e.outs-Bool false t.start)
      (basic_false (is_reserved r.False t' g)) refl)))
  basic_spelled _ _ (basic_null {t = t} i) lt =
      basic_node (e.Null t.start) (ast.Null t.start) (e.outs-Null t.start) refl (λ ts h. one (Found BasicOf bare (e.Null t.start)) ts h (λ t' w g h. nothing (λ w. Found BasicOf bare (e.Null t.start) (t' ∷ w)) w h
      (found 12 (t' ∷ []) (e.Null t'.start) (e.Null t.start) (ast.Null t'.start) (ast.Null t.start) (e.outs-Null t'.start) (e.outs-Null t.start)
      (basic_null (is_reserved r.Null t' g)) refl)))
  basic_spelled _ _ (basic_date {t = t} {x = y} i j) lt =
      let whole = e.Date (content y) t.start in
      basic_node whole (ast.Date (content y) t.start) (e.outs-Date (content y) t.start) refl (λ ts h. one (Found BasicOf bare whole) ts h (λ t' w g h. one (λ w. Found BasicOf bare whole (t' ∷ w)) w h (λ y' w g' h. nothing (λ w. Found BasicOf bare whole (t' ∷ y' ∷ w)) w h
      (found 12 (t' ∷ y' ∷ []) (e.Date (content y') t'.start) whole (ast.Date (content y') t'.start) (ast.Date (content y) t.start) (e.outs-Date (content y') t'.start) (e.outs-Date (content y) t.start)
      (basic_date (is_word keyword.Date (spelled_word keyword.Date) t' g) (record { is = ap text_lexeme g' })) (ap (λ (m : List ℕ). ast.Date m 0) (ap content_lexeme g'))))))
  basic_spelled _ _ (basic_call {t = t} {k = k} {u = u} z) lt =
      let whole = e.Call k t.start in
      basic_node whole (ast.Call k t.start) (e.outs-Call k t.start) refl (λ ts h. call_at k (Found BasicOf bare whole) (back_call n x k (t ∷ u) z lt) (λ t' w g f.
      found 12 (t' ∷ w) (e.Call f.tree t'.start) whole (ast.Call f.tree t'.start) (ast.Call k t.start) (e.outs-Call f.tree t'.start) (e.outs-Call k t.start)
      (basic_call f.spells) (ap (λ (m : Call Expr). ast.Call m 0) f.same)) ts h)
  basic_spelled _ _ (basic_safe_call {t = t} {d = d} {n = m} {k = k} {u = u} i j i' z) lt =
      let whole = e.SafeCall k t.start in
      basic_node whole (ast.SafeCall k t.start) (e.outs-SafeCall k t.start) refl (λ ts h. one (Found BasicOf bare whole) ts h (λ t' w g h. one (λ w. Found BasicOf bare whole (t' ∷ w)) w h (λ d' w g' h.
      call_at k (λ w. Found BasicOf bare whole (t' ∷ d' ∷ w)) (back_call n x k (m ∷ u) z (omega arith)) (λ m' w g'' f.
      found 12 (t' ∷ d' ∷ m' ∷ w) (e.SafeCall f.tree t'.start) whole (ast.SafeCall f.tree t'.start) (ast.SafeCall k t.start) (e.outs-SafeCall f.tree t'.start) (e.outs-SafeCall k t.start)
      (basic_safe_call (is_word keyword.Safe (spelled_word keyword.Safe) t' g) (is_sign s.Dot d' g') (record { is = ap name_lexeme g'' ∙ named_call k m u z i' }) f.spells) (ap (λ (m : Call Expr). ast.SafeCall m 0) f.same)) w h)))
  basic_spelled _ _ (basic_group {o = o} {c = c} {a = a} {v = v} i z lone j) lt = let long = length-append v (c ∷ []) in x.expr a v z (omega arith)
  basic_spelled _ _ (basic_query {o = o} {c = c} {q = q} {v = v} i z j) lt =
      let long = length-append v (c ∷ []) in
      let whole = e.Scalar q o.start in
      basic_node whole (ast.Scalar q o.start) (e.outs-Scalar q o.start) refl (λ ts h. enclosed QueryOf (BareQuery as_is) (canon_pieces q) q (x.query q v z (omega arith)) (Found BasicOf bare whole) (λ o' c' w io f ic.
      found 12 (o' ∷ (w ++ (c' ∷ []))) (e.Scalar f.tree o'.start) whole (ast.Scalar f.tree o'.start) (ast.Scalar q o.start) (e.outs-Scalar f.tree o'.start) (e.outs-Scalar q o.start)
      (basic_query io f.spells ic) (ap (λ (m : Query). ast.Scalar m 0) f.same)) ts h)
  basic_spelled _ _ (basic_tuple {o = o} {c = c} {a = a} {b = b} {bs = bs} {v = v} i z j) lt =
      let long = length-append v (c ∷ []) in
      let whole = e.Tuple (a ∷ b ∷ bs) o.start in
      basic_node whole (ast.Tuple (a ∷ b ∷ bs) o.start) (e.outs-Tuple (a ∷ b ∷ bs) o.start) refl (λ ts h. enclosed ListOf (map bare) (listed expr_pieces (a ∷ b ∷ bs)) (a ∷ b ∷ bs) (back_list n x (a ∷ b ∷ bs) v z (omega arith)) (Found BasicOf bare whole) (λ o' c' w io f ic.
      tuple_at a b bs o.start o' c' w io f ic) ts h)
  basic_spelled _ _ (basic_case {t = t} {d = d} {a = a} {o = o} {b = b} {bs = bs} {u = u} {v = v} {x = m} {y = y} i ai bi bsi oi j) lt =
      let l1 = length-append u (v ++ (m ++ (y ++ (d ∷ [])))) in let l2 = length-append v (m ++ (y ++ (d ∷ []))) in let l3 = length-append m (y ++ (d ∷ [])) in let l4 = length-append y (d ∷ []) in
      let whole = e.Case a (b ∷ bs) o t.start in
      basic_node whole (ast.Case a (b ∷ bs) o t.start) (e.outs-Case a (b ∷ bs) o t.start) refl (λ ts h. one (Found BasicOf bare whole) ts h (λ t' w g h.
      split (λ w. Found BasicOf bare whole (t' ∷ w)) w (carry (in_four (if_there expr_pieces a) (run (when_pieces expr_pieces) (b ∷ bs)) (else_pieces expr_pieces o) (word r.End ∷ [])) w h) (λ p q cp cq. split (λ q. Found BasicOf bare whole (t' ∷ (p ++ q))) q cq (λ p2 q cp2 cq. split (λ q. Found BasicOf bare whole (t' ∷ (p ++ (p2 ++ q)))) q cq (λ p4 q cp4 cq.
      one (λ q. Found BasicOf bare whole (t' ∷ (p ++ (p2 ++ (p4 ++ q))))) q cq (λ d' q g' cq. nothing (λ q. Found BasicOf bare whole (t' ∷ (p ++ (p2 ++ (p4 ++ (d' ∷ q)))))) q cq (
      split (λ p2. Found BasicOf bare whole (t' ∷ (p ++ (p2 ++ (p4 ++ (d' ∷ [])))))) p2 cp2 (λ p2 p3 cp2 cp3.
      let f1 = (back_subject n x a u ai (omega arith)).back p cp in
      let f2 = (back_when n x b v bi (omega arith)).back p2 cp2 in
      let f3 = (back_whens n x bs m bsi (omega arith)).back p3 cp3 in
      let f4 = (back_else n x o y oi (omega arith)).back p4 cp4 in
      let tree = e.Case f1.tree (f2.tree ∷ f3.tree) f4.tree t'.start in
      found 12 (t' ∷ (p ++ ((p2 ++ p3) ++ (p4 ++ (d' ∷ []))))) tree whole (ast.Case f1.tree (f2.tree ∷ f3.tree) f4.tree t'.start) (ast.Case a (b ∷ bs) o t.start) (e.outs-Case f1.tree (f2.tree ∷ f3.tree) f4.tree t'.start) (e.outs-Case a (b ∷ bs) o t.start)
      (subst (λ (z : Tokens). BasicOf tree (t' ∷ (p ++ z))) (sym (append_assoc p2 p3 (p4 ++ (d' ∷ [])))) (basic_case (is_reserved r.Case t' g) f1.spells f2.spells f3.spells f4.spells (is_reserved r.End d' g')))
      (rw f1.same (rw f2.same (rw f3.same (rw f4.same refl))))))))))))
  basic_spelled _ _ (basic_cast {t = t} {o = o} {x = j} {c = c} {a = a} {y = y} {u = u} {v = v} i io z ij k ic) lt =
      let l1 = length-append u (j ∷ (v ++ (c ∷ []))) in
      let whole = e.Cast false a y t.start in
      basic_node whole (ast.Cast false a y t.start) (e.outs-Cast false a y t.start) refl (λ ts h. one (Found BasicOf bare whole) ts h (λ t' w g h.
      within (expr_pieces a ++ word r.As ∷ type_pieces y) (λ w. Found BasicOf bare whole (t' ∷ w)) (λ o' c' p io' cp ic'.
      split (λ p. Found BasicOf bare whole (t' ∷ o' ∷ (p ++ (c' ∷ [])))) p cp (λ p q cp cq. one (λ q. Found BasicOf bare whole (t' ∷ o' ∷ ((p ++ q) ++ (c' ∷ [])))) q cq (λ j' q g' cq.
      let f1 = (x.expr a u z (omega arith)).whole.back p cp in
      let f2 = (back_type type_levels y v k).back q cq in
      let tree = e.Cast false f1.tree f2.tree t'.start in
      found 12 (t' ∷ o' ∷ ((p ++ (j' ∷ q)) ++ (c' ∷ []))) tree whole (ast.Cast false f1.tree f2.tree t'.start) (ast.Cast false a y t.start) (e.outs-Cast false f1.tree f2.tree t'.start) (e.outs-Cast false a y t.start)
      (subst (λ (z : Tokens). BasicOf tree (t' ∷ o' ∷ z)) (sym (append_assoc p (j' ∷ q) (c' ∷ []))) (basic_cast (is_reserved r.Cast t' g) io' f1.spells (is_reserved r.As j' g') f2.spells ic'))
      (rw f1.same (rw f2.same refl))))) w h))
  basic_spelled _ _ (basic_safe_cast {t = t} {o = o} {x = j} {c = c} {a = a} {y = y} {u = u} {v = v} i io z ij k ic) lt =
      let l1 = length-append u (j ∷ (v ++ (c ∷ []))) in
      let whole = e.Cast true a y t.start in
      basic_node whole (ast.Cast true a y t.start) (e.outs-Cast true a y t.start) refl (λ ts h. one (Found BasicOf bare whole) ts h (λ t' w g h.
      within (expr_pieces a ++ word r.As ∷ type_pieces y) (λ w. Found BasicOf bare whole (t' ∷ w)) (λ o' c' p io' cp ic'.
      split (λ p. Found BasicOf bare whole (t' ∷ o' ∷ (p ++ (c' ∷ [])))) p cp (λ p q cp cq. one (λ q. Found BasicOf bare whole (t' ∷ o' ∷ ((p ++ q) ++ (c' ∷ [])))) q cq (λ j' q g' cq.
      let f1 = (x.expr a u z (omega arith)).whole.back p cp in
      let f2 = (back_type type_levels y v k).back q cq in
      let tree = e.Cast true f1.tree f2.tree t'.start in
      found 12 (t' ∷ o' ∷ ((p ++ (j' ∷ q)) ++ (c' ∷ []))) tree whole (ast.Cast true f1.tree f2.tree t'.start) (ast.Cast true a y t.start) (e.outs-Cast true f1.tree f2.tree t'.start) (e.outs-Cast true a y t.start)
      (subst (λ (z : Tokens). BasicOf tree (t' ∷ o' ∷ z)) (sym (append_assoc p (j' ∷ q) (c' ∷ []))) (basic_safe_cast (is_word keyword.SafeCast (spelled_word keyword.SafeCast) t' g) io' f1.spells (is_reserved r.As j' g') f2.spells ic'))
      (rw f1.same (rw f2.same refl))))) w h))
  basic_spelled _ _ (basic_extract {t = t} {o = o} {n = m} {x = j} {c = c} {a = a} {u = u} i io im ij z ic) lt =
      let l1 = length-append u (c ∷ []) in
      let whole = e.Extract (name_at m) a t.start in
      basic_node whole (ast.Extract (name_at m) a t.start) (e.outs-Extract (name_at m) a t.start) refl (λ ts h. one (Found BasicOf bare whole) ts h (λ t' w g h.
      within (name (name_at m).text ∷ word r.From ∷ expr_pieces a) (λ w. Found BasicOf bare whole (t' ∷ w)) (λ o' c' p io' cp ic'.
      one (λ p. Found BasicOf bare whole (t' ∷ o' ∷ (p ++ (c' ∷ [])))) p cp (λ m' p g1 cp. one (λ p. Found BasicOf bare whole (t' ∷ o' ∷ m' ∷ (p ++ (c' ∷ [])))) p cp (λ j' p g2 cp.
      let f = (x.expr a u z (omega arith)).whole.back p cp in
      found 12 (t' ∷ o' ∷ m' ∷ j' ∷ (p ++ (c' ∷ []))) (e.Extract (name_at m') f.tree t'.start) whole (ast.Extract (name_at m') f.tree t'.start) (ast.Extract (name_at m) a t.start) (e.outs-Extract (name_at m') f.tree t'.start) (e.outs-Extract (name_at m) a t.start)
      (basic_extract (is_reserved r.Extract t' g) io' (is_named (name_at m).text (word_if_plain (name_at m).text) m' g1) (is_reserved r.From j' g2) f.spells ic')
      (rw (name_same (name_at m).text (word_if_plain (name_at m).text) m' (name_at m).place g1) (rw f.same refl))))) w h))
  basic_spelled _ _ (basic_grouping {t = t} {o = o} {c = c} {a = a} {u = u} i io z ic) lt =
      let l1 = length-append u (c ∷ []) in
      let whole = e.Grouping a t.start in
      basic_node whole (ast.Grouping a t.start) (e.outs-Grouping a t.start) refl (λ ts h. one (Found BasicOf bare whole) ts h (λ t' w g h.
      enclosed ExprOf bare (expr_pieces a) a (x.expr a u z (omega arith)).whole (λ w. Found BasicOf bare whole (t' ∷ w)) (λ o' c' p io' f ic'.
      found 12 (t' ∷ o' ∷ (p ++ (c' ∷ []))) (e.Grouping f.tree t'.start) whole (ast.Grouping f.tree t'.start) (ast.Grouping a t.start) (e.outs-Grouping f.tree t'.start) (e.outs-Grouping a t.start)
      (basic_grouping (is_reserved r.Grouping t' g) io' f.spells ic') (ap (λ (m : Expr). ast.Grouping m 0) f.same)) w h))
  basic_spelled _ _ (basic_exists {t = t} {o = o} {c = c} {q = q} {u = u} i io z ic) lt =
      let l1 = length-append u (c ∷ []) in
      let whole = e.Exists q t.start in
      basic_node whole (ast.Exists q t.start) (e.outs-Exists q t.start) refl (λ ts h. one (Found BasicOf bare whole) ts h (λ t' w g h.
      enclosed QueryOf (BareQuery as_is) (canon_pieces q) q (x.query q u z (omega arith)) (λ w. Found BasicOf bare whole (t' ∷ w)) (λ o' c' p io' f ic'.
      found 12 (t' ∷ o' ∷ (p ++ (c' ∷ []))) (e.Exists f.tree t'.start) whole (ast.Exists f.tree t'.start) (ast.Exists q t.start) (e.outs-Exists f.tree t'.start) (e.outs-Exists q t.start)
      (basic_exists (is_reserved r.Exists t' g) io' f.spells ic') (ap (λ (m : Query). ast.Exists m 0) f.same)) w h))
  basic_spelled _ _ (basic_array_query {t = t} {o = o} {c = c} {q = q} {u = u} i io z ic) lt =
      let l1 = length-append u (c ∷ []) in
      let whole = e.ArrayQuery q o.start t.start in
      basic_node whole (ast.ArrayQuery q o.start t.start) (e.outs-ArrayQuery q o.start t.start) refl (λ ts h. one (Found BasicOf bare whole) ts h (λ t' w g h.
      enclosed QueryOf (BareQuery as_is) (canon_pieces q) q (x.query q u z (omega arith)) (λ w. Found BasicOf bare whole (t' ∷ w)) (λ o' c' p io' f ic'.
      found 12 (t' ∷ o' ∷ (p ++ (c' ∷ []))) (e.ArrayQuery f.tree o'.start t'.start) whole (ast.ArrayQuery f.tree o'.start t'.start) (ast.ArrayQuery q o.start t.start) (e.outs-ArrayQuery f.tree o'.start t'.start) (e.outs-ArrayQuery q o.start t.start)
      (basic_array_query (is_reserved r.Array t' g) io' f.spells ic') (ap (λ (m : Query). ast.ArrayQuery m 0 0) f.same)) w h))
  basic_spelled _ _ (basic_array {b = b} {ms = ms} {u = u} z) lt = untyped_array b.start b.start ms b u z lt
  basic_spelled _ _ (basic_array_word {t = t} {b = b} {ms = ms} {u = u} i z) lt = untyped_array b.start t.start ms b u z (omega arith)
  basic_spelled _ _ (basic_array_typed {t = t} {o = o} {c = c} {b = b} {y = y} {ms = ms} {u = u} {v = v} i io k ic z) lt =
      let l1 = length-append v (c ∷ u) in
      let whole = e.Array (Some y) ms b.start t.start in
      basic_node whole (ast.Array (Some y) ms b.start t.start) (e.outs-Array (Some y) ms b.start t.start) refl (λ ts h. one (Found BasicOf bare whole) ts h (λ t' w g h.
      split (λ w. Found BasicOf bare whole (t' ∷ w)) w h (λ p q cp cq.
      angled_by (TypeOf type_levels) (BareType as_is) (type_pieces y) y (back_type type_levels y v k) (λ p. Found BasicOf bare whole (t' ∷ (p ++ q))) (λ o' c' p io' f1 ic'.
      array_back n x ms b u z (omega arith) (λ q. Found BasicOf bare whole (t' ∷ o' ∷ ((p ++ (c' ∷ [])) ++ q))) (λ b' q f2.
      let tree = e.Array (Some f1.tree) f2.tree b'.start t'.start in
      found 12 (t' ∷ o' ∷ ((p ++ (c' ∷ [])) ++ (b' ∷ q))) tree whole (ast.Array (Some f1.tree) f2.tree b'.start t'.start) (ast.Array (Some y) ms b.start t.start) (e.outs-Array (Some f1.tree) f2.tree b'.start t'.start) (e.outs-Array (Some y) ms b.start t.start)
      (subst (λ (z : Tokens). BasicOf tree (t' ∷ o' ∷ z)) (sym (append_assoc p (c' ∷ []) (b' ∷ q))) (basic_array_typed (is_reserved r.Array t' g) io' f1.spells ic' f2.spells))
      (rw f1.same (rw f2.same refl))) q cq) p cp)))
  basic_spelled _ _ (basic_struct {t = t} {o = o} {c = c} {a = a} {ms = ms} {u = u} {v = v} i io z k ic) lt =
      let l1 = length-append u (v ++ (c ∷ [])) in let l2 = length-append v (c ∷ []) in
      let whole = e.Struct (a ∷ ms) t.start in
      basic_node whole (ast.Struct (a ∷ ms) t.start) (e.outs-Struct (a ∷ ms) t.start) refl (λ ts h. one (Found BasicOf bare whole) ts h (λ t' w g h.
      within (listed (aliased_pieces expr_pieces) (a ∷ ms)) (λ w. Found BasicOf bare whole (t' ∷ w)) (λ o' c' p io' cp ic'. split (λ p. Found BasicOf bare whole (t' ∷ o' ∷ (p ++ (c' ∷ [])))) p cp (λ p q cp cq.
      let f1 = (back_member n x a u z (omega arith)).back p cp in
      let f2 = (back_members n x ms v k (omega arith)).back q cq in
      let tree = e.Struct (f1.tree ∷ f2.tree) t'.start in
      found 12 (t' ∷ o' ∷ ((p ++ q) ++ (c' ∷ []))) tree whole (ast.Struct (f1.tree ∷ f2.tree) t'.start) (ast.Struct (a ∷ ms) t.start) (e.outs-Struct (f1.tree ∷ f2.tree) t'.start) (e.outs-Struct (a ∷ ms) t.start)
      (subst (λ (z : Tokens). BasicOf tree (t' ∷ o' ∷ z)) (sym (append_assoc p q (c' ∷ []))) (basic_struct (is_reserved r.Struct t' g) io' f1.spells f2.spells ic'))
      (rw f1.same (ap (λ (m : List (Aliased Expr)). ast.Struct (bare_aliased as_is bare a ∷ m) 0) f2.same)))) w h))
  basic_spelled _ _ (basic_typed_struct {t = t} {l = l'} {g = g'} {o = o} {c = c} {fs = fs} {ms = ms} {u = u} {v = v} i il k ig io z ic) lt =
      let l1 = length-append u (g' ∷ o ∷ (v ++ (c ∷ []))) in let l2 = length-append v (c ∷ []) in
      let whole = e.TypedStruct fs ms o.start t.start in
      basic_node whole (ast.TypedStruct fs ms o.start t.start) (e.outs-TypedStruct fs ms o.start t.start) refl (λ ts h. one (Found BasicOf bare whole) ts h (λ t' w g h.
      split (λ w. Found BasicOf bare whole (t' ∷ w)) w h (λ p q cp cq.
      angled_by (FieldsOf type_levels) (map (bare_field as_is (BareType as_is))) (listed (field_pieces type_pieces) fs) fs (back_fields type_levels fs u k) (λ p. Found BasicOf bare whole (t' ∷ (p ++ q))) (λ l2' g2' p il' f1 ig'.
      enclosed ListOf (map bare) (listed expr_pieces ms) ms (back_list n x ms v z (omega arith)) (λ q. Found BasicOf bare whole (t' ∷ l2' ∷ ((p ++ (g2' ∷ [])) ++ q))) (λ o' c' q io' f2 ic'.
      let tree = e.TypedStruct f1.tree f2.tree o'.start t'.start in
      found 12 (t' ∷ l2' ∷ ((p ++ (g2' ∷ [])) ++ (o' ∷ (q ++ (c' ∷ []))))) tree whole (ast.TypedStruct f1.tree f2.tree o'.start t'.start) (ast.TypedStruct fs ms o.start t.start) (e.outs-TypedStruct f1.tree f2.tree o'.start t'.start) (e.outs-TypedStruct fs ms o.start t.start)
      (subst (λ (z : Tokens). BasicOf tree (t' ∷ l2' ∷ z)) (sym (append_assoc p (g2' ∷ []) (o' ∷ (q ++ (c' ∷ []))))) (basic_typed_struct (is_reserved r.Struct t' g) il' f1.spells ig' io' f2.spells ic'))
      (rw f1.same (rw f2.same refl))) q cq) p cp)))
  basic_spelled _ _ (basic_with {t = t} {o = o} {k = k} {c = c} {b = b} {bs = bs} {a = a} {u = u} {v = v} {x = m} i io z y ik z' ic) lt =
      let l1 = length-append u (v ++ (k ∷ (m ++ (c ∷ [])))) in let l2 = length-append v (k ∷ (m ++ (c ∷ []))) in let l3 = length-append m (c ∷ []) in
      let whole = e.With (b ∷ bs) a t.start in
      basic_node whole (ast.With (b ∷ bs) a t.start) (e.outs-With (b ∷ bs) a t.start) refl (λ ts h. one (Found BasicOf bare whole) ts h (λ t' w g h.
      within (listed (binding_pieces expr_pieces) (b ∷ bs) ++ sign s.Comma ∷ expr_pieces a) (λ w. Found BasicOf bare whole (t' ∷ w)) (λ o' c' p io' cp ic'. split (λ p. Found BasicOf bare whole (t' ∷ o' ∷ (p ++ (c' ∷ [])))) p cp (λ p q cp cq.
      split (λ p. Found BasicOf bare whole (t' ∷ o' ∷ ((p ++ q) ++ (c' ∷ [])))) p cp (λ p1 p2 cp1 cp2. one (λ q. Found BasicOf bare whole (t' ∷ o' ∷ (((p1 ++ p2) ++ q) ++ (c' ∷ [])))) q cq (λ k' q g' cq.
      let f1 = (back_binding n x b u z (omega arith)).back p1 cp1 in
      let f2 = (back_bindings n x bs v y (omega arith)).back p2 cp2 in
      let f3 = (x.expr a m z' (omega arith)).whole.back q cq in
      let tree = e.With (f1.tree ∷ f2.tree) f3.tree t'.start in
      found 12 (t' ∷ o' ∷ (((p1 ++ p2) ++ (k' ∷ q)) ++ (c' ∷ []))) tree whole (ast.With (f1.tree ∷ f2.tree) f3.tree t'.start) (ast.With (b ∷ bs) a t.start) (e.outs-With (f1.tree ∷ f2.tree) f3.tree t'.start) (e.outs-With (b ∷ bs) a t.start)
      (subst (λ (z : Tokens). BasicOf tree (t' ∷ o' ∷ z)) (sym (append_assoc (p1 ++ p2) (k' ∷ q) (c' ∷ []) ∙ append_assoc p1 p2 (k' ∷ (q ++ (c' ∷ []))))) (basic_with (is_reserved r.With t' g) io' f1.spells f2.spells (is_sign s.Comma k' g') f3.spells ic'))
      (rw f1.same (rw f3.same (ap (λ (m : List (Binding Expr)). ast.With (bare_binding as_is bare b ∷ m) (bare a) 0) f2.same))))))) w h))
