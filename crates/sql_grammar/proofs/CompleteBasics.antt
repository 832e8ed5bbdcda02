-- Basic expressions that begin with a word or `[` are read.
use Rattle.std.proofs.Common.{◌≡◌, ℕ, suc, ◌<◌, true, false, List, [], ◌∷◌, ◌++◌, length, Option, Some, None, refl, sym, ◌∙◌, ap, subst, arith}
use Rattle.std.proofs.lemmas.List.{append_assoc, append-nil}
use Rattle.fronts.specs.Readers.{taken, ◌>>=◌, pure, if_comes, comes, many}
use Rattle.fronts.proofs.Agrees.{Many, many_none, many_more, Found}
use Rattle.sql_ast.specs.declared.clauses.Aliased.{Aliased}
use Rattle.sql_ast.specs.declared.clauses.Binding.{Binding}
use Rattle.sql_ast.specs.declared.clauses.When.{When}
use Rattle.sql_ast.specs.declared.expr.Expr.{Expr}
use Rattle.sql_ast.specs.declared.expr.Expr.TheVariants as e
use Rattle.sql_ast.specs.declared.type_spelling.TypeField.{TypeField}
use Rattle.sql_ast.specs.declared.type_spelling.TypeSpelling.{TypeSpelling}
use Rattle.sql_names.specs.declared.words.Reserved.TheVariants as r
use Rattle.sql_ast.specs.declared.words.Sign.TheVariants as s
use Rattle.sql_ast.specs.declared.token.Token.{Token}
use Rattle.sql_ast.specs.Marks.{Tokens, Is, reserved, sign, named, spelled, same_reserved, same_sign, reserved_lexeme, sign_lexeme}
use Rattle.sql_ast.specs.Trees.{name_at}
use Rattle.sql_ast.specs.Parts.{TypeOf, FieldsOf, type_levels}
use Rattle.sql_ast.specs.Grammar.{ExprOf, QueryOf, ListOf, list_is, basic_name, ArrayItemsOf, array_empty, array_items, SubjectOf, subject_none, subject_is, WhenOf, when_is, WhensOf, whens_none, whens_more, ElseOf, else_none, else_is, MemberOf, member_plain, member_as, MembersOf, members_none, members_more, BindingOf, binding_is, BindingsOf, bindings_none, bindings_more}
use Rattle.sql_grammar.specs.Ways.{Parser, Ended, until}
use Rattle.sql_grammar.specs.Words.{levels_below}
use Rattle.sql_grammar.specs.Exprs.{Below, when, otherwise, subject, case, cast, extract, grouping, exists, array_from, array, member, comma_member, struct, bound, single_name, with_item, with_body, with_expr}
use Rattle.sql_grammar.proofs.Marks.{AfterOf, after_of}
use Rattle.sql_grammar.proofs.Words.{closed_fields}
use Rattle.sql_grammar.proofs.Calls.{bracketed_is, placed_is, closed_is}
use Rattle.sql_grammar.proofs.Follows.{Over}
use Rattle.sql_grammar.proofs.CompleteSteps.{Read, Comes, less, tok, also, part, last, only, then_on, else_on, done, inside, weak, over_r, over_s, over_not_r, starts_not_r, starts_not_s, r_test, s_test, after_read, after_begins, over_many, many_read, comma_level, many_ahead, Ahead, nothing_ahead, r_ahead, on, comes_r_over, comes_r_not}
use Rattle.sql_grammar.proofs.CompleteStarts.{expr_starts, list_starts}
use Rattle.sql_grammar.proofs.CompleteRepeats.{One, one, GoneTo, gone_to, until_to_read}
use Rattle.sql_grammar.proofs.CompleteTypes.{whole_type_read, struct_fields_read}
use Rattle.sql_grammar.proofs.CompleteFronts.{basic_expr}
use Rattle.sql_grammar.proofs.CompleteParts.{Reading, after_read_by, all_closed_read, list_closed_read, closed_over, commas_closed, bracketed_read, bracketed_query_read}
use Rattle.sql_grammar.proofs.CompleteCalls.{noting_read}
use Rattle.sql_grammar.proofs.CompleteTails.{cast_end_read, cast_ends}

-- ---- repetitions

many_whens : (bs : List (When Expr)) (v : Tokens) → WhensOf bs v → Many WhenOf bs v
many_whens _ _ whens_none = many_none
many_whens _ _ (whens_more {bs = bs} {v = v} l z) = many_more l (many_whens bs v z)

when_begins : (a : When Expr) (u rest : Tokens) → WhenOf a u → comes (reserved r.When) (u ++ rest) ≡ true
when_begins _ _ rest (when_is i l j m) = i.is

when_ahead : (a : When Expr) (u : Tokens) → WhenOf a u → Ahead 100 u
when_ahead _ _ (when_is i l j m) = r_ahead r.When i

whens_ahead : (bs : List (When Expr)) (v : Tokens) → WhensOf bs v → Ahead 100 v
whens_ahead _ _ whens_none = nothing_ahead
whens_ahead _ _ (whens_more {b = b} {bs = bs} {u = u} {v = v} l z) = record { ahead = λ k rest lt h. on v rest (when_ahead b u l) lt ((whens_ahead bs v z).ahead k rest lt h) }

else_ahead : (o : Option Expr) (u : Tokens) → ElseOf o u → Ahead 100 u
else_ahead _ _ else_none = nothing_ahead
else_ahead _ _ (else_is i l) = r_ahead r.Else i

-- behind the last WHEN
record WhenEnds (ts : Tokens) : Type 0 where
  over : Over 10 ts
  no_when : comes (reserved r.When) ts ≡ false

else_no_when : (o : Option Expr) (y : Tokens) (d : Token) (rest : Tokens) → ElseOf o y → Is (reserved r.End) d → comes (reserved r.When) ((y ++ (d ∷ [])) ++ rest) ≡ false
unfolding same_reserved
else_no_when _ _ d rest else_none i = r_test r.End (reserved_lexeme r.When) i refl
else_no_when _ _ d rest (else_is j l) i = r_test r.Else (reserved_lexeme r.When) j refl

many_members : (ms : List (Aliased Expr)) (v : Tokens) → MembersOf ms v → Many (AfterOf (sign s.Comma) MemberOf) ms v
many_members _ _ members_none = many_none
many_members _ _ (members_more {ms = ms} {v = v} i l z) = many_more (after_of i l) (many_members ms v z)

many_bindings : (bs : List (Binding Expr)) (v : Tokens) → BindingsOf bs v → Many (AfterOf (sign s.Comma) BindingOf) bs v
many_bindings _ _ bindings_none = many_none
many_bindings _ _ (bindings_more {bs = bs} {v = v} i l z) = many_more (after_of i l) (many_bindings bs v z)

bindings_ahead : (bs : List (Binding Expr)) (v : Tokens) → BindingsOf bs v → Ahead 15 v
bindings_ahead bs v z = many_ahead {j = 10} {k = 15} (sign s.Comma) comma_level (omega arith) (after_begins (sign s.Comma) BindingOf) bs v (many_bindings bs v z)

items_open : (xs : List Expr) (d : Token) (u rest : Tokens) → ArrayItemsOf xs d u → (comes (sign s.OpenRound) (u ++ rest) ≡ false) × (comes (sign s.Less) (u ++ rest) ≡ false)
unfolding same_sign
items_open _ _ _ rest (array_empty i j) = (s_test s.OpenSquare (sign_lexeme s.OpenRound) i refl, s_test s.OpenSquare (sign_lexeme s.Less) i refl)
items_open _ _ _ rest (array_items i l j) = (s_test s.OpenSquare (sign_lexeme s.OpenRound) i refl, s_test s.OpenSquare (sign_lexeme s.Less) i refl)

module _ (n : ℕ) (b : Below) (x : Reading n b) where
  -- ---- CASE

  when_read : Read (suc n) (Over 10) WhenOf (when n b)
  unfolding when
  when_read = record { reads = by }
    where
      by : {a : When Expr} {u : Tokens} → WhenOf a u → (rest : Tokens) → Over 10 rest → length (u ++ rest) < suc n → when n b (u ++ rest) ≡ taken a rest
      by (when_is {t = t} {x = y} {u = u} {v = v} i l j m) rest f = part (after_read_by n b x r.When) (after_of i l) (y ∷ v) rest _ (over_r r.Then j (omega arith)) (last (after_read_by n b x r.Then) (after_of j m) _ f done)

  subject_read : Read n (Comes (reserved r.When)) SubjectOf (subject n b)
  unfolding subject
  subject_read = record { reads = by }
    where
      by : {a : Option Expr} {u : Tokens} → SubjectOf a u → (rest : Tokens) → Comes (reserved r.When) rest → length (u ++ rest) < n → subject n b (u ++ rest) ≡ taken a rest
      by subject_none rest f = then_on f.is _ _ done
      by (subject_is {a = a} {u = u} l) rest f = else_on (starts_not_r (expr_starts a u rest l) r.When (omega arith)) _ _ (last x.inner l _ (comes_r_over rest r.When f (omega arith)) done)

  otherwise_read : Read (suc n) (Comes (reserved r.End)) ElseOf (otherwise n b)
  unfolding otherwise same_reserved
  otherwise_read = record { reads = by }
    where
      by : {a : Option Expr} {u : Tokens} → ElseOf a u → (rest : Tokens) → Comes (reserved r.End) rest → length (u ++ rest) < suc n → otherwise n b (u ++ rest) ≡ taken a rest
      by else_none rest f = else_on (comes_r_not rest r.End r.Else f refl) _ _ done
      by (else_is i l) rest f = then_on i.is _ _ (last (after_read_by n b x r.Else) (after_of i l) _ (comes_r_over rest r.End f (omega arith)) done)

  whens_read : (found : List (When Expr)) → Read (suc n) WhenEnds (Found WhensOf found) (many (reserved r.When) (when n b) n found)
  whens_read found = many_read WhenEnds (Over 10) n WhenOf (reserved r.When) (when n b) (λ ts h. h.no_when) (λ t ts h. over_r {t = t} r.When (record { is = h }) (omega arith)) (λ ts h. h.over) when_begins when_read found many_whens

  pub case_read : (t d : Token) (a o : Option Expr) (c : When Expr) (bs : List (When Expr)) (u v y z : Tokens) → Is (reserved r.Case) t → SubjectOf a u → WhenOf c v → WhensOf bs y → ElseOf o z → Is (reserved r.End) d
      → (rest : Tokens) → length ((t ∷ (u ++ (v ++ (y ++ (z ++ (d ∷ [])))))) ++ rest) < suc n → case n b ((t ∷ (u ++ (v ++ (y ++ (z ++ (d ∷ [])))))) ++ rest) ≡ taken (e.Case a (c ∷ bs) o t.start) rest
  unfolding case
  case_read t d a o c bs u v y z i l m k g j rest =
      let h = over_r {k = 10} {ts = rest} r.End j (omega arith) in
      tok i _ (part subject_read l (v ++ (y ++ (z ++ (d ∷ [])))) rest _ (record { is = ap (λ (w : Tokens). comes (reserved r.When) w) (append_assoc v (y ++ (z ++ (d ∷ []))) rest) ∙ when_begins c v ((y ++ (z ++ (d ∷ []))) ++ rest) m })
      (part (less when_read) m (y ++ (z ++ (d ∷ []))) rest _ (on (z ++ (d ∷ [])) rest (whens_ahead bs y k) (omega arith) (on (d ∷ []) rest (else_ahead o z g) (omega arith) h))
      (part (less (whens_read (c ∷ []))) (bs, k, refl) (z ++ (d ∷ [])) rest _ (record { over = on (d ∷ []) rest (else_ahead o z g) (omega arith) h; no_when = else_no_when o z d rest g j })
      (part (less otherwise_read) g (d ∷ []) rest _ (record { is = j.is }) (also j _ done)))))

  -- ---- one word and brackets

  pub cast_read : (t o y c : Token) (a : Expr) (z : TypeSpelling) (u v : Tokens) → Is (reserved r.Cast) t → Is (sign s.OpenRound) o → ExprOf a u → Is (reserved r.As) y → TypeOf type_levels z v → Is (sign s.CloseRound) c
      → (rest : Tokens) → length ((t ∷ o ∷ (u ++ (y ∷ (v ++ (c ∷ []))))) ++ rest) < suc n → cast n b ((t ∷ o ∷ (u ++ (y ∷ (v ++ (c ∷ []))))) ++ rest) ≡ taken (e.Cast false a z t.start) rest
  unfolding cast
  cast_read t o y c a z u v it io l iy lz ic rest = tok it _ (also io _ (part x.inner l (y ∷ (v ++ (c ∷ []))) rest _ (over_r r.As iy (omega arith)) (only (less (cast_end_read n b x false t.start a)) (cast_ends iy lz ic) tt)))

  pub extract_read : (t o k y c : Token) (a : Expr) (u : Tokens) → Is (reserved r.Extract) t → Is (sign s.OpenRound) o → Is named k → Is (reserved r.From) y → ExprOf a u → Is (sign s.CloseRound) c
      → (rest : Tokens) → length ((t ∷ o ∷ k ∷ y ∷ (u ++ (c ∷ []))) ++ rest) < suc n → extract n b ((t ∷ o ∷ k ∷ y ∷ (u ++ (c ∷ []))) ++ rest) ≡ taken (e.Extract (name_at k) a t.start) rest
  unfolding extract
  extract_read t o k y c a u it io ik iy l ic rest = tok it _ (also io _ (also ik _ (also iy _ (part x.inner l (c ∷ []) rest _ (over_s s.CloseRound ic (omega arith)) (also ic _ done)))))

  pub grouping_read : (t o c : Token) (a : Expr) (u : Tokens) → Is (reserved r.Grouping) t → Is (sign s.OpenRound) o → ExprOf a u → Is (sign s.CloseRound) c
      → (rest : Tokens) → length ((t ∷ o ∷ (u ++ (c ∷ []))) ++ rest) < suc n → grouping n b ((t ∷ o ∷ (u ++ (c ∷ []))) ++ rest) ≡ taken (e.Grouping a t.start) rest
  unfolding grouping
  grouping_read t o c a u it io l ic rest = tok it _ (last (less (bracketed_read n b x)) (bracketed_is io l ic) _ tt done)

  pub exists_read : (t o c : Token) (q : _) (u : Tokens) → Is (reserved r.Exists) t → Is (sign s.OpenRound) o → QueryOf q u → Is (sign s.CloseRound) c
      → (rest : Tokens) → length ((t ∷ o ∷ (u ++ (c ∷ []))) ++ rest) < suc n → exists n b ((t ∷ o ∷ (u ++ (c ∷ []))) ++ rest) ≡ taken (e.Exists q t.start) rest
  unfolding exists
  exists_read t o c q u it io l ic rest = tok it _ (last (less (bracketed_query_read n b x)) (placed_is io l ic) _ tt done)

  -- ---- arrays

  pub array_from_read : (element : Option TypeSpelling) (from : Option ℕ) (ms : List Expr) (d : Token) (u : Tokens) → ArrayItemsOf ms d u → (rest : Tokens) → length (u ++ rest) < suc n
      → array_from n b element from (u ++ rest) ≡ taken (e.Array element ms d.start (elim from [ None ↦ d.start | Some p ↦ p ])) rest
  unfolding array_from
  array_from_read element from _ d _ (array_empty i j) rest = tok i _ (inside (then_on j.is _ _ (also j _ done)) _ done)
  array_from_read element from ms d _ (array_items {c = c} {u = u} i l j) rest = tok i _ (inside
      (else_on (ap (λ (w : Tokens). comes (sign s.CloseSquare) w) (append_assoc u (c ∷ []) rest) ∙ starts_not_s (list_starts ms u (c ∷ rest) l) s.CloseSquare (omega arith)) _ _ (only (all_closed_read n b x s.CloseSquare refl) (closed_is l j) tt)) _ done)

  pub array_query_read : (t o c : Token) (q : _) (u : Tokens) → Is (reserved r.Array) t → Is (sign s.OpenRound) o → QueryOf q u → Is (sign s.CloseRound) c
      → (rest : Tokens) → length ((t ∷ o ∷ (u ++ (c ∷ []))) ++ rest) < suc n → array n b ((t ∷ o ∷ (u ++ (c ∷ []))) ++ rest) ≡ taken (e.ArrayQuery q o.start t.start) rest
  unfolding array
  array_query_read t o c q u it io l ic rest = tok it _ (then_on io.is _ _ (last (less (bracketed_query_read n b x)) (placed_is io l ic) _ tt done))

  pub array_word_read : (t d : Token) (ms : List Expr) (u : Tokens) → Is (reserved r.Array) t → ArrayItemsOf ms d u → (rest : Tokens) → length ((t ∷ u) ++ rest) < suc n → array n b ((t ∷ u) ++ rest) ≡ taken (e.Array None ms d.start t.start) rest
  unfolding array
  array_word_read t d ms u it l rest = let g = items_open ms d u rest l in tok it _ (else_on g.0 _ _ (else_on g.1 _ _ (λ lt. array_from_read None (Some t.start) ms d u l rest (omega arith))))

  pub array_typed_read : (t o c d : Token) (y : TypeSpelling) (ms : List Expr) (u v : Tokens) → Is (reserved r.Array) t → Is (sign s.Less) o → TypeOf type_levels y v → Is (sign s.Greater) c → ArrayItemsOf ms d u
      → (rest : Tokens) → length ((t ∷ o ∷ (v ++ (c ∷ u))) ++ rest) < suc n → array n b ((t ∷ o ∷ (v ++ (c ∷ u))) ++ rest) ≡ taken (e.Array (Some y) ms d.start t.start) rest
  unfolding array same_sign
  array_typed_read t o c d y ms u v it io ly ic l rest = tok it _ (else_on (s_test s.Less (sign_lexeme s.OpenRound) io refl) _ _ (then_on io.is _ _ (also io _ (part (less (whole_type_read n)) ly (c ∷ u) rest _ tt
      (also ic _ (λ lt. array_from_read (Some y) (Some t.start) ms d u l rest (omega arith)))))))

  -- ---- STRUCT

  member_read : Read n (Over 11) MemberOf (member n b)
  unfolding member
  member_read = record { reads = by }
    where
      by : {a : Aliased Expr} {u : Tokens} → MemberOf a u → (rest : Tokens) → Over 11 rest → length (u ++ rest) < n → member n b (u ++ rest) ≡ taken a rest
      by (member_plain l) rest f = last x.inner l _ (weak (omega arith) f) (else_on (over_not_r f r.As (omega arith)) _ _ done)
      by (member_as {t = t} {n = k} l i j) rest f = part x.inner l (t ∷ k ∷ []) rest _ (over_r r.As i (omega arith)) (then_on i.is _ _ (also i _ (also j _ done)))

  comma_member_read : Read (suc n) (Over 11) (AfterOf (sign s.Comma) MemberOf) (comma_member n b)
  unfolding comma_member
  comma_member_read = after_read member_read

  pub struct_read : (t o c : Token) (a : Aliased Expr) (ms : List (Aliased Expr)) (u v : Tokens) → Is (reserved r.Struct) t → Is (sign s.OpenRound) o → MemberOf a u → MembersOf ms v → Is (sign s.CloseRound) c
      → (rest : Tokens) → length ((t ∷ o ∷ (u ++ (v ++ (c ∷ [])))) ++ rest) < suc n → struct n b ((t ∷ o ∷ (u ++ (v ++ (c ∷ [])))) ++ rest) ≡ taken (e.Struct (a ∷ ms) t.start) rest
  unfolding struct same_sign
  struct_read t o c a ms u v it io l z ic rest = tok it _ (else_on (s_test s.OpenRound (sign_lexeme s.Less) io refl) _ _ (also io _ (part member_read l (v ++ (c ∷ [])) rest _
      (on (c ∷ []) rest (many_ahead {j = 11} {k = 15} (sign s.Comma) comma_level (omega arith) (after_begins (sign s.Comma) MemberOf) ms v (many_members ms v z)) (omega arith) (over_s s.CloseRound ic (omega arith)))
      (part (less (over_many (sign s.Comma) comma_level (omega arith) (after_begins (sign s.Comma) MemberOf) comma_member_read (a ∷ []) many_members)) (ms, z, refl) (c ∷ []) rest _ (over_s s.CloseRound ic (omega arith)) (also ic _ done)))))

  pub typed_struct_read : (t k g o c : Token) (fs : List (TypeField TypeSpelling)) (ms : List Expr) (u v : Tokens) → Is (reserved r.Struct) t → Is (sign s.Less) k → FieldsOf type_levels fs u → Is (sign s.Greater) g
      → Is (sign s.OpenRound) o → ListOf ms v → Is (sign s.CloseRound) c → (rest : Tokens) → length ((t ∷ k ∷ (u ++ (g ∷ o ∷ (v ++ (c ∷ []))))) ++ rest) < suc n
      → struct n b ((t ∷ k ∷ (u ++ (g ∷ o ∷ (v ++ (c ∷ []))))) ++ rest) ≡ taken (e.TypedStruct fs ms o.start t.start) rest
  unfolding struct
  typed_struct_read t k g o c fs _ u _ it ik lf ig io (list_is {a = a} {bs = bs} {u = v} {v = w} l z) ic rest =
      subst (λ (q : Tokens). length ((t ∷ k ∷ q) ++ rest) < suc n → struct n b ((t ∷ k ∷ q) ++ rest) ≡ taken (e.TypedStruct fs (a ∷ bs) o.start t.start) rest)
      (append_assoc u (g ∷ []) (o ∷ (v ++ (w ++ (c ∷ [])))) ∙ ap (λ (q : Tokens). u ++ (g ∷ o ∷ q)) (sym (append_assoc v w (c ∷ []))))
      (tok it _ (then_on ik.is _ _ (also ik _ (part (struct_fields_read n levels_below) (closed_fields lf ig) (o ∷ (v ++ (w ++ (c ∷ [])))) rest _ tt
      (also io _ (part x.inner l (w ++ (c ∷ [])) rest _ (closed_over n b x s.CloseRound refl bs w z c ic rest) (last (less (list_closed_read n b x s.CloseRound refl (a ∷ []))) (commas_closed z ic) _ tt done)))))))

  -- ---- WITH

  bound_by : (k t : Token) (a : Expr) (u : Tokens) → Is (reserved r.As) t → ExprOf a u → (rest : Tokens) → Over 10 rest → length ((t ∷ u) ++ rest) < suc n → bound n b k ((t ∷ u) ++ rest) ≡ taken (record { name = name_at k; expr = a }) rest
  unfolding bound
  bound_by k t a u i l rest f = tok i _ (last x.inner l _ f done)

  data BoundIs (k : Token) : Binding Expr → Tokens → Type 0 where
    bound_is : {t : Token} {a : Expr} {u : Tokens} → Is (reserved r.As) t → ExprOf a u → BoundIs k (record { name = name_at k; expr = a }) (t ∷ u)

  bound_read : (k : Token) → Read (suc n) (Over 10) (BoundIs k) (bound n b k)
  bound_read k = record { reads = by }
    where
      by : {a : Binding Expr} {u : Tokens} → BoundIs k a u → (rest : Tokens) → Over 10 rest → length (u ++ rest) < suc n → bound n b k (u ++ rest) ≡ taken a rest
      by (bound_is {t = t} {a = a} {u = u} i l) rest f lt = bound_by k t a u i l rest f lt

  abbrev after_name : Expr → Option Token → Parser (Ended (Binding Expr) Expr)
  after_name a o = elim o [ None ↦ pure ([], Some a) | Some k ↦ if_comes (reserved r.As) (bound n b k >>= (λ d. pure (d ∷ [], None))) (pure ([], Some a)) ]

  with_item_read : Read (suc n) (Over 10) (One (AfterOf (sign s.Comma) BindingOf)) (with_item n b)
  unfolding with_item
  with_item_read = record { reads = by }
    where
      by : {a : Ended (Binding Expr) Expr} {u : Tokens} → One (AfterOf (sign s.Comma) BindingOf) a u → (rest : Tokens) → Over 10 rest → length (u ++ rest) < suc n → with_item n b (u ++ rest) ≡ taken a rest
      by (one (after_of ic (binding_is {n = k} {t = t} {a = a} {u = u} i j l))) rest f = tok ic _ (last (noting_read x.inner) (refl, basic_expr _ (k ∷ []) (basic_name i)) _ (over_r r.As j (omega arith))
          (λ lt. ap (λ o. after_name (e.Name (spelled k) k.start) o ((t ∷ u) ++ rest)) (ap (λ c. elim c [ true ↦ Some k | false ↦ None ]) i.is) ∙ then_on j.is _ _ (inside (bound_by k t a u j l rest f) _ done) (omega arith)))

  -- the result of a WITH expression
  data WithFinal : List (Binding Expr) → Expr → Tokens → Type 0 where
    with_final : {k : Token} {a : Expr} {u : Tokens} → Is (sign s.Comma) k → ExprOf a u → WithFinal [] a (k ∷ u)

  final_begins : (xs : List (Binding Expr)) (a : Expr) (u rest : Tokens) → WithFinal xs a u → comes (sign s.Comma) (u ++ rest) ≡ true
  final_begins _ _ _ rest (with_final i l) = i.is

  no_name : (a : Expr) (o : Option Token) (ts : Tokens) → comes (reserved r.As) ts ≡ false → after_name a o ts ≡ taken ([], Some a) ts
  no_name a None ts h = refl
  no_name a (Some k) ts h = else_on {N = Unit {0}} h _ _ done tt

  final_ends : (xs : List (Binding Expr)) (a : Expr) (u : Tokens) → WithFinal xs a u → (rest : Tokens) → Over 11 rest → length (u ++ rest) < suc n → with_item n b (u ++ rest) ≡ taken (xs, Some a) rest
  unfolding with_item
  final_ends _ a _ (with_final {u = u} i l) rest f = tok i _ (last (noting_read x.inner) (refl, l) _ (weak (omega arith) f) (λ _. no_name a (single_name u) rest (over_not_r f r.As (omega arith))))

  items_read : (found : List (Binding Expr)) → Read (suc n) (Over 11) (GoneTo BindingsOf WithFinal found) (until (sign s.Comma) (with_item n b) n found)
  items_read found = until_to_read (sign s.Comma) (with_item n b) (Over 10) (λ t ts h. over_s {t = t} s.Comma (record { is = h }) (omega arith)) (after_begins (sign s.Comma) BindingOf) with_item_read BindingsOf many_bindings (Over 11) WithFinal final_begins final_ends found

  pub with_body_read : (p : ℕ) (o k c : Token) (d : Binding Expr) (bs : List (Binding Expr)) (a : Expr) (u v y : Tokens) → Is (sign s.OpenRound) o → BindingOf d u → BindingsOf bs v → Is (sign s.Comma) k → ExprOf a y → Is (sign s.CloseRound) c
      → (rest : Tokens) → length ((o ∷ (u ++ (v ++ (k ∷ (y ++ (c ∷ [])))))) ++ rest) < suc n → with_body n b p ((o ∷ (u ++ (v ++ (k ∷ (y ++ (c ∷ [])))))) ++ rest) ≡ taken (e.With (d ∷ bs) a p) rest
  unfolding with_body
  with_body_read p o k c _ bs a _ v y io (binding_is {n = m} {t = t} {a = d} {u = u} i j l) z ik g ic rest =
      let whole : v ++ (k ∷ (y ++ (c ∷ []))) ≡ (v ++ (k ∷ y)) ++ (c ∷ []) = sym (append_assoc v (k ∷ y) (c ∷ [])) in
      subst (λ (w : Tokens). length ((o ∷ m ∷ t ∷ (u ++ w)) ++ rest) < suc n → with_body n b p ((o ∷ m ∷ t ∷ (u ++ w)) ++ rest) ≡ taken (e.With (record { name = name_at m; expr = d } ∷ bs) a p) rest) (sym whole)
      (tok io _ (also i _ (part (less (bound_read m)) (bound_is j l) ((v ++ (k ∷ y)) ++ (c ∷ [])) rest _
      (subst (Over 10) (ap (λ (w : Tokens). w ++ rest) whole) (on (k ∷ (y ++ (c ∷ []))) rest (bindings_ahead bs v z) (omega arith) (over_s s.Comma ik (omega arith))))
      (part (less (items_read (record { name = name_at m; expr = d } ∷ []))) (gone_to z (with_final ik g)) (c ∷ []) rest _ (over_s s.CloseRound ic (omega arith))
      (also ic _ (λ _. ap (λ (q : List (Binding Expr)). taken (e.With q a p) rest) (append-nil (record { name = name_at m; expr = d } ∷ bs))))))))

  pub with_read_by : (t o k c : Token) (d : Binding Expr) (bs : List (Binding Expr)) (a : Expr) (u v y : Tokens) → Is (reserved r.With) t → Is (sign s.OpenRound) o → BindingOf d u → BindingsOf bs v → Is (sign s.Comma) k → ExprOf a y → Is (sign s.CloseRound) c
      → (rest : Tokens) → length ((t ∷ o ∷ (u ++ (v ++ (k ∷ (y ++ (c ∷ [])))))) ++ rest) < suc n → with_expr n b ((t ∷ o ∷ (u ++ (v ++ (k ∷ (y ++ (c ∷ [])))))) ++ rest) ≡ taken (e.With (d ∷ bs) a t.start) rest
  unfolding with_expr
  with_read_by t o k c d bs a u v y it io l z ik g ic rest = tok it _ (λ lt. with_body_read t.start o k c d bs a u v y io l z ik g ic rest (omega arith))
