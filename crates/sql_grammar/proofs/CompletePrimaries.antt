-- Tables, subqueries, paths and UNNEST in FROM are read, with their aliases, PIVOT and UNPIVOT.
use Rattle.std.proofs.Common.{◌≡◌, ℕ, suc, ◌<◌, ◌||◌, true, false, List, [], ◌∷◌, ◌++◌, length, Option, Some, refl, sym, ◌∙◌, ap, subst, arith}
use Rattle.std.proofs.lemmas.List.{append_assoc}
use Rattle.fronts.specs.Readers.{taken, many}
use Rattle.fronts.proofs.Agrees.{Many, many_none, many_more, Found}
use Rattle.sql_ast.specs.declared.clauses.Aliased.{Aliased}
use Rattle.sql_ast.specs.declared.clauses.Name.{Name}
use Rattle.sql_ast.specs.declared.clauses.PivotCall.{PivotCall}
use Rattle.sql_ast.specs.declared.clauses.Turn.{Turn}
use Rattle.sql_ast.specs.declared.clauses.Turned.{Turned}
use Rattle.sql_ast.specs.declared.clauses.UnpivotColumn.{UnpivotColumn}
use Rattle.sql_ast.specs.declared.clauses.WithOffset.{WithOffset}
use Rattle.sql_ast.specs.declared.expr.Expr.{Expr}
use Rattle.sql_ast.specs.declared.query.Primary.{Primary}
use Rattle.sql_ast.specs.declared.query.Primary.TheVariants as primary_kind
use Rattle.sql_names.specs.declared.words.Reserved.TheVariants as r
use Rattle.sql_ast.specs.declared.words.Sign.TheVariants as s
use Rattle.sql_ast.specs.declared.words.Word.{Word}
use Rattle.sql_ast.specs.declared.words.Word.TheVariants as w
use Rattle.sql_ast.specs.declared.token.Token.{Token}
use Rattle.sql_ast.specs.Marks.{Tokens, Is, reserved, sign, word, named, same_reserved, same_word, reserved_lexeme, word_lexeme, name_lexeme}
use Rattle.sql_ast.specs.Trees.{name_at}
use Rattle.sql_ast.specs.Parts.{from_alias, FromAliasOf, PlaceOf, place_none, place_is, UnpivotColumnOf, UnpivotCommasOf, unpivot_none, unpivot_more}
use Rattle.sql_ast.specs.Grammar.{PrimaryOf, primary_table, primary_query, primary_path, primary_unnest, TurnedOf, turned_none, turned_is, TurnOf, turn_pivot, turn_unpivot, PivotCallOf, pivot_call as is_pivot_call, PivotCallsOf, pivot_calls_none, pivot_calls_more, PivotValueOf, pivot_value as is_pivot_value, PivotValuesOf, pivot_values_none, pivot_values_more}
use Rattle.sql_grammar.specs.Classes.{class_of, no_primary, primary_class}
use Rattle.sql_grammar.specs.Words.{comma_column}
use Rattle.sql_grammar.specs.Exprs.{Below}
use Rattle.sql_grammar.specs.Queries.{pivot_call, comma_pivot_call, pivot_value, comma_pivot_value, pivot_behind, pivot, unpivot_behind, unpivot, turned_by, turned, table_or_path, primary_query as read_primary_query, primary_unnest as read_primary_unnest, primary_by, primary_item}
use Rattle.sql_grammar.proofs.Marks.{AfterOf, after_of}
use Rattle.sql_grammar.proofs.Words.{name_is}
use Rattle.sql_grammar.proofs.Calls.{bracketed_is}
use Rattle.sql_grammar.proofs.Follows.{Over, level, is_word}
use Rattle.sql_grammar.proofs.CompleteSteps.{Read, Free, Not, less, tok, also, part, last, then_on, else_on, peeked, done, weak, over_r, over_s, over_not_r, over_not_s, over_not_w, r_test, s_test, n_test, w_test, after_read, after_begins, over_many, many_read, comma_level, many_ahead, Ahead, nothing_ahead, level_ahead, to, on}
use Rattle.sql_grammar.proofs.CompleteWords.{NoAlias, over_no_alias, over_no_from, alias_read, from_alias_read, alias_ahead, from_alias_ahead, name_read, dotted_read, offset_column_read, place_ahead, include_read, unpivot_column_read, comma_column_read, unpivot_commas}
use Rattle.sql_grammar.proofs.CompleteParts.{Reading, bracketed_read}
use Rattle.sql_grammar.proofs.CompleteTails.{call_read}

-- ---- repetitions, and what stands before more

many_calls : (ms : List (PivotCall Expr)) (v : Tokens) → PivotCallsOf ms v → Many (AfterOf (sign s.Comma) PivotCallOf) ms v
many_calls _ _ pivot_calls_none = many_none
many_calls _ _ (pivot_calls_more {ms = ms} {v = v} i l z) = many_more (after_of i l) (many_calls ms v z)

many_values : (ms : List (Aliased Expr)) (v : Tokens) → PivotValuesOf ms v → Many (AfterOf (sign s.Comma) PivotValueOf) ms v
many_values _ _ pivot_values_none = many_none
many_values _ _ (pivot_values_more {ms = ms} {v = v} i l z) = many_more (after_of i l) (many_values ms v z)

calls_ahead : (ms : List (PivotCall Expr)) (v : Tokens) → PivotCallsOf ms v → Ahead 15 v
calls_ahead ms v z = many_ahead {j = 11} {k = 15} (sign s.Comma) comma_level (omega arith) (after_begins (sign s.Comma) PivotCallOf) ms v (many_calls ms v z)

values_ahead : (ms : List (Aliased Expr)) (v : Tokens) → PivotValuesOf ms v → Ahead 15 v
values_ahead ms v z = many_ahead {j = 11} {k = 15} (sign s.Comma) comma_level (omega arith) (after_begins (sign s.Comma) PivotValueOf) ms v (many_values ms v z)

no_alias_word : {t : Token} (x : Word) (ts : Tokens) → Is (word x) t → (word w.Pivot t || word w.Unpivot t) ≡ true → NoAlias from_alias (t ∷ ts)
no_alias_word {t} x ts i h = record { no_as = w_test x (reserved_lexeme r.As) i (λ n. refl); no_name = ap (λ c. elim c [ true ↦ false | false ↦ named t ]) h }

-- no alias without AS stands before PIVOT and UNPIVOT
turn_no_alias : (x : Turn Expr) (u rest : Tokens) → TurnOf x u → NoAlias from_alias (u ++ rest)
unfolding same_word
turn_no_alias _ _ rest (turn_pivot {t = t} i io k ks f j d n b x xs c e) = no_alias_word w.Pivot _ i (ap (λ c. c || word w.Unpivot t) i.is)
turn_no_alias _ _ rest (turn_unpivot {t = t} i k io j f m n b x xs c e) = no_alias_word w.Unpivot _ i (ap (λ c. c || word w.Unpivot t) (w_test w.Unpivot (word_lexeme w.Pivot) i (λ n. refl)) ∙ i.is)

turn_ahead : (x : Turn Expr) (u : Tokens) → TurnOf x u → Ahead 11 u
turn_ahead _ _ (turn_pivot i io k ks f j d n b x xs c e) = level_ahead (ap level (is_word i).is)
turn_ahead _ _ (turn_unpivot i k io j f m n b x xs c e) = level_ahead (ap level (is_word i).is)

turned_ahead : (x : Option (Turned Expr)) (u : Tokens) → TurnedOf x u → Ahead 11 u
turned_ahead _ _ turned_none = nothing_ahead
turned_ahead _ _ (turned_is {x = x} {a = a} {u = u} {v = v} l m) = record { ahead = λ k rest lt h. on v rest (turn_ahead x u l) lt ((from_alias_ahead a v m).ahead k rest lt h) }

turned_no_alias : (x : Option (Turned Expr)) (u rest : Tokens) → TurnedOf x u → Over 11 rest → NoAlias from_alias (u ++ rest)
turned_no_alias _ _ rest turned_none h = over_no_from h
turned_no_alias _ _ rest (turned_is {x = x} {u = u} {v = v} l m) h = subst (NoAlias from_alias) (sym (append_assoc u v rest)) (turn_no_alias x u (v ++ rest) l)

place_no_alias : (d : Option WithOffset) (u rest : Tokens) → PlaceOf d u → Over 11 rest → NoAlias from_alias (u ++ rest)
unfolding same_reserved same_word
place_no_alias _ _ rest place_none h = over_no_from h
place_no_alias _ _ rest (place_is {t = t} i j l) h = record { no_as = r_test r.With (reserved_lexeme r.As) i refl; no_name = r_test r.With (λ x. elim (word_lexeme w.Pivot x || word_lexeme w.Unpivot x) [ true ↦ false | false ↦ name_lexeme x ]) i refl }

no_dot : {ts : Tokens} → Over 1 ts → Not (sign s.Dot) ts
no_dot h = record { is = over_not_s h s.Dot (omega arith) }

module _ (n : ℕ) (b : Below) (x : Reading n b) where
  pivot_call_read : Read (suc n) (Over 11) PivotCallOf (pivot_call n b)
  unfolding pivot_call
  pivot_call_read = record { reads = by }
    where
      by : {a : PivotCall Expr} {u : Tokens} → PivotCallOf a u → (rest : Tokens) → Over 11 rest → length (u ++ rest) < suc n → pivot_call n b (u ++ rest) ≡ taken a rest
      by (is_pivot_call {v = v} l m) rest f = part (call_read n b x) l v rest _ tt (last (alias_read (suc n)) m _ (over_no_alias f) done)

  comma_pivot_call_read : Read (suc n) (Over 11) (AfterOf (sign s.Comma) PivotCallOf) (comma_pivot_call n b)
  unfolding comma_pivot_call
  comma_pivot_call_read = after_read (less pivot_call_read)

  pivot_value_read : Read n (Over 11) PivotValueOf (pivot_value n b)
  unfolding pivot_value
  pivot_value_read = record { reads = by }
    where
      by : {a : Aliased Expr} {u : Tokens} → PivotValueOf a u → (rest : Tokens) → Over 11 rest → length (u ++ rest) < n → pivot_value n b (u ++ rest) ≡ taken a rest
      by (is_pivot_value {a = d} {v = v} l m) rest f = part x.inner l v rest _ (to (alias_ahead d v m) (omega arith) (weak (omega arith) f)) (last (alias_read n) m _ (over_no_alias f) done)

  comma_pivot_value_read : Read (suc n) (Over 11) (AfterOf (sign s.Comma) PivotValueOf) (comma_pivot_value n b)
  unfolding comma_pivot_value
  comma_pivot_value_read = after_read pivot_value_read

  calls_read : (found : List (PivotCall Expr)) → Read (suc n) (Over 15) (Found PivotCallsOf found) (many (sign s.Comma) (comma_pivot_call n b) n found)
  calls_read found = over_many (sign s.Comma) comma_level (omega arith) (after_begins (sign s.Comma) PivotCallOf) comma_pivot_call_read found many_calls

  values_read : (found : List (Aliased Expr)) → Read (suc n) (Over 15) (Found PivotValuesOf found) (many (sign s.Comma) (comma_pivot_value n b) n found)
  values_read found = over_many (sign s.Comma) comma_level (omega arith) (after_begins (sign s.Comma) PivotValueOf) comma_pivot_value_read found many_values

  columns_read : (found : List UnpivotColumn) → Read (suc n) (Over 15) (Found UnpivotCommasOf found) (many (sign s.Comma) comma_column n found)
  columns_read found = many_read (Over 15) (Not (reserved r.As)) n (AfterOf (sign s.Comma) UnpivotColumnOf) (sign s.Comma) comma_column (λ ts h. over_not_s h s.Comma (omega arith))
      (λ t ts h. record { is = s_test {t = t} s.Comma (reserved_lexeme r.As) (record { is = h }) refl }) (λ ts h. record { is = over_not_r h r.As (omega arith) }) (after_begins (sign s.Comma) UnpivotColumnOf) (comma_column_read n) found unpivot_commas

  columns_no_as : (cs : List UnpivotColumn) (v w rest : Tokens) → UnpivotCommasOf cs v → Over 15 (w ++ rest) → Not (reserved r.As) ((v ++ w) ++ rest)
  columns_no_as _ _ w rest unpivot_none h = record { is = over_not_r h r.As (omega arith) }
  columns_no_as _ _ w rest (unpivot_more {t = t} i l z) h = record { is = s_test s.Comma (reserved_lexeme r.As) i refl }

  pivot_read : (a : Turn Expr) (t : Token) (u : Tokens) → Is (word w.Pivot) t → TurnOf a (t ∷ u) → (rest : Tokens) → length ((t ∷ u) ++ rest) < suc n → pivot n b ((t ∷ u) ++ rest) ≡ taken a rest
  unfolding pivot pivot_behind same_word
  pivot_read _ t _ it (turn_pivot {f = f} {n = m} {i = i} {b = d} {c = c} {d = e} {k = k} {ks = ks} {ns = ns} {x = a} {xs = xs} {v = v} {y = y} {z = z} {m = g} jt io lk lks jf jm lns ji jd la las jc je) rest =
      tok jt _ (also io _ (part (less pivot_call_read) lk (v ++ (f ∷ m ∷ (y ++ (i ∷ d ∷ (z ++ (g ++ (c ∷ e ∷ []))))))) rest _ (on (f ∷ m ∷ (y ++ (i ∷ d ∷ (z ++ (g ++ (c ∷ e ∷ [])))))) rest (calls_ahead ks v lks) (omega arith) (over_r r.For jf (omega arith)))
      (part (less (calls_read (k ∷ []))) (ks, lks, refl) (f ∷ m ∷ (y ++ (i ∷ d ∷ (z ++ (g ++ (c ∷ e ∷ [])))))) rest _ (over_r r.For jf (omega arith))
      (also jf _ (last (name_read n) (name_is jm) _ tt (part (less (dotted_read n (name_at m ∷ []))) (ns, lns, refl) (i ∷ d ∷ (z ++ (g ++ (c ∷ e ∷ [])))) rest _ (no_dot (over_r r.In ji (omega arith)))
      (also ji _ (also jd _ (part pivot_value_read la (g ++ (c ∷ e ∷ [])) rest _ (on (c ∷ e ∷ []) rest (values_ahead xs g las) (omega arith) (over_s s.CloseRound jc (omega arith)))
      (part (less (values_read (a ∷ []))) (xs, las, refl) (c ∷ e ∷ []) rest _ (over_s s.CloseRound jc (omega arith)) (also jc _ (also je _ done))))))))))))
  pivot_read _ t _ it (turn_unpivot jt lk io jn jf jm ji jb lx lxs jc jd) rest = absurd (let g : true ≡ false = sym it.is ∙ w_test w.Unpivot (word_lexeme w.Pivot) jt (λ n. refl) in cc)

  unpivot_read : (a : Turn Expr) (t : Token) (u : Tokens) → Is (word w.Unpivot) t → TurnOf a (t ∷ u) → (rest : Tokens) → length ((t ∷ u) ++ rest) < suc n → unpivot n b ((t ∷ u) ++ rest) ≡ taken a rest
  unfolding unpivot unpivot_behind same_word
  unpivot_read _ t _ it (turn_pivot jt io lk lks jf jm lns ji jd la las jc je) rest = absurd (let g : true ≡ false = sym it.is ∙ w_test w.Pivot (word_lexeme w.Unpivot) jt (λ n. refl) in cc)
  unpivot_read _ t _ it (turn_unpivot {o = o} {n = m} {f = f} {m = k} {i = i} {b = d} {c = c} {d = e} {x = a} {xs = xs} {v = v} {y = y} jt lk io jm jf jk ji jd lx lxs jc je) rest =
      tok jt _ (part (include_read n) lk (o ∷ m ∷ f ∷ k ∷ i ∷ d ∷ (v ++ (y ++ (c ∷ e ∷ [])))) rest _ (record { is = io.is })
      (also io _ (last (name_read n) (name_is jm) _ tt (also jf _ (last (name_read n) (name_is jk) _ tt (also ji _ (also jd _
      (part (unpivot_column_read n) lx (y ++ (c ∷ e ∷ [])) rest _ (columns_no_as xs y (c ∷ e ∷ []) rest lxs (over_s s.CloseRound jc (omega arith)))
      (part (less (columns_read (a ∷ []))) (xs, lxs, refl) (c ∷ e ∷ []) rest _ (over_s s.CloseRound jc (omega arith)) (also jc _ (also je _ done)))))))))))

  -- a turn that begins with this word
  data TurnBy (y : Word) : Turn Expr → Tokens → Type 0 where
    turn_by : {t : Token} {a : Turn Expr} {u : Tokens} → Is (word y) t → TurnOf a (t ∷ u) → TurnBy y a (t ∷ u)

  pivot_all : Read (suc n) Free (TurnBy w.Pivot) (pivot n b)
  pivot_all = record { reads = by }
    where
      by : {a : Turn Expr} {u : Tokens} → TurnBy w.Pivot a u → (rest : Tokens) → Unit {0} → length (u ++ rest) < suc n → pivot n b (u ++ rest) ≡ taken a rest
      by (turn_by {t = t} {a = a} {u = u} i l) rest f = pivot_read a t u i l rest

  unpivot_all : Read (suc n) Free (TurnBy w.Unpivot) (unpivot n b)
  unpivot_all = record { reads = by }
    where
      by : {a : Turn Expr} {u : Tokens} → TurnBy w.Unpivot a u → (rest : Tokens) → Unit {0} → length (u ++ rest) < suc n → unpivot n b (u ++ rest) ≡ taken a rest
      by (turn_by {t = t} {a = a} {u = u} i l) rest f = unpivot_read a t u i l rest

  turned_by_read : (a : Turn Expr) (u : Tokens) → TurnOf a u → (c : Option Name) (v : Tokens) → FromAliasOf c v → (rest : Tokens) → Over 11 rest → length ((u ++ v) ++ rest) < suc n
      → turned n b ((u ++ v) ++ rest) ≡ taken (Some (record { turn = a; alias = c })) rest
  unfolding turned turned_by same_word
  turned_by_read _ _ (turn_pivot i io k ks ff j d q e x xs g h) c v m rest f = then_on i.is _ _ (part pivot_all (turn_by i (turn_pivot i io k ks ff j d q e x xs g h)) v rest _ tt (last (from_alias_read (suc n)) m _ (over_no_from f) done))
  turned_by_read _ _ (turn_unpivot i k io j ff q d e g h y z) c v m rest f = else_on (w_test w.Unpivot (word_lexeme w.Pivot) i (λ n. refl)) _ _
      (then_on i.is _ _ (part unpivot_all (turn_by i (turn_unpivot i k io j ff q d e g h y z)) v rest _ tt (last (from_alias_read (suc n)) m _ (over_no_from f) done)))

  turned_read : Read (suc n) (Over 11) TurnedOf (turned n b)
  unfolding turned
  turned_read = record { reads = by }
    where
      by : {a : Option (Turned Expr)} {u : Tokens} → TurnedOf a u → (rest : Tokens) → Over 11 rest → length (u ++ rest) < suc n → turned n b (u ++ rest) ≡ taken a rest
      by turned_none rest f = else_on (over_not_w f w.Pivot (omega arith)) _ _ (else_on (over_not_w f w.Unpivot (omega arith)) _ _ done)
      by (turned_is {x = a} {a = c} {u = u} {v = v} l m) rest f = turned_by_read a u l c v m rest f

  -- ---- primaries

  pub primary_read : Read (suc n) (Over 12) PrimaryOf (primary_item n b)
  unfolding primary_item table_or_path read_primary_query read_primary_unnest
  primary_read = record { reads = by }
    where
      by : {a : Primary} {u : Tokens} → PrimaryOf a u → (rest : Tokens) → Over 12 rest → length (u ++ rest) < suc n → primary_item n b (u ++ rest) ≡ taken a rest
      by (primary_table {a = a} {x = y} {u = u} {v = v} i l m) rest f = peeked (class_of no_primary primary_class) (primary_by n b) (n_test primary_class i (λ n o. refl))
          (tok i _ (else_on (over_not_s {k = 10} (on v rest (from_alias_ahead a u l) (omega arith) (to (turned_ahead y v m) (omega arith) (weak (omega arith) f))) s.Dot (omega arith)) _ _
          (part (from_alias_read n) l v rest _ (turned_no_alias y v rest m (weak (omega arith) f)) (last (less turned_read) m _ (weak (omega arith) f) done))))
      by (primary_query {c = c} {a = a} {x = y} {u = u} {v = v} io l ic m k) rest f = peeked (class_of no_primary primary_class) (primary_by n b) (s_test s.OpenRound primary_class io refl)
          (tok io _ (part x.query l (c ∷ (u ++ v)) rest _ (over_s s.CloseRound ic (omega arith)) (also ic _
          (part (from_alias_read n) m v rest _ (turned_no_alias y v rest k (weak (omega arith) f)) (last (less turned_read) k _ (weak (omega arith) f) done)))))
      by (primary_path {n = t} {m = j} {ns = ns} {a = a} {d = d} {u = u} {v = v} {y = y} i id im z l m) rest f = peeked (class_of no_primary primary_class) (primary_by n b) (n_test primary_class i (λ n o. refl))
          (tok i _ (then_on id.is _ _ (also id _ (last (name_read n) (name_is im) _ tt
          (part (less (dotted_read n (name_at t ∷ name_at j ∷ []))) (ns, z, refl) (u ++ v) rest _ (no_dot (on v rest (from_alias_ahead a u l) (omega arith) (to (place_ahead d v m) (omega arith) (weak (omega arith) f))))
          (part (from_alias_read n) l v rest _ (place_no_alias d v rest m (weak (omega arith) f)) (last (offset_column_read n) m _ f done)))))))
      by (primary_unnest {t = t} {o = o} {c = c} {x = k} {a = a} {d = d} {u = u} {v = v} {y = y} i io l ic m p) rest f =
          subst (λ (w : Tokens). length ((t ∷ o ∷ w) ++ rest) < suc n → primary_item n b ((t ∷ o ∷ w) ++ rest) ≡ taken (primary_kind.Unnest k a d t.start) rest) (append_assoc y (c ∷ []) (u ++ v))
          (peeked (class_of no_primary primary_class) (primary_by n b) (r_test r.Unnest primary_class i refl)
          (tok i _ (part (less (bracketed_read n b x)) (bracketed_is io l ic) (u ++ v) rest _ tt
          (part (from_alias_read n) m v rest _ (place_no_alias d v rest p (weak (omega arith) f)) (last (offset_column_read n) p _ f done)))))
