-- The readers of FROM are exact.
use Rattle.std.proofs.Common.{◌≡◌, ℕ, suc, ◌≤◌, ◌||◌, Bool, true, false, cond, List, [], ◌∷◌, ◌++◌, length, Option, Some, None, refl, sym, ◌∙◌, ap, subst, arith}
use Rattle.std.proofs.lemmas.List.{append_assoc}
use Rattle.fronts.specs.Fronts.{Language}
use Rattle.fronts.specs.Readers.{◌>>=◌, pure, refuse, token}
use Rattle.fronts.proofs.Agrees.{Found}
use Rattle.fronts.proofs.Firm.{Opens, hungry, opens}
use Rattle.fronts.proofs.Exact.{Exact, bind, either, last, into, done, less, exact_many, exact_all, exact_peek, exact_refuse, hungry_refuse, opens_bind}
use Rattle.sql_ast.specs.declared.clauses.Aliased.{Aliased}
use Rattle.sql_ast.specs.declared.clauses.Name.{Name}
use Rattle.sql_ast.specs.declared.clauses.On.{On}
use Rattle.sql_ast.specs.declared.clauses.PivotCall.{PivotCall}
use Rattle.sql_ast.specs.declared.clauses.Turn.{Turn}
use Rattle.sql_ast.specs.declared.clauses.UnpivotColumn.{UnpivotColumn}
use Rattle.sql_ast.specs.declared.clauses.WithOffset.{WithOffset}
use Rattle.sql_ast.specs.declared.expr.Expr.{Expr}
use Rattle.sql_ast.specs.declared.query.FromItem.{FromItem, roll-FromItem}
use Rattle.sql_ast.specs.declared.query.JoinWord.{JoinWord}
use Rattle.sql_ast.specs.declared.query.Joined.{Joined}
use Rattle.sql_ast.specs.declared.query.Primary.{Primary}
use Rattle.sql_ast.specs.declared.token.Lexeme.{Lexeme}
use Rattle.sql_ast.specs.declared.token.Token.{Token}
use Rattle.sql_names.specs.declared.words.Reserved.{Reserved}
use Rattle.sql_ast.specs.declared.clauses.On.TheVariants as on_kind
use Rattle.sql_ast.specs.declared.clauses.Turn.TheVariants as turn_kind
use Rattle.sql_ast.specs.declared.query.JoinWord.TheVariants as join_word_kind
use Rattle.sql_ast.specs.declared.query.Primary.TheVariants as primary_kind
use Rattle.sql_ast.specs.declared.token.Lexeme.TheVariants as l
use Rattle.sql_names.specs.declared.words.Reserved.TheVariants as r
use Rattle.sql_ast.specs.declared.words.Sign.TheVariants as s
use Rattle.sql_ast.specs.declared.words.Word.TheVariants as w
use Rattle.sql_ast.specs.Marks.{Tokens, Is, reserved, sign, word, named, start_of, same_reserved, reserved_lexeme}
use Rattle.sql_ast.specs.Trees.{name_at, joins_freely}
use Rattle.sql_ast.specs.Grammar.{ExprOf, FromOf, FromPartOf, JoinOf, JoinsOf, OnOf, OnPartOf, PivotCallOf, PivotCallsOf, PivotValueOf, PivotValuesOf, PrimaryOf, TurnOf, TurnedOf, from_are, from_is, from_none, join_cross, join_full, join_inner, join_left, join_plain, join_right, joins_comma, joins_join, joins_none, on_expr, on_is, on_missing, on_using, pivot_call, pivot_calls_more, pivot_calls_none, pivot_value, pivot_values_more, pivot_values_none, primary_path, primary_query, primary_table, primary_unnest, turn_pivot, turn_unpivot, turned_is, turned_none}
use Rattle.sql_ast.specs.Parts.{AsStructOf, FromAliasOf, IncludeOf, LimitOf, NameCommasOf, NameDotsOf, NamesOf, OptionalOf, PlaceOf, SelectDistinctOf, UnpivotColumnOf, UnpivotCommasOf, as_struct_is, as_struct_none, column_as, column_plain, count_at, exclude_nulls, from_alias_none, include_none, include_nulls, limit_is, limit_none, name_commas_more, name_commas_none, name_dots_more, name_dots_none, names_are, offset_is, offset_none, optional_is, optional_none, place_is, place_none, select_all, select_distinct as is_select_distinct, select_none, unpivot_more, unpivot_none}
use Rattle.sql_grammar.specs.Ways.{Parser}
use Rattle.sql_grammar.specs.Classes.{class_of, join_class, is_join, joins, goes_after_comma, comma_or_join, primary_class, JoinStart, PrimaryStart, by_cross, by_inner, by_join, by_left, by_right, by_full, no_join, primary_name, primary_bracket, primary_by_unnest, no_primary}
use Rattle.sql_grammar.specs.Words.{name, comma_name, dot_name, names, dotted, offset_column, unpivot_column, comma_column, include, distinct, select_distinct, as_struct, optional, offset, limit}
use Rattle.sql_grammar.specs.Exprs.{Below}
use Rattle.sql_grammar.specs.Queries.{joined_of, on_next, pivot_call as read_pivot_call, comma_pivot_call, pivot_value as read_pivot_value, comma_pivot_value, pivot_behind, pivot, unpivot_behind, unpivot, turned_by, turned, table_or_path, primary_query as read_primary_query, primary_unnest as read_primary_unnest, primary_by, primary_item, on_expr as read_on_expr, on_using as read_on_using, condition, on_part, joined_freely, join_freely, join_on, outer_freely, outer_on, cross_behind, join_by, later_by, join_item, comma_behind, comma_join, later_join, from_item, from_part}
use Rattle.sql_grammar.proofs.Ways.{Begun, start_front, exact_starting}
use Rattle.sql_grammar.proofs.Marks.{the_reserved, the_sign, the_word, some_name, some_text, is_example, a_count, tok, also, opt, opt_also, tok_opens, AfterOf, after_of, after_solid, after_exact, after_opens, not_nil}
use Rattle.sql_grammar.proofs.Words.{alias_exact, from_alias_exact, NameIs, name_is}
use Rattle.sql_grammar.proofs.Solid.{solid_front, some_expr}
use Rattle.sql_grammar.proofs.Calls.{Under, Bracketed, bracketed_exact, call_exact, bracketed_is}

-- ---- names and words

name_commas_at : (a : Name) (u : Tokens) (ls : List Name) (v : Tokens) → AfterOf (sign s.Comma) NameIs a u → NameCommasOf ls v → NameCommasOf (a ∷ ls) (u ++ v)
name_commas_at _ _ ls v (after_of i (name_is j)) z = name_commas_more i j z

name_dots_at : (a : Name) (u : Tokens) (ls : List Name) (v : Tokens) → AfterOf (sign s.Dot) NameIs a u → NameDotsOf ls v → NameDotsOf (a ∷ ls) (u ++ v)
name_dots_at _ _ ls v (after_of i (name_is j)) z = name_dots_more i j z

columns_at : (a : UnpivotColumn) (u : Tokens) (ls : List UnpivotColumn) (v : Tokens) → AfterOf (sign s.Comma) UnpivotColumnOf a u → UnpivotCommasOf ls v → UnpivotCommasOf (a ∷ ls) (u ++ v)
columns_at _ _ ls v (after_of i l) z = unpivot_more i l z

name_exact_of : (n : ℕ) → Exact (suc n) NameIs name name
unfolding name
name_exact_of n = tok some_name (λ t it. done (name_is it))

comma_name_exact : (n : ℕ) → Exact (suc (suc n)) (AfterOf (sign s.Comma) NameIs) comma_name comma_name
unfolding comma_name
comma_name_exact n = after_exact (the_sign s.Comma) (name_exact_of n)

comma_name_opens : (t : Token) → sign s.Comma t ≡ true → Opens t comma_name
unfolding comma_name
comma_name_opens t h = after_opens (the_sign s.Comma) (name_exact_of 0) t h

dot_name_exact : (n : ℕ) → Exact (suc (suc n)) (AfterOf (sign s.Dot) NameIs) dot_name dot_name
unfolding dot_name
dot_name_exact n = after_exact (the_sign s.Dot) (name_exact_of n)

dot_name_opens : (t : Token) → sign s.Dot t ≡ true → Opens t dot_name
unfolding dot_name
dot_name_opens t h = after_opens (the_sign s.Dot) (name_exact_of 0) t h

names_found : (o : Token) → Is (sign s.OpenRound) o → (a : Name) (u : Tokens) → NameIs a u → (xs : List Name) (v : Tokens) → Found NameCommasOf (a ∷ []) xs v → (c : Token) → Is (sign s.CloseRound) c → NamesOf xs (o ∷ (u ++ (v ++ (c ∷ []))))
names_found o io _ _ (name_is {n = z} i) xs v (ls, y, f) c ic = subst (λ (q : List Name). NamesOf q (o ∷ z ∷ (v ++ (c ∷ [])))) (sym f) (names_are io i y ic)

pub names_exact : (n m : ℕ) → n ≤ m → Exact (suc n) NamesOf (names n) (names m)
unfolding names
names_exact n m up = tok (the_sign s.OpenRound) (λ o io. bind (less (name_exact_of n)) (λ a u l.
    bind (exact_many (AfterOf (sign s.Comma) NameIs) NameCommasOf (sign s.Comma) comma_name comma_name name_commas_none name_commas_at (after_solid (sign s.Comma) NameIs) comma_name_opens n m n up (omega arith) (less (less (comma_name_exact n))) (a ∷ []))
    (λ xs v f. also (the_sign s.CloseRound) (λ c ic. done (names_found o io a u l xs v f c ic)))))

pub names_opens : (m : ℕ) (t : Token) → sign s.OpenRound t ≡ true → Opens t (names m)
unfolding names
names_opens m t h = tok_opens h (λ o io. bind (name_exact_of 0) (λ a u l.
    bind (exact_many (AfterOf (sign s.Comma) NameIs) NameCommasOf (sign s.Comma) comma_name comma_name name_commas_none name_commas_at (after_solid (sign s.Comma) NameIs) comma_name_opens m m 1 (omega arith) (omega arith) (less (comma_name_exact 0)) (a ∷ []))
    (λ xs v f. also (the_sign s.CloseRound) (λ c ic. done tt))))

pub dotted_exact : (n m : ℕ) → n ≤ m → (found : List Name) → Exact (suc n) (Found NameDotsOf found) (dotted n found) (dotted m found)
unfolding dotted
dotted_exact n m up found = exact_many (AfterOf (sign s.Dot) NameIs) NameDotsOf (sign s.Dot) dot_name dot_name name_dots_none name_dots_at (after_solid (sign s.Dot) NameIs) dot_name_opens n m (suc n) up (omega arith) (less (dot_name_exact n)) found

pub offset_column_exact : (n : ℕ) → Exact (suc n) PlaceOf offset_column offset_column
unfolding offset_column
offset_column_exact n = opt (the_reserved r.With) (λ t it. also (the_word w.Offset) (λ y iy. last (λ a. Some (record { alias = a; place = t.start })) (less (from_alias_exact n)) (λ a u l. place_is it iy l))) (done place_none)

pub unpivot_column_exact : (n : ℕ) → Exact (suc n) UnpivotColumnOf unpivot_column unpivot_column
unfolding unpivot_column
unpivot_column_exact n = tok some_name (λ z iz. opt_also (the_reserved r.As) (λ t it. also some_text (λ y iy. done (column_as iz it iy))) (done (column_plain iz)))

pub comma_column_exact : (n : ℕ) → Exact (suc (suc n)) (AfterOf (sign s.Comma) UnpivotColumnOf) comma_column comma_column
unfolding comma_column
comma_column_exact n = after_exact (the_sign s.Comma) (unpivot_column_exact n)

pub comma_column_opens : (t : Token) → sign s.Comma t ≡ true → Opens t comma_column
unfolding comma_column
comma_column_opens t h = after_opens (the_sign s.Comma) (unpivot_column_exact 0) t h

pub include_exact : (n : ℕ) → Exact (suc n) IncludeOf include include
unfolding include
include_exact n = opt (the_word w.Include) (λ t it. also (the_reserved r.Nulls) (λ y iy. done (include_nulls it iy))) (opt (the_reserved r.Exclude) (λ t it. also (the_reserved r.Nulls) (λ y iy. done (exclude_nulls it iy))) (done include_none))

pub optional_exact : (y : Reserved) (n : ℕ) → Exact (suc n) (λ b. OptionalOf y) (optional y) (optional y)
unfolding optional
optional_exact y n = opt (the_reserved y) (λ t it. done (optional_is it)) (done optional_none)

pub limit_exact : (n : ℕ) → Exact (suc n) LimitOf limit limit
unfolding limit offset
limit_exact n = opt (the_reserved r.Limit) (λ t it. also a_count (λ y iy. last (λ o. Some (record { count = count_at y; offset = o; place = t.start })) (opt_also (the_word w.Offset) (λ z iz. also a_count (λ k ik. done (offset_is iz ik))) (done offset_none)) (λ o u l. limit_is it iy l))) (done limit_none)

pub select_distinct_exact : (n : ℕ) → Exact (suc n) SelectDistinctOf select_distinct select_distinct
unfolding select_distinct distinct
select_distinct_exact n = opt (the_reserved r.All) (λ t it. done (select_all it)) (opt (the_reserved r.Distinct) (λ t it. done (is_select_distinct it)) (done select_none))

pub as_struct_exact : (n : ℕ) → Exact (suc n) AsStructOf as_struct as_struct
unfolding as_struct
as_struct_exact n = opt (the_reserved r.As) (λ t it. also (the_reserved r.Struct) (λ y iy. done (as_struct_is it iy))) (done as_struct_none)

-- ---- FROM

calls_at : (a : PivotCall Expr) (u : Tokens) (ls : List (PivotCall Expr)) (v : Tokens) → AfterOf (sign s.Comma) PivotCallOf a u → PivotCallsOf ls v → PivotCallsOf (a ∷ ls) (u ++ v)
calls_at _ _ ls v (after_of i l) z = pivot_calls_more i l z

values_at : (a : Aliased Expr) (u : Tokens) (ls : List (Aliased Expr)) (v : Tokens) → AfterOf (sign s.Comma) PivotValueOf a u → PivotValuesOf ls v → PivotValuesOf (a ∷ ls) (u ++ v)
values_at _ _ ls v (after_of i l) z = pivot_values_more i l z

pivot_found : (t o : Token) → Is (word w.Pivot) t → Is (sign s.OpenRound) o → (k : PivotCall Expr) (u1 : Tokens) → PivotCallOf k u1 → (ks : List (PivotCall Expr)) (u2 : Tokens) → Found PivotCallsOf (k ∷ []) ks u2
    → (f : Token) → Is (reserved r.For) f → (z : Name) (u3 : Tokens) → NameIs z u3 → (zs : List Name) (u4 : Tokens) → Found NameDotsOf (z ∷ []) zs u4 → (i d : Token) → Is (reserved r.In) i → Is (sign s.OpenRound) d
    → (y : Aliased Expr) (u5 : Tokens) → PivotValueOf y u5 → (ys : List (Aliased Expr)) (u6 : Tokens) → Found PivotValuesOf (y ∷ []) ys u6 → (c g : Token) → Is (sign s.CloseRound) c → Is (sign s.CloseRound) g
    → TurnOf (turn_kind.Pivot ks zs ys t.start) (t ∷ o ∷ (u1 ++ (u2 ++ (f ∷ (u3 ++ (u4 ++ (i ∷ d ∷ (u5 ++ (u6 ++ (c ∷ g ∷ []))))))))))
pivot_found t o it io k u1 lk ks u2 (l1, p1, f1) f jf _ _ (name_is {n = z} iz) zs u4 (l2, p2, f2) i d ii id y u5 ly ys u6 (l3, p3, f3) c g ic ig =
    subst (λ (q : List (PivotCall Expr)). TurnOf (turn_kind.Pivot q zs ys t.start) (t ∷ o ∷ (u1 ++ (u2 ++ (f ∷ z ∷ (u4 ++ (i ∷ d ∷ (u5 ++ (u6 ++ (c ∷ g ∷ [])))))))))) (sym f1)
    (subst (λ (q : List Name). TurnOf (turn_kind.Pivot (k ∷ l1) q ys t.start) (t ∷ o ∷ (u1 ++ (u2 ++ (f ∷ z ∷ (u4 ++ (i ∷ d ∷ (u5 ++ (u6 ++ (c ∷ g ∷ [])))))))))) (sym f2)
    (subst (λ (q : List (Aliased Expr)). TurnOf (turn_kind.Pivot (k ∷ l1) (name_at z ∷ l2) q t.start) (t ∷ o ∷ (u1 ++ (u2 ++ (f ∷ z ∷ (u4 ++ (i ∷ d ∷ (u5 ++ (u6 ++ (c ∷ g ∷ [])))))))))) (sym f3) (turn_pivot it io lk p1 jf iz p2 ii id ly p3 ic ig)))

unpivot_found : (t : Token) → Is (word w.Unpivot) t → (k : Bool) (u1 : Tokens) → IncludeOf k u1 → (o : Token) → Is (sign s.OpenRound) o → (z : Name) (u2 : Tokens) → NameIs z u2 → (f : Token) → Is (reserved r.For) f → (y : Name) (u3 : Tokens) → NameIs y u3
    → (i d : Token) → Is (reserved r.In) i → Is (sign s.OpenRound) d → (q : UnpivotColumn) (u4 : Tokens) → UnpivotColumnOf q u4 → (qs : List UnpivotColumn) (u5 : Tokens) → Found UnpivotCommasOf (q ∷ []) qs u5 → (c g : Token) → Is (sign s.CloseRound) c → Is (sign s.CloseRound) g
    → TurnOf (turn_kind.Unpivot k z y qs t.start) (t ∷ (u1 ++ (o ∷ (u2 ++ (f ∷ (u3 ++ (i ∷ d ∷ (u4 ++ (u5 ++ (c ∷ g ∷ []))))))))))
unpivot_found t it k u1 lk o io _ _ (name_is {n = z} iz) f jf _ _ (name_is {n = y} iy) i d ii id q u4 lq qs u5 (l1, p1, f1) c g ic ig =
    subst (λ (x : List UnpivotColumn). TurnOf (turn_kind.Unpivot k (name_at z) (name_at y) x t.start) (t ∷ (u1 ++ (o ∷ z ∷ f ∷ y ∷ i ∷ d ∷ (u4 ++ (u5 ++ (c ∷ g ∷ []))))))) (sym f1) (turn_unpivot it lk io iz jf iy ii id lq p1 ic ig)

path_found : (t d : Token) → Is named t → Is (sign s.Dot) d → (z : Name) (u : Tokens) → NameIs z u → (zs : List Name) (v : Tokens) → Found NameDotsOf (name_at t ∷ z ∷ []) zs v → (a : Option Name) (p : Tokens) → FromAliasOf a p → (o : Option WithOffset) (q : Tokens) → PlaceOf o q
    → PrimaryOf (primary_kind.Path zs a o t.start) (t ∷ d ∷ (u ++ (v ++ (p ++ q))))
path_found t d it id _ _ (name_is {n = z} iz) zs v (ls, y, f) a p la o q lo = subst (λ (x : List Name). PrimaryOf (primary_kind.Path x a o t.start) (t ∷ d ∷ z ∷ (v ++ (p ++ q)))) (sym f) (primary_path it id iz y la lo)

unnest_found : (t : Token) → Is (reserved r.Unnest) t → (y : Expr) (u : Tokens) → Bracketed ExprOf y u → (a : Option Name) (p : Tokens) → FromAliasOf a p → (o : Option WithOffset) (q : Tokens) → PlaceOf o q → PrimaryOf (primary_kind.Unnest y a o t.start) (t ∷ (u ++ (p ++ q)))
unnest_found t it _ _ (bracketed_is {o = k} {c = c} {a = y} {u = u} io l ic) a p la o q lo =
    subst (λ (w : Tokens). PrimaryOf (primary_kind.Unnest y a o t.start) (t ∷ k ∷ w)) (sym (append_assoc u (c ∷ []) (p ++ q))) (primary_unnest it io l ic la lo)

some_primary : (a : Primary) × (u : Tokens) × PrimaryOf a u
some_primary = (_, _, primary_table (is_example some_name) from_alias_none turned_none)

solid_primary : (a : Primary) (u : Tokens) → PrimaryOf a u → 1 ≤ length u
solid_primary _ _ (primary_table i a y) = omega arith
solid_primary _ _ (primary_query i l j a y) = omega arith
solid_primary _ _ (primary_path i j g d a y) = omega arith
solid_primary _ _ (primary_unnest i j l g a y) = omega arith

pub data LaterOf : Joined → Tokens → Type 0 where
  later_comma : {t : Token} {a : Primary} {u : Tokens} → Is (sign s.Comma) t → PrimaryOf a u → LaterOf (joined_of join_word_kind.Comma t.start a None) (t ∷ u)
  later_is : {a : Joined} {u : Tokens} → JoinOf true a u → LaterOf a u

solid_join : (a : Joined) (u : Tokens) → JoinOf false a u → 1 ≤ length u
solid_join _ _ (join_cross i j l) = omega arith
solid_join _ _ (join_inner i j l o) = omega arith
solid_join _ _ (join_plain j l o) = omega arith
solid_join _ _ (join_left i k j l o) = omega arith
solid_join _ _ (join_right i k j l o) = omega arith
solid_join _ _ (join_full i k j l o) = omega arith

join_weaker : (a : Joined) (u : Tokens) → JoinOf true a u → JoinOf false a u
join_weaker _ _ (join_cross i j l) = join_cross i j l
join_weaker _ _ (join_inner i j l o) = join_inner i j l o
join_weaker _ _ (join_plain j l o) = join_plain j l o
join_weaker _ _ (join_left i k j l o) = join_left i k j l o

solid_later : (a : Joined) (u : Tokens) → LaterOf a u → 1 ≤ length u
solid_later _ _ (later_comma i l) = omega arith
solid_later _ _ (later_is {a = a} {u = u} l) = solid_join a u (join_weaker a u l)

later_more : (a : Joined) (u : Tokens) (xs : List Joined) (v : Tokens) → LaterOf a u → JoinsOf true xs v → JoinsOf true (a ∷ xs) (u ++ v)
later_more _ _ xs v (later_comma i l) z = joins_comma i l z
later_more _ _ xs v (later_is l) z = joins_join l z

joins_weaker : (xs : List Joined) (u : Tokens) → JoinsOf true xs u → JoinsOf false xs u
joins_weaker _ _ joins_none = joins_none
joins_weaker _ _ (joins_comma i l z) = joins_comma i l z
joins_weaker _ _ (joins_join {a = a} {ms = xs} {u = u} {v = v} l z) = joins_join (join_weaker a u l) (joins_weaker xs v z)

joins_then : (c : Bool) (xs : List Joined) (u : Tokens) (ys : List Joined) (v : Tokens) → JoinsOf c xs u → JoinsOf true ys v → JoinsOf c (xs ++ ys) (u ++ v)
joins_then true _ _ ys v joins_none z = z
joins_then false _ _ ys v joins_none z = joins_weaker ys v z
joins_then c _ _ ys v (joins_comma {t = t} {a = a} {ms = xs} {u = u} {v = w} i l k) z = subst (JoinsOf c (joined_of join_word_kind.Comma t.start a None ∷ (xs ++ ys))) (ap (λ (q : Tokens). t ∷ q) (sym (append_assoc u w v))) (joins_comma i l (joins_then true xs w ys v k z))
joins_then c _ _ ys v (joins_join {a = a} {ms = xs} {u = u} {v = w} l k) z = subst (JoinsOf c (a ∷ (xs ++ ys))) (sym (append_assoc u w v)) (joins_join l (joins_then c xs w ys v k z))

no_from : (f : FromItem) (u : Tokens) → FromOf f u → u ≡ [] → ⊥
no_from _ _ (from_are {u = u} {v = v} l z) h = not_nil (u ++ v) (solid_front u v (solid_primary _ u l)) h

from_begun : (k : ℕ) (a : Primary) (u : Tokens) → PrimaryOf a u → (xs : List Joined) (v : Tokens) → JoinsOf false xs v → (ys : List Joined) (w : Tokens) → Found (JoinsOf true) xs ys w
    → Begun FromOf k (roll-FromItem (record { first = a; rest = ys; place = k })) (u ++ (v ++ w))
from_begun k a u la xs v lx ys w (zs, z, f) = record {
  solid = solid_front u (v ++ w) (solid_primary a u la);
  spells = λ h. subst (λ (j : ℕ). FromOf (roll-FromItem (record { first = a; rest = ys; place = j })) (u ++ (v ++ w))) (sym (h ∙ start_front u (v ++ w) (solid_primary a u la)))
      (subst (λ (q : List Joined). FromOf (roll-FromItem (record { first = a; rest = q; place = start_of u })) (u ++ (v ++ w))) (sym f) (from_are la (joins_then false xs v zs w lx z)));
}

class_cross : (z : Lexeme) → join_class z ≡ by_cross → reserved_lexeme r.Cross z ≡ true
unfolding same_reserved
class_cross (l.Reserved r.Cross) h = refl
class_cross (l.Reserved r.Inner) h = absurd cc
class_cross (l.Reserved r.Join) h = absurd cc
class_cross (l.Reserved r.Left) h = absurd cc
class_cross (l.Reserved r.Right) h = absurd cc
class_cross (l.Reserved r.Full) h = absurd cc
class_cross (l.Reserved _) h = absurd cc
class_cross _ h = absurd cc

class_inner : (z : Lexeme) → join_class z ≡ by_inner → reserved_lexeme r.Inner z ≡ true
unfolding same_reserved
class_inner (l.Reserved r.Inner) h = refl
class_inner (l.Reserved r.Cross) h = absurd cc
class_inner (l.Reserved r.Join) h = absurd cc
class_inner (l.Reserved r.Left) h = absurd cc
class_inner (l.Reserved r.Right) h = absurd cc
class_inner (l.Reserved r.Full) h = absurd cc
class_inner (l.Reserved _) h = absurd cc
class_inner _ h = absurd cc

class_join : (z : Lexeme) → join_class z ≡ by_join → reserved_lexeme r.Join z ≡ true
unfolding same_reserved
class_join (l.Reserved r.Join) h = refl
class_join (l.Reserved r.Cross) h = absurd cc
class_join (l.Reserved r.Inner) h = absurd cc
class_join (l.Reserved r.Left) h = absurd cc
class_join (l.Reserved r.Right) h = absurd cc
class_join (l.Reserved r.Full) h = absurd cc
class_join (l.Reserved _) h = absurd cc
class_join _ h = absurd cc

class_left : (z : Lexeme) → join_class z ≡ by_left → reserved_lexeme r.Left z ≡ true
unfolding same_reserved
class_left (l.Reserved r.Left) h = refl
class_left (l.Reserved r.Cross) h = absurd cc
class_left (l.Reserved r.Inner) h = absurd cc
class_left (l.Reserved r.Join) h = absurd cc
class_left (l.Reserved r.Right) h = absurd cc
class_left (l.Reserved r.Full) h = absurd cc
class_left (l.Reserved _) h = absurd cc
class_left _ h = absurd cc

class_right : (z : Lexeme) → join_class z ≡ by_right → reserved_lexeme r.Right z ≡ true
unfolding same_reserved
class_right (l.Reserved r.Right) h = refl
class_right (l.Reserved r.Cross) h = absurd cc
class_right (l.Reserved r.Inner) h = absurd cc
class_right (l.Reserved r.Join) h = absurd cc
class_right (l.Reserved r.Left) h = absurd cc
class_right (l.Reserved r.Full) h = absurd cc
class_right (l.Reserved _) h = absurd cc
class_right _ h = absurd cc

class_full : (z : Lexeme) → join_class z ≡ by_full → reserved_lexeme r.Full z ≡ true
unfolding same_reserved
class_full (l.Reserved r.Full) h = refl
class_full (l.Reserved r.Cross) h = absurd cc
class_full (l.Reserved r.Inner) h = absurd cc
class_full (l.Reserved r.Join) h = absurd cc
class_full (l.Reserved r.Left) h = absurd cc
class_full (l.Reserved r.Right) h = absurd cc
class_full (l.Reserved _) h = absurd cc
class_full _ h = absurd cc

module _ (n m : ℕ) (up : n ≤ m) (b b' : Below) (x : Under n b b') where
  pivot_call_exact : Exact (suc n) PivotCallOf (read_pivot_call n b) (read_pivot_call m b')
  unfolding read_pivot_call
  pivot_call_exact = bind (call_exact n m up b b' x) (λ k u l. last (λ a. record { call = k; alias = a }) (alias_exact n) (λ a v la. pivot_call l la))

  comma_pivot_call_exact : Exact (suc (suc n)) (AfterOf (sign s.Comma) PivotCallOf) (comma_pivot_call n b) (comma_pivot_call m b')
  unfolding comma_pivot_call
  comma_pivot_call_exact = after_exact (the_sign s.Comma) pivot_call_exact

  comma_pivot_call_opens : (t : Token) → sign s.Comma t ≡ true → Opens t (comma_pivot_call m b')
  unfolding comma_pivot_call
  comma_pivot_call_opens t h = after_opens (the_sign s.Comma) pivot_call_exact t h

  pivot_value_exact : Exact n PivotValueOf (read_pivot_value n b) (read_pivot_value m b')
  unfolding read_pivot_value
  pivot_value_exact = bind x.inner (λ a u l. last (λ k. record { expr = a; alias = k }) (less (alias_exact n)) (λ k v la. pivot_value l la))

  comma_pivot_value_exact : Exact (suc n) (AfterOf (sign s.Comma) PivotValueOf) (comma_pivot_value n b) (comma_pivot_value m b')
  unfolding comma_pivot_value
  comma_pivot_value_exact = after_exact (the_sign s.Comma) pivot_value_exact

  comma_pivot_value_opens : (t : Token) → sign s.Comma t ≡ true → Opens t (comma_pivot_value m b')
  unfolding comma_pivot_value
  comma_pivot_value_opens t h = after_opens (the_sign s.Comma) pivot_value_exact t h

  pivot_cont : (t : Token) → Is (word w.Pivot) t → Exact n (λ y v. TurnOf y (t ∷ v)) (pivot_behind n b t) (pivot_behind m b' t)
  unfolding pivot_behind
  pivot_cont t it = also (the_sign s.OpenRound) (λ o io. bind (less pivot_call_exact) (λ k u1 lk.
      bind (exact_many (AfterOf (sign s.Comma) PivotCallOf) PivotCallsOf (sign s.Comma) (comma_pivot_call n b) (comma_pivot_call m b') pivot_calls_none calls_at (after_solid (sign s.Comma) PivotCallOf) comma_pivot_call_opens n m n up (omega arith) (less (less comma_pivot_call_exact)) (k ∷ [])) (λ ks u2 f1.
      also (the_reserved r.For) (λ f jf. bind (less (name_exact_of n)) (λ z u3 lz. bind (less (dotted_exact n m up (z ∷ []))) (λ zs u4 f2. also (the_reserved r.In) (λ i ii. also (the_sign s.OpenRound) (λ d id. bind pivot_value_exact (λ y u5 ly.
      bind (exact_many (AfterOf (sign s.Comma) PivotValueOf) PivotValuesOf (sign s.Comma) (comma_pivot_value n b) (comma_pivot_value m b') pivot_values_none values_at (after_solid (sign s.Comma) PivotValueOf) comma_pivot_value_opens n m n up (omega arith) (less comma_pivot_value_exact) (y ∷ [])) (λ ys u6 f3.
      also (the_sign s.CloseRound) (λ c ic. also (the_sign s.CloseRound) (λ g ig. done (pivot_found t o it io k u1 lk ks u2 f1 f jf z u3 lz zs u4 f2 i d ii id y u5 ly ys u6 f3 c g ic ig)))))))))))))

  unpivot_cont : (t : Token) → Is (word w.Unpivot) t → Exact n (λ y v. TurnOf y (t ∷ v)) (unpivot_behind n b t) (unpivot_behind m b' t)
  unfolding unpivot_behind
  unpivot_cont t it = bind (less (include_exact n)) (λ k u1 lk. also (the_sign s.OpenRound) (λ o io. bind (less (name_exact_of n)) (λ z u2 lz. also (the_reserved r.For) (λ f jf. bind (less (name_exact_of n)) (λ y u3 ly. also (the_reserved r.In) (λ i ii. also (the_sign s.OpenRound) (λ d id.
      bind (less (unpivot_column_exact n)) (λ q u4 lq. bind (exact_many (AfterOf (sign s.Comma) UnpivotColumnOf) UnpivotCommasOf (sign s.Comma) comma_column comma_column unpivot_none columns_at (after_solid (sign s.Comma) UnpivotColumnOf) comma_column_opens n m n up (omega arith) (less (less (comma_column_exact n))) (q ∷ [])) (λ qs u5 f1.
      also (the_sign s.CloseRound) (λ c ic. also (the_sign s.CloseRound) (λ g ig. done (unpivot_found t it k u1 lk o io z u2 lz f jf y u3 ly i d ii id q u4 lq qs u5 f1 c g ic ig))))))))))))

  pivot_exact : Exact (suc n) TurnOf (pivot n b) (pivot m b')
  unfolding pivot
  pivot_exact = tok (the_word w.Pivot) pivot_cont

  pivot_opens : (t : Token) → word w.Pivot t ≡ true → Opens t (pivot m b')
  unfolding pivot
  pivot_opens t h = tok_opens h (λ z iz. into (pivot_cont z iz) (λ y v q. tt))

  unpivot_exact : Exact (suc n) TurnOf (unpivot n b) (unpivot m b')
  unfolding unpivot
  unpivot_exact = tok (the_word w.Unpivot) unpivot_cont

  unpivot_opens : (t : Token) → word w.Unpivot t ≡ true → Opens t (unpivot m b')
  unfolding unpivot
  unpivot_opens t h = tok_opens h (λ z iz. into (unpivot_cont z iz) (λ y v q. tt))

  turned_by_exact : (p p' : Parser (Turn Expr)) → Exact (suc n) TurnOf p p' → Exact (suc n) TurnedOf (turned_by n b p) (turned_by m b' p')
  unfolding turned_by
  turned_by_exact p p' y = bind y (λ k u l. last (λ a. Some (record { turn = k; alias = a })) (from_alias_exact n) (λ a v la. turned_is l la))

  turned_by_opens : (p p' : Parser (Turn Expr)) → Exact (suc n) TurnOf p p' → (t : Token) → Opens t p' → Opens t (turned_by m b' p')
  unfolding turned_by
  turned_by_opens p p' y t h = opens_bind h y (λ k u l. last (λ a. Some (record { turn = k; alias = a })) (from_alias_exact n) (λ a v la. tt))

  turned_exact : Exact (suc n) TurnedOf (turned n b) (turned m b')
  unfolding turned
  turned_exact = either (word w.Pivot) (λ t h. opens (turned_by_opens (pivot n b) (pivot m b') pivot_exact t (pivot_opens t h))) (turned_by_exact (pivot n b) (pivot m b') pivot_exact)
      (either (word w.Unpivot) (λ t h. opens (turned_by_opens (unpivot n b) (unpivot m b') unpivot_exact t (unpivot_opens t h))) (turned_by_exact (unpivot n b) (unpivot m b') unpivot_exact) (done turned_none))

  table_exact : (t : Token) → Is named t → Exact n (λ y v. PrimaryOf y (t ∷ v)) (table_or_path n b t) (table_or_path m b' t)
  unfolding table_or_path
  table_exact t it = opt_also (the_sign s.Dot) (λ d id. bind (less (name_exact_of n)) (λ z u lz. bind (less (dotted_exact n m up (name_at t ∷ z ∷ []))) (λ zs v f. bind (less (from_alias_exact n)) (λ a p la. last (λ o. primary_kind.Path zs a o t.start) (less (offset_column_exact n)) (λ o q lo. path_found t d it id z u lz zs v f a p la o q lo)))))
      (bind (less (from_alias_exact n)) (λ a u la. last (λ y. primary_kind.Table (name_at t) a y t.start) (less turned_exact) (λ y v ly. primary_table it la ly)))

  primary_kinds : (k : PrimaryStart) → Exact (suc n) PrimaryOf (primary_by n b k) (primary_by m b' k)
  unfolding read_primary_query read_primary_unnest
  primary_kinds primary_name = tok some_name table_exact
  primary_kinds primary_bracket = tok (the_sign s.OpenRound) (λ o io. bind x.query (λ q y lq. also (the_sign s.CloseRound) (λ c ic. bind (less (from_alias_exact n)) (λ a u la. last (λ z. primary_kind.Query q a z o.start) (less turned_exact) (λ z v lz. primary_query io lq ic la lz)))))
  primary_kinds primary_by_unnest = tok (the_reserved r.Unnest) (λ t it. bind (less (bracketed_exact n m up b b' x)) (λ y u ly. bind (less (from_alias_exact n)) (λ a p la. last (λ o. primary_kind.Unnest y a o t.start) (less (offset_column_exact n)) (λ o q lo. unnest_found t it y u ly a p la o q lo))))
  primary_kinds no_primary = exact_refuse (suc n) _ some_primary.0 some_primary.1 some_primary.2

  primary_exact : Exact (suc n) PrimaryOf (primary_item n b) (primary_item m b')
  unfolding primary_item
  primary_exact = exact_peek (suc n) PrimaryOf (class_of no_primary primary_class) (primary_by n b) (primary_by m b') (λ t k h. hungry hungry_refuse) primary_kinds

  -- ---- conditions of joins

  using_opens : (t : Token) → reserved r.Using t ≡ true → Opens t (read_on_using m b')
  unfolding read_on_using
  using_opens t h = tok_opens h (λ z iz. last (λ ns. on_kind.Using ns z.start) (names_exact n m up) (λ ns u l. tt))

  on_opens : (t : Token) → reserved r.On t ≡ true → Opens t (read_on_expr m b')
  unfolding read_on_expr
  on_opens t h = tok_opens h (λ z iz. last (λ a. on_kind.On a z.start) x.inner (λ a u l. tt))

  condition_exact : Exact (suc n) OnOf (condition n b) (condition m b')
  unfolding condition read_on_using read_on_expr
  condition_exact = opt (the_reserved r.Using) (λ t it. last (λ ns. on_kind.Using ns t.start) (less (names_exact n m up)) (λ ns u l. on_using it l)) (tok (the_reserved r.On) (λ t it. last (λ a. on_kind.On a t.start) x.inner (λ a u l. on_expr it l)))

  condition_opens_by : (t : Token) (c k : Bool) → reserved r.Using t ≡ c → reserved r.On t ≡ k → (k || c) ≡ true → Opens t (condition m b')
  unfolding condition
  condition_opens_by t true k hc hk h = record {
    goes = λ rest q. (using_opens t hc).goes rest (ap (λ y. cond y (read_on_using m b' (t ∷ rest)) (read_on_expr m b' (t ∷ rest))) (sym hc) ∙ q);
    moves = λ rest a q. (using_opens t hc).moves rest a (ap (λ y. cond y (read_on_using m b' (t ∷ rest)) (read_on_expr m b' (t ∷ rest))) (sym hc) ∙ q);
  }
  condition_opens_by t false true hc hk h = record {
    goes = λ rest q. (on_opens t hk).goes rest (ap (λ y. cond y (read_on_using m b' (t ∷ rest)) (read_on_expr m b' (t ∷ rest))) (sym hc) ∙ q);
    moves = λ rest a q. (on_opens t hk).moves rest a (ap (λ y. cond y (read_on_using m b' (t ∷ rest)) (read_on_expr m b' (t ∷ rest))) (sym hc) ∙ q);
  }
  condition_opens_by t false false hc hk h = absurd cc

  condition_opens : (t : Token) → on_next t ≡ true → Opens t (condition m b')
  condition_opens t h = condition_opens_by t (reserved r.Using t) (reserved r.On t) refl refl h

  some_on : (o : On Expr) × (u : Tokens) × OnOf o u
  some_on = (_, _, on_expr (is_example (the_reserved r.On)) (some_expr.2))

  missing_by : (a : Primary) (c : Bool) → joins_freely a ≡ c → Exact n (OnPartOf a) (elim c [ true ↦ pure None | false ↦ refuse ]) (elim c [ true ↦ pure None | false ↦ refuse ])
  missing_by a true h = done (on_missing h)
  missing_by a false h = exact_refuse n _ (Some some_on.0) some_on.1 (on_is some_on.2)

  on_part_exact : (a : Primary) → Exact n (OnPartOf a) (on_part n b a) (on_part m b' a)
  unfolding on_part
  on_part_exact a = either on_next (λ t h. opens (opens_bind (condition_opens t h) condition_exact (λ o u l. done {n = 0} tt))) (last Some (less condition_exact) (λ o u l. on_is l)) (missing_by a (joins_freely a) refl)

  -- ---- joins

  freely_behind : (M : Language Token Joined) (y : JoinWord) (place : ℕ) → ((a : Primary) (o : Option (On Expr)) (u v : Tokens) → PrimaryOf a u → OnPartOf a o v → M (joined_of y place a o) (u ++ v)) → Exact n M (joined_freely n b y place) (joined_freely m b' y place)
  unfolding joined_freely
  freely_behind M y place h = bind (less primary_exact) (λ a u la. last (joined_of y place a) (on_part_exact a) (λ o v lo. h a o u v la lo))

  freely_exact : (M : Language Token Joined) (y : JoinWord) (place : ℕ) → ((j : Token) (a : Primary) (o : Option (On Expr)) (u v : Tokens) → Is (reserved r.Join) j → PrimaryOf a u → OnPartOf a o v → M (joined_of y place a o) (j ∷ (u ++ v)))
      → Exact n M (join_freely n b y place) (join_freely m b' y place)
  unfolding join_freely
  freely_exact M y place h = also (the_reserved r.Join) (λ j ij. freely_behind (λ k v. M k (j ∷ v)) y place (λ a o u v la lo. h j a o u v ij la lo))

  join_on_exact : (M : Language Token Joined) (y : JoinWord) (place : ℕ) → ((j : Token) (a : Primary) (o : On Expr) (u v : Tokens) → Is (reserved r.Join) j → PrimaryOf a u → OnOf o v → M (joined_of y place a (Some o)) (j ∷ (u ++ v)))
      → Exact n M (join_on n b y place) (join_on m b' y place)
  unfolding join_on
  join_on_exact M y place h = also (the_reserved r.Join) (λ j ij. bind (less primary_exact) (λ a u la. last (λ o. joined_of y place a (Some o)) (less condition_exact) (λ o v lo. h j a o u v ij la lo)))

  cross_cont : (c : Bool) (t : Token) → Is (reserved r.Cross) t → Exact n (λ y v. JoinOf c y (t ∷ v)) (cross_behind n b t.start) (cross_behind m b' t.start)
  unfolding cross_behind
  cross_cont c t it = also (the_reserved r.Join) (λ j ij. last (λ a. joined_of join_word_kind.Cross t.start a None) (less primary_exact) (λ a u la. join_cross it ij la))

  inner_cont : (c : Bool) (t : Token) → Is (reserved r.Inner) t → Exact n (λ y v. JoinOf c y (t ∷ v)) (join_freely n b join_word_kind.Inner t.start) (join_freely m b' join_word_kind.Inner t.start)
  inner_cont c t it = freely_exact (λ y v. JoinOf c y (t ∷ v)) join_word_kind.Inner t.start (λ j a o u v ij la lo. join_inner it ij la lo)

  plain_cont : (c : Bool) (t : Token) → Is (reserved r.Join) t → Exact n (λ y v. JoinOf c y (t ∷ v)) (joined_freely n b join_word_kind.Inner t.start) (joined_freely m b' join_word_kind.Inner t.start)
  plain_cont c t it = freely_behind (λ y v. JoinOf c y (t ∷ v)) join_word_kind.Inner t.start (λ a o u v la lo. join_plain it la lo)

  left_cont : (c : Bool) (t : Token) → Is (reserved r.Left) t → Exact n (λ y v. JoinOf c y (t ∷ v)) (outer_freely n b join_word_kind.Left t.start) (outer_freely m b' join_word_kind.Left t.start)
  unfolding outer_freely
  left_cont c t it = bind (less (optional_exact r.Outer n)) (λ z w lz. freely_exact (λ y v. JoinOf c y (t ∷ (w ++ v))) join_word_kind.Left t.start (λ j a o u v ij la lo. join_left it lz ij la lo))

  right_cont : (t : Token) → Is (reserved r.Right) t → Exact n (λ y v. JoinOf false y (t ∷ v)) (outer_on n b join_word_kind.Right t.start) (outer_on m b' join_word_kind.Right t.start)
  unfolding outer_on
  right_cont t it = bind (less (optional_exact r.Outer n)) (λ z w lz. join_on_exact (λ y v. JoinOf false y (t ∷ (w ++ v))) join_word_kind.Right t.start (λ j a o u v ij la lo. join_right it lz ij la lo))

  full_cont : (t : Token) → Is (reserved r.Full) t → Exact n (λ y v. JoinOf false y (t ∷ v)) (outer_on n b join_word_kind.Full t.start) (outer_on m b' join_word_kind.Full t.start)
  unfolding outer_on
  full_cont t it = bind (less (optional_exact r.Outer n)) (λ z w lz. join_on_exact (λ y v. JoinOf false y (t ∷ (w ++ v))) join_word_kind.Full t.start (λ j a o u v ij la lo. join_full it lz ij la lo))

  some_join : (c : Bool) → (a : Joined) × (u : Tokens) × JoinOf c a u
  some_join c = (_, _, join_cross (is_example (the_reserved r.Cross)) (is_example (the_reserved r.Join)) (some_primary.2))

  join_kinds : (k : JoinStart) → Exact (suc n) (JoinOf false) (join_by n b k) (join_by m b' k)
  join_kinds by_cross = tok (the_reserved r.Cross) (cross_cont false)
  join_kinds by_inner = tok (the_reserved r.Inner) (inner_cont false)
  join_kinds by_join = tok (the_reserved r.Join) (plain_cont false)
  join_kinds by_left = tok (the_reserved r.Left) (left_cont false)
  join_kinds by_right = tok (the_reserved r.Right) right_cont
  join_kinds by_full = tok (the_reserved r.Full) full_cont
  join_kinds no_join = exact_refuse (suc n) _ (some_join false).0 (some_join false).1 (some_join false).2

  later_kinds : (k : JoinStart) → Exact (suc n) LaterOf (later_by n b k) (later_by m b' k)
  later_kinds by_cross = into (tok (the_reserved r.Cross) (cross_cont true)) (λ a u l. later_is l)
  later_kinds by_inner = into (tok (the_reserved r.Inner) (inner_cont true)) (λ a u l. later_is l)
  later_kinds by_join = into (tok (the_reserved r.Join) (plain_cont true)) (λ a u l. later_is l)
  later_kinds by_left = into (tok (the_reserved r.Left) (left_cont true)) (λ a u l. later_is l)
  later_kinds by_right = exact_refuse (suc n) _ (some_join true).0 (some_join true).1 (later_is (some_join true).2)
  later_kinds by_full = exact_refuse (suc n) _ (some_join true).0 (some_join true).1 (later_is (some_join true).2)
  later_kinds no_join = exact_refuse (suc n) _ (some_join true).0 (some_join true).1 (later_is (some_join true).2)

  join_exact : Exact (suc n) (JoinOf false) (join_item n b) (join_item m b')
  unfolding join_item
  join_exact = exact_peek (suc n) _ (class_of no_join join_class) (join_by n b) (join_by m b') (λ t k h. hungry hungry_refuse) join_kinds

  comma_cont : (t : Token) → Is (sign s.Comma) t → Exact n (λ y v. LaterOf y (t ∷ v)) (comma_behind n b t.start) (comma_behind m b' t.start)
  unfolding comma_behind
  comma_cont t it = last (λ a. joined_of join_word_kind.Comma t.start a None) (less primary_exact) (λ a u la. later_comma it la)

  later_exact : Exact (suc n) LaterOf (later_join n b) (later_join m b')
  unfolding later_join comma_join
  later_exact = opt (the_sign s.Comma) comma_cont (exact_peek (suc n) _ (class_of no_join join_class) (later_by n b) (later_by m b') (λ t k h. hungry hungry_refuse) later_kinds)

  join_opens_by : (t : Token) (k : JoinStart) → join_class t.lexeme ≡ k → is_join k ≡ true → Opens t (join_by m b' k)
  join_opens_by t by_cross h g = tok_opens (class_cross t.lexeme h) (λ z iz. into (cross_cont false z iz) (λ a u l. tt))
  join_opens_by t by_inner h g = tok_opens (class_inner t.lexeme h) (λ z iz. into (inner_cont false z iz) (λ a u l. tt))
  join_opens_by t by_join h g = tok_opens (class_join t.lexeme h) (λ z iz. into (plain_cont false z iz) (λ a u l. tt))
  join_opens_by t by_left h g = tok_opens (class_left t.lexeme h) (λ z iz. into (left_cont false z iz) (λ a u l. tt))
  join_opens_by t by_right h g = tok_opens (class_right t.lexeme h) (λ z iz. into (right_cont z iz) (λ a u l. tt))
  join_opens_by t by_full h g = tok_opens (class_full t.lexeme h) (λ z iz. into (full_cont z iz) (λ a u l. tt))
  join_opens_by t no_join h g = absurd cc

  join_opens : (t : Token) → joins t ≡ true → Opens t (join_item m b')
  unfolding join_item
  join_opens t h = let g = join_opens_by t (join_class t.lexeme) refl h in record { goes = λ rest q. g.goes rest q; moves = λ rest a q. g.moves rest a q }

  later_opens_by : (t : Token) (k : JoinStart) → join_class t.lexeme ≡ k → goes_after_comma k ≡ true → Opens t (later_by m b' k)
  later_opens_by t by_cross h g = tok_opens (class_cross t.lexeme h) (λ z iz. into (cross_cont false z iz) (λ a u l. tt))
  later_opens_by t by_inner h g = tok_opens (class_inner t.lexeme h) (λ z iz. into (inner_cont false z iz) (λ a u l. tt))
  later_opens_by t by_join h g = tok_opens (class_join t.lexeme h) (λ z iz. into (plain_cont false z iz) (λ a u l. tt))
  later_opens_by t by_left h g = tok_opens (class_left t.lexeme h) (λ z iz. into (left_cont false z iz) (λ a u l. tt))
  later_opens_by t by_right h g = absurd cc
  later_opens_by t by_full h g = absurd cc
  later_opens_by t no_join h g = absurd cc

  later_opens_at : (t : Token) (c : Bool) → sign s.Comma t ≡ c → (c || goes_after_comma (join_class t.lexeme)) ≡ true → Opens t (later_join m b')
  unfolding later_join comma_join
  later_opens_at t true hc h =
      let g : Opens t (token (sign s.Comma) >>= (λ z. comma_behind m b' z.start)) = tok_opens hc (λ z iz. into (comma_cont z iz) (λ a u l. tt)) in
      record {
        goes = λ rest q. g.goes rest (ap (λ y. cond y ((token (sign s.Comma) >>= (λ z. comma_behind m b' z.start)) (t ∷ rest)) (later_by m b' (join_class t.lexeme) (t ∷ rest))) (sym hc) ∙ q);
        moves = λ rest a q. g.moves rest a (ap (λ y. cond y ((token (sign s.Comma) >>= (λ z. comma_behind m b' z.start)) (t ∷ rest)) (later_by m b' (join_class t.lexeme) (t ∷ rest))) (sym hc) ∙ q);
      }
  later_opens_at t false hc h =
      let g = later_opens_by t (join_class t.lexeme) refl h in
      record {
        goes = λ rest q. g.goes rest (ap (λ y. cond y ((token (sign s.Comma) >>= (λ z. comma_behind m b' z.start)) (t ∷ rest)) (later_by m b' (join_class t.lexeme) (t ∷ rest))) (sym hc) ∙ q);
        moves = λ rest a q. g.moves rest a (ap (λ y. cond y ((token (sign s.Comma) >>= (λ z. comma_behind m b' z.start)) (t ∷ rest)) (later_by m b' (join_class t.lexeme) (t ∷ rest))) (sym hc) ∙ q);
      }

  from_exact : Exact (suc n) FromOf (from_item n b) (from_item m b')
  unfolding from_item
  from_exact = exact_starting FromOf (_, _, from_are (some_primary.2) joins_none) (λ f h. no_from f [] h refl) _ _ (suc n) (λ k. bind primary_exact (λ a u la.
      bind (exact_all (JoinOf false) (JoinsOf false) joins (join_item n b) (join_item m b') joins_none (λ j v js w lj ls. joins_join lj ls) solid_join join_opens n m up join_exact) (λ xs v lx.
      last (λ ys. roll-FromItem (record { first = a; rest = ys; place = k })) (exact_many LaterOf (JoinsOf true) comma_or_join (later_join n b) (later_join m b') joins_none later_more solid_later (λ t h. later_opens_at t (sign s.Comma t) refl h) n m (suc n) up (omega arith) later_exact xs)
      (λ ys w f. from_begun k a u la xs v lx ys w f))))

  pub from_part_exact : Exact (suc n) FromPartOf (from_part n b) (from_part m b')
  unfolding from_part
  from_part_exact = opt (the_reserved r.From) (λ t it. last Some (less from_exact) (λ f u l. from_is it l)) (done from_none)
