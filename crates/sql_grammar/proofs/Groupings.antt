-- The readers of GROUP BY are exact.
use Rattle.std.proofs.Common.{◌≡◌, ℕ, suc, ◌≤◌, true, false, List, [], ◌∷◌, ◌++◌, length, Some, refl, sym, ◌∙◌, ap, subst, arith}
use Rattle.std.proofs.lemmas.List.{append_assoc, append-nil}
use Rattle.fronts.specs.Fronts.{Language}
use Rattle.fronts.specs.Readers.{comes, ◌>>=◌, pure}
use Rattle.fronts.proofs.Agrees.{Found}
use Rattle.fronts.proofs.Firm.{Opens, hungry, opens}
use Rattle.fronts.proofs.Exact.{Exact, bind, either, last, into, done, less, exact_many, exact_peek, exact_noting, hungry_solid, hungry_bind, opens_bind}
use Rattle.sql_ast.specs.declared.expr.Expr.{Expr}
use Rattle.sql_ast.specs.declared.grouping.Cube.{Cube}
use Rattle.sql_ast.specs.declared.grouping.GroupItem.{GroupItem}
use Rattle.sql_ast.specs.declared.grouping.GroupSet.{GroupSet}
use Rattle.sql_ast.specs.declared.grouping.Groups.{Groups}
use Rattle.sql_ast.specs.declared.query.Query.{Query}
use Rattle.sql_ast.specs.declared.token.Token.{Token}
use Rattle.sql_ast.specs.declared.expr.Expr.TheVariants as e
use Rattle.sql_ast.specs.declared.grouping.CubeKind.TheVariants as cube_kinds
use Rattle.sql_ast.specs.declared.grouping.GroupItem.TheVariants as group_item_kind
use Rattle.sql_ast.specs.declared.grouping.GroupSet.TheVariants as group_set_kind
use Rattle.sql_ast.specs.declared.grouping.Groups.TheVariants as groups_kind
use Rattle.sql_names.specs.declared.words.Reserved.TheVariants as r
use Rattle.sql_ast.specs.declared.words.Sign.TheVariants as s
use Rattle.sql_ast.specs.declared.words.Word.TheVariants as w
use Rattle.sql_ast.specs.Marks.{Tokens, Is, reserved, sign, word, start_of}
use Rattle.sql_ast.specs.Trees.{cube_of}
use Rattle.sql_ast.specs.Grammar.{BasicOf, CommasOf, CubeOf, ExprOf, GroupByOf, GroupItemOf, GroupItemsOf, GroupSetOf, GroupSetsOf, GroupsOf, ListOf, commas_none, cube_is, gitem_empty, gitem_expr, gitem_list, gitem_longer, gitem_query, gitems_more, gitems_none, group_is, group_none, groups_cube, groups_empty, groups_keys, groups_sets, list_is, set_cube, set_item, sets_more, sets_none}
use Rattle.sql_grammar.specs.Classes.{class_of, groups_class, GroupsStart, groups_bracket, groups_grouping, groups_by_cube, groups_expr}
use Rattle.sql_grammar.specs.Exprs.{tells, told, grouped, after, expr_after, Held, Below, held_query, held_exprs}
use Rattle.sql_grammar.specs.Queries.{gitem_after, gitem, comma_gitem, cube_behind, cube, group_set, comma_group_set, keys, keys_after, grouping_sets, keys_grouping, groups_by, grouped_by, group_by}
use Rattle.sql_grammar.proofs.Ways.{Begun, start_front, exact_starting, exact_else}
use Rattle.sql_grammar.proofs.Marks.{the_reserved, the_sign, the_word, is_example, a_cube, tok, also, opt, opt_also, tok_opens, says, AfterOf, after_of, after_solid, after_exact, after_opens}
use Rattle.sql_grammar.proofs.Solid.{solid_front, solid_basic, solid_expr, solid_list, no_expr}
use Rattle.sql_grammar.proofs.Levels.{begun_as, no_word}
use Rattle.sql_grammar.proofs.Calls.{Under, commas_at, comma_expr_exact, comma_expr_opens, bracketed_exact}
use Rattle.sql_grammar.proofs.Basics.{HeldOf, group_from, grouping_from, holds_query, holds_exprs}
use Rattle.sql_grammar.proofs.Exprs.{enclosed_exact}
use Rattle.sql_grammar.proofs.Comparisons.{expr_after_exact}

gitems_at : (a : GroupItem Expr) (u : Tokens) (ls : List (GroupItem Expr)) (v : Tokens) → AfterOf (sign s.Comma) GroupItemOf a u → GroupItemsOf ls v → GroupItemsOf (a ∷ ls) (u ++ v)
gitems_at _ _ ls v (after_of i l) z = gitems_more i l z

sets_at : (a : GroupSet Expr) (u : Tokens) (ls : List (GroupSet Expr)) (v : Tokens) → AfterOf (sign s.Comma) GroupSetOf a u → GroupSetsOf ls v → GroupSetsOf (a ∷ ls) (u ++ v)
sets_at _ _ ls v (after_of i l) z = sets_more i l z

item_expr_of : (a : Expr) (u : Tokens) → ExprOf a u → comes (sign s.OpenRound) u ≡ false → GroupItemOf (group_item_kind.Expr a) u
item_expr_of a [] l h = absurd (no_expr a l)
item_expr_of a (t ∷ u) l h = gitem_expr (record { is = h }) l

list_or_longer : (o : Token) → Is (sign s.OpenRound) o → (xs : List Expr) (u : Tokens) → HeldOf (held_exprs xs) u → (w : Tokens × Expr) (v : Tokens) → w.0 ≡ v → ExprOf w.1 (o ∷ (u ++ v))
    → GroupItemOf (elim w.0 [ [] ↦ group_item_kind.List xs o.start | t ∷ ts ↦ group_item_kind.Expr w.1 ]) (o ∷ (u ++ v))
list_or_longer o io xs _ (holds_exprs {c = c} {u = u} l h ic) ([], a) v f la = subst (λ (q : Tokens). GroupItemOf (group_item_kind.List xs o.start) (o ∷ q)) (sym (append-nil (u ++ (c ∷ []))) ∙ ap (λ (q : Tokens). (u ++ (c ∷ [])) ++ q) f) (gitem_list io l h ic)
list_or_longer o io xs _ (holds_exprs {c = c} {u = u} l h ic) (t ∷ ts, a) v f la =
    let is : (u ++ (c ∷ [])) ++ v ≡ u ++ (c ∷ t ∷ ts) = ap (λ (q : Tokens). (u ++ (c ∷ [])) ++ q) (sym f) ∙ append_assoc u (c ∷ []) (t ∷ ts) in
    subst (λ (q : Tokens). GroupItemOf (group_item_kind.Expr a) (o ∷ q)) (sym is) (gitem_longer t ts io l h ic (subst (λ (q : Tokens). ExprOf a (o ∷ q)) is la))

query_longer : (o : Token) → Is (sign s.OpenRound) o → (q : Query) (u : Tokens) → HeldOf (held_query q) u → (a : Expr) (v : Tokens) → ExprOf a (o ∷ (u ++ v)) → GroupItemOf (group_item_kind.Expr a) (o ∷ (u ++ v))
query_longer o io q _ (holds_query {c = c} {u = u} l ic) a v la =
    let is = append_assoc u (c ∷ []) v in
    subst (λ (y : Tokens). GroupItemOf (group_item_kind.Expr a) (o ∷ y)) (sym is) (gitem_query v io l ic (subst (λ (y : Tokens). ExprOf a (o ∷ y)) is la))

some_gitem : (a : GroupItem Expr) × (u : Tokens) × GroupItemOf a u
some_gitem = (_, _, gitem_empty (is_example (the_sign s.OpenRound)) (is_example (the_sign s.CloseRound)))

cube_groups : (a : Cube Expr) (u : Tokens) → CubeOf a u → GroupsOf (groups_kind.Cube a (start_of u)) u
cube_groups _ _ (cube_is i j l z g) = groups_cube (cube_is i j l z g)

solid_cube : (a : Cube Expr) (u : Tokens) → CubeOf a u → 1 ≤ length u
solid_cube _ _ (cube_is i j l z g) = omega arith

solid_groups : (a : Groups Expr) (u : Tokens) → GroupsOf a u → 1 ≤ length u
solid_groups _ _ (groups_keys {u = u} l) = solid_list _ u l
solid_groups _ _ (groups_empty i j) = omega arith
solid_groups _ _ (groups_sets i j g l z h) = omega arith
solid_groups _ _ (groups_cube l) = omega arith

cube_found : (t o : Token) → Is (tells cube_of) t → Is (sign s.OpenRound) o → (a : GroupItem Expr) (u : Tokens) → GroupItemOf a u → (xs : List (GroupItem Expr)) (v : Tokens) → Found GroupItemsOf (a ∷ []) xs v → (c : Token) → Is (sign s.CloseRound) c
    → CubeOf (record { kind = told cube_kinds.Rollup cube_of t; items = xs; place = t.start }) (t ∷ o ∷ (u ++ (v ++ (c ∷ []))))
cube_found t o it io a u l xs v (ls, z, f) c ic = subst (λ (q : List (GroupItem Expr)). CubeOf (record { kind = told cube_kinds.Rollup cube_of t; items = q; place = t.start }) (t ∷ o ∷ (u ++ (v ++ (c ∷ []))))) (sym f) (cube_is (says cube_kinds.Rollup cube_of t it) io l z ic)

group_sets_found : (t y o : Token) → Is (reserved r.Grouping) t → Is (word w.Sets) y → Is (sign s.OpenRound) o → (a : GroupSet Expr) (u : Tokens) → GroupSetOf a u → (xs : List (GroupSet Expr)) (v : Tokens) → Found GroupSetsOf (a ∷ []) xs v → (c : Token) → Is (sign s.CloseRound) c
    → GroupsOf (groups_kind.Sets xs t.start) (t ∷ y ∷ o ∷ (u ++ (v ++ (c ∷ []))))
group_sets_found t y o it iy io a u l xs v (ls, z, f) c ic = subst (λ (q : List (GroupSet Expr)). GroupsOf (groups_kind.Sets q t.start) (t ∷ y ∷ o ∷ (u ++ (v ++ (c ∷ []))))) (sym f) (groups_sets it iy io l z ic)

keys_begun : (k : ℕ) (a : Expr) (u : Tokens) → Begun ExprOf k a u → (xs : List Expr) (v : Tokens) → Found CommasOf (a ∷ []) xs v → Begun GroupsOf k (groups_kind.Keys xs k) (u ++ v)
keys_begun k a u g xs v (ls, z, f) = record {
  solid = solid_front u v g.solid;
  spells = λ h. subst (λ (j : ℕ). GroupsOf (groups_kind.Keys xs j) (u ++ v)) (sym h) (groups_keys (subst (λ (q : List Expr). ListOf q (u ++ v)) (sym f) (list_is (g.spells (h ∙ start_front u v g.solid)) z)));
}

-- a word that begins at its place, at another
begun_anywhere : {A : Type 0} (M : Language Token A) (k : ℕ) (a : A) (u : Tokens) → Begun M (start_of u) a u → Begun M k a u
begun_anywhere M k a u h = record { solid = h.solid; spells = λ z. h.spells refl }

module _ (n m : ℕ) (up : n ≤ m) (b b' : Below) (x : Under n b b') where
  -- an expression behind a basic one, whose tokens are known
  longer_exact : (k : ℕ) (a : Expr) (u : Tokens) → BasicOf a u → k ≡ start_of u → Exact n (λ c v. ExprOf c (u ++ v)) (expr_after n b k a) (expr_after m b' k a)
  longer_exact k a u l h = into (less (expr_after_exact n m up b b' x k a u (begun_as BasicOf solid_basic k a u l))) (λ c v g. g.spells (h ∙ sym (start_front u v (solid_basic a u l))))

  gitem_after_exact : (o : Token) → Is (sign s.OpenRound) o → (h : Held) (u : Tokens) → HeldOf h u → Exact n (λ y v. GroupItemOf y (o ∷ (u ++ v))) (gitem_after n b o.start h) (gitem_after m b' o.start h)
  gitem_after_exact o io (held_query q) u l = last group_item_kind.Expr (longer_exact o.start (e.Scalar q o.start) (o ∷ u) (group_from o io (held_query q) u l) refl) (λ a v la. query_longer o io q u l a v la)
  gitem_after_exact o io (held_exprs xs) u l = last (λ (w : Tokens × Expr). elim w.0 [ [] ↦ group_item_kind.List xs o.start | t ∷ ts ↦ group_item_kind.Expr w.1 ])
      (exact_noting (λ c v. ExprOf c (o ∷ (u ++ v))) _ _ n (longer_exact o.start (grouped o.start (held_exprs xs)) (o ∷ u) (group_from o io (held_exprs xs) u l) refl))
      (λ w v z. list_or_longer o io xs u l w v z.0 z.1)

  gitem_exact : Exact n GroupItemOf (gitem n b) (gitem m b')
  unfolding gitem
  gitem_exact = exact_else n GroupItemOf (sign s.OpenRound) some_gitem _ _ _ _ (λ t h. hungry (hungry_bind x.inner _ (hungry_solid x.inner no_expr)))
      (also (the_sign s.OpenRound) (λ o io. opt_also (the_sign s.CloseRound) (λ c ic. done (gitem_empty io ic)) (bind (enclosed_exact n m up b b' x) (λ h u l. gitem_after_exact o io h u l))))
      (last group_item_kind.Expr x.inner (λ a u l h. item_expr_of a u l h))

  comma_gitem_exact : Exact (suc n) (AfterOf (sign s.Comma) GroupItemOf) (comma_gitem n b) (comma_gitem m b')
  unfolding comma_gitem
  comma_gitem_exact = after_exact (the_sign s.Comma) gitem_exact

  comma_gitem_opens : (t : Token) → sign s.Comma t ≡ true → Opens t (comma_gitem m b')
  unfolding comma_gitem
  comma_gitem_opens t h = after_opens (the_sign s.Comma) gitem_exact t h

  cube_cont : (t : Token) → Is (tells cube_of) t → Exact n (λ y v. CubeOf y (t ∷ v)) (cube_behind n b t) (cube_behind m b' t)
  unfolding cube_behind
  cube_cont t it = also (the_sign s.OpenRound) (λ o io. bind gitem_exact (λ a u l.
      bind (exact_many (AfterOf (sign s.Comma) GroupItemOf) GroupItemsOf (sign s.Comma) (comma_gitem n b) (comma_gitem m b') gitems_none gitems_at (after_solid (sign s.Comma) GroupItemOf) comma_gitem_opens n m n up (omega arith) (less comma_gitem_exact) (a ∷ []))
      (λ xs v f. also (the_sign s.CloseRound) (λ c ic. done (cube_found t o it io a u l xs v f c ic)))))

  cube_exact : Exact (suc n) CubeOf (cube n b) (cube m b')
  unfolding cube
  cube_exact = tok a_cube cube_cont

  cube_opens : {A : Type 0} (f : Cube Expr → A) (t : Token) → tells cube_of t ≡ true → Opens t (cube m b' >>= (λ a. pure (f a)))
  unfolding cube
  cube_opens f t h = opens_bind (tok_opens h (λ z iz. into (cube_cont z iz) (λ a u l. tt))) cube_exact (λ a u l. done {n = 0} tt)

  group_set_exact : Exact n GroupSetOf (group_set n b) (group_set m b')
  unfolding group_set
  group_set_exact = either (tells cube_of) (λ t h. opens (cube_opens group_set_kind.Cube t h)) (last group_set_kind.Cube (less cube_exact) (λ a u l. set_cube l)) (last group_set_kind.Item gitem_exact (λ a u l. set_item l))

  comma_group_set_exact : Exact (suc n) (AfterOf (sign s.Comma) GroupSetOf) (comma_group_set n b) (comma_group_set m b')
  unfolding comma_group_set
  comma_group_set_exact = after_exact (the_sign s.Comma) group_set_exact

  comma_group_set_opens : (t : Token) → sign s.Comma t ≡ true → Opens t (comma_group_set m b')
  unfolding comma_group_set
  comma_group_set_opens t h = after_opens (the_sign s.Comma) group_set_exact t h

  keys_exact : (k : ℕ) (a : Expr) (u : Tokens) → Begun ExprOf k a u → Exact n (λ y v. Begun GroupsOf k y (u ++ v)) (keys n b k a) (keys m b' k a)
  unfolding keys
  keys_exact k a u g = last (λ xs. groups_kind.Keys xs k) (exact_many (AfterOf (sign s.Comma) ExprOf) CommasOf (sign s.Comma) (after n b (sign s.Comma)) (after m b' (sign s.Comma)) commas_none commas_at (after_solid (sign s.Comma) ExprOf) (comma_expr_opens n m up b b' x) n m n up (omega arith) (less (comma_expr_exact n m up b b' x)) (a ∷ []))
      (λ xs v f. keys_begun k a u g xs v f)

  -- keys whose first begins with a basic expression
  keys_behind : (k j : ℕ) (a : Expr) (t : Token) (u : Tokens) → BasicOf a (t ∷ u) → j ≡ t.start → Exact n (λ y v. Begun GroupsOf k y (t ∷ (u ++ v))) (expr_after n b j a >>= (λ c. keys n b j c)) (expr_after m b' j a >>= (λ c. keys m b' j c))
  keys_behind k j a t u l h = bind (longer_exact j a (t ∷ u) l h) (λ c v lc. into (keys_exact j c (t ∷ (u ++ v)) (begun_as ExprOf solid_expr j c (t ∷ (u ++ v)) lc))
      (λ y w z. subst (λ (q : Tokens). Begun GroupsOf k y (t ∷ q)) (append_assoc u v w) (record { solid = z.solid; spells = λ q. z.spells h })))

  groups_kinds : (k : ℕ) (y : GroupsStart) → Exact n (Begun GroupsOf k) (groups_by n b k y) (groups_by m b' k y)
  unfolding keys_after keys_grouping grouping_sets
  groups_kinds k groups_bracket = also (the_sign s.OpenRound) (λ o io. opt_also (the_sign s.CloseRound) (λ c ic. done (record { solid = omega arith; spells = λ z. groups_empty io ic }))
      (bind (enclosed_exact n m up b b' x) (λ h u l. keys_behind k o.start (grouped o.start h) o u (group_from o io h u l) refl)))
  groups_kinds k groups_grouping = also (the_reserved r.Grouping) (λ t it. opt_also (the_word w.Sets) (λ y iy. also (the_sign s.OpenRound) (λ o io. bind group_set_exact (λ a u l.
      bind (exact_many (AfterOf (sign s.Comma) GroupSetOf) GroupSetsOf (sign s.Comma) (comma_group_set n b) (comma_group_set m b') sets_none sets_at (after_solid (sign s.Comma) GroupSetOf) comma_group_set_opens n m n up (omega arith) (less comma_group_set_exact) (a ∷ []))
      (λ xs v f. also (the_sign s.CloseRound) (λ c ic. done (record { solid = omega arith; spells = λ z. group_sets_found t y o it iy io a u l xs v f c ic }))))))
      (bind (less (bracketed_exact n m up b b' x)) (λ a u l. keys_behind k t.start (e.Grouping a t.start) t u (grouping_from n m up b b' x t it a u l) refl)))
  groups_kinds k groups_by_cube = last (λ a. groups_kind.Cube a k) (less cube_exact) (λ a u l. record { solid = solid_cube a u l; spells = λ z. subst (λ (j : ℕ). GroupsOf (groups_kind.Cube a j) u) (sym z) (cube_groups a u l) })
  groups_kinds k groups_expr = bind x.inner (λ a u l. keys_exact k a u (begun_as ExprOf solid_expr k a u l))

  pub grouped_by_exact : Exact n GroupsOf (grouped_by n b) (grouped_by m b')
  unfolding grouped_by
  grouped_by_exact = exact_starting GroupsOf (_, _, groups_empty (is_example (the_sign s.OpenRound)) (is_example (the_sign s.CloseRound))) (no_word GroupsOf solid_groups) _ _ n
      (λ k. exact_peek n _ (class_of groups_expr groups_class) (groups_by n b k) (groups_by m b' k) (λ t y h. hungry (hungry_bind x.inner _ (hungry_solid x.inner no_expr))) (groups_kinds k))

  pub group_by_exact : Exact (suc n) GroupByOf (group_by n b) (group_by m b')
  unfolding group_by
  group_by_exact = opt (the_reserved r.Group) (λ t it. also (the_reserved r.By) (λ y iy. last Some grouped_by_exact (λ g u l. group_is it iy l))) (done group_none)
