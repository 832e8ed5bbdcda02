-- Grouping items and GROUP BY are read.
use Rattle.std.proofs.Common.{◌≡◌, ℕ, suc, ◌<◌, ◌≤◌, Bool, true, false, cond, List, [], ◌∷◌, ◌++◌, length, Option, Some, None, refl, sym, ◌∙◌, ap, arith}
use Rattle.std.proofs.lemmas.List.{append_assoc}
use Rattle.fronts.specs.Readers.{Outcome, taken, stuck, ◌>>=◌, and_then, comes, token, noted}
use Rattle.fronts.proofs.Lists.{front_is}
use Rattle.fronts.proofs.Agrees.{Many, many_none, many_more}
use Rattle.sql_ast.specs.declared.expr.Expr.{Expr}
use Rattle.sql_ast.specs.declared.expr.Expr.TheVariants as e
use Rattle.sql_ast.specs.declared.grouping.Cube.{Cube}
use Rattle.sql_ast.specs.declared.grouping.CubeKind.{CubeKind}
use Rattle.sql_ast.specs.declared.grouping.CubeKind.TheVariants as cube_kind
use Rattle.sql_ast.specs.declared.grouping.GroupItem.{GroupItem}
use Rattle.sql_ast.specs.declared.grouping.GroupItem.TheVariants as item_kind
use Rattle.sql_ast.specs.declared.grouping.GroupSet.{GroupSet}
use Rattle.sql_ast.specs.declared.grouping.Groups.{Groups}
use Rattle.sql_ast.specs.declared.grouping.Groups.TheVariants as groups_kind
use Rattle.sql_ast.specs.declared.query.Query.{Query}
use Rattle.sql_names.specs.declared.words.Reserved.TheVariants as r
use Rattle.sql_ast.specs.declared.words.Sign.TheVariants as s
use Rattle.sql_ast.specs.declared.words.Word.TheVariants as w
use Rattle.sql_ast.specs.declared.token.Token.{Token}
use Rattle.sql_ast.specs.declared.token.Lexeme.{Lexeme}
use Rattle.sql_ast.specs.declared.token.Lexeme.TheVariants as l
use Rattle.sql_ast.specs.Marks.{Tokens, Is, reserved, sign, word, same_reserved, same_sign, reserved_lexeme, sign_lexeme, word_lexeme, start_of}
use Rattle.sql_ast.specs.Trees.{cube_of, cube_lexeme, alone}
use Rattle.sql_ast.specs.Grammar.{ExprOf, QueryOf, ListOf, list_is, CommasOf, GroupByOf, group_none, group_is, GroupsOf, groups_keys, groups_empty, groups_sets, groups_cube, GroupSetOf, set_item, set_cube, GroupSetsOf, sets_none, sets_more, CubeOf, cube_is, GroupItemsOf, gitems_none, gitems_more, GroupItemOf, gitem_empty, gitem_list, gitem_expr, gitem_longer, gitem_query}
use Rattle.sql_grammar.specs.Classes.{class_of, GroupsStart, groups_bracket, groups_grouping, groups_by_cube, groups_expr, groups_class}
use Rattle.sql_grammar.specs.Exprs.{tells, Below, Held, held_query, held_exprs, grouped, bracketed, enclosed, expr_after}
use Rattle.sql_grammar.specs.Queries.{gitem_after, gitem, comma_gitem, cube_behind, cube, group_set, comma_group_set, keys, keys_after, grouping_sets, keys_grouping, groups_by, grouped_by, group_by}
use Rattle.sql_grammar.proofs.Marks.{told_is, tells_is, AfterOf, after_of}
use Rattle.sql_grammar.proofs.Basics.{holds_query, holds_exprs}
use Rattle.sql_grammar.proofs.Ways.{start_front}
use Rattle.sql_grammar.proofs.Solid.{no_expr, solid_expr}
use Rattle.sql_grammar.proofs.Follows.{Over, Starts, rank}
use Rattle.sql_grammar.proofs.CompleteSteps.{Read, Free, less, tok, also, part, last, then_on, else_on, peeked, done, weak, over_s, over_not_r, r_test, s_test, starts_not_s, after_read, after_begins, over_many, comma_level, many_ahead, Ahead, nothing_ahead, r_ahead, to, on}
use Rattle.sql_grammar.proofs.CompleteStarts.{expr_starts, list_starts, starts_s}
use Rattle.sql_grammar.proofs.CompleteParts.{Reading, commas_read, commas_ahead}
use Rattle.sql_grammar.proofs.CompleteHeld.{held_read}
use Rattle.sql_grammar.proofs.CompleteBehind.{both_of, behind_bracket, behind_grouping}
use Rattle.sql_grammar.proofs.CompleteNothing.{after_nothing, query_not_close, bracket_holds}

-- ---- repetitions, and first tokens

many_gitems : (ms : List (GroupItem Expr)) (v : Tokens) → GroupItemsOf ms v → Many (AfterOf (sign s.Comma) GroupItemOf) ms v
many_gitems _ _ gitems_none = many_none
many_gitems _ _ (gitems_more {ms = ms} {v = v} i l z) = many_more (after_of i l) (many_gitems ms v z)

many_sets : (ms : List (GroupSet Expr)) (v : Tokens) → GroupSetsOf ms v → Many (AfterOf (sign s.Comma) GroupSetOf) ms v
many_sets _ _ sets_none = many_none
many_sets _ _ (sets_more {ms = ms} {v = v} i l z) = many_more (after_of i l) (many_sets ms v z)

gitem_starts : (a : GroupItem Expr) (u rest : Tokens) → GroupItemOf a u → Starts 3 (u ++ rest)
gitem_starts _ _ rest (gitem_empty i j) = starts_s s.OpenRound i (omega arith)
gitem_starts _ _ rest (gitem_list i l h j) = starts_s s.OpenRound i (omega arith)
gitem_starts _ _ rest (gitem_expr {t = t} {a = a} {u = u} i l) = expr_starts a (t ∷ u) rest l
gitem_starts _ _ rest (gitem_longer t x i l h j g) = starts_s s.OpenRound i (omega arith)
gitem_starts _ _ rest (gitem_query x i l j g) = starts_s s.OpenRound i (omega arith)

no_cube_by : (x : Lexeme) → rank x ≤ 3 → (elim (cube_lexeme x) [ None ↦ false | Some a ↦ true ]) ≡ false
no_cube_by (l.Reserved r.Rollup) h = absurd (omega arith)
no_cube_by (l.Reserved r.Cube) h = absurd (omega arith)
no_cube_by (l.Reserved _) h = refl
no_cube_by _ h = refl

no_cube : (ts : Tokens) → Starts 3 ts → comes (tells cube_of) ts ≡ false
no_cube [] h = refl
no_cube (t ∷ ts) h = no_cube_by t.lexeme h.starts

cube_class : (k : CubeKind) (x : Lexeme) → cube_lexeme x ≡ Some k → groups_class x ≡ groups_by_cube
cube_class k (l.Reserved r.Rollup) h = refl
cube_class k (l.Reserved r.Cube) h = refl
cube_class k (l.Reserved _) h = absurd cc
cube_class k _ h = absurd cc

cube_says : (a : Cube Expr) (t : Token) (u : Tokens) → CubeOf a (t ∷ u) → groups_class t.lexeme ≡ groups_by_cube
cube_says _ t _ (cube_is {k = k} i io l z ic) = cube_class k t.lexeme i.is

cube_comes : (a : Cube Expr) (u rest : Tokens) → CubeOf a u → comes (tells cube_of) (u ++ rest) ≡ true
cube_comes _ _ rest (cube_is {t = t} {k = k} i io l z ic) = tells_is cube_kind.Rollup cube_of t k i

-- which of them the first key of GROUP BY is
groups_bracket_is : (x : Lexeme) → groups_class x ≡ groups_bracket → sign_lexeme s.OpenRound x ≡ true
unfolding same_sign
groups_bracket_is (l.Sign s.OpenRound) h = refl
groups_bracket_is (l.Sign _) h = absurd cc
groups_bracket_is (l.Reserved r.Grouping) h = absurd cc
groups_bracket_is (l.Reserved r.Rollup) h = absurd cc
groups_bracket_is (l.Reserved r.Cube) h = absurd cc
groups_bracket_is (l.Reserved _) h = absurd cc
groups_bracket_is _ h = absurd cc

groups_grouping_is : (x : Lexeme) → groups_class x ≡ groups_grouping → reserved_lexeme r.Grouping x ≡ true
unfolding same_reserved
groups_grouping_is (l.Sign s.OpenRound) h = absurd cc
groups_grouping_is (l.Sign _) h = absurd cc
groups_grouping_is (l.Reserved r.Grouping) h = refl
groups_grouping_is (l.Reserved r.Rollup) h = absurd cc
groups_grouping_is (l.Reserved r.Cube) h = absurd cc
groups_grouping_is (l.Reserved _) h = absurd cc
groups_grouping_is _ h = absurd cc

groups_cube_not : (x : Lexeme) → groups_class x ≡ groups_by_cube → rank x ≤ 3 → ⊥
groups_cube_not (l.Sign s.OpenRound) h g = cc
groups_cube_not (l.Sign _) h g = cc
groups_cube_not (l.Reserved r.Grouping) h g = cc
groups_cube_not (l.Reserved r.Rollup) h g = omega arith
groups_cube_not (l.Reserved r.Cube) h g = omega arith
groups_cube_not (l.Reserved _) h g = cc
groups_cube_not _ h g = cc

-- a symbol that was taken came next
token_came : (fits : Token → Bool) (t : Token) (ts rest : Tokens) → token fits ts ≡ taken t rest → comes fits ts ≡ true
unfolding token
token_came fits t [] rest h = absurd cc
token_came fits t (k ∷ ts) rest h = go (fits k) refl
  where
    go : (c : Bool) → fits k ≡ c → fits k ≡ true
    go true q = q
    go false q = absurd (let g : stuck (k ∷ ts) ≡ taken t rest = sym (ap (λ (c : Bool). cond c (taken k ts) (stuck (k ∷ ts))) q) ∙ h in cc)

open_not_word : (ts : Tokens) → comes (sign s.OpenRound) ts ≡ true → comes (word w.Sets) ts ≡ false
open_not_word [] h = refl
open_not_word (t ∷ ts) h = s_test {t = t} s.OpenRound (word_lexeme w.Sets) (record { is = h }) refl

same_taken : {A : Type 0} (a c : A) (u v : Tokens) (o : Outcome Token A) → o ≡ taken a u → o ≡ taken c v → (a ≡ c) × (u ≡ v)
same_taken a c u v o h g = let k : taken a u ≡ taken c v = sym h ∙ g in (cc, cc)

module _ (n : ℕ) (b : Below) (x : Reading n b) where
  -- ---- items

  abbrev chosen : ℕ → List Expr → Tokens × Expr → GroupItem Expr
  chosen p xs y = elim y.0 [ [] ↦ item_kind.List xs p | t ∷ ts ↦ item_kind.Expr y.1 ]

  -- the list, where nothing goes on behind it
  list_alone : (p : ℕ) (xs : List Expr) (rest : Tokens) → Over 10 rest → gitem_after n b p (held_exprs xs) rest ≡ taken (item_kind.List xs p) rest
  list_alone p xs rest f =
      ap (λ o. and_then (noted rest o) (λ y. λ ts. taken (chosen p xs y) ts)) (after_nothing n b p rest f (grouped p (held_exprs xs)))
      ∙ ap (λ (u : Tokens). taken (chosen p xs (u, grouped p (held_exprs xs))) rest) (front_is rest [] rest refl)

  -- a longer expression
  list_longer : (p : ℕ) (xs : List Expr) (a : Expr) (t : Token) (u rest : Tokens) → expr_after n b p (grouped p (held_exprs xs)) ((t ∷ u) ++ rest) ≡ taken a rest → gitem_after n b p (held_exprs xs) ((t ∷ u) ++ rest) ≡ taken (item_kind.Expr a) rest
  list_longer p xs a t u rest h =
      ap (λ o. and_then (noted ((t ∷ u) ++ rest) o) (λ y. λ ts. taken (chosen p xs y) ts)) h
      ∙ ap (λ (v : Tokens). taken (chosen p xs (v, a)) rest) (front_is ((t ∷ u) ++ rest) (t ∷ u) rest refl)

  longer_by : (o c t : Token) (a : Expr) (ms : List Expr) (v y : Tokens) → Is (sign s.OpenRound) o → ListOf ms v → alone ms ≡ false → Is (sign s.CloseRound) c → ExprOf a (o ∷ (v ++ (c ∷ t ∷ y))) → (rest : Tokens) → Over 10 rest
      → length ((o ∷ (v ++ (c ∷ t ∷ y))) ++ rest) < n → (enclosed n b >>= gitem_after n b o.start) ((v ++ (c ∷ t ∷ y)) ++ rest) ≡ taken (item_kind.Expr a) rest
  longer_by o c t a ms v y io l h ic g rest f lt =
      let reads : enclosed n b ((v ++ (c ∷ t ∷ y)) ++ rest) ≡ taken (held_exprs ms) ((t ∷ y) ++ rest)
      = ap (enclosed n b) (append_assoc v (c ∷ t ∷ y) rest ∙ sym (append_assoc v (c ∷ []) ((t ∷ y) ++ rest)))
      ∙ (held_read n b x).reads (holds_exprs l h ic) ((t ∷ y) ++ rest) tt (let q : length ((v ++ (c ∷ [])) ++ ((t ∷ y) ++ rest)) ≡ length ((v ++ (c ∷ t ∷ y)) ++ rest) = ap length (append_assoc v (c ∷ []) ((t ∷ y) ++ rest) ∙ sym (append_assoc v (c ∷ t ∷ y) rest)) in omega arith) in
      let both = behind_bracket n b x o (v ++ (c ∷ t ∷ y)) a io g rest f (omega arith) in
      let same = same_taken both.first (held_exprs ms) both.left ((t ∷ y) ++ rest) (enclosed n b ((v ++ (c ∷ t ∷ y)) ++ rest)) both.reads reads in
      ap (λ k. and_then k (gitem_after n b o.start)) reads
      ∙ list_longer o.start ms a t y rest (ap (λ (q : Tokens). expr_after n b o.start (grouped o.start (held_exprs ms)) q) (sym same.1) ∙ ap (λ (q : Held). expr_after n b o.start (grouped o.start q) both.left) (sym same.0) ∙ both.goes_on)

  query_by : (o c : Token) (a : Expr) (q : Query) (v y : Tokens) → Is (sign s.OpenRound) o → QueryOf q v → Is (sign s.CloseRound) c → ExprOf a (o ∷ (v ++ (c ∷ y))) → (rest : Tokens) → Over 10 rest
      → length ((o ∷ (v ++ (c ∷ y))) ++ rest) < n → (enclosed n b >>= gitem_after n b o.start) ((v ++ (c ∷ y)) ++ rest) ≡ taken (item_kind.Expr a) rest
  query_by o c a q v y io l ic g rest f lt =
      let reads : enclosed n b ((v ++ (c ∷ y)) ++ rest) ≡ taken (held_query q) (y ++ rest)
      = ap (enclosed n b) (append_assoc v (c ∷ y) rest ∙ sym (append_assoc v (c ∷ []) (y ++ rest)))
      ∙ (held_read n b x).reads (holds_query l ic) (y ++ rest) tt (let k : length ((v ++ (c ∷ [])) ++ (y ++ rest)) ≡ length ((v ++ (c ∷ y)) ++ rest) = ap length (append_assoc v (c ∷ []) (y ++ rest) ∙ sym (append_assoc v (c ∷ y) rest)) in omega arith) in
      let both = behind_bracket n b x o (v ++ (c ∷ y)) a io g rest f (omega arith) in
      let same = same_taken both.first (held_query q) both.left (y ++ rest) (enclosed n b ((v ++ (c ∷ y)) ++ rest)) both.reads reads in
      let goes : expr_after n b o.start (e.Scalar q o.start) (y ++ rest) ≡ taken a rest
      = ap (λ (k : Tokens). expr_after n b o.start (e.Scalar q o.start) k) (sym same.1) ∙ ap (λ (k : Held). expr_after n b o.start (grouped o.start k) both.left) (sym same.0) ∙ both.goes_on in
      ap (λ k. and_then k (gitem_after n b o.start)) reads ∙ ap (λ k. and_then k (λ a. λ ts. taken (item_kind.Expr a) ts)) goes

  gitem_by : {a : GroupItem Expr} {u : Tokens} → GroupItemOf a u → (rest : Tokens) → Over 10 rest → length (u ++ rest) < n → gitem n b (u ++ rest) ≡ taken a rest
  unfolding gitem same_sign
  gitem_by (gitem_empty io ic) rest f = then_on io.is _ _ (also io _ (then_on ic.is _ _ (also ic _ done)))
  gitem_by (gitem_list {o = o} {c = c} {ms = ms} {v = v} io l h ic) rest f = then_on io.is _ _ (also io _
      (else_on (ap (comes (sign s.CloseRound)) (append_assoc v (c ∷ []) rest) ∙ starts_not_s (list_starts ms v (c ∷ rest) l) s.CloseRound (omega arith)) _ _ (last (held_read n b x) (holds_exprs l h ic) _ tt (λ _. list_alone o.start ms rest f))))
  gitem_by (gitem_expr i l) rest f = else_on i.is _ _ (last x.inner l _ f done)
  gitem_by (gitem_longer {o = o} {c = c} {a = a} {ms = ms} {v = v} t y io l h ic g) rest f = λ lt. then_on io.is _ _ (also io _
      (else_on (ap (comes (sign s.CloseRound)) (append_assoc v (c ∷ t ∷ y) rest) ∙ starts_not_s (list_starts ms v (c ∷ t ∷ (y ++ rest)) l) s.CloseRound (omega arith)) _ _ (λ _. longer_by o c t a ms v y io l h ic g rest f lt))) lt
  gitem_by (gitem_query {o = o} {c = c} {a = a} {q = q} {v = v} y io l ic g) rest f = λ lt. then_on io.is _ _ (also io _
      (else_on (ap (comes (sign s.CloseRound)) (append_assoc v (c ∷ y) rest) ∙ query_not_close q v (c ∷ (y ++ rest)) l) _ _ (λ _. query_by o c a q v y io l ic g rest f lt))) lt

  gitem_read : Read n (Over 10) GroupItemOf (gitem n b)
  gitem_read = record { reads = gitem_by }

  comma_gitem_read : Read (suc n) (Over 10) (AfterOf (sign s.Comma) GroupItemOf) (comma_gitem n b)
  unfolding comma_gitem
  comma_gitem_read = after_read gitem_read

  cube_read : Read (suc n) Free CubeOf (cube n b)
  unfolding cube cube_behind
  cube_read = record { reads = by }
    where
      by : {a : Cube Expr} {u : Tokens} → CubeOf a u → (rest : Tokens) → Unit {0} → length (u ++ rest) < suc n → cube n b (u ++ rest) ≡ taken a rest
      by (cube_is {t = t} {c = c} {k = k} {a = a} {ms = ms} {u = u} {v = v} i io l z ic) rest f = tok (record { is = tells_is cube_kind.Rollup cube_of t k i }) _ (also io _ (part gitem_read l (v ++ (c ∷ [])) rest _
          (on (c ∷ []) rest (many_ahead {j = 10} {k = 15} (sign s.Comma) comma_level (omega arith) (after_begins (sign s.Comma) GroupItemOf) ms v (many_gitems ms v z)) (omega arith) (over_s s.CloseRound ic (omega arith)))
          (part (less (over_many (sign s.Comma) comma_level (omega arith) (after_begins (sign s.Comma) GroupItemOf) comma_gitem_read (a ∷ []) many_gitems)) (ms, z, refl) (c ∷ []) rest _ (over_s s.CloseRound ic (omega arith))
          (also ic _ (λ _. ap (λ (y : CubeKind). taken (record { kind = y; items = a ∷ ms; place = t.start }) rest) (told_is cube_kind.Rollup cube_of t k i))))))

  group_set_read : Read n (Over 10) GroupSetOf (group_set n b)
  unfolding group_set
  group_set_read = record { reads = by }
    where
      by : {a : GroupSet Expr} {u : Tokens} → GroupSetOf a u → (rest : Tokens) → Over 10 rest → length (u ++ rest) < n → group_set n b (u ++ rest) ≡ taken a rest
      by (set_item {a = a} {u = u} l) rest f = else_on (no_cube (u ++ rest) (gitem_starts a u rest l)) _ _ (last gitem_read l _ f done)
      by (set_cube {a = a} {u = u} l) rest f = then_on (cube_comes a u rest l) _ _ (last (less cube_read) l _ tt done)

  comma_set_read : Read (suc n) (Over 10) (AfterOf (sign s.Comma) GroupSetOf) (comma_group_set n b)
  unfolding comma_group_set
  comma_set_read = after_read group_set_read

  -- ---- keys

  keys_read : (p : ℕ) (a : Expr) (bs : List Expr) (v : Tokens) → CommasOf bs v → (rest : Tokens) → Over 15 rest → length (v ++ rest) < suc n → keys n b p a (v ++ rest) ≡ taken (groups_kind.Keys (a ∷ bs) p) rest
  unfolding keys
  keys_read p a bs v z rest f = last (commas_read n b x (a ∷ [])) (bs, z, refl) _ f done

  -- the keys whose first begins so
  module _ (a : Expr) (bs : List Expr) (v : Tokens) (z : CommasOf bs v) (rest : Tokens) (f : Over 15 rest) where
    key_over : Over 10 (v ++ rest)
    key_over = to (commas_ahead bs v z) (omega arith) (weak (omega arith) f)

    bracket_keys : (t : Token) (u : Tokens) → Is (sign s.OpenRound) t → ExprOf a (t ∷ u) → length ((t ∷ u) ++ (v ++ rest)) < suc n → groups_by n b t.start groups_bracket ((t ∷ u) ++ (v ++ rest)) ≡ taken (groups_kind.Keys (a ∷ bs) t.start) rest
    unfolding keys_after
    bracket_keys t u it l lt =
        let both = behind_bracket n b x t u a it l (v ++ rest) key_over lt in
        tok it _ (else_on (bracket_holds t u a l it (v ++ rest)) _ _ (λ short. ap (λ o. and_then o (keys_after n b t.start)) both.reads ∙ ap (λ o. and_then o (keys n b t.start)) both.goes_on ∙ keys_read t.start a bs v z rest f (shorter u short))) lt
      where
        shorter : (u : Tokens) → length (u ++ (v ++ rest)) < n → length (v ++ rest) < suc n
        shorter [] h = omega arith
        shorter (k ∷ u) h = shorter u (omega arith)

    grouping_keys : (t : Token) (u : Tokens) → Is (reserved r.Grouping) t → ExprOf a (t ∷ u) → length ((t ∷ u) ++ (v ++ rest)) < suc n → groups_by n b t.start groups_grouping ((t ∷ u) ++ (v ++ rest)) ≡ taken (groups_kind.Keys (a ∷ bs) t.start) rest
    unfolding keys_grouping bracketed
    grouping_keys t u it l lt =
        let both = behind_grouping n b x t u a it l (v ++ rest) key_over lt in
        let first = both_of (token (sign s.OpenRound) (u ++ (v ++ rest))) _ both.first both.left both.reads in
        tok it _ (else_on (open_not_word (u ++ (v ++ rest)) (token_came (sign s.OpenRound) first.first (u ++ (v ++ rest)) first.left first.reads)) _ _
        (λ short. ap (λ o. and_then o (λ k. expr_after n b t.start (e.Grouping k t.start) >>= keys n b t.start)) both.reads ∙ ap (λ o. and_then o (keys n b t.start)) both.goes_on ∙ keys_read t.start a bs v z rest f (shorter u short))) lt
      where
        shorter : (u : Tokens) → length (u ++ (v ++ rest)) < n → length (v ++ rest) < suc n
        shorter [] h = omega arith
        shorter (k ∷ u) h = shorter u (omega arith)

    keys_by : (t : Token) (u : Tokens) → ExprOf a (t ∷ u) → (k : GroupsStart) → groups_class t.lexeme ≡ k → length ((t ∷ u) ++ (v ++ rest)) < n → groups_by n b t.start k ((t ∷ u) ++ (v ++ rest)) ≡ taken (groups_kind.Keys (a ∷ bs) t.start) rest
    keys_by t u l groups_bracket q lt = bracket_keys t u (record { is = groups_bracket_is t.lexeme q }) l (omega arith)
    keys_by t u l groups_grouping q lt = grouping_keys t u (record { is = groups_grouping_is t.lexeme q }) l (omega arith)
    keys_by t u l groups_by_cube q lt = absurd (groups_cube_not t.lexeme q (expr_starts a (t ∷ u) [] l).starts)
    keys_by t u l groups_expr q lt = last x.inner l _ key_over (λ short. keys_read t.start a bs v z rest f (omega arith)) lt

    keys_first : (u : Tokens) → ExprOf a u → length (u ++ (v ++ rest)) < n → grouped_by n b (u ++ (v ++ rest)) ≡ taken (groups_kind.Keys (a ∷ bs) (start_of u)) rest
    unfolding grouped_by
    keys_first [] l lt = absurd (no_expr a l)
    keys_first (t ∷ u) l lt = peeked {N = Unit {0}} (class_of groups_expr groups_class) (groups_by n b t.start) {ts = (t ∷ u) ++ (v ++ rest)} refl (λ _. keys_by t u l (groups_class t.lexeme) refl lt) tt

  grouped_read : Read n (Over 15) GroupsOf (grouped_by n b)
  unfolding grouped_by grouping_sets same_sign
  grouped_read = record { reads = by }
    where
      by : {a : Groups Expr} {u : Tokens} → GroupsOf a u → (rest : Tokens) → Over 15 rest → length (u ++ rest) < n → grouped_by n b (u ++ rest) ≡ taken a rest
      by (groups_keys (list_is {a = a} {bs = bs} {u = u} {v = v} l z)) rest f = λ lt.
          ap (grouped_by n b) (append_assoc u v rest) ∙ keys_first a bs v z rest f u l (let k : length ((u ++ v) ++ rest) ≡ length (u ++ (v ++ rest)) = ap length (append_assoc u v rest) in omega arith)
          ∙ ap (λ (p : ℕ). taken (groups_kind.Keys (a ∷ bs) p) rest) (sym (start_front u v (solid_expr a u l)))
      by (groups_empty {o = o} io ic) rest f = peeked (class_of groups_expr groups_class) (groups_by n b o.start) (s_test s.OpenRound groups_class io refl) (also io _ (then_on ic.is _ _ (also ic _ done)))
      by (groups_sets {t = t} {c = c} {a = a} {ms = ms} {u = u} {v = v} i j io l z ic) rest f = peeked (class_of groups_expr groups_class) (groups_by n b t.start) (r_test r.Grouping groups_class i refl)
          (also i _ (then_on j.is _ _ (also j _ (also io _ (part group_set_read l (v ++ (c ∷ [])) rest _
          (on (c ∷ []) rest (many_ahead {j = 10} {k = 15} (sign s.Comma) comma_level (omega arith) (after_begins (sign s.Comma) GroupSetOf) ms v (many_sets ms v z)) (omega arith) (over_s s.CloseRound ic (omega arith)))
          (part (less (over_many (sign s.Comma) comma_level (omega arith) (after_begins (sign s.Comma) GroupSetOf) comma_set_read (a ∷ []) many_sets)) (ms, z, refl) (c ∷ []) rest _ (over_s s.CloseRound ic (omega arith)) (also ic _ done)))))))
      by (groups_cube {t = t} {a = a} {u = u} l) rest f = peeked (class_of groups_expr groups_class) (groups_by n b t.start) (cube_says a t u l) (last (less cube_read) l _ tt done)

  pub group_by_read : Read (suc n) (Over 18) GroupByOf (group_by n b)
  unfolding group_by
  group_by_read = record { reads = by }
    where
      by : {a : Option (Groups Expr)} {u : Tokens} → GroupByOf a u → (rest : Tokens) → Over 18 rest → length (u ++ rest) < suc n → group_by n b (u ++ rest) ≡ taken a rest
      by group_none rest f = else_on (over_not_r f r.Group (omega arith)) _ _ done
      by (group_is i j l) rest f = then_on i.is _ _ (tok i _ (also j _ (last grouped_read l _ (weak (omega arith) f) done)))

pub group_by_ahead : (a : Option (Groups Expr)) (u : Tokens) → GroupByOf a u → Ahead 18 u
group_by_ahead _ _ group_none = nothing_ahead
group_by_ahead _ _ (group_is i j l) = r_ahead r.Group i
