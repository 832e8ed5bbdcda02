-- What follows GROUP BY is spelled by the tokens of its print; and so is each query.
use Rattle.std.proofs.Common.{◌≡◌, ℕ, suc, ◌<◌, Bool, true, false, List, [], ◌∷◌, ◌++◌, length, map, Option, Some, None, option_map, refl, sym, ◌∙◌, ap, subst, arith}
use Rattle.std.proofs.lemmas.List.{length-append, append_assoc}
use Rattle.sql_names.specs.declared.words.Reserved.TheVariants as r
use Rattle.sql_ast.specs.declared.words.Sign.TheVariants as s
use Rattle.sql_ast.specs.declared.words.Word.TheVariants as keyword
use Rattle.sql_ast.specs.declared.token.Token.{Token}
use Rattle.sql_ast.specs.declared.expr.Expr.{Expr}
use Rattle.sql_ast.specs.declared.grouping.Cube.{Cube}
use Rattle.sql_ast.specs.declared.grouping.CubeKind.{CubeKind}
use Rattle.sql_ast.specs.declared.grouping.CubeKind.TheVariants as cube
use Rattle.sql_ast.specs.declared.grouping.GroupItem.{GroupItem}
use Rattle.sql_ast.specs.declared.grouping.GroupItem.TheVariants as group_item
use Rattle.sql_ast.specs.declared.grouping.GroupSet.{GroupSet}
use Rattle.sql_ast.specs.declared.grouping.GroupSet.TheVariants as group_set
use Rattle.sql_ast.specs.declared.grouping.Groups.{Groups}
use Rattle.sql_ast.specs.declared.grouping.Groups.TheVariants as groups
use Rattle.sql_ast.specs.declared.query.Query.{Query}
use Rattle.sql_ast.specs.Marks.{Tokens, Is, sign as sign_test, sign_lexeme, start_of}
use Rattle.sql_ast.specs.Trees.{alone, cube_lexeme}
use Rattle.sql_ast.specs.Grammar.{ExprOf, QueryOf, ListOf, GroupByOf, group_none, group_is, GroupsOf, groups_keys, groups_empty, groups_sets, groups_cube, GroupSetOf, set_item, set_cube, GroupSetsOf, sets_none, sets_more, CubeOf, cube_is, GroupItemsOf, gitems_none, gitems_more, GroupItemOf, gitem_empty, gitem_list, gitem_expr, gitem_longer, gitem_query}
use Rattle.sql_ast.specs.Pieces.{Piece, bracketed, after_commas, spelled_word}
use Rattle.sql_ast.specs.Canon.{canon_pieces, cube_word}
use Rattle.sql_same.specs.Bare.{as_is, bare_group_item, bare_cube, bare_set, bare_groups, BareExpr, BareQuery}
use Rattle.sql_print.specs.PartPieces.{listed, group_item_pieces, cube_pieces, set_pieces, groups_pieces}
use Rattle.sql_print.specs.QueryPieces.{grouping_pieces}
use Rattle.sql_print.specs.TreePieces.{expr_pieces}
use Rattle.sql_print.proofs.Carried.{Carries, Found, Back, split, one, nothing, is_reserved, is_sign, is_word}
use Rattle.sql_print.proofs.BackLevels.{Spelled}
use Rattle.sql_print.proofs.BackLists.{Inner, enclosed, back_list, alone_same}
use Rattle.sql_print.proofs.BackExprs.{expr_back}
use Rattle.sql_print.proofs.BackTuples.{is_tuple, item_no_tuple}
use Rattle.sql_print.proofs.BackOpenings.{Opening, opens_other, opens_query, opens_list, opens_tuple, Opens}
use Rattle.sql_print.proofs.BackBeginnings.{opens_expr}
use Rattle.sql_print.proofs.BackWholes.{Grouped, queries_back as queries_if}

abbrev bare : Expr → Expr
bare = BareExpr as_is

abbrev bare_item : GroupItem Expr → GroupItem Expr
bare_item = bare_group_item bare

-- ---- brackets that hold a list of parts

-- the brackets and what the tokens in them carry
within : (ps qs : List Piece) (G : Tokens → Type 0) → ((o c : Token) (u v : Tokens) → Is (sign_test s.OpenRound) o → Carries ps u → Carries qs v → Is (sign_test s.CloseRound) c → G (o ∷ (u ++ (v ++ (c ∷ [])))))
    → (ts : Tokens) → Carries (bracketed (ps ++ qs)) ts → G ts
within ps qs G k ts h =
    one G ts h (λ o v e h. split (λ v. G (o ∷ v)) v h (λ u w cu cw. one (λ w. G (o ∷ (u ++ w))) w cw (λ c w f cw. nothing (λ w. G (o ∷ (u ++ (c ∷ w)))) w cw
    (split (λ u. G (o ∷ (u ++ (c ∷ [])))) u cu (λ p q cp cq. subst (λ (y : Tokens). G (o ∷ y)) (sym (append_assoc p q (c ∷ []))) (k o c p q (is_sign s.OpenRound o e) cp cq (is_sign s.CloseRound c f)))))))

-- the same without a part
empty : (G : Tokens → Type 0) → ((o c : Token) → Is (sign_test s.OpenRound) o → Is (sign_test s.CloseRound) c → G (o ∷ c ∷ [])) → (ts : Tokens) → Carries (bracketed []) ts → G ts
empty G k ts h = one G ts h (λ o v e h. one (λ v. G (o ∷ v)) v h (λ c w f h. nothing (λ w. G (o ∷ c ∷ w)) w h (k o c (is_sign s.OpenRound o e) (is_sign s.CloseRound c f))))

-- ---- an expression as a grouping item

abbrev Goal : Expr → Tokens → Type 0
Goal a ts = ExprOf a ts → GroupItemOf (group_item.Expr a) ts

with_query : (a : Expr) (q : Query) (o c : Token) (u w : Tokens) → Is (sign_test s.OpenRound) o → QueryOf q u → Is (sign_test s.CloseRound) c → Goal a ((o ∷ (u ++ (c ∷ []))) ++ w)
with_query a q o c u w io z ic l =
    let is = append_assoc u (c ∷ []) w in
    subst (λ (y : Tokens). GroupItemOf (group_item.Expr a) (o ∷ y)) (sym is) (gitem_query w io z ic (subst (λ (y : Tokens). ExprOf a (o ∷ y)) is l))

with_list : (a : Expr) (es : List Expr) (o c t : Token) (u w : Tokens) → Is (sign_test s.OpenRound) o → ListOf es u → alone es ≡ false → Is (sign_test s.CloseRound) c → Goal a ((o ∷ (u ++ (c ∷ []))) ++ (t ∷ w))
with_list a es o c t u w io z lone ic l =
    let is = append_assoc u (c ∷ []) (t ∷ w) in
    subst (λ (y : Tokens). GroupItemOf (group_item.Expr a) (o ∷ y)) (sym is) (gitem_longer t w io z lone ic (subst (λ (y : Tokens). ExprOf a (o ∷ y)) is l))

as_item : (b : Bool) (ps : List Piece) → Opening b ps → b ≡ false → (a : Expr) (ts : Tokens) → Carries ps ts → Goal a ts
as_item b _ (opens_other h) no_tuple a ts c = one (Goal a) ts c (λ t v e c l. gitem_expr (record { is = ap (sign_lexeme s.OpenRound) e ∙ h }) l)
as_item b _ (opens_query q ps k) no_tuple a ts c =
    split (Goal a) ts c (λ p w cp cw. enclosed QueryOf (BareQuery as_is) (canon_pieces q) q k (λ p. Goal a (p ++ w)) (λ o c u io f ic. with_query a f.tree o c u w io f.spells ic) p cp)
as_item b _ (opens_list qs es p ps z lone) no_tuple a ts c =
    split (Goal a) ts c (λ p w cp cw. one (λ w. Goal a (p ++ w)) w cw (λ t w e cw. enclosed ListOf (map bare) qs es z (λ p. Goal a (p ++ (t ∷ w))) (λ o c u io f ic. with_list a f.tree o c t u w io f.spells (alone_same f.tree es f.same ∙ lone) ic) p cp))
as_item b _ (opens_tuple qs es z lone is) no_tuple a ts c = absurd (let g : true ≡ false = sym is ∙ no_tuple in cc)

back_expr_item : (a : Expr) → Spelled a → Opens a → is_tuple a ≡ false → Back GroupItemOf bare_item (expr_pieces a) (group_item.Expr a)
back_expr_item a x o no_tuple = record {
  back = λ ts c.
      let f = x.whole.back ts c in
      record { tree = group_item.Expr f.tree; spells = as_item (is_tuple a) (expr_pieces a) o no_tuple f.tree ts c f.spells; same = ap (λ (y : Expr). group_item.Expr y) f.same };
}

cube_said : (k : CubeKind) → cube_lexeme (cube_word k).lexeme ≡ Some k
cube_said cube.Rollup = refl
cube_said cube.Cube = refl

module _ (n : ℕ) (x : Inner n) where
  -- what is an expression, with the tokens that it is an item of
  expr_item : (a : Expr) (u : Tokens) → GroupItemOf (group_item.Expr a) u → ExprOf a u → length u < suc n → Back GroupItemOf bare_item (expr_pieces a) (group_item.Expr a)
  expr_item a u i z lt = back_expr_item a (expr_back n x a u z lt) (opens_expr n x a u z lt) (item_no_tuple a u i)

  back_gitem : (a : GroupItem Expr) (v : Tokens) → GroupItemOf a v → length v < suc n → Back GroupItemOf bare_item (group_item_pieces expr_pieces a) a
  back_gitem _ _ (gitem_empty {o = o} i j) lt = record {
    back = empty (Found GroupItemOf bare_item (group_item.List [] o.start)) (λ o' c' io ic. record { tree = group_item.List [] o'.start; spells = gitem_empty io ic; same = refl });
  }
  back_gitem _ _ (gitem_list {o = o} {c = c} {ms = ms} {v = v} i z lone j) lt =
      let long = length-append v (c ∷ []) in record {
        back = enclosed ListOf (map bare) (listed expr_pieces ms) ms (back_list n x ms v z (omega arith)) (Found GroupItemOf bare_item (group_item.List ms o.start)) (λ o' c' w io f ic.
            record { tree = group_item.List f.tree o'.start; spells = gitem_list io f.spells (alone_same f.tree ms f.same ∙ lone) ic; same = ap (λ (y : List Expr). group_item.List y 0) f.same });
      }
  back_gitem _ v (gitem_expr {a = a} i z) lt = expr_item a v (gitem_expr i z) z lt
  back_gitem _ v (gitem_longer {a = a} t y io l lone ic z) lt = expr_item a v (gitem_longer t y io l lone ic z) z lt
  back_gitem _ v (gitem_query {a = a} y io l ic z) lt = expr_item a v (gitem_query y io l ic z) z lt

  back_gitems : (ms : List (GroupItem Expr)) (v : Tokens) → GroupItemsOf ms v → length v < suc n → Back GroupItemsOf (map bare_item) (after_commas (map (group_item_pieces expr_pieces) ms)) ms
  back_gitems _ _ gitems_none lt = record { back = λ ts h. nothing (Found GroupItemsOf (map bare_item) []) ts h (record { tree = []; spells = gitems_none; same = refl }) }
  back_gitems _ _ (gitems_more {t = t} {a = a} {ms = ms} {u = u} {v = v} i z y) lt =
      let long = length-append u v in record {
        back = λ ts h. one (Found GroupItemsOf (map bare_item) (a ∷ ms)) ts h (λ t w e h. split (λ w. Found GroupItemsOf (map bare_item) (a ∷ ms) (t ∷ w)) w h (λ p q cp cq.
            let f = (back_gitem a u z (omega arith)).back p cp in
            let g = (back_gitems ms v y (omega arith)).back q cq in
            record { tree = f.tree ∷ g.tree; spells = gitems_more (is_sign s.Comma t e) f.spells g.spells; same = rw f.same (ap (λ (m : List (GroupItem Expr)). bare_item a ∷ m) g.same) }));
      }

  -- the tokens of a cube, the first apart
  cube_at : (a : Cube Expr) (v : Tokens) → CubeOf a v → length v < suc n → (G : Tokens → Type 0) → ((t : Token) (w : Tokens) → Found CubeOf (bare_cube bare) a (t ∷ w) → G (t ∷ w)) → (ts : Tokens) → Carries (cube_pieces expr_pieces a) ts → G ts
  cube_at _ _ (cube_is {t = t} {o = o} {c = c} {k = k} {a = a} {ms = ms} {u = u} {v = v} i io z y ic) lt G f ts h =
      let l1 = length-append u (v ++ (c ∷ [])) in let l2 = length-append v (c ∷ []) in
      one G ts h (λ t' w e h. within (group_item_pieces expr_pieces a) (after_commas (map (group_item_pieces expr_pieces) ms)) (λ w. G (t' ∷ w)) (λ o' c' p q io' cp cq ic'.
      let f1 = (back_gitem a u z (omega arith)).back p cp in
      let f2 = (back_gitems ms v y (omega arith)).back q cq in
      f t' (o' ∷ (p ++ (q ++ (c' ∷ [])))) (record {
        tree = record { kind = k; items = f1.tree ∷ f2.tree; place = t'.start };
        spells = cube_is (record { is = ap cube_lexeme e ∙ cube_said k }) io' f1.spells f2.spells ic';
        same = rw f1.same (ap (λ (m : List (GroupItem Expr)). record { kind = k; items = bare_item a ∷ m; place = 0 }) f2.same);
      })) w h)

  back_set : (a : GroupSet Expr) (v : Tokens) → GroupSetOf a v → length v < suc n → Back GroupSetOf (bare_set bare) (set_pieces expr_pieces a) a
  back_set _ _ (set_item {a = a} {u = u} z) lt = record {
    back = λ ts h. let f = (back_gitem a u z lt).back ts h in record { tree = group_set.Item f.tree; spells = set_item f.spells; same = ap (λ (y : GroupItem Expr). group_set.Item y) f.same };
  }
  back_set _ _ (set_cube {a = a} {u = u} z) lt = record {
    back = cube_at a u z lt (Found GroupSetOf (bare_set bare) (group_set.Cube a)) (λ t w f. record { tree = group_set.Cube f.tree; spells = set_cube f.spells; same = ap (λ (y : Cube Expr). group_set.Cube y) f.same });
  }

  back_sets : (ms : List (GroupSet Expr)) (v : Tokens) → GroupSetsOf ms v → length v < suc n → Back GroupSetsOf (map (bare_set bare)) (after_commas (map (set_pieces expr_pieces) ms)) ms
  back_sets _ _ sets_none lt = record { back = λ ts h. nothing (Found GroupSetsOf (map (bare_set bare)) []) ts h (record { tree = []; spells = sets_none; same = refl }) }
  back_sets _ _ (sets_more {t = t} {a = a} {ms = ms} {u = u} {v = v} i z y) lt =
      let long = length-append u v in record {
        back = λ ts h. one (Found GroupSetsOf (map (bare_set bare)) (a ∷ ms)) ts h (λ t w e h. split (λ w. Found GroupSetsOf (map (bare_set bare)) (a ∷ ms) (t ∷ w)) w h (λ p q cp cq.
            let f = (back_set a u z (omega arith)).back p cp in
            let g = (back_sets ms v y (omega arith)).back q cq in
            record { tree = f.tree ∷ g.tree; spells = sets_more (is_sign s.Comma t e) f.spells g.spells; same = rw f.same (ap (λ (m : List (GroupSet Expr)). bare_set bare a ∷ m) g.same) }));
      }

  back_groups : (g : Groups Expr) (v : Tokens) → GroupsOf g v → length v < n → Back GroupsOf (bare_groups bare) (groups_pieces expr_pieces g) g
  back_groups _ v (groups_keys {ms = ms} z) lt = record {
    back = λ ts h. let f = (back_list n x ms v z lt).back ts h in record { tree = groups.Keys f.tree (start_of ts); spells = groups_keys f.spells; same = ap (λ (y : List Expr). groups.Keys y 0) f.same };
  }
  back_groups _ _ (groups_empty {o = o} i j) lt = record {
    back = empty (Found GroupsOf (bare_groups bare) (groups.Empty o.start)) (λ o' c' io ic. record { tree = groups.Empty o'.start; spells = groups_empty io ic; same = refl });
  }
  back_groups _ _ (groups_sets {t = t} {x = y} {o = o} {c = c} {a = a} {ms = ms} {u = u} {v = v} i j io z l ic) lt =
      let l1 = length-append u (v ++ (c ∷ [])) in let l2 = length-append v (c ∷ []) in
      let whole = groups.Sets (a ∷ ms) t.start in record {
        back = λ ts h. one (Found GroupsOf (bare_groups bare) whole) ts h (λ t' w e h. one (λ w. Found GroupsOf (bare_groups bare) whole (t' ∷ w)) w h (λ y' w e' h.
            within (set_pieces expr_pieces a) (after_commas (map (set_pieces expr_pieces) ms)) (λ w. Found GroupsOf (bare_groups bare) whole (t' ∷ y' ∷ w)) (λ o' c' p q io' cp cq ic'.
            let f1 = (back_set a u z (omega arith)).back p cp in
            let f2 = (back_sets ms v l (omega arith)).back q cq in
            record {
              tree = groups.Sets (f1.tree ∷ f2.tree) t'.start;
              spells = groups_sets (is_reserved r.Grouping t' e) (is_word keyword.Sets (spelled_word keyword.Sets) y' e') io' f1.spells f2.spells ic';
              same = rw f1.same (ap (λ (m : List (GroupSet Expr)). groups.Sets (bare_set bare a ∷ m) 0) f2.same);
            }) w h));
      }
  back_groups _ _ (groups_cube {t = t} {a = a} {u = u} z) lt = record {
    back = cube_at a (t ∷ u) z (omega arith) (Found GroupsOf (bare_groups bare) (groups.Cube a t.start)) (λ t' w f. record { tree = groups.Cube f.tree t'.start; spells = groups_cube f.spells; same = ap (λ (y : Cube Expr). groups.Cube y 0) f.same });
  }

  back_grouping : (g : Option (Groups Expr)) (v : Tokens) → GroupByOf g v → length v < suc n → Back GroupByOf (option_map (bare_groups bare)) (grouping_pieces expr_pieces g) g
  back_grouping _ _ group_none lt = record { back = λ ts h. nothing (Found GroupByOf (option_map (bare_groups bare)) None) ts h (record { tree = None; spells = group_none; same = refl }) }
  back_grouping _ _ (group_is {t = t} {b = b} {g = g} {u = u} i j z) lt = record {
    back = λ ts h. one (Found GroupByOf (option_map (bare_groups bare)) (Some g)) ts h (λ t' w e h. one (λ w. Found GroupByOf (option_map (bare_groups bare)) (Some g) (t' ∷ w)) w h (λ b' w e' h.
        let f = (back_groups g u z (omega arith)).back w h in record { tree = Some f.tree; spells = group_is (is_reserved r.Group t' e) (is_reserved r.By b' e') f.spells; same = ap Some f.same }));
  }

-- ---- each query is spelled by the tokens of its print

grouped : Grouped
grouped n x g v z lt = back_grouping n x g v z lt

pub queries_back : (q : Query) (v : Tokens) → QueryOf q v → Back QueryOf (BareQuery as_is) (canon_pieces q) q
queries_back = queries_if grouped
