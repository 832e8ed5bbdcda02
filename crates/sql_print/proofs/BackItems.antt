-- The select list is spelled by the tokens of its print, if the expressions in it are.
use Rattle.std.proofs.Common.{ℕ, suc, ◌<◌, List, [], ◌∷◌, ◌++◌, length, map, refl, sym, ap, subst, arith}
use Rattle.std.proofs.lemmas.List.{length-append, append_assoc}
use Rattle.sql_names.specs.declared.words.Reserved.TheVariants as r
use Rattle.sql_ast.specs.declared.words.Sign.TheVariants as s
use Rattle.sql_ast.specs.declared.words.Word.TheVariants as keyword
use Rattle.sql_ast.specs.declared.clauses.Edit.{Edit}
use Rattle.sql_ast.specs.declared.clauses.Item.{Item}
use Rattle.sql_ast.specs.declared.clauses.Item.TheVariants as item
use Rattle.sql_ast.specs.declared.clauses.Name.{Name}
use Rattle.sql_ast.specs.declared.clauses.Replacement.{Replacement}
use Rattle.sql_ast.specs.declared.expr.Expr.{Expr}
use Rattle.sql_ast.specs.Marks.{Tokens, start_of}
use Rattle.sql_ast.specs.Trees.{name_at}
use Rattle.sql_ast.specs.Grammar.{ItemOf, item_star, item_qualified, item_expr, ItemsOf, items_none, items_comma, items_more, EditOf, edit_is, ExceptOf, except_none, except_is, ReplaceOf, replace_none, replace_is, ReplacementOf, replacement_is, ReplacementsOf, replacements_none, replacements_more}
use Rattle.sql_ast.specs.Pieces.{after_commas, word_if_plain, spelled_word}
use Rattle.sql_ast.specs.Canon.{except_pieces}
use Rattle.sql_same.specs.Bare.{as_is, bare_names, bare_replacement, bare_edit, bare_item, BareExpr}
use Rattle.sql_print.specs.PartPieces.{replacement_pieces, replace_pieces, edit_pieces, item_pieces}
use Rattle.sql_print.specs.TreePieces.{expr_level, expr_pieces}
use Rattle.sql_print.proofs.Carried.{Found, Back, split, one, nothing, is_reserved, is_sign, is_word, is_named}
use Rattle.sql_print.proofs.BackNames.{name_same, back_alias, back_names}
use Rattle.sql_print.proofs.BackLevels.{Level}
use Rattle.sql_print.proofs.BackLists.{Inner}
use Rattle.sql_print.proofs.BackExprs.{postfix_back, expr_back}

abbrev bare : Expr → Expr
bare = BareExpr as_is

abbrev bares : List (Replacement Expr) → List (Replacement Expr)
bares = map (bare_replacement as_is bare)

abbrev bare_items : List (Item Expr) → List (Item Expr)
bare_items = map (bare_item as_is bare)

module _ (n : ℕ) (x : Inner n) where
  -- ---- EXCEPT and REPLACE

  back_except : (ns : List Name) (v : Tokens) → ExceptOf ns v → Back ExceptOf (bare_names as_is) (except_pieces ns) ns
  back_except _ _ except_none = record { back = λ ts h. nothing (Found ExceptOf (bare_names as_is) []) ts h (record { tree = []; spells = except_none; same = refl }) }
  back_except _ _ (except_is {t = t} {ns = []} {u = u} i z) = elim z [ ]
  back_except _ _ (except_is {t = t} {ns = m ∷ ns} {u = u} i z) = record {
    back = λ ts h. one (Found ExceptOf (bare_names as_is) (m ∷ ns)) ts h (λ t' w e h.
        let f = (back_names m ns).back w h in record { tree = f.tree; spells = except_is (is_reserved r.Except t' e) f.spells; same = f.same });
  }

  back_replacement : (a : Replacement Expr) (v : Tokens) → ReplacementOf a v → length v < suc n → Back ReplacementOf (bare_replacement as_is bare) (replacement_pieces expr_pieces a) a
  back_replacement _ _ (replacement_is {a = a} {t = t} {n = m} {u = u} z i j) lt =
      let long = length-append u (t ∷ m ∷ []) in let whole : Replacement Expr = record { expr = a; name = name_at m } in record {
        back = λ ts h.
            split (Found ReplacementOf (bare_replacement as_is bare) whole) ts h (λ p q cp cq. one (λ q. Found ReplacementOf (bare_replacement as_is bare) whole (p ++ q)) q cq (λ t' q e cq. one (λ q. Found ReplacementOf (bare_replacement as_is bare) whole (p ++ (t' ∷ q))) q cq (λ m' q e' cq.
            nothing (λ q. Found ReplacementOf (bare_replacement as_is bare) whole (p ++ (t' ∷ m' ∷ q))) q cq (
            let f = (expr_back n x a u z (omega arith)).whole.back p cp in
            record {
              tree = record { expr = f.tree; name = name_at m' };
              spells = replacement_is f.spells (is_reserved r.As t' e) (is_named (name_at m).text (word_if_plain (name_at m).text) m' e');
              same = rw f.same (rw (name_same (name_at m).text (word_if_plain (name_at m).text) m' (name_at m).place e') refl);
            }))));
      }

  back_replacements : (ms : List (Replacement Expr)) (v : Tokens) → ReplacementsOf ms v → length v < suc n → Back ReplacementsOf bares (after_commas (map (replacement_pieces expr_pieces) ms)) ms
  back_replacements _ _ replacements_none lt = record { back = λ ts h. nothing (Found ReplacementsOf bares []) ts h (record { tree = []; spells = replacements_none; same = refl }) }
  back_replacements _ _ (replacements_more {t = t} {a = a} {ms = ms} {u = u} {v = v} i z y) lt =
      let long = length-append u v in record {
        back = λ ts h. one (Found ReplacementsOf bares (a ∷ ms)) ts h (λ t w e h. split (λ w. Found ReplacementsOf bares (a ∷ ms) (t ∷ w)) w h (λ p q cp cq.
            let f = (back_replacement a u z (omega arith)).back p cp in
            let g = (back_replacements ms v y (omega arith)).back q cq in
            record { tree = f.tree ∷ g.tree; spells = replacements_more (is_sign s.Comma t e) f.spells g.spells; same = rw f.same (ap (λ (m : List (Replacement Expr)). bare_replacement as_is bare a ∷ m) g.same) }));
      }

  back_replace : (ms : List (Replacement Expr)) (v : Tokens) → ReplaceOf ms v → length v < suc n → Back ReplaceOf bares (replace_pieces expr_pieces ms) ms
  back_replace _ _ replace_none lt = record { back = λ ts h. nothing (Found ReplaceOf bares []) ts h (record { tree = []; spells = replace_none; same = refl }) }
  back_replace _ _ (replace_is {t = t} {o = o} {c = c} {a = a} {ms = ms} {u = u} {v = v} i io z y ic) lt =
      let l1 = length-append u (v ++ (c ∷ [])) in let l2 = length-append v (c ∷ []) in record {
        back = λ ts h.
            one (Found ReplaceOf bares (a ∷ ms)) ts h (λ t' w e h. one (λ w. Found ReplaceOf bares (a ∷ ms) (t' ∷ w)) w h (λ o' w e' h. split (λ w. Found ReplaceOf bares (a ∷ ms) (t' ∷ o' ∷ w)) w h (λ p q cp cq.
            one (λ q. Found ReplaceOf bares (a ∷ ms) (t' ∷ o' ∷ (p ++ q))) q cq (λ c' q e'' cq. nothing (λ q. Found ReplaceOf bares (a ∷ ms) (t' ∷ o' ∷ (p ++ (c' ∷ q)))) q cq (split (λ p. Found ReplaceOf bares (a ∷ ms) (t' ∷ o' ∷ (p ++ (c' ∷ [])))) p cp (λ p1 p2 c1 c2.
            let f = (back_replacement a u z (omega arith)).back p1 c1 in
            let g = (back_replacements ms v y (omega arith)).back p2 c2 in
            record {
              tree = f.tree ∷ g.tree;
              spells = subst (λ (w : Tokens). ReplaceOf (f.tree ∷ g.tree) (t' ∷ o' ∷ w)) (sym (append_assoc p1 p2 (c' ∷ []))) (replace_is (is_word keyword.Replace (spelled_word keyword.Replace) t' e) (is_sign s.OpenRound o' e') f.spells g.spells (is_sign s.CloseRound c' e''));
              same = rw f.same (ap (λ (m : List (Replacement Expr)). bare_replacement as_is bare a ∷ m) g.same);
            }))))));
      }

  back_edit : (d : Edit Expr) (v : Tokens) → EditOf d v → length v < suc n → Back EditOf (bare_edit as_is bare) (edit_pieces expr_pieces d) d
  back_edit _ _ (edit_is {ns = ns} {rs = rs} {u = u} {v = v} z y) lt =
      let long = length-append u v in record {
        back = λ ts h. split (Found EditOf (bare_edit as_is bare) (record { except = ns; replace = rs })) ts h (λ p q cp cq.
            let f = (back_except ns u z).back p cp in
            let g = (back_replace rs v y (omega arith)).back q cq in
            record { tree = record { except = f.tree; replace = g.tree }; spells = edit_is f.spells g.spells; same = rw f.same (rw g.same refl) });
      }

  -- ---- items

  pub back_item : (i : Item Expr) (v : Tokens) → ItemOf i v → length v < suc n → Back ItemOf (bare_item as_is bare) (item_pieces expr_level expr_pieces i) i
  unfolding Level
  back_item _ _ (item_star {t = t} {d = d} {u = u} i z) lt = record {
    back = λ ts h. one (Found ItemOf (bare_item as_is bare) (item.Star d t.start)) ts h (λ t' w e h.
        let f = (back_edit d u z (omega arith)).back w h in record { tree = item.Star f.tree t'.start; spells = item_star (is_sign s.Star t' e) f.spells; same = ap (λ y. item.Star y 0) f.same });
  }
  back_item _ _ (item_qualified {a = a} {t = t} {x = y} {d = d} {u = u} {v = v} z i j k) lt =
      let long = length-append u (t ∷ y ∷ v) in record {
        back = λ ts h. split (Found ItemOf (bare_item as_is bare) (item.QualifiedStar a d (start_of u))) ts h (λ p q cp cq.
            one (λ q. Found ItemOf (bare_item as_is bare) (item.QualifiedStar a d (start_of u)) (p ++ q)) q cq (λ t' q e cq. one (λ q. Found ItemOf (bare_item as_is bare) (item.QualifiedStar a d (start_of u)) (p ++ (t' ∷ q))) q cq (λ y' q e' cq.
            let f = ((postfix_back n x a u z (omega arith)).at 11 (omega arith)).back p cp in
            let g = (back_edit d v k (omega arith)).back q cq in
            record { tree = item.QualifiedStar f.tree g.tree (start_of p); spells = item_qualified f.spells (is_sign s.Dot t' e) (is_sign s.Star y' e') g.spells; same = rw f.same (ap (λ y. item.QualifiedStar (bare a) y 0) g.same) })));
      }
  back_item _ _ (item_expr {a = a} {n = k} {u = u} {v = v} z i) lt =
      let long = length-append u v in record {
        back = λ ts h. split (Found ItemOf (bare_item as_is bare) (item.Expr a k (start_of u))) ts h (λ p q cp cq.
            let f = (expr_back n x a u z (omega arith)).whole.back p cp in
            let g = (back_alias k).back q cq in
            record { tree = item.Expr f.tree g.tree (start_of p); spells = item_expr f.spells g.spells; same = rw f.same (ap (λ y. item.Expr (bare a) y 0) g.same) });
      }

  -- a comma at the end leaves nothing
  pub back_items : (is : List (Item Expr)) (v : Tokens) → ItemsOf is v → length v < suc n → Back ItemsOf bare_items (after_commas (map (item_pieces expr_level expr_pieces) is)) is
  back_items _ _ items_none lt = record { back = λ ts h. nothing (Found ItemsOf bare_items []) ts h (record { tree = []; spells = items_none; same = refl }) }
  back_items _ _ (items_comma i) lt = record { back = λ ts h. nothing (Found ItemsOf bare_items []) ts h (record { tree = []; spells = items_none; same = refl }) }
  back_items _ _ (items_more {t = t} {i = k} {is = is} {u = u} {v = v} i z y) lt =
      let long = length-append u v in record {
        back = λ ts h. one (Found ItemsOf bare_items (k ∷ is)) ts h (λ t w e h. split (λ w. Found ItemsOf bare_items (k ∷ is) (t ∷ w)) w h (λ p q cp cq.
            let f = (back_item k u z (omega arith)).back p cp in
            let g = (back_items is v y (omega arith)).back q cq in
            record { tree = f.tree ∷ g.tree; spells = items_more (is_sign s.Comma t e) f.spells g.spells; same = rw f.same (ap (λ (m : List (Item Expr)). bare_item as_is bare k ∷ m) g.same) }));
      }
