-- The parts of basic expressions are spelled by the tokens of their prints, if the expressions in them are.
use Rattle.std.proofs.Common.{ℕ, suc, ◌<◌, List, [], ◌∷◌, ◌++◌, length, map, Option, Some, None, option_map, refl, sym, ap, subst, arith}
use Rattle.std.proofs.lemmas.List.{length-append, append-nil}
use Rattle.sql_names.specs.declared.words.Reserved.TheVariants as r
use Rattle.sql_ast.specs.declared.words.Sign.TheVariants as s
use Rattle.sql_ast.specs.declared.token.Token.{Token}
use Rattle.sql_ast.specs.declared.clauses.Aliased.{Aliased}
use Rattle.sql_ast.specs.declared.clauses.Binding.{Binding}
use Rattle.sql_ast.specs.declared.clauses.When.{When}
use Rattle.sql_ast.specs.declared.expr.Expr.{Expr}
use Rattle.sql_ast.specs.Marks.{Tokens}
use Rattle.sql_ast.specs.Trees.{name_at}
use Rattle.sql_ast.specs.Grammar.{ArrayItemsOf, array_empty, array_items, SubjectOf, subject_none, subject_is, WhenOf, when_is, WhensOf, whens_none, whens_more, ElseOf, else_none, else_is, MemberOf, member_plain, member_as, MembersOf, members_none, members_more, BindingOf, binding_is, BindingsOf, bindings_none, bindings_more}
use Rattle.sql_ast.specs.Pieces.{sign, after_commas, if_there, word_if_plain}
use Rattle.sql_same.specs.Bare.{as_is, bare_when, bare_aliased, bare_binding, BareExpr}
use Rattle.sql_print.specs.PartPieces.{run, listed, when_pieces, aliased_pieces, binding_pieces}
use Rattle.sql_print.specs.ExprPieces.{else_pieces}
use Rattle.sql_print.specs.TreePieces.{expr_pieces}
use Rattle.sql_print.proofs.Carried.{Carries, Found, Back, split, one, nothing, is_reserved, is_sign, is_named}
use Rattle.sql_print.proofs.BackNames.{name_same}
use Rattle.sql_print.proofs.BackLists.{Inner, back_list}

abbrev bare : Expr → Expr
bare = BareExpr as_is

abbrev bare_whens : List (When Expr) → List (When Expr)
bare_whens = map (bare_when bare)

abbrev bare_members : List (Aliased Expr) → List (Aliased Expr)
bare_members = map (bare_aliased as_is bare)

abbrev bare_bindings : List (Binding Expr) → List (Binding Expr)
bare_bindings = map (bare_binding as_is bare)

module _ (n : ℕ) (x : Inner n) where
  -- ---- CASE

  pub back_subject : (a : Option Expr) (v : Tokens) → SubjectOf a v → length v < n → Back SubjectOf (option_map bare) (if_there expr_pieces a) a
  back_subject _ _ subject_none lt = record { back = λ ts h. nothing (Found SubjectOf (option_map bare) None) ts h (record { tree = None; spells = subject_none; same = refl }) }
  back_subject _ _ (subject_is {a = a} {u = u} z) lt = record { back = λ ts h. let f = (x.expr a u z lt).whole.back ts h in record { tree = Some f.tree; spells = subject_is f.spells; same = ap Some f.same } }

  pub back_else : (a : Option Expr) (v : Tokens) → ElseOf a v → length v < n → Back ElseOf (option_map bare) (else_pieces expr_pieces a) a
  back_else _ _ else_none lt = record { back = λ ts h. nothing (Found ElseOf (option_map bare) None) ts h (record { tree = None; spells = else_none; same = refl }) }
  back_else _ _ (else_is {t = t} {a = a} {u = u} i z) lt = record {
    back = λ ts h.
        one (Found ElseOf (option_map bare) (Some a)) ts h (λ t w e h. let f = (x.expr a u z (omega arith)).whole.back w h in record { tree = Some f.tree; spells = else_is (is_reserved r.Else t e) f.spells; same = ap Some f.same });
  }

  pub back_when : (b : When Expr) (v : Tokens) → WhenOf b v → length v < n → Back WhenOf (bare_when bare) (when_pieces expr_pieces b) b
  back_when _ _ (when_is {t = t} {x = y} {a = a} {b = b} {u = u} {v = v} i z j k) lt =
      let long = length-append u (y ∷ v) in record {
        back = λ ts h.
            one (Found WhenOf (bare_when bare) (record { test = a; result = b })) ts h (λ t w e h. split (λ w. Found WhenOf (bare_when bare) (record { test = a; result = b }) (t ∷ w)) w h (λ p q cp cq. one (λ q. Found WhenOf (bare_when bare) (record { test = a; result = b }) (t ∷ (p ++ q))) q cq (λ y q e' cq.
            let f = (x.expr a u z (omega arith)).whole.back p cp in
            let g = (x.expr b v k (omega arith)).whole.back q cq in
            record { tree = record { test = f.tree; result = g.tree }; spells = when_is (is_reserved r.When t e) f.spells (is_reserved r.Then y e') g.spells; same = rw f.same (rw g.same refl) })));
      }

  pub back_whens : (bs : List (When Expr)) (v : Tokens) → WhensOf bs v → length v < n → Back WhensOf bare_whens (run (when_pieces expr_pieces) bs) bs
  back_whens _ _ whens_none lt = record { back = λ ts h. nothing (Found WhensOf bare_whens []) ts h (record { tree = []; spells = whens_none; same = refl }) }
  back_whens _ _ (whens_more {b = b} {bs = bs} {u = u} {v = v} z y) lt =
      let long = length-append u v in record {
        back = λ ts h.
            split (Found WhensOf bare_whens (b ∷ bs)) ts h (λ p q cp cq.
            let f = (back_when b u z (omega arith)).back p cp in
            let g = (back_whens bs v y (omega arith)).back q cq in
            record { tree = f.tree ∷ g.tree; spells = whens_more f.spells g.spells; same = rw f.same (ap (λ (m : List (When Expr)). bare_when bare b ∷ m) g.same) });
      }

  -- ---- STRUCT

  pub back_member : (a : Aliased Expr) (v : Tokens) → MemberOf a v → length v < n → Back MemberOf (bare_aliased as_is bare) (aliased_pieces expr_pieces a) a
  back_member _ _ (member_plain {a = a} {u = u} z) lt = record {
    back = λ ts h.
        split (Found MemberOf (bare_aliased as_is bare) (record { expr = a; alias = None })) ts h (λ p q cp cq. nothing (λ q. Found MemberOf (bare_aliased as_is bare) (record { expr = a; alias = None }) (p ++ q)) q cq (
        let f = (x.expr a u z lt).whole.back p cp in
        record { tree = record { expr = f.tree; alias = None }; spells = subst (λ (m : Tokens). MemberOf (record { expr = f.tree; alias = None }) m) (sym (append-nil p)) (member_plain f.spells); same = rw f.same refl }));
  }
  back_member _ _ (member_as {a = a} {t = t} {n = m} {u = u} z i j) lt =
      let long = length-append u (t ∷ m ∷ []) in record {
        back = λ ts h.
            split (Found MemberOf (bare_aliased as_is bare) (record { expr = a; alias = Some (name_at m) })) ts h (λ p q cp cq. one (λ q. Found MemberOf (bare_aliased as_is bare) (record { expr = a; alias = Some (name_at m) }) (p ++ q)) q cq (λ t' q e cq.
            one (λ q. Found MemberOf (bare_aliased as_is bare) (record { expr = a; alias = Some (name_at m) }) (p ++ (t' ∷ q))) q cq (λ m' q e' cq. nothing (λ q. Found MemberOf (bare_aliased as_is bare) (record { expr = a; alias = Some (name_at m) }) (p ++ (t' ∷ m' ∷ q))) q cq (
            let f = (x.expr a u z (omega arith)).whole.back p cp in
            record {
              tree = record { expr = f.tree; alias = Some (name_at m') };
              spells = member_as f.spells (is_reserved r.As t' e) (is_named (name_at m).text (word_if_plain (name_at m).text) m' e');
              same = rw f.same (rw (name_same (name_at m).text (word_if_plain (name_at m).text) m' (name_at m).place e') refl);
            }))));
      }

  pub back_members : (cs : List (Aliased Expr)) (v : Tokens) → MembersOf cs v → length v < n → Back MembersOf bare_members (after_commas (map (aliased_pieces expr_pieces) cs)) cs
  back_members _ _ members_none lt = record { back = λ ts h. nothing (Found MembersOf bare_members []) ts h (record { tree = []; spells = members_none; same = refl }) }
  back_members _ _ (members_more {t = t} {a = a} {ms = ms} {u = u} {v = v} i z y) lt =
      let long = length-append u v in record {
        back = λ ts h.
            one (Found MembersOf bare_members (a ∷ ms)) ts h (λ t w e h. split (λ w. Found MembersOf bare_members (a ∷ ms) (t ∷ w)) w h (λ p q cp cq.
            let f = (back_member a u z (omega arith)).back p cp in
            let g = (back_members ms v y (omega arith)).back q cq in
            record { tree = f.tree ∷ g.tree; spells = members_more (is_sign s.Comma t e) f.spells g.spells; same = rw f.same (ap (λ (m : List (Aliased Expr)). bare_aliased as_is bare a ∷ m) g.same) }));
      }

  -- ---- WITH

  pub back_binding : (b : Binding Expr) (v : Tokens) → BindingOf b v → length v < n → Back BindingOf (bare_binding as_is bare) (binding_pieces expr_pieces b) b
  back_binding _ _ (binding_is {n = m} {t = t} {a = a} {u = u} i j z) lt = record {
    back = λ ts h.
        one (Found BindingOf (bare_binding as_is bare) (record { name = name_at m; expr = a })) ts h (λ m' w e h. one (λ w. Found BindingOf (bare_binding as_is bare) (record { name = name_at m; expr = a }) (m' ∷ w)) w h (λ t' w e' h.
        let f = (x.expr a u z (omega arith)).whole.back w h in
        record {
          tree = record { name = name_at m'; expr = f.tree };
          spells = binding_is (is_named (name_at m).text (word_if_plain (name_at m).text) m' e) (is_reserved r.As t' e') f.spells;
          same = rw f.same (rw (name_same (name_at m).text (word_if_plain (name_at m).text) m' (name_at m).place e) refl);
        }));
  }

  pub back_bindings : (bs : List (Binding Expr)) (v : Tokens) → BindingsOf bs v → length v < n → Back BindingsOf bare_bindings (after_commas (map (binding_pieces expr_pieces) bs)) bs
  back_bindings _ _ bindings_none lt = record { back = λ ts h. nothing (Found BindingsOf bare_bindings []) ts h (record { tree = []; spells = bindings_none; same = refl }) }
  back_bindings _ _ (bindings_more {t = t} {b = b} {bs = bs} {u = u} {v = v} i z y) lt =
      let long = length-append u v in record {
        back = λ ts h.
            one (Found BindingsOf bare_bindings (b ∷ bs)) ts h (λ t w e h. split (λ w. Found BindingsOf bare_bindings (b ∷ bs) (t ∷ w)) w h (λ p q cp cq.
            let f = (back_binding b u z (omega arith)).back p cp in
            let g = (back_bindings bs v y (omega arith)).back q cq in
            record { tree = f.tree ∷ g.tree; spells = bindings_more (is_sign s.Comma t e) f.spells g.spells; same = rw f.same (ap (λ (m : List (Binding Expr)). bare_binding as_is bare b ∷ m) g.same) }));
      }

  -- ---- the items of an array, with their brackets

  pub array_back : (ms : List Expr) (d : Token) (v : Tokens) → ArrayItemsOf ms d v → length v < suc n → (G : Tokens → Type 0)
      → ((b : Token) (w : Tokens) → Found (λ ms. ArrayItemsOf ms b) (map bare) ms (b ∷ w) → G (b ∷ w)) → (ts : Tokens) → Carries (sign s.OpenSquare ∷ (listed expr_pieces ms ++ sign s.CloseSquare ∷ [])) ts → G ts
  array_back _ _ _ (array_empty i j) lt G k ts h =
      one G ts h (λ b w e h. one (λ w. G (b ∷ w)) w h (λ c w e' h. nothing (λ w. G (b ∷ c ∷ w)) w h (k b (c ∷ []) (record { tree = []; spells = array_empty (is_sign s.OpenSquare b e) (is_sign s.CloseSquare c e'); same = refl }))))
  array_back _ _ _ (array_items {b = d} {c = c} {ms = ms} {u = u} i z j) lt G k ts h =
      let long = length-append u (c ∷ []) in
      one G ts h (λ b w e h. split (λ w. G (b ∷ w)) w h (λ p q cp cq. one (λ q. G (b ∷ (p ++ q))) q cq (λ c' q e' cq. nothing (λ q. G (b ∷ (p ++ (c' ∷ q)))) q cq (
      let f = (back_list n x ms u z (omega arith)).back p cp in
      k b (p ++ (c' ∷ [])) (record { tree = f.tree; spells = array_items (is_sign s.OpenSquare b e) f.spells (is_sign s.CloseSquare c' e'); same = f.same })))))
