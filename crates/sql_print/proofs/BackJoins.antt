-- Joins are spelled by the tokens of their prints, if the expressions and queries in them are.
use Rattle.std.proofs.Common.{◌≡◌, ℕ, suc, ◌<◌, Bool, true, false, List, [], ◌∷◌, ◌++◌, length, map, Option, Some, None, option_map, refl, sym, ◌∙◌, ap, subst, arith}
use Rattle.std.proofs.lemmas.List.{length-append, append-nil}
use Rattle.sql_names.specs.declared.words.Reserved.TheVariants as r
use Rattle.sql_ast.specs.declared.words.Sign.TheVariants as s
use Rattle.sql_ast.specs.declared.clauses.On.{On}
use Rattle.sql_ast.specs.declared.expr.Expr.{Expr}
use Rattle.sql_ast.specs.declared.expr.Expr.TheOpen.{Primary-F, Joined-F, FromItem-F}
use Rattle.sql_ast.specs.declared.expr.Expr.TheOpen as ast
use Rattle.sql_ast.specs.declared.query.FromItem.{FromItem, roll-FromItem, out-roll-FromItem}
use Rattle.sql_ast.specs.declared.query.Joined.{Joined, roll-Joined, out-roll-Joined}
use Rattle.sql_ast.specs.declared.query.JoinWord.{JoinWord}
use Rattle.sql_ast.specs.declared.query.JoinWord.TheVariants as join
use Rattle.sql_ast.specs.declared.query.Primary.{Primary, out-Primary}
use Rattle.sql_ast.specs.declared.query.Query.{Query}
use Rattle.sql_ast.specs.declared.query.Select.{Select}
use Rattle.sql_ast.specs.declared.query.Term.{Term}
use Rattle.sql_ast.specs.Marks.{Tokens, start_of}
use Rattle.sql_ast.specs.Trees.{joins_freely}
use Rattle.sql_ast.specs.Parts.{optional_none}
use Rattle.sql_ast.specs.Grammar.{PrimaryOf, OnOf, OnPartOf, on_is, on_missing, JoinOf, join_cross, join_inner, join_plain, join_left, join_right, join_full, JoinsOf, joins_none, joins_comma, joins_join, FromOf, from_are}
use Rattle.sql_ast.specs.Pieces.{if_there}
use Rattle.sql_ast.specs.Canon.{join_pieces}
use Rattle.sql_same.specs.Bare.{as_is, bare_on, BareExpr, BarePrimary, BareJoined, BareFrom}
use Rattle.sql_same.proofs.BareLaws.{primary_at as bare_at, bare_primary}
use Rattle.sql_same.proofs.BareSame.{same_joined, same_from}
use Rattle.sql_print.specs.PartPieces.{run, on_pieces}
use Rattle.sql_print.specs.TreePieces.{expr_pieces, primary_pieces, joined_pieces, from_pieces}
use Rattle.sql_print.proofs.CanonFroms.{joined_at, from_at}
use Rattle.sql_print.proofs.CanonLaws.{print_joined, print_from}
use Rattle.sql_print.proofs.Carried.{Carries, Found, Back, split, one, nothing, carry, in_three, is_reserved, is_sign}
use Rattle.sql_print.proofs.BackLists.{Inner}
use Rattle.sql_print.proofs.BackFroms.{back_on, back_primary}

abbrev free_at : Primary-F Expr Primary Term FromItem Joined Query Select → Bool
free_at z = elim z [ Primary-F.Path ns n d p ↦ true | Primary-F.Unnest x n d p ↦ true | _ ↦ false ]

free_kept : (z : Primary-F Expr Primary Term FromItem Joined Query Select) → free_at (bare_at as_is z) ≡ free_at z
free_kept (ast.Path ns n d p) = refl
free_kept _ = refl

-- whether an item may be joined without a condition doesn't hang on places
freely_same : (a b : Primary) → BarePrimary as_is a ≡ BarePrimary as_is b → joins_freely a ≡ joins_freely b
unfolding joins_freely
freely_same a b e = sym (ap free_at (bare_primary as_is a) ∙ free_kept (out-Primary a)) ∙ ap (λ x. free_at (out-Primary x)) e ∙ ap free_at (bare_primary as_is b) ∙ free_kept (out-Primary b)

-- an item that is joined, and a FROM
abbrev joined : JoinWord → Primary → Option (On Expr) → ℕ → Joined
joined w a o p = roll-Joined (record { word = w; primary = a; on = o; place = p })

abbrev joined_shape : JoinWord → Primary → Option (On Expr) → ℕ → Joined-F Expr Primary Term FromItem Joined Query Select
joined_shape w a o p = record { word = w; primary = a; on = o; place = p }

joined_same : (w : JoinWord) (a b : Primary) (o q : Option (On Expr)) (p r : ℕ) → BarePrimary as_is a ≡ BarePrimary as_is b → option_map (bare_on as_is (BareExpr as_is)) o ≡ option_map (bare_on as_is (BareExpr as_is)) q
    → BareJoined as_is (joined w a o p) ≡ BareJoined as_is (joined w b q r)
joined_same w a b o q p r e f =
    same_joined as_is (joined w a o p) (joined w b q r) (joined_shape w a o p) (joined_shape w b q r) (out-roll-Joined (joined_shape w a o p)) (out-roll-Joined (joined_shape w b q r)) (rw e (rw f refl))

joined_by : (b : Bool) (w : JoinWord) (a : Primary) (o : Option (On Expr)) (p : ℕ)
    → ((ts : Tokens) → Carries (join_pieces w ++ (primary_pieces a ++ if_there (on_pieces expr_pieces) o)) ts → Found (JoinOf b) (BareJoined as_is) (joined w a o p) ts) → Back (JoinOf b) (BareJoined as_is) (joined_pieces (joined w a o p)) (joined w a o p)
joined_by b w a o p f = record { back = λ ts c. f ts (carry (print_joined (joined w a o p) ∙ ap joined_at (out-roll-Joined (joined_shape w a o p)) ∙ in_three (join_pieces w) (primary_pieces a) (if_there (on_pieces expr_pieces) o)) ts c) }

module _ (n : ℕ) (x : Inner n) where
  abbrev bare_on_there : Option (On Expr) → Option (On Expr)
  bare_on_there = option_map (bare_on as_is (BareExpr as_is))

  back_on_part : (a b : Primary) (o : Option (On Expr)) (v : Tokens) → OnPartOf a o v → length v < suc n → BarePrimary as_is b ≡ BarePrimary as_is a → Back (OnPartOf b) bare_on_there (if_there (on_pieces expr_pieces) o) o
  back_on_part a b _ _ (on_is {o = o} {u = u} z) lt same = record { back = λ ts h. let f = (back_on n x o u z lt).back ts h in record { tree = Some f.tree; spells = on_is f.spells; same = ap Some f.same } }
  back_on_part a b _ _ (on_missing free) lt same = record { back = λ ts h. nothing (Found (OnPartOf b) bare_on_there None) ts h (record { tree = None; spells = on_missing (freely_same b a same ∙ free); same = refl }) }

  -- an item and its condition
  item_and_on : (a : Primary) (u : Tokens) → PrimaryOf a u → length u < suc n → (o : Option (On Expr)) (v : Tokens) → OnPartOf a o v → length v < suc n → (G : Tokens → Type 0)
      → ((p q : Tokens) (f : Found PrimaryOf (BarePrimary as_is) a p) → Found (OnPartOf f.tree) bare_on_there o q → G (p ++ q)) → (ts : Tokens) → Carries (primary_pieces a ++ if_there (on_pieces expr_pieces) o) ts → G ts
  item_and_on a u z lu o v y lv G k ts h = split G ts h (λ p q cp cq. let f = (back_primary n x a u z lu).back p cp in k p q f ((back_on_part a f.tree o v y lv f.same).back q cq))

  item_and_must : (a : Primary) (u : Tokens) → PrimaryOf a u → length u < suc n → (o : On Expr) (v : Tokens) → OnOf o v → length v < suc n → (G : Tokens → Type 0)
      → ((p q : Tokens) → Found PrimaryOf (BarePrimary as_is) a p → Found OnOf (bare_on as_is (BareExpr as_is)) o q → G (p ++ q)) → (ts : Tokens) → Carries (primary_pieces a ++ on_pieces expr_pieces o) ts → G ts
  item_and_must a u z lu o v y lv G k ts h = split G ts h (λ p q cp cq. k p q ((back_primary n x a u z lu).back p cp) ((back_on n x o v y lv).back q cq))

  inner : (b : Bool) (place : ℕ) (a : Primary) (u : Tokens) → PrimaryOf a u → length u < suc n → (o : Option (On Expr)) (v : Tokens) → OnPartOf a o v → length v < suc n
      → Back (JoinOf b) (BareJoined as_is) (joined_pieces (joined join.Inner a o place)) (joined join.Inner a o place)
  inner b place a u z lu o v y lv = joined_by b join.Inner a o place (λ ts h.
      one (Found (JoinOf b) (BareJoined as_is) (joined join.Inner a o place)) ts h (λ j' w f h.
      item_and_on a u z lu o v y lv (λ w. Found (JoinOf b) (BareJoined as_is) (joined join.Inner a o place) (j' ∷ w)) (λ p q g c.
      record { tree = joined join.Inner g.tree c.tree j'.start; spells = join_plain (is_reserved r.Join j' f) g.spells c.spells; same = joined_same join.Inner g.tree a c.tree o j'.start place g.same c.same }) w h))

  back_join : (b : Bool) (a : Joined) (v : Tokens) → JoinOf b a v → length v < suc n → Back (JoinOf b) (BareJoined as_is) (joined_pieces a) a
  back_join _ _ _ (join_cross {b = b} {t = t} {j = j} {a = a} {u = u} i k z) lt = joined_by b join.Cross a None t.start (λ ts h.
      one (Found (JoinOf b) (BareJoined as_is) (joined join.Cross a None t.start)) ts h (λ t' w e h. one (λ w. Found (JoinOf b) (BareJoined as_is) (joined join.Cross a None t.start) (t' ∷ w)) w h (λ j' w f h.
      split (λ w. Found (JoinOf b) (BareJoined as_is) (joined join.Cross a None t.start) (t' ∷ j' ∷ w)) w h (λ p q cp cq. nothing (λ q. Found (JoinOf b) (BareJoined as_is) (joined join.Cross a None t.start) (t' ∷ j' ∷ (p ++ q))) q cq (
      let g = (back_primary n x a u z (omega arith)).back p cp in
      record { tree = joined join.Cross g.tree None t'.start; spells = subst (λ (w : Tokens). JoinOf b (joined join.Cross g.tree None t'.start) (t' ∷ j' ∷ w)) (sym (append-nil p)) (join_cross (is_reserved r.Cross t' e) (is_reserved r.Join j' f) g.spells); same = joined_same join.Cross g.tree a None None t'.start t.start g.same refl })))))
  back_join _ _ _ (join_inner {b = b} {t = t} {j = j} {a = a} {o = o} {u = u} {v = v} i k z y) lt =
      let long = length-append u v in inner b t.start a u z (omega arith) o v y (omega arith)
  back_join _ _ _ (join_plain {b = b} {j = j} {a = a} {o = o} {u = u} {v = v} k z y) lt =
      let long = length-append u v in inner b j.start a u z (omega arith) o v y (omega arith)
  back_join _ _ _ (join_left {b = b} {t = t} {j = j} {a = a} {o = o} {u = u} {v = v} {x = m} i om k z y) lt =
      let l1 = length-append m (j ∷ (u ++ v)) in let long = length-append u v in joined_by b join.Left a o t.start (λ ts h.
      one (Found (JoinOf b) (BareJoined as_is) (joined join.Left a o t.start)) ts h (λ t' w e h. one (λ w. Found (JoinOf b) (BareJoined as_is) (joined join.Left a o t.start) (t' ∷ w)) w h (λ j' w f h.
      item_and_on a u z (omega arith) o v y (omega arith) (λ w. Found (JoinOf b) (BareJoined as_is) (joined join.Left a o t.start) (t' ∷ j' ∷ w)) (λ p q g c.
      record { tree = joined join.Left g.tree c.tree t'.start; spells = join_left (is_reserved r.Left t' e) optional_none (is_reserved r.Join j' f) g.spells c.spells; same = joined_same join.Left g.tree a c.tree o t'.start t.start g.same c.same }) w h)))
  back_join _ _ _ (join_right {t = t} {j = j} {a = a} {o = o} {u = u} {v = v} {x = m} i om k z y) lt =
      let l1 = length-append m (j ∷ (u ++ v)) in let long = length-append u v in joined_by false join.Right a (Some o) t.start (λ ts h.
      one (Found (JoinOf false) (BareJoined as_is) (joined join.Right a (Some o) t.start)) ts h (λ t' w e h. one (λ w. Found (JoinOf false) (BareJoined as_is) (joined join.Right a (Some o) t.start) (t' ∷ w)) w h (λ j' w f h.
      item_and_must a u z (omega arith) o v y (omega arith) (λ w. Found (JoinOf false) (BareJoined as_is) (joined join.Right a (Some o) t.start) (t' ∷ j' ∷ w)) (λ p q g c.
      record { tree = joined join.Right g.tree (Some c.tree) t'.start; spells = join_right (is_reserved r.Right t' e) optional_none (is_reserved r.Join j' f) g.spells c.spells; same = joined_same join.Right g.tree a (Some c.tree) (Some o) t'.start t.start g.same (ap Some c.same) }) w h)))
  back_join _ _ _ (join_full {t = t} {j = j} {a = a} {o = o} {u = u} {v = v} {x = m} i om k z y) lt =
      let l1 = length-append m (j ∷ (u ++ v)) in let long = length-append u v in joined_by false join.Full a (Some o) t.start (λ ts h.
      one (Found (JoinOf false) (BareJoined as_is) (joined join.Full a (Some o) t.start)) ts h (λ t' w e h. one (λ w. Found (JoinOf false) (BareJoined as_is) (joined join.Full a (Some o) t.start) (t' ∷ w)) w h (λ j' w f h.
      item_and_must a u z (omega arith) o v y (omega arith) (λ w. Found (JoinOf false) (BareJoined as_is) (joined join.Full a (Some o) t.start) (t' ∷ j' ∷ w)) (λ p q g c.
      record { tree = joined join.Full g.tree (Some c.tree) t'.start; spells = join_full (is_reserved r.Full t' e) optional_none (is_reserved r.Join j' f) g.spells c.spells; same = joined_same join.Full g.tree a (Some c.tree) (Some o) t'.start t.start g.same (ap Some c.same) }) w h)))

  back_joins : (b : Bool) (ms : List Joined) (v : Tokens) → JoinsOf b ms v → length v < suc n → Back (JoinsOf b) (map (BareJoined as_is)) (run joined_pieces ms) ms
  back_joins _ _ _ (joins_none {b = b}) lt = record { back = λ ts h. nothing (Found (JoinsOf b) (map (BareJoined as_is)) []) ts h (record { tree = []; spells = joins_none; same = refl }) }
  back_joins _ _ _ (joins_comma {b = b} {t = t} {a = a} {ms = ms} {u = u} {v = v} i z y) lt =
      let long = length-append u v in let head = joined join.Comma a None t.start in record {
        back = λ ts h.
            split (Found (JoinsOf b) (map (BareJoined as_is)) (head ∷ ms)) ts h (λ p q cp cq.
            one (λ p. Found (JoinsOf b) (map (BareJoined as_is)) (head ∷ ms) (p ++ q)) p (carry (print_joined head ∙ ap joined_at (out-roll-Joined (joined_shape join.Comma a None t.start)) ∙ in_three (join_pieces join.Comma) (primary_pieces a) []) p cp) (λ t' p e cp.
            split (λ p. Found (JoinsOf b) (map (BareJoined as_is)) (head ∷ ms) (t' ∷ (p ++ q))) p cp (λ p p2 cp cp2. nothing (λ p2. Found (JoinsOf b) (map (BareJoined as_is)) (head ∷ ms) (t' ∷ ((p ++ p2) ++ q))) p2 cp2 (
            let f = (back_primary n x a u z (omega arith)).back p cp in
            let g = (back_joins true ms v y (omega arith)).back q cq in
            record {
              tree = joined join.Comma f.tree None t'.start ∷ g.tree;
              spells = subst (λ (w : Tokens). JoinsOf b (joined join.Comma f.tree None t'.start ∷ g.tree) (t' ∷ (w ++ q))) (sym (append-nil p)) (joins_comma (is_sign s.Comma t' e) f.spells g.spells);
              same = rw (joined_same join.Comma f.tree a None None t'.start t.start f.same refl) (ap (λ (m : List Joined). BareJoined as_is head ∷ m) g.same);
            }))));
      }
  back_joins _ _ _ (joins_join {b = b} {a = a} {ms = ms} {u = u} {v = v} z y) lt =
      let long = length-append u v in record {
        back = λ ts h.
            split (Found (JoinsOf b) (map (BareJoined as_is)) (a ∷ ms)) ts h (λ p q cp cq.
            let f = (back_join b a u z (omega arith)).back p cp in
            let g = (back_joins b ms v y (omega arith)).back q cq in
            record { tree = f.tree ∷ g.tree; spells = joins_join f.spells g.spells; same = rw f.same (ap (λ (m : List Joined). BareJoined as_is a ∷ m) g.same) });
      }

  pub back_from : (a : FromItem) (v : Tokens) → FromOf a v → length v < suc n → Back FromOf (BareFrom as_is) (from_pieces a) a
  back_from _ _ (from_are {a = a} {ms = ms} {u = u} {v = v} z y) lt =
      let long = length-append u v in
      let shape : FromItem-F Expr Primary Term FromItem Joined Query Select = record { first = a; rest = ms; place = start_of u } in
      record {
        back = λ ts h. split (Found FromOf (BareFrom as_is) (roll-FromItem shape)) ts (carry (print_from (roll-FromItem shape) ∙ ap from_at (out-roll-FromItem shape)) ts h) (λ p q cp cq.
            let f = (back_primary n x a u z (omega arith)).back p cp in
            let g = (back_joins false ms v y (omega arith)).back q cq in
            let other : FromItem-F Expr Primary Term FromItem Joined Query Select = record { first = f.tree; rest = g.tree; place = start_of p } in
            record { tree = roll-FromItem other; spells = from_are f.spells g.spells; same = same_from as_is (roll-FromItem other) (roll-FromItem shape) other shape (out-roll-FromItem other) (out-roll-FromItem shape) (rw f.same (rw g.same refl)) });
      }
