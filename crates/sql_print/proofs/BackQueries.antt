-- Queries are spelled by the tokens of their prints, if what follows GROUP BY is; so all that brackets hold is, whatever its length.
use Rattle.std.proofs.Common.{◌≡◌, ℕ, suc, ◌<◌, List, [], ◌∷◌, ◌++◌, length, map, Option, Some, None, option_map, refl, ◌∙◌, ap, arith}
use Rattle.std.proofs.lemmas.List.{length-append, append_assoc}
use Rattle.sql_names.specs.declared.words.Reserved.TheVariants as r
use Rattle.sql_ast.specs.declared.clauses.FilterPart.{FilterPart}
use Rattle.sql_ast.specs.declared.expr.Expr.{Expr}
use Rattle.sql_ast.specs.declared.expr.Expr.TheOpen.{Term-F, Select-F}
use Rattle.sql_ast.specs.declared.grouping.Groups.{Groups}
use Rattle.sql_ast.specs.declared.query.FromItem.{FromItem}
use Rattle.sql_ast.specs.declared.query.Joined.{Joined}
use Rattle.sql_ast.specs.declared.query.Primary.{Primary}
use Rattle.sql_ast.specs.declared.query.Query.{Query}
use Rattle.sql_ast.specs.declared.query.Select.{Select, roll-Select, out-roll-Select}
use Rattle.sql_ast.specs.declared.query.Term.{Term}
use Rattle.sql_ast.specs.declared.query.Term.TheVariants as term
use Rattle.sql_ast.specs.Marks.{Tokens}
use Rattle.sql_ast.specs.Grammar.{QueryOf, TermOf, term_select, term_query, SelectOf, select_is, FromPartOf, from_none, from_is, WhereOf, where_none, where_is, HavingOf, having_none, having_is, GroupByOf}
use Rattle.sql_ast.specs.Pieces.{Piece, word, after_commas, if_there, if_so}
use Rattle.sql_ast.specs.Canon.{canon_pieces}
use Rattle.sql_same.specs.Bare.{as_is, bare_having, bare_groups, BareExpr, BareQuery, BareTerm, BareSelect, BareFrom}
use Rattle.sql_same.proofs.BareSame.{same_term, same_select}
use Rattle.sql_print.specs.PartPieces.{item_pieces, having_pieces}
use Rattle.sql_print.specs.QueryPieces.{clause_pieces, grouping_pieces}
use Rattle.sql_print.specs.TreePieces.{expr_level, expr_pieces, from_pieces, select_pieces, term_pieces}
use Rattle.sql_print.proofs.CanonLaws.{select_at, print_select, term_at, print_term}
use Rattle.sql_print.proofs.Carried.{Found, Back, split, one, nothing, carry, is_reserved}
use Rattle.sql_print.proofs.BackNames.{back_select_distinct, back_as_struct}
use Rattle.sql_print.proofs.BackLists.{Inner, enclosed}
use Rattle.sql_print.proofs.BackExprs.{expr_back}
use Rattle.sql_print.proofs.BackItems.{back_item, back_items}
use Rattle.sql_print.proofs.BackJoins.{back_from}

abbrev bare : Expr → Expr
bare = BareExpr as_is

-- the clauses of a SELECT, one behind the other
pub in_clauses : (d b i j f c g h : List Piece) → (((((d ++ b) ++ (i ++ j)) ++ f) ++ c) ++ g) ++ h ≡ d ++ (b ++ (i ++ (j ++ (f ++ (c ++ (g ++ h))))))
in_clauses d b i j f c g h =
    append_assoc ((((d ++ b) ++ (i ++ j)) ++ f) ++ c) g h ∙ append_assoc (((d ++ b) ++ (i ++ j)) ++ f) c (g ++ h) ∙ append_assoc ((d ++ b) ++ (i ++ j)) f (c ++ (g ++ h)) ∙ append_assoc (d ++ b) (i ++ j) (f ++ (c ++ (g ++ h)))
    ∙ append_assoc d b ((i ++ j) ++ (f ++ (c ++ (g ++ h)))) ∙ ap (λ (ps : List Piece). d ++ (b ++ ps)) (append_assoc i j (f ++ (c ++ (g ++ h))))

module _ (n : ℕ) (x : Inner n) (grouped : (g : Option (Groups Expr)) (v : Tokens) → GroupByOf g v → length v < suc n → Back GroupByOf (option_map (bare_groups bare)) (grouping_pieces expr_pieces g) g) where
  back_from_part : (f : Option FromItem) (v : Tokens) → FromPartOf f v → length v < suc n → Back FromPartOf (option_map (BareFrom as_is)) (clause_pieces from_pieces r.From f) f
  back_from_part _ _ from_none lt = record { back = λ ts h. nothing (Found FromPartOf (option_map (BareFrom as_is)) None) ts h (record { tree = None; spells = from_none; same = refl }) }
  back_from_part _ _ (from_is {t = t} {f = f} {u = u} i z) lt = record {
    back = λ ts h. one (Found FromPartOf (option_map (BareFrom as_is)) (Some f)) ts h (λ t' w e h.
        let g = (back_from n x f u z (omega arith)).back w h in record { tree = Some g.tree; spells = from_is (is_reserved r.From t' e) g.spells; same = ap Some g.same });
  }

  back_where : (a : Option Expr) (v : Tokens) → WhereOf a v → length v < suc n → Back WhereOf (option_map bare) (clause_pieces expr_pieces r.Where a) a
  back_where _ _ where_none lt = record { back = λ ts h. nothing (Found WhereOf (option_map bare) None) ts h (record { tree = None; spells = where_none; same = refl }) }
  back_where _ _ (where_is {t = t} {a = a} {u = u} i z) lt = record {
    back = λ ts h. one (Found WhereOf (option_map bare) (Some a)) ts h (λ t' w e h.
        let g = (expr_back n x a u z (omega arith)).whole.back w h in record { tree = Some g.tree; spells = where_is (is_reserved r.Where t' e) g.spells; same = ap Some g.same });
  }

  back_having : (k : Option (FilterPart Expr)) (v : Tokens) → HavingOf k v → length v < suc n → Back HavingOf (option_map (bare_having bare)) (if_there (having_pieces expr_pieces) k) k
  back_having _ _ having_none lt = record { back = λ ts h. nothing (Found HavingOf (option_map (bare_having bare)) None) ts h (record { tree = None; spells = having_none; same = refl }) }
  back_having _ _ (having_is {t = t} {a = a} {u = u} i z) lt = record {
    back = λ ts h. one (Found HavingOf (option_map (bare_having bare)) (Some (record { test = a; place = t.start }))) ts h (λ t' w e h.
        let g = (expr_back n x a u z (omega arith)).whole.back w h in record { tree = Some (record { test = g.tree; place = t'.start }); spells = having_is (is_reserved r.Having t' e) g.spells; same = rw g.same refl });
  }

  back_select : (q : Select) (v : Tokens) → SelectOf q v → length v < suc n → Back SelectOf (BareSelect as_is) (select_pieces q) q
  back_select _ _ (select_is {t = t} {d = d} {b = b} {i = k} {is = ks} {f = f} {c = c} {g = g} {h = q} {u = u} {v = v} {x = y} {y = z} {z = w} {m = m} {k = o} {j = p} it di bi ki ks_is fi ci gi qi) lt =
      let l1 = length-append u (v ++ (y ++ (z ++ (w ++ (m ++ (o ++ p)))))) in let l2 = length-append v (y ++ (z ++ (w ++ (m ++ (o ++ p))))) in let l3 = length-append y (z ++ (w ++ (m ++ (o ++ p)))) in
      let l4 = length-append z (w ++ (m ++ (o ++ p))) in let l5 = length-append w (m ++ (o ++ p)) in let l6 = length-append m (o ++ p) in let l7 = length-append o p in
      let shape : Select-F Expr Primary Term FromItem Joined Query Select = record { distinct = d; as_struct = b; items = k ∷ ks; from = f; filter = c; grouping = g; having = q; place = t.start } in
      let whole = roll-Select shape in
      record {
        back = λ ts h. one (Found SelectOf (BareSelect as_is) whole) ts (carry (print_select whole ∙ ap select_at (out-roll-Select shape)) ts h) (λ t' ts e h.
            split (λ ts. Found SelectOf (BareSelect as_is) whole (t' ∷ ts)) ts (carry (in_clauses (if_so d (word r.Distinct ∷ [])) (if_so b (word r.As ∷ word r.Struct ∷ [])) (item_pieces expr_level expr_pieces k) (after_commas (map (item_pieces expr_level expr_pieces) ks)) (clause_pieces from_pieces r.From f) (clause_pieces expr_pieces r.Where c) (grouping_pieces expr_pieces g) (if_there (having_pieces expr_pieces) q)) ts h) (λ p1 ts c1 h.
            split (λ ts. Found SelectOf (BareSelect as_is) whole (t' ∷ (p1 ++ ts))) ts h (λ p2 ts c2 h. split (λ ts. Found SelectOf (BareSelect as_is) whole (t' ∷ (p1 ++ (p2 ++ ts)))) ts h (λ p3 ts c3 h.
            split (λ ts. Found SelectOf (BareSelect as_is) whole (t' ∷ (p1 ++ (p2 ++ (p3 ++ ts))))) ts h (λ p4 ts c4 h. split (λ ts. Found SelectOf (BareSelect as_is) whole (t' ∷ (p1 ++ (p2 ++ (p3 ++ (p4 ++ ts)))))) ts h (λ p5 ts c5 h.
            split (λ ts. Found SelectOf (BareSelect as_is) whole (t' ∷ (p1 ++ (p2 ++ (p3 ++ (p4 ++ (p5 ++ ts))))))) ts h (λ p6 ts c6 h. split (λ ts. Found SelectOf (BareSelect as_is) whole (t' ∷ (p1 ++ (p2 ++ (p3 ++ (p4 ++ (p5 ++ (p6 ++ ts)))))))) ts h (λ p7 p8 c7 c8.
            let a1 = (back_select_distinct d).back p1 c1 in
            let a2 = (back_as_struct b).back p2 c2 in
            let a3 = (back_item n x k y ki (omega arith)).back p3 c3 in
            let a4 = (back_items n x ks z ks_is (omega arith)).back p4 c4 in
            let a5 = (back_from_part f w fi (omega arith)).back p5 c5 in
            let a6 = (back_where c m ci (omega arith)).back p6 c6 in
            let a7 = (grouped g o gi (omega arith)).back p7 c7 in
            let a8 = (back_having q p qi (omega arith)).back p8 c8 in
            let other : Select-F Expr Primary Term FromItem Joined Query Select = record { distinct = a1.tree; as_struct = a2.tree; items = a3.tree ∷ a4.tree; from = a5.tree; filter = a6.tree; grouping = a7.tree; having = a8.tree; place = t'.start } in
            record {
              tree = roll-Select other;
              spells = select_is (is_reserved r.Select t' e) a1.spells a2.spells a3.spells a4.spells a5.spells a6.spells a7.spells a8.spells;
              same = same_select as_is (roll-Select other) whole other shape (out-roll-Select other) (out-roll-Select shape) (rw a1.same (rw a2.same (rw a3.same (rw a4.same (rw a5.same (rw a6.same (rw a7.same (rw a8.same refl))))))));
            }))))))));
      }

  pub back_term : (a : Term) (v : Tokens) → TermOf a v → length v < suc n → Back TermOf (BareTerm as_is) (term_pieces a) a
  back_term _ _ (term_select {a = a} {u = u} z) lt = record {
    back = λ ts h.
        let f = (back_select a u z lt).back ts (carry (print_term (term.Select a) ∙ ap term_at (term.outs-Select a)) ts h) in
        record { tree = term.Select f.tree; spells = term_select f.spells; same = same_term as_is (term.Select f.tree) (term.Select a) (Term-F.Select f.tree) (Term-F.Select a) (term.outs-Select f.tree) (term.outs-Select a) (ap (λ (y : Select). Term-F.Select y) f.same) };
  }
  back_term _ _ (term_query {o = o} {c = c} {q = q} {v = v} i z j) lt =
      let long = length-append v (c ∷ []) in record {
        back = λ ts h.
            enclosed QueryOf (BareQuery as_is) (canon_pieces q) q (x.query q v z (omega arith)) (Found TermOf (BareTerm as_is) (term.Query q o.start)) (λ o' c' w io f ic.
            record { tree = term.Query f.tree o'.start; spells = term_query io f.spells ic; same = same_term as_is (term.Query f.tree o'.start) (term.Query q o.start) (Term-F.«Term::Query» f.tree o'.start) (Term-F.«Term::Query» q o.start) (term.outs-Query f.tree o'.start) (term.outs-Query q o.start) (ap (λ (y : Query). Term-F.«Term::Query» y 0) f.same) })
            ts (carry (print_term (term.Query q o.start) ∙ ap term_at (term.outs-Query q o.start)) ts h);
      }
