-- Whole queries are spelled by the tokens of their prints, if what follows GROUP BY is.
use Rattle.std.proofs.Common.{◌≡◌, ℕ, zero, suc, ◌<◌, true, false, List, [], ◌∷◌, ◌++◌, length, map, Option, Some, None, option_map, refl, sym, ◌∙◌, ap, subst, arith}
use Rattle.std.proofs.lemmas.List.{length-append, append_assoc, append-nil}
use Rattle.sql_types.specs.declared.kinds.SetKind.{SetKind}
use Rattle.sql_names.specs.declared.words.Reserved.TheVariants as r
use Rattle.sql_ast.specs.declared.words.Sign.TheVariants as s
use Rattle.sql_ast.specs.declared.words.Word.TheVariants as keyword
use Rattle.sql_ast.specs.declared.token.Token.{Token}
use Rattle.sql_ast.specs.declared.token.Lexeme.{Lexeme}
use Rattle.sql_ast.specs.declared.token.Lexeme.TheVariants as l
use Rattle.sql_ast.specs.declared.clauses.LimitPart.{LimitPart}
use Rattle.sql_ast.specs.declared.expr.Expr.{Expr}
use Rattle.sql_ast.specs.declared.expr.Expr.TheVariants as e
use Rattle.sql_ast.specs.declared.expr.Expr.TheOpen.{Query-F}
use Rattle.sql_ast.specs.declared.expr.Expr.TheOpen as ast
use Rattle.sql_ast.specs.declared.grouping.Groups.{Groups}
use Rattle.sql_ast.specs.declared.query.Cte.{Cte}
use Rattle.sql_ast.specs.declared.query.FromItem.{FromItem}
use Rattle.sql_ast.specs.declared.query.Joined.{Joined}
use Rattle.sql_ast.specs.declared.query.Primary.{Primary}
use Rattle.sql_ast.specs.declared.query.Query.{Query, roll-Query, out-roll-Query}
use Rattle.sql_ast.specs.declared.query.Select.{Select}
use Rattle.sql_ast.specs.declared.query.SetTerm.{SetTerm}
use Rattle.sql_ast.specs.declared.query.Term.{Term}
use Rattle.sql_ast.specs.Marks.{Tokens, Is, start_of}
use Rattle.sql_ast.specs.Trees.{name_at, set_word, set_quantifier}
use Rattle.sql_ast.specs.Parts.{counts, count_lexeme, count_by, count_at, OffsetOf, offset_none, offset_is, LimitOf, limit_none, limit_is}
use Rattle.sql_ast.specs.Grammar.{QueryOf, query_is, CtesOf, ctes_none, ctes_are, CteCommasOf, cte_commas_none, cte_commas_more, CteOf, cte_is, body_is, SetTermsOf, set_terms_none, set_terms_more, GroupByOf}
use Rattle.sql_ast.specs.Pieces.{Piece, read_word, spaced, after_commas, if_there, word_if_plain, spelled_word}
use Rattle.sql_ast.specs.Canon.{canon_pieces}
use Rattle.sql_same.specs.Bare.{as_is, bare_groups, bare_cte, bare_set_term, bare_limit, BareExpr, BareQuery, BareTerm}
use Rattle.sql_same.proofs.BareSame.{same_expr, same_query}
use Rattle.sql_print.specs.PartPieces.{run, cte_pieces, ctes_pieces, set_term_pieces, order_pieces, limit_pieces}
use Rattle.sql_print.specs.QueryPieces.{grouping_pieces}
use Rattle.sql_print.specs.TreePieces.{expr_pieces, term_pieces}
use Rattle.sql_print.proofs.CanonLaws.{pieces_at, pieces_expr, query_at, print_query}
use Rattle.sql_print.proofs.Carried.{Carries, Found, Back, split, one, nothing, carry, in_five, is_reserved, is_sign, is_word, is_named}
use Rattle.sql_print.proofs.BackNames.{name_same}
use Rattle.sql_print.proofs.BackLists.{Inner, enclosed}
use Rattle.sql_print.proofs.BackCalls.{back_order}
use Rattle.sql_print.proofs.BackExprs.{expr_back}
use Rattle.sql_print.proofs.BackQueries.{back_term}

abbrev bare : Expr → Expr
bare = BareExpr as_is

abbrev bare_sets : List (SetTerm Term) → List (SetTerm Term)
bare_sets = map (bare_set_term (BareTerm as_is))

abbrev bare_ctes : List (Cte Query) → List (Cte Query)
bare_ctes = map (bare_cte as_is (BareQuery as_is))

never : {A : Type 0} → false ≡ true → A
never h = absurd (let g : true ≡ false = sym h in cc)

-- ---- LIMIT

-- a count is printed as the token that it was read from, and is the same at each place
count_pieces : (y : Lexeme) (p : ℕ) → count_lexeme y ≡ true → expr_pieces (count_by p y) ≡ spaced y ∷ []
count_pieces (l.Integer n) p h = pieces_expr (e.Integer n p) ∙ ap pieces_at (e.outs-Integer n p)
count_pieces (l.Parameter x) p h = pieces_expr (e.Parameter x p) ∙ ap pieces_at (e.outs-Parameter x p)
count_pieces _ p h = never h

count_same : (y : Lexeme) (p q : ℕ) → count_lexeme y ≡ true → bare (count_by p y) ≡ bare (count_by q y)
count_same (l.Integer n) p q h = same_expr as_is (e.Integer n p) (e.Integer n q) (ast.Integer n p) (ast.Integer n q) (e.outs-Integer n p) (e.outs-Integer n q) refl
count_same (l.Parameter x) p q h = same_expr as_is (e.Parameter x p) (e.Parameter x q) (ast.Parameter x p) (ast.Parameter x q) (e.outs-Parameter x p) (e.outs-Parameter x q) refl
count_same _ p q h = never h

-- one token that is a count
counted : (x : Token) → Is counts x → (rest : List Piece) (G : Tokens → Type 0) → ((t : Token) (v : Tokens) → Is counts t → bare (count_at t) ≡ bare (count_at x) → Carries rest v → G (t ∷ v)) → (ts : Tokens) → Carries (expr_pieces (count_at x) ++ rest) ts → G ts
unfolding count_at
counted x i rest G k ts h =
    one G ts (carry (ap (λ (ps : List Piece). ps ++ rest) (count_pieces x.lexeme x.start i.is)) ts h) (λ t v e h. k t v (record { is = ap count_lexeme e ∙ i.is }) (ap (λ (y : Lexeme). bare (count_by t.start y)) e ∙ count_same x.lexeme t.start x.start i.is) h)

back_offset : (o : Option Expr) (v : Tokens) → OffsetOf o v → Back OffsetOf (option_map bare) (if_there (λ a. read_word keyword.Offset ∷ expr_pieces a) o) o
back_offset _ _ offset_none = record { back = λ ts h. nothing (Found OffsetOf (option_map bare) None) ts h (record { tree = None; spells = offset_none; same = refl }) }
back_offset _ _ (offset_is {t = t} {x = x} i j) = record {
  back = λ ts h. one (Found OffsetOf (option_map bare) (Some (count_at x))) ts h (λ t' w e h.
      counted x j [] (λ w. Found OffsetOf (option_map bare) (Some (count_at x)) (t' ∷ w)) (λ x' w jx same h. nothing (λ w. Found OffsetOf (option_map bare) (Some (count_at x)) (t' ∷ x' ∷ w)) w h
      (record { tree = Some (count_at x'); spells = offset_is (is_word keyword.Offset (spelled_word keyword.Offset) t' e) jx; same = ap Some same })) w (carry (sym (append-nil (expr_pieces (count_at x)))) w h));
}

back_limit : (k : Option (LimitPart Expr)) (v : Tokens) → LimitOf k v → Back LimitOf (option_map (bare_limit bare)) (if_there (limit_pieces expr_pieces) k) k
back_limit _ _ limit_none = record { back = λ ts h. nothing (Found LimitOf (option_map (bare_limit bare)) None) ts h (record { tree = None; spells = limit_none; same = refl }) }
back_limit _ _ (limit_is {t = t} {x = x} {o = o} {v = v} i j z) = record {
  back = λ ts h. one (Found LimitOf (option_map (bare_limit bare)) (Some (record { count = count_at x; offset = o; place = t.start }))) ts h (λ t' w e h.
      counted x j (if_there (λ a. read_word keyword.Offset ∷ expr_pieces a) o) (λ w. Found LimitOf (option_map (bare_limit bare)) (Some (record { count = count_at x; offset = o; place = t.start })) (t' ∷ w)) (λ x' w jx same h.
      let f = (back_offset o v z).back w h in
      record { tree = Some (record { count = count_at x'; offset = f.tree; place = t'.start }); spells = limit_is (is_reserved r.Limit t' e) jx f.spells; same = rw same (rw f.same refl) }) w h);
}

module _ (n : ℕ) (x : Inner n) (grouped : (g : Option (Groups Expr)) (v : Tokens) → GroupByOf g v → length v < suc n → Back GroupByOf (option_map (bare_groups bare)) (grouping_pieces expr_pieces g) g) where
  back_sets : (k : SetKind) (ms : List (SetTerm Term)) (v : Tokens) → SetTermsOf k ms v → length v < suc n → Back (SetTermsOf k) bare_sets (run (set_term_pieces term_pieces) ms) ms
  back_sets _ _ _ (set_terms_none {k = k}) lt = record { back = λ ts h. nothing (Found (SetTermsOf k) bare_sets []) ts h (record { tree = []; spells = set_terms_none; same = refl }) }
  back_sets _ _ _ (set_terms_more {k = k} {t = t} {x = y} {a = a} {ms = ms} {u = u} {v = v} i j z m) lt =
      let long = length-append u v in let head : SetTerm Term = record { kind = k; term = a; place = t.start } in record {
        back = λ ts h.
            one (Found (SetTermsOf k) bare_sets (head ∷ ms)) ts h (λ t' w e h. one (λ w. Found (SetTermsOf k) bare_sets (head ∷ ms) (t' ∷ w)) w h (λ y' w e' h. split (λ w. Found (SetTermsOf k) bare_sets (head ∷ ms) (t' ∷ y' ∷ w)) w h (λ p q cp cq.
            let f = (back_term n x grouped a u z (omega arith)).back p cp in
            let g = (back_sets k ms v m (omega arith)).back q cq in
            record { tree = record { kind = k; term = f.tree; place = t'.start } ∷ g.tree; spells = set_terms_more (is_reserved (set_word k) t' e) (is_reserved (set_quantifier k) y' e') f.spells g.spells; same = rw f.same (ap (λ (m : List (SetTerm Term)). bare_set_term (BareTerm as_is) head ∷ m) g.same) })));
      }

  back_cte : (a : Cte Query) (v : Tokens) → CteOf a v → length v < suc n → Back CteOf (bare_cte as_is (BareQuery as_is)) (cte_pieces canon_pieces a) a
  back_cte _ _ (cte_is {n = m} {t = t} {o = o} {c = c} {q = q} {v = v} i j io z ic) lt =
      let long = length-append v (c ∷ []) in let whole : Cte Query = record { name = name_at m; query = q } in record {
        back = λ ts h.
            one (Found CteOf (bare_cte as_is (BareQuery as_is)) whole) ts h (λ m' w e h. one (λ w. Found CteOf (bare_cte as_is (BareQuery as_is)) whole (m' ∷ w)) w h (λ t' w e' h.
            enclosed QueryOf (BareQuery as_is) (canon_pieces q) q (x.query q v z (omega arith)) (λ w. Found CteOf (bare_cte as_is (BareQuery as_is)) whole (m' ∷ t' ∷ w)) (λ o' c' p io' f ic'.
            record { tree = record { name = name_at m'; query = f.tree }; spells = cte_is (is_named (name_at m).text (word_if_plain (name_at m).text) m' e) (is_reserved r.As t' e') io' f.spells ic'; same = rw (name_same (name_at m).text (word_if_plain (name_at m).text) m' (name_at m).place e) (rw f.same refl) }) w h));
      }

  back_cte_commas : (cs : List (Cte Query)) (v : Tokens) → CteCommasOf cs v → length v < suc n → Back CteCommasOf bare_ctes (after_commas (map (cte_pieces canon_pieces) cs)) cs
  back_cte_commas _ _ cte_commas_none lt = record { back = λ ts h. nothing (Found CteCommasOf bare_ctes []) ts h (record { tree = []; spells = cte_commas_none; same = refl }) }
  back_cte_commas _ _ (cte_commas_more {t = t} {a = a} {ms = ms} {u = u} {v = v} i z y) lt =
      let long = length-append u v in record {
        back = λ ts h. one (Found CteCommasOf bare_ctes (a ∷ ms)) ts h (λ t w e h. split (λ w. Found CteCommasOf bare_ctes (a ∷ ms) (t ∷ w)) w h (λ p q cp cq.
            let f = (back_cte a u z (omega arith)).back p cp in
            let g = (back_cte_commas ms v y (omega arith)).back q cq in
            record { tree = f.tree ∷ g.tree; spells = cte_commas_more (is_sign s.Comma t e) f.spells g.spells; same = rw f.same (ap (λ (m : List (Cte Query)). bare_cte as_is (BareQuery as_is) a ∷ m) g.same) }));
      }

  back_ctes : (cs : List (Cte Query)) (v : Tokens) → CtesOf cs v → length v < suc n → Back CtesOf bare_ctes (ctes_pieces canon_pieces cs) cs
  back_ctes _ _ ctes_none lt = record { back = λ ts h. nothing (Found CtesOf bare_ctes []) ts h (record { tree = []; spells = ctes_none; same = refl }) }
  back_ctes _ _ (ctes_are {t = t} {a = a} {ms = ms} {u = u} {v = v} i z y) lt =
      let long = length-append u v in record {
        back = λ ts h. one (Found CtesOf bare_ctes (a ∷ ms)) ts h (λ t w e h. split (λ w. Found CtesOf bare_ctes (a ∷ ms) (t ∷ w)) w h (λ p q cp cq.
            let f = (back_cte a u z (omega arith)).back p cp in
            let g = (back_cte_commas ms v y (omega arith)).back q cq in
            record { tree = f.tree ∷ g.tree; spells = ctes_are (is_reserved r.With t e) f.spells g.spells; same = rw f.same (ap (λ (m : List (Cte Query)). bare_cte as_is (BareQuery as_is) a ∷ m) g.same) }));
      }

  pub back_query : (q : Query) (v : Tokens) → QueryOf q v → length v < suc n → Back QueryOf (BareQuery as_is) (canon_pieces q) q
  back_query _ _ (query_is {cs = cs} {ss = ss} {k = j} {u = u} {x = y} {y = z} ci (body_is {k = k} {a = a} {ms = ms} {u = p} {v = w} ti si) oi ji) lt =
      let l1 = length-append u ((p ++ w) ++ (y ++ z)) in let l2 = length-append (p ++ w) (y ++ z) in let l3 = length-append p w in let l4 = length-append y z in
      let shape : Query-F Expr Primary Term FromItem Joined Query Select = record { ctes = cs; body = record { first = a; rest = ms; place = start_of p }; order = ss; limit = j; place = start_of (u ++ (p ++ w)) } in
      let whole = roll-Query shape in
      record {
        back = λ ts h. split (Found QueryOf (BareQuery as_is) whole) ts (carry (print_query whole ∙ ap query_at (out-roll-Query shape) ∙ in_five (ctes_pieces canon_pieces cs) (term_pieces a) (run (set_term_pieces term_pieces) ms) (order_pieces expr_pieces ss) (if_there (limit_pieces expr_pieces) j)) ts h) (λ p1 ts c1 h.
            split (λ ts. Found QueryOf (BareQuery as_is) whole (p1 ++ ts)) ts h (λ p2 ts c2 h. split (λ ts. Found QueryOf (BareQuery as_is) whole (p1 ++ (p2 ++ ts))) ts h (λ p3 ts c3 h. split (λ ts. Found QueryOf (BareQuery as_is) whole (p1 ++ (p2 ++ (p3 ++ ts)))) ts h (λ p4 p5 c4 c5.
            let f1 = (back_ctes cs u ci (omega arith)).back p1 c1 in
            let f2 = (back_term n x grouped a p ti (omega arith)).back p2 c2 in
            let f3 = (back_sets k ms w si (omega arith)).back p3 c3 in
            let f4 = (back_order n x ss y oi (omega arith)).back p4 c4 in
            let f5 = (back_limit j z ji).back p5 c5 in
            let other : Query-F Expr Primary Term FromItem Joined Query Select = record { ctes = f1.tree; body = record { first = f2.tree; rest = f3.tree; place = start_of p2 }; order = f4.tree; limit = f5.tree; place = start_of (p1 ++ (p2 ++ p3)) } in
            record {
              tree = roll-Query other;
              spells = subst (λ (w : Tokens). QueryOf (roll-Query other) (p1 ++ w)) (append_assoc p2 p3 (p4 ++ p5)) (query_is f1.spells (body_is f2.spells f3.spells) f4.spells f5.spells);
              same = same_query as_is (roll-Query other) whole other shape (out-roll-Query other) (out-roll-Query shape) (rw f1.same (rw f2.same (rw f3.same (rw f4.same (rw f5.same refl)))));
            }))));
      }

-- ---- whatever the length

-- what follows GROUP BY is spelled by the tokens of its print, given what its brackets hold
abbrev pub Grouped : Type 0
Grouped = (n : ℕ) → Inner n → (g : Option (Groups Expr)) (v : Tokens) → GroupByOf g v → length v < suc n → Back GroupByOf (option_map (bare_groups bare)) (grouping_pieces expr_pieces g) g

pub all_inner : Grouped → (n : ℕ) → Inner n
all_inner grouped zero = record { expr = λ a u z lt. absurd (omega arith); query = λ q u z lt. absurd (omega arith) }
all_inner grouped (suc n) = let x = all_inner grouped n in record { expr = expr_back n x; query = back_query n x (grouped n x) }

-- so is each query
pub queries_back : Grouped → (q : Query) (v : Tokens) → QueryOf q v → Back QueryOf (BareQuery as_is) (canon_pieces q) q
queries_back grouped q v z = (all_inner grouped (suc (length v))).query q v z (omega arith)
