-- The canonical print of a query doesn't hang on its places.
use Rattle.std.proofs.Common.{◌≡◌, ℕ, List, [], ◌∷◌, ◌++◌, map, Option, None, Some, option_map, refl, sym, ◌∙◌, ap, subst}
use Rattle.sql_names.specs.declared.words.Reserved.TheVariants as r
use Rattle.sql_ast.specs.declared.words.Word.TheVariants as w
use Rattle.sql_ast.specs.declared.clauses.FilterPart.{FilterPart}
use Rattle.sql_ast.specs.declared.clauses.LimitPart.{LimitPart}
use Rattle.sql_ast.specs.declared.query.Cte.{Cte}
use Rattle.sql_ast.specs.declared.query.SetTerm.{SetTerm}
use Rattle.sql_ast.specs.declared.expr.Expr.{Expr, roll-Expr}
use Rattle.sql_ast.specs.declared.query.Primary.{Primary, roll-Primary}
use Rattle.sql_ast.specs.declared.query.Term.{Term, roll-Term, out-roll-Term, map-Term}
use Rattle.sql_ast.specs.declared.query.FromItem.{FromItem, roll-FromItem}
use Rattle.sql_ast.specs.declared.query.Joined.{Joined, roll-Joined}
use Rattle.sql_ast.specs.declared.query.Query.{Query, roll-Query, out-roll-Query, map-Query, ind-Query}
use Rattle.sql_ast.specs.declared.query.Select.{Select, roll-Select, out-roll-Select, map-Select}
use Rattle.sql_ast.specs.declared.expr.Expr.TheOpen.{Term-F, Query-F, Select-F}
use Rattle.sql_ast.specs.declared.expr.Expr.TheShapes as shapes
use Rattle.sql_ast.specs.Pieces.{word, name, read_word, bracketed, with_commas, if_there}
use Rattle.sql_ast.specs.Canon.{canon_pieces}
use Rattle.sql_print.specs.PartPieces as parts
use Rattle.sql_print.specs.PartPieces.{run}
use Rattle.sql_print.specs.QueryPieces as queries
use Rattle.sql_print.specs.TreePieces.{expr_pieces, term_pieces, from_pieces}
use Rattle.sql_ast.specs.Trees.{set_word, set_quantifier}
use Rattle.sql_same.specs.Bare.{as_is, bare_having, bare_cte, bare_set_term, bare_limit, BareTerm, BareFrom, BareQuery, BareSelect}
use Rattle.sql_same.proofs.BareLaws.{term_at as bare_term_at, select_at as bare_select_at, query_at as bare_query_at, bare_term, bare_query, bare_select}
use Rattle.sql_print.proofs.CanonLaws.{term_at, select_at, query_at, print_term, print_query, print_select}
use Rattle.sql_print.proofs.AsideClaims.{bare, K1, K2, K3, K4, K5, K6, K7, E1, E2, E3, E4, E5, E6, E7, at1}
use Rattle.sql_print.proofs.AsideParts.{order_kept, maybe_kept}
use Rattle.sql_print.proofs.AsideExprs.{plain1, expr_kept, expr_rolled}
use Rattle.sql_print.proofs.AsideItems.{items_kept}
use Rattle.sql_print.proofs.AsideFroms.{plain2, primary_kept, primary_rolled, plain5, joined_kept, joined_rolled, plain4, from_kept, from_rolled}
use Rattle.sql_print.proofs.AsideGroups.{grouping_kept}

-- ---- SELECT and queries

abbrev from_option_at : Option E4 → Option FromItem
from_option_at = shapes.former-Select-from.map E4 FromItem (λ (e : E4). e.0)

maybe_from_kept : (f : Option E4) → queries.clause_pieces from_pieces r.From (option_map (BareFrom as_is) (from_option_at f)) ≡ queries.clause_pieces from_pieces r.From (from_option_at f)
maybe_from_kept None = refl
maybe_from_kept (Some f) = λ i. word r.From ∷ f.1 i

abbrev having_at : Option (FilterPart E1) → Option (FilterPart Expr)
having_at = shapes.former-Select-having.map E1 Expr at1

having_kept : (h : Option (FilterPart E1)) → if_there (parts.having_pieces expr_pieces) (option_map (bare_having bare) (having_at h)) ≡ if_there (parts.having_pieces expr_pieces) (having_at h)
having_kept None = refl
having_kept (Some h) = λ i. word r.Having ∷ (h.test.1 i).pieces

abbrev plain7 : Select-F E1 E2 E3 E4 E5 E6 E7 → Select-F Expr Primary Term FromItem Joined Query Select
plain7 x = map-Select E1 E2 E3 E4 E5 E6 E7 Expr Primary Term FromItem Joined Query Select (λ (e : E1). e.0) (λ (e : E2). e.0) (λ (e : E3). e.0) (λ (e : E4). e.0) (λ (e : E5). e.0) (λ (e : E6). e.0) (λ (e : E7). e.0) x

select_kept : (x : Select-F E1 E2 E3 E4 E5 E6 E7) → select_at (bare_select_at as_is (plain7 x)) ≡ select_at (plain7 x)
select_kept x = λ i. word r.Select ∷ (queries.front_pieces x.distinct x.as_struct ++ with_commas (items_kept x.items i) ++ maybe_from_kept x.from i ++ maybe_kept (λ ps. word r.Where ∷ ps) x.filter i ++ grouping_kept x.grouping i ++ having_kept x.having i)

select_rolled : (z : Select-F Expr Primary Term FromItem Joined Query Select) → select_at (bare_select_at as_is z) ≡ select_at z → K7 (roll-Select z)
select_rolled z told =
    print_select (BareSelect as_is (roll-Select z)) ∙ ap select_at (bare_select as_is (roll-Select z) ∙ ap (bare_select_at as_is) (out-roll-Select z)) ∙ told ∙ sym (print_select (roll-Select z) ∙ ap select_at (out-roll-Select z))

abbrev plain3 : Term-F E1 E2 E3 E4 E5 E6 E7 → Term-F Expr Primary Term FromItem Joined Query Select
plain3 x = map-Term E1 E2 E3 E4 E5 E6 E7 Expr Primary Term FromItem Joined Query Select (λ (e : E1). e.0) (λ (e : E2). e.0) (λ (e : E3). e.0) (λ (e : E4). e.0) (λ (e : E5). e.0) (λ (e : E6). e.0) (λ (e : E7). e.0) x

term_kept : (x : Term-F E1 E2 E3 E4 E5 E6 E7) → term_at (bare_term_at as_is (plain3 x)) ≡ term_at (plain3 x)
term_kept (Term-F.Select select) = select.1
term_kept (Term-F.«Term::Query» query place) = λ i. bracketed (query.1 i)

term_rolled : (z : Term-F Expr Primary Term FromItem Joined Query Select) → term_at (bare_term_at as_is z) ≡ term_at z → K3 (roll-Term z)
term_rolled z told =
    print_term (BareTerm as_is (roll-Term z)) ∙ ap term_at (bare_term as_is (roll-Term z) ∙ ap (bare_term_at as_is) (out-roll-Term z)) ∙ told ∙ sym (print_term (roll-Term z) ∙ ap term_at (out-roll-Term z))

abbrev cte_at : Cte E6 → Cte Query
cte_at x = record { name = x.name; query = x.query.0 }

cte_list_kept : (cs : List (Cte E6)) → map (parts.cte_pieces canon_pieces) (map (bare_cte as_is (BareQuery as_is)) (map cte_at cs)) ≡ map (parts.cte_pieces canon_pieces) (map cte_at cs)
cte_list_kept [] = refl
cte_list_kept (x ∷ cs) = λ i. (name x.name.text ∷ word r.As ∷ bracketed (x.query.1 i)) ∷ cte_list_kept cs i

ctes_kept : (cs : List (Cte E6)) → parts.ctes_pieces canon_pieces (map (bare_cte as_is (BareQuery as_is)) (map cte_at cs)) ≡ parts.ctes_pieces canon_pieces (map cte_at cs)
ctes_kept [] = refl
ctes_kept (x ∷ cs) = ap (λ ps. word r.With ∷ with_commas ps) (cte_list_kept (x ∷ cs))

abbrev set_at : SetTerm E3 → SetTerm Term
set_at x = record { kind = x.kind; term = x.term.0; place = x.place }

terms_kept : (ms : List (SetTerm E3)) → run (parts.set_term_pieces term_pieces) (map (bare_set_term (BareTerm as_is)) (map set_at ms)) ≡ run (parts.set_term_pieces term_pieces) (map set_at ms)
terms_kept [] = refl
terms_kept (x ∷ ms) = λ i. (word (set_word x.kind) ∷ word (set_quantifier x.kind) ∷ x.term.1 i) ++ terms_kept ms i

abbrev limit_at : Option (LimitPart E1) → Option (LimitPart Expr)
limit_at = shapes.former-Query-limit.map E1 Expr at1

limit_kept : (k : Option (LimitPart E1)) → if_there (parts.limit_pieces expr_pieces) (option_map (bare_limit bare) (limit_at k)) ≡ if_there (parts.limit_pieces expr_pieces) (limit_at k)
limit_kept None = refl
limit_kept (Some k) = by k.count k.offset k.place
  where
    by : (count : E1) (offset : Option E1) (place : ℕ) → if_there (parts.limit_pieces expr_pieces) (option_map (bare_limit bare) (limit_at (Some (record { count = count; offset = offset; place = place })))) ≡ if_there (parts.limit_pieces expr_pieces) (limit_at (Some (record { count = count; offset = offset; place = place })))
    by count None place = λ i. word r.Limit ∷ ((count.1 i).pieces ++ [])
    by count (Some offset) place = λ i. word r.Limit ∷ ((count.1 i).pieces ++ (read_word w.Offset ∷ (offset.1 i).pieces))

abbrev plain6 : Query-F E1 E2 E3 E4 E5 E6 E7 → Query-F Expr Primary Term FromItem Joined Query Select
plain6 x = map-Query E1 E2 E3 E4 E5 E6 E7 Expr Primary Term FromItem Joined Query Select (λ (e : E1). e.0) (λ (e : E2). e.0) (λ (e : E3). e.0) (λ (e : E4). e.0) (λ (e : E5). e.0) (λ (e : E6). e.0) (λ (e : E7). e.0) x

query_kept : (x : Query-F E1 E2 E3 E4 E5 E6 E7) → query_at (bare_query_at as_is (plain6 x)) ≡ query_at (plain6 x)
query_kept x = λ i. ctes_kept x.ctes i ++ x.body.first.1 i ++ terms_kept x.body.rest i ++ order_kept x.order i ++ limit_kept x.limit i

query_rolled : (z : Query-F Expr Primary Term FromItem Joined Query Select) → query_at (bare_query_at as_is z) ≡ query_at z → K6 (roll-Query z)
query_rolled z told =
    print_query (BareQuery as_is (roll-Query z)) ∙ ap query_at (bare_query as_is (roll-Query z) ∙ ap (bare_query_at as_is) (out-roll-Query z)) ∙ told ∙ sym (print_query (roll-Query z) ∙ ap query_at (out-roll-Query z))

-- ---- each query

pub query_aside : (q : Query) → K6 q
query_aside = ind-Query K1 K2 K3 K4 K5 K6 K7
    (λ x e is. subst (λ z. K1 (roll-Expr z)) is (expr_rolled (plain1 e) (expr_kept e)))
    (λ x e is. subst (λ z. K2 (roll-Primary z)) is (primary_rolled (plain2 e) (primary_kept e)))
    (λ x e is. subst (λ z. K3 (roll-Term z)) is (term_rolled (plain3 e) (term_kept e)))
    (λ x e is. subst (λ z. K4 (roll-FromItem z)) is (from_rolled (plain4 e) (from_kept e)))
    (λ x e is. subst (λ z. K5 (roll-Joined z)) is (joined_rolled (plain5 e) (joined_kept e)))
    (λ x e is. subst (λ z. K6 (roll-Query z)) is (query_rolled (plain6 e) (query_kept e)))
    (λ x e is. subst (λ z. K7 (roll-Select z)) is (select_rolled (plain7 e) (select_kept e)))

-- two queries that are the same, places aside, have one print
pub canon_aside : (a b : Query) → BareQuery as_is a ≡ BareQuery as_is b → canon_pieces a ≡ canon_pieces b
canon_aside a b e = sym (query_aside a) ∙ ap canon_pieces e ∙ query_aside b
