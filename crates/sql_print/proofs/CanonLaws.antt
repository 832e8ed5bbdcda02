-- The canonical print, one level at a time: each tree is printed as the prints of its own parts say.
use Rattle.std.proofs.Common.{◌≡◌, ℕ, List, [], ◌∷◌, ◌++◌, map, Option, None, Some, refl, sym, ◌∙◌, ap}
use Rattle.sql_names.specs.declared.words.Reserved.TheVariants as r
use Rattle.sql_ast.specs.declared.clauses.FilterPart.{FilterPart}
use Rattle.sql_ast.specs.declared.clauses.LimitPart.{LimitPart}
use Rattle.sql_ast.specs.declared.query.Cte.{Cte}
use Rattle.sql_ast.specs.declared.query.SetTerm.{SetTerm}
use Rattle.sql_ast.specs.declared.expr.Expr.{Expr, out-Expr, roll-out-Expr, fold-roll-Expr}
use Rattle.sql_ast.specs.declared.query.Primary.{Primary, out-Primary, roll-out-Primary, fold-roll-Primary}
use Rattle.sql_ast.specs.declared.query.Term.{Term, out-Term, roll-out-Term, map-Term, fold-roll-Term}
use Rattle.sql_ast.specs.declared.query.FromItem.{FromItem, out-FromItem, roll-out-FromItem, fold-roll-FromItem}
use Rattle.sql_ast.specs.declared.query.Joined.{Joined, out-Joined, roll-out-Joined, fold-roll-Joined}
use Rattle.sql_ast.specs.declared.query.Query.{Query, out-Query, roll-out-Query, map-Query, fold-roll-Query}
use Rattle.sql_ast.specs.declared.query.Select.{Select, out-Select, roll-out-Select, map-Select, fold-roll-Select}
use Rattle.sql_ast.specs.declared.expr.Expr.TheOpen.{Expr-F, Term-F, Query-F, Select-F}
use Rattle.sql_ast.specs.declared.expr.Expr.TheShapes as shapes
use Rattle.sql_ast.specs.Pieces.{Piece, word, bracketed, with_commas, if_there}
use Rattle.sql_ast.specs.Canon as canon
use Rattle.sql_ast.specs.Canon.{Print, canon_expr, canon_pieces}
use Rattle.sql_print.specs.PartPieces as parts
use Rattle.sql_print.specs.PartPieces.{run, listed}
use Rattle.sql_print.specs.QueryPieces as queries
use Rattle.sql_print.specs.TreePieces.{expr_level, expr_pieces, primary_pieces, term_pieces, from_pieces, joined_pieces, select_pieces}
use Rattle.sql_print.proofs.CanonParts.{moved, in_turn, order, maybe_worded}
use Rattle.sql_print.proofs.CanonExprs.{expr_at, expr_moved}
use Rattle.sql_print.proofs.CanonItems.{items}
use Rattle.sql_print.proofs.CanonFroms.{primary_at, primary_moved, condition, joined_at, from_at}
use Rattle.sql_print.proofs.CanonGroups.{grouping}

-- ---- SELECT and queries

abbrev optional_from : Option FromItem → Option (List Piece)
optional_from = shapes.former-Select-from.map FromItem (List Piece) from_pieces

maybe_from : (f : Option FromItem) → if_there (λ f. word r.From ∷ f) (optional_from f) ≡ queries.clause_pieces from_pieces r.From f
maybe_from None = refl
maybe_from (Some f) = refl

abbrev having_of : Option (FilterPart Expr) → Option (FilterPart Print)
having_of = shapes.former-Select-having.map Expr Print canon_expr

maybe_having : (h : Option (FilterPart Expr)) → if_there (λ (h : FilterPart Print). word r.Having ∷ h.test.pieces) (having_of h) ≡ if_there (parts.having_pieces expr_pieces) h
maybe_having None = refl
maybe_having (Some h) = refl

abbrev pub select_at : Select-F Expr Primary Term FromItem Joined Query Select → List Piece
select_at q =
    word r.Select ∷ (queries.front_pieces q.distinct q.as_struct ++ listed (parts.item_pieces expr_level expr_pieces) q.items
    ++ queries.clause_pieces from_pieces r.From q.from ++ queries.clause_pieces expr_pieces r.Where q.filter
    ++ queries.grouping_pieces expr_pieces q.grouping ++ if_there (parts.having_pieces expr_pieces) q.having)

abbrev printed_select : Select-F Expr Primary Term FromItem Joined Query Select → List Piece
printed_select q = canon.select_print (map-Select Expr Primary Term FromItem Joined Query Select Print (List Piece) (List Piece) (List Piece) (List Piece) (List Piece) (List Piece) canon_expr primary_pieces term_pieces from_pieces joined_pieces canon_pieces select_pieces q)

select_moved : (q : Select-F Expr Primary Term FromItem Joined Query Select) → printed_select q ≡ select_at q
select_moved q =
    rw (items q.items) (rw (maybe_from q.from) (rw (maybe_worded (λ ps. word r.Where ∷ ps) q.filter) (rw (grouping q.grouping) (rw (maybe_having q.having) refl))))

abbrev pub term_at : Term-F Expr Primary Term FromItem Joined Query Select → List Piece
term_at (Term-F.Select select) = select_pieces select
term_at (Term-F.«Term::Query» query place) = bracketed (canon_pieces query)

abbrev printed_term : Term-F Expr Primary Term FromItem Joined Query Select → List Piece
printed_term x = canon.term_print (map-Term Expr Primary Term FromItem Joined Query Select Print (List Piece) (List Piece) (List Piece) (List Piece) (List Piece) (List Piece) canon_expr primary_pieces term_pieces from_pieces joined_pieces canon_pieces select_pieces x)

term_moved : (x : Term-F Expr Primary Term FromItem Joined Query Select) → printed_term x ≡ term_at x
term_moved (Term-F.Select select) = refl
term_moved (Term-F.«Term::Query» query place) = refl

abbrev cte_of : Cte Query → Cte (List Piece)
cte_of c = record { name = c.name; query = canon_pieces c.query }

ctes : (cs : List (Cte Query)) → canon.ctes_pieces (map cte_of cs) ≡ parts.ctes_pieces canon_pieces cs
ctes [] = refl
ctes (c ∷ cs) = ap (λ ps. word r.With ∷ with_commas ps) (moved canon.cte_pieces cte_of (parts.cte_pieces canon_pieces) (λ c. refl) (c ∷ cs))

abbrev set_of : SetTerm Term → SetTerm (List Piece)
set_of t = record { kind = t.kind; term = term_pieces t.term; place = t.place }

terms : (ts : List (SetTerm Term)) → canon.all_of (map canon.set_term_pieces (map set_of ts)) ≡ run (parts.set_term_pieces term_pieces) ts
terms ts = ap canon.all_of (moved canon.set_term_pieces set_of (parts.set_term_pieces term_pieces) (λ t. refl) ts) ∙ in_turn (parts.set_term_pieces term_pieces) ts

abbrev limit_of : Option (LimitPart Expr) → Option (LimitPart Print)
limit_of = shapes.former-Query-limit.map Expr Print canon_expr

limits : (count : Expr) (offset : Option Expr) (place : ℕ) →
    if_there canon.limit_pieces (limit_of (Some (record { count = count; offset = offset; place = place }))) ≡ parts.limit_pieces expr_pieces (record { count = count; offset = offset; place = place })
limits count None place = refl
limits count (Some offset) place = refl

maybe_limit : (l : Option (LimitPart Expr)) → if_there canon.limit_pieces (limit_of l) ≡ if_there (parts.limit_pieces expr_pieces) l
maybe_limit None = refl
maybe_limit (Some l) = limits l.count l.offset l.place

abbrev pub query_at : Query-F Expr Primary Term FromItem Joined Query Select → List Piece
query_at q =
    parts.ctes_pieces canon_pieces q.ctes ++ term_pieces q.body.first ++ run (parts.set_term_pieces term_pieces) q.body.rest ++ parts.order_pieces expr_pieces q.order ++ if_there (parts.limit_pieces expr_pieces) q.limit

abbrev printed_query : Query-F Expr Primary Term FromItem Joined Query Select → List Piece
printed_query q = canon.query_print (map-Query Expr Primary Term FromItem Joined Query Select Print (List Piece) (List Piece) (List Piece) (List Piece) (List Piece) (List Piece) canon_expr primary_pieces term_pieces from_pieces joined_pieces canon_pieces select_pieces q)

query_moved : (q : Query-F Expr Primary Term FromItem Joined Query Select) → printed_query q ≡ query_at q
query_moved q = rw (ctes q.ctes) (rw (terms q.body.rest) (rw (order q.order) (rw (maybe_limit q.limit) refl)))

-- ---- one equation a sort

pub print_expr : (x : Expr) → canon_expr x ≡ expr_at (out-Expr x)
unfolding canon_expr primary_pieces term_pieces from_pieces joined_pieces canon_pieces select_pieces
print_expr x = ap canon_expr (sym (roll-out-Expr x)) ∙ fold-roll-Expr Print (List Piece) (List Piece) (List Piece) (List Piece) (List Piece) (List Piece) canon.expr_print canon.primary_print canon.term_print canon.from_print canon.joined_print canon.query_print canon.select_print (out-Expr x) ∙ expr_moved (out-Expr x)

-- the level and the tokens of an expression
abbrev pub level_at : Expr-F Expr Primary Term FromItem Joined Query Select → ℕ
level_at x = (expr_at x).level

abbrev pub pieces_at : Expr-F Expr Primary Term FromItem Joined Query Select → List Piece
pieces_at x = (expr_at x).pieces

pub level_expr : (x : Expr) → expr_level x ≡ level_at (out-Expr x)
level_expr x = ap (λ p. p.level) (print_expr x)

pub pieces_expr : (x : Expr) → expr_pieces x ≡ pieces_at (out-Expr x)
pieces_expr x = ap (λ p. p.pieces) (print_expr x)

pub print_primary : (x : Primary) → primary_pieces x ≡ primary_at (out-Primary x)
unfolding canon_expr primary_pieces term_pieces from_pieces joined_pieces canon_pieces select_pieces
print_primary x = ap primary_pieces (sym (roll-out-Primary x)) ∙ fold-roll-Primary Print (List Piece) (List Piece) (List Piece) (List Piece) (List Piece) (List Piece) canon.expr_print canon.primary_print canon.term_print canon.from_print canon.joined_print canon.query_print canon.select_print (out-Primary x) ∙ primary_moved (out-Primary x)

pub print_term : (x : Term) → term_pieces x ≡ term_at (out-Term x)
unfolding canon_expr primary_pieces term_pieces from_pieces joined_pieces canon_pieces select_pieces
print_term x = ap term_pieces (sym (roll-out-Term x)) ∙ fold-roll-Term Print (List Piece) (List Piece) (List Piece) (List Piece) (List Piece) (List Piece) canon.expr_print canon.primary_print canon.term_print canon.from_print canon.joined_print canon.query_print canon.select_print (out-Term x) ∙ term_moved (out-Term x)

pub print_from : (x : FromItem) → from_pieces x ≡ from_at (out-FromItem x)
unfolding canon_expr primary_pieces term_pieces from_pieces joined_pieces canon_pieces select_pieces
print_from x = ap from_pieces (sym (roll-out-FromItem x)) ∙ fold-roll-FromItem Print (List Piece) (List Piece) (List Piece) (List Piece) (List Piece) (List Piece) canon.expr_print canon.primary_print canon.term_print canon.from_print canon.joined_print canon.query_print canon.select_print (out-FromItem x) ∙ ap (λ ps. primary_pieces (out-FromItem x).first ++ ps) (in_turn joined_pieces (out-FromItem x).rest)

pub print_joined : (x : Joined) → joined_pieces x ≡ joined_at (out-Joined x)
unfolding canon_expr primary_pieces term_pieces from_pieces joined_pieces canon_pieces select_pieces
print_joined x = ap joined_pieces (sym (roll-out-Joined x)) ∙ fold-roll-Joined Print (List Piece) (List Piece) (List Piece) (List Piece) (List Piece) (List Piece) canon.expr_print canon.primary_print canon.term_print canon.from_print canon.joined_print canon.query_print canon.select_print (out-Joined x) ∙ ap (λ ps. canon.join_pieces (out-Joined x).word ++ primary_pieces (out-Joined x).primary ++ ps) (condition (out-Joined x).on)

pub print_select : (x : Select) → select_pieces x ≡ select_at (out-Select x)
unfolding canon_expr primary_pieces term_pieces from_pieces joined_pieces canon_pieces select_pieces
print_select x = ap select_pieces (sym (roll-out-Select x)) ∙ fold-roll-Select Print (List Piece) (List Piece) (List Piece) (List Piece) (List Piece) (List Piece) canon.expr_print canon.primary_print canon.term_print canon.from_print canon.joined_print canon.query_print canon.select_print (out-Select x) ∙ select_moved (out-Select x)

pub print_query : (x : Query) → canon_pieces x ≡ query_at (out-Query x)
unfolding canon_expr primary_pieces term_pieces from_pieces joined_pieces canon_pieces select_pieces
print_query x = ap canon_pieces (sym (roll-out-Query x)) ∙ fold-roll-Query Print (List Piece) (List Piece) (List Piece) (List Piece) (List Piece) (List Piece) canon.expr_print canon.primary_print canon.term_print canon.from_print canon.joined_print canon.query_print canon.select_print (out-Query x) ∙ query_moved (out-Query x)
