-- The print of what stands behind FROM doesn't hang on places, if those of its parts don't.
use Rattle.std.proofs.Common.{◌≡◌, List, [], ◌∷◌, ◌++◌, map, Option, None, Some, option_map, refl, sym, ◌∙◌, ap}
use Rattle.sql_names.specs.declared.words.Reserved.TheVariants as r
use Rattle.sql_ast.specs.declared.words.Word.TheVariants as w
use Rattle.sql_ast.specs.declared.clauses.Name.{Name}
use Rattle.sql_ast.specs.declared.clauses.On.{On}
use Rattle.sql_ast.specs.declared.clauses.On.TheVariants as on
use Rattle.sql_ast.specs.declared.clauses.PivotCall.{PivotCall}
use Rattle.sql_ast.specs.declared.clauses.Turn.{Turn}
use Rattle.sql_ast.specs.declared.clauses.Turn.TheVariants as turn
use Rattle.sql_ast.specs.declared.clauses.Turned.{Turned}
use Rattle.sql_ast.specs.declared.expr.Expr.{Expr}
use Rattle.sql_ast.specs.declared.query.Primary.{Primary, roll-Primary, out-roll-Primary, map-Primary}
use Rattle.sql_ast.specs.declared.query.Term.{Term}
use Rattle.sql_ast.specs.declared.query.FromItem.{FromItem, roll-FromItem, out-roll-FromItem, map-FromItem}
use Rattle.sql_ast.specs.declared.query.Joined.{Joined, roll-Joined, out-roll-Joined, map-Joined}
use Rattle.sql_ast.specs.declared.query.Query.{Query}
use Rattle.sql_ast.specs.declared.query.Select.{Select}
use Rattle.sql_ast.specs.declared.expr.Expr.TheOpen.{Primary-F, FromItem-F, Joined-F}
use Rattle.sql_ast.specs.declared.expr.Expr.TheOpen as ast
use Rattle.sql_ast.specs.declared.expr.Expr.TheShapes as shapes
use Rattle.sql_ast.specs.Pieces.{word, name, read_word, bracketed, with_commas, if_there}
use Rattle.sql_ast.specs.Canon.{join_pieces}
use Rattle.sql_print.specs.PartPieces as parts
use Rattle.sql_print.specs.PartPieces.{run}
use Rattle.sql_print.specs.TreePieces.{expr_pieces, joined_pieces}
use Rattle.sql_same.specs.Bare.{as_is, bare_on, bare_pivot_call, bare_turned, BarePrimary, BareFrom, BareJoined}
use Rattle.sql_same.proofs.BareLaws.{primary_at as bare_primary_at, from_at as bare_from_at, joined_at as bare_joined_at, bare_primary, bare_from, bare_joined}
use Rattle.sql_print.proofs.CanonFroms.{primary_at, from_at, joined_at}
use Rattle.sql_print.proofs.CanonLaws.{print_primary, print_from, print_joined}
use Rattle.sql_print.proofs.AsideClaims.{bare, K2, K4, K5, E1, E2, E3, E4, E5, E6, E7, at1}
use Rattle.sql_print.proofs.AsideNames.{names_kept, path_kept, alias_kept, offset_kept, columns_kept}
use Rattle.sql_print.proofs.AsideParts.{call_kept, aliased_kept}

abbrev turned_at : Option (Turned E1) → Option (Turned Expr)
turned_at = shapes.former-Primary-Table-2.map E1 Expr at1

abbrev calls_in : Option (Turned Expr) → List (PivotCall Expr)
calls_in None = []
calls_in (Some t) = elim t.turn as (λ x. List (PivotCall Expr)) [ turn.Pivot aggregates input values place ↦ aggregates | turn.Unpivot include_nulls value label columns place ↦ [] ]

abbrev pivots_at : List (PivotCall E1) → List (PivotCall Expr)
pivots_at ks = calls_in (turned_at (Some (record { turn = turn.Pivot ks [] [] 0; alias = None })))

pivots_kept : (ks : List (PivotCall E1)) → map (parts.pivot_call_pieces expr_pieces) (map (bare_pivot_call as_is bare) (pivots_at ks)) ≡ map (parts.pivot_call_pieces expr_pieces) (pivots_at ks)
pivots_kept [] = refl
pivots_kept (k ∷ ks) = λ i. (call_kept k.call i ++ alias_kept k.alias i) ∷ pivots_kept ks i

turned_kept : (t : Option (Turned E1)) → if_there (parts.turned_pieces expr_pieces) (option_map (bare_turned as_is bare) (turned_at t)) ≡ if_there (parts.turned_pieces expr_pieces) (turned_at t)
turned_kept None = refl
turned_kept (Some t) = by t.turn t.alias
  where
    by : (x : Turn E1) (a : Option Name) → if_there (parts.turned_pieces expr_pieces) (option_map (bare_turned as_is bare) (turned_at (Some (record { turn = x; alias = a })))) ≡ if_there (parts.turned_pieces expr_pieces) (turned_at (Some (record { turn = x; alias = a })))
    by (turn.Pivot ks input values place) a = λ i. (read_word w.Pivot ∷ bracketed (with_commas (pivots_kept ks i) ++ word r.For ∷ (path_kept input i ++ word r.In ∷ bracketed (with_commas (aliased_kept values i))))) ++ alias_kept a i
    by (turn.Unpivot include_nulls value label columns place) a = λ i. (read_word w.Unpivot ∷ (parts.include_pieces include_nulls ++ bracketed (name value.text ∷ word r.For ∷ name label.text ∷ word r.In ∷ bracketed (with_commas (columns_kept columns i))))) ++ alias_kept a i

abbrev pub plain2 : Primary-F E1 E2 E3 E4 E5 E6 E7 → Primary-F Expr Primary Term FromItem Joined Query Select
plain2 x = map-Primary E1 E2 E3 E4 E5 E6 E7 Expr Primary Term FromItem Joined Query Select (λ (e : E1). e.0) (λ (e : E2). e.0) (λ (e : E3). e.0) (λ (e : E4). e.0) (λ (e : E5). e.0) (λ (e : E6). e.0) (λ (e : E7). e.0) x

pub primary_kept : (x : Primary-F E1 E2 E3 E4 E5 E6 E7) → primary_at (bare_primary_at as_is (plain2 x)) ≡ primary_at (plain2 x)
primary_kept (ast.Table n alias t place) = λ i. name n.text ∷ (alias_kept alias i ++ turned_kept t i)
primary_kept (Primary-F.«Primary::Query» query alias t place) = λ i. bracketed (query.1 i) ++ alias_kept alias i ++ turned_kept t i
primary_kept (ast.Path path alias offset place) = λ i. path_kept path i ++ alias_kept alias i ++ offset_kept offset i
primary_kept (ast.Unnest array alias offset place) = λ i. (word r.Unnest ∷ bracketed (array.1 i).pieces) ++ alias_kept alias i ++ offset_kept offset i

pub primary_rolled : (z : Primary-F Expr Primary Term FromItem Joined Query Select) → primary_at (bare_primary_at as_is z) ≡ primary_at z → K2 (roll-Primary z)
primary_rolled z told =
    print_primary (BarePrimary as_is (roll-Primary z)) ∙ ap primary_at (bare_primary as_is (roll-Primary z) ∙ ap (bare_primary_at as_is) (out-roll-Primary z)) ∙ told ∙ sym (print_primary (roll-Primary z) ∙ ap primary_at (out-roll-Primary z))

abbrev on_at : Option (On E1) → Option (On Expr)
on_at = shapes.former-Joined-on.map E1 Expr at1

on_kept : (o : Option (On E1)) → if_there (parts.on_pieces expr_pieces) (option_map (bare_on as_is bare) (on_at o)) ≡ if_there (parts.on_pieces expr_pieces) (on_at o)
on_kept None = refl
on_kept (Some (on.On a place)) = λ i. word r.On ∷ (a.1 i).pieces
on_kept (Some (on.Using columns place)) = λ i. word r.Using ∷ bracketed (with_commas (names_kept columns i))

abbrev pub plain5 : Joined-F E1 E2 E3 E4 E5 E6 E7 → Joined-F Expr Primary Term FromItem Joined Query Select
plain5 x = map-Joined E1 E2 E3 E4 E5 E6 E7 Expr Primary Term FromItem Joined Query Select (λ (e : E1). e.0) (λ (e : E2). e.0) (λ (e : E3). e.0) (λ (e : E4). e.0) (λ (e : E5). e.0) (λ (e : E6). e.0) (λ (e : E7). e.0) x

pub joined_kept : (x : Joined-F E1 E2 E3 E4 E5 E6 E7) → joined_at (bare_joined_at as_is (plain5 x)) ≡ joined_at (plain5 x)
joined_kept x = λ i. join_pieces x.word ++ x.primary.1 i ++ on_kept x.on i

pub joined_rolled : (z : Joined-F Expr Primary Term FromItem Joined Query Select) → joined_at (bare_joined_at as_is z) ≡ joined_at z → K5 (roll-Joined z)
joined_rolled z told =
    print_joined (BareJoined as_is (roll-Joined z)) ∙ ap joined_at (bare_joined as_is (roll-Joined z) ∙ ap (bare_joined_at as_is) (out-roll-Joined z)) ∙ told ∙ sym (print_joined (roll-Joined z) ∙ ap joined_at (out-roll-Joined z))

joins_kept : (xs : List E5) → run joined_pieces (map (BareJoined as_is) (map (λ (e : E5). e.0) xs)) ≡ run joined_pieces (map (λ (e : E5). e.0) xs)
joins_kept [] = refl
joins_kept (x ∷ xs) = λ i. x.1 i ++ joins_kept xs i

abbrev pub plain4 : FromItem-F E1 E2 E3 E4 E5 E6 E7 → FromItem-F Expr Primary Term FromItem Joined Query Select
plain4 x = map-FromItem E1 E2 E3 E4 E5 E6 E7 Expr Primary Term FromItem Joined Query Select (λ (e : E1). e.0) (λ (e : E2). e.0) (λ (e : E3). e.0) (λ (e : E4). e.0) (λ (e : E5). e.0) (λ (e : E6). e.0) (λ (e : E7). e.0) x

pub from_kept : (x : FromItem-F E1 E2 E3 E4 E5 E6 E7) → from_at (bare_from_at as_is (plain4 x)) ≡ from_at (plain4 x)
from_kept x = λ i. x.first.1 i ++ joins_kept x.rest i

pub from_rolled : (z : FromItem-F Expr Primary Term FromItem Joined Query Select) → from_at (bare_from_at as_is z) ≡ from_at z → K4 (roll-FromItem z)
from_rolled z told =
    print_from (BareFrom as_is (roll-FromItem z)) ∙ ap from_at (bare_from as_is (roll-FromItem z) ∙ ap (bare_from_at as_is) (out-roll-FromItem z)) ∙ told ∙ sym (print_from (roll-FromItem z) ∙ ap from_at (out-roll-FromItem z))
