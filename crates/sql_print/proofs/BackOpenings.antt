-- What the print of an expression begins with: brackets, of which it is known what they hold, or another token.
use Rattle.std.proofs.Common.{◌≡◌, ℕ, ◌<◌, ◌≤◌, nat_lt, Bool, true, false, if◌then◌else◌, List, [], ◌∷◌, ◌++◌, length, map, refl, sym, ◌∙◌, ap, subst, arith}
use Rattle.std.proofs.lemmas.List.{append_assoc, append-nil, length-append}
use Rattle.std.proofs.lemmas.Bool.Decides.{nat_tests}
use Rattle.sql_ast.specs.declared.words.Sign.TheVariants as s
use Rattle.sql_ast.specs.declared.token.Lexeme.TheVariants as l
use Rattle.sql_ast.specs.declared.clauses.Function.{Function}
use Rattle.sql_ast.specs.declared.clauses.Function.TheVariants as function
use Rattle.sql_ast.specs.declared.expr.Expr.{Expr, out-Expr}
use Rattle.sql_ast.specs.declared.expr.Expr.TheOpen.{Expr-F}
use Rattle.sql_ast.specs.declared.expr.Expr.TheOpen as ast
use Rattle.sql_ast.specs.declared.expr.Link.{Link}
use Rattle.sql_ast.specs.declared.expr.Operator.{Operator}
use Rattle.sql_ast.specs.declared.expr.Operator.TheVariants as operator
use Rattle.sql_ast.specs.declared.expr.Part.{Part}
use Rattle.sql_ast.specs.declared.expr.Part.TheVariants as part
use Rattle.sql_ast.specs.declared.expr.Signed.{Signed}
use Rattle.sql_ast.specs.declared.expr.Signed.TheVariants as signed
use Rattle.sql_ast.specs.declared.query.Primary.{Primary}
use Rattle.sql_ast.specs.declared.query.Term.{Term}
use Rattle.sql_ast.specs.declared.query.FromItem.{FromItem}
use Rattle.sql_ast.specs.declared.query.Joined.{Joined}
use Rattle.sql_ast.specs.declared.query.Query.{Query}
use Rattle.sql_ast.specs.declared.query.Select.{Select}
use Rattle.sql_ast.specs.Marks.{sign_lexeme, same_sign}
use Rattle.sql_ast.specs.Trees.{is_subquery, subquery_layer, alone}
use Rattle.sql_ast.specs.Grammar.{ExprOf, QueryOf, ListOf, list_is, commas_none}
use Rattle.sql_ast.specs.Pieces.{Piece, bracketed}
use Rattle.sql_ast.specs.Canon.{function_piece, prefix_piece, operator_pieces, canon_pieces}
use Rattle.sql_same.specs.Bare.{as_is, BareExpr, BareQuery}
use Rattle.sql_print.specs.PartPieces.{run, operand, link_pieces, part_pieces}
use Rattle.sql_print.specs.TreePieces.{expr_level, expr_pieces}
use Rattle.sql_print.proofs.CanonLaws.{level_at, pieces_at, level_expr, pieces_expr}
use Rattle.sql_print.proofs.Carried.{Back}
use Rattle.sql_print.proofs.BackLevels.{Spelled}
use Rattle.sql_print.proofs.BackTuples.{is_tuple}

abbrev bare : Expr → Expr
bare = BareExpr as_is

-- the beginning of the print of an expression, which is a tuple or not
pub data Opening : Bool → List Piece → Type 0 where
  opens_other : {tuple : Bool} {p : Piece} {ps : List Piece} → sign_lexeme s.OpenRound p.lexeme ≡ false → Opening tuple (p ∷ ps)
  -- a query in brackets
  opens_query : {tuple : Bool} (q : Query) (ps : List Piece) → Back QueryOf (BareQuery as_is) (canon_pieces q) q → Opening tuple (bracketed (canon_pieces q) ++ ps)
  -- expressions in brackets, with something behind
  opens_list : {tuple : Bool} (qs : List Piece) (es : List Expr) (p : Piece) (ps : List Piece) → Back ListOf (map bare) qs es → alone es ≡ false → Opening tuple (bracketed qs ++ p ∷ ps)
  -- expressions in brackets, and nothing else
  opens_tuple : {tuple : Bool} (qs : List Piece) (es : List Expr) → Back ListOf (map bare) qs es → alone es ≡ false → tuple ≡ true → Opening tuple (bracketed qs)

abbrev pub Opens : Expr → Type 0
Opens a = Opening (is_tuple a) (expr_pieces a)

lengthen : (b c : Bool) (ps : List Piece) (p : Piece) (rest : List Piece) → Opening b ps → Opening c (ps ++ (p ∷ rest))
lengthen b c _ p rest (opens_other h) = opens_other h
lengthen b c _ p rest (opens_query q ps k) = subst (Opening c) (sym (append_assoc (bracketed (canon_pieces q)) ps (p ∷ rest))) (opens_query q (ps ++ (p ∷ rest)) k)
lengthen b c _ p rest (opens_list qs es k ps z h) = subst (Opening c) (sym (append_assoc (bracketed qs) (k ∷ ps) (p ∷ rest))) (opens_list qs es k (ps ++ (p ∷ rest)) z h)
lengthen b c _ p rest (opens_tuple qs es z h is) = opens_list qs es p rest z h

-- ---- an operand, with something behind it

never : {A : Type 0} → false ≡ true → A
never h = absurd (let g : true ≡ false = sym h in cc)

query_layer : (z : Expr-F Expr Primary Term FromItem Joined Query Select) → subquery_layer z ≡ true → level_at z ≡ 12
query_layer (ast.Scalar q p) h = refl
query_layer _ h = never h

-- a query in brackets has the tightest level
query_level : (a : Expr) → is_subquery a ≡ true → expr_level a ≡ 12
unfolding is_subquery
query_level a h = level_expr a ∙ query_layer (out-Expr a) h

no_subquery : (a : Expr) → expr_level a < 12 → (b : Bool) → is_subquery a ≡ b → is_subquery a ≡ false
no_subquery a lt true h = let g = query_level a h in absurd (omega arith)
no_subquery a lt false h = h

as_list : (a : Expr) (ps : List Piece) → Back ExprOf bare ps a → Back ListOf (map bare) ps (a ∷ [])
as_list a ps b = record {
  back = λ ts c. let f = b.back ts c in record {
    tree = f.tree ∷ [];
    spells = subst (ListOf (f.tree ∷ [])) (append-nil ts) (list_is f.spells commas_none);
    same = ap (λ (y : Expr). y ∷ []) f.same;
  };
}

alone_as : (a : Expr) → is_subquery a ≡ false → alone (a ∷ []) ≡ false
unfolding alone
alone_as a h = h

less : (j k : ℕ) → nat_lt j k ≡ true → j < k
less j k h = grind (arith, nat_tests)

module _ (k : ℕ) (low : k ≤ 12) (a : Expr) (x : Spelled a) (o : Opens a) (c : Bool) (p : Piece) (rest : List Piece) where
  by_level : (t : Bool) → nat_lt (expr_level a) k ≡ t → Opening c ((if t then bracketed (expr_pieces a) else expr_pieces a) ++ (p ∷ rest))
  by_level true h = opens_list (expr_pieces a) (a ∷ []) p rest (as_list a (expr_pieces a) x.whole) (alone_as a (no_subquery a (let g = less (expr_level a) k h in omega arith) (is_subquery a) refl))
  by_level false h = lengthen (is_tuple a) c (expr_pieces a) p rest o

  operand_piece : Opening c (operand expr_level expr_pieces k a ++ (p ∷ rest))
  operand_piece = by_level (nat_lt (expr_level a) k) refl

pub operand_opens : (k : ℕ) → k ≤ 12 → (a : Expr) → Spelled a → Opens a → (c : Bool) (rest : List Piece) → 1 ≤ length rest → Opening c (operand expr_level expr_pieces k a ++ rest)
operand_opens k low a x o c [] some = absurd (omega arith)
operand_opens k low a x o c (p ∷ rest) some = operand_piece k low a x o c p rest

-- ---- what stands behind an operand is something

pub some_front : (ps qs : List Piece) → 1 ≤ length ps → 1 ≤ length (ps ++ qs)
some_front ps qs h = let g = length-append ps qs in omega arith

pub some_back : (ps : List Piece) (q : Piece) (qs : List Piece) → 1 ≤ length (ps ++ (q ∷ qs))
some_back ps q qs = let g = length-append ps (q ∷ qs) in omega arith

some_operator : (o : Operator) → 1 ≤ length (operator_pieces o)
some_operator operator.ShiftRight = omega arith
some_operator _ = omega arith

pub some_links : (k : ℕ) (l : Link Expr) (ls : List (Link Expr)) → 1 ≤ length (run (link_pieces expr_level expr_pieces k) (l ∷ ls))
some_links k l ls =
    some_front (link_pieces expr_level expr_pieces k l) (run (link_pieces expr_level expr_pieces k) ls) (some_front (operator_pieces l.operator) (operand expr_level expr_pieces k l.operand) (some_operator l.operator))

pub some_parts : (p : Part Expr) (ps : List (Part Expr)) → 1 ≤ length (run (part_pieces expr_pieces) (p ∷ ps))
some_parts (part.Field n) ps = omega arith
some_parts (part.Index f index place) ps = omega arith

-- ---- an expression of a known construct

module _ (a : Expr) (z : Expr-F Expr Primary Term FromItem Joined Query Select) (is : out-Expr a ≡ z) where
  pub opens_as : ((c : Bool) → Opening c (pieces_at z)) → Opens a
  opens_as h = subst (Opening (is_tuple a)) (sym (pieces_expr a ∙ ap pieces_at is)) (h (is_tuple a))

  -- it begins with another token
  pub other : (p : Piece) (ps : List Piece) → pieces_at z ≡ p ∷ ps → sign_lexeme s.OpenRound p.lexeme ≡ false → Opens a
  other p ps f h = opens_as (λ c. subst (Opening c) (sym f) (opens_other h))

pub function_other : (f : Function) → sign_lexeme s.OpenRound (function_piece f).lexeme ≡ false
function_other function.If = refl
function_other (function.Named text) = refl

pub prefix_other : (x : Signed) → sign_lexeme s.OpenRound (prefix_piece x).lexeme ≡ false
unfolding same_sign
prefix_other signed.Plus = refl
prefix_other signed.Minus = refl
prefix_other signed.Flip = refl

pub square_other : sign_lexeme s.OpenRound (l.Sign s.OpenSquare) ≡ false
unfolding same_sign
square_other = refl
