-- The canonical print of lists, calls and other parts of expressions: as the prints of their own parts say.
use Rattle.std.proofs.Common.{◌≡◌, ℕ, Bool, true, false, List, [], ◌∷◌, ◌++◌, map, Option, None, Some, refl, ap}
use Rattle.sql_names.specs.declared.words.Reserved.TheVariants as r
use Rattle.sql_ast.specs.declared.clauses.Aliased.{Aliased}
use Rattle.sql_ast.specs.declared.clauses.Arg.{Arg}
use Rattle.sql_ast.specs.declared.clauses.Arg.TheVariants as arg
use Rattle.sql_ast.specs.declared.clauses.Binding.{Binding}
use Rattle.sql_ast.specs.declared.clauses.Call.{Call}
use Rattle.sql_ast.specs.declared.clauses.Function.TheVariants as function
use Rattle.sql_ast.specs.declared.clauses.Sort.{Sort}
use Rattle.sql_ast.specs.declared.clauses.When.{When}
use Rattle.sql_ast.specs.declared.expr.Link.{Link}
use Rattle.sql_ast.specs.declared.expr.Part.{Part}
use Rattle.sql_ast.specs.declared.expr.Part.TheVariants as part
use Rattle.sql_ast.specs.declared.expr.Expr.{Expr}
use Rattle.sql_ast.specs.declared.expr.Expr.TheShapes as shapes
use Rattle.sql_ast.specs.Pieces.{Piece, word, with_commas, if_there}
use Rattle.sql_ast.specs.Canon as canon
use Rattle.sql_ast.specs.Canon.{Print, at_level, canon_expr}
use Rattle.sql_print.specs.PartPieces as parts
use Rattle.sql_print.specs.PartPieces.{run, listed}
use Rattle.sql_print.specs.ExprPieces as exprs
use Rattle.sql_print.specs.TreePieces.{expr_level, expr_pieces}

-- ---- lists

-- parts that are printed by the prints of their trees are printed as they are
pub moved : {A B : Type 0} (f : B → List Piece) (g : A → B) (h : A → List Piece) → ((x : A) → f (g x) ≡ h x) → (xs : List A) → map f (map g xs) ≡ map h xs
moved f g h same [] = refl
moved f g h same (x ∷ xs) = rw (same x) (ap (λ ps. h x ∷ ps) (moved f g h same xs))

pub in_turn : {A : Type 0} (g : A → List Piece) (xs : List A) → canon.all_of (map g xs) ≡ run g xs
in_turn g [] = refl
in_turn g (x ∷ xs) = ap (λ ps. g x ++ ps) (in_turn g xs)

pub own : (es : List Expr) → canon.list_of (map canon_expr es) ≡ listed expr_pieces es
own es = ap with_commas (moved canon.whole canon_expr expr_pieces (λ e. refl) es)

abbrev link_of : Link Expr → Link Print
link_of l = record { operator = l.operator; operand = canon_expr l.operand; place = l.place }

links : (needed : ℕ) (ls : List (Link Expr)) → canon.links needed (map link_of ls) ≡ run (parts.link_pieces expr_level expr_pieces needed) ls
links needed [] = refl
links needed (l ∷ ls) = ap (λ ps. parts.link_pieces expr_level expr_pieces needed l ++ ps) (links needed ls)

pub chain : (level needed : ℕ) (first : Expr) (ls : List (Link Expr)) → canon.chain level needed (canon_expr first) (map link_of ls) ≡ at_level level (exprs.chain_pieces expr_level expr_pieces needed first ls)
chain level needed first ls = ap (λ ps. at_level level (parts.operand expr_level expr_pieces needed first ++ ps)) (links needed ls)

abbrev parts_of : List (Part Expr) → List (Part Print)
parts_of = shapes.former-Expr-Postfix-1.map Expr Print canon_expr

pub all_parts : (ps : List (Part Expr)) → canon.all_parts (parts_of ps) ≡ run (parts.part_pieces expr_pieces) ps
all_parts [] = refl
all_parts (part.Field n ∷ ps) = ap (λ more. parts.part_pieces expr_pieces (part.Field n) ++ more) (all_parts ps)
all_parts (part.Index form index place ∷ ps) = ap (λ more. parts.part_pieces expr_pieces (part.Index form index place) ++ more) (all_parts ps)

-- ---- calls

abbrev called : Call Expr → Call Print
called = shapes.former-Expr-Call-0.map Expr Print canon_expr

abbrev call_arguments : List (Arg Expr) → List (Arg Print)
call_arguments xs = (called (record { function = function.If; distinct = false; star = false; arguments = xs; nulls = None; order = []; limit = None; place = 0 })).arguments

arguments : (xs : List (Arg Expr)) → map canon.argument_pieces (call_arguments xs) ≡ map (parts.argument_pieces expr_pieces) xs
arguments [] = refl
arguments (arg.Expr e ∷ xs) = ap (λ ps. parts.argument_pieces expr_pieces (arg.Expr e) ∷ ps) (arguments xs)
arguments (arg.Lambda variables body place ∷ xs) = ap (λ ps. parts.argument_pieces expr_pieces (arg.Lambda variables body place) ∷ ps) (arguments xs)
arguments (arg.Interval amount p place ∷ xs) = ap (λ ps. parts.argument_pieces expr_pieces (arg.Interval amount p place) ∷ ps) (arguments xs)

star_or_arguments : (star : Bool) (xs : List (Arg Expr)) → canon.star_or_arguments star (call_arguments xs) ≡ parts.star_or_arguments expr_pieces star xs
star_or_arguments true xs = refl
star_or_arguments false xs = ap with_commas (arguments xs)

abbrev sort_of : Sort Expr → Sort Print
sort_of s = record { expr = canon_expr s.expr; descending = s.descending; nulls = s.nulls; place = s.place }

sorts : (ss : List (Sort Expr)) → map canon.sort_pieces (map sort_of ss) ≡ map (parts.sort_pieces expr_pieces) ss
sorts = moved canon.sort_pieces sort_of (parts.sort_pieces expr_pieces) (λ s. refl)

pub order : (ss : List (Sort Expr)) → canon.order_pieces (map sort_of ss) ≡ parts.order_pieces expr_pieces ss
order [] = refl
order (s ∷ ss) = ap (λ ps. word r.Order ∷ word r.By ∷ with_commas ps) (sorts (s ∷ ss))

pub a_call : (call : Call Expr) → canon.call_pieces (called call) ≡ parts.call_pieces expr_pieces call
a_call call = rw (star_or_arguments call.star call.arguments) (rw (order call.order) refl)

-- ---- other parts of expressions

abbrev when_of : When Expr → When Print
when_of w = record { test = canon_expr w.test; result = canon_expr w.result }

pub whens : (ws : List (When Expr)) → canon.when_pieces (map when_of ws) ≡ run (parts.when_pieces expr_pieces) ws
whens [] = refl
whens (w ∷ ws) = ap (λ ps. parts.when_pieces expr_pieces w ++ ps) (whens ws)

abbrev optional : Option Expr → Option Print
optional = shapes.former-Expr-Case-0.map Expr Print canon_expr

pub maybe : (e : Option Expr) → if_there canon.whole (optional e) ≡ if_there expr_pieces e
maybe None = refl
maybe (Some e) = refl

pub maybe_worded : (f : List Piece → List Piece) (e : Option Expr) → if_there (λ (e : Print). f e.pieces) (optional e) ≡ if_there (λ e. f (expr_pieces e)) e
maybe_worded f None = refl
maybe_worded f (Some e) = refl

abbrev aliased_of : Aliased Expr → Aliased Print
aliased_of x = record { expr = canon_expr x.expr; alias = x.alias }

pub aliased : (xs : List (Aliased Expr)) → map canon.aliased_pieces (map aliased_of xs) ≡ map (parts.aliased_pieces expr_pieces) xs
aliased = moved canon.aliased_pieces aliased_of (parts.aliased_pieces expr_pieces) (λ x. refl)

abbrev binding_of : Binding Expr → Binding Print
binding_of b = record { name = b.name; expr = canon_expr b.expr }

pub bindings : (bs : List (Binding Expr)) → map canon.binding_pieces (map binding_of bs) ≡ map (parts.binding_pieces expr_pieces) bs
bindings = moved canon.binding_pieces binding_of (parts.binding_pieces expr_pieces) (λ b. refl)
