-- The print of the parts of an expression doesn't hang on places, if those of its expressions don't.
use Rattle.std.proofs.Common.{◌≡◌, ℕ, nat_lt, Bool, true, false, if◌then◌else◌, List, [], ◌∷◌, ◌++◌, map, Option, None, Some, option_map, refl, ap}
use Rattle.sql_names.specs.declared.words.Reserved.TheVariants as r
use Rattle.sql_ast.specs.declared.words.Sign.TheVariants as s
use Rattle.sql_ast.specs.declared.clauses.Aliased.{Aliased}
use Rattle.sql_ast.specs.declared.clauses.Arg.{Arg}
use Rattle.sql_ast.specs.declared.clauses.Arg.TheVariants as arg
use Rattle.sql_ast.specs.declared.clauses.Binding.{Binding}
use Rattle.sql_ast.specs.declared.clauses.Call.{Call}
use Rattle.sql_ast.specs.declared.clauses.Function.{Function}
use Rattle.sql_ast.specs.declared.clauses.Function.TheVariants as function
use Rattle.sql_ast.specs.declared.clauses.Name.{Name}
use Rattle.sql_ast.specs.declared.clauses.Sort.{Sort}
use Rattle.sql_ast.specs.declared.clauses.When.{When}
use Rattle.sql_ast.specs.declared.expr.Link.{Link}
use Rattle.sql_ast.specs.declared.expr.Prefix.{Prefix}
use Rattle.sql_ast.specs.declared.expr.Part.{Part}
use Rattle.sql_ast.specs.declared.expr.Part.TheVariants as part
use Rattle.sql_ast.specs.declared.expr.Expr.{Expr}
use Rattle.sql_ast.specs.declared.expr.Expr.TheShapes as shapes
use Rattle.sql_ast.specs.Pieces.{Piece, word, name, sign, bracketed, call_brackets, with_commas, if_there, if_so}
use Rattle.sql_ast.specs.Canon.{Print, at_level, name_pieces, variables_pieces, function_piece, prefix_piece, operator_pieces, nulls_place_pieces, nulls_part_pieces, call_limit}
use Rattle.sql_print.specs.PartPieces as parts
use Rattle.sql_print.specs.PartPieces.{run}
use Rattle.sql_print.specs.ExprPieces as exprs
use Rattle.sql_print.specs.TreePieces.{expr_level, expr_pieces}
use Rattle.sql_same.specs.Bare.{as_is, bare_names, bare_function, bare_prefix, bare_link, bare_part, bare_sort, bare_argument, bare_call, bare_when, bare_aliased, bare_binding}
use Rattle.sql_print.proofs.AsideClaims.{bare, E1, at1}
use Rattle.sql_print.proofs.AsideNames.{names_kept, alias_kept}

abbrev link_at : Link E1 → Link Expr
link_at x = record { operator = x.operator; operand = x.operand.0; place = x.place }

-- an operand where a place needs a level
abbrev pub placed : ℕ → Print → List Piece
placed k p = if nat_lt p.level k then bracketed p.pieces else p.pieces

links_kept : (k : ℕ) (ls : List (Link E1)) → run (parts.link_pieces expr_level expr_pieces k) (map (bare_link bare) (map link_at ls)) ≡ run (parts.link_pieces expr_level expr_pieces k) (map link_at ls)
links_kept k [] = refl
links_kept k (x ∷ ls) = λ i. (operator_pieces x.operator ++ placed k (x.operand.1 i)) ++ links_kept k ls i

pub chain_kept : (level k : ℕ) (first : E1) (ls : List (Link E1)) → at_level level (exprs.chain_pieces expr_level expr_pieces k (bare first.0) (map (bare_link bare) (map link_at ls))) ≡ at_level level (exprs.chain_pieces expr_level expr_pieces k first.0 (map link_at ls))
chain_kept level k first ls = λ i. at_level level (placed k (first.1 i) ++ links_kept k ls i)

pub nots_kept : (os : List ℕ) → map {B = Piece} (λ (o : ℕ). word r.Not) (map {B = ℕ} (λ (o : ℕ). 0) os) ≡ map {B = Piece} (λ (o : ℕ). word r.Not) os
nots_kept [] = refl
nots_kept (o ∷ os) = ap (λ (ps : List Piece). word r.Not ∷ ps) (nots_kept os)

pub prefixes_kept : (os : List Prefix) → map {B = Piece} (λ (p : Prefix). prefix_piece p.operator) (map bare_prefix os) ≡ map {B = Piece} (λ (p : Prefix). prefix_piece p.operator) os
prefixes_kept [] = refl
prefixes_kept (o ∷ os) = ap (λ (ps : List Piece). prefix_piece o.operator ∷ ps) (prefixes_kept os)

pub exprs_kept : (es : List E1) → map expr_pieces (map bare (map at1 es)) ≡ map expr_pieces (map at1 es)
exprs_kept [] = refl
exprs_kept (x ∷ es) = λ i. (x.1 i).pieces ∷ exprs_kept es i

abbrev parts_at : List (Part E1) → List (Part Expr)
parts_at = shapes.former-Expr-Postfix-1.map E1 Expr at1

pub parts_kept : (ps : List (Part E1)) → run (parts.part_pieces expr_pieces) (map (bare_part as_is bare) (parts_at ps)) ≡ run (parts.part_pieces expr_pieces) (parts_at ps)
parts_kept [] = refl
parts_kept (part.Field n ∷ ps) = ap (λ more. parts.part_pieces expr_pieces (part.Field n) ++ more) (parts_kept ps)
parts_kept (part.Index form index place ∷ ps) = rw (index.1) (ap (λ more. parts.part_pieces expr_pieces (part.Index form index.0 place) ++ more) (parts_kept ps))

abbrev call_at : Call E1 → Call Expr
call_at = shapes.former-Expr-Call-0.map E1 Expr at1

abbrev arguments_at : List (Arg E1) → List (Arg Expr)
arguments_at xs = (call_at (record { function = function.If; distinct = false; star = false; arguments = xs; nulls = None; order = []; limit = None; place = 0 })).arguments

variables_kept : (ns : List Name) → variables_pieces (bare_names as_is ns) ≡ variables_pieces ns
variables_kept [] = refl
variables_kept (n ∷ []) = refl
variables_kept (n ∷ m ∷ ns) = ap (λ (ps : List (List Piece)). bracketed (with_commas (name_pieces n ∷ name_pieces m ∷ ps))) (names_kept ns)

arguments_kept : (xs : List (Arg E1)) → map (parts.argument_pieces expr_pieces) (map (bare_argument as_is bare) (arguments_at xs)) ≡ map (parts.argument_pieces expr_pieces) (arguments_at xs)
arguments_kept [] = refl
arguments_kept (arg.Expr a ∷ xs) = λ i. (a.1 i).pieces ∷ arguments_kept xs i
arguments_kept (arg.Lambda variables body place ∷ xs) = λ i. (variables_kept variables i ++ sign s.Arrow ∷ (body.1 i).pieces) ∷ arguments_kept xs i
arguments_kept (arg.Interval amount n place ∷ xs) = λ i. (word r.Interval ∷ ((amount.1 i).pieces ++ name n.text ∷ [])) ∷ arguments_kept xs i

star_kept : (star : Bool) (xs : List (Arg E1)) → parts.star_or_arguments expr_pieces star (map (bare_argument as_is bare) (arguments_at xs)) ≡ parts.star_or_arguments expr_pieces star (arguments_at xs)
star_kept true xs = refl
star_kept false xs = ap with_commas (arguments_kept xs)

abbrev sort_at : Sort E1 → Sort Expr
sort_at x = record { expr = x.expr.0; descending = x.descending; nulls = x.nulls; place = x.place }

sorts_kept : (ss : List (Sort E1)) → map (parts.sort_pieces expr_pieces) (map (bare_sort bare) (map sort_at ss)) ≡ map (parts.sort_pieces expr_pieces) (map sort_at ss)
sorts_kept [] = refl
sorts_kept (x ∷ ss) = λ i. ((x.expr.1 i).pieces ++ if_so x.descending (word r.Desc ∷ []) ++ if_there nulls_place_pieces x.nulls) ∷ sorts_kept ss i

pub order_kept : (ss : List (Sort E1)) → parts.order_pieces expr_pieces (map (bare_sort bare) (map sort_at ss)) ≡ parts.order_pieces expr_pieces (map sort_at ss)
order_kept [] = refl
order_kept (x ∷ ss) = ap (λ ps. word r.Order ∷ word r.By ∷ with_commas ps) (sorts_kept (x ∷ ss))

function_kept : (f : Function) → function_piece (bare_function as_is f) ≡ function_piece f
function_kept function.If = refl
function_kept (function.Named text) = refl

pub call_kept : (k : Call E1) → parts.call_pieces expr_pieces (bare_call as_is bare (call_at k)) ≡ parts.call_pieces expr_pieces (call_at k)
call_kept k = λ i. function_kept k.function i ∷ call_brackets (if_so k.distinct (word r.Distinct ∷ []) ++ star_kept k.star k.arguments i ++ if_there nulls_part_pieces k.nulls ++ order_kept k.order i ++ call_limit k.limit)

abbrev when_at : When E1 → When Expr
when_at x = record { test = x.test.0; result = x.result.0 }

pub whens_kept : (bs : List (When E1)) → run (parts.when_pieces expr_pieces) (map (bare_when bare) (map when_at bs)) ≡ run (parts.when_pieces expr_pieces) (map when_at bs)
whens_kept [] = refl
whens_kept (x ∷ bs) = λ i. ((word r.When ∷ (x.test.1 i).pieces) ++ word r.Then ∷ (x.result.1 i).pieces) ++ whens_kept bs i

abbrev optional_at : Option E1 → Option Expr
optional_at = shapes.former-Expr-Case-0.map E1 Expr at1

pub maybe_kept : (f : List Piece → List Piece) (a : Option E1) → if_there (λ x. f (expr_pieces x)) (option_map bare (optional_at a)) ≡ if_there (λ x. f (expr_pieces x)) (optional_at a)
maybe_kept f None = refl
maybe_kept f (Some x) = λ i. f (x.1 i).pieces

abbrev aliased_at : Aliased E1 → Aliased Expr
aliased_at x = record { expr = x.expr.0; alias = x.alias }

pub aliased_kept : (xs : List (Aliased E1)) → map (parts.aliased_pieces expr_pieces) (map (bare_aliased as_is bare) (map aliased_at xs)) ≡ map (parts.aliased_pieces expr_pieces) (map aliased_at xs)
aliased_kept [] = refl
aliased_kept (x ∷ xs) = λ i. ((x.expr.1 i).pieces ++ alias_kept x.alias i) ∷ aliased_kept xs i

abbrev binding_at : Binding E1 → Binding Expr
binding_at x = record { name = x.name; expr = x.expr.0 }

pub bindings_kept : (bs : List (Binding E1)) → map (parts.binding_pieces expr_pieces) (map (bare_binding as_is bare) (map binding_at bs)) ≡ map (parts.binding_pieces expr_pieces) (map binding_at bs)
bindings_kept [] = refl
bindings_kept (x ∷ bs) = λ i. (name x.name.text ∷ word r.As ∷ (x.expr.1 i).pieces) ∷ bindings_kept bs i
