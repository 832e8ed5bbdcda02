-- What the productions make of their parts.
use Rattle.std.specs.Prelude.{ℕ, Bool, true, false, List, [], ◌∷◌, Option, Some, None}
use Rattle.sql_types.specs.declared.kinds.SetKind.{SetKind}
use Rattle.sql_types.specs.declared.kinds.SetKind.TheVariants as set
use Rattle.sql_names.specs.declared.words.Reserved.{Reserved}
use Rattle.sql_names.specs.declared.words.Reserved.TheVariants as r
use Rattle.sql_ast.specs.declared.words.Sign.{Sign}
use Rattle.sql_ast.specs.declared.words.Sign.TheVariants as s
use Rattle.sql_ast.specs.declared.words.Word.{Word}
use Rattle.sql_ast.specs.declared.words.Word.TheVariants as w
use Rattle.sql_ast.specs.declared.token.Token.{Token}
use Rattle.sql_ast.specs.declared.token.Lexeme.{Lexeme}
use Rattle.sql_ast.specs.declared.token.Lexeme.TheVariants as l
use Rattle.sql_ast.specs.declared.clauses.Name.{Name}
use Rattle.sql_ast.specs.declared.clauses.Function.{Function}
use Rattle.sql_ast.specs.declared.clauses.Function.TheVariants as function
use Rattle.sql_ast.specs.declared.expr.Comparison.{Comparison}
use Rattle.sql_ast.specs.declared.expr.Comparison.TheVariants as comparison
use Rattle.sql_ast.specs.declared.expr.Expr.{Expr, out-Expr}
use Rattle.sql_ast.specs.declared.expr.Expr.TheVariants as e
use Rattle.sql_ast.specs.declared.expr.Expr.TheOpen.{Expr-F, Primary-F}
use Rattle.sql_ast.specs.declared.expr.Link.{Link}
use Rattle.sql_ast.specs.declared.expr.Operator.{Operator}
use Rattle.sql_ast.specs.declared.expr.Operator.TheVariants as operator
use Rattle.sql_ast.specs.declared.expr.Prefix.{Prefix}
use Rattle.sql_ast.specs.declared.expr.Signed.{Signed}
use Rattle.sql_ast.specs.declared.expr.Signed.TheVariants as signed
use Rattle.sql_ast.specs.declared.expr.Quantifier.{Quantifier}
use Rattle.sql_ast.specs.declared.expr.Quantifier.TheVariants as quantifier
use Rattle.sql_ast.specs.declared.expr.IsTest.{IsTest}
use Rattle.sql_ast.specs.declared.expr.IsTest.TheVariants as test
use Rattle.sql_ast.specs.declared.expr.IndexForm.{IndexForm}
use Rattle.sql_ast.specs.declared.expr.IndexForm.TheVariants as form
use Rattle.sql_ast.specs.declared.expr.Part.{Part}
use Rattle.sql_ast.specs.declared.grouping.CubeKind.{CubeKind}
use Rattle.sql_ast.specs.declared.grouping.CubeKind.TheVariants as cube
use Rattle.sql_ast.specs.declared.query.Primary.{Primary, out-Primary}
use Rattle.sql_ast.specs.Marks.{spelled}

-- ---- names and words

-- a name where it is written
unfoldable pub name_at : Token → Name
name_at t = record { text = spelled t; place = t.start }

-- IF, or the name of a function
abbrev pub function_lexeme : Lexeme → Option Function
function_lexeme (l.Reserved r.If) = Some function.If
function_lexeme (l.Name n o) = Some (function.Named n)
function_lexeme _ = None

abbrev pub function_of : Token → Option Function
function_of t = function_lexeme t.lexeme

abbrev pub prefix_sign : Sign → Option Signed
prefix_sign s.Plus = Some signed.Plus
prefix_sign s.Minus = Some signed.Minus
prefix_sign s.Tilde = Some signed.Flip
prefix_sign _ = None

abbrev pub prefix_lexeme : Lexeme → Option Signed
prefix_lexeme (l.Sign x) = prefix_sign x
prefix_lexeme _ = None

abbrev pub prefix_of : Token → Option Signed
prefix_of t = prefix_lexeme t.lexeme

-- the operators of products and sums
abbrev pub product_sign : Sign → Option Operator
product_sign s.Star = Some operator.Multiply
product_sign s.BarBar = Some operator.Concat
product_sign _ = None

abbrev pub product_lexeme : Lexeme → Option Operator
product_lexeme (l.Sign x) = product_sign x
product_lexeme _ = None

abbrev pub product_of : Token → Option Operator
product_of t = product_lexeme t.lexeme

abbrev pub sum_sign : Sign → Option Operator
sum_sign s.Plus = Some operator.Add
sum_sign s.Minus = Some operator.Subtract
sum_sign _ = None

abbrev pub sum_lexeme : Lexeme → Option Operator
sum_lexeme (l.Sign x) = sum_sign x
sum_lexeme _ = None

abbrev pub sum_of : Token → Option Operator
sum_of t = sum_lexeme t.lexeme

abbrev pub comparison_sign : Sign → Option Comparison
comparison_sign s.Equal = Some comparison.Equal
comparison_sign s.BangEqual = Some comparison.NotEqual
comparison_sign s.LessGreater = Some comparison.NotEqual
comparison_sign s.Less = Some comparison.Less
comparison_sign s.LessEqual = Some comparison.LessEqual
comparison_sign s.Greater = Some comparison.Greater
comparison_sign s.GreaterEqual = Some comparison.GreaterEqual
comparison_sign _ = None

abbrev pub comparison_lexeme : Lexeme → Option Comparison
comparison_lexeme (l.Sign x) = comparison_sign x
comparison_lexeme _ = None

abbrev pub comparison_of : Token → Option Comparison
comparison_of t = comparison_lexeme t.lexeme

abbrev pub quantifier_lexeme : Lexeme → Option Quantifier
quantifier_lexeme (l.Reserved r.Any) = Some quantifier.Any
quantifier_lexeme (l.Reserved r.Some) = Some quantifier.Some
quantifier_lexeme (l.Reserved r.All) = Some quantifier.All
quantifier_lexeme _ = None

abbrev pub quantifier_of : Token → Option Quantifier
quantifier_of t = quantifier_lexeme t.lexeme

abbrev pub test_lexeme : Lexeme → Option IsTest
test_lexeme (l.Reserved r.Null) = Some test.Null
test_lexeme (l.Reserved r.True) = Some test.True
test_lexeme (l.Reserved r.False) = Some test.False
test_lexeme _ = None

abbrev pub test_of : Token → Option IsTest
test_of t = test_lexeme t.lexeme

abbrev pub form_word : Word → Option IndexForm
form_word w.Offset = Some form.Offset
form_word w.Ordinal = Some form.Ordinal
form_word w.SafeOffset = Some form.SafeOffset
form_word w.SafeOrdinal = Some form.SafeOrdinal
form_word _ = None

abbrev pub form_spelled : Option Word → Option IndexForm
form_spelled None = None
form_spelled (Some x) = form_word x

abbrev pub form_lexeme : Lexeme → Option IndexForm
form_lexeme (l.Name n o) = form_spelled o
form_lexeme _ = None

abbrev pub form_of : Token → Option IndexForm
form_of t = form_lexeme t.lexeme

abbrev pub cube_lexeme : Lexeme → Option CubeKind
cube_lexeme (l.Reserved r.Rollup) = Some cube.Rollup
cube_lexeme (l.Reserved r.Cube) = Some cube.Cube
cube_lexeme _ = None

abbrev pub cube_of : Token → Option CubeKind
cube_of t = cube_lexeme t.lexeme

-- the two words of a set operation
abbrev pub set_word : SetKind → Reserved
set_word set.UnionAll = r.Union
set_word set.UnionDistinct = r.Union
set_word set.IntersectAll = r.Intersect
set_word set.IntersectDistinct = r.Intersect
set_word set.ExceptAll = r.Except
set_word set.ExceptDistinct = r.Except

abbrev pub set_quantifier : SetKind → Reserved
set_quantifier set.UnionAll = r.All
set_quantifier set.UnionDistinct = r.Distinct
set_quantifier set.IntersectAll = r.All
set_quantifier set.IntersectDistinct = r.Distinct
set_quantifier set.ExceptAll = r.All
set_quantifier set.ExceptDistinct = r.Distinct

-- ---- expressions

unfoldable pub link : Operator → Token → Expr → Link Expr
link o t a = record { operator = o; operand = a; place = t.start }

-- a chain of one operand is that operand
unfoldable pub chain : (Expr → List (Link Expr) → ℕ → Expr) → Expr → List (Link Expr) → ℕ → Expr
chain make first [] place = first
chain make first (x ∷ xs) place = make first (x ∷ xs) place

-- a run of no NOT is its operand, and begins at the first
unfoldable pub nots : List ℕ → Expr → Expr
nots [] a = a
nots (p ∷ ps) a = e.Not (p ∷ ps) a p

-- so is a run of no prefix
unfoldable pub prefixes : List Prefix → Expr → Expr
prefixes [] a = a
prefixes (p ∷ ps) a = e.Unary (p ∷ ps) a p.place

-- a postfix without parts is its first part
unfoldable pub path : Expr → List (Part Expr) → ℕ → Expr
path a [] place = a
path a (p ∷ ps) place = e.Postfix a (p ∷ ps) place

-- an expression that is a subquery: a query in brackets, and nothing else
abbrev pub subquery_layer : {E P T F J Q S : Type 0} → Expr-F E P T F J Q S → Bool
subquery_layer (Expr-F.Scalar q p) = true
subquery_layer _ = false

unfoldable pub is_subquery : Expr → Bool
is_subquery a = subquery_layer (out-Expr a)

-- one expression alone, which is a subquery
unfoldable pub alone : List Expr → Bool
alone [] = false
alone (a ∷ []) = is_subquery a
alone (a ∷ b ∷ more) = false

-- ---- FROM

-- an item of FROM that may be joined without ON and USING: a path or UNNEST
unfoldable pub joins_freely : Primary → Bool
joins_freely a = elim (out-Primary a) [ Primary-F.Path ns n d p ↦ true | Primary-F.Unnest x n d p ↦ true | _ ↦ false ]
