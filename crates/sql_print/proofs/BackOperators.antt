-- The operators of sums and of products are printed as one sign, which says them.
use Rattle.std.proofs.Common.{◌≡◌, Bool, true, false, [], ◌∷◌, Option, Some, None, refl, sym, ◌∙◌, ap}
use Rattle.sql_ast.specs.declared.words.Sign.{Sign}
use Rattle.sql_ast.specs.declared.words.Sign.TheVariants as s
use Rattle.sql_ast.specs.declared.token.Token.{Token}
use Rattle.sql_ast.specs.declared.token.Lexeme.{Lexeme}
use Rattle.sql_ast.specs.declared.token.Lexeme.TheVariants as l
use Rattle.sql_ast.specs.declared.expr.Operator.{Operator}
use Rattle.sql_ast.specs.declared.expr.Operator.TheVariants as operator
use Rattle.sql_ast.specs.Marks.{Says}
use Rattle.sql_ast.specs.Trees.{sum_of, sum_lexeme, sum_sign, product_of, product_lexeme, product_sign}
use Rattle.sql_ast.specs.Canon.{operator_piece, operator_pieces}

never : {A : Type 0} → false ≡ true → A
never h = absurd (let g : true ≡ false = sym h in cc)

abbrev only_sum : Option Operator → Bool
only_sum None = true
only_sum (Some operator.Add) = true
only_sum (Some operator.Subtract) = true
only_sum (Some _) = false

sum_signs : (y : Sign) → only_sum (sum_sign y) ≡ true
sum_signs s.Plus = refl
sum_signs _ = refl

sum_lexemes : (x : Lexeme) → only_sum (sum_lexeme x) ≡ true
sum_lexemes (l.Sign y) = sum_signs y
sum_lexemes _ = refl

pub sum_kept : (t : Token) (o : Operator) → Says sum_of t o → only_sum (Some o) ≡ true
sum_kept t o i = ap only_sum (sym i.is) ∙ sum_lexemes t.lexeme

-- such an operator is printed as one sign, which says it
pub sum_said : (o : Operator) → only_sum (Some o) ≡ true → (operator_pieces o ≡ operator_piece o ∷ []) × (sum_lexeme (operator_piece o).lexeme ≡ Some o)
sum_said operator.Add h = (refl, refl)
sum_said operator.Subtract h = (refl, refl)
sum_said _ h = never h

abbrev only_product : Option Operator → Bool
only_product None = true
only_product (Some operator.Multiply) = true
only_product (Some operator.Concat) = true
only_product (Some _) = false

product_signs : (y : Sign) → only_product (product_sign y) ≡ true
product_signs s.Star = refl
product_signs _ = refl

product_lexemes : (x : Lexeme) → only_product (product_lexeme x) ≡ true
product_lexemes (l.Sign y) = product_signs y
product_lexemes _ = refl

pub product_kept : (t : Token) (o : Operator) → Says product_of t o → only_product (Some o) ≡ true
product_kept t o i = ap only_product (sym i.is) ∙ product_lexemes t.lexeme

-- such an operator is printed as one sign, which says it
pub product_said : (o : Operator) → only_product (Some o) ≡ true → (operator_pieces o ≡ operator_piece o ∷ []) × (product_lexeme (operator_piece o).lexeme ≡ Some o)
product_said operator.Multiply h = (refl, refl)
product_said operator.Concat h = (refl, refl)
product_said _ h = never h
