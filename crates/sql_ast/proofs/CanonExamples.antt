-- Worked examples of the canonical print, by computation: each construct over the prints of its parts.
use Rattle.std.proofs.Common.{◌≡◌, refl, ℕ, true, false, List, [], ◌∷◌, codes, Option, None, Some}
use Rattle.sql_names.specs.Words.{reserved_of}
use Rattle.sql_names.specs.Spelling.{is_plain, escaped}
use Rattle.sql_ast.specs.Words.{word_of}
use Rattle.sql_ast.specs.Marks.{same_reserved, same_word, same_sign}
use Rattle.sql_ast.specs.declared.clauses.Arg.TheVariants as arg
use Rattle.sql_ast.specs.declared.clauses.Function.TheVariants as function
use Rattle.sql_ast.specs.declared.expr.Comparison.TheVariants as comparison
use Rattle.sql_ast.specs.declared.expr.IndexForm.TheVariants as form
use Rattle.sql_ast.specs.declared.expr.Operator.TheVariants as operator
use Rattle.sql_ast.specs.declared.expr.Part.TheVariants as part
use Rattle.sql_ast.specs.declared.expr.Expr.TheOpen as ast
use Rattle.sql_ast.specs.Canon.{Print, expr_print}
use Rattle.sql_ast.specs.Pieces.{text_of, lexeme_text}

a : Print
a = expr_print (ast.Name (codes "a") 0)

b : Print
b = expr_print (ast.Name (codes "b") 0)

nested_not : text_of (expr_print (ast.Not (0 ∷ []) (expr_print (ast.Not (4 ∷ []) a 4)) 0)).pieces ≡ codes "NOT (NOT a)"
unfolding a lexeme_text is_plain reserved_of same_reserved same_sign
nested_not = refl

sum_of : Print → Print → Print
sum_of x y = expr_print (ast.Sum x (record { operator = operator.Add; operand = y; place = 0 } ∷ []) 0)

brackets_stay : text_of (sum_of (sum_of a b) a).pieces ≡ codes "(a + b) + a"
unfolding a b sum_of lexeme_text is_plain reserved_of same_reserved same_sign
brackets_stay = refl

no_brackets : text_of (expr_print (ast.Compare (sum_of a b) comparison.NotEqual 0 a 0)).pieces ≡ codes "a + b != a"
unfolding a b sum_of lexeme_text is_plain reserved_of same_reserved same_sign
no_brackets = refl

subscript : text_of (expr_print (ast.Postfix a (part.Index form.Offset b 0 ∷ []) 0)).pieces ≡ codes "a[OFFSET (b)]"
unfolding a b lexeme_text is_plain reserved_of same_reserved same_sign same_word
subscript = refl

reserved_field : text_of (expr_print (ast.Postfix a (part.Field (record { text = codes "select"; place = 0 }) ∷ []) 0)).pieces ≡ codes "a.`select`"
unfolding a lexeme_text is_plain reserved_of escaped same_reserved same_sign
reserved_field = refl

a_call : text_of (expr_print (ast.Call (record { function = function.If; distinct = false; star = false; arguments = arg.Expr a ∷ arg.Expr b ∷ arg.Expr a ∷ []; nulls = None; order = []; limit = None; place = 0 }) 0)).pieces ≡ codes "IF(a, b, a)"
unfolding a b lexeme_text is_plain reserved_of same_reserved same_sign
a_call = refl
