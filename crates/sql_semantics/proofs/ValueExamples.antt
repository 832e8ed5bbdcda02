-- Worked examples of meaning: faults, what is caught, casts, and IN.
use Rattle.std.proofs.Common.{◌≡◌, refl, pos, negsuc, Bool, true, false, [], ◌∷◌, codes, Ok, Err}
use denote.Hole.Carrier.{out}
use Rattle.sql_types.specs.declared.fault.FaultKind.{FaultKind}
use Rattle.sql_types.specs.declared.fault.FaultKind.TheVariants as fault
use Rattle.sql_types.specs.declared.sql_type.SqlType.TheVariants as ty
use Rattle.sql_types.specs.declared.value.Value.{Value, out-Value}
use Rattle.sql_types.specs.declared.value.Value.TheVariants as v
use Rattle.sql_types.specs.Outcome.{Outcome, Meaning}
use Rattle.sql_ast.specs.declared.expr.Expr.{Expr, out-Expr}
use Rattle.sql_ast.specs.declared.expr.Expr.TheVariants as e
use Rattle.sql_ast.specs.declared.expr.Signed.TheVariants as signed
use Rattle.sql_ast.specs.declared.type_spelling.TypeSpelling.TheVariants as spelling
use Rattle.sql_coerce.specs.Casts.{converted}
use Rattle.sql_builtins.specs.declared.sig.SigId.TheVariants as sig
use Rattle.sql_builtins.specs.Applies.{apply}
use Rattle.sql_numbers.specs.Integers.{or_null}
use Rattle.sql_semantics.specs.Environments.{empty_env}
use Rattle.sql_semantics.specs.Meanings.{MeansExpr}
use Rattle.sql_semantics.proofs.Trees.{named, sum, call}
use Rattle.sql_semantics.proofs.SmallCatalog.{three_tables, three_rows}
use Rattle.sql_semantics.proofs.Computing.{trees, types, values, opens, typing}
use Rattle.sql_semantics.proofs.ChoiceExamples.{plus_numbers, div_numbers, iferror_number}
use Rattle.sql_semantics.proofs.OnlyLaws.{Only, only_as, only_just, only_then, only_fault, only_nothing, only_more, no_value}
use Rattle.sql_semantics.proofs.MeantExamples.{same_one}
use Rattle.sql_semantics.proofs.Evaluating.{meaning}
use Rattle.sql_forms.specs.Conditions.{Caught, caught, no_fault}

-- what an expression permits over these tables, with nothing in sight
abbrev means : Expr → Meaning Value
means x = MeansExpr three_tables [] [] three_rows [] x empty_env

-- ---- numbers

same_greatest : converted ty.Int64 ty.Int64 (v.Int (pos 9223372036854775807)) ≡ Ok (v.Int (pos 9223372036854775807))
same_greatest = simp (opens, types, values)

past : apply sig.AddInt64 (v.Int (pos 9223372036854775807) ∷ v.Int (pos 1) ∷ []) ≡ Err fault.OutOfRange
unfolding out-Value out
past = refl

-- `9223372036854775807 + 1`
past_the_greatest : Only (means (sum 7 (e.Integer 9223372036854775807 7) 27 (e.Integer 1 29))) (Err fault.OutOfRange)
past_the_greatest =
    simp (meaning, typing, trees, plus_numbers) (only_then (only_more (only_then (only_just _) (only_as same_greatest)) (only_more (only_then (only_just _) (only_as same_one)) only_nothing)) (only_as past))

-- `-9223372036854775808`
least : Only (means (e.Unary (record { operator = signed.Minus; place = 7 } ∷ []) (e.Integer 9223372036854775808 8) 7)) (Ok (v.Int (negsuc 9223372036854775807)))
unfolding out-Expr out
least = simp (meaning, typing, trees) (only_just _)

-- ---- IFERROR

caught_alone : {m n : Meaning Value} {f : FaultKind} {o : Outcome Value} → Only m (Err f) → Only n o → (p : Outcome Value) → Caught m n p → p ≡ o
caught_alone first second p (no_fault given) = absurd (no_value (first.alone _ given))
caught_alone first second p (caught given more) = second.alone p more

only_caught : {m n : Meaning Value} {f : FaultKind} {o : Outcome Value} → Only m (Err f) → Only n o → Only (Caught m n) o
only_caught first second = record { given = caught first.given second.given; alone = caught_alone first second }

same_zero : converted ty.Int64 ty.Int64 (v.Int (pos 0)) ≡ Ok (v.Int (pos 0))
same_zero = simp (opens, types, values)

same_seven : converted ty.Int64 ty.Int64 (v.Int (pos 7)) ≡ Ok (v.Int (pos 7))
same_seven = simp (opens, types, values)

by_zero : apply sig.DivInt64 (v.Int (pos 1) ∷ v.Int (pos 0) ∷ []) ≡ Err fault.DivisionByZero
unfolding out-Value out
by_zero = refl

-- `IFERROR(DIV(1, 0), 7)`
seven : Only (means (call (codes "IFERROR") (call (codes "DIV") (e.Integer 1 19 ∷ e.Integer 0 22 ∷ []) 15 ∷ e.Integer 7 26 ∷ []) 7)) (Ok (v.Int (pos 7)))
seven =
    simp (meaning, typing, trees, div_numbers, iferror_number)
    (only_caught (only_fault (only_then (only_more (only_then (only_just _) (only_as same_one)) (only_more (only_then (only_just _) (only_as same_zero)) only_nothing)) (only_as by_zero))) (only_then (only_just _) (only_as same_seven)))

-- ---- CAST

no_number : converted ty.Text ty.Int64 (v.Text (codes "x")) ≡ Err fault.Cast
no_number = simp (opens, types, values)

abbrev cast_x : Bool → Expr
cast_x safe = e.Cast safe (e.Text (codes "x") 12) (spelling.Name (named (codes "INT64") 19)) 7

-- `CAST('x' AS INT64)`
cast_faults : Only (means (cast_x false)) (Err fault.Cast)
cast_faults = simp (meaning, typing, trees, no_number) (only_then (only_just _) (only_as no_number))

-- `SAFE_CAST('x' AS INT64)`
safe_null : or_null (converted ty.Text ty.Int64 (v.Text (codes "x"))) ≡ Ok v.Null
safe_null = simp (or_null, no_number)

cast_safe : Only (means (cast_x true)) (Ok v.Null)
cast_safe = simp (meaning, typing, trees, no_number) (only_then (only_just _) (only_as safe_null))
