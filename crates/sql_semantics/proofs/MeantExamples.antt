-- Worked examples of meaning: expressions with the outcomes that they permit.
use Rattle.std.proofs.Common.{◌≡◌, ℕ, pos, Bool, false, List, [], ◌∷◌, codes, Ok, Err}
use Rattle.sql_types.specs.declared.fault.FaultKind.TheVariants as fault
use Rattle.sql_types.specs.declared.sql_type.SqlType.TheVariants as ty
use Rattle.sql_types.specs.declared.value.Value.{Value}
use Rattle.sql_types.specs.declared.value.Value.TheVariants as v
use Rattle.sql_types.specs.Outcome.{Meaning, gives, just, ◌>>=◌, Gather}
use Rattle.sql_coerce.specs.Casts.{converted}
use Rattle.sql_ast.specs.declared.expr.Expr.{Expr}
use Rattle.sql_ast.specs.declared.expr.Expr.TheVariants as e
use Rattle.sql_semantics.specs.Environments.{empty_env}
use Rattle.sql_semantics.specs.Meanings.{MeansExpr}
use Rattle.sql_semantics.proofs.Trees.{both, equals, call}
use Rattle.sql_semantics.proofs.SmallCatalog.{three_tables, three_rows}
use Rattle.sql_semantics.proofs.Computing.{trees, types, values, opens, typing}
use Rattle.sql_semantics.proofs.ChoiceExamples.{equal_untyped, error_of}
use Rattle.sql_semantics.proofs.OnlyLaws.{Only, only_as, only_first_faults, only_just, only_then, only_fault, only_nothing, only_more}
use Rattle.sql_semantics.proofs.TwoLaws.{Two, false_or_fault}
use Rattle.sql_semantics.proofs.Evaluating.{meaning}

-- what an expression permits over these tables, with nothing in sight
abbrev means : Expr → Meaning Value
means x = MeansExpr three_tables [] [] three_rows [] x empty_env

-- ---- conversions to the own type

pub same_text : (text : List ℕ) → converted ty.Text ty.Text (v.Text text) ≡ Ok (v.Text text)
same_text text = simp (opens, types, values)

pub same_truth : (b : Bool) → converted ty.Bool ty.Bool (v.Bool b) ≡ Ok (v.Bool b)
same_truth b = simp (opens, types, values)

pub same_one : converted ty.Int64 ty.Int64 (v.Int (pos 1)) ≡ Ok (v.Int (pos 1))
same_one = simp (opens, types, values)

-- ---- `SELECT FALSE AND ERROR('x') = 1`

abbrev error_x : Expr
error_x = call (codes "ERROR") (e.Text (codes "x") 23 ∷ []) 17

abbrev error_is_one : Expr
error_is_one = equals 17 error_x 28 (e.Integer 1 30)

-- a call of ERROR, as its row says it
pub error_row : (text : List ℕ) → Only {A = Value} (Gather ((gives (v.Text text) >>= (λ x. just (converted ty.Text ty.Text x))) ∷ []) >>= (λ xs. just (Err fault.User))) (Err fault.User)
error_row text = only_then (only_more (only_then (only_just _) (only_as (same_text text))) only_nothing) (only_just _)

always_user : Only (means error_x) (Err fault.User)
always_user = simp (meaning, typing, trees, error_of) (error_row _)

abbrev pub number_one : Meaning Value
number_one = gives (v.Int (pos 1)) >>= (λ x. just (converted ty.Int64 ty.Int64 x))

pub only_one : Only number_one (Ok (v.Int (pos 1)))
only_one = only_then (only_just _) (only_as same_one)

faulty_equation : Only (means error_is_one) (Err fault.User)
faulty_equation = simp (meaning, typing, trees, error_of, equal_untyped) (only_fault (only_first_faults (only_fault (error_row _)) (only_more only_one only_nothing)))

-- it permits FALSE and the fault USER, and nothing else
false_and_error : Two (means (both 7 (e.Bool false 7) 13 error_is_one)) (Ok (v.Bool false)) (Err fault.User)
false_and_error = simp (meaning, typing, trees, error_of, equal_untyped)
    (false_or_fault (only_then (only_just _) (only_as (same_truth _))) (only_fault (only_fault (only_first_faults (only_fault (error_row _)) (only_more only_one only_nothing)))))
