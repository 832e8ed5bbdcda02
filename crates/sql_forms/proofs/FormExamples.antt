-- Worked examples of the forms.
use Rattle.std.proofs.Common.{◌≡◌, ℕ, [], ◌∷◌, Ok, Err, refl}
use Rattle.std.specs.Prelude.{Bool, true, false, pos}
use denote.Hole.Carrier.{out}
use Rattle.sql_types.specs.declared.fault.FaultKind.TheVariants as fault
use Rattle.sql_types.specs.declared.value.Value.{Value, out-Value}
use Rattle.sql_types.specs.declared.value.Value.TheVariants as value
use Rattle.sql_ast.specs.declared.expr.IndexForm.TheVariants as form
use Rattle.sql_types.specs.Outcome.{Meaning, gives, ◌>>=◌}
use Rattle.sql_forms.specs.Conditions.{case_means, if_means, is_true, pick}
use Rattle.sql_forms.specs.Rows.{kept, single}
use Rattle.sql_forms.specs.Subscripts.{before_element, element_at}

-- a scalar subquery of no row, of one, and of two
pub single_none : single [] ≡ Ok value.Null
single_none = refl

pub single_one : (x : Value) → single (x ∷ []) ≡ Ok x
single_one x = refl

pub single_two : (x y : Value) → single (x ∷ y ∷ []) ≡ Err fault.ScalarRows
single_two x y = refl

-- a test that is NULL keeps nothing
pub kept_true : (x y z : ℕ) → kept (x ∷ y ∷ z ∷ []) (value.Bool true ∷ value.Null ∷ value.Bool false ∷ []) ≡ x ∷ []
unfolding out-Value out
kept_true x y z = refl

-- OFFSET counts from 0 and ORDINAL from 1
pub offset_first : (x y : Value) → element_at form.Offset (x ∷ y ∷ []) (before_element form.Offset (pos 0)) ≡ Ok x
offset_first x y = refl

pub ordinal_first : (x y : Value) → element_at form.Ordinal (x ∷ y ∷ []) (before_element form.Ordinal (pos 1)) ≡ Ok x
ordinal_first x y = refl

-- outside of the array the plain forms fault, and the SAFE_ forms give NULL
pub ordinal_outside : (x : Value) → element_at form.Ordinal (x ∷ []) (before_element form.Ordinal (pos 0)) ≡ Err fault.Index
ordinal_outside x = refl

pub safe_outside : (x : Value) → element_at form.SafeOffset (x ∷ []) (before_element form.SafeOffset (pos 1)) ≡ Ok value.Null
safe_outside x = refl

-- CASE: the first result whose test is TRUE, then what holds else, and NULL where nothing does
pub case_else : (test result last : Meaning Value) → case_means (test ∷ result ∷ last ∷ []) ≡ (test >>= (λ b. pick (is_true b) result last))
case_else test result last = refl

pub case_nothing : (test result : Meaning Value) → case_means (test ∷ result ∷ []) ≡ (test >>= (λ b. pick (is_true b) result (gives value.Null)))
case_nothing test result = refl

-- IF: what stands second where the test is TRUE, else what stands third
pub if_chooses : (test x y : Meaning Value) → if_means (test ∷ x ∷ y ∷ []) ≡ (test >>= (λ b. pick (is_true b) x y))
if_chooses test x y = refl

pub null_is_no_truth : (x y : Meaning Value) → pick (is_true value.Null) x y ≡ y
unfolding out-Value out
null_is_no_truth x y = refl
