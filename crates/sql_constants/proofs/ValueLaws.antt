-- The constant that a text is, as a function.
use Rattle.std.proofs.Common.{◌≡◌, ℕ, true, List, Option, Some, subst}
use Rattle.sql_types.specs.Fits.{fits}
use Rattle.sql_types.specs.declared.sql_type.SqlType.{SqlType}
use Rattle.sql_types.specs.declared.value.Value.{Value}
use Rattle.sql_constants.specs.Constants.{ConstantText}
use Rattle.sql_constants.specs.Values.{constant_value}
use Rattle.sql_constants.proofs.Texts.{value_holds, constant_once}
use Rattle.sql_constants.proofs.FitLaws.{constant_fits}

-- whatever is found in a text is its value
pub value_is : (type : SqlType) (text : List ℕ) (found : Option Value) → ConstantText type text found → constant_value type text ≡ found
value_is type text found d = constant_once type text (constant_value type text) found (value_holds type text) d

-- and it fits the type
pub value_fits : (type : SqlType) (text : List ℕ) (x : Value) → constant_value type text ≡ Some x → fits type x ≡ true
value_fits type text x is = constant_fits type text x (subst (λ (found : Option Value). ConstantText type text found) is (value_holds type text))
