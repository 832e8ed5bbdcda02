-- What the rows of arithmetic give, by how their type makes a number its own.
use Rattle.std.proofs.Common.{ℤ, pos, neg_ℤ, ◌+ℤ◌, ◌-ℤ◌, ◌*ℤ◌, Bool, true, false, List, [], ◌∷◌, Ok, Err}
use Rattle.std.specs.Prelude.{nat_abs, int_div, int_rem, if◌then◌else◌}
use Rattle.std.specs.Int.{int_signum}
use Rattle.sql_types.specs.declared.sql_type.SqlType.{SqlType}
use Rattle.sql_types.specs.declared.sql_type.SqlType.TheVariants as ty
use Rattle.sql_types.specs.declared.value.Value.{Value}
use Rattle.sql_types.specs.declared.fault.FaultKind.TheVariants as fault
use Rattle.sql_types.specs.Outcome.{Outcome}
use Rattle.sql_types.specs.Takes.{strict, number, as_int64}
use Rattle.sql_numbers.specs.Integers as i
use Rattle.sql_gives.proofs.GivesLaws.{Gives, null_fits, strict_gives, int64_gives}

-- ---- functions of numbers

one_gives : (type : SqlType) (f : ℤ → Outcome Value) (values : List Value) → ((a : ℤ) → Gives type (f a)) → Gives type (i.of_one f values)
one_gives type f (x ∷ []) each = each (number x)
one_gives type f [] each = null_fits type
one_gives type f (x ∷ y ∷ more) each = null_fits type

two_gives : (type : SqlType) (f : ℤ → ℤ → Outcome Value) (values : List Value) → ((a b : ℤ) → Gives type (f a b)) → Gives type (i.of_two f values)
two_gives type f (x ∷ y ∷ []) each = each (number x) (number y)
two_gives type f [] each = null_fits type
two_gives type f (x ∷ []) each = null_fits type
two_gives type f (x ∷ y ∷ z ∷ more) each = null_fits type

pub number_gives : (type : SqlType) (f : ℤ → Outcome Value) → ((a : ℤ) → Gives type (f a)) → (values : List Value) → Gives type (strict (i.of_one f) values)
number_gives type f each values = strict_gives type (i.of_one f) values (one_gives type f values each)

pub numbers_give : (type : SqlType) (f : ℤ → ℤ → Outcome Value) → ((a b : ℤ) → Gives type (f a b)) → (values : List Value) → Gives type (strict (i.of_two f) values)
numbers_give type f each values = strict_gives type (i.of_two f) values (two_gives type f values each)

zero_by : (type : SqlType) (b : Bool) (o : Outcome Value) → Gives type o → Gives type (if b then Err fault.DivisionByZero else o)
zero_by type true o gives = tt
zero_by type false o gives = gives

unless_zero_gives : (type : SqlType) (b : ℤ) (o : Outcome Value) → Gives type o → Gives type (i.unless_zero b o)
unless_zero_gives type b o gives = zero_by type _ o gives

or_null_gives : (type : SqlType) (o : Outcome Value) → Gives type o → Gives type (i.or_null o)
or_null_gives type (Ok x) gives = gives
or_null_gives type (Err f) gives = null_fits type

-- ---- the rows

-- what makes each number one of the type, or a fault
abbrev pub Makes : SqlType → (ℤ → Outcome Value) → Type 0
Makes type make = (n : ℤ) → Gives type (make n)

pub add_gives : (type : SqlType) (make : ℤ → Outcome Value) → Makes type make → (values : List Value) → Gives type (i.apply_add make values)
add_gives type make each = numbers_give type (λ a b. make (a +ℤ b)) (λ a b. each (a +ℤ b))

pub sub_gives : (values : List Value) → Gives ty.Int64 (i.apply_sub values)
sub_gives = numbers_give ty.Int64 (λ a b. as_int64 (a -ℤ b)) (λ a b. int64_gives (a -ℤ b))

pub mul_gives : (type : SqlType) (make : ℤ → Outcome Value) → Makes type make → (values : List Value) → Gives type (i.apply_mul make values)
mul_gives type make each = numbers_give type (λ a b. make (a *ℤ b)) (λ a b. each (a *ℤ b))

pub neg_gives : (values : List Value) → Gives ty.Int64 (i.apply_neg values)
neg_gives = number_gives ty.Int64 (λ a. as_int64 (neg_ℤ a)) (λ a. int64_gives (neg_ℤ a))

pub pos_gives : (type : SqlType) (make : ℤ → Outcome Value) → Makes type make → (values : List Value) → Gives type (i.apply_pos make values)
pos_gives type make each = number_gives type make each

pub abs_gives : (values : List Value) → Gives ty.Int64 (i.apply_abs values)
abs_gives = number_gives ty.Int64 (λ a. as_int64 (pos (nat_abs a))) (λ a. int64_gives (pos (nat_abs a)))

pub sign_gives : (values : List Value) → Gives ty.Int64 (i.apply_sign values)
sign_gives = number_gives ty.Int64 (λ a. as_int64 (int_signum a)) (λ a. int64_gives (int_signum a))

pub div_gives : (type : SqlType) (make : ℤ → Outcome Value) → Makes type make → (values : List Value) → Gives type (i.apply_div make values)
div_gives type make each =
    numbers_give type (λ a b. i.unless_zero b (make (int_div a b))) (λ a b. unless_zero_gives type b (make (int_div a b)) (each (int_div a b)))

pub mod_gives : (type : SqlType) (make : ℤ → Outcome Value) → Makes type make → (values : List Value) → Gives type (i.apply_mod make values)
mod_gives type make each =
    numbers_give type (λ a b. i.unless_zero b (make (int_rem a b))) (λ a b. unless_zero_gives type b (make (int_rem a b)) (each (int_rem a b)))

pub safe_add_gives : (type : SqlType) (make : ℤ → Outcome Value) → Makes type make → (values : List Value) → Gives type (i.apply_safe_add make values)
safe_add_gives type make each values = or_null_gives type (i.apply_add make values) (add_gives type make each values)

pub safe_sub_gives : (values : List Value) → Gives ty.Int64 (i.apply_safe_subtract values)
safe_sub_gives values = or_null_gives ty.Int64 (i.apply_sub values) (sub_gives values)

pub safe_mul_gives : (type : SqlType) (make : ℤ → Outcome Value) → Makes type make → (values : List Value) → Gives type (i.apply_safe_multiply make values)
safe_mul_gives type make each values = or_null_gives type (i.apply_mul make values) (mul_gives type make each values)
