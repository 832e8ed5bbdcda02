-- Forms that evaluate only what they choose, forms that catch faults, and IN. Each has a value for every list of operands, also for
-- those that no typed text has.
use Rattle.std.specs.Prelude.{Bool, true, false, List, [], ◌∷◌, map, None, Some, Ok, Err}
use Rattle.sql_types.specs.declared.fault.FaultKind.{FaultKind}
use Rattle.sql_types.specs.declared.value.Value.{Value, out-Value}
use Rattle.sql_types.specs.declared.value.Value.TheVariants as value
use Rattle.sql_types.specs.Before.{is_null}
use Rattle.sql_types.specs.Logic.{any_true, truth_of, of_truth, Decided}
use Rattle.sql_types.specs.Outcome.{Outcome, Meaning, gives, ◌>>=◌}
use Rattle.sql_types.specs.Same.{equal}

-- ---- choices

abbrev pub pick : {A : Type 0} → Bool → Meaning A → Meaning A → Meaning A
pick true x y = x
pick false x y = y

-- a truth value that is TRUE; NULL counts as FALSE
abbrev pub is_true : Value → Bool
is_true x = elim (truth_of x) [ None ↦ false | Some b ↦ b ]

abbrev pub is_null_value : Value → Bool
is_null_value x = is_null (out-Value x)

-- IF: the test, and then what it chooses
abbrev pub if_means : List (Meaning Value) → Meaning Value
if_means [] = gives value.Null
if_means (test ∷ []) = gives value.Null
if_means (test ∷ x ∷ []) = gives value.Null
if_means (test ∷ x ∷ y ∷ more) = test >>= (λ b. pick (is_true b) x y)

-- CASE: a test and a result again and again, and then what holds else, which is NULL where it is missing
abbrev pub case_means : List (Meaning Value) → Meaning Value
case_means [] = gives value.Null
case_means (last ∷ []) = last
case_means (test ∷ result ∷ more) = test >>= (λ b. pick (is_true b) result (case_means more))

-- COALESCE and IFNULL: from left to right until one isn't NULL
abbrev pub first_not_null : List (Meaning Value) → Meaning Value
first_not_null [] = gives value.Null
first_not_null (x ∷ xs) = x >>= (λ v. pick (is_null_value v) (first_not_null xs) (gives v))

-- ---- faults that are caught

-- IFERROR and NULLIFERROR: what the first gives, and in place of any fault of it the second
pub data Caught (first second : Meaning Value) : Outcome Value → Type 0 where
  no_fault : {x : Value} → first (Ok x) → Caught first second (Ok x)
  caught : {f : FaultKind} {o : Outcome Value} → first (Err f) → second o → Caught first second o

-- ISERROR
pub data Tried (first : Meaning Value) : Outcome Value → Type 0 where
  a_value : {x : Value} → first (Ok x) → Tried first (Ok (value.Bool false))
  a_fault : {f : FaultKind} → first (Err f) → Tried first (Ok (value.Bool true))

-- NULLIFERROR has no second, which is NULL then
abbrev pub caught_by : List (Meaning Value) → Meaning Value
caught_by [] = gives value.Null
caught_by (x ∷ []) = Caught x (gives value.Null)
caught_by (x ∷ y ∷ more) = Caught x y

abbrev pub tried : List (Meaning Value) → Meaning Value
tried [] = gives value.Null
tried (x ∷ xs) = Tried x

-- ---- IN

-- whether a value is among others, by OR over equality: nothing gives FALSE
abbrev pub among : Value → List Value → Value
among x ys = of_truth (any_true (map (equal x) ys))

-- a written list: the search value once, and then OR over its equality with the elements
abbrev pub list_means : Meaning Value → List (Meaning Value) → Meaning Value
list_means search elements = search >>= (λ x. Decided true (map (λ m. m >>= (λ y. gives (of_truth (equal x y)))) elements))
