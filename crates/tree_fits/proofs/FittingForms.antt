-- The forms that evaluate only what they choose, and those that catch faults: what they give is what an operand gives, or a BOOL.
use Rattle.std.proofs.Common.{◌≡◌, Bool, true, false, ◌&&◌, List, [], ◌∷◌, map, refl, sym, subst}
use Rattle.sql_types.specs.declared.sql_type.SqlType.{SqlType}
use Rattle.sql_types.specs.declared.sql_type.SqlType.TheVariants as ty
use Rattle.sql_types.specs.declared.value.Value.{Value}
use Rattle.sql_types.specs.declared.value.Value.TheVariants as value
use Rattle.sql_types.specs.Fits.{fits}
use Rattle.sql_types.specs.Logic.{of_truth, three_valued, all_true, any_true, truth_of, Decided, all_valued, one_decides, one_of_faults}
use Rattle.sql_types.specs.Outcome.{Outcome, Meaning, gives, ◌>>=◌, EachGives, Gather, all_give, one_faults}
use Rattle.sql_types.specs.SameType.{same_type}
use Rattle.sql_types.specs.Same.{equal}
use Rattle.sql_types.specs.Takes.{fits_types}
use Rattle.sql_gives.proofs.GivesLaws.{null_fits, bool_fits, truth_fits}
use Rattle.sql_forms.specs.Conditions.{pick, is_true, is_null_value, if_means, case_means, first_not_null, Caught, no_fault, caught, Tried, a_value, a_fault, caught_by, tried, among, list_means}
use Rattle.resolved_ast.specs.Flaws.{all_of_type, case_typed}
use Rattle.resolved_ast.specs.Signatures.{typed_as}
use Rattle.resolved_ast.proofs.FitLaws.{first_of, second_of}
use Rattle.tree_fits.proofs.Lists.{and_so}
use Rattle.tree_fits.proofs.SameTypes.{same_type_is}
use Rattle.tree_fits.proofs.Sure.{OfOk, Sure, sure_by, sure_value, sure_gives, sure_then, sure_behind}

-- the values of a type
abbrev pub Of : SqlType → Value → Type 0
Of type x = fits type x ≡ true

-- each operand gives values of its type
abbrev pub Operands : List SqlType → List (Meaning Value) → Type 0
Operands [] [] = Unit {0}
Operands [] (m ∷ ms) = ⊥
Operands (type ∷ types) [] = ⊥
Operands (type ∷ types) (m ∷ ms) = Sure m (Of type) × Operands types ms

-- they all give values of one type, or of these types as far as there are both
abbrev pub AllOf : SqlType → List (Meaning Value) → Type 0
AllOf type [] = Unit {0}
AllOf type (m ∷ ms) = Sure m (Of type) × AllOf type ms

abbrev pub FirstOf : List SqlType → List (Meaning Value) → Type 0
FirstOf [] ms = Unit {0}
FirstOf (type ∷ types) [] = Unit {0}
FirstOf (type ∷ types) (m ∷ ms) = Sure m (Of type) × FirstOf types ms

-- a test says that the first type is the other
pub of_same : (type other : SqlType) (m : Meaning Value) → same_type type other ≡ true → Sure m (Of other) → Sure m (Of type)
of_same type other m same s = subst (λ z. Sure m (Of z)) (sym (same_type_is type other same)) s

pub all_of : (type : SqlType) (types : List SqlType) (ms : List (Meaning Value)) → all_of_type type types ≡ true → Operands types ms → AllOf type ms
all_of type [] [] same each = tt
all_of type [] (m ∷ ms) same each = absurd each
all_of type (other ∷ types) [] same each = absurd each
all_of type (other ∷ types) (m ∷ ms) same each = (of_same type other m (first_of _ _ same) each.0, all_of type types ms (second_of _ _ same) each.1)

pub first_types : (tos types : List SqlType) (ms : List (Meaning Value)) → typed_as tos types ≡ true → Operands types ms → FirstOf tos ms
first_types [] types ms same each = tt
first_types (to ∷ tos) [] [] same each = tt
first_types (to ∷ tos) [] (m ∷ ms) same each = absurd each
first_types (to ∷ tos) (type ∷ types) [] same each = absurd each
first_types (to ∷ tos) (type ∷ types) (m ∷ ms) same each = (of_same to type m (first_of _ _ same) each.0, first_types tos types ms (second_of _ _ same) each.1)

-- ---- values that gather

pub values_fit : (types : List SqlType) (ms : List (Meaning Value)) (values : List Value) → Operands types ms → EachGives ms values → fits_types types values ≡ true
values_fit [] [] [] each given = refl
values_fit [] [] (x ∷ values) each given = absurd given
values_fit [] (m ∷ ms) values each given = absurd each
values_fit (type ∷ types) [] values each given = absurd each
values_fit (type ∷ types) (m ∷ ms) [] each given = absurd given
values_fit (type ∷ types) (m ∷ ms) (x ∷ values) each given = and_so _ _ (sure_value each.0 x given.0) (values_fit types ms values each.1 given.1)

gather_every : (types : List SqlType) (ms : List (Meaning Value)) → Operands types ms → (o : Outcome (List Value)) → Gather ms o → OfOk (λ values. fits_types types values ≡ true) o
gather_every types ms each o (all_give given) = values_fit types ms _ each given
gather_every types ms each o (one_faults fault) = tt

pub gather_fits : (types : List SqlType) (ms : List (Meaning Value)) → Operands types ms → Sure (Gather ms) (λ values. fits_types types values ≡ true)
gather_fits types ms each = sure_by (gather_every types ms each)

-- ---- truth values

valued_fits : (deciding : Bool) (values : List Value) → fits ty.Bool (three_valued deciding values) ≡ true
valued_fits false values = truth_fits (all_true (map truth_of values))
valued_fits true values = truth_fits (any_true (map truth_of values))

decided_every : (deciding : Bool) (ms : List (Meaning Value)) (o : Outcome Value) → Decided deciding ms o → OfOk (Of ty.Bool) o
decided_every deciding ms o (all_valued values given) = valued_fits deciding values
decided_every deciding ms o (one_decides some) = bool_fits deciding
decided_every deciding ms o (one_of_faults some) = tt

-- AND and OR
pub decided_fits : (deciding : Bool) (ms : List (Meaning Value)) → Sure (Decided deciding ms) (Of ty.Bool)
decided_fits deciding ms = sure_by (decided_every deciding ms)

-- IN
pub among_fits : (x : Value) (ys : List Value) → fits ty.Bool (among x ys) ≡ true
among_fits x ys = truth_fits (any_true (map (equal x) ys))

pub list_fits : (m : Meaning Value) (ms : List (Meaning Value)) → Sure (list_means m ms) (Of ty.Bool)
list_fits m ms = sure_behind (λ x. decided_fits true (map (λ n. n >>= (λ y. gives (of_truth (equal x y)))) ms))

tried_every : (m : Meaning Value) (o : Outcome Value) → Tried m o → OfOk (Of ty.Bool) o
tried_every m o (a_value given) = bool_fits false
tried_every m o (a_fault given) = bool_fits true

-- ISERROR
pub tried_fits : (ms : List (Meaning Value)) → Sure (tried ms) (Of ty.Bool)
tried_fits [] = sure_gives value.Null (null_fits ty.Bool)
tried_fits (m ∷ ms) = sure_by (tried_every m)

-- ---- choices

null_given : (type : SqlType) → Sure (gives value.Null) (Of type)
null_given type = sure_gives value.Null (null_fits type)

pick_fits : (type : SqlType) (b : Bool) (m n : Meaning Value) → Sure m (Of type) → Sure n (Of type) → Sure (pick b m n) (Of type)
pick_fits type true m n first second = first
pick_fits type false m n first second = second

-- IF
pub if_fits : (type : SqlType) (ms : List (Meaning Value)) → FirstOf (ty.Bool ∷ type ∷ type ∷ []) ms → Sure (if_means ms) (Of type)
if_fits type [] each = null_given type
if_fits type (test ∷ []) each = null_given type
if_fits type (test ∷ x ∷ []) each = null_given type
if_fits type (test ∷ x ∷ y ∷ ms) each = sure_behind (λ b. pick_fits type (is_true b) x y each.1.0 each.1.1.0)

-- CASE
pub case_fits : (type : SqlType) (types : List SqlType) (ms : List (Meaning Value)) → case_typed type types ≡ true → Operands types ms → Sure (case_means ms) (Of type)
case_fits type [] [] same each = null_given type
case_fits type [] (m ∷ ms) same each = absurd each
case_fits type (a ∷ types) [] same each = absurd each
case_fits type (a ∷ []) (m ∷ []) same each = of_same type a m same each.0
case_fits type (a ∷ []) (m ∷ n ∷ ms) same each = absurd each.1
case_fits type (a ∷ b ∷ types) (m ∷ []) same each = absurd each.1
case_fits type (a ∷ b ∷ types) (m ∷ n ∷ ms) same each =
    let both = first_of (same_type ty.Bool a && same_type type b) (case_typed type types) same in
    let rest = case_fits type types ms (second_of (same_type ty.Bool a && same_type type b) (case_typed type types) same) each.1.1 in
    sure_behind (λ x. pick_fits type (is_true x) n (case_means ms) (of_same type b n (second_of (same_type ty.Bool a) (same_type type b) both) each.1.0) rest)

-- COALESCE
pub first_fits : (type : SqlType) (ms : List (Meaning Value)) → AllOf type ms → Sure (first_not_null ms) (Of type)
first_fits type [] each = null_given type
first_fits type (m ∷ ms) each =
    let rest = first_fits type ms each.1 in
    sure_then each.0 (λ x fit. pick_fits type (is_null_value x) (first_not_null ms) (gives x) rest (sure_gives x fit))

-- IFERROR and NULLIFERROR
caught_every : (type : SqlType) (m n : Meaning Value) → Sure m (Of type) → Sure n (Of type) → (o : Outcome Value) → Caught m n o → OfOk (Of type) o
caught_every type m n first second o (no_fault given) = sure_value first _ given
caught_every type m n first second o (caught fault given) = second.every _ given

pub caught_fits : (type : SqlType) (ms : List (Meaning Value)) → AllOf type ms → Sure (caught_by ms) (Of type)
caught_fits type [] each = null_given type
caught_fits type (m ∷ []) each = sure_by (caught_every type m (gives value.Null) each.0 (null_given type))
caught_fits type (m ∷ n ∷ ms) each = sure_by (caught_every type m n each.0 each.1.0)
