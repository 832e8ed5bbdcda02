-- One row against the best so far.
use Rattle.std.proofs.Common.{◌≡◌, Bool, true, false, cond, List, [], ◌∷◌, length, Option, Some, None, refl, ap, sym, ◌∙◌, arith}
use Rattle.std.specs.Prelude.{◌&&◌, option_and_then}
use Rattle.sql_types.specs.declared.sql_type.SqlType.{SqlType}
use Rattle.sql_types.specs.declared.sql_type.SqlType.TheVariants as ty
use Rattle.sql_coerce.specs.declared.arg.Arg.{Arg}
use Rattle.sql_coerce.specs.Supertypes.{supertype}
use Rattle.sql_builtins.specs.declared.table.Slot.{Slot}
use Rattle.sql_builtins.specs.Table.{Signature}
use Rattle.sql_builtins.specs.Choices.{Cost, Applied, slot_type, target_types, places, meets, all_coerce, cost_of, is_common, is_element, is_array_of_element, standing, first_element, element_type, applied_by, applied_at, applied}
use Rattle.sql_builtins.specs.Steps.{cost_at, improves, better_than, at_end}
use Rattle.std.specs.List.{list_all}
use Rattle.sql_builtins.proofs.StepLaws.{cost_at-whole}
use Rattle.sql_builtins.proofs.ChoiceLaws.{as_applied}

-- ---- by the tests that a row passes

none-by : (best : Option Applied) (b : Bool) (x : Applied) → b ≡ false → None ≡ better_than best (cond b (Some x) None)
none-by best true x is = cc
none-by best false x is = refl

some-by : (best : Option Applied) (b : Bool) (x : Applied) → b ≡ true → better_than best (cond b (Some x) None) ≡ cond (improves best x.cost) (Some x) None
some-by best true x is = refl
some-by best false x is = cc

left-false : (a b : Bool) → a ≡ false → (a && b) ≡ false
left-false true b is = cc
left-false false b is = refl

right-false : (a b : Bool) → b ≡ false → (a && b) ≡ false
right-false true b is = is
right-false false b is = refl

pub both-true : (a b : Bool) → a ≡ true → b ≡ true → (a && b) ≡ true
both-true true b one two = two
both-true false b one two = one

cost-none : (all : Bool) (k : Cost) → cond all (Some k) None ≡ None → all ≡ false
cost-none true k is = cc
cost-none false k is = refl

cost-some : (all : Bool) (k c : Cost) → cond all (Some k) None ≡ Some c → (all ≡ true) × (k ≡ c)
cost-some true k c is = (refl, cc)
cost-some false k c is = absurd (let e : None ≡ Some c = is in cc)

-- a row whose open types aren't what it needs
pub better-needs : (best : Option Applied) (row : Signature) (arguments : List Arg) (slots : List Slot) (common element : SqlType) → (meets row.needs common && meets row.needs element) ≡ false → None ≡ better_than best (applied_by row arguments slots common element)
better-needs best row arguments slots common element is =
    none-by best ((meets row.needs common && meets row.needs element) && all_coerce arguments (target_types common element slots arguments)) (as_applied row arguments slots common element)
    (left-false (meets row.needs common && meets row.needs element) (all_coerce arguments (target_types common element slots arguments)) is)

-- a row to whose types not all arguments coerce
pub better-apart : (best : Option Applied) (row : Signature) (arguments : List Arg) (slots : List Slot) (common element : SqlType) → cost_at common element slots arguments ≡ None → None ≡ better_than best (applied_by row arguments slots common element)
better-apart best row arguments slots common element is =
    let targets = target_types common element slots arguments in
    none-by best ((meets row.needs common && meets row.needs element) && all_coerce arguments targets) (as_applied row arguments slots common element)
    (right-false (meets row.needs common && meets row.needs element) (all_coerce arguments targets) (cost-none (all_coerce arguments targets) (cost_of arguments targets) (sym (cost_at-whole common element slots arguments) ∙ is)))

by-cost : (best : Option Applied) (row : Signature) (arguments : List Arg) (slots : List Slot) (common element : SqlType) (cost : Cost) → (meets row.needs common && meets row.needs element) ≡ true → cost_at common element slots arguments ≡ Some cost → better_than best (applied_by row arguments slots common element) ≡ cond (improves best cost) (Some (record { choice = record { sig = row.sig; targets = target_types common element slots arguments; gives = slot_type common element ty.Int64 row.gives }; cost = cost })) None
by-cost best row arguments slots common element cost needs is =
    let targets = target_types common element slots arguments in
    let found = cost-some (all_coerce arguments targets) (cost_of arguments targets) cost (sym (cost_at-whole common element slots arguments) ∙ is) in
    some-by best ((meets row.needs common && meets row.needs element) && all_coerce arguments targets) (as_applied row arguments slots common element)
    (both-true (meets row.needs common && meets row.needs element) (all_coerce arguments targets) needs found.0)
    ∙ ap (λ (c : Cost). cond (improves best c) (Some (record { choice = record { sig = row.sig; targets = targets; gives = slot_type common element ty.Int64 row.gives }; cost = c })) None) found.1

-- a row that costs no less
pub better-worse : (best : Option Applied) (row : Signature) (arguments : List Arg) (slots : List Slot) (common element : SqlType) (cost : Cost) → (meets row.needs common && meets row.needs element) ≡ true → cost_at common element slots arguments ≡ Some cost → improves best cost ≡ false → None ≡ better_than best (applied_by row arguments slots common element)
better-worse best row arguments slots common element cost needs is worse =
    sym (by-cost best row arguments slots common element cost needs is
    ∙ ap (λ (b : Bool). cond b (Some (record { choice = record { sig = row.sig; targets = target_types common element slots arguments; gives = slot_type common element ty.Int64 row.gives }; cost = cost })) None) worse)

-- a row that costs less
pub better-found : (best : Option Applied) (row : Signature) (arguments : List Arg) (slots : List Slot) (common element : SqlType) (cost : Cost) (targets : List SqlType) (gives : SqlType) → (meets row.needs common && meets row.needs element) ≡ true → cost_at common element slots arguments ≡ Some cost → improves best cost ≡ true → targets ≡ target_types common element slots arguments → gives ≡ slot_type common element ty.Int64 row.gives → Some (record { choice = record { sig = row.sig; targets = targets; gives = gives }; cost = cost }) ≡ better_than best (applied_by row arguments slots common element)
better-found best row arguments slots common element cost targets gives needs is better targets_are gives_is =
    ap (λ (t : List SqlType). Some (record { choice = record { sig = row.sig; targets = t; gives = gives }; cost = cost })) targets_are
    ∙ ap (λ (g : SqlType). Some (record { choice = record { sig = row.sig; targets = target_types common element slots arguments; gives = g }; cost = cost })) gives_is
    ∙ sym (by-cost best row arguments slots common element cost needs is
    ∙ ap (λ (b : Bool). cond b (Some (record { choice = record { sig = row.sig; targets = target_types common element slots arguments; gives = slot_type common element ty.Int64 row.gives }; cost = cost })) None) better)

-- ---- by the open types

pub at-common-none : (best : Option Applied) (row : Signature) (arguments : List Arg) (slots : List Slot) → supertype (standing is_common slots arguments) ≡ None → None ≡ better_than best (applied_at row arguments slots)
at-common-none best row arguments slots is =
    ap (better_than best) (sym (ap (option_and_then (λ common. option_and_then (λ element. applied_by row arguments slots common element) (element_type slots arguments))) is))

by-common : (row : Signature) (arguments : List Arg) (slots : List Slot) (common : SqlType) → supertype (standing is_common slots arguments) ≡ Some common → applied_at row arguments slots ≡ option_and_then (λ element. applied_by row arguments slots common element) (element_type slots arguments)
by-common row arguments slots common is =
    ap (option_and_then (λ c. option_and_then (λ element. applied_by row arguments slots c element) (element_type slots arguments))) is

by-element : (slots : List Slot) (arguments : List Arg) (o p : Option SqlType) → first_element (standing is_array_of_element slots arguments) ≡ o → supertype (standing is_element slots arguments) ≡ p → element_type slots arguments ≡ elim o [ Some element ↦ Some element | None ↦ p ]
by-element slots arguments o p first is =
    ap (λ (q : Option SqlType). elim q [ Some element ↦ Some element | None ↦ supertype (standing is_element slots arguments) ]) first
    ∙ ap (λ (q : Option SqlType). elim o [ Some element ↦ Some element | None ↦ q ]) is

pub at-first : (best : Option Applied) (row : Signature) (arguments : List Arg) (slots : List Slot) (common element : SqlType) → supertype (standing is_common slots arguments) ≡ Some common → first_element (standing is_array_of_element slots arguments) ≡ Some element → better_than best (applied_by row arguments slots common element) ≡ better_than best (applied_at row arguments slots)
at-first best row arguments slots common element is first =
    ap (better_than best) (sym (by-common row arguments slots common is
    ∙ ap (option_and_then (λ e. applied_by row arguments slots common e)) (by-element slots arguments (Some element) (supertype (standing is_element slots arguments)) first refl)))

pub at-element : (best : Option Applied) (row : Signature) (arguments : List Arg) (slots : List Slot) (common element : SqlType) → supertype (standing is_common slots arguments) ≡ Some common → first_element (standing is_array_of_element slots arguments) ≡ None → supertype (standing is_element slots arguments) ≡ Some element → better_than best (applied_by row arguments slots common element) ≡ better_than best (applied_at row arguments slots)
at-element best row arguments slots common element is first second =
    ap (better_than best) (sym (by-common row arguments slots common is
    ∙ ap (option_and_then (λ e. applied_by row arguments slots common e)) (by-element slots arguments None (Some element) first second)))

pub at-element-none : (best : Option Applied) (row : Signature) (arguments : List Arg) (slots : List Slot) (common : SqlType) → supertype (standing is_common slots arguments) ≡ Some common → first_element (standing is_array_of_element slots arguments) ≡ None → supertype (standing is_element slots arguments) ≡ None → None ≡ better_than best (applied_at row arguments slots)
at-element-none best row arguments slots common is first second =
    ap (better_than best) (sym (by-common row arguments slots common is
    ∙ ap (option_and_then (λ e. applied_by row arguments slots common e)) (by-element slots arguments None None first second)))

-- ---- by the places

pub placed-none : (best : Option Applied) (row : Signature) (arguments : List Arg) → None ≡ places row.repeats row.takes (length arguments) → None ≡ better_than best (applied arguments row)
placed-none best row arguments is = ap (λ (o : Option (List Slot)). better_than best (option_and_then (applied_at row arguments) o)) is

pub placed-some : (best : Option Applied) (row : Signature) (arguments : List Arg) (slots : List Slot) → Some slots ≡ places row.repeats row.takes (length arguments) → better_than best (applied_at row arguments slots) ≡ better_than best (applied arguments row)
placed-some best row arguments slots is = ap (λ (o : Option (List Slot)). better_than best (option_and_then (applied_at row arguments) o)) is

-- ---- those that stand at an open type

stand : (b c : Bool) (a : Arg) (rest arguments : List Arg) → (b && c) ≡ true → (c ≡ true → rest ≡ arguments) → cond b (a ∷ rest) rest ≡ a ∷ arguments
stand true c a rest arguments all same = ap (λ more. a ∷ more) (same all)
stand false c a rest arguments all same = cc

all-behind : (b all ends : Bool) → b ≡ true → cond b all ends ≡ true → (b && all) ≡ true
all-behind true all ends it is = is
all-behind false all ends it is = cc

all-stand : (is : Slot → Bool) (slots : List Slot) (arguments : List Arg) → list_all is slots ≡ true → length slots ≡ length arguments → standing is slots arguments ≡ arguments
all-stand is [] [] all same = refl
all-stand is [] (a ∷ arguments) all same = cc
all-stand is (s ∷ slots) [] all same = cc
all-stand is (s ∷ slots) (a ∷ arguments) all same = stand (is s) (list_all is slots) a (standing is slots arguments) arguments all (λ e. all-stand is slots arguments e (omega arith))

-- the arguments from the first such place on
pub standing-here : (is : Slot → Bool) (s : Slot) (slots : List Slot) (arguments : List Arg) → is s ≡ true → at_end is (s ∷ slots) ≡ true → length (s ∷ slots) ≡ length arguments → arguments ≡ standing is (s ∷ slots) arguments
standing-here is s slots arguments it ends same = sym (all-stand is (s ∷ slots) arguments (all-behind (is s) (list_all is slots) (at_end is slots) it ends) same)

pub standing-on : (is : Slot → Bool) (s : Slot) (slots : List Slot) (a : Arg) (arguments : List Arg) → is s ≡ false → standing is slots arguments ≡ standing is (s ∷ slots) (a ∷ arguments)
standing-on is s slots a arguments it = sym (ap (λ (b : Bool). cond b (a ∷ standing is slots arguments) (standing is slots arguments)) it)

pub ends-on : (is : Slot → Bool) (s : Slot) (slots : List Slot) → is s ≡ false → at_end is (s ∷ slots) ≡ true → at_end is slots ≡ true
ends-on is s slots it ends = sym (ap (λ (b : Bool). cond b (list_all is slots) (at_end is slots)) it) ∙ ends
