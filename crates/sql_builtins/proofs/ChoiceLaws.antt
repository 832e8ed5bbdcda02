-- What is chosen: a row of the table, and values that fit its targets fit it.
use Rattle.std.proofs.Common.{◌≡◌, ℕ, suc, Bool, true, false, cond, List, [], ◌∷◌, length, Option, Some, None, refl, ap, sym, ◌∙◌, subst, arith}
use Rattle.std.specs.Prelude.{◌&&◌, option_map, option_and_then, Contains}
use Rattle.std.specs.List.{filter_map, cons_option, list_all}
use Rattle.std.specs.Str.{str_eq_ignore_ascii_case}
use Rattle.sql_types.specs.declared.sql_type.SqlType.{SqlType}
use Rattle.sql_types.specs.declared.sql_type.SqlType.TheVariants as ty
use Rattle.sql_types.specs.declared.value.Value.{Value}
use Rattle.sql_types.specs.Fits.{fits}
use Rattle.sql_types.specs.Takes.{fits_types}
use Rattle.sql_coerce.specs.declared.arg.Arg.{Arg}
use Rattle.sql_builtins.specs.declared.choice.Choice.{Choice}
use Rattle.sql_builtins.specs.declared.table.Slot.{Slot}
use Rattle.sql_builtins.specs.Table.{Signature, signatures}
use Rattle.sql_builtins.specs.Choices.{Applied, own_type, slot_type, target_types, places, meets, all_coerce, cost_of, element_type, common_type, applied_by, applied_at, applied, cheaper, cheapest_from, cheapest, rows_of, chosen_of, chosen}
use Rattle.sql_builtins.specs.Fitting.{Fitting, place_types}
use Rattle.sql_builtins.specs.Steps.{ends_open}
use Rattle.sql_builtins.proofs.PlaceLaws.{some-same, and-left, and-right, places-length}

-- ---- the answer of `choose`

pub best-chosen : (rows : List Signature) (name : List ℕ) (arguments : List Arg) (best : Option Applied) → best ≡ cheapest (filter_map (applied arguments) (rows_of name rows)) → option_map (λ a. a.choice) best ≡ chosen_of rows name arguments
unfolding chosen_of
best-chosen rows name arguments best is = ap (option_map (λ (a : Applied). a.choice)) is

pub chosen-whole : (rows : List Signature) (name : List ℕ) (arguments : List Arg) → rows ≡ signatures → chosen_of rows name arguments ≡ chosen name arguments
unfolding chosen
chosen-whole rows name arguments is = ap (λ r. chosen_of r name arguments) is

pub choice-chosen : (rows : List Signature) (name named : List ℕ) (arguments : List Arg) (best o : Option Applied) → rows ≡ signatures → name ≡ named → best ≡ cheapest (filter_map (applied arguments) (rows_of name rows)) → best ≡ o → option_map (λ a. a.choice) o ≡ chosen named arguments
choice-chosen rows name named arguments best o whole same from is =
    sym (ap (option_map (λ (a : Applied). a.choice)) is) ∙ best-chosen rows name arguments best from ∙ chosen-whole rows name arguments whole ∙ ap (λ (n : List ℕ). chosen n arguments) same

-- in each row of the table the open types stand at the end
pub rows-end : (rows : List Signature) → rows ≡ signatures → list_all (λ row. ends_open row.takes) rows ≡ true
rows-end rows is = ap (list_all (λ (row : Signature). ends_open row.takes)) is

-- ---- what holds of each row that applies holds of the best

abbrev Each : (Applied → Type 0) → List Applied → Type 0
Each P [] = Unit {0}
Each P (a ∷ others) = P a × Each P others

branch : (P : Applied → Type 0) (b : Bool) (x y : Applied) → P x → P y → P (cond b x y)
branch P true x y px py = px
branch P false x y px py = py

best-is : (P : Applied → Type 0) (best : Applied) (others : List Applied) → P best → Each P others → P (cheapest_from best others)
best-is P best [] p each = p
best-is P best (a ∷ others) p each =
    branch P (cheaper a.cost best.cost) (cheapest_from a others) (cheapest_from best others) (best-is P a others each.0 each.1) (best-is P best others p each.1)

cheapest-is : (P : Applied → Type 0) (all : List Applied) (a : Applied) → Each P all → cheapest all ≡ Some a → P a
cheapest-is P [] a each is = absurd (let e : None ≡ Some a = is in cc)
cheapest-is P (first ∷ others) a each is = subst P (some-same (cheapest_from first others) a is) (best-is P first others each.0 each.1)

-- ---- from which row it comes

pub record Comes (arguments : List Arg) (a : Applied) : Type 0 where
  pub row : Signature
  pub listed : Contains signatures row
  pub is : applied arguments row ≡ Some a

abbrev Listed : List Signature → Type 0
Listed rows = (row : Signature) → Contains rows row → Contains signatures row

behind : (first : Signature) (rows : List Signature) → Listed (first ∷ rows) → Listed rows
behind first rows listed row c = listed row (suc c.0, omega (arith, c.1), c.2)

head : (first : Signature) (rows : List Signature) → Contains (first ∷ rows) first
head first rows = (0, omega arith, refl)

with-option : (P : Applied → Type 0) (o : Option Applied) (others : List Applied) → ((a : Applied) → o ≡ Some a → P a) → Each P others → Each P (cons_option o others)
with-option P None others one each = each
with-option P (Some a) others one each = (one a refl, each)

with-row : (P : Applied → Type 0) (arguments : List Arg) (b : Bool) (row : Signature) (rows : List Signature) → ((a : Applied) → applied arguments row ≡ Some a → P a) → Each P (filter_map (applied arguments) rows) → Each P (filter_map (applied arguments) (cond b (row ∷ rows) rows))
with-row P arguments true row rows one each = with-option P (applied arguments row) (filter_map (applied arguments) rows) one each
with-row P arguments false row rows one each = each

each-comes : (arguments : List Arg) (name : List ℕ) (rows : List Signature) → Listed rows → Each (Comes arguments) (filter_map (applied arguments) (rows_of name rows))
each-comes arguments name [] listed = tt
each-comes arguments name (row ∷ rows) listed =
    with-row (Comes arguments) arguments (str_eq_ignore_ascii_case row.name name) row (rows_of name rows)
    (λ a e. record { row = row; listed = listed row (head row rows); is = e })
    (each-comes arguments name rows (behind row rows listed))

pub record ComesTo (arguments : List Arg) (choice : Choice) : Type 0 where
  pub applied : Applied
  pub comes : Comes arguments applied
  pub same : applied.choice ≡ choice

to-choice : (arguments : List Arg) (all : List Applied) (o : Option Applied) (choice : Choice) → cheapest all ≡ o → Each (Comes arguments) all → option_map (λ a. a.choice) o ≡ Some choice → ComesTo arguments choice
to-choice arguments all None choice from each is = absurd (let e : None ≡ Some choice = is in cc)
to-choice arguments all (Some a) choice from each is = record { applied = a; comes = cheapest-is (Comes arguments) all a each from; same = some-same a.choice choice is }

chosen_of-comes : (rows : List Signature) (name : List ℕ) (arguments : List Arg) (choice : Choice) → Listed rows → chosen_of rows name arguments ≡ Some choice → ComesTo arguments choice
unfolding chosen_of
chosen_of-comes rows name arguments choice listed is =
    to-choice arguments (filter_map (applied arguments) (rows_of name rows)) (cheapest (filter_map (applied arguments) (rows_of name rows))) choice refl (each-comes arguments name rows listed) is

-- what is chosen comes from a row of the table that applies
pub chosen-comes : (name : List ℕ) (arguments : List Arg) (choice : Choice) → chosen name arguments ≡ Some choice → ComesTo arguments choice
unfolding chosen
chosen-comes name arguments choice is = chosen_of-comes signatures name arguments choice (λ row c. c) is

-- ---- values that fit the targets

and-then : {A B : Type 0} (f : A → Option B) (o : Option A) (y : B) → option_and_then f o ≡ Some y → (x : A) × (o ≡ Some x) × (f x ≡ Some y)
and-then f None y is = absurd (let e : None ≡ Some y = is in cc)
and-then f (Some x) y is = (x, refl, is)

owns_of : List Arg → List SqlType
owns_of [] = []
owns_of (a ∷ arguments) = own_type a.ty ∷ owns_of arguments

places-targets : (common element : SqlType) (slots : List Slot) (arguments : List Arg) → length slots ≡ length arguments → target_types common element slots arguments ≡ place_types common element (owns_of arguments) slots
unfolding owns_of
places-targets common element [] [] same = refl
places-targets common element [] (a ∷ arguments) same = absurd (omega arith)
places-targets common element (s ∷ slots) [] same = absurd (omega arith)
places-targets common element (s ∷ slots) (a ∷ arguments) same =
    ap (λ more. slot_type common element (own_type a.ty) s ∷ more) (places-targets common element slots arguments (omega arith))

fits-length : (types : List SqlType) (values : List Value) → fits_types types values ≡ true → length types ≡ length values
fits-length [] [] fit = refl
fits-length [] (x ∷ xs) fit = cc
fits-length (ty ∷ types) [] fit = cc
fits-length (ty ∷ types) (x ∷ xs) fit = ap suc (fits-length types xs (and-right (fits ty x) (fits_types types xs) fit))

targets-length : (common element : SqlType) (slots : List Slot) (arguments : List Arg) → length slots ≡ length arguments → length (target_types common element slots arguments) ≡ length arguments
targets-length common element [] [] same = refl
targets-length common element [] (a ∷ arguments) same = absurd (omega arith)
targets-length common element (s ∷ slots) [] same = absurd (omega arith)
targets-length common element (s ∷ slots) (a ∷ arguments) same = ap suc (targets-length common element slots arguments (omega arith))

-- a row by its places and open types
abbrev pub as_applied : Signature → List Arg → List Slot → SqlType → SqlType → Applied
as_applied row arguments slots common element = record {
  choice = record { sig = row.sig; targets = target_types common element slots arguments; gives = slot_type common element ty.Int64 row.gives };
  cost = cost_of arguments (target_types common element slots arguments);
}

by-tests : (meets coerce : Bool) (x a : Applied) → cond (meets && coerce) (Some x) None ≡ Some a → (meets ≡ true) × (x ≡ a)
by-tests true true x a is = (refl, some-same x a is)
by-tests true false x a is = absurd (let e : None ≡ Some a = is in cc)
by-tests false coerce x a is = absurd (let e : None ≡ Some a = is in cc)

fitting-by : (arguments : List Arg) (row : Signature) (slots : List Slot) (common element : SqlType) (values : List Value) → Contains signatures row → places row.repeats row.takes (length arguments) ≡ Some slots → meets row.needs common ≡ true → meets row.needs element ≡ true → fits_types (target_types common element slots arguments) values ≡ true → Fitting row.sig (slot_type common element ty.Int64 row.gives) values
fitting-by arguments row slots common element values listed placed common_meets element_meets fit =
    let many = places-length row.repeats row.takes (length arguments) slots placed in
    let count : length arguments ≡ length values = sym (targets-length common element slots arguments many) ∙ fits-length (target_types common element slots arguments) values fit in
    record {
      row = row;
      listed = listed;
      same = refl;
      common = common;
      element = element;
      owns = owns_of arguments;
      slots = slots;
      placed = ap (places row.repeats row.takes) (sym count) ∙ placed;
      common_meets = common_meets;
      element_meets = element_meets;
      fit = ap (λ types. fits_types types values) (sym (places-targets common element slots arguments many)) ∙ fit;
      gives_type = refl;
    }

fitting-at : (arguments : List Arg) (row : Signature) (slots : List Slot) (common element : SqlType) (a : Applied) (values : List Value) → Contains signatures row → places row.repeats row.takes (length arguments) ≡ Some slots → applied_by row arguments slots common element ≡ Some a → fits_types a.choice.targets values ≡ true → Fitting a.choice.sig a.choice.gives values
fitting-at arguments row slots common element a values listed placed is fit =
    let tests = by-tests (meets row.needs common && meets row.needs element) (all_coerce arguments (target_types common element slots arguments)) (as_applied row arguments slots common element) a is in
    let P : Applied → Type 0 = λ x. fits_types x.choice.targets values ≡ true → Fitting x.choice.sig x.choice.gives values in
    subst P tests.1
    (fitting-by arguments row slots common element values listed placed (and-left (meets row.needs common) (meets row.needs element) tests.0) (and-right (meets row.needs common) (meets row.needs element) tests.0)) fit

fitting-applied : (arguments : List Arg) (row : Signature) (a : Applied) (values : List Value) → Contains signatures row → applied arguments row ≡ Some a → fits_types a.choice.targets values ≡ true → Fitting a.choice.sig a.choice.gives values
fitting-applied arguments row a values listed is fit =
    let at_slots = and-then (applied_at row arguments) (places row.repeats row.takes (length arguments)) a is in
    let slots = at_slots.0 in
    let at_common = and-then (λ common. option_and_then (λ element. applied_by row arguments slots common element) (element_type slots arguments)) (common_type slots arguments) a at_slots.2 in
    let at_element = and-then (λ element. applied_by row arguments slots at_common.0 element) (element_type slots arguments) a at_common.2 in
    fitting-at arguments row slots at_common.0 at_element.0 a values listed at_slots.1 at_element.2 fit

-- Values that fit the targets of what is chosen fit its row, and what is chosen gives is the type of the call.
pub chosen-fits : (name : List ℕ) (arguments : List Arg) (choice : Choice) (values : List Value) → chosen name arguments ≡ Some choice → fits_types choice.targets values ≡ true → Fitting choice.sig choice.gives values
chosen-fits name arguments choice values is fit =
    let from = chosen-comes name arguments choice is in
    let P : Choice → Type 0 = λ c. fits_types c.targets values ≡ true → Fitting c.sig c.gives values in
    subst P from.same (fitting-applied arguments from.comes.row from.applied values from.comes.listed from.comes.is) fit
