-- Calls: arguments of the types that a row asks for fit the row, so what the row answers fits the type that the call says.
use Rattle.std.proofs.Common.{◌≡◌, suc, Bool, true, false, ◌&&◌, List, [], ◌∷◌, map, length, Option, None, Some, Ok, Err, if◌then◌else◌, refl, sym, ap, subst, ◌∙◌, arith}
use Rattle.std.specs.Prelude.{◌||◌, is_some, Contains}
use Rattle.std.proofs.lemmas.List.Elements.{Contains-append_left}
use denote.Enum.Bare.{sameb, same_true}
use Rattle.sql_types.specs.declared.sql_type.SqlType.{SqlType}
use Rattle.sql_types.specs.declared.sql_type.SqlType.TheVariants as ty
use Rattle.sql_types.specs.declared.value.Value.{Value}
use Rattle.sql_types.specs.Fits.{fits}
use Rattle.sql_types.specs.Outcome.{Outcome}
use Rattle.sql_types.specs.SameType.{same_type}
use Rattle.sql_types.specs.Takes.{fits_types}
use Rattle.sql_builtins.specs.contracts.sig.SigId as sig_contract
use Rattle.sql_builtins.specs.declared.sig.SigId.{SigId}
use Rattle.sql_builtins.specs.declared.sig.SigId.TheVariants as sig
use Rattle.sql_builtins.specs.declared.table.Slot.{Slot}
use Rattle.sql_builtins.specs.Applies.{apply}
use Rattle.sql_builtins.specs.Choices.{places, common_type, element_type, target_types, slot_type}
use Rattle.sql_builtins.specs.Fitting.{Fitting, place_types}
use Rattle.sql_builtins.specs.Table.{Signature, functions, aggregates, signatures}
use Rattle.sql_builtins.proofs.PlaceLaws.{places-length}
use Rattle.resolved_ast.specs.declared.rex.Rex.{Rex}
use Rattle.resolved_ast.specs.Columns.{rex_type}
use Rattle.resolved_ast.specs.Signatures.{is_error, row_among, call_row, args, typed_as, typed_by, row_typed, open_meets, parts_named, row_shaped}
use Rattle.resolved_ast.proofs.FitLaws.{first_of, second_of}
use Rattle.tree_fits.proofs.Lists.{and_so}
use Rattle.tree_fits.proofs.SameTypes.{same_type_is}
use Rattle.tree_fits.proofs.Sure.{OfOk}
use Rattle.tree_fits.proofs.FittingForms.{Of}
use Rattle.tree_fits.proofs.FittingParts.{of_type}

-- what a row answers for values that fit it fits the type that it gives
abbrev pub AnswersFit : Type 0
AnswersFit = (sig : SigId) (gives : SqlType) (values : List Value) (answer : Value) → Fitting sig gives values → apply sig values ≡ Ok answer → fits gives answer ≡ true

-- ---- the row

first_in : (row : Signature) (rows : List Signature) → Contains (row ∷ rows) row
first_in row rows = (0, omega (arith), refl)

later_in : (first : Signature) (rows : List Signature) (row : Signature) → Contains rows row → Contains (first ∷ rows) row
later_in first rows row found = (suc found.0, omega (arith, found.1), found.2)

row_found : (rows : List Signature) (s : SigId) (row : Signature) → row_among rows s ≡ Some row → Contains rows row × (row.sig ≡ s)
row_found [] s row is = cc
row_found (first ∷ rows) s row is = by (row_found rows s row) (sameb sig_contract.the_type first.sig s) refl is
  where
    by : (row_among rows s ≡ Some row → Contains rows row × (row.sig ≡ s)) → (b : Bool) → sameb sig_contract.the_type first.sig s ≡ b →
        (if b then Some first else row_among rows s) ≡ Some row → Contains (first ∷ rows) row × (row.sig ≡ s)
    by later true same is =
        let one : first ≡ row = cc in
        subst (λ r. Contains (first ∷ rows) r × (r.sig ≡ s)) one (first_in first rows, same_true sig_contract.the_type tt first.sig s same)
    by later false same is = let found = later is in (later_in first rows row found.0, found.1)

-- the call of ERROR has no value
error_is : (s : SigId) → is_error s ≡ true → s ≡ sig.Error
error_is sig.Error is = refl
error_is _ is = cc

error_ok : (type : SqlType) (s : SigId) (values : List Value) → s ≡ sig.Error → OfOk (Of type) (apply s values)
error_ok type s values is = subst (λ z. OfOk (Of type) (apply z values)) (sym is) tt

-- ---- the types of its places

place_fit : (common element : SqlType) (slots : List Slot) (types : List SqlType) (values : List Value) → length slots ≡ length types →
    typed_as (target_types common element slots (args types)) types ≡ true → fits_types types values ≡ true → fits_types (place_types common element types slots) values ≡ true
place_fit common element [] [] values as_many typed fit = fit
place_fit common element [] (type ∷ types) values as_many typed fit = absurd (omega (arith, as_many))
place_fit common element (s ∷ slots) [] values as_many typed fit = absurd (omega (arith, as_many))
place_fit common element (s ∷ slots) (type ∷ types) [] as_many typed fit = cc
place_fit common element (s ∷ slots) (type ∷ types) (x ∷ values) as_many typed fit =
    and_so _ _ (of_type (slot_type common element type s) type x (first_of _ _ typed) (first_of _ _ fit)) (place_fit common element slots types values (omega (arith, as_many)) (second_of _ _ typed) (second_of _ _ fit))

as_many : (types : List SqlType) (values : List Value) → fits_types types values ≡ true → length values ≡ length types
as_many [] [] fit = refl
as_many [] (x ∷ values) fit = cc
as_many (type ∷ types) [] fit = cc
as_many (type ∷ types) (x ∷ values) fit = ap suc (as_many types values (second_of _ _ fit))

-- ---- what the call answers

module _ (answers : AnswersFit) where
  answered : (s : SigId) (gives : SqlType) (values : List Value) → Fitting s gives values → (o : Outcome Value) → apply s values ≡ o → OfOk (Of gives) o
  answered s gives values fitting (Ok answer) is = answers s gives values answer fitting is
  answered s gives values fitting (Err fault) is = tt

  given_by : (s : SigId) (gives : SqlType) (values : List Value) (row : Signature) (common element : SqlType) → row.sig ≡ s → (error : Bool) → is_error row.sig ≡ error →
      (error || same_type gives (slot_type common element ty.Int64 row.gives)) ≡ true → (gives ≡ slot_type common element ty.Int64 row.gives → Fitting s gives values) → OfOk (Of gives) (apply s values)
  given_by s gives values row common element is true error given fitting = error_ok gives s values (sym is ∙ error_is row.sig error)
  given_by s gives values row common element is false error given fitting = answered s gives values (fitting (same_type_is gives _ given)) (apply s values) refl

  by_types : (s : SigId) (gives : SqlType) (types : List SqlType) (values : List Value) (row : Signature) → Contains signatures row → row.sig ≡ s → (slots : List Slot) → places row.repeats row.takes (length types) ≡ Some slots →
      fits_types types values ≡ true → (common element : Option SqlType) → typed_by row slots types gives common element ≡ true → open_meets row common ≡ true → open_meets row element ≡ true → OfOk (Of gives) (apply s values)
  by_types s gives types values row listed is slots placed fit None element typed meets_common meets_element = cc
  by_types s gives types values row listed is slots placed fit (Some common) None typed meets_common meets_element = cc
  by_types s gives types values row listed is slots placed fit (Some common) (Some element) typed meets_common meets_element =
      let targets = target_types common element slots (args types) in
      let given = is_error row.sig || same_type gives (slot_type common element ty.Int64 row.gives) in
      given_by s gives values row common element is (is_error row.sig) refl (second_of (typed_as targets types) given typed) (λ gives_type. record {
        row = row;
        listed = listed;
        same = is;
        common = common;
        element = element;
        owns = types;
        slots = slots;
        placed = ap (places row.repeats row.takes) (as_many types values fit) ∙ placed;
        common_meets = meets_common;
        element_meets = meets_element;
        fit = place_fit common element slots types values (places-length row.repeats row.takes (length types) slots placed) (first_of (typed_as targets types) given typed) fit;
        gives_type = gives_type;
      })

  -- the places of the row, where it takes so many arguments, and else all
  abbrev taken : Signature → Option (List Slot) → List Slot
  taken row None = row.takes
  taken row (Some slots) = slots

  -- by the places that the row takes for so many arguments
  by_places : (s : SigId) (gives : SqlType) (arguments : List Rex) (values : List Value) (row : Signature) → Contains signatures row → row.sig ≡ s → (o : Option (List Slot)) →
      places row.repeats row.takes (length (map rex_type arguments)) ≡ o →
      typed_by row (taken row o) (map rex_type arguments) gives (common_type (taken row o) (args (map rex_type arguments))) (element_type (taken row o) (args (map rex_type arguments))) ≡ true →
      (is_some o && ((open_meets row (common_type (taken row o) (args (map rex_type arguments))) && open_meets row (element_type (taken row o) (args (map rex_type arguments))))
      && parts_named row.sig arguments)) ≡ true →
      fits_types (map rex_type arguments) values ≡ true → OfOk (Of gives) (apply s values)
  by_places s gives arguments values row listed is None placed typed shaped fit = cc
  by_places s gives arguments values row listed is (Some slots) placed typed shaped fit =
      let types = map rex_type arguments in
      let common = common_type slots (args types) in
      let element = element_type slots (args types) in
      let meet = first_of (open_meets row common && open_meets row element) (parts_named row.sig arguments) shaped in
      by_types s gives types values row listed is slots placed fit common element typed (first_of (open_meets row common) (open_meets row element) meet) (second_of (open_meets row common) (open_meets row element) meet)

  by_row : (s : SigId) (gives : SqlType) (arguments : List Rex) (values : List Value) (rows : List Signature) → ((row : Signature) → Contains rows row → Contains signatures row) → (o : Option Signature) → row_among rows s ≡ o →
      row_typed o (map rex_type arguments) gives ≡ true → row_shaped o arguments ≡ true → fits_types (map rex_type arguments) values ≡ true → OfOk (Of gives) (apply s values)
  by_row s gives arguments values rows inside None is typed shaped fit = cc
  by_row s gives arguments values rows inside (Some row) is typed shaped fit =
      let found = row_found rows s row is in
      by_places s gives arguments values row (inside row found.0) found.1 (places row.repeats row.takes (length (map rex_type arguments))) refl typed shaped fit

  pub call_ok : (s : SigId) (gives : SqlType) (arguments : List Rex) (values : List Value) → row_typed (call_row s) (map rex_type arguments) gives ≡ true → row_shaped (call_row s) arguments ≡ true →
      fits_types (map rex_type arguments) values ≡ true → OfOk (Of gives) (apply s values)
  call_ok s gives arguments values typed shaped fit =
      by_row s gives arguments values functions (λ row found. Contains-append_left functions aggregates row found) (call_row s) refl typed shaped fit
