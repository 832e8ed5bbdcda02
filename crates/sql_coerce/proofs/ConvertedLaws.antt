-- Casts of whole types: what is cast fits, what coerces can be cast, and a type is cast to itself unchanged.
use Rattle.std.proofs.Common.{◌≡◌, Bool, true, false, ◌||◌, List, [], ◌∷◌, refl, ap, sym, ◌∙◌}
use Rattle.std.specs.Prelude.{Result, Ok, Err, IfOk}
use Rattle.std.proofs.lemmas.Bool.{and_parts}
use Rattle.sql_types.specs.declared.fault.CallFault.{CallFault}
use Rattle.sql_types.specs.Outcome.{Outcome, Answers, just}
use Rattle.sql_types.specs.Fits.{fits, fits_row}
use Rattle.sql_types.proofs.ValueOpens.{fits_at, fits_opens}
use Rattle.sql_types.specs.declared.sql_type.Named.{Named}
use Rattle.sql_types.specs.declared.sql_type.SqlType.{SqlType, out-SqlType, roll-SqlType, out-roll-SqlType}
use Rattle.sql_types.specs.declared.sql_type.SqlType.TheOpen as t
use Rattle.sql_types.specs.declared.value.Value.{Value, out-Value}
use Rattle.sql_types.specs.declared.value.Value.TheOpen as v
use Rattle.sql_types.specs.declared.value.Value.TheVariants as value
use Rattle.sql_coerce.specs.declared.arg.Kind.{Kind}
use Rattle.sql_coerce.specs.declared.arg.Kind.TheVariants as kind
use Rattle.sql_coerce.specs.Coercions.{coerces, other_coerces, fields_coerce, literal_layer, parameter_layer}
use Rattle.sql_coerce.specs.Casts.{castable, fields_castable, converted, fields_converted, before_values, struct_value}
use Rattle.sql_coerce.proofs.Levels.{other_at, other_coerces_level}
use Rattle.sql_coerce.proofs.CastLevels.{castable_at, castable_level, converted_at, converted_level}
use Rattle.sql_coerce.proofs.ByValue.{plain_at, is_struct, Fitting, fits_moved}
use Rattle.sql_coerce.proofs.FitLaws.{With, bare, bare_fields, by_parts}
use Rattle.sql_coerce.proofs.CastFits.{plain_good}

-- ---- what is cast fits

abbrev Cast : SqlType → Type 0
Cast from = (to : SqlType) (x y : Value) → castable from to ≡ true → fits from x ≡ true → converted from to x ≡ Ok y → fits to y ≡ true

abbrev oks : List Value → Outcome (List Value)
oks xs = Ok xs

-- the parts of a list that was cast
split : (o : Outcome Value) (rest : Outcome (List Value)) (ys : List Value) → before_values o rest ≡ oks ys → (y : Value) × (zs : List Value) × (o ≡ Ok y) × (rest ≡ Ok zs) × (y ∷ zs ≡ ys)
split (Ok y) (Ok zs) ys is = (y, zs, refl, refl, (let same : y ∷ zs ≡ ys = cc in same))
split (Ok y) (Err fault) ys is = cc
split (Err fault) rest ys is = cc

cast-rows : (fs : List (Named (With Cast))) (gs : List (Named SqlType)) (xs ys : List Value) → fields_castable (bare_fields Cast fs) gs ≡ true → fits_row (bare_fields Cast fs) xs ≡ true
    → fields_converted (bare_fields Cast fs) gs xs ≡ Ok ys → fits_row gs ys ≡ true
cast-rows [] [] [] ys cast fit is = let none : [] ≡ ys = cc in rw (← none) refl
cast-rows [] [] (x ∷ xs) ys cast fit is = cc
cast-rows [] (g ∷ gs) xs ys cast fit is = cc
cast-rows (f ∷ fs) [] xs ys cast fit is = cc
cast-rows (f ∷ fs) (g ∷ gs) [] ys cast fit is = cc
cast-rows (f ∷ fs) (g ∷ gs) (x ∷ xs) ys cast fit is =
    let casts = and_parts (castable f.ty.0 g.ty) (fields_castable (bare_fields Cast fs) gs) cast in
    let fit_parts = and_parts (fits f.ty.0 x) (fits_row (bare_fields Cast fs) xs) fit in
    let parts = split (converted f.ty.0 g.ty x) (fields_converted (bare_fields Cast fs) gs xs) ys is in
    rw (← parts.4) (rw (f.ty.1 g.ty x parts.0 casts.0 fit_parts.0 parts.2, cast-rows fs gs xs parts.1 casts.1 fit_parts.1 parts.3) refl)

struct-some : (o : Outcome (List Value)) (y : Value) → struct_value o ≡ Ok y → (ys : List Value) × (o ≡ Ok ys) × (value.Struct ys ≡ y)
struct-some (Ok ys) y is = (ys, refl, (let same : value.Struct ys ≡ y = cc in same))
struct-some (Err fault) y is = cc

-- what fits, as the casts by value take it
fit-at : (l : t.SqlType-F SqlType) (a : v.Value-F Value) → fits_at l a ≡ true → Fitting l a
fit-at l a fit = fits_moved l a ∙ fit

plain-level : (l m : t.SqlType-F SqlType) (a : v.Value-F Value) (y : Value) → is_struct a ≡ false → castable_at l m ≡ true → fits_at l a ≡ true → converted_at l m a ≡ Ok y → fits_at m (out-Value y) ≡ true
plain-level l m a y plain cast fit is = plain_good l m a y cast fit (sym (plain_at l m a cast (fit-at l a fit) plain) ∙ is)

cast-level : (parts : t.SqlType-F (With Cast)) (m : t.SqlType-F SqlType) (a : v.Value-F Value) (y : Value) → castable_at (bare Cast parts) m ≡ true → fits_at (bare Cast parts) a ≡ true
    → converted_at (bare Cast parts) m a ≡ Ok y → fits_at m (out-Value y) ≡ true
cast-level (t.Struct fs) (t.Struct gs) (v.Struct xs) y cast fit is =
    let some = struct-some (fields_converted (bare_fields Cast fs) gs xs) y is in
    rw (← some.2, value.outs-Struct some.0) (cast-rows fs gs xs some.0 cast fit some.1)
cast-level (t.Struct fs) _ (v.Struct xs) y cast fit is = cc
cast-level t.Bool m (v.Struct xs) y cast fit is = cc
cast-level _ m (v.Struct xs) y cast fit is = cc
cast-level parts m v.Null y cast fit is = plain-level (bare Cast parts) m v.Null y refl cast fit is
cast-level parts m (v.Bool b) y cast fit is = plain-level (bare Cast parts) m (v.Bool b) y refl cast fit is
cast-level parts m (v.Int n) y cast fit is = plain-level (bare Cast parts) m (v.Int n) y refl cast fit is
cast-level parts m (v.Uint n) y cast fit is = plain-level (bare Cast parts) m (v.Uint n) y refl cast fit is
cast-level parts m (v.Text text) y cast fit is = plain-level (bare Cast parts) m (v.Text text) y refl cast fit is
cast-level parts m (v.Bytes bytes) y cast fit is = plain-level (bare Cast parts) m (v.Bytes bytes) y refl cast fit is
cast-level parts m (v.Date day) y cast fit is = plain-level (bare Cast parts) m (v.Date day) y refl cast fit is
cast-level parts m (v.Array xs) y cast fit is = plain-level (bare Cast parts) m (v.Array xs) y refl cast fit is

cast-step : (parts : t.SqlType-F (With Cast)) → Cast (roll-SqlType (bare Cast parts))
cast-step parts to x y cast fit is =
    let whole = roll-SqlType (bare Cast parts) in
    let left : out-SqlType whole ≡ bare Cast parts = out-roll-SqlType (bare Cast parts) in
    fits_opens to y
    ∙ cast-level parts (out-SqlType to) (out-Value x) y
    (ap (λ l. castable_at l (out-SqlType to)) (sym left) ∙ sym (castable_level whole to) ∙ cast)
    (ap (λ l. fits_at l (out-Value x)) (sym left) ∙ sym (fits_opens whole x) ∙ fit)
    (ap (λ l. converted_at l (out-SqlType to) (out-Value x)) (sym left) ∙ sym (converted_level whole to x) ∙ is)

-- a converted value fits its target
pub converted_fits : (from to : SqlType) (x y : Value) → castable from to ≡ true → fits from x ≡ true → converted from to x ≡ Ok y → fits to y ≡ true
converted_fits = by_parts Cast cast-step

-- what a call answers fits where it is what the cast gives
pub answers_fit : (from to : SqlType) (x : Value) (r : Result Value CallFault) → castable from to ≡ true → fits from x ≡ true → Answers (just (converted from to x)) r
    → IfOk r (λ y. fits to y ≡ true)
answers_fit from to x (Ok y) cast fit answers = converted_fits from to x y cast fit (sym answers)
answers_fit from to x (Err fault) cast fit answers = tt

-- ---- what coerces can be cast

abbrev Coerced : SqlType → Type 0
Coerced from = (to : SqlType) → other_coerces from to ≡ true → castable from to ≡ true

coerced-rows : (fs : List (Named (With Coerced))) (gs : List (Named SqlType)) → fields_coerce (bare_fields Coerced fs) gs ≡ true → fields_castable (bare_fields Coerced fs) gs ≡ true
coerced-rows [] [] is = refl
coerced-rows [] (g ∷ gs) is = cc
coerced-rows (f ∷ fs) [] is = cc
coerced-rows (f ∷ fs) (g ∷ gs) is =
    let parts = and_parts (other_coerces f.ty.0 g.ty) (fields_coerce (bare_fields Coerced fs) gs) is in
    rw (f.ty.1 g.ty parts.0, coerced-rows fs gs parts.1) refl

coerced-level : (parts : t.SqlType-F (With Coerced)) (m : t.SqlType-F SqlType) → other_at (bare Coerced parts) m ≡ true → castable_at (bare Coerced parts) m ≡ true
coerced-level (t.Struct fs) (t.Struct gs) is = coerced-rows fs gs is
coerced-level (t.Array e) (t.Array f) is = is
coerced-level t.Bool t.Bool is = refl
coerced-level t.Int32 t.Int32 is = refl
coerced-level t.Int32 t.Int64 is = refl
coerced-level t.Int64 t.Int64 is = refl
coerced-level t.Uint32 t.Uint32 is = refl
coerced-level t.Uint32 t.Int64 is = refl
coerced-level t.Uint32 t.Uint64 is = refl
coerced-level t.Uint64 t.Uint64 is = refl
coerced-level t.Text t.Text is = refl
coerced-level t.Bytes t.Bytes is = refl
coerced-level t.Date t.Date is = refl
coerced-level _ _ is = cc

coerced-step : (parts : t.SqlType-F (With Coerced)) → Coerced (roll-SqlType (bare Coerced parts))
coerced-step parts to is =
    let whole = roll-SqlType (bare Coerced parts) in
    let left : out-SqlType whole ≡ bare Coerced parts = out-roll-SqlType (bare Coerced parts) in
    castable_level whole to
    ∙ ap (λ l. castable_at l (out-SqlType to)) left
    ∙ coerced-level parts (out-SqlType to) (ap (λ l. other_at l (out-SqlType to)) (sym left) ∙ sym (other_coerces_level whole to) ∙ is)

pub other_castable : (from to : SqlType) → other_coerces from to ≡ true → castable from to ≡ true
other_castable = by_parts Coerced coerced-step

literal-castable : (l : t.SqlType-F SqlType) (x : v.Value-F Value) (m : t.SqlType-F SqlType) → literal_layer l x m ≡ true → castable_at l m ≡ true
literal-castable t.Int64 (v.Int n) t.Int32 is = refl
literal-castable t.Int64 (v.Int n) t.Uint32 is = refl
literal-castable t.Int64 (v.Int n) t.Uint64 is = refl
literal-castable t.Text (v.Text text) t.Date is = refl
literal-castable _ _ _ is = cc

parameter-castable : (l m : t.SqlType-F SqlType) → parameter_layer l m ≡ true → castable_at l m ≡ true
parameter-castable t.Text t.Date is = refl
parameter-castable _ _ is = cc

either : (from to : SqlType) (a b : Bool) → (a ≡ true → castable from to ≡ true) → (b ≡ true → castable from to ≡ true) → (a || b) ≡ true → castable from to ≡ true
either from to true b first second is = first refl
either from to false b first second is = second is

-- where an expression that isn't untyped coerces, the pair is in the table of casts
pub coerces_castable : (from : SqlType) (k : Kind) (to : SqlType) → (k ≡ kind.Untyped → ⊥) → coerces from k to ≡ true → castable from to ≡ true
coerces_castable from (kind.Literal x) to typed is =
    either from to (other_coerces from to) (literal_layer (out-SqlType from) (out-Value x) (out-SqlType to)) (other_castable from to)
    (λ e. castable_level from to ∙ literal-castable (out-SqlType from) (out-Value x) (out-SqlType to) e) is
coerces_castable from kind.Parameter to typed is =
    either from to (other_coerces from to) (parameter_layer (out-SqlType from) (out-SqlType to)) (other_castable from to)
    (λ e. castable_level from to ∙ parameter-castable (out-SqlType from) (out-SqlType to) e) is
coerces_castable from kind.Untyped to typed is = absurd (typed refl)
coerces_castable from kind.Other to typed is = other_castable from to is
