-- Values behind those so far.
use Rattle.std.proofs.Common.{◌≡◌, true, List, [], ◌∷◌, ◌++◌, refl, sym, ◌∙◌, ap, append-nil}
use Rattle.std.specs.Prelude.{Ok, Err}
use Rattle.sql_types.specs.Outcome.{Outcome}
use Rattle.sql_types.specs.Fits.{fits_row}
use Rattle.sql_types.specs.declared.sql_type.Named.{Named}
use Rattle.sql_types.specs.declared.sql_type.SqlType.{SqlType}
use Rattle.sql_types.specs.declared.value.Value.{Value}
use Rattle.sql_coerce.specs.Casts.{fields_castable, fields_converted}

-- the values so far before those behind them, or the fault
abbrev pub behind : List Value → Outcome (List Value) → Outcome (List Value)
behind values (Ok more) = Ok (values ++ more)
behind values (Err fault) = Err fault

pub behind-none : (o : Outcome (List Value)) → behind [] o ≡ o
behind-none (Ok more) = refl
behind-none (Err fault) = refl

-- with no value left there is no field left
ends : (fs gs : List (Named SqlType)) → fields_castable fs gs ≡ true → fits_row fs [] ≡ true → fields_converted fs gs [] ≡ Ok []
ends [] [] cast fit = refl
ends [] (g ∷ gs) cast fit = cc
ends (f ∷ fs) gs cast fit = cc

pub behind_all : (fs gs : List (Named SqlType)) (rest values : List Value) (whole : Outcome (List Value)) → rest ≡ [] → fields_castable fs gs ≡ true → fits_row fs rest ≡ true
    → behind values (fields_converted fs gs rest) ≡ whole → Ok values ≡ whole
behind_all fs gs rest values whole none cast fit is =
    let last : fields_converted fs gs rest ≡ Ok [] = ap (fields_converted fs gs) none ∙ ends fs gs cast (rw none at fit) in
    ap ok (sym (append-nil values)) ∙ sym (ap (behind values) last) ∙ is
  where
    ok : List Value → Outcome (List Value)
    ok xs = Ok xs
