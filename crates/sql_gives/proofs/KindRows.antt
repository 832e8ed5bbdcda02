-- What the rows give that are the same for STRING and BYTES, by the kind of text.
use Rattle.std.proofs.Common.{◌≡◌, ℕ, ℤ, pos, negsuc, Bool, true, List, [], ◌∷◌, length, map, reverse, Ok, Err, refl}
use Rattle.std.specs.List.{list_all}
use Rattle.sql_types.specs.declared.sql_type.SqlType.{SqlType}
use Rattle.sql_types.specs.declared.sql_type.SqlType.TheVariants as ty
use Rattle.sql_types.specs.declared.value.Value.{Value}
use Rattle.sql_types.specs.Fits.{fits}
use Rattle.sql_types.specs.Outcome.{Outcome}
use Rattle.sql_types.specs.Takes.{number, fits_types_or_less, all_fit}
use Rattle.sql_types.proofs.TestParts.{first as left_of, second as right_of}
use Rattle.sql_strings.specs.Patterns.{like}
use Rattle.sql_strings.specs.Rows as s
use Rattle.sql_strings.specs.Texts.{part_at, from_place, begins_with, ends_with, first_place, place_of, replaced, all_joined}
use Rattle.sql_gives.proofs.EachPasses.{both, all_reverse}
use Rattle.sql_gives.proofs.GivesLaws.{Gives, null_fits, strict_gives, bool_fits, count_gives}
use Rattle.sql_gives.proofs.PieceLaws.{AllPass, all_joined_passes, part_at_passes, from_place_passes, replaced_passes}
use Rattle.sql_gives.proofs.SymbolLaws.{KindFits}

-- ---- numbers and truth values

pub length_gives : (k : s.Kind) (values : List Value) → Gives ty.Int64 (s.apply_length k values)
length_gives k values = strict_gives ty.Int64 (s.length_row k) values (row values)
  where
    row : (values : List Value) → Gives ty.Int64 (s.length_row k values)
    row (x ∷ []) = count_gives (length (k.symbols x))
    row _ = null_fits ty.Int64

pub starts_gives : (k : s.Kind) (values : List Value) → Gives ty.Bool (s.apply_starts_with k values)
starts_gives k values = strict_gives ty.Bool (s.starts_row k) values (row values)
  where
    row : (values : List Value) → Gives ty.Bool (s.starts_row k values)
    row (x ∷ p ∷ []) = bool_fits (begins_with (k.symbols p) (k.symbols x))
    row _ = null_fits ty.Bool

pub ends_gives : (k : s.Kind) (values : List Value) → Gives ty.Bool (s.apply_ends_with k values)
ends_gives k values = strict_gives ty.Bool (s.ends_row k) values (row values)
  where
    row : (values : List Value) → Gives ty.Bool (s.ends_row k values)
    row (x ∷ p ∷ []) = bool_fits (ends_with (k.symbols p) (k.symbols x))
    row _ = null_fits ty.Bool

pub strpos_gives : (k : s.Kind) (values : List Value) → Gives ty.Int64 (s.apply_strpos k values)
strpos_gives k values = strict_gives ty.Int64 (s.strpos_row k) values (row values)
  where
    row : (values : List Value) → Gives ty.Int64 (s.strpos_row k values)
    row (x ∷ p ∷ []) = count_gives (place_of (first_place (k.symbols p) (k.symbols x)))
    row _ = null_fits ty.Int64

truth_gives : (o : Outcome Bool) → Gives ty.Bool (s.truth o)
truth_gives (Ok b) = bool_fits b
truth_gives (Err f) = tt

pub like_gives : (k : s.Kind) (values : List Value) → Gives ty.Bool (s.apply_like k values)
like_gives k values = strict_gives ty.Bool (s.like_row k) values (row values)
  where
    row : (values : List Value) → Gives ty.Bool (s.like_row k values)
    row (x ∷ p ∷ []) = truth_gives (like (k.symbols x) (k.symbols p))
    row _ = null_fits ty.Bool

-- ---- texts

said_all : (k : s.Kind) (type : SqlType) (f : KindFits k type) (values : List Value) → all_fit type values ≡ true → AllPass f.test (map k.symbols values)
said_all k type f [] fit = refl
said_all k type f (x ∷ xs) fit =
    both (list_all f.test (k.symbols x)) (list_all (list_all f.test) (map k.symbols xs)) (f.said x (left_of (fits type x) _ fit)) (said_all k type f xs (right_of (fits type x) _ fit))

pub concat_gives : (k : s.Kind) (type : SqlType) (f : KindFits k type) (values : List Value) → all_fit type values ≡ true → Gives type (s.apply_concat k values)
concat_gives k type f values fit =
    strict_gives type (s.concat_row k) values (f.made (all_joined (map k.symbols values)) (all_joined_passes f.test (map k.symbols values) (said_all k type f values fit)))

part_gives : (k : s.Kind) (type : SqlType) (f : KindFits k type) (xs : List ℕ) (place count : ℤ) → list_all f.test xs ≡ true → Gives type (s.part_by k xs place count)
part_gives k type f xs place (pos n) all = f.made (part_at place n xs) (part_at_passes f.test place n xs all)
part_gives k type f xs place (negsuc n) all = tt

pub substr_gives : (k : s.Kind) (type : SqlType) (f : KindFits k type) (values : List Value) → fits_types_or_less (type ∷ ty.Int64 ∷ []) ty.Int64 values ≡ true → Gives type (s.apply_substr k values)
substr_gives k type f values fit = strict_gives type (s.substr_row k) values (row values fit)
  where
    row : (values : List Value) → fits_types_or_less (type ∷ ty.Int64 ∷ []) ty.Int64 values ≡ true → Gives type (s.substr_row k values)
    row (x ∷ p ∷ []) fit = f.made (from_place (number p) (k.symbols x)) (from_place_passes f.test (number p) (k.symbols x) (f.said x (left_of (fits type x) _ fit)))
    row (x ∷ p ∷ c ∷ []) fit = part_gives k type f (k.symbols x) (number p) (number c) (f.said x (left_of (fits type x) _ fit))
    row _ fit = null_fits type

pub replace_gives : (k : s.Kind) (type : SqlType) (f : KindFits k type) (values : List Value) → all_fit type values ≡ true → Gives type (s.apply_replace k values)
replace_gives k type f values fit = strict_gives type (s.replace_row k) values (row values fit)
  where
    row : (values : List Value) → all_fit type values ≡ true → Gives type (s.replace_row k values)
    row (x ∷ old ∷ new ∷ []) fit =
        let behind = right_of (fits type old) _ (right_of (fits type x) _ fit) in
        f.made (replaced (k.symbols old) (k.symbols new) (k.symbols x))
        (replaced_passes f.test (k.symbols old) (k.symbols new) (k.symbols x) (f.said new (left_of (fits type new) _ behind)) (f.said x (left_of (fits type x) _ fit)))
    row _ fit = null_fits type

pub reverse_gives : (k : s.Kind) (type : SqlType) (f : KindFits k type) (values : List Value) → all_fit type values ≡ true → Gives type (s.apply_reverse k values)
reverse_gives k type f values fit = strict_gives type (s.reverse_row k) values (row values fit)
  where
    row : (values : List Value) → all_fit type values ≡ true → Gives type (s.reverse_row k values)
    row (x ∷ []) fit = f.made (reverse (k.symbols x)) (all_reverse f.test (k.symbols x) (f.said x (left_of (fits type x) _ fit)))
    row _ fit = null_fits type
