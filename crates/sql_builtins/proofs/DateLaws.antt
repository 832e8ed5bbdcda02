-- Calls on dates without a part of that name.
use Rattle.std.proofs.Common.{◌≡◌, false, List, Option, Some, None, refl, ap, sym}
use Rattle.std.specs.Prelude.{◌-ℤ◌, neg_ℤ, is_some, Ok}
use Rattle.sql_types.specs.declared.value.Value.{Value}
use Rattle.sql_types.specs.declared.value.Value.TheVariants.{Null, Int}
use Rattle.sql_types.specs.declared.fault.FaultKind.TheVariants.{OutOfRange}
use Rattle.sql_types.specs.Outcome.{Outcome}
use Rattle.sql_dates.specs.Apply as d
use Rattle.sql_dates.specs.Parts.{parts_after, part_index, part_start, field_of}
use Rattle.sql_dates.specs.Arguments.{date_at, int_at, part_at, field_at, unless_null, answered}

no-name : {A : Type 0} (p : Option A) (next : A → Outcome Value) → is_some p ≡ false → unless_null p next ≡ Ok Null
no-name None next is = refl
no-name (Some x) next is = cc

in-any : {A : Type 0} (o : Option A) (next : A → Outcome Value) → ((x : A) → next x ≡ Ok Null) → unless_null o next ≡ Ok Null
in-any None next each = refl
in-any (Some x) next each = each x

pub add-nameless : (values : List Value) → is_some (part_at values 2) ≡ false → Ok Null ≡ answered (d.date_add values)
add-nameless values is =
    ap answered (sym (in-any (date_at values 0) (λ day. unless_null (int_at values 1) (λ count. unless_null (part_at values 2) (λ part. d.dated OutOfRange (parts_after part count day))))
    (λ day. in-any (int_at values 1) (λ count. unless_null (part_at values 2) (λ part. d.dated OutOfRange (parts_after part count day)))
    (λ count. no-name (part_at values 2) (λ part. d.dated OutOfRange (parts_after part count day)) is))))

pub sub-nameless : (values : List Value) → is_some (part_at values 2) ≡ false → Ok Null ≡ answered (d.date_sub values)
sub-nameless values is =
    ap answered (sym (in-any (date_at values 0) (λ day. unless_null (int_at values 1) (λ count. unless_null (part_at values 2) (λ part. d.dated OutOfRange (parts_after part (neg_ℤ count) day))))
    (λ day. in-any (int_at values 1) (λ count. unless_null (part_at values 2) (λ part. d.dated OutOfRange (parts_after part (neg_ℤ count) day)))
    (λ count. no-name (part_at values 2) (λ part. d.dated OutOfRange (parts_after part (neg_ℤ count) day)) is))))

pub diff-nameless : (values : List Value) → is_some (part_at values 2) ≡ false → Ok Null ≡ answered (d.date_diff values)
diff-nameless values is =
    ap answered (sym (in-any (date_at values 0) (λ day. unless_null (date_at values 1) (λ from. unless_null (part_at values 2) (λ part. Ok (Int (part_index part day -ℤ part_index part from)))))
    (λ day. in-any (date_at values 1) (λ from. unless_null (part_at values 2) (λ part. Ok (Int (part_index part day -ℤ part_index part from))))
    (λ from. no-name (part_at values 2) (λ part. Ok (Int (part_index part day -ℤ part_index part from))) is))))

pub trunc-nameless : (values : List Value) → is_some (part_at values 1) ≡ false → Ok Null ≡ answered (d.date_trunc values)
trunc-nameless values is =
    ap answered (sym (in-any (date_at values 0) (λ day. unless_null (part_at values 1) (λ part. d.dated OutOfRange (part_start part day)))
    (λ day. no-name (part_at values 1) (λ part. d.dated OutOfRange (part_start part day)) is)))

pub extract-nameless : (values : List Value) → is_some (field_at values 0) ≡ false → Ok Null ≡ answered (d.extract values)
extract-nameless values is =
    ap answered (sym (no-name (field_at values 0) (λ field. unless_null (date_at values 1) (λ day. Ok (Int (field_of field day)))) is))
