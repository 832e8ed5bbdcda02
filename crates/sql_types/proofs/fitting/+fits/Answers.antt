-- A value of each kind fits by the case of its type.
use Rattle.std.proofs.Common.{◌≡◌, List, [], ◌∷◌, length, drop, nat_lt, refl, ap, sym, ◌∙◌, arith}
use Rattle.std.specs.Bool.{◌==◌}
use Rattle.std.proofs.lemmas.Bool.Decides.{nat_tests}
use Rattle.std.proofs.lemmas.List.{drop_all}
use Rattle.std.specs.List.{list_all}
use Rattle.sql_types.specs.declared.sql_type.Named.{Named}
use Rattle.sql_types.specs.declared.sql_type.SqlType.{SqlType, out-SqlType}
use Rattle.sql_types.specs.declared.sql_type.SqlType.TheVariants as ty
use Rattle.sql_types.specs.declared.sql_type.SqlType.TheOpen as form
use Rattle.sql_types.specs.declared.value.Value.{out-Value}
use Rattle.sql_types.specs.declared.value.Value.TheVariants as value
use Rattle.sql_types.specs.declared.value.Value.TheOpen as part
use Rattle.sql_types.specs.Fits.{fits, fits_row}
use Rattle.sql_types.proofs.ValueOpens.{fits_by}
use Rattle.sql_types.proofs.fitting.+fits.Goals as goal

pub fits-returns-in-Int32 : goal.fits-returns-in-Int32
fits-returns-in-Int32 t c =
    c.in_int32.ensures ∙ sym (fits_by _ _ form.Int32 (part.Int c.in-Int.number) (ap out-SqlType c.in-Int32.is ∙ ty.outs-Int32) (ap out-Value c.in-Int.is ∙ value.outs-Int c.in-Int.number))

pub fits-returns-in-Int64 : goal.fits-returns-in-Int64
fits-returns-in-Int64 t c =
    c.in_int64.ensures ∙ sym (fits_by _ _ form.Int64 (part.Int c.in-Int.number) (ap out-SqlType c.in-Int64.is ∙ ty.outs-Int64) (ap out-Value c.in-Int.is ∙ value.outs-Int c.in-Int.number))

pub fits-returns-in-Uint32 : goal.fits-returns-in-Uint32
fits-returns-in-Uint32 t c =
    sym (fits_by _ _ form.Uint32 (part.Uint c.in-Uint.number) (ap out-SqlType c.in-Uint32.is ∙ ty.outs-Uint32) (ap out-Value c.in-Uint.is ∙ value.outs-Uint c.in-Uint.number))

pub fits-returns-in-Uint64 : goal.fits-returns-in-Uint64
fits-returns-in-Uint64 t c =
    c.in_uint64.ensures ∙ sym (fits_by _ _ form.Uint64 (part.Uint c.in-Uint.number) (ap out-SqlType c.in-Uint64.is ∙ ty.outs-Uint64) (ap out-Value c.in-Uint.is ∙ value.outs-Uint c.in-Uint.number))

pub fits-returns-in-Text-ty : goal.fits-returns-in-Text-ty
fits-returns-in-Text-ty t c =
    c.is_text.ensures ∙ sym (fits_by _ _ form.Text (part.Text c.in-Text.text) (ap out-SqlType c.in-Text-ty.is ∙ ty.outs-Text) (ap out-Value c.in-Text.is ∙ value.outs-Text c.in-Text.text))

pub fits-returns-in-Date-ty : goal.fits-returns-in-Date-ty
fits-returns-in-Date-ty t c =
    c.is_day.ensures ∙ sym (fits_by _ _ form.Date (part.Date c.in-Date.day) (ap out-SqlType c.in-Date-ty.is ∙ ty.outs-Date) (ap out-Value c.in-Date.is ∙ value.outs-Date c.in-Date.day))

pub fits-returns-in-Array-ty : goal.fits-returns-in-Array-ty
fits-returns-in-Array-ty t c =
    c.all_fit.ensures
    ∙ ap (λ z. list_all (fits z) c.in-Array.elements) c.get.ensures
    ∙ sym (fits_by _ _ (form.Array c.in-Array-ty.element) (part.Array c.in-Array.elements) (ap out-SqlType c.in-Array-ty.is ∙ ty.outs-Array c.in-Array-ty.element) (ap out-Value c.in-Array.is ∙ value.outs-Array c.in-Array.elements))

pub fits-returns-in-Struct-ty : goal.fits-returns-in-Struct-ty
fits-returns-in-Struct-ty t c =
    c.row_fits.ensures
    ∙ sym (fits_by _ _ (form.Struct c.in-Struct-ty.fields) (part.Struct c.in-Struct.values) (ap out-SqlType c.in-Struct-ty.is ∙ ty.outs-Struct c.in-Struct-ty.fields) (ap out-Value c.in-Struct.is ∙ value.outs-Struct c.in-Struct.values))

pub fits-returns-in-Bytes-ty : goal.fits-returns-in-Bytes-ty
fits-returns-in-Bytes-ty t c =
    c.are_bytes.ensures
    ∙ ap (list_all (λ b. nat_lt b 256)) c.as_slice.ensures
    ∙ sym (fits_by _ _ form.Bytes (part.Bytes c.in-Bytes.bytes) (ap out-SqlType c.in-Bytes-ty.is ∙ ty.outs-Bytes) (ap out-Value c.in-Bytes.is ∙ value.outs-Bytes c.in-Bytes.bytes))

none_left : (rest : List (Named SqlType)) → (length rest == 0) ≡ fits_row rest []
none_left [] = refl
none_left (c ∷ rest) = grind (arith, nat_tests)

pub row_fits-returns : goal.row_fits-returns
row_fits-returns t c =
    c.is_empty.ensures
    ∙ none_left c.loop-value.rest.now
    ∙ ap (fits_row c.loop-value.rest.now) (sym (drop_all c.loop-value.value-index c.as_slice-value-items.result.now c.loop-value-test.false) ∙ ap (drop c.loop-value.value-index) c.as_slice-value-items.ensures)
    ∙ c.loop-value.invariant
