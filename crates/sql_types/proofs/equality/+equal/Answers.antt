-- Values of one kind are equal where their parts are.
use Rattle.std.proofs.Common.{◌≡◌, Bool, true, false, Some, refl, ap, sym, ◌∙◌}
use Rattle.std.specs.Bool.{beq}
use Rattle.std.specs.Str.{bytes_eq}
use Rattle.sql_types.specs.declared.value.Value.{out-Value}
use Rattle.sql_types.specs.declared.value.Value.TheVariants as value
use Rattle.sql_types.specs.declared.value.Value.TheOpen as part
use Rattle.sql_types.proofs.ValueOpens.{equal_by, equal_at}
use Rattle.sql_types.proofs.equality.+equal.Goals as goal

truths : (a b : Bool) → equal_at (part.Bool a) (part.Bool b) ≡ Some (beq a b)
truths true true = refl
truths true false = refl
truths false true = refl
truths false false = refl

pub equal-returns-in-Bool-right : goal.equal-returns-in-Bool-right
equal-returns-in-Bool-right t c =
    equal_by _ _ (part.Bool c.in-Bool.truth) (part.Bool c.in-Bool-right.other)
    (ap out-Value c.in-Bool.is ∙ value.outs-Bool c.in-Bool.truth) (ap out-Value c.in-Bool-right.is ∙ value.outs-Bool c.in-Bool-right.other)
    ∙ truths c.in-Bool.truth c.in-Bool-right.other ∙ sym c.equal_truths.ensures

pub equal-returns-in-Int-right : goal.equal-returns-in-Int-right
equal-returns-in-Int-right t c =
    equal_by _ _ (part.Int c.in-Int.number) (part.Int c.in-Int-right.other)
    (ap out-Value c.in-Int.is ∙ value.outs-Int c.in-Int.number) (ap out-Value c.in-Int-right.is ∙ value.outs-Int c.in-Int-right.other)
    ∙ sym c.equal_numbers.ensures

pub equal-returns-in-Uint-right : goal.equal-returns-in-Uint-right
equal-returns-in-Uint-right t c =
    equal_by _ _ (part.Uint c.in-Uint.number) (part.Uint c.in-Uint-right.other)
    (ap out-Value c.in-Uint.is ∙ value.outs-Uint c.in-Uint.number) (ap out-Value c.in-Uint-right.is ∙ value.outs-Uint c.in-Uint-right.other)

pub equal-returns-in-Text-right : goal.equal-returns-in-Text-right
equal-returns-in-Text-right t c =
    equal_by _ _ (part.Text c.in-Text.text) (part.Text c.in-Text-right.other)
    (ap out-Value c.in-Text.is ∙ value.outs-Text c.in-Text.text) (ap out-Value c.in-Text-right.is ∙ value.outs-Text c.in-Text-right.other)
    ∙ sym (c.equal_bytes.ensures
    ∙ ap (λ z. Some (bytes_eq z c.as_bytes-in-Text-right.result.now)) c.as_bytes.ensures.bytes
    ∙ ap (λ z. Some (bytes_eq c.in-Text.text z)) c.as_bytes-in-Text-right.ensures.bytes)

pub equal-returns-in-Bytes-right : goal.equal-returns-in-Bytes-right
equal-returns-in-Bytes-right t c =
    equal_by _ _ (part.Bytes c.in-Bytes.bytes) (part.Bytes c.in-Bytes-right.other)
    (ap out-Value c.in-Bytes.is ∙ value.outs-Bytes c.in-Bytes.bytes) (ap out-Value c.in-Bytes-right.is ∙ value.outs-Bytes c.in-Bytes-right.other)
    ∙ sym (c.equal_bytes-in-Bytes-right.ensures
    ∙ ap (λ z. Some (bytes_eq z c.as_slice-in-Bytes-right.result.now)) c.as_slice.ensures
    ∙ ap (λ z. Some (bytes_eq c.in-Bytes.bytes z)) c.as_slice-in-Bytes-right.ensures)

pub equal-returns-in-Date-right : goal.equal-returns-in-Date-right
equal-returns-in-Date-right t c =
    equal_by _ _ (part.Date c.in-Date.day) (part.Date c.in-Date-right.other)
    (ap out-Value c.in-Date.is ∙ value.outs-Date c.in-Date.day) (ap out-Value c.in-Date-right.is ∙ value.outs-Date c.in-Date-right.other)
    ∙ sym c.equal_days.ensures

pub equal-returns-in-Struct-right : goal.equal-returns-in-Struct-right
equal-returns-in-Struct-right t c =
    equal_by _ _ (part.Struct c.in-Struct.values) (part.Struct c.in-Struct-right.others)
    (ap out-Value c.in-Struct.is ∙ value.outs-Struct c.in-Struct.values) (ap out-Value c.in-Struct-right.is ∙ value.outs-Struct c.in-Struct-right.others)
    ∙ c.equal_values.ensures
