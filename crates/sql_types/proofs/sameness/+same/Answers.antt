-- Values of one kind are the same where their parts are.
use Rattle.std.proofs.Common.{◌≡◌, ◌≢◌, Bool, true, false, ◌&&◌, List, [], ◌∷◌, length, refl, ap, sym, ◌∙◌, arith}
use Rattle.std.specs.Str.{bytes_eq}
use Rattle.sql_types.specs.declared.value.Value.{Value, out-Value}
use Rattle.sql_types.specs.declared.value.Value.TheVariants as value
use Rattle.sql_types.specs.declared.value.Value.TheOpen as part
use Rattle.sql_types.specs.SameValue.{same_value, same_values}
use Rattle.sql_types.proofs.ValueOpens.{same_by}
use Rattle.sql_types.proofs.sameness.+same.Goals as goal

pub same_value-returns-in-Bool-right : goal.same_value-returns-in-Bool-right
same_value-returns-in-Bool-right t c =
    sym (same_by _ _ (part.Bool c.in-Bool.truth) (part.Bool c.in-Bool-right.other)
    (ap out-Value c.in-Bool.is ∙ value.outs-Bool c.in-Bool.truth) (ap out-Value c.in-Bool-right.is ∙ value.outs-Bool c.in-Bool-right.other))

pub same_value-returns-in-Int-right : goal.same_value-returns-in-Int-right
same_value-returns-in-Int-right t c =
    c.same_number.ensures ∙ sym (same_by _ _ (part.Int c.in-Int.number) (part.Int c.in-Int-right.other)
    (ap out-Value c.in-Int.is ∙ value.outs-Int c.in-Int.number) (ap out-Value c.in-Int-right.is ∙ value.outs-Int c.in-Int-right.other))

pub same_value-returns-in-Uint-right : goal.same_value-returns-in-Uint-right
same_value-returns-in-Uint-right t c =
    sym (same_by _ _ (part.Uint c.in-Uint.number) (part.Uint c.in-Uint-right.other)
    (ap out-Value c.in-Uint.is ∙ value.outs-Uint c.in-Uint.number) (ap out-Value c.in-Uint-right.is ∙ value.outs-Uint c.in-Uint-right.other))

pub same_value-returns-in-Text-right : goal.same_value-returns-in-Text-right
same_value-returns-in-Text-right t c =
    c.same_bytes.ensures
    ∙ ap (λ z. bytes_eq z c.as_bytes-in-Text-right.result.now) c.as_bytes.ensures.bytes
    ∙ ap (bytes_eq c.in-Text.text) c.as_bytes-in-Text-right.ensures.bytes
    ∙ sym (same_by _ _ (part.Text c.in-Text.text) (part.Text c.in-Text-right.other)
    (ap out-Value c.in-Text.is ∙ value.outs-Text c.in-Text.text) (ap out-Value c.in-Text-right.is ∙ value.outs-Text c.in-Text-right.other))

pub same_value-returns-in-Bytes-right : goal.same_value-returns-in-Bytes-right
same_value-returns-in-Bytes-right t c =
    c.same_bytes-in-Bytes-right.ensures
    ∙ ap (λ z. bytes_eq z c.as_slice-in-Bytes-right.result.now) c.as_slice.ensures
    ∙ ap (bytes_eq c.in-Bytes.bytes) c.as_slice-in-Bytes-right.ensures
    ∙ sym (same_by _ _ (part.Bytes c.in-Bytes.bytes) (part.Bytes c.in-Bytes-right.other)
    (ap out-Value c.in-Bytes.is ∙ value.outs-Bytes c.in-Bytes.bytes) (ap out-Value c.in-Bytes-right.is ∙ value.outs-Bytes c.in-Bytes-right.other))

pub same_value-returns-in-Date-right : goal.same_value-returns-in-Date-right
same_value-returns-in-Date-right t c =
    c.same_day.ensures ∙ sym (same_by _ _ (part.Date c.in-Date.day) (part.Date c.in-Date-right.other)
    (ap out-Value c.in-Date.is ∙ value.outs-Date c.in-Date.day) (ap out-Value c.in-Date-right.is ∙ value.outs-Date c.in-Date-right.other))

pub same_value-returns-in-Array-right : goal.same_value-returns-in-Array-right
same_value-returns-in-Array-right t c =
    c.same_values.ensures ∙ sym (same_by _ _ (part.Array c.in-Array.elements) (part.Array c.in-Array-right.others)
    (ap out-Value c.in-Array.is ∙ value.outs-Array c.in-Array.elements) (ap out-Value c.in-Array-right.is ∙ value.outs-Array c.in-Array-right.others))

pub same_value-returns-in-Struct-right : goal.same_value-returns-in-Struct-right
same_value-returns-in-Struct-right t c =
    c.same_values-in-Struct-right.ensures ∙ sym (same_by _ _ (part.Struct c.in-Struct.values) (part.Struct c.in-Struct-right.others)
    (ap out-Value c.in-Struct.is ∙ value.outs-Struct c.in-Struct.values) (ap out-Value c.in-Struct-right.is ∙ value.outs-Struct c.in-Struct-right.others))

-- lists of different lengths differ
and_false : (b c : Bool) → c ≡ false → false ≡ (b && c)
and_false true c is = sym is
and_false false c is = refl

differ : (xs ys : List Value) → length xs ≢ length ys → false ≡ same_values xs ys
differ [] [] unlike = absurd (unlike refl)
differ [] (y ∷ ys) unlike = refl
differ (x ∷ xs) [] unlike = refl
differ (x ∷ xs) (y ∷ ys) unlike = and_false (same_value x y) (same_values xs ys) (sym (differ xs ys (λ e. unlike (omega (arith, e)))))

pub same_values-returns-then-len : goal.same_values-returns-then-len
same_values-returns-then-len t c = differ c.args.left.now c.args.right.now (λ e. c.if-len.true (c.len.ensures ∙ e ∙ sym c.len-2.ensures))
