use Rattle.std.proofs.Common.{ℤ, w32, w64, ap, ◌∙◌, sym, rules, arith}
use Rattle.std.proofs.lemmas.Int.{to_z-of_z}
use mir.Val.{SFits}
use Rattle.sql_types.specs.declared.value.Value.{out-Value}
use Rattle.sql_types.specs.declared.value.Value.TheOpen as v
use Rattle.sql_types.specs.Same.{both_true, equal_layer}
use Rattle.sql_types.specs.declared.value.Value.TheViews.{outs-Null, outs-Bool, outs-Int, outs-Uint, outs-Text, outs-Bytes, outs-Date, outs-Array, outs-Struct}
use Rattle.small_run.proofs.Values.{equal_out, one_more, others_end, fields_end}
use Rattle.small_run.proofs.equality.+equality.Goals as goal

pub equal-returns-in-Null : goal.equal-returns-in-Null
equal-returns-in-Null t c = sym (equal_out c.args.left.now c.args.right.now _ (ap out-Value c.in-Null.is ∙ outs-Null))

pub equal-returns-in-Bool : goal.equal-returns-in-Bool
equal-returns-in-Bool t c = c.equal_truth.ensures ∙ sym (equal_out c.args.left.now c.args.right.now _ (ap out-Value c.in-Bool.is ∙ outs-Bool c.in-Bool.truth))

pub equal-returns-in-Int : goal.equal-returns-in-Int
equal-returns-in-Int t c =
    let fit : SFits w64 c.in-Int.number = search rules in
    c.equal_int.ensures
    ∙ ap (λ (n : ℤ). equal_layer (v.Int n) (out-Value c.args.right.now)) (to_z-of_z w64 c.in-Int.number fit)
    ∙ sym (equal_out c.args.left.now c.args.right.now _ (ap out-Value c.in-Int.is ∙ outs-Int c.in-Int.number))

pub equal-returns-in-Uint : goal.equal-returns-in-Uint
equal-returns-in-Uint t c = c.equal_uint.ensures ∙ sym (equal_out c.args.left.now c.args.right.now _ (ap out-Value c.in-Uint.is ∙ outs-Uint c.in-Uint.number))

pub equal-returns-in-Text : goal.equal-returns-in-Text
equal-returns-in-Text t c = c.equal_text.ensures ∙ sym (equal_out c.args.left.now c.args.right.now _ (ap out-Value c.in-Text.is ∙ outs-Text c.in-Text.text))

pub equal-returns-in-Bytes : goal.equal-returns-in-Bytes
equal-returns-in-Bytes t c = c.equal_bytes.ensures ∙ sym (equal_out c.args.left.now c.args.right.now _ (ap out-Value c.in-Bytes.is ∙ outs-Bytes c.in-Bytes.bytes))

pub equal-returns-in-Date : goal.equal-returns-in-Date
equal-returns-in-Date t c =
    let fit : SFits w32 c.in-Date.day = search rules in
    c.equal_date.ensures
    ∙ ap (λ (n : ℤ). equal_layer (v.Date n) (out-Value c.args.right.now)) (to_z-of_z w32 c.in-Date.day fit)
    ∙ sym (equal_out c.args.left.now c.args.right.now _ (ap out-Value c.in-Date.is ∙ outs-Date c.in-Date.day))

pub equal-returns-in-Array : goal.equal-returns-in-Array
equal-returns-in-Array t c = sym (equal_out c.args.left.now c.args.right.now _ (ap out-Value c.in-Array.is ∙ outs-Array _))

pub equal-returns-in-Struct : goal.equal-returns-in-Struct
equal-returns-in-Struct t c = c.equal_struct.ensures ∙ sym (equal_out c.args.left.now c.args.right.now _ (ap out-Value c.in-Struct.is ∙ outs-Struct c.in-Struct.fields))

pub equal_fields-returns-then-index-right : goal.equal_fields-returns-then-index-right
equal_fields-returns-then-index-right t c =
    c.both_true.ensures ∙ sym (others_end c.args.left.now c.args.right.now c.loop-index.index c.loop-index.truth c.loop-index-test.true c.if-index-right.true c.loop-index.invariant)

pub equal_fields-returns-then-left-right : goal.equal_fields-returns-then-left-right
equal_fields-returns-then-left-right t c =
    c.both_true-then-left-right.ensures ∙ sym (fields_end c.args.left.now c.args.right.now c.loop-index.index c.loop-index.truth (omega arith) (omega arith) c.loop-index.invariant)

pub equal_fields-loop-index-preserved : goal.equal_fields-loop-index-preserved
equal_fields-loop-index-preserved t c =
    one_more c.args.left.now c.args.right.now c.loop-index.index c.index-left-index.result c.index-right-index.result c.loop-index.truth c.both_true-truth.result
    c.loop-index-test.true c.if-index-right.false c.index-left-index.is c.index-right-index.is
    (c.both_true-truth.ensures ∙ ap (both_true c.loop-index.truth) c.equal.ensures) c.loop-index.invariant
