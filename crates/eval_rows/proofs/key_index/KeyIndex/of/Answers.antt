use Rattle.std.proofs.Common.{[], ◌∷◌, ◌++◌, ◌∙◌, length, ap, sym}
use Rattle.sql_types.specs.Joined.{Row}
use Rattle.sql_types.specs.Same.{equal}
use Rattle.key_classes.specs.Classes.{key_of, with_key, number_of}
use Rattle.eval_rows.specs.ByClass.{by_class}
use Rattle.eval_rows.specs.EqualKeys.{key_at, holds}
use Rattle.eval_rows.proofs.ByClassLaws.{one_more}
use Rattle.eval_rows.proofs.KeyLaws.{index_more, index_same, index_none, index_all}
use Rattle.eval_rows.proofs.key_index.KeyIndex.of.Goals as goal
use Rattle.eval_rows.proofs.key_index.KeyIndex.of.Goals.{then-equals_itself+in_ok-class+in_ok-put_in, else-equals_itself}

pub loop-number-init : goal.loop-number-init
loop-number-init c = record {
  as_many = ap length c.new-numbers.ensures.items ∙ sym (ap length c.start-values.ensures);
  indexed = index_none c.args.column.now c.args.rows.now c.start-values.result c.new-numbers.result.items c.start-values.ensures;
}

pub loop-number-preserved : goal.loop-number-preserved
loop-number-preserved c =
    let column = c.args.column.now in
    let rows = c.args.rows.now in
    let i = c.loop-number.number in
    let row = c.index-rows-number.result in
    let values = c.loop-number.values in
    let numbers = c.loop-number.numbers.items in
    let truth = sym (c.equals_itself.ensures ∙ ap (λ (z : Row). holds (equal (key_at column z) (key_at column z))) c.as_slice.ensures) in
    elim c.if-equals_itself.branch [
      | then-equals_itself+in_ok-class+in_ok-put_in w ↦
          let after = w.add.new.self in
          let put = w.put_in.new.numbers.items in
          let whole = ap (λ columns. key_of columns w.as_slice-then-equals_itself.result.now) w.from_ref.ensures.value ∙ ap (key_of (column ∷ [])) w.as_slice-then-equals_itself.ensures in
          let step = one_more [] (λ own. own ++ i ∷ []) values after numbers put (key_at column row ∷ []) w.in_ok-class.class c.loop-number.invariant.as_many
          (w.in_ok-class.ensures.added ∙ ap (with_key values) whole) (sym (ap (number_of after) whole) ∙ w.in_ok-class.ensures.number) w.in_ok-put_in.ensures.again w.in_ok-put_in.ensures.first in
          record {
            as_many = ap (λ z. length z.items) w.numbers-is ∙ step.as_many ∙ sym (ap length w.values-is);
            indexed = λ key.
                ap (λ z. by_class [] z c.if-equals_itself.numbers.items (key ∷ [])) w.values-is ∙ ap (λ z. by_class [] after z.items (key ∷ [])) w.numbers-is
                ∙ index_more column rows i row values after numbers put c.loop-number-test.true c.index-rows-number.is (truth ∙ w.if-equals_itself.true) c.loop-number.invariant.indexed step key;
          }
      | else-equals_itself w ↦ record {
        as_many = ap (λ z. length z.items) w.numbers-is ∙ c.loop-number.invariant.as_many ∙ sym (ap length w.values-is);
        indexed = λ key.
            ap (λ z. by_class [] z c.if-equals_itself.numbers.items (key ∷ [])) w.values-is ∙ ap (λ z. by_class [] values z.items (key ∷ [])) w.numbers-is
            ∙ index_same column rows i row values numbers c.loop-number-test.true c.index-rows-number.is (truth ∙ w.if-equals_itself.false) c.loop-number.invariant.indexed key;
      }
    ]

pub returns : goal.returns
returns c = index_all c.args.column.now c.args.rows.now c.loop-number.number c.loop-number.values c.loop-number.numbers.items c.loop-number-test.false c.loop-number.invariant.indexed
