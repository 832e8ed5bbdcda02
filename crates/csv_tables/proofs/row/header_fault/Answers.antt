use Rattle.std.proofs.Common.{◌≡◌, ◌∙◌, sym, true, false, length, arith}
use Rattle.csv.specs.Records.{fields_of, field_at}
use Rattle.csv_tables.proofs.RowLaws.{is_named, header-go, header-stop, header-end}
use Rattle.csv_tables.proofs.row.header_fault.Goals as goal

pub returns-then-not-is_name : goal.returns-then-not-is_name
returns-then-not-is_name c =
    let named : is_named c.index-columns-place.result (field_at (fields_of c.args.cells.now) c.loop-place.place) ≡ false =
    rw (← c.get.ensures.value) (sym c.is_name.ensures ∙ c.if-not-is_name.true) in
    sym (header-stop c.args.columns.now (fields_of c.args.cells.now) c.loop-place.place c.index-columns-place.result c.loop-place-test.true c.index-columns-place.is named)
    ∙ c.loop-place.invariant

pub loop-place-preserved : goal.loop-place-preserved
loop-place-preserved c =
    let named : is_named c.index-columns-place.result (field_at (fields_of c.args.cells.now) c.loop-place.place) ≡ true =
    rw (← c.get.ensures.value) (sym c.is_name.ensures ∙ c.if-not-is_name.false) in
    sym (header-go c.args.columns.now (fields_of c.args.cells.now) c.loop-place.place c.index-columns-place.result c.loop-place-test.true c.index-columns-place.is named)
    ∙ c.loop-place.invariant

pub returns : goal.returns
returns c =
    let at_end : c.loop-place.place ≡ length c.args.columns.now = omega arith in
    c.extra_field.ensures
    ∙ sym (header-end c.args.columns.now (fields_of c.args.cells.now) c.loop-place.place at_end)
    ∙ c.loop-place.invariant
