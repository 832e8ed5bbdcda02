use Rattle.std.proofs.Common.{◌≡◌, ◌∙◌, sym, length, Some, None, arith}
use Rattle.csv.specs.Records.{fields_of, field_at}
use Rattle.csv_tables.proofs.RowLaws.{place_value, row-go, row-stop, row-extra, row-end}
use Rattle.csv_tables.proofs.row.read_row.Goals as goal

pub returns-in-Err-NoValue : goal.returns-in-Err-NoValue
returns-in-Err-NoValue c =
    let none : place_value c.index-columns-place.result (field_at (fields_of c.args.cells.now) c.loop-place.place) ≡ None =
    rw (← c.get.ensures.value) (rw c.in-Err-NoValue.field-0-is at c.in-Err-NoValue.ensures) in
    sym c.loop-place.invariant
    ∙ row-stop c.args.columns.now (fields_of c.args.cells.now) c.loop-place.place c.index-columns-place.result c.loop-place.values c.loop-place-test.true c.index-columns-place.is none

pub loop-place-preserved : goal.loop-place-preserved
loop-place-preserved c =
    let some : place_value c.index-columns-place.result (field_at (fields_of c.args.cells.now) c.loop-place.place) ≡ Some c.in-Ok.value =
    rw (← c.get.ensures.value) c.in-Ok.ensures in
    rw c.in_ok-push-in-Ok.ensures.ok (
    sym (row-go c.args.columns.now (fields_of c.args.cells.now) c.loop-place.place c.index-columns-place.result c.loop-place.values c.in-Ok.value c.loop-place-test.true c.index-columns-place.is some)
    ∙ c.loop-place.invariant)

pub returns-in-Some : goal.returns-in-Some
returns-in-Some c =
    let at_end : c.loop-place.place ≡ length c.args.columns.now = omega arith in
    sym c.loop-place.invariant
    ∙ row-extra c.args.columns.now (fields_of c.args.cells.now) c.loop-place.place c.loop-place.values c.in-Some.field at_end (sym c.extra_field.ensures ∙ c.in-Some.is)

pub returns-in-None : goal.returns-in-None
returns-in-None c =
    let at_end : c.loop-place.place ≡ length c.args.columns.now = omega arith in
    sym c.loop-place.invariant
    ∙ row-end c.args.columns.now (fields_of c.args.cells.now) c.loop-place.place c.loop-place.values at_end (sym c.extra_field.ensures ∙ c.in-None.is)
