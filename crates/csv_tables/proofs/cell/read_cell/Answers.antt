use Rattle.std.proofs.Common.{◌∙◌, sym, subst, Option}
use Rattle.sql_types.specs.declared.value.Value.{Value}
use Rattle.csv_tables.specs.Reads.{Reads}
use Rattle.csv_tables.proofs.CellLaws.{bool_cell, day_cell, array_cell, struct_cell, number_cell}
use Rattle.csv_tables.proofs.cell.read_cell.Goals as goal

pub returns-in-Bool : goal.returns-in-Bool
returns-in-Bool c =
    subst (λ (o : Option Value). Reads o c.read_truth.result) (sym (bool_cell c.args.ty.now c.args.cell.now (sym c.is_null_mark.ensures ∙ c.if-is_null_mark.false) c.in-Bool.is)) c.read_truth.ensures

pub returns-in-Date : goal.returns-in-Date
returns-in-Date c =
    subst (λ (o : Option Value). Reads o c.read_day.result) (sym (day_cell c.args.ty.now c.args.cell.now (sym c.is_null_mark.ensures ∙ c.if-is_null_mark.false) c.in-Date.is)) c.read_day.ensures

pub returns-in-Array : goal.returns-in-Array
returns-in-Array c =
    subst (λ (o : Option Value). Reads o c.read_constant.result) (sym (array_cell c.args.ty.now c.args.cell.now (sym c.is_null_mark.ensures ∙ c.if-is_null_mark.false) _ c.in-Array.is)) c.read_constant.ensures

pub returns-in-Struct : goal.returns-in-Struct
returns-in-Struct c =
    subst (λ (o : Option Value). Reads o c.read_constant-in-Struct.result) (sym (struct_cell c.args.ty.now c.args.cell.now (sym c.is_null_mark.ensures ∙ c.if-is_null_mark.false) _ c.in-Struct.is)) c.read_constant-in-Struct.ensures

pub returns-in_default : goal.returns-in_default
returns-in_default c =
    subst (λ (o : Option Value). Reads o c.read_number.result) (sym (number_cell c.args.ty.now c.args.cell.now (sym c.is_null_mark.ensures ∙ c.if-is_null_mark.false) c.in_default.not-Text c.in_default.not-Bytes c.in_default.not-Bool c.in_default.not-Date c.in_default.not-Array c.in_default.not-Struct)) c.read_number.ensures
