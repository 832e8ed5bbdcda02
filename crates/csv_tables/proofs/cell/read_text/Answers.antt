use Rattle.std.proofs.Common.{◌∙◌, ap, sym, Some}
use Rattle.csv_tables.proofs.Texts.{text_of-text, text_of-none}
use Rattle.csv_tables.proofs.cell.read_text.Goals as goal

pub returns-in_ok-copy_of-in-Ok : goal.returns-in_ok-copy_of-in-Ok
returns-in_ok-copy_of-in-Ok c =
    let read = c.in-Ok.ensures.cases in
    text_of-text c.args.cell.now c.text_bytes.result.now c.text_bytes.ensures read.1 ∙ ap Some (sym (c.in_ok-copy_of-in-Ok.ensures ∙ read.0))

pub returns-in-Err : goal.returns-in-Err
returns-in-Err c = text_of-none c.args.cell.now c.text_bytes.result.now c.text_bytes.ensures c.in-Err.ensures.cases.0
