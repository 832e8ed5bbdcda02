use Rattle.std.proofs.Common.{subst}
use Rattle.std.specs.Prelude.{Err}
use Rattle.sql_lexer.specs.declared.tokens.LexFault.{LexFault}
use Rattle.sql_lexer.specs.Lexed.{Lexed}
use Rattle.sql_constants.proofs.Texts.{answer_constant, text_fault}
use Rattle.sql_constants.proofs.parse.parse_constant.Goals as goal

pub returns-in-Ok : goal.returns-in-Ok
returns-in-Ok c = answer_constant c.args.ty.now c.args.text.now c.in-Ok.tokens.list c.value_of.result c.in-Ok.ensures.0 c.value_of.ensures

pub returns-in-Err-At : goal.returns-in-Err-At
returns-in-Err-At c =
    let l : Lexed c.args.text.now (Err c.in-Err-At.field-0) = c.in-Err-At.ensures in
    let faulty = subst (λ (e : LexFault). Lexed c.args.text.now (Err e)) c.in-Err-At.field-0-is l in
    text_fault c.args.ty.now c.args.text.now c.in-Err-At.field-0-0 faulty
