use Rattle.std.proofs.Common.{sym, subst, Option}
use Rattle.sql_ast.specs.declared.pieces.Shape.{Shape}
use Rattle.sql_lexer.specs.Lexed.{Stood}
use Rattle.sql_lexer.proofs.Pieces.{stood, within, moved}
use Rattle.sql_lexer.proofs.lexer.piece.Goals as goal

pub returns : goal.returns
returns c =
    let h : Stood c.args.text.now c.args.at c.scan-end.result.0 c.whole.result = subst (λ (o : Option Shape). Stood c.args.text.now c.args.at c.scan-end.result.0 o) (sym c.whole.ensures) (stood c.args.text.now c.args.at c.scan-end.result c.scan-end.ensures) in
    record { front = h; within = within c.args.text.now c.args.at c.scan-end.result.0 c.whole.result c.requires h; moved = moved c.args.text.now c.args.at c.scan-end.result.0 c.whole.result h }
