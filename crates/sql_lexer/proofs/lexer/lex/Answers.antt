use Rattle.std.proofs.Common.{◌∙◌, sym, ap, subst, false, Some}
use Rattle.sql_ast.specs.Tokens.{Lexes}
use Rattle.sql_lexer.specs.Lexed.{Stood}
use Rattle.sql_lexer.proofs.Pieces.{shaped, gap, token, no_value, no_shape, all_read}
use Rattle.sql_lexer.proofs.lexer.lex.Goals as goal

pub read-requires : goal.read-requires
read-requires c =
    let h : Stood c.args.text.now c.pieces.at c.piece-end.result.0 (Some c.in-Some.shape) = subst (Stood c.args.text.now c.pieces.at c.piece-end.result.0) c.in-Some.is c.piece-end.ensures.front in
    shaped c.args.text.now c.pieces.at c.piece-end.result.0 c.in-Some.shape h

pub returns-in-None-2 : goal.returns-in-None-2
returns-in-None-2 c =
    let h : Stood c.args.text.now c.pieces.at c.piece-end.result.0 (Some c.in-Some.shape) = subst (Stood c.args.text.now c.pieces.at c.piece-end.result.0) c.in-Some.is c.piece-end.ensures.front in
    no_value c.args.text.now c.pieces.at c.piece-end.result.0 c.pieces.dot c.pieces.list c.in-Some.shape c.pieces.invariant h (sym (c.in_ok-read-in-Some.ensures) ∙ c.in-None-2.is)

pub returns-in-None : goal.returns-in-None
returns-in-None c = no_shape c.args.text.now c.pieces.at c.piece-end.result.0 c.pieces.dot c.pieces.list c.pieces.invariant (subst (Stood c.args.text.now c.pieces.at c.piece-end.result.0) c.in-None.is c.piece-end.ensures.front) c.pieces-test.true

pub pieces-preserved-in-Some-Gap : goal.pieces-preserved-in-Some-Gap
pieces-preserved-in-Some-Gap c =
    let h : Stood c.args.text.now c.pieces.at c.piece-end.result.0 (Some c.in-Some.shape) = subst (Stood c.args.text.now c.pieces.at c.piece-end.result.0) c.in-Some.is c.piece-end.ensures.front in
    gap c.args.text.now c.pieces.at c.piece-end.result.0 c.pieces.dot c.pieces.list c.in-Some.shape c.pieces.invariant h (sym (c.in_ok-read-in-Some.ensures) ∙ c.in-Some-Gap.is ∙ ap Some c.in-Some-Gap.field-0-is)

pub pieces-preserved : goal.pieces-preserved
pieces-preserved c =
    let h : Stood c.args.text.now c.pieces.at c.piece-end.result.0 (Some c.in-Some.shape) = subst (Stood c.args.text.now c.pieces.at c.piece-end.result.0) c.in-Some.is c.piece-end.ensures.front in
    token c.args.text.now c.pieces.at c.piece-end.result.0 c.pieces.dot c.pieces.list c.in-Some.shape c.pieces.invariant h c.in-Some-Token.lexeme c.is_dot-dot.result c.push.new.self
    (sym (c.in_ok-read-in-Some.ensures) ∙ c.in-Some-Token.is ∙ ap Some c.in-Some-Token.field-0-is) c.is_dot-dot.ensures c.in_ok-push-in-Some-Token.ensures.ok

pub returns : goal.returns
returns c = (subst (Lexes 0 false c.args.text.now) (sym (c.with_end.ensures.list)) (all_read c.args.text.now c.pieces.at c.pieces.dot c.pieces.list c.pieces.invariant c.pieces-test.false), c.with_end.ensures.end)
